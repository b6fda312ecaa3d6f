-- One row for each block, filled from its end, the last edge first.
use Rattle.std.proofs.Common.{◌≡◌, ◌≢◌, ℕ, zero, suc, ◌<◌, ◌≤◌, ◌+◌, ◌-◌, ◌==◌, cond, List, [], ◌∷◌, ◌++◌, length, get_or, set, take, drop, replicate, sum, refl, ap, sym, subst, arith, ◌∙◌, inl, inr, ◌⊎◌, Vec, Global}
use Rattle.std.specs.List.{flat_map, range_with_len, slice_range, All}
use Rattle.std.proofs.lemmas.List.{length-set, get_or-set_same, get_or-set_other}
use Rattle.std.proofs.lemmas.List.Sums.{sum_by-take-le, sum_by_more}
use Rattle.std.proofs.lemmas.Bool.{cases_eq, cases_order}
use Rattle.std.proofs.Math.Seq.{take-length}
use Rattle.sp_ids.specs.declared.ids.BlockId.{BlockId}
use Rattle.ir_ast.specs.Edges.{count_of}
use Rattle.ir_cfg.specs.Rows.{rows_from, AreStops}
use Rattle.ir_cfg.specs.Graphs.{Graph, block_at, succs_of, labels_of}
use Rattle.ir_cfg.specs.Turned.{LeadsInside, IsTurned}
use Rattle.ir_cfg.specs.Filled.{AreCounts, AddsUp, AreEnds, AreRows, HasRoom, Puts, Enters, IsFilledFrom, start_of, entries_of, preds_since}
use Rattle.ir_cfg.specs.declared.turned.Filling.{Filling}
use Rattle.ir_cfg.proofs.RowLemmas.{row_at, length-rows_from, stops_ordered, sums_are_stops, range_outside, range_first}
use Rattle.ir_cfg.proofs.CountLemmas.{count_here, count_there, sum_of_counts, labels_inside, labels_more}

-- what a row has after some labels lies between its start and its stop
pub record Between (old new : Filling) (block : ℕ) : Type 0 where
  pub low : start_of old block ≤ get_or new.cursors.items block 0
  pub high : get_or new.cursors.items block 0 ≤ get_or old.stops.items block 0
  pub stop : get_or old.stops.items block 0 ≤ length new.items.items
  pub column : block < length new.cursors.items

pub between : (from : BlockId) (labels : List BlockId) (place : ℕ) (old new : Filling) → AreRows old → HasRoom labels old
    → Enters from (take place labels) old new → (block : ℕ) → block < length old.stops.items → Between old new block
between from labels place old new rows room entered block below =
    let few = sum_by-take-le (λ (l : BlockId). cond (l.0 == block) 1 0) labels place in
    let asked = room.room block below in
    let moved = entered.moved block below in
    let up = rows.up block below in
    let row = row_at 0 old.stops.items old.items.items block rows.stops below in
    record {
      low = omega (arith, few, asked, moved);
      high = omega (arith, moved, up);
      stop = omega (arith, row.within, entered.size);
      column = omega (arith, entered.whole, rows.whole);
    }

-- the row of the next label has room for one entry more
pub one_is_left : (from : BlockId) (labels : List BlockId) (place : ℕ) (label : BlockId) (old new : Filling) → HasRoom labels old
    → Enters from (take place labels) old new → place < length labels → get_or labels place label ≡ label → label.0 < length old.stops.items
    → start_of old label.0 < get_or new.cursors.items label.0 0
one_is_left from labels place label old new room entered below is inside =
    let few = sum_by-take-le (λ (l : BlockId). cond (l.0 == label.0) 1 0) labels (place + 1) in
    let one = count_here labels place label.0 label below is refl in
    let asked = room.room label.0 inside in
    let moved = entered.moved label.0 inside in
    omega (arith, few, one, asked, moved)

-- the place that is written lies outside of the rows of other blocks
outside : (old : Filling) (new : Filling) (to block place : ℕ) → AreRows old → to < length old.stops.items → block < length old.stops.items
    → start_of old to ≤ place → place < get_or old.stops.items to 0 → Between old new block → (to ≡ block) ⊎ ((to < block) ⊎ (block < to)) → to ≢ block
    → (place < get_or new.cursors.items block 0) ⊎ (get_or old.stops.items block 0 ≤ place)
outside old new to block place rows in-to in-block low high other (inl same) apart = absurd (apart same)
outside old new to block place rows in-to in-block low high other (inr (inl before)) apart =
    let order = stops_ordered 0 old.stops.items (length old.items.items) to block rows.stops before in-block in
    inl (omega (arith, order, high, other.low))
outside old new to block place rows in-to in-block low high other (inr (inr after)) apart =
    let order = stops_ordered 0 old.stops.items (length old.items.items) block to rows.stops after in-to in
    inr (omega (arith, order, low))

-- the numbers and lists of one put
moved_here : (cursors : List ℕ) (to : ℕ) → to < length cursors → 0 < get_or cursors to 0
    → get_or (set cursors to (get_or cursors to 0 - 1)) to 0 + 1 ≡ get_or cursors to 0
moved_here cursors to below positive =
    let at = get_or-set_same cursors to (get_or cursors to 0 - 1) 0 below in
    omega (arith, at)

entries_here : (stops cursors : List ℕ) (items : List BlockId) (from : BlockId) (to : ℕ) → to < length cursors → 0 < get_or cursors to 0
    → get_or cursors to 0 ≤ get_or stops to 0 → get_or stops to 0 ≤ length items
    → slice_range (set items (get_or cursors to 0 - 1) from) (get_or (set cursors to (get_or cursors to 0 - 1)) to 0) (get_or stops to 0)
    ≡ from ∷ slice_range items (get_or cursors to 0) (get_or stops to 0)
entries_here stops cursors items from to below positive high within =
    let place = get_or cursors to 0 - 1 in
    let at = get_or-set_same cursors to place 0 below in
    let next : place + 1 ≡ get_or cursors to 0 = omega arith in
    ap (λ (n : ℕ). slice_range (set items place from) n (get_or stops to 0)) at
    ∙ range_first items place from (get_or stops to 0) (omega arith) (omega arith)
    ∙ ap (λ (n : ℕ). from ∷ slice_range items n (get_or stops to 0)) next

entries_there : (stops cursors : List ℕ) (items : List BlockId) (from : BlockId) (to place block : ℕ) → block ≢ to
    → get_or cursors block 0 ≤ get_or stops block 0 → (place < get_or cursors block 0) ⊎ (get_or stops block 0 ≤ place)
    → slice_range (set items place from) (get_or (set cursors to place) block 0) (get_or stops block 0)
    ≡ slice_range items (get_or cursors block 0) (get_or stops block 0)
entries_there stops cursors items from to place block apart up out =
    ap (λ (n : ℕ). slice_range (set items place from) n (get_or stops block 0)) (get_or-set_other cursors to block place 0 apart)
    ∙ range_outside items place from (get_or cursors block 0) (get_or stops block 0) up out

-- what one put does to the row of a block
pub data PutsAt (from : BlockId) (to : ℕ) (old new : Filling) (block : ℕ) : Type 0 where
  here : to ≡ block → get_or new.cursors.items block 0 + 1 ≡ get_or old.cursors.items block 0 → entries_of new block ≡ from ∷ entries_of old block
      → PutsAt from to old new block
  there : to ≢ block → get_or new.cursors.items block 0 ≡ get_or old.cursors.items block 0 → entries_of new block ≡ entries_of old block
      → PutsAt from to old new block

puts_at : (from to : BlockId) (old mid new : Filling) → AreRows old → mid.stops ≡ old.stops → Puts from to mid new → to.0 < length old.stops.items
    → start_of old to.0 < get_or mid.cursors.items to.0 0 → ((block : ℕ) → block < length old.stops.items → Between old mid block)
    → (block : ℕ) → block < length old.stops.items → (to.0 ≡ block) ⊎ (to.0 ≡ block → ⊥) → PutsAt from to.0 mid new block
puts_at from to old mid new rows stops puts inside left within block below (inl same) =
    let lies = within to.0 inside in
    let positive : 0 < get_or mid.cursors.items to.0 0 = omega (arith, left) in
    let stop = ap (λ (v : Vec ℕ Global). get_or v.items to.0 0) stops in
    let high : get_or mid.cursors.items to.0 0 ≤ get_or mid.stops.items to.0 0 = omega (arith, lies.high, stop) in
    let end : get_or mid.stops.items to.0 0 ≤ length mid.items.items = omega (arith, lies.stop, stop) in
    let moved : get_or new.cursors.items to.0 0 + 1 ≡ get_or mid.cursors.items to.0 0 = rw puts.moved (moved_here mid.cursors.items to.0 lies.column positive) in
    let entries : entries_of new to.0 ≡ from ∷ entries_of mid to.0 = rw (puts.written, puts.moved, puts.stops) (entries_here mid.stops.items mid.cursors.items mid.items.items from to.0 lies.column positive high end) in
    subst (λ (b : ℕ). PutsAt from to.0 mid new b) same (here refl moved entries)
puts_at from to old mid new rows stops puts inside left within block below (inr other) =
    let lies = within block below in
    let own = within to.0 inside in
    let place = get_or mid.cursors.items to.0 0 - 1 in
    let stop = ap (λ (v : Vec ℕ Global). get_or v.items block 0) stops in
    let up : get_or mid.cursors.items block 0 ≤ get_or mid.stops.items block 0 = omega (arith, lies.high, stop) in
    let low : start_of old to.0 ≤ place = omega (arith, left) in
    let high : place < get_or old.stops.items to.0 0 = omega (arith, left, own.high) in
    let apart : block ≢ to.0 = λ e. other (sym e) in
    let out = outside old mid to.0 block place rows inside below low high lies (cases_order to.0 block) other in
    let free : (place < get_or mid.cursors.items block 0) ⊎ (get_or mid.stops.items block 0 ≤ place) = rw stop out in
    there other
    (rw puts.moved (get_or-set_other mid.cursors.items to.0 block place 0 apart))
    (rw (puts.written, puts.moved, puts.stops) (entries_there mid.stops.items mid.cursors.items mid.items.items from to.0 place block apart up free))

moved_step : (from : BlockId) (labels : List BlockId) (place : ℕ) (label : BlockId) (old mid new : Filling) (block : ℕ)
    → Enters from (take place labels) old mid → place < length labels → get_or labels place label ≡ label → block < length old.stops.items
    → PutsAt from label.0 mid new block
    → get_or new.cursors.items block 0 + count_of block (take (place + 1) labels) ≡ get_or old.cursors.items block 0
moved_step from labels place label old mid new block entered below is within (here same moved entries) =
    let count = count_here labels place block label below is same in
    let before = entered.moved block within in
    omega (arith, count, before, moved)
moved_step from labels place label old mid new block entered below is within (there other moved entries) =
    let count = count_there labels place block label below is other in
    let before = entered.moved block within in
    omega (arith, count, before, moved)

entered_step : (from : BlockId) (labels : List BlockId) (place : ℕ) (label : BlockId) (old mid new : Filling) (block : ℕ)
    → Enters from (take place labels) old mid → place < length labels → get_or labels place label ≡ label → block < length old.stops.items
    → PutsAt from label.0 mid new block
    → entries_of new block ≡ replicate (count_of block (take (place + 1) labels)) from ++ entries_of old block
entered_step from labels place label old mid new block entered below is within (here same moved entries) =
    let count = count_here labels place block label below is same in
    let next : suc (count_of block (take place labels)) ≡ count_of block (take (place + 1) labels) = omega (arith, count) in
    entries ∙ ap (λ (xs : List BlockId). from ∷ xs) (entered.entered block within)
    ∙ ap (λ (n : ℕ). replicate n from ++ entries_of old block) next
entered_step from labels place label old mid new block entered below is within (there other moved entries) =
    let count = count_there labels place block label below is other in
    entries ∙ entered.entered block within ∙ ap (λ (n : ℕ). replicate n from ++ entries_of old block) (sym count)

pub enters_more : (from : BlockId) (labels : List BlockId) (place : ℕ) (label : BlockId) (old mid new : Filling) → AreRows old → HasRoom labels old
    → Enters from (take place labels) old mid → place < length labels → get_or labels place label ≡ label → Puts from label mid new
    → Enters from (take (place + 1) labels) old new
enters_more from labels place label old mid new rows room entered below is puts =
    let inside : label.0 < length old.stops.items = subst (λ (l : BlockId). l.0 < length old.stops.items) is (room.inside place label below) in
    let left = one_is_left from labels place label old mid room entered below is inside in
    let within = between from labels place old mid rows room entered in
    let at : (block : ℕ) → block < length old.stops.items → PutsAt from label.0 mid new block =
    λ block in'. puts_at from label old mid new rows entered.stops puts inside left within block in' (cases_eq label.0 block) in
    record {
      stops = puts.stops ∙ entered.stops;
      whole = ap length puts.moved ∙ length-set mid.cursors.items label.0 (get_or mid.cursors.items label.0 0 - 1) ∙ entered.whole;
      size = ap length puts.written ∙ length-set mid.items.items (get_or mid.cursors.items label.0 0 - 1) from ∙ entered.size;
      moved = λ block in'. moved_step from labels place label old mid new block entered below is in' (at block in');
      entered = λ block in'. entered_step from labels place label old mid new block entered below is in' (at block in');
    }

rows_after : (from : BlockId) (labels : List BlockId) (old new : Filling) → AreRows old → Enters from labels old new → AreRows new
rows_after from labels old new rows entered =
    let count = ap (λ (v : Vec ℕ Global). length v.items) entered.stops in
    record {
      whole = entered.whole ∙ rows.whole ∙ sym count;
      stops = rw (entered.stops, entered.size) rows.stops;
      up = λ block below.
          let within : block < length old.stops.items = omega (arith, below, count) in
          let stop = ap (λ (v : Vec ℕ Global). get_or v.items block 0) entered.stops in
          omega (arith, entered.moved block within, rows.up block within, stop);
    }

pub row_inside : (graph : Graph) (from : ℕ) → LeadsInside graph → from < length graph → All (λ label. label.0 < length graph) (succs_of graph from)
row_inside graph from inside below = inside from [] below

pub has_room : (graph : Graph) (from : ℕ) (filling : Filling) → LeadsInside graph → from < length graph → IsFilledFrom graph (from + 1) filling
    → HasRoom (succs_of graph from) filling
has_room graph from filling inside below filled = record {
  inside = rw filled.whole (row_inside graph from inside below);
  room = λ block within.
      let in' : block < length graph = omega (arith, within, filled.whole) in
      omega (arith, filled.left block in', labels_more graph from block below);
}

preds_more : (graph : Graph) (from block : ℕ) → from < length graph
    → preds_since graph from block ≡ replicate (count_of block (succs_of graph from)) (block_at from) ++ preds_since graph (from + 1) block
preds_more graph from block below =
    let one : length graph - from ≡ suc (length graph - (from + 1)) = omega arith in
    ap (λ (n : ℕ). flat_map (λ f. replicate (count_of block (succs_of graph f)) (block_at f)) (range_with_len from n)) one

pub filled_more : (graph : Graph) (from : ℕ) (old new : Filling) → from < length graph → IsFilledFrom graph (from + 1) old
    → Enters (block_at from) (succs_of graph from) old new → IsFilledFrom graph from new
filled_more graph from old new below filled entered =
    let count = ap (λ (v : Vec ℕ Global). length v.items) entered.stops in
    record {
      whole = count ∙ filled.whole;
      rows = rows_after (block_at from) (succs_of graph from) old new filled.rows entered;
      left = λ block in'.
          let within : block < length old.stops.items = omega (arith, in', filled.whole) in
          let start = ap (λ (v : Vec ℕ Global). get_or (0 ∷ v.items) block 0) entered.stops in
          omega (arith, entered.moved block within, filled.left block in', labels_more graph from block below, start);
      filled = λ block in'.
          let within : block < length old.stops.items = omega (arith, in', filled.whole) in
          entered.entered block within
          ∙ ap (λ (xs : List BlockId). replicate (count_of block (succs_of graph from)) (block_at from) ++ xs) (filled.filled block in')
          ∙ sym (preds_more graph from block below);
    }

-- where no edge is entered yet
sum_to : (counts ends : List ℕ) (place : ℕ) → AddsUp counts ends → place < length counts → get_or ends place 0 ≡ 0 + sum (take (suc place) counts)
sum_to counts ends place adds below =
    let next : place + 1 ≡ suc place = omega arith in
    let same = ap (λ (n : ℕ). sum (take n counts)) next in
    omega (arith, adds.each place below, same)

start_is : (counts ends : List ℕ) (block : ℕ) → AddsUp counts ends → block < length counts → get_or (0 ∷ ends) block 0 ≡ sum (take block counts)
start_is counts ends zero adds below = refl
start_is counts ends (suc block) adds below = omega (arith, sum_to counts ends block adds (omega arith))

-- the counts, added up, are the ends
pub ends_of : (graph : Graph) (counts ends : List ℕ) → LeadsInside graph → length counts ≡ length graph → AreCounts (labels_of graph) counts
    → AddsUp counts ends → AreEnds graph ends
ends_of graph counts ends inside many are adds =
    let labels = subst (λ (n : ℕ). All (λ (label : BlockId). label.0 < n) (labels_of graph)) (sym many) (labels_inside graph inside) in
    let all : 0 + sum counts ≡ length (labels_of graph) = omega (arith, sum_of_counts (labels_of graph) counts are labels) in
    record {
      whole = adds.whole ∙ many;
      stops = subst (λ (end : ℕ). AreStops 0 ends end) all
          (sums_are_stops 0 counts ends adds.whole (λ place below. sum_to counts ends place adds below));
      each = λ block below.
          let within : block < length counts = omega (arith, many) in
          let more = sum_by_more (λ (n : ℕ). n) counts block 0 within in
          let start = start_is counts ends block adds within in
          omega (arith, adds.each block within, more, start, are.each block within);
    }

filled_begin : (graph : Graph) (filling : Filling) (block : ℕ) → filling.cursors.items ≡ filling.stops.items
    → entries_of filling block ≡ preds_since graph (length graph) block
filled_begin graph filling block cursors =
    let same = ap (λ (xs : List ℕ). get_or xs block 0) cursors in
    let none : get_or filling.stops.items block 0 - get_or filling.cursors.items block 0 ≡ 0 = omega (arith, same) in
    let last : length graph - length graph ≡ 0 = omega arith in
    ap (λ (n : ℕ). take n (drop (get_or filling.cursors.items block 0) filling.items.items)) none
    ∙ sym (ap (λ (n : ℕ). flat_map (λ f. replicate (count_of block (succs_of graph f)) (block_at f)) (range_with_len (length graph) n)) last)

-- the rows at first
pub filled_none : (graph : Graph) (filling : Filling) → AreEnds graph filling.stops.items → filling.cursors.items ≡ filling.stops.items
    → length filling.items.items ≡ length (labels_of graph) → IsFilledFrom graph (length graph) filling
filled_none graph filling ends cursors room = record {
  whole = ends.whole;
  rows = record {
    whole = ap length cursors;
    stops = rw room ends.stops;
    up = λ block below. let same = ap (λ (xs : List ℕ). get_or xs block 0) cursors in omega (arith, same);
  };
  left = λ block below.
      let same = ap (λ (xs : List ℕ). get_or xs block 0) cursors in
      let all = ap (λ (rows : Graph). count_of block (labels_of rows)) (take-length graph) in
      omega (arith, same, ends.each block below, all);
  filled = λ block below. filled_begin graph filling block cursors;
}

-- where each edge is entered
pub filled_all : (graph : Graph) (filling : Filling) → IsFilledFrom graph 0 filling → IsTurned graph (rows_from 0 filling.stops.items filling.items.items)
filled_all graph filling filled = record {
  whole = length-rows_from 0 filling.stops.items filling.items.items ∙ filled.whole;
  each = λ block below.
      let within : block < length filling.stops.items = omega (arith, filled.whole) in
      let row = row_at 0 filling.stops.items filling.items.items block filled.rows.stops within in
      let start : start_of filling block ≡ get_or filling.cursors.items block 0 = omega (arith, filled.left block below) in
      let all : length graph - 0 ≡ length graph = omega arith in
      row.row
      ∙ ap (λ (n : ℕ). slice_range filling.items.items n (get_or filling.stops.items block 0)) start
      ∙ filled.filled block below
      ∙ ap (λ (n : ℕ). flat_map (λ f. replicate (count_of block (succs_of graph f)) (block_at f)) (range_with_len 0 n)) all;
}
