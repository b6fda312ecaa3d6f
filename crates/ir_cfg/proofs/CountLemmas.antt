-- How many labels name a block.
use Rattle.std.proofs.Common.{◌≡◌, ◌≢◌, ℕ, zero, suc, ◌<◌, ◌≤◌, ◌+◌, ◌==◌, nat_lt, Bool, cond, List, [], ◌∷◌, ◌++◌, length, get_or, set, take, sum, refl, ap, sym, subst, arith, ◌∙◌, append-nil, inl, inr, ◌⊎◌}
use Rattle.std.specs.List.{count_by, flat_map, All}
use Rattle.std.proofs.lemmas.List.{take_more, length-set, length-take-le, get_or_default, get_or-set_same, get_or-set_other}
use Rattle.std.proofs.lemmas.List.Elements.{All-nil, All-head, All-tail, All-append}
use Rattle.std.proofs.lemmas.List.Concat.{flat_map-append}
use Rattle.std.proofs.lemmas.List.Sums.{sum_by-append, sum_by-cons, sum_by_more, sum_by_more_le, count_by_more_yes, count_by_more_no, count_by-le-length}
use Rattle.std.proofs.Math.Seq.{take-length}
use Rattle.std.proofs.lemmas.Bool.{cases_eq, cases_order, lt-ltb, le-ltb, eq-eqb, ne_eqb}
use Rattle.sp_ids.specs.declared.ids.BlockId.{BlockId}
use Rattle.ir_ast.specs.Edges.{count_of}
use Rattle.ir_cfg.specs.Graphs.{Graph, succs_of, labels_of}
use Rattle.ir_cfg.specs.Turned.{LeadsInside}
use Rattle.ir_cfg.specs.Filled.{AreCounts}

-- how many labels name a block before this one
abbrev count_before : ℕ → List BlockId → ℕ
count_before block labels = count_by (λ label. nat_lt label.0 block) labels

abbrev one_if : Bool → ℕ
one_if b = cond b 1 0

one_more : (n block : ℕ) → (n ≡ block) ⊎ ((n < block) ⊎ (block < n))
    → cond (nat_lt n (block + 1)) 1 0 ≡ cond (nat_lt n block) 1 0 + cond (n == block) 1 0
one_more n block (inl same) =
    let up : n < block + 1 = omega (arith, same) in
    let not : block ≤ n = omega (arith, same) in
    rw (lt-ltb n (block + 1) up, le-ltb n block not, eq-eqb n block same) refl
one_more n block (inr (inl below)) =
    let up : n < block + 1 = omega arith in
    let other : n ≢ block = omega arith in
    rw (lt-ltb n (block + 1) up, lt-ltb n block below, ne_eqb n block other) refl
one_more n block (inr (inr above)) =
    let up : block + 1 ≤ n = omega arith in
    let not : block ≤ n = omega arith in
    let other : n ≢ block = omega arith in
    rw (le-ltb n (block + 1) up, le-ltb n block not, ne_eqb n block other) refl

before_more : (labels : List BlockId) (block : ℕ) → count_before (block + 1) labels ≡ count_before block labels + count_of block labels
before_more [] block = refl
before_more (label ∷ labels) block =
    let all = sum_by-cons (λ (l : BlockId). cond (nat_lt l.0 (block + 1)) 1 0) label labels in
    let before = sum_by-cons (λ (l : BlockId). cond (nat_lt l.0 block) 1 0) label labels in
    let same = sum_by-cons (λ (l : BlockId). cond (l.0 == block) 1 0) label labels in
    let one = one_more label.0 block (cases_order label.0 block) in
    let rest = before_more labels block in
    omega (arith, all, before, same, one, rest)

before_first : (labels : List BlockId) → count_before 0 labels ≡ 0
before_first [] = refl
before_first (label ∷ labels) =
    let all = sum_by-cons (λ (l : BlockId). cond (nat_lt l.0 0) 1 0) label labels in
    let none : one_if (nat_lt label.0 0) ≡ 0 = ap one_if (le-ltb label.0 0 (omega arith)) in
    let rest = before_first labels in
    omega (arith, all, none, rest)

before_all : (count : ℕ) (labels : List BlockId) → All (λ label. label.0 < count) labels → count_before count labels ≡ length labels
before_all count [] inside = refl
before_all count (label ∷ labels) inside =
    let all = sum_by-cons (λ (l : BlockId). cond (nat_lt l.0 count) 1 0) label labels in
    let head = All-head (λ (l : BlockId). l.0 < count) label labels inside in
    let one : one_if (nat_lt label.0 count) ≡ 1 = ap one_if (lt-ltb label.0 count head) in
    let rest = before_all count labels (All-tail (λ (l : BlockId). l.0 < count) label labels inside) in
    omega (arith, all, one, rest)

sums_before : (labels : List BlockId) (counts : List ℕ) (block : ℕ) → AreCounts labels counts → block ≤ length counts
    → sum (take block counts) ≡ count_before block labels
sums_before labels counts zero are within = sym (before_first labels)
sums_before labels counts (suc block) are within =
    let next : suc block ≡ block + 1 = omega arith in
    let more = sum_by_more (λ (n : ℕ). n) counts block 0 (omega arith) in
    let rest = sums_before labels counts block are (omega arith) in
    let one = are.each block (omega arith) in
    let step = before_more labels block in
    rw next (more ∙ ap (λ n. n + get_or counts block 0) rest ∙ ap (λ n. count_before block labels + n) one ∙ sym step)

-- the counts of all blocks together are the labels
pub sum_of_counts : (labels : List BlockId) (counts : List ℕ) → AreCounts labels counts → All (λ label. label.0 < length counts) labels
    → sum counts ≡ length labels
sum_of_counts labels counts are inside =
    sym (ap sum (take-length counts)) ∙ sums_before labels counts (length counts) are (omega arith) ∙ before_all (length counts) labels inside

flat_inside : (count : ℕ) (rows : Graph) → All (λ row. All (λ label. label.0 < count) row) rows
    → All (λ label. label.0 < count) (flat_map (λ (row : List BlockId). row) rows)
flat_inside count [] inside = All-nil _
flat_inside count (row ∷ rows) inside =
    All-append (λ (label : BlockId). label.0 < count) row (flat_map (λ (r : List BlockId). r) rows)
    (All-head (λ (r : List BlockId). All (λ (label : BlockId). label.0 < count) r) row rows inside)
    (flat_inside count rows (All-tail (λ (r : List BlockId). All (λ (label : BlockId). label.0 < count) r) row rows inside))

pub labels_inside : (graph : Graph) → LeadsInside graph → All (λ label. label.0 < length graph) (labels_of graph)
labels_inside graph inside = flat_inside (length graph) graph inside

-- the labels of one row more
pub labels_more : (graph : Graph) (from block : ℕ) → from < length graph
    → count_of block (labels_of (take (from + 1) graph)) ≡ count_of block (labels_of (take from graph)) + count_of block (succs_of graph from)
labels_more graph from block below =
    let one : Graph → List BlockId = λ rows. flat_map (λ (row : List BlockId). row) rows in
    let more : one (take (from + 1) graph) ≡ one (take from graph) ++ succs_of graph from =
    ap one (take_more graph from [] below) ∙ flat_map-append (λ (row : List BlockId). row) (take from graph) (succs_of graph from ∷ [])
    ∙ ap (λ (xs : List BlockId). one (take from graph) ++ xs) (append-nil (succs_of graph from)) in
    ap (count_of block) more ∙ sum_by-append (λ (l : BlockId). cond (l.0 == block) 1 0) (one (take from graph)) (succs_of graph from)

pub count_here : (labels : List BlockId) (place block : ℕ) (label : BlockId) → place < length labels → get_or labels place label ≡ label → label.0 ≡ block
    → count_of block (take (place + 1) labels) ≡ count_of block (take place labels) + 1
count_here labels place block label below is same =
    count_by_more_yes (λ (l : BlockId). l.0 == block) labels place label below (ap (λ (l : BlockId). l.0 == block) is ∙ eq-eqb label.0 block same)

pub count_there : (labels : List BlockId) (place block : ℕ) (label : BlockId) → place < length labels → get_or labels place label ≡ label → label.0 ≢ block
    → count_of block (take (place + 1) labels) ≡ count_of block (take place labels)
count_there labels place block label below is other =
    count_by_more_no (λ (l : BlockId). l.0 == block) labels place label below (ap (λ (l : BlockId). l.0 == block) is ∙ ne_eqb label.0 block other)

counted_at : (labels : List BlockId) (place : ℕ) (label : BlockId) (counts : List ℕ) (block : ℕ) → place < length labels → get_or labels place label ≡ label
    → label.0 < length counts → AreCounts (take place labels) counts → block < length counts → (label.0 ≡ block) ⊎ (label.0 ≡ block → ⊥)
    → get_or (set counts label.0 (get_or counts label.0 0 + 1)) block 0 ≡ count_of block (take (place + 1) labels)
counted_at labels place label counts block below is inside are within (inl same) =
    let next = get_or counts label.0 0 + 1 in
    let at = get_or-set_same counts label.0 next 0 inside in
    let count = count_here labels place label.0 label below is refl in
    subst (λ (b : ℕ). get_or (set counts label.0 next) b 0 ≡ count_of b (take (place + 1) labels)) same
    (at ∙ ap (λ (n : ℕ). n + 1) (are.each label.0 inside) ∙ sym count)
counted_at labels place label counts block below is inside are within (inr other) =
    let apart : block ≢ label.0 = λ e. other (sym e) in
    get_or-set_other counts label.0 block (get_or counts label.0 0 + 1) 0 apart ∙ are.each block within
    ∙ sym (count_there labels place block label below is other)

-- one label more is counted
pub counted_more : (labels : List BlockId) (place : ℕ) (label : BlockId) (counts next : List ℕ) → place < length labels → get_or labels place label ≡ label
    → label.0 < length counts → AreCounts (take place labels) counts → next ≡ set counts label.0 (get_or counts label.0 0 + 1)
    → AreCounts (take (place + 1) labels) next
counted_more labels place label counts next below is inside are same = record {
  each = λ block within.
      let long : length next ≡ length counts = ap length same ∙ length-set counts label.0 (get_or counts label.0 0 + 1) in
      let in' : block < length counts = omega (arith, within, long) in
      ap (λ (xs : List ℕ). get_or xs block 0) same ∙ counted_at labels place label counts block below is inside are in' (cases_eq label.0 block);
}

-- a count is at most the number of labels
pub few_counted : (labels : List BlockId) (place : ℕ) (counts : List ℕ) (block : ℕ) → place ≤ length labels → AreCounts (take place labels) counts
    → block < length counts → get_or counts block 0 ≤ place
few_counted labels place counts block within are below =
    let few = count_by-le-length (λ (l : BlockId). l.0 == block) (take place labels) in
    omega (arith, few, are.each block below, length-take-le place labels within)

-- the numbers before this place are added up, to this end
pub record AddsUpTo (old : List ℕ) (place end : ℕ) (new : List ℕ) : Type 0 where
  pub whole : length new ≡ length old
  pub end_is : end ≡ sum (take place old)
  pub done : (k : ℕ) → k < place → get_or new k 0 ≡ sum (take (k + 1) old)
  pub rest : (k : ℕ) → place ≤ k → get_or new k 0 ≡ get_or old k 0

-- the number at the place is still the old one
number_at : (old new : List ℕ) (place end one : ℕ) → AddsUpTo old place end new → place < length old → one ≡ get_or new place one → one ≡ get_or old place 0
number_at old new place end one adds below read =
    let within : place < length new = omega (arith, below, adds.whole) in
    read ∙ get_or_default new place one 0 within ∙ adds.rest place (omega arith)

pub sum_fits : (old new : List ℕ) (place end one : ℕ) → AddsUpTo old place end new → place < length old → one ≡ get_or new place one → end + one ≤ sum old
sum_fits old new place end one adds below read =
    let is = number_at old new place end one adds below read in
    let le = sum_by_more_le (λ (n : ℕ). n) old place 0 below in
    let end_is = adds.end_is in
    omega (arith, is, le, end_is)

done_at : (old new : List ℕ) (place end one k : ℕ) → AddsUpTo old place end new → place < length old → end + one ≡ sum (take (place + 1) old)
    → k < place + 1 → (k ≡ place) ⊎ (k ≡ place → ⊥) → get_or (set new place (end + one)) k 0 ≡ sum (take (k + 1) old)
done_at old new place end one k adds below next before (inl same) =
    let within : place < length new = omega (arith, below, adds.whole) in
    subst (λ (p : ℕ). get_or (set new place (end + one)) p 0 ≡ sum (take (p + 1) old)) (sym same) (get_or-set_same new place (end + one) 0 within ∙ next)
done_at old new place end one k adds below next before (inr other) =
    let apart : k ≢ place = other in
    let earlier : k < place = omega (arith, before, apart) in
    get_or-set_other new place k (end + one) 0 apart ∙ adds.done k earlier

pub adds_more : (old new : List ℕ) (place end one : ℕ) → AddsUpTo old place end new → place < length old → one ≡ get_or new place one
    → AddsUpTo old (place + 1) (end + one) (set new place (end + one))
adds_more old new place end one adds below read =
    let is = number_at old new place end one adds below read in
    let more = sum_by_more (λ (n : ℕ). n) old place 0 below in
    let end_is = adds.end_is in
    let next : end + one ≡ sum (take (place + 1) old) = omega (arith, is, more, end_is) in
    record {
      whole = length-set new place (end + one) ∙ adds.whole;
      end_is = next;
      done = λ k before. done_at old new place end one k adds below next before (cases_eq k place);
      rest = λ k after.
          let apart : k ≢ place = omega (arith, after) in
          get_or-set_other new place k (end + one) 0 apart ∙ adds.rest k (omega (arith, after));
    }
