-- The graph of places, row by row.
use Rattle.std.proofs.Common.{◌≡◌, ℕ, zero, suc, ◌+◌, ◌-◌, ◌<◌, ◌≤◌, Bool, true, false, ◌&&◌, if◌then◌else◌, List, [], ◌∷◌, ◌++◌, length, map, get_or, replicate, append-nil, refl, ap, sym, arith, Some, Option, slice_get, ◌∙◌}
use Rattle.std.specs.Prelude.{unwrap_or}
use Rattle.std.specs.List.{range_with_len}
use Rattle.std.specs.Global.{Vec}
use Rattle.std.proofs.lemmas.Option.{get_or_from_slice_get, unwrap_or-slice_get}
use Rattle.std.proofs.lemmas.List.{length-append, length-map, length-replicate}
use Rattle.std.proofs.lemmas.List.FromFn.{length-range_with_len}
use Rattle.sp_ids.specs.declared.ids.ValueId.{ValueId}
use Rattle.sp_ids.specs.declared.ids.BlockId.{BlockId}
use Rattle.ir_ast.specs.Funcs.{Function}
use Rattle.ir_ast.specs.Edges.{targets}
use Rattle.ir_cfg.specs.Graphs.{Graph, graph_of, preds_of}
use Rattle.object_meaning.specs.Lines.{registers_of}
use Rattle.rewriting_forms.specs.Numbered.{preds}
use Rattle.graph_search.specs.Edges.{targets_of}
use Rattle.graph_search.specs.Paths.{ReachedFrom, at_start, along, MarksReached}
use Rattle.list_laws.proofs.Contents.{contains_none}
use Rattle.list_laws.proofs.Places.{get_front, get_past, get_map}
use Rattle.live_sets.specs.Starts.{list_at}
use Rattle.live_sets.specs.Ends.{fronts_of, Places, end_row, backward_rows, rows_of, AreFronts, AddsEnds}
use Rattle.list_laws.proofs.Booleans.{and_false}
use Rattle.list_laws.proofs.Ranges.{range_get}
use Rattle.ir_ast.specs.Lists.{has_mark}

module _ (fronts : List (List ℕ)) (firsts : List ℕ) (value : ℕ) where
  abbrev rows : List (List ℕ)
  rows = backward_rows fronts firsts value

  abbrev ends_rows : List (List ℕ)
  ends_rows = map (end_row firsts value (length fronts)) (range_with_len 0 (length fronts))

  ends_length : length ends_rows ≡ length fronts
  ends_length = length-map (range_with_len 0 (length fronts)) (end_row firsts value (length fronts)) ∙ length-range_with_len 0 (length fronts)

  pub rows_length : length rows ≡ length fronts + length fronts
  rows_length = length-append ends_rows fronts ∙ ap (λ (n : ℕ). n + length fronts) ends_length

  pub row_of_end : (node : ℕ) → node < length fronts → targets_of rows node ≡ end_row firsts value (length fronts) node
  row_of_end node below =
      let zero_more : 0 + node ≡ node = omega arith in
      let range = range_get 0 (length fronts) node below ∙ ap Some zero_more in
      let row = get_map (end_row firsts value (length fronts)) (range_with_len 0 (length fronts)) node node range in
      get_or_from_slice_get rows node (end_row firsts value (length fronts) node) [] (get_front ends_rows fronts node (end_row firsts value (length fronts) node) row)

  pub row_of_front : (k : ℕ) → targets_of rows (length fronts + k) ≡ get_or fronts k []
  row_of_front k =
      let past : slice_get rows (length fronts + k) ≡ slice_get fronts k = ap (λ (n : ℕ). slice_get rows (n + k)) (sym ends_length) ∙ get_past ends_rows fronts k in
      sym (unwrap_or-slice_get rows (length fronts + k) []) ∙ ap (λ (row : Option (List ℕ)). unwrap_or row []) past ∙ unwrap_or-slice_get fronts k []

  -- the row of a node behind the ends
  pub row_behind : (node : ℕ) → length fronts ≤ node → targets_of rows node ≡ get_or fronts (node - length fronts) []
  row_behind node behind =
      let e : node ≡ length fronts + (node - length fronts) = omega arith in
      ap (targets_of rows) e ∙ row_of_front (node - length fronts)

pub fronts_length : (graph : Graph) → length (fronts_of graph) ≡ length graph
fronts_length graph =
    length-map (range_with_len 0 (length graph)) (λ (b : ℕ). map (λ (l : BlockId). l.0) (preds_of graph b)) ∙ length-range_with_len 0 (length graph)

pub front_of : (graph : Graph) (b : ℕ) → b < length graph → get_or (fronts_of graph) b [] ≡ map (λ (l : BlockId). l.0) (preds_of graph b)
front_of graph b below =
    let e : 0 + b ≡ b = omega arith in
    get_or_from_slice_get (fronts_of graph) b (map (λ (l : BlockId). l.0) (preds_of graph b)) []
    (get_map (λ (n : ℕ). map (λ (l : BlockId). l.0) (preds_of graph n)) (range_with_len 0 (length graph)) b b (range_get 0 (length graph) b below ∙ ap Some e))

pub fronts_are : (func : Function) (graph : Graph) → graph ≡ graph_of func → AreFronts func (fronts_of graph)
fronts_are func graph is = ap fronts_of is ∙ ap (λ (n : ℕ). map (preds func) (range_with_len 0 n)) (length-map func.blocks targets)

pub rows_are : (func : Function) (graph : Graph) (firsts : List ℕ) (value : ℕ) (places : Places) → graph ≡ graph_of func → firsts ≡ registers_of func
    → places ≡ record { fronts = fronts_of graph; firsts = firsts; value = value }
    → rows_of places ≡ backward_rows (map (preds func) (range_with_len 0 (length func.blocks))) (registers_of func) value
rows_are func graph firsts value places graph_is firsts_are are =
    ap rows_of are ∙ ap (λ (fronts : List (List ℕ)). backward_rows fronts firsts value) (fronts_are func graph graph_is)
    ∙ ap (λ (ns : List ℕ). backward_rows (map (preds func) (range_with_len 0 (length func.blocks))) ns value) firsts_are

pub places_length : (func : Function) (graph : Graph) (firsts : List ℕ) (value : ℕ) (places : Places) → graph ≡ graph_of func
    → places ≡ record { fronts = fronts_of graph; firsts = firsts; value = value } → length places.fronts ≡ length func.blocks
places_length func graph firsts value places graph_is are =
    ap (λ (p : Places). length p.fronts) are ∙ fronts_length graph ∙ ap length graph_is ∙ length-map func.blocks targets

-- nothing is reached from no start
pub none_reached : (rows : List (List ℕ)) (node : ℕ) → ReachedFrom rows [] node → ⊥
none_reached rows _ (at_start node starts) = contains_none node starts
none_reached rows _ (along from to reached edge) = none_reached rows from reached

pub no_marks : (rows : List (List ℕ)) → MarksReached rows [] (replicate (length rows) false)
no_marks rows = record {
  whole = length-replicate (length rows) false;
  sound = λ node is. absurd (unmarked (length rows) node is);
  complete = λ node reached. absurd (none_reached rows node reached);
}
  where
    unmarked : (n node : ℕ) → slice_get (replicate n false) node ≡ Some true → ⊥
    unmarked zero node is = absurd (cc)
    unmarked (suc n) zero is = absurd (cc)
    unmarked (suc n) (suc node) is = unmarked n node is

unmarked_at : (n node : ℕ) → has_mark (replicate n false) node ≡ false
unmarked_at zero node = refl
unmarked_at (suc n) zero = refl
unmarked_at (suc n) (suc node) = unmarked_at n node

pub adds_none : (rows : List (List ℕ)) (wanted : List Bool) (starts : List ℕ) (value : ValueId) (ends : List (Vec ValueId)) → length starts ≡ 0
    → AddsEnds rows wanted starts value ends ends
adds_none rows wanted (x ∷ starts) value ends none = absurd (omega (arith, none))
adds_none rows wanted [] value ends none = record {
  marks = replicate (length rows) false;
  reached = no_marks rows;
  whole = refl;
  each = λ block below. sym (ap (λ (t : Bool). list_at ends block ++ (if t then value ∷ [] else []))
      (ap (λ (t : Bool). has_mark wanted block && t) (unmarked_at (length rows) block) ∙ and_false (has_mark wanted block)) ∙ append-nil (list_at ends block));
}

pub only_target : (t : Bool) (to number : ℕ) → number < length (if t then [] else to ∷ []) → slice_get (if t then [] else to ∷ []) number ≡ Some to
only_target true to number below = absurd (omega arith)
only_target false to zero below = refl
only_target false to (suc number) below = absurd (omega arith)
