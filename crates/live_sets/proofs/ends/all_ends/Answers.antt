use Rattle.std.proofs.Common.{◌≡◌, ◌∙◌, ◌++◌, ◌&&◌, ◌∷◌, [], if◌then◌else◌, ℕ, Bool, List, false, ap, sym, arith, length, get_or, replicate, map, subst}
use Rattle.std.specs.List.{range_with_len}
use Rattle.std.proofs.lemmas.List.{length-map}
use Rattle.ir_ast.specs.Edges.{targets}
use Rattle.graph_search.specs.Edges.{AreInside}
use Rattle.graph_search.specs.Paths.{MarksReached}
use Rattle.object_meaning.specs.Lines.{registers_of}
use Rattle.rewriting_forms.specs.Numbered.{pointers, preds}
use Rattle.live_sets.specs.Starts.{starts_of, list_at}
use Rattle.live_sets.specs.Ends.{backward_rows, rows_of}
use Rattle.live_sets.proofs.StartLemmas.{list_is}
use Rattle.live_sets.proofs.EndLemmas.{rows_are, places_length}
use Rattle.live_sets.proofs.Reaches.{all_inside, marks_are}
use Rattle.live_sets.proofs.EndsLaws.{empty_at, value_at, pointer_marked, marked_below, ends_more, ends_all}
use Rattle.live_sets.proofs.ends.all_ends.Goals as goal
use Rattle.ir_ast.specs.Operands.{valued}
use Rattle.ir_ast.specs.Lists.{has_mark}

pub loop-value-init : goal.loop-value-init
loop-value-init c = record {
  clear = c.in_ok-seen.ensures.items_if_clones_equal (λ y is. is);
  whole = c.in_ok-ends.ensures.whole ∙ c.requires.count;
  each = λ b below is. empty_at c.in_ok-ends.ends.items b c.in_ok-ends.ensures.empty;
}

pub bounds-starts-number : goal.bounds-starts-number
bounds-starts-number c =
    let func = c.args.func.now.content in
    let at = value_at func c.args.values.now c.loop-value.value-index c.requires.values c.loop-value-test.true in
    let marked = pointer_marked func c.args.marks.now c.requires.marks c.loop-value.value-index (get_or c.args.values.now c.loop-value.value-index (valued 0)).0 at in
    let below = marked_below func c.args.marks.now c.requires.marks (get_or c.args.values.now c.loop-value.value-index (valued 0)).0 marked in
    omega (arith, below, c.requires.starts.whole)

pub of-places-requires-clause-count : goal.of-places-requires-clause-count
of-places-requires-clause-count c = c.requires.count ∙ sym (ap length c.requires.cfg ∙ length-map c.args.func.now.content.blocks targets)

pub add_ends-requires-clause-inside : goal.add_ends-requires-clause-inside
add_ends-requires-clause-inside c =
    let func = c.args.func.now.content in
    let x = (get_or c.args.values.now c.loop-value.value-index (valued 0)).0 in
    let at = value_at func c.args.values.now c.loop-value.value-index c.requires.values c.loop-value-test.true in
    let marked = pointer_marked func c.args.marks.now c.requires.marks c.loop-value.value-index x at in
    let below = marked_below func c.args.marks.now c.requires.marks x marked in
    let list : c.as_slice.result.now ≡ starts_of func c.args.marks.now c.args.bases.now x =
    c.as_slice.ensures.value ∙ sym (list_is c.args.starts.now x c.index-starts-number.result (omega (arith, below, c.requires.starts.whole)) c.index-starts-number.is) ∙ c.requires.starts.each x below marked in
    let all = all_inside func c.args.bases.now c.args.marks.now c.requires.marks c.requires.formed.phis x marked in
    let rows = rows_are func c.args.cfg.now c.args.firsts.now x c.of-places.result c.requires.cfg c.requires.firsts c.of-places.ensures in
    subst (λ (rs : List (List ℕ)). AreInside rs c.as_slice.result.now) (sym rows)
    (subst (λ (ss : List ℕ). AreInside (backward_rows (map (preds func) (range_with_len 0 (length func.blocks))) (registers_of func) x) ss) (sym list) all)

pub add_ends-requires-clause-clear : goal.add_ends-requires-clause-clear
add_ends-requires-clause-clear c =
    let x = (get_or c.args.values.now c.loop-value.value-index (valued 0)).0 in
    let long = places_length c.args.func.now.content c.args.cfg.now c.args.firsts.now x c.of-places.result c.requires.cfg c.of-places.ensures in
    c.loop-value.invariant.clear ∙ ap (λ (n : ℕ). replicate n false) (omega (arith, long, c.requires.count))

pub add_ends-requires-clause-whole : goal.add_ends-requires-clause-whole
add_ends-requires-clause-whole c =
    let x = (get_or c.args.values.now c.loop-value.value-index (valued 0)).0 in
    c.loop-value.invariant.whole ∙ sym (places_length c.args.func.now.content c.args.cfg.now c.args.firsts.now x c.of-places.result c.requires.cfg c.of-places.ensures)

pub loop-value-preserved : goal.loop-value-preserved
loop-value-preserved c =
    let func = c.args.func.now.content in
    let i = c.loop-value.value-index in
    let value = get_or c.args.values.now i (valued 0) in
    let at = value_at func c.args.values.now i c.requires.values c.loop-value-test.true in
    let marked = pointer_marked func c.args.marks.now c.requires.marks i value.0 at in
    let below = marked_below func c.args.marks.now c.requires.marks value.0 marked in
    let list : c.as_slice.result.now ≡ starts_of func c.args.marks.now c.args.bases.now value.0 =
    c.as_slice.ensures.value ∙ sym (list_is c.args.starts.now value.0 c.index-starts-number.result (omega (arith, below, c.requires.starts.whole)) c.index-starts-number.is) ∙ c.requires.starts.each value.0 below marked in
    let rows = rows_are func c.args.cfg.now c.args.firsts.now value.0 c.of-places.result c.requires.cfg c.requires.firsts c.of-places.ensures in
    let adds = c.in_ok-add_ends.ensures.added in
    let search = subst (λ (rs : List (List ℕ)). MarksReached rs (starts_of func c.args.marks.now c.args.bases.now value.0) adds.marks) rows
    (subst (λ (ss : List ℕ). MarksReached (rows_of c.of-places.result) ss adds.marks) list adds.reached) in
    record {
      clear = c.in_ok-add_ends.ensures.clear ∙ c.loop-value.invariant.clear;
      whole = adds.whole ∙ c.loop-value.invariant.whole;
      each = λ b inside is. ends_more func c.args.bases.now b i value (list_at c.loop-value.ends.items b) (list_at c.add_ends.new.ends.items b) adds.marks at (c.loop-value.invariant.each b inside is)
          (marks_are func c.args.bases.now c.args.marks.now c.requires.marks c.requires.formed.phis value.0 marked adds.marks b search inside)
          (adds.each b (let w = c.loop-value.invariant.whole in omega (arith, w, inside))
          ∙ ap (λ (t : Bool). list_at c.loop-value.ends.items b ++ (if t && has_mark adds.marks b then value ∷ [] else [])) is);
    }

pub returns : goal.returns
returns c =
    let func = c.args.func.now.content in
    let long = ap length c.requires.values ∙ length-map (pointers func) valued in
    record {
      whole = c.loop-value.invariant.whole;
      each = λ b below is. ends_all func c.args.bases.now b c.loop-value.value-index (list_at c.loop-value.ends.items b) (omega (arith, long, c.loop-value-test.false)) (c.loop-value.invariant.each b below is);
    }
