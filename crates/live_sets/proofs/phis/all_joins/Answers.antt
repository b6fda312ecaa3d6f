use Rattle.std.proofs.Common.{◌≡◌, ◌∙◌, ◌+◌, [], ℕ, List, true, false, ap, sym, arith, length, get_or, replicate, map, subst}
use Rattle.std.specs.List.{range_with_len}
use Rattle.std.proofs.lemmas.List.{length-map}
use Rattle.ir_ast.specs.Edges.{targets}
use Rattle.graph_search.specs.Edges.{AreInside}
use Rattle.graph_search.specs.Paths.{MarksReached}
use Rattle.object_meaning.specs.Lines.{registers_of}
use Rattle.rewriting_forms.specs.Numbered.{pointers, preds}
use Rattle.live_sets.specs.Starts.{starts_of, list_at}
use Rattle.live_sets.specs.Ends.{Places, backward_rows, rows_of}
use Rattle.live_sets.proofs.StartLemmas.{list_is}
use Rattle.live_sets.proofs.EndLemmas.{rows_are, places_length}
use Rattle.live_sets.proofs.Reaches.{all_inside, front_marks_are}
use Rattle.live_sets.proofs.EndsLaws.{empty_at, value_at, pointer_marked, marked_below}
use Rattle.live_sets.proofs.EndLemmas.{fronts_are}
use Rattle.live_sets.proofs.JoinLaws.{joins_more, joins_all, front_at}
use Rattle.rewriting_forms.specs.Names.{is_many}
use Rattle.live_sets.proofs.phis.all_joins.Goals as goal
use Rattle.ir_ast.specs.Operands.{valued}
use Rattle.ir_ast.specs.Lists.{has_mark}

pub loop-value-init : goal.loop-value-init
loop-value-init c = record {
  clear = c.in_ok-seen.ensures.items_if_clones_equal (λ y is. is);
  whole = c.in_ok-joins.ensures.whole ∙ c.requires.count;
  each = λ b below. empty_at c.in_ok-joins.joins.items b c.in_ok-joins.ensures.empty;
}

pub bounds-starts-number : goal.bounds-starts-number
bounds-starts-number c =
    let func = c.args.func.now.content in
    let at = value_at func c.args.values.now c.loop-value.value-index c.requires.values c.loop-value-test.true in
    let marked = pointer_marked func c.args.marks.now c.requires.marks c.loop-value.value-index (get_or c.args.values.now c.loop-value.value-index (valued 0)).0 at in
    let below = marked_below func c.args.marks.now c.requires.marks (get_or c.args.values.now c.loop-value.value-index (valued 0)).0 marked in
    omega (arith, below, c.requires.starts.whole)

pub of-places-requires-clause-count : goal.of-places-requires-clause-count
of-places-requires-clause-count c = c.requires.count ∙ sym (ap length c.requires.cfg ∙ length-map c.args.func.now.content.blocks targets)

pub add_joins-requires-clause-inside : goal.add_joins-requires-clause-inside
add_joins-requires-clause-inside c = λ is. (
    let func = c.args.func.now.content in
    let x = (get_or c.args.values.now c.loop-value.value-index (valued 0)).0 in
    let at = value_at func c.args.values.now c.loop-value.value-index c.requires.values c.loop-value-test.true in
    let marked = pointer_marked func c.args.marks.now c.requires.marks c.loop-value.value-index x at in
    let below = marked_below func c.args.marks.now c.requires.marks x marked in
    let list : c.as_slice.result.now ≡ starts_of func c.args.marks.now c.args.bases.now x =
    c.as_slice.ensures.value ∙ sym (list_is c.args.starts.now x c.index-starts-number.result (omega (arith, below, c.requires.starts.whole)) c.index-starts-number.is) ∙ c.requires.starts.each x below (sym c.is_marked-wanted.ensures ∙ is) in
    let all = all_inside func c.args.bases.now c.args.marks.now c.requires.marks c.requires.formed.phis x marked in
    let rows = rows_are func c.args.cfg.now c.args.firsts.now x c.of-places.result c.requires.cfg c.requires.firsts c.of-places.ensures in
    subst (λ (rs : List (List ℕ)). AreInside rs c.as_slice.result.now) (sym rows)
    (subst (λ (ss : List ℕ). AreInside (backward_rows (map (preds func) (range_with_len 0 (length func.blocks))) (registers_of func) x) ss) (sym list) all))

pub add_joins-requires-clause-clear : goal.add_joins-requires-clause-clear
add_joins-requires-clause-clear c =
    let x = (get_or c.args.values.now c.loop-value.value-index (valued 0)).0 in
    let long = places_length c.args.func.now.content c.args.cfg.now c.args.firsts.now x c.of-places.result c.requires.cfg c.of-places.ensures in
    c.loop-value.invariant.clear ∙ ap (λ (n : ℕ). replicate n false) (omega (arith, long, c.requires.count))

pub add_joins-requires-clause-whole : goal.add_joins-requires-clause-whole
add_joins-requires-clause-whole c =
    let x = (get_or c.args.values.now c.loop-value.value-index (valued 0)).0 in
    c.loop-value.invariant.whole ∙ sym (places_length c.args.func.now.content c.args.cfg.now c.args.firsts.now x c.of-places.result c.requires.cfg c.of-places.ensures)

pub loop-value-preserved : goal.loop-value-preserved
loop-value-preserved c =
    let func = c.args.func.now.content in
    let i = c.loop-value.value-index in
    let value = get_or c.args.values.now i (valued 0) in
    let at = value_at func c.args.values.now i c.requires.values c.loop-value-test.true in
    let marked = pointer_marked func c.args.marks.now c.requires.marks i value.0 at in
    let below = marked_below func c.args.marks.now c.requires.marks value.0 marked in
    let rows = rows_are func c.args.cfg.now c.args.firsts.now value.0 c.of-places.result c.requires.cfg c.requires.firsts c.of-places.ensures in
    let fronts = ap (λ (p : Places). p.fronts) c.of-places.ensures ∙ fronts_are func c.args.cfg.now c.requires.cfg in
    let adds = c.in_ok-add_joins.ensures.added in
    let search = λ (is : c.is_marked-wanted.result ≡ true). (
    let list : c.as_slice.result.now ≡ starts_of func c.args.marks.now c.args.bases.now value.0 =
    c.as_slice.ensures.value ∙ sym (list_is c.args.starts.now value.0 c.index-starts-number.result (omega (arith, below, c.requires.starts.whole)) c.index-starts-number.is)
    ∙ c.requires.starts.each value.0 below (sym c.is_marked-wanted.ensures ∙ is) in
    subst (λ (rs : List (List ℕ)). MarksReached rs (starts_of func c.args.marks.now c.args.bases.now value.0) adds.marks) rows
    (subst (λ (ss : List ℕ). MarksReached (rows_of c.of-places.result) ss adds.marks) list (adds.reached is))) in
    record {
      clear = c.in_ok-add_joins.ensures.clear ∙ c.loop-value.invariant.clear;
      whole = adds.whole ∙ c.loop-value.invariant.whole;
      each = λ b inside. joins_more func c.args.bases.now b i value (list_at c.loop-value.joins.items b) (list_at c.add_joins.new.joins.items b)
          (is_many (get_or c.of-places.result.fronts b [])) c.is_marked-wanted.result (has_mark adds.marks (length c.loop-value.joins.items + b)) at (c.loop-value.invariant.each b inside)
          (ap is_many (front_at func c.of-places.result.fronts b fronts inside))
          (c.is_marked-wanted.ensures ∙ c.requires.listed.each value.0)
          (λ is. ap (λ (n : ℕ). has_mark adds.marks (n + b)) c.loop-value.invariant.whole
          ∙ front_marks_are func c.args.bases.now c.args.marks.now c.requires.marks c.requires.formed.phis value.0 marked adds.marks b (search is) inside)
          (adds.each b (let w = c.loop-value.invariant.whole in omega (arith, w, inside)));
    }

pub returns : goal.returns
returns c =
    let func = c.args.func.now.content in
    let long = ap length c.requires.values ∙ length-map (pointers func) valued in
    record {
      whole = c.loop-value.invariant.whole;
      each = λ b below. joins_all func c.args.bases.now b c.loop-value.value-index (list_at c.loop-value.joins.items b) (omega (arith, long, c.loop-value-test.false)) (c.loop-value.invariant.each b below);
    }
