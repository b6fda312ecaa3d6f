use Rattle.std.proofs.Common.{◌∙◌, ◌++◌, ◌&&◌, ◌∷◌, [], if◌then◌else◌, ℕ, Bool, List, length, take, get_or, replicate, false, refl, ap, sym, arith, subst, append-nil}
use Rattle.std.proofs.lemmas.Bool.Decides.{nat_tests}
use Rattle.std.proofs.lemmas.Option.{slice_get-get_or}
use Rattle.rewriting_forms.specs.Numbered.{among}
use Rattle.live_sets.specs.Starts.{list_at}
use Rattle.live_sets.proofs.EndLemmas.{adds_none, rows_length}
use Rattle.live_sets.proofs.FoundLemmas.{StandsOnce, found_more, adds_found}
use Rattle.live_sets.proofs.ends.add_ends.Goals as goal
use Rattle.list_laws.proofs.Booleans.{and_false}
use Rattle.ir_ast.specs.Lists.{has_mark}

pub returns-then-is_empty-clause-added : goal.returns-then-is_empty-clause-added
returns-then-is_empty-clause-added c =
    adds_none _ c.args.wanted.now c.args.starts.now c.args.value c.args.ends.now.items (grind (arith, nat_tests, c.is_empty.ensures, c.if-is_empty.true))

pub find_reached-requires-clause-clear : goal.find_reached-requires-clause-clear
find_reached-requires-clause-clear c =
    let places = c.args.places.now in
    let all = rows_length places.fronts places.firsts places.value in
    c.requires.clear ∙ ap (λ (n : ℕ). replicate n false) (omega (arith, all))

pub loop-node-init : goal.loop-node-init
loop-node-init c = record {
  whole = refl;
  each = λ b below. sym (ap (λ (t : Bool). list_at c.args.ends.now.items b ++ (if t then c.args.value ∷ [] else [])) (and_false (has_mark c.args.wanted.now b))
      ∙ append-nil (list_at c.args.ends.now.items b));
}

pub loop-node-preserved : goal.loop-node-preserved
loop-node-preserved c =
    let items = c.as_slice-node-items.result.now in
    let i = c.loop-node.node-index in
    let once = subst StandsOnce (sym c.as_slice-node-items.ensures.value) c.in_ok-find_reached.ensures.found.once in
    record {
      whole = c.in_ok-add_end.ensures.whole ∙ c.loop-node.invariant.whole;
      each = λ b below. found_more (has_mark c.args.wanted.now b) c.args.value items i (get_or items i 0) b _ _ _ once (slice_get-get_or items i 0 c.loop-node-test.true) (c.loop-node.invariant.each b below)
          (c.in_ok-add_end.ensures.each b (let w = c.loop-node.invariant.whole in omega (arith, w, below)));
    }

pub returns-clause-added : goal.returns-clause-added
returns-clause-added c =
    let i = c.loop-node.node-index in
    let long = ap length c.as_slice-node-items.ensures.value in
    adds_found _ c.args.wanted.now c.args.starts.now c.find_reached.new.found.items c.args.value c.args.ends.now.items c.loop-node.ends.items i c.in_ok-find_reached.ensures.found
    (omega (arith, long, c.loop-node-test.false)) c.loop-node.invariant.whole
    (λ b below. c.loop-node.invariant.each b below
    ∙ ap (λ (xs : List ℕ). list_at c.args.ends.now.items b ++ (if has_mark c.args.wanted.now b && among b (take i xs) then c.args.value ∷ [] else [])) c.as_slice-node-items.ensures.value)
