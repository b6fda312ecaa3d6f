use Rattle.std.proofs.Common.{◌∙◌, ◌+◌, ◌++◌, ◌&&◌, ◌∷◌, [], if◌then◌else◌, ℕ, Bool, List, length, take, get_or, replicate, false, refl, ap, sym, arith, subst, append-nil}
use Rattle.std.proofs.lemmas.Bool.{true≢false}
use Rattle.std.proofs.lemmas.Bool.Decides.{nat_tests}
use Rattle.std.proofs.lemmas.Option.{slice_get-get_or}
use Rattle.rewriting_forms.specs.Numbered.{among}
use Rattle.rewriting_forms.specs.Names.{is_many}
use Rattle.live_sets.specs.Starts.{list_at}
use Rattle.live_sets.proofs.EndLemmas.{rows_length}
use Rattle.live_sets.proofs.FoundLemmas.{StandsOnce, found_more, joins_found, join_grown}
use Rattle.live_sets.proofs.JoinLaws.{joins_none, none_wanted, none_marked}
use Rattle.live_sets.proofs.phis.add_joins.Goals as goal
use Rattle.list_laws.proofs.Booleans.{and_false}

pub returns-then-not-wanted-clause-added : goal.returns-then-not-wanted-clause-added
returns-then-not-wanted-clause-added c =
    joins_none _ _ _ _ c.args.value [] c.args.wanted c.args.joins.now.items (none_wanted c.args.wanted) (λ is. absurd (true≢false (sym is ∙ c.if-not-wanted.true)))

pub returns-then-is_empty-clause-added : goal.returns-then-is_empty-clause-added
returns-then-is_empty-clause-added c =
    none_marked _ _ _ c.args.starts.now c.args.value c.args.wanted c.args.joins.now.items (grind (arith, nat_tests, c.is_empty.ensures, c.if-is_empty.true))

pub find_reached-requires-clause-inside : goal.find_reached-requires-clause-inside
find_reached-requires-clause-inside c = c.requires.inside c.if-not-wanted.false

pub find_reached-requires-clause-clear : goal.find_reached-requires-clause-clear
find_reached-requires-clause-clear c =
    let places = c.args.places.now in
    let all = rows_length places.fronts places.firsts places.value in
    c.requires.clear ∙ ap (λ (n : ℕ). replicate n false) (omega (arith, all))

pub loop-node-init : goal.loop-node-init
loop-node-init c = record {
  whole = refl;
  each = λ b below. sym (ap (λ (t : Bool). list_at c.args.joins.now.items b ++ (if t then c.args.value ∷ [] else [])) (and_false (is_many (get_or c.args.places.now.fronts b [])))
      ∙ append-nil (list_at c.args.joins.now.items b));
}

pub loop-node-preserved : goal.loop-node-preserved
loop-node-preserved c =
    let items = c.as_slice-node-items.result.now in
    let i = c.loop-node.node-index in
    let once = subst StandsOnce (sym c.as_slice-node-items.ensures.value) c.in_ok-find_reached.ensures.found.once in
    let fronts = c.args.places.now.fronts in
    record {
      whole = c.in_ok-add_join.ensures.whole ∙ c.loop-node.invariant.whole;
      each = λ b below. found_more (is_many (get_or fronts b [])) c.args.value items i (get_or items i 0) (length c.args.joins.now.items + b) _ _ _
          once (slice_get-get_or items i 0 c.loop-node-test.true) (c.loop-node.invariant.each b below)
          (join_grown fronts (get_or items i 0) (length c.args.joins.now.items) (length c.loop-node.joins.items) b c.args.value _ _ c.loop-node.invariant.whole
          (c.in_ok-add_join.ensures.each b (let w = c.loop-node.invariant.whole in omega (arith, w, below))));
    }

pub returns-clause-added : goal.returns-clause-added
returns-clause-added c =
    let i = c.loop-node.node-index in
    let long = ap length c.as_slice-node-items.ensures.value in
    joins_found _ c.args.places.now.fronts (length c.args.joins.now.items) c.args.starts.now c.find_reached.new.found.items c.args.wanted c.args.value c.args.joins.now.items c.loop-node.joins.items i
    c.in_ok-find_reached.ensures.found (omega (arith, long, c.loop-node-test.false)) c.if-not-wanted.false c.loop-node.invariant.whole
    (λ b below. c.loop-node.invariant.each b below
    ∙ ap (λ (xs : List ℕ). list_at c.args.joins.now.items b
    ++ (if is_many (get_or c.args.places.now.fronts b []) && among (length c.args.joins.now.items + b) (take i xs) then c.args.value ∷ [] else []))
    c.as_slice-node-items.ensures.value)
