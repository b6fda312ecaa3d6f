use Rattle.std.proofs.Common.{◌∙◌, ◌≡◌, ◌++◌, ◌∷◌, [], ℕ, List, map, take, eqb, ◌+◌, ◌||◌, ap, subst}
use Rattle.std.proofs.lemmas.List.{take_more, take_all, map-append}
use Rattle.rewriting_forms.specs.Numbered.{among}
use Rattle.statepoint_insert.specs.declared.groups.Relocate.{Relocate}
use Rattle.ssa_rebuild.specs.Marks.{MarksMore}
use Rattle.ssa_rebuild.proofs.MarkLemmas.{marks_none, marks_both, any_push}
use Rattle.ssa_rebuild.proofs.listed.mark_all.Goals as goal

pub loop-relocate-init : goal.loop-relocate-init
loop-relocate-init c = marks_none c.args.marks.now.items

more : (v : ℕ) (rs : List Relocate) (i : ℕ) (x : Relocate) → take (i + 1) rs ≡ take i rs ++ x ∷ []
    → among v (map (λ relocate. relocate.value.0) (take (i + 1) rs)) ≡ (among v (map (λ relocate. relocate.value.0) (take i rs)) || eqb x.value.0 v)
more v rs i x is =
    ap (λ (xs : List Relocate). among v (map (λ relocate. relocate.value.0) xs)) is
    ∙ ap (among v) (map-append (λ (relocate : Relocate). relocate.value.0) (take i rs) (x ∷ []))
    ∙ any_push (λ (y : ℕ). eqb y v) (map (λ relocate. relocate.value.0) (take i rs)) x.value.0

pub loop-relocate-preserved : goal.loop-relocate-preserved
loop-relocate-preserved c =
    let i = c.loop-relocate.relocate-index in
    marks_both c.args.marks.now.items c.loop-relocate.marks.items c.mark.new.marks.items _ _ _ c.loop-relocate.invariant c.in_ok-mark.ensures
    (λ v. more v c.args.relocates.now i _ (take_more c.args.relocates.now i _ c.loop-relocate-test.true))

pub returns : goal.returns
returns c = subst (λ (rs : List Relocate). MarksMore c.args.marks.now.items c.loop-relocate.marks.items (λ v. among v (map (λ relocate. relocate.value.0) rs)))
    (take_all c.loop-relocate.relocate-index c.args.relocates.now c.loop-relocate-test.false) c.loop-relocate.invariant
