use Rattle.std.proofs.Common.{map, take}
use Rattle.rewriting_forms.specs.Numbered.{among}
use Rattle.ssa_rebuild.specs.Marks.{MarksMore}
use Rattle.ssa_rebuild.proofs.listed.mark_all.Given as goal

abbrev pub invariant-loop-relocate : goal.invariant-loop-relocate
invariant-loop-relocate l = MarksMore l.initial.marks.items l.marks.items (λ v. among v (map (λ relocate. relocate.value.0) (take l.relocate-index l.relocates)))
