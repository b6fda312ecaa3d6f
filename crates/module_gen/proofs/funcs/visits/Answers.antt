use Rattle.std.proofs.Common.{◌++◌, ◌∷◌, [], List, ap, refl, ◌∙◌, arith}
use Rattle.ir_ast.specs.Insts.{Instruction}
use Rattle.generated_forms.proofs.Visits.{visits_step}
use Rattle.module_gen.proofs.funcs.visits.Goals as goal

pub loop-place-preserved : goal.loop-place-preserved
loop-place-preserved c =
    c.in_ok-push-3.ensures.items
    ∙ ap (λ (insts : List Instruction). insts ++ c.in_ok-write-3.field-0 ∷ []) c.in_ok-push-2.ensures.items
    ∙ visits_step c.loop-place.place _ _ _ _ _ _ c.loop-place.invariant refl (omega (arith, c.from.ensures)) (c.bytes.ensures ∙ c.in_ok-name.ensures)
    c.in_ok-write-2.ensures c.in_ok-write-3.ensures
