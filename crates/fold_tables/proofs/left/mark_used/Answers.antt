use Rattle.std.proofs.Common.{List, map, inl, inr, ap, subst}
use Rattle.std.specs.List.{Contains}
use Rattle.std.proofs.lemmas.List.Elements.{Contains-append_left, Contains-append_right}
use Rattle.ir_ast.specs.declared.types.Ty.{Ty}
use Rattle.ir_ast.specs.declared.ops.Operand.{Operand}
use Rattle.ir_ast.specs.Operands.{named}
use Rattle.fold_tables.proofs.CheckLaws.{used_from}
use Rattle.fold_tables.proofs.left.mark_used.Goals as goal

pub returns : goal.returns
returns c = λ value marked.
    let inst = c.args.inst.now in
    let bundled : List (Ty × Operand) → List Operand = map (λ entry. entry.1) in
    elim (c.mark_entries.ensures value marked) [
      | inl before ↦ elim (c.mark_operands.ensures value before) [
        | inl at_first ↦ inl at_first
        | inr used ↦ inr (
          used_from inst value (Contains-append_left inst.operands (bundled inst.bundle) (named value) (subst (λ (os : List Operand). Contains os (named value)) c.operands.ensures used.0)),
          used.1,
        )
      ]
      | inr used ↦ inr (
        used_from inst value (Contains-append_right inst.operands (bundled inst.bundle) (named value)
            (subst (λ (os : List Operand). Contains os (named value)) (ap bundled c.bundle.ensures) used.0)),
        used.1,
      )
    ]
