use Rattle.std.proofs.Common.{List, subst}
use Rattle.std.specs.List.{All}
use Rattle.ir_ast.specs.declared.types.Ty.{Ty}
use Rattle.ir_ast.specs.declared.ops.Operand.{Operand}
use Rattle.fold_tables.specs.Checks.{StaysIn, UsesStay}
use Rattle.fold_tables.proofs.CheckLaws.{uses_stay_from}
use Rattle.fold_tables.proofs.ListLaws.{on_true_weaker}
use Rattle.fold_tables.proofs.thinning.uses_stay.Goals as goal

pub returns-then-operands_stay : goal.returns-then-operands_stay
returns-then-operands_stay c =
    let table = c.args.table.now in
    let inst = c.args.inst.now in
    let Stay : List (Ty × Operand) → Type 0 = All (λ entry. StaysIn table entry.1) in
    on_true_weaker c.entries_stay.result (Stay c.bundle.result.now) (UsesStay table inst)
    (λ entries. uses_stay_from table inst (subst (λ (os : List Operand). All (StaysIn table) os) c.operands.ensures c.if-operands_stay.ensures) (subst Stay c.bundle.ensures entries))
    c.entries_stay.ensures
