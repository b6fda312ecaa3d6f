use Rattle.std.proofs.Common.{◌∙◌, false, ap}
use Rattle.std.specs.Prelude.{Option}
use Rattle.std.specs.Option.{option_map_or}
use Rattle.ir_ast.specs.Insts.{Instruction}
use Rattle.ir_ast.specs.Ops.{is_terminator}
use Rattle.fold_tables.proofs.fold.ends.Goals as goal

pub returns-in-Some : goal.returns-in-Some
returns-in-Some c =
    let found = rw c.in-Some.is at c.last.ensures.value in
    c.is_terminator.ensures ∙ (ap is_terminator c.op.ensures ∙ ap (λ (o : Option Instruction). option_map_or (λ inst. is_terminator inst.op) o false) found)
