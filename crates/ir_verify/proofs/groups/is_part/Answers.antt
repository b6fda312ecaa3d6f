use Rattle.std.proofs.Common.{◌∙◌, ◌≡◌, ap, sym, List}
use Rattle.std.specs.Prelude.{slice_get}
use Rattle.ir_ast.specs.declared.ops.Operand.{Operand}
use Rattle.ir_ast.specs.declared.ops.Op.TheVariants.{GcResult, GcRelocate}
use Rattle.ir_verify.specs.Groups.{is_value_of}
use Rattle.ir_verify.proofs.GroupLemmas.{part-result, part-relocate}
use Rattle.ir_verify.proofs.groups.is_part.Goals as goal

pub returns-in-GcResult : goal.returns-in-GcResult
returns-in-GcResult c =
    let op : c.args.inst.now.op ≡ GcResult = sym c.op.ensures ∙ c.in-GcResult.is in
    c.starts_with.ensures ∙ ap (λ (os : List Operand). is_value_of c.args.token (slice_get os 0)) c.operands-operands.ensures
    ∙ part-result c.args.token c.args.inst.now op

pub returns-in-GcRelocate : goal.returns-in-GcRelocate
returns-in-GcRelocate c =
    let op : c.args.inst.now.op ≡ GcRelocate = sym c.op.ensures ∙ c.in-GcRelocate.is in
    c.starts_with-in-GcRelocate.ensures ∙ ap (λ (os : List Operand). is_value_of c.args.token (slice_get os 0)) c.operands-operands.ensures
    ∙ part-relocate c.args.token c.args.inst.now op
