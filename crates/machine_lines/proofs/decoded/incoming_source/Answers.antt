use Rattle.std.proofs.Common.{◌≡◌, List, true, false, sym, ap, ◌∙◌}
use Rattle.std.specs.Prelude.{slice_get}
use Rattle.sp_ids.specs.declared.ids.BlockId.{BlockId}
use Rattle.ir_ast.specs.declared.ops.Operand.{Operand}
use Rattle.ir_ast.specs.Objects.{number}
use Rattle.machine_lines.specs.declared.decoded.Source.{Source}
use Rattle.machine_lines.specs.Decoding.{found_word, source_at}
use Rattle.machine_lines.proofs.PhiLemmas.{incoming_first, incoming_second, is_from}
use Rattle.machine_lines.proofs.decoded.incoming_source.Goals as goal

pub returns-then-is_from : goal.returns-then-is_from
returns-then-is_from c = λ registers.
    let phi = c.args.phi.now in let from = c.args.from in
    let label : is_from (slice_get phi.labels 0) from ≡ true =
    ap (λ (labels : List BlockId). is_from (slice_get labels 0) from) (sym c.labels.ensures) ∙ sym c.is_from.ensures ∙ c.if-is_from.true in
    incoming_first registers phi from label
    ∙ ap (λ (source : Source). number (found_word registers source)) (ap (λ (operands : List Operand). source_at operands 0) (sym c.operands.ensures) ∙ sym c.source_at.ensures)

pub returns-then-is_from-2 : goal.returns-then-is_from-2
returns-then-is_from-2 c = λ registers.
    let phi = c.args.phi.now in let from = c.args.from in
    let label : is_from (slice_get phi.labels 0) from ≡ false =
    ap (λ (labels : List BlockId). is_from (slice_get labels 0) from) (sym c.labels.ensures) ∙ sym c.is_from.ensures ∙ c.if-is_from.false in
    let other : is_from (slice_get phi.labels 1) from ≡ true =
    ap (λ (labels : List BlockId). is_from (slice_get labels 1) from) (sym c.labels-else-is_from.ensures) ∙ sym c.is_from-else-is_from.ensures ∙ c.if-is_from-2.true in
    incoming_second registers phi from label other
    ∙ ap (λ (source : Source). number (found_word registers source))
    (ap (λ (operands : List Operand). source_at operands 1) (sym c.operands-then-is_from-2.ensures) ∙ sym c.source_at-then-is_from-2.ensures)
