use Rattle.std.proofs.Common.{arith}
use Rattle.std.proofs.lemmas.Option.{slice_get-get_or}
use Rattle.ir_verify.specs.FunctionFaults.{LabelAt}
use Rattle.ir_verify.proofs.Founds.{notes-step, notes-all, notes-at_line, equal-iff}
use Rattle.ir_verify.proofs.insts.note_labels.Goals as goal

pub loop-part-preserved : goal.loop-part-preserved
loop-part-preserved c =
    notes-step (LabelAt c.args.line c.args.cases.now) c.args.labels.now c.loop-part.part _ c.args.first.now.found c.loop-part.first.found
    c.note_if.new.self.found (slice_get-get_or c.args.labels.now c.loop-part.part _ c.loop-part-test.true) c.loop-part.invariant
    (notes-at_line c.part_line.result _ 6 _ _ c.loop-part.first.found c.note_if.new.self.found c.part_line.ensures (equal-iff _ 0) c.note_if.ensures)

pub returns : goal.returns
returns c =
    notes-all (LabelAt c.args.line c.args.cases.now) c.args.labels.now c.loop-part.part c.args.first.now.found c.loop-part.first.found
    (omega arith) c.loop-part.invariant
