use Rattle.std.proofs.Common.{arith}
use Rattle.ir_verify.specs.FunctionFaults.{FunctionAt}
use Rattle.ir_verify.proofs.Founds.{notes-step, notes-all}
use Rattle.ir_verify.proofs.verify.note_functions.Goals as goal
use Rattle.list_laws.proofs.Places.{get_read}

pub loop-number-preserved : goal.loop-number-preserved
loop-number-preserved c =
    notes-step (FunctionAt c.args.module.now.content c.args.cases.now) c.args.funcs.now c.loop-number.number c.index-funcs-number.result
    c.args.first.now.found c.loop-number.first.found c.note_function.new.first.found
    (get_read c.args.funcs.now c.loop-number.number c.index-funcs-number.result c.loop-number-test.true c.index-funcs-number.is)
    c.loop-number.invariant c.in_ok-note_function.ensures

pub returns : goal.returns
returns c =
    notes-all (FunctionAt c.args.module.now.content c.args.cases.now) c.args.funcs.now c.loop-number.number c.args.first.now.found c.loop-number.first.found
    (omega arith) c.loop-number.invariant
