use Rattle.std.proofs.Common.{sym, ◌∙◌}
use Rattle.ir_machine.specs.Executors.{machinery}
use Rattle.ir_machine.proofs.AccessLemmas.{check_past_is}
use Rattle.ir_machine.proofs.StepLemmas.{does_as}
use Rattle.ir_machine.proofs.executor.Executor.check_past.Goals as goal

pub returns-in-Ok : goal.returns-in-Ok
returns-in-Ok c =
    let now = c.args.self.now in
    does_as c.pass.new.self c.pass.result _ _
    (check_past_is (machinery c.args.program.now) now c.args.inst.now c.args.rest.insts.now c.args.operands.now c.first-base.result c.second-place.result c.third.result c.cell_named-kind.result
    c.requires.stands c.requires.plain c.first-base.ensures c.second-place.ensures c.third.ensures c.cell_named-kind.ensures (sym c.in-Ok.is ∙ c.check.ensures)) c.pass.ensures
