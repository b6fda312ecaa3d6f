use Rattle.std.proofs.Common.{sym, ◌∙◌}
use Rattle.std.specs.Prelude.{false}
use Rattle.ir_machine.specs.Executors.{machinery, seen}
use Rattle.ir_machine.proofs.TurnLemmas.{leads_quiet, leads_same, leads_then, went_far}
use Rattle.ir_machine.proofs.executor.Executor.turn_quiet.Goals as goal

pub loop-init : goal.loop-init
loop-init c = leads_same (machinery c.args.program.now) false (seen c.args.self.now)

pub loop-preserved : goal.loop-preserved
loop-preserved c =
    let program = c.args.program.now in let first = seen c.args.self.now in
    leads_quiet program.code (machinery program) c.in_ok-did.did first (seen c.fast_steps.new.self) (seen c.step.new.self) (sym c.is_shown.ensures ∙ c.if-is_shown.false)
    (leads_then program.code (machinery program) first (seen c.loop.self) (seen c.fast_steps.new.self) c.loop.invariant c.in_ok-fast_steps.ensures) c.in_ok-did.ensures

pub returns-then-is_shown : goal.returns-then-is_shown
returns-then-is_shown c =
    let program = c.args.program.now in let first = seen c.args.self.now in
    went_far program.code (machinery program) first (seen c.fast_steps.new.self) (seen c.step.new.self) c.in_ok-did.did
    (leads_then program.code (machinery program) first (seen c.loop.self) (seen c.fast_steps.new.self) c.loop.invariant c.in_ok-fast_steps.ensures) c.in_ok-did.ensures
