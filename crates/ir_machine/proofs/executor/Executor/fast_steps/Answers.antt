use Rattle.std.proofs.Common.{Bool, subst}
use Rattle.std.specs.Prelude.{false}
use Rattle.machine_meaning.specs.MachineSteps.{machine_step}
use Rattle.ir_machine.specs.Executors.{GoesOnTo, machinery, seen}
use Rattle.ir_machine.proofs.TurnLemmas.{leads_fast, leads_kept, leads_over, leads_same}
use Rattle.ir_machine.proofs.executor.Executor.fast_steps.Goals as goal

pub loop-init : goal.loop-init
loop-init c = leads_same (machinery c.args.program.now) false (seen c.args.self.now)

pub loop-preserved : goal.loop-preserved
loop-preserved c =
    let program = c.args.program.now in let first = seen c.args.self.now in
    leads_fast program.code (machinery program) first (seen c.go_over.new.self) (seen c.fast_step.new.self)
    (leads_over program.code (machinery program) false first (seen c.loop.self) (seen c.go_over.new.self) c.loop.invariant c.go_over.ensures.over)
    (subst (λ (went : Bool). GoesOnTo (machine_step (machinery program) (seen c.go_over.new.self)) (seen c.go_over.new.self) went (seen c.fast_step.new.self)) c.if-not-went.false c.in_ok-went.ensures)

pub returns-then-not-went : goal.returns-then-not-went
returns-then-not-went c =
    let program = c.args.program.now in let first = seen c.args.self.now in
    leads_kept program.code (machinery program) first (seen c.go_over.new.self) (seen c.fast_step.new.self)
    (leads_over program.code (machinery program) false first (seen c.loop.self) (seen c.go_over.new.self) c.loop.invariant c.go_over.ensures.over)
    (subst (λ (went : Bool). GoesOnTo (machine_step (machinery program) (seen c.go_over.new.self)) (seen c.go_over.new.self) went (seen c.fast_step.new.self)) c.if-not-went.true c.in_ok-went.ensures)
