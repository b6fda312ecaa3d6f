use Rattle.std.proofs.lemmas.Result.{IfOk-weaker}
use Rattle.run_tasks.specs.declared.printing.Did.{Did}
use Rattle.ir_meaning.specs.Machines.{rest_of, exit_from, state_of, today, Turned}
use Rattle.ir_meaning.proofs.MachineLemmas.{turned_behind}
use Rattle.ir_meaning.proofs.SegmentLemmas.{segment_passes, segment_still, segment_traps}
use Rattle.ir_meaning.proofs.machine.Machine.run_segment.Goals as goal

pub returns-in-Some-clause-turned : goal.returns-in-Some-clause-turned
returns-in-Some-clause-turned c =
    let now = c.args.self.now in
    segment_traps c.args.code.now c.args.plan.now c.args.bound now.stack c.run_lines.new.self (rest_of now) c.args.segment.now now.objects.layouts c.run_lines.new.objects.objects c.in-Some.trap
    c.requires.fits c.requires.layouts (rw c.as_slice.ensures.value at c.in-Some.ensures.done) c.in-Some.ensures.kept

pub returns-in-None-clause-turned : goal.returns-in-None-clause-turned
returns-in-None-clause-turned c =
    let code = c.args.code.now in let now = c.args.self.now in
    let setting = today code c.args.plan.now c.args.bound in
    let middle = exit_from code c.run_lines.new.self (record (rest_of now) { objects = c.run_lines.new.objects.objects }) in
    let passes = segment_passes code c.args.plan.now c.args.bound now.stack c.run_lines.new.self (rest_of now) c.args.segment.now now.objects.layouts c.run_lines.new.objects.objects
    c.requires.fits c.requires.layouts (rw c.as_slice.ensures.value at c.in-None.ensures.done) c.in-None.ensures.kept in
    let still = segment_still code now.stack.running.registers c.run_lines.new.self.running.registers now.objects.objects c.run_lines.new.objects.objects c.args.segment.now now.objects.layouts
    c.requires.layouts (rw c.as_slice.ensures.value at c.in-None.ensures.done) in
    IfOk-weaker c.leave.result (λ (did : Did). Turned setting middle did (state_of code c.leave.new.self)) (λ (did : Did). Turned setting (state_of code now) did (state_of code c.leave.new.self))
    (λ did turned. turned_behind setting (state_of code now) middle (state_of code c.leave.new.self) did passes still turned) c.leave.ensures.turned
