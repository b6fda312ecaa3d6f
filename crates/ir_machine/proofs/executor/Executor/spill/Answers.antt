use Rattle.std.proofs.Common.{◌≡◌, map, ap}
use Rattle.std.proofs.lemmas.Result.{on_ok_weaker}
use Rattle.ir_ast.specs.Objects.{number}
use Rattle.machine_meaning.specs.Machines.{over}
use Rattle.machine_frames.specs.declared.tasks.Task.{Task}
use Rattle.machine_frames.specs.Frames.{kept_in}
use Rattle.ir_machine.specs.Executors.{seen}
use Rattle.ir_machine.proofs.executor.Executor.spill.Goals as goal

pub returns-clause-spilled : goal.returns-clause-spilled
returns-clause-spilled c =
    let now = c.args.self.now in
    let kept : Task = record now.run { stack = over (kept_in (map number now.run.frame.registers.items) c.args.inst.now c.args.arguments) now.run.stack } in
    on_ok_weaker c.keep.result
    (λ (e : c.keep.new.self ≡ kept). ap (λ (run : Task). seen (record now { run = run })) e) c.keep.ensures
