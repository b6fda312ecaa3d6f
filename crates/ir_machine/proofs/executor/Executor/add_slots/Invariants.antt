use Rattle.std.proofs.Common.{◌≡◌, ◌++◌, map, drop}
use Rattle.machine_meaning.specs.Happenings.{changes_by_task}
use Rattle.machine_meaning.specs.Machines.{all_frames, all_stacks}
use Rattle.run_traces.specs.Changes.{change_of}
use Rattle.ir_machine.specs.Executors.{machinery, seen}
use Rattle.ir_machine.proofs.TraceLemmas.{frames, stacks}
use Rattle.ir_machine.proofs.executor.Executor.add_slots.Given as goal

abbrev pub invariant-loop-place : goal.invariant-loop-place
invariant-loop-place l =
    map change_of l.slots.items
    ++ changes_by_task (machinery l.program) l.self.heap.moves l.place
    (drop l.place (frames (machinery l.program) l.self.heap.moves l.self.tasks.items l.self.task l.self.run))
    (drop l.place (stacks (machinery l.program) l.self.heap.moves l.self.tasks.items l.self.task l.self.run))
    ≡ map change_of l.initial.slots.items ++ changes_by_task (machinery l.program) l.self.heap.moves 0 (all_frames (seen l.self)) (all_stacks (seen l.self))
