-- What the executor's state stands for, and what a step did.
use Rattle.std.specs.Prelude.{◌≡◌, ℕ, Bool, true, false, List, [], map, take, Option, Some, None}
use Rattle.sp_ids.specs.declared.ends.End.{End}
use Rattle.sp_ids.specs.declared.ends.End.TheVariants.{LostFrame}
use Rattle.ir_ast.specs.declared.ops.Op.{Op}
use Rattle.ir_ast.specs.declared.ops.Operand.{Operand}
use Rattle.ir_ast.specs.declared.ops.Callee.{Callee}
use Rattle.ir_ast.specs.Insts.{Instruction}
use Rattle.object_meaning.specs.Lines.{following}
use Rattle.object_meaning.specs.States.{Frame}
use Rattle.object_meaning.specs.Effects.{Effect, goes_on, prints, ends}
use Rattle.machine_meaning.specs.Words.{worded_operand}
use Rattle.machine_meaning.specs.Machines.{Machine, Machinery, spilled}
use Rattle.machine_meaning.specs.MachineSteps.{machine_acts, calls}
use Rattle.machine_meaning.specs.Code.{machinery_of}
use Rattle.machine_frames.specs.declared.tasks.Task.{Task}
use Rattle.machine_frames.specs.Frames.{frame_of, below_of, frames_of}
use Rattle.machine_lines.specs.Lines.{line_of, lines_left}
use Rattle.machine_lines.specs.Going.{still}
use Rattle.ir_machine.specs.declared.executor.Executor.{Executor}
use Rattle.ir_machine.specs.declared.executor.Program.{Program}
use Rattle.run_tasks.specs.declared.printing.Did.{Did}
use Rattle.run_tasks.specs.Dids.{effect_of}

-- the machinery of a module, a map and a plan
abbrev pub machinery : Program → Machinery
machinery program = machinery_of program.code program.map.whole program.plan.now program.bound

-- the frames and the words of a task, where there is one
abbrev pub waiting : Option Task → List Frame
waiting None = []
waiting (Some task) = frames_of task

abbrev pub kept : Option Task → List ℕ
kept None = []
kept (Some task) = task.stack

abbrev pub seen : Executor → Machine
seen executor = record {
  state = record {
    running = frame_of executor.run.frame;
    below = below_of executor.run;
    task = executor.task;
    tasks = map waiting executor.tasks.items;
    objects = [];
    input = executor.input.now;
    steps = executor.steps;
    events = executor.events;
  };
  stack = executor.run.stack;
  stacks = map kept executor.tasks.items;
  heap = still executor.heap;
}

-- where a frame was lost stacks are no matter: some are walked, and others not
abbrev pub without_words : Machine → Machine
without_words machine = record machine { stack = []; stacks = [] }

abbrev pub told_of : End → Machine → Machine
told_of LostFrame machine = without_words machine
told_of end machine = machine

abbrev pub told : Effect Machine → Effect Machine
told (ends end machine) = ends end (told_of end machine)
told effect = effect

-- what was done is this effect, and this is left
abbrev pub DoesSo : Effect Machine → Executor → Did → Type 0
DoesSo effect now did = told (effect_of did (seen now)) ≡ told effect

-- what the running frame does at an instruction
abbrev pub acts_at : Machinery → Executor → Instruction → List Instruction → Op → Effect Machine
acts_at machinery executor inst rest op =
    machine_acts machinery (seen executor) (line_of executor.run.frame.next inst)
    (lines_left (following executor.run.frame.next inst) rest) op

abbrev pub calls_at : Machinery → Executor → Instruction → List Instruction → Callee → List Operand → Effect Machine
calls_at machinery executor inst rest callee operands =
    calls machinery (seen executor) (line_of executor.run.frame.next inst)
    (lines_left (following executor.run.frame.next inst) rest) callee (map worded_operand operands)

-- behind a line that takes effect elsewhere
abbrev pub skipped_at : Executor → Instruction → List Instruction → Machine
skipped_at executor inst rest = record (seen executor) {
  state = record (seen executor).state {
    running = record (frame_of executor.run.frame) { rest = lines_left (following executor.run.frame.next inst) rest };
  };
}

-- the call of a statepoint with so many arguments
abbrev pub calls_kept : Machinery → Executor → Instruction → List Instruction → Callee → ℕ → Effect Machine
calls_kept machinery executor inst rest callee arguments =
    calls machinery (spilled (seen executor) (line_of executor.run.frame.next inst).inst arguments)
    (line_of executor.run.frame.next inst) (lines_left (following executor.run.frame.next inst) rest) callee
    (take arguments (map worded_operand inst.operands))

-- an effect that goes on to this machine, or nothing was done
abbrev pub GoesOnTo : Effect Machine → Machine → Bool → Machine → Type 0
GoesOnTo effect old true new = effect ≡ goes_on new
GoesOnTo effect old false new = new ≡ old
