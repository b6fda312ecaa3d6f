-- What a frame stands for: a frame of the address machine, whose registers hold words.
use Rattle.std.specs.Prelude.{ℕ, ◌+◌, ◌-◌, ◌<◌, ◌^◌, Bool, true, false, List, ◌∷◌, ◌++◌, length, map, filter, drop, replicate, reverse}
use Rattle.ir_ast.specs.declared.ops.Op.{Op}
use Rattle.ir_ast.specs.declared.ops.Op.TheVariants.{Statepoint}
use Rattle.ir_ast.specs.Insts.{Instruction}
use Rattle.ir_ast.specs.Modules.{ModuleContent}
use Rattle.ir_ast.specs.Objects.{Datum, number}
use Rattle.object_meaning.specs.Lines.{Line, first_register, insts_of, register_count}
use Rattle.object_meaning.specs.Numbers.{width_of, sign_extended}
use Rattle.object_meaning.specs.Registers.{nothing, value, number_in, Write}
use Rattle.object_meaning.specs.States.{Frame}
use Rattle.frame_forms.specs.FrameSizes.{is_named_integer}
use Rattle.machine_lines.specs.Lines.{line_of, lines_left}
use Rattle.machine_frames.specs.declared.frames.Frame.{Frame as Standing}
use Rattle.machine_frames.specs.declared.frames.Move.{Move}
use Rattle.machine_frames.specs.declared.tasks.Task.{Task}

abbrev pub lines_in : ModuleContent → ℕ → ℕ → List Line
lines_in content func block = lines_left (first_register content func block) (insts_of content func block)

abbrev pub frame_of : Standing → Frame
frame_of frame = record {
  func = frame.func;
  block = frame.block;
  rest = lines_left frame.next frame.rest.insts.now;
  registers = map number frame.registers.items;
}

-- the results that are left of its block have registers below 2^64
abbrev pub CanGoOn : Standing → Type 0
CanGoOn frame = frame.next + length frame.rest.insts.now < 2 ^ 64

-- the first frame of a call
abbrev pub entered_in : ModuleContent → ℕ → List Datum → Frame
entered_in content func arguments = record {
  func = func;
  block = 0;
  rest = lines_in content func 0;
  registers = arguments ++ replicate (register_count content func - length arguments) nothing;
}

-- what a statepoint with so many arguments keeps in its frame's slots
abbrev pub kept_in : List Datum → Instruction → ℕ → List ℕ
kept_in registers inst arguments =
    map (λ operand. number_in (value registers operand)) (drop arguments (line_of 0 inst).inst.operands)
    ++ map (λ entry. sign_extended (width_of entry.0) 64 (number_in (value registers entry.1)))
    (filter (λ entry. is_named_integer entry.0 entry.1) inst.bundle)

-- what a move writes
abbrev pub write_of : Move → Write
write_of move = record { to = move.to; value = number move.word }

-- the frames of a task, the newest first
abbrev pub below_of : Task → List Frame
below_of task = map frame_of (reverse task.below.items)

abbrev pub frames_of : Task → List Frame
frames_of task = frame_of task.frame ∷ below_of task
