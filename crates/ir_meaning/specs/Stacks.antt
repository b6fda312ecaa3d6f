-- What the interpreter does to the frames of a task.
use Rattle.std.specs.Prelude.{ℕ, ◌+◌, ◌-◌, List, ◌∷◌, ◌++◌, length, map, replicate, fold, Option, slice_get, slice_index_or}
use Rattle.std.specs.Option.{option_map_or}
use Rattle.ir_ast.specs.declared.ops.Operand.{Operand}
use Rattle.ir_ast.specs.declared.ops.Operand.TheVariants.{Value, Int, Null, Fun}
use Rattle.flat_code.specs.declared.lines.Copied.{Copied}
use Rattle.object_store.specs.declared.words.Word.{Word}
use Rattle.object_store.specs.Words.{number_word, pointer_word}
use Rattle.object_meaning.specs.Registers.{put}
use Rattle.waiting_frames.specs.declared.frames.Spot.{Spot}
use Rattle.waiting_frames.specs.Frames.{Seen}
use Rattle.ir_meaning.specs.declared.stacks.Move.{Move}

-- the frames of a task, the running one first
pub record Frames : Type 0 where
  pub running : Seen
  pub below : List Seen

-- what follows the exit of a segment
abbrev pub passed_spot : Spot → Spot
passed_spot spot = record spot { segment = spot.segment + 1 }

abbrev pub passed_frame : Seen → Option ℕ → Word → Seen
passed_frame seen to result = record { spot = passed_spot seen.spot; registers = put to result seen.registers }

-- what an operand of a frame with these registers is
abbrev pub word : List Word → Operand → Word
word registers (Value id) = slice_index_or registers id.0 (number_word 0)
word registers (Int literal) = number_word literal
word registers Null = pointer_word 0 0
word registers (Fun func) = number_word 0

abbrev pub word_at : List Word → List Operand → ℕ → Word
word_at registers operands place = option_map_or (word registers) (slice_get operands place) (number_word 0)

-- a new frame with these operands of the running one as its first registers
abbrev pub entered_frames : Frames → Spot → List Operand → ℕ → Frames
entered_frames frames spot operands count = record {
  running = record {
    spot = spot;
    registers = map (word frames.running.registers) operands ++ replicate (count - length operands) (number_word 0);
  };
  below = frames.running ∷ frames.below;
}

-- what copies assign, all read before any is written
abbrev pub move_of : List Word → Copied → Move
move_of registers copy = record { to = copy.to; word = word registers copy.from }

abbrev pub moved : List Move → List Word → List Word
moved moves registers = fold (λ rest move. put move.to move.word rest) registers moves

abbrev pub arrived_frames : Frames → List Copied → Spot → Frames
arrived_frames frames copies spot = record frames {
  running = record { spot = spot; registers = moved (map (move_of frames.running.registers) copies) frames.running.registers };
}
