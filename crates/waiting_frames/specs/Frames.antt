-- Frames of an interpreter: the segment at which each stands, and its registers.
use Rattle.std.specs.Prelude.{List, [], ◌∷◌, map, take, drop}
use Rattle.flat_code.specs.Codes.{FlatModule, block_at, front_lines, exit_lines}
use Rattle.object_meaning.specs.Lines.{Line}
use Rattle.object_meaning.specs.States.{Frame}
use Rattle.object_store.specs.declared.words.Word.{Word}
use Rattle.object_store.specs.Words.{datum}
use Rattle.waiting_frames.specs.declared.frames.Spot.{Spot}
use Rattle.waiting_frames.specs.declared.frames.Saved.{Saved}

-- a frame of an interpreter
pub record Seen : Type 0 where
  pub spot : Spot
  pub registers : List Word

-- the frames below, newest first, whose registers these are
abbrev pub frames_below : List Saved → List Word → List Seen
frames_below [] registers = []
frames_below (saved ∷ others) registers =
    record { spot = saved.spot; registers = drop saved.base registers } ∷ frames_below others (take saved.base registers)

-- a frame at the front of its segment, and one at its exit, as each frame that waits
abbrev pub frame_at : FlatModule → Seen → List Line → Frame
frame_at code seen lines = record {
  func = seen.spot.func;
  block = block_at code seen.spot.func seen.spot.segment;
  rest = lines;
  registers = map datum seen.registers;
}

abbrev pub front_frame : FlatModule → Seen → Frame
front_frame code seen = frame_at code seen (front_lines code seen.spot.func seen.spot.segment)

abbrev pub exit_frame : FlatModule → Seen → Frame
exit_frame code seen = frame_at code seen (exit_lines code seen.spot.func seen.spot.segment)
