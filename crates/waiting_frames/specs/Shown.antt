-- What frames that wait show at a trap.
use Rattle.std.specs.Prelude.{ℕ, Bool, true, false, not, List, ◌++◌, map, codes, decimal}
use Rattle.std.specs.List.{concat}
use Rattle.ir_ast.specs.declared.types.Ty.{Ty}
use Rattle.ir_ast.specs.declared.ops.Operand.{Operand}
use Rattle.ir_ast.specs.Insts.{Instruction}
use Rattle.piece_writer.specs.Lists.{led}
use Rattle.object_meaning.specs.Lines.{retreats}
use Rattle.object_meaning.specs.States.{Frame}
use Rattle.object_meaning.specs.Registers.{value}
use Rattle.object_meaning.specs.Texts.{shown, function_name, bundle_of, bundle_line, bundle_lines}
use Rattle.flat_code.specs.declared.spots.Due.{Due}
use Rattle.flat_code.specs.declared.spots.Due.TheVariants.{Front, Line as Next, Behind}
use Rattle.flat_code.specs.Codes.{FlatModule}
use Rattle.object_store.specs.declared.words.Word.{Word}
use Rattle.object_store.specs.Words.{datum}
use Rattle.waiting_frames.specs.Frames.{Seen, exit_frame}

-- what frames that wait show, the newest first, which has this number, and what one of them shows
abbrev pub frames_lines : FlatModule → ℕ → List Seen → List (List ℕ)
frames_lines code number seens = bundle_lines (function_name code.content) number (map (exit_frame code) seens)

abbrev pub frame_lines : FlatModule → ℕ → Frame → List (List ℕ)
frame_lines code number frame = bundle_line (function_name code.content) number frame (bundle_of frame.rest)

-- their texts
abbrev pub frames_text : FlatModule → ℕ → List Seen → List ℕ
frames_text code number seens = concat (frames_lines code number seens)

abbrev pub frame_text : FlatModule → ℕ → Frame → List ℕ
frame_text code number frame = concat (frame_lines code number frame)

-- the line of a frame of a function with this name, whose call has this bundle, piece by piece
abbrev pub bundle_text : ℕ → List ℕ → List Word → List (Ty × Operand) → List ℕ
bundle_text number name registers bundle =
    codes "! "
    ++ (decimal number
    ++ (codes " @" ++ (name ++ (led (codes " ") (map (λ entry. shown entry.0 (value (map datum registers) entry.1)) bundle) ++ codes "\n"))))

-- whether the line at which a frame stands is the instruction there, and no poll before it
abbrev pub is_at_instruction : Due → ℕ → Instruction → Bool
is_at_instruction Front block inst = false
is_at_instruction Next block inst = not (retreats block inst)
is_at_instruction Behind block inst = true
