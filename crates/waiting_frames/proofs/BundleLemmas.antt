-- The bundle of the line at which a frame stands, and the line that shows it.
use Rattle.std.proofs.Common.{◌≡◌, ℕ, zero, suc, true, false, List, [], ◌∷◌, ◌++◌, map, drop, refl, sym, ap, ◌∙◌, append-nil, append_assoc}
use Rattle.std.proofs.Math.Dec.{eqb-suc-zero}
use Rattle.std.proofs.lemmas.Bool.{true≢false}
use Rattle.std.specs.Prelude.{Bool, ◌==◌, not, length, slice_get, if◌then◌else◌, codes, decimal}
use Rattle.std.specs.List.{concat, flat_map}
use Rattle.std.specs.Option.{option_map_or}
use Rattle.ir_ast.specs.declared.types.Ty.{Ty}
use Rattle.ir_ast.specs.declared.ops.Operand.{Operand}
use Rattle.ir_ast.specs.Insts.{Instruction}
use Rattle.object_meaning.specs.Lines.{Line, poll, numbered, following, retreats, lines_from}
use Rattle.object_meaning.specs.Registers.{value}
use Rattle.object_meaning.specs.Texts.{shown, bundle_line, bundle_of, function_name}
use Rattle.object_store.specs.declared.words.Word.{Word}
use Rattle.object_store.specs.Words.{datum}
use Rattle.flat_code.specs.Codes.{FlatModule, exit_lines}
use Rattle.flat_code.specs.declared.spots.Due.{Due}
use Rattle.flat_code.specs.declared.spots.Due.TheVariants.{Front, Line as Next, Behind}
use Rattle.flat_code.specs.Spots.{lines_due}
use Rattle.piece_writer.specs.Lists.{led}
use Rattle.waiting_frames.specs.Frames.{Seen, exit_frame}
use Rattle.waiting_frames.specs.Shown.{frame_lines, frame_text, bundle_text, is_at_instruction}

-- ---- where a frame stands

abbrev bundle_if : Due → ℕ → Instruction → List (Ty × Operand)
bundle_if due block inst = if is_at_instruction due block inst then inst.bundle else []

polled : (polls : Bool) (line : Line) (rest : List Line)
    → bundle_of ((if polls then poll ∷ [] else []) ++ line ∷ rest) ≡ (if not polls then line.inst.bundle else [])
polled true line rest = refl
polled false line rest = refl

bundle_here : (due : Due) (block next : ℕ) (inst : Instruction) (insts : List Instruction)
    → bundle_of (lines_due due block next (inst ∷ insts)) ≡ bundle_if due block inst
bundle_here Front block next inst insts = refl
bundle_here Next block next inst insts = polled (retreats block inst) (numbered next inst) (lines_from block (following next inst) insts)
bundle_here Behind block next inst insts = refl

bundle_nowhere : (due : Due) (block next : ℕ) → bundle_of (lines_due due block next []) ≡ []
bundle_nowhere Front block next = refl
bundle_nowhere Next block next = refl
bundle_nowhere Behind block next = refl

pub bundle_is : (due : Due) (block next at : ℕ) (insts : List Instruction)
    → bundle_of (lines_due due block next (drop at insts)) ≡ option_map_or (bundle_if due block) (slice_get insts at) []
bundle_is due block next zero [] = bundle_nowhere due block next
bundle_is due block next (suc at) [] = bundle_nowhere due block next
bundle_is due block next zero (inst ∷ insts) = bundle_here due block next inst insts
bundle_is due block next (suc at) (inst ∷ insts) = bundle_is due block next at insts

-- ---- its line

led_is : {A : Type 0} (separator : List ℕ) (text : A → List ℕ) (list : List A)
    → led separator (map text list) ≡ flat_map (λ each. separator ++ text each) list
led_is separator text [] = refl
led_is separator text (one ∷ list) = ap (λ (rest : List ℕ). separator ++ text one ++ rest) (led_is separator text list)

nested : (one two three four five six : List ℕ) → one ++ two ++ three ++ four ++ five ++ six ≡ one ++ (two ++ (three ++ (four ++ (five ++ six))))
nested one two three four five six = simp append_assoc refl

abbrev values : List Word → Ty × Operand → List ℕ
values registers entry = shown entry.0 (value (map datum registers) entry.1)

pub frame_lines_are : (code : FlatModule) (number : ℕ) (seen : Seen) (entry : Ty × Operand) (entries : List (Ty × Operand))
    → bundle_of (exit_lines code seen.spot.func seen.spot.segment) ≡ entry ∷ entries
    → frame_lines code number (exit_frame code seen)
    ≡ bundle_text number (function_name code.content seen.spot.func) seen.registers (entry ∷ entries) ∷ []
frame_lines_are code number seen entry entries bundle =
    let name = function_name code.content seen.spot.func in
    let shows = flat_map (λ (each : Ty × Operand). codes " " ++ values seen.registers each) (entry ∷ entries) in
    rw bundle
    (ap (λ (line : List ℕ). line ∷ [])
    (nested (codes "! ") (decimal number) (codes " @") name shows (codes "\n")
    ∙ ap (λ (texts : List ℕ). codes "! " ++ (decimal number ++ (codes " @" ++ (name ++ (texts ++ codes "\n"))))) (sym (led_is (codes " ") (values seen.registers) (entry ∷ entries)))))

-- where the bundle has an entry there is one line, and else none
pub shown_lines : (code : FlatModule) (number : ℕ) (seen : Seen) (bundle : List (Ty × Operand))
    → bundle ≡ bundle_of (exit_lines code seen.spot.func seen.spot.segment) → false ≡ (length bundle == 0)
    → bundle_text number (function_name code.content seen.spot.func) seen.registers bundle ∷ [] ≡ frame_lines code number (exit_frame code seen)
shown_lines code number seen [] is some = absurd (cc)
shown_lines code number seen (entry ∷ entries) is some = sym (frame_lines_are code number seen entry entries (sym is))

pub no_lines : (code : FlatModule) (number : ℕ) (seen : Seen) (bundle : List (Ty × Operand))
    → bundle ≡ bundle_of (exit_lines code seen.spot.func seen.spot.segment) → true ≡ (length bundle == 0)
    → [] ≡ frame_lines code number (exit_frame code seen)
no_lines code number seen [] is none =
    ap (bundle_line (function_name code.content) number (exit_frame code seen)) is
no_lines code number seen (entry ∷ entries) is none = absurd (true≢false (none ∙ eqb-suc-zero (length entries)))

pub shown_line : (code : FlatModule) (number : ℕ) (seen : Seen) (bundle : List (Ty × Operand))
    → bundle ≡ bundle_of (exit_lines code seen.spot.func seen.spot.segment) → false ≡ (length bundle == 0)
    → bundle_text number (function_name code.content seen.spot.func) seen.registers bundle ≡ frame_text code number (exit_frame code seen)
shown_line code number seen bundle is some =
    sym (append-nil (bundle_text number (function_name code.content seen.spot.func) seen.registers bundle))
    ∙ ap concat (shown_lines code number seen bundle is some)
