-- What a run writes besides the numbers that it prints: at a trap a line for each waiting frame of the running task that
-- shows the values of its call's bundle.
use Rattle.std.specs.Prelude.{ℕ, ◌+◌, ◌==◌, if◌then◌else◌, List, [], ◌∷◌, ◌++◌, codes, decimal, slice_get}
use Rattle.std.specs.List.{flat_map}
use Rattle.std.specs.Option.{option_map_or}
use Rattle.std.specs.Fmt.{signed_decimal}
use Rattle.sp_ids.specs.Numbers.{signed}
use Rattle.sp_ids.specs.declared.ends.End.{End}
use Rattle.sp_ids.specs.declared.ends.End.TheVariants.{Trap}
use Rattle.ir_ast.specs.declared.types.Ty.{Ty}
use Rattle.ir_ast.specs.declared.types.Ty.TheVariants.{Void, Int, Ptr, Token}
use Rattle.ir_ast.specs.declared.ops.Operand.{Operand}
use Rattle.ir_ast.specs.Modules.{ModuleContent}
use Rattle.ir_ast.specs.Objects.{Pointer, Datum}
use Rattle.object_meaning.specs.Lines.{Line}
use Rattle.object_meaning.specs.Numbers.{width_of}
use Rattle.object_meaning.specs.Registers.{value, number_in, pointer_in}
use Rattle.object_meaning.specs.States.{Frame, State}
use Rattle.object_meaning.specs.Effects.{newline}

-- a pointer with an object is `OBJECT+OFFSET`, one without its offset
abbrev pub shown_pointer : Pointer → List ℕ
shown_pointer to =
    if to.object == 0 then signed_decimal (signed 64 to.offset) else decimal to.object ++ codes "+" ++ decimal to.offset

-- what a value of a type is shown as
abbrev pub shown : Ty → Datum → List ℕ
shown Ptr datum = shown_pointer (pointer_in datum)
shown Void datum = signed_decimal (signed (width_of Void) (number_in datum))
shown (Int width) datum = signed_decimal (signed (width_of (Int width)) (number_in datum))
shown Token datum = signed_decimal (signed (width_of Token) (number_in datum))

abbrev pub function_name : ModuleContent → ℕ → List ℕ
function_name content func = option_map_or (λ defined. defined.name) (slice_get content.funcs func) []

-- the line of a frame that waits, where its call has a bundle
abbrev pub bundle_line : (ℕ → List ℕ) → ℕ → Frame → List (Ty × Operand) → List (List ℕ)
bundle_line names place frame [] = []
bundle_line names place frame (entry ∷ entries) =
    (codes "! " ++ decimal place ++ codes " @" ++ names frame.func
    ++ flat_map (λ each. codes " " ++ shown each.0 (value frame.registers each.1)) (entry ∷ entries) ++ newline) ∷ []

-- the bundle of the call at which a frame waits
abbrev pub bundle_of : List Line → List (Ty × Operand)
bundle_of [] = []
bundle_of (call ∷ rest) = call.inst.bundle

-- the lines of these frames, the first of which has this place
abbrev pub bundle_lines : (ℕ → List ℕ) → ℕ → List Frame → List (List ℕ)
bundle_lines names place [] = []
bundle_lines names place (frame ∷ frames) =
    bundle_line names place frame (bundle_of frame.rest) ++ bundle_lines names (place + 1) frames

-- what is written after the last printed line
abbrev pub closing_lines : (ℕ → List ℕ) → End → State → List (List ℕ)
closing_lines names (Trap trap) state = bundle_lines names 1 state.below
closing_lines names _ state = []
