-- Where the values of a "deopt" bundle stand in a frame that waits at its statepoint: a pointer among the live entries, an
-- integer behind them, a literal and `null` nowhere.
use Rattle.std.specs.Prelude.{ℕ, ◌+◌, ◌&&◌, ◌==◌, nat_lt, if◌then◌else◌, Bool, List, [], ◌∷◌, length, Option, Some, None, slice_index_or}
use Rattle.std.specs.List.{find, position}
use Rattle.std.specs.Option.{option_map_or}
use Rattle.ir_ast.specs.declared.types.Ty.{Ty}
use Rattle.ir_ast.specs.declared.types.Ty.TheVariants.{Int, Ptr}
use Rattle.ir_ast.specs.declared.ops.Operand.{Operand}
use Rattle.ir_ast.specs.declared.ops.Operand.TheVariants.{Value}
use Rattle.ir_ast.specs.Operands.{entries_of, same_operand}
use Rattle.ir_ast.specs.Insts.{Instruction}
use Rattle.ir_ast.specs.Faults.GroupShape.{is_statepoint}
use Rattle.frame_forms.specs.FrameSizes.{is_named_integer}

-- the word of an operand, where these are the live entries and `next` is the first word that is free behind them: a pointer
-- has that of its first entry
abbrev pub deopt_word : List Operand → ℕ → Ty → Operand → Option ℕ
deopt_word entries next (Int width) (Value value) = Some next
deopt_word entries next Ptr (Value value) = position (λ entry. same_operand entry (Value value)) entries
deopt_word entries next ty operand = None

-- each named integer takes one
abbrev pub words_taken : Ty → Operand → ℕ
words_taken ty operand = if is_named_integer ty operand then 1 else 0

abbrev pub deopt_words_from : List Operand → ℕ → List (Ty × Operand) → List (Option ℕ)
deopt_words_from entries next [] = []
deopt_words_from entries next (entry ∷ bundle) =
    deopt_word entries next entry.0 entry.1 ∷ deopt_words_from entries (next + words_taken entry.0 entry.1) bundle

-- the word of each operand of a call's bundle
abbrev pub deopt_words : Instruction → List (Option ℕ)
deopt_words call = deopt_words_from (entries_of call) (length (entries_of call)) call.bundle

-- ---- of a function

-- a statepoint with a bundle: its place among the function's instructions, and the words of its operands
pub record BundleWords : Type 0 where
  pub place : ℕ
  pub words : List (Option ℕ)

abbrev pub has_bundle : Instruction → Bool
has_bundle inst = is_statepoint inst.op && nat_lt 0 (length inst.bundle)

-- of instructions of which the first has this place
abbrev pub bundles_from : ℕ → List Instruction → List BundleWords
bundles_from place [] = []
bundles_from place (inst ∷ insts) =
    if has_bundle inst then record { place = place; words = deopt_words inst } ∷ bundles_from (place + 1) insts
    else bundles_from (place + 1) insts

-- the word of an operand of the statepoint at a place
abbrev pub bundle_word : List BundleWords → ℕ → ℕ → Option ℕ
bundle_word bundles place operand = option_map_or (λ one. slice_index_or one.words operand None) (find (λ one. one.place == place) bundles) None
