-- The pairs of helpers and of relocates.
use Rattle.std.specs.Prelude.{◌≡◌, ℕ, Bool, false, List, [], ◌∷◌, Option, MatchOption, slice_get}
use Rattle.std.specs.Option.{option_map_or}
use Rattle.ir_ast.specs.declared.types.Ty.{Ty}
use Rattle.ir_ast.specs.declared.ops.Operand.{Operand}
use Rattle.ir_ast.specs.Insts.{Instruction}
use Rattle.ir_ast.specs.Types.{is_pointer}
use Rattle.object_meaning.specs.Frames.{index_in}
use Rattle.pair_facts.specs.Lines.{operand_at}
use Rattle.pair_facts.specs.Uses.{Use, checked, compared}
use Rattle.used_pairs.specs.declared.helpers.Pair.{Pair}

abbrev pub is_pointer_at : List Ty → ℕ → Bool
is_pointer_at types place = option_map_or is_pointer (slice_get types place) false

abbrev pub pair_of : Pair → Use
pair_of pair = record { address = pair.address; base = pair.base }

abbrev pub entries_pair : Instruction → List Operand → Use
entries_pair relocate entries = record {
  address = operand_at entries (index_in (slice_get relocate.operands 2));
  base = operand_at entries (index_in (slice_get relocate.operands 1));
}

-- the pair of a check, where the line is one
abbrev pub IsChecked : Instruction → Option Pair → Type 0
IsChecked inst found = MatchOption found (checked inst.op inst ≡ []) (λ pair. checked inst.op inst ≡ pair_of pair ∷ [])

abbrev pub AreCompared : Instruction → Option (Pair × Pair) → Type 0
AreCompared inst found = MatchOption found (compared inst.op inst ≡ []) (λ pairs. compared inst.op inst ≡ pair_of pairs.0 ∷ pair_of pairs.1 ∷ [])
