-- The pairs that lines use, as lists.
use Rattle.std.specs.Prelude.{ℕ, List, [], ◌∷◌, ◌++◌, map, Option, Some, None, if◌then◌else◌, slice_get}
use Rattle.std.specs.List.{Contains}
use Rattle.ir_ast.specs.declared.ops.Operand.{Operand}
use Rattle.ir_ast.specs.Insts.{Instruction}
use Rattle.ir_ast.specs.Funcs.{Function}
use Rattle.ir_ast.specs.Faults.GroupShape.{entries_of}
use Rattle.pair_facts.specs.Lines.{lines_at, is_relocate}
use Rattle.pair_facts.specs.Uses.{Use, Uses, checked, compared, escaping}
use Rattle.fact_tables.specs.Homes.{IsBefore}
use Rattle.used_pairs.specs.declared.helpers.Pair.{Pair}
use Rattle.used_pairs.specs.declared.uses.UsedPair.{UsedPair}
use Rattle.used_pairs.specs.Places.{pair_of, entries_pair}

abbrev pub use_in : UsedPair → Use
use_in pair = record { address = pair.address; base = pair.base }

-- the line at this place of this block uses the pair
abbrev pub IsUse : Function → UsedPair → Type 0
IsUse func pair = Uses (lines_at func pair.block) pair.place pair.code pair.at (use_in pair)

-- the pairs are those that the lines before a place use
pub record AreUsed (func : Function) (until_block until : ℕ) (used : List UsedPair) : Type 0 where
  pub sound : (pair : UsedPair) → Contains used pair → IsUse func pair × IsBefore pair.block pair.place until_block until
  pub complete : (pair : UsedPair) → IsUse func pair → IsBefore pair.block pair.place until_block until → Contains used pair

abbrev pub use_with : ℕ → ℕ → ℕ → ℕ → Use → UsedPair
use_with block place at code pair = record { block = block; place = place; at = at; code = code; address = pair.address; base = pair.base }

abbrev pub used_of : ℕ → ℕ → ℕ → ℕ → Pair → UsedPair
used_of block place at code pair = use_with block place at code (pair_of pair)

abbrev pub own_used : ℕ → ℕ → Operand → UsedPair
own_used block place operand = record { block = block; place = place; at = place; code = 5; address = operand; base = operand }

abbrev pub checked_used : ℕ → ℕ → Instruction → List UsedPair
checked_used block place inst = map (use_with block place place 3) (checked inst.op inst)

abbrev pub compared_used : ℕ → ℕ → Instruction → List UsedPair
compared_used block place inst = map (use_with block place place 4) (compared inst.op inst)

abbrev pub of_head : ℕ → ℕ → Instruction → Option Instruction → ℕ → List UsedPair
of_head block place inst None head = []
of_head block place inst (Some statepoint) head =
    if is_relocate inst.op then use_with block place head 2 (entries_pair inst (entries_of statepoint)) ∷ [] else []

abbrev pub relocated_used : ℕ → ℕ → Instruction → List Instruction → Option ℕ → List UsedPair
relocated_used block place inst insts None = []
relocated_used block place inst insts (Some head) = of_head block place inst (slice_get insts head) head

-- with what one line uses
abbrev pub listed : List UsedPair → ℕ → ℕ → Instruction → List Instruction → Option ℕ → List UsedPair
listed used block place inst insts head =
    (((used ++ relocated_used block place inst insts head) ++ checked_used block place inst) ++ compared_used block place inst)
    ++ map (own_used block place) (escaping inst.op inst)
