-- The operands of phis by the blocks of their labels.
use Rattle.std.specs.Prelude.{◌≡◌, ⊤, ℕ, ◌==◌, nat_eq, List, [], ◌∷◌, length, drop, Option, Some, None, slice_get, if◌then◌else◌}
use Rattle.indexmap.specs.IndexMap.{IndexMap, get}
use Rattle.sp_ids.specs.declared.ids.BlockId.{BlockId}
use Rattle.ir_ast.specs.declared.ops.Operand.{Operand}
use Rattle.ir_ast.specs.Insts.{Instruction}
use Rattle.object_meaning.specs.Lines.{Line}
use Rattle.pair_facts.specs.Lines.{line_in, operand_at}

-- the operand beside the first label that is this block
abbrev pub operand_beside : ℕ → List BlockId → List Operand → Option Operand
operand_beside from [] operands = None
operand_beside from (label ∷ labels) operands = if label.0 == from then Some (operand_at operands 0) else operand_beside from labels (drop 1 operands)

-- the map has the operands behind a place
abbrev pub KnowsEntries : {S : Type 0} → List BlockId → List Operand → ℕ → IndexMap ℕ Operand S → Type 0
KnowsEntries labels operands place entries =
    (from : ℕ) → get nat_eq entries from ≡ operand_beside from (drop place labels) (drop place operands)

-- the map, where there is one, has the operands of the phi
abbrev pub AreEntries : {S : Type 0} → Instruction → Option (IndexMap ℕ Operand S) → Type 0
AreEntries phi None = ⊤
AreEntries phi (Some entries) = KnowsEntries phi.labels phi.operands 0 entries

-- the maps are those of so many first lines
pub record ArePhis {S : Type 0} (lines : List Line) (count : ℕ) (phis : List (Option (IndexMap ℕ Operand S))) : Type 0 where
  pub whole : length phis ≡ count
  pub each : (place : ℕ) (one : Option (IndexMap ℕ Operand S)) → slice_get phis place ≡ Some one → AreEntries (line_in lines place).inst one
