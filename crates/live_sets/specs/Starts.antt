-- Where walks backwards begin, by value. The places are the nodes of a graph: the ends of the blocks, and behind them their fronts.
use Rattle.std.specs.Prelude.{◌≡◌, ℕ, ◌<◌, ◌+◌, ◌==◌, Bool, true, not, ◌&&◌, nat_le, nat_lt, if◌then◌else◌, List, [], ◌∷◌, ◌++◌, length, Option, Some, None, slice_get, slice_index}
use Rattle.std.specs.List.{flat_map, range_with_len}
use Rattle.std.specs.Option.{option_map_or}
use Rattle.std.specs.Global.{Vec}
use Rattle.sp_ids.specs.declared.ids.BlockId.{BlockId}
use Rattle.sp_ids.specs.declared.ids.ValueId.{ValueId}
use Rattle.ir_ast.specs.declared.ops.Operand.{Operand}
use Rattle.ir_ast.specs.Insts.{Instruction}
use Rattle.ir_ast.specs.Funcs.{Function}
use Rattle.ir_ast.specs.Faults.PhiEdges.{is_phi}
use Rattle.object_meaning.specs.Lines.{following, registers_of, insts_in}
use Rattle.live_sets.specs.declared.starts.Spot.{Spot}
use Rattle.live_sets.specs.Uses.{names, uses}
use Rattle.ir_ast.specs.Lists.{has_mark}

-- the value is given before in the block
abbrev pub is_given : Spot → ℕ → Bool
is_given spot v = nat_le spot.first v && nat_lt v spot.next

abbrev pub use_adds : List Bool → Spot → Option ValueId → ℕ → List ℕ
use_adds marks spot named v = if (names named v && has_mark marks v) && not (is_given spot v) then spot.node ∷ [] else []

-- what an operand at a place adds to the list of a value
abbrev pub adds : List Bool → List Operand → Spot → ℕ → Operand → List ℕ
adds marks table spot v operand = if (uses marks table v operand && has_mark marks v) && not (is_given spot v) then spot.node ∷ [] else []

abbrev pub at_end : BlockId → Spot
at_end block = record { node = block.0; first = 0; next = 0 }

abbrev pub entry_adds : List Bool → List Operand → ℕ → Option BlockId → Operand → List ℕ
entry_adds marks table v None operand = []
entry_adds marks table v (Some label) operand = adds marks table (at_end label) v operand

abbrev pub entries_add : List Bool → List Operand → ℕ → List BlockId → List Operand → List ℕ
entries_add marks table v (label ∷ labels) (operand ∷ operands) =
    adds marks table (at_end label) v operand ++ entries_add marks table v labels operands
entries_add marks table v labels operands = []

abbrev pub own_adds : List Bool → List Operand → Spot → ℕ → Instruction → List ℕ
own_adds marks table spot v inst =
    if is_phi inst.op then entries_add marks table v inst.labels inst.operands else flat_map (adds marks table spot v) inst.operands

abbrev pub line_adds : List Bool → List Operand → Spot → ℕ → Instruction → List ℕ
line_adds marks table spot v inst =
    own_adds marks table spot v inst ++ flat_map (λ entry. adds marks table spot v entry.1) inst.bundle

-- the instructions of a block, of which the first gives the value `next`
abbrev pub block_adds : List Bool → List Operand → (node first next : ℕ) → ℕ → List Instruction → List ℕ
block_adds marks table node first next v [] = []
block_adds marks table node first next v (inst ∷ insts) =
    line_adds marks table (record { node = node; first = first; next = next }) v inst
    ++ block_adds marks table node first (following next inst) v insts

abbrev pub first_of : Function → ℕ → ℕ
first_of func b = slice_index (registers_of func) b

abbrev pub starts_in : Function → List Bool → List Operand → ℕ → ℕ → List ℕ
starts_in func marks table v b =
    block_adds marks table (length func.blocks + b) (first_of func b) (first_of func b) v (insts_in func b)

-- where the walks of a value begin
abbrev pub starts_of : Function → List Bool → List Operand → ℕ → List ℕ
starts_of func marks table v = flat_map (starts_in func marks table v) (range_with_len 0 (length func.blocks))

-- ---- lists by value

abbrev pub list_at : {A : Type 0} → List (Vec A) → ℕ → List A
list_at lists v = option_map_or (λ list. list.items) (slice_get lists v) []

-- each list of a wanted value has some items more
pub record Grown (wanted : List Bool) (old new : List (Vec ℕ)) (added : ℕ → List ℕ) : Type 0 where
  pub whole : length new ≡ length old
  pub each : (v : ℕ) → v < length old → has_mark wanted v ≡ true → list_at new v ≡ list_at old v ++ added v

-- one of the lists has an item more
pub record GrownAt {A : Type 0} (old new : List (Vec A)) (place : ℕ) (item : A) : Type 0 where
  pub whole : length new ≡ length old
  pub each : (v : ℕ) → v < length old → list_at new v ≡ list_at old v ++ (if place == v then item ∷ [] else [])

-- the starts of the wanted values
pub record AreStarts (func : Function) (marks : List Bool) (table : List Operand) (wanted : List Bool) (starts : List (Vec ℕ)) : Type 0 where
  pub whole : length starts ≡ length marks
  pub each : (v : ℕ) → v < length marks → has_mark wanted v ≡ true → list_at starts v ≡ starts_of func marks table v
