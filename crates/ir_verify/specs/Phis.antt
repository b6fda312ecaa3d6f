-- The edges into the blocks of a function, and the entries of phis beside them.
use Rattle.std.specs.Prelude.{◌≡◌, ℕ, ◌+◌, ◌<◌, ◌==◌, Bool, true, false, List, [], map, length, count_by, slice_get, slice_index_or, if◌then◌else◌}
use Rattle.sp_ids.specs.declared.ids.BlockId.{BlockId}
use Rattle.ir_ast.specs.declared.ops.Operand.{Operand}
use Rattle.ir_ast.specs.Insts.{Instruction}
use Rattle.ir_ast.specs.Funcs.{Function}
use Rattle.ir_ast.specs.Faults.PhiEdges.{is_phi}
use Rattle.ir_ast.specs.Edges.{count_of, edges}

-- how often a number stands among others
abbrev pub times : ℕ → List ℕ → ℕ
times one numbers = count_by (λ number. number == one) numbers

abbrev pub numbers_of : List BlockId → List ℕ
numbers_of labels = map (λ label. label.0) labels

-- a block is added to the lists of the blocks that these labels name, once per label
pub record AddsEdges (from : ℕ) (labels : List BlockId) (old new : List (List ℕ)) : Type 0 where
  pub same : length new ≡ length old
  pub counts : (to one : ℕ) → to < length old → times one (slice_index_or new to [])
      ≡ times one (slice_index_or old to []) + (if one == from then count_of to labels else 0)

-- the list of each block holds each block once per edge
pub record AreEdges (func : Function) (into : List (List ℕ)) : Type 0 where
  pub same : length into ≡ length func.blocks
  pub counts : (to from : ℕ) → to < length func.blocks → times from (slice_index_or into to []) ≡ edges func from to

-- entries name each block as often as it stands here
abbrev pub Counts : List ℕ → List BlockId → Type 0
Counts into labels = (from : ℕ) → count_of from labels ≡ times from into

-- entries of one label are the same
abbrev pub Agree : List BlockId → List Operand → Type 0
Agree labels operands = (j k : ℕ) → slice_get labels j ≡ slice_get labels k → slice_get operands j ≡ slice_get operands k

abbrev pub AreRight : List ℕ → Instruction → Type 0
AreRight into phi = Counts into phi.labels × Agree phi.labels phi.operands

-- a phi that may stand after an instruction that is none
abbrev pub IsWrong : Bool → List ℕ → Instruction → Type 0
IsWrong late into inst = (is_phi inst.op ≡ true) × ¬ ((late ≡ false) × AreRight into inst)
