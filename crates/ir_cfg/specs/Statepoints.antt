-- The limits on the statepoints of a function, which only the rewritten form has.
use Rattle.std.specs.Prelude.{◌≡◌, ⊤, ℕ, ◌≤◌, ◌<◌, ◌^◌, ◌&&◌, true, Some, length, filter, slice_get}
use Rattle.ir_ast.specs.declared.ops.Op.{Op}
use Rattle.ir_ast.specs.declared.ops.Op.TheVariants.{Statepoint}
use Rattle.ir_ast.specs.Insts.{Instruction}
use Rattle.ir_ast.specs.Funcs.{Function, instructions_of}
use Rattle.ir_ast.specs.Faults.GroupShape.{is_statepoint, is_part, entries_of, number_at}
pub use Rattle.ir_ast.specs.Ops.{is_relocate}

-- how many relocates name the token
abbrev pub relocates_of : Function → ℕ → ℕ
relocates_of func token =
    length (filter (λ inst. is_relocate inst.op && is_part token inst) (instructions_of func.blocks))

-- a statepoint has few "gc-live" entries and few relocates
abbrev pub StatepointsAreSmall : Function → Type 0
StatepointsAreSmall func = (place : ℕ) (inst : Instruction)
    → slice_get (instructions_of func.blocks) place ≡ Some inst → is_statepoint inst.op ≡ true
    → (length (entries_of inst) ≤ 16384) × (relocates_of func (number_at func place) ≤ 16384)

-- the id of a statepoint is a word of 64 bits
abbrev pub IdIsWord : Op → Type 0
IdIsWord (Statepoint id callee types) = id < 2 ^ 64
IdIsWord _ = ⊤
