-- How many bytes records have: 16, 12 for each location, padding, and 8.
use Rattle.std.specs.Prelude.{ℕ, ◌+◌, ◌*◌, List, [], ◌∷◌, length, take}
use Rattle.std.specs.List.{count_by}
use Rattle.ir_ast.specs.declared.ops.Op.{Op}
use Rattle.ir_ast.specs.declared.ops.Op.TheVariants.{Statepoint}
use Rattle.ir_ast.specs.Insts.{Instruction}
use Rattle.ir_cfg.specs.Statepoints.{is_relocate}
use Rattle.frame_forms.specs.Groups.{group_size}
use Rattle.map_bytes.specs.Reads.{places_end}

-- three locations, so many "deopt" locations, and two for each relocate
abbrev pub places_of : ℕ → List Instruction → ℕ
places_of deopts group = 3 + deopts + 2 * count_by (λ inst. is_relocate inst.op) group

-- of the record of a group
abbrev pub record_size : ℕ → List Instruction → ℕ
record_size deopts group = places_end (places_of deopts group) + 8

abbrev pub size_at : ℕ → Op → List Instruction → ℕ
size_at deopts (Statepoint id callee types) rest = record_size deopts (take (group_size (Statepoint id callee types) rest) rest)
size_at deopts op rest = 0

-- of the records of instructions
abbrev pub records_size : List Instruction → ℕ
records_size [] = 0
records_size (inst ∷ insts) = size_at (length inst.bundle) inst.op insts + records_size insts
