-- The tests of lines, by the sets of what the relocates of their group keep.
use Rattle.std.specs.Prelude.{ℕ, Bool, true, false, not, ◌&&◌, nat_eq, List, slice_get}
use Rattle.std.specs.List.{list_any, position}
use Rattle.std.specs.Option.{option_map_or}
use Rattle.ir_ast.specs.declared.types.Ty.{Ty}
use Rattle.ir_ast.specs.declared.ops.Operand.{Operand}
use Rattle.ir_ast.specs.declared.ops.Operand.TheVariants.{Value}
use Rattle.ir_ast.specs.Insts.{Instruction}
use Rattle.ir_ast.specs.Types.{is_pointer}
use Rattle.object_meaning.specs.Frames.{index_in}
use Rattle.pair_facts.specs.Lines.{operand_at, same_operand, is_null, is_relocate}

abbrev pub opens_by : List Operand → Instruction → List ℕ → Bool
opens_by entries inst bases =
    is_relocate inst.op && (not (is_null (operand_at entries (index_in (slice_get inst.operands 1))))
    && not (list_any (nat_eq (index_in (slice_get inst.operands 1))) bases))

abbrev pub is_kept_by : List Operand → List ℕ → Operand → Bool
is_kept_by entries values (Value value) =
    option_map_or (λ place. list_any (nat_eq place) values) (position (λ entry. same_operand entry (Value value)) entries) false
is_kept_by entries values operand = true

abbrev pub is_lost_by : List Operand → List ℕ → Ty × Operand → Bool
is_lost_by entries values entry = is_pointer entry.0 && not (is_kept_by entries values entry.1)
