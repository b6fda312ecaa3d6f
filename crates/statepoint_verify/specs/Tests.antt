-- The faults of a line that the text alone decides, as tests of the line.
use Rattle.std.specs.Prelude.{ℕ, Bool, true, false, not, ◌&&◌, List, Option, Some, None}
use Rattle.std.specs.List.{list_any}
use Rattle.ir_ast.specs.declared.types.Ty.{Ty}
use Rattle.ir_ast.specs.declared.ops.Operand.{Operand}
use Rattle.ir_ast.specs.declared.ops.Callee.TheVariants.{Check}
use Rattle.ir_ast.specs.declared.ops.Operand.TheVariants.{Int}
use Rattle.ir_ast.specs.declared.ops.Op.{Op}
use Rattle.ir_ast.specs.declared.ops.Op.TheVariants.{Call}
use Rattle.ir_ast.specs.Insts.{Instruction}
use Rattle.ir_ast.specs.Types.{is_pointer}
use Rattle.ir_ast.specs.Ops.{is_call}
use Rattle.ir_ast.specs.Cells.{kind_of}
use Rattle.ir_ast.specs.Faults.GroupShape.{is_statepoint}
use Rattle.object_meaning.specs.Lines.{Line}
use Rattle.object_meaning.specs.Accesses.{cell_of}
use Rattle.pair_facts.specs.Lines.{line_in, operand_at, same_operand, is_null, is_relocate, head_at, group_in}
use Rattle.pair_facts.specs.Pairs.{base_index, has_base}
use Rattle.pair_facts.specs.Uses.{entries_at, accessed_at, is_checked, is_kept}

-- ---- a base entry that no relocate keeps

abbrev pub is_open_entry : List Operand → List Line → Line → Bool
is_open_entry entries group line =
    is_relocate line.inst.op && (not (is_null (operand_at entries (base_index line))) && not (has_base group (base_index line)))

abbrev pub is_open_in : List Line → Line → Option ℕ → Bool
is_open_in lines line None = false
is_open_in lines line (Some head) = is_open_entry (entries_at lines head) (group_in lines head) line

abbrev pub is_open : List Line → ℕ → Bool
is_open lines place = is_open_in lines (line_in lines place) (head_at lines place)

-- ---- an access without its check

abbrev pub is_check_of : Op → Bool
is_check_of (Call Check types) = true
is_check_of _ = false

abbrev pub checks_by : Operand → Ty → Instruction → Bool
checks_by address ty inst = is_check_of inst.op
    && (same_operand (operand_at inst.operands 1) address && same_operand (operand_at inst.operands 2) (Int (kind_of (cell_of ty))))

abbrev pub is_unchecked_at : List Line → ℕ → Ty → Option Operand → Bool
is_unchecked_at lines place ty None = false
is_unchecked_at lines place ty (Some address) = not (is_checked lines place address ty)

abbrev pub is_unchecked : List Line → ℕ → Bool
is_unchecked lines place =
    is_unchecked_at lines place (line_in lines place).inst.ty (accessed_at (line_in lines place).inst.op (line_in lines place).inst)

-- ---- a call outside a statepoint

abbrev pub is_plain_at : List Line → ℕ → Bool
is_plain_at lines place = is_call (line_in lines place).inst.op

-- ---- a value of a bundle that no relocate keeps

abbrev pub is_lost : List Operand → List Line → Ty × Operand → Bool
is_lost entries group entry = is_pointer entry.0 && not (is_kept entries group entry.1)

abbrev pub loses : List Line → ℕ → Bool
loses lines place = is_statepoint (line_in lines place).inst.op
    && list_any (is_lost (entries_at lines place) (group_in lines place)) (line_in lines place).inst.bundle
