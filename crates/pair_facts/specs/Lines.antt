-- The lines of a block as the target meaning runs them: each instruction, and the value that it gives.
use Rattle.std.specs.Prelude.{ℕ, zero, suc, Bool, true, false, List, drop, take, Option, Some, None, slice_get, if◌then◌else◌}
use Rattle.ir_ast.specs.declared.ops.Op.{Op}
use Rattle.ir_ast.specs.declared.ops.Op.TheVariants.{Select}
use Rattle.ir_ast.specs.Faults.GroupShape.{is_statepoint}
use Rattle.object_meaning.specs.Lines.{Line}
use Rattle.object_meaning.specs.Frames.{is_member, group_length}
pub use Rattle.object_meaning.specs.BlockLines.{lines_at, no_line, line_in, is_given, gives, phis_in}
pub use Rattle.ir_ast.specs.Operands.{named, operand_at, is_null, same_operand}
pub use Rattle.ir_ast.specs.Ops.{is_relocate}

abbrev pub line_before : List Line → ℕ → Option Line
line_before lines zero = None
line_before lines (suc place) = slice_get lines place

-- ---- operands

-- ---- operators

abbrev pub is_select : Op → Bool
is_select Select = true
is_select _ = false

-- ---- statepoint groups: a statepoint, and the results and relocates directly behind it

abbrev pub head_here : Op → ℕ → Option ℕ → Option ℕ
head_here op place before = if is_statepoint op then Some place else (if is_member op then before else None)

-- the place of the statepoint whose group has the line at this place
abbrev pub head_at : List Line → ℕ → Option ℕ
head_at lines zero = head_here (line_in lines 0).inst.op 0 None
head_at lines (suc place) = head_here (line_in lines (suc place)).inst.op (suc place) (head_at lines place)

-- the results and relocates of the statepoint at this place
abbrev pub group_in : List Line → ℕ → List Line
group_in lines head = take (group_length (drop (suc head) lines)) (drop (suc head) lines)
