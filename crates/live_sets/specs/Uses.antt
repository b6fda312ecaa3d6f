-- What a line uses, by the marks of pointers.
use Rattle.std.specs.Prelude.{ℕ, ◌==◌, Bool, false, not, ◌&&◌, ◌||◌, if◌then◌else◌, List, Option, Some, None}
use Rattle.std.specs.List.{list_any}
use Rattle.std.specs.Option.{option_map_or}
use Rattle.sp_ids.specs.declared.ids.ValueId.{ValueId}
use Rattle.ir_ast.specs.declared.ops.Operand.{Operand}
use Rattle.ir_ast.specs.declared.ops.Operand.TheVariants.{Value}
use Rattle.ir_ast.specs.Insts.{Instruction}
use Rattle.ir_ast.specs.Faults.PhiEdges.{is_phi}
use Rattle.rewriting_forms.specs.Numbered.{base_at}
use Rattle.live_sets.specs.declared.uses.Uses.{Uses}
use Rattle.ir_ast.specs.Lists.{has_mark}
use Rattle.ir_ast.specs.Operands.{value_named}

abbrev pub other_than : ValueId → Option ValueId → Option ValueId
other_than value None = None
other_than value (Some base) = if base.0 == value.0 then None else Some base

abbrev pub base_named : List Bool → List Operand → Option ValueId → Option ValueId
base_named marks table None = None
base_named marks table (Some value) =
    if not (has_mark marks value.0) then None else other_than value (value_named (base_at table value.0))

abbrev pub uses_of : List Bool → List Operand → Operand → Uses
uses_of marks table operand =
    record { itself = value_named operand; base = base_named marks table (value_named operand) }

abbrev pub names : Option ValueId → ℕ → Bool
names named v = option_map_or (λ value. value.0 == v) named false

-- the operand uses the value
abbrev pub uses : List Bool → List Operand → ℕ → Operand → Bool
uses marks table v operand = names (value_named operand) v || names (base_named marks table (value_named operand)) v

-- the line uses it where it stands
abbrev pub line_uses : List Bool → List Operand → ℕ → Instruction → Bool
line_uses marks table v inst =
    (not (is_phi inst.op) && list_any (uses marks table v) inst.operands) || list_any (λ entry. uses marks table v entry.1) inst.bundle
