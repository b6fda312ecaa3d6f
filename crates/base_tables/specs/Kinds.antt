-- What a value's line says of derived pointers, without the rest of the line.
use Rattle.std.specs.Prelude.{suc, Bool, false, List, length, Option, None, slice_get}
use Rattle.std.specs.List.{list_any, filter_map}
use Rattle.std.specs.Option.{option_and_then}
use Rattle.ir_ast.specs.declared.ops.Pred.TheVariants.{Ne}
use Rattle.ir_ast.specs.declared.ops.Operand.{Operand}
use Rattle.ir_ast.specs.declared.ops.Operand.TheVariants.{Value}
use Rattle.ir_ast.specs.declared.ops.Op.{Op}
use Rattle.ir_ast.specs.declared.ops.Op.TheVariants.{Icmp, Select, Phi, Gep}
use Rattle.ir_ast.specs.Values.{Definition, argument, outcome}
use Rattle.ir_ast.specs.Operands.{value_in}
use Rattle.base_forms.specs.DerivedMarks.{has_mark}
use Rattle.base_forms.specs.Bases.{origin_by}

pub data Kind : Type 0 where
  plain : Kind
  -- a `getelementptr`, with the operand that it steps from
  steps : Option Operand → Kind
  -- a phi or select, with its operands
  merges : List Operand → Kind
  -- an `icmp ne`, with its operands
  differs : List Operand → Kind

abbrev pub kind_by : Op → List Operand → Kind
kind_by (Gep elem index_width place) operands = steps (slice_get operands 0)
kind_by Phi operands = merges operands
kind_by Select operands = merges operands
kind_by (Icmp Ne) operands = differs operands
kind_by op operands = plain

abbrev pub kind_of : Definition → Kind
kind_of (argument arg) = plain
kind_of (outcome inst) = kind_by inst.op inst.operands

abbrev pub any_marked : List Bool → List Operand → Bool
any_marked marks operands = list_any (has_mark marks) (filter_map value_in operands)

-- a derived phi or select, and an `icmp ne` of a derived operand
abbrev pub kind_merged : List Bool → Kind → Bool
kind_merged marks (merges operands) = any_marked marks operands
kind_merged marks kind = false

abbrev pub kind_negated : List Bool → Kind → Bool
kind_negated marks (differs operands) = any_marked marks operands
kind_negated marks kind = false

-- ---- the way back

abbrev pub kind_source : Kind → Option Operand
kind_source (steps before) = before
kind_source kind = None

abbrev pub stepped_in : List Kind → Operand → Option Operand
stepped_in kinds (Value value) = option_and_then kind_source (slice_get kinds value.0)
stepped_in kinds operand = None

abbrev pub origin_in : List Kind → Operand → Operand
origin_in kinds operand = origin_by (stepped_in kinds) (suc (length kinds)) operand
