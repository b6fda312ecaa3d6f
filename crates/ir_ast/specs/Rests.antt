-- What a contract sees of a `Rest`.
use Rattle.std.specs.Prelude.{List, []}
use Rattle.sp_ids.specs.declared.ids.BlockId.{BlockId}
use Rattle.ir_ast.specs.declared.types.Ty.{Ty}
use Rattle.ir_ast.specs.declared.ops.Operand.{Operand}
use Rattle.ir_ast.specs.declared.rest.Held.{Held}
use Rattle.ir_ast.specs.declared.rest.Held.TheVariants.{Nothing, One, Two, More}

-- the labels of an instruction, and the operands of its bundle
pub record LabelsAndBundle : Type 0 where
  pub labels : List BlockId
  pub bundle : List (Ty × Operand)

abbrev pub labels_and_bundle : List BlockId → List (Ty × Operand) → LabelsAndBundle
labels_and_bundle labels bundle = record { labels = labels; bundle = bundle }

abbrev pub parts_held : Held → LabelsAndBundle
parts_held Nothing = labels_and_bundle [] []
parts_held (One labels) = labels_and_bundle labels []
parts_held (Two labels) = labels_and_bundle labels []
parts_held (More parts) = labels_and_bundle parts.value.labels.items parts.value.bundle.items
