-- Pointers have no order: what has no fault of code 15.
use Rattle.std.specs.Prelude.{◌≡◌, Bool, true, false}
use Rattle.std.specs.List.{All}
use Rattle.ir_ast.specs.declared.types.Ty.{Ty}
use Rattle.ir_ast.specs.declared.types.Ty.TheVariants.{Ptr}
use Rattle.ir_ast.specs.declared.ops.Pred.{Pred}
use Rattle.ir_ast.specs.declared.ops.Pred.TheVariants.{Eq, Ne}
use Rattle.ir_ast.specs.declared.ops.Op.{Op}
use Rattle.ir_ast.specs.declared.ops.Op.TheVariants.{Icmp}
use Rattle.ir_ast.specs.Funcs.{Function, instructions_of}

abbrev pub is_order : Pred → Bool
is_order Eq = false
is_order Ne = false
is_order _ = true

abbrev pub orders_pointers : Op → Ty → Bool
orders_pointers (Icmp pred) Ptr = is_order pred
orders_pointers op ty = false

abbrev pub PointersAreUnordered : Function → Type 0
PointersAreUnordered func = All (λ inst. orders_pointers inst.op inst.ty ≡ false) (instructions_of func.blocks)
