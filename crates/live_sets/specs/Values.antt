-- Marks of values.
use Rattle.std.specs.Prelude.{ℕ, Bool, false, List, slice_index_or}
use Rattle.sp_ids.specs.declared.ids.ValueId.{ValueId}
use Rattle.ir_ast.specs.Insts.{Instruction}
use Rattle.ir_ast.specs.Types.{is_pointer}
use Rattle.ir_ast.specs.Values.{outcome_type}

abbrev pub result_is_pointer : Instruction → Bool
result_is_pointer inst = is_pointer (outcome_type inst.op inst.ty)
