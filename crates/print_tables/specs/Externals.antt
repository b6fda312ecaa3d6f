-- The externals that a module may have to declare, and which of them its lines call.
use Rattle.std.specs.Prelude.{ℕ, Bool, true, false, ◌==◌, ◌||◌, List}
use Rattle.std.specs.List.{list_any}
use Rattle.ir_ast.specs.declared.types.Ty.{Ty}
use Rattle.ir_ast.specs.declared.types.Ty.TheVariants.{Void, Int, Ptr, Token}
use Rattle.ir_ast.specs.Types.{is_pointer}
use Rattle.ir_ast.specs.declared.ops.Callee.{Callee}
use Rattle.ir_ast.specs.declared.ops.Callee.TheVariants as callee
use Rattle.ir_ast.specs.declared.ops.Op.{Op}
use Rattle.ir_ast.specs.declared.ops.Op.TheVariants.{Call, Statepoint, GcResult, GcRelocate}
use Rattle.ir_ast.specs.Funcs.{Function}
use Rattle.print_tables.specs.declared.externals.External.{External}
use Rattle.print_tables.specs.declared.externals.External.TheVariants.{New, Print, Read, TaskStart, Poll, Check, Same, StatepointFamily, RelocateFamily, ResultOf, ResultPointer}

-- the callee is this external
abbrev pub is_callee : External → Callee → Bool
is_callee (New layout) (callee.New other) = layout == other
is_callee Print callee.Print = true
is_callee Read callee.Read = true
is_callee TaskStart callee.TaskStart = true
is_callee Poll callee.Poll = true
is_callee Check callee.Check = true
is_callee Same callee.Same = true
is_callee _ _ = false

-- an integer of this width
abbrev pub is_of_width : ℕ → Ty → Bool
is_of_width width (Int other) = width == other
is_of_width width Void = false
is_of_width width Ptr = false
is_of_width width Token = false

-- a `gc.result` of this type
abbrev pub is_result : External → Ty → Bool
is_result (ResultOf width) ty = is_of_width width ty
is_result ResultPointer ty = is_pointer ty
is_result _ ty = false

abbrev pub is_statepoints : External → Bool
is_statepoints StatepointFamily = true
is_statepoints _ = false

abbrev pub is_relocates : External → Bool
is_relocates RelocateFamily = true
is_relocates _ = false

-- a line with this operator and this type calls the external
abbrev pub is_call_of : External → Op → Ty → Bool
is_call_of external (Call callee types) ty = is_callee external callee
is_call_of external (Statepoint id callee types) ty = is_statepoints external || is_callee external callee
is_call_of external GcResult ty = is_result external ty
is_call_of external GcRelocate ty = is_relocates external
is_call_of external _ ty = false

-- some line of some function calls the external
unfoldable pub calls : List Function → External → Bool
calls funcs external =
    list_any (λ func. list_any (λ block. list_any (λ inst. is_call_of external inst.op inst.ty) block.insts) func.blocks) funcs
