-- The operators by classes.
use Rattle.std.specs.Prelude.{Bool, true, false, not}
use Rattle.ir_ast.specs.Callees.{is_leaf}
use Rattle.ir_ast.specs.declared.ops.Op.{Op}
use Rattle.ir_ast.specs.declared.ops.Op.TheVariants.{Phi, Call, Statepoint, GcResult, GcRelocate, Br, CondBr, Switch, Ret, Unreachable}

-- it ends a block
abbrev pub is_terminator : Op → Bool
is_terminator Br = true
is_terminator CondBr = true
is_terminator Switch = true
is_terminator Ret = true
is_terminator Unreachable = true
is_terminator _ = false

abbrev pub is_phi : Op → Bool
is_phi Phi = true
is_phi _ = false

-- a call of something that may reach a safepoint
abbrev pub is_call : Op → Bool
is_call (Call callee types) = not (is_leaf callee)
is_call _ = false

abbrev pub is_statepoint : Op → Bool
is_statepoint (Statepoint id callee types) = true
is_statepoint _ = false

-- a result or a relocate, which stands behind its statepoint
abbrev pub is_member : Op → Bool
is_member GcResult = true
is_member GcRelocate = true
is_member _ = false

abbrev pub is_relocate : Op → Bool
is_relocate GcRelocate = true
is_relocate _ = false
