-- Classes of callees.
use Rattle.std.specs.Prelude.{Bool, true, false}
use Rattle.ir_ast.specs.declared.ops.Callee.{Callee}
use Rattle.ir_ast.specs.declared.ops.Callee.TheVariants.{Print, Read, Poll, Check, Same}

-- a leaf reaches no safepoint, so a call of it needs no statepoint
abbrev pub is_leaf : Callee → Bool
is_leaf Print = true
is_leaf Read = true
is_leaf Check = true
is_leaf Same = true
is_leaf _ = false

-- a poll or a helper, which only the rewritten form calls
abbrev pub is_helper : Callee → Bool
is_helper Poll = true
is_helper Check = true
is_helper Same = true
is_helper _ = false
