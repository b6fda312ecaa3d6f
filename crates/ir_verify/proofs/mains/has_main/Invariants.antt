use Rattle.std.proofs.Common.{◌≢◌, take}
use Rattle.std.specs.Prelude.{map, codes}
use Rattle.std.specs.List.{All}
use Rattle.ir_ast.specs.Funcs.{Function, content_of}
use Rattle.ir_verify.proofs.mains.has_main.Given as goal

abbrev pub invariant-loop-func : goal.invariant-loop-func
invariant-loop-func l = All (λ (func : Function). func.name ≢ codes "main") (take l.func-index (map content_of l.func-items))
