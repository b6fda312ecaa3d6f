use Rattle.std.proofs.Common.{◌≡◌, ◌++◌, take, is_some}
use Rattle.std.specs.Prelude.{map}
use Rattle.std.specs.List.{filter}
use Rattle.ir_ast.specs.Funcs.{instructions_of}
use Rattle.ir_ast.specs.Values.{argument, outcome}
use Rattle.base_tables.specs.Kinds.{kind_of}
use Rattle.base_tables.specs.Seen.{seen_shape}
use Rattle.base_tables.proofs.shapes.shapes.Given as goal

abbrev pub invariant-loop-arg : goal.invariant-loop-arg
invariant-loop-arg l = map seen_shape l.shapes.items ≡ map kind_of (map argument (take l._arg-index l._arg-items))

abbrev pub invariant-loop-block : goal.invariant-loop-block
invariant-loop-block l = map seen_shape l.shapes.items ≡ map kind_of (map argument l.func.content.args
    ++ map outcome (filter (λ inst. is_some inst.result) (instructions_of (take l.block-index l.block-items))))
