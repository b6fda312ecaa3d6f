use Rattle.std.proofs.Common.{◌≡◌, ◌++◌, take, is_some}
use Rattle.std.specs.Prelude.{map}
use Rattle.std.specs.Option.{option_map}
use Rattle.std.specs.List.{filter}
use Rattle.ir_ast.specs.Values.{argument, outcome}
use Rattle.body_tables.specs.Bodies.{seen_insts, inst_of}
use Rattle.body_tables.proofs.bodies.givers.Given as goal

abbrev pub invariant-loop-arg : goal.invariant-loop-arg
invariant-loop-arg l = map (option_map (λ inst. inst.now)) l.givers.items ≡ map inst_of (map argument (take l._arg-index l._arg-items))

abbrev pub invariant-loop-inst : goal.invariant-loop-inst
invariant-loop-inst l = map (option_map (λ inst. inst.now)) l.givers.items ≡ map inst_of (map argument l.func.content.args
    ++ map outcome (filter (λ inst. is_some inst.result) (take l.inst-index (seen_insts l.insts))))
