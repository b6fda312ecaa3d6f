use Rattle.std.proofs.Common.{◌≡◌, ◌++◌, take, is_some}
use Rattle.std.specs.Prelude.{map}
use Rattle.std.specs.List.{filter}
use Rattle.ir_ast.specs.Values.{outcome}
use Rattle.base_tables.specs.Kinds.{kind_of}
use Rattle.base_tables.specs.Seen.{seen_shape}
use Rattle.base_tables.proofs.shapes.add_shapes.Given as goal

abbrev pub invariant-loop-inst : goal.invariant-loop-inst
invariant-loop-inst l = map seen_shape l.shapes.items ≡ map seen_shape l.initial.shapes.items
    ++ map kind_of (map outcome (filter (λ inst. is_some inst.result) (take l.inst-index l.inst-items)))
