use Rattle.std.proofs.Common.{◌≡◌, ◌++◌, take, is_some}
use Rattle.std.specs.Prelude.{map}
use Rattle.std.specs.List.{filter}
use Rattle.ir_ast.specs.Values.{argument, outcome, definition_type}
use Rattle.body_tables.specs.Bodies.{seen_insts, any_step, any_phi}
use Rattle.body_tables.proofs.bodies.value_table.Given as goal

abbrev pub invariant-loop-arg : goal.invariant-loop-arg
invariant-loop-arg l = l.types.items ≡ map definition_type (map argument (take l.arg-index l.arg-items))

abbrev pub invariant-loop-inst : goal.invariant-loop-inst
invariant-loop-inst l = record {
  types : l.types.items ≡ map definition_type (map argument l.func.content.args
      ++ map outcome (filter (λ inst. is_some inst.result) (take l.inst-index (seen_insts l.insts))));
  steps : l.has_step ≡ any_step (take l.inst-index (seen_insts l.insts));
  phis : l.has_phi ≡ any_phi (take l.inst-index (seen_insts l.insts));
}
