use Rattle.std.proofs.Common.{◌≡◌, ◌++◌, take}
use Rattle.body_tables.specs.Bodies.{seen_insts}
use Rattle.body_tables.proofs.bodies.add_block.Given as goal

abbrev pub invariant-loop-inst : goal.invariant-loop-inst
invariant-loop-inst l = seen_insts l.insts.items ≡ seen_insts l.initial.insts.items ++ take l.inst-index l.inst-items
