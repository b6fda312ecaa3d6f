use Rattle.std.proofs.Common.{◌≡◌, true, take}
use Rattle.std.specs.List.{list_all}
use Rattle.base_tables.specs.Tables.{tabled}
use Rattle.base_infer.specs.Before.{stands_alone}
use Rattle.base_infer.proofs.functions.all_alone.Given as goal

abbrev pub invariant-loop-inst : goal.invariant-loop-inst
invariant-loop-inst l = list_all (λ inst. stands_alone (tabled l.tables) inst inst.op) (take l.inst-index l.insts) ≡ true
