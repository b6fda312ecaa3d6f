use Rattle.std.proofs.Common.{◌≡◌, ◌++◌, map, filter, take}
use Rattle.std.specs.Prelude.{is_some}
use Rattle.live_sets.specs.Values.{result_is_pointer}
use Rattle.live_sets.proofs.values.add_results.Given as goal

abbrev pub invariant-loop-inst : goal.invariant-loop-inst
invariant-loop-inst l = l.marks.items ≡ l.initial.marks.items ++ map result_is_pointer (filter (λ inst. is_some inst.result) (take l.inst-index l.insts))
