use Rattle.std.proofs.Common.{◌≡◌, ◌++◌, length, take, replicate, is_some}
use Rattle.std.specs.List.{filter}
use Rattle.ir_cfg.proofs.unreached.mark_results.Given as goal

abbrev pub invariant-loop-inst : goal.invariant-loop-inst
invariant-loop-inst l = l.values.items ≡ l.initial.values.items ++ replicate (length (filter (λ inst. is_some inst.result) (take l.inst-index l.inst-items))) l.mark
