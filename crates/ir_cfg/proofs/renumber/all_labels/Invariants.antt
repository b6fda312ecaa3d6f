use Rattle.std.proofs.Common.{◌≡◌, map, take}
use Rattle.ir_cfg.specs.Unreached.{label_kept}
use Rattle.ir_cfg.proofs.renumber.all_labels.Given as goal

abbrev pub invariant-loop-label : goal.invariant-loop-label
invariant-loop-label l = l.kept.items ≡ map (label_kept l.renumber) (take l.label-index l.labels)
