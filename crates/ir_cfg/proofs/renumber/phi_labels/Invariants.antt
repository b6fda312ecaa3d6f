use Rattle.std.proofs.Common.{◌≡◌, map, take}
use Rattle.std.specs.List.{filter}
use Rattle.ir_cfg.specs.Unreached.{label_kept, has_mark}
use Rattle.ir_cfg.proofs.renumber.phi_labels.Given as goal

abbrev pub invariant-loop-label : goal.invariant-loop-label
invariant-loop-label l = l.kept.items ≡ map (label_kept l.renumber) (filter (has_mark l.renumber) (take l.label-index l.labels))
