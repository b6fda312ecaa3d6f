use Rattle.std.proofs.Common.{◌≡◌, map, take}
use Rattle.ir_cfg.specs.Unreached.{operand_kept}
use Rattle.ir_cfg.proofs.renumber.bundle.Given as goal

abbrev pub invariant-loop-ty : goal.invariant-loop-ty
invariant-loop-ty l = l.kept.items ≡ map (λ entry. (entry.0, operand_kept l.renumber entry.1)) (take l.ty-index l.entries)
