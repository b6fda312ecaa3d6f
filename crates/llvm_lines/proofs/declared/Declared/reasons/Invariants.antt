use Rattle.std.proofs.Common.{◌≡◌}
use Rattle.std.specs.List.{All}
use Rattle.llvm_features.specs.declared.features.Feature.TheVariants.{NoLayout}
use Rattle.llvm_lines.proofs.declared.Declared.reasons.Given as goal

abbrev pub invariant-loop-declaration : goal.invariant-loop-declaration
invariant-loop-declaration l = All (λ reason. reason.feature ≡ NoLayout) l.reasons.items
