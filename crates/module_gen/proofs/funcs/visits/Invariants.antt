use Rattle.std.proofs.Common.{◌≡◌}
use Rattle.generated_forms.specs.Modules.{visits}
use Rattle.module_gen.proofs.funcs.visits.Given as goal

abbrev pub invariant-loop-place : goal.invariant-loop-place
invariant-loop-place l = l.insts.items ≡ visits l.place
