use Rattle.std.proofs.Common.{◌≡◌, ◌+◌, map}
use Rattle.std.specs.Prelude.{sum}
use Rattle.ir_ast.specs.Funcs.{content_of}
use Rattle.base_forms.specs.Polls.{placed}
use Rattle.rewrite_passes.specs.Before.{made_of, relocates_of}
use Rattle.rewrite_passes.proofs.making.before_groups.Given as goal

abbrev pub invariant-loop-func : goal.invariant-loop-func
invariant-loop-func l = record {
  made : l.all.items ≡ map (λ func. made_of (placed func)) (map content_of l.yielded);
  few : l.left + sum (map (λ func. relocates_of (placed func)) (map content_of l.yielded)) ≡ 4194304;
}
