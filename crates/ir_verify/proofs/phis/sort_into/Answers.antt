use Rattle.std.proofs.Common.{◌∙◌, ◌++◌, ℕ, List, ap, cond}
use Rattle.std.specs.Prelude.{nat_eq}
use Rattle.std.proofs.lemmas.List.Sorted.{IsNonDecreasingBy-from_sort, sum_by-IsPermutation}
use Rattle.ir_verify.specs.Phis.{times}
use Rattle.ir_verify.proofs.phis.sort_into.Goals as goal

pub returns-clause-ascending : goal.returns-clause-ascending
returns-clause-ascending c = IsNonDecreasingBy-from_sort (λ n. n) c.sort_unstable.new.self.items c.sort_unstable.ensures.sorted

pub returns-clause-same : goal.returns-clause-same
returns-clause-same c = λ one.
    sum_by-IsPermutation (λ n. cond (nat_eq n one) 1 0) c.extend_from_slice.new.self.items c.sort_unstable.new.self.items c.sort_unstable.ensures.permutation
    ∙ ap (times one) (c.in_ok-extend_from_slice.ensures.items ∙ ap (λ (ns : List ℕ). ns ++ c.args.numbers.now) c.clear.ensures.items)
