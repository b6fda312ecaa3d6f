use Rattle.std.proofs.Common.{◌≡◌, ◌∙◌, ◌++◌, ℕ, List, ap, cond}
use Rattle.std.specs.Prelude.{nat_eq, not}
use Rattle.std.specs.Str.{bytes_eq}
use Rattle.std.proofs.lemmas.List.Sorted.{IsNonDecreasingBy-from_sort, sum_by-IsPermutation}
use Rattle.ir_verify.specs.Phis.{times, numbers_of}
use Rattle.ir_verify.proofs.PhiLemmas.{label-counts, uncounted, counted}
use Rattle.ir_verify.proofs.phis.are_uncounted.Goals as goal

pub returns-clause-apart : goal.returns-clause-apart
returns-clause-apart c =
    let labels = c.args.labels.now in
    let sorted = c.sort_unstable.new.self.items in
    let all : c.push_numbers.new.numbers.items ≡ numbers_of labels
    = c.in_ok-push_numbers.ensures ∙ ap (λ (ns : List ℕ). ns ++ numbers_of labels) c.clear.ensures.items in
    uncounted c.args.into.now labels sorted c.ne.result (IsNonDecreasingBy-from_sort (λ n. n) sorted c.sort_unstable.ensures.sorted) c.requires
    (λ one. sum_by-IsPermutation (λ n. cond (nat_eq n one) 1 0) c.push_numbers.new.numbers.items sorted c.sort_unstable.ensures.permutation
    ∙ ap (times one) all ∙ label-counts one labels)
    (c.ne.ensures ∙ ap (λ (ns : List ℕ). not (bytes_eq ns c.args.into.now)) c.as_slice.ensures.value)

pub returns-clause-counts : goal.returns-clause-counts
returns-clause-counts c =
    let labels = c.args.labels.now in
    let sorted = c.sort_unstable.new.self.items in
    let all : c.push_numbers.new.numbers.items ≡ numbers_of labels
    = c.in_ok-push_numbers.ensures ∙ ap (λ (ns : List ℕ). ns ++ numbers_of labels) c.clear.ensures.items in
    counted c.args.into.now labels sorted c.ne.result
    (λ one. sum_by-IsPermutation (λ n. cond (nat_eq n one) 1 0) c.push_numbers.new.numbers.items sorted c.sort_unstable.ensures.permutation
    ∙ ap (times one) all ∙ label-counts one labels)
    (c.ne.ensures ∙ ap (λ (ns : List ℕ). not (bytes_eq ns c.args.into.now)) c.as_slice.ensures.value)
