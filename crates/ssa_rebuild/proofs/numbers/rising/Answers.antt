use Rattle.std.proofs.Common.{◌∙◌, ◌≡◌, ◌+◌, ◌++◌, ◌∷◌, [], ℕ, List, ap, sym, arith}
use Rattle.std.specs.List.{range_with_len}
use Rattle.ssa_rebuild.proofs.numbers.rising.Goals as goal
use Rattle.list_laws.proofs.Ranges.{range_more}

pub loop-number-preserved : goal.loop-number-preserved
loop-number-preserved c =
    let n = c.loop-number.number in
    let z : 0 + n ≡ n = omega arith in
    c.in_ok-push.ensures.items ∙ ap (λ (ns : List ℕ). ns ++ n ∷ []) c.loop-number.invariant
    ∙ sym (range_more 0 n ∙ ap (λ (m : ℕ). range_with_len 0 n ++ m ∷ []) z)
