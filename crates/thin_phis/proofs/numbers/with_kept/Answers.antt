use Rattle.std.proofs.Common.{◌≡◌, ◌∙◌, ℕ, Bool, ◌+◌, true, false, if◌then◌else◌, ap, sym, arith}
use Rattle.thin_phis.specs.Thinned.{stays, kept_below}
use Rattle.thin_phis.proofs.CountLemmas.{kept_few, kept_next}
use Rattle.thin_phis.proofs.numbers.with_kept.Goals as goal

pub overflow_add-result : goal.overflow_add-result
overflow_add-result c = let few = kept_few c.args.ends.now c.args.number in omega (arith, few, c.requires.count, c.requires.room)

pub returns-then-is_end : goal.returns-then-is_end
returns-then-is_end c =
    let ends = c.args.ends.now in
    let n = c.args.number in
    let is : stays ends n ≡ true = cc in
    ap (λ (m : ℕ). m + 1) c.requires.count ∙ sym (kept_next ends n ∙ ap (λ (t : Bool). kept_below ends n + (if t then 1 else 0)) is)

pub returns-else-is_end : goal.returns-else-is_end
returns-else-is_end c =
    let ends = c.args.ends.now in
    let n = c.args.number in
    let is : stays ends n ≡ false = cc in
    let next : kept_below ends (n + 1) ≡ kept_below ends n + 0 = kept_next ends n ∙ ap (λ (t : Bool). kept_below ends n + (if t then 1 else 0)) is in
    omega (arith, next, c.requires.count)
