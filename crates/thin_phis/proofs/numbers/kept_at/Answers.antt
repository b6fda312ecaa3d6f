use Rattle.std.proofs.Common.{◌≡◌, ◌∙◌, ℕ, ◌≤◌, ◌+◌, ◌-◌, inl, inr, length, ap, sym, arith}
use Rattle.std.specs.List.{range_with_len}
use Rattle.std.proofs.lemmas.Bool.{cases_lt}
use Rattle.std.proofs.lemmas.List.{length-map}
use Rattle.std.proofs.lemmas.List.FromFn.{length-range_with_len}
use Rattle.thin_phis.specs.Thinned.{kept_below}
use Rattle.thin_phis.proofs.CountLemmas.{counted_at, kept_few, kept_past}
use Rattle.thin_phis.proofs.numbers.kept_at.Goals as goal

pub bounds-kept-place : goal.bounds-kept-place
bounds-kept-place c =
    let ends = c.args.ends.now in
    let long : length c.args.kept.now ≡ length ends + 1 =
    ap length c.requires ∙ length-map (range_with_len 0 (length ends + 1)) (kept_below ends) ∙ length-range_with_len 0 (length ends + 1) in
    omega (arith, long, c.min-place.ensures)

pub overflow_add-result : goal.overflow_add-result
overflow_add-result c =
    let ends = c.args.ends.now in
    let place = c.min-place.result in
    let low : place ≤ c.args.number = omega (arith, c.min-place.ensures) in
    let few = kept_few ends place in
    let at = counted_at ends c.args.kept.now c.requires place (omega (arith, c.min-place.ensures)) in
    omega (arith, low, few, at, c.ranges.number.fits)

pub returns : goal.returns
returns c =
    let ends = c.args.ends.now in
    let place = c.min-place.result in
    let number = c.args.number in
    let at = counted_at ends c.args.kept.now c.requires place (omega (arith, c.min-place.ensures)) in
    ap (λ (n : ℕ). n + (number - place)) at
    ∙ elim (cases_lt number (length ends)) [
      | inl below ↦
          let e : place ≡ number = omega (arith, c.min-place.ensures, below) in
          let same : kept_below ends place ≡ kept_below ends number = ap (kept_below ends) e in
          omega (arith, e, same)
      | inr past ↦
          let e : place ≡ length ends = omega (arith, c.min-place.ensures, past) in
          ap (λ (n : ℕ). kept_below ends n + (number - n)) e ∙ sym (kept_past ends number (omega (arith, past)))
    ]
