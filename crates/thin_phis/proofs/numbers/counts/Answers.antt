use Rattle.std.proofs.Common.{◌≡◌, ◌∙◌, ℕ, List, [], ◌∷◌, ◌++◌, ◌+◌, length, map, ap, sym, arith}
use Rattle.std.specs.List.{range_with_len}
use Rattle.thin_phis.specs.Thinned.{kept_below}
use Rattle.thin_phis.proofs.CountLemmas.{range_push}
use Rattle.thin_phis.proofs.numbers.counts.Goals as goal

pub loop-place-preserved : goal.loop-place-preserved
loop-place-preserved c =
    let ends = c.args.ends.now in
    let place = c.loop-place.place in
    record {
      kept = c.in_ok-push.ensures.items ∙ ap (λ (ns : List ℕ). ns ++ c.loop-place.count ∷ []) c.loop-place.invariant.kept
          ∙ ap (λ (n : ℕ). map (kept_below ends) (range_with_len 0 place) ++ n ∷ []) c.loop-place.invariant.count
          ∙ sym (range_push (kept_below ends) place);
      count = c.with_kept-count.ensures;
    }

pub returns : goal.returns
returns c =
    let ends = c.args.ends.now in
    let place = c.loop-place.place in
    let e : place ≡ length ends = omega (arith, c.loop-place-test.false) in
    c.in_ok-push-2.ensures.items ∙ ap (λ (ns : List ℕ). ns ++ c.loop-place.count ∷ []) c.loop-place.invariant.kept
    ∙ ap (λ (n : ℕ). map (kept_below ends) (range_with_len 0 place) ++ n ∷ []) c.loop-place.invariant.count
    ∙ sym (range_push (kept_below ends) place)
    ∙ ap (λ (n : ℕ). map (kept_below ends) (range_with_len 0 (n + 1))) e
