-- States of the random numbers as the code computes them.
use Rattle.std.proofs.Common.{◌≡◌, ◌∙◌, ℕ, ◌+◌, ◌*◌, ◌%◌, ◌^◌, refl, ap, arith, add-one}
use Rattle.generated_forms.specs.Draws.{next_state, state_after}

pub next_computed : (state : ℕ) → (state * 6364136223846793005 % 2 ^ 64 + 1442695040888963407) % 2 ^ 64 ≡ next_state state
unfolding next_state
next_computed state = omega arith

pub state_more : (seed count after : ℕ) → after ≡ count + 1 → next_state (state_after seed count) ≡ state_after seed after
unfolding state_after
state_more seed count after is = rw (is, add-one) refl

pub state_two : (seed place first second third : ℕ) → first ≡ state_after seed (2 * place) → second ≡ next_state first → third ≡ next_state second
    → third ≡ state_after seed (2 * (place + 1))
state_two seed place first second third first_is second_is third_is =
    third_is ∙ ap next_state (second_is ∙ ap next_state first_is ∙ state_more seed (2 * place) (2 * place + 1) refl)
    ∙ state_more seed (2 * place + 1) (2 * (place + 1)) (omega arith)
