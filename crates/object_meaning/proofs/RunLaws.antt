-- Runs of any step function: one step longer, with one end, and what their states do.
use Rattle.std.proofs.Common.{◌≡◌, ℕ, zero, suc, List, [], ◌++◌, refl, sym, ap, subst, ◌∙◌}
use Rattle.object_meaning.specs.Runs.{Next, Go, End as Over, advance, goes, Ends, Reaches}
use Rattle.object_meaning.specs.Traces.{done_at, traced}

-- one more step comes last
pub goes_more : {E A : Type 0} (step : A → Next E A) (count : ℕ) (next : Next E A) → goes step (suc count) next ≡ advance step (goes step count next)
goes_more step zero next = refl
goes_more step (suc count) next = goes_more step count (advance step next)

pub reaches_more : {E A : Type 0} (step : A → Next E A) (start now next : A) → Reaches {E = E} step start now → step now ≡ Go next
    → Reaches {E = E} step start next
reaches_more step start now next reached e =
    record { after = suc reached.after; by = goes_more step reached.after (Go start) ∙ ap (advance step) reached.by ∙ e }

pub ends_more : {E A : Type 0} (step : A → Next E A) (start now : A) (end : E) (last : A) → Reaches {E = E} step start now
    → step now ≡ Over end last → Ends step start end last
ends_more step start now end last reached e =
    record { within = suc reached.after; by = goes_more step reached.after (Go start) ∙ ap (advance step) reached.by ∙ e }

-- two ends of a run are one
pub record SameEnd {E A : Type 0} (one other : E) (one_last other_last : A) : Type 0 where
  pub end : one ≡ other
  pub last : one_last ≡ other_last

pub same_over : {E A : Type 0} (end other : E) (last other_last : A) → Over end last ≡ Over other other_last → SameEnd end other last other_last
same_over end other last other_last is = record { end = cc; last = cc }

pub not_over : {E A : Type 0} (end : E) (last state : A) → Over end last ≡ Go state → ⊥
not_over end last state is = cc

-- a run that has ended stays as it is
pub goes_over : {E A : Type 0} (step : A → Next E A) (count : ℕ) (end : E) (last : A) → goes step count (Over end last) ≡ Over end last
goes_over step zero end last = refl
goes_over step (suc count) end last = goes_over step count end last

one_end_at : {E A : Type 0} (step : A → Next E A) (count more : ℕ) (next : Next E A) (end other : E) (last other_last : A)
    → goes step count next ≡ Over end last → goes step more next ≡ Over other other_last → SameEnd end other last other_last
one_end_at step zero more next end other last other_last one two =
    same_over end other last other_last (sym (goes_over step more end last) ∙ (ap (goes step more) (sym one) ∙ two))
one_end_at step (suc count) zero next end other last other_last one two =
    same_over end other last other_last (sym one ∙ (ap (goes step (suc count)) two ∙ goes_over step (suc count) other other_last))
one_end_at step (suc count) (suc more) next end other last other_last one two = one_end_at step count more (advance step next) end other last other_last one two

pub one_end : {E A : Type 0} (step : A → Next E A) (start : A) (end other : E) (last other_last : A) → Ends step start end last
    → Ends step start other other_last → SameEnd end other last other_last
one_end step start end other last other_last one two =
    one_end_at step one.within two.within (Go start) end other last other_last one.by two.by

-- the end is that of the run from each state that it comes to
pub ends_at : {E A : Type 0} (step : A → Next E A) (count more : ℕ) (next : Next E A) (now : A) (end : E) (last : A)
    → goes step count next ≡ Go now → goes step more next ≡ Over end last → Ends step now end last
ends_at step zero more next now end last one two = record { within = more; by = ap (goes step more) (sym one) ∙ two }
ends_at step (suc count) zero next now end last one two =
    absurd (not_over end last now (sym (goes_over step (suc count) end last) ∙ (ap (goes step (suc count)) (sym two) ∙ one)))
ends_at step (suc count) (suc more) next now end last one two = ends_at step count more (advance step next) now end last one two

-- nothing is done after the end
pub traced_over : {E A T : Type 0} (did : A → List T) (step : A → Next E A) (count : ℕ) (end : E) (last : A) → traced did step count (Over end last) ≡ []
traced_over did step zero end last = refl
traced_over did step (suc count) end last = traced_over did step count end last

-- more steps after the end add nothing
pub traced_more : {E A T : Type 0} (did : A → List T) (step : A → Next E A) (count more : ℕ) (next : Next E A) (end other : E) (last other_last : A)
    → goes step count next ≡ Over end last → goes step more next ≡ Over other other_last → traced did step count next ≡ traced did step more next
traced_more did step zero more next end other last other_last one two =
    sym (ap (traced did step more) one ∙ traced_over did step more end last)
traced_more did step (suc count) zero next end other last other_last one two =
    ap (traced did step (suc count)) two ∙ traced_over did step (suc count) other other_last
traced_more did step (suc count) (suc more) next end other last other_last one two =
    ap (λ rest. done_at did next ++ rest) (traced_more did step count more (advance step next) end other last other_last one two)

pub gone : {E A : Type 0} (one other : A) → ◌≡◌ {A = Next E A} (Go one) (Go other) → one ≡ other
gone one other is = cc

-- what each step keeps holds in each state that a run comes to
keeps_on : {E A : Type 0} (step : A → Next E A) (P : A → Type 0) (count : ℕ) (start now : A) (after : Next E A) → step start ≡ after → P start
    → ((one other : A) → step one ≡ Go other → P one → P other) → ((next : A) → P next → goes step count (Go next) ≡ Go now → P now)
    → goes step count after ≡ Go now → P now
keeps_on step P count start now (Go next) steps first keeps rest is = rest next (keeps start next steps first) is
keeps_on step P count start now (Over end last) steps first keeps rest is = absurd (not_over end last now (sym (goes_over step count end last) ∙ is))

keeps_at : {E A : Type 0} (step : A → Next E A) (P : A → Type 0) (keeps : (one other : A) → step one ≡ Go other → P one → P other) (count : ℕ) (start now : A)
    → P start → goes step count (Go start) ≡ Go now → P now
keeps_at step P keeps zero start now first is = subst P (gone start now is) first
keeps_at step P keeps (suc count) start now first is =
    keeps_on step P count start now (step start) refl first keeps (λ next holds rest. keeps_at step P keeps count next now holds rest) is

pub reaches_keep : {E A : Type 0} (step : A → Next E A) (P : A → Type 0) (start now : A) → P start → ((one other : A) → step one ≡ Go other → P one → P other)
    → Reaches {E = E} step start now → P now
reaches_keep step P start now first keeps reached = keeps_at step P keeps reached.after start now first reached.by
