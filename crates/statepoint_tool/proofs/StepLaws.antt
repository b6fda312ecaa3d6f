-- A phase of the work comes to one step at most.
use Rattle.std.proofs.Common.{◌≡◌, ℕ, List, ◌∙◌, sym, ap, subst}
use Rattle.statepoint_tool.specs.Steps.{Step, Go, Stop, comes_to, Then, goes_on, stops}
use Rattle.statepoint_tool.specs.Taken.{Taken, Bytes, Longer, Faulty, file_phase}
use Rattle.statepoint_tool.specs.declared.refusal.Cause.{Cause}

-- a step that stops a phase of values of this type
abbrev pub stop_in : (A : Type 0) → Cause → Step A
stop_in A cause = Stop cause

abbrev pub Once : {A : Type 0} → (Step A → Type 0) → Type 0
Once {A} phase = (one other : Step A) → phase one → phase other → one ≡ other

pub same-value : {A : Type 0} (one other : A) → Go one ≡ Go other → one ≡ other
same-value one other is = cc

same_cause : {A : Type 0} (one other : Cause) → stop_in A one ≡ stop_in A other → one ≡ other
same_cause one other is = cc

pub not_both : {A : Type 0} (value : A) (cause : Cause) → Go value ≡ Stop cause → ⊥
not_both value cause is = cc

pub Once-comes_to : {A : Type 0} (due : Step A) → Once (comes_to due)
Once-comes_to due one other p q = p ∙ sym q

pub Once-Then : {A B : Type 0} (first : Step A → Type 0) (next : A → Step B → Type 0) → Once first → ((value : A) → Once (next value)) → Once (Then first next)
Once-Then {A} {B} first next f n _ _ (goes_on value step p q) (goes_on other other_step r s) =
    n other step other_step (subst (λ (v : A). next v step) (same-value value other (f (Go value) (Go other) p r)) q) s
Once-Then {A} {B} first next f n _ _ (goes_on value step p q) (stops cause r) = absurd (not_both value cause (f (Go value) (Stop cause) p r))
Once-Then {A} {B} first next f n _ _ (stops cause p) (goes_on value step r s) = absurd (not_both value cause (f (Go value) (Stop cause) r p))
Once-Then {A} {B} first next f n _ _ (stops cause p) (stops other r) = ap (λ (c : Cause). stop_in B c) (same_cause cause other (f (Stop cause) (Stop other) p r))

pub Once-file_phase : {A : Type 0} (name : List ℕ) (read : List ℕ → Step A → Type 0) → ((text : List ℕ) → Once (read text)) → (taken : Taken) → Once (file_phase name read taken)
Once-file_phase name read once (Bytes bytes) one other p q = once bytes one other p q
Once-file_phase name read once Longer one other p q = p ∙ sym q
Once-file_phase name read once Faulty one other p q = p ∙ sym q
