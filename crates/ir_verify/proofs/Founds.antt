-- What is found at the places of a list, one place after another.
use Rattle.std.proofs.Common.{◌≡◌, ◌∙◌, ℕ, ◌+◌, ◌<◌, ◌⊎◌, inl, inr, List, length, sym, subst, arith}
use Rattle.std.specs.Prelude.{Option, Some, slice_get, IsTrue, ◌↔◌, Bool, true, false, nat_eq, Result, Ok, Err, OnOk}
use Rattle.std.proofs.lemmas.Bool.Decides.{eqb_tells}
use Rattle.std.proofs.lemmas.Option.{slice_get_within}
use Rattle.list_laws.proofs.Places.{cases_below}
use Rattle.ir_lines.specs.declared.faults.Fault.{Fault}
use Rattle.ir_lines.specs.Notes.{Notes, Is}
use Rattle.ir_verify.specs.FunctionFaults.{At}
use Rattle.ir_verify.specs.Founds.{FoundBelow, FoundIn}
use Rattle.ir_lines.proofs.NoteLemmas.{Either, notes-then, notes-same, notes-nothing}

pub notes-none : {X : Type 0} (P : ℕ → X → ℕ → ℕ → Type 0) (xs : List X) (kept : Option Fault) → Notes kept kept (FoundBelow P xs 0)
notes-none P xs kept = notes-nothing kept (FoundBelow P xs 0) (λ line code f. let b : f.place < 0 = f.below in omega arith)

step-to : {X : Type 0} (P : ℕ → X → ℕ → ℕ → Type 0) (xs : List X) (i : ℕ) (x : X) → slice_get xs i ≡ Some x
    → (line code : ℕ) → Either (FoundBelow P xs i) (P i x) line code → FoundBelow P xs (i + 1) line code
step-to P xs i x at line code (inl f) =
    record { place = f.place; below = (let b : f.place < i = f.below in omega arith); here = f.here; stands = f.stands; faulty = f.faulty }
step-to P xs i x at line code (inr f) = record { place = i; below = omega arith; here = x; stands = at; faulty = f }

step-by : {X : Type 0} (P : ℕ → X → ℕ → ℕ → Type 0) (xs : List X) (i : ℕ) (x : X) → slice_get xs i ≡ Some x
    → (line code k : ℕ) (here : X) → slice_get xs k ≡ Some here → P k here line code
    → (k < i) ⊎ (k ≡ i) → Either (FoundBelow P xs i) (P i x) line code
step-by P xs i x at line code k here is faulty (inl lt) = inl (record { place = k; below = lt; here = here; stands = is; faulty = faulty })
step-by P xs i x at line code k here is faulty (inr e) =
    let is' : slice_get xs i ≡ Some here = subst (λ (n : ℕ). slice_get xs n ≡ Some here) e is in
    let same : here ≡ x = cc (at, is') in
    inr (subst (λ (y : _). P i y line code) same (subst (λ (n : ℕ). P n here line code) e faulty))

-- one more place
pub notes-step : {X : Type 0} (P : ℕ → X → ℕ → ℕ → Type 0) (xs : List X) (i : ℕ) (x : X) (old between new : Option Fault)
    → slice_get xs i ≡ Some x → Notes old between (FoundBelow P xs i) → Notes between new (P i x)
    → Notes old new (FoundBelow P xs (i + 1))
notes-step P xs i x old between new at m n =
    notes-same old new (Either (FoundBelow P xs i) (P i x)) (FoundBelow P xs (i + 1)) (step-to P xs i x at)
    (λ line code f. step-by P xs i x at line code f.place f.here f.stands f.faulty (cases_below f.place i f.below))
    (notes-then old between new (FoundBelow P xs i) (P i x) m n)

-- all places
pub notes-all : {X : Type 0} (P : ℕ → X → ℕ → ℕ → Type 0) (xs : List X) (n : ℕ) (old new : Option Fault)
    → n ≡ length xs → Notes old new (FoundBelow P xs n) → Notes old new (FoundIn P xs)
notes-all P xs n old new e m = subst (λ (k : ℕ). Notes old new (FoundBelow P xs k)) e m

-- the place of an element
pub found-at : {X : Type 0} (P : ℕ → X → ℕ → ℕ → Type 0) (xs : List X) (place : ℕ) (here : X) (line code : ℕ)
    → slice_get xs place ≡ Some here → P place here line code → FoundIn P xs line code
found-at P xs place here line code is faulty =
    record { place = place; below = slice_get_within xs place here is; here = here; stands = is; faulty = faulty }

-- a fault where a test finds it
pub notes-at : (line k : ℕ) (a : Bool) (P : Type 0) (old new : Option Fault) → (IsTrue a ↔ P)
    → Notes old new (λ l c. IsTrue a × Is line k l c) → Notes old new (At k line P)
notes-at line k a P old new is n =
    notes-same old new (λ l c. IsTrue a × Is line k l c) (At k line P) (λ l c t. (t.1.1, t.1.0, is.0 t.0)) (λ l c f. (is.1 f.2, (f.1, f.0))) n

pub notes-at_line : (line other k : ℕ) (a : Bool) (P : Type 0) (old new : Option Fault) → line ≡ other → (IsTrue a ↔ P)
    → Notes old new (λ l c. IsTrue a × Is line k l c) → Notes old new (At k other P)
notes-at_line line other k a P old new e is n =
    subst (λ (m : ℕ). Notes old new (At k m P)) e (notes-at line k a P old new is n)

pub equal-iff : (m n : ℕ) → IsTrue (nat_eq m n) ↔ (m ≡ n)
equal-iff m n = elim (eqb_tells m n) [
  | inl t ↦ ((λ is. t.1), (λ e. t.0))
  | inr t ↦ ((λ is. absurd (let bad : true ≡ false = sym is ∙ t.0 in cc)), (λ e. absurd (t.1 e)))
]
