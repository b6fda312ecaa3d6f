-- What one more line outside functions has.
use Rattle.std.proofs.Common.{◌≡◌, ◌∙◌, ℕ, ◌⊎◌, inl, inr, List, [], ◌∷◌, ◌++◌, ap, sym, subst}
use Rattle.std.specs.Prelude.{Option}
use Rattle.std.specs.List.{Contains}
use Rattle.std.proofs.lemmas.List.Elements.{Contains-append_left, Contains-push, Contains-push_cases}
use Rattle.ir_ast.specs.declared.modules.Form.{Form}
use Rattle.ir_lines.specs.declared.faults.Fault.{Fault}
use Rattle.ir_lines.specs.Statements.{Line}
use Rattle.ir_lines.specs.Notes.{Notes}
use Rattle.text_resolve.specs.TopFaults.{OuterFault, OuterFaults}
use Rattle.ir_lines.proofs.NoteLemmas.{Either, notes-then, notes-same}

abbrev pub LineFault : Form → List (List ℕ) → List (List ℕ) → Line → ℕ → ℕ → Type 0
LineFault form functions layouts l at code = (at ≡ l.number) × OuterFault form functions layouts l.says code

pub outer-more : (form : Form) (functions layouts : List (List ℕ)) (lines more : List Line) (l : Line) (f g h : Option Fault) → more ≡ lines ++ l ∷ []
    → Notes f g (OuterFaults form functions layouts lines) → Notes g h (LineFault form functions layouts l)
    → Notes f h (OuterFaults form functions layouts more)
outer-more form functions layouts lines more l f g h e m n =
    subst (λ (all : List Line). Notes f h (OuterFaults form functions layouts all)) (sym e)
    (notes-same f h (Either (OuterFaults form functions layouts lines) (LineFault form functions layouts l)) (OuterFaults form functions layouts (lines ++ l ∷ [])) to from
    (notes-then f g h (OuterFaults form functions layouts lines) (LineFault form functions layouts l) m n))
  where
    to : (i c : ℕ) → Either (OuterFaults form functions layouts lines) (LineFault form functions layouts l) i c → OuterFaults form functions layouts (lines ++ l ∷ []) i c
    to i c (inl o) = record { found = o.found; inside = Contains-append_left lines (l ∷ []) o.found o.inside; number = o.number; faulty = o.faulty }
    to i c (inr o) = record { found = l; inside = Contains-push lines l; number = sym o.0; faulty = o.1 }

    of : (i c : ℕ) (found : Line) → found.number ≡ i → OuterFault form functions layouts found.says c → Contains lines found ⊎ (l ≡ found)
        → Either (OuterFaults form functions layouts lines) (LineFault form functions layouts l) i c
    of i c found number faulty (inl inside) = inl (record { found = found; inside = inside; number = number; faulty = faulty })
    of i c found number faulty (inr is) =
        inr (
          sym (ap (λ (one : Line). one.number) is ∙ number),
          subst (λ (one : Line). OuterFault form functions layouts one.says c) (sym is) faulty,
        )

    from : (i c : ℕ) → OuterFaults form functions layouts (lines ++ l ∷ []) i c → Either (OuterFaults form functions layouts lines) (LineFault form functions layouts l) i c
    from i c o = of i c o.found o.number o.faulty (Contains-push_cases lines l o.found o.inside)

-- the third code of a line asks two things
pub notes-both : (line k m n : ℕ) (P Q A R : Type 0) (old new : Option Fault)
    → Notes old new (λ l c. (l ≡ line) × (((c ≡ k) × P) ⊎ (((c ≡ m) × Q) ⊎ ((c ≡ n) × (A × R)))))
    → Notes old new (λ l c. (l ≡ line) × (((c ≡ k) × P) ⊎ (((c ≡ m) × Q) ⊎ ((c ≡ n) × A × R))))
notes-both line k m n P Q A R old new noted =
    notes-same old new (λ l c. (l ≡ line) × (((c ≡ k) × P) ⊎ (((c ≡ m) × Q) ⊎ ((c ≡ n) × (A × R)))))
    (λ l c. (l ≡ line) × (((c ≡ k) × P) ⊎ (((c ≡ m) × Q) ⊎ ((c ≡ n) × A × R)))) to from noted
  where
    to : (l c : ℕ) → (l ≡ line) × (((c ≡ k) × P) ⊎ (((c ≡ m) × Q) ⊎ ((c ≡ n) × (A × R))))
        → (l ≡ line) × (((c ≡ k) × P) ⊎ (((c ≡ m) × Q) ⊎ ((c ≡ n) × A × R)))
    to l c (e, inl f) = (e, inl f)
    to l c (e, inr (inl f)) = (e, inr (inl f))
    to l c (e, inr (inr f)) = (e, inr (inr (f.0, f.1.0, f.1.1)))

    from : (l c : ℕ) → (l ≡ line) × (((c ≡ k) × P) ⊎ (((c ≡ m) × Q) ⊎ ((c ≡ n) × A × R)))
        → (l ≡ line) × (((c ≡ k) × P) ⊎ (((c ≡ m) × Q) ⊎ ((c ≡ n) × (A × R))))
    from l c (e, inl f) = (e, inl f)
    from l c (e, inr (inl f)) = (e, inr (inl f))
    from l c (e, inr (inr f)) = (e, inr (inr (f.0, (f.1, f.2))))
