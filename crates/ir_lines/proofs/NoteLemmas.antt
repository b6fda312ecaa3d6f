-- One pass after another keeps the first of the faults of both; at the end it is the least fault.
use Rattle.std.proofs.Common.{◌≡◌, ◌∙◌, ℕ, ◌⊎◌, inl, inr, Bool, true, false, refl, ap, sym, subst, arith}
use Rattle.std.specs.Prelude.{Option, Some, None, not, IsTrue, ◌↔◌}
use Rattle.ir_lines.specs.declared.faults.Fault.{Fault}
use Rattle.ir_lines.specs.FaultOrder.{ComesFirst, IsLeast}
use Rattle.ir_lines.specs.Notes.{Notes, IsUpTo, HasSource, Is}

abbrev pub Either : (ℕ → ℕ → Type 0) → (ℕ → ℕ → Type 0) → ℕ → ℕ → Type 0
Either F G line code = F line code ⊎ G line code

pub first-then : (l c m d n e : ℕ) → ComesFirst l c m d → ComesFirst m d n e → ComesFirst l c n e
first-then l c m d n e (inl p) (inl q) = inl (omega arith)
first-then l c m d n e (inl p) (inr q) = let r = q.0 in inl (omega arith)
first-then l c m d n e (inr p) (inl q) = let r = p.0 in inl (omega arith)
first-then l c m d n e (inr p) (inr q) = let r = p.0 in let s = q.0 in let t = p.1 in let u = q.1 in inr (omega arith, omega arith)

pub up_to-then : (kept : Option Fault) (between : Fault) (line code : ℕ)
    → IsUpTo kept between.line between.code → ComesFirst between.line between.code line code → IsUpTo kept line code
up_to-then kept between line code u f = record {
  fault = u.fault;
  is = u.is;
  first = first-then u.fault.line u.fault.code between.line between.code line code u.first f;
}

either : (old : Option Fault) (fault : Fault) (F G : ℕ → ℕ → Type 0) → (old ≡ Some fault) ⊎ F fault.line fault.code
    → (old ≡ Some fault) ⊎ Either F G fault.line fault.code
either old fault F G (inl p) = inl p
either old fault F G (inr q) = inr (inl q)

source-then : (old between new : Option Fault) (F G : ℕ → ℕ → Type 0) → HasSource old between F → HasSource between new G
    → HasSource old new (Either F G)
source-then old between None F G s t = tt
source-then old between (Some fault) F G s (inr g) = inr (inr g)
source-then old between (Some fault) F G s (inl e) =
    either old fault F G (subst (λ (kept : Option Fault). HasSource old kept F) e s)

least-then : (old between new : Option Fault) (F G : ℕ → ℕ → Type 0) → Notes old between F → Notes between new G
    → (line code : ℕ) → Either F G line code → IsUpTo new line code
least-then old between new F G m n line code (inr g) = n.least line code g
least-then old between new F G m n line code (inl f) =
    let u = m.least line code f in up_to-then new u.fault line code (n.earlier u.fault u.is) u.first

pub notes-then : (old between new : Option Fault) (F G : ℕ → ℕ → Type 0) → Notes old between F → Notes between new G
    → Notes old new (Either F G)
notes-then old between new F G m n = record {
  source = source-then old between new F G m.source n.source;
  earlier = λ fault e. let u = m.earlier fault e in up_to-then new u.fault fault.line fault.code (n.earlier u.fault u.is) u.first;
  least = least-then old between new F G m n;
}

found-in : (fault : Fault) (F : ℕ → ℕ → Type 0) → (None ≡ Some fault) ⊎ F fault.line fault.code → F fault.line fault.code
found-in fault F (inl e) = absurd (let bad : None ≡ Some fault = e in cc)
found-in fault F (inr f) = f

first-of : (fault kept : Fault) (line code : ℕ) → Some fault ≡ Some kept → ComesFirst kept.line kept.code line code
    → ComesFirst fault.line fault.code line code
first-of fault kept line code e f = let same : kept ≡ fault = cc in subst (λ (one : Fault). ComesFirst one.line one.code line code) same f

-- nothing was kept before: what is kept is the least
pub notes-least : (F : ℕ → ℕ → Type 0) (fault : Fault) → Notes None (Some fault) F → IsLeast F fault.line fault.code
notes-least F fault n = record {
  is = found-in fault F n.source;
  least = λ line code f. let u = n.least line code f in first-of fault u.fault line code u.is u.first;
}

-- nothing is kept: there is none
pub notes-none : (F : ℕ → ℕ → Type 0) → Notes None None F → (line code : ℕ) → ¬ F line code
notes-none F n line code f = let u = n.least line code f in let bad : None ≡ Some u.fault = u.is in cc

-- ---- sets of faults that are the same

source-same : (old new : Option Fault) (F G : ℕ → ℕ → Type 0) → ((line code : ℕ) → F line code → G line code)
    → HasSource old new F → HasSource old new G
source-same old None F G to s = tt
source-same old (Some fault) F G to (inl e) = inl e
source-same old (Some fault) F G to (inr f) = inr (to fault.line fault.code f)

pub notes-same : (old new : Option Fault) (F G : ℕ → ℕ → Type 0) → ((line code : ℕ) → F line code → G line code)
    → ((line code : ℕ) → G line code → F line code) → Notes old new F → Notes old new G
notes-same old new F G to from n = record {
  source = source-same old new F G to n.source;
  earlier = n.earlier;
  least = λ line code g. n.least line code (from line code g);
}

kept : (old : Option Fault) (F : ℕ → ℕ → Type 0) → HasSource old old F
kept None F = tt
kept (Some fault) F = inl refl

-- nothing is found
pub notes-nothing : (old : Option Fault) (F : ℕ → ℕ → Type 0) → ((line code : ℕ) → ¬ F line code) → Notes old old F
notes-nothing old F none = record {
  source = kept old F;
  earlier = λ fault e. record { fault = fault; is = e; first = inr (refl, omega arith) };
  least = λ line code f. absurd (none line code f);
}

-- ---- faults of one line that tests decide

pub not-iff : (P : Type 0) (r : Bool) → (IsTrue r ↔ P) → (IsTrue (not r) ↔ ¬ P)
not-iff P r is = (absent r is, present r is)
  where
    absent : (r : Bool) → (IsTrue r ↔ P) → IsTrue (not r) → ¬ P
    absent false is t p = let bad : false ≡ true = is.1 p in cc
    absent true is t p = let bad : false ≡ true = t in cc

    present : (r : Bool) → (IsTrue r ↔ P) → (¬ P) → IsTrue (not r)
    present false is n = refl
    present true is n = absurd (n (is.0 refl))

pub not-is : (r b : Bool) → r ≡ b → (IsTrue (not r) ↔ (b ≡ false))
not-is r b e = ((λ t. sym e ∙ untrue r t), (λ f. ap not (e ∙ f)))
  where
    untrue : (r : Bool) → not r ≡ true → r ≡ false
    untrue false t = refl
    untrue true t = let bad : false ≡ true = t in cc

abbrev pub Tested : Bool → ℕ → ℕ → ℕ → ℕ → Type 0
Tested test line code l c = IsTrue test × Is line code l c

pub two-noted : (line k m : ℕ) (a b : Bool) (P Q : Type 0) (f g h : Option Fault) → (IsTrue a ↔ P) → (IsTrue b ↔ Q)
    → Notes f g (Tested a line k) → Notes g h (Tested b line m)
    → Notes f h (λ l c. (l ≡ line) × (((c ≡ k) × P) ⊎ ((c ≡ m) × Q)))
two-noted line k m a b P Q f g h is other x y =
    notes-same f h (Either (Tested a line k) (Tested b line m)) (λ l c. (l ≡ line) × (((c ≡ k) × P) ⊎ ((c ≡ m) × Q))) to from
    (notes-then f g h (Tested a line k) (Tested b line m) x y)
  where
    to : (l c : ℕ) → Either (Tested a line k) (Tested b line m) l c → (l ≡ line) × (((c ≡ k) × P) ⊎ ((c ≡ m) × Q))
    to l c (inl t) = (t.1.0, inl (t.1.1, is.0 t.0))
    to l c (inr t) = (t.1.0, inr (t.1.1, other.0 t.0))

    from : (l c : ℕ) → (l ≡ line) × (((c ≡ k) × P) ⊎ ((c ≡ m) × Q)) → Either (Tested a line k) (Tested b line m) l c
    from l c (e, inl t) = inl (is.1 t.1, (e, t.0))
    from l c (e, inr t) = inr (other.1 t.1, (e, t.0))

pub three-noted : (line k m n : ℕ) (a b d : Bool) (P Q R : Type 0) (f g h i : Option Fault)
    → (IsTrue a ↔ P) → (IsTrue b ↔ Q) → (IsTrue d ↔ R)
    → Notes f g (Tested a line k) → Notes g h (Tested b line m) → Notes h i (Tested d line n)
    → Notes f i (λ l c. (l ≡ line) × (((c ≡ k) × P) ⊎ (((c ≡ m) × Q) ⊎ ((c ≡ n) × R))))
three-noted line k m n a b d P Q R f g h i is other third x y z =
    notes-same f i (Either (Tested a line k) (λ l c. (l ≡ line) × (((c ≡ m) × Q) ⊎ ((c ≡ n) × R))))
    (λ l c. (l ≡ line) × (((c ≡ k) × P) ⊎ (((c ≡ m) × Q) ⊎ ((c ≡ n) × R)))) to from
    (notes-then f g i (Tested a line k) (λ l c. (l ≡ line) × (((c ≡ m) × Q) ⊎ ((c ≡ n) × R))) x
    (two-noted line m n b d Q R g h i other third y z))
  where
    to : (l c : ℕ) → Either (Tested a line k) (λ l c. (l ≡ line) × (((c ≡ m) × Q) ⊎ ((c ≡ n) × R))) l c
        → (l ≡ line) × (((c ≡ k) × P) ⊎ (((c ≡ m) × Q) ⊎ ((c ≡ n) × R)))
    to l c (inl t) = (t.1.0, inl (t.1.1, is.0 t.0))
    to l c (inr t) = (t.0, inr t.1)

    from : (l c : ℕ) → (l ≡ line) × (((c ≡ k) × P) ⊎ (((c ≡ m) × Q) ⊎ ((c ≡ n) × R)))
        → Either (Tested a line k) (λ l c. (l ≡ line) × (((c ≡ m) × Q) ⊎ ((c ≡ n) × R))) l c
    from l c (e, inl t) = inl (is.1 t.1, (e, t.0))
    from l c (e, inr t) = inr (e, t)
