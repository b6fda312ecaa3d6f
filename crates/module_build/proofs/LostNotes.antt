-- What a line loses, code by code.
use Rattle.std.proofs.Common.{◌≡◌, ℕ, inl, inr, Bool, subst}
use Rattle.std.specs.Prelude.{Option, IsTrue}
use Rattle.ir_lines.specs.declared.faults.Fault.{Fault}
use Rattle.ir_lines.specs.Notes.{Notes, Is}
use Rattle.ir_lines.proofs.NoteLemmas.{Either, notes-then, notes-same}
use Rattle.module_build.specs.Lost.{LostBy, unknown_name, spelled_wrong, pointer_cast, counted_wrong}

-- this line with this code, where the test holds
abbrev pub When : Bool → ℕ → ℕ → ℕ → ℕ → Type 0
When test line number l code = IsTrue test × Is line number l code

abbrev pub Four : Bool → Bool → Bool → Bool → ℕ → ℕ → ℕ → Type 0
Four unknown misspelled conversion miscounted line =
    Either (Either (Either (When unknown line 4) (When misspelled line 5)) (When conversion line 16)) (When miscounted line 18)

four-lost : (u m v n : Bool) (line l code : ℕ) → Four u m v n line l code → (l ≡ line) × LostBy u m v n code
four-lost u m v n line l code (inl (inl (inl f))) = (f.1.0, unknown_name f.1.1 f.0)
four-lost u m v n line l code (inl (inl (inr f))) = (f.1.0, spelled_wrong f.1.1 f.0)
four-lost u m v n line l code (inl (inr f)) = (f.1.0, pointer_cast f.1.1 f.0)
four-lost u m v n line l code (inr f) = (f.1.0, counted_wrong f.1.1 f.0)

lost-four : (u m v n : Bool) (line l code : ℕ) → l ≡ line → LostBy u m v n code → Four u m v n line l code
lost-four u m v n line l code is (unknown_name c t) = inl (inl (inl (t, (is, c))))
lost-four u m v n line l code is (spelled_wrong c t) = inl (inl (inr (t, (is, c))))
lost-four u m v n line l code is (pointer_cast c t) = inl (inr (t, (is, c)))
lost-four u m v n line l code is (counted_wrong c t) = inr (t, (is, c))

pub notes-lost : (u m v n : Bool) (line : ℕ) (old a b c new : Option Fault)
    → Notes old a (When u line 4) → Notes a b (When m line 5) → Notes b c (When v line 16) → Notes c new (When n line 18)
    → Notes old new (λ l code. (l ≡ line) × LostBy u m v n code)
notes-lost u m v n line old a b c new p q r s =
    notes-same old new (Four u m v n line) (λ l code. (l ≡ line) × LostBy u m v n code) (four-lost u m v n line)
    (λ l code f. lost-four u m v n line l code f.0 f.1)
    (notes-then old c new _ _ (notes-then old b c _ _ (notes-then old a b _ _ p q) r) s)

-- the same tests
pub notes-by : (line : ℕ) (old new : Option Fault) (u m v n a b c d : Bool) → u ≡ a → m ≡ b → v ≡ c → n ≡ d
    → Notes old new (λ l code. (l ≡ line) × LostBy u m v n code) → Notes old new (λ l code. (l ≡ line) × LostBy a b c d code)
notes-by line old new u m v n a b c d e f g h noted =
    subst (λ (t : Bool). Notes old new (λ l code. (l ≡ line) × LostBy a b c t code)) h
    (subst (λ (t : Bool). Notes old new (λ l code. (l ≡ line) × LostBy a b t n code)) g
    (subst (λ (t : Bool). Notes old new (λ l code. (l ≡ line) × LostBy a t v n code)) f
    (subst (λ (t : Bool). Notes old new (λ l code. (l ≡ line) × LostBy t m v n code)) e noted)))
