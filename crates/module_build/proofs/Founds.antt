-- What is found at the elements of a list, one after another.
use Rattle.std.proofs.Common.{◌≡◌, ◌∙◌, ℕ, ◌+◌, ◌<◌, ◌⊎◌, inl, inr, List, [], ◌∷◌, ◌++◌, length, get_or, take, drop, refl, ap, sym, subst, arith, suc, add-one, length-append}
use Rattle.std.specs.Prelude.{Option, Some, map, slice_get, option_map}
use Rattle.std.proofs.Math.Seq.{take-append_seam}
use Rattle.std.proofs.lemmas.Option.{slice_get-get_or, slice_get-map}
use Rattle.list_laws.proofs.Places.{cases_below, get_middle, split_at}
use Rattle.ir_lines.specs.declared.faults.Fault.{Fault}
use Rattle.ir_lines.specs.Notes.{Notes}
use Rattle.module_build.specs.Founds.{Found}
use Rattle.ir_lines.proofs.NoteLemmas.{Either, notes-then, notes-same, notes-nothing}

-- ---- at the first n elements

pub record FoundUpTo {X : Type 0} (P : List X → X → List X → ℕ → ℕ → Type 0) (xs : List X) (n line code : ℕ) : Type 0 where
  pub k : ℕ
  pub below : k < n
  pub here : X
  pub at : slice_get xs k ≡ Some here
  pub faulty : P (take k xs) here (drop (k + 1) xs) line code

pub notes-start : {X : Type 0} (P : List X → X → List X → ℕ → ℕ → Type 0) (xs : List X) (kept : Option Fault)
    → Notes kept kept (FoundUpTo P xs 0)
notes-start P xs kept = notes-nothing kept (FoundUpTo P xs 0) (λ line code f. let b : f.k < 0 = f.below in omega arith)

turn-to : {X : Type 0} (P : List X → X → List X → ℕ → ℕ → Type 0) (xs : List X) (i : ℕ) (x : X) → slice_get xs i ≡ Some x
    → (line code : ℕ) → Either (FoundUpTo P xs i) (P (take i xs) x (drop (i + 1) xs)) line code → FoundUpTo P xs (i + 1) line code
turn-to P xs i x at line code (inl f) =
    record { k = f.k; below = (let b : f.k < i = f.below in omega arith); here = f.here; at = f.at; faulty = f.faulty }
turn-to P xs i x at line code (inr f) = record { k = i; below = omega arith; here = x; at = at; faulty = f }

turn-by : {X : Type 0} (P : List X → X → List X → ℕ → ℕ → Type 0) (xs : List X) (i : ℕ) (x : X) → slice_get xs i ≡ Some x
    → (line code k : ℕ) (here : X) → slice_get xs k ≡ Some here → P (take k xs) here (drop (k + 1) xs) line code
    → (k < i) ⊎ (k ≡ i) → Either (FoundUpTo P xs i) (P (take i xs) x (drop (i + 1) xs)) line code
turn-by P xs i x at line code k here is faulty (inl lt) = inl (record { k = k; below = lt; here = here; at = is; faulty = faulty })
turn-by P xs i x at line code k here is faulty (inr e) =
    let is' : slice_get xs i ≡ Some here = subst (λ (n : ℕ). slice_get xs n ≡ Some here) e is in
    let same : here ≡ x = cc (at, is') in
    let moved : P (take i xs) here (drop (i + 1) xs) line code
    = subst (λ (n : ℕ). P (take n xs) here (drop (n + 1) xs) line code) e faulty in
    inr (subst (λ (y : _). P (take i xs) y (drop (i + 1) xs) line code) same moved)

-- one more element
pub notes-turn : {X : Type 0} (P : List X → X → List X → ℕ → ℕ → Type 0) (xs : List X) (i : ℕ) (x : X) (old between new : Option Fault)
    → slice_get xs i ≡ Some x → Notes old between (FoundUpTo P xs i) → Notes between new (P (take i xs) x (drop (i + 1) xs))
    → Notes old new (FoundUpTo P xs (i + 1))
notes-turn P xs i x old between new at m n =
    notes-same old new (Either (FoundUpTo P xs i) (P (take i xs) x (drop (i + 1) xs))) (FoundUpTo P xs (i + 1)) (turn-to P xs i x at)
    (λ line code f. turn-by P xs i x at line code f.k f.here f.at f.faulty (cases_below f.k i f.below))
    (notes-then old between new (FoundUpTo P xs i) (P (take i xs) x (drop (i + 1) xs)) m n)

-- ---- at all elements

drop-whole : {X : Type 0} (before : List X) (here : X) (after : List X) → drop (suc (length before)) (before ++ here ∷ after) ≡ after
drop-whole [] here after = refl
drop-whole (y ∷ ys) here after = drop-whole ys here after

length-whole : {X : Type 0} (before : List X) (here : X) (after : List X) → length before < length (before ++ here ∷ after)
length-whole before here after = omega (arith, length-append before (here ∷ after))

pub record IsWholeAt {X : Type 0} (xs before : List X) (here : X) (after : List X) : Type 0 where
  pub below : length before < length xs
  pub at : slice_get xs (length before) ≡ Some here
  pub front : take (length before) xs ≡ before
  pub back : drop (length before + 1) xs ≡ after

pub whole-at : {X : Type 0} (xs before : List X) (here : X) (after : List X) → xs ≡ before ++ here ∷ after → IsWholeAt xs before here after
whole-at xs before here after e = subst (λ (ys : List _). IsWholeAt ys before here after) (sym e) (record {
  below = length-whole before here after;
  at = get_middle before here after;
  front = take-append_seam before (here ∷ after);
  back = ap (λ n. drop n (before ++ here ∷ after)) (add-one (length before)) ∙ drop-whole before here after;
})

found-all : {X : Type 0} (P : List X → X → List X → ℕ → ℕ → Type 0) (xs : List X) (line code : ℕ)
    → FoundUpTo P xs (length xs) line code → Found P xs line code
found-all P xs line code f = record {
  before = take f.k xs;
  here = f.here;
  after = drop (f.k + 1) xs;
  whole = split_at xs f.k f.here f.at;
  faulty = f.faulty;
}

found-back : {X : Type 0} (P : List X → X → List X → ℕ → ℕ → Type 0) (xs : List X) (line code : ℕ)
    → Found P xs line code → FoundUpTo P xs (length xs) line code
found-back P xs line code f =
    let w : IsWholeAt xs f.before f.here f.after = whole-at xs f.before f.here f.after f.whole in
    record {
      k = length f.before;
      below = w.below;
      here = f.here;
      at = w.at;
      faulty = subst (λ (b : List _). P b f.here (drop (length f.before + 1) xs) line code) (sym w.front)
          (subst (λ (a : List _). P f.before f.here a line code) (sym w.back) f.faulty);
    }

-- all elements
pub notes-all : {X : Type 0} (P : List X → X → List X → ℕ → ℕ → Type 0) (xs : List X) (n : ℕ) (old new : Option Fault)
    → n ≡ length xs → Notes old new (FoundUpTo P xs n) → Notes old new (Found P xs)
notes-all P xs n old new e m =
    notes-same old new (FoundUpTo P xs (length xs)) (Found P xs) (found-all P xs) (found-back P xs)
    (subst (λ (k : ℕ). Notes old new (FoundUpTo P xs k)) e m)

-- where the same is found, the same is found at the elements
pub found-more : {X : Type 0} (P Q : List X → X → List X → ℕ → ℕ → Type 0) (xs : List X)
    → ((before : List X) (here : X) (after : List X) (line code : ℕ) → P before here after line code → Q before here after line code)
    → (line code : ℕ) → Found P xs line code → Found Q xs line code
found-more P Q xs to line code f =
    record { before = f.before; here = f.here; after = f.after; whole = f.whole; faulty = to f.before f.here f.after line code f.faulty }

pub notes-alike : {X : Type 0} (P Q : List X → X → List X → ℕ → ℕ → Type 0) (xs : List X) (old new : Option Fault)
    → ((before : List X) (here : X) (after : List X) (line code : ℕ) → P before here after line code → Q before here after line code)
    → ((before : List X) (here : X) (after : List X) (line code : ℕ) → Q before here after line code → P before here after line code)
    → Notes old new (Found P xs) → Notes old new (Found Q xs)
notes-alike P Q xs old new to back n = notes-same old new (Found P xs) (Found Q xs) (found-more P Q xs to) (found-more Q P xs back) n
