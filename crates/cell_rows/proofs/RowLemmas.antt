-- Rows of cells: where a cell stands, and a further object.
use Rattle.std.proofs.Common.{◌≡◌, ℕ, zero, suc, ◌+◌, ◌*◌, ◌<◌, ◌≤◌, ◌^◌, Bool, true, false, inl, inr, List, [], ◌∷◌, ◌++◌, length, drop, get_or, refl, sym, ap, ◌∙◌, arith, cond, ltb, Option, Some, None}
use Rattle.std.specs.Prelude.{slice_get}
use Rattle.std.specs.Option.{option_and_then, option_map}
use Rattle.std.proofs.lemmas.Bool.{lt-ltb, le-ltb, cases_lt}
use Rattle.std.proofs.lemmas.List.{get_or_append_left, get_or_push, length_push}
use Rattle.std.proofs.lemmas.List.Sums.{sum_by-cons, sum_by_push}
use Rattle.std.proofs.Math.ListN.{take}
use Rattle.std.proofs.Math.Nat.{mul-le-mul_right}
use Rattle.cell_rows.specs.declared.shapes.Shape.{Shape}
use Rattle.cell_rows.specs.Rows.{sizes, before, place_in, AreOrdered, AreLaid}
use Rattle.list_laws.proofs.Numbers.{less}

-- ---- lists cut at a place

get_dropped : {X : Type 0} (n p : ℕ) (xs : List X) → slice_get (drop n xs) p ≡ slice_get xs (n + p)
get_dropped zero p xs = let e : 0 + p ≡ p = omega arith in rw e refl
get_dropped (suc n) p [] = refl
get_dropped (suc n) p (x ∷ xs) = let e : suc n + p ≡ suc (n + p) = omega arith in rw e (get_dropped n p xs)

pub get_along : {X : Type 0} (xs : List X) (n : ℕ) (place : Option ℕ) → option_and_then (slice_get (drop n xs)) place ≡ option_and_then (slice_get xs) (option_map (λ p. n + p) place)
get_along xs n None = refl
get_along xs n (Some p) = get_dropped n p xs

of_none : {X : Type 0} (p : ℕ) (b : Bool) → ◌≡◌ {A = Option X} None (option_and_then (slice_get []) (cond b (Some p) None))
of_none p true = refl
of_none p false = refl

pub get_front : {X : Type 0} (n p : ℕ) (xs : List X) → slice_get (take n xs) p ≡ option_and_then (slice_get xs) (cond (ltb p n) (Some p) None)
get_front zero p xs = rw (le-ltb p 0 (let h : 0 ≤ p = omega arith in h)) refl
get_front (suc n) p [] = of_none p (ltb p (suc n))
get_front (suc n) zero (x ∷ xs) = rw (lt-ltb 0 (suc n) (let h : 0 < suc n = omega arith in h)) refl
get_front (suc n) (suc p) (x ∷ xs) =
    elim (cases_lt p n) [
      | inl a ↦ get_front n p xs ∙ rw (lt-ltb p n a, lt-ltb (suc p) (suc n) (let h : suc p < suc n = omega arith in h)) refl
      | inr b ↦ get_front n p xs ∙ rw (le-ltb p n b, le-ltb (suc p) (suc n) (let h : suc n ≤ suc p = omega arith in h)) refl
    ]

-- ---- where a cell stands

shifted : (b : Bool) (n m cell : ℕ) → option_map (λ place. n + place) (cond b (Some (m + cell)) None) ≡ cond b (Some ((n + m) + cell)) None
shifted true n m cell = ap (λ p. Some p) (let e : n + (m + cell) ≡ (n + m) + cell = omega arith in e)
shifted false n m cell = refl

-- from the first cell of its object
pub place_is : (shapes : List Shape) (object cell : ℕ) (d : Shape) → object < length shapes → place_in shapes object cell ≡ cond (ltb cell (get_or shapes object d).cells) (Some (before shapes object + cell)) None
place_is [] object cell d l = absurd (omega arith)
place_is (shape ∷ shapes) zero cell d l = let e : 0 + cell ≡ cell = omega arith in rw e refl
place_is (shape ∷ shapes) (suc object) cell d l =
    ap (option_map (λ place. shape.cells + place)) (place_is shapes object cell d (less object (length shapes) l)) ∙ shifted (ltb cell (get_or shapes object d).cells) shape.cells (before shapes object) cell

pub place_past : (shapes : List Shape) (object cell : ℕ) → length shapes ≤ object → place_in shapes object cell ≡ None
place_past [] object cell l = refl
place_past (shape ∷ shapes) zero cell l = absurd (omega arith)
place_past (shape ∷ shapes) (suc object) cell l = ap (option_map (λ place. shape.cells + place)) (place_past shapes object cell (let h : length shapes ≤ object = omega arith in h))

before_within : (shapes : List Shape) (object : ℕ) (d : Shape) → object < length shapes → before shapes object + (get_or shapes object d).cells ≤ sizes shapes
before_within [] object d l = absurd (omega arith)
before_within (shape ∷ shapes) zero d l = let s = sum_by-cons (λ (x : Shape). x.cells) shape shapes in omega arith
before_within (shape ∷ shapes) (suc object) d l =
    let h = before_within shapes object d (less object (length shapes) l) in let s = sum_by-cons (λ (x : Shape). x.cells) shape shapes in omega arith

-- ---- a further object

before-push : (shapes : List Shape) (shape : Shape) (k : ℕ) → k < length shapes → before (shapes ++ shape ∷ []) k ≡ before shapes k
before-push [] shape k l = absurd (omega arith)
before-push (one ∷ shapes) shape zero l = refl
before-push (one ∷ shapes) shape (suc k) l = ap (λ n. one.cells + n) (before-push shapes shape k (less k (length shapes) l))

before-all : (shapes : List Shape) (shape : Shape) → before (shapes ++ shape ∷ []) (length shapes) ≡ sizes shapes
before-all [] shape = refl
before-all (one ∷ shapes) shape = ap (λ n. one.cells + n) (before-all shapes shape) ∙ sym (sum_by-cons (λ (x : Shape). x.cells) one shapes)

ordered_push : (shapes : List Shape) (shape : Shape) → AreOrdered shapes → shape.first ≡ sizes shapes → sizes shapes + shape.cells < 2 ^ 32 → AreOrdered (shapes ++ shape ∷ [])
ordered_push shapes shape are first small =
    let count = length_push shapes shape in
    record {
      firsts = λ k d l. elim (cases_lt k (length shapes)) [
        | inl a ↦ rw (get_or_append_left shapes (shape ∷ []) d k a, before-push shapes shape k a) (are.firsts k d a)
        | inr b ↦ (let e : length shapes ≡ k = omega arith in
            ap (λ (x : Shape). x.first) (get_or_push shapes shape d k e) ∙ first ∙ sym (before-all shapes shape) ∙ ap (before (shapes ++ shape ∷ [])) e)
      ];
      small = let s = sum_by_push (λ (x : Shape). x.cells) shapes shape in omega arith;
    }

-- an object whose cells stand behind all others
pub laid_push : (shapes : List Shape) (cells : ℕ) (shape : Shape) (more : ℕ) → AreLaid shapes cells → shape.first ≡ cells → more ≡ cells + shape.cells → more < 2 ^ 32
    → AreLaid (shapes ++ shape ∷ []) more
laid_push shapes cells shape more are first is small =
    let s = sum_by_push (λ (x : Shape). x.cells) shapes shape in
    record {
      ordered = ordered_push shapes shape are.ordered (first ∙ sym are.whole) (omega (arith, are.whole));
      whole = omega (arith, are.whole);
    }

-- the cells of one more element
pub turn_fits : (turn count size : ℕ) → turn < count → turn * size + size ≤ count * size
turn_fits turn count size h = let m = mul-le-mul_right size (let g : turn + 1 ≤ count = omega arith in g) in let e : (turn + 1) * size ≡ turn * size + size = grind arith in omega arith
