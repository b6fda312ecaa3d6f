-- Objects by their addresses and sizes.
use Rattle.std.proofs.Common.{◌≡◌, ℕ, zero, suc, ◌+◌, ◌<◌, inl, inr, List, [], ◌∷◌, ◌++◌, length, take, drop, get_or, set, refl, sym, ap, ◌∙◌, arith}
use Rattle.std.proofs.lemmas.Bool.{cases_eq, eq-eqb, ne_eqb}
use Rattle.std.proofs.lemmas.List.{drop_more, take_more, take_more_set, drop-set-lt, length-drop, append_assoc}
use Rattle.std.specs.List.{sum_by}
use Rattle.std.proofs.lemmas.List.Sums.{sum_by-cons}
use Rattle.moving_heap.specs.declared.stands.Stand.{Stand}
use Rattle.moving_heap.specs.Contents.{Content, bytes_of, sizes_of}
use Rattle.moving_heap.specs.declared.stands.Moved.{Moved}
use Rattle.moving_heap.specs.Settled.{numbered, sent_on, followed}
use Rattle.list_laws.proofs.Numbers.{less}

same_rest : (a b : ℕ) → suc a ≡ suc b → a ≡ b
same_rest a b h = omega arith

pub numbered-length : (n : ℕ) (addresses sizes : List ℕ) → length sizes ≡ length addresses → length (numbered n addresses sizes) ≡ length addresses
numbered-length n [] sizes e = refl
numbered-length n (a ∷ addresses) [] e = absurd (omega arith)
numbered-length n (a ∷ addresses) (s ∷ sizes) e = ap suc (numbered-length (suc n) addresses sizes (same_rest (length sizes) (length addresses) e))

pub numbered-at : (n : ℕ) (addresses sizes : List ℕ) (k number : ℕ) (d : Stand) (e f : ℕ) → length sizes ≡ length addresses → k < length addresses → number ≡ n + k + 1
    → get_or (numbered n addresses sizes) k d ≡ record { number = number; size = get_or sizes k e; address = get_or addresses k f }
numbered-at n [] sizes k number d e f same l is = absurd (omega arith)
numbered-at n (a ∷ addresses) [] k number d e f same l is = absurd (omega arith)
numbered-at n (a ∷ addresses) (s ∷ sizes) zero number d e f same l is =
    ap (λ (m : ℕ). let stand : Stand = record { number = m; size = s; address = a } in stand) (let first : suc n ≡ number = omega arith in first)
numbered-at n (a ∷ addresses) (s ∷ sizes) (suc k) number d e f same l is =
    numbered-at (suc n) addresses sizes k number d e f (same_rest (length sizes) (length addresses) same) (less k (length addresses) l) (omega arith)

pub numbered_push : (n : ℕ) (addresses sizes : List ℕ) (address size number : ℕ) → length sizes ≡ length addresses → number ≡ n + length addresses + 1
    → numbered n (addresses ++ address ∷ []) (sizes ++ size ∷ []) ≡ numbered n addresses sizes ++ record { number = number; size = size; address = address } ∷ []
numbered_push n [] [] address size number same is =
    ap (λ (m : ℕ). let stand : Stand = record { number = m; size = size; address = address } in stand ∷ []) (let first : suc n ≡ number = omega arith in first)
numbered_push n [] (s ∷ sizes) address size number same is = absurd (omega arith)
numbered_push n (a ∷ addresses) [] address size number same is = absurd (omega arith)
numbered_push n (a ∷ addresses) (s ∷ sizes) address size number same is =
    ap (λ (rest : List Stand). (let stand : Stand = record { number = suc n; size = s; address = a } in stand) ∷ rest)
    (numbered_push (suc n) addresses sizes address size number (same_rest (length sizes) (length addresses) same) (omega arith))

pub sent_on-length : (moves : List Moved) (addresses : List ℕ) → length (sent_on moves addresses) ≡ length addresses
sent_on-length [] addresses = refl
sent_on-length (move ∷ moves) [] = refl
sent_on-length (move ∷ moves) (address ∷ addresses) =
    elim (cases_eq move.old address) [
      | inl e ↦ rw (eq-eqb move.old address e) (ap suc (sent_on-length moves addresses))
      | inr ne ↦ rw (ne_eqb move.old address ne) (ap suc (sent_on-length (move ∷ moves) addresses))
    ]

pub numbered_sent : (n : ℕ) (moves : List Moved) (addresses sizes : List ℕ) → length sizes ≡ length addresses → numbered n (sent_on moves addresses) sizes ≡ followed moves (numbered n addresses sizes)
numbered_sent n [] addresses sizes same = refl
numbered_sent n (move ∷ moves) [] sizes same = refl
numbered_sent n (move ∷ moves) (address ∷ addresses) [] same = absurd (omega arith)
numbered_sent n (move ∷ moves) (address ∷ addresses) (size ∷ sizes) same =
    let rest = same_rest (length sizes) (length addresses) same in
    elim (cases_eq move.old address) [
      | inl e ↦ rw (eq-eqb move.old address e)
          (ap (λ (l : List Stand). (let stand : Stand = record { number = suc n; size = size; address = move.new } in stand) ∷ l) (numbered_sent (suc n) moves addresses sizes rest))
      | inr ne ↦ rw (ne_eqb move.old address ne)
          (ap (λ (l : List Stand). (let stand : Stand = record { number = suc n; size = size; address = address } in stand) ∷ l) (numbered_sent (suc n) (move ∷ moves) addresses sizes rest))
    ]

-- the footprints of all objects
pub numbered-sum : (n : ℕ) (addresses : List ℕ) (contents : List Content) → length contents ≡ length addresses
    → sum_by (λ (s : Stand). s.size) (numbered n addresses (sizes_of contents)) ≡ sum_by bytes_of contents
numbered-sum n [] [] same = refl
numbered-sum n [] (content ∷ contents) same = absurd (omega arith)
numbered-sum n (address ∷ addresses) [] same = absurd (omega arith)
numbered-sum n (address ∷ addresses) (content ∷ contents) same =
    let one : Stand = record { number = suc n; size = bytes_of content; address = address } in
    sum_by-cons (λ (s : Stand). s.size) one (numbered (suc n) addresses (sizes_of contents))
    ∙ ap (λ (m : ℕ). bytes_of content + m) (numbered-sum (suc n) addresses contents (same_rest (length contents) (length addresses) same))
    ∙ sym (sum_by-cons bytes_of content contents)

-- ---- addresses followed by their moves

first_of_drop : {X : Type 0} (n : ℕ) (xs : List X) (d : X) → get_or xs n d ≡ get_or (drop n xs) 0 d
first_of_drop zero xs d = refl
first_of_drop (suc n) [] d = refl
first_of_drop (suc n) (x ∷ xs) d = first_of_drop n xs d

pub followed_none : (moves : List Moved) → sent_on moves [] ≡ []
followed_none [] = refl
followed_none (move ∷ moves) = refl
