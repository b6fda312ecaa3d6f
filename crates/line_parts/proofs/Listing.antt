-- Lists read element by element, as a loop does.
use Rattle.std.proofs.Common.{◌≡◌, ℕ, zero, suc, ◌+◌, ◌-◌, ◌<◌, ◌≤◌, Bool, true, false, cond, List, [], ◌∷◌, ◌++◌, length, Option, Some, None, refl, sym, ap, ◌∙◌, append_assoc, arith}
use Rattle.std.specs.Prelude.{codes}
use Rattle.std.proofs.lemmas.List.{length-append}
use Rattle.sp_text.specs.Tokens.{Tok, tok, bad, over}
use Rattle.line_parts.specs.declared.faults.Stop.{Stop}
use Rattle.line_parts.specs.declared.faults.Stop.TheVariants as stops
use Rattle.line_tokens.specs.declared.words.Dropped.TheVariants as drops
use Rattle.line_parts.specs.Types.{TypeWord}
use Rattle.line_parts.specs.Types as types
use Rattle.line_parts.specs.Gives.{Found, Stops, after, one_at, with_rest, noted, one_noted_at}
use Rattle.line_parts.specs.Bundles.{kept_entry_at, live_entry_at}
use Rattle.line_tokens.specs.Marks.{is_word, is_mark, begins}
use Rattle.line_parts.specs.Drops.{past, past_all}
use Rattle.line_parts.specs.Parts.{addrspace_at, pointer_at, type_behind, other_type_at, spelled_type_at, allowed_type_at, is_value_type, is_managed, value_at, name_if_any}
use Rattle.line_tokens.specs.Numbers.{width_of, width_passes}
use Rattle.line_parts.specs.Lists.{at_most_at, listed_at, is_argument_type, argument_at, given_behind, passed_at, entry_at}
use Rattle.line_parts.proofs.Dropping.{past-le, past_all-le}
use Rattle.line_parts.proofs.Notes.{count, count-more, count-le, noted-count}

-- ---- what is read takes at least one token

abbrev pub Shorter : {A : Type 0} → ℕ → Found A → Type 0
Shorter n None = Unit {0}
Shorter n (Some x) = count x.1 < n

abbrev NoLonger : {A : Type 0} → ℕ → Found A → Type 0
NoLonger n None = Unit {0}
NoLonger n (Some x) = count x.1 ≤ n

pub shorter_is : {A : Type 0} (n : ℕ) (found : Found A) (x : A) (rest : List Tok) → Shorter n found → found ≡ Some (x, rest) → count rest < n
shorter_is n None x rest s e = absurd cc
shorter_is n (Some y) x rest s e = let same : y.1 ≡ rest = cc in rw (← same) s

wider : {A : Type 0} (n m : ℕ) (found : Found A) → n ≤ m → Shorter n found → Shorter m found
wider n m None le s = tt
wider n m (Some x) le s = omega arith

no_longer : {A : Type 0} (n m : ℕ) (found : Found A) → n < m → NoLonger n found → Shorter m found
no_longer n m None lt s = tt
no_longer n m (Some x) lt s = omega arith

from_shorter : {A : Type 0} (n : ℕ) (found : Found A) → Shorter n found → NoLonger n found
from_shorter n None s = tt
from_shorter n (Some x) s = omega arith

choose : {A : Type 0} (n : ℕ) (b : Bool) (x y : Found A) → Shorter n x → Shorter n y → Shorter n (cond b x y)
choose n true x y p q = p
choose n false x y p q = q

choose_no : {A : Type 0} (n : ℕ) (b : Bool) (x y : Found A) → NoLonger n x → NoLonger n y → NoLonger n (cond b x y)
choose_no n true x y p q = p
choose_no n false x y p q = q

pub after-shorter : {A B : Type 0} (n : ℕ) (found : Found A) (next : A → List Tok → Found B) → Shorter n found → ((x : A) (rest : List Tok) → count rest < n → Shorter n (next x rest)) → Shorter n (after found next)
unfolding after
after-shorter n None next s more = tt
after-shorter n (Some x) next s more = more x.0 x.1 s

with_rest-shorter : {A : Type 0} (n : ℕ) (rest : List Tok) (said : Option A) → count rest < n → Shorter n (with_rest rest said)
with_rest-shorter n rest None lt = tt
with_rest-shorter n rest (Some x) lt = lt

pub one_at-shorter : {A : Type 0} (n : ℕ) (says : Tok → Option A) (ts : List Tok) → count ts ≤ n → Shorter n (one_at says ts)
unfolding one_at
one_at-shorter n says [] le = tt
one_at-shorter n says (over ∷ ts) le = tt
one_at-shorter n says (bad ∷ ts) le = with_rest-shorter n ts (says bad) (omega arith)
one_at-shorter n says (tok kind bytes ∷ ts) le = with_rest-shorter n ts (says (tok kind bytes)) (omega arith)

one_noted-shorter : {A : Type 0} (n : ℕ) (says : Tok → Option A) (passes : Tok → Bool) (ts : List Tok) → count ts ≤ n → Shorter n (one_noted_at says passes ts)
unfolding one_noted_at
one_noted-shorter n says passes [] le = tt
one_noted-shorter n says passes (over ∷ ts) le = tt
one_noted-shorter n says passes (bad ∷ ts) le = with_rest-shorter n (noted (passes bad) ts) (says bad) (omega (arith, noted-count (passes bad) ts))
one_noted-shorter n says passes (tok kind bytes ∷ ts) le =
    let t : Tok = tok kind bytes in with_rest-shorter n (noted (passes t) ts) (says t) (omega (arith, noted-count (passes t) ts))

-- a token of which the test is true
pub one_next : {A : Type 0} (n : ℕ) (says : Tok → Option A) (rest : List Tok) → count rest < n → Shorter n (one_at says rest)
one_next n says rest lt = one_at-shorter n says rest (omega arith)

pub value_next : (n : ℕ) (rest : List Tok) → count rest < n → Shorter n (value_at rest)
value_next n rest lt = one_noted-shorter n _ _ rest (omega arith)

addrspace_at-shorter : (n : ℕ) (ts : List Tok) → count ts ≤ n → Shorter n (addrspace_at ts)
unfolding addrspace_at
addrspace_at-shorter n ts le =
    after-shorter n _ _ (one_at-shorter n _ ts le) (λ _ r1 l1. after-shorter n _ _ (one_next n _ r1 l1) (λ _ r2 l2.
    after-shorter n _ _ (one_next n _ r2 l2) (λ _ r3 l3. one_next n _ r3 l3)))

pointer_at-no_longer : (ts : List Tok) → NoLonger (count ts) (pointer_at ts)
unfolding pointer_at
pointer_at-no_longer ts = choose_no _ (begins (is_word (codes "addrspace")) ts) _ _
    (from_shorter _ _ (after-shorter (count ts) _ _ (addrspace_at-shorter (count ts) ts (omega arith)) (λ _ r l. l))) (omega arith)

other_type-shorter : (t : Tok) (ts : List Tok) → Shorter (suc (count ts)) (other_type_at t ts)
other_type-shorter t ts = choose _ (is_word (codes "void") t) _ _ (omega arith)
    (choose _ (is_word (codes "ptr") t) _ _ (no_longer (count ts) _ _ (omega arith) (pointer_at-no_longer ts)) tt)

type_behind-shorter : (t : Tok) (ts : List Tok) (bits : Option ℕ) → Shorter (suc (count ts)) (type_behind t ts bits)
type_behind-shorter t ts (Some bits) = omega (arith, noted-count (width_passes t) ts)
type_behind-shorter t ts None = other_type-shorter t ts

spelled_type_at-shorter : (ts : List Tok) → Shorter (count ts) (spelled_type_at ts)
unfolding spelled_type_at
spelled_type_at-shorter [] = tt
spelled_type_at-shorter (over ∷ ts) = tt
spelled_type_at-shorter (bad ∷ ts) = tt
spelled_type_at-shorter (tok kind bytes ∷ ts) = type_behind-shorter (tok kind bytes) ts (width_of (tok kind bytes))

pub allowed_type_at-shorter : (allows : TypeWord → Bool) (ts : List Tok) → Shorter (count ts) (allowed_type_at allows ts)
unfolding allowed_type_at
allowed_type_at-shorter allows ts = after-shorter (count ts) _ _ (spelled_type_at-shorter ts) (λ ty rest lt. choose _ (allows ty) _ _ lt tt)

chosen_name-le : (t : Tok) (ts : List Tok) (name : Option (List ℕ)) → count (let r : Option (List ℕ) × List Tok = elim name [ None ↦ (None, t ∷ ts) | Some bytes ↦ (Some bytes, ts) ] in r.1) ≤ count (t ∷ ts)
chosen_name-le t ts None = omega arith
chosen_name-le t ts (Some bytes) = count-more t ts

name_if_any-le : (ts : List Tok) → count (name_if_any ts).1 ≤ count ts
name_if_any-le [] = omega arith
name_if_any-le (t ∷ ts) = chosen_name-le t ts (Rattle.line_tokens.specs.Marks.local_of t)

pub argument_at-shorter : (plain : Bool) (ts : List Tok) → Shorter (count ts) (argument_at plain ts)
unfolding argument_at
argument_at-shorter plain ts = after-shorter (count ts) _ _ (allowed_type_at-shorter (is_argument_type plain) ts)
    (λ ty rest lt. omega (arith, name_if_any-le (past_all drops.Groups rest), past_all-le drops.Groups rest))

given_behind-shorter : (n : ℕ) (ty : TypeWord) (ts : List Tok) → count ts ≤ n → Shorter n (given_behind ty ts)
given_behind-shorter n types.Plain ts le = after-shorter n _ _ (one_at-shorter n _ ts le) (λ _ r l. l)
given_behind-shorter n types.Void ts le = after-shorter n _ _ (one_noted-shorter n _ _ ts le) (λ _ r l. l)
given_behind-shorter n (types.Int bits) ts le = after-shorter n _ _ (one_noted-shorter n _ _ ts le) (λ _ r l. l)
given_behind-shorter n types.Managed ts le = after-shorter n _ _ (one_noted-shorter n _ _ ts le) (λ _ r l. l)

pub passed_at-shorter : (plain : Bool) (ts : List Tok) → Shorter (count ts) (passed_at plain ts)
unfolding passed_at
passed_at-shorter plain ts = after-shorter (count ts) _ _ (allowed_type_at-shorter (is_argument_type plain) ts)
    (λ ty rest lt. given_behind-shorter (count ts) ty (past_all drops.Groups rest) (omega (arith, past_all-le drops.Groups rest)))

pub entry_at-shorter : (ts : List Tok) → Shorter (count ts) (entry_at ts)
unfolding entry_at
entry_at-shorter ts = after-shorter (count ts) _ _ (one_at-shorter (count ts) _ ts (omega arith)) (λ _ r1 l1. after-shorter (count ts) _ _ (value_next (count ts) r1 l1)
    (λ value r2 l2. after-shorter (count ts) _ _ (one_next (count ts) _ r2 l2) (λ _ r3 l3. after-shorter (count ts) _ _ (one_next (count ts) _ r3 l3)
    (λ label r4 l4. after-shorter (count ts) _ _ (one_next (count ts) _ r4 l4) (λ _ r5 l5. l5)))))

-- ---- a loop over the elements

-- what was read before, and what is still read
abbrev pub with_front : {A : Type 0} → List A → Found (List A) → Found (List A)
with_front front found = after found (λ xs end. Some (front ++ xs, end))

-- a loop that has read `front` stands at `ts`
pub record Reached {A : Type 0} (element : List Tok → Found A) (more : List Tok → Bool) (all : List Tok) (front : List A) (ts : List Tok) : Type 0 where
  pub rest_is : with_front front (at_most_at element more (length all - length front) ts) ≡ listed_at element more all
  pub within : count ts + length front ≤ length all

front_nil : {A : Type 0} (found : Found (List A)) → with_front [] found ≡ found
unfolding after
front_nil None = refl
front_nil (Some x) = refl

front_more : {A : Type 0} (front : List A) (x : A) (found : Found (List A)) → with_front front (after found (λ xs end. Some (x ∷ xs, end))) ≡ with_front (front ++ x ∷ []) found
unfolding after
front_more {A = A} front x None = refl
front_more {A = A} front x (Some y) = ap (λ (xs : List A). Some (xs, y.1)) (sym (append_assoc front (x ∷ []) y.0))

-- one turn: what is read from `ts` on, by what the element there says and whether more follows
abbrev turned : {A : Type 0} → (List Tok → Found A) → (List Tok → Bool) → ℕ → A → List Tok → Found (List A)
turned element more n x rest = cond (more rest) (after (at_most_at element more n (past (is_mark (codes ",")) rest)) (λ xs end. Some (x ∷ xs, end))) (Some (x ∷ [], rest))

turn : {A : Type 0} (element : List Tok → Found A) (more : List Tok → Bool) (n : ℕ) (ts : List Tok) (x : A) (rest : List Tok) → element ts ≡ Some (x, rest)
    → at_most_at element more (suc n) ts ≡ turned element more n x rest
unfolding at_most_at after
turn {A = A} element more n ts x rest e = ap (λ (f : Found A). after f (λ x rest. turned element more n x rest)) e

no_turn : {A : Type 0} (element : List Tok → Found A) (more : List Tok → Bool) (n : ℕ) (ts : List Tok) → element ts ≡ None → at_most_at element more (suc n) ts ≡ None
unfolding at_most_at after
no_turn {A = A} element more n ts e = ap (λ (f : Found A). after f (λ x rest. turned element more n x rest)) e

none_read : {A : Type 0} (element : List Tok → Found A) (more : List Tok → Bool) (n : ℕ) (ts : List Tok) → element ts ≡ None → at_most_at element more n ts ≡ None
unfolding at_most_at
none_read element more zero ts e = refl
none_read element more (suc n) ts e = no_turn element more n ts e

pub reached_first : {A : Type 0} (element : List Tok → Found A) (more : List Tok → Bool) (all : List Tok) → Reached element more all [] all
unfolding listed_at
reached_first {A = A} element more all =
    let fuel : length all - length {A = A} [] ≡ length all = omega arith in
    record { rest_is = rw fuel (front_nil (at_most_at element more (length all) all)); within = omega (arith, count-le all) }

-- an element was read, and the list ends with it
pub reached_end : {A : Type 0} (element : List Tok → Found A) (more : List Tok → Bool) (all : List Tok) (front : List A) (ts : List Tok) (x : A) (rest : List Tok)
    → Reached element more all front ts → element ts ≡ Some (x, rest) → count rest < count ts → more rest ≡ false → listed_at element more all ≡ Some (front ++ x ∷ [], rest)
unfolding after
reached_end {A = A} element more all front ts x rest so_far e lt ends =
    let fuel : length all - length front ≡ suc (length all - length front - 1) = omega (arith, so_far.within) in
    let last : turned element more (length all - length front - 1) x rest ≡ Some (x ∷ [], rest) = rw ends refl in
    let read : at_most_at element more (length all - length front) ts ≡ Some (x ∷ [], rest) = rw fuel (turn element more (length all - length front - 1) ts x rest e ∙ last) in
    sym so_far.rest_is ∙ ap (λ (f : Found (List A)). with_front front f) read

next_at : {A : Type 0} (element : List Tok → Found A) (more : List Tok → Bool) (all : List Tok) (front : List A) (ts : List Tok) (x : A) (rest : List Tok) (n : ℕ)
    → length all - length front ≡ suc n → Reached element more all front ts → element ts ≡ Some (x, rest) → more rest ≡ true
    → with_front (front ++ x ∷ []) (at_most_at element more n (past (is_mark (codes ",")) rest)) ≡ listed_at element more all
next_at {A = A} element more all front ts x rest n fuel so_far e follows =
    let next : Found (List A) = at_most_at element more n (past (is_mark (codes ",")) rest) in
    let one : turned element more n x rest ≡ after next (λ xs end. Some (x ∷ xs, end)) = rw follows refl in
    let read : at_most_at element more (suc n) ts ≡ after next (λ xs end. Some (x ∷ xs, end)) = turn element more n ts x rest e ∙ one in
    let so_far_n : with_front front (at_most_at element more (suc n) ts) ≡ listed_at element more all = rw (← fuel) so_far.rest_is in
    sym (front_more front x next) ∙ sym (ap (λ (f : Found (List A)). with_front front f) read) ∙ so_far_n

-- an element was read, and another one follows behind the comma
pub reached_next : {A : Type 0} (element : List Tok → Found A) (more : List Tok → Bool) (all : List Tok) (front : List A) (ts : List Tok) (x : A) (rest : List Tok)
    → Reached element more all front ts → element ts ≡ Some (x, rest) → count rest < count ts → more rest ≡ true → Reached element more all (front ++ x ∷ []) (past (is_mark (codes ",")) rest)
reached_next {A = A} element more all front ts x rest so_far e lt follows =
    let n : ℕ = length all - length front - 1 in
    let len : length (front ++ x ∷ []) ≡ length front + 1 = length-append front (x ∷ []) in
    let left : length all - length (front ++ x ∷ []) ≡ n = omega (arith, len) in
    record {
      rest_is = rw left (next_at element more all front ts x rest n (omega (arith, so_far.within)) so_far e follows);
      within = omega (arith, len, so_far.within, past-le (is_mark (codes ",")) rest);
    }

-- no element stands there
pub reached_none : {A : Type 0} (element : List Tok → Found A) (more : List Tok → Bool) (all : List Tok) (front : List A) (ts : List Tok)
    → Reached element more all front ts → element ts ≡ None → listed_at element more all ≡ None
unfolding after
reached_none {A = A} element more all front ts so_far e =
    let read : at_most_at element more (length all - length front) ts ≡ None = none_read element more (length all - length front) ts e in
    sym so_far.rest_is ∙ ap (λ (f : Found (List A)). with_front front f) read

-- the loop ends where an element isn't read
pub reached_stop : {A : Type 0} (element : List Tok → Found A) (more : List Tok → Bool) (all : List Tok) (front : List A) (ts : List Tok) (e : Stop)
    → Reached element more all front ts → Stops e (element ts) → Stops e (listed_at element more all)
reached_stop element more all front ts stops.NoReading so_far stopped = reached_none element more all front ts so_far stopped
reached_stop element more all front ts stops.Memory so_far stopped = tt

-- an entry of a bundle takes at least one token
pub live_entry_at-shorter : (ts : List Tok) → Shorter (count ts) (live_entry_at ts)
unfolding live_entry_at
live_entry_at-shorter ts = after-shorter (count ts) _ _ (allowed_type_at-shorter is_managed ts) (λ _ r lt. value_next (count ts) r lt)

pub kept_entry_at-shorter : (ts : List Tok) → Shorter (count ts) (kept_entry_at ts)
unfolding kept_entry_at
kept_entry_at-shorter ts = after-shorter (count ts) _ _ (allowed_type_at-shorter is_value_type ts)
    (λ ty r lt. after-shorter (count ts) _ _ (value_next (count ts) r lt) (λ value r1 l1. l1))
