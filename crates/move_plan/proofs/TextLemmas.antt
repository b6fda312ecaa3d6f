-- Texts of which each line that isn't blank says one thing.
use Rattle.std.proofs.Common.{◌≡◌, refl, ap, sym, subst, ◌∙◌, ℕ, zero, suc, ◌+◌, ◌<◌, ◌≤◌, List, [], ◌∷◌, ◌++◌, length, get_or, take, drop, arith, None, Some, Option, inl, inr}
use Rattle.std.specs.Prelude.{slice_get}
use Rattle.std.specs.List.{AllZip, filter_map}
use Rattle.std.specs.Option.{option_to_list}
use Rattle.std.specs.Str.Lines.{lines}
use Rattle.std.proofs.lemmas.Bool.{cases_lt}
use Rattle.std.proofs.lemmas.List.{drop_all, drop_more, take_more}
use Rattle.std.proofs.lemmas.List.Elements.{filter_map-append}
use Rattle.std.proofs.lemmas.Option.{none-some, same_Some, slice_get-get_or, slice_get_within, get_or_from_slice_get}
use Rattle.sp_text.specs.Lines.{NumberedLine, lines_of, numbered}
use Rattle.move_plan.specs.Texts.{HasLine, LinesSay}
use Rattle.list_laws.proofs.Zips.{zip_pushed}

-- ---- numbered lines

pub same_line : (text : List ℕ) (number : ℕ) (line other : List ℕ) → HasLine text number line → HasLine text number other → line ≡ other
same_line text number line other has also =
    let same : has.place ≡ also.place = omega (arith, has.counted, also.counted) in
    same_Some line other (sym has.stands ∙ ap (slice_get (lines text)) same ∙ also.stands)

-- the first of the lines that are left behind k
pub next_numbered : (ls : List (List ℕ)) (k : ℕ) (x : NumberedLine) (xs : List NumberedLine) → x ∷ xs ≡ numbered (k + 1) (drop k ls)
    → (slice_get ls k ≡ Some x.bytes) × (x.number ≡ k + 1) × (xs ≡ numbered (k + 1 + 1) (drop (k + 1) ls))
next_numbered ls k x xs e = elim (cases_lt k (length ls)) [
  | inl some ↦ (let parts : x ∷ xs ≡ record { number = k + 1; bytes = get_or ls k [] } ∷ numbered (k + 1 + 1) (drop (k + 1) ls) = rw (drop_more ls k [] some) at e in
      let first : x ≡ record { number = k + 1; bytes = get_or ls k [] } = cc in (
        slice_get-get_or ls k [] some ∙ ap (λ bytes. Some bytes) (sym (ap (λ (l : NumberedLine). l.bytes) first)),
        ap (λ (l : NumberedLine). l.number) first,
        cc,
      ))
  | inr none ↦ (let nothing : x ∷ xs ≡ [] = rw (drop_all k ls none) at e in absurd (cc))
]

pub none_numbered : (ls : List (List ℕ)) (k : ℕ) → [] ≡ numbered (k + 1) (drop k ls) → length ls ≤ k
none_numbered ls k e = elim (cases_lt k (length ls)) [
  | inl some ↦ (let parts : [] ≡ record { number = k + 1; bytes = get_or ls k [] } ∷ numbered (k + 1 + 1) (drop (k + 1) ls) = rw (drop_more ls k [] some) at e in absurd (cc))
  | inr none ↦ none
]

pub all_numbered : (text : List ℕ) → lines_of text ≡ numbered (0 + 1) (drop 0 (lines text))
unfolding lines_of
all_numbered text = refl

-- ---- readings of lines

-- a line that reads in one way alone
abbrev pub IsUnique : {X : Type 0} → (List ℕ → Option X → Type 0) → Type 0
IsUnique {X} reads = (line : List ℕ) (one other : Option X) → reads line one → reads line other → one ≡ other

zip_at : {X : Type 0} (reads : List ℕ → Option X → Type 0) (ls : List (List ℕ)) (rs : List (Option X)) (i : ℕ) (line : List ℕ) → AllZip reads ls rs
    → slice_get ls i ≡ Some line → (r : Option X) × (slice_get rs i ≡ Some r) × reads line r
zip_at reads [] rs i line all at = absurd (none-some line at)
zip_at reads (l ∷ ls) [] i line all at = absurd all
zip_at reads (l ∷ ls) (r ∷ rs) zero line all at = (r, refl, subst (λ (one : List ℕ). reads one r) (same_Some l line at) all.0)
zip_at reads (l ∷ ls) (r ∷ rs) (suc i) line all at = zip_at reads ls rs i line all.1 at

zip_from : {X : Type 0} (reads : List ℕ → Option X → Type 0) (ls : List (List ℕ)) (rs : List (Option X)) (i : ℕ) (r : Option X) → AllZip reads ls rs
    → slice_get rs i ≡ Some r → (line : List ℕ) × (slice_get ls i ≡ Some line) × reads line r
zip_from reads ls [] i r all at = absurd (none-some r at)
zip_from reads [] (one ∷ rs) i r all at = absurd all
zip_from reads (l ∷ ls) (one ∷ rs) zero r all at = (l, refl, subst (λ (x : Option _). reads l x) (same_Some one r at) all.0)
zip_from reads (l ∷ ls) (one ∷ rs) (suc i) r all at = zip_from reads ls rs i r all.1 at

kept_at : {X : Type 0} (rs : List (Option X)) (i : ℕ) (x : X) → slice_get rs i ≡ Some (Some x) → (place : ℕ) × (slice_get (filter_map (λ r. r) rs) place ≡ Some x)
kept_at [] i x at = absurd (none-some (Some x) at)
kept_at (None ∷ rs) zero x at = absurd (none-some x (same_Some None (Some x) at))
kept_at (Some y ∷ rs) zero x at = (0, same_Some (Some y) (Some x) at)
kept_at (None ∷ rs) (suc i) x at = kept_at rs i x at
kept_at (Some y ∷ rs) (suc i) x at = (let more = kept_at rs i x at in (suc more.0, more.1))

kept_from : {X : Type 0} (rs : List (Option X)) (place : ℕ) (x : X) → slice_get (filter_map (λ r. r) rs) place ≡ Some x → (i : ℕ) × (slice_get rs i ≡ Some (Some x))
kept_from [] place x at = absurd (none-some x at)
kept_from (None ∷ rs) place x at = (let more = kept_from rs place x at in (suc more.0, more.1))
kept_from (Some y ∷ rs) zero x at = (0, ap (λ r. Some r) at)
kept_from (Some y ∷ rs) (suc place) x at = (let more = kept_from rs place x at in (suc more.0, more.1))

-- what a line says is among what all lines say
pub says_at : {X : Type 0} (reads : List ℕ → Option X → Type 0) → IsUnique reads → (ls : List (List ℕ)) (all : List X) (i : ℕ) (line : List ℕ) (x : X)
    → LinesSay reads ls all → slice_get ls i ≡ Some line → reads line (Some x) → (place : ℕ) × (slice_get all place ≡ Some x)
says_at {X} reads unique ls all i line x says at reading =
    let found = zip_at reads ls says.readings i line says.each at in
    let kept = kept_at says.readings i x (found.1 ∙ ap (λ r. Some r) (unique line found.0 (Some x) found.2 reading)) in
    (kept.0, ap (λ xs. slice_get xs kept.0) says.given ∙ kept.1)

-- each line has a reading
pub reading_at : {X : Type 0} (reads : List ℕ → Option X → Type 0) (ls : List (List ℕ)) (all : List X) (i : ℕ) (line : List ℕ)
    → LinesSay reads ls all → slice_get ls i ≡ Some line → (r : Option X) × reads line r
reading_at reads ls all i line says at = (let found = zip_at reads ls says.readings i line says.each at in (found.0, found.2))

-- what they say is what one of them says
pub says_from : {X : Type 0} (reads : List ℕ → Option X → Type 0) (ls : List (List ℕ)) (all : List X) (place : ℕ) (x : X)
    → LinesSay reads ls all → slice_get all place ≡ Some x → (i : ℕ) × (line : List ℕ) × (slice_get ls i ≡ Some line) × reads line (Some x)
says_from reads ls all place x says at =
    let kept = kept_from says.readings place x (ap (λ xs. slice_get xs place) (sym says.given) ∙ at) in
    let found = zip_from reads ls says.readings kept.0 (Some x) says.each kept.1 in
    (kept.0, found.0, found.1, found.2)

pub says_none : {X : Type 0} (reads : List ℕ → Option X → Type 0) → LinesSay reads [] []
says_none reads = record { readings = []; each = tt; given = refl }

pub says_push : {X : Type 0} (reads : List ℕ → Option X → Type 0) (ls : List (List ℕ)) (all : List X) (line : List ℕ) (r : Option X)
    → LinesSay reads ls all → reads line r → LinesSay reads (ls ++ line ∷ []) (all ++ option_to_list r)
says_push {X} reads ls all line r says reading = record {
  readings = says.readings ++ r ∷ [];
  each = zip_pushed reads ls says.readings line r says.each reading;
  given = ap (λ xs. xs ++ option_to_list r) says.given ∙ ap (λ ys. filter_map (λ x. x) says.readings ++ ys) (by r) ∙ sym (filter_map-append (λ x. x) says.readings (r ∷ []));
}
  where
    by : (r : Option X) → option_to_list r ≡ filter_map (λ x. x) (r ∷ [])
    by None = refl
    by (Some x) = refl

pub take_line_more : (ls : List (List ℕ)) (k : ℕ) (line : List ℕ) → slice_get ls k ≡ Some line → take (k + 1) ls ≡ take k ls ++ line ∷ []
take_line_more ls k line at =
    take_more ls k [] (slice_get_within ls k line at) ∙ ap (λ l. take k ls ++ l ∷ []) (get_or_from_slice_get ls k line [] at)

-- where each line has at most one reading, they say one thing together
pub says_unique : {X : Type 0} (reads : List ℕ → Option X → Type 0) → IsUnique reads → (ls : List (List ℕ)) (one other : List X)
    → LinesSay reads ls one → LinesSay reads ls other → one ≡ other
says_unique {X} reads unique ls one other says also =
    says.given ∙ ap (filter_map (λ r. r)) (by ls says.readings also.readings says.each also.each) ∙ sym also.given
  where
    by : (ls : List (List ℕ)) (rs ss : List (Option X)) → AllZip reads ls rs → AllZip reads ls ss → rs ≡ ss
    by [] [] [] a b = refl
    by [] [] (s ∷ ss) a b = absurd b
    by [] (r ∷ rs) ss a b = absurd a
    by (l ∷ ls) [] ss a b = absurd a
    by (l ∷ ls) (r ∷ rs) [] a b = absurd b
    by (l ∷ ls) (r ∷ rs) (s ∷ ss) a b = (let first = unique l r s a.0 b.0 in let rest = by ls rs ss a.1 b.1 in cc)

-- ---- the first lines

pub get_take : {X : Type 0} (n : ℕ) (xs : List X) (i : ℕ) (x : X) → i < n → slice_get xs i ≡ Some x → slice_get (take n xs) i ≡ Some x
get_take zero xs i x below at = absurd (omega arith)
get_take (suc n) [] i x below at = at
get_take (suc n) (y ∷ ys) zero x below at = at
get_take (suc n) (y ∷ ys) (suc i) x below at = get_take n ys i x (omega arith) at
