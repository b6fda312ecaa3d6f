-- A printed line is read by the slots of its form, slot by slot, from its end to its front.
use Rattle.std.proofs.Common.{◌≡◌, refl, ℕ, zero, suc, Bool, true, false, not, ◌&&◌, List, [], ◌∷◌, ◌++◌, length, Option, Some, None, cond, inl, inr, arith}
use Rattle.std.specs.Prelude.{◌==◌, ◌||◌}
use Rattle.std.specs.Char.{is_ascii_digit, is_ascii_alphabetic}
use Rattle.std.proofs.lemmas.Bool.{or_parts, or_from, or_left, or_cases, eqb-true, and_parts, and_from, not_from_false, not-true}
use Rattle.std.proofs.lemmas.Bool.Decides.{nat_tests}
use Rattle.std.proofs.lemmas.List.Folds.{list_all-append}
use Rattle.std.specs.List.{list_all}
use Rattle.sp_text.specs.Bytes.{in_name, in_word, begins_name, begins_word, minus, dollar, dot, underscore}
use Rattle.sp_text.specs.Tokens.{Tok, tok, tokens, is_token, is_name, is_plain_name, is_numeral, is_nothing, are_digits}
use Rattle.sp_text.specs.declared.tokens.Kind.{Kind}
use Rattle.sp_text.specs.declared.tokens.Kind.TheVariants as kinds
use Rattle.sp_text.proofs.Spelled.{stops, continues, tokens-spelled, tokens-blank}
use Rattle.sp_text.proofs.TokenLemmas.{tokens-nil}
use Rattle.line_tokens.specs.declared.words.Dropped.{Dropped}
use Rattle.line_tokens.specs.declared.words.Dropped.TheVariants as drops
use Rattle.line_parts.specs.Gives.{after, one_at}
use Rattle.line_tokens.specs.Marks.{is_word, is_mark}
use Rattle.line_parts.specs.Drops.{past_dropped, past_at_most, past_all}
use Rattle.line_forms.specs.Slots.{Item, name, layout, layout_name, Slot, blank, m, w, dropped, a_local, a_layout, a_layout_name, part, parse}
use Rattle.line_parts.proofs.Dropping.{past_all-none}

abbrev pub first_of : List Tok → Option Tok
first_of [] = None
first_of (t ∷ ts) = Some t

-- a byte of a printed line: no newline, no carriage return and, but in a label, no colon
abbrev pub in_line : ℕ → Bool
in_line b = not (b == 10) && (not (b == 13) && not (b == 58))

abbrev pub IsClean : List ℕ → Type 0
IsClean text = list_all in_line text ≡ true

pub clean-both : (a b : List ℕ) → IsClean a → IsClean b → IsClean (a ++ b)
clean-both a b first second = rw (list_all-append in_line a b, first, second) refl

clean-each : (p : ℕ → Bool) (bs : List ℕ) → ((b : ℕ) → p b ≡ true → in_line b ≡ true) → list_all p bs ≡ true → IsClean bs
clean-each p [] each all = refl
clean-each p (b ∷ bs) each all =
    let parts = and_parts (p b) (list_all p bs) all in
    and_from (in_line b) (list_all in_line bs) (each b parts.0) (clean-each p bs each parts.1)

in_name-clean : (b : ℕ) → in_name b ≡ true → in_line b ≡ true
in_name-clean b inside = grind (arith, nat_tests)

digit-clean : (b : ℕ) → is_ascii_digit b ≡ true → in_line b ≡ true
digit-clean b digit = grind (arith, nat_tests)

pub digits-clean : (bs : List ℕ) → list_all is_ascii_digit bs ≡ true → IsClean bs
digits-clean bs digits = clean-each is_ascii_digit bs digit-clean digits

pub plain_bytes : (bs : List ℕ) → is_plain_name bs ≡ true → list_all in_name bs ≡ true
plain_bytes [] plain = cc
plain_bytes (b ∷ bs) plain =
    let parts = and_parts (begins_name b) (list_all in_name bs) plain in
    and_from (in_name b) (list_all in_name bs) (or_left (begins_name b) (is_ascii_digit b) parts.0) parts.1

pub numeral_digits : (bs : List ℕ) → is_numeral bs ≡ true → list_all is_ascii_digit bs ≡ true
numeral_digits [] numeral = refl
numeral_digits (b ∷ bs) numeral = by (b == 48) refl bs numeral
  where
    by : (zero_first : Bool) → (b == 48) ≡ zero_first → (bs : List ℕ) → cond zero_first (is_nothing bs) (are_digits (b ∷ bs)) ≡ true → list_all is_ascii_digit (b ∷ bs) ≡ true
    by true is [] nothing = let same : b ≡ 48 = eqb-true b 48 is in rw same refl
    by true is (c ∷ cs) nothing = cc
    by false is bs digits = digits

pub name-clean : (n : List ℕ) → is_name n ≡ true → IsClean n
name-clean n is = elim (or_cases (is_plain_name n) (is_numeral n) is) [
  | inl plain ↦ clean-each in_name n in_name-clean (plain_bytes n plain)
  | inr numeral ↦ digits-clean n (numeral_digits n numeral)
]

-- The text is the end of a line: its first token, and what the slots say of the whole of it.
pub record Reads (f : List Slot) (text : List ℕ) (first : Option Tok) (items : List Item) : Type 0 where
  pub whole : parse f (tokens text) ≡ Some (items, [])
  pub begins : first_of (tokens text) ≡ first
  pub clean : IsClean text

pub end : Reads [] [] None []
unfolding parse
end = record { whole = whole; begins = rw tokens-nil refl; clean = refl }
  where
    whole : parse [] (tokens []) ≡ Some ([], [])
    whole = rw tokens-nil refl

-- one slot, which leaves the tokens of the rest
pub step_to : {f : List Slot} {text : List ℕ} {first : Option Tok} {items : List Item} (s : Slot) (all : List ℕ) (t : Tok) (more : List Tok) (here : List Item) → IsClean all
    → tokens all ≡ t ∷ more → part s (t ∷ more) ≡ Some (here, tokens text) → Reads f text first items → Reads (s ∷ f) all (Some t) (here ++ items)
unfolding parse after
step_to {f} {text} {first} {items} s all t more here clean e p r = record { whole = whole; begins = rw e refl; clean = clean }
  where
    whole : parse (s ∷ f) (tokens all) ≡ Some (here ++ items, [])
    whole = rw e (rw p (rw r.whole refl))

pub step : {f : List Slot} {text : List ℕ} {first : Option Tok} {items : List Item} (s : Slot) (front : List ℕ) (t : Tok) (more : List Tok) (here : List Item) → IsClean front
    → tokens (front ++ text) ≡ t ∷ more → part s (t ∷ more) ≡ Some (here, tokens text) → Reads f text first items → Reads (s ∷ f) (front ++ text) (Some t) (here ++ items)
step {text = text} s front t more here clean e p r = step_to s (front ++ text) t more here (clean-both front text clean r.clean) e p r

-- what follows doesn't continue a token
abbrev pub Stops : List ℕ → Type 0
Stops text = stops in_name text ≡ true

not_digit : (b : ℕ) → in_name b ≡ false → is_ascii_digit b ≡ false
not_digit b other = (or_parts (begins_name b) (is_ascii_digit b) other).1

not_word : (b : ℕ) → in_name b ≡ false → in_word b ≡ false
not_word b other =
    let digit : is_ascii_digit b ≡ false = not_digit b other in
    let name : begins_name b ≡ false = (or_parts (begins_name b) (is_ascii_digit b) other).0 in
    let ends = or_parts (is_ascii_alphabetic b || b == minus || b == dollar || b == dot) (b == underscore) name in
    let dots = or_parts (is_ascii_alphabetic b || b == minus || b == dollar) (b == dot) ends.0 in
    let dollars = or_parts (is_ascii_alphabetic b || b == minus) (b == dollar) dots.0 in
    let letter = or_parts (is_ascii_alphabetic b) (b == minus) dollars.0 in
    or_from (begins_word b || is_ascii_digit b) (b == dot) (or_from (begins_word b) (is_ascii_digit b) (or_from (is_ascii_alphabetic b) (b == underscore) letter.0 ends.1) digit) dots.1

pub stops-kind : (kind : Kind) (text : List ℕ) → Stops text → stops (continues kind) text ≡ true
stops-kind kinds.Word [] stop = refl
stops-kind kinds.Local [] stop = refl
stops-kind kinds.Global [] stop = refl
stops-kind kinds.Number [] stop = refl
stops-kind kinds.Quoted [] stop = refl
stops-kind kinds.Hash [] stop = refl
stops-kind kinds.Bang [] stop = refl
stops-kind kinds.Punct [] stop = refl
stops-kind kinds.Word (b ∷ bs) stop = not_from_false (in_word b) (not_word b (not-true (in_name b) stop))
stops-kind kinds.Local (b ∷ bs) stop = stop
stops-kind kinds.Global (b ∷ bs) stop = stop
stops-kind kinds.Number (b ∷ bs) stop = not_from_false (is_ascii_digit b) (not_digit b (not-true (in_name b) stop))
stops-kind kinds.Quoted (b ∷ bs) stop = refl
stops-kind kinds.Hash (b ∷ bs) stop = not_from_false (is_ascii_digit b) (not_digit b (not-true (in_name b) stop))
stops-kind kinds.Bang (b ∷ bs) stop = stop
stops-kind kinds.Punct (b ∷ bs) stop = refl

-- one token
pub one : {f : List Slot} {text : List ℕ} {first : Option Tok} {items : List Item} (s : Slot) (kind : Kind) (word : List ℕ) (here : List Item)
    → is_token kind word ≡ true → IsClean word → Stops text → ((ts : List Tok) → part s (tok kind word ∷ ts) ≡ Some (here, ts)) → Reads f text first items
    → Reads (s ∷ f) (word ++ text) (Some (tok kind word)) (here ++ items)
one {f} {text} s kind word here is clean stop says r =
    step s word (tok kind word) (tokens text) here clean (tokens-spelled kind word text is (stops-kind kind text stop)) (says (tokens text)) r

mark_part : (b : ℕ) → is_mark (b ∷ []) (tok kinds.Punct (b ∷ [])) ≡ true → (ts : List Tok) → part (m (b ∷ [])) (tok kinds.Punct (b ∷ []) ∷ ts) ≡ Some ([], ts)
unfolding part after one_at
mark_part b is ts = rw is refl

pub mark : {f : List Slot} {text : List ℕ} {first : Option Tok} {items : List Item} (b : ℕ) → is_token kinds.Punct (b ∷ []) ≡ true → is_mark (b ∷ []) (tok kinds.Punct (b ∷ [])) ≡ true → IsClean (b ∷ [])
    → Reads f text first items → Reads (m (b ∷ []) ∷ f) (b ∷ text) (Some (tok kinds.Punct (b ∷ []))) items
mark {f} {text} b is same clean r =
    step (m (b ∷ [])) (b ∷ []) (tok kinds.Punct (b ∷ [])) (tokens text) [] clean (tokens-spelled kinds.Punct (b ∷ []) text is (anywhere text)) (mark_part b same (tokens text)) r
  where
    anywhere : (text : List ℕ) → stops (continues kinds.Punct) text ≡ true
    anywhere [] = refl
    anywhere (c ∷ cs) = refl

word_part : (text : List ℕ) → is_word text (tok kinds.Word text) ≡ true → (ts : List Tok) → part (w text) (tok kinds.Word text ∷ ts) ≡ Some ([], ts)
unfolding part after one_at
word_part text is ts = rw is refl

pub word : {f : List Slot} {text : List ℕ} {first : Option Tok} {items : List Item} (spelled : List ℕ) → is_token kinds.Word spelled ≡ true → is_word spelled (tok kinds.Word spelled) ≡ true
    → IsClean spelled → Stops text → Reads f text first items → Reads (w spelled ∷ f) (spelled ++ text) (Some (tok kinds.Word spelled)) items
word spelled is same clean stop r = one (w spelled) kinds.Word spelled [] is clean stop (word_part spelled same) r

local_part : (n : List ℕ) → is_name n ≡ true → (ts : List Tok) → part a_local (tok kinds.Local (37 ∷ n) ∷ ts) ≡ Some (name n ∷ [], ts)
unfolding part after one_at
local_part n is ts = rw is refl

layout_name_part : (n : List ℕ) → is_name n ≡ true → (ts : List Tok) → part a_layout_name (tok kinds.Local (37 ∷ n) ∷ ts) ≡ Some (layout_name n ∷ [], ts)
unfolding part after one_at
layout_name_part n is ts = rw is refl

layout_part : (n : List ℕ) → is_name n ≡ true → (ts : List Tok) → part a_layout (tok kinds.Local (37 ∷ n) ∷ ts) ≡ Some (layout n ∷ [], ts)
unfolding part after one_at
layout_part n is ts = rw is refl

pub local : {f : List Slot} {text : List ℕ} {first : Option Tok} {items : List Item} (n : List ℕ) → is_name n ≡ true → Stops text
    → Reads f text first items → Reads (a_local ∷ f) (37 ∷ (n ++ text)) (Some (tok kinds.Local (37 ∷ n))) (name n ∷ items)
local n is stop r = one a_local kinds.Local (37 ∷ n) (name n ∷ []) is (name-clean n is) stop (local_part n is) r

pub layout_head : {f : List Slot} {text : List ℕ} {first : Option Tok} {items : List Item} (n : List ℕ) → is_name n ≡ true → Stops text
    → Reads f text first items → Reads (a_layout_name ∷ f) (37 ∷ (n ++ text)) (Some (tok kinds.Local (37 ∷ n))) (layout_name n ∷ items)
layout_head n is stop r = one a_layout_name kinds.Local (37 ∷ n) (layout_name n ∷ []) is (name-clean n is) stop (layout_name_part n is) r

pub layout_step : {f : List Slot} {text : List ℕ} {first : Option Tok} {items : List Item} (n : List ℕ) → is_name n ≡ true → Stops text
    → Reads f text first items → Reads (a_layout ∷ f) (37 ∷ (n ++ text)) (Some (tok kinds.Local (37 ∷ n))) (layout n ∷ items)
layout_step n is stop r = one a_layout kinds.Local (37 ∷ n) (layout n ∷ []) is (name-clean n is) stop (layout_part n is) r

-- a space says nothing, at a blank and elsewhere
pub spaced : {f : List Slot} {text : List ℕ} {first : Option Tok} {items : List Item} → Reads f text first items → Reads f (32 ∷ text) first items
spaced {f} {text} r = let e : tokens (32 ∷ text) ≡ tokens text = tokens-blank 32 text refl in
    record { whole = rw e r.whole; begins = rw e r.begins; clean = r.clean }

pub over_blank : {f : List Slot} {text : List ℕ} {first : Option Tok} {items : List Item} → Reads f text first items → Reads (blank ∷ f) text first items
unfolding parse after part
over_blank {f} {text} {first} {items} r = record { whole = whole; begins = r.begins; clean = r.clean }
  where
    whole : parse (blank ∷ f) (tokens text) ≡ Some (items, [])
    whole = rw r.whole refl

pub space : {f : List Slot} {text : List ℕ} {first : Option Tok} {items : List Item} → Reads f text first items → Reads (blank ∷ f) (32 ∷ text) first items
space r = over_blank (spaced r)

-- nothing that is dropped stands here

at_most-none : (count : ℕ) (what : Dropped) (ts : List Tok) → past_dropped what ts ≡ None → past_at_most count what ts ≡ ts
unfolding past_at_most
at_most-none zero what ts none = refl
at_most-none (suc count) what ts none = rw (none, past_at_most) refl

drop_by : {f : List Slot} {text : List ℕ} {first : Option Tok} {items : List Item} (what : Dropped) → past_dropped what (tokens text) ≡ None → Reads f text first items → Reads (dropped what ∷ f) text first items
unfolding parse after part
drop_by {f} {text} {first} {items} what none r = record { whole = whole; begins = r.begins; clean = r.clean }
  where
    whole : parse (dropped what ∷ f) (tokens text) ≡ Some (items, [])
    whole = rw (past_all-none what (tokens text) none) (rw r.whole refl)

none_first : (what : Dropped) (t : Tok) (ts : List Tok) → ((more : List Tok) → past_dropped what (t ∷ more) ≡ None) → first_of ts ≡ Some t → past_dropped what ts ≡ None
none_first what t [] none e = cc
none_first what t (u ∷ us) none e = let same : u ≡ t = cc in rw same (none us)

none_end : (what : Dropped) (ts : List Tok) → first_of ts ≡ None → past_dropped what ts ≡ None
none_end drops.Groups [] e = refl
none_end drops.BesideElementType [] e = refl
none_end drops.Attachments [] e = refl
none_end drops.HeadAttachments [] e = refl
none_end drops.Alignments [] e = refl
none_end (drops.Words which) [] e = refl
none_end what (t ∷ ts) e = cc

pub drop_at : {f : List Slot} {text : List ℕ} {t : Tok} {items : List Item} (what : Dropped) → ((more : List Tok) → past_dropped what (t ∷ more) ≡ None)
    → Reads f text (Some t) items → Reads (dropped what ∷ f) text (Some t) items
drop_at {f} {text} {t} what none r = drop_by what (none_first what t (tokens text) none r.begins) r

pub drop_end : {f : List Slot} {text : List ℕ} {items : List Item} (what : Dropped) → Reads f text None items → Reads (dropped what ∷ f) text None items
drop_end {f} {text} what r = drop_by what (none_end what (tokens text) r.begins) r
