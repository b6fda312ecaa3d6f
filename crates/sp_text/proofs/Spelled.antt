-- A token stays the same token where what follows it doesn't continue it. For those who print tokens.
use Rattle.std.proofs.Common.{◌≡◌, refl, ap, sym, ◌∙◌, ℕ, zero, suc, ◌+◌, ◌-◌, ◌<◌, ◌≤◌, Bool, true, false, not, ◌&&◌, ◌||◌, List, [], ◌∷◌, ◌++◌, length, take, drop, arith, cond, Option, None, Some, inl, inr, length-append}
use Rattle.std.specs.Prelude.{◌==◌}
use Rattle.std.specs.List.{list_all, prefix_len, position_or_len}
use Rattle.std.specs.Char.{is_ascii_digit}
use Rattle.std.proofs.lemmas.Bool.{and_parts, or_cases, and_from, eqb-true, or_parts, or_left, or_right, not-true, eqb-false}
use Rattle.std.proofs.lemmas.Bool.Decides.{nat_tests}
use Rattle.std.proofs.lemmas.List.{take_at, drop_at, drop_all}
use Rattle.sp_text.specs.Bytes.{bang, quote, hash, percent, minus, dot, at_sign, semicolon, colon, zero_digit, is_blank, begins_word, in_word, begins_name, in_name, is_mark}
use Rattle.sp_text.specs.Fronts.{IsLongestFront}
use Rattle.sp_text.specs.Labels.{is_colon, label_in, label_of}
use Rattle.sp_text.specs.Tokens.{says_nothing, is_nothing, first_then, are_digits, is_numeral, is_plain_name, is_name, ends_quote, is_plain_word, is_ellipsis_end, is_bang_end, is_token, front_of, front_and_more, tok, tokens, tokens_after}
use Rattle.sp_text.specs.declared.tokens.Kind.{Kind}
use Rattle.sp_text.specs.declared.tokens.Kind.TheVariants.{Word, Local, Global, Number, Quoted, Hash, Bang, Punct}
use Rattle.sp_text.proofs.Runs.{longest-cons, run_is_longest}
use Rattle.sp_text.proofs.FrontLemmas.{name-zero, name-digits, name-plain, digits-all, bang-digits, bang-plain}
use Rattle.sp_text.proofs.KindLemmas.{apart, front-by, local_kind, global_kind, signed_kind, quoted_kind, hash_kind, bang_kind, ellipsis_kind, digit_kind, word_kind, mark_kind, nothing_is_longest}
use Rattle.sp_text.proofs.LineLemmas.{label-some}
use Rattle.sp_text.proofs.TokenLemmas.{front_of-some, tokens-some}
use Rattle.list_laws.proofs.Numbers.{after_one}

-- the list begins with no byte that passes
abbrev pub stops : (ℕ → Bool) → List ℕ → Bool
stops p [] = true
stops p (b ∷ bs) = not (p b)

-- a byte that would continue a token of the kind
abbrev pub continues : Kind → ℕ → Bool
continues Word b = in_word b
continues Local b = in_name b
continues Global b = in_name b
continues Number b = is_ascii_digit b
continues Quoted b = false
continues Hash b = is_ascii_digit b
continues Bang b = in_name b
continues Punct b = false

prefix_len-stops : (p : ℕ → Bool) (xs rest : List ℕ) → list_all p xs ≡ true → stops p rest ≡ true → prefix_len p (xs ++ rest) ≡ length xs
prefix_len-stops p [] [] all stop = refl
prefix_len-stops p [] (b ∷ rest) all stop = let no : p b ≡ false = not-true (p b) stop in rw no refl
prefix_len-stops p (x ∷ xs) rest all stop =
    let both = and_parts (p x) (list_all p xs) all in
    rw (both.0, prefix_len-stops p xs rest both.1 stop) (after_one (length xs))

digit_in_name : (rest : List ℕ) → stops in_name rest ≡ true → stops is_ascii_digit rest ≡ true
digit_in_name [] stop = refl
digit_in_name (b ∷ rest) stop =
    let no : is_ascii_digit b ≡ false = (or_parts (begins_name b) (is_ascii_digit b) (not-true (in_name b) stop)).1 in
    rw no refl

digit_small : (b : ℕ) → is_ascii_digit b ≡ true → b < 256
digit_small b digit = grind (arith, nat_tests)

name_small : (b : ℕ) → begins_name b ≡ true → b < 256
name_small b begins = grind (arith, nat_tests)

word_small : (b : ℕ) → begins_word b ≡ true → b < 256
word_small b begins = grind (arith, nat_tests)

mark_small : (b : ℕ) → is_mark b ≡ true → b < 256
mark_small b mark = grind (arith, nat_tests)

-- only the empty list is nothing
is_nothing-nil : (bs : List ℕ) → is_nothing bs ≡ true → bs ≡ []
is_nothing-nil [] nothing = refl
is_nothing-nil (b ∷ bs) nothing = cc

-- the longest front of what begins with a name, digits, .. is just that

plain-ends : (test : List ℕ → Bool) (p : ℕ → Bool) (b : ℕ) (bs rest : List ℕ) → IsLongestFront test (b ∷ (bs ++ rest)) (1 + prefix_len p (bs ++ rest)) → list_all p bs ≡ true → stops p rest ≡ true → IsLongestFront test (b ∷ (bs ++ rest)) (suc (length bs))
plain-ends test p b bs rest front all stop =
    let e : 1 + prefix_len p (bs ++ rest) ≡ suc (length bs) = omega (arith, prefix_len-stops p bs rest all stop) in
    rw e at front

name-ends : (bs rest : List ℕ) → is_name bs ≡ true → stops in_name rest ≡ true → IsLongestFront is_name (bs ++ rest) (length bs)
name-ends [] rest name stop = cc
name-ends (b ∷ bs) rest name stop = elim (or_cases (is_plain_name (b ∷ bs)) (is_numeral (b ∷ bs)) name) [
  | inl plain ↦ (let parts = and_parts (begins_name b) (list_all in_name bs) plain in
      plain-ends is_name in_name b bs rest (name-plain b (bs ++ rest) (name_small b parts.0) parts.0) parts.1 stop)
  | inr numeral ↦ by (b == zero_digit) refl numeral
]
  where
    by : (zero_first : Bool) → (b == zero_digit) ≡ zero_first → cond zero_first (is_nothing bs) (are_digits (b ∷ bs)) ≡ true → IsLongestFront is_name ((b ∷ bs) ++ rest) (length (b ∷ bs))
    by true is nothing = rw (eqb-true b zero_digit is, is_nothing-nil bs nothing) (name-zero rest)
    by false isnt digits =
        let parts = and_parts (is_ascii_digit b) (list_all is_ascii_digit bs) digits in
        plain-ends is_name is_ascii_digit b bs rest (name-digits b (bs ++ rest) (digit_small b parts.0) parts.0 isnt) parts.1 (digit_in_name rest stop)

digits-ends : (bs rest : List ℕ) → are_digits bs ≡ true → stops is_ascii_digit rest ≡ true → IsLongestFront are_digits (bs ++ rest) (length bs)
digits-ends [] rest digits stop = cc
digits-ends (b ∷ bs) rest digits stop =
    let e : prefix_len is_ascii_digit ((b ∷ bs) ++ rest) ≡ suc (length bs) = prefix_len-stops is_ascii_digit (b ∷ bs) rest digits stop in
    rw e at (digits-all ((b ∷ bs) ++ rest) (λ none. omega (arith, e, none)))

-- a number without leading zeros is digits
pub numeral_digits : (bs : List ℕ) → is_numeral bs ≡ true → are_digits bs ≡ true
numeral_digits [] numeral = cc
numeral_digits (b ∷ bs) numeral = by (b == zero_digit) refl numeral
  where
    by : (zero_first : Bool) → (b == zero_digit) ≡ zero_first → cond zero_first (is_nothing bs) (are_digits (b ∷ bs)) ≡ true → are_digits (b ∷ bs) ≡ true
    by true is nothing = rw (eqb-true b zero_digit is, is_nothing-nil bs nothing) refl
    by false isnt digits = digits

bang-ends : (bs rest : List ℕ) → is_bang_end bs ≡ true → stops in_name rest ≡ true → IsLongestFront is_bang_end (bs ++ rest) (length bs)
bang-ends [] rest end stop = cc
bang-ends (b ∷ bs) rest end stop = elim (or_cases (is_name (b ∷ bs)) (are_digits (b ∷ bs)) end) [
  | inl name ↦ elim (or_cases (is_plain_name (b ∷ bs)) (is_numeral (b ∷ bs)) name) [
    | inl plain ↦ (let parts = and_parts (begins_name b) (list_all in_name bs) plain in
        plain-ends is_bang_end in_name b bs rest (bang-plain b (bs ++ rest) (name_small b parts.0) parts.0) parts.1 stop)
    | inr numeral ↦ by (numeral_digits (b ∷ bs) numeral)
  ]
  | inr digits ↦ by digits
]
  where
    by : are_digits (b ∷ bs) ≡ true → IsLongestFront is_bang_end ((b ∷ bs) ++ rest) (length (b ∷ bs))
    by digits =
        let parts = and_parts (is_ascii_digit b) (list_all is_ascii_digit bs) digits in
        plain-ends is_bang_end is_ascii_digit b bs rest (bang-digits b (bs ++ rest) (digit_small b parts.0) parts.0) parts.1 (digit_in_name rest stop)

quote-ends : (bs rest : List ℕ) → ends_quote bs ≡ true → IsLongestFront ends_quote (bs ++ rest) (length bs)
quote-ends [] rest ends = cc
quote-ends (b ∷ bs) rest ends = by (b == quote) refl ends (quote-ends bs rest)
  where
    by : (quoted : Bool) → (b == quote) ≡ quoted → cond quoted (is_nothing bs) (ends_quote bs) ≡ true → (ends_quote bs ≡ true → IsLongestFront ends_quote (bs ++ rest) (length bs)) → IsLongestFront ends_quote ((b ∷ bs) ++ rest) (length (b ∷ bs))
    by true is nothing later =
        rw (is_nothing-nil bs nothing) (longest-cons ends_quote is_nothing b rest 0 (λ cs. simp is) (nothing_is_longest rest))
    by false isnt ends later = longest-cons ends_quote ends_quote b (bs ++ rest) (length bs) (λ cs. simp isnt) (later ends)

ellipsis-ends : (bs rest : List ℕ) → is_ellipsis_end bs ≡ true → IsLongestFront is_ellipsis_end (bs ++ rest) (length bs)
ellipsis-ends [] rest ends = cc
ellipsis-ends (b ∷ []) rest ends = let no = (and_parts (b == dot) false ends).1 in cc
ellipsis-ends (b ∷ c ∷ bs) rest ends =
    let first = and_parts (b == dot) ((c == dot) && is_nothing bs) ends in
    let second = and_parts (c == dot) (is_nothing bs) first.1 in
    rw (eqb-true b dot first.0, eqb-true c dot second.0, is_nothing-nil bs second.1)
    (longest-cons is_ellipsis_end (first_then dot is_nothing) dot (dot ∷ rest) 1 (λ cs. refl)
    (longest-cons (first_then dot is_nothing) is_nothing dot rest 0 (λ cs. refl) (nothing_is_longest rest)))

-- a token is the longest where it stands, if what follows doesn't continue it

pub front-spelled : (kind : Kind) (word rest : List ℕ) → is_token kind word ≡ true → stops (continues kind) rest ≡ true → front_of (word ++ rest) ≡ Some (kind, length word)
front-spelled Word [] rest is stop = cc
front-spelled Word (b ∷ bs) rest is stop = elim (or_cases (is_plain_word (b ∷ bs)) (first_then dot is_ellipsis_end (b ∷ bs)) is) [
  | inl plain ↦ (let parts = and_parts (begins_word b) (list_all in_word bs) plain in
      let e : prefix_len in_word (bs ++ rest) ≡ length bs = prefix_len-stops in_word bs rest parts.1 stop in
      front-by b Word (list_all in_word) (bs ++ rest) (length bs) (word_kind b (word_small b parts.0) parts.0) (rw e at (run_is_longest in_word (bs ++ rest))))
  | inr dots ↦ (let parts = and_parts (b == dot) (is_ellipsis_end bs) dots in
      rw (eqb-true b dot parts.0) (front-by dot Word is_ellipsis_end (bs ++ rest) (length bs) ellipsis_kind (ellipsis-ends bs rest parts.1)))
]
front-spelled Local [] rest is stop = cc
front-spelled Local (b ∷ bs) rest is stop =
    let parts = and_parts (b == percent) (is_name bs) is in
    rw (eqb-true b percent parts.0) (front-by percent Local is_name (bs ++ rest) (length bs) local_kind (name-ends bs rest parts.1 stop))
front-spelled Global [] rest is stop = cc
front-spelled Global (b ∷ bs) rest is stop =
    let parts = and_parts (b == at_sign) (is_name bs) is in
    rw (eqb-true b at_sign parts.0) (front-by at_sign Global is_name (bs ++ rest) (length bs) global_kind (name-ends bs rest parts.1 stop))
front-spelled Number [] rest is stop = cc
front-spelled Number (b ∷ bs) rest is stop = elim (or_cases (are_digits (b ∷ bs)) (first_then minus are_digits (b ∷ bs)) is) [
  | inl digits ↦ (let parts = and_parts (is_ascii_digit b) (list_all is_ascii_digit bs) digits in
      let e : prefix_len is_ascii_digit (bs ++ rest) ≡ length bs = prefix_len-stops is_ascii_digit bs rest parts.1 stop in
      front-by b Number (list_all is_ascii_digit) (bs ++ rest) (length bs) (digit_kind b (digit_small b parts.0) parts.0) (rw e at (run_is_longest is_ascii_digit (bs ++ rest))))
  | inr signed ↦ (let parts = and_parts (b == minus) (are_digits bs) signed in
      rw (eqb-true b minus parts.0) (front-by minus Number are_digits (bs ++ rest) (length bs) signed_kind (digits-ends bs rest parts.1 stop)))
]
front-spelled Quoted [] rest is stop = cc
front-spelled Quoted (b ∷ bs) rest is stop =
    let parts = and_parts (b == quote) (ends_quote bs) is in
    rw (eqb-true b quote parts.0) (front-by quote Quoted ends_quote (bs ++ rest) (length bs) quoted_kind (quote-ends bs rest parts.1))
front-spelled Hash [] rest is stop = cc
front-spelled Hash (b ∷ bs) rest is stop =
    let parts = and_parts (b == hash) (are_digits bs) is in
    rw (eqb-true b hash parts.0) (front-by hash Hash are_digits (bs ++ rest) (length bs) hash_kind (digits-ends bs rest parts.1 stop))
front-spelled Bang [] rest is stop = cc
front-spelled Bang (b ∷ bs) rest is stop =
    let parts = and_parts (b == bang) (is_bang_end bs) is in
    rw (eqb-true b bang parts.0) (front-by bang Bang is_bang_end (bs ++ rest) (length bs) bang_kind (bang-ends bs rest parts.1 stop))
front-spelled Punct [] rest is stop = cc
front-spelled Punct (b ∷ bs) rest is stop =
    let parts = and_parts (is_mark b) (is_nothing bs) is in
    rw (is_nothing-nil bs parts.1) (front-by b Punct is_nothing rest 0 (mark_kind b (mark_small b parts.0) parts.0) (nothing_is_longest rest))

-- no token begins with a blank or a comment

abbrev pub passes_over : ℕ → Bool
passes_over b = is_blank b || b == semicolon

begins-some : (kind : Kind) (b : ℕ) (bs : List ℕ) → is_token kind (b ∷ bs) ≡ true → passes_over b ≡ false
begins-some Word b bs is = elim (or_cases (is_plain_word (b ∷ bs)) (first_then dot is_ellipsis_end (b ∷ bs)) is) [
  | inl plain ↦ (let word = (and_parts (begins_word b) (list_all in_word bs) plain).0 in apart begins_word passes_over b refl (word_small b word) word)
  | inr dots ↦ rw (eqb-true b dot (and_parts (b == dot) (is_ellipsis_end bs) dots).0) refl
]
begins-some Local b bs is = rw (eqb-true b percent (and_parts (b == percent) (is_name bs) is).0) refl
begins-some Global b bs is = rw (eqb-true b at_sign (and_parts (b == at_sign) (is_name bs) is).0) refl
begins-some Number b bs is = elim (or_cases (are_digits (b ∷ bs)) (first_then minus are_digits (b ∷ bs)) is) [
  | inl digits ↦ (let digit = (and_parts (is_ascii_digit b) (list_all is_ascii_digit bs) digits).0 in apart is_ascii_digit passes_over b refl (digit_small b digit) digit)
  | inr signed ↦ rw (eqb-true b minus (and_parts (b == minus) (are_digits bs) signed).0) refl
]
begins-some Quoted b bs is = rw (eqb-true b quote (and_parts (b == quote) (ends_quote bs) is).0) refl
begins-some Hash b bs is = rw (eqb-true b hash (and_parts (b == hash) (are_digits bs) is).0) refl
begins-some Bang b bs is = rw (eqb-true b bang (and_parts (b == bang) (is_bang_end bs) is).0) refl
begins-some Punct b bs is = let mark = (and_parts (is_mark b) (is_nothing bs) is).0 in apart is_mark passes_over b refl (mark_small b mark) mark

-- the tokens of a token's spelling and what follows
pub tokens-spelled : (kind : Kind) (word rest : List ℕ) → is_token kind word ≡ true → stops (continues kind) rest ≡ true → tokens (word ++ rest) ≡ tok kind word ∷ tokens rest
tokens-spelled kind [] rest is stop = absurd (omega (arith, (front_of-some rest kind 0 (front-spelled kind [] rest is stop)).some))
tokens-spelled kind (b ∷ bs) rest is stop =
    let over = or_parts (is_blank b) (b == semicolon) (begins-some kind b bs is) in
    tokens-some b (bs ++ rest) kind (length (b ∷ bs)) over.0 (eqb-false b semicolon over.1) (front-spelled kind (b ∷ bs) rest is stop)
    ∙ rw (take_at (b ∷ bs) rest (length (b ∷ bs)) refl, drop_at (b ∷ bs) rest (length (b ∷ bs)) refl) refl

-- a blank is passed over
pub tokens-blank : (b : ℕ) (bs : List ℕ) → is_blank b ≡ true → tokens (b ∷ bs) ≡ tokens bs
unfolding tokens tokens_after
tokens-blank b bs blank = simp blank

-- no line has more tokens than bytes
pub length-tokens_after : (skip : ℕ) (bs : List ℕ) → length (tokens_after skip bs) ≤ length bs
unfolding tokens_after
length-tokens_after skip [] = omega arith
length-tokens_after (suc skip) (b ∷ bs) = omega (arith, length-tokens_after skip bs)
length-tokens_after zero (b ∷ bs) =
    by (is_blank b) (b == semicolon) (front_of (b ∷ bs)) (λ skip. length-tokens_after skip bs)
  where
    by : (blank comment : Bool) (front : Option (Kind × ℕ)) → ((skip : ℕ) → length (tokens_after skip bs) ≤ length bs)
        → length (cond blank (tokens_after 0 bs) (cond comment [] (front_and_more front (b ∷ bs) (λ len. tokens_after (len - 1) bs)))) ≤ length (b ∷ bs)
    by true comment front below = omega (arith, below 0)
    by false true front below = omega arith
    by false false None below = omega arith
    by false false (Some front) below = omega (arith, below (front.1 - 1))

pub length-tokens : (bs : List ℕ) → length (tokens bs) ≤ length bs
unfolding tokens
length-tokens bs = length-tokens_after 0 bs

-- a name and a `:` are a label line

pub name_bytes : (bs : List ℕ) → is_name bs ≡ true → list_all in_name bs ≡ true
name_bytes [] name = refl
name_bytes (b ∷ bs) name = elim (or_cases (is_plain_name (b ∷ bs)) (is_numeral (b ∷ bs)) name) [
  | inl plain ↦ (let parts = and_parts (begins_name b) (list_all in_name bs) plain in
      and_from (in_name b) (list_all in_name bs) (or_left (begins_name b) (is_ascii_digit b) parts.0) parts.1)
  | inr numeral ↦ digits (b ∷ bs) (numeral_digits (b ∷ bs) numeral)
]
  where
    digits : (bs : List ℕ) → list_all is_ascii_digit bs ≡ true → list_all in_name bs ≡ true
    digits [] all = refl
    digits (b ∷ bs) all =
        let parts = and_parts (is_ascii_digit b) (list_all is_ascii_digit bs) all in
        and_from (in_name b) (list_all in_name bs) (or_right (begins_name b) (is_ascii_digit b) parts.0) (digits bs parts.1)

in_name_small : (b : ℕ) → in_name b ≡ true → b < 256
in_name_small b name = elim (or_cases (begins_name b) (is_ascii_digit b) name) [ inl begins ↦ name_small b begins | inr digit ↦ digit_small b digit ]

pub no_colon : (bs : List ℕ) → list_all in_name bs ≡ true → list_all (λ b. not (is_colon b)) bs ≡ true
no_colon [] all = refl
no_colon (b ∷ bs) all =
    let parts = and_parts (in_name b) (list_all in_name bs) all in
    let no : is_colon b ≡ false = apart in_name is_colon b refl (in_name_small b parts.0) parts.0 in
    rw no (no_colon bs parts.1)

pub label-spelled : (name : List ℕ) → is_name name ≡ true → label_of (name ++ (colon ∷ [])) ≡ Some name
label-spelled [] name = cc
label-spelled (b ∷ bs) name =
    let bytes = name_bytes (b ∷ bs) name in
    let first = (and_parts (in_name b) (list_all in_name bs) bytes).0 in
    let blank : is_blank b ≡ false = apart in_name is_blank b refl (in_name_small b first) first in
    let end : length (b ∷ bs) ≡ position_or_len is_colon ((b ∷ bs) ++ (colon ∷ [])) =
    sym (prefix_len-stops (λ b. not (is_colon b)) (b ∷ bs) (colon ∷ []) (no_colon (b ∷ bs) bytes) refl) in
    let front : take (length (b ∷ bs)) ((b ∷ bs) ++ (colon ∷ [])) ≡ b ∷ bs = take_at (b ∷ bs) (colon ∷ []) _ refl in
    let rest : drop (length (b ∷ bs) + 1) ((b ∷ bs) ++ (colon ∷ [])) ≡ [] =
    drop_all (length (b ∷ bs) + 1) ((b ∷ bs) ++ (colon ∷ [])) (omega (arith, length-append (b ∷ bs) (colon ∷ []))) in
    let whole : label_in ((b ∷ bs) ++ (colon ∷ [])) ≡ Some (take (length (b ∷ bs)) ((b ∷ bs) ++ (colon ∷ []))) =
    label-some ((b ∷ bs) ++ (colon ∷ [])) (length (b ∷ bs)) end (omega (arith, length-append (b ∷ bs) (colon ∷ []))) (ap is_name front ∙ name) (ap says_nothing rest) in
    rw blank (whole ∙ ap Some front)
