-- Printed numbers, types and values as tokens, and what the reader takes them for.
use Rattle.std.proofs.Common.{◌≡◌, refl, ap, ◌∙◌, ℕ, ℤ, pos, negsuc, zero, suc, ◌+◌, ◌-◌, ◌*◌, ◌%◌, ◌/◌, ◌^◌, ◌<◌, ◌≤◌, Bool, true, false, not, cond, ◌||◌, List, [], ◌∷◌, ◌++◌, length, get_or, Some, None, arith, codes, decimal, inl, inr}
use Rattle.std.specs.Prelude.{◌==◌, ◌-ℤ◌, min, nat_eq, nat_lt}
use Rattle.std.specs.Fmt.{signed_decimal}
use Rattle.std.specs.List.{list_all}
use Rattle.std.specs.Char.{is_ascii_digit}
use Rattle.std.specs.Str.{bytes_eq}
use Rattle.std.proofs.Math.Nat.{mod-lt, pow-le-pow_right}
use Rattle.std.proofs.lemmas.Nat.{pow_pos}
use Rattle.std.proofs.lemmas.Bool.{and_parts, and_from, or_left, or_right, lt-ltb, le-leb, le-ltb, ne_eqb, cases_lt}
use Rattle.std.proofs.lemmas.Bool.Decides.{nat_tests}
use Rattle.std.proofs.lemmas.Fmt.{decimal_by_steps, first_decimal, decimal_nonempty, decimal_digit}
use Rattle.std.proofs.lemmas.List.Folds.{list_all-append}
use Rattle.sp_ids.specs.Numbers.{wrapped, signed}
use Rattle.sp_text.specs.Bytes.{in_word, begins_word}
use Rattle.sp_text.specs.Tokens.{Tok, tok, tokens, is_token, is_name, are_digits, is_numeral, first_then}
use Rattle.sp_text.specs.declared.tokens.Kind.{Kind}
use Rattle.sp_text.specs.declared.tokens.Kind.TheVariants as kinds
use Rattle.sp_text.proofs.Spelled.{stops, continues, tokens-spelled, tokens-blank}
use Rattle.line_parts.specs.Types.{TypeWord}
use Rattle.line_parts.specs.Types as types
use Rattle.line_tokens.specs.declared.words.Flags.{Flags}
use Rattle.line_tokens.specs.declared.words.Flags.TheVariants as flags
use Rattle.line_tokens.specs.Numbers.{decimal_from, is_width, width_of, width_passes, number_spelled, is_literal, literal_spelled, literal_passes}
use Rattle.ir_ast.specs.Widths.{IsWidth}
use Rattle.line_parts.specs.Gives.{after, one_at}
use Rattle.line_tokens.specs.Marks.{is_word}
use Rattle.line_parts.specs.Drops.{past_group, past_one_of, flag_words, is_attribute_word, is_one_of, reserved}
use Rattle.line_parts.specs.Parts.{Val, value_of, is_value_type, spelled_type_at, allowed_type_at, pointer_at, addrspace_at}
use Rattle.line_parts.specs.Parts as values
use Rattle.line_tokens.specs.declared.literals.Literal.{Literal}
use Rattle.line_forms.specs.Forms.{first_global}
use Rattle.line_parts.specs.Groups.{suffix_of}
use Rattle.ir_printer.specs.Words.{integer_text}
use Rattle.read_back.specs.Said.{literal_of, integer_value}
use Rattle.read_back.proofs.Steps.{Stops, stops-kind, IsClean, digits-clean, name-clean}

-- ---- decimals

-- digits that spell a number
pub record IsDecimal (n : ℕ) (ds : List ℕ) : Type 0 where
  pub digits : list_all is_ascii_digit ds ≡ true
  pub number : decimal_from 0 ds ≡ n

digit : (d : ℕ) → d < 10 → is_ascii_digit (48 + d) ≡ true
digit d low = grind (arith, nat_tests)

from-append : (front : ℕ) (ds : List ℕ) (d : ℕ) → decimal_from front (ds ++ d ∷ []) ≡ 10 * decimal_from front ds + (d - 48)
unfolding decimal_from
from-append front [] d = refl
from-append front (b ∷ bs) d = from-append (10 * front + (b - 48)) bs d

one_digit : (n : ℕ) → n < 10 → IsDecimal n ((48 + n) ∷ [])
unfolding decimal_from
one_digit n low = record { digits = rw (digit n low) refl; number = omega arith }

one_digit_more : (n : ℕ) (ds : List ℕ) → 10 ≤ n → IsDecimal (n / 10) ds → IsDecimal n (ds ++ (48 + n % 10) ∷ [])
one_digit_more n ds high front =
    let low : n % 10 < 10 = omega arith in
    record {
      digits = rw (list_all-append is_ascii_digit ds ((48 + n % 10) ∷ []), front.digits, digit (n % 10) low) refl;
      number = from-append 0 ds (48 + n % 10) ∙ (rw front.number (omega arith));
    }

pub decimal-is : (n : ℕ) → n < 2 ^ 64 → IsDecimal n (decimal n)
decimal-is n small = decimal_by_steps IsDecimal one_digit one_digit_more n small

pub are_digits-from : (ds : List ℕ) → 0 < length ds → list_all is_ascii_digit ds ≡ true → are_digits ds ≡ true
are_digits-from [] some all = absurd (omega arith)
are_digits-from (b ∷ bs) some all = all

pub decimal-digits : (n : ℕ) → n < 2 ^ 64 → are_digits (decimal n) ≡ true
decimal-digits n small = are_digits-from (decimal n) (decimal_nonempty n small) (decimal-is n small).digits

numeral-from : (ds : List ℕ) → are_digits ds ≡ true → 48 < get_or ds 0 0 → is_numeral ds ≡ true
numeral-from [] digits first = digits
numeral-from (b ∷ bs) digits first = let other : (b == 48) ≡ false = ne_eqb b 48 (λ e. omega arith) in rw other digits

pub decimal-numeral : (n : ℕ) → n < 2 ^ 64 → is_numeral (decimal n) ≡ true
decimal-numeral zero small = rw (decimal_digit 0 (omega arith)) refl
decimal-numeral (suc n) small = numeral-from (decimal (suc n)) (decimal-digits (suc n) small) (first_decimal (suc n) (omega arith) small)

digits-in_word : (ds : List ℕ) → list_all is_ascii_digit ds ≡ true → list_all in_word ds ≡ true
digits-in_word [] all = refl
digits-in_word (b ∷ bs) all =
    let parts = and_parts (is_ascii_digit b) (list_all is_ascii_digit bs) all in
    and_from (in_word b) (list_all in_word bs) (or_left (begins_word b || is_ascii_digit b) (b == 46) (or_right (begins_word b) (is_ascii_digit b) parts.0)) (digits-in_word bs parts.1)

-- ---- types

-- how a type is spelled, and that the reader takes the tokens for it
pub record SpellsType (text : List ℕ) (word : TypeWord) : Type 0 where
  pub clean : IsClean text
  pub first : List ℕ
  pub more : List Tok
  pub spelled : (rest : List ℕ) → Stops rest → tokens (text ++ rest) ≡ tok kinds.Word first ∷ (more ++ tokens rest)
  pub says : (ts : List Tok) → spelled_type_at (tok kinds.Word first ∷ (more ++ ts)) ≡ Some (word, ts)
  pub group : (ts : List Tok) → past_group (tok kinds.Word first ∷ ts) ≡ None
  pub flag : (which : Flags) (ts : List Tok) → past_one_of (flag_words which) (tok kinds.Word first ∷ ts) ≡ None
  pub other : is_value_type word ≡ true → is_word (codes "void") (tok kinds.Word first) ≡ false
  pub global : (ts : List Tok) → first_global (tok kinds.Word first ∷ (more ++ ts)) ≡ first_global ts

-- `iN` is no word with a letter behind its `i`
no_letter : (ds : List ℕ) (c : ℕ) (cs : List ℕ) → are_digits ds ≡ true → 58 ≤ c → bytes_eq (105 ∷ ds) (105 ∷ c ∷ cs) ≡ false
no_letter [] c cs digits high = cc
no_letter (b ∷ bs) c cs digits high =
    let low : b < 58 = below b (and_parts (is_ascii_digit b) (list_all is_ascii_digit bs) digits).0 in
    let other : nat_eq b c ≡ false = ne_eqb b c (λ e. omega arith) in
    rw other refl
  where
    below : (b : ℕ) → is_ascii_digit b ≡ true → b < 58
    below b digit = grind (arith, nat_tests)

pub integer_flag : (ds : List ℕ) → are_digits ds ≡ true → (which : Flags) (ts : List Tok) → past_one_of (flag_words which) (tok kinds.Word (105 ∷ ds) ∷ ts) ≡ None
integer_flag ds digits flags.Calling ts = refl
integer_flag ds digits flags.SameSign ts = refl
integer_flag ds digits flags.Wrapping ts = refl
integer_flag ds digits flags.Exact ts = refl
integer_flag ds digits flags.Disjoint ts = refl
integer_flag ds digits flags.NonNegative ts = refl
integer_flag ds digits flags.Bounds ts = rw (no_letter ds 110 (codes "bounds") digits (omega arith)) refl
integer_flag ds digits flags.Nothing ts = refl

pub integer_group : (ds : List ℕ) → are_digits ds ≡ true → (ts : List Tok) → past_group (tok kinds.Word (105 ∷ ds) ∷ ts) ≡ None
integer_group ds digits ts =
    let no : is_attribute_word (105 ∷ ds) ≡ false = ap not (or_right (is_one_of reserved (105 ∷ ds)) (are_digits ds) digits) in
    rw no refl

narrow-width : (n : ℕ) → IsWidth n → is_width (decimal_from 0 (decimal n)) ≡ true
narrow-width n narrow = rw ((decimal-is n (omega (arith, narrow.1))).number, le-leb 1 n narrow.0, le-leb n 64 narrow.1) refl

pub integer_says : (n : ℕ) → IsWidth n → width_of (tok kinds.Word (105 ∷ decimal n)) ≡ Some n
integer_says n narrow =
    let small : n < 2 ^ 64 = omega (arith, narrow.1) in
    rw (decimal-numeral n small) (rw (narrow-width n narrow) (rw (decimal-is n small).number refl))

pub integer_within : (n : ℕ) → IsWidth n → width_passes (tok kinds.Word (105 ∷ decimal n)) ≡ false
integer_within n narrow = rw (narrow-width n narrow) refl

pub width_spelled : (n : ℕ) → n ≤ 64 → (rest : List ℕ) → Stops rest → tokens ((105 ∷ decimal n) ++ rest) ≡ tok kinds.Word (105 ∷ decimal n) ∷ tokens rest
width_spelled n most rest stop = tokens-spelled kinds.Word (105 ∷ decimal n) rest (or_left _ _ (digits-in_word (decimal n) (decimal-is n (omega arith)).digits)) (stops-kind kinds.Word rest stop)

word_global : (word : List ℕ) (ts : List Tok) → first_global (tok kinds.Word word ∷ ts) ≡ first_global ts
unfolding first_global
word_global word ts = refl

pub integer_type : (n : ℕ) → IsWidth n → SpellsType (105 ∷ decimal n) (types.Int n)
unfolding spelled_type_at
integer_type n narrow = record {
  clean = digits-clean (decimal n) all;
  first = 105 ∷ decimal n;
  more = [];
  spelled = λ rest stop. tokens-spelled kinds.Word (105 ∷ decimal n) rest (or_left _ _ (digits-in_word (decimal n) all)) (stops-kind kinds.Word rest stop);
  says = says;
  group = integer_group (decimal n) digits;
  flag = integer_flag (decimal n) digits;
  other = λ allow. refl;
  global = word_global (105 ∷ decimal n);
}
  where
    small : n < 2 ^ 64
    small = omega (arith, narrow.1)

    all : list_all is_ascii_digit (decimal n) ≡ true
    all = (decimal-is n small).digits

    digits : are_digits (decimal n) ≡ true
    digits = decimal-digits n small

    says : (ts : List Tok) → spelled_type_at (tok kinds.Word (105 ∷ decimal n) ∷ ts) ≡ Some (types.Int n, ts)
    says ts = rw (integer_says n narrow) (rw (integer_within n narrow) refl)

-- the end of the name of a result of the type
pub integer_suffix : (n : ℕ) (narrow : IsWidth n) (ts : List Tok) → suffix_of (types.Int n) (tok kinds.Word (integer_type n narrow).first ∷ ts) ≡ 105 ∷ decimal n
unfolding integer_type
integer_suffix n narrow ts = refl

-- and it is no token
pub integer_other : (n : ℕ) (narrow : IsWidth n) → is_word (codes "token") (tok kinds.Word (integer_type n narrow).first) ≡ false
unfolding integer_type
integer_other n narrow = refl

pointer_spelled : (rest : List ℕ) → tokens (codes "ptr addrspace(1)" ++ rest) ≡ tok kinds.Word (codes "ptr") ∷ tok kinds.Word (codes "addrspace") ∷ tok kinds.Punct (codes "(") ∷ tok kinds.Number (codes "1") ∷ tok kinds.Punct (codes ")") ∷ tokens rest
pointer_spelled rest =
    tokens-spelled kinds.Word (codes "ptr") (codes " addrspace(1)" ++ rest) refl refl
    ∙ ap (λ ts. tok kinds.Word (codes "ptr") ∷ ts) (tokens-blank 32 (codes "addrspace(1)" ++ rest) refl
    ∙ (tokens-spelled kinds.Word (codes "addrspace") (codes "(1)" ++ rest) refl refl
    ∙ ap (λ ts. tok kinds.Word (codes "addrspace") ∷ ts) (tokens-spelled kinds.Punct (codes "(") (codes "1)" ++ rest) refl refl
    ∙ ap (λ ts. tok kinds.Punct (codes "(") ∷ ts) (tokens-spelled kinds.Number (codes "1") (codes ")" ++ rest) refl refl
    ∙ ap (λ ts. tok kinds.Number (codes "1") ∷ ts) (tokens-spelled kinds.Punct (codes ")") rest refl (anywhere rest))))))
  where
    anywhere : (text : List ℕ) → stops (continues kinds.Punct) text ≡ true
    anywhere [] = refl
    anywhere (c ∷ cs) = refl

pointer_flag : (which : Flags) (ts : List Tok) → past_one_of (flag_words which) (tok kinds.Word (codes "ptr") ∷ ts) ≡ None
pointer_flag flags.Calling ts = refl
pointer_flag flags.SameSign ts = refl
pointer_flag flags.Wrapping ts = refl
pointer_flag flags.Exact ts = refl
pointer_flag flags.Disjoint ts = refl
pointer_flag flags.NonNegative ts = refl
pointer_flag flags.Bounds ts = refl
pointer_flag flags.Nothing ts = refl

pointer_says : (ts : List Tok) → spelled_type_at (tok kinds.Word (codes "ptr") ∷ tok kinds.Word (codes "addrspace") ∷ tok kinds.Punct (codes "(") ∷ tok kinds.Number (codes "1") ∷ tok kinds.Punct (codes ")") ∷ ts) ≡ Some (types.Managed, ts)
unfolding spelled_type_at pointer_at addrspace_at after one_at
pointer_says ts = refl

pointer_global : (ts : List Tok) → first_global (tok kinds.Word (codes "ptr") ∷ tok kinds.Word (codes "addrspace") ∷ tok kinds.Punct (codes "(") ∷ tok kinds.Number (codes "1") ∷ tok kinds.Punct (codes ")") ∷ ts) ≡ first_global ts
unfolding first_global
pointer_global ts = refl

pub pointer_type : SpellsType (codes "ptr addrspace(1)") types.Managed
pointer_type = record {
  clean = refl;
  first = codes "ptr";
  more = tok kinds.Word (codes "addrspace") ∷ tok kinds.Punct (codes "(") ∷ tok kinds.Number (codes "1") ∷ tok kinds.Punct (codes ")") ∷ [];
  spelled = λ rest stop. pointer_spelled rest;
  says = pointer_says;
  group = λ ts. refl;
  flag = pointer_flag;
  other = λ allow. refl;
  global = pointer_global;
}

pub pointer_other : is_word (codes "token") (tok kinds.Word pointer_type.first) ≡ false
unfolding pointer_type
pointer_other = refl

void_flag : (which : Flags) (ts : List Tok) → past_one_of (flag_words which) (tok kinds.Word (codes "void") ∷ ts) ≡ None
void_flag flags.Calling ts = refl
void_flag flags.SameSign ts = refl
void_flag flags.Wrapping ts = refl
void_flag flags.Exact ts = refl
void_flag flags.Disjoint ts = refl
void_flag flags.NonNegative ts = refl
void_flag flags.Bounds ts = refl
void_flag flags.Nothing ts = refl

void_says : (ts : List Tok) → spelled_type_at (tok kinds.Word (codes "void") ∷ ts) ≡ Some (types.Void, ts)
unfolding spelled_type_at
void_says ts = refl

pub void_type : SpellsType (codes "void") types.Void
void_type = record {
  clean = refl;
  first = codes "void";
  more = [];
  spelled = λ rest stop. tokens-spelled kinds.Word (codes "void") rest refl (stops-kind kinds.Word rest stop);
  says = void_says;
  group = λ ts. refl;
  flag = void_flag;
  other = λ allow. cc;
  global = word_global (codes "void");
}

pub allowed : (text : List ℕ) (word : TypeWord) (t : SpellsType text word) (allows : TypeWord → Bool) → allows word ≡ true → (ts : List Tok) → allowed_type_at allows (tok kinds.Word t.first ∷ (t.more ++ ts)) ≡ Some (word, ts)
unfolding allowed_type_at after
allowed text word t allows allow ts = rw (t.says ts) (rw allow refl)

-- ---- values

-- a value is one token
pub record SpellsValue (text : List ℕ) (value : Val) : Type 0 where
  pub clean : IsClean text
  pub kind : Kind
  pub is : is_token kind text ≡ true
  pub says : value_of (tok kind text) ≡ Some value
  pub within : literal_passes (tok kind text) ≡ false
  pub group : (ts : List Tok) → past_group (tok kind text ∷ ts) ≡ None

pub local_value : (name : List ℕ) → is_name name ≡ true → SpellsValue (37 ∷ name) (values.local name)
local_value name is = record { clean = name-clean name is; kind = kinds.Local; is = is; says = rw is refl; within = refl; group = λ ts. refl }

pub null_value : SpellsValue (codes "null") values.null
null_value = record { clean = refl; kind = kinds.Word; is = refl; says = refl; within = refl; group = λ ts. refl }

pub true_value : SpellsValue (codes "true") (values.truth true)
true_value = record { clean = refl; kind = kinds.Word; is = refl; says = refl; within = refl; group = λ ts. refl }

pub false_value : SpellsValue (codes "false") (values.truth false)
false_value = record { clean = refl; kind = kinds.Word; is = refl; says = refl; within = refl; group = λ ts. refl }

literal_digits : (ds : List ℕ) → are_digits ds ≡ true → number_spelled ds ≡ record { negative = false; magnitude = decimal_from 0 ds }
literal_digits [] digits = cc
literal_digits (b ∷ bs) digits =
    let other : (b == 45) ≡ false = ne_eqb b 45 (λ e. omega (arith, high b (and_parts (is_ascii_digit b) (list_all is_ascii_digit bs) digits).0)) in
    rw other refl
  where
    high : (b : ℕ) → is_ascii_digit b ≡ true → 48 ≤ b
    high b digit = grind (arith, nat_tests)

-- the text spells this literal
pub record IsSpelling (text : List ℕ) (literal : Literal) : Type 0 where
  pub says : literal_spelled text ≡ literal
  pub within : literal_passes (tok kinds.Number text) ≡ false

spelling : (text : List ℕ) (literal : Literal) → number_spelled text ≡ literal → is_literal literal ≡ true → IsSpelling text literal
spelling text literal is fits = record { says = rw is (rw fits refl); within = rw is (rw fits refl) }

pub positive : (n : ℕ) → n < 2 ^ 64 → IsSpelling (decimal n) (record { negative = false; magnitude = n })
positive n small =
    spelling (decimal n) (record { negative = false; magnitude = n })
    (literal_digits (decimal n) (decimal-digits n small) ∙ ap (λ (m : ℕ). record { negative = false; magnitude = m }) (decimal-is n small).number)
    (le-leb n (2 ^ 64 - 1) (omega arith))

negative : (n : ℕ) → n ≤ 2 ^ 63 → IsSpelling (45 ∷ decimal n) (record { negative = true; magnitude = n })
negative n small =
    spelling (45 ∷ decimal n) (record { negative = true; magnitude = n })
    (ap (λ (m : ℕ). record { negative = true; magnitude = m }) (decimal-is n (omega arith)).number)
    (le-leb n (2 ^ 63) small)

-- from -2^63 to 2^64 - 1
abbrev pub Spellable : ℤ → Type 0
Spellable (pos n) = n < 2 ^ 64
Spellable (negsuc n) = suc n ≤ 2 ^ 63

pub decimal_token : (n : ℕ) → n < 2 ^ 64 → is_token kinds.Number (decimal n) ≡ true
decimal_token n small = or_left (are_digits (decimal n)) (first_then 45 are_digits (decimal n)) (decimal-digits n small)

-- an integer is one token
pub record SpellsLiteral (text : List ℕ) (literal : Literal) : Type 0 where
  pub clean : IsClean text
  pub is : is_token kinds.Number text ≡ true
  pub spelling : IsSpelling text literal

pub literal_token : (z : ℤ) → Spellable z → SpellsLiteral (signed_decimal z) (literal_of z)
literal_token (pos n) small = record {
  clean = digits-clean (decimal n) (decimal-is n small).digits;
  is = or_left (are_digits (decimal n)) (first_then 45 are_digits (decimal n)) (decimal-digits n small);
  spelling = positive n small;
}
literal_token (negsuc n) small = record {
  clean = digits-clean (decimal (suc n)) (decimal-is (suc n) (omega arith)).digits;
  is = or_right (are_digits (45 ∷ decimal (suc n))) (are_digits (decimal (suc n))) (decimal-digits (suc n) (omega arith));
  spelling = negative (suc n) small;
}

pub number_value : (z : ℤ) → Spellable z → SpellsValue (signed_decimal z) (values.number (literal_of z))
number_value z small =
    let literal = literal_token z small in
    record { clean = literal.clean; kind = kinds.Number; is = literal.is; says = ap (λ l. Some (values.number l)) literal.spelling.says; within = literal.spelling.within; group = λ ts. refl }

below_zero : (a b : ℕ) → a < b → 2 * a + 1 ≤ 2 * b → b ≤ 2 * a → b ≤ 2 ^ 64 → Spellable (pos a -ℤ pos b)
below_zero a zero less odd half small = absurd (omega arith)
below_zero a (suc b) less odd half small = rw (lt-ltb a (suc b) less) (omega arith)

pub signed-spellable : (width number : ℕ) → width ≤ 64 → Spellable (signed width number)
signed-spellable width number most =
    let bits : 2 ^ width ≤ 2 ^ 64 = pow-le-pow_right {n = 2} (omega arith) most in
    let some : 0 < 2 ^ width = pow_pos width in
    by (2 ^ width) (wrapped width number) bits (mod-lt number {m = 2 ^ width} some)
  where
    by : (bits m : ℕ) → bits ≤ 2 ^ 64 → m < bits → Spellable (cond (nat_lt (2 * m) bits) (pos m) (pos m -ℤ pos bits))
    by bits m most low = elim (cases_lt (2 * m) bits) [
      | inl less ↦ rw (lt-ltb (2 * m) bits less) (omega arith)
      | inr more ↦ rw (le-ltb (2 * m) bits more) (below_zero m bits low (omega arith) more most)
    ]

pub integer_spelled : (width number : ℕ) → width ≤ 64 → SpellsValue (integer_text width number) (integer_value width number)
unfolding integer_text
integer_spelled width number most = by (width == 1) (wrapped 1 number == 0)
  where
    by : (bit none : Bool) → SpellsValue (cond bit (cond none (codes "false") (codes "true")) (signed_decimal (signed width number))) (cond bit (values.truth (not none)) (values.number (literal_of (signed width number))))
    by true true = false_value
    by true false = true_value
    by false none = number_value (signed width number) (signed-spellable width number most)
