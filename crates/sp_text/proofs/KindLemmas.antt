-- The kind of a token by its first byte, and the longest token with which a list begins.
use Rattle.std.proofs.Common.{◌≡◌, refl, sym, ◌∙◌, ℕ, zero, suc, ◌+◌, ◌<◌, ◌≤◌, Bool, true, false, ◌&&◌, List, [], ◌∷◌, length, take, arith, cond, Option, None, Some, inl, inr}
use Rattle.std.specs.Prelude.{◌==◌, MatchOption}
use Rattle.std.specs.Option.{option_map}
use Rattle.std.specs.List.{list_all}
use Rattle.std.specs.Char.{is_ascii_digit}
use Rattle.std.proofs.lemmas.Bool.{cases_eq, agree_below, agree_below_at, cond-true, cond-false}
use Rattle.std.proofs.Math.Bool.{or-false}
use Rattle.sp_text.specs.Bytes.{bang, quote, hash, percent, minus, dot, at_sign, begins_word, in_word, is_mark}
use Rattle.sp_text.specs.Fronts.{IsLongestFront, HasNoFront}
use Rattle.sp_text.specs.Tokens.{is_nothing, are_digits, is_name, ends_quote, is_bang_end, is_ellipsis_end, kind_of, longest_front, front_of}
use Rattle.sp_text.specs.declared.tokens.Kind.{Kind}
use Rattle.sp_text.specs.declared.tokens.Kind.TheVariants.{Word, Local, Global, Number, Quoted, Hash, Bang, Punct}

-- a token that begins with the byte is of this kind, and its other bytes pass the test
abbrev pub BeginsKind : ℕ → Kind → (List ℕ → Bool) → Type 0
BeginsKind first kind rest = (cs : List ℕ) → kind_of (first ∷ cs) ≡ cond (rest cs) (Some kind) None

-- no byte of the first set is in the second
pub apart : (p f : ℕ → Bool) (b : ℕ) → agree_below (λ n. p n && f n) (λ _. false) 256 ≡ true → b < 256 → p b ≡ true → f b ≡ false
apart p f b table small passes =
    let none : (p b && f b) ≡ false = agree_below_at (λ n. p n && f n) (λ _. false) 256 b table small in
    rw passes at none

pub digit_kind : (b : ℕ) → b < 256 → is_ascii_digit b ≡ true → BeginsKind b Number (list_all is_ascii_digit)
unfolding kind_of
digit_kind b small digit cs =
    let word : begins_word b ≡ false = apart is_ascii_digit begins_word b refl small digit in
    let dots : (b == dot) ≡ false = apart is_ascii_digit (λ n. n == dot) b refl small digit in
    let local_name : (b == percent) ≡ false = apart is_ascii_digit (λ n. n == percent) b refl small digit in
    let global_name : (b == at_sign) ≡ false = apart is_ascii_digit (λ n. n == at_sign) b refl small digit in
    let sign : (b == minus) ≡ false = apart is_ascii_digit (λ n. n == minus) b refl small digit in
    let quoted : (b == quote) ≡ false = apart is_ascii_digit (λ n. n == quote) b refl small digit in
    let group : (b == hash) ≡ false = apart is_ascii_digit (λ n. n == hash) b refl small digit in
    let meta : (b == bang) ≡ false = apart is_ascii_digit (λ n. n == bang) b refl small digit in
    let mark : is_mark b ≡ false = apart is_ascii_digit is_mark b refl small digit in
    simp (word, dots, local_name, global_name, sign, quoted, group, meta, mark, digit) (simp or-false)

pub word_kind : (b : ℕ) → b < 256 → begins_word b ≡ true → BeginsKind b Word (list_all in_word)
unfolding kind_of
word_kind b small word cs =
    let dots : (b == dot) ≡ false = apart begins_word (λ n. n == dot) b refl small word in
    let digit : is_ascii_digit b ≡ false = apart begins_word is_ascii_digit b refl small word in
    let local_name : (b == percent) ≡ false = apart begins_word (λ n. n == percent) b refl small word in
    let global_name : (b == at_sign) ≡ false = apart begins_word (λ n. n == at_sign) b refl small word in
    let sign : (b == minus) ≡ false = apart begins_word (λ n. n == minus) b refl small word in
    let quoted : (b == quote) ≡ false = apart begins_word (λ n. n == quote) b refl small word in
    let group : (b == hash) ≡ false = apart begins_word (λ n. n == hash) b refl small word in
    let meta : (b == bang) ≡ false = apart begins_word (λ n. n == bang) b refl small word in
    let mark : is_mark b ≡ false = apart begins_word is_mark b refl small word in
    simp (word, dots, local_name, global_name, sign, quoted, group, meta, mark, digit) (simp or-false)

-- any other byte begins no token
pub no_kind : (b : ℕ) → begins_word b ≡ false → is_ascii_digit b ≡ false → is_mark b ≡ false → (b == percent) ≡ false → (b == at_sign) ≡ false → (b == minus) ≡ false → (b == hash) ≡ false → (b == quote) ≡ false → (b == bang) ≡ false → (b == dot) ≡ false → (cs : List ℕ) → kind_of (b ∷ cs) ≡ None
unfolding kind_of
no_kind b word digit mark local_name global_name sign group quoted meta dots cs =
    simp (word, dots, local_name, global_name, sign, quoted, group, meta, mark, digit)

-- the longest front, from what is known of its kinds

pub longest_front-is : (most : ℕ) (bs : List ℕ) (kind : Kind) (len : ℕ) → 0 < len → len ≤ most → kind_of (take len bs) ≡ Some kind → ((more : ℕ) → len < more → more ≤ most → kind_of (take more bs) ≡ None) → longest_front most bs ≡ Some (kind, len)
unfolding longest_front
longest_front-is zero bs kind len some fits is longer = absurd (omega arith)
longest_front-is (suc most) bs kind len some fits is longer =
    elim (cases_eq len (suc most)) [
      | inl e ↦ (let here : kind_of (take (suc most) bs) ≡ Some kind = rw e at is in rw (here, e) refl)
      | inr ne ↦ (
          let none : kind_of (take (suc most) bs) ≡ None = longer (suc most) (omega arith) (omega arith) in
          rw none (longest_front-is most bs kind len some (omega arith) is (λ more h k. longer more h (omega arith))))
    ]

pub longest_front-none : (most : ℕ) (bs : List ℕ) → ((len : ℕ) → 0 < len → len ≤ most → kind_of (take len bs) ≡ None) → longest_front most bs ≡ None
unfolding longest_front
longest_front-none zero bs none = refl
longest_front-none (suc most) bs none =
    let here : kind_of (take (suc most) bs) ≡ None = none (suc most) (omega arith) (omega arith) in
    rw here (longest_front-none most bs (λ len some fits. none len some (omega arith)))

-- a token by its first byte and the longest front of what follows
pub front-by : (first : ℕ) (kind : Kind) (rest : List ℕ → Bool) (bs : List ℕ) (len : ℕ) → BeginsKind first kind rest → IsLongestFront rest bs len → front_of (first ∷ bs) ≡ Some (kind, suc len)
unfolding front_of
front-by first kind rest bs len begins front =
    longest_front-is (suc (length bs)) (first ∷ bs) kind (suc len) (omega arith) (omega (arith, front.within))
    (begins (take len bs) ∙ cond-true _ _ _ front.passes) longer
  where
    longer : (more : ℕ) → suc len < more → more ≤ suc (length bs) → kind_of (take more (first ∷ bs)) ≡ None
    longer zero h fits = absurd (omega arith)
    longer (suc more) h fits =
        begins (take more bs) ∙ cond-false _ _ _ (front.longest more (omega arith) (omega arith))

pub front-none : (first : ℕ) (kind : Kind) (rest : List ℕ → Bool) (bs : List ℕ) → BeginsKind first kind rest → HasNoFront rest bs → front_of (first ∷ bs) ≡ None
unfolding front_of
front-none first kind rest bs begins front = longest_front-none (suc (length bs)) (first ∷ bs) none
  where
    none : (len : ℕ) → 0 < len → len ≤ suc (length bs) → kind_of (take len (first ∷ bs)) ≡ None
    none zero some fits = absurd (omega arith)
    none (suc len) some fits = begins (take len bs) ∙ cond-false _ _ _ (front.none len (omega arith))

pub front-never : (first : ℕ) (bs : List ℕ) → ((cs : List ℕ) → kind_of (first ∷ cs) ≡ None) → front_of (first ∷ bs) ≡ None
unfolding front_of
front-never first bs never = longest_front-none (suc (length bs)) (first ∷ bs) none
  where
    none : (len : ℕ) → 0 < len → len ≤ suc (length bs) → kind_of (take len (first ∷ bs)) ≡ None
    none zero some fits = absurd (omega arith)
    none (suc len) some fits = never (take len bs)

-- both at once, for what the code found after the first byte
pub front-from : (first : ℕ) (kind : Kind) (rest : List ℕ → Bool) (bs : List ℕ) (found : Option ℕ) → BeginsKind first kind rest → MatchOption found (HasNoFront rest bs) (IsLongestFront rest bs) → option_map (λ len. (kind, 1 + len)) found ≡ front_of (first ∷ bs)
front-from first kind rest bs None begins front = sym (front-none first kind rest bs begins front)
front-from first kind rest bs (Some len) begins front =
    let e : 1 + len ≡ suc len = omega arith in
    rw e (sym (front-by first kind rest bs len begins front))

-- the bytes that begin one kind alone

pub local_kind : BeginsKind percent Local is_name
unfolding kind_of
local_kind cs = refl

pub global_kind : BeginsKind at_sign Global is_name
unfolding kind_of
global_kind cs = refl

pub signed_kind : BeginsKind minus Number are_digits
unfolding kind_of
signed_kind cs = refl

pub quoted_kind : BeginsKind quote Quoted ends_quote
unfolding kind_of
quoted_kind cs = refl

pub hash_kind : BeginsKind hash Hash are_digits
unfolding kind_of
hash_kind cs = refl

pub bang_kind : BeginsKind bang Bang is_bang_end
unfolding kind_of
bang_kind cs = refl

pub ellipsis_kind : BeginsKind dot Word is_ellipsis_end
unfolding kind_of
ellipsis_kind cs = refl

-- a mark is a token alone
pub mark_kind : (b : ℕ) → b < 256 → is_mark b ≡ true → BeginsKind b Punct is_nothing
unfolding kind_of
mark_kind b small mark cs =
    let word : begins_word b ≡ false = apart is_mark begins_word b refl small mark in
    let digit : is_ascii_digit b ≡ false = apart is_mark is_ascii_digit b refl small mark in
    let dots : (b == dot) ≡ false = apart is_mark (λ n. n == dot) b refl small mark in
    let local_name : (b == percent) ≡ false = apart is_mark (λ n. n == percent) b refl small mark in
    let global_name : (b == at_sign) ≡ false = apart is_mark (λ n. n == at_sign) b refl small mark in
    let sign : (b == minus) ≡ false = apart is_mark (λ n. n == minus) b refl small mark in
    let quoted : (b == quote) ≡ false = apart is_mark (λ n. n == quote) b refl small mark in
    let group : (b == hash) ≡ false = apart is_mark (λ n. n == hash) b refl small mark in
    let meta : (b == bang) ≡ false = apart is_mark (λ n. n == bang) b refl small mark in
    simp (word, dots, local_name, global_name, sign, quoted, group, meta, mark, digit)

-- nothing is the longest front that is nothing
pub nothing_is_longest : (bs : List ℕ) → IsLongestFront is_nothing bs 0
nothing_is_longest bs = record { within = omega arith; passes = refl; longest = longer bs }
  where
    longer : (bs : List ℕ) (more : ℕ) → 0 < more → more ≤ length bs → is_nothing (take more bs) ≡ false
    longer bs zero some fits = absurd (omega arith)
    longer [] (suc more) some fits = absurd (omega arith)
    longer (b ∷ bs) (suc more) some fits = refl

-- a token of its kind by the bytes that follow its first one
pub front-mark : (b : ℕ) (bs : List ℕ) → b < 256 → is_mark b ≡ true → Some (Punct, 1) ≡ front_of (b ∷ bs)
front-mark b bs small mark = sym (front-by b Punct is_nothing bs 0 (mark_kind b small mark) (nothing_is_longest bs))
