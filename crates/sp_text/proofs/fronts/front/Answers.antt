-- The table of first bytes is held against the definitions at each of the 256 bytes, by computing.
use Rattle.std.proofs.Common.{◌≡◌, sym, ◌∙◌, ℕ, ◌+◌, ◌<◌, ◌≢◌, Bool, true, false, List, ◌∷◌, refl, get_or, arith, Option, None, Some}
use Rattle.std.specs.Prelude.{◌==◌, MatchOption}
use Rattle.std.proofs.lemmas.Bool.{agree_below, agree_below_at, eq-eqb, ne_eqb}
use Rattle.sp_text.specs.Bytes.{begins_word, is_mark}
use Rattle.sp_text.specs.Fronts.{IsLongestFront, HasNoFront}
use Rattle.sp_text.specs.Tokens.{front_of, are_digits, is_name, ends_quote, is_bang_end, is_ellipsis_end}
use Rattle.sp_text.specs.declared.bytes.TheConstants.{FIRST_BYTES}
use Rattle.sp_text.specs.declared.tokens.Kind.{Kind}
use Rattle.sp_text.specs.declared.tokens.Kind.TheVariants.{Word, Local, Global, Number, Quoted, Hash, Bang}
use Rattle.sp_text.proofs.KindLemmas.{BeginsKind, front-from, front-by, local_kind, global_kind, signed_kind, quoted_kind, hash_kind, bang_kind, ellipsis_kind, front-mark, digit_kind, word_kind, no_kind, front-never}
use Rattle.sp_text.proofs.Runs.{run_is_longest}
use Rattle.sp_text.proofs.fronts.front.Goals as goal
use Rattle.list_laws.proofs.Numbers.{after_one}

-- the bytes for which this one stands are those that pass the test
abbrev Stands : ℕ → (ℕ → Bool) → Type 0
Stands class p = agree_below (λ k. get_or FIRST_BYTES k 0 == class) p 256 ≡ true

passes : (p : ℕ → Bool) (class b : ℕ) → Stands class p → b < 256 → get_or FIRST_BYTES b 0 ≡ class → p b ≡ true
passes p class b table small is = sym (agree_below_at (λ k. get_or FIRST_BYTES k 0 == class) p 256 b table small) ∙ eq-eqb _ _ is

fails : (p : ℕ → Bool) (class b : ℕ) → Stands class p → b < 256 → get_or FIRST_BYTES b 0 ≢ class → p b ≡ false
fails p class b table small isnt = sym (agree_below_at (λ k. get_or FIRST_BYTES k 0 == class) p 256 b table small) ∙ ne_eqb _ _ isnt

-- a byte that begins one kind alone, and what the code found behind it
found : {first b : ℕ} (kind : Kind) (rest : List ℕ → Bool) (bs : List ℕ) {end : Option ℕ} {len : ℕ} → b ≡ first → BeginsKind first kind rest → MatchOption end (HasNoFront rest bs) (IsLongestFront rest bs) → end ≡ Some len → Some (kind, 1 + len) ≡ front_of (b ∷ bs)
found {first} kind rest bs {end} is begins front was = rw is (rw was at (front-from first kind rest bs end begins front))

lacks : {first b : ℕ} (kind : Kind) (rest : List ℕ → Bool) (bs : List ℕ) {end : Option ℕ} → b ≡ first → BeginsKind first kind rest → MatchOption end (HasNoFront rest bs) (IsLongestFront rest bs) → end ≡ None → None ≡ front_of (b ∷ bs)
lacks {first} kind rest bs {end} is begins front was = rw is (rw was at (front-from first kind rest bs end begins front))

pub returns-then-class-eq44 : goal.returns-then-class-eq44
returns-then-class-eq44 c = front-mark _ _ c.ranges.first.fits (passes is_mark 44 c.args.first refl c.ranges.first.fits c.if-class-eq44.true)

pub returns-then-class-eq97 : goal.returns-then-class-eq97
returns-then-class-eq97 c =
    rw (c.word_len.ensures.len, after_one)
    (sym (front-by _ Word _ _ _ (word_kind _ c.ranges.first.fits (passes begins_word 97 c.args.first refl c.ranges.first.fits c.if-class-eq97.true)) (run_is_longest _ _)))

pub returns-in_ok-name_front-in-37 : goal.returns-in_ok-name_front-in-37
returns-in_ok-name_front-in-37 c = found Local is_name _ c.in-37.is local_kind c.name_front.ensures c.in_ok-name_front-in-37.was

pub returns-in_err-name_front-in-37 : goal.returns-in_err-name_front-in-37
returns-in_err-name_front-in-37 c = rw c.from_residual.ensures (lacks Local is_name _ c.in-37.is local_kind c.name_front.ensures c.in_err-name_front-in-37.was)

pub returns-in_ok-name_front-in-64 : goal.returns-in_ok-name_front-in-64
returns-in_ok-name_front-in-64 c = found Global is_name _ c.in-64.is global_kind c.name_front-in-64.ensures c.in_ok-name_front-in-64.was

pub returns-in_err-name_front-in-64 : goal.returns-in_err-name_front-in-64
returns-in_err-name_front-in-64 c = rw c.from_residual-in_err-name_front-in-64.ensures (lacks Global is_name _ c.in-64.is global_kind c.name_front-in-64.ensures c.in_err-name_front-in-64.was)

pub returns-in_ok-digits_front-in-45 : goal.returns-in_ok-digits_front-in-45
returns-in_ok-digits_front-in-45 c = found Number are_digits _ c.in-45.is signed_kind c.digits_front.ensures c.in_ok-digits_front-in-45.was

pub returns-in_err-digits_front-in-45 : goal.returns-in_err-digits_front-in-45
returns-in_err-digits_front-in-45 c = rw c.from_residual-in_err-digits_front-in-45.ensures (lacks Number are_digits _ c.in-45.is signed_kind c.digits_front.ensures c.in_err-digits_front-in-45.was)

pub returns-in_ok-digits_front-in-35 : goal.returns-in_ok-digits_front-in-35
returns-in_ok-digits_front-in-35 c = found Hash are_digits _ c.in-35.is hash_kind c.digits_front-in-35.ensures c.in_ok-digits_front-in-35.was

pub returns-in_err-digits_front-in-35 : goal.returns-in_err-digits_front-in-35
returns-in_err-digits_front-in-35 c = rw c.from_residual-in_err-digits_front-in-35.ensures (lacks Hash are_digits _ c.in-35.is hash_kind c.digits_front-in-35.ensures c.in_err-digits_front-in-35.was)

pub returns-in_ok-quote_front-in-34 : goal.returns-in_ok-quote_front-in-34
returns-in_ok-quote_front-in-34 c = found Quoted ends_quote _ c.in-34.is quoted_kind c.quote_front.ensures c.in_ok-quote_front-in-34.was

pub returns-in_err-quote_front-in-34 : goal.returns-in_err-quote_front-in-34
returns-in_err-quote_front-in-34 c = rw c.from_residual-in_err-quote_front-in-34.ensures (lacks Quoted ends_quote _ c.in-34.is quoted_kind c.quote_front.ensures c.in_err-quote_front-in-34.was)

pub returns-in_ok-bang_front-in-33 : goal.returns-in_ok-bang_front-in-33
returns-in_ok-bang_front-in-33 c = found Bang is_bang_end _ c.in-33.is bang_kind c.bang_front.ensures c.in_ok-bang_front-in-33.was

pub returns-in_err-bang_front-in-33 : goal.returns-in_err-bang_front-in-33
returns-in_err-bang_front-in-33 c = rw c.from_residual-in_err-bang_front-in-33.ensures (lacks Bang is_bang_end _ c.in-33.is bang_kind c.bang_front.ensures c.in_err-bang_front-in-33.was)

pub returns-in_ok-ellipsis_front-in-46 : goal.returns-in_ok-ellipsis_front-in-46
returns-in_ok-ellipsis_front-in-46 c = found Word is_ellipsis_end _ c.in-46.is ellipsis_kind c.ellipsis_front.ensures c.in_ok-ellipsis_front-in-46.was

pub returns-in_err-ellipsis_front-in-46 : goal.returns-in_err-ellipsis_front-in-46
returns-in_err-ellipsis_front-in-46 c = rw c.from_residual-in_err-ellipsis_front-in-46.ensures (lacks Word is_ellipsis_end _ c.in-46.is ellipsis_kind c.ellipsis_front.ensures c.in_err-ellipsis_front-in-46.was)

pub returns-in_default : goal.returns-in_default
returns-in_default c =
    rw (c.digits_len.ensures.len, after_one)
    (sym (front-by _ Number _ _ _ (digit_kind _ c.ranges.first.fits (sym c.if-is_ascii_digit.ensures.value)) (run_is_longest _ _)))

pub returns-in_default-2 : goal.returns-in_default-2
returns-in_default-2 c =
    sym (front-never _ _ (no_kind _ (fails begins_word 97 c.args.first refl c.ranges.first.fits (λ e. omega (arith, e))) (sym c.if-is_ascii_digit.ensures.value) (fails is_mark 44 c.args.first refl c.ranges.first.fits (λ e. omega (arith, e))) (ne_eqb _ _ (λ e. omega (arith, e))) (ne_eqb _ _ (λ e. omega (arith, e))) (ne_eqb _ _ (λ e. omega (arith, e))) (ne_eqb _ _ (λ e. omega (arith, e))) (ne_eqb _ _ (λ e. omega (arith, e))) (ne_eqb _ _ (λ e. omega (arith, e))) (ne_eqb _ _ (λ e. omega (arith, e)))))
