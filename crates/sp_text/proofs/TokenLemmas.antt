-- The tokens of a line from a place on.
use Rattle.std.proofs.Common.{◌≡◌, refl, sym, ℕ, zero, suc, ◌+◌, ◌-◌, ◌<◌, ◌≤◌, ◌≢◌, Bool, true, false, List, [], ◌∷◌, length, take, drop, arith, cond, Option, None, Some, inl, inr, subst, get_or}
use Rattle.std.specs.Prelude.{◌==◌, MatchOption}
use Rattle.std.specs.List.{find, prefix_len}
use Rattle.std.proofs.lemmas.Bool.{cases_eq, ne_eqb}
use Rattle.std.proofs.lemmas.Option.{none-some}
use Rattle.sp_text.specs.Bytes.{is_blank, after_blanks, semicolon}
use Rattle.sp_text.specs.Tokens.{is_token, kinds, kind_of, longest_front, or_shorter, front_of, front_and_more, tok, bad, tokens_after, tokens}
use Rattle.sp_text.specs.declared.tokens.Kind.{Kind}
use Rattle.sp_text.specs.declared.tokens.Kind.TheVariants.{Word, Local, Global, Number, Quoted, Hash, Bang, Punct}
use Rattle.list_laws.proofs.Numbers.{after_one}

-- what the longest front is

pub record FrontIs (most : ℕ) (bs : List ℕ) (kind : Kind) (len : ℕ) : Type 0 where
  pub some : 0 < len
  pub within : len ≤ most
  pub is : kind_of (take len bs) ≡ Some kind
  pub longest : (more : ℕ) → len < more → more ≤ most → kind_of (take more bs) ≡ None

longest_front-tells : (most : ℕ) (bs : List ℕ) → MatchOption (longest_front most bs) ((len : ℕ) → 0 < len → len ≤ most → kind_of (take len bs) ≡ None) (λ front. FrontIs most bs front.0 front.1)
unfolding longest_front
longest_front-tells zero bs = λ len some fits. absurd (omega arith)
longest_front-tells (suc most) bs = by (kind_of (take (suc most) bs)) refl (longest_front most bs) (longest_front-tells most bs)
  where
    longer : (P : ℕ → Type 0) → P (suc most) → ((more : ℕ) → more ≤ most → P more) → (more : ℕ) → more ≤ suc most → P more
    longer P here below more fits =
        elim (cases_eq more (suc most)) [
          | inl e ↦ subst P (sym e) here
          | inr ne ↦ below more (omega arith)
        ]

    by : (here : Option Kind) → kind_of (take (suc most) bs) ≡ here → (shorter : Option (Kind × ℕ)) → MatchOption shorter ((len : ℕ) → 0 < len → len ≤ most → kind_of (take len bs) ≡ None) (λ front. FrontIs most bs front.0 front.1)
        → MatchOption (or_shorter here (suc most) shorter) ((len : ℕ) → 0 < len → len ≤ suc most → kind_of (take len bs) ≡ None) (λ front. FrontIs (suc most) bs front.0 front.1)
    by (Some kind) e shorter told = record {
      some = omega arith;
      within = omega arith;
      is = e;
      longest = λ more longer fits. absurd (omega arith);
    }
    by None e None told =
        λ len some fits. longer (λ len. 0 < len → kind_of (take len bs) ≡ None) (λ _. e) (λ len fits some. told len some fits) len fits some
    by None e (Some front) told = record {
      some = told.some;
      within = omega (arith, told.within);
      is = told.is;
      longest = λ more after fits. longer (λ more. front.1 < more → kind_of (take more bs) ≡ None) (λ _. e) (λ more fits after. told.longest more after fits) more fits after;
    }

pub front_of-some : (bs : List ℕ) (kind : Kind) (len : ℕ) → front_of bs ≡ Some (kind, len) → FrontIs (length bs) bs kind len
unfolding front_of
front_of-some bs kind len e = rw e at (longest_front-tells (length bs) bs)

pub front_of-none : (bs : List ℕ) → front_of bs ≡ None → (len : ℕ) → 0 < len → len ≤ length bs → kind_of (take len bs) ≡ None
unfolding front_of
front_of-none bs e = rw e at (longest_front-tells (length bs) bs)

-- a list that has a kind is a token of that kind, and one that has none is a token of no kind

find-passes : (p : Kind → Bool) (xs : List Kind) (x : Kind) → find p xs ≡ Some x → p x ≡ true
find-passes p [] x e = absurd (none-some x e)
find-passes p (y ∷ ys) x e = by (p y) refl (find-passes p ys x) e
  where
    by : (v : Bool) → p y ≡ v → (find p ys ≡ Some x → p x ≡ true) → cond v (Some y) (find p ys) ≡ Some x → p x ≡ true
    by true is later e = let same : y ≡ x = cc in rw (← same) is
    by false is later e = later e

find-fails : (p : Kind → Bool) (xs : List Kind) → find p xs ≡ None → (i : ℕ) (d : Kind) → i < length xs → p (get_or xs i d) ≡ false
find-fails p [] e i d fits = absurd (omega arith)
find-fails p (y ∷ ys) e i d fits = by (p y) refl (find-fails p ys) e i fits
  where
    by : (v : Bool) → p y ≡ v → (find p ys ≡ None → (i : ℕ) (d : Kind) → i < length ys → p (get_or ys i d) ≡ false) → cond v (Some y) (find p ys) ≡ None → (i : ℕ) → i < length (y ∷ ys) → p (get_or (y ∷ ys) i d) ≡ false
    by true is later e i fits = absurd (none-some y (sym e))
    by false is later e zero fits = is
    by false is later e (suc i) fits = later e i d (omega arith)

pub kind_of-some : (bs : List ℕ) (kind : Kind) → kind_of bs ≡ Some kind → is_token kind bs ≡ true
unfolding kind_of
kind_of-some bs kind e = find-passes (λ kind. is_token kind bs) kinds kind e

pub kind_of-none : (bs : List ℕ) (kind : Kind) → kind_of bs ≡ None → is_token kind bs ≡ false
unfolding kind_of
kind_of-none bs Word e = find-fails (λ kind. is_token kind bs) kinds e 0 Word (omega arith)
kind_of-none bs Local e = find-fails (λ kind. is_token kind bs) kinds e 1 Word (omega arith)
kind_of-none bs Global e = find-fails (λ kind. is_token kind bs) kinds e 2 Word (omega arith)
kind_of-none bs Number e = find-fails (λ kind. is_token kind bs) kinds e 3 Word (omega arith)
kind_of-none bs Quoted e = find-fails (λ kind. is_token kind bs) kinds e 4 Word (omega arith)
kind_of-none bs Hash e = find-fails (λ kind. is_token kind bs) kinds e 5 Word (omega arith)
kind_of-none bs Bang e = find-fails (λ kind. is_token kind bs) kinds e 6 Word (omega arith)
kind_of-none bs Punct e = find-fails (λ kind. is_token kind bs) kinds e 7 Word (omega arith)

-- the tokens of a list by what it begins with

pub tokens-after_blanks : (bs : List ℕ) → tokens bs ≡ tokens (after_blanks bs)
unfolding tokens tokens_after
tokens-after_blanks [] = refl
tokens-after_blanks (b ∷ bs) = by (is_blank b) refl (tokens-after_blanks bs)
  where
    by : (v : Bool) → is_blank b ≡ v → tokens_after 0 bs ≡ tokens_after 0 (after_blanks bs) → tokens_after 0 (b ∷ bs) ≡ tokens_after 0 (drop (cond v (1 + prefix_len is_blank bs) 0) (b ∷ bs))
    by true is later = let e : 1 + prefix_len is_blank bs ≡ suc (prefix_len is_blank bs) = after_one _ in rw e (rw is later)
    by false is later = refl

-- the first byte after blanks is none
pub after_blanks-first : (bs : List ℕ) (b : ℕ) (rest : List ℕ) → after_blanks bs ≡ b ∷ rest → is_blank b ≡ false
after_blanks-first [] b rest e = cc
after_blanks-first (c ∷ cs) b rest e = by (is_blank c) refl (after_blanks-first cs b rest) e
  where
    by : (v : Bool) → is_blank c ≡ v → (after_blanks cs ≡ b ∷ rest → is_blank b ≡ false) → drop (cond v (1 + prefix_len is_blank cs) 0) (c ∷ cs) ≡ b ∷ rest → is_blank b ≡ false
    by true is later e = later (rw (after_one (prefix_len is_blank cs)) at e)
    by false is later e = let same : c ≡ b = cc in rw (← same) is

pub tokens_after-drop : (skip : ℕ) (bs : List ℕ) → tokens_after skip bs ≡ tokens (drop skip bs)
unfolding tokens tokens_after
tokens_after-drop zero bs = refl
tokens_after-drop (suc skip) [] = refl
tokens_after-drop (suc skip) (b ∷ bs) = tokens_after-drop skip bs

pub tokens-nil : tokens [] ≡ []
unfolding tokens tokens_after
tokens-nil = refl

pub tokens-blank : (b : ℕ) (bs : List ℕ) → is_blank b ≡ true → tokens (b ∷ bs) ≡ tokens bs
unfolding tokens tokens_after
tokens-blank b bs blank = simp blank

pub tokens-comment : (bs : List ℕ) → tokens (semicolon ∷ bs) ≡ []
unfolding tokens tokens_after
tokens-comment bs = refl

tokens-front : (b : ℕ) (bs : List ℕ) → is_blank b ≡ false → b ≢ semicolon → tokens (b ∷ bs) ≡ front_and_more (front_of (b ∷ bs)) (b ∷ bs) (λ len. tokens_after (len - 1) bs)
unfolding tokens tokens_after
tokens-front b bs blank comment =
    let no_comment : (b == semicolon) ≡ false = ne_eqb b semicolon comment in
    simp (blank, no_comment)

pub tokens-some : (b : ℕ) (bs : List ℕ) (kind : Kind) (len : ℕ) → is_blank b ≡ false → b ≢ semicolon → front_of (b ∷ bs) ≡ Some (kind, len) → tokens (b ∷ bs) ≡ tok kind (take len (b ∷ bs)) ∷ tokens (drop len (b ∷ bs))
tokens-some b bs kind zero blank comment e = absurd (omega (arith, (front_of-some (b ∷ bs) kind zero e).some))
tokens-some b bs kind (suc len) blank comment e =
    rw (tokens-front b bs blank comment, e, tokens_after-drop) (let less : suc len - 1 ≡ len = omega arith in rw less refl)

pub tokens-none : (b : ℕ) (bs : List ℕ) → is_blank b ≡ false → b ≢ semicolon → front_of (b ∷ bs) ≡ None → tokens (b ∷ bs) ≡ bad ∷ []
tokens-none b bs blank comment e = rw (tokens-front b bs blank comment, e) refl
