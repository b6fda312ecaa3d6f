-- What stands in a line at the first byte from a place on that is no blank.
use Rattle.std.proofs.Common.{◌≡◌, refl, ap, sym, ◌∙◌, ℕ, zero, suc, ◌+◌, ◌-◌, ◌<◌, ◌≤◌, ◌≢◌, true, false, List, [], ◌∷◌, length, take, drop, arith, None, Some, inl, inr, length-drop}
use Rattle.std.specs.Prelude.{slice_range}
use Rattle.std.specs.List.{prefix_len}
use Rattle.std.proofs.lemmas.Bool.{ne_eqb, true≢false, cases_lt}
use Rattle.std.proofs.lemmas.List.{drop-drop, take_all, nil_from_length}
use Rattle.sp_text.specs.Bytes.{is_blank, after_blanks, semicolon}
use Rattle.sp_text.specs.TokenAt.{IsFirstToken, BeginsNoToken, past_blanks}
use Rattle.sp_text.specs.Tokens.{is_token, kind_of, front_of, tok, bad, tokens}
use Rattle.sp_text.specs.declared.tokens.Kind.{Kind}
use Rattle.sp_text.specs.declared.tokens.Kind.TheVariants.{Word, Local, Global, Number, Quoted, Hash, Bang, Punct}
use Rattle.sp_text.specs.declared.tokens.PlacedToken.{PlacedToken}
use Rattle.sp_text.proofs.Runs.{list_all-prefix}
use Rattle.sp_text.proofs.TokenLemmas.{front_of-some, front_of-none, kind_of-some, kind_of-none, tokens-after_blanks, after_blanks-first, tokens-nil, tokens-comment, tokens-some, tokens-none}

-- the first byte from `from` on that is no blank stands at `at`, and these follow it
pub record StartsAt (line : List ℕ) (from at first : ℕ) (rest : List ℕ) : Type 0 where
  pub at_is : at ≡ past_blanks line from
  pub here : drop at line ≡ first ∷ rest

-- from what the calls ensure
pub starts_at : (line : List ℕ) (from : ℕ) {at first : ℕ} {rest later : List ℕ} → at ≡ past_blanks line from → later ≡ drop at line → later ≡ first ∷ rest → StartsAt line from at first rest
starts_at line from at later first = record { at_is = at; here = sym later ∙ first }

past : {line : List ℕ} {from at first : ℕ} {rest : List ℕ} → StartsAt line from at first rest → after_blanks (drop from line) ≡ first ∷ rest
past {line} {from} s =
    drop-drop (prefix_len is_blank (drop from line)) from line ∙ ap (λ n. drop n line) (sym s.at_is) ∙ s.here

not_blank : {line : List ℕ} {from at first : ℕ} {rest : List ℕ} → StartsAt line from at first rest → is_blank first ≡ false
not_blank {line} {from} {at} {first} {rest} s = after_blanks-first (drop from line) first rest (past s)

-- the part of a line from a place on
slice-from : (line : List ℕ) (at len : ℕ) → slice_range line at (at + len) ≡ take len (drop at line)
slice-from line at len = let e : at + len - at ≡ len = omega arith in rw e refl

-- a token

pub tokens-here : {line : List ℕ} {from at first : ℕ} {rest : List ℕ} (kind : Kind) (len : ℕ) → StartsAt line from at first rest → first ≢ semicolon → front_of (first ∷ rest) ≡ Some (kind, len)
    → tokens (drop from line) ≡ tok kind (slice_range line at (at + len)) ∷ tokens (drop (at + len) line)
tokens-here {line} {from} {at} {first} {rest} kind len s comment front =
    tokens-after_blanks (drop from line) ∙ ap tokens (past s) ∙ tokens-some first rest kind len (not_blank s) comment front
    ∙ rw (slice-from, ← drop-drop len at line, s.here) refl

pub front-fits : {line : List ℕ} {from at first : ℕ} {rest : List ℕ} (kind : Kind) (len : ℕ) → StartsAt line from at first rest → front_of (first ∷ rest) ≡ Some (kind, len) → (0 < len) × (at + len ≤ length line)
front-fits {line} {from} {at} {first} {rest} kind len s front =
    let found = front_of-some (first ∷ rest) kind len front in
    let fits : len ≤ length (first ∷ rest) = found.within in
    let same : length (drop at line) ≡ length (first ∷ rest) = ap length s.here in
    (found.some, omega (arith, length-drop at line, fits, same, found.some))

pub spelled_here : {line : List ℕ} {from at first : ℕ} {rest : List ℕ} (kind : Kind) (len : ℕ) → StartsAt line from at first rest → front_of (first ∷ rest) ≡ Some (kind, len) → is_token kind (slice_range line at (at + len)) ≡ true
spelled_here {line} {from} {at} {first} {rest} kind len s front = rw (slice-from, s.here) (kind_of-some _ kind (front_of-some (first ∷ rest) kind len front).is)

pub first_token : {line : List ℕ} {from at first : ℕ} {rest : List ℕ} (kind : Kind) (len : ℕ) → StartsAt line from at first rest → front_of (first ∷ rest) ≡ Some (kind, len) → (token : PlacedToken) → token.kind ≡ kind → token.from ≡ at → token.to ≡ at + len
    → token.bytes.now ≡ slice_range line at (at + len) → IsFirstToken line from token
first_token {line} {from} {at} {first} {rest} kind len s front token same_kind same_from same_to same_bytes =
    let found = front_of-some (first ∷ rest) kind len front in
    let fits = front-fits kind len s front in
    record {
      after = omega (arith, same_from, s.at_is);
      blanks = rw (same_from, s.at_is, slice-from) (list_all-prefix is_blank (drop from line));
      some = omega (arith, same_from, same_to, fits.0);
      within = omega (arith, same_to, fits.1);
      slice = rw (same_bytes, same_from, same_to) refl;
      kind = rw (same_kind, same_bytes) (spelled_here kind len s front);
      longest = λ to kind after within.
          let more = to - at in
          let split : to ≡ at + more = omega (arith, same_to, fits.0) in
          let same : length (drop at line) ≡ length (first ∷ rest) = ap length s.here in
          let none : kind_of (take more (first ∷ rest)) ≡ None =
          found.longest more (omega (arith, same_to)) (omega (arith, length-drop at line, same)) in
          rw (same_from, split, slice-from, s.here) (kind_of-none _ kind none);
    }

pub no_bad_byte : {line : List ℕ} {from at first : ℕ} {rest : List ℕ} (kind : Kind) (len : ℕ) → StartsAt line from at first rest → front_of (first ∷ rest) ≡ Some (kind, len) → BeginsNoToken (drop from line) → ⊥
no_bad_byte {line} {from} {at} {first} {rest} kind len s front none =
    let found = front_of-some (first ∷ rest) kind len front in
    let is : is_token kind (take len (after_blanks (drop from line))) ≡ true = rw (past s) (kind_of-some _ kind found.is) in
    true≢false (sym is ∙ none.no_token len kind)

-- no token

pub tokens-bad : {line : List ℕ} {from at first : ℕ} {rest : List ℕ} → StartsAt line from at first rest → first ≢ semicolon → front_of (first ∷ rest) ≡ None → tokens (drop from line) ≡ bad ∷ []
tokens-bad {line} {from} {at} {first} {rest} s comment front =
    tokens-after_blanks (drop from line) ∙ ap tokens (past s) ∙ tokens-none first rest (not_blank s) comment front

pub bad_byte : {line : List ℕ} {from at first : ℕ} {rest : List ℕ} → StartsAt line from at first rest → first ≢ semicolon → front_of (first ∷ rest) ≡ None → BeginsNoToken (drop from line)
bad_byte {line} {from} {at} {first} {rest} s comment front = record {
  something = rw (past s) (ne_eqb first semicolon comment);
  no_token = λ len kind. rw (past s) (none len kind);
}
  where
    nothing : (kind : Kind) → is_token kind [] ≡ false
    nothing Word = refl
    nothing Local = refl
    nothing Global = refl
    nothing Number = refl
    nothing Quoted = refl
    nothing Hash = refl
    nothing Bang = refl
    nothing Punct = refl

    within : (len : ℕ) (kind : Kind) → len ≤ length (first ∷ rest) → is_token kind (take len (first ∷ rest)) ≡ false
    within zero kind fits = nothing kind
    within (suc len) kind fits = kind_of-none _ kind (front_of-none (first ∷ rest) front (suc len) (omega arith) fits)

    none : (len : ℕ) (kind : Kind) → is_token kind (take len (first ∷ rest)) ≡ false
    none len kind = elim (cases_lt len (suc (length rest))) [
      | inl less ↦ within len kind (omega arith)
      | inr more ↦ (let all : take len (first ∷ rest) ≡ first ∷ rest = take_all len (first ∷ rest) (omega arith) in
          let whole : take (suc (length rest)) (first ∷ rest) ≡ first ∷ rest = take_all (suc (length rest)) (first ∷ rest) (omega arith) in
          rw (all, ← whole) (within (suc (length rest)) kind (omega arith)))
    ]

-- nothing more

pub tokens-end : (line : List ℕ) (from : ℕ) {at : ℕ} {later : List ℕ} → at ≡ past_blanks line from → later ≡ drop at line → length later ≡ 0 → tokens (drop from line) ≡ []
tokens-end line from {at} {later} at_is past_them none =
    let here : after_blanks (drop from line) ≡ [] =
    drop-drop (prefix_len is_blank (drop from line)) from line ∙ ap (λ n. drop n line) (sym at_is) ∙ sym past_them ∙ nil_from_length later none in
    tokens-after_blanks (drop from line) ∙ ap tokens here ∙ tokens-nil

pub tokens-stop : {line : List ℕ} {from at first : ℕ} {rest : List ℕ} → StartsAt line from at first rest → first ≡ semicolon → tokens (drop from line) ≡ []
tokens-stop {line} {from} {at} {first} {rest} s comment =
    tokens-after_blanks (drop from line) ∙ ap tokens (past s) ∙ ap (λ b. tokens (b ∷ rest)) comment ∙ tokens-comment rest
