-- What follows the tokens of a line that were found so far, and the next of them.
use Rattle.std.proofs.Common.{◌≡◌, refl, ap, sym, ◌∙◌, ℕ, ◌+◌, ◌<◌, ◌≤◌, ◌≢◌, true, false, List, ◌∷◌, ◌++◌, length, take, drop, set, append_assoc, arith, None, Some, inl, inr, length-drop}
use Rattle.std.specs.Prelude.{map}
use Rattle.std.specs.List.{prefix_len}
use Rattle.std.proofs.lemmas.Bool.{cases_eq, ne_eqb}
use Rattle.std.proofs.lemmas.Grind.{take-set_at}
use Rattle.std.proofs.lemmas.List.{drop-drop, map-append}
use Rattle.std.proofs.lemmas.List.Sums.{prefix_len-le-length}
use Rattle.std.proofs.lemmas.Option.{none-some}
use Rattle.sp_text.specs.Bytes.{is_blank, after_blanks, semicolon}
use Rattle.sp_text.specs.TokenAt.{IsEnd, HasNoToken, seen_token}
use Rattle.sp_text.specs.Tokens.{is_token, kind_of, front_of, Tok, tok, tokens}
use Rattle.sp_text.specs.declared.tokens.Kind.{Kind}
use Rattle.sp_text.specs.declared.tokens.Token.{Token}
use Rattle.sp_text.proofs.KindLemmas.{front-never}
use Rattle.sp_text.proofs.TokenLemmas.{front_of-some, kind_of-some, tokens-comment, tokens-some, tokens-none}

-- the ends of a line

pub end-drop : (line : List ℕ) (len : ℕ) → len ≤ length line → IsEnd line (drop len line)
end-drop line len fits = record { at = len; within = fits; is = refl }

pub end-end : (line : List ℕ) {middle rest : List ℕ} → IsEnd line middle → IsEnd middle rest → IsEnd line rest
end-end line {middle} {rest} first second = record {
  at = first.at + second.at;
  within = omega (arith, first.within, second.within, length-drop first.at line, ap length first.is);
  is = second.is ∙ ap (drop second.at) first.is ∙ drop-drop second.at first.at line;
}

pub end-after_blanks : (line : List ℕ) → IsEnd line (after_blanks line)
end-after_blanks line = end-drop line (prefix_len is_blank line) (prefix_len-le-length is_blank line)

pub end-tail : {line : List ℕ} {first : ℕ} {behind : List ℕ} → line ≡ first ∷ behind → IsEnd line behind
end-tail {line} {first} {behind} is = rw is (end-drop (first ∷ behind) 1 (omega arith))

-- the next token

no_blank : (first : ℕ) (rest : List ℕ) {kind : Kind} {len : ℕ} → front_of (first ∷ rest) ≡ Some (kind, len) → is_blank first ≡ false
unfolding kind_of
no_blank first rest {kind} {len} front = elim (cases_eq first 32) [
  | inl e ↦ absurd (none-some _ (sym (front-never 32 rest (λ cs. refl)) ∙ rw e at front))
  | inr no_space ↦ elim (cases_eq first 9) [
    | inl e ↦ absurd (none-some _ (sym (front-never 9 rest (λ cs. refl)) ∙ rw e at front))
    | inr no_tab ↦ rw (ne_eqb first 32 no_space, ne_eqb first 9 no_tab) refl
  ]
]

no_comment : (first : ℕ) (rest : List ℕ) {kind : Kind} {len : ℕ} → front_of (first ∷ rest) ≡ Some (kind, len) → first ≢ semicolon
unfolding kind_of
no_comment first rest front e = none-some _ (sym (front-never semicolon rest (λ cs. refl)) ∙ rw e at front)

pub next_fits : {line : List ℕ} {first : ℕ} {rest : List ℕ} {kind : Kind} {len : ℕ} → line ≡ first ∷ rest → front_of (first ∷ rest) ≡ Some (kind, len) → len ≤ length line
next_fits {line} {first} {rest} {kind} {len} is front = rw is (front_of-some (first ∷ rest) kind len front).within

pub next_spelled : {line : List ℕ} {first : ℕ} {rest : List ℕ} {kind : Kind} {len : ℕ} → line ≡ first ∷ rest → front_of (first ∷ rest) ≡ Some (kind, len) → is_token kind (take len line) ≡ true
next_spelled {line} {first} {rest} {kind} {len} is front = rw is (kind_of-some _ kind (front_of-some (first ∷ rest) kind len front).is)

pub tokens-next : {line : List ℕ} {first : ℕ} {rest : List ℕ} {kind : Kind} {len : ℕ} → line ≡ first ∷ rest → front_of (first ∷ rest) ≡ Some (kind, len)
    → tokens line ≡ tok kind (take len line) ∷ tokens (drop len line)
tokens-next {line} {first} {rest} {kind} {len} is front = rw is (tokens-some first rest kind len (no_blank first rest front) (no_comment first rest front) front)

-- one more token in the room
pub one_more : (all ts more : List Tok) (room : List Token) (i : ℕ) (token : Token) → i < length room → all ≡ map seen_token (take i room) ++ ts → ts ≡ seen_token token ∷ more
    → all ≡ map seen_token (take (i + 1) (set room i token)) ++ more
one_more all ts more room i token room_left before found =
    rw (take-set_at room i (i + 1) token refl room_left, map-append, append_assoc) (before ∙ ap (λ ts. map seen_token (take i room) ++ ts) found)

-- no token

pub no_next : {line : List ℕ} {first : ℕ} {rest : List ℕ} → line ≡ first ∷ rest → is_blank first ≡ false → front_of (first ∷ rest) ≡ None → HasNoToken line
no_next {line} {first} {rest} is blank front = rw is (elim (cases_eq first semicolon) [
  | inl e ↦ inl (rw e (tokens-comment rest))
  | inr ne ↦ inr (tokens-none first rest blank ne front)
])
