-- The note that a limit was passed, and how many tokens stand before it.
use Rattle.std.proofs.Common.{◌≡◌, ℕ, zero, suc, ◌+◌, ◌-◌, ◌≤◌, Bool, true, false, cond, ◌||◌, eqb, List, [], ◌∷◌, length, Option, Some, None, refl, sym, ap, arith, inl, inr}
use Rattle.std.specs.Prelude.{◌⊎◌}
use Rattle.sp_text.specs.Bytes.{is_blank, semicolon}
use Rattle.sp_text.specs.Tokens.{Tok, tok, bad, over, note, front_of, front_and_more, tokens_after, tokens}
use Rattle.sp_text.specs.declared.tokens.Kind.{Kind}
use Rattle.line_parts.specs.Gives.{is_nil, noted, end_of}

note-note : (ts : List Tok) → note (note ts) ≡ note ts
unfolding note
note-note [] = refl
note-note (over ∷ ts) = refl
note-note (bad ∷ ts) = refl
note-note (tok kind bytes ∷ ts) = ap (λ (more : List Tok). tok kind bytes ∷ more) (note-note ts)

pub noted-token : (passed : Bool) (kind : Kind) (bytes : List ℕ) (ts : List Tok) → noted passed (tok kind bytes ∷ ts) ≡ tok kind bytes ∷ noted passed ts
unfolding note
noted-token true kind bytes ts = refl
noted-token false kind bytes ts = refl

-- how many tokens there are, but for the note
abbrev pub count : List Tok → ℕ
count [] = 0
count (over ∷ ts) = count ts
count (bad ∷ ts) = suc (count ts)
count (tok kind bytes ∷ ts) = suc (count ts)

pub count-more : (t : Tok) (ts : List Tok) → count ts ≤ count (t ∷ ts)
count-more over ts = omega arith
count-more bad ts = omega arith
count-more (tok kind bytes) ts = omega arith

pub count-le : (ts : List Tok) → count ts ≤ length ts
count-le [] = omega arith
count-le (over ∷ ts) = omega (arith, count-le ts)
count-le (bad ∷ ts) = omega (arith, count-le ts)
count-le (tok kind bytes ∷ ts) = omega (arith, count-le ts)

note-count : (ts : List Tok) → count (note ts) ≡ count ts
unfolding note
note-count [] = refl
note-count (over ∷ ts) = refl
note-count (bad ∷ ts) = refl
note-count (tok kind bytes ∷ ts) = ap (λ (n : ℕ). suc n) (note-count ts)

pub noted-count : (passed : Bool) (ts : List Tok) → count (noted passed ts) ≡ count ts
noted-count true ts = note-count ts
noted-count false ts = refl

pub noted-twice : (first second : Bool) (ts : List Tok) → noted (first || second) ts ≡ noted second (noted first ts)
noted-twice true true ts = sym (note-note ts)
noted-twice true false ts = refl
noted-twice false second ts = refl

note-length : (ts : List Tok) → length (note ts) ≤ length ts + 1
unfolding note
note-length [] = omega arith
note-length (over ∷ ts) = omega arith
note-length (bad ∷ ts) = omega arith
note-length (tok kind bytes ∷ ts) = omega (arith, note-length ts)

pub noted-length : (passed : Bool) (ts : List Tok) → length (noted passed ts) ≤ length ts + 1
noted-length true ts = note-length ts
noted-length false ts = omega arith

-- ---- where a line ends

abbrev pub IsEnd : List Tok → Type 0
IsEnd ts = (ts ≡ []) ⊎ ((ts ≡ bad ∷ []) ⊎ (ts ≡ over ∷ []))

pub noted-end : (passed : Bool) (ts : List Tok) → (ts ≡ []) ⊎ (ts ≡ bad ∷ []) → IsEnd (noted passed ts)
unfolding note
noted-end true ts (inl e) = inr (inr (ap note e))
noted-end true ts (inr e) = inr (inl (ap note e))
noted-end false ts (inl e) = inl e
noted-end false ts (inr e) = inr (inl e)

pub end-token : (passed : Bool) (kind : Kind) (bytes : List ℕ) (ts : List Tok) → end_of (noted passed (tok kind bytes ∷ ts)) ≡ None
unfolding note
end-token true kind bytes ts = refl
end-token false kind bytes ts = refl

pub end-nil : (passed : Bool) (ts : List Tok) → is_nil ts ≡ true → end_of (noted passed ts) ≡ Some passed
unfolding note
end-nil true [] e = refl
end-nil false [] e = refl
end-nil passed (t ∷ ts) e = absurd (let wrong : false ≡ true = e in cc)

-- the tokens of a line have no note
abbrev begins_noted : List Tok → Bool
begins_noted (over ∷ ts) = true
begins_noted _ = false

choose-plain : (b : Bool) (xs ys : List Tok) → begins_noted xs ≡ false → begins_noted ys ≡ false → begins_noted (cond b xs ys) ≡ false
choose-plain true xs ys e f = e
choose-plain false xs ys e f = f

front-plain : (found : Option (Kind × ℕ)) (bs : List ℕ) (more : ℕ → List Tok) → begins_noted (front_and_more found bs more) ≡ false
front-plain None bs more = refl
front-plain (Some (kind, len)) bs more = refl

tokens_after-plain : (skip : ℕ) (bs : List ℕ) → begins_noted (tokens_after skip bs) ≡ false
unfolding tokens_after
tokens_after-plain skip [] = refl
tokens_after-plain zero (b ∷ bs) =
    choose-plain (is_blank b) _ _ (tokens_after-plain 0 bs)
    (choose-plain (eqb b semicolon) _ _ refl (front-plain (front_of (b ∷ bs)) (b ∷ bs) (λ len. tokens_after (len - 1) bs)))
tokens_after-plain (suc skip) (b ∷ bs) = tokens_after-plain skip bs

end-other : (passed : Bool) (ts : List Tok) → is_nil ts ≡ false → begins_noted ts ≡ false → end_of (noted passed ts) ≡ None
unfolding note
end-other passed [] e f = absurd (let wrong : true ≡ false = e in cc)
end-other passed (over ∷ ts) e f = absurd (let wrong : true ≡ false = f in cc)
end-other true (bad ∷ ts) e f = refl
end-other false (bad ∷ ts) e f = refl
end-other true (tok kind bytes ∷ ts) e f = refl
end-other false (tok kind bytes ∷ ts) e f = refl

pub end-none : (passed : Bool) (bs : List ℕ) → is_nil (tokens bs) ≡ false → end_of (noted passed (tokens bs)) ≡ None
unfolding tokens
end-none passed bs e = end-other passed (tokens bs) e (tokens_after-plain 0 bs)
