-- What is dropped takes at least one token, so that it is dropped as often as one stands there.
use Rattle.std.proofs.Common.{◌≡◌, ℕ, zero, suc, ◌+◌, ◌-◌, ◌<◌, ◌≤◌, Bool, true, false, cond, ◌&&◌, eqb, List, [], ◌∷◌, length, Option, Some, None, refl, sym, ap, ◌∙◌, arith}
use Rattle.std.specs.Prelude.{codes, unwrap_or}
use Rattle.std.specs.Str.{bytes_eq}
use Rattle.sp_text.specs.Tokens.{Tok, tok, bad, over}
use Rattle.sp_text.specs.declared.tokens.Kind.TheVariants as kinds
use Rattle.line_tokens.specs.declared.words.Dropped.{Dropped}
use Rattle.line_tokens.specs.declared.words.Flags.{Flags}
use Rattle.line_tokens.specs.declared.words.Dropped.TheVariants as drops
use Rattle.line_tokens.specs.Marks.{is_word, is_mark, is_number, is_quoted, begins}
use Rattle.line_parts.proofs.Notes.{count, count-more, count-le}
use Rattle.line_parts.specs.Drops.{after_bracket, past_bracketing, past, past_quoted_value, past_word, past_group, past_head_attachment, past_attachment, past_alignment, past_one_of, past_group_beside, past_dropped, past_at_most, past_all, is_one_of, is_attribute_word, is_bang_name, is_bang_number, is_any_word, flag_words}

if_some : {A : Type 0} (b : Bool) (x y : A) → cond b (Some x) None ≡ Some y → x ≡ y
if_some true x y e = cc
if_some false x y e = absurd cc

-- an option that says a shorter list
abbrev Shorter : ℕ → Option (List Tok) → Type 0
Shorter n None = Unit {0}
Shorter n (Some rest) = count rest < n

shorter_is : (n : ℕ) (found : Option (List Tok)) (rest : List Tok) → Shorter n found → found ≡ Some rest → count rest < n
shorter_is n None rest s e = absurd cc
shorter_is n (Some r) rest s e = let same : r ≡ rest = cc in rw (← same) s

choose : (n : ℕ) (b : Bool) (x y : Option (List Tok)) → Shorter n x → Shorter n y → Shorter n (cond b x y)
choose n true x y p q = p
choose n false x y p q = q

wider : (n m : ℕ) (found : Option (List Tok)) → n ≤ m → Shorter n found → Shorter m found
wider n m None le s = tt
wider n m (Some r) le s = omega arith

after_bracket-shorter : (depth : ℕ) (ts : List Tok) → Shorter (count ts) (after_bracket depth ts)
unfolding after_bracket
after_bracket-shorter depth [] = tt
after_bracket-shorter depth (over ∷ ts) = after_bracket-shorter depth ts
after_bracket-shorter depth (bad ∷ ts) = wider (count ts) _ _ (omega arith) (after_bracket-shorter depth ts)
after_bracket-shorter depth (tok kind bytes ∷ ts) =
    let t : Tok = tok kind bytes in
    choose _ (is_mark (codes "(") t) _ _ (wider (count ts) _ _ (omega arith) (after_bracket-shorter (depth + 1) ts))
    (choose _ (is_mark (codes ")") t) _ _ (choose _ (eqb depth 0) _ _ (omega arith) (wider (count ts) _ _ (omega arith) (after_bracket-shorter (depth - 1) ts)))
    (wider (count ts) _ _ (omega arith) (after_bracket-shorter depth ts)))

choose_le : (n : ℕ) (b : Bool) (x y : List Tok) → count x ≤ n → count y ≤ n → count (cond b x y) ≤ n
choose_le n true x y p q = p
choose_le n false x y p q = q

unwrap_le : (n : ℕ) (found : Option (List Tok)) (d : List Tok) → Shorter n found → count d ≤ n → count (unwrap_or found d) ≤ n
unwrap_le n None d s le = le
unwrap_le n (Some r) d s le = omega arith

past_bracketing-le : (ts : List Tok) → count (past_bracketing ts) ≤ count ts
past_bracketing-le [] = omega arith
past_bracketing-le (t ∷ ts) = choose_le _ (is_mark (codes "(") t) _ _
    (unwrap_le _ (after_bracket 0 ts) (t ∷ ts) (wider (count ts) _ _ (count-more t ts) (after_bracket-shorter 0 ts)) (omega arith)) (omega arith)

pub past-le : (test : Tok → Bool) (ts : List Tok) → count (past test ts) ≤ count ts
past-le test [] = omega arith
past-le test (t ∷ ts) = choose_le _ (test t) _ _ (count-more t ts) (omega arith)

past_quoted_value-le : (ts : List Tok) → count (past_quoted_value ts) ≤ count ts
past_quoted_value-le [] = omega arith
past_quoted_value-le (e ∷ []) = omega arith
past_quoted_value-le (e ∷ v ∷ ts) = choose_le _ (is_mark (codes "=") e && is_quoted v) _ _ (omega (arith, count-more v ts, count-more e (v ∷ ts))) (omega arith)

past_word-le : (word : List ℕ) (ts : List Tok) → count (past_word word ts) ≤ count ts
past_word-le word ts = choose_le _ (bytes_eq word (codes "align") && begins is_number ts) _ _ (past-le is_number ts) (past_bracketing-le ts)

past_group-shorter : (ts : List Tok) → Shorter (count ts) (past_group ts)
past_group-shorter (tok kinds.Word bytes ∷ ts) = choose _ (is_attribute_word bytes) _ _ (omega (arith, past_word-le bytes ts)) tt
past_group-shorter (tok kinds.Quoted bytes ∷ ts) = omega (arith, past_quoted_value-le ts)
past_group-shorter (tok kinds.Hash bytes ∷ ts) = omega arith
past_group-shorter _ = tt

past_group_beside-shorter : (ts : List Tok) → Shorter (count ts) (past_group_beside ts)
past_group_beside-shorter ts = choose _ (begins (is_word (codes "elementtype")) ts) _ _ tt (past_group-shorter ts)

past_head_attachment-shorter : (ts : List Tok) → Shorter (count ts) (past_head_attachment ts)
past_head_attachment-shorter [] = tt
past_head_attachment-shorter (t ∷ []) = tt
past_head_attachment-shorter (over ∷ u ∷ ts) = tt
past_head_attachment-shorter (bad ∷ u ∷ ts) = tt
past_head_attachment-shorter (tok kind bytes ∷ u ∷ ts) = choose _ (is_bang_name (tok kind bytes) && is_bang_number u) _ _ (omega (arith, count-more u ts)) tt

past_attachment-shorter : (ts : List Tok) → Shorter (count ts) (past_attachment ts)
past_attachment-shorter [] = tt
past_attachment-shorter (t ∷ []) = tt
past_attachment-shorter (t ∷ u ∷ []) = tt
past_attachment-shorter (over ∷ u ∷ v ∷ ts) = tt
past_attachment-shorter (bad ∷ u ∷ v ∷ ts) = tt
past_attachment-shorter (tok kind bytes ∷ u ∷ v ∷ ts) = choose _ (is_mark (codes ",") (tok kind bytes) && is_bang_name u && is_bang_number v) _ _ (omega (arith, count-more u (v ∷ ts), count-more v ts)) tt

past_alignment-shorter : (ts : List Tok) → Shorter (count ts) (past_alignment ts)
past_alignment-shorter [] = tt
past_alignment-shorter (t ∷ []) = tt
past_alignment-shorter (t ∷ u ∷ []) = tt
past_alignment-shorter (over ∷ u ∷ v ∷ ts) = tt
past_alignment-shorter (bad ∷ u ∷ v ∷ ts) = tt
past_alignment-shorter (tok kind bytes ∷ u ∷ v ∷ ts) = choose _ (is_mark (codes ",") (tok kind bytes) && is_word (codes "align") u && is_number v) _ _ (omega (arith, count-more u (v ∷ ts), count-more v ts)) tt

past_one_of-shorter : (words : List (List ℕ)) (ts : List Tok) → Shorter (count ts) (past_one_of words ts)
past_one_of-shorter words (tok kinds.Word bytes ∷ ts) = choose _ (is_one_of words bytes) _ _ (omega arith) tt
past_one_of-shorter words _ = tt

past_dropped-shorter : (what : Dropped) (ts : List Tok) → Shorter (count ts) (past_dropped what ts)
past_dropped-shorter drops.Groups ts = past_group-shorter ts
past_dropped-shorter drops.BesideElementType ts = past_group_beside-shorter ts
past_dropped-shorter drops.Attachments ts = past_attachment-shorter ts
past_dropped-shorter drops.HeadAttachments ts = past_head_attachment-shorter ts
past_dropped-shorter drops.Alignments ts = past_alignment-shorter ts
past_dropped-shorter (drops.Words which) ts = past_one_of-shorter (flag_words which) ts

pub past_dropped-shrinks : (what : Dropped) (ts rest : List Tok) → past_dropped what ts ≡ Some rest → count rest < count ts
past_dropped-shrinks what ts rest e = shorter_is (count ts) (past_dropped what ts) rest (past_dropped-shorter what ts) e

-- the list that goes on behind one, or this one
abbrev pub goes_on : ℕ → Dropped → List Tok → Option (List Tok) → List Tok
goes_on n what ts None = ts
goes_on n what ts (Some rest) = past_at_most n what rest

chosen : (n : ℕ) (what : Dropped) (ts : List Tok) (found : Option (List Tok)) → elim found [ None ↦ ts | Some rest ↦ past_at_most n what rest ] ≡ goes_on n what ts found
chosen n what ts None = refl
chosen n what ts (Some rest) = refl

unroll : (n : ℕ) (what : Dropped) (ts : List Tok) (found : Option (List Tok)) → past_dropped what ts ≡ found → past_at_most (suc n) what ts ≡ goes_on n what ts found
unfolding past_at_most
unroll n what ts found e = chosen n what ts (past_dropped what ts) ∙ ap (λ (f : Option (List Tok)). goes_on n what ts f) e

same_behind : (n m : ℕ) (what : Dropped) (ts : List Tok) (found : Option (List Tok)) → past_dropped what ts ≡ found
    → ((rest : List Tok) → count rest < count ts → past_at_most n what rest ≡ past_at_most m what rest)
    → past_at_most (suc n) what ts ≡ past_at_most (suc m) what ts
same_behind n m what ts None e same = unroll n what ts None e ∙ sym (unroll m what ts None e)
same_behind n m what ts (Some rest) e same = unroll n what ts (Some rest) e ∙ same rest (past_dropped-shrinks what ts rest e) ∙ sym (unroll m what ts (Some rest) e)

none_at_end : (what : Dropped) (ts : List Tok) (found : Option (List Tok)) → count ts ≤ 0 → past_dropped what ts ≡ found → found ≡ None
none_at_end what ts None le e = refl
none_at_end what ts (Some rest) le e = absurd (omega (arith, past_dropped-shrinks what ts rest e))

at_end : (n : ℕ) (what : Dropped) (ts : List Tok) → count ts ≤ 0 → past_at_most n what ts ≡ ts
unfolding past_at_most
at_end zero what ts le = refl
at_end (suc n) what ts le = unroll n what ts None (none_at_end what ts (past_dropped what ts) le refl)

-- more than there are tokens is as much as there are tokens
enough : (n m : ℕ) (what : Dropped) (ts : List Tok) → count ts ≤ n → count ts ≤ m → past_at_most n what ts ≡ past_at_most m what ts
enough zero m what ts le me = at_end zero what ts le ∙ sym (at_end m what ts le)
enough (suc n) zero what ts le me = at_end (suc n) what ts me ∙ sym (at_end zero what ts me)
enough (suc n) (suc m) what ts le me = same_behind n m what ts (past_dropped what ts) refl (λ rest lt. enough n m what rest (omega arith) (omega arith))

pub past_all-none : (what : Dropped) (ts : List Tok) → past_dropped what ts ≡ None → past_all what ts ≡ ts
unfolding past_all
past_all-none what [] e = at_end 0 what [] (omega arith)
past_all-none what (t ∷ ts) e = unroll (length ts) what (t ∷ ts) None e

-- by its name a search finds it
pub nothing_passed : (what : Dropped) (ts : List Tok) → past_dropped what ts ≡ None → past_all what ts ≡ ts
nothing_passed what ts e = past_all-none what ts e

pub past_all-some : (what : Dropped) (ts rest : List Tok) → past_dropped what ts ≡ Some rest → past_all what ts ≡ past_all what rest
unfolding past_all
past_all-some what [] rest e = absurd (omega (arith, past_dropped-shrinks what [] rest e))
past_all-some what (t ∷ ts) rest e = unroll (length ts) what (t ∷ ts) (Some rest) e ∙ enough (length ts) (length rest) what rest (omega (arith, past_dropped-shrinks what (t ∷ ts) rest e, count-le (t ∷ ts))) (count-le rest)

behind-le : (n : ℕ) (what : Dropped) (ts : List Tok) (found : Option (List Tok)) → past_dropped what ts ≡ found
    → ((rest : List Tok) → count (past_at_most n what rest) ≤ count rest) → count (past_at_most (suc n) what ts) ≤ count ts
behind-le n what ts None e le = rw (unroll n what ts None e) (omega arith)
behind-le n what ts (Some rest) e le = rw (unroll n what ts (Some rest) e) (omega (arith, le rest, past_dropped-shrinks what ts rest e))

at_most-le : (n : ℕ) (what : Dropped) (ts : List Tok) → count (past_at_most n what ts) ≤ count ts
unfolding past_at_most
at_most-le zero what ts = omega arith
at_most-le (suc n) what ts = behind-le n what ts (past_dropped what ts) refl (λ rest. at_most-le n what rest)

pub past_all-le : (what : Dropped) (ts : List Tok) → count (past_all what ts) ≤ count ts
unfolding past_all
past_all-le what ts = at_most-le (length ts) what ts

-- what one look at the next token tells

first_fails : (b c d : Bool) → b ≡ false → (b && c && d) ≡ false
first_fails true c d e = absurd cc
first_fails false c d e = refl

none_there : (b : Bool) (ts : List Tok) → b ≡ false → cond b (Some ts) None ≡ None
none_there true ts e = absurd cc
none_there false ts e = refl

pub no_attachment : (ts : List Tok) → begins (is_mark (codes ",")) ts ≡ false → past_dropped drops.Attachments ts ≡ None
no_attachment [] e = refl
no_attachment (t ∷ []) e = refl
no_attachment (t ∷ u ∷ []) e = refl
no_attachment (t ∷ u ∷ v ∷ ts) e = none_there _ ts (first_fails (is_mark (codes ",") t) (is_bang_name u) (is_bang_number v) e)

pub no_alignment : (ts : List Tok) → begins (is_mark (codes ",")) ts ≡ false → past_dropped drops.Alignments ts ≡ None
no_alignment [] e = refl
no_alignment (t ∷ []) e = refl
no_alignment (t ∷ u ∷ []) e = refl
no_alignment (t ∷ u ∷ v ∷ ts) e = none_there _ ts (first_fails (is_mark (codes ",") t) (is_word (codes "align") u) (is_number v) e)

pub no_flag : (which : Flags) (ts : List Tok) → begins is_any_word ts ≡ false → past_dropped (drops.Words which) ts ≡ None
no_flag which [] e = refl
no_flag which (tok kinds.Word bytes ∷ ts) e = absurd cc
no_flag which (t ∷ ts) e = refl
