-- The first word of a line.
use Rattle.std.proofs.Common.{◌≡◌, refl, ap, sym, subst, ◌∙◌, ℕ, suc, ◌+◌, ◌<◌, true, false, List, [], ◌∷◌, length, get_or, take, drop, arith, inl, inr}
use Rattle.std.specs.Prelude.{not, filter}
use Rattle.std.specs.List.{prefix_len, position_or_len, after_first, slice_split, All}
use Rattle.std.proofs.lemmas.Bool.{cases_Bool, cases_lt}
use Rattle.std.proofs.lemmas.List.{take_all, drop_all, drop_more, nil_from_length, length-take-le}
use Rattle.std.proofs.lemmas.List.Splits.{slice_split-cons_yes, slice_split_first, slice_split_none}
use Rattle.std.proofs.lemmas.List.Sums.{prefix_len-le-length, fails_before_first, passes_at_first}
use Rattle.sp_text.specs.Bytes.{is_blank, after_blanks}
use Rattle.move_plan.specs.Words.{is_word, words}

-- a blank in front parts nothing
pub words-blank : (b : ℕ) (bs : List ℕ) → is_blank b ≡ true → words (b ∷ bs) ≡ words bs
unfolding words
words-blank b bs blank = ap (filter is_word) (slice_split-cons_yes is_blank b bs blank)

pub words-after_blanks : (bs : List ℕ) → words (after_blanks bs) ≡ words bs
words-after_blanks [] = refl
words-after_blanks (b ∷ bs) = elim (cases_Bool (is_blank b)) [
  | inl is ↦ (let one_more : 1 + prefix_len is_blank bs ≡ suc (prefix_len is_blank bs) = omega arith in
      rw (is, one_more) (words-after_blanks bs ∙ sym (words-blank b bs is)))
  | inr isnt ↦ rw isnt refl
]

-- behind the blanks no blank stands first
pub after_blanks-first : (bs : List ℕ) → 0 < length (after_blanks bs) → is_blank (get_or (after_blanks bs) 0 0) ≡ false
after_blanks-first [] some = absurd (omega arith)
after_blanks-first (b ∷ bs) some = elim (cases_Bool (is_blank b)) [
  | inl is ↦ (let one_more : 1 + prefix_len is_blank bs ≡ suc (prefix_len is_blank bs) = omega arith in
      let rest : after_blanks (b ∷ bs) ≡ after_blanks bs = rw (is, one_more) refl in
      rw rest (after_blanks-first bs (omega (arith, ap length rest))))
  | inr isnt ↦ (let rest : after_blanks (b ∷ bs) ≡ b ∷ bs = rw isnt refl in rw rest isnt)
]

is_word_from_length : (w : List ℕ) → 0 < length w → is_word w ≡ true
is_word_from_length [] some = absurd (omega arith)
is_word_from_length (b ∷ bs) some = refl

keeps_word : (w : List ℕ) (parts : List (List ℕ)) → 0 < length w → filter is_word (w ∷ parts) ≡ w ∷ filter is_word parts
keeps_word w parts some = rw (is_word_from_length w some) refl

-- what stands before the first blank is the first word
pub words-first : (bs : List ℕ) → 0 < position_or_len is_blank bs
    → words bs ≡ take (position_or_len is_blank bs) bs ∷ words (drop (position_or_len is_blank bs) bs)
unfolding words
words-first bs some = elim (cases_lt (position_or_len is_blank bs) (length bs)) [
  | inl ends ↦ (let n = position_or_len is_blank bs in
      let long : 0 < length (take n bs) = grind (arith, length-take-le) in
      ap (filter is_word) (slice_split_first is_blank bs 0 ends)
      ∙ keeps_word (take n bs) (slice_split is_blank (after_first is_blank bs)) long
      ∙ ap (λ ws. take n bs ∷ ws) (sym (rw (drop_more bs n 0 ends) (words-blank (get_or bs n 0) (drop (n + 1) bs) (passes_at_first is_blank bs 0 ends)))))
  | inr whole ↦ (let n = position_or_len is_blank bs in
      let none : All (λ b. is_blank b ≡ false) bs = λ k d fits. fails_before_first is_blank bs k d (omega arith) in
      let fits = prefix_len-le-length (λ b. not (is_blank b)) bs in
      rw (take_all n bs whole, drop_all n bs whole)
      (ap (filter is_word) (slice_split_none is_blank bs none) ∙ keeps_word bs [] (omega arith)))
]

-- a line that doesn't begin with a blank begins with a word
pub position-some : (bs : List ℕ) → 0 < length bs → is_blank (get_or bs 0 0) ≡ false → 0 < position_or_len is_blank bs
position-some [] some first = absurd (omega arith)
position-some (b ∷ bs) some first = rw first (omega arith)

pub no_word : (line rest : List ℕ) → rest ≡ after_blanks line → length rest ≡ 0 → words line ≡ []
unfolding words
no_word line rest are none =
    let nothing : after_blanks line ≡ [] = nil_from_length (after_blanks line) (sym (ap length are) ∙ none) in
    sym (words-after_blanks line) ∙ ap words nothing

pub one_word : (line rest word more : List ℕ) (n : ℕ) → rest ≡ after_blanks line → 0 < length rest → n ≡ position_or_len is_blank rest
    → word ≡ take n rest → more ≡ drop n rest → words line ≡ word ∷ words more
one_word line rest word more n are some long front back =
    let long_rest : 0 < length (after_blanks line) = subst (λ (xs : List ℕ). 0 < length xs) are some in
    let first : is_blank (get_or rest 0 0) ≡ false = rw are (after_blanks-first line long_rest) in
    rw (front, back, long) (sym (words-after_blanks line) ∙ ap words (sym are) ∙ words-first rest (position-some rest some first))
