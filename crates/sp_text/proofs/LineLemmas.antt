-- The first line of a text, and label lines.
use Rattle.std.proofs.Common.{◌≡◌, refl, ap, ◌∙◌, ℕ, suc, ◌+◌, ◌<◌, ◌≤◌, Bool, true, false, List, [], ◌∷◌, length, take, drop, arith, None, Some, inl, inr, cond}
use Rattle.std.specs.Prelude.{◌==◌, ◌&&◌}
use Rattle.std.specs.List.{list_any, position_or_len, before_first, after_first, slice_split, All}
use Rattle.std.specs.Str.Lines.{lines, lines_of_parts, strip_carriage_return}
use Rattle.std.proofs.lemmas.Bool.{cases_Bool, ne_eqb, cond-true, cond-false, and_from, and_left, and_right}
use Rattle.std.proofs.lemmas.List.{drop_all, drop-drop, nil_from_length}
use Rattle.std.proofs.lemmas.List.Folds.{list_any_none}
use Rattle.std.proofs.lemmas.List.Splits.{slice_split_first, slice_split_none, length-slice_split}
use Rattle.std.proofs.lemmas.List.Sums.{fails_before_first}
use Rattle.sp_text.specs.Labels.{is_colon, label_in}
use Rattle.sp_text.specs.Lines.{lines_left}
use Rattle.sp_text.specs.Tokens.{is_name, says_nothing}

-- the first line

abbrev pub is_newline : ℕ → Bool
is_newline b = b == 10

parts-more : (x : List ℕ) (parts : List (List ℕ)) → 0 < length parts → lines_of_parts (x ∷ parts) ≡ strip_carriage_return x ∷ lines_of_parts parts
parts-more x [] some = absurd (omega arith)
parts-more x (y ∷ more) some = refl

pub lines-first : (bs : List ℕ) → position_or_len is_newline bs < length bs → lines bs ≡ strip_carriage_return (take (position_or_len is_newline bs) bs) ∷ lines (drop (position_or_len is_newline bs + 1) bs)
lines-first bs some =
    ap lines_of_parts (slice_split_first is_newline bs 0 some)
    ∙ parts-more (before_first is_newline bs) (slice_split is_newline (after_first is_newline bs)) (omega (arith, length-slice_split is_newline (after_first is_newline bs)))

none_pass : (p : ℕ → Bool) (bs : List ℕ) → length bs ≤ position_or_len p bs → All (λ b. p b ≡ false) bs
none_pass p bs none = λ k d fits. fails_before_first p bs k d (omega arith)

pub lines-last : (bs : List ℕ) → 0 < length bs → length bs ≤ position_or_len is_newline bs → lines bs ≡ bs ∷ lines (drop (length bs) bs)
lines-last bs some none =
    let rest : drop (length bs) bs ≡ [] = drop_all (length bs) bs (omega arith) in
    rw rest (ap lines_of_parts (slice_split_none is_newline bs (none_pass is_newline bs none)) ∙ by bs some)
  where
    by : (bs : List ℕ) → 0 < length bs → lines_of_parts (bs ∷ []) ≡ bs ∷ lines []
    by [] some = absurd (omega arith)
    by (b ∷ bs) some = (let e : (suc (length bs) == 0) ≡ false = ne_eqb (suc (length bs)) 0 (λ e. omega (arith, e)) in rw e refl)

-- names

-- labels

any-some : (p : ℕ → Bool) (bs : List ℕ) → position_or_len p bs < length bs → list_any p bs ≡ true
any-some p [] some = absurd (omega arith)
any-some p (b ∷ bs) some = elim (cases_Bool (p b)) [
  | inl is ↦ simp is
  | inr isnt ↦ (let e : position_or_len p (b ∷ bs) ≡ 1 + position_or_len p bs = simp isnt in
      rw isnt (any-some p bs (omega (arith, e))))
]

pub label-none : (bs : List ℕ) → length bs ≤ position_or_len is_colon bs → label_in bs ≡ None
label-none bs none = rw (list_any_none is_colon bs (none_pass is_colon bs none)) refl

label-at : (bs : List ℕ) (end : ℕ) → end ≡ position_or_len is_colon bs → end < length bs → label_in bs ≡ cond (is_name (take end bs) && says_nothing (drop (end + 1) bs)) (Some (take end bs)) None
label-at bs end e some =
    let has : list_any is_colon bs ≡ true = any-some is_colon bs (rw (← e) some) in
    rw (e, has) refl

pub label-some : (bs : List ℕ) (end : ℕ) → end ≡ position_or_len is_colon bs → end < length bs → is_name (take end bs) ≡ true → says_nothing (drop (end + 1) bs) ≡ true → label_in bs ≡ Some (take end bs)
label-some bs end e some name nothing =
    label-at bs end e some ∙ cond-true _ _ _ (and_from _ _ name nothing)

pub label-no_name : (bs : List ℕ) (end : ℕ) → end ≡ position_or_len is_colon bs → end < length bs → is_name (take end bs) ≡ false → label_in bs ≡ None
label-no_name bs end e some name = label-at bs end e some ∙ cond-false _ _ _ (and_left _ _ name)

pub label-more : (bs : List ℕ) (end : ℕ) → end ≡ position_or_len is_colon bs → end < length bs → says_nothing (drop (end + 1) bs) ≡ false → label_in bs ≡ None
label-more bs end e some more = label-at bs end e some ∙ cond-false _ _ _ (and_right _ _ more)

-- the lines that are left

pub left-more : (text : List ℕ) (at number taken : ℕ) (first rest : List ℕ) → rest ≡ drop at text → lines rest ≡ first ∷ lines (drop taken rest)
    → lines_left (record { text = text; at = at; number = number }) ≡ record { number = number; bytes = first } ∷ lines_left (record { text = text; at = at + taken; number = number + 1 })
unfolding lines_left
left-more text at number taken first rest e is =
    rw (← e, is, e, drop-drop taken at text) refl

pub left-none : (text : List ℕ) (at number : ℕ) (rest : List ℕ) → rest ≡ drop at text → length rest ≡ 0 → lines_left (record { text = text; at = at; number = number }) ≡ []
unfolding lines_left
left-none text at number rest e none = rw (← e, nil_from_length rest none) refl
