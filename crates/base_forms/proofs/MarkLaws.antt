-- The marks of derived values: more rounds than there are values add none.
use Rattle.std.proofs.Common.{◌≡◌, ℕ, zero, suc, ◌<◌, ◌≤◌, Bool, true, false, ◌&&◌, ◌||◌, List, [], ◌∷◌, length, map, refl, ap, arith, inl, inr, ◌⊎◌}
use Rattle.std.specs.List.{list_any}
use Rattle.std.proofs.lemmas.Bool.{cases_Bool, false≢true}
use Rattle.std.proofs.lemmas.List.{length-map}
use Rattle.ir_ast.specs.Funcs.{Function}
use Rattle.ir_ast.specs.Values.{Definition, argument, outcome, definitions_of}
use Rattle.ir_ast.specs.Operands.{values_used}
use Rattle.ir_ast.specs.Derived.{is_step, is_merge}
use Rattle.base_forms.specs.DerivedMarks.{has_mark, uses_marked, derives, marks_after, derived_marks}

-- each mark of the one is one of the other
abbrev pub Within : List Bool → List Bool → Type 0
Within marks more = (value : ℕ) → has_mark marks value ≡ true → has_mark more value ≡ true

any_within : (marks more : List Bool) → Within marks more → (values : List ℕ) → list_any (has_mark marks) values ≡ true
    → list_any (has_mark more) values ≡ true
any_within marks more within [] is = absurd (false≢true is)
any_within marks more within (value ∷ values) is =
    elim (cases_Bool (has_mark marks value)) [
      | inl marked ↦ rw (within value marked) refl
      | inr plain ↦
          let rest : list_any (has_mark marks) values ≡ true = rw plain at is in
          grind (arith, any_within marks more within values rest)
    ]

derives_within : (marks more : List Bool) → Within marks more → (given : Definition) → derives marks given ≡ true → derives more given ≡ true
derives_within marks more within (argument arg) is = absurd (false≢true is)
derives_within marks more within (outcome inst) is = by (is_step inst.op) (is_merge inst.op) is
  where
    by : (step merge : Bool) → (step || (merge && uses_marked marks inst)) ≡ true → (step || (merge && uses_marked more inst)) ≡ true
    by true merge is = refl
    by false true is = any_within marks more within (values_used inst) is
    by false false is = absurd (false≢true is)

-- the next marks of a list of definitions
abbrev marked : List Bool → List Definition → List Bool
marked marks given = map (derives marks) given

marked_within : (marks more : List Bool) → Within marks more → (given : List Definition) → Within (marked marks given) (marked more given)
marked_within marks more within [] value is = absurd (false≢true is)
marked_within marks more within (one ∷ given) zero is = derives_within marks more within one is
marked_within marks more within (one ∷ given) (suc value) is = marked_within marks more within given value is

-- how many marks there are
abbrev weight : List Bool → ℕ
weight [] = 0
weight (true ∷ marks) = suc (weight marks)
weight (false ∷ marks) = weight marks

weight_within : (marks : List Bool) → weight marks ≤ length marks
weight_within [] = omega arith
weight_within (true ∷ marks) = omega (arith, weight_within marks)
weight_within (false ∷ marks) = omega (arith, weight_within marks)

-- ---- growing lists

-- one mark more, or none
data Grows : List Bool → List Bool → Type 0 where
  same : (marks : List Bool) → Grows marks marks
  more : (marks others : List Bool) → weight marks < weight others → Grows marks others

grows_next : (marks others : List Bool) (mark : Bool) → Grows marks others → Grows (mark ∷ marks) (mark ∷ others)
grows_next _ _ mark (same marks) = same (mark ∷ marks)
grows_next _ _ true (more marks others less) = more (true ∷ marks) (true ∷ others) (omega (arith, less))
grows_next _ _ false (more marks others less) = more (false ∷ marks) (false ∷ others) less

grows_here : (marks others : List Bool) → Grows marks others → Grows (false ∷ marks) (true ∷ others)
grows_here _ _ (same marks) = more (false ∷ marks) (true ∷ marks) (omega arith)
grows_here _ _ (more marks others less) = more (false ∷ marks) (true ∷ others) (omega (arith, less))

grows_by : (old now : Bool) (marks others : List Bool) → (old ≡ true → now ≡ true) → Grows marks others → Grows (old ∷ marks) (now ∷ others)
grows_by true true marks others kept grows = grows_next marks others true grows
grows_by true false marks others kept grows = absurd (false≢true (kept refl))
grows_by false true marks others kept grows = grows_here marks others grows
grows_by false false marks others kept grows = grows_next marks others false grows

marked_grows : (marks others : List Bool) → Within marks others → (given : List Definition) → Grows (marked marks given) (marked others given)
marked_grows marks others within [] = same []
marked_grows marks others within (one ∷ given) =
    grows_by (derives marks one) (derives others one) (marked marks given) (marked others given) (derives_within marks others within one)
    (marked_grows marks others within given)

-- ---- rounds

module _ (func : Function) where
  within_next : (rounds : ℕ) → Within (marks_after func rounds) (marks_after func (suc rounds))
  within_next zero value is = absurd (false≢true is)
  within_next (suc rounds) value is =
      marked_within (marks_after func rounds) (marks_after func (suc rounds)) (within_next rounds) (definitions_of func) value is

  -- a round adds none, or there are as many marks as rounds
  settles : (rounds : ℕ) → (marks_after func (suc (suc rounds)) ≡ marks_after func (suc rounds)) ⊎ (suc rounds ≤ weight (marks_after func (suc (suc rounds))))
  settles zero =
      first (marks_after func 1) (marks_after func 2) (marked_grows (marks_after func 0) (marks_after func 1) (within_next 0) (definitions_of func))
    where
      first : (marks others : List Bool) → Grows marks others → (others ≡ marks) ⊎ (1 ≤ weight others)
      first _ _ (same marks) = inl refl
      first _ _ (more marks others less) = inr (omega (arith, less))
  settles (suc rounds) =
      next (settles rounds)
      (marked_grows (marks_after func (suc rounds)) (marks_after func (suc (suc rounds))) (within_next (suc rounds)) (definitions_of func))
    where
      later : (marks others : List Bool) → Grows marks others → suc rounds ≤ weight marks → (others ≡ marks) ⊎ (suc (suc rounds) ≤ weight others)
      later _ _ (same marks) many = inl refl
      later _ _ (more marks others less) many = inr (omega (arith, less, many))

      next : (marks_after func (suc (suc rounds)) ≡ marks_after func (suc rounds)) ⊎ (suc rounds ≤ weight (marks_after func (suc (suc rounds))))
          → Grows (marks_after func (suc (suc rounds))) (marks_after func (suc (suc (suc rounds))))
          → (marks_after func (suc (suc (suc rounds))) ≡ marks_after func (suc (suc rounds))) ⊎ (suc (suc rounds) ≤ weight (marks_after func (suc (suc (suc rounds)))))
      next (inl is) grows = inl (ap (λ marks. marked marks (definitions_of func)) is)
      next (inr many) grows = later (marks_after func (suc (suc rounds))) (marks_after func (suc (suc (suc rounds)))) grows many

  -- the marks of the derived values are those that derive from them
  pub derived_again : map (derives (derived_marks func)) (definitions_of func) ≡ derived_marks func
  unfolding derived_marks
  derived_again = elim (settles (length (definitions_of func))) [
    | inl is ↦ is
    | inr many ↦
        absurd (omega (
          arith,
          many,
          weight_within (marks_after func (suc (suc (length (definitions_of func))))),
          length-map (definitions_of func) (derives (marks_after func (suc (length (definitions_of func))))),
        ))
  ]

  pub length-derived_marks : length (derived_marks func) ≡ length (definitions_of func)
  unfolding derived_marks
  length-derived_marks = length-map (definitions_of func) (derives (marks_after func (length (definitions_of func))))

  -- what is marked is found by rounds alone
  pub derived_within : (P : ℕ → Type 0)
      → ((rounds : ℕ) → ((value : ℕ) → has_mark (marks_after func rounds) value ≡ true → P value) → (value : ℕ)
      → has_mark (marks_after func (suc rounds)) value ≡ true → P value)
      → (value : ℕ) → has_mark (derived_marks func) value ≡ true → P value
  unfolding derived_marks
  derived_within P step value is = by (suc (length (definitions_of func))) value is
    where
      by : (rounds : ℕ) (value : ℕ) → has_mark (marks_after func rounds) value ≡ true → P value
      by zero value is = absurd (false≢true is)
      by (suc rounds) value is = step rounds (by rounds) value is
