-- The way back from a pointer: the origin of a `getelementptr` is that of the pointer which it steps from.
use Rattle.std.proofs.Common.{◌≡◌, ◌∙◌, ℕ, zero, suc, ◌<◌, ◌≤◌, true, false, eqb, List, [], ◌∷◌, length, Option, Some, None, slice_get, refl, ap, sym, subst, arith, inl, inr, ◌⊎◌}
use Rattle.std.specs.List.{IsDistinct, AllByRecursion, list_any}
use Rattle.std.specs.Option.{option_and_then, option_map_or}
use Rattle.std.proofs.lemmas.Bool.{cases_eq, eq-eqb, ne_eqb, false≢true}
use Rattle.std.proofs.lemmas.Map.Keys.{IsDistinct-cons}
use Rattle.std.proofs.lemmas.Map.Steps.{length-le_from_distinct_below}
use Rattle.std.proofs.lemmas.Option.{none-some, same_Some, slice_get_within}
use Rattle.ir_ast.specs.declared.ops.Operand.{Operand}
use Rattle.ir_ast.specs.declared.ops.Operand.TheVariants.{Value, Int, Null, Fun}
use Rattle.ir_ast.specs.Funcs.{Function}
use Rattle.ir_ast.specs.Values.{Definition, definitions_of}
use Rattle.base_forms.specs.Bases.{source_of, stepped_from, origin_by, origin}

abbrev Steps : Type 0
Steps = Operand → Option Operand

abbrev number_of : Operand → ℕ
number_of (Value value) = value.0
number_of operand = 0

-- the operand is a value, and one of so many
pub record IsStep (size : ℕ) (operand : Operand) : Type 0 where
  pub is : operand ≡ Value (record { 0 = number_of operand })
  pub within : number_of operand < size

-- only so many values have a step
abbrev pub AreSteps : (Operand → Option Operand) → ℕ → Type 0
AreSteps step size = (operand before : Operand) → step operand ≡ Some before → IsStep size operand

-- so many steps lead back from an operand to one that has none
data Leads (step : Steps) : Operand → ℕ → Type 0 where
  here : (operand : Operand) → step operand ≡ None → Leads step operand 0
  back : (operand before : Operand) (count : ℕ) → step operand ≡ Some before → Leads step before count → Leads step operand (suc count)

one_count : (step : Steps) (operand : Operand) (m n : ℕ) → Leads step operand m → Leads step operand n → m ≡ n
one_count step _ _ _ (here operand none) (here _ none') = refl
one_count step _ _ _ (here operand none) (back _ before count is leads) = absurd (none-some before (sym none ∙ is))
one_count step _ _ _ (back operand before count is leads) (here _ none) = absurd (none-some before (sym none ∙ is))
one_count step _ _ _ (back operand before count is leads) (back _ other more is' leads') =
    let same : other ≡ before = same_Some other before (sym is' ∙ is) in
    ap suc (one_count step before count more leads (subst (λ (o : Operand). Leads step o more) same leads'))

-- ---- no way back is longer than there are values

-- the values on the way
abbrev walked : (step : Steps) (operand : Operand) (count : ℕ) → Leads step operand count → List ℕ
walked step _ _ (here operand none) = []
walked step _ _ (back operand before count is leads) = number_of operand ∷ walked step before count leads

walked_length : (step : Steps) (operand : Operand) (count : ℕ) (leads : Leads step operand count) → length (walked step operand count leads) ≡ count
walked_length step _ _ (here operand none) = refl
walked_length step _ _ (back operand before count is leads) = ap suc (walked_length step before count leads)

module _ (step : Steps) (size : ℕ) (steps : AreSteps step size) where
  walked_nearer : (operand : Operand) (count : ℕ) (leads : Leads step operand count) (x : ℕ)
      → list_any (eqb x) (walked step operand count leads) ≡ true → (e : ℕ) × (e ≤ count) × Leads step (Value (record { 0 = x })) e
  walked_nearer _ _ (here operand none) x is = absurd (false≢true is)
  walked_nearer _ _ (back operand before count from leads) x is = elim (cases_eq x (number_of operand)) [
    | inl e ↦
        let own = (steps operand before from).is ∙ ap (λ n. Value (record { 0 = n })) (sym e) in
        (suc count, omega arith, subst (λ (o : Operand). Leads step o (suc count)) own (back operand before count from leads))
    | inr ne ↦
        let further = walked_nearer before count leads x (let h = rw (ne_eqb x (number_of operand) ne) at is in h) in
        (further.0, omega (arith, further.1), further.2)
  ]

  any_apart : (x : ℕ) (xs : List ℕ) → (list_any (eqb x) xs ≡ true → ⊥) → AllByRecursion (λ (y : ℕ). eqb x y ≡ false) xs
  any_apart x [] not_in = tt
  any_apart x (y ∷ xs) not_in = elim (cases_eq x y) [
    | inl e ↦ absurd (not_in (rw (eq-eqb x y e) refl))
    | inr ne ↦ (ne_eqb x y ne, any_apart x xs (λ is. not_in (rw (ne_eqb x y ne) is)))
  ]

  walked_distinct : (operand : Operand) (count : ℕ) (leads : Leads step operand count) → IsDistinct eqb (walked step operand count leads)
  unfolding IsDistinct
  walked_distinct _ _ (here operand none) = tt
  walked_distinct _ _ (back operand before count is leads) =
      IsDistinct-cons eqb (number_of operand) (walked step before count leads)
      (any_apart (number_of operand) (walked step before count leads) (λ again.
      let nearer = walked_nearer before count leads (number_of operand) again in
      let own = subst (λ (o : Operand). Leads step o nearer.0) (sym (steps operand before is).is) nearer.2 in
      let same = one_count step operand nearer.0 (suc count) own (back operand before count is leads) in
      omega (arith, nearer.1, same)))
      (walked_distinct before count leads)

  walked_below : (operand : Operand) (count : ℕ) (leads : Leads step operand count) (x : ℕ)
      → list_any (eqb x) (walked step operand count leads) ≡ true → x < size
  walked_below _ _ (here operand none) x is = absurd (false≢true is)
  walked_below _ _ (back operand before count from leads) x is = elim (cases_eq x (number_of operand)) [
    | inl e ↦ omega (arith, e, (steps operand before from).within)
    | inr ne ↦ walked_below before count leads x (let h = rw (ne_eqb x (number_of operand) ne) at is in h)
  ]

  short : (operand : Operand) (count : ℕ) → Leads step operand count → count ≤ size
  short operand count leads =
      let le = length-le_from_distinct_below (walked step operand count leads) size (walked_distinct operand count leads) (walked_below operand count leads) in
      omega (arith, walked_length step operand count leads, le)

-- ---- the bound is enough

enough : (step : Steps) (operand : Operand) (count : ℕ) → Leads step operand count → (bound : ℕ) → count < bound
    → origin_by step bound operand ≡ origin_by step (suc count) operand
enough step _ _ (here operand none) zero less = absurd (omega (arith, less))
enough step _ _ (here operand none) (suc bound) less = rw none refl
enough step _ _ (back operand before count is leads) zero less = absurd (omega (arith, less))
enough step _ _ (back operand before count is leads) (suc bound) less = rw is (enough step before count leads bound (omega (arith, less)))

ends_or_not : (step : Steps) (bound : ℕ) (operand : Operand)
    → ((count : ℕ) × (count < bound) × Leads step operand count) ⊎ (origin_by step bound operand ≡ Null)
ends_or_not step zero operand = inr refl
ends_or_not step (suc bound) operand = by (step operand) refl (ends_or_not step bound)
  where
    by : (o : Option Operand) → step operand ≡ o
        → ((before : Operand) → ((count : ℕ) × (count < bound) × Leads step before count) ⊎ (origin_by step bound before ≡ Null))
        → ((count : ℕ) × (count < suc bound) × Leads step operand count) ⊎ (origin_by step (suc bound) operand ≡ Null)
    by None is earlier = inl (0, omega arith, here operand is)
    by (Some before) is earlier = elim (earlier before) [
      | inl found ↦ inl (suc found.0, omega (arith, found.1), back operand before found.0 is found.2)
      | inr none ↦ inr (rw is none)
    ]

-- a step leads to the same origin, where the bound is above the number of values that have a step
pub origin_by-step : (step : Operand → Option Operand) (size : ℕ) → AreSteps step size → (operand before : Operand) → step operand ≡ Some before
    → origin_by step (suc size) operand ≡ origin_by step (suc size) before
origin_by-step step size steps operand before is =
    rw is
    (elim (ends_or_not step (suc size) before) [
      | inl found ↦
          let less = short step size steps operand (suc found.0) (back operand before found.0 is found.2) in
          enough step before found.0 found.2 size (omega (arith, less)) ∙ sym (enough step before found.0 found.2 (suc size) found.1)
      | inr none ↦ elim (ends_or_not step size before) [
        | inl found ↦
            enough step before found.0 found.2 size found.1 ∙ sym (enough step before found.0 found.2 (suc size) (omega (arith, found.1)))
        | inr nor ↦ nor ∙ sym none
      ]
    ])

pub origin_by-own : (step : Operand → Option Operand) (size : ℕ) (operand : Operand) → step operand ≡ None → origin_by step (suc size) operand ≡ operand
origin_by-own step size operand none = rw none refl

pub origin_by-same : (step other : Operand → Option Operand) → ((operand : Operand) → step operand ≡ other operand) → (bound : ℕ) (operand : Operand)
    → origin_by step bound operand ≡ origin_by other bound operand
origin_by-same step other same zero operand = refl
origin_by-same step other same (suc bound) operand = rw (same operand) (by (other operand) (origin_by-same step other same bound))
  where
    by : (o : Option Operand) → ((before : Operand) → origin_by step bound before ≡ origin_by other bound before)
        → option_map_or (origin_by step bound) o operand ≡ option_map_or (origin_by other bound) o operand
    by None earlier = refl
    by (Some before) earlier = earlier before

-- ---- the `getelementptr`s of a function

source_stands : (o : Option Definition) (before : Operand) → option_and_then source_of o ≡ Some before → (given : Definition) × (o ≡ Some given)
source_stands None before is = absurd (none-some before is)
source_stands (Some given) before is = (given, refl)

pub step_is : (func : Function) → AreSteps (stepped_from func) (length (definitions_of func))
step_is func (Value value) before is =
    let found = source_stands (slice_get (definitions_of func) value.0) before is in
    record { is = refl; within = slice_get_within (definitions_of func) value.0 found.0 found.1 }
step_is func (Int word) before is = absurd (none-some before is)
step_is func Null before is = absurd (none-some before is)
step_is func (Fun other) before is = absurd (none-some before is)

-- a step leads to the same origin
pub origin-step : (func : Function) (operand before : Operand) → stepped_from func operand ≡ Some before → origin func operand ≡ origin func before
origin-step func operand before is = origin_by-step (stepped_from func) (length (definitions_of func)) (step_is func) operand before is

-- what is no step is its own origin
pub origin-own : (func : Function) (operand : Operand) → stepped_from func operand ≡ None → origin func operand ≡ operand
origin-own func operand none = origin_by-own (stepped_from func) (length (definitions_of func)) operand none
