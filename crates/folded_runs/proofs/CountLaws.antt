-- How many values stay below a number, which is the number of a value that stays.
use Rattle.std.proofs.Common.{◌≡◌, ℕ, suc, ◌+◌, Bool, true, false, if◌then◌else◌, [], ◌∷◌, length, refl, ap, ◌∙◌, arith}
use Rattle.std.specs.Prelude.{filter}
use Rattle.list_laws.proofs.Numbers.{one_more}
use Rattle.folded_forms.specs.Folded.{Table, stays}
use Rattle.folded_source.proofs.ValueLaws.{counted, filter_split}

module _ (table : Table) where
  count_more : (value : ℕ) → counted table (suc value) ≡ counted table value + length (filter (stays table) ((0 + value) ∷ []))
  count_more value = ap (counted table) (one_more value) ∙ filter_split table 0 value 1

  one_of : (value : ℕ) (b : Bool) → stays table value ≡ b → length (filter (stays table) ((0 + value) ∷ [])) ≡ (if b then 1 else 0)
  one_of value b is =
      let same : 0 + value ≡ value = omega arith in
      ap (λ n. length (filter (stays table) (n ∷ []))) same ∙ by b is
    where
      by : (b : Bool) → stays table value ≡ b → length (filter (stays table) (value ∷ [])) ≡ (if b then 1 else 0)
      by b is = ap (λ (t : Bool). length (if t then value ∷ [] else [])) is ∙ both b
        where
          both : (b : Bool) → length (if b then value ∷ [] else []) ≡ (if b then 1 else 0)
          both true = refl
          both false = refl

  pub count_stays : (value : ℕ) → stays table value ≡ true → counted table (suc value) ≡ counted table value + 1
  count_stays value is = count_more value ∙ ap (λ n. counted table value + n) (one_of value true is)

  pub count_goes : (value : ℕ) → stays table value ≡ false → counted table (suc value) ≡ counted table value
  count_goes value is =
      let more = count_more value in
      let none = one_of value false is in
      omega (arith, more, none)
