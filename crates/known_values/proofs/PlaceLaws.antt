-- The values that the lines of a function define, by the registers that they write.
use Rattle.std.proofs.Common.{◌≡◌, ℕ, ◌≤◌, true, if◌then◌else◌, List, [], ◌∷◌, length, sym, ap, subst, ◌∙◌, inl, inr, ◌⊎◌}
use Rattle.std.specs.Prelude.{Some, None, is_some}
use Rattle.std.specs.List.{Contains}
use Rattle.list_laws.proofs.Contents.{contains_cons, contains_first, contains_later, contains_none}
use Rattle.ir_ast.specs.Insts.{Instruction}
use Rattle.ir_ast.specs.Funcs.{Function}
use Rattle.ir_ast.specs.Faults.GroupShape.{number_at}
use Rattle.ir_cfg.specs.DefiniteUses.{Defines, Stands, text_place}
use Rattle.object_meaning.specs.Lines.{Line}
use Rattle.base_definite.proofs.base_paths.GivesLaws.{defines_gives, defines_or_not, given_high, stands_one}
use Rattle.base_definite.proofs.LinePlaces.{LineFrom}

module _ (func : Function) where
  -- what defines a value writes its register
  pub own_written : (number place : ℕ) (line : Line) → LineFrom func number place line → (value : ℕ) → (defines : Defines func value number place)
      → (line.to ≡ Some value) × (defines.inst ≡ line.inst)
  own_written number place line from value defines =
      let same = stands_one func number place defines.inst line.inst defines.stands from.stands in
      let named : is_some line.inst.result ≡ true = ap (λ (i : Instruction). is_some i.result) (sym same) ∙ defines.named in (
        from.to ∙ (ap (λ b. if b then Some (number_at func (text_place func number place)) else None) named ∙ ap (λ n. Some n) defines.numbered),
        same,
      )

  -- what is defined is no argument
  pub defined_high : (value number place : ℕ) → Defines func value number place → length func.args ≤ value
  defined_high value number place defines = given_high func value defines.inst (defines_gives func value number place defines)

  -- whether the instruction at a place defines one of these values
  pub any_defined : (number place : ℕ) (inst : Instruction) → Stands func number place inst → (values : List ℕ)
      → ((value : ℕ) × Contains values value × Defines func value number place) ⊎ ((value : ℕ) → Contains values value → Defines func value number place → ⊥)
  any_defined number place inst stands [] = inr (λ value inside defines. contains_none value inside)
  any_defined number place inst stands (first ∷ values) = elim (defines_or_not func first number place inst stands) [
    | inl defines ↦ inl (first, contains_first first values, defines)
    | inr none ↦ elim (any_defined number place inst stands values) [
      | inl found ↦ inl (found.0, contains_later first found.0 values found.1, found.2)
      | inr others ↦ inr (λ value inside defines. elim (contains_cons first value values inside) [
        | inl same ↦ none (subst (λ (v : ℕ). Defines func v number place) (sym same) defines)
        | inr later ↦ others value later defines
      ])
    ]
  ]
