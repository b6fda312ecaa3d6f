-- What the tests of keys are.
use Rattle.std.proofs.Common.{◌≡◌, ◌∙◌, Bool, cond, List, [], ◌∷◌, ◌++◌, Option, Some, refl, ap, sym, length, ℕ}
use Rattle.std.specs.Prelude.{◌==◌, ◌&&◌}
use Rattle.std.specs.Map.{lookup}
use Rattle.indexmap.specs.IndexMap.{Updates}
use Rattle.base_facts.specs.declared.asks.Ask.{Ask}
use Rattle.place_facts.specs.declared.facts.Question.{Question}
use Rattle.place_facts.specs.declared.asked.Asked.{Asked}
use Rattle.place_facts.specs.declared.keys.Name.{Name}
use Rattle.place_facts.specs.declared.keys.Name.TheVariants as names
use Rattle.place_facts.specs.declared.keys.Wanted.{Wanted}
use Rattle.place_facts.specs.declared.keys.Wanted.TheVariants as wanted
use Rattle.place_facts.specs.declared.keys.Key.{Key}
use Rattle.place_facts.specs.Keys.{key_of, same_name, same_wanted, same_key}
use Rattle.place_facts.specs.Asked.{number_of, AddsAsk}
use Rattle.place_facts.specs.contracts.keys.NamePartialEq.TheImpl as name
use Rattle.place_facts.specs.contracts.keys.WantedPartialEq.TheImpl as base
use Rattle.place_facts.specs.contracts.keys.KeyPartialEq.TheImpl as key

name_test : (one other : Name) → name.eq-value.it one other ≡ same_name one other
name_test (names.Value one) (names.Value other) = refl
name_test (names.Int one) (names.Int other) = refl
name_test names.Null names.Null = refl
name_test (names.Fun one) (names.Fun other) = refl
name_test (names.Value one) (names.Int other) = refl
name_test (names.Value one) names.Null = refl
name_test (names.Value one) (names.Fun other) = refl
name_test (names.Int one) (names.Value other) = refl
name_test (names.Int one) names.Null = refl
name_test (names.Int one) (names.Fun other) = refl
name_test names.Null (names.Value other) = refl
name_test names.Null (names.Int other) = refl
name_test names.Null (names.Fun other) = refl
name_test (names.Fun one) (names.Value other) = refl
name_test (names.Fun one) (names.Int other) = refl
name_test (names.Fun one) names.Null = refl

wanted_test : (one other : Wanted) → base.eq-value.it one other ≡ same_wanted one other
wanted_test wanted.Any wanted.Any = refl
wanted_test wanted.Any (wanted.Named other) = refl
wanted_test (wanted.Named one) wanted.Any = refl
wanted_test (wanted.Named one) (wanted.Named other) = name_test one other

pub key_test : (one other : Key) → key.eq-value.it one other ≡ same_key one other
key_test one other =
    ap (λ b. (one.place == other.place) && (b && base.eq-value.it one.base other.base)) (name_test one.pointer other.pointer)
    ∙ ap (λ b. (one.place == other.place) && (same_name one.pointer other.pointer && b)) (wanted_test one.base other.base)

pub found_same : (one : Key) (entries : List (Key × ℕ)) → lookup (key.eq-value.it one) entries ≡ lookup (same_key one) entries
found_same one [] = refl
found_same one (entry ∷ entries) =
    ap (λ b. cond b (Some entry.1) (lookup (key.eq-value.it one) entries)) (key_test one entry.0)
    ∙ ap (λ found. cond (same_key one entry.0) (Some entry.1) found) (found_same one entries)

-- ---- the number of a question

pub number_found : (asked : Asked) (question : Question) (one : Key) (found : Option ℕ) → one ≡ key_of question → found ≡ lookup (key.eq-value.it one) asked.numbers.entries
    → found ≡ number_of asked question
number_found asked question one found key_is is =
    is ∙ found_same one asked.numbers.entries ∙ ap (λ (k : Key). lookup (same_key k) asked.numbers.entries) key_is

pub adds_ask : (question : Question) (ask : Ask) (old new : Asked) (one : Key) (number : ℕ) → one ≡ key_of question → number ≡ length old.asks.items
    → Updates key.eq-value.it old.numbers new.numbers one (Some number) → new.asks.items ≡ old.asks.items ++ ask ∷ [] → AddsAsk question ask old new
adds_ask question ask old new one number key_is number_is updates asks = record {
  numbers = λ other.
      let own = key_of other in
      sym (found_same own new.numbers.entries) ∙ updates.0 own
      ∙ ap (λ (b : Bool). cond b (Some number) (lookup (key.eq-value.it own) old.numbers.entries)) (key_test one own)
      ∙ ap (λ (found : Option ℕ). cond (same_key one own) (Some number) found) (found_same own old.numbers.entries)
      ∙ ap (λ (k : Key). cond (same_key k own) (Some number) (number_of old other)) key_is
      ∙ ap (λ (n : ℕ). cond (same_key (key_of question) own) (Some n) (number_of old other)) number_is;
  asks = asks;
}
