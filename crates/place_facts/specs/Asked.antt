-- Questions that were asked, by the numbers of their asks.
use Rattle.std.specs.Prelude.{◌≡◌, ◌⊎◌, ℕ, ◌<◌, List, [], ◌∷◌, ◌++◌, length, Option, Some, None, slice_get, if◌then◌else◌}
use Rattle.std.specs.List.{Contains}
use Rattle.std.specs.Map.{lookup}
use Rattle.ir_ast.specs.Funcs.{Function}
use Rattle.base_facts.specs.declared.asks.Ask.{Ask}
use Rattle.base_facts.specs.Answers as asks
use Rattle.place_facts.specs.declared.facts.Question.{Question}
use Rattle.place_facts.specs.declared.asked.Asked.{Asked}
use Rattle.place_facts.specs.Before.{IsAskable}
use Rattle.place_facts.specs.Asks.{AsksFor}
use Rattle.place_facts.specs.Keys.{key_of, same_key}

abbrev pub number_of : Asked → Question → Option ℕ
number_of asked question = lookup (same_key (key_of question)) asked.numbers.entries

-- one of the questions, by the number of its ask
pub record IsAskedAs (func : Function) (questions : List Question) (asked : Asked) (question : Question) (number : ℕ) : Type 0 where
  pub ask : Ask
  pub stands : slice_get asked.asks.items number ≡ Some ask
  pub asks_for : AsksFor func question ask
  pub contained : Contains questions question

-- so many first questions were asked
pub record KnowsAsks (func : Function) (questions : List Question) (count : ℕ) (asked : Asked) : Type 0 where
  pub can_ask : (number : ℕ) (ask : Ask) → slice_get asked.asks.items number ≡ Some ask → asks.IsAskable func ask
  pub told : (question : Question) (number : ℕ) → number_of asked question ≡ Some number → IsAskedAs func questions asked question number
  pub whole : (place : ℕ) (question : Question) → place < count → slice_get questions place ≡ Some question → IsAskable func question.place
      → ¬ (number_of asked question ≡ None)

-- the ask is the last, and has the question's number
pub record AddsAsk (question : Question) (ask : Ask) (old new : Asked) : Type 0 where
  pub numbers : (other : Question) → number_of new other
      ≡ (if same_key (key_of question) (key_of other) then Some (length old.asks.items) else number_of old other)
  pub asks : new.asks.items ≡ old.asks.items ++ ask ∷ []

-- the question was asked, if it has an ask
abbrev pub HasAsked : Function → Question → Asked → Asked → Type 0
HasAsked func question old new =
    ((ask : Ask) × AsksFor func question ask × AddsAsk question ask old new) ⊎ ((¬ IsAskable func question.place) × (new ≡ old))
