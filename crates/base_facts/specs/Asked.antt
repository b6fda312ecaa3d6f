-- Facts that were asked, and how they ask one another.
use Rattle.std.specs.Prelude.{◌≡◌, ◌⊎◌, ℕ, ◌<◌, ◌≤◌, true, false, List, length, map, Some, slice_get}
use Rattle.std.specs.List.{Contains}
use Rattle.ir_ast.specs.Funcs.{Function}
use Rattle.object_meaning.specs.Jumps.{phi_count}
use Rattle.pair_facts.specs.Lines.{lines_at}
use Rattle.pair_facts.specs.Pairs.{Pairs}
use Rattle.pair_facts.specs.Paths.{Arrives}
use Rattle.pair_facts.proofs.FreshLaws.{IsSound}
use Rattle.base_facts.specs.declared.facts.Fact.{Fact}
use Rattle.base_facts.specs.declared.search.Asked.{Asked}
use Rattle.base_facts.specs.Facts.{holds}
use Rattle.base_facts.specs.Settled.{IsSettled}

-- some path leads to the block
abbrev pub IsReached : Function → ℕ → Type 0
IsReached func block = (front : Pairs) × Arrives func block front

-- on some path the fact doesn't hold
pub record MissesFact (func : Function) (fact : Fact) : Type 0 where
  pub front : Pairs
  pub arrives : Arrives func fact.block front
  pub fails : holds func front fact ≡ false

-- the fact has this number
abbrev pub IsFact : Asked → ℕ → Fact → Type 0
IsFact asked number fact = slice_get asked.facts.keys number ≡ Some fact

abbrev pub rows_of : Asked → List (List ℕ)
rows_of asked = map (λ row. row.items) asked.askers.items

-- the fact with the second number asks for the one with the first
pub record Asks (asked : Asked) (number asker : ℕ) : Type 0 where
  pub row : List ℕ
  pub stands : slice_get (rows_of asked) number ≡ Some row
  pub contained : Contains row asker

-- nothing that was asked is lost
pub record Grows (old new : Asked) : Type 0 where
  pub facts : (number : ℕ) (fact : Fact) → IsFact old number fact → IsFact new number fact
  pub asks : (number asker : ℕ) → Asks old number asker → Asks new number asker
  pub failing : (number : ℕ) → Contains old.failing.items number → Contains new.failing.items number

-- what each fact that was asked is, and that it is missed where it fails, or where one is missed for which it asks
pub record IsAsked (func : Function) (asked : Asked) : Type 0 where
  pub same : length asked.askers.items ≡ length asked.facts.keys
  pub settled : (number : ℕ) (fact : Fact) → IsFact asked number fact → IsSettled func fact
  pub reached : (number : ℕ) (fact : Fact) → IsFact asked number fact → IsReached func fact.block
  pub failing : (number : ℕ) → Contains asked.failing.items number → number < length asked.facts.keys
  pub misses : (number : ℕ) (fact : Fact) → Contains asked.failing.items number → IsFact asked number fact → MissesFact func fact
  pub asks : (number asker : ℕ) → Asks asked number asker → asker < length asked.facts.keys
  pub spreads : (number asker : ℕ) (fact other : Fact) → Asks asked number asker → IsFact asked number fact → IsFact asked asker other → MissesFact func fact → MissesFact func other

-- a number was given
pub record IsNumbered (fact : Fact) (number : ℕ) (old new : Asked) : Type 0 where
  pub grows : Grows old new
  pub stands : IsFact new number fact
  pub same : length new.askers.items ≡ length new.facts.keys
  pub facts : (other : ℕ) (one : Fact) → IsFact new other one → IsFact old other one ⊎ (one ≡ fact)
  pub askers : (other asker : ℕ) → Asks new other asker → Asks old other asker
  pub failing : new.failing ≡ old.failing
  pub longer : length old.facts.keys ≤ length new.facts.keys

-- the fact with this number is missed where the other is
abbrev pub MissedBy : Function → Asked → ℕ → Fact → Type 0
MissedBy func asked asker fact = (own : Fact) → IsFact asked asker own → MissesFact func fact → MissesFact func own

pub record AddsAsker (number asker : ℕ) (old new : Asked) : Type 0 where
  pub facts : new.facts ≡ old.facts
  pub failing : new.failing ≡ old.failing
  pub same : length new.askers.items ≡ length old.askers.items
  pub kept : (other one : ℕ) → Asks old other one → Asks new other one
  pub added : Asks new number asker
  pub others : (other one : ℕ) → Asks new other one → Asks old other one ⊎ ((other ≡ number) × (one ≡ asker))

-- the fact with this number fails
pub record HasFailed (func : Function) (asker : ℕ) (old new : Asked) : Type 0 where
  pub asked : IsAsked func new
  pub grows : Grows old new
  pub failed : Contains new.failing.items asker

-- the facts for which a fact asks in a block, up to a place or behind the block's phis, hold on a path
abbrev pub HoldingUpTo : Function → Asked → ℕ → ℕ → ℕ → Pairs → Type 0
HoldingUpTo func asked asker block place front =
    (number : ℕ) (fact : Fact) → IsFact asked number fact → Asks asked number asker → fact.block ≡ block
    → (fact.place ≤ place) ⊎ (fact.place ≡ phi_count (lines_at func fact.block)) → holds func front fact ≡ true

-- unless the asker fails, a fact holds wherever those hold for which the asker asks
abbrev pub Answered : Function → Asked → ℕ → Fact → Type 0
Answered func asked asker fact = ¬ Contains asked.failing.items asker
    → (front : Pairs) → IsSound front → HoldingUpTo func asked asker fact.block fact.place front → holds func front fact ≡ true

pub record HasAsked (func : Function) (asker : ℕ) (fact : Fact) (old new : Asked) : Type 0 where
  pub asked : IsAsked func new
  pub grows : Grows old new
  pub answered : Answered func new asker fact
