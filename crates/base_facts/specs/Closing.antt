-- Facts that have asked for what they need.
use Rattle.std.specs.Prelude.{◌≡◌, ℕ, ◌<◌, true, false, List, length, Some, slice_get}
use Rattle.std.specs.List.{Contains}
use Rattle.ir_ast.specs.Funcs.{Function}
use Rattle.ir_cfg.specs.Graphs.{graph_of, Edge}
use Rattle.object_meaning.specs.Frames.{is_member}
use Rattle.object_meaning.specs.Jumps.{phi_count}
use Rattle.pair_facts.specs.Lines.{lines_at, line_in, phis_in}
use Rattle.pair_facts.specs.Pairs.{Pairs, at_entry, on_edge}
use Rattle.pair_facts.specs.Paths.{pairs_at_end, Arrives}
use Rattle.pair_facts.proofs.FreshLaws.{IsSound}
use Rattle.base_facts.specs.declared.facts.Fact.{Fact}
use Rattle.base_facts.specs.declared.search.Asked.{Asked}
use Rattle.base_facts.specs.declared.steps.Step.{Step}
use Rattle.base_facts.specs.declared.steps.Step.TheVariants.{Known, One, Two}
use Rattle.base_facts.specs.Facts.{operand_in, base_in, holds}
use Rattle.fact_tables.specs.Tables.{IsPlace}
use Rattle.base_facts.specs.Sources.{IsSource}
use Rattle.base_facts.specs.Asked.{IsReached, MissesFact, IsFact, Asks, Grows, IsAsked, MissedBy, Answered}

-- the facts for which a fact asks in a block hold on a path
abbrev pub Holding : Function → Asked → ℕ → ℕ → Pairs → Type 0
Holding func asked asker block front = (number : ℕ) (fact : Fact) → IsFact asked number fact → Asks asked number asker → fact.block ≡ block → holds func front fact ≡ true

abbrev pub HoldingBelow : Function → Asked → ℕ → ℕ → ℕ → Pairs → Type 0
HoldingBelow func asked asker block place front =
    (number : ℕ) (fact : Fact) → IsFact asked number fact → Asks asked number asker → fact.block ≡ block → fact.place < place → holds func front fact ≡ true

-- the pair of a fact along an edge to its block
abbrev pub HoldsAlong : Function → Asked → ℕ → Fact → ℕ → Type 0
HoldsAlong func asked asker fact from = (front : Pairs) → Arrives func from front → Holding func asked asker from front
    → on_edge from (phis_in (lines_at func fact.block)) (pairs_at_end (lines_at func from) front) (operand_in fact.pointer) (base_in fact.base) ≡ true

-- a fact holds wherever the facts hold for which it asks
pub data Follows (func : Function) (asked : Asked) (number : ℕ) (fact : Fact) : Type 0 where
  from_front : fact.place ≡ phi_count (lines_at func fact.block)
      → (fact.block ≡ 0 → at_entry func (operand_in fact.pointer) (base_in fact.base) ≡ true)
      → ((from : ℕ) → Edge (graph_of func) from fact.block → HoldsAlong func asked number fact from)
      → Follows func asked number fact
  from_definition : ((front : Pairs) → IsSound front → HoldingBelow func asked number fact.block fact.place front → holds func front fact ≡ true)
      → Follows func asked number fact
  from_source : (block : ℕ) → fact.place ≡ phi_count (lines_at func fact.block) → IsSource func fact block
      → ((front : Pairs) → Arrives func block front → Holding func asked number block front
      → pairs_at_end (lines_at func block) front (operand_in fact.pointer) (base_in fact.base) ≡ true)
      → Follows func asked number fact

-- unless it fails
abbrev pub IsClosed : Function → Asked → ℕ → Fact → Type 0
IsClosed func asked number fact = ¬ Contains asked.failing.items number → Follows func asked number fact

pub record HasClosed (func : Function) (number : ℕ) (fact : Fact) (old new : Asked) : Type 0 where
  pub asked : IsAsked func new
  pub grows : Grows old new
  pub closed : IsClosed func new number fact

-- the fact has asked for what it is at the end of this block
pub record AskedAlong (func : Function) (number : ℕ) (fact : Fact) (from : ℕ) (old new : Asked) : Type 0 where
  pub asked : IsAsked func new
  pub grows : Grows old new
  pub along : ¬ Contains new.failing.items number → HoldsAlong func new number fact from

-- all these blocks have been asked
pub record AskedBefore (func : Function) (number : ℕ) (fact : Fact) (preds : List ℕ) (count : ℕ) (old new : Asked) : Type 0 where
  pub asked : IsAsked func new
  pub grows : Grows old new
  pub along : (place from : ℕ) → place < count → slice_get preds place ≡ Some from → ¬ Contains new.failing.items number → HoldsAlong func new number fact from

pub record AllClosed (func : Function) (old new : Asked) : Type 0 where
  pub asked : IsAsked func new
  pub grows : Grows old new
  pub closed : (number : ℕ) (fact : Fact) → IsFact new number fact → IsClosed func new number fact

pub record ClosedBelow (func : Function) (count : ℕ) (old new : Asked) : Type 0 where
  pub asked : IsAsked func new
  pub grows : Grows old new
  pub closed : (number : ℕ) (fact : Fact) → number < count → IsFact new number fact → IsClosed func new number fact

-- what asking for a fact needs
pub record CanAsk (func : Function) (asked : Asked) (asker : ℕ) (fact : Fact) : Type 0 where
  pub place : IsPlace func fact.block fact.place
  pub outside : is_member (line_in (lines_at func fact.block) fact.place).inst.op ≡ false
  pub reached : IsReached func fact.block
  pub misses : MissedBy func asked asker fact

pub record CanStep (func : Function) (asked : Asked) (number : ℕ) (step : Step) : Type 0 where
  pub inside : number < length asked.facts.keys
  pub fails : step ≡ Known false → (own : Fact) → IsFact asked number own → MissesFact func own
  pub one : (first : Fact) → step ≡ One first → CanAsk func asked number first
  pub first : (first second : Fact) → step ≡ Two first second → CanAsk func asked number first
  pub second : (first second : Fact) → step ≡ Two first second → CanAsk func asked number second

abbrev pub Stepped : Function → Asked → ℕ → Step → Type 0
Stepped func asked number (Known answer) = ¬ Contains asked.failing.items number → answer ≡ true
Stepped func asked number (One first) = Answered func asked number first
Stepped func asked number (Two first second) = Answered func asked number first × Answered func asked number second

pub record HasStepped (func : Function) (number : ℕ) (step : Step) (old new : Asked) : Type 0 where
  pub asked : IsAsked func new
  pub grows : Grows old new
  pub stepped : Stepped func new number step
