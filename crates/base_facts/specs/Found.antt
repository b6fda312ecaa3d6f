-- What is known of an ask before the facts have asked one another.
use Rattle.std.specs.Prelude.{◌≡◌, ℕ, Bool, false, not, List, take, slice_index_or}
use Rattle.std.specs.List.{AllZip}
use Rattle.ir_ast.specs.Funcs.{Function}
use Rattle.pair_facts.specs.Lines.{lines_at}
use Rattle.pair_facts.specs.Pairs.{Pairs}
use Rattle.pair_facts.specs.Paths.{pairs_at}
use Rattle.pair_facts.proofs.FreshLaws.{IsSound}
use Rattle.base_facts.specs.declared.asks.Ask.{Ask}
use Rattle.base_facts.specs.declared.asks.Found.{Found}
use Rattle.base_facts.specs.declared.asks.Found.TheVariants.{Known, Numbered}
use Rattle.base_facts.specs.declared.facts.Fact.{Fact}
use Rattle.base_facts.specs.declared.search.Asked.{Asked}
use Rattle.base_facts.specs.Facts.{holds}
use Rattle.base_facts.specs.Settled.{Decides}
use Rattle.base_facts.specs.Asked.{IsFact, Grows, IsAsked}
use Rattle.base_facts.specs.Answers.{IsAnswered}

abbrev pub ask_holds : Function → Pairs → Ask → Bool
ask_holds func front ask = pairs_at (lines_at func ask.block.0) front ask.place ask.pointer ask.base

-- the ask has the answer that the fact with this number has
pub record IsNumberedAs (func : Function) (asked : Asked) (ask : Ask) (number : ℕ) : Type 0 where
  pub fact : Fact
  pub stands : IsFact asked number fact
  pub block : fact.block ≡ ask.block.0
  pub same : (front : Pairs) → IsSound front → ask_holds func front ask ≡ holds func front fact

abbrev pub IsFound : Function → Asked → Ask → Found → Type 0
IsFound func asked ask (Known answer) = IsAnswered func ask answer
IsFound func asked ask (Numbered number) = IsNumberedAs func asked ask number

pub record HasFound (func : Function) (ask : Ask) (found : Found) (old new : Asked) : Type 0 where
  pub asked : IsAsked func new
  pub grows : Grows old new
  pub is : IsFound func new ask found

pub record IsNumberedBy (func : Function) (asked : Asked) (fact : Fact) (number : ℕ) : Type 0 where
  pub other : Fact
  pub stands : IsFact asked number other
  pub block : other.block ≡ fact.block
  pub same : (front : Pairs) → IsSound front → holds func front fact ≡ holds func front other

abbrev pub IsFoundFact : Function → Asked → Fact → Found → Type 0
IsFoundFact func asked fact (Known answer) = Decides func fact answer
IsFoundFact func asked fact (Numbered number) = IsNumberedBy func asked fact number

pub record HasFoundFact (func : Function) (fact : Fact) (found : Found) (old new : Asked) : Type 0 where
  pub asked : IsAsked func new
  pub grows : Grows old new
  pub is : IsFoundFact func new fact found

abbrev pub told_by : List Bool → Found → Bool
told_by marks (Known answer) = answer
told_by marks (Numbered number) = not (slice_index_or marks number false)

-- so many first asks were found
pub record AreFound (func : Function) (now : Asked) (asks : List Ask) (count : ℕ) (results : List Found) : Type 0 where
  pub asked : IsAsked func now
  pub found : AllZip (IsFound func now) (take count asks) results
