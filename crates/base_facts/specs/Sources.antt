-- The block behind whose end a fact goes on to the front of another, whatever path leads there.
use Rattle.std.specs.Prelude.{◌≡◌, ◌⊎◌, ℕ, ◌<◌, Option, MatchOption, length, true}
use Rattle.ir_ast.specs.Funcs.{Function}
use Rattle.ir_cfg.specs.Graphs.{graph_of}
use Rattle.ir_cfg.specs.Paths.{Reached}
use Rattle.pair_facts.specs.Lines.{named}
use Rattle.pair_facts.specs.Pairs.{at_entry}
use Rattle.pair_facts.specs.declared.bases.Base.{Base}
use Rattle.fact_tables.specs.Homes.{GivesAt}
use Rattle.since_statepoint.specs.Regions.{Slips}
use Rattle.base_facts.specs.declared.facts.Pointer.TheVariants as pointers
use Rattle.base_facts.specs.declared.facts.Wanted.TheVariants as bases
use Rattle.base_facts.specs.declared.facts.Fact.{Fact}
use Rattle.base_facts.specs.declared.sources.Source.{Source}
use Rattle.base_facts.specs.declared.sources.Source.TheVariants.{Edges, Nowhere, Behind}
use Rattle.base_facts.specs.Asked.{MissesFact}

-- the fact names the value as its pointer or as its base
abbrev pub Names : Fact → ℕ → Type 0
Names fact value = (fact.pointer ≡ pointers.Value value) ⊎ (fact.base ≡ bases.Value value)

-- no line outside of this block gives the value; an argument is of the entry
pub record IsHomeBlock (func : Function) (value home : ℕ) : Type 0 where
  pub inside : home < length func.blocks
  pub only : (block place : ℕ) → GivesAt func block place value → block ≡ home
  pub entry : (base : Base) → at_entry func (named value) base ≡ true → home ≡ 0

-- the two values are named, and no other
pub record AreNames (fact : Fact) (first second : ℕ) : Type 0 where
  pub one : Names fact first
  pub other : Names fact second
  pub only : (value : ℕ) → Names fact value → (value ≡ first) ⊎ (value ≡ second)

abbrev pub FindsNames : Fact → Option (ℕ × ℕ) → Type 0
FindsNames fact found = MatchOption found Unit (λ names. AreNames fact names.0 names.1)

-- a named value is of the block, or a path comes to its block that doesn't leave the block
pub record IsNear (func : Function) (block value : ℕ) : Type 0 where
  pub home : ℕ
  pub is : IsHomeBlock func value home
  pub near : (home ≡ block) ⊎ Slips func block home

-- each path to the fact's block leaves this one since its last statepoint, and nothing named by the fact is given behind
pub record IsSource (func : Function) (fact : Fact) (block : ℕ) : Type 0 where
  pub inside : block < length func.blocks
  pub reached : Reached (graph_of func) block
  pub apart : block ≡ fact.block → ⊥
  pub passes : Slips func block fact.block → ⊥
  pub near : (value : ℕ) → Names fact value → IsNear func block value

-- each path to the block leaves the one since its last statepoint, and the other isn't met behind it
pub record IsLast (func : Function) (one other block : ℕ) : Type 0 where
  pub reached : Reached (graph_of func) one
  pub passes : Slips func one block → ⊥
  pub near : (other ≡ one) ⊎ Slips func one other

abbrev pub IsSourceOf : Function → Fact → Source → Type 0
IsSourceOf func fact Edges = Unit
IsSourceOf func fact Nowhere = MissesFact func fact
IsSourceOf func fact (Behind block) = IsSource func fact block
