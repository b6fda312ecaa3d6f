-- What the phis of a block give, and what they leave.
use Rattle.std.specs.Prelude.{◌≡◌, ℕ, ◌<◌, List}
use Rattle.ir_ast.specs.declared.ops.Operand.{Operand}
use Rattle.ir_ast.specs.Funcs.{Function}
use Rattle.object_meaning.specs.Lines.{Line}
use Rattle.object_meaning.specs.Jumps.{phi_count}
use Rattle.pair_facts.specs.declared.bases.Base.{Base}
use Rattle.pair_facts.specs.declared.bases.Base.TheVariants.{Any, Named}
use Rattle.pair_facts.specs.Lines.{lines_at, phis_in, named}
use Rattle.pair_facts.specs.Pairs.{along, base_along}
use Rattle.fact_tables.specs.Homes.{GivesAt}

-- a phi of the block gives the operand, and no line of another block does
pub record IsOfPhi (func : Function) (block : ℕ) (operand : Operand) : Type 0 where
  pub value : ℕ
  pub at : ℕ
  pub is : operand ≡ named value
  pub inside : at < phi_count (lines_at func block)
  pub gives : GivesAt func block at value
  pub only : (other place : ℕ) → GivesAt func other place value → other ≡ block

abbrev pub IsBaseOfPhi : Function → ℕ → Base → Type 0
IsBaseOfPhi func block Any = ⊥
IsBaseOfPhi func block (Named operand) = IsOfPhi func block operand

-- on each edge the operand is before the phis what it is behind them
abbrev pub IsLeft : List Line → Operand → Type 0
IsLeft lines operand = (from : ℕ) → along from (phis_in lines) operand ≡ operand

abbrev pub IsBaseLeft : List Line → Base → Type 0
IsBaseLeft lines base = (from : ℕ) → base_along from (phis_in lines) base ≡ base
