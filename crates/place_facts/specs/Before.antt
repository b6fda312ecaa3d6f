-- The pairs before an instruction, whichever it is: before a phi those that stand before the phis of its block act, before a
-- line of a statepoint group those before its statepoint.
use Rattle.std.specs.Prelude.{◌≡◌, ℕ, ◌<◌, ◌≤◌, true, false, Some, None}
use Rattle.ir_ast.specs.declared.ops.Operand.{Operand}
use Rattle.ir_ast.specs.Funcs.{Function}
use Rattle.ir_cfg.specs.Graphs.{graph_of, Edge}
use Rattle.object_meaning.specs.Frames.{is_member}
use Rattle.object_meaning.specs.Jumps.{phi_count}
use Rattle.pair_facts.specs.declared.bases.Base.{Base}
use Rattle.pair_facts.specs.Lines.{lines_at, line_in, head_at}
use Rattle.pair_facts.specs.Pairs.{Pairs, at_entry}
use Rattle.pair_facts.specs.Paths.{pairs_at_end, Arrives, At}
use Rattle.place_facts.specs.Spots.{IsNumbered}

-- some path from the entry comes to the block with these pairs, before the block's phis act
pub data Comes (func : Function) : ℕ → Pairs → Type 0 where
  entry : Comes func 0 (at_entry func)
  edge : (from to : ℕ) (front : Pairs) → Arrives func from front → Edge (graph_of func) from to
      → Comes func to (pairs_at_end (lines_at func from) front)

-- some path from the entry leads to the line at a place of a block with these pairs before it
pub data Before (func : Function) : ℕ → ℕ → Pairs → Type 0 where
  -- phis act together, so each has before it what stands before all of them
  phi : (block place : ℕ) (pairs : Pairs) → place < phi_count (lines_at func block) → Comes func block pairs → Before func block place pairs
  -- a group counts as one instruction, so each of its lines has before it what stands before the statepoint
  group : (block place head : ℕ) (pairs : Pairs) → head_at (lines_at func block) place ≡ Some head → At func block head pairs
      → Before func block place pairs
  line : (block place : ℕ) (pairs : Pairs) → phi_count (lines_at func block) ≤ place → head_at (lines_at func block) place ≡ None
      → At func block place pairs → Before func block place pairs

-- on every path to the instruction with this number the pair stands before it
abbrev pub StandsBefore : Function → ℕ → Operand → Base → Type 0
StandsBefore func number operand base = (block place : ℕ) (pairs : Pairs) → IsNumbered func number block place
    → Before func block place pairs → pairs operand base ≡ true

-- on some path to it the pair doesn't stand before it
pub record MissesBefore (func : Function) (number : ℕ) (operand : Operand) (base : Base) : Type 0 where
  pub block : ℕ
  pub place : ℕ
  pub pairs : Pairs
  pub numbered : IsNumbered func number block place
  pub before : Before func block place pairs
  pub misses : pairs operand base ≡ false

-- an instruction has this number, and it is no result or relocate without a statepoint
pub record IsAskable (func : Function) (number : ℕ) : Type 0 where
  pub block : ℕ
  pub place : ℕ
  pub numbered : IsNumbered func number block place
  pub grouped : head_at (lines_at func block) place ≡ None → is_member (line_in (lines_at func block) place).inst.op ≡ false
