-- The pairs that stand at a place along a path: a fold over the lines of a block, and over the blocks of a path.
use Rattle.std.specs.Prelude.{◌≡◌, ℕ, zero, suc, true, false, nat_lt, if◌then◌else◌, List, length}
use Rattle.std.specs.Option.{option_map_or}
use Rattle.ir_ast.specs.declared.ops.Operand.{Operand}
use Rattle.ir_ast.specs.Funcs.{Function}
use Rattle.ir_ast.specs.Faults.GroupShape.{entries_of}
use Rattle.ir_cfg.specs.Graphs.{graph_of, Edge}
use Rattle.object_meaning.specs.Lines.{Line}
use Rattle.object_meaning.specs.Jumps.{phi_count}
use Rattle.pair_facts.specs.declared.bases.Base.{Base}
use Rattle.pair_facts.specs.Lines.{lines_at, line_in, line_before, phis_in, head_at, group_in}
use Rattle.pair_facts.specs.Pairs.{Pairs, at_entry, after, after_group, on_edge}

-- the pairs behind a line, from those before it. A group counts as one instruction, so its statepoint has all of its
-- pairs behind it; phis have acted on the edge.
abbrev pub behind : List Line → ℕ → Pairs → Pairs
behind lines place pairs =
    option_map_or (λ head. after_group (entries_of (line_in lines head).inst) (group_in lines head))
    (head_at lines place)
    (if nat_lt place (phi_count lines) then pairs else after pairs (line_before lines place) (line_in lines place))

-- the pairs before the line at a place of a block, from those that stand behind the block's phis
abbrev pub pairs_at : List Line → Pairs → ℕ → Pairs
pairs_at lines front zero = front
pairs_at lines front (suc place) = behind lines place (pairs_at lines front place)

-- the pairs at the end of a block
abbrev pub pairs_at_end : List Line → Pairs → Pairs
pairs_at_end lines front = pairs_at lines front (length lines)

-- some path from the entry leads to the block with these pairs behind its phis
pub data Arrives (func : Function) : ℕ → Pairs → Type 0 where
  start : Arrives func 0 (at_entry func)
  went : (from to : ℕ) (front : Pairs) → Arrives func from front → Edge (graph_of func) from to
      → Arrives func to (on_edge from (phis_in (lines_at func to)) (pairs_at_end (lines_at func from) front))

-- some path leads to this place of the block with these pairs
pub record At (func : Function) (block place : ℕ) (pairs : Pairs) : Type 0 where
  pub front : Pairs
  pub arrives : Arrives func block front
  pub is : pairs ≡ pairs_at (lines_at func block) front place

-- the pair stands on every path to the place
abbrev pub Stands : Function → ℕ → ℕ → Operand → Base → Type 0
Stands func block place operand base =
    (front : Pairs) → Arrives func block front → pairs_at (lines_at func block) front place operand base ≡ true

-- on some path to the place the pair doesn't stand
pub record Misses (func : Function) (block place : ℕ) (operand : Operand) (base : Base) : Type 0 where
  pub front : Pairs
  pub arrives : Arrives func block front
  pub misses : pairs_at (lines_at func block) front place operand base ≡ false
