-- Marks: faults by their places.
use Rattle.std.specs.Prelude.{◌<◌, ℕ, Bool, ◌&&◌, List, [], ◌∷◌, ◌++◌, length, if◌then◌else◌}
use Rattle.std.specs.List.{Contains}
use Rattle.ir_ast.specs.Funcs.{Function}
use Rattle.ir_cfg.specs.Graphs.{graph_of}
use Rattle.ir_cfg.specs.Paths.{Reached}
use Rattle.object_meaning.specs.Lines.{Line, insts_in}
use Rattle.pair_facts.specs.Lines.{lines_at}
use Rattle.pair_facts.specs.Uses.{Use, Uses}
use Rattle.pair_facts.specs.Faults.{IsStale, IsLoose, IsOpenGroup, IsUnchecked, IsPlainCall, IsLostValue}
use Rattle.fact_tables.specs.Homes.{IsBefore}
use Rattle.statepoint_verify.specs.declared.marks.Mark.{Mark}
use Rattle.statepoint_verify.specs.Tests.{is_open, is_unchecked, is_plain_at, loses}

-- the faults of a line that pairs decide
pub data PairFault (func : Function) (block place : ℕ) : ℕ → Type 0 where
  stale : (code at : ℕ) (pair : Use) → Uses (lines_at func block) place code at pair → IsStale func block at pair → PairFault func block place 1
  loose : (code at : ℕ) (pair : Use) → Uses (lines_at func block) place code at pair → IsLoose func block at pair → PairFault func block place code

-- those that the text alone decides
pub data TextFault (func : Function) (block place : ℕ) : ℕ → Type 0 where
  open_group : Reached (graph_of func) block → IsOpenGroup (lines_at func block) place → TextFault func block place 2
  unchecked : Reached (graph_of func) block → IsUnchecked (lines_at func block) place → TextFault func block place 3
  plain_call : Reached (graph_of func) block → IsPlainCall (lines_at func block) place → TextFault func block place 6
  lost_value : IsLostValue (lines_at func block) place → TextFault func block place 7

abbrev pub mark_of : ℕ → ℕ → ℕ → Mark
mark_of block place code = record { block = block; place = place; code = code }

-- the marks are those of all faults of a kind
abbrev pub AreAll : (ℕ → ℕ → ℕ → Type 0) → List Mark → Type 0
AreAll kind marks = (mark : Mark) → (Contains marks mark → kind mark.block mark.place mark.code) × (kind mark.block mark.place mark.code → Contains marks mark)

-- the mark's line stands in its block
pub record IsInside (func : Function) (mark : Mark) : Type 0 where
  pub block : mark.block < length func.blocks
  pub place : mark.place < length (insts_in func mark.block)

-- ---- the faults that the text decides, a line at a time

-- the marks are those of the lines before a place
pub record AreMarked (func : Function) (until_block until : ℕ) (marks : List Mark) : Type 0 where
  pub sound : (mark : Mark) → Contains marks mark → TextFault func mark.block mark.place mark.code × IsBefore mark.block mark.place until_block until
  pub complete : (mark : Mark) → TextFault func mark.block mark.place mark.code → IsBefore mark.block mark.place until_block until → Contains marks mark

abbrev pub marked_where : Bool → Mark → List Mark → List Mark
marked_where test mark marks = if test then marks ++ mark ∷ [] else marks

-- with the marks of one line
abbrev pub line_marked : List Line → Bool → ℕ → ℕ → List Mark → List Mark
line_marked lines reached block place marks =
    marked_where (loses lines place) (mark_of block place 7)
    (marked_where (reached && is_plain_at lines place) (mark_of block place 6)
    (marked_where (reached && is_unchecked lines place) (mark_of block place 3)
    (marked_where (reached && is_open lines place) (mark_of block place 2) marks)))
