-- Where pointers are live, by walks backwards along edges.
use Rattle.std.specs.Prelude.{◌≡◌, ℕ, ◌<◌, ◌+◌, ◌&&◌, nat_le, nat_lt, Bool, true, if◌then◌else◌, List, [], ◌∷◌, ◌++◌, length, map, filter, slice_index_or}
use Rattle.std.specs.List.{list_any, range_with_len}
use Rattle.std.specs.Global.{Vec}
use Rattle.sp_ids.specs.declared.ids.ValueId.{ValueId}
use Rattle.ir_ast.specs.declared.ops.Operand.{Operand}
use Rattle.ir_ast.specs.Funcs.{Function}
use Rattle.ir_cfg.specs.Graphs.{Graph, preds_of}
use Rattle.graph_search.specs.Paths.{MarksReached}
use Rattle.rewriting_forms.specs.Numbered.{pointers, preds, succs}
use Rattle.rewriting_forms.specs.Liveness.{live_over, live_front}
use Rattle.live_sets.specs.Starts.{list_at}
use Rattle.ir_ast.specs.Operands.{valued}
use Rattle.ir_ast.specs.Lists.{has_mark}

-- ---- the graph of places

-- the blocks before each block of a graph, by number
abbrev pub fronts_of : Graph → List (List ℕ)
fronts_of graph = map (λ b. map (λ label. label.0) (preds_of graph b)) (range_with_len 0 (length graph))

-- the graph of a value's places: the blocks before each block, the numbers of the first results of the blocks, and the value
pub record Places : Type 0 where
  pub fronts : List (List ℕ)
  pub firsts : List ℕ
  pub value : ℕ

-- the block gives the value; the numbers are those of the first results of the blocks
abbrev pub gives_in : List ℕ → ℕ → ℕ → Bool
gives_in firsts value block = nat_le (slice_index_or firsts block 0) value && nat_lt value (slice_index_or firsts (block + 1) 0)

-- where the end of a block leads: to its front, which is behind all ends, where the block doesn't give the value
abbrev pub end_row : List ℕ → ℕ → ℕ → ℕ → List ℕ
end_row firsts value count block = if gives_in firsts value block then [] else (count + block) ∷ []

-- the ends of the blocks, and then their fronts, which lead to the ends of the blocks before
abbrev pub backward_rows : List (List ℕ) → List ℕ → ℕ → List (List ℕ)
backward_rows fronts firsts value = map (end_row firsts value (length fronts)) (range_with_len 0 (length fronts)) ++ fronts

abbrev pub rows_of : Places → List (List ℕ)
rows_of places = backward_rows places.fronts places.firsts places.value

-- the blocks before each block
abbrev pub AreFronts : Function → List (List ℕ) → Type 0
AreFronts func fronts = fronts ≡ map (preds func) (range_with_len 0 (length func.blocks))

-- ---- what is found

-- the lists of these places have an item more
pub record GrownWhere (old new : List (Vec ValueId)) (test : ℕ → Bool) (item : ValueId) : Type 0 where
  pub whole : length new ≡ length old
  pub each : (v : ℕ) → v < length old → list_at new v ≡ list_at old v ++ (if test v then item ∷ [] else [])

-- the value is added to the lists of those wanted blocks to whose ends walks from the starts lead
pub record AddsEnds (rows : List (List ℕ)) (wanted : List Bool) (starts : List ℕ) (value : ValueId) (old new : List (Vec ValueId)) : Type 0 where
  pub marks : List Bool
  pub reached : MarksReached rows starts marks
  pub whole : length new ≡ length old
  pub each : (block : ℕ) → block < length old
      → list_at new block ≡ list_at old block ++ (if has_mark wanted block && has_mark marks block then value ∷ [] else [])

-- live at the end of a block
abbrev pub lives_at_end : Function → List Operand → ℕ → ℕ → Bool
lives_at_end func table b v = list_any (live_over func table v (live_front func table v (length func.blocks)) b) (succs func b)

-- each wanted block has the pointers that are live at its end
pub record AreEnds (func : Function) (table : List Operand) (wanted : List Bool) (ends : List (Vec ValueId)) : Type 0 where
  pub whole : length ends ≡ length func.blocks
  pub each : (b : ℕ) → b < length func.blocks → has_mark wanted b ≡ true → list_at ends b ≡ map valued (filter (lives_at_end func table b) (pointers func))
