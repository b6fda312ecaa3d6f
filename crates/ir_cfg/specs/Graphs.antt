-- The edges of a function as a graph: for each block, in text order, the blocks where its edges lead.
use Rattle.std.specs.Prelude.{◌≡◌, ℕ, ◌≤◌, List, [], map, length, replicate, Some, slice_get, slice_index_or}
use Rattle.std.specs.List.{flat_map, range_with_len}
use Rattle.sp_ids.specs.declared.ids.BlockId.{BlockId}
use Rattle.ir_ast.specs.Funcs.{Function}
use Rattle.ir_ast.specs.Edges.{targets, count_of}

abbrev pub Graph : Type 0
Graph = List (List BlockId)

abbrev pub graph_of : Function → Graph
graph_of func = map targets func.blocks

abbrev pub block_at : ℕ → BlockId
block_at place = record { 0 = place }

-- where the edges of a block lead: one entry per edge, in the order of its labels
abbrev pub succs_of : Graph → ℕ → List BlockId
succs_of graph block = slice_index_or graph block []

-- where all edges lead, in text order
abbrev pub labels_of : Graph → List BlockId
labels_of graph = flat_map (λ row. row) graph

-- where the edges into a block come from: one entry per edge, in text order
abbrev pub preds_of : Graph → ℕ → List BlockId
preds_of graph block =
    flat_map (λ from. replicate (count_of block (succs_of graph from)) (block_at from)) (range_with_len 0 (length graph))

-- the edges by number
abbrev pub numbers_of : Graph → List (List ℕ)
numbers_of graph = map (map (λ label. label.0)) graph

-- an edge of one block leads to another: the one with this number among its edges
pub record Edge (graph : Graph) (from to : ℕ) : Type 0 where
  pub number : ℕ
  pub leads : slice_get (succs_of graph from) number ≡ Some (block_at to)

-- an edge of the block leads to the same or an earlier place
pub record Retreats (graph : Graph) (block : ℕ) : Type 0 where
  pub to : ℕ
  pub edge : Edge graph block to
  pub back : to ≤ block
