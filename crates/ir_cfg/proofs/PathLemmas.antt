-- Paths from the entry along edges, and along the same edges by number.
use Rattle.std.proofs.Common.{inl, inr, arith, ◌≡◌, ◌∙◌, ℕ, ◌<◌, Bool, List, [], ◌∷◌, ◌++◌, map, length, ap, sym, subst, Some, slice_get}
use Rattle.std.specs.List.{All}
use Rattle.std.proofs.Math.ListN.{get_or-map}
use Rattle.std.proofs.lemmas.Bool.{cases_lt}
use Rattle.std.proofs.lemmas.List.{length-map, get_or_past}
use Rattle.std.proofs.lemmas.List.Elements.{All-get_or}
use Rattle.std.proofs.lemmas.Option.{none-some}
use Rattle.list_laws.proofs.Places.{get_map, map_back}
use Rattle.list_laws.proofs.Contents.{all_at, contains_first, contains_one}
use Rattle.graph_search.specs.Edges.{targets_of, AreInside}
use Rattle.graph_search.specs.Edges.{Edge as NumberEdge}
use Rattle.graph_search.specs.Paths.{ReachedFrom, at_start}
use Rattle.graph_search.specs.Paths.{along as further, MarksReached as MarksNumbers}
use Rattle.sp_ids.specs.declared.ids.BlockId.{BlockId}
use Rattle.ir_cfg.specs.Graphs.{Graph, Edge, block_at, succs_of, numbers_of}
use Rattle.ir_cfg.specs.Paths.{Path, Reached, at_entry, along}
use Rattle.ir_cfg.specs.Turned.{LeadsInside}
use Rattle.ir_cfg.specs.Marks.{MarksReached}

pub reached_by : (graph : Graph) (from to : ℕ) → Reached graph from → Edge graph from to → Reached graph to
reached_by graph from to reached edge = (reached.0 ++ to ∷ [], along reached.0 from to reached.1 edge)

-- ---- edges by number

pub length-numbers_of : (graph : Graph) → length (numbers_of graph) ≡ length graph
length-numbers_of graph = length-map graph (map (λ (label : BlockId). label.0))

pub targets-numbers_of : (graph : Graph) (block : ℕ) → targets_of (numbers_of graph) block ≡ map (λ (label : BlockId). label.0) (succs_of graph block)
targets-numbers_of graph block = get_or-map (map (λ (label : BlockId). label.0)) graph block []

number_edge : (graph : Graph) (from to : ℕ) → Edge graph from to → NumberEdge (numbers_of graph) from to
number_edge graph from to edge = record {
  number = edge.number;
  leads = ap (λ (row : List ℕ). slice_get row edge.number) (targets-numbers_of graph from)
      ∙ get_map (λ (label : BlockId). label.0) (succs_of graph from) edge.number (block_at to) edge.leads;
}

block_edge : (graph : Graph) (from to : ℕ) → NumberEdge (numbers_of graph) from to → Edge graph from to
block_edge graph from to edge =
    let at = ap (λ (row : List ℕ). slice_get row edge.number) (sym (targets-numbers_of graph from)) ∙ edge.leads in
    let m = map_back (λ (label : BlockId). label.0) (succs_of graph from) edge.number to at in
    record { number = edge.number; leads = m.stands ∙ ap (λ (n : ℕ). Some (block_at n)) (sym m.is) }

-- ---- edges inside

pub edge_within : (graph : Graph) (from to : ℕ) → Edge graph from to → from < length graph
edge_within graph from to edge =
    elim (cases_lt from (length graph)) [
      | inl below ↦ below
      | inr past ↦
          let none : succs_of graph from ≡ [] = get_or_past graph from [] past in
          absurd (none-some (block_at to) (rw none at edge.leads))
    ]

pub edge_inside : (graph : Graph) (from to : ℕ) → LeadsInside graph → Edge graph from to → to < length graph
edge_inside graph from to inside edge =
    let row = All-get_or (λ (row : List BlockId). All (λ (label : BlockId). label.0 < length graph) row) graph from [] (edge_within graph from to edge) inside in
    all_at (λ (label : BlockId). label.0 < length graph) (succs_of graph from) edge.number (block_at to) row edge.leads

-- ---- paths by number

path_numbers : (graph : Graph) (blocks : List ℕ) (block : ℕ) → Path graph blocks block → ReachedFrom (numbers_of graph) (0 ∷ []) block
path_numbers graph _ _ at_entry = at_start 0 (contains_first 0 [])
path_numbers graph _ _ (along blocks from to path edge) = further from to (path_numbers graph blocks from path) (number_edge graph from to edge)

pub reached_numbers : (graph : Graph) (block : ℕ) → Reached graph block → ReachedFrom (numbers_of graph) (0 ∷ []) block
reached_numbers graph block reached = path_numbers graph reached.0 block reached.1

pub numbers_reached : (graph : Graph) (block : ℕ) → ReachedFrom (numbers_of graph) (0 ∷ []) block → Reached graph block
numbers_reached graph block (at_start _ there) = subst (Reached graph) (contains_one 0 block there) (0 ∷ [], at_entry)
numbers_reached graph _ (further from to before edge) = reached_by graph from to (numbers_reached graph from before) (block_edge graph from to edge)

-- ---- a search from the entry

pub numbers_inside : (graph : Graph) → LeadsInside graph → 0 < length graph → AreInside (numbers_of graph) (0 ∷ [])
numbers_inside graph inside some =
    let same = length-numbers_of graph in
    record {
      starts_inside = λ node there. let first = contains_one 0 node there in omega arith;
      edges_inside = λ from to by_number.
          let edge = block_edge graph from to by_number in
          let below = edge_inside graph from to inside edge in
          omega arith;
    }

pub marks_from_numbers : (graph : Graph) (marks : List Bool) → MarksNumbers (numbers_of graph) (0 ∷ []) marks → MarksReached graph marks
marks_from_numbers graph marks found = record {
  whole = found.whole ∙ length-numbers_of graph;
  sound = λ block marked. numbers_reached graph block (found.sound block marked);
  complete = λ block reached. found.complete block (reached_numbers graph block reached);
}
