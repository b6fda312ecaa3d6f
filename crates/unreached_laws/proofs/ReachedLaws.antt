-- Of a function without its unreached blocks each block is reached.
use Rattle.std.proofs.Common.{◌≡◌, ℕ, Bool, List, [], ◌∷◌, map, sym, ap, subst, ◌∙◌}
use Rattle.std.specs.Prelude.{Some, slice_get}
use Rattle.std.specs.List.{All, AllZip}
use Rattle.std.proofs.lemmas.List.{map-append}
use Rattle.std.proofs.lemmas.List.Elements.{All-cons, All-nil}
use Rattle.list_laws.proofs.Places.{get_map, get_some}
use Rattle.sp_ids.specs.declared.ids.BlockId.{BlockId}
use Rattle.graph_search.specs.Paths.{Marked}
use Rattle.ir_ast.specs.Edges.{targets}
use Rattle.ir_ast.specs.Funcs.{Function}
use Rattle.ir_cfg.specs.Graphs.{Edge, Graph, block_at, graph_of}
use Rattle.ir_cfg.specs.Marks.{MarksReached}
use Rattle.ir_cfg.specs.Paths.{Path, Reached, along, at_entry, IsReached}
use Rattle.ir_cfg.specs.Unreached.{DropsUnreached, Kept, block_kept, function_kept, kept_by, label_kept}
use Rattle.ir_cfg.proofs.KeepsLines.{block_back, block_forth}
use Rattle.ir_cfg.proofs.KeepsPaths.{marked_block, succs_at, target_marked, targets_kept}
use Rattle.ir_cfg.proofs.KeepsPlaces.{marks_before, number_of_marked}
use Rattle.unreached_laws.specs.Statements.{UnreachedAreGone}
use Rattle.unreached_laws.proofs.RegisterLaws.{before_none}

module _ (marks : List Bool) (func : Function) (reached : MarksReached (graph_of func) marks) where
  abbrev new : ℕ → ℕ
  new block = marks_before marks block

  abbrev new_graph : Graph
  new_graph = graph_of (function_kept marks func)

  abbrev kept : Kept
  kept = kept_by marks func

  edge_forth : (from to : ℕ) → Marked marks from → Edge (graph_of func) from to → Edge new_graph (new from) (new to)
  edge_forth from to marked edge =
      let block = marked_block marks func from reached marked in
      let forth = block_forth marks func from block.0 marked block.1 in
      let leads : slice_get (targets block.0) edge.number ≡ Some (block_at to) =
      ap (λ (labels : List BlockId). slice_get labels edge.number) (sym (succs_at func from block.0 block.1)) ∙ edge.leads in
      let there = target_marked marks func from block.0 edge.number (block_at to) reached marked block.1 leads in
      record {
        number = edge.number;
        leads = ap (λ (labels : List BlockId). slice_get labels edge.number)
            (succs_at (function_kept marks func) (new from) (block_kept kept block.0) forth ∙ targets_kept kept block.0)
            ∙ (get_map (label_kept kept) (targets block.0) edge.number (block_at to) leads ∙ ap (λ n. Some (block_at n)) (number_of_marked marks to there));
      }

  path_forth : (blocks : List ℕ) (last : ℕ) → Path (graph_of func) blocks last → Path new_graph (map (marks_before marks) blocks) (new last)
  path_forth _ _ at_entry = subst (λ (n : ℕ). Path new_graph (n ∷ []) n) (sym (before_none marks)) at_entry
  path_forth _ _ (along blocks from to path edge) =
      subst (λ (all : List ℕ). Path new_graph all (new to)) (sym (map-append (marks_before marks) blocks (to ∷ [])))
      (along (map (marks_before marks) blocks) (new from) (new to) (path_forth blocks from path) (edge_forth from to (reached.complete from (blocks, path)) edge))

  each_reached : IsReached (function_kept marks func)
  each_reached block within =
      let found = get_some (function_kept marks func).blocks block within in
      let origin = block_back marks func block found.0 found.1 in
      let path = reached.sound origin.place origin.marked in
      subst (Reached new_graph) origin.same (map (marks_before marks) path.0, path_forth path.0 origin.place path.1)

all_reached : (funcs after : List Function) → AllZip DropsUnreached funcs after → All IsReached after
all_reached [] [] zip = All-nil IsReached
all_reached [] (first ∷ after) zip = absurd zip
all_reached (func ∷ funcs) [] zip = absurd zip
all_reached (func ∷ funcs) (first ∷ after) zip =
    All-cons IsReached first after (subst IsReached (sym zip.0.rest) (each_reached zip.0.marks func zip.0.reached)) (all_reached funcs after zip.1)

pub unreached_are_gone : UnreachedAreGone
unreached_are_gone content after drops = all_reached content.funcs after.funcs drops.functions
