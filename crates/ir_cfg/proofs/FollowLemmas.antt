-- Blocks that are found in text order.
use Rattle.std.proofs.Common.{◌≡◌, ℕ, ◌<◌, ◌+◌, Bool, true, false, List, [], ◌∷◌, length, replicate, ap, sym, arith, Some, slice_get, inl, inr, ◌⊎◌, ◌∙◌, subst}
use Rattle.std.proofs.lemmas.List.{length-map, length-replicate}
use Rattle.std.proofs.lemmas.Option.{slice_get_within}
use Rattle.list_laws.proofs.Places.{cases_below, get_filled, get_replicate}
use Rattle.sp_ids.specs.declared.ids.BlockId.{BlockId}
use Rattle.ir_ast.specs.Blocks.{BasicBlock}
use Rattle.ir_ast.specs.Funcs.{Function}
use Rattle.ir_ast.specs.Formed.{IsFormed}
use Rattle.ir_ast.specs.Edges.{targets}
use Rattle.graph_search.specs.Paths.{Marked}
use Rattle.ir_cfg.specs.Graphs.{Graph, graph_of, block_at}
use Rattle.ir_cfg.specs.Paths.{Path, Reached, at_entry, along}
use Rattle.ir_cfg.specs.Turned.{LeadsInside}
use Rattle.ir_cfg.specs.Followed.{AreReached, MarksMore}
use Rattle.ir_cfg.specs.Unreached.{DropsUnreached}
use Rattle.ir_cfg.proofs.GraphLemmas.{leads_inside}
use Rattle.ir_cfg.proofs.PathLemmas.{edge_inside, reached_by}
use Rattle.ir_cfg.proofs.KeepsPaths.{succs_at}
use Rattle.ir_cfg.proofs.KeepsAll.{kept_as_is}

pub none_marked : (n block : ℕ) → Marked (replicate n false) block → true ≡ false
none_marked n block marked = get_filled n false block true marked

pub entry_reached : (graph : Graph) (block : ℕ) → block ≡ 0 → Reached graph block
entry_reached graph block same = subst (Reached graph) (sym same) (0 ∷ [], at_entry)

-- one label more
pub label_marked : (labels : List BlockId) (place : ℕ) (label : BlockId) (first old new : List Bool) → slice_get labels place ≡ Some label
    → MarksMore labels first old → length new ≡ length old → ((block : ℕ) → Marked new block → Marked old block ⊎ (block ≡ label.0))
    → MarksMore labels first new
label_marked labels place label first old new stands before whole each = record {
  whole = whole ∙ before.whole;
  each = λ block marked. elim (each block marked) [
    | inl was ↦ before.each block was
    | inr same ↦ inr (place, stands ∙ ap (λ (b : ℕ). Some (block_at b)) (sym same))
  ];
}

-- the labels of a reached block lead to reached ones
pub targets_reached : (func : Function) (place : ℕ) (block : BasicBlock) (old new : List Bool) → slice_get func.blocks place ≡ Some block
    → Reached (graph_of func) place → ((b : ℕ) → Marked old b → Reached (graph_of func) b) → MarksMore (targets block) old new
    → (b : ℕ) → Marked new b → Reached (graph_of func) b
targets_reached func place block old new stands reached sound more b marked =
    elim (more.each b marked) [
      | inl was ↦ sound b was
      | inr edge ↦ reached_by (graph_of func) place b reached (record {
        number = edge.0;
        leads = ap (λ (row : List BlockId). slice_get row edge.0) (succs_at func place block stands) ∙ edge.1;
      })
    ]

pub passed_more : (graph : Graph) (place : ℕ) → ((b : ℕ) → b < place → Reached graph b) → Reached graph place
    → (b : ℕ) → b < place + 1 → Reached graph b
passed_more graph place before here b below =
    elim (cases_below b place below) [
      | inl earlier ↦ before b earlier
      | inr same ↦ subst (Reached graph) (sym same) here
    ]

path_inside : (graph : Graph) (blocks : List ℕ) (block : ℕ) → LeadsInside graph → 0 < length graph → Path graph blocks block
    → block < length graph
path_inside graph _ _ inside some at_entry = some
path_inside graph _ _ inside some (along blocks from to path edge) = edge_inside graph from to inside edge

-- where paths lead to all blocks, all are kept
pub drops_none : (func : Function) → IsFormed func → AreReached (graph_of func) → DropsUnreached func func
drops_none func formed all =
    let long = length-map func.blocks targets in
    let count = length-replicate (length func.blocks) true in
    record {
      marks = replicate (length func.blocks) true;
      reached = record {
        whole = count ∙ sym long;
        sound = λ block marked.
            let within = slice_get_within (replicate (length func.blocks) true) block true marked in
            all block (omega (arith, within, long, count));
        complete = λ block reached.
            let within = path_inside (graph_of func) reached.0 block (leads_inside func formed.known) (omega (arith, formed.has_block, long)) reached.1 in
            get_replicate (length func.blocks) block true (omega (arith, within, long));
      };
      rest = sym (kept_as_is func formed);
    }
