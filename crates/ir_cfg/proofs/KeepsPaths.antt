-- The edges and paths of a function without its unreached blocks, each by the one that it was.
use Rattle.std.proofs.Common.{◌≡◌, ℕ, zero, suc, Bool, true, if◌then◌else◌, List, [], ◌∷◌, ◌++◌, length, map, refl, ap, sym, arith, Some, slice_get, inl, inr, ◌∙◌, subst}
use Rattle.std.specs.List.{flat_map}
use Rattle.std.proofs.lemmas.List.{map-append, length-map}
use Rattle.std.proofs.lemmas.Option.{none-some, same_Some, slice_get_within, get_or_from_slice_get}
use Rattle.list_laws.proofs.Places.{get_map, get_pushed, get_some, map_back}
use Rattle.sp_ids.specs.declared.ids.BlockId.{BlockId}
use Rattle.ir_ast.specs.declared.ops.Op.{Op}
use Rattle.ir_ast.specs.declared.ops.Op.TheVariants.{Phi}
use Rattle.ir_ast.specs.Insts.{Instruction}
use Rattle.ir_ast.specs.Blocks.{BasicBlock}
use Rattle.ir_ast.specs.Funcs.{Function}
use Rattle.ir_ast.specs.Ops.{is_terminator}
use Rattle.ir_ast.specs.Edges.{targets}
use Rattle.ir_cfg.specs.Graphs.{Graph, Edge, block_at, graph_of, succs_of}
use Rattle.ir_cfg.specs.Paths.{Path, Reached, at_entry, along}
use Rattle.graph_search.specs.Paths.{Marked}
use Rattle.ir_cfg.specs.Marks.{MarksReached}
use Rattle.ir_cfg.specs.Unreached.{Kept, kept_by, label_kept, labels_kept, inst_kept, block_kept, function_kept}
use Rattle.ir_cfg.proofs.PathLemmas.{reached_by}
use Rattle.ir_cfg.proofs.KeepsPlaces.{before_le, before_same, marks_before, number_of_marked}
use Rattle.ir_cfg.proofs.KeepsLines.{block_forth}

own_kept : (kept : Kept) (op : Op) (labels : List BlockId)
    → (if is_terminator op then labels_kept kept op labels else []) ≡ map (label_kept kept) (if is_terminator op then labels else [])
own_kept kept Phi labels = refl
own_kept kept op labels = refl

all_own_kept : (kept : Kept) (insts : List Instruction)
    → flat_map (λ (inst : Instruction). if is_terminator inst.op then inst.labels else []) (map (inst_kept kept) insts)
    ≡ map (label_kept kept) (flat_map (λ (inst : Instruction). if is_terminator inst.op then inst.labels else []) insts)
all_own_kept kept [] = refl
all_own_kept kept (inst ∷ insts) =
    let own : List BlockId = if is_terminator inst.op then inst.labels else [] in
    let rest = flat_map (λ (inst : Instruction). if is_terminator inst.op then inst.labels else []) insts in
    ap (λ (zs : List BlockId). zs ++ flat_map (λ (inst : Instruction). if is_terminator inst.op then inst.labels else []) (map (inst_kept kept) insts)) (own_kept kept inst.op inst.labels)
    ∙ ap (λ (zs : List BlockId). map (label_kept kept) own ++ zs) (all_own_kept kept insts)
    ∙ sym (map-append (label_kept kept) own rest)

-- the edges of a block lead where they led
pub targets_kept : (kept : Kept) (block : BasicBlock) → targets (block_kept kept block) ≡ map (label_kept kept) (targets block)
targets_kept kept block = all_own_kept kept block.insts

pub succs_at : (func : Function) (number : ℕ) (block : BasicBlock) → slice_get func.blocks number ≡ Some block
    → succs_of (graph_of func) number ≡ targets block
succs_at func number block is =
    get_or_from_slice_get (graph_of func) number (targets block) [] (get_map targets func.blocks number block is)

pub marks_whole : (marks : List Bool) (func : Function) → MarksReached (graph_of func) marks → length marks ≡ length func.blocks
marks_whole marks func reached = reached.whole ∙ length-map func.blocks targets

-- the block of a mark
pub marked_block : (marks : List Bool) (func : Function) (number : ℕ) → MarksReached (graph_of func) marks → Marked marks number
    → (block : BasicBlock) × (slice_get func.blocks number ≡ Some block)
marked_block marks func number reached marked =
    let whole = marks_whole marks func reached in
    let within = slice_get_within marks number true marked in
    get_some func.blocks number (omega arith)

pub entry_marked : (marks : List Bool) (func : Function) → MarksReached (graph_of func) marks → Marked marks 0
entry_marked marks func reached = reached.complete 0 (0 ∷ [], at_entry)

-- a label of a reached block is reached
pub target_marked : (marks : List Bool) (func : Function) (number : ℕ) (block : BasicBlock) (edge : ℕ) (label : BlockId)
    → MarksReached (graph_of func) marks → Marked marks number → slice_get func.blocks number ≡ Some block
    → slice_get (targets block) edge ≡ Some label → Marked marks label.0
target_marked marks func number block edge label reached marked is leads =
    let there : slice_get (succs_of (graph_of func) number) edge ≡ Some label =
    ap (λ (ls : List BlockId). slice_get ls edge) (succs_at func number block is) ∙ leads in
    reached.complete label.0 (reached_by (graph_of func) number label.0 (reached.sound number marked) (record { number = edge; leads = there }))

-- what an edge of the new function comes from
pub record EdgeOrigin (marks : List Bool) (func : Function) (from to : ℕ) : Type 0 where
  pub old : ℕ
  pub edge : Edge (graph_of func) from old
  pub marked : Marked marks old
  pub same : marks_before marks old ≡ to

pub edge_back : (marks : List Bool) (func : Function) (from to : ℕ) → MarksReached (graph_of func) marks → Marked marks from
    → Edge (graph_of (function_kept marks func)) (marks_before marks from) to → EdgeOrigin marks func from to
edge_back marks func from to reached marked edge =
    let kept = kept_by marks func in
    let block = marked_block marks func from reached marked in
    let forth = block_forth marks func from block.0 marked block.1 in
    let there : slice_get (map (label_kept kept) (targets block.0)) edge.number ≡ Some (block_at to) =
    ap (λ (ls : List BlockId). slice_get ls edge.number) (sym (succs_at (function_kept marks func) (marks_before marks from) (block_kept kept block.0) forth ∙ targets_kept kept block.0))
    ∙ edge.leads in
    let m = map_back (label_kept kept) (targets block.0) edge.number (block_at to) there in
    let now = target_marked marks func from block.0 edge.number m.before reached marked block.1 m.stands in
    record {
      old = m.before.0;
      edge = record {
        number = edge.number;
        leads = ap (λ (ls : List BlockId). slice_get ls edge.number) (succs_at func from block.0 block.1) ∙ m.stands;
      };
      marked = now;
      same = sym (number_of_marked marks m.before.0 now) ∙ sym (ap (λ (b : BlockId). b.0) m.is);
    }

-- what a path of the new function comes from
pub record PathOrigin (marks : List Bool) (func : Function) (blocks : List ℕ) (block : ℕ) : Type 0 where
  pub old : List ℕ
  pub last : ℕ
  pub path : Path (graph_of func) old last
  pub marked : Marked marks last
  pub same : marks_before marks last ≡ block
  pub all : map (marks_before marks) old ≡ blocks

pub path_back : (marks : List Bool) (func : Function) → MarksReached (graph_of func) marks → (blocks : List ℕ) (block : ℕ)
    → Path (graph_of (function_kept marks func)) blocks block → PathOrigin marks func blocks block
path_back marks func reached _ _ at_entry =
    let le = before_le marks 0 in
    let none : marks_before marks 0 ≡ 0 = omega arith in
    record {
      old = 0 ∷ [];
      last = 0;
      path = at_entry;
      marked = entry_marked marks func reached;
      same = none;
      all = ap (λ (n : ℕ). n ∷ []) none;
    }
path_back marks func reached _ _ (along blocks from to path edge) =
    let o = path_back marks func reached blocks from path in
    let e = edge_back marks func o.last to reached o.marked
    (subst (λ (n : ℕ). Edge (graph_of (function_kept marks func)) n to) (sym o.same) edge) in
    record {
      old = o.old ++ e.old ∷ [];
      last = e.old;
      path = along o.old o.last e.old o.path e.edge;
      marked = e.marked;
      same = e.same;
      all = map-append (marks_before marks) o.old (e.old ∷ [])
          ∙ ap (λ (bs : List ℕ). bs ++ marks_before marks e.old ∷ []) o.all
          ∙ ap (λ (n : ℕ). blocks ++ n ∷ []) e.same;
    }

-- the new paths to a kept block are those to it
pub path_to : (marks : List Bool) (func : Function) (blocks : List ℕ) (block : ℕ) → MarksReached (graph_of func) marks → Marked marks block
    → Path (graph_of (function_kept marks func)) blocks (marks_before marks block)
    → (old : List ℕ) × Path (graph_of func) old block × (map (marks_before marks) old ≡ blocks)
path_to marks func blocks block reached marked path =
    let o = path_back marks func reached blocks (marks_before marks block) path in
    let last : o.last ≡ block = before_same marks o.last block o.marked marked o.same in
    (o.old, subst (λ (n : ℕ). Path (graph_of func) o.old n) last o.path, o.all)

only_zero : (k block : ℕ) → slice_get (0 ∷ []) k ≡ Some block → block ≡ 0
only_zero zero block is = sym (same_Some 0 block is)
only_zero (suc k) block is = absurd (none-some block is)

-- each block of a path is reached
pub on_path : (graph : Graph) (blocks : List ℕ) (last : ℕ) → Path graph blocks last → (k block : ℕ)
    → slice_get blocks k ≡ Some block → Reached graph block
on_path graph _ _ at_entry k block is =
    (0 ∷ [], subst (λ (n : ℕ). Path graph (0 ∷ []) n) (sym (only_zero k block is)) at_entry)
on_path graph _ _ (along blocks from to path edge) k block is =
    elim (get_pushed blocks to k block is) [
      | inl earlier ↦ on_path graph blocks from path k block earlier
      | inr now ↦ (blocks ++ to ∷ [], subst (λ (n : ℕ). Path graph (blocks ++ to ∷ []) n) (sym now) (along blocks from to path edge))
    ]
