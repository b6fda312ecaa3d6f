-- The edges of blocks.
use Rattle.std.proofs.Common.{◌≡◌, nat_le, ℕ, ◌<◌, ◌-◌, Bool, true, false, if◌then◌else◌, List, [], ◌∷◌, length, map, ap, sym, subst, arith, Some, slice_get, ◌∙◌}
use Rattle.std.specs.List.{All, flat_map}
use Rattle.std.proofs.lemmas.List.Elements.{All-nil, All-cons, All-head, All-tail, All-append}
use Rattle.list_laws.proofs.Places.{get_middle}
use Rattle.list_laws.proofs.Contents.{all_front, all_back}
use Rattle.sp_ids.specs.declared.ids.BlockId.{BlockId}
use Rattle.ir_ast.specs.Funcs.{Function, instructions_of}
use Rattle.ir_ast.specs.Ops.{is_terminator}
use Rattle.ir_ast.specs.Faults.UnknownName.{NamesOfFunction, LocalNamesAreKnown}
use Rattle.std.specs.List.{list_any}
use Rattle.std.proofs.lemmas.List.Folds.{Any-from_list_any, list_any_at}
use Rattle.std.proofs.lemmas.Bool.{le-leb, leb-true}
use Rattle.std.proofs.lemmas.Option.{slice_get_within, get_or_from_slice_get, slice_get-get_or}
use Rattle.ir_cfg.specs.Graphs.{Graph, Retreats, block_at, succs_of, graph_of}
use Rattle.ir_cfg.specs.Turned.{LeadsInside}
use Rattle.std.proofs.lemmas.List.{length-append, length-map}
use Rattle.ir_ast.specs.Insts.{Instruction}
use Rattle.ir_ast.specs.Blocks.{BasicBlock, EndsAtTerminator}
use Rattle.ir_ast.specs.Edges.{targets}
use Rattle.ir_ast.proofs.BlockLemmas.{targets-last}

pub labels_of_last : (block : BasicBlock) (inst : Instruction) → EndsAtTerminator block.insts
    → slice_get block.insts (length block.insts - 1) ≡ Some inst → inst.labels ≡ targets block
labels_of_last block inst ended found =
    let place : length block.insts - 1 ≡ length ended.before = omega (arith, length-append ended.before (ended.last ∷ []), ap length ended.whole) in
    let last = get_middle ended.before ended.last [] in
    let whole = ended.whole in
    let labels = targets-last block ended in
    let same : slice_get block.insts (length ended.before) ≡ Some inst = rw (← place) found in
    let at : slice_get block.insts (length ended.before) ≡ Some ended.last = rw whole last in
    cc

-- the labels of one instruction, where it ends a block
abbrev own_targets : Instruction → List BlockId
own_targets inst = if is_terminator inst.op then inst.labels else []

own_inside : (func : Function) (inst : Instruction) (terminates : Bool) → NamesOfFunction func inst
    → All (λ label. label.0 < length func.blocks) (if terminates then inst.labels else [])
own_inside func inst true known = known.blocks
own_inside func inst false known = All-nil _

targets_inside : (func : Function) (insts : List Instruction) → All (NamesOfFunction func) insts
    → All (λ label. label.0 < length func.blocks) (flat_map own_targets insts)
targets_inside func [] known = All-nil _
targets_inside func (inst ∷ insts) known =
    All-append (λ (label : BlockId). label.0 < length func.blocks) (own_targets inst) (flat_map own_targets insts)
    (own_inside func inst (is_terminator inst.op) (All-head (NamesOfFunction func) inst insts known))
    (targets_inside func insts (All-tail (NamesOfFunction func) inst insts known))

rows_inside : (func : Function) (blocks : List BasicBlock) → All (NamesOfFunction func) (instructions_of blocks)
    → All (λ row. All (λ label. label.0 < length func.blocks) row) (map targets blocks)
rows_inside func [] known = All-nil _
rows_inside func (block ∷ blocks) known =
    All-cons (λ (row : List BlockId). All (λ (label : BlockId). label.0 < length func.blocks) row) (targets block) (map targets blocks)
    (targets_inside func block.insts (all_front (NamesOfFunction func) block.insts (instructions_of blocks) known))
    (rows_inside func blocks (all_back (NamesOfFunction func) block.insts (instructions_of blocks) known))

-- the edges of a formed function lead to its blocks
pub leads_inside : (func : Function) → LocalNamesAreKnown func → LeadsInside (graph_of func)
leads_inside func known =
    subst (λ (n : ℕ). All (λ (row : List BlockId). All (λ (label : BlockId). label.0 < n) row) (graph_of func)) (sym (length-map func.blocks targets))
    (rows_inside func func.blocks known)

-- whether an edge leads back
pub leads_back : (graph : Graph) (block : ℕ) → list_any (λ to. nat_le to.0 block) (succs_of graph block) ≡ true → Retreats graph block
leads_back graph block some =
    let any = Any-from_list_any (λ (to : BlockId). nat_le to.0 block) (succs_of graph block) some in
    let stands = slice_get-get_or (succs_of graph block) any.0 any.1 any.2 in
    record {
      to = any.1.0;
      edge = record { number = any.0; leads = stands ∙ ap (λ (b : BlockId). Some b) any.3 };
      back = leb-true any.1.0 block any.4;
    }

pub back_leads : (graph : Graph) (block : ℕ) → Retreats graph block → list_any (λ to. nat_le to.0 block) (succs_of graph block) ≡ true
back_leads graph block back =
    let within = slice_get_within (succs_of graph block) back.edge.number (block_at back.to) back.edge.leads in
    let is = get_or_from_slice_get (succs_of graph block) back.edge.number (block_at back.to) (block_at back.to) back.edge.leads in
    list_any_at (λ (to : BlockId). nat_le to.0 block) (succs_of graph block) back.edge.number (block_at back.to) within
    (rw is (le-leb back.to block back.back))
