-- Every cycle of reached blocks has a poll.
use Rattle.std.proofs.Common.{◌≡◌, ℕ, zero, suc, ◌+◌, ◌<◌, ◌≤◌, Bool, true, false, ◌&&◌, ◌||◌, if◌then◌else◌, List, [], ◌∷◌, ◌++◌, length, map, refl, sym, ap, subst, ◌∙◌, append_assoc, arith}
use Rattle.std.specs.Prelude.{Some, slice_get, nat_le}
use Rattle.std.specs.List.{All, Contains, flat_map, list_any}
use Rattle.std.specs.Option.{option_map}
use Rattle.std.proofs.lemmas.Bool.{le-leb}
use Rattle.std.proofs.lemmas.Grind.{flat_map-append}
use Rattle.std.proofs.lemmas.List.{length-map}
use Rattle.list_laws.proofs.Places.{get_some}
use Rattle.list_laws.proofs.Contents.{all_at}
use Rattle.sp_ids.specs.declared.ids.BlockId.{BlockId}
use Rattle.ir_ast.specs.Insts.{Instruction}
use Rattle.ir_ast.specs.Blocks.{BasicBlock, EndsAtTerminator}
use Rattle.ir_ast.specs.Edges.{targets}
use Rattle.ir_ast.specs.Funcs.{Function}
use Rattle.ir_ast.specs.Ops.{is_terminator}
use Rattle.ir_ast.proofs.BlockLemmas.{targets-last}
use Rattle.ir_cfg.specs.Graphs.{Graph, block_at, graph_of, succs_of}
use Rattle.ir_cfg.specs.Paths.{Reached, Way}
use Rattle.ir_cfg.specs.PollPoints.{PollsAtEnd}
use Rattle.ir_cfg.proofs.CycleLemmas.{cycles_poll}
use Rattle.ir_cfg.proofs.PathLemmas.{edge_within}
use Rattle.object_meaning.specs.Lines.{retreats}
use Rattle.base_forms.specs.Polls.{front_poll, placed, placed_block, placed_from, poll_call, polled}
use Rattle.base_laws.specs.PollsPlaced.{EndsWithPoll}
use Rattle.base_laws.specs.Statements.{PlacedCyclesPoll}
use Rattle.base_forms.proofs.PlacedLaws.{block_placed}

-- ---- polls change no edge

abbrev own_targets : Instruction → List BlockId
own_targets inst = if is_terminator inst.op then inst.labels else []

targets_polled : (number : ℕ) (insts : List Instruction) → flat_map own_targets (flat_map (polled number) insts) ≡ flat_map own_targets insts
targets_polled number [] = refl
targets_polled number (inst ∷ insts) = by (retreats number inst) (targets_polled number insts)
  where
    by : (b : Bool) → flat_map own_targets (flat_map (polled number) insts) ≡ flat_map own_targets insts
        → flat_map own_targets (((if b then poll_call ∷ [] else []) ++ inst ∷ []) ++ flat_map (polled number) insts) ≡ own_targets inst ++ flat_map own_targets insts
    by true rest = ap (λ more. own_targets inst ++ more) rest
    by false rest = ap (λ more. own_targets inst ++ more) rest

targets_placed : (number : ℕ) (block : BasicBlock) → targets (placed_block number block) ≡ targets block
targets_placed zero block = targets_polled zero block.insts
targets_placed (suc number) block = targets_polled (suc number) block.insts

edges_placed : (number : ℕ) (blocks : List BasicBlock) → map targets (placed_from number blocks) ≡ map targets blocks
edges_placed number [] = refl
edges_placed number (block ∷ blocks) =
    ap (λ row. row ∷ map targets (placed_from (suc number) blocks)) (targets_placed number block) ∙ ap (λ rows. targets block ∷ rows) (edges_placed (suc number) blocks)

pub graph_placed : (func : Function) → graph_of (placed func) ≡ graph_of func
graph_placed func = edges_placed 0 func.blocks

-- ---- a block that leads back polls

any_back : (block : ℕ) (labels : List BlockId) (number to : ℕ) → slice_get labels number ≡ Some (block_at to) → to ≤ block → list_any (λ label. nat_le label.0 block) labels ≡ true
any_back block [] number to at back = absurd cc
any_back block (label ∷ labels) zero to at back =
    let same : label ≡ block_at to = cc in
    let here : nat_le label.0 block ≡ true = ap (λ (each : BlockId). nat_le each.0 block) same ∙ le-leb to block back in
    ap (λ b. b || list_any (λ (each : BlockId). nat_le each.0 block) labels) here
any_back block (label ∷ labels) (suc number) to at back = by (nat_le label.0 block) (any_back block labels number to at back)
  where
    by : (b : Bool) → list_any (λ (each : BlockId). nat_le each.0 block) labels ≡ true → b || list_any (λ (each : BlockId). nat_le each.0 block) labels ≡ true
    by true rest = refl
    by false rest = rest

module _ (func : Function) (ends : All (λ block. EndsAtTerminator block.insts) func.blocks) (polling : ℕ) (polls : PollsAtEnd (graph_of func) polling) where
  within : polling < length func.blocks
  within =
      let below = edge_within (graph_of func) polling (polls.retreats).to (polls.retreats).edge in
      let same = length-map func.blocks targets in
      omega arith

  abbrev block : BasicBlock
  block = (get_some func.blocks polling within).0

  found : slice_get func.blocks polling ≡ Some block
  found = (get_some func.blocks polling within).1

  ended : EndsAtTerminator block.insts
  ended = all_at (λ (each : BasicBlock). EndsAtTerminator each.insts) func.blocks polling block ends found

  row_is : (blocks : List BasicBlock) (place : ℕ) (here : BasicBlock) → slice_get blocks place ≡ Some here → succs_of (map targets blocks) place ≡ targets here
  row_is [] place here at = absurd cc
  row_is (first ∷ blocks) zero here at = let same : first ≡ here = cc in ap targets same
  row_is (first ∷ blocks) (suc place) here at = row_is blocks place here at

  leads_back : retreats polling ended.last ≡ true
  leads_back =
      let row = row_is func.blocks polling block found ∙ targets-last block ended in
      let at = ap (λ (labels : List BlockId). slice_get labels ((polls.retreats).edge).number) (sym row) ∙ ((polls.retreats).edge).leads in
      let back = any_back polling ended.last.labels ((polls.retreats).edge).number (polls.retreats).to at (polls.retreats).back in
      ap (λ b. b && list_any (λ (label : BlockId). nat_le label.0 polling) ended.last.labels) ended.ends ∙ back

  polled_is : flat_map (polled polling) block.insts ≡ flat_map (polled polling) ended.before ++ poll_call ∷ ended.last ∷ []
  polled_is =
      ap (flat_map (polled polling)) ended.whole
      ∙ (flat_map-append (polled polling) ended.before (ended.last ∷ [])
      ∙ ap (λ (b : Bool). flat_map (polled polling) ended.before ++ (((if b then poll_call ∷ [] else []) ++ ended.last ∷ []) ++ [])) leads_back)

  pub ends_with_poll : EndsWithPoll (placed func) polling
  ends_with_poll = record {
    block = placed_block polling block;
    in_function =
        let number : 0 + polling ≡ polling = omega arith in
        block_placed 0 polling func.blocks ∙ (ap (option_map (placed_block (0 + polling))) found ∙ ap (λ n. Some (placed_block n block)) number);
    before = front_poll polling ++ flat_map (polled polling) ended.before;
    last = ended.last;
    whole = ap (λ rest. front_poll polling ++ rest) polled_is
        ∙ sym (append_assoc (front_poll polling) (flat_map (polled polling) ended.before) (poll_call ∷ ended.last ∷ []));
    ends = ended.ends;
  }

in_source : (func : Function) → All (λ block. EndsAtTerminator block.insts) func.blocks → (graph : Graph) → graph ≡ graph_of func
    → (block : ℕ) (blocks : List ℕ) → Reached graph block → Way graph block blocks block
    → (polling : ℕ) × Contains blocks polling × EndsWithPoll (placed func) polling
in_source func ends graph same block blocks reached cycle =
    let found = cycles_poll (graph_of func) block blocks (subst (λ (g : Graph). Reached g block) same reached) (subst (λ (g : Graph). Way g block blocks block) same cycle) in
    (found.0, found.1, ends_with_poll func ends found.0 found.2)

pub placed_cycles_poll : PlacedCyclesPoll
placed_cycles_poll func ends = (graph_placed func, in_source func ends (graph_of (placed func)) (graph_placed func))
