-- The polls of a function stand at its poll points.
use Rattle.std.proofs.Common.{◌≡◌, ◌≢◌, ◌∙◌, ℕ, zero, suc, ◌+◌, ◌-◌, ◌<◌, Bool, true, false, not, if◌then◌else◌, nat_le, List, [], ◌∷◌, ◌++◌, length, map, Some, slice_get, refl, ap, sym, subst, arith, append-nil, inl, inr, ◌⊎◌}
use Rattle.std.specs.List.{flat_map, list_all, list_any, All}
use Rattle.std.proofs.lemmas.Bool.Decides.{nat_tests}
use Rattle.std.proofs.lemmas.Bool.{true≢false}
use Rattle.std.proofs.lemmas.List.{length-append}
use Rattle.std.proofs.lemmas.List.Elements.{All-head, All-tail}
use Rattle.std.proofs.lemmas.Option.{none-some, same_Some, slice_get_within, get_or_from_slice_get}
use Rattle.sp_ids.specs.declared.ids.BlockId.{BlockId}
use Rattle.list_laws.proofs.Places.{get_map}
use Rattle.list_laws.proofs.Contents.{all_at, all_front, all_back}
use Rattle.ir_ast.specs.Insts.{Instruction}
use Rattle.ir_ast.specs.Blocks.{BasicBlock, EndsAtTerminator}
use Rattle.ir_ast.specs.Funcs.{Function, instructions_of}
use Rattle.ir_ast.specs.Ops.{is_terminator}
use Rattle.ir_ast.specs.Edges.{targets}
use Rattle.ir_ast.specs.Faults.EntryHasPred.{LeavesEntry}
use Rattle.ir_ast.proofs.BlockLemmas.{targets-last}
use Rattle.ir_cfg.specs.Graphs.{graph_of, succs_of}
use Rattle.ir_cfg.specs.Paths.{Reached}
use Rattle.ir_cfg.specs.PollPoints.{PollPoint, PollsAtEnd, at_front, at_end}
use Rattle.ir_cfg.proofs.GraphLemmas.{leads_back, back_leads}
use Rattle.object_meaning.specs.Lines.{retreats}
use Rattle.base_forms.specs.Polls.{poll_call, front_poll, polled, placed_block, placed_from}
use Rattle.poll_place.specs.AtPoints.{HasPolls, no_more, goes_by, polls, IsReached, PollsStandAtPoints}
use Rattle.poll_place.proofs.PlacedLemmas.{length-placed_from}
use Rattle.ir_cfg.proofs.KeepsPaths.{succs_at}

-- ---- what a poll point is

pub record EndsAt (func : Function) (number place : ℕ) : Type 0 where
  pub block : BasicBlock
  pub found : slice_get func.blocks number ≡ Some block
  pub ends : PollsAtEnd (graph_of func) number
  pub last : place ≡ length block.insts - 1

point_is : (func : Function) (number place : ℕ) → PollPoint func number place
    → ((number ≡ 0) × (place ≡ 0)) ⊎ EndsAt func number place
point_is func _ _ at_front = inl (refl, refl)
point_is func _ _ (at_end number block found ends) = inr (record { block = block; found = found; ends = ends; last = refl })

-- ---- the terminator

-- the last instruction of a block retreats exactly where an edge of the block leads back
last_retreats : (func : Function) (number : ℕ) (block : BasicBlock) (ends : EndsAtTerminator block.insts) → slice_get func.blocks number ≡ Some block
    → retreats number ends.last ≡ list_any (λ to. nat_le to.0 number) (succs_of (graph_of func) number)
last_retreats func number block ends found =
    rw (succs_at func number block found, targets-last block ends, ends.ends) refl

-- ---- one block

module _ (func : Function) (number : ℕ) (block : BasicBlock) (found : slice_get func.blocks number ≡ Some block) where
  same_block : (other : BasicBlock) → slice_get func.blocks number ≡ Some other → other ≡ block
  same_block other at = same_Some other block (sym at ∙ found)

  -- no poll stands before the last place, but at the front of the entry
  before_end : (place : ℕ) → suc place < length block.insts → (number ≡ 0 → place ≡ 0 → ⊥) → ¬ PollPoint func number place
  before_end place inside apart point =
      elim (point_is func number place point) [
        | inl front ↦ apart front.0 front.1
        | inr at ↦ absurd (omega (arith, at.last, ap (λ (b : BasicBlock). length b.insts) (same_block at.block at.found)))
      ]

  at_last : (place : ℕ) (last : Instruction) (does : Bool) → Reached (graph_of func) number → suc place ≡ length block.insts
      → (number ≡ 0 → place ≡ 0 → ⊥)
      → retreats number last ≡ does → does ≡ list_any (λ to. nat_le to.0 number) (succs_of (graph_of func) number)
      → HasPolls func number place (last ∷ []) ((if does then poll_call ∷ [] else []) ++ last ∷ [])
  at_last place last true reached size apart is leads =
      let point : PollPoint func number place =
      subst (λ n. PollPoint func number n) (omega arith)
      (at_end number block found (record { reached = reached; retreats = leads_back (graph_of func) number (sym leads) })) in
      polls place last [] [] point (no_more (suc place))
  at_last place last false reached size apart is leads =
      goes_by place last [] []
      (λ point. elim (point_is func number place point) [
        | inl front ↦ apart front.0 front.1
        | inr at ↦ true≢false (sym (back_leads (graph_of func) number at.ends.retreats) ∙ sym leads)
      ])
      (no_more (suc place))

  -- from a place on that isn't the front of the entry
  polls_behind : (place : ℕ) (before : List Instruction) (last : Instruction) → Reached (graph_of func) number
      → length block.insts ≡ place + length (before ++ last ∷ []) → (number ≡ 0 → place ≡ 0 → ⊥)
      → list_all (λ inst. not (is_terminator inst.op)) before ≡ true
      → retreats number last ≡ list_any (λ to. nat_le to.0 number) (succs_of (graph_of func) number)
      → HasPolls func number place (before ++ last ∷ []) (flat_map (polled number) (before ++ last ∷ []))
  polls_behind place [] last reached size apart inside is =
      subst (λ zs. HasPolls func number place (last ∷ []) zs) (sym (append-nil (polled number last)))
      (at_last place last (retreats number last) reached (omega arith) apart refl is)
  polls_behind place (inst ∷ before) last reached size apart inside is =
      let plain : is_terminator inst.op ≡ false = grind arith in
      let rest : list_all (λ i. not (is_terminator i.op)) before ≡ true = grind arith in
      rw plain
      (goes_by place inst (before ++ last ∷ []) (flat_map (polled number) (before ++ last ∷ []))
      (before_end place (omega (arith, length-append before (last ∷ []))) apart)
      (polls_behind (suc place) before last reached (omega arith) (λ _ none. absurd (omega arith)) rest is))

-- ---- the entry

leaves_entry : (blocks : List BasicBlock) (block : BasicBlock) → slice_get blocks 0 ≡ Some block → All LeavesEntry (instructions_of blocks)
    → All LeavesEntry block.insts
leaves_entry [] block found all = absurd (none-some block found)
leaves_entry (first ∷ blocks) block found all =
    subst (λ (b : BasicBlock). All LeavesEntry b.insts) (same_Some first block found) (all_front LeavesEntry first.insts (instructions_of blocks) all)

last_leaves : (before : List Instruction) (last : Instruction) → All LeavesEntry (before ++ last ∷ []) → LeavesEntry last
last_leaves before last all = All-head LeavesEntry last [] (all_back LeavesEntry before (last ∷ []) all)

goes_on : (n : ℕ) → n ≢ 0 → nat_le n 0 ≡ false
goes_on zero some = absurd (some refl)
goes_on (suc n) some = grind (arith, nat_tests)

never_back : (labels : List BlockId) → All (λ label. label.0 ≢ 0) labels → list_any (λ to. nat_le to.0 0) labels ≡ false
never_back [] none = refl
never_back (label ∷ labels) none =
    rw (goes_on label.0 (All-head (λ (l : BlockId). l.0 ≢ 0) label labels none))
    (never_back labels (All-tail (λ (l : BlockId). l.0 ≢ 0) label labels none))

entry_stays : (before : List Instruction) (last : Instruction) → All LeavesEntry (before ++ last ∷ []) → is_terminator last.op ≡ true
    → retreats 0 last ≡ false
entry_stays before last all ends = rw ends (never_back last.labels (last_leaves before last all ends))

entry_polls : (func : Function) (block : BasicBlock) (before : List Instruction) (last : Instruction) → slice_get func.blocks 0 ≡ Some block
    → Reached (graph_of func) 0 → block.insts ≡ before ++ last ∷ []
    → list_all (λ inst. not (is_terminator inst.op)) before ≡ true
    → retreats 0 last ≡ list_any (λ to. nat_le to.0 0) (succs_of (graph_of func) 0) → retreats 0 last ≡ false
    → HasPolls func 0 0 (before ++ last ∷ []) (poll_call ∷ flat_map (polled 0) (before ++ last ∷ []))
entry_polls func block [] last found reached whole inside is stays =
    rw stays (polls 0 last [] [] at_front (no_more 1))
entry_polls func block (inst ∷ before) last found reached whole inside is stays =
    let plain : is_terminator inst.op ≡ false = grind arith in
    let rest : list_all (λ i. not (is_terminator i.op)) before ≡ true = grind arith in
    rw plain
    (polls 0 inst (before ++ last ∷ []) (flat_map (polled 0) (before ++ last ∷ [])) at_front
    (polls_behind func 0 block found 1 before last reached (omega (arith, ap length whole)) (λ _ one. absurd (omega arith)) rest is))

-- ---- all blocks

placed_at : (number place : ℕ) (blocks : List BasicBlock) (block : BasicBlock) → slice_get blocks place ≡ Some block
    → slice_get (placed_from number blocks) place ≡ Some (placed_block (number + place) block)
placed_at number place [] block found = absurd (none-some block found)
placed_at number zero (first ∷ blocks) block found =
    ap (λ (b : BasicBlock). Some (placed_block number b)) (same_Some first block found) ∙ ap (λ n. Some (placed_block n block)) (omega arith)
placed_at number (suc place) (first ∷ blocks) block found =
    placed_at (suc number) place blocks block found ∙ ap (λ n. Some (placed_block n block)) (omega arith)

block_polls : (func : Function) → IsReached func → (number : ℕ) (block : BasicBlock) → slice_get func.blocks number ≡ Some block
    → HasPolls func number 0 block.insts (front_poll number ++ flat_map (polled number) block.insts)
block_polls func is zero block found =
    let ends = all_at (λ (b : BasicBlock). EndsAtTerminator b.insts) func.blocks 0 block is.ends found in
    let reached = is.reached 0 (slice_get_within func.blocks 0 block found) in
    let same = last_retreats func 0 block ends found in
    let all : All LeavesEntry (ends.before ++ ends.last ∷ []) = rw ends.whole at (leaves_entry func.blocks block found is.entry) in
    rw ends.whole
    (entry_polls func block ends.before ends.last found reached ends.whole ends.inside same (entry_stays ends.before ends.last all ends.ends))
block_polls func is (suc number) block found =
    let ends = all_at (λ (b : BasicBlock). EndsAtTerminator b.insts) func.blocks (suc number) block is.ends found in
    let reached = is.reached (suc number) (slice_get_within func.blocks (suc number) block found) in
    rw ends.whole
    (polls_behind func (suc number) block found 0 ends.before ends.last reached (omega (arith, ap length ends.whole)) (λ none _. absurd (omega arith)) ends.inside
    (last_retreats func (suc number) block ends found))

pub polls_at_points : PollsStandAtPoints
polls_at_points func is = record {
  name = refl;
  answer = refl;
  args = refl;
  count = length-placed_from 0 func.blocks;
  blocks = λ number block given found at.
      let stands = placed_at 0 number func.blocks block found in
      let same : given ≡ placed_block number block = same_Some given (placed_block number block) (sym at ∙ stands ∙ ap (λ n. Some (placed_block n block)) (omega arith)) in
      record { name = ap (λ (b : BasicBlock). b.name) same; insts = rw same (block_polls func is number block found) };
}
