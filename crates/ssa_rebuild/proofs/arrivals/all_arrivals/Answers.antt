use Rattle.std.proofs.Common.{◌∙◌, ◌≡◌, ◌<◌, ◌≤◌, ◌+◌, ◌++◌, ℕ, List, Some, slice_get, refl, ap, sym, arith, length, map, take, get_or}
use Rattle.std.specs.List.{flat_map}
use Rattle.std.proofs.lemmas.List.{take_all, length-map}
use Rattle.std.proofs.lemmas.Option.{slice_get-get_or}
use Rattle.sp_ids.specs.declared.ids.BlockId.{BlockId}
use Rattle.sp_ids.specs.declared.ids.ValueId.{ValueId}
use Rattle.ir_ast.specs.Insts.{Instruction}
use Rattle.ir_ast.specs.Blocks.{BasicBlock}
use Rattle.ir_cfg.specs.Graphs.{preds_of}
use Rattle.list_laws.proofs.Places.{get_map}
use Rattle.rewriting_forms.specs.Numbered.{preds}
use Rattle.ssa_rebuild.specs.Rows.{entries_all, inserted_entries, phi_entries}
use Rattle.ssa_rebuild.specs.Arrivals.{arriving_numbers, into_numbers}
use Rattle.ssa_rebuild.proofs.RowLemmas.{entries_on}
use Rattle.ssa_rebuild.proofs.TakeLemmas.{takes_none, takes_both, takes_same, holds_all, arriving_on}
use Rattle.ssa_rebuild.proofs.arrivals.all_arrivals.Goals as goal
use Rattle.statepoint_insert.specs.Groups.{numbers_in}

pub loop-block-init : goal.loop-block-init
loop-block-init c = record { taken = takes_none c.args.rows.now _ _ _ (λ p. refl) (λ here. refl); number = refl }

pub loop-block-preserved : goal.loop-block-preserved
loop-block-preserved c =
    let func = c.args.func.now.content in
    let blocks = c.blocks-block-items.result.now in
    let k = c.loop-block.block-index in
    let block = c.block-item.result in
    let joins : List (List ℕ) = map (λ join. numbers_in join.items) c.args.joins.now in
    let join = c.index-joins-number.result in
    let number_is = c.loop-block.invariant.number in
    let many = ap length c.blocks-block-items.ensures.value in
    let within : k < length c.args.joins.now = omega (arith, many, c.requires.joins, c.loop-block-test.true) in
    let z : 0 + k ≡ k = omega arith in
    let stands : slice_get c.args.joins.now k ≡ Some join = slice_get-get_or c.args.joins.now k join within ∙ ap Some (sym (c.index-joins-number.is ∙ ap (λ (n : ℕ). get_or c.args.joins.now n join) number_is)) in
    let there : slice_get joins k ≡ Some (numbers_in join.items) = get_map (λ join. numbers_in join.items) c.args.joins.now k join stands in
    let here : slice_get blocks k ≡ Some block = slice_get-get_or blocks k block c.loop-block-test.true ∙ ap Some (sym c.block-item.is) in
    let before : map (λ block. block.0) c.preds-preds.result.now ≡ preds func (0 + k) =
    ap (map (λ (block : BlockId). block.0)) (c.preds-preds.ensures ∙ ap (λ (g : List (List BlockId)). preds_of g c.loop-block.number) c.requires.cfg)
    ∙ ap (preds func) (number_is ∙ sym z) in
    record {
      taken = takes_both c.args.rows.now _ c.loop-block.arrivals c.take_entries.new.arrivals _ _ _ _ _ _ c.loop-block.invariant.taken c.in_ok-take_entries.ensures
          (λ p. entries_on (preds func) joins 0 blocks k p (numbers_in join.items) block there here
          ∙ sym (ap (λ (bs : List ℕ). entries_all (preds func) (take k joins) 0 (take k blocks) p ++ (flat_map (inserted_entries p bs) (numbers_in c.as_slice.result.now) ++ flat_map (phi_entries p) c.insts.result.now)) before
          ∙ ap (λ (vs : List ValueId). entries_all (preds func) (take k joins) 0 (take k blocks) p ++ (flat_map (inserted_entries p (preds func (0 + k))) (numbers_in vs) ++ flat_map (phi_entries p) c.insts.result.now)) c.as_slice.ensures.value
          ∙ ap (λ (is : List Instruction). entries_all (preds func) (take k joins) 0 (take k blocks) p ++ (flat_map (inserted_entries p (preds func (0 + k))) (numbers_in join.items) ++ flat_map (phi_entries p) is)) c.insts.ensures.value))
          (λ behind. arriving_on behind (preds func) joins 0 blocks k (numbers_in join.items) block there here
          ∙ sym (ap (λ (bs : List ℕ). arriving_numbers behind (preds func) (take k joins) 0 (take k blocks) ++ into_numbers behind bs (numbers_in c.as_slice.result.now) c.insts.result.now) before
          ∙ ap (λ (vs : List ValueId). arriving_numbers behind (preds func) (take k joins) 0 (take k blocks) ++ into_numbers behind (preds func (0 + k)) (numbers_in vs) c.insts.result.now) c.as_slice.ensures.value
          ∙ ap (λ (is : List Instruction). arriving_numbers behind (preds func) (take k joins) 0 (take k blocks) ++ into_numbers behind (preds func (0 + k)) (numbers_in join.items) is) c.insts.ensures.value));
      number = ap (λ (n : ℕ). n + 1) number_is;
    }

pub returns : goal.returns
returns c =
    let func = c.args.func.now.content in
    let blocks = c.blocks-block-items.result.now in
    let joins : List (List ℕ) = map (λ join. numbers_in join.items) c.args.joins.now in
    let k = c.loop-block.block-index in
    let many = ap length c.blocks-block-items.ensures.value in
    let long = length-map c.args.joins.now (λ join. numbers_in join.items) in
    let past : length joins ≤ k = omega (arith, long, many, c.requires.joins, c.loop-block-test.false) in
    let all_joins = take_all k joins past in
    let all_blocks = take_all k blocks c.loop-block-test.false ∙ c.blocks-block-items.ensures.value in
    holds_all c.args.rows.now _ c.loop-block.arrivals _ _ c.new.ensures.items
    (takes_same c.args.rows.now _ c.loop-block.arrivals _ _ _ _
    (λ p. ap (λ (js : List (List ℕ)). entries_all (preds func) js 0 (take k blocks) p) all_joins ∙ ap (λ (bs : List BasicBlock). entries_all (preds func) joins 0 bs p) all_blocks)
    (λ behind. ap (λ (js : List (List ℕ)). arriving_numbers behind (preds func) js 0 (take k blocks)) all_joins ∙ ap (λ (bs : List BasicBlock). arriving_numbers behind (preds func) joins 0 bs) all_blocks)
    c.loop-block.invariant.taken)
