use Rattle.std.proofs.Common.{◌≡◌, ◌∙◌, ◌<◌, ◌+◌, ℕ, List, [], length, get_or, ap, sym, subst, arith}
use Rattle.std.specs.Prelude.{map, slice_get, Some}
use Rattle.std.proofs.lemmas.List.{length-map, get_or-map}
use Rattle.ir_ast.specs.Insts.{Instruction}
use Rattle.ir_ast.specs.Blocks.{BasicBlock}
use Rattle.ir_lines.specs.Notes.{Notes}
use Rattle.ir_verify.specs.Founds.{FoundIn}
use Rattle.ir_verify.specs.FunctionFaults.{BlockFaultAt, PhiFaultAt, start_of}
use Rattle.ir_verify.specs.Phis.{times}
use Rattle.ir_verify.proofs.Founds.{notes-step}
use Rattle.ir_verify.proofs.PhiLemmas.{start-more, start-within}
use Rattle.ir_verify.proofs.phis.note_all.Goals as goal
use Rattle.list_laws.proofs.Places.{get_read}

pub note_block-requires-clause-into : goal.note_block-requires-clause-into
note_block-requires-clause-into c = λ from.
    let func = c.args.func.now.content in
    let number = c.loop-number.number in
    let lists = map (λ list. list.items) c.in_ok-into.into.items in
    let into = c.in_ok-into.ensures in
    let blocks = ap length c.blocks-block-items.ensures.value in
    let within : number < length func.blocks = omega (arith, blocks) in
    let long = length-map c.in_ok-into.into.items (λ list. list.items) in
    let same = into.same in
    let there : number < length c.in_ok-into.into.items = omega arith in
    let row : get_or lists number [] ≡ c.as_slice.result.now
    = get_or-map (λ list. list.items) c.in_ok-into.into.items number c.index.result.now [] there
    ∙ ap (λ list. list.items) (sym c.index.ensures) ∙ sym c.as_slice.ensures.value in
    ap (times from) c.as_slice-in-loop-number.ensures.value ∙ c.in_ok-sort_into.ensures.same from ∙ ap (times from) (sym row) ∙ into.counts number from within

pub note_block-requires-clause-few : goal.note_block-requires-clause-few
note_block-requires-clause-few c =
    let func = c.args.func.now.content in
    let at : slice_get func.blocks c.loop-number.number ≡ Some c.block-item.result
    = ap (λ (bs : List BasicBlock). slice_get bs c.loop-number.number) (sym c.blocks-block-items.ensures.value)
    ∙ get_read c.blocks-block-items.result.now c.loop-number.number c.block-item.result c.loop-number-test.true c.block-item.is in
    let within = start-within func c.loop-number.number c.block-item.result at in
    let long = ap length c.insts-insts.ensures.value in
    omega (arith, within, long, c.loop-number.invariant.start, c.blocks-block-items.ensures.small.few_instructions)

pub overflow_add-start : goal.overflow_add-start
overflow_add-start c =
    let func = c.args.func.now.content in
    let at : slice_get func.blocks c.loop-number.number ≡ Some c.block-item.result
    = ap (λ (bs : List BasicBlock). slice_get bs c.loop-number.number) (sym c.blocks-block-items.ensures.value)
    ∙ get_read c.blocks-block-items.result.now c.loop-number.number c.block-item.result c.loop-number-test.true c.block-item.is in
    let within = start-within func c.loop-number.number c.block-item.result at in
    let long = ap length c.insts-insts.ensures.value in
    omega (arith, within, long, c.loop-number.invariant.start, c.blocks-block-items.ensures.small.few_instructions)

pub loop-number-preserved : goal.loop-number-preserved
loop-number-preserved c =
    let func = c.args.func.now in
    let blocks = func.content.blocks in
    let number = c.loop-number.number in
    let block = c.block-item.result in
    let at : slice_get blocks number ≡ Some block
    = ap (λ (bs : List BasicBlock). slice_get bs number) (sym c.blocks-block-items.ensures.value)
    ∙ get_read c.blocks-block-items.result.now number block c.loop-number-test.true c.block-item.is in
    let f = c.args.first.now.found in
    let g = c.loop-number.first.found in
    let h = c.note_block.new.first.found in
    record {
      start = ap (λ n. n + length c.insts-insts.result.now) c.loop-number.invariant.start
          ∙ ap (λ (xs : List Instruction). start_of func.content number + length xs) c.insts-insts.ensures.value ∙ sym (start-more func.content number block at);
      size = c.in_ok-note_block.ensures.size ∙ c.loop-number.invariant.size;
      noted = notes-step (BlockFaultAt func) blocks number block f g h at c.loop-number.invariant.noted
          (subst (λ (n : ℕ). Notes g h (FoundIn (PhiFaultAt func number n block.insts) block.insts)) c.loop-number.invariant.start
          (subst (λ (xs : List Instruction). Notes g h (FoundIn (PhiFaultAt func number c.loop-number.start xs) xs)) c.insts-insts.ensures.value
          c.in_ok-note_block.ensures.noted));
    }
