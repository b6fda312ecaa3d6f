use Rattle.std.proofs.Common.{◌≡◌, ◌∙◌, ap, sym, ℕ, ◌+◌, List, ◌++◌, length, get_or, take, arith}
use Rattle.std.specs.Prelude.{slice_get, Some}
use Rattle.std.specs.List.{flat_map, range_with_len}
use Rattle.ir_ast.specs.Blocks.{BasicBlock}
use Rattle.ir_ast.specs.Funcs.{instructions_of}
use Rattle.live_sets.specs.Starts.{block_adds, starts_in}
use Rattle.live_sets.proofs.NumberLemmas.{first_small, block_room}
use Rattle.live_sets.proofs.StartLemmas.{starts_more, block_starts}
use Rattle.live_sets.proofs.starts.starts.Goals as goal
use Rattle.object_meaning.proofs.LineLaws.{count_registers}
use Rattle.list_laws.proofs.Places.{get_read}

pub bounds-firsts-number : goal.bounds-firsts-number
bounds-firsts-number c =
    let long = count_registers (length c.args.func.now.content.args) c.args.func.now.content.blocks in
    omega (arith, long, ap length c.requires.firsts, ap length c.blocks-block-items.ensures.value, c.loop-number-test.true)

pub add_block-requires-clause-few : goal.add_block-requires-clause-few
add_block-requires-clause-few c =
    let func = c.args.func.now.content in
    let blocks = c.blocks-block-items.result.now in
    let number = c.loop-number.number in
    let first = first_small (length func.args) func.blocks number in
    let same = ap (λ (ns : List ℕ). get_or ns number 0) c.requires.firsts in
    let room = block_room blocks number c.block-item.result c.loop-number-test.true c.block-item.is in
    let all = ap (λ (bs : List BasicBlock). length (instructions_of bs)) c.blocks-block-items.ensures.value in
    let front = ap (λ (bs : List BasicBlock). length (instructions_of (take number bs))) c.blocks-block-items.ensures.value in
    let insts = ap length c.insts.ensures.value in
    omega (arith, first, same, room, all, front, insts, c.blocks-block-items.ensures.small.few_instructions, c.blocks-block-items.ensures.small.few_arguments)

pub loop-number-preserved : goal.loop-number-preserved
loop-number-preserved c =
    let func = c.args.func.now.content in
    let marks = c.args.marks.now in
    let bases = c.args.bases.now in
    let blocks = c.blocks-block-items.result.now in
    let number = c.loop-number.number in
    let stands : slice_get func.blocks number ≡ Some c.block-item.result =
    ap (λ (bs : List BasicBlock). slice_get bs number) (sym c.blocks-block-items.ensures.value) ∙ get_read blocks number c.block-item.result c.loop-number-test.true c.block-item.is in
    record {
      whole = c.in_ok-add_block.ensures.whole ∙ c.loop-number.invariant.whole;
      each = λ v below is.
          c.in_ok-add_block.ensures.each v (let same = c.loop-number.invariant.whole in omega (arith, same, below)) is
          ∙ ap (λ (xs : List ℕ). xs ++ block_adds marks bases (length c.blocks-count.result.now + number) (get_or c.args.firsts.now number 0) (get_or c.args.firsts.now number 0) v c.insts.result.now) (c.loop-number.invariant.each v below is)
          ∙ ap (λ (xs : List ℕ). flat_map (starts_in func marks bases v) (range_with_len 0 number) ++ xs)
          (block_starts func marks bases v number (length c.blocks-count.result.now) (get_or c.args.firsts.now number 0) c.block-item.result c.insts.result.now (ap length c.blocks-count.ensures.value)
          (ap (λ (ns : List ℕ). get_or ns number 0) c.requires.firsts) stands c.insts.ensures.value)
          ∙ sym (starts_more func marks bases v number);
    }
