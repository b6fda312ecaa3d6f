use Rattle.std.proofs.Common.{◌≡◌, ◌∙◌, ◌+◌, ap, [], ◌∷◌, ◌++◌, take}
use Rattle.std.specs.Prelude.{map}
use Rattle.std.proofs.lemmas.List.{map-append}
use Rattle.ir_lines.specs.Tables.{seen_block}
use Rattle.ir_lines.proofs.TableLemmas.{Blocks, blocks-none, blocks-more}
use Rattle.ir_lines.proofs.scope.Local.add_blocks.Goals as goal
use Rattle.list_laws.proofs.Places.{take_item}

pub loop-block-init : goal.loop-block-init
loop-block-init c =
    let b = blocks-none c.args.form c.args.self.now c.args.first.now.found in
    record { added = b.added; noted = b.noted }

pub loop-block-preserved : goal.loop-block-preserved
loop-block-preserved c =
    let i = c.loop-block.block-index in
    let blocks = c.args.blocks.now in
    let one = c.block-item.result in
    let more : map seen_block (take (i + 1) blocks) ≡ map seen_block (take i blocks) ++ seen_block one ∷ []
    = ap (map seen_block) (take_item blocks i one c.loop-block-test.true c.block-item.is) ∙ map-append seen_block (take i blocks) (one ∷ []) in
    let before : Blocks c.args.form c.args.self.now c.loop-block.self c.args.first.now.found c.loop-block.first.found (map seen_block (take i blocks))
    = record { added = c.loop-block.invariant.added; noted = c.loop-block.invariant.noted } in
    let b = blocks-more c.args.form c.args.self.now c.loop-block.self c.add_block.new.self c.args.first.now.found c.loop-block.first.found
    c.add_block.new.first.found (map seen_block (take i blocks)) (map seen_block (take (i + 1) blocks)) (seen_block one) more before
    c.in_ok-add_block.ensures.values c.in_ok-add_block.ensures.types c.in_ok-add_block.ensures.blocks
    c.in_ok-add_block.ensures.answer c.in_ok-add_block.ensures.noted in
    record { added = b.added; noted = b.noted }
