use Rattle.std.proofs.Common.{◌≡◌, ◌∙◌, [], ◌∷◌, ◌++◌, List, length, refl, ap, sym, arith}
use Rattle.std.specs.Prelude.{map, flat_map}
use Rattle.std.proofs.lemmas.List.{length-map}
use Rattle.ir_ast.specs.Blocks.{BasicBlock, EndsAtTerminator}
use Rattle.ir_lines.specs.declared.sections.BlockLines.{BlockLines as BlockTable}
use Rattle.ir_lines.specs.Sections.{BlockLines}
use Rattle.ir_lines.specs.Tables.{seen_block}
use Rattle.ir_lines.specs.Modules.{block_of, insts_of, numbers_of}
use Rattle.ir_lines.proofs.Steps.{all-at, made-more}
use Rattle.module_build.specs.Known.{known_in}
use Rattle.module_build.specs.Lost.{tables_in}
use Rattle.module_build.proofs.Founds.{notes-turn, notes-all}
use Rattle.text_resolve.specs.Lost.{BlockLostAt}
use Rattle.text_resolve.proofs.functions.built_blocks.Goals as goal
use Rattle.list_laws.proofs.Places.{seen_at}

pub block-requires : goal.block-requires
block-requires c =
    all-at (λ (one : BlockLines). EndsAtTerminator (insts_of (known_in c.args.scope.now) one.lines)) seen_block c.args.blocks.now
    c.loop-one.one-index c.one-item.result c.requires c.loop-one-test.true c.one-item.is

pub loop-one-preserved : goal.loop-one-preserved
loop-one-preserved c = record {
  made = made-more (λ (bs : List BlockTable). map (block_of (known_in c.args.scope.now)) (map seen_block bs))
      (λ (one : BlockTable). block_of (known_in c.args.scope.now) (seen_block one) ∷ []) (λ x xs. refl) c.args.blocks.now
      c.loop-one.one-index c.one-item.result c.loop-one.built.items c.push.new.self.items
      (map (block_of (known_in c.args.scope.now)) (map seen_block c.args.blocks.now)) c.loop-one-test.true c.one-item.is
      (c.in_ok-push.ensures.items ∙ ap (λ (one : BasicBlock). c.loop-one.built.items ++ one ∷ []) c.in_ok-made.ensures.block)
      c.loop-one.invariant.made;
  numbered = made-more (λ (bs : List BlockTable). flat_map (λ (one : BlockLines). numbers_of (known_in c.args.scope.now) one.lines) (map seen_block bs))
      (λ (one : BlockTable). numbers_of (known_in c.args.scope.now) (seen_block one).lines) (λ x xs. refl) c.args.blocks.now
      c.loop-one.one-index c.one-item.result c.loop-one.numbers.items c.block.new.numbers.items
      (c.args.numbers.now.items ++ flat_map (λ (one : BlockLines). numbers_of (known_in c.args.scope.now) one.lines) (map seen_block c.args.blocks.now))
      c.loop-one-test.true c.one-item.is c.in_ok-made.ensures.numbers c.loop-one.invariant.numbered;
  noted = notes-turn (BlockLostAt c.args.scope.now.form (tables_in c.args.scope.now)) (map seen_block c.args.blocks.now) c.loop-one.one-index (seen_block c.one-item.result)
      c.args.first.now.found c.loop-one.first.found c.block.new.first.found
      (seen_at seen_block c.args.blocks.now c.loop-one.one-index c.one-item.result c.loop-one-test.true c.one-item.is) c.loop-one.invariant.noted c.in_ok-made.ensures.noted;
}

pub returns-clause-noted : goal.returns-clause-noted
returns-clause-noted c =
    let end : c.loop-one.one-index ≡ length c.args.blocks.now = omega arith in
    notes-all (BlockLostAt c.args.scope.now.form (tables_in c.args.scope.now)) (map seen_block c.args.blocks.now) c.loop-one.one-index c.args.first.now.found
    c.loop-one.first.found (end ∙ sym (length-map c.args.blocks.now seen_block)) c.loop-one.invariant.noted
