use Rattle.std.proofs.Common.{◌≡◌, ◌++◌, drop}
use Rattle.std.specs.Prelude.{map, flat_map}
use Rattle.ir_lines.specs.Sections.{BlockLines}
use Rattle.ir_lines.specs.Tables.{seen_block}
use Rattle.ir_lines.specs.Modules.{block_of, numbers_of}
use Rattle.ir_lines.specs.Notes.{Notes}
use Rattle.module_build.specs.Known.{known_in}
use Rattle.module_build.specs.Lost.{tables_in}
use Rattle.module_build.proofs.Founds.{FoundUpTo}
use Rattle.text_resolve.specs.Lost.{BlockLostAt}
use Rattle.text_resolve.proofs.functions.built_blocks.Given as goal

abbrev pub invariant-loop-one : goal.invariant-loop-one
invariant-loop-one l = record {
  made : l.built.items ++ map (block_of (known_in l.scope)) (map seen_block (drop l.one-index l.blocks))
      ≡ map (block_of (known_in l.scope)) (map seen_block l.blocks);
  numbered : l.numbers.items ++ flat_map (λ (block : BlockLines). numbers_of (known_in l.scope) block.lines) (map seen_block (drop l.one-index l.blocks))
      ≡ l.initial.numbers.items ++ flat_map (λ (block : BlockLines). numbers_of (known_in l.scope) block.lines) (map seen_block l.blocks);
  noted : Notes l.initial.first.found l.first.found (FoundUpTo (BlockLostAt l.scope.form (tables_in l.scope)) (map seen_block l.blocks) l.one-index);
}
