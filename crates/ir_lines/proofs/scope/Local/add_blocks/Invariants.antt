use Rattle.std.proofs.Common.{take}
use Rattle.std.specs.Prelude.{map}
use Rattle.ir_lines.specs.Again.{FoundAfter, IsBadName, named_blocks}
use Rattle.ir_lines.specs.Notes.{Notes}
use Rattle.ir_lines.specs.Tables.{seen_block, AddsBlocks}
use Rattle.ir_lines.proofs.scope.Local.add_blocks.Given as goal

abbrev pub invariant-loop-block : goal.invariant-loop-block
invariant-loop-block l = record {
  added : AddsBlocks l.initial.self l.self (map seen_block (take l.block-index l.blocks));
  noted : Notes l.initial.first.found l.first.found
      (FoundAfter (IsBadName l.form) l.initial.self.blocks (named_blocks (map seen_block (take l.block-index l.blocks))));
}
