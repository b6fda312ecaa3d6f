use Rattle.std.proofs.Common.{◌≡◌, ◌≤◌, ◌+◌, length}
use Rattle.ir_ast.specs.Funcs.{instructions_of}
use Rattle.object_meaning.specs.Lines.{after_all}
use Rattle.folded_forms.specs.Folded.{folded_blocks}
use Rattle.fold_tables.proofs.fold.folded_blocks.Given as goal

abbrev pub invariant-loop-block : goal.invariant-loop-block
invariant-loop-block l = record {
  next : l.next ≡ after_all l.start (instructions_of l.yielded);
  few : l.next ≤ l.start + length (instructions_of l.yielded);
  after : l.after.items ≡ folded_blocks l.table l.start l.yielded;
}
