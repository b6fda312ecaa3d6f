use Rattle.std.proofs.Common.{◌≡◌, ◌≤◌, ◌+◌, length}
use Rattle.ir_ast.specs.Funcs.{instructions_of}
use Rattle.object_meaning.specs.Lines.{after_all}
use Rattle.base_forms.specs.Lines.{based_blocks}
use Rattle.base_tables.specs.Tables.{tabled}
use Rattle.base_infer.proofs.functions.insert_all.Given as goal

abbrev pub invariant-loop-block : goal.invariant-loop-block
invariant-loop-block l = record {
  next : l.next ≡ after_all l.start (instructions_of l.yielded);
  few : l.next ≤ l.start + length (instructions_of l.yielded);
  after : l.after.items ≡ based_blocks (tabled l.tables) l.start l.yielded;
}
