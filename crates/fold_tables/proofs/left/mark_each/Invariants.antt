use Rattle.std.proofs.Common.{◌≡◌, ◌⊎◌, ◌≤◌, ◌+◌, ℕ, true}
use Rattle.ir_ast.specs.Lists.{has_mark}
use Rattle.body_tables.specs.Bodies.{seen_insts}
use Rattle.fold_tables.specs.Checks.{UsedByAnother}
use Rattle.fold_tables.specs.Lines.{value_at}
use Rattle.fold_tables.proofs.left.mark_each.Given as goal

abbrev pub invariant-loop-inst : goal.invariant-loop-inst
invariant-loop-inst l = record {
  next : l.next ≡ value_at l.first (seen_insts l.insts) l.inst-index;
  few : l.next ≤ l.first + l.inst-index;
  marks : (value : ℕ) → has_mark l.marks value ≡ true → (has_mark l.initial.marks value ≡ true) ⊎ UsedByAnother l.first (seen_insts l.insts) value;
}
