use Rattle.std.proofs.Common.{◌≡◌, ◌<◌, ◌≤◌, ◌+◌, ℕ, Some, slice_get}
use Rattle.ir_ast.specs.Insts.{Instruction}
use Rattle.body_tables.specs.Bodies.{seen_insts}
use Rattle.fold_tables.specs.Checks.{LeftAt}
use Rattle.fold_tables.specs.Lines.{value_at}
use Rattle.fold_tables.proofs.left.all_left.Given as goal

abbrev pub invariant-loop-inst : goal.invariant-loop-inst
invariant-loop-inst l = record {
  next : l.next ≡ value_at l.first (seen_insts l.insts) l.inst-index;
  few : l.next ≤ l.first + l.inst-index;
  each : (place : ℕ) (inst : Instruction) → place < l.inst-index → slice_get (seen_insts l.insts) place ≡ Some inst
      → LeftAt l.marks (value_at l.first (seen_insts l.insts) place) inst;
}
