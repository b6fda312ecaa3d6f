use Rattle.std.proofs.Common.{◌≡◌, ◌≢◌, ◌⊎◌, ℕ, true, take}
use Rattle.std.specs.Prelude.{Some, map}
use Rattle.std.specs.List.{Contains}
use Rattle.ir_ast.specs.Lists.{has_mark}
use Rattle.ir_ast.specs.Operands.{named}
use Rattle.fold_tables.proofs.left.mark_entries.Given as goal

abbrev pub invariant-loop-ty : goal.invariant-loop-ty
invariant-loop-ty l = (value : ℕ) → has_mark l.marks value ≡ true
    → (has_mark l.initial.marks value ≡ true) ⊎ (Contains (map (λ entry. entry.1) (take l._ty-index l.entries)) (named value) × (l.own ≢ Some value))
