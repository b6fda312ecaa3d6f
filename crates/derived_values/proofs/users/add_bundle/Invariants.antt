use Rattle.std.proofs.Common.{take}
use Rattle.std.specs.Prelude.{map}
use Rattle.std.specs.List.{filter_map}
use Rattle.ir_ast.specs.Operands.{value_in}
use Rattle.derived_values.specs.Users.{AddsUsers}
use Rattle.derived_values.proofs.users.add_bundle.Given as goal

abbrev pub invariant-loop-entry : goal.invariant-loop-entry
invariant-loop-entry l = AddsUsers (filter_map value_in (map (λ entry. entry.1) (take l.entry-index l.bundle))) l.user
    (map (λ row. row.items) l.initial.users.items) (map (λ row. row.items) l.users.items)
