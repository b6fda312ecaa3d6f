use Rattle.std.proofs.Common.{◌≡◌, ◌++◌, ◌∷◌, [], slice_index_or}
use Rattle.std.specs.List.{flat_map, range_with_len}
use Rattle.ir_ast.specs.declared.ops.Operand.TheVariants.{Null}
use Rattle.base_tables.specs.Tables.{inserted_base}
use Rattle.base_tables.proofs.tables.table.Given as goal

abbrev pub invariant-loop-value : goal.invariant-loop-value
invariant-loop-value l =
    l.table.items ≡ flat_map (λ value. inserted_base l.inserted l.numbers value ++ slice_index_or l.bases value Null ∷ []) (range_with_len 0 l.value)
