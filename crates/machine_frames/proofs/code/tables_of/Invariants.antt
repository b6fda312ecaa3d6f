use Rattle.std.proofs.Common.{◌≡◌, map, take}
use Rattle.std.specs.List.{All}
use Rattle.machine_frames.specs.Tables.{table_of, IsSmallFunction}
use Rattle.machine_frames.proofs.code.tables_of.Given as goal

abbrev pub invariant-loop-func : goal.invariant-loop-func
invariant-loop-func l = record {
  tables : l.tables.items ≡ map (λ func. table_of func.content) (take l.func-index l.funcs);
  small : All (λ func. IsSmallFunction func.content) (take l.func-index l.funcs);
}
