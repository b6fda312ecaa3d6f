-- How the bytes of a name are held.
use Rattle.std.specs.Prelude.{ℕ, List, take, min}
use Rattle.ir_ast.specs.declared.names.Spelled.{Spelled}
use Rattle.ir_ast.specs.declared.names.Spelled.TheVariants.{Short, Long}

abbrev pub bytes_spelled : Spelled → List ℕ
bytes_spelled (Short count bytes) = take (min count 14) bytes
bytes_spelled (Long bytes) = bytes.value.items
