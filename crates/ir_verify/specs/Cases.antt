-- Sets of operands.
use Rattle.std.specs.Prelude.{Bool, true, false, nat_eq}
use Rattle.std.specs.List.{list_any}
use Rattle.ir_ast.specs.declared.ops.Operand.{Operand}
use Rattle.ir_ast.specs.declared.ops.Operand.TheVariants.{Value, Int, Null, Fun}
use Rattle.ir_verify.specs.declared.cases.Seen.{Seen}

abbrev pub has : Seen → Operand → Bool
has seen (Int number) = list_any (nat_eq number) seen.numbers.keys
has seen (Value value) = list_any (nat_eq value.0) seen.values.keys
has seen (Fun func) = list_any (nat_eq func.0) seen.functions.keys
has seen Null = seen.null

abbrev pub same : Operand → Operand → Bool
same (Int number) (Int other) = nat_eq number other
same (Value value) (Value other) = nat_eq value.0 other.0
same (Fun func) (Fun other) = nat_eq func.0 other.0
same Null Null = true
same one other = false
