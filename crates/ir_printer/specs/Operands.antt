-- Operands and labels as they stand in a line.
use Rattle.std.specs.Prelude.{ℕ, List, ◌++◌, codes, decimal, slice_get, unwrap_or}
use Rattle.sp_ids.specs.declared.ids.BlockId.{BlockId}
use Rattle.ir_ast.specs.declared.types.Ty.{Ty}
use Rattle.ir_ast.specs.declared.types.Ty.TheVariants.{Void, Int as Integer, Ptr, Token}
use Rattle.ir_ast.specs.declared.ops.Operand.{Operand}
use Rattle.ir_ast.specs.declared.ops.Operand.TheVariants.{Value, Int, Null, Fun}
use Rattle.ir_ast.specs.Insts.{Instruction}
use Rattle.ir_printer.specs.Words.{type_text, integer_text}
use Rattle.ir_printer.specs.Names.{Names, function_name, block_name, value_name}

abbrev pub literal_text : Ty → ℕ → List ℕ
literal_text (Integer width) number = integer_text width number
literal_text Void number = decimal number
literal_text Ptr number = decimal number
literal_text Token number = decimal number

-- `V` of a type
abbrev pub value_text : Names → Ty → Operand → List ℕ
value_text names ty (Value value) = codes "%" ++ value_name names.func value.0
value_text names ty (Int number) = literal_text ty number
value_text names ty Null = codes "null"
value_text names ty (Fun func) = codes "@" ++ function_name names.funcs func.0

-- `T V`
abbrev pub typed_text : Names → Ty → Operand → List ℕ
typed_text names ty operand = type_text ty ++ (codes " " ++ value_text names ty operand)

-- the type of an argument; that of a function's name is `ptr`
abbrev pub parameter_text : Ty → List ℕ
parameter_text Void = codes "ptr"
parameter_text ty = type_text ty

-- `T V`, or `ptr @f`
abbrev pub argument_text : Names → Ty → Operand → List ℕ
argument_text names ty operand = parameter_text ty ++ (codes " " ++ value_text names ty operand)

-- `%l`
abbrev pub label_text : Names → BlockId → List ℕ
label_text names label = codes "%" ++ block_name names.func label.0

-- the operand with this place in its line, which each formed line has
abbrev pub operand_at : Instruction → ℕ → Operand
operand_at inst place = unwrap_or (slice_get inst.operands place) Null

-- the label with this place in its line
abbrev pub label_at : Instruction → ℕ → BlockId
label_at inst place = unwrap_or (slice_get inst.labels place) (record { 0 = 0 })
