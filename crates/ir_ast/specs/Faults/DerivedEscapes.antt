-- Derived pointers stay in registers: what has no fault of code 9, which is one of the source form alone.
use Rattle.std.specs.Prelude.{ℕ, List, [], take}
use Rattle.std.specs.List.{All, filter_map}
use Rattle.ir_ast.specs.declared.ops.Operand.{Operand}
use Rattle.ir_ast.specs.declared.ops.Op.{Op}
use Rattle.ir_ast.specs.declared.ops.Op.TheVariants.{Store, Call, Ret}
use Rattle.ir_ast.specs.Insts.{Instruction}
use Rattle.ir_ast.specs.Funcs.{Function, instructions_of}
use Rattle.ir_ast.specs.Operands.{value_in}
use Rattle.ir_ast.specs.Derived.{Derived}

-- the operands that are stored, passed or returned; those of a bundle aren't passed
abbrev pub leaving : Op → List Operand → List Operand
leaving Store operands = take 1 operands
leaving (Call callee types) operands = operands
leaving Ret operands = operands
leaving _ operands = []

abbrev pub values_leaving : Instruction → List ℕ
values_leaving inst = filter_map value_in (leaving inst.op inst.operands)

-- no derived pointer leaves by this line
abbrev pub KeepsDerived : Function → Instruction → Type 0
KeepsDerived func inst = All (λ value. ¬ Derived func value) (values_leaving inst)

abbrev pub DerivedStay : Function → Type 0
DerivedStay func = All (KeepsDerived func) (instructions_of func.blocks)
