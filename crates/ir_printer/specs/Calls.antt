-- Calls and statepoints (LLVM Language Reference, "'call' Instruction" and "Operand Bundles"; Garbage
-- Collection Safepoints in LLVM, "Statepoint Intrinsics").
use Rattle.std.specs.Prelude.{ℕ, List, [], ◌∷◌, ◌++◌, map, length, drop, codes, decimal}
use Rattle.std.specs.List.{zip}
use Rattle.ir_ast.specs.declared.types.Ty.{Ty}
use Rattle.ir_ast.specs.declared.types.Ty.TheVariants.{Int, Ptr}
use Rattle.ir_ast.specs.declared.ops.Operand.{Operand}
use Rattle.ir_ast.specs.declared.ops.Callee.{Callee}
use Rattle.ir_ast.specs.declared.ops.Callee.TheVariants.{Fun, New, Print, Read, TaskStart, Poll, Check, Same}
use Rattle.ir_ast.specs.Insts.{Instruction}
use Rattle.ir_printer.specs.Lists.{led, joined}
use Rattle.ir_printer.specs.Words.{type_text, integer_text}
use Rattle.ir_printer.specs.Names.{Names, layout_name, function_name}
use Rattle.ir_printer.specs.Operands.{typed_text, parameter_text, argument_text, value_text, operand_at}

-- the name of a callee, without the `@`
abbrev pub callee_name : Names → Callee → List ℕ
callee_name names (Fun func) = function_name names.funcs func.0
callee_name names (New layout) = codes "gc_new." ++ layout_name names.layouts layout
callee_name names Print = codes "print_i64"
callee_name names Read = codes "read_i64"
callee_name names TaskStart = codes "task_start"
callee_name names Poll = codes "gc.safepoint_poll"
callee_name names Check = codes "gc_check"
callee_name names Same = codes "gc_same"

-- the arguments of a call, each `T V`
abbrev pub arguments_of : Names → List Ty → List Operand → List (List ℕ)
arguments_of names types operands = map (λ argument. argument_text names argument.0 argument.1) (zip types operands)

-- `"deopt"(T V, ..)`
abbrev pub deopt_text : Names → List (Ty × Operand) → List ℕ
deopt_text names bundle =
    codes "\"deopt\"(" ++ (joined (codes ", ") (map (λ entry. typed_text names entry.0 entry.1) bundle) ++ codes ")")

-- `"gc-live"(P V, ..)`
abbrev pub live_text : Names → List Operand → List ℕ
live_text names entries =
    codes "\"gc-live\"(" ++ (joined (codes ", ") (map (λ entry. typed_text names Ptr entry) entries) ++ codes ")")

-- the bundles that have operands, in brackets
abbrev pub bundles_text : Names → List (Ty × Operand) → List Operand → List ℕ
bundles_text names [] [] = []
bundles_text names [] (entry ∷ entries) = codes " [ " ++ (live_text names (entry ∷ entries) ++ codes " ]")
bundles_text names (value ∷ bundle) [] = codes " [ " ++ (deopt_text names (value ∷ bundle) ++ codes " ]")
bundles_text names (value ∷ bundle) (entry ∷ entries) =
    codes " [ " ++ (deopt_text names (value ∷ bundle) ++ (codes ", " ++ (live_text names (entry ∷ entries) ++ codes " ]")))

-- `call T @f(`
abbrev pub call_start_text : Names → Ty → Callee → List ℕ
call_start_text names ty callee = codes "call " ++ (type_text ty ++ (codes " @" ++ (callee_name names callee ++ codes "(")))

-- `call T @f(T V, ..)`
abbrev pub call_text : Names → Callee → List Ty → Instruction → List ℕ
call_text names callee types inst =
    codes "call " ++ (type_text inst.ty ++ (codes " @" ++ (callee_name names callee ++ (codes "("
    ++ (joined (codes ", ") (arguments_of names types inst.operands) ++ (codes ")" ++ bundles_text names inst.bundle []))))))

-- what each statepoint begins with, to its identifier
unfoldable pub statepoint_words : List ℕ
statepoint_words = codes "call token (i64, i32, ptr, i32, i32, ...) @llvm.experimental.gc.statepoint.p0(i64 "

unfoldable pub elementtype_words : List ℕ
elementtype_words = codes ", i32 0, ptr elementtype("

unfoldable pub end_words : List ℕ
end_words = codes ", i32 0, i32 0)"

-- the type of what is called, and its name
abbrev pub target_text : Names → Callee → List Ty → Ty → List ℕ
target_text names callee types answer =
    type_text answer ++ (codes " (" ++ (joined (codes ", ") (map parameter_text types) ++ (codes ")) @" ++ callee_name names callee)))

-- the number of the arguments, and the arguments
abbrev pub counted_text : Names → List Ty → List Operand → List ℕ
counted_text names types operands =
    codes ", i32 " ++ (decimal (length types) ++ (codes ", i32 0" ++ led (codes ", ") (arguments_of names types operands)))

-- the operands after the arguments are the "gc-live" entries
abbrev pub statepoint_text : Names → ℕ → Callee → List Ty → Instruction → List ℕ
statepoint_text names id callee types inst =
    statepoint_words ++ (integer_text 64 id ++ (elementtype_words ++ (target_text names callee types inst.ty
    ++ (counted_text names types inst.operands ++ (end_words ++ bundles_text names inst.bundle (drop (length types) inst.operands))))))

-- the end of the name of a `gc.result`: its type
abbrev pub result_suffix : Ty → List ℕ
result_suffix Ptr = codes "p1"
result_suffix ty = type_text ty

unfoldable pub result_words : List ℕ
result_words = codes " @llvm.experimental.gc.result."

-- `call T @llvm.experimental.gc.result.S(token %t)`
abbrev pub result_text : Names → Instruction → List ℕ
result_text names inst =
    codes "call " ++ (type_text inst.ty ++ (result_words ++ (result_suffix inst.ty ++ (codes "(token "
    ++ (value_text names inst.ty (operand_at inst 0) ++ codes ")")))))

unfoldable pub relocate_words : List ℕ
relocate_words = codes "call ptr addrspace(1) @llvm.experimental.gc.relocate.p1(token "

-- `call P @llvm.experimental.gc.relocate.p1(token %t, i32 B, i32 D)`
abbrev pub relocate_text : Names → Instruction → List ℕ
relocate_text names inst =
    relocate_words ++ (value_text names inst.ty (operand_at inst 0) ++ (codes ", "
    ++ (typed_text names (Int 32) (operand_at inst 1) ++ (codes ", " ++ (typed_text names (Int 32) (operand_at inst 2) ++ codes ")")))))
