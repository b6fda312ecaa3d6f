-- Spellings of types, predicates and integers (LLVM Language Reference, "Type System" and "Constants").
use Rattle.std.specs.Prelude.{ℕ, ◌==◌, List, ◌++◌, if◌then◌else◌, codes, decimal}
use Rattle.std.specs.Fmt.{signed_decimal}
use Rattle.sp_ids.specs.Numbers.{wrapped, signed}
use Rattle.ir_ast.specs.declared.types.Ty.{Ty}
use Rattle.ir_ast.specs.declared.types.Ty.TheVariants.{Void, Int, Ptr, Token}
use Rattle.ir_ast.specs.declared.ops.Pred.{Pred}
use Rattle.ir_ast.specs.declared.ops.Pred.TheVariants.{Eq, Ne, Ugt, Uge, Ult, Ule, Sgt, Sge, Slt, Sle}

abbrev pub type_text : Ty → List ℕ
type_text Void = codes "void"
type_text (Int width) = codes "i" ++ decimal width
type_text Ptr = codes "ptr addrspace(1)"
type_text Token = codes "token"

abbrev pub predicate_word : Pred → List ℕ
predicate_word Eq = codes "eq"
predicate_word Ne = codes "ne"
predicate_word Ugt = codes "ugt"
predicate_word Uge = codes "uge"
predicate_word Ult = codes "ult"
predicate_word Ule = codes "ule"
predicate_word Sgt = codes "sgt"
predicate_word Sge = codes "sge"
predicate_word Slt = codes "slt"
predicate_word Sle = codes "sle"

-- an integer as the signed decimal of its width, and one of `i1` as `true` or `false`
unfoldable pub integer_text : ℕ → ℕ → List ℕ
integer_text width number =
    if width == 1
    then (if wrapped 1 number == 0 then codes "false" else codes "true")
    else signed_decimal (signed width number)

-- the name of every function's strategy, and what stands round it
unfoldable pub strategy_text : List ℕ
strategy_text = codes ") gc \"statepoint-example\" {\n"
