-- Classes of types.
use Rattle.std.specs.Prelude.{Bool, true, false, ◌==◌}
use Rattle.ir_ast.specs.declared.types.Ty.{Ty}
use Rattle.ir_ast.specs.declared.types.Ty.TheVariants.{Void, Int, Ptr, Token}

abbrev pub is_void : Ty → Bool
is_void Void = true
is_void _ = false

abbrev pub is_integer : Ty → Bool
is_integer (Int width) = true
is_integer _ = false

-- `i1`, the type of a condition
abbrev pub is_condition : Ty → Bool
is_condition (Int width) = width == 1
is_condition _ = false

abbrev pub is_pointer : Ty → Bool
is_pointer Ptr = true
is_pointer _ = false

-- an integer or a pointer, which registers hold (LLVM Language Reference, "First Class Types")
abbrev pub is_first_class : Ty → Bool
is_first_class (Int width) = true
is_first_class Ptr = true
is_first_class _ = false

-- what a function may answer
abbrev pub is_answer : Ty → Bool
is_answer Void = true
is_answer (Int width) = true
is_answer Ptr = true
is_answer Token = false
