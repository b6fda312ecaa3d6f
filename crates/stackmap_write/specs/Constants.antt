-- The numbers that literals of "deopt" bundles are, and the constants of a map: those that are too large for a location.
use Rattle.std.specs.Prelude.{ℕ, ℤ, pos, negsuc, ◌^◌, ◌-◌, ◌==◌, ◌&&◌, int_le, int_lt, if◌then◌else◌, Bool, List, [], ◌∷◌, ◌++◌, fold}
use Rattle.std.specs.List.{flat_map, list_any}
use Rattle.std.specs.Int.{w64, cast_unsigned}
use Rattle.sp_ids.specs.Numbers.{signed}
use Rattle.ir_ast.specs.declared.types.Ty.{Ty}
use Rattle.ir_ast.specs.declared.ops.Operand.{Operand}
use Rattle.ir_ast.specs.declared.ops.Operand.TheVariants.{Int}
use Rattle.ir_ast.specs.declared.ops.Op.{Op}
use Rattle.ir_ast.specs.declared.ops.Op.TheVariants.{Statepoint}
use Rattle.ir_ast.specs.Insts.{Instruction}
use Rattle.ir_ast.specs.Funcs.{Function, instructions_of}
use Rattle.ir_ast.specs.Modules.{ModuleContent}
use Rattle.object_meaning.specs.Numbers.{width_of}

-- a literal is the signed number that its bits spell in its type; `null` is 0
abbrev pub entry_number : Ty → Operand → ℤ
entry_number ty (Int number) = signed (width_of ty) number
entry_number ty operand = pos 0

-- from -2^31 to 2^31 - 1
abbrev pub is_small : ℤ → Bool
is_small number = int_le (negsuc (2 ^ 31 - 1)) number && int_lt number (pos (2 ^ 31))

-- as a map lists it
abbrev pub constant_of : ℤ → ℕ
constant_of number = cast_unsigned w64 number

abbrev pub large_number : ℤ → List ℕ
large_number number = if is_small number then [] else constant_of number ∷ []

-- those of the bundle of a statepoint, in their order
abbrev pub large_by : Op → List (Ty × Operand) → List ℕ
large_by (Statepoint id callee types) bundle = flat_map (λ entry. large_number (entry_number entry.0 entry.1)) bundle
large_by op bundle = []

abbrev pub large_in : Instruction → List ℕ
large_in inst = large_by inst.op inst.bundle

abbrev pub large_of : Function → List ℕ
large_of func = flat_map large_in (instructions_of func.blocks)

-- one more, unless it is there
abbrev pub with_constant : List ℕ → ℕ → List ℕ
with_constant constants number = if list_any (λ one. number == one) constants then constants else constants ++ number ∷ []

-- each once, in the order of their first uses
abbrev pub constants_of : ModuleContent → List ℕ
constants_of content = fold with_constant [] (flat_map large_of content.funcs)
