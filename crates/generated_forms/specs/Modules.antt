-- The generated module: for each number from 1 to its size a function of a drawn shape over a drawn constant, and then
-- `@main`, which calls them all in this order and prints what each answers.
use Rattle.std.specs.Prelude.{ℕ, ◌+◌, List, [], ◌∷◌, ◌++◌, map, codes}
use Rattle.std.specs.List.{flat_map, range_with_len}
use Rattle.ir_ast.specs.declared.cells.Cell.TheVariants.{I64, Ptr as Pointer}
use Rattle.ir_ast.specs.declared.types.Ty.TheVariants.{Int as Integer, Ptr}
use Rattle.ir_ast.specs.declared.funcs.Arg.{Arg}
use Rattle.ir_ast.specs.declared.ops.Operand.TheVariants.{Int}
use Rattle.ir_ast.specs.declared.modules.Form.TheVariants.{Source}
use Rattle.ir_ast.specs.Insts.{Instruction}
use Rattle.ir_ast.specs.Layouts.{ObjectLayout}
use Rattle.ir_ast.specs.Blocks.{BasicBlock}
use Rattle.ir_ast.specs.Funcs.{Function}
use Rattle.ir_ast.specs.Modules.{ModuleContent}
use Rattle.generated_forms.specs.Lines.{numbered_name, new_line, call_line, print_line, return_line}
use Rattle.generated_forms.specs.Bodies.{body, shape_at, constant_at}

-- `%N = type { i64, P }`
abbrev pub node : ObjectLayout
node = record { name = codes "N"; fields = I64 ∷ Pointer ∷ [] }

-- `P %o, i64 %x`
abbrev pub parameters : List Arg
parameters = record { name = codes "o"; ty = Ptr } ∷ record { name = codes "x"; ty = Integer 64 } ∷ []

-- `define i64 @gN(P %o, i64 %x)` at a place, which its number N follows
abbrev pub function : ℕ → List BasicBlock → Function
function place blocks =
    record { name = numbered_name (codes "g") (place + 1); answer = Integer 64; args = parameters; blocks = blocks }

unfoldable pub function_at : ℕ → ℕ → Function
function_at seed place = function place (body (shape_at seed place) place (constant_at seed place))

-- the call of the function at a place, and the line that prints its answer
abbrev pub visit : ℕ → List Instruction
visit place =
    call_line (numbered_name (codes "v") (place + 1)) place 0 (Int (place + 1)) ∷ print_line (place + 1) ∷ []

-- makes the object that all functions get, as the value 0, and visits them
abbrev pub visits : ℕ → List Instruction
visits size = new_line (codes "o") 1 ∷ flat_map visit (range_with_len 0 size)

-- `define i64 @main()`
unfoldable pub main_of : ℕ → Function
main_of size = record {
  name = codes "main";
  answer = Integer 64;
  args = [];
  blocks = record { name = codes "entry"; insts = visits size ++ return_line (Int 0) ∷ [] } ∷ [];
}

unfoldable pub generated : ℕ → ℕ → ModuleContent
generated seed size = record {
  layouts = node ∷ [];
  funcs = map (function_at seed) (range_with_len 0 size) ++ main_of size ∷ [];
  form = Source;
}
