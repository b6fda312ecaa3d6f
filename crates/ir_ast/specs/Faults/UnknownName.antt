-- What lines name exists: what has no fault of code 4. An instruction names by number.
use Rattle.std.specs.Prelude.{◌<◌, length}
use Rattle.std.specs.List.{All}
use Rattle.ir_ast.specs.Insts.{Instruction}
use Rattle.ir_ast.specs.Funcs.{Function, instructions_of}
use Rattle.ir_ast.specs.Modules.{ModuleContent}
use Rattle.ir_ast.specs.Values.{definitions_of}
use Rattle.ir_ast.specs.Operands.{values_used, functions_named, layouts_named}

-- each value and each block that a line names exists in its function
pub record NamesOfFunction (func : Function) (inst : Instruction) : Type 0 where
  pub values : All (λ value. value < length (definitions_of func)) (values_used inst)
  pub blocks : All (λ label. label.0 < length func.blocks) inst.labels

-- each layout and each function that a line names exists in its module
pub record NamesOfModule (content : ModuleContent) (inst : Instruction) : Type 0 where
  pub layouts : All (λ layout. layout < length content.layouts) (layouts_named inst)
  pub functions : All (λ named. named < length content.funcs) (functions_named inst)

abbrev pub LocalNamesAreKnown : Function → Type 0
LocalNamesAreKnown func = All (NamesOfFunction func) (instructions_of func.blocks)

abbrev pub GlobalNamesAreKnown : ModuleContent → Function → Type 0
GlobalNamesAreKnown content func = All (NamesOfModule content) (instructions_of func.blocks)
