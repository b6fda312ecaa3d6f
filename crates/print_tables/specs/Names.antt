-- What the lines of a function name: layouts, functions, blocks and values, each by its number.
use Rattle.std.specs.Prelude.{ℕ, List, [], filter, is_some, unwrap_or, slice_get}
use Rattle.std.specs.Option.{option_map_or}
use Rattle.ir_ast.specs.Layouts.{ObjectLayout}
use Rattle.ir_ast.specs.Insts.{Instruction}
use Rattle.ir_ast.specs.Funcs.{Function}
use Rattle.ir_ast.specs.Values.{definitions_of, definition_name}

-- a function, and the layouts and functions of its module
pub record Names : Type 0 where
  pub layouts : List ObjectLayout
  pub funcs : List Function
  pub func : Function

abbrev pub layout_name : List ObjectLayout → ℕ → List ℕ
layout_name layouts layout = option_map_or (λ named. named.name) (slice_get layouts layout) []

abbrev pub function_name : List Function → ℕ → List ℕ
function_name funcs func = option_map_or (λ named. named.name) (slice_get funcs func) []

abbrev pub block_name : Function → ℕ → List ℕ
block_name func block = option_map_or (λ named. named.name) (slice_get func.blocks block) []

-- the name of the result with this number among the results of these instructions
unfoldable pub result_name : List Instruction → ℕ → List ℕ
result_name insts number =
    option_map_or (λ inst. unwrap_or inst.result []) (slice_get (filter (λ inst. is_some inst.result) insts) number) []

-- arguments are numbered first, and then the results of instructions in text order
unfoldable pub value_name : Function → ℕ → List ℕ
value_name func value = option_map_or definition_name (slice_get (definitions_of func) value) []
