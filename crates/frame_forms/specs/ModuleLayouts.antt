-- What is laid out for each function of a module.
use Rattle.std.specs.Prelude.{ℕ, List, [], ◌∷◌, count_by, Option, slice_get}
use Rattle.std.specs.Option.{option_map_or}
use Rattle.ir_ast.specs.Funcs.{Function, instructions_of}
use Rattle.ir_ast.specs.Modules.{ModuleContent}
use Rattle.ir_ast.specs.Faults.GroupShape.{is_statepoint}
use Rattle.frame_forms.specs.CodeAddresses.{first_start, next_start, return_offsets}
use Rattle.frame_forms.specs.BundleWords.{BundleWords, bundle_word, bundles_from}
use Rattle.frame_forms.specs.FrameSizes.{frame_bytes}

-- where a function starts, how many bytes its frames have without the return word, how many statepoints it has, where
-- each of its instructions returns to, counted from its start, and the words of the bundles of its statepoints
pub record FunctionLayout : Type 0 where
  pub address : ℕ
  pub frame_bytes : ℕ
  pub statepoints : ℕ
  pub returns : List ℕ
  pub bundles : List BundleWords

abbrev pub statepoints_of : Function → ℕ
statepoints_of func = count_by (λ inst. is_statepoint inst.op) (instructions_of func.blocks)

abbrev pub laid_at : ℕ → Function → FunctionLayout
laid_at start func = record {
  address = start;
  frame_bytes = frame_bytes func;
  statepoints = statepoints_of func;
  returns = return_offsets func;
  bundles = bundles_from 0 (instructions_of func.blocks);
}

-- functions of which the first starts here
abbrev pub laid_from : ℕ → List Function → List FunctionLayout
laid_from start [] = []
laid_from start (func ∷ funcs) = laid_at start func ∷ laid_from (next_start start func) funcs

abbrev pub layout_of : ModuleContent → List FunctionLayout
layout_of content = laid_from first_start content.funcs

-- ---- by the number of a function; 0 and nothing where there is none

abbrev pub address_in : List FunctionLayout → ℕ → ℕ
address_in laid func = option_map_or (λ one. one.address) (slice_get laid func) 0

abbrev pub frame_bytes_in : List FunctionLayout → ℕ → ℕ
frame_bytes_in laid func = option_map_or (λ one. one.frame_bytes) (slice_get laid func) 0

abbrev pub statepoints_in : List FunctionLayout → ℕ → ℕ
statepoints_in laid func = option_map_or (λ one. one.statepoints) (slice_get laid func) 0

abbrev pub returns_in : List FunctionLayout → ℕ → List ℕ
returns_in laid func = option_map_or (λ one. one.returns) (slice_get laid func) []

abbrev pub bundles_in : List FunctionLayout → ℕ → List BundleWords
bundles_in laid func = option_map_or (λ one. one.bundles) (slice_get laid func) []

-- the word of an operand of the bundle of the statepoint at a place of a function
abbrev pub deopt_word_in : List FunctionLayout → ℕ → ℕ → ℕ → Option ℕ
deopt_word_in laid func place operand = bundle_word (bundles_in laid func) place operand
