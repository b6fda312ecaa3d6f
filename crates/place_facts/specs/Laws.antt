-- The law of target modules.
use Rattle.std.specs.Prelude.{◌≡◌, ℕ, ◌<◌, length, Some, slice_get}
use Rattle.ir_ast.specs.Funcs.{Function, instructions_of}
use Rattle.ir_ast.specs.Modules.{ModuleContent}
use Rattle.ir_cfg.specs.TargetModules.{IsTargetModule}
use Rattle.place_facts.specs.Before.{IsAskable}

-- each instruction of a target module can be asked: its results and relocates all have statepoints
abbrev pub AllAreAskable : Type 0
AllAreAskable = (content : ModuleContent) (func : Function) (index number : ℕ) → IsTargetModule content → slice_get content.funcs index ≡ Some func
    → number < length (instructions_of func.blocks) → IsAskable func number
