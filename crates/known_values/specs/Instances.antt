-- What the two meanings run.
use Rattle.std.specs.Prelude.{◌≡◌, ℕ, Option, Some, slice_get}
use Rattle.ir_ast.specs.Funcs.{Function}
use Rattle.ir_ast.specs.Modules.{ModuleContent}
use Rattle.ir_cfg.specs.SourceModules.{IsSourceModule}
use Rattle.ir_cfg.specs.TargetModules.{IsTargetModule}
use Rattle.object_meaning.specs.SourceRuns.{source_setting}
use Rattle.object_meaning.specs.States.{Setting}
use Rattle.object_meaning.specs.TargetRuns.{target_setting}
use Rattle.base_forms.specs.Polls.{placed}
use Rattle.known_values.specs.Texts.{RunsText, UsesAreDefined}

-- under this number the setting runs a text whose uses are defined
pub record RunsDefined (setting : Setting) (number : ℕ) (func : Function) : Type 0 where
  pub text : RunsText setting number func
  pub uses : UsesAreDefined func

-- the target meaning runs the text of each function
abbrev pub TargetsRunTheirText : Type 0
TargetsRunTheirText = (content : ModuleContent) → IsTargetModule content → (go : ℕ → Option ℕ) (bound number : ℕ) (func : Function)
    → slice_get content.funcs number ≡ Some func → RunsDefined (target_setting content go bound) number func

-- the source meaning runs the text of each function with its polls
abbrev pub SourcesRunTheirPolls : Type 0
SourcesRunTheirPolls = (content : ModuleContent) → IsSourceModule content → (go : ℕ → Option ℕ) (bound number : ℕ) (func : Function)
    → slice_get content.funcs number ≡ Some func → RunsDefined (source_setting content go bound) number (placed func)
