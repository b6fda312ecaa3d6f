-- What each pass over the functions of a module asks of them.
use Rattle.std.specs.Prelude.{map}
use Rattle.std.specs.List.{All}
use Rattle.ir_ast.specs.Modules.{ModuleContent}
use Rattle.ir_cfg.specs.SourceModules.{IsSourceModule}
use Rattle.ir_cfg.specs.Unreached.{ModuleDropsUnreached}
use Rattle.base_forms.specs.Polls.{placed, placed_module}
use Rattle.poll_place.specs.Room.{HasFewLines}
use Rattle.rewrite_passes.specs.Before.{CanBeMade, CanHaveGroups, made_of}

-- each function of a module without unreached blocks can have its polls, then its bases, and then its groups
pub record HasReadyFunctions (reached : ModuleContent) : Type 0 where
  pub polls : All HasFewLines reached.funcs
  pub bases : All CanBeMade (placed_module reached).funcs
  pub groups : All CanHaveGroups (map (λ func. made_of (placed func)) reached.funcs)

abbrev pub FunctionsAreReady : Type 0
FunctionsAreReady = (content reached : ModuleContent) → IsSourceModule content → ModuleDropsUnreached content reached → HasReadyFunctions reached
