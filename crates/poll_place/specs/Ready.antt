-- What the function with polls must have, so that bases can be put in.
use Rattle.std.specs.Prelude.{◌<◌, ◌^◌, length}
use Rattle.std.specs.List.{All}
use Rattle.ir_ast.specs.Funcs.{Function, instructions_of}
use Rattle.ir_ast.specs.Modules.{ModuleContent}
use Rattle.ir_ast.specs.Lines.{IsLine}
use Rattle.ir_ast.specs.Faults.UnknownName.{LocalNamesAreKnown}
use Rattle.ir_cfg.specs.SourceModules.{IsSourceModule}
use Rattle.base_forms.specs.Polls.{placed_module}
use Rattle.poll_place.specs.Room.{HasFewLines}

pub record IsReady (func : Function) : Type 0 where
  pub lines : All IsLine (instructions_of func.blocks)
  pub known : LocalNamesAreKnown func
  pub few : length (instructions_of func.blocks) < 2 ^ 29

-- there is room for the polls of each function, and bases can be put into each with its polls
pub record HasReadyPolls (content : ModuleContent) : Type 0 where
  pub room : All HasFewLines content.funcs
  pub ready : All IsReady (placed_module content).funcs

abbrev pub SourcesAreReady : Type 0
SourcesAreReady = (content : ModuleContent) → IsSourceModule content → HasReadyPolls content
