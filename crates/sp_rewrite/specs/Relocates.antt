-- How many relocates the groups of a source module have.
use Rattle.std.specs.Prelude.{ℕ, ◌<◌, ◌≤◌, ◌⊎◌, map, sum}
use Rattle.ir_ast.specs.Modules.{ModuleContent}
use Rattle.ir_cfg.specs.SourceModules.{IsSourceModule}
use Rattle.ir_cfg.specs.Unreached.{ModuleDropsUnreached}
use Rattle.base_forms.specs.Polls.{placed}
use Rattle.rewrite_passes.specs.Before.{relocates_of}

-- those of a module without unreached blocks
abbrev pub relocates_in : ModuleContent → ℕ
relocates_in reached = sum (map (λ func. relocates_of (placed func)) reached.funcs)

pub record HasFewRelocates (content : ModuleContent) : Type 0 where
  pub reached : ModuleContent
  pub drops : ModuleDropsUnreached content reached
  pub few : relocates_in reached ≤ 4194304

pub record HasManyRelocates (content : ModuleContent) : Type 0 where
  pub reached : ModuleContent
  pub drops : ModuleDropsUnreached content reached
  pub many : 4194304 < relocates_in reached

-- a source module has few or many, and not both
abbrev pub FewOrMany : Type 0
FewOrMany = (content : ModuleContent) → IsSourceModule content → HasFewRelocates content ⊎ HasManyRelocates content

abbrev pub FewAreNotMany : Type 0
FewAreNotMany = (content : ModuleContent) → HasFewRelocates content → ¬ HasManyRelocates content
