-- What is proved of the relocates of generated modules.
use Rattle.std.specs.Prelude.{ℕ, ◌≤◌}
use Rattle.ir_ast.specs.Modules.{ModuleContent}
use Rattle.ir_cfg.specs.Unreached.{ModuleDropsUnreached}
use Rattle.sp_rewrite.specs.Relocates.{relocates_in, HasManyRelocates}
use Rattle.generated_forms.specs.Modules.{generated}

-- the groups of each have few relocates
abbrev pub GeneratedRelocatesAreFew : Type 0
GeneratedRelocatesAreFew = (seed size : ℕ) (reached : ModuleContent) → size ≤ 1000 → ModuleDropsUnreached (generated seed size) reached
    → relocates_in reached ≤ 4194304

-- and so never too many
abbrev pub GeneratedIsNeverRefused : Type 0
GeneratedIsNeverRefused = (seed size : ℕ) → size ≤ 1000 → ¬ HasManyRelocates (generated seed size)
