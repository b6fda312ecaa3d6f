-- What is proved of the form of generated modules.
use Rattle.std.specs.Prelude.{ℕ, ◌≤◌}
use Rattle.ir_cfg.specs.SourceModules.{IsSourceModule}
use Rattle.generated_forms.specs.Modules.{generated}

-- each is a source module
abbrev pub GeneratedIsSource : Type 0
GeneratedIsSource = (seed size : ℕ) → size ≤ 1000 → IsSourceModule (generated seed size)
