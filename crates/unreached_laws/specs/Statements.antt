-- What is proved of a module without its unreached blocks.
use Rattle.std.specs.Prelude.{ℕ, ℤ, ◌↔◌, List, Option}
use Rattle.std.specs.List.{All}
use Rattle.ir_ast.specs.Modules.{ModuleContent}
use Rattle.ir_cfg.specs.Paths.{IsReached}
use Rattle.ir_cfg.specs.SourceModules.{IsSourceModule}
use Rattle.ir_cfg.specs.Unreached.{ModuleDropsUnreached}
use Rattle.object_meaning.specs.Outcomes.{Outcome}
use Rattle.object_meaning.specs.SourceRuns.{SourceGives}
use Rattle.object_meaning.specs.TargetRuns.{TargetGives}
use Rattle.base_forms.specs.Based.{based_module}

-- by the source meaning it gives what the module gives: lines, end, function, steps, events, accesses and objects, for every
-- input, plan and bound
abbrev pub UnreachedAreNoMatter : Type 0
UnreachedAreNoMatter = (content after : ModuleContent) → IsSourceModule content → ModuleDropsUnreached content after
    → (input : List ℤ) (go : ℕ → Option ℕ) (bound : ℕ) (outcome : Outcome)
    → SourceGives content input go bound outcome ↔ SourceGives after input go bound outcome

-- with bases, checks and polls it gives, by the target meaning, what the module gives by the source meaning
abbrev pub BasesKeepReachedMeaning : Type 0
BasesKeepReachedMeaning = (content after : ModuleContent) → IsSourceModule content → ModuleDropsUnreached content after
    → (input : List ℤ) (go : ℕ → Option ℕ) (bound : ℕ) (outcome : Outcome)
    → SourceGives content input go bound outcome ↔ TargetGives (based_module after) input go bound outcome

-- none of its blocks is unreached
abbrev pub UnreachedAreGone : Type 0
UnreachedAreGone = (content after : ModuleContent) → ModuleDropsUnreached content after → All IsReached after.funcs

-- each source module has one without its unreached blocks
abbrev pub UnreachedCanBeDropped : Type 0
UnreachedCanBeDropped = (content : ModuleContent) → IsSourceModule content → (after : ModuleContent) × ModuleDropsUnreached content after
