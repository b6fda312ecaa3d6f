-- The rewritten module of a source module, and what is proved of it.
use Rattle.std.specs.Prelude.{◌≡◌, ◌↔◌, ℕ, ℤ, List, Option, map}
use Rattle.ir_ast.specs.Modules.{ModuleContent}
use Rattle.ir_cfg.specs.SourceModules.{IsSourceModule}
use Rattle.ir_cfg.specs.TargetModules.{IsTargetModule}
use Rattle.ir_cfg.specs.Unreached.{ModuleDropsUnreached}
use Rattle.object_meaning.specs.Outcomes.{Outcome}
use Rattle.object_meaning.specs.SourceRuns.{SourceGives}
use Rattle.object_meaning.specs.TargetRuns.{TargetGives}
use Rattle.base_forms.specs.Polls.{placed}
use Rattle.base_forms.specs.Based.{base_table, based}
use Rattle.pair_facts.specs.Faults.{IsVerified}
use Rattle.rewriting_forms.specs.Rewritten.{rewritten}
use Rattle.rewritten_sound.specs.Definite.{rewritten_source}

-- without its unreached blocks, with polls, bases and checks, and with a statepoint and its relocates in place of each call that isn't
-- of a leaf
pub record IsRewritten (content after : ModuleContent) : Type 0 where
  pub reached : ModuleContent
  pub drops : ModuleDropsUnreached content reached
  pub rest : after ≡ rewritten_source reached

-- each source module has one
abbrev pub SourceIsRewritten : Type 0
SourceIsRewritten = (content : ModuleContent) → IsSourceModule content → (after : ModuleContent) × IsRewritten content after

-- its functions are those of what is left, each rewritten by itself
abbrev pub RewritingIsByFunction : Type 0
RewritingIsByFunction = (content after : ModuleContent) → (is : IsRewritten content after)
    → after.funcs ≡ map (λ func. rewritten (based (placed func)) (base_table (placed func))) is.reached.funcs

-- there is only one
abbrev pub RewritingIsOne : Type 0
RewritingIsOne = (content one other : ModuleContent) → IsRewritten content one → IsRewritten content other → one ≡ other

-- it gives, by the target meaning, what its source gives by the source meaning: lines, end, function, steps, events, accesses and objects
abbrev pub RewritingKeepsMeaning : Type 0
RewritingKeepsMeaning = (content after : ModuleContent) → IsSourceModule content → IsRewritten content after
    → (input : List ℤ) (go : ℕ → Option ℕ) (bound : ℕ) (outcome : Outcome)
    → SourceGives content input go bound outcome ↔ TargetGives after input go bound outcome

-- it is a target module
abbrev pub RewritingIsTarget : Type 0
RewritingIsTarget = (content after : ModuleContent) → IsSourceModule content → IsRewritten content after → IsTargetModule after

-- it has no fault of the verifier
abbrev pub RewritingIsVerified : Type 0
RewritingIsVerified = (content after : ModuleContent) → IsSourceModule content → IsRewritten content after → IsVerified after
