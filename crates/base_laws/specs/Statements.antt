-- What is proved of the function with bases, checks and polls.
use Rattle.std.specs.Prelude.{◌≡◌, ℕ, ℤ, ◌↔◌, List, Option}
use Rattle.std.specs.List.{All, Contains}
use Rattle.ir_ast.specs.Blocks.{EndsAtTerminator}
use Rattle.ir_ast.specs.Funcs.{Function}
use Rattle.ir_ast.specs.Modules.{ModuleContent}
use Rattle.ir_cfg.specs.Graphs.{graph_of}
use Rattle.ir_cfg.specs.Paths.{Reached, Way}
use Rattle.ir_cfg.specs.SourceModules.{IsSourceModule}
use Rattle.object_meaning.specs.Outcomes.{Outcome}
use Rattle.object_meaning.specs.SourceRuns.{SourceGives}
use Rattle.object_meaning.specs.TargetRuns.{TargetGives}
use Rattle.base_forms.specs.Polls.{placed}
use Rattle.base_forms.specs.Based.{based, based_module}
use Rattle.base_laws.specs.BeforeLiveness.{IsBeforeLiveness}
use Rattle.base_laws.specs.PollsPlaced.{EndsWithPoll}

-- the module with bases, checks and polls gives, by the target meaning, what its source gives by the source meaning: lines,
-- end, function, steps, events, accesses and objects, for every input, plan and bound
abbrev pub BasesKeepMeaning : Type 0
BasesKeepMeaning = (content : ModuleContent) → IsSourceModule content
    → (input : List ℤ) (go : ℕ → Option ℕ) (bound : ℕ) (outcome : Outcome)
    → SourceGives content input go bound outcome ↔ TargetGives (based_module content) input go bound outcome

-- polls change no edge, and every cycle of edges between reached blocks has a block with a poll before its terminator
abbrev pub PlacedCyclesPoll : Type 0
PlacedCyclesPoll = (func : Function) → All (λ block. EndsAtTerminator block.insts) func.blocks
    → (graph_of (placed func) ≡ graph_of func)
    × ((block : ℕ) (blocks : List ℕ) → Reached (graph_of (placed func)) block → Way (graph_of (placed func)) block blocks block
    → (polling : ℕ) × Contains blocks polling × EndsWithPoll (placed func) polling)

-- the functions of the module with bases are in shape for liveness, and have the edges of their sources
abbrev pub BasedIsInShape : Type 0
BasedIsInShape = (content : ModuleContent) → IsSourceModule content
    → All (IsBeforeLiveness (based_module content)) (based_module content).funcs
    × All (λ func. graph_of (based (placed func)) ≡ graph_of func) content.funcs
