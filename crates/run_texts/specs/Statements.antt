-- What is proved of the texts of runs.
use Rattle.std.specs.Prelude.{◌≡◌, ℕ, ℤ, Bool, false, List, ◌++◌}
use Rattle.std.specs.List.{concat}
use Rattle.ir_ast.specs.Modules.{ModuleContent}
use Rattle.move_plan.specs.declared.plan_lines.PlanLine.{PlanLine}
use Rattle.map_bytes.specs.Maps.{StackMap}
use Rattle.object_meaning.specs.Runs.{Go}
use Rattle.object_meaning.specs.Texts.{function_name}
use Rattle.machine_meaning.specs.Code.{machinery_of}
use Rattle.machine_meaning.specs.MachineRuns.{MachineOutcome, machine_opening}
use Rattle.tool_report.specs.Closings.{closing_line}
use Rattle.run_texts.specs.RunTexts.{RunWrites, lines_from}

-- a run has one text
abbrev pub OneText : Type 0
OneText = (content : ModuleContent) (map : StackMap) (input : List ℤ) (plan : List PlanLine) (bound : ℕ)
    → (places trace : Bool) (one other : MachineOutcome) (text other_text : List ℕ) → RunWrites content map input plan bound places trace one text
    → RunWrites content map input plan bound places trace other other_text → text ≡ other_text

-- without places and trace a text has the lines of the outcome and the closing line
abbrev pub BareTexts : Type 0
BareTexts = (content : ModuleContent) (map : StackMap) (input : List ℤ) (plan : List PlanLine) (bound : ℕ) (outcome : MachineOutcome) (text : List ℕ)
    → RunWrites content map input plan bound false false outcome text
    → text ≡ concat outcome.lines ++ closing_line outcome.end (function_name content outcome.func) outcome.steps outcome.events

-- a text that begins so
pub record BeginsWith (text front : List ℕ) : Type 0 where
  pub more : List ℕ
  pub is : text ≡ front ++ more

-- what the first so many steps of a run write stands first in its text
abbrev pub WrittenFirst : Type 0
WrittenFirst = (content : ModuleContent) (map : StackMap) (input : List ℤ) (plan : List PlanLine) (bound : ℕ)
    → (places trace : Bool) (outcome : MachineOutcome) (text : List ℕ) → RunWrites content map input plan bound places trace outcome text
    → (steps : ℕ) → BeginsWith text (concat (lines_from (machinery_of content map plan bound) trace steps (Go (machine_opening (machinery_of content map plan bound) input))))
