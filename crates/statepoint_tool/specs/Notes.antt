-- The line that each refusal puts on standard error, and its status.
use Rattle.std.specs.Prelude.{ℕ, List}
use Rattle.map_bytes.specs.Codes.{rule_code}
use Rattle.tool_report.specs.declared.notes.Note.TheVariants as note
use Rattle.tool_report.specs.Notes.{note_text, read_fault_line, too_long_line}
use Rattle.statepoint_tool.specs.declared.refusal.Cause.{Cause}
use Rattle.statepoint_tool.specs.declared.refusal.Cause.TheVariants.{Words, ReadFault, TooLong, Module, Input, Plan, Map, Check}
use Rattle.statepoint_tool.specs.declared.refusal.ModuleFault.{ModuleFault}
use Rattle.statepoint_tool.specs.declared.refusal.PlanFault.{PlanFault}
use Rattle.statepoint_tool.specs.declared.refusal.ModuleFault.TheVariants.{Syntax, Limit, Typed, TooManyRelocations}
use Rattle.statepoint_tool.specs.declared.refusal.PlanFault.TheVariants as plan_fault
use Rattle.statepoint_tool.specs.declared.refusal.Refusal.{Refusal}
use Rattle.statepoint_tool.specs.declared.refusal.Refusal.TheVariants.{Defined, WriteFault, Memory}
use Rattle.statepoint_tool.specs.declared.status.Status.{Status}
use Rattle.statepoint_tool.specs.declared.status.Status.TheVariants as status

abbrev pub module_fault_line : ModuleFault → List ℕ
module_fault_line (Syntax line) = note_text (note.Module line 1)
module_fault_line (Limit line) = note_text (note.Module line 2)
module_fault_line (Typed fault) = note_text (note.Module fault.line fault.code)
module_fault_line TooManyRelocations = note_text (note.Module 0 17)

abbrev pub plan_fault_line : PlanFault → List ℕ
plan_fault_line (plan_fault.Syntax line) = note_text (note.Plan line 1)
plan_fault_line (plan_fault.Order line) = note_text (note.Plan line 2)
plan_fault_line (plan_fault.TwoGo line) = note_text (note.Plan line 3)
plan_fault_line (plan_fault.Limit line) = note_text (note.Plan line 4)

abbrev pub cause_line : Cause → List ℕ
cause_line Words = note_text note.Usage
cause_line (ReadFault name) = read_fault_line name
cause_line (TooLong name) = too_long_line name
cause_line (Module fault) = module_fault_line fault
cause_line (Input line) = note_text (note.Input line)
cause_line (Plan fault) = plan_fault_line fault
cause_line (Map fault) = note_text (note.Map fault.at (rule_code fault.rule))
cause_line (Check fault) = note_text (note.Check fault.line fault.code)

abbrev pub refusal_line : Refusal → List ℕ
refusal_line (Defined cause) = cause_line cause
refusal_line WriteFault = note_text note.WriteFault
refusal_line Memory = note_text note.Memory

abbrev pub status_of_cause : Cause → Status
status_of_cause Words = status.WordsRefused
status_of_cause (ReadFault _) = status.ReadFault
status_of_cause (TooLong _) = status.TooLong
status_of_cause (Module _) = status.ModuleRefused
status_of_cause (Input _) = status.InputRefused
status_of_cause (Plan _) = status.PlanRefused
status_of_cause (Map _) = status.MapRefused
status_of_cause (Check _) = status.CheckSaidNo

abbrev pub status_of_refusal : Refusal → Status
status_of_refusal (Defined cause) = status_of_cause cause
status_of_refusal WriteFault = status.WriteFault
status_of_refusal Memory = status.WantOfMemory
