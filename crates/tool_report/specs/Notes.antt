-- The line that each refusal puts on standard error.
use Rattle.std.specs.Prelude.{ℕ, List, ◌++◌, codes, decimal}
use Rattle.tool_report.specs.declared.notes.Note.{Note}
use Rattle.tool_report.specs.declared.notes.Note.TheVariants.{Module, Usage, ReadFault, WriteFault, Memory, Plan, Input, Check, Map, TooLong}
use Rattle.tool_report.specs.Names.{module_name, plan_name, check_name, map_name}

-- a code and its name
abbrev pub coded : ℕ → List ℕ → List ℕ
coded code name = codes ": " ++ (decimal code ++ (codes " " ++ (name ++ codes "\n")))

-- a place of a text or of bytes, and what is wrong there
abbrev pub at_place : List ℕ → ℕ → List ℕ → List ℕ
at_place what number wrong = what ++ (decimal number ++ wrong)

abbrev pub read_fault_line : List ℕ → List ℕ
read_fault_line file = codes "read fault: " ++ (file ++ codes "\n")

abbrev pub too_long_line : List ℕ → List ℕ
too_long_line file = codes "too long: " ++ (file ++ codes "\n")

abbrev pub note_text : Note → List ℕ
note_text (Module line code) = at_place (codes "module line ") line (coded code (module_name code))
note_text Usage = codes "usage: statepoint COMMAND WORDS\n"
note_text (ReadFault file) = read_fault_line file.now
note_text WriteFault = codes "write fault\n"
note_text Memory = codes "out of memory\n"
note_text (Plan line code) = at_place (codes "plan line ") line (coded code (plan_name code))
note_text (Input line) = at_place (codes "input line ") line (codes "\n")
note_text (Check line code) = at_place (codes "check line ") line (coded code (check_name code))
note_text (Map at code) = at_place (codes "map byte ") at (coded code (map_name code))
note_text (TooLong file) = too_long_line file.now
