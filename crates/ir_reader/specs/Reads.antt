-- What a call that reads a text returns.
use Rattle.std.specs.Prelude.{◌≡◌, ℕ, List, [], ◌∷◌, ◌++◌, Result, Ok, Err}
use Rattle.ir_reader.specs.declared.faults.ReadFault.{ReadFault}
use Rattle.ir_reader.specs.declared.faults.ReadFault.TheVariants as read_faults
use Rattle.ir_reader.specs.declared.states.State.{State}
use Rattle.ir_reader.specs.Text.{Numbered, Fault, syntax_fault, limit_fault, Outcome, no_reading, over_limit, nothing, said}

-- The fault that is told is the one that the text has; want of memory says nothing of the text.
abbrev pub IsFault : ReadFault → Result (List Numbered) Fault → Type 0
IsFault (read_faults.Syntax line) read = read ≡ Err (syntax_fault line)
IsFault (read_faults.Limit line) read = read ≡ Err (limit_fault line)
IsFault read_faults.Memory read = Unit {0}

-- what was returned, seen by view, is what the text says
abbrev pub TextGives : {X : Type 0} → (X → List Numbered) → Result X ReadFault → Result (List Numbered) Fault → Type 0
TextGives view (Ok x) read = read ≡ Ok (view x)
TextGives view (Err fault) read = IsFault fault read

-- what a line adds to the readings, and what is known behind it
abbrev pub AfterLine : Outcome → ℕ → State → State → List Numbered → List Numbered → Type 0
AfterLine no_reading number old new before behind = ⊥
AfterLine over_limit number old new before behind = ⊥
AfterLine nothing number old new before behind = (new ≡ old) × (behind ≡ before)
AfterLine (said what next) number old new before behind = (new ≡ next) × (behind ≡ before ++ record { line = number; said = what } ∷ [])

-- the fault of a line
abbrev pub FaultOfLine : ReadFault → ℕ → Outcome → Type 0
FaultOfLine (read_faults.Syntax line) number outcome = (outcome ≡ no_reading) × (line ≡ number)
FaultOfLine (read_faults.Limit line) number outcome = (outcome ≡ over_limit) × (line ≡ number)
FaultOfLine read_faults.Memory number outcome = Unit {0}
