-- Phases that read a file.
use Rattle.std.proofs.Common.{◌≡◌, ℕ, ◌≤◌, List, length, IfSome, Result, Ok, Err, refl, Vec, Global}
use Rattle.statepoint_tool.specs.Answers.{Agrees, Reads}
use Rattle.statepoint_tool.specs.Steps.{Step, Go, Then, comes_to}
use Rattle.statepoint_tool.specs.Taken.{Taken, Bytes, Longer, Faulty, FilesSeen, file_phase}
use Rattle.statepoint_tool.specs.declared.refusal.Cause.TheVariants.{ReadFault, TooLong}
use Rattle.statepoint_tool.specs.declared.refusal.Refusal.{Refusal}
use Rattle.statepoint_tool.specs.declared.refusal.Refusal.TheVariants.{Defined, Memory, WriteFault}
use Rattle.statepoint_tool.proofs.GivenLaws.{as_told, MayGive-as_told}
use Rattle.statepoint_tool.proofs.JudgeLaws.{file-stops}
use Rattle.statepoint_tool.proofs.StepLaws.{not_both}
use Rattle.statepoint_tool.proofs.WorksLaws.{Agrees-goes_on}

-- want of memory agrees with whatever the file may give
pub Reads-memory : {A B : Type 0} {files : FilesSeen} {name : List ℕ} {read : List ℕ → Step A → Type 0} {view : B → A} →
    Reads files name read view (Err Memory)
Reads-memory {A} {B} {files} {name} {read} {view} =
    record { given = as_told files name; may_give = MayGive-as_told files name; agrees = tt }

-- bytes within the limit, which are the told contents, are what the file gave
pub Reads-bytes : {files : FilesSeen} {name : List ℕ} (bytes : Vec ℕ Global) → length bytes.items ≤ 16777216 →
    IfSome (files.contents name) (λ told. bytes.items ≡ told) →
    Reads files name (λ text. comes_to (Go text)) (λ taken. taken.items) (Ok bytes)
Reads-bytes {files} {name} bytes within told = record { given = Bytes bytes.items; may_give = (within, told); agrees = refl }

-- ---- a phase that another follows

agrees_stops : {A B C D : Type 0} (name : List ℕ) (read : List ℕ → Step A → Type 0) (view : B → A) (next : A → Step C → Type 0) (last : D → C) (given : Taken) (refusal : Refusal)
    → Agrees view (Err refusal) (file_phase name read given) → Agrees last (Err refusal) (file_phase name (λ text. Then (read text) next) given)
agrees_stops name read view next last given (Defined cause) agrees = file-stops name read next given cause agrees
agrees_stops name read view next last given WriteFault agrees = absurd agrees
agrees_stops name read view next last given Memory agrees = tt

-- where it refuses, so do both
pub Reads-stops : {A B C D : Type 0} {files : FilesSeen} {name : List ℕ} {read : List ℕ → Step A → Type 0} {view : B → A} {refusal : Refusal}
    (next : A → Step C → Type 0) (last : D → C) → Reads files name read view (Err refusal) → Reads files name (λ text. Then (read text) next) last (Err refusal)
Reads-stops {A} {B} {C} {D} {files} {name} {read} {view} {refusal} next last reads = record {
  given = reads.given;
  may_give = reads.may_give;
  agrees = agrees_stops name read view next last reads.given refusal reads.agrees;
}

agrees_then : {A B C D : Type 0} (name : List ℕ) (read : List ℕ → Step A → Type 0) (view : B → A) (value : B) (next : A → Step C → Type 0) (last : D → C) (given : Taken) (result : Result D Refusal)
    → file_phase name read given (Go (view value)) → Agrees last result (next (view value)) → Agrees last result (file_phase name (λ text. Then (read text) next) given)
agrees_then name read view value next last (Bytes text) result first rest = Agrees-goes_on (read text) view value result next last first rest
agrees_then name read view value next last Longer result first rest = absurd (not_both (view value) (TooLong name) first)
agrees_then name read view value next last Faulty result first rest = absurd (not_both (view value) (ReadFault name) first)

-- where it goes on, what follows decides
pub Reads-then : {A B C D : Type 0} {files : FilesSeen} {name : List ℕ} {read : List ℕ → Step A → Type 0} {view : B → A} {value : B} {result : Result D Refusal}
    (next : A → Step C → Type 0) (last : D → C) → Reads files name read view (Ok value) → Agrees last result (next (view value)) → Reads files name (λ text. Then (read text) next) last result
Reads-then {A} {B} {C} {D} {files} {name} {read} {view} {value} {result} next last reads rest = record {
  given = reads.given;
  may_give = reads.may_give;
  agrees = agrees_then name read view value next last reads.given result reads.agrees rest;
}
