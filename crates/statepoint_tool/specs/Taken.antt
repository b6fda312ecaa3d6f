-- What the files give.
use Rattle.std.specs.Prelude.{◌≡◌, ℕ, ◌<◌, ◌≤◌, List, length, Option, IfSome}
use Rattle.tool_io.specs.Counts.{Rose}
use Rattle.statepoint_tool.specs.Steps.{Step, Stop}
use Rattle.statepoint_tool.specs.declared.refusal.Cause.TheVariants.{ReadFault, TooLong}

-- a file gives its bytes, has more of them than the limit of 16 MiB, or can't be read
pub data Taken : Type 0 where
  Bytes : List ℕ → Taken
  Longer : Taken
  Faulty : Taken

-- what a call sees of the files: their contents where they are told, and the faults that were counted
-- for each name before it and after it
pub record FilesSeen : Type 0 where
  pub contents : List ℕ → Option (List ℕ)
  pub faults_before : List ℕ → ℕ
  pub faults_after : List ℕ → ℕ

abbrev pub files_seen : (List ℕ → Option (List ℕ)) → (List ℕ → ℕ) → (List ℕ → ℕ) → FilesSeen
files_seen contents before after = record { contents = contents; faults_before = before; faults_after = after }

-- the file of this name may have given this: told contents are what it gave, and it failed only where a
-- fault was counted for its name
abbrev pub MayGive : FilesSeen → List ℕ → Taken → Type 0
MayGive files name (Bytes bytes) = (length bytes ≤ 16777216) × IfSome (files.contents name) (λ told. bytes ≡ told)
MayGive files name Longer = IfSome (files.contents name) (λ told. 16777216 < length told)
MayGive files name Faulty = Rose (files.faults_before name) (files.faults_after name)

-- a file is taken and read
abbrev pub file_phase : {A : Type 0} → List ℕ → (List ℕ → Step A → Type 0) → Taken → Step A → Type 0
file_phase name read (Bytes bytes) step = read bytes step
file_phase name read Longer step = step ≡ Stop (TooLong name)
file_phase name read Faulty step = step ≡ Stop (ReadFault name)
