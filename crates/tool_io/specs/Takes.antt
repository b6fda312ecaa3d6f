-- Which files are taken, by name.
use Rattle.std.specs.Prelude.{◌≡◌, ℕ, List, ◌++◌, Option, Result, Ok, Err}
use Rattle.tool_io.specs.NamedFiles.{NamedFile}
use Rattle.tool_io.specs.Told.{append_told, add_told}
use Rattle.tool_io.specs.declared.files.TakeFault.{TakeFault}
use Rattle.tool_io.specs.declared.files.TakeFault.TheVariants.{Failed, TooLong, Memory}

-- the names of the files that were taken, after one call more: its name goes last, whatever the file gave, but where memory was wanted
abbrev pub after_taking : {X : Type 0} → Result X TakeFault → Option (List (List ℕ)) → List ℕ → Option (List (List ℕ))
after_taking (Ok _) taken name = add_told taken name
after_taking (Err Failed) taken name = add_told taken name
after_taking (Err TooLong) taken name = add_told taken name
after_taking (Err Memory) taken name = taken

-- of these files the first ones were taken, each once, in this order, and no other
pub record TakesFirst (names : List (List ℕ)) (before now : Option (List (List ℕ))) : Type 0 where
  pub first : List (List ℕ)
  pub rest : List (List ℕ)
  pub whole : names ≡ first ++ rest
  pub taken : now ≡ append_told before first

-- files by name, and the names of those that were taken
pub record NotedFiles : Type 0 where
  pub files : List NamedFile
  pub taken : List (List ℕ)
