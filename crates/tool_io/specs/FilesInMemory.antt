-- Files in memory: names with contents, the calls that are to fail, and the counts of faults.
use Rattle.std.specs.Prelude.{ℕ, ◌==◌, ◌||◌, Bool, nat_lt, is_none, if◌then◌else◌, List, [], ◌∷◌, ◌++◌, length, slice_index_or, slice_set, Result, Ok, Err}
use Rattle.std.specs.List.{list_any}
use Rattle.tool_io.specs.Counts.{raised}
use Rattle.tool_io.specs.NamedFiles.{NamedFile, contents_of, place_of}
use Rattle.tool_io.specs.declared.files.TakeFault.{TakeFault}
use Rattle.tool_io.specs.declared.files.TakeFault.TheVariants.{Failed, TooLong, Memory}

pub record FilesInMemory : Type 0 where
  pub files : List NamedFile
  -- a count for each file, by its place
  pub faults : List ℕ
  -- and one for all other names
  pub other_faults : ℕ
  -- the numbers of the calls that are to fail
  pub failing : List ℕ
  pub calls : ℕ

-- no file yet, and no call
abbrev pub no_files : FilesInMemory
no_files = record { files = []; faults = []; other_faults = 0; failing = []; calls = 0 }

-- one file more
abbrev pub with_file : FilesInMemory → List ℕ → List ℕ → FilesInMemory
with_file held name contents =
    record held { files = held.files ++ record { name = name; contents = contents } ∷ []; faults = held.faults ++ 0 ∷ [] }

-- the faults that were counted for this name
abbrev pub faults_of : FilesInMemory → List ℕ → ℕ
faults_of held name = slice_index_or held.faults (place_of held.files name) held.other_faults

-- one fault more of this name
abbrev pub with_fault : FilesInMemory → List ℕ → FilesInMemory
with_fault held name =
    if nat_lt (place_of held.files name) (length held.files)
    then record held { faults = slice_set held.faults (place_of held.files name) (raised (faults_of held name)) }
    else record held { other_faults = raised held.other_faults }

-- whether the call of this number fails: by its number, or since no file has this name
abbrev pub fails_at : FilesInMemory → ℕ → List ℕ → Bool
fails_at held call name = list_any (λ number. number == call) held.failing || is_none (contents_of held.files name)

-- what a call leaves: after want of memory the files as they were, and else one call more, with a
-- fault counted where it failed
abbrev pub after_take : {X : Type 0} → FilesInMemory → List ℕ → Result X TakeFault → FilesInMemory
after_take held name (Ok _) = record held { calls = raised held.calls }
after_take held name (Err Failed) = with_fault (record held { calls = raised held.calls }) name
after_take held name (Err TooLong) = record held { calls = raised held.calls }
after_take held name (Err Memory) = held
