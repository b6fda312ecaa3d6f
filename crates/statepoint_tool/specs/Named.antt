-- The files that the words name, in the order of work.
use Rattle.std.specs.Prelude.{◌≡◌, ℕ, ⊤, List, [], ◌∷◌, Option, Some, None}
use Rattle.tool_io.specs.Takes.{TakesFirst}
use Rattle.tool_io.specs.Told.{append_told}
use Rattle.tool_words.specs.Words.{command_of}
use Rattle.statepoint_tool.specs.Work.{map_named, showing}
use Rattle.statepoint_tool.specs.declared.engine.Engine.{Engine}
use Rattle.statepoint_tool.specs.declared.engine.Engine.TheVariants.{Meaning, Rewriter, Machine}
use Rattle.tool_words.specs.declared.request.RunRequest.{RunRequest}
use Rattle.tool_words.specs.declared.request.Command.{Command}
use Rattle.tool_words.specs.declared.request.Command.TheVariants.{Show, Rewrite, Check, Source, Run, Exec, Gen}
use Rattle.statepoint_tool.specs.declared.status.Status.{Status}
use Rattle.statepoint_tool.specs.declared.status.Status.TheVariants.{Done, Trapped, OutOfSteps, Stray}

-- the file of a stack map, where one is named
abbrev pub file_named : Option (List ℕ) → List (List ℕ)
file_named None = []
file_named (Some name) = name ∷ []

abbrev pub files_of_map : Engine → List (List ℕ)
files_of_map engine = file_named (map_named engine)

-- a run takes its module, its input, its plan, and then the stack map
abbrev pub files_of_run : Engine → RunRequest → List (List ℕ)
files_of_run engine request = request.code ∷ request.input ∷ request.plan ∷ files_of_map engine

abbrev pub files_of_command : Option Command → List (List ℕ)
files_of_command None = []
files_of_command (Some (Show module_file)) = module_file ∷ []
files_of_command (Some (Rewrite module_file part)) = module_file ∷ []
files_of_command (Some (Check module_file)) = module_file ∷ []
files_of_command (Some (Source request)) = files_of_run Meaning request
files_of_command (Some (Run request map_file places trace)) = files_of_run (Rewriter map_file (showing places trace)) request
files_of_command (Some (Exec request map_file trust places trace)) = files_of_run (Machine map_file trust (showing places trace)) request
files_of_command (Some (Gen seed size steps)) = []

abbrev pub files_named : List (List ℕ) → List (List ℕ)
files_named words = files_of_command (command_of words)

-- the work came to its end
abbrev pub IsEnd : Status → Type 0
IsEnd Done = ⊤
IsEnd Trapped = ⊤
IsEnd OutOfSteps = ⊤
IsEnd Stray = ⊤
IsEnd _ = ⊥

-- which files a call takes: of those that the words name the first ones, each once, in the order of work, and no other; and all of
-- them where the work came to its end
pub record TakesNamed (words : List (List ℕ)) (before now : Option (List (List ℕ))) (status : Status) : Type 0 where
  pub first : TakesFirst (files_named words) before now
  pub all : IsEnd status → now ≡ append_told before (files_named words)
