-- What is proved of commands: each comes to one step, and what the command `rewrite` writes, the command `check` takes.
use Rattle.std.specs.Prelude.{◌≡◌, ◌≤◌, ℕ, List, length, Some}
use Rattle.tool_words.specs.Words.{command_of}
use Rattle.tool_words.specs.declared.request.Command.TheVariants.{Rewrite}
use Rattle.tool_words.specs.declared.request.Part.TheVariants.{Text}
use Rattle.statepoint_tool.specs.Causes.{Ends}
use Rattle.statepoint_tool.specs.Steps.{Step, Go}
use Rattle.statepoint_tool.specs.Taken.{Bytes, FilesSeen}
use Rattle.statepoint_tool.specs.Work.{Given, MayGiveNamed, Output, check_work, passed, work}

-- the work comes to one output or one cause at most
abbrev pub WorkIsOne : Type 0
WorkIsOne = (words : List (List ℕ)) (given : Given) (one other : Step Output) → work words given one → work words given other → one ≡ other

-- the words ask for the text of a rewritten module
pub record AsksForText (words : List (List ℕ)) : Type 0 where
  pub module_file : List ℕ
  pub command : command_of words ≡ Some (Rewrite module_file Text)

-- whatever `rewrite` writes, in a file that `check` names, comes to `ok`, where it isn't longer than a file may be
abbrev pub WrittenTextsAreOk : Type 0
WrittenTextsAreOk = (words : List (List ℕ)) → AsksForText words → (files : FilesSeen) (given : Given) → MayGiveNamed files (command_of words) given
    → (output : Output) → Ends words given output → length output.text ≤ 16777216
    → (module_file : List ℕ) (later : Given) → later.module_file ≡ Bytes output.text → check_work module_file later (Go passed)
