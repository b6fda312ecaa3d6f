-- The source meaning: the run of a source module for an input, the `go` lines of a plan and a bound on steps.
use Rattle.std.specs.Prelude.{ℕ, ℤ, List, [], ◌∷◌, Option, None}
use Rattle.ir_ast.specs.Modules.{ModuleContent}
use Rattle.object_meaning.specs.Lines.{poll, lines_of, main_of, register_count}
use Rattle.object_meaning.specs.States.{Setting}
use Rattle.object_meaning.specs.Texts.{function_name}
use Rattle.object_meaning.specs.Outcomes.{Outcome, Gives}

-- a source module runs with a poll at each poll point; the first stands before the lines of the entry block
abbrev pub source_setting : ModuleContent → (ℕ → Option ℕ) → ℕ → Setting
source_setting content go bound = record {
  lines = lines_of content;
  front = poll ∷ [];
  registers = register_count content;
  layouts = content.layouts;
  main = main_of content;
  names = function_name content;
  go = go;
  bound = bound;
}

-- a plan without `go` lines
abbrev pub no_go : ℕ → Option ℕ
no_go event = None

-- the run of the module gives this
abbrev pub SourceGives : ModuleContent → List ℤ → (ℕ → Option ℕ) → ℕ → Outcome → Type 0
SourceGives content input go bound outcome = Gives (source_setting content go bound) input outcome
