-- A line of a function that a test finds, with what it can name; and names that stand twice.
use Rattle.std.specs.Prelude.{◌≡◌, ℕ, Bool, true, List, ◌∷◌, ◌++◌, map}
use Rattle.std.specs.List.{Contains}
use Rattle.ir_lines.specs.Statements.{Line, Statement}
use Rattle.ir_lines.specs.Sections.{Definition, definitions_of}
use Rattle.ir_lines.specs.Scope.{Scope, scope_of}

pub record InBody (lines : List Line) (line : ℕ) (test : Scope → Statement → Bool) : Type 0 where
  pub func : Definition
  pub defined : Contains (definitions_of lines) func
  pub found : Line
  pub inside : Contains func.body found
  pub number : found.number ≡ line
  pub faulty : test (scope_of lines func) found.says ≡ true

-- a line of the whole text that a test finds
pub record InText (lines : List Line) (line : ℕ) (test : Statement → Bool) : Type 0 where
  pub found : Line
  pub inside : Contains lines found
  pub number : found.number ≡ line
  pub faulty : test found.says ≡ true

-- the line gives what an earlier one in the list gives
pub record Repeats {A : Type 0} (given : List (ℕ × A)) (line : ℕ) : Type 0 where
  pub before : List (ℕ × A)
  pub what : A
  pub after : List (ℕ × A)
  pub whole : given ≡ before ++ (line, what) ∷ after
  pub again : Contains (map (λ one. one.1) before) what
