-- Code 10. A definition lacks the strategy, or names another.
use Rattle.std.specs.Prelude.{ℕ, Bool, false, not, List, codes, Option, Some, None}
use Rattle.std.specs.Str.{bytes_eq}
use Rattle.ir_lines.specs.Statements.{Line, Statement, define}
use Rattle.ir_lines.specs.InBody.{InText}

abbrev pub is_strategy : Option (List ℕ) → Bool
is_strategy None = false
is_strategy (Some name) = bytes_eq name (codes "statepoint-example")

abbrev pub lacks_strategy : Statement → Bool
lacks_strategy (define answer name arguments strategy) = not (is_strategy strategy)
lacks_strategy _ = false

abbrev pub NoStrategy : List Line → ℕ → Type 0
NoStrategy lines line = InText lines line lacks_strategy
