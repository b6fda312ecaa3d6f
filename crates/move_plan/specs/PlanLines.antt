-- What a line of a plan says.
use Rattle.std.specs.Prelude.{◌≡◌, ℕ, ◌<◌, ◌≤◌, ◌^◌, List, [], ◌∷◌, codes, Option, Some, None}
use Rattle.std.specs.Fmt.{decimal}
use Rattle.move_plan.specs.declared.plan_lines.PlanLine.{PlanLine}
use Rattle.move_plan.specs.declared.plan_lines.PlanLine.TheVariants.{Every, Move, Flip, Go}
use Rattle.move_plan.specs.Words.{words, IsBlank}

-- the words of the line that says this; a number is spelled in decimals, without leading zeros
abbrev pub spelling : PlanLine → List (List ℕ)
spelling (Every period) = codes "every" ∷ decimal period ∷ codes "flip" ∷ []
spelling (Move event obj to) = codes "at" ∷ decimal event ∷ codes "move" ∷ decimal obj ∷ codes "to" ∷ decimal to ∷ []
spelling (Flip event) = codes "at" ∷ decimal event ∷ codes "flip" ∷ []
spelling (Go event task) = codes "at" ∷ decimal event ∷ codes "go" ∷ decimal task ∷ []

-- a number of 64 bits
abbrev pub IsNumber : ℕ → Type 0
IsNumber n = n < 2 ^ 64

-- the same, but 0
abbrev pub IsCount : ℕ → Type 0
IsCount n = (1 ≤ n) × (n < 2 ^ 64)

-- periods and events are counted from 1
abbrev pub IsInRange : PlanLine → Type 0
IsInRange (Every period) = IsCount period
IsInRange (Move event obj to) = IsCount event × IsNumber obj × IsNumber to
IsInRange (Flip event) = IsCount event
IsInRange (Go event task) = IsCount event × IsNumber task

-- these words say this
pub record Spells (ws : List (List ℕ)) (what : PlanLine) : Type 0 where
  pub spelled : ws ≡ spelling what
  pub in_range : IsInRange what

-- the line says this; a blank line says nothing
abbrev pub ReadsAs : List ℕ → Option PlanLine → Type 0
ReadsAs line None = IsBlank line
ReadsAs line (Some what) = Spells (words line) what
