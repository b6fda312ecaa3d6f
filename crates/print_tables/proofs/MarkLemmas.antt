-- Flags that are set twice.
use Rattle.std.proofs.Common.{◌≡◌, ℕ, ◌<◌, Bool, ◌||◌, false, List, length, get_or, ap, ◌∙◌, arith}
use Rattle.std.proofs.Math.Bool.{or_assoc}
use Rattle.print_tables.specs.Called.{Marks}

pub Marks-then : (one two both : ℕ → Bool) (old mid new : List Bool) → Marks one old mid → Marks two mid new → ((place : ℕ) → (one place || two place) ≡ both place) → Marks both old new
Marks-then one two both old mid new first second joined = (
  second.0 ∙ first.0,
  λ place within.
      let also : place < length mid = omega (arith, first.0) in
      second.1 place also ∙ ap (λ before. before || two place) (first.1 place within) ∙ or_assoc (get_or old place false) (one place) (two place)
      ∙ ap (λ now. get_or old place false || now) (joined place),
)

pub Marks-same : (one other : ℕ → Bool) (old new : List Bool) → Marks one old new → ((place : ℕ) → one place ≡ other place) → Marks other old new
Marks-same one other old new marks same = (marks.0, λ place within. marks.1 place within ∙ ap (λ now. get_or old place false || now) (same place))

pub or-same : {a b c d : Bool} → a ≡ b → c ≡ d → (a || c) ≡ (b || d)
or-same {a} {d = d} left right = ap (λ more. a || more) right ∙ ap (λ less. less || d) left
