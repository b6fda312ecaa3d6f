-- Code 16. A conversion from or to pointers.
use Rattle.std.specs.Prelude.{ℕ, Bool, true, false, List}
use Rattle.ir_lines.specs.Statements.{Line, Statement, cast}
use Rattle.ir_lines.specs.InBody.{InBody}

abbrev pub is_cast : Statement → Bool
is_cast (cast result op from value to) = true
is_cast _ = false

abbrev pub PointerCast : List Line → ℕ → Type 0
PointerCast lines line = InBody lines line (λ scope. is_cast)
