-- The lines of a text in the two parts in which they are read: those outside bodies, and of each of these its body.
use Rattle.std.specs.Prelude.{ℕ, Bool, true, false, List, [], ◌∷◌, ◌++◌}
use Rattle.ir_lines.specs.Statements.{Statement, Line, layout, declare, define, close}
use Rattle.ir_lines.specs.Sections.{Definition}

-- a layout, a declaration, or the head or the closing brace of a definition
abbrev pub is_outer : Statement → Bool
is_outer (layout name fields) = true
is_outer (declare answer name parameters) = true
is_outer (define answer name arguments strategy) = true
is_outer close = true
is_outer _ = false

-- the definition of a head that has this body
abbrev pub definition_with : ℕ → Statement → List Line → List Definition
definition_with line (define answer name arguments strategy) body =
    record { line = line; answer = answer; name = name; arguments = arguments; strategy = strategy; body = body } ∷ []
definition_with line _ body = []

-- those of the heads among these lines, which have these bodies
abbrev pub definitions_with : List Line → List (List Line) → List Definition
definitions_with [] bodies = []
definitions_with (l ∷ ls) [] = []
definitions_with (l ∷ ls) (body ∷ bodies) = definition_with l.number l.says body ++ definitions_with ls bodies
