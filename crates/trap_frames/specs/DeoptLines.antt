-- The line of a frame that waits where a run traps.
use Rattle.std.specs.Prelude.{ℕ, List, ◌++◌, codes, decimal, map}
use Rattle.std.specs.Fmt.{signed_decimal}
use Rattle.piece_writer.specs.Lists.{led}
use Rattle.trap_frames.specs.declared.deopts.Shown.{Shown}
use Rattle.trap_frames.specs.declared.deopts.Shown.TheVariants.{Number, Inside}

abbrev pub shown_text : Shown → List ℕ
shown_text (Number number) = signed_decimal number
shown_text (Inside obj offset) = decimal obj.0 ++ (codes "+" ++ decimal offset)

-- a frame by its number, from 1 for the caller of the running one, the name of its function, and what is shown of the values that
-- its call carries
unfoldable pub deopt_line : ℕ → List ℕ → List Shown → List ℕ
deopt_line frame func values =
    codes "! " ++ (decimal frame ++ (codes " @" ++ (func ++ (led (codes " ") (map shown_text values) ++ codes "\n"))))
