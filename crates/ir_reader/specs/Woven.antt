-- The readings of a text in two parts: those of the lines outside bodies, and of each of these the body behind it.
use Rattle.std.specs.Prelude.{◌≡◌, Bool, true, false, List, [], ◌∷◌, ◌++◌}
use Rattle.std.specs.List.{All}
use Rattle.line_forms.specs.declared.readings.Reading.{Reading}
use Rattle.line_forms.specs.declared.readings.Reading.TheVariants as readings
use Rattle.ir_reader.specs.declared.raw.NumberedReading.{NumberedReading}

-- a layout, a declaration, or the head or the closing brace of a definition
abbrev pub is_outer : Reading → Bool
is_outer (readings.Layout name fields) = true
is_outer (readings.Declare answer name parameters) = true
is_outer (readings.Define answer name arguments strategy) = true
is_outer readings.Close = true
is_outer _ = false

abbrev pub IsInner : NumberedReading → Type 0
IsInner one = is_outer one.reading ≡ false

-- each line with its body behind it
abbrev pub woven : {A : Type 0} → List A → List (List A) → List A
woven [] bodies = []
woven (x ∷ xs) [] = x ∷ xs
woven (x ∷ xs) (body ∷ bodies) = x ∷ body ++ woven xs bodies

abbrev pub OpensOuter : List NumberedReading → Type 0
OpensOuter [] = Unit {0}
OpensOuter (x ∷ xs) = is_outer x.reading ≡ true

-- Each line has a body, all of whose lines are inside; but for the first each line is one outside.
abbrev pub IsWoven : List NumberedReading → List (List NumberedReading) → Type 0
IsWoven [] [] = Unit {0}
IsWoven [] (body ∷ bodies) = ⊥
IsWoven (x ∷ xs) [] = ⊥
IsWoven (x ∷ xs) (body ∷ bodies) = All IsInner body × (OpensOuter xs × IsWoven xs bodies)
