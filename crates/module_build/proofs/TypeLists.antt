-- Lists of types of different lengths.
use Rattle.std.proofs.Common.{◌≡◌, ◌≢◌, Bool, true, false, ◌&&◌, ◌∙◌, List, [], ◌∷◌, length, refl, ap, suc}
use Rattle.line_parts.specs.Types.{TypeWord}
use Rattle.ir_lines.specs.Types.{same_type, same_types}

and-false : (b : Bool) → false ≡ (b && false)
and-false true = refl
and-false false = refl

pub same_types-lengths : (xs ys : List TypeWord) → length xs ≢ length ys → false ≡ same_types xs ys
same_types-lengths [] [] differ = absurd (differ refl)
same_types-lengths [] (y ∷ ys) differ = refl
same_types-lengths (x ∷ xs) [] differ = refl
same_types-lengths (x ∷ xs) (y ∷ ys) differ =
    and-false (same_type x y) ∙ ap (λ b. same_type x y && b) (same_types-lengths xs ys (λ e. differ (ap suc e)))
