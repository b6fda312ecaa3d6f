-- Lists of texts of which none stands between two others.
use Rattle.std.proofs.Common.{◌≡◌, ℕ, List, [], ◌∷◌, ◌++◌, map, drop, refl, ap, sym, ◌∙◌}
use Rattle.std.proofs.lemmas.List.{drop-map}
use Rattle.piece_writer.specs.Lists.{led, joined}

-- with nothing between them, texts follow one another
pub joined-run : (texts : List (List ℕ)) → joined [] texts ≡ led [] texts
joined-run [] = refl
joined-run (text ∷ texts) = refl

-- a separator that stands in each text
pub led-within : {T : Type 0} (separator : List ℕ) (text : T → List ℕ) (elements : List T) → led [] (map (λ element. separator ++ text element) elements) ≡ led separator (map text elements)
led-within separator text [] = refl
led-within separator text (element ∷ elements) =
    ap (λ rest. (separator ++ text element) ++ rest) (led-within separator text elements)

-- the same from a place on
pub led-within-from : {T : Type 0} (separator : List ℕ) (text : T → List ℕ) (elements : List T) (from : ℕ) → led [] (drop from (map (λ element. separator ++ text element) elements)) ≡ led separator (drop from (map text elements))
led-within-from separator text elements from =
    ap (led []) (drop-map (λ element. separator ++ text element) from elements)
    ∙ led-within separator text (drop from elements)
    ∙ sym (ap (led separator) (drop-map text from elements))
