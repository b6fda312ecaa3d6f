-- Texts of lists, put one after the other.
use Rattle.std.proofs.Common.{◌≡◌, ℕ, ◌+◌, ◌<◌, ◌≤◌, List, [], ◌∷◌, ◌++◌, length, map, drop, get_or, min, slice_get, unwrap_or, refl, add-one, drop-cons, arith}
use Rattle.std.specs.List.{zip}
use Rattle.std.proofs.lemmas.Option.{unwrap_or-slice_get, slice_get-map, slice_get_past, slice_get-get_or}
use Rattle.std.proofs.lemmas.Slice.Zip.{length-zip, get_or-zip}
use Rattle.std.proofs.lemmas.List.{drop_all, length-map}
use Rattle.piece_writer.specs.Lists.{led, joined}

-- the texts that are left begin with the one at the place
pub led-drop : (separator : List ℕ) (texts : List (List ℕ)) (place : ℕ) → place < length texts → led separator (drop place texts) ≡ (separator ++ unwrap_or (slice_get texts place) []) ++ led separator (drop (place + 1) texts)
led-drop separator texts place within = rw (unwrap_or-slice_get texts place [], add-one, drop-cons texts place [])

-- past the end none is left
pub led-drop-end : (separator : List ℕ) (texts : List (List ℕ)) (place : ℕ) → length texts ≤ place → led separator (drop place texts) ≡ []
led-drop-end separator texts place past = rw (drop_all place texts past)

-- a list's first text, and the rest of them after the separator
pub joined-first : (separator : List ℕ) (texts : List (List ℕ)) → joined separator texts ≡ unwrap_or (slice_get texts 0) [] ++ led separator (drop 1 texts)
joined-first separator [] = refl
joined-first separator (text ∷ texts) = refl

-- no text stands past the elements
pub text-none : {T : Type 0} (text : T → List ℕ) (elements : List T) (place : ℕ) → length elements ≤ place → unwrap_or (slice_get (map text elements) place) [] ≡ []
text-none text elements place past =
    let same : length (map text elements) ≡ length elements = length-map elements text in
    rw (slice_get_past (map text elements) place (omega arith))

-- at a place where both lists have an element stands the text of the two
pub pair-text-some : {A B : Type 0} (text : A × B → List ℕ) (first : List A) (second : List B) (place : ℕ) (a : A) (b : B) → place < length first → place < length second → a ≡ get_or first place a → b ≡ get_or second place b → unwrap_or (slice_get (map text (zip first second)) place) [] ≡ text (a, b)
pair-text-some text first second place a b one two is_a is_b =
    let within : place < length (zip first second) = omega (arith, length-zip first second) in
    rw (
      slice_get-map text (zip first second) place,
      slice_get-get_or (zip first second) place (a, b) within,
      get_or-zip first second place (a, b) one two,
      ← is_a,
      ← is_b,
    )

-- where one of the lists has ended, no text stands
pub pair-text-none : {A B : Type 0} (text : A × B → List ℕ) (first : List A) (second : List B) (place : ℕ) → min (length first) (length second) ≤ place → unwrap_or (slice_get (map text (zip first second)) place) [] ≡ []
pair-text-none text first second place past =
    text-none text (zip first second) place (omega (arith, length-zip first second))
