-- The text of a map, piece by piece.
use Rattle.std.proofs.Common.{◌≡◌, ◌∙◌, ℕ, zero, suc, ◌+◌, ◌-◌, ◌*◌, ◌/◌, ◌<◌, ◌≤◌, List, [], ◌∷◌, ◌++◌, length, min, take, drop, Some, slice_get, refl, ap, sym, arith, append_assoc, length-drop, length-take}
use Rattle.std.specs.List.{flat_map}
use Rattle.std.proofs.Math.ListN.{drop_of_length-le}
use Rattle.map_bytes.specs.declared.values.FuncEntry.{FuncEntry}
use Rattle.map_bytes.specs.declared.values.Place.{Place}
use Rattle.map_bytes.specs.Entries.{Entry}
use Rattle.tool_report.specs.MapTexts.{function_line, location_line, location_lines, pair_line, pair_lines, record_text, lines_of}
use Rattle.list_laws.proofs.Places.{drop_at, get_taken}

-- ---- pairs

pub pairs_next : (places : List Place) (first k : ℕ) (base derived : Place) → slice_get places (first + 2 * k) ≡ Some base → slice_get places (first + 1 + 2 * k) ≡ Some derived
    → pair_lines (drop (first + 2 * k) places) ≡ pair_line base derived ++ pair_lines (drop (first + 2 * (k + 1)) places)
pairs_next places first k base derived here behind =
    let one : first + 2 * k + 1 ≡ first + 1 + 2 * k = omega arith in
    let two : first + 1 + 2 * k + 1 ≡ first + 2 * (k + 1) = omega arith in
    ap pair_lines
    (drop_at places (first + 2 * k) base here
    ∙ ap (λ (n : ℕ). base ∷ drop n places) one
    ∙ ap (λ (rest : List Place). base ∷ rest) (drop_at places (first + 1 + 2 * k) derived behind)
    ∙ ap (λ (n : ℕ). base ∷ derived ∷ drop n places) two)

pairs_short : (places : List Place) → length places ≤ 1 → pair_lines places ≡ []
pairs_short [] short = refl
pairs_short (one ∷ []) short = refl
pairs_short (one ∷ two ∷ places) short = absurd (omega arith)

pub pairs_end : (places : List Place) (first k : ℕ) → (length places - first) / 2 ≤ k → pair_lines (drop (first + 2 * k) places) ≡ []
pairs_end places first k over = pairs_short (drop (first + 2 * k) places) (omega (arith, length-drop (first + 2 * k) places))

-- ---- "deopt" locations

pub location_next : (constants : List ℕ) (places : List Place) (end k : ℕ) (place : Place) → k < end → slice_get places k ≡ Some place
    → location_lines constants (drop k (take end places)) ≡ location_line constants place ++ location_lines constants (drop (k + 1) (take end places))
location_next constants places end k place below at =
    ap (location_lines constants) (drop_at (take end places) k place (get_taken places k end below ∙ at))

pub locations_end : (constants : List ℕ) (places : List Place) (end k : ℕ) → min end (length places) ≤ k → location_lines constants (drop k (take end places)) ≡ []
locations_end constants places end k over =
    ap (location_lines constants) (drop_of_length-le (take end places) (omega (arith, length-take end places)))

-- ---- records

pub records_next : (constants : List ℕ) (left more : List Entry) (entry : Entry) (count k : ℕ) → k < count → left ≡ entry ∷ more
    → flat_map (record_text constants) (take (count - k) left) ≡ record_text constants entry ++ flat_map (record_text constants) (take (count - (k + 1)) more)
records_next constants left more entry count k below is =
    let next : count - k ≡ suc (count - (k + 1)) = omega arith in
    ap (λ (entries : List Entry). flat_map (record_text constants) (take (count - k) entries)) is ∙ ap (λ (n : ℕ). flat_map (record_text constants) (take n (entry ∷ more))) next

pub rest_next : (found left more : List Entry) (entry : Entry) (k : ℕ) → left ≡ drop k found → left ≡ entry ∷ more → more ≡ drop (k + 1) found
rest_next [] left more entry k at is = let none : left ≡ [] = at ∙ drop_of_length-le [] (omega arith) in cc
rest_next (x ∷ found) left more entry zero at is = let same : entry ∷ more ≡ x ∷ found = sym is ∙ at in cc
rest_next (x ∷ found) left more entry (suc k) at is =
    let next : suc k + 1 ≡ suc (k + 1) = omega arith in
    rw next (rest_next found left more entry k at is)

-- nothing is left behind a place at which nothing is left
pub rest_none : (found left : List Entry) (k count : ℕ) → left ≡ drop k found → left ≡ [] → k ≤ count → drop count found ≡ []
rest_none found left k count at none over =
    let empty : drop k found ≡ [] = sym at ∙ none in
    drop_of_length-le found (omega (arith, ap length empty, length-drop k found))

-- ---- functions

pub function_next : (constants : List ℕ) (functions : List FuncEntry) (found later : List Entry) (k : ℕ) (function : FuncEntry) → slice_get functions k ≡ Some function
    → later ≡ drop function.records found
    → lines_of constants (drop k functions) found
    ≡ (function_line function ++ flat_map (record_text constants) (take function.records found)) ++ lines_of constants (drop (k + 1) functions) later
function_next constants functions found later k function at rest =
    ap (λ (fs : List FuncEntry). lines_of constants fs found) (drop_at functions k function at)
    ∙ sym (append_assoc (function_line function) (flat_map (record_text constants) (take function.records found)) (lines_of constants (drop (k + 1) functions) (drop function.records found)))
    ∙ ap (λ (es : List Entry). (function_line function ++ flat_map (record_text constants) (take function.records found)) ++ lines_of constants (drop (k + 1) functions) es) (sym rest)
