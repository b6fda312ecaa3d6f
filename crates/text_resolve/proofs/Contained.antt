-- What a list contains, and where a line of a definition stands.
use Rattle.std.proofs.Common.{◌≡◌, ℕ, ◌+◌, List, ◌∷◌, ◌++◌, length, take, drop}
use Rattle.std.specs.Prelude.{Some, slice_get}
use Rattle.std.specs.List.{Contains}
use Rattle.list_laws.proofs.Places.{split_at}
use Rattle.list_laws.proofs.Contents.{contains_get, get_contained}
use Rattle.module_build.specs.Founds.{Found}
use Rattle.module_build.proofs.Founds.{IsWholeAt, whole-at}

pub contained-whole : {X : Type 0} (xs before : List X) (here : X) (after : List X) → xs ≡ before ++ here ∷ after → Contains xs here
contained-whole xs before here after e =
    let w : IsWholeAt xs before here after = whole-at xs before here after e in contains_get xs (length before) here w.at

-- ---- found at an element

pub found-at : {X : Type 0} (P : List X → X → List X → ℕ → ℕ → Type 0) (xs : List X) (k : ℕ) (x : X) (line code : ℕ)
    → slice_get xs k ≡ Some x → P (take k xs) x (drop (k + 1) xs) line code → Found P xs line code
found-at P xs k x line code at p =
    record { before = take k xs; here = x; after = drop (k + 1) xs; whole = split_at xs k x at; faulty = p }

-- where the neighbours play no part
pub found-contained : {X : Type 0} (P : X → ℕ → ℕ → Type 0) (xs : List X) (x : X) (line code : ℕ)
    → Contains xs x → P x line code → Found (λ before here after. P here) xs line code
found-contained P xs x line code within p =
    found-at (λ before here after. P here) xs (get_contained xs x within).0 x line code (get_contained xs x within).1 p

pub contained-found : {X : Type 0} (P : List X → X → List X → ℕ → ℕ → Type 0) (xs : List X) (line code : ℕ)
    (f : Found P xs line code) → Contains xs f.here
contained-found P xs line code f = contained-whole xs f.before f.here f.after f.whole
