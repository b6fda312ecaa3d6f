-- The rows of a graph, to one of which a node is added.
use Rattle.std.proofs.Common.{◌≡◌, ℕ, zero, suc, ◌<◌, List, [], ◌∷◌, ◌++◌, length, get_or, set, slice_get, Some, refl, ap, arith, inl, inr, ◌⊎◌}
use Rattle.std.specs.Prelude.{map}
use Rattle.list_laws.proofs.Places.{get_front, get_middle, get_pushed}
use Rattle.graph_search.specs.Edges.{Edge}

pub set-map : {X Y : Type 0} (f : X → Y) (xs : List X) (k : ℕ) (x : X) → map f (set xs k x) ≡ set (map f xs) k (f x)
set-map f [] k x = refl
set-map f (y ∷ ys) zero x = refl
set-map f (y ∷ ys) (suc k) x = ap (λ zs. f y ∷ zs) (set-map f ys k x)

-- a row with one node more at its end
abbrev pub pushed : List (List ℕ) → ℕ → ℕ → List (List ℕ)
pushed rows value user = set rows value (get_or rows value [] ++ user ∷ [])

pub pushed-kept : (rows : List (List ℕ)) (value user v one : ℕ) → Edge rows v one → Edge (pushed rows value user) v one
pushed-kept [] value user v one used = used
pushed-kept (r ∷ rs) zero user zero one used =
    record { number = used.number; leads = get_front r (user ∷ []) used.number one used.leads }
pushed-kept (r ∷ rs) zero user (suc v) one used = record { number = used.number; leads = used.leads }
pushed-kept (r ∷ rs) (suc value) user zero one used = record { number = used.number; leads = used.leads }
pushed-kept (r ∷ rs) (suc value) user (suc v) one used =
    let more = pushed-kept rs value user v one (record { number = used.number; leads = used.leads }) in
    record { number = more.number; leads = more.leads }

pub pushed-added : (rows : List (List ℕ)) (value user : ℕ) → value < length rows → Edge (pushed rows value user) value user
pushed-added [] value user below = absurd (let b : value < 0 = below in omega arith)
pushed-added (r ∷ rs) zero user below = record { number = length r; leads = get_middle r user [] }
pushed-added (r ∷ rs) (suc value) user below =
    let more = pushed-added rs value user (let b : suc value < length (r ∷ rs) = below in omega arith) in
    record { number = more.number; leads = more.leads }

later-source : (r : List ℕ) (rs : List (List ℕ)) (value user v one : ℕ) → Edge rs v one ⊎ ((v ≡ value) × (one ≡ user))
    → Edge (r ∷ rs) (suc v) one ⊎ ((suc v ≡ suc value) × (one ≡ user))
later-source r rs value user v one (inl used) = inl (record { number = used.number; leads = used.leads })
later-source r rs value user v one (inr e) = inr (ap suc e.0, e.1)

first-source : (r : List ℕ) (rs : List (List ℕ)) (user one number : ℕ) → (slice_get r number ≡ Some one) ⊎ (one ≡ user)
    → Edge (r ∷ rs) 0 one ⊎ ((zero ≡ zero) × (one ≡ user))
first-source r rs user one number (inl there) = inl (record { number = number; leads = there })
first-source r rs user one number (inr e) = inr (refl, e)

pub pushed-source : (rows : List (List ℕ)) (value user v one : ℕ) → Edge (pushed rows value user) v one
    → Edge rows v one ⊎ ((v ≡ value) × (one ≡ user))
pushed-source [] value user v one used = inl used
pushed-source (r ∷ rs) zero user zero one used = first-source r rs user one used.number (get_pushed r user used.number one used.leads)
pushed-source (r ∷ rs) zero user (suc v) one used = inl (record { number = used.number; leads = used.leads })
pushed-source (r ∷ rs) (suc value) user zero one used = inl (record { number = used.number; leads = used.leads })
pushed-source (r ∷ rs) (suc value) user (suc v) one used =
    later-source r rs value user v one (pushed-source rs value user v one (record { number = used.number; leads = used.leads }))
