-- A graph without the edges that leave the blocked nodes.
use Rattle.std.proofs.Common.{◌≡◌, ℕ, zero, suc, ◌<◌, Bool, true, false, cond, List, [], ◌∷◌, length, get_or, refl, ap, arith}
use Rattle.graph_search.specs.Edges.{targets_of, without}

pub length-without : (marks : List Bool) (rows : List (List ℕ)) → length (without marks rows) ≡ length rows
length-without marks [] = refl
length-without [] (row ∷ rows) = refl
length-without (true ∷ marks) (row ∷ rows) = ap suc (length-without marks rows)
length-without (false ∷ marks) (row ∷ rows) = ap suc (length-without marks rows)

cond-nil : (mark : Bool) → ◌≡◌ {A = List ℕ} [] (cond mark [] [])
cond-nil true = refl
cond-nil false = refl

pub targets-without : (marks : List Bool) (rows : List (List ℕ)) (node : ℕ)
    → targets_of (without marks rows) node ≡ cond (get_or marks node false) [] (targets_of rows node)
targets-without [] [] node = refl
targets-without (mark ∷ marks) [] zero = cond-nil mark
targets-without (mark ∷ marks) [] (suc node) = targets-without marks [] node
targets-without [] (row ∷ rows) node = refl
targets-without (true ∷ marks) (row ∷ rows) zero = refl
targets-without (false ∷ marks) (row ∷ rows) zero = refl
targets-without (true ∷ marks) (row ∷ rows) (suc node) = targets-without marks rows node
targets-without (false ∷ marks) (row ∷ rows) (suc node) = targets-without marks rows node

-- a node that has an edge isn't blocked
pub targets-left : (marks : List Bool) (rows : List (List ℕ)) (node number : ℕ) → number < length (targets_of (without marks rows) node)
    → targets_of (without marks rows) node ≡ targets_of rows node
targets-left marks rows node number within = by (get_or marks node false) (targets-without marks rows node)
  where
    by : (mark : Bool) → targets_of (without marks rows) node ≡ cond mark [] (targets_of rows node)
        → targets_of (without marks rows) node ≡ targets_of rows node
    by true none = let bad : number < length {A = ℕ} [] = rw none at within in absurd (omega arith)
    by false same = same
