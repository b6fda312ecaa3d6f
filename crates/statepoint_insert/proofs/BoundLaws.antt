-- Numbers above those of values.
use Rattle.std.proofs.Common.{ℕ, ◌+◌, ◌<◌, ◌≤◌, List, length, take, get_or, arith, subst}
use Rattle.std.specs.List.{All}
use Rattle.std.proofs.lemmas.List.{take_all}
use Rattle.std.proofs.lemmas.List.Elements.{All-more}
use Rattle.sp_ids.specs.declared.ids.ValueId.{ValueId}

abbrev pub AreBelow : ℕ → List ValueId → Type 0
AreBelow room values = All (λ value. value.0 < room) values

pub below_up : (values : List ValueId) (room more : ℕ) → room ≤ more → AreBelow room values → AreBelow more values
below_up values room more up all = λ k d within. (let h = all k d within in omega (arith, h, up))

pub below_next : (values : List ValueId) (i : ℕ) (d : ValueId) (room more : ℕ) → i < length values → room ≤ more → (get_or values i d).0 < more
    → AreBelow room (take i values) → AreBelow more (take (i + 1) values)
below_next values i d room more within up here all = All-more (λ value. value.0 < more) values i d within (below_up (take i values) room more up all) here

pub below_whole : (values : List ValueId) (i room : ℕ) → length values ≤ i → AreBelow room (take i values) → AreBelow room values
below_whole values i room past all = subst (AreBelow room) (take_all i values past) all
