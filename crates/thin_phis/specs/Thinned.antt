-- Numbers of names behind a removal of phis.
use Rattle.std.specs.Prelude.{ℕ, ◌==◌, Bool, List, length}
use Rattle.std.specs.List.{filter, range_with_len}
use Rattle.phi_webs.specs.Forests.{up_of}

module _ (ends : List ℕ) where
  -- the name of this number becomes no other name
  abbrev pub stays : ℕ → Bool
  stays n = up_of ends n == n

  -- how many names below a number stay
  abbrev pub kept_below : ℕ → ℕ
  kept_below n = length (filter stays (range_with_len 0 n))

  -- the number of what a name becomes, where names that don't stay have none
  abbrev pub number_now : ℕ → ℕ
  number_now n = kept_below (up_of ends n)
