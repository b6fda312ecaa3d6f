-- Objects that a heap has room for.
use Rattle.std.specs.Prelude.{◌≡◌, ℕ, ◌≤◌, ◌%◌, List}
use Rattle.std.specs.List.{All, sum, sum_by}
use Rattle.made_objects.specs.declared.makes.Made.{Made}

-- an object takes whole granules of 8 bytes
pub record IsWhole (made : Made) : Type 0 where
  pub some : 8 ≤ made.footprint
  pub whole : made.footprint % 8 ≡ 0

-- and all together no more than a heap has
pub record ArePacked (made : List Made) : Type 0 where
  pub whole : All IsWhole made
  pub within : sum_by (λ one. one.footprint) made ≤ 67108864

-- the same of footprints
abbrev pub IsFootprint : ℕ → Type 0
IsFootprint size = (8 ≤ size) × (size % 8 ≡ 0)

pub record HaveRoom (sizes : List ℕ) : Type 0 where
  pub each : All IsFootprint sizes
  pub within : sum sizes ≤ 67108864
