-- Types as lines spell them.
use Rattle.std.specs.Prelude.{ℕ}

pub data TypeWord : Type 0 where
  Void : TypeWord
  -- `iN`
  Int : ℕ → TypeWord
  -- `ptr addrspace(1)`
  Managed : TypeWord
  -- `ptr`
  Plain : TypeWord
