-- What is known of the adapters of a system's files and streams.
use Rattle.std.specs.Prelude.{◌≡◌, ℕ, List, length, Option}
use Rattle.std.specs.Io.KnownBytes.{Consumes}

-- a writer with a count of faults: the bytes that it is known to hold, and the count
pub record CountedWriter : Type 0 where
  pub known : Option (List ℕ)
  pub faults : ℕ

-- a reader gave this many bytes of those that it is known to have
pub record GivesCount (old new : Option (List ℕ)) (count : ℕ) : Type 0 where
  pub given : List ℕ
  pub counted : length given ≡ count
  pub consumed : Consumes old new given
