-- Changes that can be taken back.
use Rattle.std.specs.Prelude.{◌≡◌, List, ◌++◌}
use Rattle.version_walk.specs.declared.versions.Change.{Change}
use Rattle.version_walk.specs.declared.versions.Versions.{Versions}
use Rattle.version_walk.specs.Slots.{taken_back}

-- the changes stand in the log
pub record IsLogged (old new : Versions) : Type 0 where
  pub changes : List Change
  pub log : new.log.items ≡ old.log.items ++ changes
  pub back : taken_back changes new.current.items ≡ old.current.items
