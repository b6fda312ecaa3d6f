-- The walk over the blocks, each below its only predecessor.
use Rattle.std.specs.Prelude.{◌≡◌, ℕ, ◌<◌, ◌≤◌, ◌+◌, ◌^◌, ◌⊎◌, Bool, true, false, List, ◌∷◌, length, drop, Option, Some, slice_get, slice_index, slice_set}
use Rattle.std.specs.Global.{Vec}
use Rattle.version_walk.specs.declared.slots.Slot.{Slot}
use Rattle.version_walk.specs.declared.versions.Change.{Change}
use Rattle.version_walk.specs.declared.versions.Versions.{Versions}
use Rattle.version_walk.specs.declared.walk.Pending.{Pending}
use Rattle.version_walk.specs.declared.walk.Walk.{Walk}
use Rattle.version_walk.specs.Slots.{answered, current_behind, taken_back}
use Rattle.version_walk.specs.Versions.{IsLogged}
use Rattle.version_walk.specs.Forest.{list_at, IsChild, IsRoot, AreChildren}

-- the number of the first definition of each block, the numbers with which roots begin, and the slots of each block
pub record Task : Type 0 where
  pub starts : List ℕ
  pub own : List ℕ
  pub rows : List (Vec Slot)

-- the block begins with these numbers
pub data Begins (parents : List (Option ℕ)) (task : Task) : ℕ → List ℕ → Type 0 where
  at_root : (block : ℕ) → IsRoot parents block → Begins parents task block task.own
  under : (block parent : ℕ) (current : List ℕ) → IsChild parents block parent → Begins parents task parent current
      → Begins parents task block (current_behind current (slice_index task.starts parent) (list_at task.rows parent))

-- these are the block's slots, answered
pub record IsAnswered (parents : List (Option ℕ)) (task : Task) (block : ℕ) (row : List Slot) : Type 0 where
  pub current : List ℕ
  pub begins : Begins parents task block current
  pub is : row ≡ answered current (slice_index task.starts block) (list_at task.rows block)

pub record AreAnswered (parents : List (Option ℕ)) (task : Task) (answers : List (Vec Slot)) : Type 0 where
  pub whole : length answers ≡ length task.rows
  pub each : (block : ℕ) (current : List ℕ) → Begins parents task block current → IsAnswered parents task block (list_at answers block)

-- numbers within 32 bits
abbrev pub HasRoom : List ℕ → List (Vec Slot) → Type 0
HasRoom starts rows = (block : ℕ) → block < length rows → slice_index starts block + length (list_at rows block) < 2 ^ 32

abbrev pub awaiting : ℕ → ℕ → Pending
awaiting depth block = record { block = block; depth = depth }

pub record AnswersRow (block start : ℕ) (old_rows new_rows : List (Vec Slot)) (old new : Versions) : Type 0 where
  pub row : Vec Slot
  pub rows : new_rows ≡ slice_set old_rows block row
  pub answers : row.items ≡ answered old.current.items start (list_at old_rows block)
  pub current : new.current.items ≡ current_behind old.current.items start (list_at old_rows block)
  pub log : IsLogged old new

abbrev pub Done : List Bool → ℕ → Type 0
Done done block = slice_get done block ≡ Some true

pub record Awaits (pending : List Pending) (block : ℕ) : Type 0 where
  pub place : ℕ
  pub next : Pending
  pub stands : slice_get pending place ≡ Some next
  pub is : next.block ≡ block

pub record IsSized (children : List (Vec ℕ)) (walk : Walk) : Type 0 where
  pub rows : length walk.rows.items ≡ length children
  pub done : length walk.done.items ≡ length children

-- between two blocks: the pending blocks find the numbers with which they begin once the changes behind their depth are taken back
pub record IsWalk (parents : List (Option ℕ)) (task : Task) (pending : List Pending) (current : List ℕ) (log : List Change) (rows : List (Vec Slot))
    (done : List Bool) : Type 0 where
  pub whole : length rows ≡ length task.rows
  pub ready : (place : ℕ) (next : Pending) → slice_get pending place ≡ Some next → Begins parents task next.block (taken_back (drop next.depth log) current)
  pub within : (place : ℕ) (next : Pending) → slice_get pending place ≡ Some next → next.depth ≤ length log
  pub nested : (place later : ℕ) (one other : Pending) → place < later → slice_get pending place ≡ Some one → slice_get pending later ≡ Some other
      → one.depth ≤ other.depth
  pub left : (block : ℕ) → slice_get done block ≡ Some false → list_at rows block ≡ list_at task.rows block
  pub answers : (block : ℕ) → Done done block → IsAnswered parents task block (list_at rows block)
  pub roots : (block : ℕ) → IsRoot parents block → Done done block ⊎ Awaits pending block
  pub children : (block parent : ℕ) → IsChild parents block parent → Done done parent → Done done block ⊎ Awaits pending block

abbrev pub KeepsWalk : List ℕ → List (Vec ℕ) → List Pending → Walk → Walk → Type 0
KeepsWalk starts children pending old new = (parents : List (Option ℕ)) (own : List ℕ) (rows : List (Vec Slot)) → length children ≡ length parents → AreChildren parents children
    → IsWalk parents (record { starts = starts; own = own; rows = rows }) pending old.versions.current.items old.versions.log.items old.rows.items old.done.items
    → IsWalk parents (record { starts = starts; own = own; rows = rows }) new.pending.items new.versions.current.items new.versions.log.items new.rows.items new.done.items

-- what is to be done still: each block that isn't done, with its children
abbrev pub weight : List Bool → List (Vec ℕ) → ℕ
weight (true ∷ done) (row ∷ rows) = weight done rows
weight (false ∷ done) (row ∷ rows) = (length row.items + 1) + weight done rows
weight done rows = 0
