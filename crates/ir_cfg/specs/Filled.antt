-- The rows of a turned graph while they are filled: one row for each block, from its end to its start.
use Rattle.std.specs.Prelude.{◌≡◌, ℕ, ◌<◌, ◌≤◌, ◌+◌, ◌-◌, List, ◌∷◌, ◌++◌, length, replicate, sum, take, slice_index, slice_set, slice_range}
use Rattle.std.specs.List.{All, flat_map, range_with_len}
use Rattle.sp_ids.specs.declared.ids.BlockId.{BlockId}
use Rattle.ir_ast.specs.Edges.{count_of}
use Rattle.ir_cfg.specs.Graphs.{Graph, block_at, succs_of, labels_of}
use Rattle.ir_cfg.specs.Rows.{AreStops}
use Rattle.ir_cfg.specs.declared.turned.Filling.{Filling}

-- how many of these labels name each block
pub record AreCounts (labels : List BlockId) (counts : List ℕ) : Type 0 where
  pub each : (block : ℕ) → block < length counts → slice_index counts block ≡ count_of block labels

-- each number is the sum of the counts up to it
pub record AddsUp (counts ends : List ℕ) : Type 0 where
  pub whole : length ends ≡ length counts
  pub each : (place : ℕ) → place < length counts → slice_index ends place ≡ sum (take (place + 1) counts)

-- the rows of the blocks end here, one after the other, where each has one entry per edge into its block
pub record AreEnds (graph : Graph) (ends : List ℕ) : Type 0 where
  pub whole : length ends ≡ length graph
  pub stops : AreStops 0 ends (length (labels_of graph))
  pub each : (block : ℕ) → block < length graph
      → slice_index ends block ≡ slice_index (0 ∷ ends) block + count_of block (labels_of graph)

-- where the row of a block begins
abbrev pub start_of : Filling → ℕ → ℕ
start_of filling block = slice_index (0 ∷ filling.stops.items) block

-- what the row of a block has so far
abbrev pub entries_of : Filling → ℕ → List BlockId
entries_of filling block =
    slice_range filling.items.items (slice_index filling.cursors.items block) (slice_index filling.stops.items block)

-- each row has a cursor before its end
pub record AreRows (filling : Filling) : Type 0 where
  pub whole : length filling.cursors.items ≡ length filling.stops.items
  pub stops : AreStops 0 filling.stops.items (length filling.items.items)
  pub up : (block : ℕ) → block < length filling.stops.items
      → slice_index filling.cursors.items block ≤ slice_index filling.stops.items block

-- each row has room for an entry more for each label that names its block
pub record HasRoom (labels : List BlockId) (filling : Filling) : Type 0 where
  pub inside : All (λ label. label.0 < length filling.stops.items) labels
  pub room : (block : ℕ) → block < length filling.stops.items
      → start_of filling block + count_of block labels ≤ slice_index filling.cursors.items block

-- the row of this block has one entry more, in front
pub record Puts (from to : BlockId) (old new : Filling) : Type 0 where
  pub stops : new.stops ≡ old.stops
  pub moved : new.cursors.items ≡ slice_set old.cursors.items to.0 (slice_index old.cursors.items to.0 - 1)
  pub written : new.items.items ≡ slice_set old.items.items (slice_index old.cursors.items to.0 - 1) from

-- each row has one entry more, in front, for each label that names its block
pub record Enters (from : BlockId) (labels : List BlockId) (old new : Filling) : Type 0 where
  pub stops : new.stops ≡ old.stops
  pub whole : length new.cursors.items ≡ length old.cursors.items
  pub size : length new.items.items ≡ length old.items.items
  pub moved : (block : ℕ) → block < length old.stops.items
      → slice_index new.cursors.items block + count_of block labels ≡ slice_index old.cursors.items block
  pub entered : (block : ℕ) → block < length old.stops.items
      → entries_of new block ≡ replicate (count_of block labels) from ++ entries_of old block

-- where the edges into a block come from, of those from this block on
abbrev pub preds_since : Graph → ℕ → ℕ → List BlockId
preds_since graph since block =
    flat_map (λ from. replicate (count_of block (succs_of graph from)) (block_at from)) (range_with_len since (length graph - since))

-- the rows have the edges from this block on, turned, and room for those before it
pub record IsFilledFrom (graph : Graph) (since : ℕ) (filling : Filling) : Type 0 where
  pub whole : length filling.stops.items ≡ length graph
  pub rows : AreRows filling
  pub left : (block : ℕ) → block < length graph
      → slice_index filling.cursors.items block ≡ start_of filling block + count_of block (labels_of (take since graph))
  pub filled : (block : ℕ) → block < length graph → entries_of filling block ≡ preds_since graph since block
