-- A pair that an iterator over a record gives, as a pair of the record.
use Rattle.frame_walk.specs.declared.pairs.SlotPair.{SlotPair}
use Rattle.frame_walk.specs.Maps.{Pair}

abbrev pub pair_of : SlotPair → Pair
pair_of one = record { base = one.base; derived = one.derived }
