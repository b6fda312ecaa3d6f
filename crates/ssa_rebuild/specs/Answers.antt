-- The numbers of answered slots.
use Rattle.std.specs.Prelude.{ℕ}
use Rattle.version_walk.specs.declared.slots.Slot.{Slot}
use Rattle.version_walk.specs.declared.slots.Slot.TheVariants.{Use, Own, Give, Token, Number}

abbrev pub number_of : Slot → ℕ
number_of (Number number) = number
number_of (Use value) = 0
number_of (Own value) = 0
number_of (Give value) = 0
number_of Token = 0
