-- A slot as one number.
use Rattle.std.specs.Prelude.{ℕ, ◌==◌, ◌/◌, ◌%◌, if◌then◌else◌}
use Rattle.version_walk.specs.declared.slots.Slot.{Slot}
use Rattle.version_walk.specs.declared.slots.Slot.TheVariants.{Use, Own, Give, Token, Number}

-- the slot of this kind with this number
abbrev pub of_kind : ℕ → ℕ → Slot
of_kind kind number =
    if kind == 0 then Use (record { 0 = number })
    else if kind == 1 then Own (record { 0 = number })
    else if kind == 2 then Give (record { 0 = number })
    else if kind == 3 then Token
    else Number number

abbrev pub slot_of : ℕ → Slot
slot_of code = of_kind (code % 8) (code / 8)
