-- The slots of a block, in the order of its lines, and the numbers that answer them.
use Rattle.std.specs.Prelude.{ℕ, ◌+◌, List, [], ◌∷◌, slice_index, slice_set}
use Rattle.version_walk.specs.declared.slots.Slot.{Slot}
use Rattle.version_walk.specs.declared.slots.Slot.TheVariants.{Use, Own, Give, Token, Number}
use Rattle.version_walk.specs.declared.versions.Change.{Change}

-- the number for a slot, given that of each value's version and that of the next definition
abbrev pub given : List ℕ → ℕ → Slot → ℕ
given current next (Use value) = slice_index current value.0
given current next (Own value) = next
given current next (Give value) = next
given current next Token = next
given current next (Number number) = number

abbrev pub next_after : ℕ → Slot → ℕ
next_after next (Use value) = next
next_after next (Own value) = next + 1
next_after next (Give value) = next + 1
next_after next Token = next + 1
next_after next (Number number) = next

abbrev pub current_after : List ℕ → ℕ → Slot → List ℕ
current_after current next (Use value) = current
current_after current next (Own value) = slice_set current value.0 next
current_after current next (Give value) = slice_set current value.0 next
current_after current next Token = current
current_after current next (Number number) = current

abbrev pub answered : List ℕ → ℕ → List Slot → List Slot
answered current next [] = []
answered current next (slot ∷ slots) = Number (given current next slot) ∷ answered (current_after current next slot) (next_after next slot) slots

-- the numbers behind these slots
abbrev pub current_behind : List ℕ → ℕ → List Slot → List ℕ
current_behind current next [] = current
current_behind current next (slot ∷ slots) = current_behind (current_after current next slot) (next_after next slot) slots

abbrev pub next_behind : ℕ → List Slot → ℕ
next_behind next [] = next
next_behind next (slot ∷ slots) = next_behind (next_after next slot) slots

-- changes taken back, the last one first
abbrev pub taken_back : List Change → List ℕ → List ℕ
taken_back [] current = current
taken_back (change ∷ changes) current = slice_set (taken_back changes current) change.value.0 change.number
