-- The slots of a frame that waits, after the walk.
use Rattle.std.proofs.Common.{◌≡◌, ℕ, zero, suc, ◌<◌, ◌≤◌, ◌^◌, List, [], ◌∷◌, length, get_or, set, map, refl, sym, ap, ◌∙◌, subst, arith, Option, Some, inl, inr}
use Rattle.std.specs.Prelude.{slice_get}
use Rattle.std.proofs.lemmas.Bool.{cases_eq}
use Rattle.std.proofs.lemmas.List.{get_or-set_same, get_or-set_other, length-set}
use Rattle.ir_ast.specs.Objects.{Pointer}
use Rattle.moving_heap.specs.declared.stands.Stand.{Stand}
use Rattle.moving_heap.specs.declared.stands.Moved.{Moved}
use Rattle.moving_heap.specs.Places.{moved, moves_of}
use Rattle.moving_heap.specs.Settled.{AreSettled}
use Rattle.moving_heap.proofs.PlaceLemmas.{moved-length}
use Rattle.frame_walk.specs.Maps.{Pair}
use Rattle.frame_walk.specs.Walks.{SlotWrite, slot_write, write_slots}
use Rattle.machine_meaning.specs.Relations.{addr, AreSlots, AreClosed}
use Rattle.machine_meaning.proofs.AddressLaws.{addr_none, slot_moves}

-- all writes to a place write one word
abbrev OneWord : List SlotWrite → ℕ → ℕ → Type 0
OneWord writes i word = (k : ℕ) (write : SlotWrite) → slice_get writes k ≡ Some write → write.to ≡ i → write.word ≡ word

tail : (write : SlotWrite) (writes : List SlotWrite) (i word : ℕ) → OneWord (write ∷ writes) i word → OneWord writes i word
tail write writes i word one k other e at = one (suc k) other e at

keeps : (writes : List SlotWrite) (words : List ℕ) (i word : ℕ) → OneWord writes i word → i < length words → get_or words i 0 ≡ word → get_or (write_slots writes words) i 0 ≡ word
keeps [] words i word one l e = e
keeps (write ∷ writes) words i word one l e =
    let size = length-set words write.to write.word in
    keeps writes (set words write.to write.word) i word (tail write writes i word one) (omega arith)
    (elim (cases_eq write.to i) [
      | inl same ↦ (ap (λ (p : ℕ). get_or (set words p write.word) i 0) same ∙ get_or-set_same words i write.word 0 l ∙ one zero write refl same)
      | inr other ↦ (get_or-set_other words write.to i write.word 0 (λ q. other (sym q)) ∙ e)
    ])

gets : (writes : List SlotWrite) (words : List ℕ) (i word k : ℕ) (write : SlotWrite) → OneWord writes i word → i < length words → slice_get writes k ≡ Some write → write.to ≡ i
    → get_or (write_slots writes words) i 0 ≡ word
gets [] words i word k write one l e at = cc
gets (first ∷ writes) words i word zero write one l e at =
    let same : first ≡ write = cc in
    let to : first.to ≡ i = ap (λ (w : SlotWrite). w.to) same ∙ at in
    let size = length-set words first.to first.word in
    keeps writes (set words first.to first.word) i word (tail first writes i word one) (omega arith)
    (ap (λ (p : ℕ). get_or (set words p first.word) i 0) to ∙ get_or-set_same words i first.word 0 l ∙ one zero first refl to)
gets (first ∷ writes) words i word (suc k) write one l e at =
    let size = length-set words first.to first.word in
    gets writes (set words first.to first.word) i word k write (tail first writes i word one) (omega arith) e at

-- a write of the walk is of a pair
pair_of : (moves : List Moved) (slots : List ℕ) (pairs : List Pair) (k : ℕ) (write : SlotWrite) → slice_get (map (slot_write moves slots) pairs) k ≡ Some write
    → (pair : Pair) × ((slice_get pairs k ≡ Some pair) × (write ≡ slot_write moves slots pair))
pair_of moves slots [] k write e = cc
pair_of moves slots (pair ∷ pairs) zero write e = (pair, (refl, (let same : slot_write moves slots pair ≡ write = cc in sym same)))
pair_of moves slots (pair ∷ pairs) (suc k) write e = pair_of moves slots pairs k write e

write_of : (moves : List Moved) (slots : List ℕ) (pairs : List Pair) (k : ℕ) (pair : Pair) → slice_get pairs k ≡ Some pair → slice_get (map (slot_write moves slots) pairs) k ≡ Some (slot_write moves slots pair)
write_of moves slots [] k pair e = cc
write_of moves slots (first ∷ pairs) zero pair e = let same : first ≡ pair = cc in ap (λ (p : Pair). Some (slot_write moves slots p)) same
write_of moves slots (first ∷ pairs) (suc k) pair e = write_of moves slots pairs k pair e

abbrev none : Pointer
none = record { object = 0; offset = 0 }

-- all writes to a derived slot write the address of its entry
one_word : (stands : List Stand) (targets : List (Option ℕ)) (entries : List Pointer) (slots : List ℕ) (pairs : List Pair) (i : ℕ) → AreSettled stands → AreSlots stands entries slots pairs
    → OneWord (map (slot_write (moves_of stands targets) slots) pairs) i (addr (moved stands targets) (get_or entries i none))
one_word stands targets entries slots pairs i are hold k write e at =
    let found = pair_of (moves_of stands targets) slots pairs k write e in
    let pair = found.0 in
    let to : found.0.derived ≡ i = sym (ap (λ (w : SlotWrite). w.to) found.1.1) ∙ at in
    ap (λ (w : SlotWrite). w.word) found.1.1
    ∙ slot_moves stands targets (get_or entries found.0.derived none) (get_or entries found.0.base none) (get_or slots found.0.derived 0) (get_or slots found.0.base 0) are (hold.each k found.0 found.1.0)
    ∙ ap (λ (p : ℕ). addr (moved stands targets) (get_or entries p none)) to

slot_after : (stands : List Stand) (targets : List (Option ℕ)) (entries : List Pointer) (slots : List ℕ) (pairs : List Pair) (k : ℕ) (pair : Pair) → AreSettled stands → AreSlots stands entries slots pairs
    → slice_get pairs k ≡ Some pair → pair.derived < length slots
    → get_or (write_slots (map (slot_write (moves_of stands targets) slots) pairs) slots) pair.derived 0 ≡ addr (moved stands targets) (get_or entries pair.derived none)
slot_after stands targets entries slots pairs k pair are hold e l =
    gets (map (slot_write (moves_of stands targets) slots) pairs) slots pair.derived (addr (moved stands targets) (get_or entries pair.derived none)) k (slot_write (moves_of stands targets) slots pair)
    (one_word stands targets entries slots pairs pair.derived are hold) l (write_of (moves_of stands targets) slots pairs k pair e) refl

-- the slot of a base that is `null` stays null
null_after : (stands : List Stand) (targets : List (Option ℕ)) (entries : List Pointer) (slots : List ℕ) (pairs : List Pair) (k : ℕ) (pair : Pair) → AreSettled stands → AreSlots stands entries slots pairs
    → slice_get pairs k ≡ Some pair → pair.base < length slots → (get_or entries pair.base none).object ≡ 0
    → get_or (write_slots (map (slot_write (moves_of stands targets) slots) pairs) slots) pair.base 0 ≡ addr (moved stands targets) (get_or entries pair.base none)
null_after stands targets entries slots pairs k pair are hold e l null =
    let was = hold.each k pair e in
    let small : (get_or entries pair.base none).offset < 2 ^ 64 = omega (arith, was.first) in
    keeps (map (slot_write (moves_of stands targets) slots) pairs) slots pair.base (addr (moved stands targets) (get_or entries pair.base none))
    (one_word stands targets entries slots pairs pair.base are hold) l
    (was.base_is ∙ addr_none stands (get_or entries pair.base none) null small ∙ sym (addr_none (moved stands targets) (get_or entries pair.base none) null small))

-- the pairs of a closed record have the words of their entries in the moved heap
pub slots_after : (stands : List Stand) (targets : List (Option ℕ)) (entries : List Pointer) (slots : List ℕ) (pairs : List Pair) → AreSettled stands → AreClosed entries pairs (length slots)
    → AreSlots stands entries slots pairs → AreSlots (moved stands targets) entries (write_slots (map (slot_write (moves_of stands targets) slots) pairs) slots) pairs
slots_after stands targets entries slots pairs are closed hold = record {
  each = λ k pair e.
      let was = hold.each k pair e in
      let count = moved-length stands targets in
      record {
        heap = record { object = subst (λ (n : ℕ). (get_or entries pair.derived none).object ≤ n) (sym count) was.heap.object; offset = was.heap.offset };
        same = was.same;
        first = was.first;
        derived_is = slot_after stands targets entries slots pairs k pair are hold e (closed.within k pair e).0;
        base_is = elim (closed.bases k pair e) [
          | inl named ↦ (slot_after stands targets entries slots pairs named.0 (record { base = pair.base; derived = pair.base }) are hold named.1 (closed.within k pair e).1)
          | inr null ↦ (null_after stands targets entries slots pairs k pair are hold e (closed.within k pair e).1 null)
        ];
      };
}
