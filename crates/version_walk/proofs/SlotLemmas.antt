-- Slots that are answered one after another, and changes that are taken back.
use Rattle.std.proofs.Common.{◌≡◌, ◌∙◌, ℕ, zero, suc, get_or, ◌<◌, ◌≤◌, ◌+◌, ◌-◌, List, [], ◌∷◌, ◌++◌, length, take, drop, set, Option, Some, None, slice_get, refl, ap, sym, arith, append_assoc, append-nil, length-append}
use Rattle.std.specs.Option.{option_to_list}
use Rattle.std.proofs.lemmas.List.{take_more_set, drop-set-lt, drop-append-le, take-append-le, take-append-drop, length-take-le, drop_all}
use Rattle.std.proofs.lemmas.Option.{slice_get_within}
use Rattle.list_laws.proofs.Places.{drop_at}
use Rattle.version_walk.specs.declared.slots.Slot.{Slot}
use Rattle.version_walk.specs.declared.slots.Slot.TheVariants.{Use, Own, Give, Token, Number}
use Rattle.version_walk.specs.declared.versions.Change.{Change}
use Rattle.version_walk.specs.declared.versions.Versions.{Versions}
use Rattle.version_walk.specs.Slots.{given, next_after, current_after, answered, current_behind, next_behind, taken_back}
use Rattle.version_walk.specs.Versions.{IsLogged}

-- ---- one slot more

pub answered_more : (current later : List ℕ) (next after number : ℕ) (all row : List Slot) (place : ℕ) (slot : Slot)
    → slice_get row place ≡ Some slot → number ≡ given current next slot → after ≡ next_after next slot → later ≡ current_after current next slot
    → all ≡ take place row ++ answered current next (drop place row)
    → all ≡ take (place + 1) (set row place (Number number)) ++ answered later after (drop (place + 1) (set row place (Number number)))
answered_more current later next after number all row place slot stands number_is after_is later_is is =
    let y : Slot = Number number in
    let below = slice_get_within row place slot stands in
    let here : answered current next (drop place row) ≡ y ∷ answered later after (drop (place + 1) row) =
    ap (answered current next) (drop_at row place slot stands) ∙ rw (number_is, after_is, later_is) refl in
    let front = take_more_set row place y below in
    let back = drop-set-lt (place + 1) row place y (omega arith) in
    is ∙ ap (λ (ss : List Slot). take place row ++ ss) here
    ∙ sym (append_assoc (take place row) (y ∷ []) (answered later after (drop (place + 1) row)))
    ∙ sym (ap (λ (ss : List Slot). ss ++ answered later after (drop (place + 1) row)) front)
    ∙ sym (ap (λ (ss : List Slot). take (place + 1) (set row place y) ++ answered later after ss) back)

pub behind_more : (current later : List ℕ) (next after : ℕ) (all : List ℕ) (row : List Slot) (place : ℕ) (slot y : Slot)
    → slice_get row place ≡ Some slot → after ≡ next_after next slot → later ≡ current_after current next slot
    → all ≡ current_behind current next (drop place row)
    → all ≡ current_behind later after (drop (place + 1) (set row place y))
behind_more current later next after all row place slot y stands after_is later_is is =
    let here : current_behind current next (drop place row) ≡ current_behind later after (drop (place + 1) row) =
    ap (current_behind current next) (drop_at row place slot stands) ∙ rw (after_is, later_is) refl in
    is ∙ here ∙ sym (ap (current_behind later after) (drop-set-lt (place + 1) row place y (omega arith)))

pub next_le : (next : ℕ) (slot : Slot) → next_after next slot ≤ next + 1
next_le next (Use value) = omega arith
next_le next (Own value) = omega arith
next_le next (Give value) = omega arith
next_le next Token = omega arith
next_le next (Number number) = omega arith

-- ---- slots in parts

pub answered_append : (current : List ℕ) (next : ℕ) (one other : List Slot)
    → answered current next (one ++ other) ≡ answered current next one ++ answered (current_behind current next one) (next_behind next one) other
answered_append current next [] other = refl
answered_append current next (slot ∷ one) other =
    ap (λ (ss : List Slot). Number (given current next slot) ∷ ss) (answered_append (current_after current next slot) (next_after next slot) one other)

pub behind_append : (current : List ℕ) (next : ℕ) (one other : List Slot)
    → current_behind current next (one ++ other) ≡ current_behind (current_behind current next one) (next_behind next one) other
behind_append current next [] other = refl
behind_append current next (slot ∷ one) other = behind_append (current_after current next slot) (next_after next slot) one other

pub next_append : (next : ℕ) (one other : List Slot) → next_behind next (one ++ other) ≡ next_behind (next_behind next one) other
next_append next [] other = refl
next_append next (slot ∷ one) other = next_append (next_after next slot) one other

pub length_answered : (current : List ℕ) (next : ℕ) (slots : List Slot) → length (answered current next slots) ≡ length slots
length_answered current next [] = refl
length_answered current next (slot ∷ slots) = ap suc (length_answered (current_after current next slot) (next_after next slot) slots)

-- ---- changes

pub back_append : (one other : List Change) (current : List ℕ) → taken_back (one ++ other) current ≡ taken_back one (taken_back other current)
back_append [] other current = refl
back_append (change ∷ one) other current = ap (λ (xs : List ℕ). set xs change.value.0 change.number) (back_append one other current)

-- changes that were made later don't matter once they are taken back
pub back_over : (count : ℕ) (old new changes : List Change) (before now : List ℕ) → count ≤ length old → new ≡ old ++ changes → taken_back changes now ≡ before
    → taken_back (drop count new) now ≡ taken_back (drop count old) before
back_over count old new changes before now within grown back =
    ap (λ (log : List Change). taken_back (drop count log) now) grown
    ∙ ap (λ (log : List Change). taken_back log now) (drop-append-le count old changes within)
    ∙ back_append (drop count old) changes now
    ∙ ap (taken_back (drop count old)) back

pub back_cut : (count depth : ℕ) (log : List Change) (current : List ℕ) → count ≤ depth → depth ≤ length log
    → taken_back (drop count (take depth log)) (taken_back (drop depth log) current) ≡ taken_back (drop count log) current
back_cut count depth log current le within =
    let size = length-take-le depth log within in
    sym (back_over count (take depth log) log (drop depth log) (taken_back (drop depth log) current) current (rw size le) (sym (take-append-drop depth log)) refl)

pub back_all : (log : List Change) (current : List ℕ) → taken_back (drop (length log) log) current ≡ current
back_all log current = ap (λ (cs : List Change). taken_back cs current) (drop_all (length log) log (omega arith))

pub logged_none : (state : Versions) → IsLogged state state
logged_none state = record { changes = []; log = sym (append-nil state.log.items); back = refl }

pub logged_more : (old between new : Versions) → IsLogged old between → IsLogged between new → IsLogged old new
logged_more old between new first second = record {
  changes = first.changes ++ second.changes;
  log = second.log ∙ ap (λ (log : List Change). log ++ second.changes) first.log ∙ append_assoc old.log.items first.changes second.changes;
  back = back_append first.changes second.changes new.current.items ∙ ap (taken_back first.changes) second.back ∙ first.back;
}

-- a number that stands there already changes nothing
pub set_same : (xs : List ℕ) (place number : ℕ) → get_or xs place 0 ≡ number → xs ≡ set xs place number
set_same [] place number is = refl
set_same (x ∷ xs) zero number is = ap (λ (y : ℕ). y ∷ xs) is
set_same (x ∷ xs) (suc place) number is = ap (λ (ys : List ℕ). x ∷ ys) (set_same xs place number is)

-- ---- the last change taken back

pub short : (last : Option Change) → length (option_to_list last) ≤ 1
short None = omega arith
short (Some change) = omega arith

pub record TakesOn (count : ℕ) (log rest : List Change) (current now : List ℕ) : Type 0 where
  pub kept : take count rest ≡ take count log
  pub back : taken_back (drop count rest) now ≡ taken_back (drop count log) current

pub takes_on : (count : ℕ) (log rest : List Change) (last : Option Change) (current now : List ℕ) → count < length log → log ≡ rest ++ option_to_list last
    → now ≡ taken_back (option_to_list last) current → TakesOn count log rest current now
takes_on count log rest last current now below split back =
    let size : length log ≡ length rest + length (option_to_list last) = ap length split ∙ length-append rest (option_to_list last) in
    let one = short last in
    let within : count ≤ length rest = omega (arith, size, one, below) in
    record {
      kept = sym (ap (take count) split ∙ take-append-le count rest (option_to_list last) within);
      back = sym (back_over count rest log (option_to_list last) now current within split (sym back));
    }

pub on_and_on : (count : ℕ) (first log rest : List Change) (start current now : List ℕ) → TakesOn count first log start current → TakesOn count log rest current now
    → TakesOn count first rest start now
on_and_on count first log rest start current now before next = record { kept = next.kept ∙ before.kept; back = next.back ∙ before.back }

pub one_less : (log rest : List Change) (count : ℕ) → 0 < length log → count ≡ length log → rest ≡ take (count - 1) log → length rest < length log
one_less log rest count some all is = let size = ap length is ∙ length-take-le (count - 1) log (omega (arith, all)) in omega (arith, size, all, some)
