-- New objects: when one is refused, and the room for one, also after moves.
use Rattle.std.proofs.Common.{◌≡◌, ℕ, ◌+◌, ◌*◌, ◌<◌, ◌≤◌, Bool, true, false, cond, ltb, max, List, [], length, map, sym, ap, ◌∙◌, arith}
use Rattle.std.specs.Prelude.{ℤ, pos, int_lt, unsigned_abs, Result, Ok, Err, OnOk, IsErrOf}
use Rattle.std.specs.List.{sum_by}
use Rattle.std.proofs.lemmas.Bool.{lt-ltb, le-ltb}
use Rattle.std.proofs.lemmas.List.{length-map}
use Rattle.ir_ast.specs.declared.cells.Cell.{Cell}
use Rattle.moving_heap.specs.declared.stands.Stand.{Stand}
use Rattle.moving_heap.specs.declared.stands.Moved.{Moved}
use Rattle.moving_heap.specs.declared.heap.AllocFault.{AllocFault}
use Rattle.moving_heap.specs.declared.heap.AllocFault.TheVariants as fault
use Rattle.moving_heap.specs.declared.places.Refused.{Refused}
use Rattle.moving_heap.specs.declared.places.Refused.TheVariants.{Count, Full}
use Rattle.moving_heap.specs.Places.{first_place, carried}
use Rattle.moving_heap.specs.Contents.{after_moves}
use Rattle.moving_heap.specs.Settled.{Table}
use Rattle.moving_heap.specs.Heaps.{footprint, heap_of, alloc_answer, HasPlace}
use Rattle.moving_heap.proofs.SizeLemmas.{footprint_bytes}
use Rattle.moving_heap.proofs.TableLemmas.{carried-sum}

abbrev all_bytes : Table → ℕ
all_bytes table = sum_by (λ (s : Stand). s.size) table.stands

abbrev bytes_with : Table → List Cell → ℤ → ℕ
bytes_with table fields count = all_bytes table + footprint fields (unsigned_abs count)

abbrev answer_by : Table → Bool → Bool → Result ℕ AllocFault
answer_by table less past = cond less (Err fault.Count) (cond past (Err fault.Full) (Ok (first_place table.stands)))

pub refused_count : (table : Table) (fields : List Cell) (count : ℤ) → int_lt count (pos 0) ≡ true → alloc_answer (heap_of table) fields count ≡ Err fault.Count
refused_count table fields count less = ap (λ b. answer_by table b (ltb 67108864 (bytes_with table fields count))) less

pub refused_full : (table : Table) (fields : List Cell) (count : ℤ) (used : ℕ) → used ≡ all_bytes table → int_lt count (pos 0) ≡ false
    → 67108864 < used + max 8 (8 * (unsigned_abs count * length fields)) → alloc_answer (heap_of table) fields count ≡ Err fault.Full
refused_full table fields count used used_is less past =
    let bytes = footprint_bytes fields (unsigned_abs count) in
    let all : 67108864 < bytes_with table fields count = omega arith in
    ap (λ b. answer_by table b (ltb 67108864 (bytes_with table fields count))) less ∙ ap (λ b. answer_by table false b) (lt-ltb 67108864 (bytes_with table fields count) all)

pub admitted_is : (table : Table) (fields : List Cell) (count : ℤ) (used : ℕ) → used ≡ all_bytes table → int_lt count (pos 0) ≡ false
    → used + max 8 (8 * (unsigned_abs count * length fields)) ≤ 67108864 → alloc_answer (heap_of table) fields count ≡ Ok (first_place table.stands)
admitted_is table fields count used used_is less fits =
    let bytes = footprint_bytes fields (unsigned_abs count) in
    let all : bytes_with table fields count ≤ 67108864 = omega arith in
    ap (λ b. answer_by table b (ltb 67108864 (bytes_with table fields count))) less ∙ ap (λ b. answer_by table false b) (le-ltb 67108864 (bytes_with table fields count) all)

on_ok : {T E : Type 0} (r : Result T E) (P : Type 0) → P → OnOk r P
on_ok (Ok x) P p = p
on_ok (Err e) P p = tt

on_err : {T E : Type 0} (r : Result T E) (e : E) (P : Type 0) → r ≡ Err e → OnOk r P
on_err r e P is = rw is tt

ok_of : {T E : Type 0} (r : Result T E) (x : T) (P : Type 0) → r ≡ Ok x → OnOk r P → P
ok_of r x P is on = rw is at on

-- where an object is refused no room is wanted
pub place_refused : (table : Table) (fields : List Cell) (count : ℤ) (used : ℕ) (result : Result ℕ Refused) (refused : Refused) → used ≡ all_bytes table → result ≡ Err refused
    → (IsErrOf result Count → int_lt count (pos 0) ≡ true)
    → (IsErrOf result Full → (int_lt count (pos 0) ≡ false) × (67108864 < used + max 8 (8 * (unsigned_abs count * length fields)))) → HasPlace table fields count
place_refused table fields count used result Count used_is is less full = on_err (alloc_answer (heap_of table) fields count) fault.Count _ (refused_count table fields count (less is))
place_refused table fields count used result Full used_is is less full =
    on_err (alloc_answer (heap_of table) fields count) fault.Full _ (refused_full table fields count used used_is (full is).0 (full is).1)

pub place_taken : (table : Table) (fields : List Cell) (count : ℤ) → length table.stands < table.room → unsigned_abs count * length fields ≤ table.spare → HasPlace table fields count
place_taken table fields count room spare = on_ok (alloc_answer (heap_of table) fields count) _ (room, spare)

pub place_of : (table : Table) (fields : List Cell) (count : ℤ) (address : ℕ) → alloc_answer (heap_of table) fields count ≡ Ok address → HasPlace table fields count
    → (length table.stands < table.room) × (unsigned_abs count * length fields ≤ table.spare)
place_of table fields count address is place = ok_of (alloc_answer (heap_of table) fields count) address _ is place

-- the room stays while a group is pending, and after its moves
pub has_place_pending : (table : Table) (group : List Moved) (fields : List Cell) (count : ℤ) → HasPlace table fields count → HasPlace (record table { moves = group }) fields count
has_place_pending table group fields count place = place

on_same : {T E : Type 0} (r s : Result T E) (P Q : Type 0) → r ≡ s → (P → Q) → OnOk r P → OnOk s Q
on_same r (Ok x) P Q is keeps on = keeps (rw is at on)
on_same r (Err e) P Q is keeps on = tt

pub has_place_after : (table : Table) (moves : List Moved) (fields : List Cell) (count : ℤ) → HasPlace table fields count
    → HasPlace (record table { stands = map (carried moves) table.stands; contents = map (after_moves moves) table.contents; moves = [] }) fields count
has_place_after table moves fields count place =
    let after : Table = record table { stands = map (carried moves) table.stands; contents = map (after_moves moves) table.contents; moves = [] } in
    on_same (alloc_answer (heap_of table) fields count) (alloc_answer (heap_of after) fields count) _ _
    (ap (λ (n : ℕ). cond (int_lt count (pos 0)) (Err fault.Count) (cond (ltb 67108864 (n + footprint fields (unsigned_abs count))) (Err fault.Full) (Ok (65536 + n)))) (sym (carried-sum moves table.stands)))
    (λ held. (rw (length-map table.stands (carried moves)) held.0, held.1)) place
