-- The tasks of a run, as their keys and values change.
use Rattle.std.proofs.Common.{◌≡◌, ◌≢◌, ℕ, zero, suc, ◌+◌, ◌<◌, ◌≤◌, inl, inr, List, [], ◌∷◌, ◌++◌, length, map, get_or, set, refl, sym, ap, ◌∙◌, arith, subst}
use Rattle.std.specs.Prelude.{Option, Some, None, OnSome, slice_get, unwrap_or}
use Rattle.std.specs.List.{sum_by}
use Rattle.std.proofs.lemmas.Bool.{cases_eq}
use Rattle.std.proofs.lemmas.List.{length-map, map-set, map-append, get_or-set_same, get_or-set_other, length-set, get_or_past}
use Rattle.std.proofs.lemmas.List.Sums.{sum_by-set, sum_by_push, sum_by-cons}
use Rattle.slab.specs.Slab.{Slab, Updates, get, slab_len}
use Rattle.run_tasks.specs.Tables.{AreKeyed, IsKept, IsPresent, Stays, Switched, Table, found, waiting_in, vacancy}
use Rattle.list_laws.proofs.Numbers.{less}

apart_more : (i j : ℕ) → i ≢ j → suc i ≢ suc j
apart_more i j ne e = ne (let same : i ≡ j = omega arith in same)

-- ---- places of a list

pub read_at : {X : Type 0} (xs : List (Option X)) (i : ℕ) → i < length xs → slice_get xs i ≡ Some (get_or xs i None)
read_at [] i l = absurd (omega arith)
read_at (x ∷ xs) zero l = refl
read_at (x ∷ xs) (suc i) l = read_at xs i (less i (length xs) l)

pub read_some : {X : Type 0} (xs : List (Option X)) (i : ℕ) (x : Option X) → slice_get xs i ≡ Some x → get_or xs i None ≡ x
read_some [] i x e = cc
read_some (y ∷ xs) zero x e = cc
read_some (y ∷ xs) (suc i) x e = read_some xs i x e

pub read_within : {X : Type 0} (xs : List (Option X)) (i : ℕ) (x : X) → get_or xs i None ≡ Some x → i < length xs
read_within [] i x e = cc
read_within (y ∷ xs) zero x e = omega arith
read_within (y ∷ xs) (suc i) x e = let h = read_within xs i x e in omega arith

pub read_or : {X : Type 0} (xs : List (Option X)) (i : ℕ) → unwrap_or (slice_get xs i) None ≡ get_or xs i None
read_or [] i = refl
read_or (x ∷ xs) zero = refl
read_or (x ∷ xs) (suc i) = read_or xs i

pub read_pushed : {X : Type 0} (xs : List (Option X)) (i : ℕ) → get_or (xs ++ None ∷ []) i None ≡ get_or xs i None
read_pushed [] zero = refl
read_pushed [] (suc i) = refl
read_pushed (x ∷ xs) zero = refl
read_pushed (x ∷ xs) (suc i) = read_pushed xs i

pub set_none : {X : Type 0} (xs : List (Option X)) (i : ℕ) → get_or xs i None ≡ None → set xs i None ≡ xs
set_none [] i e = refl
set_none {X = X} (x ∷ xs) zero e = ap (λ (first : Option X). first ∷ xs) (sym e)
set_none (x ∷ xs) (suc i) e = ap (λ rest. x ∷ rest) (set_none xs i e)

pub set_pushed : {X : Type 0} (xs : List X) (i : ℕ) (x y : X) → i < length xs → set (xs ++ y ∷ []) i x ≡ set xs i x ++ y ∷ []
set_pushed [] i x y l = absurd (omega arith)
set_pushed (z ∷ xs) zero x y l = refl
set_pushed (z ∷ xs) (suc i) x y l = ap (λ rest. z ∷ rest) (set_pushed xs i x y (less i (length xs) l))

-- writes at two places
pub set_swap : {X : Type 0} (xs : List X) (i j : ℕ) (x y : X) → i ≢ j → set (set xs i x) j y ≡ set (set xs j y) i x
set_swap [] i j x y ne = refl
set_swap (z ∷ xs) zero zero x y ne = absurd (ne refl)
set_swap (z ∷ xs) zero (suc j) x y ne = refl
set_swap (z ∷ xs) (suc i) zero x y ne = refl
set_swap (z ∷ xs) (suc i) (suc j) x y ne = ap (λ rest. z ∷ rest) (set_swap xs i j x y (λ e. ne (ap suc e)))

-- ---- keys

sum_at_hole : (keys : List (Option ℕ)) (i : ℕ) → i < length keys → get_or keys i None ≡ None → 1 ≤ sum_by vacancy keys
sum_at_hole [] i l e = absurd (omega arith)
sum_at_hole (key ∷ keys) zero l e = let s = sum_by-cons vacancy key keys in let v = ap vacancy e in omega arith
sum_at_hole (key ∷ keys) (suc i) l e = let s = sum_by-cons vacancy key keys in let h = sum_at_hole keys i (less i (length keys) l) e in omega arith

kept_key : (keys : List (Option ℕ)) (i j m : ℕ) → i < length keys → get_or (set keys i None) j None ≡ Some m → (j ≢ i) × (get_or keys j None ≡ Some m)
kept_key keys i j m l e =
    elim (cases_eq j i) [
      | inl same ↦ absurd (let no : None ≡ Some m = sym (get_or-set_same keys i None None l) ∙ ap (λ (n : ℕ). get_or (set keys i None) n None) (sym same) ∙ e in cc)
      | inr ne ↦ (ne, sym (get_or-set_other keys i j None None ne) ∙ e)
    ]

new_or_kept : (keys : List (Option ℕ)) (i key j m : ℕ) → i < length keys → get_or (set keys i (Some key)) j None ≡ Some m → (j ≢ i → get_or keys j None ≡ Some m)
new_or_kept keys i key j m l e ne = sym (get_or-set_other keys i j (Some key) None ne) ∙ e

new_there : (keys : List (Option ℕ)) (i key j m : ℕ) → i < length keys → get_or (set keys i (Some key)) j None ≡ Some m → j ≡ i → m ≡ key
new_there keys i key j m l e same =
    let both : Some key ≡ Some m = sym (get_or-set_same keys i (Some key) None l) ∙ ap (λ (n : ℕ). get_or (set keys i (Some key)) n None) (sym same) ∙ e in cc

pub hole_left : (keys : List (Option ℕ)) (i j : ℕ) → get_or keys j None ≡ None → get_or (set keys i None) j None ≡ None
hole_left [] i j e = e
hole_left (key ∷ keys) zero zero e = refl
hole_left (key ∷ keys) zero (suc j) e = e
hole_left (key ∷ keys) (suc i) zero e = e
hole_left (key ∷ keys) (suc i) (suc j) e = hole_left keys i j e

pub hole_made : (keys : List (Option ℕ)) (i : ℕ) → get_or (set keys i None) i None ≡ None
hole_made [] i = refl
hole_made (key ∷ keys) zero = refl
hole_made (key ∷ keys) (suc i) = hole_made keys i

module _ {T : Type 0} where
  -- ---- what waits, by keys

  pub found_at : (entries : Slab T) (keys : List (Option ℕ)) (i : ℕ) → get_or (waiting_in keys entries) i None ≡ found entries (get_or keys i None)
  found_at entries [] i = refl
  found_at entries (key ∷ keys) zero = refl
  found_at entries (key ∷ keys) (suc i) = found_at entries keys i

  other_key : (old new : Slab T) (key : ℕ) (slot : Option T) (one : Option ℕ) → Updates old new key slot → (one ≡ Some key → ⊥) → found new one ≡ found old one
  other_key old new key slot None updates ne = refl
  other_key old new key slot (Some k) updates ne = updates.others k (λ e. ne (ap (λ (n : ℕ). Some n) e))

  same_others : (old new : Slab T) (key : ℕ) (slot : Option T) (keys : List (Option ℕ)) → Updates old new key slot → ((i : ℕ) → get_or keys i None ≡ Some key → ⊥)
      → waiting_in keys new ≡ waiting_in keys old
  same_others old new key slot [] updates ne = refl
  same_others old new key slot (one ∷ keys) updates ne =
      ap (λ (x : Option T). x ∷ waiting_in keys new) (other_key old new key slot one updates (ne zero))
      ∙ ap (λ (rest : List (Option T)). found old one ∷ rest) (same_others old new key slot keys updates (λ i e. ne (suc i) e))

  set_others : (old new : Slab T) (key : ℕ) (slot : Option T) (keys : List (Option ℕ)) (i : ℕ) (x : Option T) → Updates old new key slot
      → ((j : ℕ) → j ≢ i → get_or keys j None ≡ Some key → ⊥) → set (waiting_in keys new) i x ≡ set (waiting_in keys old) i x
  set_others old new key slot [] i x updates ne = refl
  set_others old new key slot (one ∷ keys) zero x updates ne =
      ap (λ (rest : List (Option T)). x ∷ rest) (same_others old new key slot keys updates (λ j e. ne (suc j) (λ z. absurd (omega arith)) e))
  set_others old new key slot (one ∷ keys) (suc i) x updates ne =
      ap (λ (y : Option T). y ∷ set (waiting_in keys new) i x) (other_key old new key slot one updates (ne zero (λ z. absurd (omega arith))))
      ∙ ap (λ (rest : List (Option T)). found old one ∷ rest) (set_others old new key slot keys i x updates (λ j n e. ne (suc j) (apart_more j i n) e))

  -- a task gets or loses its key
  pub waiting_set : (old new : Slab T) (key : ℕ) (slot : Option T) (keys : List (Option ℕ)) (i : ℕ) (one : Option ℕ) → Updates old new key slot
      → ((j : ℕ) → j ≢ i → get_or keys j None ≡ Some key → ⊥) → waiting_in (set keys i one) new ≡ set (waiting_in keys old) i (found new one)
  waiting_set old new key slot keys i one updates ne =
      map-set (found new) keys i one ∙ set_others old new key slot keys i (found new one) updates ne

  -- ---- how it is kept

  pub has_room : (keys : List (Option ℕ)) (entries : Slab T) (i : ℕ) → AreKeyed keys entries → i < length keys → get_or keys i None ≡ None → slab_len entries + 1 ≤ entries.capacity
  has_room keys entries i are l e = let h = sum_at_hole keys i l e in omega (arith, are.room)

  no_value : (entries : Slab T) (key : ℕ) → IsPresent entries key → get entries key ≡ None → ⊥
  no_value entries key one none = let no : None ≡ Some one.value = sym none ∙ one.is in cc

  -- a key that is new stands nowhere
  pub new_key : (keys : List (Option ℕ)) (entries : Slab T) (key : ℕ) → AreKeyed keys entries → get entries key ≡ None → (j : ℕ) → get_or keys j None ≡ Some key → ⊥
  new_key keys entries key are none j e = no_value entries key (are.present j key e) none

  pub keyed_taken : (keys : List (Option ℕ)) (old new : Slab T) (i key : ℕ) → AreKeyed keys old → get_or keys i None ≡ Some key → Updates old new key None
      → slab_len new + 1 ≡ slab_len old → new.capacity ≡ old.capacity → AreKeyed (set keys i None) new
  keyed_taken keys old new i key are at updates fewer same =
      let l = read_within keys i key at in
      record {
        present = λ j m e.
            let before = kept_key keys i j m l e in let one = are.present j m before.1 in
            let other : m ≢ key = λ z. are.apart i j key (λ y. before.0 (sym y)) at (before.1 ∙ ap (λ (n : ℕ). Some n) z) in
            record { value = one.value; is = updates.others m other ∙ one.is };
        apart = λ j k m ne one other. are.apart j k m ne (kept_key keys i j m l one).1 (kept_key keys i k m l other).1;
        room = let s = sum_by-set vacancy keys i None None l in let v = ap vacancy at in omega (arith, are.room);
      }

  -- where nothing was kept, nothing changes
  pub keyed_same : (keys : List (Option ℕ)) (entries : Slab T) (i : ℕ) → AreKeyed keys entries → get_or keys i None ≡ None → AreKeyed (set keys i None) entries
  keyed_same keys entries i are at = subst (λ (ks : List (Option ℕ)). AreKeyed ks entries) (sym (set_none keys i at)) are

  pub keyed_put : (keys : List (Option ℕ)) (old new : Slab T) (i key : ℕ) (value : T) → AreKeyed keys old → i < length keys → get_or keys i None ≡ None → get old key ≡ None
      → Updates old new key (Some value) → slab_len new ≡ slab_len old + 1 → new.capacity ≡ old.capacity → AreKeyed (set keys i (Some key)) new
  keyed_put keys old new i key value are l at fresh updates more same = record {
    present = λ j m e. elim (cases_eq j i) [
      | inl here ↦ record { value = value; is = ap (get new) (new_there keys i key j m l e here) ∙ updates.changed }
      | inr ne ↦ (
          let before = new_or_kept keys i key j m l e ne in let one = are.present j m before in
          let other : m ≢ key = λ z. new_key keys old key are fresh j (before ∙ ap (λ (n : ℕ). Some n) z) in
          record { value = one.value; is = updates.others m other ∙ one.is })
    ];
    apart = λ j k m ne one other. elim (cases_eq j i) [
      | inl here ↦ (
          let far : k ≢ i = λ z. ne (here ∙ sym z) in
          new_key keys old key are fresh k (new_or_kept keys i key k m l other far ∙ ap (λ (n : ℕ). Some n) (new_there keys i key j m l one here)))
      | inr far ↦ elim (cases_eq k i) [
        | inl here ↦ new_key keys old key are fresh j (new_or_kept keys i key j m l one far ∙ ap (λ (n : ℕ). Some n) (new_there keys i key k m l other here))
        | inr away ↦ are.apart j k m ne (new_or_kept keys i key j m l one far) (new_or_kept keys i key k m l other away)
      ]
    ];
    room = let s = sum_by-set vacancy keys i (Some key) None l in let v = ap vacancy at in omega (arith, are.room);
  }

  pub keyed_more : (keys : List (Option ℕ)) (old new : Slab T) → AreKeyed keys old → new ≡ record old { capacity = new.capacity } → slab_len old + (length keys + 1) ≤ new.capacity
      → AreKeyed (keys ++ None ∷ []) new
  keyed_more keys old new are same room =
      let slots : new.slots ≡ old.slots = ap (λ (s : Slab T). s.slots) same in
      let count : slab_len new ≡ slab_len old = ap slab_len same in
      record {
        present = λ i k e.
            let one = are.present i k (sym (read_pushed keys i) ∙ e) in
            record { value = one.value; is = ap (λ (s : List (Option T)). get_or s k None) slots ∙ one.is };
        apart = λ i j k ne one other. are.apart i j k ne (sym (read_pushed keys i) ∙ one) (sym (read_pushed keys j) ∙ other);
        room = let s = sum_by_push vacancy keys None in let few = sum_few keys in omega arith;
      }
    where
      sum_few : (keys : List (Option ℕ)) → sum_by vacancy keys ≤ length keys
      sum_few [] = omega arith
      sum_few (None ∷ keys) = let s = sum_by-cons vacancy None keys in let h = sum_few keys in omega arith
      sum_few (Some k ∷ keys) = let s = sum_by-cons vacancy (Some k) keys in let h = sum_few keys in omega arith

  pub more_room : (keys : List (Option ℕ)) (old new : Slab T) → AreKeyed keys old → new ≡ record old { capacity = new.capacity } → old.capacity ≤ new.capacity → AreKeyed keys new
  more_room keys old new are same grows =
      let slots : new.slots ≡ old.slots = ap (λ (s : Slab T). s.slots) same in
      let count : slab_len new ≡ slab_len old = ap slab_len same in
      record {
        present = λ i k e. let one = are.present i k e in record { value = one.value; is = ap (λ (s : List (Option T)). get_or s k None) slots ∙ one.is };
        apart = are.apart;
        room = omega (arith, are.room);
      }

  pub same_slots : (keys : List (Option ℕ)) (old new : Slab T) → new ≡ record old { capacity = new.capacity } → waiting_in keys new ≡ waiting_in keys old
  same_slots keys old new same =
      ap (λ (s : Slab T). waiting_in keys s) same

  -- ---- what contracts see

  found_none : (keys : List (Option ℕ)) (entries : Slab T) (i : ℕ) → get_or keys i None ≡ None → get_or (waiting_in keys entries) i None ≡ None
  found_none keys entries i e = found_at entries keys i ∙ ap (found entries) e

  pub hole_seen : (task : ℕ) (keys : List (Option ℕ)) (entries : Slab T) → IsKept task keys entries → slice_get (waiting_in keys entries) task ≡ Some None
  hole_seen task keys entries kept =
      let l : task < length (waiting_in keys entries) = omega (arith, kept.there, length-map keys (found entries)) in
      read_at (waiting_in keys entries) task l ∙ ap (λ (x : Option T). Some x) (found_none keys entries task kept.hole)

  pub key_none : (keys : List (Option ℕ)) (entries : Slab T) (i : ℕ) → AreKeyed keys entries → get_or (waiting_in keys entries) i None ≡ None → get_or keys i None ≡ None
  key_none keys entries i are e = by (get_or keys i None) refl (sym (found_at entries keys i) ∙ e)
    where
      by : (key : Option ℕ) → get_or keys i None ≡ key → found entries (get_or keys i None) ≡ None → get_or keys i None ≡ None
      by None is none = is
      by (Some k) is none = absurd (no_value entries k (are.present i k is) (sym (ap (found entries) is) ∙ none))

  -- a task that waits isn't the running one
  pub other_waits : (task : ℕ) (keys : List (Option ℕ)) (entries : Slab T) (i : ℕ) (value : T) → IsKept task keys entries → Some value ≡ get_or (waiting_in keys entries) i None → i ≢ task
  other_waits task keys entries i value kept given same =
      let none = found_none keys entries task kept.hole in
      let no : Some value ≡ None = given ∙ ap (λ (n : ℕ). get_or (waiting_in keys entries) n None) same ∙ none in cc

  pub other_given : (task : ℕ) (keys : List (Option ℕ)) (entries : Slab T) (i : ℕ) (given : Option T) → IsKept task keys entries → given ≡ get_or (waiting_in keys entries) i None
      → OnSome given (i ≢ task)
  other_given task keys entries i None kept is = tt
  other_given task keys entries i (Some value) kept is = other_waits task keys entries i value kept is

  pub kept_taken : (task : ℕ) (keys after : List (Option ℕ)) (old new : Slab T) (i : ℕ) → IsKept task keys old → after ≡ set keys i None → AreKeyed after new → IsKept task after new
  kept_taken task keys after old new i kept is keyed =
      let count : length after ≡ length keys = ap length is ∙ length-set keys i None in
      record {
        keyed = keyed;
        there = omega (arith, kept.there);
        hole = ap (λ (ks : List (Option ℕ)). get_or ks task None) is ∙ hole_left keys i task kept.hole;
        few = omega (arith, kept.few);
      }

  pub kept_put : (task : ℕ) (keys after : List (Option ℕ)) (old new : Slab T) (i : ℕ) → IsKept task keys old → i ≢ task
      → ((place : ℕ) → place ≢ i → get_or after place None ≡ get_or keys place None) → length after ≡ length keys → AreKeyed after new → IsKept task after new
  kept_put task keys after old new i kept ne others count keyed = record {
    keyed = keyed;
    there = omega (arith, kept.there);
    hole = others task (λ e. ne (sym e)) ∙ kept.hole;
    few = omega (arith, kept.few);
  }

  -- another task runs
  pub kept_switched : (task to : ℕ) (keys taken after : List (Option ℕ)) (old new : Slab T) → IsKept task keys old → to < length keys → to ≢ task → taken ≡ set keys to None
      → ((place : ℕ) → place ≢ task → get_or after place None ≡ get_or taken place None) → length after ≡ length taken → AreKeyed after new → IsKept to after new
  kept_switched task to keys taken after old new kept l ne is others count keyed =
      let all : length taken ≡ length keys = ap length is ∙ length-set keys to None in
      record {
        keyed = keyed;
        there = omega arith;
        hole = others to ne ∙ ap (λ (ks : List (Option ℕ)). get_or ks to None) is ∙ hole_made keys to;
        few = omega (arith, kept.few);
      }

  pub waits_at : (waiting : List (Option T)) (i : ℕ) (value : T) → Some value ≡ get_or waiting i None → slice_get waiting i ≡ Some (Some value)
  waits_at waiting i value given = read_at waiting i (read_within waiting i value (sym given)) ∙ ap (λ (x : Option T). Some x) (sym given)

  -- a new task runs
  pub kept_begun : (task : ℕ) (keys after : List (Option ℕ)) (old new : Slab T) → IsKept task keys old → length keys < 64
      → ((place : ℕ) → place ≢ task → get_or after place None ≡ get_or (keys ++ None ∷ []) place None) → length after ≡ length keys + 1 → AreKeyed after new → IsKept (length keys) after new
  kept_begun task keys after old new kept few others count keyed =
      let ne : length keys ≢ task = λ e. absurd (omega (arith, kept.there)) in
      record {
        keyed = keyed;
        there = omega arith;
        hole = others (length keys) ne ∙ read_pushed keys (length keys) ∙ get_or_past keys (length keys) None (omega arith);
        few = omega arith;
      }

  pub begun_waiting : (keys : List (Option ℕ)) (old new : Slab T) (task : ℕ) (running : T) → new ≡ record old { capacity = new.capacity } → task < length keys
      → set (waiting_in (keys ++ None ∷ []) new) task (Some running) ≡ set (waiting_in keys old) task (Some running) ++ None ∷ []
  begun_waiting keys old new task running same l =
      ap (λ (ws : List (Option T)). set ws task (Some running)) (map-append (found new) keys (None ∷ []) ∙ ap (λ (ws : List (Option T)). ws ++ None ∷ []) (same_slots keys old new same))
      ∙ set_pushed (waiting_in keys old) task (Some running) None (omega (arith, length-map keys (found old)))

  pub kept_grown : (task : ℕ) (keys : List (Option ℕ)) (old new : Slab T) → IsKept task keys old → new ≡ record old { capacity = new.capacity } → old.capacity ≤ new.capacity → IsKept task keys new
  kept_grown task keys old new kept same grows = record { keyed = more_room keys old new kept.keyed same grows; there = kept.there; hole = kept.hole; few = kept.few }

  -- ---- as contracts say it

  pub empty_key : (task : ℕ) (keys : List (Option ℕ)) (entries : Slab T) (i : ℕ) (table : Table T) → record { task = task; waiting = waiting_in keys entries } ≡ table → AreKeyed keys entries
      → slice_get table.waiting i ≡ Some None → get_or keys i None ≡ None
  empty_key task keys entries i table view are empty =
      key_none keys entries i are (read_some (waiting_in keys entries) i None (ap (λ (t : Table T). slice_get t.waiting i) view ∙ empty))

  pub stays_so : (task : ℕ) (keys : List (Option ℕ)) (entries : Slab T) (to : ℕ) (table : Table T) (waiting : List (Option T)) (running : T) → record { task = task; waiting = waiting_in keys entries } ≡ table
      → None ≡ get_or (waiting_in keys entries) to None → waiting ≡ set (waiting_in keys entries) to None → Stays table running to (record { task = task; waiting = waiting }) running
  stays_so task keys entries to table waiting running view given is =
      subst (λ (t : Table T). Stays t running to (record { task = task; waiting = waiting }) running) view
      (record {
        absent = read_or (waiting_in keys entries) to ∙ sym given;
        table = ap (λ (ws : List (Option T)). let t : Table T = record { task = task; waiting = ws } in t) (is ∙ set_none (waiting_in keys entries) to (sym given));
        same = refl;
      })

  pub switched_so : (task : ℕ) (keys : List (Option ℕ)) (entries : Slab T) (to : ℕ) (table : Table T) (taken waiting : List (Option T)) (running waits next dest : T)
      → record { task = task; waiting = waiting_in keys entries } ≡ table → Some next ≡ get_or (waiting_in keys entries) to None → to ≢ task → taken ≡ set (waiting_in keys entries) to None
      → waiting ≡ set taken task (Some waits) → waits ≡ running → dest ≡ next → Switched table running to (record { task = to; waiting = waiting }) dest
  switched_so task keys entries to table taken waiting running waits next dest view given ne taken_is is waits_is dest_is =
      subst (λ (t : Table T). Switched t running to (record { task = to; waiting = waiting }) dest) view
      (record {
        waits = waits_at (waiting_in keys entries) to dest (ap (λ (x : T). Some x) dest_is ∙ given);
        table = ap (λ (ws : List (Option T)). let t : Table T = record { task = to; waiting = ws } in t)
            (is ∙ ap (λ (x : T). set taken task (Some x)) waits_is ∙ ap (λ (ws : List (Option T)). set ws task (Some running)) taken_is
            ∙ set_swap (waiting_in keys entries) to task None (Some running) ne);
      })

  pub begun_so : (task : ℕ) (keys pushed : List (Option ℕ)) (old new : Slab T) (number : ℕ) (table : Table T) (waiting : List (Option T)) (running waits : T)
      → record { task = task; waiting = waiting_in keys old } ≡ table → new ≡ record old { capacity = new.capacity } → task < length keys → number ≡ length keys → pushed ≡ keys ++ None ∷ []
      → waiting ≡ set (waiting_in pushed new) task (Some waits) → waits ≡ running
      → ◌≡◌ {A = Table T} (record { task = number; waiting = waiting }) (record { task = length table.waiting; waiting = set table.waiting table.task (Some running) ++ None ∷ [] })
  begun_so task keys pushed old new number table waiting running waits view same l number_is pushed_is is waits_is =
      subst (λ (t : Table T). ◌≡◌ {A = Table T} (record { task = number; waiting = waiting }) (record { task = length t.waiting; waiting = set t.waiting t.task (Some running) ++ None ∷ [] })) view
      (ap (λ (n : ℕ). let t : Table T = record { task = n; waiting = waiting } in t) (number_is ∙ sym (length-map keys (found old)))
      ∙ ap (λ (ws : List (Option T)). let t : Table T = record { task = length (waiting_in keys old); waiting = ws } in t)
      (is ∙ ap (λ (x : T). set (waiting_in pushed new) task (Some x)) waits_is ∙ ap (λ (ks : List (Option ℕ)). set (waiting_in ks new) task (Some running)) pushed_is
      ∙ begun_waiting keys old new task running same l))
