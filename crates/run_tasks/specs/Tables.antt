-- The tasks of a run, by number.
use Rattle.std.specs.Prelude.{◌≡◌, ◌≢◌, ℕ, ◌+◌, ◌<◌, ◌≤◌, Bool, true, false, List, Option, Some, None, length, map, refl, slice_get, slice_index_or, slice_set, unwrap_or}
use Rattle.std.specs.List.{sum_by}
use Rattle.std.specs.Coded.{Coded, code_by, coded×, coded_ℕ, coded_list, coded_option}
use Rattle.slab.specs.Slab.{Slab, get, slab_len}

-- the number of the task that runs, and what is kept of each task that waits; nothing of the one that runs, nor of those that
-- have ended
pub record Table (T : Type 0) : Type 0 where
  pub task : ℕ
  pub waiting : List (Option T)

abbrev pub table_code : {T : Type 0} → Coded T → Coded (Table T)
table_code {T} code =
    code_by (ℕ × List (Option T)) (coded× coded_ℕ (coded_list (coded_option code))) (λ t. (t.task, t.waiting)) (λ p. record { task = p.0; waiting = p.1 }) (λ _. refl)

module _ {T : Type 0} where
  -- another task runs in place of the running one
  pub record Switched (old : Table T) (running : T) (to : ℕ) (new : Table T) (next : T) : Type 0 where
    pub waits : slice_get old.waiting to ≡ Some (Some next)
    pub table : new ≡ record { task = to; waiting = slice_set (slice_set old.waiting old.task (Some running)) to None }

  -- a task that doesn't wait can't run
  pub record Stays (old : Table T) (running : T) (to : ℕ) (new : Table T) (next : T) : Type 0 where
    pub absent : unwrap_or (slice_get old.waiting to) None ≡ None
    pub table : new ≡ old
    pub same : next ≡ running

  abbrev pub Switches : Bool → Table T → T → ℕ → Table T → T → Type 0
  Switches true = Switched
  Switches false = Stays

  -- the running task is gone, and task 0 runs
  pub record Back (old : Table T) (new : Table T) (next : T) : Type 0 where
    pub waits : slice_get old.waiting 0 ≡ Some (Some next)
    pub table : new ≡ record { task = 0; waiting = slice_set old.waiting 0 None }

  abbrev pub GoesBack : Bool → Table T → T → Table T → T → Type 0
  GoesBack true old running new next = Back old new next
  GoesBack false old running new next = Stays old running 0 new next

  -- ---- how it is kept

  -- what stands under a task's key
  abbrev pub found : Slab T → Option ℕ → Option T
  found entries None = None
  found entries (Some key) = get entries key

  abbrev pub waiting_in : List (Option ℕ) → Slab T → List (Option T)
  waiting_in keys entries = map (found entries) keys

-- 1 for a task without a key
abbrev pub vacancy : Option ℕ → ℕ
vacancy None = 1
vacancy (Some key) = 0

module _ {T : Type 0} where
  pub record IsPresent (entries : Slab T) (key : ℕ) : Type 0 where
    pub value : T
    pub is : get entries key ≡ Some value

  -- each key has a value, no two tasks have the same one, and there is room for a value of each task that has none
  pub record AreKeyed (keys : List (Option ℕ)) (entries : Slab T) : Type 0 where
    pub present : (i k : ℕ) → slice_index_or keys i None ≡ Some k → IsPresent entries k
    pub apart : (i j k : ℕ) → i ≢ j → slice_index_or keys i None ≡ Some k → slice_index_or keys j None ≢ Some k
    pub room : slab_len entries + sum_by vacancy keys ≤ entries.capacity

  -- the running task has no key
  pub record IsKept (task : ℕ) (keys : List (Option ℕ)) (entries : Slab T) : Type 0 where
    pub keyed : AreKeyed keys entries
    pub there : task < length keys
    pub hole : slice_index_or keys task None ≡ None
    pub few : length keys ≤ 64
