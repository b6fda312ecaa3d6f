-- The walk, a block at a time.
use Rattle.std.proofs.Common.{◌≡◌, ◌∙◌, ℕ, zero, suc, ◌<◌, ◌≤◌, ◌+◌, ◌⊎◌, inl, inr, Bool, true, false, List, [], ◌∷◌, ◌++◌, length, take, drop, map, set, replicate, Option, Some, None, slice_get, refl, ap, sym, arith, length-append, subst}
use Rattle.std.specs.Prelude.{slice_index, slice_index_or}
use Rattle.std.specs.List.{Contains}
use Rattle.std.specs.Global.{Vec}
use Rattle.std.proofs.lemmas.Bool.{cases_eq, false≢true}
use Rattle.std.proofs.lemmas.List.{length-set, length-take-le}
use Rattle.std.proofs.lemmas.Option.{slice_get_within}
use Rattle.list_laws.proofs.Places.{get_front, get_past, get_middle, get_set, get_kept, get_written, get_filled, map_back, get_map}
use Rattle.list_laws.proofs.Contents.{contains_get, get_contained}
use Rattle.version_walk.specs.declared.slots.Slot.{Slot}
use Rattle.version_walk.specs.declared.versions.Change.{Change}
use Rattle.version_walk.specs.declared.versions.Versions.{Versions}
use Rattle.version_walk.specs.declared.walk.Pending.{Pending}
use Rattle.version_walk.specs.Slots.{answered, current_behind, taken_back}
use Rattle.version_walk.specs.Forest.{list_at, IsChild, AreRoots, AreChildren}
use Rattle.version_walk.specs.Walks.{Task, Begins, at_root, under, IsAnswered, AreAnswered, HasRoom, awaiting, AnswersRow, Done, Awaits, IsWalk, weight}
use Rattle.version_walk.proofs.SlotLemmas.{back_over, back_cut, back_all, length_answered}
use Rattle.version_walk.proofs.ForestLemmas.{at_same, at_other}

-- ---- what stands in a list of pending blocks

-- an entry of joined lists stands in the first or behind it
data Side {A : Type 0} (xs ys : List A) (place : ℕ) (x : A) : Type 0 where
  in_first : place < length xs → slice_get xs place ≡ Some x → Side xs ys place x
  in_second : (k : ℕ) → place ≡ length xs + k → slice_get ys k ≡ Some x → Side xs ys place x

side : {A : Type 0} (xs ys : List A) (place : ℕ) (x : A) → slice_get (xs ++ ys) place ≡ Some x → Side xs ys place x
side [] ys place x is = in_second place (omega arith) is
side (z ∷ xs) ys zero x is = in_first (omega arith) is
side (z ∷ xs) ys (suc place) x is = elim (side xs ys place x is) [
  | in_first within at ↦ in_first (omega arith) at
  | in_second k e at ↦ in_second k (omega (arith, e)) at
]

awaits_front : (pending more : List Pending) (block : ℕ) → Awaits pending block → Awaits (pending ++ more) block
awaits_front pending more block is = record { place = is.place; next = is.next; stands = get_front pending more is.place is.next is.stands; is = is.is }

awaits_more : (pending : List Pending) (depth : ℕ) (blocks : List ℕ) (block : ℕ) → Contains blocks block → Awaits (pending ++ map (awaiting depth) blocks) block
awaits_more pending depth blocks block has =
    let at = get_contained blocks block has in
    record {
      place = length pending + at.0;
      next = awaiting depth block;
      stands = get_past pending (map (awaiting depth) blocks) at.0 ∙ get_map (awaiting depth) blocks at.0 block at.1;
      is = refl;
    }

-- what awaits its turn still after the last one is taken
awaits_less : (pending : List Pending) (next : Pending) (block : ℕ) → Awaits (pending ++ next ∷ []) block → Awaits pending block ⊎ (next.block ≡ block)
awaits_less pending next block is = elim (side pending (next ∷ []) is.place is.next is.stands) [
  | in_first within at ↦ inl (record { place = is.place; next = is.next; stands = at; is = is.is })
  | in_second k e at ↦ inr (last k is.next at is.is)
]
  where
    last : (k : ℕ) (one : Pending) → slice_get (next ∷ []) k ≡ Some one → one.block ≡ block → next.block ≡ block
    last zero one at is = let e : next ≡ one = cc in ap (λ (p : Pending). p.block) e ∙ is
    last (suc k) one at is = absurd (let h : None ≡ Some one = at in cc)

-- ---- the start

pub walk_start : (parents : List (Option ℕ)) (task : Task) (roots : List ℕ) (count : ℕ) (pending : List Pending) (log : List Change) (done : List Bool)
    → AreRoots parents roots → log ≡ [] → done ≡ replicate count false → pending ≡ map (awaiting 0) roots
    → IsWalk parents task pending task.own log task.rows done
walk_start parents task roots count pending log done are empty none all = record {
  whole = refl;
  ready = λ place next stands.
      let one = map_back (awaiting 0) roots place next (let s = rw all at stands in s) in
      let begins : Begins parents task one.before task.own = at_root one.before (are.are one.before (contains_get roots place one.before one.stands)) in
      rw (one.is, empty) begins;
  within = λ place next stands.
      let one = map_back (awaiting 0) roots place next (let s = rw all at stands in s) in
      let e = ap (λ (p : Pending). p.depth) one.is in
      omega (arith, e);
  nested = λ place later one other before stands stands'.
      let first = map_back (awaiting 0) roots place one (let s = rw all at stands in s) in
      let e = ap (λ (p : Pending). p.depth) first.is in
      omega (arith, e);
  left = λ block is. refl;
  answers = λ block is. absurd (false≢true (sym (get_filled count false block true (let s = rw none at is in s))));
  roots = λ block root. inr (rw all (awaits_more [] 0 roots block (are.all block root)));
  children = λ block parent child is. absurd (false≢true (sym (get_filled count false parent true (let s = rw none at is in s))));
}

-- ---- the next block was answered before

pub walk_past : (parents : List (Option ℕ)) (task : Task) (pending : List Pending) (next : Pending) (current : List ℕ) (log : List Change) (rows : List (Vec Slot)) (done : List Bool)
    → Done done next.block → IsWalk parents task (pending ++ next ∷ []) current log rows done → IsWalk parents task pending current log rows done
walk_past parents task pending next current log rows done is_done is = record {
  whole = is.whole;
  ready = λ place one stands. is.ready place one (get_front pending (next ∷ []) place one stands);
  within = λ place one stands. is.within place one (get_front pending (next ∷ []) place one stands);
  nested = λ place later one other before stands stands'.
      is.nested place later one other before (get_front pending (next ∷ []) place one stands) (get_front pending (next ∷ []) later other stands');
  left = is.left;
  answers = is.answers;
  roots = λ block root. settled block (is.roots block root);
  children = λ block parent child before. settled block (is.children block parent child before);
}
  where
    settled : (block : ℕ) → Done done block ⊎ Awaits (pending ++ next ∷ []) block → Done done block ⊎ Awaits pending block
    settled block (inl before) = inl before
    settled block (inr awaits) = elim (awaits_less pending next block awaits) [
      | inl still ↦ inr still
      | inr e ↦ inl (rw (← e) is_done)
    ]

-- ---- the next block is answered

module _ (parents : List (Option ℕ)) (task : Task) (children : List (Vec ℕ)) (pending : List Pending) (next : Pending)
    (old_current : List ℕ) (old_log : List Change) (old_rows new_rows : List (Vec Slot)) (old_done new_done : List Bool) (now_pending : List Pending)
    (cut new_versions : Versions) (are : AreChildren parents children) (is : IsWalk parents task (pending ++ next ∷ []) old_current old_log old_rows old_done)
    (undone : slice_get old_done next.block ≡ Some false)
    (cut_log : cut.log.items ≡ take next.depth old_log)
    (cut_current : cut.current.items ≡ taken_back (drop next.depth old_log) old_current)
    (answers : AnswersRow next.block (slice_index task.starts next.block) old_rows new_rows cut new_versions)
    (done : new_done ≡ set old_done next.block true)
    (awaited : now_pending ≡ pending ++ map (awaiting (length new_versions.log.items)) (list_at children next.block))
    (row_there : next.block < length old_rows)
  where
    last_stands : slice_get (pending ++ next ∷ []) (length pending) ≡ Some next
    last_stands = get_middle pending next []

    depth_within : next.depth ≤ length old_log
    depth_within = is.within (length pending) next last_stands

    cut_size : length cut.log.items ≡ next.depth
    cut_size = ap length cut_log ∙ length-take-le next.depth old_log depth_within

    grown : length new_versions.log.items ≡ next.depth + length answers.log.changes
    grown = ap length answers.log.log ∙ length-append cut.log.items answers.log.changes ∙ ap (λ (n : ℕ). n + length answers.log.changes) cut_size

    begins : Begins parents task next.block cut.current.items
    begins = subst (Begins parents task next.block) (sym cut_current) (is.ready (length pending) next last_stands)

    row_left : list_at old_rows next.block ≡ list_at task.rows next.block
    row_left = is.left next.block undone

    -- an earlier entry finds the numbers that it found before
    same_back : (depth : ℕ) → depth ≤ next.depth
        → taken_back (drop depth new_versions.log.items) new_versions.current.items ≡ taken_back (drop depth old_log) old_current
    same_back depth le =
        back_over depth cut.log.items new_versions.log.items answers.log.changes cut.current.items new_versions.current.items (rw cut_size le) answers.log.log answers.log.back
        ∙ ap (λ (log : List Change). taken_back (drop depth log) cut.current.items) cut_log
        ∙ ap (taken_back (drop depth (take next.depth old_log))) cut_current
        ∙ back_cut depth next.depth old_log old_current le depth_within

    earlier : (place : ℕ) (one : Pending) → slice_get pending place ≡ Some one → one.depth ≤ next.depth
    earlier place one stands =
        is.nested place (length pending) one next (slice_get_within pending place one stands) (get_front pending (next ∷ []) place one stands) last_stands

    behind_is : new_versions.current.items ≡ current_behind cut.current.items (slice_index task.starts next.block) (list_at task.rows next.block)
    behind_is = answers.current ∙ ap (current_behind cut.current.items (slice_index task.starts next.block)) row_left

    later_one : (k : ℕ) (one : Pending) → slice_get (map (awaiting (length new_versions.log.items)) (list_at children next.block)) k ≡ Some one
        → (one.depth ≡ length new_versions.log.items) × IsChild parents one.block next.block
    later_one k one stands =
        let from = map_back (awaiting (length new_versions.log.items)) (list_at children next.block) k one stands in (
          ap (λ (p : Pending). p.depth) from.is,
          rw (ap (λ (p : Pending). p.block) from.is) (are.are from.before next.block (contains_get (list_at children next.block) k from.before from.stands)),
        )

    ready_side : (place : ℕ) (one : Pending) → Side pending (map (awaiting (length new_versions.log.items)) (list_at children next.block)) place one
        → Begins parents task one.block (taken_back (drop one.depth new_versions.log.items) new_versions.current.items)
    ready_side place one (in_first within stands) =
        subst (Begins parents task one.block) (sym (same_back one.depth (earlier place one stands))) (is.ready place one (get_front pending (next ∷ []) place one stands))
    ready_side place one (in_second k e stands) =
        let at = later_one k one stands in
        let all : taken_back (drop one.depth new_versions.log.items) new_versions.current.items ≡ current_behind cut.current.items (slice_index task.starts next.block) (list_at task.rows next.block) =
        ap (λ (n : ℕ). taken_back (drop n new_versions.log.items) new_versions.current.items) at.0 ∙ back_all new_versions.log.items new_versions.current.items ∙ behind_is in
        subst (Begins parents task one.block) (sym all) (under one.block next.block cut.current.items at.1 begins)

    depth_side : (place : ℕ) (one : Pending) → Side pending (map (awaiting (length new_versions.log.items)) (list_at children next.block)) place one
        → one.depth ≤ length new_versions.log.items
    depth_side place one (in_first within stands) = let le = earlier place one stands in omega (arith, le, grown)
    depth_side place one (in_second k e stands) = let at = later_one k one stands in omega (arith, at.0)

    nested_side : (place later : ℕ) (one other : Pending) → place < later
        → Side pending (map (awaiting (length new_versions.log.items)) (list_at children next.block)) place one
        → Side pending (map (awaiting (length new_versions.log.items)) (list_at children next.block)) later other → one.depth ≤ other.depth
    nested_side place later one other before (in_first within stands) (in_first within' stands') =
        is.nested place later one other before (get_front pending (next ∷ []) place one stands) (get_front pending (next ∷ []) later other stands')
    nested_side place later one other before first (in_second k e stands) =
        let le = depth_side place one first in let at = later_one k other stands in omega (arith, le, at.0)
    nested_side place later one other before (in_second k e stands) (in_first within stands') = absurd (omega (arith, e))

    sides : (place : ℕ) (one : Pending) → slice_get now_pending place ≡ Some one
        → Side pending (map (awaiting (length new_versions.log.items)) (list_at children next.block)) place one
    sides place one stands =
        side pending (map (awaiting (length new_versions.log.items)) (list_at children next.block)) place one (let s = rw awaited at stands in s)

    now_done : Done new_done next.block
    now_done = rw done (get_written old_done next.block false true undone)

    still_done : (block : ℕ) → Done old_done block → Done new_done block
    still_done block before = rw done (get_kept old_done next.block block true before)

    settled : (block : ℕ) → Done old_done block ⊎ Awaits (pending ++ next ∷ []) block → Done new_done block ⊎ Awaits now_pending block
    settled block (inl before) = inl (still_done block before)
    settled block (inr awaits) = elim (awaits_less pending next block awaits) [
      | inl still ↦ inr (rw awaited (awaits_front pending (map (awaiting (length new_versions.log.items)) (list_at children next.block)) block still))
      | inr e ↦ inl (rw (← e) now_done)
    ]

    row_now : list_at new_rows next.block ≡ answered cut.current.items (slice_index task.starts next.block) (list_at task.rows next.block)
    row_now =
        ap (λ (rs : List (Vec Slot)). list_at rs next.block) answers.rows
        ∙ at_same old_rows next.block answers.row row_there
        ∙ answers.answers
        ∙ ap (answered cut.current.items (slice_index task.starts next.block)) row_left

    row_kept : (block : ℕ) → (next.block ≡ block → ⊥) → list_at new_rows block ≡ list_at old_rows block
    row_kept block apart = ap (λ (rs : List (Vec Slot)). list_at rs block) answers.rows ∙ at_other old_rows next.block block answers.row apart

    left_now : (block : ℕ) → slice_get new_done block ≡ Some false → list_at new_rows block ≡ list_at task.rows block
    left_now block is_left = elim (get_set old_done next.block block true false (let s = rw done at is_left in s)) [
      | inl other ↦ row_kept block (λ e. other.0 (sym e)) ∙ is.left block other.1
      | inr same ↦ absurd (false≢true same.1)
    ]

    answers_now : (block : ℕ) → Done new_done block → IsAnswered parents task block (list_at new_rows block)
    answers_now block is_done = elim (get_set old_done next.block block true true (let s = rw done at is_done in s)) [
      | inl other ↦ subst (IsAnswered parents task block) (sym (row_kept block (λ e. other.0 (sym e)))) (is.answers block other.1)
      | inr same ↦ subst (λ (b : ℕ). IsAnswered parents task b (list_at new_rows b)) (sym same.0)
          (record { current = cut.current.items; begins = begins; is = row_now })
    ]

    children_now : (block parent : ℕ) → IsChild parents block parent → Done new_done parent → Done new_done block ⊎ Awaits now_pending block
    children_now block parent child is_done = elim (get_set old_done next.block parent true true (let s = rw done at is_done in s)) [
      | inl other ↦ settled block (is.children block parent child other.1)
      | inr same ↦ inr (rw awaited (awaits_more pending (length new_versions.log.items) (list_at children next.block) block
          (are.all block next.block (subst (IsChild parents block) same.0 child))))
    ]

    pub walk_on : IsWalk parents task now_pending new_versions.current.items new_versions.log.items new_rows new_done
    walk_on = record {
      whole = ap length answers.rows ∙ length-set old_rows next.block answers.row ∙ is.whole;
      ready = λ place one stands. ready_side place one (sides place one stands);
      within = λ place one stands. depth_side place one (sides place one stands);
      nested = λ place later one other before stands stands'. nested_side place later one other before (sides place one stands) (sides later other stands');
      left = left_now;
      answers = answers_now;
      roots = λ block root. settled block (is.roots block root);
      children = children_now;
    }

-- ---- the end

module _ (parents : List (Option ℕ)) (task : Task) (current : List ℕ) (log : List Change) (rows : List (Vec Slot)) (done : List Bool)
    (is : IsWalk parents task [] current log rows done) where
  finished : (block : ℕ) → Done done block ⊎ Awaits [] block → Done done block
  finished block (inl is_done) = is_done
  finished block (inr awaits) = absurd (let h : None ≡ Some awaits.next = awaits.stands in cc)

  all_done : (block : ℕ) (numbers : List ℕ) → Begins parents task block numbers → Done done block
  all_done _ _ (at_root block root) = finished block (is.roots block root)
  all_done _ _ (under block parent numbers child before) = finished block (is.children block parent child (all_done parent numbers before))

  pub walk_end : AreAnswered parents task rows
  walk_end = record { whole = is.whole; each = λ block numbers before. is.answers block (all_done block numbers before) }

-- ---- sizes

pub begins_within : (parents : List (Option ℕ)) (task : Task) (block : ℕ) (current : List ℕ) → Begins parents task block current → block < length parents
begins_within parents task _ _ (at_root block root) = slice_get_within parents block None root
begins_within parents task _ _ (under block parent current child before) = slice_get_within parents block (Some parent) child

-- the last of the pending blocks is a block
pub last_within : (parents : List (Option ℕ)) (task : Task) (pending : List Pending) (next : Pending) (current : List ℕ) (log : List Change)
    (rows : List (Vec Slot)) (done : List Bool) → IsWalk parents task (pending ++ next ∷ []) current log rows done → next.block < length parents
last_within parents task pending next current log rows done is =
    begins_within parents task next.block _ (is.ready (length pending) next (get_middle pending next []))

pub weight_less : (done : List Bool) (rows : List (Vec ℕ)) (block : ℕ) → slice_get done block ≡ Some false → block < length rows
    → (weight (set done block true) rows + length (list_at rows block)) + 1 ≡ weight done rows
weight_less [] rows block undone within = absurd (let h : None ≡ Some false = undone in cc)
weight_less (mark ∷ done) [] block undone within = absurd (omega arith)
weight_less (true ∷ done) (row ∷ rows) zero undone within = absurd (let h : Some true ≡ Some false = undone in cc)
weight_less (false ∷ done) (row ∷ rows) zero undone within = omega arith
weight_less (true ∷ done) (row ∷ rows) (suc block) undone within = weight_less done rows block undone (omega arith)
weight_less (false ∷ done) (row ∷ rows) (suc block) undone within = let rest = weight_less done rows block undone (omega arith) in omega (arith, rest)

pub room_kept : (starts : List ℕ) (block : ℕ) (old new : List (Vec Slot)) (before after : Versions) (start : ℕ) → AnswersRow block start old new before after
    → block < length old → HasRoom starts old → HasRoom starts new
room_kept starts block old new before after start answers there room other within =
    let size : length new ≡ length old = ap length answers.rows ∙ length-set old block answers.row in
    let was = room other (omega (arith, size, within)) in
    let same : length (list_at new other) ≡ length (list_at old other) = elim (cases_eq block other) [
      | inl e ↦
          ap (λ (rs : List (Vec Slot)). length (list_at rs other)) answers.rows ∙ ap (λ (n : ℕ). length (list_at (set old block answers.row) n)) (sym e)
          ∙ ap length (at_same old block answers.row there ∙ answers.answers) ∙ length_answered before.current.items start (list_at old block)
          ∙ ap (λ (n : ℕ). length (list_at old n)) e
      | inr ne ↦ ap (λ (rs : List (Vec Slot)). length (list_at rs other)) answers.rows ∙ ap length (at_other old block other answers.row ne)
    ] in
    rw same was

-- ---- marks

-- past the marks all counts as done
pub mark_there : (done : List Bool) (block : ℕ) → slice_index_or done block true ≡ false → slice_get done block ≡ Some false
mark_there [] block is = absurd (false≢true (sym is))
mark_there (mark ∷ done) zero is = ap Some is
mark_there (mark ∷ done) (suc block) is = mark_there done block is

pub mark_is : (done : List Bool) (block : ℕ) → block < length done → slice_index_or done block true ≡ true → Done done block
mark_is [] block within is = absurd (omega arith)
mark_is (mark ∷ done) zero within is = ap Some is
mark_is (mark ∷ done) (suc block) within is = mark_is done block (omega arith) is
