-- What the parts give together: the numbers of all slots.
use Rattle.std.proofs.Common.{true, ◌≡◌, ◌∙◌, ℕ, zero, suc, ◌<◌, ◌+◌, List, [], ◌∷◌, ◌++◌, length, map, filter, Option, Some, None, slice_get, refl, ap, sym, arith, subst, append_assoc, length-append}
use Rattle.std.specs.Prelude.{slice_index}
use Rattle.std.specs.List.{range_with_len}
use Rattle.std.specs.Global.{Vec}
use Rattle.std.proofs.lemmas.List.{length-map}
use Rattle.std.proofs.lemmas.List.FromFn.{length-range_with_len}
use Rattle.std.proofs.lemmas.Option.{get_or_from_slice_get, slice_get_within}
use Rattle.list_laws.proofs.Places.{get_map}
use Rattle.sp_ids.specs.declared.ids.ValueId.{ValueId}
use Rattle.ir_ast.specs.declared.ops.Operand.{Operand}
use Rattle.ir_ast.specs.Funcs.{Function}
use Rattle.ir_ast.specs.Formed.{IsFormed}
use Rattle.rewriting_forms.specs.Numbered.{among, lines_at, pointers, preds}
use Rattle.rewriting_forms.specs.Liveness.{live_list, live_lists}
use Rattle.rewriting_forms.specs.Names.{own, Naming, joins_of, full_naming}
use Rattle.rewriting_forms.specs.Rewritten.{joined_at, names_of, place_in}
use Rattle.rewriting_laws.specs.Laws.{IsReached}
use Rattle.rewriting_laws.proofs.NameLemmas.{among_filter}
use Rattle.statepoint_insert.specs.Groups.{GroupContent, relocate_in, group_of, groups_of, numbers_in}
use Rattle.live_sets.specs.Joins.{AreJoins}
use Rattle.ir_ast.specs.Operands.{valued as value_id}
use Rattle.version_walk.specs.declared.slots.Slot.{Slot}
use Rattle.version_walk.specs.Slots.{answered}
use Rattle.version_walk.specs.Forest.{list_at}
use Rattle.version_walk.specs.Walks.{AreAnswered}
use Rattle.ssa_rebuild.specs.Rows.{give_slot, uses_of, lines_slots, block_slots, start_of, group_list, body_rows, Grows, entries_all, entries_from, starts_of, all_owns, slots_in, only, only_preds}
use Rattle.ssa_rebuild.specs.Solved.{AreNumbered}
use Rattle.ssa_rebuild.proofs.VersionLemmas.{Shows, IsTask, begins_shows, reached_begins}
use Rattle.ssa_rebuild.proofs.OutputLemmas.{block_answered}
use Rattle.ssa_rebuild.proofs.RowLaws.{rows_from, entries_are}
use Rattle.ssa_rebuild.proofs.TaskLaws.{starts_are, own_shows, first_zero}
use Rattle.ssa_rebuild.proofs.InsideLaws.{count, pointers_inside, results_inside, uses_inside, entries_inside}
use Rattle.list_laws.proofs.Ranges.{range_get}

listed_back : (table : List Operand) (list part : List ℕ) → map (λ relocate. relocate.value.0) (map (relocate_in table list) part) ≡ part
listed_back table list [] = refl
listed_back table list (v ∷ part) = ap (λ (vs : List ℕ). v ∷ vs) (listed_back table list part)

pub lists_back : (table : List Operand) (lists : List (List ℕ)) → map group_list (map (group_of table) lists) ≡ lists
lists_back table [] = refl
lists_back table (list ∷ lists) = ap (λ (l : List ℕ). l ∷ map group_list (map (group_of table) lists)) (listed_back table list list) ∙ ap (λ (ls : List (List ℕ)). list ∷ ls) (lists_back table lists)

pub values_back : (vs : List ℕ) → numbers_in (map value_id vs) ≡ vs
values_back [] = refl
values_back (v ∷ vs) = ap (λ (ws : List ℕ). v ∷ ws) (values_back vs)

at_slots : (rows : List (Vec Slot)) (b : ℕ) (row : List Slot) → slice_get (slots_in rows) b ≡ Some row → list_at rows b ≡ row
at_slots [] b row is = absurd (let h : None ≡ Some row = is in cc)
at_slots (r ∷ rows) zero row is = (let h : Some r.items ≡ Some row = is in cc)
at_slots (r ∷ rows) (suc b) row is = at_slots rows b row is

slots_at : (rows : List (Vec Slot)) (b : ℕ) (row : List Slot) → slice_get (slots_in rows) b ≡ Some row → row ≡ list_at rows b
slots_at rows b row is = sym (at_slots rows b row is)

pub join_at : (joins : List (Vec ValueId)) (b : ℕ) → b < length joins → slice_get (map (λ join. numbers_in join.items) joins) b ≡ Some (numbers_in (list_at joins b))
join_at [] b below = absurd (omega arith)
join_at (join ∷ joins) zero below = refl
join_at (join ∷ joins) (suc b) below = join_at joins b (omega arith)

module _ (func : Function) (table : List Operand) (formed : IsFormed func) (graph : IsReached func) (joins : List (Vec ValueId)) (bodies rows answers : List (Vec Slot))
    (parents : List (Option ℕ)) (starts owned : List ℕ) (groups : List GroupContent)
    (groups_are : groups ≡ groups_of func table) (joins_are : AreJoins func table joins)
    (bodies_are : slots_in bodies ≡ body_rows (map group_list groups) (map (λ join. numbers_in join.items) joins) 0 (length func.args) func.blocks)
    (bodies_whole : length bodies ≡ length func.blocks)
    (rows_are : Grows bodies rows (entries_all (preds func) (map (λ join. numbers_in join.items) joins) 0 func.blocks))
    (parents_are : parents ≡ only_preds func)
    (starts_is : starts ≡ starts_of (length func.args) (slots_in rows))
    (owned_is : owned ≡ range_with_len 0 (length func.args) ++ all_owns (length func.args) (slots_in rows))
    (answers_are : AreAnswered parents (record { starts = starts; own = owned; rows = rows }) answers)
  where
    abbrev naming : Naming
    naming = full_naming func table

    abbrev joined_lists : List (List ℕ)
    joined_lists = map (λ join. numbers_in join.items) joins

    joined_is : (b : ℕ) → b < length func.blocks → slice_get joined_lists b ≡ Some (joined_at func naming b)
    joined_is b below =
        let w = joins_are.whole in
        join_at joins b (omega (arith, w, below)) ∙ ap (λ (vs : List ValueId). Some (numbers_in vs)) (joins_are.each b below)
        ∙ ap Some (values_back (filter (joins_of func table b) (pointers func)))

    body_is : (b : ℕ) → b < length func.blocks → list_at bodies b ≡ map give_slot (joined_at func naming b) ++ lines_slots func table b 0 (lines_at func b)
    body_is b below =
        let z : 0 + b ≡ b = omega arith in
        let lists : map group_list groups ≡ live_lists func table = ap (map group_list) groups_are ∙ lists_back table (live_lists func table) in
        let first = first_zero (length func.args) func.blocks in
        let from = rows_from func table joined_lists b 0 (joined_at func naming b) (omega (arith, below)) (joined_is b below) in
        at_slots bodies b (map give_slot (joined_at func naming b) ++ lines_slots func table b 0 (lines_at func b))
        (ap (λ (rs : List (List Slot)). slice_get rs b) bodies_are
        ∙ ap (λ (ls : List (List ℕ)). slice_get (body_rows ls joined_lists 0 (length func.args) func.blocks) b) lists
        ∙ ap (λ (n : ℕ). slice_get (body_rows (live_lists func table) joined_lists 0 n func.blocks) b) (sym first)
        ∙ from ∙ ap (λ (n : ℕ). Some (map give_slot (joined_at func naming b) ++ lines_slots func table n 0 (lines_at func n))) z)

    row_is : (b : ℕ) → b < length func.blocks → list_at rows b ≡ block_slots func table naming b
    row_is b below =
        let w = joins_are.whole in
        let long = length-map joins (λ join. numbers_in join.items) in
        let entries : entries_all (preds func) joined_lists 0 func.blocks b ≡ entries_from func naming b =
        entries_are func naming b joined_lists (length func.blocks) 0 (omega arith) (omega (arith, long, w))
        (λ i inside. (let z : 0 + i ≡ i = omega arith in get_or_from_slice_get joined_lists i (joined_at func naming i) [] (joined_is i inside) ∙ ap (joined_at func naming) (sym z))) in
        rows_are.each b (omega (arith, bodies_whole, below))
        ∙ ap (λ (ss : List Slot). ss ++ uses_of (entries_all (preds func) joined_lists 0 func.blocks b)) (body_is b below)
        ∙ append_assoc (map give_slot (joined_at func naming b)) (lines_slots func table b 0 (lines_at func b)) (uses_of (entries_all (preds func) joined_lists 0 func.blocks b))
        ∙ ap (λ (os : List Operand). map give_slot (joined_at func naming b) ++ (lines_slots func table b 0 (lines_at func b) ++ uses_of os)) entries

    rows_whole : length rows ≡ length func.blocks
    rows_whole = rows_are.whole ∙ bodies_whole

    slots_are : (i : ℕ) (row : List Slot) → slice_get (slots_in rows) i ≡ Some row → row ≡ block_slots func table naming (0 + i)
    slots_are i row is =
        let z : 0 + i ≡ i = omega arith in
        let within = slice_get_within (slots_in rows) i row is in
        let long = length-map rows (λ row. row.items) in
        let whole = rows_whole in
        slots_at rows i row is ∙ row_is i (omega (arith, within, long, whole)) ∙ ap (block_slots func table naming) (sym z)

    start_zero : start_of func table naming 0 ≡ length func.args
    start_zero =
        let names = map own (range_with_len 0 (length func.args)) in
        let one = length-append names [] in
        let two = length-map (range_with_len 0 (length func.args)) own in
        let three = length-range_with_len 0 (length func.args) in
        omega (arith, one, two, three)

    listed_inside : (b k v : ℕ) → among v (live_list func table b k) ≡ true → v < count func
    listed_inside b k v is = pointers_inside func v (among_filter _ v (pointers func) is).0

    slots_whole : length (slots_in rows) ≡ length func.blocks
    slots_whole = length-map rows (λ row. row.items) ∙ rows_whole

    is_task : IsTask func table graph (count func) (pointers_inside func) (results_inside func) parents (record { starts = starts; own = owned; rows = rows })
    is_task = record {
      whole = ap length parents_are ∙ length-map (range_with_len 0 (length func.blocks)) (λ b. only (preds func b)) ∙ length-range_with_len 0 (length func.blocks);
      parents = λ b below.
          let z : 0 + b ≡ b = omega arith in
          ap (λ (ps : List (Option ℕ)). slice_get ps b) parents_are
          ∙ get_map (λ b. only (preds func b)) (range_with_len 0 (length func.blocks)) b b (range_get 0 (length func.blocks) b below ∙ ap Some z);
      starts = λ b below.
          let z : 0 + b ≡ b = omega arith in
          ap (λ (ns : List ℕ). slice_index ns b) (starts_is ∙ ap (λ (n : ℕ). starts_of n (slots_in rows)) (sym start_zero))
          ∙ starts_are func table naming 0 (slots_in rows) slots_are b (let w = slots_whole in omega (arith, w, below))
          ∙ ap (start_of func table naming) z;
      rows = row_is;
      own = subst (Shows (place_in (names_of func table naming)) (count func) (λ v. own v))
          (sym (owned_is ∙ ap (λ (n : ℕ). range_with_len 0 (length func.args) ++ all_owns n (slots_in rows)) (sym start_zero)))
          (own_shows func table naming (slots_in rows) slots_are slots_whole);
    }

    pub solved : AreNumbered func table naming answers
    solved = record {
      whole = answers_are.whole ∙ rows_whole;
      each = λ b below.
          let begun = reached_begins func table graph (count func) (pointers_inside func) (results_inside func) parents (record { starts = starts; own = owned; rows = rows }) is_task b below (graph.blocks b below) in
          let answer = answers_are.each b begun.0 begun.1 in
          let shows = begins_shows func table graph (count func) (pointers_inside func) (results_inside func) parents (record { starts = starts; own = owned; rows = rows }) is_task b answer.current answer.begins in
          answer.is
          ∙ ap (λ (n : ℕ). answered answer.current n (list_at rows b)) (is_task.starts b below)
          ∙ ap (answered answer.current (start_of func table naming b)) (row_is b below)
          ∙ block_answered func table graph (count func) (pointers_inside func) (results_inside func) listed_inside (uses_inside func formed.known)
          (λ c inside. entries_inside func formed.known naming c) b answer.current below shows;
    }
