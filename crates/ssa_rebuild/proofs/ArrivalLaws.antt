-- The entries of phis stand in their blocks' rows behind the bodies.
use Rattle.std.proofs.Common.{◌≡◌, ◌∙◌, ℕ, ◌<◌, ◌+◌, List, [], ◌∷◌, ◌++◌, length, map, drop, Some, slice_get, refl, ap, sym, arith}
use Rattle.std.specs.Prelude.{slice_index}
use Rattle.std.specs.Global.{Vec}
use Rattle.std.proofs.lemmas.List.{map-append, length-map}
use Rattle.std.proofs.lemmas.Option.{get_or_from_slice_get}
use Rattle.list_laws.proofs.Places.{get_map}
use Rattle.sp_ids.specs.declared.ids.ValueId.{ValueId}
use Rattle.ir_ast.specs.declared.ops.Operand.{Operand}
use Rattle.ir_ast.specs.Funcs.{Function}
use Rattle.rewriting_forms.specs.Numbered.{lines_at, preds}
use Rattle.rewriting_forms.specs.Liveness.{live_lists}
use Rattle.rewriting_forms.specs.Names.{Name, Naming}
use Rattle.rewriting_forms.specs.Rewritten.{joined_at, names_of, place_in}
use Rattle.statepoint_insert.specs.Groups.{GroupContent, groups_of, numbers_in}
use Rattle.version_walk.specs.declared.slots.Slot.{Slot}
use Rattle.version_walk.specs.declared.slots.Slot.TheVariants.{Number}
use Rattle.version_walk.specs.Forest.{list_at}
use Rattle.ssa_rebuild.specs.Rows.{give_slot, lines_slots, group_list, body_rows, entries_all, entries_from, use_numbers, number_behind, body_numbers, block_numbers}
use Rattle.ssa_rebuild.specs.Arrivals.{AreToCome}
use Rattle.ssa_rebuild.proofs.RowLaws.{rows_from, entries_are}
use Rattle.ssa_rebuild.proofs.TaskLaws.{first_zero}
use Rattle.ssa_rebuild.proofs.SolvedLaws.{lists_back, values_back, join_at}
use Rattle.ir_ast.specs.Operands.{valued}

pub drop_front : {A : Type 0} (n : ℕ) (xs ys : List A) → n ≡ length xs → drop n (xs ++ ys) ≡ ys
drop_front n [] ys is = ap (λ (m : ℕ). drop m ys) is ∙ none ys
  where
    none : {A : Type 0} (ys : List A) → drop 0 ys ≡ ys
    none [] = refl
    none (y ∷ ys) = refl
drop_front n (x ∷ xs) ys is = ap (λ (m : ℕ). drop m (x ∷ (xs ++ ys))) is ∙ drop_front (length xs) xs ys refl

module _ (func : Function) (table : List Operand) (naming : Naming) (joins : List (Vec ValueId))
    (joins_whole : length joins ≡ length func.blocks)
    (joins_are : (b : ℕ) → b < length func.blocks → list_at joins b ≡ map valued (joined_at func naming b))
  where
    abbrev number : Name → ℕ
    number name = place_in (names_of func table naming) name

    abbrev lists : List (List ℕ)
    lists = map (λ join. numbers_in join.items) joins

    pub list_is : (b : ℕ) → b < length func.blocks → slice_get lists b ≡ Some (joined_at func naming b)
    list_is b below =
        join_at joins b (omega (arith, joins_whole, below)) ∙ ap (λ (vs : List ValueId). Some (numbers_in vs)) (joins_are b below)
        ∙ ap Some (values_back (joined_at func naming b))

    module _ (groups : List GroupContent) (rows : List (Vec Slot)) (lengths : List ℕ)
        (groups_are : groups ≡ groups_of func table)
        (rows_whole : length rows ≡ length func.blocks)
        (rows_are : (b : ℕ) → b < length func.blocks → list_at rows b ≡ map Number (block_numbers func table naming (place_in (names_of func table naming)) b))
        (lengths_are : lengths ≡ map (λ row. length row) (body_rows (map group_list groups) (map (λ join. numbers_in join.items) joins) 0 (length func.args) func.blocks))
        (body_long : (b : ℕ) → b < length func.blocks → length (map give_slot (joined_at func naming b) ++ lines_slots func table b 0 (lines_at func b))
        ≡ length (body_numbers func table naming (place_in (names_of func table naming)) b))
      where
        length_is : (b : ℕ) → b < length func.blocks → slice_index lengths b ≡ length (map give_slot (joined_at func naming b) ++ lines_slots func table b 0 (lines_at func b))
        length_is b below =
            let z : 0 + b ≡ b = omega arith in
            let lists_are : map group_list groups ≡ live_lists func table = ap (map group_list) groups_are ∙ lists_back table (live_lists func table) in
            let first = first_zero (length func.args) func.blocks in
            let long : List Slot → ℕ = λ row. length row in
            let body = map give_slot (joined_at func naming b) ++ lines_slots func table b 0 (lines_at func b) in
            let row : slice_get (body_rows (map group_list groups) lists 0 (length func.args) func.blocks) b ≡ Some body =
            ap (λ (ls : List (List ℕ)). slice_get (body_rows ls lists 0 (length func.args) func.blocks) b) lists_are
            ∙ ap (λ (n : ℕ). slice_get (body_rows (live_lists func table) lists 0 n func.blocks) b) (sym first)
            ∙ rows_from func table lists b 0 (joined_at func naming b) (omega (arith, below)) (list_is b below)
            ∙ ap (λ (n : ℕ). Some (map give_slot (joined_at func naming b) ++ lines_slots func table n 0 (lines_at func n))) z in
            ap (λ (ns : List ℕ). slice_index ns b) lengths_are
            ∙ get_or_from_slice_get (map long (body_rows (map group_list groups) lists 0 (length func.args) func.blocks)) b (length body) 0 (get_map long (body_rows (map group_list groups) lists 0 (length func.args) func.blocks) b body row)

        pub to_come : AreToCome (λ p. number_behind func table naming number p) rows lengths (entries_all (preds func) lists 0 func.blocks)
        to_come = record {
          each = λ p within.
              let below : p < length func.blocks = omega (arith, rows_whole, within) in
              let body = body_numbers func table naming number p in
              let ends = use_numbers (number_behind func table naming number p) (entries_from func naming p) in
              let long = length-map joins (λ join. numbers_in join.items) in
              let entries : entries_all (preds func) lists 0 func.blocks p ≡ entries_from func naming p =
              entries_are func naming p lists (length func.blocks) 0 (omega arith) (omega (arith, long, joins_whole))
              (λ i inside. (let z : 0 + i ≡ i = omega arith in get_or_from_slice_get lists i (joined_at func naming i) [] (list_is i inside) ∙ ap (joined_at func naming) (sym z))) in
              let row : list_at rows p ≡ map Number body ++ map Number ends = rows_are p below ∙ map-append Number body ends in
              let size : slice_index lengths p ≡ length (map Number body) = length_is p below ∙ body_long p below ∙ sym (length-map body Number) in
              ap (drop (slice_index lengths p)) row ∙ drop_front (slice_index lengths p) (map Number body) (map Number ends) size
              ∙ ap (λ (os : List Operand). map Number (use_numbers (number_behind func table naming number p) os)) (sym entries);
        }
