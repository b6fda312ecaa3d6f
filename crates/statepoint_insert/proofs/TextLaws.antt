-- The lines of a group are those of the rewritten function's definition.
use Rattle.std.proofs.Common.{◌≡◌, ℕ, zero, suc, ◌+◌, ◌≤◌, Bool, true, false, not, ◌&&◌, if◌then◌else◌, List, [], ◌∷◌, ◌++◌, length, map, filter, refl, ap, sym, arith, Some, None, Option, slice_get, inl, inr, ◌∙◌, codes}
use Rattle.std.specs.Prelude.{decimal}
use Rattle.std.specs.List.{range_with_len}
use Rattle.std.specs.Option.{option_map, option_map_or}
use Rattle.std.proofs.lemmas.Bool.{cases_Bool, eq-eqb, ne_eqb}
use Rattle.std.proofs.lemmas.List.{map-append}
use Rattle.ir_ast.specs.declared.types.Ty.{Ty}
use Rattle.ir_ast.specs.declared.ops.Operand.{Operand}
use Rattle.ir_ast.specs.declared.ops.Operand.TheVariants.{Null}
use Rattle.ir_ast.specs.declared.ops.Op.TheVariants.{Statepoint}
use Rattle.ir_ast.specs.Insts.{Instruction}
use Rattle.ir_ast.specs.Funcs.{Function}
use Rattle.ir_ast.specs.Types.{is_pointer}
use Rattle.ir_ast.specs.Values.{value_types}
use Rattle.object_meaning.specs.Lines.{Line}
use Rattle.rewriting_forms.specs.Numbered.{named, line_at, gives, pointers}
use Rattle.rewriting_forms.specs.Liveness.{is_live_after, live_list}
use Rattle.rewriting_forms.specs.Names.{Name, Names, relocated, token, Naming, names_at}
use Rattle.rewriting_forms.specs.Rewritten.{place_in, renamed, Piece, same_operand, entries, index_of, statepoint, result_of, relocate_of, group, is_relocated, old_name, spelled, piece_inst}
use Rattle.statepoint_insert.specs.declared.texts.Call.{Call}
use Rattle.statepoint_insert.specs.declared.texts.Counts.{Counts}
use Rattle.statepoint_insert.specs.Groups.{has_null_base, relocate_in, group_of}
use Rattle.statepoint_insert.specs.Texts.{live_entries, statepoint_line, result_lines, relocate_line, relocate_lines, first_rank}
use Rattle.statepoint_insert.specs.Lines.{group_lines}
use Rattle.statepoint_insert.specs.Renumbered.{IsRenumbered, AreCounted}
use Rattle.statepoint_insert.specs.Ranks.{placed}
use Rattle.statepoint_insert.proofs.RankLaws.{index_placed, null_first}

-- ---- lists in which each number is above those before

abbrev Rising : ℕ → List ℕ → Type 0
Rising low [] = Unit {0}
Rising low (x ∷ xs) = (low ≤ x) × Rising (suc x) xs

pub lower : (low less : ℕ) (xs : List ℕ) → less ≤ low → Rising low xs → Rising less xs
lower low less [] le rising = tt
lower low less (x ∷ xs) le rising = (let h = rising.0 in omega (arith, h, le), rising.1)

pub rising_range : (from count : ℕ) → Rising from (range_with_len from count)
rising_range from zero = tt
rising_range from (suc count) = (omega arith, lower (from + 1) (suc from) (range_with_len (from + 1) count) (omega arith) (rising_range (from + 1) count))

pub rising_filter : (test : ℕ → Bool) (low : ℕ) (xs : List ℕ) → Rising low xs → Rising low (filter test xs)
rising_filter test low [] rising = tt
rising_filter test low (x ∷ xs) rising = elim (cases_Bool (test x)) [
  | inl passes ↦ rw passes (rising.0, rising_filter test (suc x) xs rising.1)
  | inr fails ↦ rw fails (rising_filter test low xs (lower (suc x) low xs (let h = rising.0 in omega (arith, h)) rising.1))
]

pub rising_list : (func : Function) (table : List Operand) (b k : ℕ) → Rising 0 (live_list func table b k)
rising_list func table b k =
    rising_filter (λ (v : ℕ). is_live_after func table b k v && not (gives (line_at func b k) v)) 0 (pointers func)
    (rising_filter (λ (v : ℕ). option_map_or is_pointer (slice_get (value_types func) v) false) 0 (range_with_len 0 (length (value_types func)))
    (rising_range 0 (length (value_types func))))

pub rising_above : (low i v : ℕ) (xs : List ℕ) → Rising low xs → slice_get xs i ≡ Some v → low ≤ v
rising_above low i v [] rising stands = absurd (cc)
rising_above low zero v (x ∷ xs) rising stands = let e : x ≡ v = cc in let h = rising.0 in omega (arith, e, h)
rising_above low (suc i) v (x ∷ xs) rising stands = let rest = rising_above (suc x) i v xs rising.1 stands in let h = rising.0 in omega (arith, rest, h)

-- the rank of a listed value
pub rank_is : (low rank i v : ℕ) (xs : List ℕ) → Rising low xs → slice_get xs i ≡ Some v
    → placed (λ entry. same_operand entry (named v)) rank (map (λ w. named w) xs) ≡ rank + i
rank_is low rank i v [] rising stands = absurd (cc)
rank_is low rank zero v (x ∷ xs) rising stands =
    let e : x ≡ v = cc in
    rw (eq-eqb x v e) (omega arith)
rank_is low rank (suc i) v (x ∷ xs) rising stands =
    let above = rising_above (suc x) i v xs rising.1 stands in
    let rest = rank_is (suc x) (suc rank) i v xs rising.1 stands in
    rw (ne_eqb x v (λ e. omega (arith, e, above))) (omega (arith, rest))

-- ---- operands

pub all_values : (number : Name → ℕ) (names : Names) (list : List ℕ)
    → map (renamed number names) (map (λ v. named v) list) ≡ map (λ v. named v) (map (λ v. number (names v)) list)
all_values number names [] = refl
all_values number names (v ∷ list) = ap (λ (os : List Operand). named (number (names v)) ∷ os) (all_values number names list)

pub all_entries : (number : Name → ℕ) (names : Names) (has_null : Bool) (list : List ℕ)
    → map (renamed number names) ((if has_null then Null ∷ [] else []) ++ map (λ v. named v) list) ≡ live_entries has_null (map (λ v. number (names v)) list)
all_entries number names true list = ap (λ (os : List Operand). Null ∷ os) (all_values number names list)
all_entries number names false list = all_values number names list

-- ---- the group of a call, whose operands have their numbers

module _ (func : Function) (table : List Operand) (naming : Naming) (names : List Name) (number : Name → ℕ) where
  abbrev text : Piece → Instruction
  text piece = piece_inst (spelled func names) piece

  relocates_are : (b k count first i : ℕ) (part : List ℕ)
      → ((j v : ℕ) → slice_get part j ≡ Some v → place_in (filter is_relocated names) (relocated b k v) ≡ (count + i) + j)
      → ((j v : ℕ) → slice_get part j ≡ Some v → index_of func table b k (named v) ≡ (first + i) + j)
      → map text (map (relocate_of func table naming number b k) part)
      ≡ relocate_lines (number (token b k)) (count + i) (first + i) (map (relocate_in table (live_list func table b k)) part)
  relocates_are b k count first i [] named_as ranked = refl
  relocates_are b k count first i (v ∷ part) named_as ranked =
      let here = named_as 0 v refl in
      let rank = ranked 0 v refl in
      let c : place_in (filter is_relocated names) (relocated b k v) ≡ count + i = omega (arith, here) in
      let r : index_of func table b k (named v) ≡ first + i = omega (arith, rank) in
      let one : text (relocate_of func table naming number b k v) ≡ relocate_line (number (token b k)) (count + i) (first + i) (relocate_in table (live_list func table b k) v) =
      ap (λ (n : ℕ). relocate_line (number (token b k)) n (index_of func table b k (named v)) (relocate_in table (live_list func table b k) v)) c
      ∙ ap (λ (n : ℕ). relocate_line (number (token b k)) (count + i) n (relocate_in table (live_list func table b k) v)) r in
      let sc : count + suc i ≡ suc (count + i) = omega arith in
      let sr : first + suc i ≡ suc (first + i) = omega arith in
      let rest = relocates_are b k count first (suc i) part
      (λ j w stands. (let h = named_as (suc j) w stands in omega (arith, h))) (λ j w stands. (let h = ranked (suc j) w stands in omega (arith, h))) in
      let moved = rw (sc, sr) at rest in
      ap (λ (l : Instruction). l ∷ map text (map (relocate_of func table naming number b k) part)) one
      ∙ ap (λ (ls : List Instruction). relocate_line (number (token b k)) (count + i) (first + i) (relocate_in table (live_list func table b k) v) ∷ ls) moved

  result_is : (b k : ℕ) (line : Line) (to : Option ℕ) → map text (result_of func table naming number b k line to) ≡ result_lines (number (token b k)) line.inst.ty (option_map (old_name func) to)
  result_is b k line None = refl
  result_is b k line (Some x) = refl

  rank_of : (b k i v : ℕ) → slice_get (live_list func table b k) i ≡ Some v
      → index_of func table b k (named v) ≡ first_rank (has_null_base table (live_list func table b k)) + i
  rank_of b k i v stands =
      let list = live_list func table b k in
      index_placed (λ (entry : Operand). same_operand entry (named v)) (entries func table b k)
      ∙ null_first (λ (entry : Operand). same_operand entry (named v)) (has_null_base table list) list refl
      ∙ rank_is 0 (first_rank (has_null_base table list)) i v list (rising_list func table b k) stands

  statepoint_is : (b k : ℕ) (line : Line) (counts : Counts) (live : List ℕ) (call : Call) → IsRenumbered func table naming number b k line call
      → live ≡ map (λ v. number (names_at func table naming b k v)) (live_list func table b k) → AreCounted func table names b k counts
      → text (statepoint func table naming number b k call.callee call.types line.inst)
      ≡ statepoint_line counts.tokens (has_null_base table (live_list func table b k)) live call.callee call.types call.ty call.operands.items call.bundle.items
  statepoint_is b k line counts live call is live_is counted =
      let here = names_at func table naming b k in
      let list = live_list func table b k in
      let has_null = has_null_base table list in
      let old = line.inst.operands in
      let bundle : List (Ty × Operand) = map (λ (entry : Ty × Operand). (let moved : Ty × Operand = (entry.0, renamed number here entry.1) in moved)) line.inst.bundle in
      let listed = all_entries number here has_null list ∙ ap (live_entries has_null) (sym live_is) in
      let operands : map (renamed number here) (old ++ entries func table b k) ≡ call.operands.items ++ live_entries has_null live =
      map-append (renamed number here) old (entries func table b k)
      ∙ ap (λ (os : List Operand). os ++ map (renamed number here) (entries func table b k)) (sym is.operands)
      ∙ ap (λ (os : List Operand). call.operands.items ++ os) listed in
      ap (λ (n : ℕ). made n (map (renamed number here) (old ++ entries func table b k)) line.inst.ty bundle) counted.tokens
      ∙ ap (λ (os : List Operand). made counts.tokens os line.inst.ty bundle) operands
      ∙ ap (λ (ty : Ty). made counts.tokens (call.operands.items ++ live_entries has_null live) ty bundle) (sym is.ty)
      ∙ ap (λ (es : List (Ty × Operand)). made counts.tokens (call.operands.items ++ live_entries has_null live) call.ty es) (sym is.bundle)
    where
      made : ℕ → List Operand → Ty → List (Ty × Operand) → Instruction
      made count operands ty entries' = record {
        result = Some (codes "sp.t" ++ decimal count);
        op = Statepoint 2882400000 call.callee call.types;
        ty = ty;
        operands = operands;
        labels = [];
        bundle = entries';
      }

  -- what is written for a call is its group
  pub group_text : (b k : ℕ) (line : Line) (counts : Counts) (live : List ℕ) (call : Call) → IsRenumbered func table naming number b k line call
      → live ≡ map (λ v. number (names_at func table naming b k v)) (live_list func table b k) → AreCounted func table names b k counts
      → map text (statepoint func table naming number b k call.callee call.types line.inst ∷ group func table naming number b k line)
      ≡ group_lines counts (number (token b k)) (group_of table (live_list func table b k)) live call
  group_text b k line counts live call is live_is counted =
      let list = live_list func table b k in
      let first = first_rank (has_null_base table list) in
      let number_is = number (token b k) in
      let zero_count : counts.relocates + 0 ≡ counts.relocates = omega arith in
      let zero_first : first + 0 ≡ first = omega arith in
      let relocates = rw (zero_count, zero_first) at (relocates_are b k counts.relocates first 0 list
      (λ j v stands. (let h = counted.relocates j v stands in omega (arith, h))) (λ j v stands. (let h = rank_of b k j v stands in omega (arith, h)))) in
      let result = result_is b k line line.to ∙ ap (λ (ty : Ty). result_lines number_is ty (option_map (old_name func) line.to)) (sym is.ty)
      ∙ ap (λ (name : Option (List ℕ)). result_lines number_is call.ty name) (sym is.named) in
      let both : map text (group func table naming number b k line)
      ≡ result_lines number_is call.ty call.named ++ relocate_lines number_is counts.relocates first (map (relocate_in table list) list) =
      map-append text (result_of func table naming number b k line line.to) (map (relocate_of func table naming number b k) list)
      ∙ ap (λ (ls : List Instruction). ls ++ map text (map (relocate_of func table naming number b k) list)) result
      ∙ ap (λ (ls : List Instruction). result_lines number_is call.ty call.named ++ ls) relocates in
      ap (λ (l : Instruction). l ∷ map text (group func table naming number b k line)) (statepoint_is b k line counts live call is live_is counted)
      ∙ ap (λ (ls : List Instruction). statepoint_line counts.tokens (has_null_base table list) live call.callee call.types call.ty call.operands.items call.bundle.items ∷ ls) both
