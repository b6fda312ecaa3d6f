-- A statepoint group gives each live pointer its pair anew, and its relocates take pairs that stand before it.
use Rattle.std.proofs.Common.{◌≡◌, ℕ, suc, Bool, true, false, not, eqb, ◌&&◌, ◌||◌, if◌then◌else◌, List, [], ◌∷◌, ◌++◌, length, map, drop, refl, sym, ap, subst, ◌∙◌, inl, inr, arith}
use Rattle.std.specs.Prelude.{Option, Some, slice_get}
use Rattle.std.specs.List.{list_any, position}
use Rattle.std.specs.Option.{option_map_or}
use Rattle.std.proofs.lemmas.Bool.{and_from, and_parts, cases_Bool, eq-eqb, false≢true, or_left, or_right, not-true}
use Rattle.std.proofs.lemmas.List.{length-map}
use Rattle.std.proofs.lemmas.Option.{get_or_from_slice_get}
use Rattle.list_laws.proofs.Places.{get_map, map_append}
use Rattle.ir_ast.specs.declared.ops.Callee.{Callee}
use Rattle.ir_ast.specs.declared.ops.Op.{Op}
use Rattle.ir_ast.specs.declared.ops.Op.TheVariants.{Call}
use Rattle.ir_ast.specs.declared.ops.Operand.{Operand}
use Rattle.ir_ast.specs.declared.ops.Operand.TheVariants.{Value, Int, Null, Fun}
use Rattle.ir_ast.specs.declared.types.Ty.{Ty}
use Rattle.ir_ast.specs.Callees.{is_leaf}
use Rattle.ir_ast.specs.Funcs.{Function}
use Rattle.ir_ast.specs.Types.{is_pointer}
use Rattle.ir_ast.specs.Faults.GroupShape.{entries_of}
use Rattle.ir_ast.specs.Faults.PhiEdges.{is_phi}
use Rattle.object_meaning.specs.Lines.{Line}
use Rattle.rewriting_forms.specs.Numbered.{among, base_at, calls, gives, is_call, is_given, line_at, lines_at, named, pointers}
use Rattle.rewriting_forms.specs.Liveness.{is_live_after, live_list, live_table}
use Rattle.rewriting_forms.specs.Names.{Name, Naming, names_at, own, relocated}
use Rattle.rewriting_forms.specs.Rewritten.{entries, group, index_of, relocate_of, renamed, statepoint}
use Rattle.rewriting_forms.specs.Rewritten as forms
use Rattle.rewriting_laws.specs.Laws.{Fits, IsPlain}
use Rattle.rewriting_laws.proofs.LiveLaws.{table_closed}
use Rattle.rewriting_laws.proofs.NameLemmas.{among_filter, found, line_is, names_given, names_listed}
use Rattle.rewritten_sound.proofs.definite.NowLaws.{number}
use Rattle.rewritten_sound.proofs.definite.PieceLaws.{among_at, relocate_at, result_at, result_piece}
use Rattle.rewritten_sound.proofs.definite.ListedLaws as lists
use Rattle.pair_facts.specs.declared.bases.Base.{Base}
use Rattle.pair_facts.specs.declared.bases.Base.TheVariants.{Any, Named}
use Rattle.pair_facts.specs.Lines.{is_null, operand_at}
use Rattle.pair_facts.specs.Pairs.{Pairs, after_group, has_base, member_pairs, own_pairs, relocated_pairs, relocates_base}
use Rattle.rewritten_sound.specs.Takes.{Derives, HasPairs, IsPointer, base_of}
use Rattle.rewritten_sound.proofs.pairs.HoldFacts.{Holds, Stands, based_stands, operand_map}
use Rattle.rewritten_sound.proofs.pairs.NowPlaces.{written}
use Rattle.object_meaning.proofs.LineLaws.{given_is}
use Rattle.std.proofs.lemmas.Map.Keys.{any_passes_from_place}

operand_here : (operands : List Operand) (k : ℕ) (o : Operand) → slice_get operands k ≡ Some o → operand_at operands k ≡ o
operand_here operands k o is = get_or_from_slice_get operands k o (Int 0) is

same_null : (o : Operand) → forms.same_operand o Null ≡ true → o ≡ Null
same_null (Value id) is = absurd (false≢true is)
same_null (Int word) is = absurd (false≢true is)
same_null Null is = refl
same_null (Fun called) is = absurd (false≢true is)

drop_length : {A B : Type 0} (types : List A) (xs ys : List B) → length types ≡ length xs → drop (length types) (xs ++ ys) ≡ ys
drop_length [] [] ys e = refl
drop_length [] (x ∷ xs) ys e = absurd (omega arith)
drop_length (type ∷ types) [] ys e = absurd (omega arith)
drop_length (type ∷ types) (x ∷ xs) ys e = drop_length types xs ys (omega arith)

module _ (func : Function) (table : List Operand) (naming : Naming) (fits : Fits func table naming (live_table func table)) (room : ℕ) (plain_form : IsPlain func room)
    (has : HasPairs func table (live_table func table)) (b k : ℕ) (line : Line) (callee : Callee) (types : List Ty)
    (stands : slice_get (lines_at func b) k ≡ Some line) (op : line.inst.op ≡ Call callee types) (no_leaf : is_leaf callee ≡ false) where
  abbrev to : Name → ℕ
  to = number func table naming

  abbrev at : ℕ → Operand → Operand
  at j o = renamed (number func table naming) (names_at func table naming b j) o

  abbrev list : List ℕ
  list = live_list func table b k

  abbrev head : Line
  head = written func table naming (statepoint func table naming to b k callee types line.inst)

  abbrev members : List Line
  members = map (written func table naming) (group func table naming to b k line)

  is_called : calls line ≡ true
  is_called = ap is_call op ∙ ap not no_leaf

  called_here : calls (line_at func b k) ≡ true
  called_here = ap (λ (l : Line). calls l) (line_is func b k line stands) ∙ is_called

  -- the entries of the statepoint
  pub entries_now : entries_of head.inst ≡ map (renamed to (names_at func table naming b k)) (entries func table b k)
  entries_now =
      let count = plain_form.arguments b k line callee types stands op in
      let long = length-map line.inst.operands (renamed to (names_at func table naming b k)) in
      ap (drop (length types)) (map_append (renamed to (names_at func table naming b k)) line.inst.operands (entries func table b k))
      ∙ drop_length types (map (renamed to (names_at func table naming b k)) line.inst.operands) (map (renamed to (names_at func table naming b k)) (entries func table b k)) (omega (arith, count, long))

  -- ---- what is listed

  pub listed : (v : ℕ) → among v (pointers func) ≡ true → live_table func table b (suc k) v ≡ true → gives line v ≡ false → among v list ≡ true
  listed v pointer alive none = lists.listed func table b k line stands v pointer (truly (among v (pointers func)) (is_live_after func table b k v) pointer alive) none
    where
      truly : (s t : Bool) → s ≡ true → (not s || t) ≡ true → t ≡ true
      truly true t is either = either
      truly false t is either = absurd (false≢true is)

  pub record Listed (v : ℕ) : Type 0 where
    pub pointer : among v (pointers func) ≡ true
    pub alive : live_table func table b (suc k) v ≡ true
    pub other : gives line v ≡ false

  pub from_list : (v : ℕ) → among v list ≡ true → Listed v
  from_list v is =
      let parts = among_filter (λ (x : ℕ). is_live_after func table b k x && not (gives (line_at func b k) x)) v (pointers func) is in
      let both = and_parts (is_live_after func table b k v) (not (gives (line_at func b k) v)) parts.1 in
      record {
        pointer = parts.0;
        alive = or_right (not (among v (pointers func))) (is_live_after func table b k v) both.0;
        other = ap (λ (l : Line). gives l v) (sym (line_is func b k line stands)) ∙ not-true (gives (line_at func b k) v) both.1;
      }

  pub alive_before : (v : ℕ) → among v list ≡ true → live_table func table b k v ≡ true
  alive_before v is = let from = from_list v is in (table_closed func table).later b k v line stands from.other from.alive

  pub base_listed : (v w : ℕ) → among v list ≡ true → base_at table v ≡ named w → among w list ≡ true
  base_listed v w is base =
      let from = from_list v is in
      let own_base = has.base_is v from.pointer in
      let pointer : among w (pointers func) ≡ true = subst (IsPointer func table) base own_base.0 in
      listed w pointer (has.base_live b (suc k) v w from.pointer from.alive base) (has.steady b k v w line stands from.pointer from.alive from.other base)

  base_own : (v w : ℕ) → among v (pointers func) ≡ true → base_at table v ≡ named w → base_at table w ≡ named w
  base_own v w pointer base = subst (λ (o : Operand). base_of func table o ≡ o) base (has.base_is v pointer).1

  -- ---- entries by their indices

  pub index_place : (o : Operand) (place : ℕ) → position (λ (entry : Operand). forms.same_operand entry o) (entries func table b k) ≡ Some place → index_of func table b k o ≡ place
  index_place o place is = ap (λ (p : Option ℕ). option_map_or (λ (x : ℕ). x) p 0) is

  pub entry_at : (v : ℕ) → among v list ≡ true → operand_at (entries_of head.inst) (index_of func table b k (named v)) ≡ at k (named v)
  entry_at v is =
      let entry = lists.entry_of func table b k v is in
      ap (λ (os : List Operand). operand_at os (index_of func table b k (named v))) entries_now
      ∙ operand_map to (names_at func table naming b k) (entries func table b k) (index_of func table b k (named v))
      ∙ ap (at k) (ap (operand_at (entries func table b k)) (index_place (named v) entry.0 entry.1) ∙ operand_here (entries func table b k) entry.0 (named v) entry.2)

  null_base : (o : Operand) → o ≡ Null → forms.is_null o ≡ true
  null_base o is = ap forms.is_null is

  pub null_at : (v : ℕ) → among v list ≡ true → base_at table v ≡ Null → operand_at (entries_of head.inst) (index_of func table b k Null) ≡ Null
  null_at v is base =
      let place = among_at v list is in
      let any : list_any (λ (x : ℕ). forms.is_null (base_at table x)) list ≡ true = any_passes_from_place (λ (x : ℕ). forms.is_null (base_at table x)) list place.0 v place.1 (ap forms.is_null base) in
      let first : slice_get (entries func table b k) 0 ≡ Some Null = ap (λ (t : Bool). slice_get ((if t then Null ∷ [] else []) ++ map (λ (x : ℕ). named x) list) 0) any in
      let found_first = found (λ (entry : Operand). forms.same_operand entry Null) (entries func table b k) 0 Null first refl in
      ap (λ (os : List Operand). operand_at os (index_of func table b k Null)) entries_now
      ∙ operand_map to (names_at func table naming b k) (entries func table b k) (index_of func table b k Null)
      ∙ ap (at k) (ap (operand_at (entries func table b k)) (index_place Null found_first.0 found_first.2)
      ∙ operand_here (entries func table b k) found_first.0 found_first.1 found_first.3 ∙ same_null found_first.1 found_first.4)

  -- ---- what the members give

  abbrev pub relocate_line : ℕ → Line
  relocate_line v = written func table naming (relocate_of func table naming to b k v)

  pub relocate_there : (v : ℕ) → among v list ≡ true → (i : ℕ) × (slice_get members i ≡ Some (relocate_line v))
  relocate_there v is =
      let place = relocate_at func table naming to b k line v is in
      (place.0, get_map (written func table naming) (group func table naming to b k line) place.0 (relocate_of func table naming to b k v) place.1)

  own_relocates : (w : ℕ) → base_at table w ≡ named w → relocates_base (index_of func table b k (named w)) (relocate_line w) ≡ true
  own_relocates w base =
      and_from (eqb (index_of func table b k (base_at table w)) (index_of func table b k (named w))) (eqb (index_of func table b k (named w)) (index_of func table b k (named w)))
      (ap (λ (o : Operand). eqb (index_of func table b k o) (index_of func table b k (named w))) base ∙ eq-eqb (index_of func table b k (named w)) (index_of func table b k (named w)) refl)
      (eq-eqb (index_of func table b k (named w)) (index_of func table b k (named w)) refl)

  pub record Relocated (v : ℕ) : Type 0 where
    pub fresh : relocated_pairs (entries_of head.inst) members (index_of func table b k (base_at table v)) Any ≡ true
    pub pair : relocated_pairs (entries_of head.inst) members (index_of func table b k (base_at table v)) (Named (at (suc k) (base_at table v))) ≡ true
    pub closed : (is_null (operand_at (entries_of head.inst) (index_of func table b k (base_at table v))) || has_base members (index_of func table b k (base_at table v))) ≡ true
    pub entry : operand_at (entries_of head.inst) (index_of func table b k (base_at table v)) ≡ at k (base_at table v)

  abbrev RelocatedBy : ℕ → Operand → Type 0
  RelocatedBy v base =
      (relocated_pairs (entries_of head.inst) members (index_of func table b k base) Any ≡ true)
      × (relocated_pairs (entries_of head.inst) members (index_of func table b k base) (Named (at (suc k) base)) ≡ true)
      × ((is_null (operand_at (entries_of head.inst) (index_of func table b k base)) || has_base members (index_of func table b k base)) ≡ true)
      × (operand_at (entries_of head.inst) (index_of func table b k base) ≡ at k base)

  relocated_by : (v : ℕ) → among v list ≡ true → (base : Operand) → base_at table v ≡ base → RelocatedBy v base
  relocated_by v is (Value value) base =
      let w = value.0 in
      let in_list = base_listed v value.0 is base in
      let from = from_list v is in
      let from_w = from_list value.0 in_list in
      let alone = base_own v value.0 from.pointer base in
      let place = relocate_there value.0 in_list in
      let name = names_listed func table naming b k line value.0 stands from_w.other is_called in_list in
      let keeps = own_relocates value.0 alone in
      let keeps_here : has_base members (index_of func table b k (named value.0)) ≡ true =
      any_passes_from_place (relocates_base (index_of func table b k (named value.0))) members place.0 (relocate_line value.0) place.1 keeps in (
        or_left (has_base members (index_of func table b k (named value.0))) (is_null (operand_at (entries_of head.inst) (index_of func table b k (named value.0)))) keeps_here,
        any_passes_from_place (λ (l : Line). is_given l.to (to (names_at func table naming b (suc k) value.0)) && relocates_base (index_of func table b k (named value.0)) l) members place.0 (relocate_line value.0) place.1
            (and_from (eqb (to (relocated b k value.0)) (to (names_at func table naming b (suc k) value.0))) (relocates_base (index_of func table b k (named value.0)) (relocate_line value.0))
            (eq-eqb (to (relocated b k value.0)) (to (names_at func table naming b (suc k) value.0)) (ap to (sym name))) keeps),
        or_right (is_null (operand_at (entries_of head.inst) (index_of func table b k (named value.0)))) (has_base members (index_of func table b k (named value.0))) keeps_here,
        entry_at value.0 in_list,
      )
  relocated_by v is Null base =
      let entry = null_at v is base in
      let null : is_null (operand_at (entries_of head.inst) (index_of func table b k Null)) ≡ true = ap is_null entry in (
        or_right (has_base members (index_of func table b k Null)) (is_null (operand_at (entries_of head.inst) (index_of func table b k Null))) null,
        null,
        or_left (is_null (operand_at (entries_of head.inst) (index_of func table b k Null))) (has_base members (index_of func table b k Null)) null,
        entry,
      )
  relocated_by v is (Int word) base = absurd (subst (IsPointer func table) base (has.base_is v (from_list v is).pointer).0)
  relocated_by v is (Fun called) base = absurd (subst (IsPointer func table) base (has.base_is v (from_list v is).pointer).0)

  pub relocated_has : (v : ℕ) → among v list ≡ true → Relocated v
  relocated_has v is =
      let all = relocated_by v is (base_at table v) refl in
      record { fresh = all.0; pair = all.1; closed = all.2; entry = all.3 }

  relocate_pairs : (v : ℕ) (base : Base) → among v list ≡ true → relocated_pairs (entries_of head.inst) members (index_of func table b k (base_at table v)) base ≡ true
      → after_group (entries_of head.inst) members (named (to (relocated b k v))) base ≡ true
  relocate_pairs v base is pair =
      let place = relocate_there v is in
      any_passes_from_place (λ (l : Line). is_given l.to (to (relocated b k v)) && member_pairs (entries_of head.inst) members (to (relocated b k v)) l l.inst.op base) members place.0 (relocate_line v) place.1
      (and_from (eqb (to (relocated b k v)) (to (relocated b k v))) (relocated_pairs (entries_of head.inst) members (index_of func table b k (base_at table v)) base)
      (eq-eqb (to (relocated b k v)) (to (relocated b k v)) refl) pair)

  result_pairs : (v : ℕ) (base : Base) → line.to ≡ Some v → is_pointer line.inst.ty ≡ true → own_pairs (to (own v)) base ≡ true
      → after_group (entries_of head.inst) members (named (to (own v))) base ≡ true
  result_pairs v base given type alone =
      let place = get_map (written func table naming) (group func table naming to b k line) 0 (result_piece func table naming to b k line v) (result_at func table naming to b k line v given) in
      any_passes_from_place (λ (l : Line). is_given l.to (to (own v)) && member_pairs (entries_of head.inst) members (to (own v)) l l.inst.op base) members 0
      (written func table naming (result_piece func table naming to b k line v)) place
      (and_from (eqb (to (own v)) (to (own v))) (is_pointer line.inst.ty && own_pairs (to (own v)) base) (eq-eqb (to (own v)) (to (own v)) refl)
      (and_from (is_pointer line.inst.ty) (own_pairs (to (own v)) base) type alone))

  derived_by_call : (no_phi_op : Op) → no_phi_op ≡ Call callee types → (v : ℕ) → Derives func table b k v line no_phi_op → (is_pointer line.inst.ty ≡ true) × (base_at table v ≡ named v)
  derived_by_call here is v derives = let all = subst (λ (o : Op). Derives func table b k v line o) is derives in (all.1, all.2)

  no_phi : is_phi line.inst.op ≡ false
  no_phi = ap is_phi op

  behind_call : (v : ℕ) → among v (pointers func) ≡ true → live_table func table b (suc k) v ≡ true
      → (after_group (entries_of head.inst) members (at (suc k) (named v)) Any ≡ true)
      × (after_group (entries_of head.inst) members (at (suc k) (named v)) (Named (at (suc k) (base_at table v))) ≡ true)
  behind_call v pointer alive = elim (cases_Bool (gives line v)) [
    | inl given ↦
        let is = given_is line.to v given in
        let derives = derived_by_call line.inst.op op v (has.derives b k v line stands no_phi given pointer) in
        let name : at (suc k) (named v) ≡ named (to (own v)) = ap (λ (x : Name). named (to x)) (names_given func table naming b k line v stands given) in
        let base : at (suc k) (base_at table v) ≡ named (to (own v)) = ap (at (suc k)) derives.1 ∙ name in (
          ap (λ (o : Operand). after_group (entries_of head.inst) members o Any) name ∙ result_pairs v Any is derives.0 refl,
          ap (λ (o : Operand). after_group (entries_of head.inst) members o (Named (at (suc k) (base_at table v)))) name
              ∙ ap (λ (o : Operand). after_group (entries_of head.inst) members (named (to (own v))) (Named o)) base
              ∙ result_pairs v (Named (named (to (own v)))) is derives.0 (eq-eqb (to (own v)) (to (own v)) refl),
        )
    | inr none ↦
        let in_list = listed v pointer alive none in
        let name : at (suc k) (named v) ≡ named (to (relocated b k v)) = ap (λ (x : Name). named (to x)) (names_listed func table naming b k line v stands none is_called in_list) in
        let all = relocated_has v in_list in (
          ap (λ (o : Operand). after_group (entries_of head.inst) members o Any) name ∙ relocate_pairs v Any in_list all.fresh,
          ap (λ (o : Operand). after_group (entries_of head.inst) members o (Named (at (suc k) (base_at table v)))) name
              ∙ relocate_pairs v (Named (at (suc k) (base_at table v))) in_list all.pair,
        )
  ]

  pub group_holds : Holds func table (live_table func table b (suc k)) to (names_at func table naming b (suc k)) (after_group (entries_of head.inst) members)
  group_holds = record {
    null_fresh = refl;
    null_pair = refl;
    fresh = λ v pointer alive. (behind_call v pointer alive).0;
    pair = λ v pointer alive. (behind_call v pointer alive).1;
  }

  -- the entries that a relocate takes
  pub entries_stand : (v : ℕ) → among v list ≡ true → (pairs : Pairs) → Holds func table (live_table func table b k) to (names_at func table naming b k) pairs
      → Stands pairs (operand_at (entries_of head.inst) (index_of func table b k (named v))) (operand_at (entries_of head.inst) (index_of func table b k (base_at table v)))
  entries_stand v is pairs holds =
      let from = from_list v is in
      subst (λ (o : Operand). Stands pairs o (operand_at (entries_of head.inst) (index_of func table b k (base_at table v)))) (sym (entry_at v is))
      (subst (λ (o : Operand). Stands pairs (at k (named v)) o) (sym (relocated_has v is).entry)
      (based_stands func table (live_table func table) has b k to (names_at func table naming b k) pairs holds (named v) (base_at table v) from.pointer refl (alive_before v is)))
