-- No line of the rewritten function has a fault: the pairs that it uses stand, groups keep their bases and the values of bundles, accesses are checked.
use Rattle.std.proofs.Common.{◌≡◌, ℕ, zero, suc, ◌≤◌, Bool, true, false, not, eqb, nat_lt, ◌&&◌, if◌then◌else◌, List, [], ◌∷◌, length, map, refl, sym, ap, subst, ◌∙◌, inl, inr, arith}
use Rattle.std.specs.Prelude.{Option, Some, None, slice_get}
use Rattle.std.specs.List.{Contains, list_any, position, position_or_len}
use Rattle.std.specs.Option.{option_map_or}
use Rattle.std.proofs.lemmas.Bool.{cases_Bool, cases_eq, cases_lt, eq-eqb, ne_eqb, false≢true, true≢false, or_cases}
use Rattle.std.proofs.lemmas.List.{length-map}
use Rattle.std.proofs.lemmas.List.Sums.{prefix_len_passes}
use Rattle.std.proofs.lemmas.Option.{same_Some, slice_get_within}
use Rattle.list_laws.proofs.Contents.{contains_image, contains_none}
use Rattle.ir_ast.specs.declared.ops.Callee.{Callee}
use Rattle.ir_ast.specs.declared.ops.Op.{Op}
use Rattle.ir_ast.specs.declared.ops.Op.TheVariants as ops
use Rattle.ir_ast.specs.declared.ops.Operand.{Operand}
use Rattle.ir_ast.specs.declared.ops.Operand.TheVariants.{Value, Int, Null, Fun}
use Rattle.ir_ast.specs.declared.types.Ty.{Ty}
use Rattle.ir_ast.specs.Callees.{is_leaf}
use Rattle.ir_ast.specs.Cells.{kind_of}
use Rattle.object_meaning.specs.Accesses.{cell_of}
use Rattle.ir_ast.specs.Insts.{Instruction}
use Rattle.ir_ast.specs.Funcs.{Function}
use Rattle.ir_ast.specs.Types.{is_pointer}
use Rattle.ir_ast.specs.Faults.GroupShape.{entries_of, is_statepoint}
use Rattle.ir_ast.specs.Faults.PhiEdges.{is_phi}
use Rattle.object_meaning.specs.Frames.{is_member}
use Rattle.object_meaning.specs.Jumps.{phi_count}
use Rattle.object_meaning.specs.Lines.{Line}
use Rattle.rewriting_forms.specs.Numbered.{among, base_at, is_call, lines_at, named, no_line}
use Rattle.rewriting_forms.specs.Liveness.{live_list, live_table}
use Rattle.rewriting_forms.specs.Names.{Name, Names, Naming, names_at}
use Rattle.rewriting_forms.specs.Rewritten.{Piece, entries, group, index_of, plain, relocate_of, renamed, statepoint}
use Rattle.rewriting_forms.specs.Rewritten as forms
use Rattle.rewriting_laws.specs.Laws.{Fits, IsNumbering, IsPlain}
use Rattle.rewriting_laws.proofs.LiveLaws.{table_closed}
use Rattle.rewriting_laws.proofs.NameLemmas.{line_is, names_owner}
use Rattle.rewritten_sound.proofs.definite.NowLaws.{number}
use Rattle.rewritten_sound.proofs.definite.ListedLaws as lists
use Rattle.pair_facts.specs.Faults.{IsLostValue, IsOpenGroup, IsPlainCall, IsUnchecked}
use Rattle.pair_facts.specs.Lines.{group_in, head_at, is_null, is_relocate, line_before, operand_at, same_operand}
use Rattle.pair_facts.specs.Pairs.{Pairs, base_index, derived_index, has_base}
use Rattle.pair_facts.specs.Paths.{pairs_at}
use Rattle.pair_facts.specs.Uses.{Relocates, Use, Uses, accessed_at, checked, checks, checks_access, compared, compares, entries_at, escapes, escaping, is_checked, is_kept, relocates}
use Rattle.rewritten_sound.specs.Takes.{HasPairs, IsBased, IsOwn}
use Rattle.rewritten_sound.proofs.pairs.GroupFacts.{entries_now, entries_stand, index_place, relocate_there, relocated_has}
use Rattle.rewritten_sound.proofs.pairs.HoldFacts.{Holds, IsAlive, Stands, alive_from, based_stands, operand_map, same_again}
use Rattle.rewritten_sound.proofs.pairs.LineFacts.{kept_operand}
use Rattle.rewritten_sound.proofs.pairs.NowPlaces.{MemberOf, comes_from, from_call, from_inserted, from_member, from_plain, group_now, head_now, is_relocate as member_relocate, is_result, lines, member_head, member_of, plain_next, plain_now, start_of, written}
use Rattle.rewritten_sound.proofs.pairs.PathFacts.{holds_there}
use Rattle.rewritten_sound.proofs.pairs.UseFacts.{StandsIn, accessed_back, checked_back, checks_forth, checks_from, compared_back, escaped_back, escaped_call, no_checks, no_compares}
use Rattle.std.proofs.lemmas.Map.Keys.{any_passes_from_place}
use Rattle.object_meaning.proofs.LineLaws.{line_is as in_place}

-- ---- phis use no pairs

phi_escapes : (op : Op) (inst : Instruction) (o : Operand) → is_phi op ≡ true → Contains (escaping op inst) o → ⊥
phi_escapes ops.Phi inst o is has = contains_none o has
phi_escapes op inst o is has = false≢true is

phi_checks : (op : Op) (inst : Instruction) (pair : Use) → is_phi op ≡ true → Contains (checked op inst) pair → ⊥
phi_checks ops.Phi inst pair is has = contains_none pair has
phi_checks op inst pair is has = false≢true is

phi_compares : (op : Op) (inst : Instruction) (pair : Use) → is_phi op ≡ true → Contains (compared op inst) pair → ⊥
phi_compares ops.Phi inst pair is has = contains_none pair has
phi_compares op inst pair is has = false≢true is

phi_accesses : (op : Op) (inst : Instruction) (o : Operand) → is_phi op ≡ true → accessed_at op inst ≡ Some o → ⊥
phi_accesses ops.Phi inst o is at = cc
phi_accesses op inst o is at = false≢true is

relocates_member : (op : Op) → is_relocate op ≡ true → is_member op ≡ true
relocates_member ops.GcRelocate is = refl
relocates_member op is = absurd (false≢true is)

-- ---- places of what passes

len_same : {A B : Type 0} (f : A → B) (p : B → Bool) (q : A → Bool) (xs : List A) → ((x : A) → p (f x) ≡ q x) → position_or_len p (map f xs) ≡ position_or_len q xs
len_same f p q [] each = refl
len_same f p q (x ∷ xs) each = rw (each x, len_same f p q xs each) refl

position_same : {A B : Type 0} (f : A → B) (p : B → Bool) (q : A → Bool) (xs : List A) → ((x : A) → p (f x) ≡ q x) → position p (map f xs) ≡ position q xs
position_same f p q xs each =
    ap (λ (n : ℕ). if nat_lt n (length (map f xs)) then Some n else None) (len_same f p q xs each)
    ∙ ap (λ (m : ℕ). if nat_lt (position_or_len q xs) m then Some (position_or_len q xs) else None) (length-map xs f)

module _ (func : Function) (table : List Operand) (naming : Naming) (fits : Fits func table naming (live_table func table)) (now_room room : ℕ)
    (numbers : IsNumbering func table naming.joins (number func table naming) now_room) (plain_form : IsPlain func room) (has : HasPairs func table (live_table func table)) (b : ℕ) where
  abbrev to : Name → ℕ
  to = number func table naming

  abbrev names : ℕ → Names
  names k = names_at func table naming b k

  abbrev now_lines : List Line
  now_lines = lines func table naming b

  abbrev start : ℕ → ℕ
  start k = start_of func table naming b k

  abbrev plain_line : ℕ → Line → Line
  plain_line k line = written func table naming (plain func table naming (number func table naming) b k line)

  abbrev head_line : ℕ → Line → Callee → List Ty → Line
  head_line k line callee types = written func table naming (statepoint func table naming (number func table naming) b k callee types line.inst)

  member_inst : (k i : ℕ) (line : Line) (piece : Piece) → MemberOf func table naming b k i line piece → (P : Op → Type 0) → P piece.inst.op → (P ops.GcResult → ⊥) → (P ops.GcRelocate → ⊥) → ⊥
  member_inst k i line piece (is_result v given same) P holds no_result no_relocate = no_result (subst (λ (p : Piece). P p.inst.op) same holds)
  member_inst k i line piece (member_relocate v listed same) P holds no_result no_relocate = no_relocate (subst (λ (p : Piece). P p.inst.op) same holds)

  -- the relocate at a place, by its call and its pointer
  record RelocateAt (head : ℕ) (now : Line) : Type 0 where
    k : ℕ
    line : Line
    callee : Callee
    types : List Ty
    stands : slice_get (lines_at func b) k ≡ Some line
    op : line.inst.op ≡ ops.Call callee types
    no_leaf : is_leaf callee ≡ false
    v : ℕ
    is_listed : among v (live_list func table b k) ≡ true
    head_is : head ≡ start k
    line_is_relocate : now ≡ written func table naming (relocate_of func table naming (number func table naming) b k v)

  relocate_found : (j head : ℕ) (now : Line) → Relocates now_lines j head now → RelocateAt head now
  relocate_found j head now rel = elim (comes_from func table naming b j now rel.stands) [
    | from_inserted v joins is ↦ absurd (false≢true (sym (ap (λ (l : Line). is_relocate l.inst.op) is) ∙ rel.relocate))
    | from_plain k line at other place is ↦
        absurd (true≢false (sym (relocates_member line.inst.op (sym (ap (λ (l : Line). is_relocate l.inst.op) is) ∙ rel.relocate)) ∙ plain_form.no_member b k line at))
    | from_call k line callee types at op no_leaf place is ↦ absurd (false≢true (sym (ap (λ (l : Line). is_relocate l.inst.op) is) ∙ rel.relocate))
    | from_member k i line callee types piece at op no_leaf place in_group is ↦
        let within = slice_get_within (group func table naming to b k line) i piece in_group in
        let head_there = member_head func table naming room plain_form b k line callee types at op no_leaf (suc i) (omega (arith, within)) in
        let same : head ≡ start k = same_Some head (start k) (sym rel.in_group ∙ ap (head_at now_lines) place ∙ head_there) in
        by k i line callee types piece at op no_leaf same is (member_of func table naming b k i line piece in_group)
  ]
    where
      by : (k i : ℕ) (line : Line) (callee : Callee) (types : List Ty) (piece : Piece) → slice_get (lines_at func b) k ≡ Some line → line.inst.op ≡ ops.Call callee types
          → is_leaf callee ≡ false → head ≡ start k → now ≡ written func table naming piece → MemberOf func table naming b k i line piece → RelocateAt head now
      by k i line callee types piece at op no_leaf same is (is_result v given result) =
          absurd (false≢true (sym (ap (λ (l : Line). is_relocate l.inst.op) (is ∙ ap (written func table naming) result)) ∙ rel.relocate))
      by k i line callee types piece at op no_leaf same is (member_relocate v listed relocate) = record {
        k = k;
        line = line;
        callee = callee;
        types = types;
        stands = at;
        op = op;
        no_leaf = no_leaf;
        v = v;
        is_listed = listed;
        head_is = same;
        line_is_relocate = is ∙ ap (written func table naming) relocate;
      }

  entries_there : (k : ℕ) (line : Line) (callee : Callee) (types : List Ty) → slice_get (lines_at func b) k ≡ Some line → line.inst.op ≡ ops.Call callee types → is_leaf callee ≡ false
      → entries_at now_lines (start k) ≡ entries_of (head_line k line callee types).inst
  entries_there k line callee types at op no_leaf =
      ap (λ (l : Line). entries_of l.inst) (in_place now_lines (start k) (head_line k line callee types) (head_now func table naming b k line callee types at op no_leaf))

  -- ---- groups are closed

  pub no_open_group : (j : ℕ) → IsOpenGroup now_lines j → ⊥
  no_open_group j open_group =
      let at = relocate_found j open_group.head open_group.line open_group.relocates in
      let all = relocated_has func table naming fits room plain_form has b at.k at.line at.callee at.types at.stands at.op at.no_leaf at.v at.is_listed in
      let index : base_index open_group.line ≡ index_of func table b at.k (base_at table at.v) = ap base_index at.line_is_relocate in
      let entries_are : entries_at now_lines open_group.head ≡ entries_of (head_line at.k at.line at.callee at.types).inst =
      ap (entries_at now_lines) at.head_is ∙ entries_there at.k at.line at.callee at.types at.stands at.op at.no_leaf in
      let members_are = ap (group_in now_lines) at.head_is ∙ group_now func table naming room plain_form b at.k at.line at.callee at.types at.stands at.op at.no_leaf in
      elim (or_cases _ _ all.closed) [
        | inl null ↦
            true≢false (sym null ∙ sym (ap (λ (n : ℕ). is_null (operand_at (entries_at now_lines open_group.head) n)) index
            ∙ ap (λ (os : List Operand). is_null (operand_at os (index_of func table b at.k (base_at table at.v)))) entries_are) ∙ open_group.named)
        | inr keeps ↦
            true≢false (sym keeps ∙ sym (ap (λ (n : ℕ). has_base (group_in now_lines open_group.head) n) index
            ∙ ap (λ (ls : List Line). has_base ls (index_of func table b at.k (base_at table at.v))) members_are) ∙ open_group.lost)
      ]

  -- ---- calls

  pub no_plain_call : (j : ℕ) → IsPlainCall now_lines j → ⊥
  no_plain_call j call = elim (comes_from func table naming b j call.line call.stands) [
    | from_inserted v joins is ↦ (let e : ops.Phi ≡ ops.Call call.callee call.types = sym (ap (λ (l : Line). l.inst.op) is) ∙ call.op in cc)
    | from_plain k line at other place is ↦
        true≢false (sym (ap is_call (sym (ap (λ (l : Line). l.inst.op) is) ∙ call.op) ∙ ap not call.waits) ∙ other)
    | from_call k line callee types at op no_leaf place is ↦
        (let e : ops.Statepoint 2882400000 callee types ≡ ops.Call call.callee call.types = sym (ap (λ (l : Line). l.inst.op) is) ∙ call.op in cc)
    | from_member k i line callee types piece at op no_leaf place in_group is ↦
        member_inst k i line piece (member_of func table naming b k i line piece in_group) (λ (o : Op). o ≡ ops.Call call.callee call.types)
        (sym (ap (λ (l : Line). l.inst.op) is) ∙ call.op) (λ e. cc) (λ e. cc)
  ]

  -- ---- accesses

  operands_now : (k : ℕ) (line : Line) → is_phi line.inst.op ≡ false → (plain_line k line).inst.operands ≡ map (renamed to (names k)) line.inst.operands
  operands_now k line no_phi = rw no_phi refl

  check_now : (k : ℕ) (o : Operand) (ty : Ty) → is_checked (lines_at func b) k o ty ≡ true → is_checked now_lines (start k) (renamed to (names k) o) ty ≡ true
  check_now zero o ty is = absurd (false≢true is)
  check_now (suc k) o ty is = by (slice_get (lines_at func b) k) refl is
    where
      by : (before : Option Line) → slice_get (lines_at func b) k ≡ before → option_map_or (checks_access o ty) before false ≡ true → is_checked now_lines (start (suc k)) (renamed to (names (suc k)) o) ty ≡ true
      by None at is = absurd (false≢true is)
      by (Some given) at is =
          let check = checks_from o ty given is in
          let other : is_call given.inst.op ≡ false = ap is_call check.check in
          let no_phi : is_phi given.inst.op ≡ false = ap is_phi check.check in
          let next = plain_next func table naming b k given at other in
          let there = plain_now func table naming b k given at other in
          let before_is : line_before now_lines (start (suc k)) ≡ Some (plain_line k given) = ap (line_before now_lines) next ∙ there in
          let silent = has.silent b k given check.types at check.check in
          let name : renamed to (names (suc k)) o ≡ renamed to (names k) o =
          kept_operand func table naming fits now_room numbers has b k given o at other (λ w o_is. ap (λ (t : Option ℕ). option_map_or (λ (x : ℕ). eqb x w) t false) silent) in
          ap (λ (l : Option Line). option_map_or (checks_access (renamed to (names (suc k)) o) ty) l false) before_is
          ∙ checks_forth (renamed to (names (suc k)) o) ty (plain_line k given) check.types check.check
          (ap (λ (os : List Operand). same_operand (operand_at os 1) (renamed to (names (suc k)) o)) (operands_now k given no_phi)
          ∙ ap (λ (x : Operand). same_operand x (renamed to (names (suc k)) o)) (operand_map to (names k) given.inst.operands 1)
          ∙ ap (same_operand (renamed to (names k) (operand_at given.inst.operands 1))) name
          ∙ same_again (operand_at given.inst.operands 1) o check.address_same to (names k))
          (ap (λ (os : List Operand). same_operand (operand_at os 2) (Int (kind_of (cell_of ty)))) (operands_now k given no_phi)
          ∙ ap (λ (x : Operand). same_operand x (Int (kind_of (cell_of ty)))) (operand_map to (names k) given.inst.operands 2)
          ∙ same_again (operand_at given.inst.operands 2) (Int (kind_of (cell_of ty))) check.kind_same to (names k))

  pub no_unchecked : (j : ℕ) → IsUnchecked now_lines j → ⊥
  no_unchecked j access = elim (comes_from func table naming b j access.line access.stands) [
    | from_inserted v joins is ↦ (let e : None ≡ Some access.address = sym (ap (λ (l : Line). accessed_at l.inst.op l.inst) is) ∙ access.accesses in cc)
    | from_plain k line at other place is ↦
        (let accesses : accessed_at line.inst.op (plain_line k line).inst ≡ Some access.address = sym (ap (λ (l : Line). accessed_at l.inst.op l.inst) is) ∙ access.accesses in
        let type : access.line.inst.ty ≡ line.inst.ty = ap (λ (l : Line). l.inst.ty) is in
        elim (cases_Bool (is_phi line.inst.op)) [
          | inl phi ↦ phi_accesses line.inst.op (plain_line k line).inst access.address phi accesses
          | inr no_phi ↦
              let back = accessed_back to (names k) line.inst (plain_line k line).inst.operands (operands_now k line no_phi) line.inst.op (plain_line k line).inst access.address refl accesses in
              let before = (has.takes b k line at).checked_before back.0 back.1 in
              true≢false (sym (check_now k back.0 line.inst.ty before)
              ∙ sym (ap (λ (n : ℕ). is_checked now_lines n access.address access.line.inst.ty) place
              ∙ ap (λ (o : Operand). is_checked now_lines (start k) o access.line.inst.ty) back.2
              ∙ ap (is_checked now_lines (start k) (renamed to (names k) back.0)) type)
              ∙ access.unchecked)
        ])
    | from_call k line callee types at op no_leaf place is ↦ (let e : None ≡ Some access.address = sym (ap (λ (l : Line). accessed_at l.inst.op l.inst) is) ∙ access.accesses in cc)
    | from_member k i line callee types piece at op no_leaf place in_group is ↦
        member_inst k i line piece (member_of func table naming b k i line piece in_group) (λ (o : Op). accessed_at o (written func table naming piece).inst ≡ Some access.address)
        (sym (ap (λ (l : Line). accessed_at l.inst.op l.inst) is) ∙ access.accesses) (λ e. cc) (λ e. cc)
  ]

  -- ---- values of bundles

  same_entry : (k v : ℕ) (o : Operand) → same_operand (renamed to (names k) o) (named (to (names k v))) ≡ forms.same_operand o (named v)
  same_entry k v (Value value) = elim (cases_eq value.0 v) [
    | inl same ↦
        eq-eqb (to (names k value.0)) (to (names k v)) (ap (λ (n : ℕ). to (names k n)) same) ∙ sym (eq-eqb value.0 v same)
    | inr apart ↦
        ne_eqb (to (names k value.0)) (to (names k v)) (λ same.
        apart (same_Some value.0 v (sym (names_owner func table naming (live_table func table) fits to now_room numbers b k value.0) ∙ ap numbers.owner same
        ∙ names_owner func table naming (live_table func table) fits to now_room numbers b k v))) ∙ sym (ne_eqb value.0 v apart)
  ]
  same_entry k v (Int word) = refl
  same_entry k v Null = refl
  same_entry k v (Fun called) = refl

  value_kept : (k : ℕ) (line : Line) (callee : Callee) (types : List Ty) (stands : slice_get (lines_at func b) k ≡ Some line) (op : line.inst.op ≡ ops.Call callee types)
      (no_leaf : is_leaf callee ≡ false) (entry : Ty × Operand) → Contains line.inst.bundle entry → is_pointer entry.0 ≡ true → (o : Operand) → entry.1 ≡ o
      → is_kept (entries_of (head_line k line callee types).inst) (map (written func table naming) (group func table naming to b k line)) (renamed to (names k) o) ≡ true
  value_kept k line callee types stands op no_leaf entry contained pointer (Int word) is = refl
  value_kept k line callee types stands op no_leaf entry contained pointer Null is = refl
  value_kept k line callee types stands op no_leaf entry contained pointer (Fun called) is = refl
  value_kept k line callee types stands op no_leaf entry contained pointer (Value value) is =
      let in_list = lists.held_listed func table b k line stands has.held entry contained pointer value.0 is in
      let entry_there = lists.entry_of func table b k value.0 in_list in
      let relocate = relocate_there func table naming fits room plain_form has b k line callee types stands op no_leaf value.0 in_list in
      let index = index_place func table naming fits room plain_form has b k line callee types stands op no_leaf (named value.0) entry_there.0 entry_there.1 in
      let found : position (λ (e : Operand). same_operand e (named (to (names k value.0)))) (entries_of (head_line k line callee types).inst) ≡ Some entry_there.0 =
      ap (position (λ (e : Operand). same_operand e (named (to (names k value.0))))) (entries_now func table naming fits room plain_form has b k line callee types stands op no_leaf)
      ∙ position_same (renamed to (names k)) (λ (e : Operand). same_operand e (named (to (names k value.0)))) (λ (e : Operand). forms.same_operand e (named value.0)) (entries func table b k) (same_entry k value.0)
      ∙ entry_there.1 in
      ap (λ (p : Option ℕ). option_map_or (λ (place : ℕ). list_any (λ (l : Line). is_relocate l.inst.op && eqb (derived_index l) place) (map (written func table naming) (group func table naming to b k line))) p false) found
      ∙ any_passes_from_place (λ (l : Line). is_relocate l.inst.op && eqb (derived_index l) entry_there.0) (map (written func table naming) (group func table naming to b k line)) relocate.0
      (written func table naming (relocate_of func table naming to b k value.0)) relocate.1 (eq-eqb (index_of func table b k (named value.0)) entry_there.0 index)

  pub no_lost_value : (j : ℕ) → IsLostValue now_lines j → ⊥
  no_lost_value j lost = elim (comes_from func table naming b j lost.line lost.stands) [
    | from_inserted v joins is ↦ false≢true (sym (ap (λ (l : Line). is_statepoint l.inst.op) is) ∙ lost.op)
    | from_plain k line at other place is ↦ true≢false (sym (sym (ap (λ (l : Line). is_statepoint l.inst.op) is) ∙ lost.op) ∙ plain_form.no_statepoint b k line at)
    | from_call k line callee types at op no_leaf place is ↦
        (let from = contains_image (λ (entry : Ty × Operand). (entry.0, renamed to (names k) entry.1)) line.inst.bundle lost.entry (subst (λ (l : Line). Contains l.inst.bundle lost.entry) is lost.contained) in
        let type : is_pointer (from.of).0 ≡ true = ap (λ (entry : Ty × Operand). is_pointer entry.0) from.is ∙ lost.pointer in
        let keeps = value_kept k line callee types at op no_leaf from.of from.inside type (from.of).1 refl in
        true≢false (sym keeps
        ∙ sym (ap (λ (n : ℕ). is_kept (entries_at now_lines n) (group_in now_lines n) lost.entry.1) place
        ∙ ap (λ (os : List Operand). is_kept os (group_in now_lines (start k)) lost.entry.1) (entries_there k line callee types at op no_leaf)
        ∙ ap (λ (ls : List Line). is_kept (entries_of (head_line k line callee types).inst) ls lost.entry.1) (group_now func table naming room plain_form b k line callee types at op no_leaf)
        ∙ ap (λ (entry : Ty × Operand). is_kept (entries_of (head_line k line callee types).inst) (map (written func table naming) (group func table naming to b k line)) entry.1) (sym from.is))
        ∙ lost.lost))
    | from_member k i line callee types piece at op no_leaf place in_group is ↦
        member_inst k i line piece (member_of func table naming b k i line piece in_group) (λ (o : Op). is_statepoint o ≡ true)
        (sym (ap (λ (l : Line). is_statepoint l.inst.op) is) ∙ lost.op) (λ e. false≢true e) (λ e. false≢true e)
  ]

  -- ---- pairs

  module _ (front : Pairs) (holds : Holds func table (live_table func table b (phi_count (lines_at func b))) to (names (phi_count (lines_at func b))) front) where
    abbrev pairs : ℕ → Pairs
    pairs j = pairs_at now_lines front j

    behind_phis : (k : ℕ) (line : Line) → slice_get (lines_at func b) k ≡ Some line → is_phi line.inst.op ≡ false → phi_count (lines_at func b) ≤ k
    behind_phis k line at no_phi = elim (cases_lt k (phi_count (lines_at func b))) [
      | inr le ↦ le
      | inl below ↦
          absurd (true≢false (sym (prefix_len_passes (λ (l : Line). is_phi l.inst.op) (lines_at func b) k no_line below)
          ∙ ap (λ (l : Line). is_phi l.inst.op) (line_is func b k line at) ∙ no_phi))
    ]

    there : (k : ℕ) (line : Line) → slice_get (lines_at func b) k ≡ Some line → is_phi line.inst.op ≡ false
        → Holds func table (live_table func table b k) to (names k) (pairs (start k))
    there k line at no_phi =
        let within = slice_get_within (lines_at func b) k line at in
        holds_there func table naming fits now_room room numbers plain_form has b front holds k (behind_phis k line at no_phi) (omega (arith, within))

    alive : (k : ℕ) (line : Line) → slice_get (lines_at func b) k ≡ Some line → is_phi line.inst.op ≡ false → (o : Operand) → StandsIn line.inst.operands o → IsAlive (live_table func table b k) o
    alive k line at no_phi o stands =
        alive_from (live_table func table b k) o (λ v is. let place = stands v is in (table_closed func table).uses b k place.0 v line at no_phi place.1)

    own_stands : (k : ℕ) (line : Line) → slice_get (lines_at func b) k ≡ Some line → is_phi line.inst.op ≡ false → (o now : Operand) → IsOwn func table o → StandsIn line.inst.operands o
        → now ≡ renamed to (names k) o → Stands (pairs (start k)) now now
    own_stands k line at no_phi o now own_is stands is =
        subst (λ (x : Operand). Stands (pairs (start k)) x x) (sym is)
        (based_stands func table (live_table func table) has b k to (names k) (pairs (start k)) (there k line at no_phi) o o own_is.0 (sym own_is.1) (alive k line at no_phi o stands))

    pair_stands : (k : ℕ) (line : Line) → slice_get (lines_at func b) k ≡ Some line → is_phi line.inst.op ≡ false → (pair now : Use) → IsBased func table pair → StandsIn line.inst.operands pair.address
        → now.address ≡ renamed to (names k) pair.address → now.base ≡ renamed to (names k) pair.base → Stands (pairs (start k)) now.address now.base
    pair_stands k line at no_phi pair now based stands address base =
        subst (λ (x : Operand). Stands (pairs (start k)) x now.base) (sym address)
        (subst (λ (x : Operand). Stands (pairs (start k)) (renamed to (names k) pair.address) x) (sym base)
        (based_stands func table (live_table func table) has b k to (names k) (pairs (start k)) (there k line at no_phi) pair.address pair.base based.0 based.1 (alive k line at no_phi pair.address stands)))

    no_point : (k : ℕ) (line : Line) → slice_get (lines_at func b) k ≡ Some line → (id : ℕ) (callee : Callee) (types : List Ty) → line.inst.op ≡ ops.Statepoint id callee types → ⊥
    no_point k line at id callee types is = true≢false (sym (ap is_statepoint is) ∙ plain_form.no_statepoint b k line at)

    relocate_stands : (j head : ℕ) (now : Line) → Relocates now_lines j head now
        → Stands (pairs head) (operand_at (entries_at now_lines head) (derived_index now)) (operand_at (entries_at now_lines head) (base_index now))
    relocate_stands j head now rel =
        let at = relocate_found j head now rel in
        let no_phi : is_phi at.line.inst.op ≡ false = ap is_phi at.op in
        let stand = entries_stand func table naming fits room plain_form has b at.k at.line at.callee at.types at.stands at.op at.no_leaf at.v at.is_listed (pairs (start at.k))
        (there at.k at.line at.stands no_phi) in
        let same = entries_there at.k at.line at.callee at.types at.stands at.op at.no_leaf in
        subst (λ (n : ℕ). Stands (pairs n) (operand_at (entries_at now_lines n) (derived_index now)) (operand_at (entries_at now_lines n) (base_index now))) (sym at.head_is)
        (subst (λ (os : List Operand). Stands (pairs (start at.k)) (operand_at os (derived_index now)) (operand_at os (base_index now))) (sym same)
        (subst (λ (l : Line). Stands (pairs (start at.k)) (operand_at (entries_of (head_line at.k at.line at.callee at.types).inst) (derived_index l))
        (operand_at (entries_of (head_line at.k at.line at.callee at.types).inst) (base_index l))) (sym at.line_is_relocate) stand))

    escape_stands : (j : ℕ) (now : Line) (o : Operand) → slice_get now_lines j ≡ Some now → Contains (escaping now.inst.op now.inst) o → Stands (pairs j) o o
    escape_stands j now o stands escaped = elim (comes_from func table naming b j now stands) [
      | from_inserted v joins is ↦ absurd (contains_none o (subst (λ (l : Line). Contains (escaping l.inst.op l.inst) o) is escaped))
      | from_plain k line at other place is ↦
          let here = subst (λ (l : Line). Contains (escaping l.inst.op l.inst) o) is escaped in
          elim (cases_Bool (is_phi line.inst.op)) [
            | inl phi ↦ absurd (phi_escapes line.inst.op (plain_line k line).inst o phi here)
            | inr no_phi ↦
                let back = escaped_back to (names k) line.inst (plain_line k line).inst.operands (operands_now k line no_phi) line.inst.op (plain_line k line).inst o refl refl
                (λ callee types op. plain_form.arguments b k line callee types at op) (no_point k line at) here in
                subst (λ (n : ℕ). Stands (pairs n) o o) (sym place)
                (own_stands k line at no_phi back.operand o ((has.takes b k line at).own back.operand back.escapes) back.stands back.is)
          ]
      | from_call k line callee types at op no_leaf place is ↦
          let here = subst (λ (l : Line). Contains (escaping l.inst.op l.inst) o) is escaped in
          let no_phi : is_phi line.inst.op ≡ false = ap is_phi op in
          let count = plain_form.arguments b k line callee types at op in
          let back = escaped_call to (names k) callee types line.inst.operands (entries func table b k) line.inst o refl (omega (arith, count)) here in
          let own_is = (has.takes b k line at).own back.operand (subst (λ (x : Op). Contains (escaping x line.inst) back.operand) (sym op) back.escapes) in
          subst (λ (n : ℕ). Stands (pairs n) o o) (sym place) (own_stands k line at no_phi back.operand o own_is back.stands back.is)
      | from_member k i line callee types piece at op no_leaf place in_group is ↦
          absurd (member_inst k i line piece (member_of func table naming b k i line piece in_group) (λ (x : Op). Contains (escaping x (written func table naming piece).inst) o)
          (subst (λ (l : Line). Contains (escaping l.inst.op l.inst) o) is escaped) (contains_none o) (contains_none o))
    ]

    check_stands : (j : ℕ) (now : Line) (pair : Use) → slice_get now_lines j ≡ Some now → Contains (checked now.inst.op now.inst) pair → Stands (pairs j) pair.address pair.base
    check_stands j now pair stands takes = elim (comes_from func table naming b j now stands) [
      | from_inserted v joins is ↦ absurd (contains_none pair (subst (λ (l : Line). Contains (checked l.inst.op l.inst) pair) is takes))
      | from_plain k line at other place is ↦
          let here = subst (λ (l : Line). Contains (checked l.inst.op l.inst) pair) is takes in
          elim (cases_Bool (is_phi line.inst.op)) [
            | inl phi ↦ absurd (phi_checks line.inst.op (plain_line k line).inst pair phi here)
            | inr no_phi ↦
                let back = checked_back to (names k) line.inst (plain_line k line).inst.operands (operands_now k line no_phi) line.inst.op (plain_line k line).inst pair refl (no_point k line at) here in
                subst (λ (n : ℕ). Stands (pairs n) pair.address pair.base) (sym place)
                (pair_stands k line at no_phi back.pair pair ((has.takes b k line at).checks back.pair back.taken) back.stands back.address back.base)
          ]
      | from_call k line callee types at op no_leaf place is ↦
          absurd (no_checks callee 2882400000 types (head_line k line callee types).inst pair no_leaf (subst (λ (l : Line). Contains (checked l.inst.op l.inst) pair) is takes))
      | from_member k i line callee types piece at op no_leaf place in_group is ↦
          absurd (member_inst k i line piece (member_of func table naming b k i line piece in_group) (λ (x : Op). Contains (checked x (written func table naming piece).inst) pair)
          (subst (λ (l : Line). Contains (checked l.inst.op l.inst) pair) is takes) (contains_none pair) (contains_none pair))
    ]

    compare_stands : (j : ℕ) (now : Line) (pair : Use) → slice_get now_lines j ≡ Some now → Contains (compared now.inst.op now.inst) pair → Stands (pairs j) pair.address pair.base
    compare_stands j now pair stands takes = elim (comes_from func table naming b j now stands) [
      | from_inserted v joins is ↦ absurd (contains_none pair (subst (λ (l : Line). Contains (compared l.inst.op l.inst) pair) is takes))
      | from_plain k line at other place is ↦
          let here = subst (λ (l : Line). Contains (compared l.inst.op l.inst) pair) is takes in
          elim (cases_Bool (is_phi line.inst.op)) [
            | inl phi ↦ absurd (phi_compares line.inst.op (plain_line k line).inst pair phi here)
            | inr no_phi ↦
                let back = compared_back to (names k) line.inst (plain_line k line).inst.operands (operands_now k line no_phi) line.inst.op (plain_line k line).inst pair refl (no_point k line at) here in
                subst (λ (n : ℕ). Stands (pairs n) pair.address pair.base) (sym place)
                (pair_stands k line at no_phi back.pair pair ((has.takes b k line at).compares back.pair back.taken) back.stands back.address back.base)
          ]
      | from_call k line callee types at op no_leaf place is ↦
          absurd (no_compares callee 2882400000 types (head_line k line callee types).inst pair no_leaf (subst (λ (l : Line). Contains (compared l.inst.op l.inst) pair) is takes))
      | from_member k i line callee types piece at op no_leaf place in_group is ↦
          absurd (member_inst k i line piece (member_of func table naming b k i line piece in_group) (λ (x : Op). Contains (compared x (written func table naming piece).inst) pair)
          (subst (λ (l : Line). Contains (compared l.inst.op l.inst) pair) is takes) (contains_none pair) (contains_none pair))
    ]

    -- each pair that a line uses stands where it is judged
    pub used_stands : (j code at : ℕ) (pair : Use) → Uses now_lines j code at pair → Stands (pairs at) pair.address pair.base
    used_stands j _ _ _ (relocates head line rel) = relocate_stands j head line rel
    used_stands j _ _ _ (checks line pair stands takes) = check_stands j line pair stands takes
    used_stands j _ _ _ (compares line pair stands takes) = compare_stands j line pair stands takes
    used_stands j _ _ _ (escapes line operand stands takes) = escape_stands j line operand stands takes
