-- A line that is no phi and no call keeps the pairs of live pointers.
use Rattle.std.proofs.Common.{◌≡◌, ◌≢◌, ℕ, suc, Bool, true, false, not, eqb, ◌&&◌, List, map, refl, sym, ap, subst, ◌∙◌, inl, inr}
use Rattle.std.specs.Prelude.{Option, Some, None, slice_get}
use Rattle.std.specs.Option.{option_map}
use Rattle.std.proofs.lemmas.Bool.{and_from, cases_Bool, eq-eqb, ne_eqb, true≢false, or_left, or_right}
use Rattle.ir_ast.specs.declared.ops.Op.{Op}
use Rattle.ir_ast.specs.declared.ops.Op.TheVariants.{Call, Gep, Load, Select}
use Rattle.ir_ast.specs.declared.ops.Operand.{Operand}
use Rattle.ir_ast.specs.declared.ops.Operand.TheVariants.{Value, Int, Null, Fun}
use Rattle.ir_ast.specs.Insts.{Instruction}
use Rattle.ir_ast.specs.Funcs.{Function}
use Rattle.ir_ast.specs.Operands.{value_in}
use Rattle.ir_ast.specs.Types.{is_pointer}
use Rattle.ir_ast.specs.Faults.PhiEdges.{is_phi}
use Rattle.object_meaning.specs.Lines.{Line}
use Rattle.rewriting_forms.specs.Numbered.{among, base_at, gives, is_call, is_given, lines_at, named, pointers}
use Rattle.rewriting_forms.specs.Liveness.{live_table}
use Rattle.rewriting_forms.specs.Names.{Name, Naming, names_at, own}
use Rattle.rewriting_forms.specs.Rewritten.{plain, renamed}
use Rattle.rewriting_laws.specs.Laws.{Fits, IsNumbering}
use Rattle.rewriting_laws.proofs.LiveLaws.{table_closed}
use Rattle.rewriting_laws.proofs.NameLemmas.{names_given, names_kept}
use Rattle.rewritten_sound.proofs.definite.NowLaws.{number}
use Rattle.pair_facts.specs.declared.bases.Base.{Base}
use Rattle.pair_facts.specs.declared.bases.Base.TheVariants.{Any, Named}
use Rattle.pair_facts.specs.Lines.{is_select, line_before, operand_at, same_operand}
use Rattle.pair_facts.specs.Pairs.{Pairs, after, are_own, follows, given_pairs, is_base_named, is_named, selected, without}
use Rattle.pair_facts.proofs.PlaceLaws.{after_given, after_same}
use Rattle.rewritten_sound.specs.Takes.{Derives, HasPairs, IsOwn, IsPointer, Merges, base_of}
use Rattle.rewritten_sound.proofs.pairs.EdgeFacts.{operand_there}
use Rattle.rewritten_sound.proofs.pairs.HoldFacts.{Holds, IsAlive, alive_at, apart_operand, base_owns, operand_fresh, operand_map, operand_pair, same_again}
use Rattle.rewritten_sound.proofs.pairs.NowPlaces.{lines, plain_now, plain_next, start_of, written}
use Rattle.object_meaning.proofs.LineLaws.{given_is}

without_keeps : (r : ℕ) (pairs : Pairs) (o : Operand) (base : Base) → is_named r o ≡ false → is_base_named r base ≡ false → without r pairs o base ≡ pairs o base
without_keeps r pairs o base first second = rw (first, second) refl

selects_true : (pairs : Pairs) (line : Line) (operands : List Operand) (r m : ℕ) → gives line m ≡ true → follows pairs operands line ≡ true
    → selected pairs (Some line) operands r (Named (named m)) ≡ true
selects_true pairs line operands r m first second =
    or_right (eqb r m && are_own pairs operands) (gives line m && follows pairs operands line) (and_from (gives line m) (follows pairs operands line) first second)

pub named_same : {x y : ℕ} → named x ≡ named y → x ≡ y
named_same {x} {y} e = let both : Some x ≡ Some y = ap value_in e in cc

-- a select of the same condition, whose operands are the bases of these
follows_true : (pairs : Pairs) (line : Line) (operands : List Operand) → is_select line.inst.op ≡ true → is_pointer line.inst.ty ≡ true
    → same_operand (operand_at line.inst.operands 0) (operand_at operands 0) ≡ true
    → pairs (operand_at operands 1) (Named (operand_at line.inst.operands 1)) ≡ true → pairs (operand_at operands 2) (Named (operand_at line.inst.operands 2)) ≡ true
    → follows pairs operands line ≡ true
follows_true pairs line operands one type two three four = rw (one, type, two, three, four) refl

module _ (func : Function) (table : List Operand) (naming : Naming) (fits : Fits func table naming (live_table func table)) (now_room : ℕ)
    (numbers : IsNumbering func table naming.joins (number func table naming) now_room) (has : HasPairs func table (live_table func table)) where
  abbrev to : Name → ℕ
  to = number func table naming

  abbrev at : ℕ → ℕ → Operand → Operand
  at b k o = renamed (number func table naming) (names_at func table naming b k) o

  abbrev live : ℕ → ℕ → ℕ → Bool
  live = live_table func table

  -- ---- names about a plain line

  kept_value : (b k : ℕ) (line : Line) (w : ℕ) → slice_get (lines_at func b) k ≡ Some line → is_call line.inst.op ≡ false → gives line w ≡ false
      → at b (suc k) (named w) ≡ at b k (named w)
  kept_value b k line w stands other none = ap (λ (name : Name). named (number func table naming name)) (names_kept func table naming b k line w stands none other)

  -- an operand that the line doesn't give keeps its name
  pub kept_operand : (b k : ℕ) (line : Line) (o : Operand) → slice_get (lines_at func b) k ≡ Some line → is_call line.inst.op ≡ false
      → ((w : ℕ) → o ≡ named w → gives line w ≡ false) → at b (suc k) o ≡ at b k o
  kept_operand b k line (Value value) stands other none = kept_value b k line value.0 stands other (none value.0 refl)
  kept_operand b k line (Int word) stands other none = refl
  kept_operand b k line Null stands other none = refl
  kept_operand b k line (Fun called) stands other none = refl

  gives_not : (line : Line) (v w : ℕ) (o : Operand) → line.to ≡ Some v → (o ≡ named v → ⊥) → o ≡ named w → gives line w ≡ false
  gives_not line v w o given other is =
      ap (λ (to : Option ℕ). is_given to w) given ∙ ne_eqb v w (λ same. other (is ∙ ap named (sym same)))

  given_name : (b k : ℕ) (line : Line) (v : ℕ) → slice_get (lines_at func b) k ≡ Some line → gives line v ≡ true
      → at b (suc k) (named v) ≡ named (number func table naming (own v))
  given_name b k line v stands given = ap (λ (name : Name). named (number func table naming name)) (names_given func table naming b k line v stands given)

  -- ---- the line gives v

  module _ (b k v : ℕ) (line : Line) (pairs : Pairs) (stands : slice_get (lines_at func b) k ≡ Some line) (given : line.to ≡ Some v)
      (other : is_call line.inst.op ≡ false) (no_phi : is_phi line.inst.op ≡ false) (pointer : among v (pointers func) ≡ true)
      (holds : Holds func table (live b k) to (names_at func table naming b k) pairs) where
    abbrev mine : ℕ
    mine = number func table naming (own v)

    abbrev operands : List Operand
    operands = map (renamed (number func table naming) (names_at func table naming b k)) line.inst.operands

    gives_mine : gives line v ≡ true
    gives_mine = ap (λ (to : Option ℕ). is_given to v) given ∙ eq-eqb v v refl

    not_used : (place : ℕ) → operand_at line.inst.operands place ≡ named v → ⊥
    not_used place is = true≢false (sym gives_mine ∙ has.others b k place v line stands no_phi (operand_there line.inst.operands place v is))

    alive : (place : ℕ) → IsAlive (live b k) (operand_at line.inst.operands place)
    alive place = alive_at (live b k) line.inst.operands place (λ j u is. (table_closed func table).uses b k j u line stands no_phi is)

    another : (o : Operand) → (o ≡ named v → ⊥) → at b (suc k) o ≡ at b k o
    another o apart = kept_operand b k line o stands other (λ w is. gives_not line v w o given apart is)

    own_base : base_at table v ≡ named v → at b (suc k) (base_at table v) ≡ named mine
    own_base base = ap (at b (suc k)) base ∙ given_name b k line v stands gives_mine

    fresh_apart : (place : ℕ) → IsPointer func table (operand_at line.inst.operands place) → without mine pairs (operand_at operands place) Any ≡ true
    fresh_apart place is =
        ap (λ (o : Operand). without mine pairs o Any) (operand_map to (names_at func table naming b k) line.inst.operands place)
        ∙ without_keeps mine pairs (at b k (operand_at line.inst.operands place)) Any
        (apart_operand func table naming fits now_room numbers b k v (operand_at line.inst.operands place) (not_used place)) refl
        ∙ operand_fresh func table (live b k) to (names_at func table naming b k) pairs holds (operand_at line.inst.operands place) is (alive place)

    pair_apart : (place : ℕ) → IsPointer func table (operand_at line.inst.operands place) → (base_of func table (operand_at line.inst.operands place) ≡ named v → ⊥)
        → without mine pairs (operand_at operands place) (Named (at b k (base_of func table (operand_at line.inst.operands place)))) ≡ true
    pair_apart place is apart =
        ap (λ (o : Operand). without mine pairs o (Named (at b k (base_of func table (operand_at line.inst.operands place))))) (operand_map to (names_at func table naming b k) line.inst.operands place)
        ∙ without_keeps mine pairs (at b k (operand_at line.inst.operands place)) (Named (at b k (base_of func table (operand_at line.inst.operands place))))
        (apart_operand func table naming fits now_room numbers b k v (operand_at line.inst.operands place) (not_used place))
        (apart_operand func table naming fits now_room numbers b k v (base_of func table (operand_at line.inst.operands place)) apart)
        ∙ operand_pair func table (live b k) to (names_at func table naming b k) pairs holds (operand_at line.inst.operands place) is (alive place)

    own_apart : (place : ℕ) → IsOwn func table (operand_at line.inst.operands place) → without mine pairs (operand_at operands place) (Named (operand_at operands place)) ≡ true
    own_apart place is =
        ap (λ (x : Operand). without mine pairs (operand_at operands place) (Named x)) (operand_map to (names_at func table naming b k) line.inst.operands place ∙ ap (at b k) (sym is.1))
        ∙ pair_apart place is.0 (λ base. not_used place (sym is.1 ∙ base))

    -- the inst as it stands now, and what it gives
    abbrev inst_now : Instruction
    inst_now = (written func table naming (plain func table naming to b k line)).inst

    operands_now : inst_now.operands ≡ operands
    operands_now = rw no_phi refl

    abbrev Given : Option Line → Instruction → Op → Type 0
    Given before inst op =
        (given_pairs (without mine pairs) before inst op mine Any ≡ true)
        × (given_pairs (without mine pairs) before inst op mine (Named (at b (suc k) (base_at table v))) ≡ true)

    load_given : (before : Option Line) (inst : Instruction) → is_pointer inst.ty ≡ true → base_at table v ≡ named v → Given before inst Load
    load_given before inst type base = (rw type refl, rw (type, own_base base) (eq-eqb mine mine refl))

    gep_given : (inst : Instruction) → inst.operands ≡ operands
        → IsPointer func table (operand_at line.inst.operands 0) → base_at table v ≡ base_of func table (operand_at line.inst.operands 0) → (base_at table v ≡ named v → ⊥)
        → (without mine pairs (operand_at inst.operands 0) Any ≡ true) × (without mine pairs (operand_at inst.operands 0) (Named (at b (suc k) (base_at table v))) ≡ true)
    gep_given inst same is base apart =
        let now_base = another (base_at table v) apart ∙ ap (at b k) base in (
          ap (λ (os : List Operand). without mine pairs (operand_at os 0) Any) same ∙ fresh_apart 0 is,
          ap (λ (os : List Operand). without mine pairs (operand_at os 0) (Named (at b (suc k) (base_at table v)))) same
              ∙ ap (λ (o : Operand). without mine pairs (operand_at operands 0) (Named o)) now_base
              ∙ pair_apart 0 is (λ of_base. apart (base ∙ of_base)),
        )

    own_select : (before : Option Line) → base_at table v ≡ named v → IsOwn func table (operand_at line.inst.operands 1) → IsOwn func table (operand_at line.inst.operands 2)
        → (selected (without mine pairs) before operands mine Any ≡ true) × (selected (without mine pairs) before operands mine (Named (at b (suc k) (base_at table v))) ≡ true)
    own_select before base first second =
        let one = own_apart 1 first in
        let two = own_apart 2 second in (
          and_from (without mine pairs (operand_at operands 1) Any) (without mine pairs (operand_at operands 2) Any) (fresh_apart 1 first.0) (fresh_apart 2 second.0),
          rw (own_base base) (
              or_left (eqb mine mine && are_own (without mine pairs) operands) _
              (and_from (eqb mine mine) (are_own (without mine pairs) operands) (eq-eqb mine mine refl)
              (and_from _ _ one two))),
        )

    -- v isn't a base, since its own is another
    own_twice : (other : ℕ) → other ≢ v → base_at table v ≡ named other → (o : Operand) → IsPointer func table o → base_of func table o ≡ named v → ⊥
    own_twice other apart base o is o_base =
        apart (named_same (sym base ∙ sym (ap (base_of func table) o_base) ∙ (base_owns func table live has o is).1 ∙ o_base))

    merged_select : Merges func table b k v line
        → (selected (without mine pairs) (line_before (lines func table naming b) (start_of func table naming b k)) operands mine Any ≡ true)
        × (selected (without mine pairs) (line_before (lines func table naming b) (start_of func table naming b k)) operands mine (Named (at b (suc k) (base_at table v))) ≡ true)
    merged_select merges = (
      and_from (without mine pairs (operand_at operands 1) Any) (without mine pairs (operand_at operands 2) Any) (fresh_apart 1 merges.first_pointer) (fresh_apart 2 merges.second_pointer),
      merged,
    )
      where
        j : ℕ
        j = merges.before

        plain_before : is_call merges.given.inst.op ≡ false
        plain_before = ap is_call merges.select

        no_phi_before : is_phi merges.given.inst.op ≡ false
        no_phi_before = ap is_phi merges.select

        is_before : line_before (lines func table naming b) (start_of func table naming b k) ≡ Some (written func table naming (plain func table naming to b merges.before merges.given))
        is_before =
            let next = plain_next func table naming b merges.before merges.given merges.stands plain_before in
            subst (λ (x : ℕ). line_before (lines func table naming b) (start_of func table naming b x) ≡ Some (written func table naming (plain func table naming to b merges.before merges.given))) merges.next
            (ap (line_before (lines func table naming b)) next ∙ plain_now func table naming b merges.before merges.given merges.stands plain_before)

        gives_other : gives merges.given merges.other ≡ true
        gives_other = ap (λ (to : Option ℕ). is_given to merges.other) merges.gives_other ∙ eq-eqb merges.other merges.other refl

        same : (o : Operand) → (o ≡ named merges.other → ⊥) → at b k o ≡ at b merges.before o
        same o apart =
            subst (λ (x : ℕ). at b x o ≡ at b merges.before o) merges.next
            (kept_operand b merges.before merges.given o merges.stands plain_before (λ w is. gives_not merges.given merges.other w o merges.gives_other apart is))

        base_now : at b (suc k) (base_at table v) ≡ named (number func table naming (own merges.other))
        base_now =
            another (base_at table v) (λ is. merges.apart (named_same (sym merges.base ∙ is)))
            ∙ ap (at b k) merges.base
            ∙ subst (λ (x : ℕ). at b x (named merges.other) ≡ named (number func table naming (own merges.other))) merges.next
            (given_name b merges.before merges.given merges.other merges.stands gives_other)

        abbreviated : (written func table naming (plain func table naming to b merges.before merges.given)).inst.operands
            ≡ map (renamed (number func table naming) (names_at func table naming b merges.before)) merges.given.inst.operands
        abbreviated = rw no_phi_before refl

        entry_is : (place : ℕ) → operand_at merges.given.inst.operands place ≡ base_of func table (operand_at line.inst.operands place)
            → (base_of func table (operand_at line.inst.operands place) ≡ named merges.other → ⊥) → IsPointer func table (operand_at line.inst.operands place)
            → without mine pairs (operand_at operands place)
            (Named (operand_at (written func table naming (plain func table naming to b merges.before merges.given)).inst.operands place)) ≡ true
        entry_is place is apart is_pointer_there =
            ap (λ (o : Operand). without mine pairs (operand_at operands place) (Named o))
            (ap (λ (os : List Operand). operand_at os place) abbreviated
            ∙ operand_map to (names_at func table naming b merges.before) merges.given.inst.operands place
            ∙ ap (at b merges.before) is ∙ sym (same (base_of func table (operand_at line.inst.operands place)) apart))
            ∙ pair_apart place is_pointer_there (own_twice merges.other merges.apart merges.base (operand_at line.inst.operands place) is_pointer_there)

        condition_is : same_operand (operand_at (written func table naming (plain func table naming to b merges.before merges.given)).inst.operands 0) (operand_at operands 0) ≡ true
        condition_is =
            let e = ap (λ (os : List Operand). operand_at os 0) abbreviated
            ∙ operand_map to (names_at func table naming b merges.before) merges.given.inst.operands 0
            ∙ ap (at b merges.before) merges.condition ∙ sym (same (operand_at line.inst.operands 0) merges.condition_kept)
            ∙ sym (operand_map to (names_at func table naming b k) line.inst.operands 0) in
            ap (λ (o : Operand). same_operand o (operand_at operands 0)) e
            ∙ (ap (λ (o : Operand). same_operand o o) (operand_map to (names_at func table naming b k) line.inst.operands 0) ∙ same_again (operand_at line.inst.operands 0) (operand_at line.inst.operands 0) merges.is_condition to (names_at func table naming b k))

        merged : selected (without mine pairs) (line_before (lines func table naming b) (start_of func table naming b k)) operands mine (Named (at b (suc k) (base_at table v))) ≡ true
        merged =
            rw (base_now, is_before)
            (selects_true (without mine pairs) (written func table naming (plain func table naming to b merges.before merges.given)) operands mine (number func table naming (own merges.other))
            (rw merges.gives_other (eq-eqb (number func table naming (own merges.other)) (number func table naming (own merges.other)) refl))
            (follows_true (without mine pairs) (written func table naming (plain func table naming to b merges.before merges.given)) operands (ap is_select merges.select) merges.type condition_is
            (entry_is 1 merges.first merges.first_kept merges.first_pointer)
            (entry_is 2 merges.second merges.second_kept merges.second_pointer)))

    given_now : (op : Op) → is_call op ≡ false → Derives func table b k v line op → (inst : Instruction) → inst.operands ≡ operands → inst.ty ≡ line.inst.ty
        → Given (line_before (lines func table naming b) (start_of func table naming b k)) inst op
    given_now Load no_call is inst same type = load_given (line_before (lines func table naming b) (start_of func table naming b k)) inst (ap is_pointer type ∙ is.0) is.1
    given_now (Gep elem index_width place) no_call is inst same type =
        gep_given inst same is.0 is.1 is.2
    given_now Select no_call is inst same type = (
      rw (type, is.0, same) both.0,
      rw (type, is.0, same) both.1,
    )
      where
        both : (selected (without mine pairs) (line_before (lines func table naming b) (start_of func table naming b k)) operands mine Any ≡ true)
            × (selected (without mine pairs) (line_before (lines func table naming b) (start_of func table naming b k)) operands mine (Named (at b (suc k) (base_at table v))) ≡ true)
        both = elim is.1 [
          | inl own_is ↦ own_select (line_before (lines func table naming b) (start_of func table naming b k)) own_is.0 own_is.1 own_is.2
          | inr merges ↦ merged_select merges
        ]
    given_now (Call callee types) no_call is inst same type = absurd (true≢false (sym (ap not is.0) ∙ no_call))
    given_now _ no_call is inst same type = absurd is

  -- ---- all live pointers behind the line

  module _ (b k : ℕ) (line : Line) (pairs : Pairs) (stands : slice_get (lines_at func b) k ≡ Some line) (other : is_call line.inst.op ≡ false)
      (no_phi : is_phi line.inst.op ≡ false) (holds : Holds func table (live b k) to (names_at func table naming b k) pairs) where
    abbrev now_line : Line
    now_line = written func table naming (plain func table naming to b k line)

    abbrev before : Option Line
    before = line_before (lines func table naming b) (start_of func table naming b k)

    apart : (o : Operand) → ((w : ℕ) → o ≡ named w → gives line w ≡ false) → (x : ℕ) → now_line.to ≡ Some x → is_named x (at b k o) ≡ false
    apart o none x is = by line.to refl is
      where
        by : (to_line : Option ℕ) → line.to ≡ to_line → option_map to (option_map own to_line) ≡ Some x → is_named x (at b k o) ≡ false
        by None same is = absurd cc
        by (Some v) same is =
            let number_is : number func table naming (own v) ≡ x = cc in
            ap (λ (y : ℕ). is_named y (at b k o)) (sym number_is)
            ∙ apart_operand func table naming fits now_room numbers b k v o (λ o_is.
            true≢false (sym (ap (λ (given : Option ℕ). is_given given v) same ∙ eq-eqb v v refl) ∙ none v o_is))

    named_other : (v : ℕ) → gives line v ≡ false → (w : ℕ) → named v ≡ named w → gives line w ≡ false
    named_other v none w is = ap (gives line) (sym (named_same is)) ∙ none

    kept_fresh : (v : ℕ) → among v (pointers func) ≡ true → live b (suc k) v ≡ true → gives line v ≡ false
        → after pairs before now_line (at b (suc k) (named v)) Any ≡ true
    kept_fresh v pointer alive none =
        ap (λ (o : Operand). after pairs before now_line o Any) (kept_operand b k line (named v) stands other (named_other v none))
        ∙ after_same pairs before now_line (at b k (named v)) Any (apart (named v) (named_other v none)) (λ x is. refl)
        ∙ holds.fresh v pointer ((table_closed func table).later b k v line stands none alive)

    kept_pair : (v : ℕ) → among v (pointers func) ≡ true → live b (suc k) v ≡ true → gives line v ≡ false
        → after pairs before now_line (at b (suc k) (named v)) (Named (at b (suc k) (base_at table v))) ≡ true
    kept_pair v pointer alive none =
        let base_other : (w : ℕ) → base_at table v ≡ named w → gives line w ≡ false = λ w is. has.steady b k v w line stands pointer alive none is in
        ap (λ (o : Operand). after pairs before now_line o (Named (at b (suc k) (base_at table v)))) (kept_operand b k line (named v) stands other (named_other v none))
        ∙ ap (λ (o : Operand). after pairs before now_line (at b k (named v)) (Named o)) (kept_operand b k line (base_at table v) stands other base_other)
        ∙ after_same pairs before now_line (at b k (named v)) (Named (at b k (base_at table v))) (apart (named v) (named_other v none)) (apart (base_at table v) base_other)
        ∙ holds.pair v pointer ((table_closed func table).later b k v line stands none alive)

    new_pairs : (v : ℕ) → among v (pointers func) ≡ true → gives line v ≡ true
        → (after pairs before now_line (at b (suc k) (named v)) Any ≡ true)
        × (after pairs before now_line (at b (suc k) (named v)) (Named (at b (suc k) (base_at table v))) ≡ true)
    new_pairs v pointer given =
        let is = given_is line.to v given in
        let new = given_now b k v line pairs stands is other no_phi pointer holds line.inst.op other (has.derives b k v line stands no_phi given pointer) now_line.inst
        (rw no_phi refl) refl in
        let gives_now : now_line.to ≡ Some (number func table naming (own v)) = ap (λ (t : Option ℕ). option_map to (option_map own t)) is in
        let name = given_name b k line v stands given in (
          ap (λ (o : Operand). after pairs before now_line o Any) name ∙ after_given pairs before now_line Any (number func table naming (own v)) gives_now ∙ new.0,
          ap (λ (o : Operand). after pairs before now_line o (Named (at b (suc k) (base_at table v)))) name
              ∙ after_given pairs before now_line (Named (at b (suc k) (base_at table v))) (number func table naming (own v)) gives_now ∙ new.1,
        )

    pub line_holds : Holds func table (live b (suc k)) to (names_at func table naming b (suc k)) (after pairs before now_line)
    line_holds = record {
      null_fresh = after_same pairs before now_line Null Any (λ x is. refl) (λ x is. refl) ∙ holds.null_fresh;
      null_pair = after_same pairs before now_line Null (Named Null) (λ x is. refl) (λ x is. refl) ∙ holds.null_pair;
      fresh = λ v pointer alive. elim (cases_Bool (gives line v)) [
        | inl given ↦ (new_pairs v pointer given).0
        | inr none ↦ kept_fresh v pointer alive none
      ];
      pair = λ v pointer alive. elim (cases_Bool (gives line v)) [
        | inl given ↦ (new_pairs v pointer given).1
        | inr none ↦ kept_pair v pointer alive none
      ];
    }
