-- Registers under the rewriting: each live value stands in the register of its name.
use Rattle.std.proofs.Common.{◌≡◌, ℕ, zero, suc, ◌<◌, Bool, true, false, not, eqb, if◌then◌else◌, List, [], ◌∷◌, ◌++◌, length, map, refl, ap, sym, inl, inr, ◌⊎◌, ◌∙◌, ◌&&◌}
use Rattle.std.specs.Prelude.{Option, Some, None, slice_get}
use Rattle.std.specs.List.{list_any}
use Rattle.std.specs.Option.{option_map, option_map_or}
use Rattle.std.proofs.lemmas.List.{map-append}
use Rattle.std.proofs.lemmas.Bool.{cases_Bool, cases_eq, eqb-true, eqb-false, eq-eqb, true≢false, false≢true, and_parts}
use Rattle.ir_ast.specs.declared.ops.Operand.{Operand}
use Rattle.ir_ast.specs.declared.ops.Operand.TheVariants.{Value, Int, Null, Fun}
use Rattle.ir_ast.specs.Funcs.{Function}
use Rattle.ir_ast.specs.Objects.{Datum}
use Rattle.object_meaning.specs.Lines.{Line}
use Rattle.object_meaning.specs.Registers.{nothing, value, operand, Write, put, put_all}
use Rattle.object_meaning.specs.Frames.{member_write}
use Rattle.rewriting_forms.specs.Numbered.{named, among, lines_at, line_at, is_given, gives, calls, pointers, base_at}
use Rattle.rewriting_forms.specs.Liveness.{is_live_after, live_list}
use Rattle.rewriting_forms.specs.Names.{Name, own, relocated, Names, Naming, names_at}
use Rattle.rewriting_forms.specs.Rewritten.{Piece, renamed, is_null, entries, same_operand, index_of, result_of, relocate_of, group}
use Rattle.rewriting_laws.specs.Related.{piece_line}
use Rattle.rewriting_laws.specs.Laws.{IsPlain, IsClosed, IsNumbering, Fits}
use Rattle.rewriting_laws.proofs.ReadLemmas.{read, read_put_same, read_put_other, written, read_put_all, read_put_all_kept, written_append}
use Rattle.rewriting_laws.proofs.NameLemmas.{among_cons, among_here, among_there, among_filter, line_is, names_given, names_kept, names_unlisted, names_listed, names_owner, number_apart, found}
use Rattle.object_meaning.proofs.LineLaws.{given_is}
use Rattle.object_meaning.proofs.RegisterLaws.{put_length, puts_length}

-- operands under names
module _ (number : Name → ℕ) (names : Names) (live : ℕ → Bool) (registers now : List Datum)
    (kept : (v : ℕ) → live v ≡ true → read now (number (names v)) ≡ read registers v) where
  pub value_kept : (o : Operand) → ((v : ℕ) → o ≡ named v → live v ≡ true) → value now (renamed number names o) ≡ value registers o
  value_kept (Value id) alive = kept id.0 (alive id.0 refl)
  value_kept (Int word) alive = refl
  value_kept Null alive = refl
  value_kept (Fun func) alive = refl

  pub values_kept : (operands : List Operand) → ((place v : ℕ) → slice_get operands place ≡ Some (named v) → live v ≡ true)
      → map (value now) (map (renamed number names) operands) ≡ map (value registers) operands
  values_kept [] alive = refl
  values_kept (o ∷ operands) alive =
      let first = value_kept o (λ v is. alive 0 v (ap Some is)) in
      let rest = values_kept operands (λ place. alive (suc place)) in
      cc (first, rest)

  pub operand_kept : (operands : List Operand) → ((place v : ℕ) → slice_get operands place ≡ Some (named v) → live v ≡ true)
      → (place : ℕ) → operand now (map (renamed number names) operands) place ≡ operand registers operands place
  operand_kept [] alive place = refl
  operand_kept (o ∷ operands) alive zero = value_kept o (λ v is. alive 0 v (ap Some is))
  operand_kept (o ∷ operands) alive (suc place) = operand_kept operands (λ at. alive (suc at)) place

module _ (text : Name → List ℕ) (func : Function) (table : List Operand) (naming : Naming) (live : ℕ → ℕ → ℕ → Bool) (fits : Fits func table naming live)
    (number : Name → ℕ) (room now_room : ℕ) (numbers : IsNumbering func table naming.joins number now_room) (plain : IsPlain func room)
    (closed : IsClosed func live) where
  abbrev pub at : ℕ → ℕ → ℕ → ℕ
  at b k v = number (names_at func table naming b k v)

  pub record Kept (b k : ℕ) (registers now : List Datum) : Type 0 where
    pub each : (v : ℕ) → live b k v ≡ true → read now (at b k v) ≡ read registers v
    pub room_before : length registers ≡ room
    pub room_now : length now ≡ now_room

  apart : (b k v x : ℕ) → (x ≡ v → ⊥) → eqb (number (own x)) (at b k v) ≡ false
  apart b k v x other = number_apart func table naming live fits number now_room numbers (own x) x (at b k v) v refl
      (names_owner func table naming live fits number now_room numbers b k v) other

  given_apart : (b k v : ℕ) (to : Option ℕ) → is_given to v ≡ false → is_given (option_map number (option_map own to)) (at b k v) ≡ false
  given_apart b k v None other = refl
  given_apart b k v (Some x) other = apart b k v x (eqb-false x v other)

  pub put_kept : (b k : ℕ) (line : Line) (registers now : List Datum) (word : Datum) → slice_get (lines_at func b) k ≡ Some line
      → calls line ≡ false → Kept b k registers now
      → Kept b (suc k) (put line.to word registers) (put (option_map number (option_map own line.to)) word now)
  put_kept b k line registers now word stands other kept = record {
    each = λ v alive. elim (cases_Bool (gives line v)) [
      | inl given ↦ given_value v given
      | inr none ↦
          ap (λ (x : Name). read (put (option_map number (option_map own line.to)) word now) (number x)) (names_kept func table naming b k line v stands none other)
          ∙ read_put_other (option_map number (option_map own line.to)) word now (at b k v) (given_apart b k v line.to none)
          ∙ kept.each v (closed.later b k v line stands none alive)
          ∙ sym (read_put_other line.to word registers v none)
    ];
    room_before = put_length line.to word registers ∙ kept.room_before;
    room_now = put_length (option_map number (option_map own line.to)) word now ∙ kept.room_now;
  }
    where
      given_value : (v : ℕ) → gives line v ≡ true
          → read (put (option_map number (option_map own line.to)) word now) (at b (suc k) v) ≡ read (put line.to word registers) v
      given_value v given =
          let is = given_is line.to v given in
          let below : v < length registers = rw kept.room_before (plain.room_line b k v line stands is) in
          let now_below : number (own v) < length now = rw kept.room_now (numbers.room_line b k v line stands is) in
          ap (λ (x : Name). read (put (option_map number (option_map own line.to)) word now) (number x)) (names_given func table naming b k line v stands given)
          ∙ ap (λ (to : Option ℕ). read (put (option_map number (option_map own to)) word now) (number (own v))) is
          ∙ read_put_same (number (own v)) word now now_below
          ∙ sym (read_put_same v word registers below) ∙ sym (ap (λ (to : Option ℕ). read (put to word registers) v) is)

  -- groups
  entry_get : (list : List ℕ) (v : ℕ) → among v list ≡ true → (k : ℕ) × (slice_get (map (λ (x : ℕ). named x) list) k ≡ Some (named v))
  entry_get [] v is = absurd (false≢true is)
  entry_get (x ∷ list) v is = elim (cases_eq x v) [
    | inl e ↦ (0, ap (λ (y : ℕ). Some (named y)) e)
    | inr ne ↦ let rest = entry_get list v (among_cons v x list is ne) in (suc rest.0, rest.1)
  ]

  same_named : (o : Operand) (v : ℕ) → same_operand o (named v) ≡ true → o ≡ named v
  same_named (Value id) v is = ap named (eqb-true id.0 v is)
  same_named (Int word) v is = absurd (false≢true is)
  same_named Null v is = absurd (false≢true is)
  same_named (Fun g) v is = absurd (false≢true is)

  after_first : (t : Bool) (os : List Operand) (k : ℕ) (o : Operand) → slice_get os k ≡ Some o
      → (j : ℕ) × (slice_get ((if t then Null ∷ [] else []) ++ os) j ≡ Some o)
  after_first true os k o is = (suc k, is)
  after_first false os k o is = (k, is)

  -- the entry of a listed pointer
  entry_at : (b k v : ℕ) → among v (live_list func table b k) ≡ true
      → slice_get (entries func table b k) (index_of func table b k (named v)) ≡ Some (named v)
  entry_at b k v is =
      let first = entry_get (live_list func table b k) v is in
      let stands = after_first (list_any (λ (x : ℕ). is_null (base_at table x)) (live_list func table b k))
      (map (λ (x : ℕ). named x) (live_list func table b k)) first.0 (named v) first.1 in
      let place = found (λ (entry : Operand). same_operand entry (named v)) (entries func table b k) stands.0 (named v) stands.1 (eq-eqb v v refl) in
      let e : index_of func table b k (named v) ≡ place.0 = ap (λ (p : Option ℕ). option_map_or (λ (x : ℕ). x) p 0) place.2 in
      ap (λ (j : ℕ). slice_get (entries func table b k) j) e ∙ place.3
      ∙ ap Some (same_named place.1 v place.4)

  operand_get : (registers : List Datum) (operands : List Operand) (place : ℕ) (o : Operand) → slice_get operands place ≡ Some o → operand registers operands place ≡ value registers o
  operand_get registers operands place o is = ap (λ (x : Option Operand). option_map_or (value registers) x nothing) is

  renamed_get : (names : Names) (operands : List Operand) (place : ℕ) (o : Operand) → slice_get operands place ≡ Some o
      → slice_get (map (renamed number names) operands) place ≡ Some (renamed number names o)
  renamed_get names [] place o is = absurd (cc)
  renamed_get names (x ∷ operands) zero o is = ap (λ (y : Operand). Some (renamed number names y)) (cc)
  renamed_get names (x ∷ operands) (suc place) o is = renamed_get names operands place o is

  -- behind a group whose statepoint has these entries
  module _ (b k : ℕ) (line : Line) (stands : slice_get (lines_at func b) k ≡ Some line) (is_called : calls line ≡ true)
      (registers now : List Datum) (kept : Kept b k registers now) (answer : Datum) (call : List Operand)
      (call_entries : call ≡ map (renamed number (names_at func table naming b k)) (entries func table b k)) where
    abbrev writes : List Piece → List Write
    writes pieces = map (member_write now call answer) (map (piece_line text number) pieces)

    listed_line : calls (line_at func b k) ≡ true
    listed_line = ap (λ (l : Line). calls l) (line_is func b k line stands) ∙ is_called

    -- a relocate gives what its pointer is
    relocate_value : (v : ℕ) → among v (live_list func table b k) ≡ true
        → (member_write now call answer (piece_line text number (relocate_of func table naming number b k v))).value ≡ read now (at b k v)
    relocate_value v is =
        let place = index_of func table b k (named v) in
        let entry = renamed_get (names_at func table naming b k) (entries func table b k) place (named v) (entry_at b k v is) in
        ap (λ (os : List Operand). operand now os place) call_entries
        ∙ operand_get now (map (renamed number (names_at func table naming b k)) (entries func table b k)) place (named (at b k v)) entry

    relocates_hit : (v : ℕ) (xs : List ℕ) (word wanted : Datum) → wanted ≡ read now (at b k v)
        → ((x : ℕ) → among x xs ≡ true → among x (live_list func table b k) ≡ true)
        → (among v xs ≡ true) ⊎ (word ≡ wanted)
        → written (writes (map (relocate_of func table naming number b k) xs)) (number (relocated b k v)) word ≡ wanted
    relocates_hit v [] word wanted right sub (inl is) = absurd (false≢true is)
    relocates_hit v [] word wanted right sub (inr e) = e
    relocates_hit v (x ∷ xs) word wanted right sub before = elim (cases_eq x v) [
      | inl e ↦
          let in_list = sub x (among_here x xs) in
          let here : (member_write now call answer (piece_line text number (relocate_of func table naming number b k x))).value ≡ wanted =
          relocate_value x in_list ∙ ap (λ (y : ℕ). read now (at b k y)) e ∙ sym right in
          ap (λ (t : Bool). written (writes (map (relocate_of func table naming number b k) xs)) (number (relocated b k v))
          (if t then (member_write now call answer (piece_line text number (relocate_of func table naming number b k x))).value else word))
          (eq-eqb (number (relocated b k x)) (number (relocated b k v)) (ap (λ (y : ℕ). number (relocated b k y)) e))
          ∙ (relocates_hit v xs (member_write now call answer (piece_line text number (relocate_of func table naming number b k x))).value wanted right (λ y is. sub y (among_there y x xs is)) (inr here))
      | inr ne ↦
          let apart : eqb (number (relocated b k x)) (number (relocated b k v)) ≡ false =
          number_apart func table naming live fits number now_room numbers (relocated b k x) x (number (relocated b k v)) v refl (numbers.owns (relocated b k v)) ne in
          ap (λ (t : Bool). written (writes (map (relocate_of func table naming number b k) xs)) (number (relocated b k v))
          (if t then (member_write now call answer (piece_line text number (relocate_of func table naming number b k x))).value else word)) apart
          ∙ relocates_hit v xs word wanted right (λ y is. sub y (among_there y x xs is)) (later before ne)
    ]
      where
        later : (among v (x ∷ xs) ≡ true) ⊎ (word ≡ wanted) → (x ≡ v → ⊥) → (among v xs ≡ true) ⊎ (word ≡ wanted)
        later (inl is) ne = inl (among_cons v x xs is ne)
        later (inr e) ne = inr e

    relocates_miss : (m v : ℕ) (xs : List ℕ) (word : Datum) → numbers.owner m ≡ Some v → ((x : ℕ) → among x xs ≡ true → x ≡ v → ⊥)
        → written (writes (map (relocate_of func table naming number b k) xs)) m word ≡ word
    relocates_miss m v [] word owned others = refl
    relocates_miss m v (x ∷ xs) word owned others =
        let apart : eqb (number (relocated b k x)) m ≡ false =
        number_apart func table naming live fits number now_room numbers (relocated b k x) x m v refl owned (others x (among_here x xs)) in
        ap (λ (t : Bool). written (writes (map (relocate_of func table naming number b k) xs)) m
        (if t then (member_write now call answer (piece_line text number (relocate_of func table naming number b k x))).value else word)) apart
        ∙ relocates_miss m v xs word owned (λ y is. others y (among_there y x xs is))

    result_miss : (m v : ℕ) (to : Option ℕ) (word : Datum) → numbers.owner m ≡ Some v → is_given to v ≡ false
        → written (writes (result_of func table naming number b k line to)) m word ≡ word
    result_miss m v None word owned other = refl
    result_miss m v (Some x) word owned other =
        let apart : eqb (number (own x)) m ≡ false =
        number_apart func table naming live fits number now_room numbers (own x) x m v refl owned (eqb-false x v other) in
        rw apart refl

    result_hit : (v : ℕ) (to : Option ℕ) (word : Datum) → to ≡ Some v
        → written (writes (result_of func table naming number b k line to)) (number (own v)) word ≡ answer
    result_hit v to word is =
        ap (λ (x : Option ℕ). written (writes (result_of func table naming number b k line x)) (number (own v)) word) is
        ∙ rw (eq-eqb (number (own v)) (number (own v)) refl) refl

    abbrev group_writes : List Write
    group_writes = writes (group func table naming number b k line)

    group_split : (m : ℕ) (word : Datum) → written group_writes m word
        ≡ written (writes (map (relocate_of func table naming number b k) (live_list func table b k))) m (written (writes (result_of func table naming number b k line line.to)) m word)
    group_split m word =
        ap (λ (ws : List Write). written ws m word)
        (ap (map (member_write now call answer)) (map-append (piece_line text number) (result_of func table naming number b k line line.to) (map (relocate_of func table naming number b k) (live_list func table b k)))
        ∙ map-append (member_write now call answer) (map (piece_line text number) (result_of func table naming number b k line line.to))
        (map (piece_line text number) (map (relocate_of func table naming number b k) (live_list func table b k))))
        ∙ written_append (writes (result_of func table naming number b k line line.to)) (writes (map (relocate_of func table naming number b k) (live_list func table b k))) m word

    -- what is listed isn't given
    listed_other : (x : ℕ) → among x (live_list func table b k) ≡ true → gives line x ≡ false
    listed_other x is =
        let parts = among_filter (λ (v : ℕ). is_live_after func table b k v && not (gives (line_at func b k) v)) x (pointers func) is in
        let both = and_parts (is_live_after func table b k x) (not (gives (line_at func b k) x)) parts.1 in
        ap (λ (l : Line). gives l x) (sym (line_is func b k line stands)) ∙ not_true (gives (line_at func b k) x) both.1
      where
        not_true : (t : Bool) → not t ≡ true → t ≡ false
        not_true true e = absurd (false≢true e)
        not_true false e = refl

    group_given : (v : ℕ) → gives line v ≡ true → read (put_all group_writes now) (number (own v)) ≡ read (put line.to answer registers) v
    group_given v given =
        let is = given_is line.to v given in
        let below : v < length registers = rw kept.room_before (plain.room_line b k v line stands is) in
        let now_below : number (own v) < length now = rw kept.room_now (numbers.room_line b k v line stands is) in
        read_put_all group_writes now (number (own v)) now_below
        ∙ group_split (number (own v)) (read now (number (own v)))
        ∙ relocates_miss (number (own v)) v (live_list func table b k) (written (writes (result_of func table naming number b k line line.to)) (number (own v)) (read now (number (own v))))
        (numbers.owns (own v)) (λ x x_is same. true≢false (sym (ap (gives line) same ∙ given) ∙ listed_other x x_is))
        ∙ result_hit v line.to (read now (number (own v))) is
        ∙ sym (ap (λ (to : Option ℕ). read (put to answer registers) v) is ∙ read_put_same v answer registers below)

    group_listed : (v : ℕ) → gives line v ≡ false → among v (live_list func table b k) ≡ true → live b k v ≡ true
        → read (put_all group_writes now) (number (relocated b k v)) ≡ read (put line.to answer registers) v
    group_listed v none is alive =
        let now_below : number (relocated b k v) < length now = rw kept.room_now (numbers.room_list b k v listed_line is) in
        read_put_all group_writes now (number (relocated b k v)) now_below
        ∙ group_split (number (relocated b k v)) (read now (number (relocated b k v)))
        ∙ relocates_hit v (live_list func table b k) (written (writes (result_of func table naming number b k line line.to)) (number (relocated b k v)) (read now (number (relocated b k v))))
        (read now (at b k v)) refl (λ x x_is. x_is) (inl is)
        ∙ kept.each v alive ∙ sym (read_put_other line.to answer registers v none)

    group_other : (v : ℕ) → gives line v ≡ false → among v (live_list func table b k) ≡ false → live b k v ≡ true
        → read (put_all group_writes now) (at b k v) ≡ read (put line.to answer registers) v
    group_other v none other alive =
        let owned = names_owner func table naming live fits number now_room numbers b k v in
        read_put_all_kept group_writes now (at b k v)
        (group_split (at b k v) (read now (at b k v))
        ∙ relocates_miss (at b k v) v (live_list func table b k) (written (writes (result_of func table naming number b k line line.to)) (at b k v) (read now (at b k v))) owned
        (λ x x_is same. true≢false (sym x_is ∙ ap (λ (y : ℕ). among y (live_list func table b k)) same ∙ other))
        ∙ result_miss (at b k v) v line.to (read now (at b k v)) owned none)
        ∙ kept.each v alive ∙ sym (read_put_other line.to answer registers v none)

    pub group_kept : Kept b (suc k) (put line.to answer registers) (put_all group_writes now)
    group_kept = record {
      each = λ v alive. elim (cases_Bool (gives line v)) [
        | inl given ↦ ap (λ (x : Name). read (put_all group_writes now) (number x)) (names_given func table naming b k line v stands given) ∙ group_given v given
        | inr none ↦ elim (cases_Bool (among v (live_list func table b k))) [
          | inl is ↦
              ap (λ (x : Name). read (put_all group_writes now) (number x)) (names_listed func table naming b k line v stands none is_called is)
              ∙ group_listed v none is (closed.later b k v line stands none alive)
          | inr other ↦
              ap (λ (x : Name). read (put_all group_writes now) (number x)) (names_unlisted func table naming b k line v stands none other)
              ∙ group_other v none other (closed.later b k v line stands none alive)
        ]
      ];
      room_before = put_length line.to answer registers ∙ kept.room_before;
      room_now = puts_length group_writes now ∙ kept.room_now;
    }
