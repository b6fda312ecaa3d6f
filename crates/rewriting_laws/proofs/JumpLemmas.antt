-- A jump to a rewritten block: its inserted phis and its own take effect together, and each live value keeps its place.
use Rattle.std.proofs.Common.{◌≡◌, ℕ, zero, suc, ◌+◌, ◌<◌, Bool, true, false, not, eqb, if◌then◌else◌, List, [], ◌∷◌, ◌++◌, length, map, get_or, drop, take, refl, ap, sym, arith, inl, inr, ◌⊎◌, ◌∙◌, ◌||◌, append_assoc}
use Rattle.std.specs.Prelude.{Option, Some, None, slice_get}
use Rattle.std.specs.List.{list_any, position, prefix_len}
use Rattle.std.specs.Option.{option_map, option_map_or}
use Rattle.std.proofs.lemmas.List.{map-append, take-append-drop}
use Rattle.std.proofs.lemmas.Option.{slice_get-get_or}
use Rattle.std.proofs.lemmas.List.Quantifiers.{position-Some}
use Rattle.std.proofs.lemmas.Bool.{cases_Bool, cases_eq, eqb-true, eqb-false, eq-eqb, true≢false, false≢true, or_parts}
use Rattle.sp_ids.specs.declared.ids.BlockId.{BlockId}
use Rattle.ir_ast.specs.declared.ops.Operand.{Operand}
use Rattle.ir_ast.specs.declared.ops.Op.{Op}
use Rattle.ir_ast.specs.declared.ops.Op.TheVariants.{Call, Phi}
use Rattle.ir_ast.specs.Callees.{is_leaf}
use Rattle.ir_ast.specs.Funcs.{Function}
use Rattle.ir_ast.specs.Faults.PhiEdges.{is_phi}
use Rattle.ir_ast.specs.Objects.{Datum}
use Rattle.ir_cfg.specs.Graphs.{graph_of, preds_of}
use Rattle.object_meaning.specs.Lines.{Line}
use Rattle.object_meaning.specs.Registers.{nothing, value, operand, Write, put_all}
use Rattle.object_meaning.specs.Jumps.{incoming, phi_write, phi_count}
use Rattle.rewriting_forms.specs.Numbered.{named, among, lines_at, is_given, gives, is_call, pointers, preds}
use Rattle.rewriting_forms.specs.Names.{Name, own, joined, Naming, names_at, names_at_end}
use Rattle.rewriting_forms.specs.Rewritten.{Piece, renamed, joined_at, inserted_phi, phi_operands, renamed_inst, plain as plain_piece, expanded_by, expanded}
use Rattle.rewriting_laws.specs.Laws.{Edge, IsPlain, IsClosed, IsNumbering, Fits}
use Rattle.rewriting_laws.proofs.ReadLemmas.{read, written, read_put_all, read_put_all_kept, written_append}
use Rattle.rewriting_laws.proofs.NameLemmas.{among_cons, among_here, among_there, among_filter, filter_among, at_rest, names_given, names_kept, names_owner, number_apart, found, prefix_append, is_one, is_none, call_or_not}
use Rattle.rewriting_laws.specs.Related.{Rewriting, piece_line, lines_now, rest_now}
use Rattle.rewriting_laws.proofs.KeptLemmas.{value_kept}
use Rattle.object_meaning.proofs.LineLaws.{given_is}
use Rattle.list_laws.proofs.Tests.{prefix_passes, position_passes}
use Rattle.list_laws.proofs.Places.{get_map}

phi_stays : (op : Op) → is_phi op ≡ true → is_call op ≡ false
phi_stays Phi is = refl
phi_stays _ is = cc

module _ (func : Function) (table : List Operand) (naming : Naming) (number : Name → ℕ) where
  pub one_piece : (b k : ℕ) (line : Line) (op : Op) → is_call op ≡ false → expanded_by func table naming number b k line op ≡ plain_piece func table naming number b k line ∷ []
  one_piece b k line (Call callee types) other = rw (leaf (is_leaf callee) other) refl
    where
      leaf : (t : Bool) → not t ≡ false → t ≡ true
      leaf true e = refl
      leaf false e = absurd (true≢false e)
  one_piece b k line _ other = refl

  -- phis as pieces
  abbrev pub phi_pieces : ℕ → ℕ → List Line → List Piece
  phi_pieces b j [] = []
  phi_pieces b j (line ∷ lines) = plain_piece func table naming number b j line ∷ phi_pieces b (suc j) lines

  pub expanded_phis : (b j : ℕ) (xs rest : List Line) → ((k : ℕ) (x : Line) → slice_get xs k ≡ Some x → is_phi x.inst.op ≡ true)
      → expanded func table naming number b j (xs ++ rest) ≡ phi_pieces b j xs ++ expanded func table naming number b (j + length xs) rest
  expanded_phis b j [] rest all =
      let e : j + 0 ≡ j = omega arith in
      rw e refl
  expanded_phis b j (x ∷ xs) rest all =
      let e : j + suc (length xs) ≡ suc j + length xs = omega arith in
      ap (λ (pieces : List Piece). pieces ++ expanded func table naming number b (suc j) (xs ++ rest)) (one_piece b j x x.inst.op (phi_stays x.inst.op (all 0 x refl)))
      ∙ ap (λ (pieces : List Piece). plain_piece func table naming number b j x ∷ pieces)
      (expanded_phis b (suc j) xs rest (λ k. all (suc k)) ∙ ap (λ (n : ℕ). phi_pieces b (suc j) xs ++ expanded func table naming number b n rest) (sym e))

  phi_pieces_length : (b j : ℕ) (xs : List Line) → length (phi_pieces b j xs) ≡ length xs
  phi_pieces_length b j [] = refl
  phi_pieces_length b j (x ∷ xs) = ap suc (phi_pieces_length b (suc j) xs)

  phi_pieces_are : (text : Name → List ℕ) (b j : ℕ) (xs : List Line) → ((k : ℕ) (x : Line) → slice_get xs k ≡ Some x → is_phi x.inst.op ≡ true)
      → (k : ℕ) (l : Line) → slice_get (map (piece_line text number) (phi_pieces b j xs)) k ≡ Some l → is_phi l.inst.op ≡ true
  phi_pieces_are text b j [] all k l is = absurd (cc)
  phi_pieces_are text b j (x ∷ xs) all zero l is =
      let e : piece_line text number (plain_piece func table naming number b j x) ≡ l = cc in
      ap (λ (y : Line). is_phi y.inst.op) (sym e) ∙ all 0 x refl
  phi_pieces_are text b j (x ∷ xs) all (suc k) l is = phi_pieces_are text b (suc j) xs (λ i. all (suc i)) k l is

  inserted_are : (text : Name → List ℕ) (b : ℕ) (vs : List ℕ) (k : ℕ) (l : Line) → slice_get (map (piece_line text number) (map (inserted_phi func table naming number b) vs)) k ≡ Some l
      → is_phi l.inst.op ≡ true
  inserted_are text b [] k l is = absurd (cc)
  inserted_are text b (v ∷ vs) zero l is =
      let e : piece_line text number (inserted_phi func table naming number b v) ≡ l = cc in
      ap (λ (y : Line). is_phi y.inst.op) (sym e)
  inserted_are text b (v ∷ vs) (suc k) l is = inserted_are text b vs k l is

  -- what follows the phis begins with none
  body_apart : (text : Name → List ℕ) (b k : ℕ) (lines : List Line) → ((line : Line) (rest : List Line) → lines ≡ line ∷ rest → is_phi line.inst.op ≡ false)
      → phi_count (map (piece_line text number) (expanded func table naming number b k lines)) ≡ 0
  body_apart text b k [] none = refl
  body_apart text b k (line ∷ rest) none = elim (call_or_not line.inst.op) [
    | is_one callee types e other ↦
        ap (λ (op : Op). phi_count (map (piece_line text number) (expanded_by func table naming number b k line op ++ expanded func table naming number b (suc k) rest))) e
        ∙ rw other refl
    | is_none plain ↦
        ap (λ (pieces : List Piece). phi_count (map (piece_line text number) (pieces ++ expanded func table naming number b (suc k) rest))) (one_piece b k line line.inst.op plain)
        ∙ rw (none line rest refl) refl
  ]

pub prefix_within : {A : Type 0} (p : A → Bool) (xs : List A) → length (take (prefix_len p xs) xs) ≡ prefix_len p xs
prefix_within p [] = refl
prefix_within p (y ∷ xs) = elim (cases_Bool (p y)) [
  | inr other ↦ rw other refl
  | inl here ↦
      let e : 1 + prefix_len p xs ≡ suc (prefix_len p xs) = omega arith in
      rw (here, e) (ap suc (prefix_within p xs))
]

pub label_get : (labels : List BlockId) (from : ℕ) → among from (map (λ (l : BlockId). l.0) labels) ≡ true
    → (k : ℕ) × (label : BlockId) × (slice_get labels k ≡ Some label) × (eqb label.0 from ≡ true)
label_get [] from is = absurd (false≢true is)
label_get (l ∷ labels) from is = elim (cases_Bool (eqb l.0 from)) [
  | inl here ↦ (0, l, refl, here)
  | inr other ↦ let rest = label_get labels from (let h = rw other at is in h) in (suc rest.0, rest.1, rest.2, rest.3)
]

module _ (text : Name → List ℕ) (func : Function) (table : List Operand) (naming : Naming) (live : ℕ → ℕ → ℕ → Bool) (fits : Fits func table naming live)
    (number : Name → ℕ) (room now_room : ℕ) (numbers : IsNumbering func table naming.joins number now_room) (plain : IsPlain func room)
    (closed : IsClosed func live) where
  abbrev pub numbered_at : ℕ → ℕ → ℕ → ℕ
  numbered_at b k v = number (names_at func table naming b k v)

  module _ (from to : ℕ) (edge : Edge func from to) (registers now : List Datum)
      (kept : (v : ℕ) → live from (length (lines_at func from)) v ≡ true → read now (number (names_at_end func table naming from v)) ≡ read registers v)
      (room_before : length registers ≡ room) (room_now : length now ≡ now_room) where
    abbrev front : ℕ
    front = phi_count (lines_at func to)

    abbrev phis : List Line
    phis = take (phi_count (lines_at func to)) (lines_at func to)

    abbrev body : List Line
    body = drop (phi_count (lines_at func to)) (lines_at func to)

    abbrev ins : List Piece
    ins = map (inserted_phi func table naming number to) (joined_at func naming to)

    abbrev phis_now : List Piece
    phis_now = phi_pieces func table naming number to 0 phis

    -- what an inserted phi takes
    inserted_value : (v : ℕ) → incoming from now (inserted_phi func table naming number to v).inst ≡ read now (number (names_at_end func table naming from v))
    inserted_value v =
        let labels = preds_of (graph_of func) to in
        let first = label_get labels from edge in
        let place = found (λ (label : BlockId). eqb label.0 from) labels first.0 first.1 first.2 first.3 in
        let block : (place.1).0 ≡ from = eqb-true (place.1).0 from place.4 in
        let operand_is = get_map (λ (p : ℕ). named (number (names_at_end func table naming p v))) (map (λ (l : BlockId). l.0) labels) place.0 (place.1).0
        (get_map (λ (l : BlockId). l.0) labels place.0 place.1 place.3) in
        ap (λ (p : Option ℕ). option_map_or (operand now (map (λ (p : ℕ). named (number (names_at_end func table naming p v))) (preds func to))) p nothing) place.2
        ∙ ap (λ (o : Option Operand). option_map_or (value now) o nothing) operand_is
        ∙ ap (λ (p : ℕ). read now (number (names_at_end func table naming p v))) block

    phi_operand : (labels : List BlockId) (operands : List Operand) (k : ℕ) (label : BlockId) → slice_get labels k ≡ Some label
        → slice_get (phi_operands func table naming number labels operands) k ≡ option_map (renamed number (names_at_end func table naming label.0)) (slice_get operands k)
    phi_operand [] operands k label is = absurd (cc)
    phi_operand (l ∷ labels) [] k label is = refl
    phi_operand (l ∷ labels) (o ∷ operands) zero label is =
        let e : l ≡ label = cc in
        ap (λ (x : BlockId). Some (renamed number (names_at_end func table naming x.0) o)) e
    phi_operand (l ∷ labels) (o ∷ operands) (suc k) label is = phi_operand labels operands k label is

    -- what a phi takes
    phi_value : (k : ℕ) (phi : Line) → slice_get (lines_at func to) k ≡ Some phi → is_phi phi.inst.op ≡ true
        → incoming from now (renamed_inst func table naming number to k phi.inst) ≡ incoming from registers phi.inst
    phi_value k phi stands is = go (position (λ (label : BlockId). eqb label.0 from) phi.inst.labels) refl
      where
        operands_are : (renamed_inst func table naming number to k phi.inst).operands ≡ phi_operands func table naming number phi.inst.labels phi.inst.operands
        operands_are = rw is refl

        at_place : (i : ℕ) → position (λ (label : BlockId). eqb label.0 from) phi.inst.labels ≡ Some i → (label : BlockId) → slice_get phi.inst.labels i ≡ Some label
            → label.0 ≡ from → (o : Option Operand) → slice_get phi.inst.operands i ≡ o
            → option_map_or (value now) (option_map (renamed number (names_at_end func table naming from)) o) nothing ≡ option_map_or (value registers) o nothing
        at_place i at label label_is block None none = refl
        at_place i at label label_is block (Some o) some_is =
            value_kept number (names_at_end func table naming from) (live from (length (lines_at func from))) registers now kept o (λ v o_is.
            closed.entries from to k v phi edge stands is
            (ap (λ (p : Option ℕ). option_map_or (λ (j : ℕ). slice_get phi.inst.operands j) p None) at ∙ some_is ∙ ap Some o_is))

        go : (p : Option ℕ) → position (λ (label : BlockId). eqb label.0 from) phi.inst.labels ≡ p
            → option_map_or (operand now (renamed_inst func table naming number to k phi.inst).operands) (position (λ (label : BlockId). eqb label.0 from) phi.inst.labels) nothing
            ≡ option_map_or (operand registers phi.inst.operands) (position (λ (label : BlockId). eqb label.0 from) phi.inst.labels) nothing
        go None none =
            ap (λ (p : Option ℕ). option_map_or (operand now (renamed_inst func table naming number to k phi.inst).operands) p nothing) none
            ∙ sym (ap (λ (p : Option ℕ). option_map_or (operand registers phi.inst.operands) p nothing) none)
        go (Some i) at =
            let label = position_passes (λ (l : BlockId). eqb l.0 from) phi.inst.labels i at in
            let block = eqb-true (label.0).0 from label.2 in
            ap (λ (p : Option ℕ). option_map_or (operand now (renamed_inst func table naming number to k phi.inst).operands) p nothing) at
            ∙ ap (λ (os : List Operand). operand now os i) operands_are
            ∙ ap (λ (o : Option Operand). option_map_or (value now) o nothing) (phi_operand phi.inst.labels phi.inst.operands i label.0 label.1
            ∙ ap (λ (p : ℕ). option_map (renamed number (names_at_end func table naming p)) (slice_get phi.inst.operands i)) block)
            ∙ at_place i at label.0 label.1 block (slice_get phi.inst.operands i) refl
            ∙ sym (ap (λ (p : Option ℕ). option_map_or (operand registers phi.inst.operands) p nothing) at)

    abbrev ins_writes : List ℕ → List Write
    ins_writes vs = map (phi_write from now) (map (piece_line text number) (map (inserted_phi func table naming number to) vs))

    ins_hit : (v : ℕ) (vs : List ℕ) (word : Datum) → (among v vs ≡ true) ⊎ (word ≡ read now (number (names_at_end func table naming from v)))
        → written (ins_writes vs) (number (joined to v)) word ≡ read now (number (names_at_end func table naming from v))
    ins_hit v [] word (inl is) = absurd (false≢true is)
    ins_hit v [] word (inr e) = e
    ins_hit v (x ∷ vs) word before = elim (cases_eq x v) [
      | inl e ↦
          ap (λ (t : Bool). written (ins_writes vs) (number (joined to v)) (if t then incoming from now (inserted_phi func table naming number to x).inst else word))
          (eq-eqb (number (joined to x)) (number (joined to v)) (ap (λ (y : ℕ). number (joined to y)) e))
          ∙ ins_hit v vs (incoming from now (inserted_phi func table naming number to x).inst)
          (inr (inserted_value x ∙ ap (λ (y : ℕ). read now (number (names_at_end func table naming from y))) e))
      | inr ne ↦
          ap (λ (t : Bool). written (ins_writes vs) (number (joined to v)) (if t then incoming from now (inserted_phi func table naming number to x).inst else word))
          (number_apart func table naming live fits number now_room numbers (joined to x) x (number (joined to v)) v refl (numbers.owns (joined to v)) ne)
          ∙ ins_hit v vs word (later before ne)
    ]
      where
        later : (among v (x ∷ vs) ≡ true) ⊎ (word ≡ read now (number (names_at_end func table naming from v))) → (x ≡ v → ⊥)
            → (among v vs ≡ true) ⊎ (word ≡ read now (number (names_at_end func table naming from v)))
        later (inl is) ne = inl (among_cons v x vs is ne)
        later (inr e) ne = inr e

    ins_miss : (m v : ℕ) (vs : List ℕ) (word : Datum) → numbers.owner m ≡ Some v → ((x : ℕ) → among x vs ≡ true → x ≡ v → ⊥) → written (ins_writes vs) m word ≡ word
    ins_miss m v [] word owned others = refl
    ins_miss m v (x ∷ vs) word owned others =
        ap (λ (t : Bool). written (ins_writes vs) m (if t then incoming from now (inserted_phi func table naming number to x).inst else word))
        (number_apart func table naming live fits number now_room numbers (joined to x) x m v refl owned (others x (among_here x vs)))
        ∙ ins_miss m v vs word owned (λ y is. others y (among_there y x vs is))

    abbrev phi_writes_now : ℕ → List Line → List Write
    phi_writes_now j xs = map (phi_write from now) (map (piece_line text number) (phi_pieces func table naming number to j xs))

    abbrev gives_any : List Line → ℕ → Bool
    gives_any xs v = list_any (λ (l : Line). gives l v) xs

    number_given : (to' : Option ℕ) (v : ℕ) → is_given to' v ≡ true → is_given (option_map number (option_map own to')) (number (own v)) ≡ true
    number_given None v is = absurd (false≢true is)
    number_given (Some x) v is = eq-eqb (number (own x)) (number (own v)) (ap (λ (y : ℕ). number (own y)) (eqb-true x v is))

    number_other : (to' : Option ℕ) (m v : ℕ) → numbers.owner m ≡ Some v → is_given to' v ≡ false → is_given (option_map number (option_map own to')) m ≡ false
    number_other None m v owned other = refl
    number_other (Some x) m v owned other = number_apart func table naming live fits number now_room numbers (own x) x m v refl owned (eqb-false x v other)

    -- the phis of the block, both ways
    phis_hit : (v j : ℕ) (xs rest : List Line) (word word_now : Datum) → drop j (lines_at func to) ≡ xs ++ rest
        → ((k : ℕ) (x : Line) → slice_get xs k ≡ Some x → is_phi x.inst.op ≡ true) → (gives_any xs v ≡ true) ⊎ (word_now ≡ word)
        → written (phi_writes_now j xs) (number (own v)) word_now ≡ written (map (phi_write from registers) xs) v word
    phis_hit v j [] rest word word_now place all (inl is) = absurd (false≢true is)
    phis_hit v j [] rest word word_now place all (inr e) = e
    phis_hit v j (x ∷ xs) rest word word_now place all before =
        let here = at_rest (lines_at func to) j x (xs ++ rest) place in
        let takes = phi_value j x here.0 (all 0 x refl) in
        elim (cases_Bool (gives x v)) [
          | inl given ↦
              ap (λ (t : Bool). written (phi_writes_now (suc j) xs) (number (own v)) (if t then incoming from now (renamed_inst func table naming number to j x.inst) else word_now)) (number_given x.to v given)
              ∙ phis_hit v (suc j) xs rest (incoming from registers x.inst) (incoming from now (renamed_inst func table naming number to j x.inst)) here.1 (λ k. all (suc k)) (inr takes)
              ∙ sym (ap (λ (t : Bool). written (map (phi_write from registers) xs) v (if t then incoming from registers x.inst else word)) given)
          | inr other ↦
              ap (λ (t : Bool). written (phi_writes_now (suc j) xs) (number (own v)) (if t then incoming from now (renamed_inst func table naming number to j x.inst) else word_now)) (number_other x.to (number (own v)) v (numbers.owns (own v)) other)
              ∙ phis_hit v (suc j) xs rest word word_now here.1 (λ k. all (suc k)) (later before other)
              ∙ sym (ap (λ (t : Bool). written (map (phi_write from registers) xs) v (if t then incoming from registers x.inst else word)) other)
        ]
      where
        later : (gives_any (x ∷ xs) v ≡ true) ⊎ (word_now ≡ word) → gives x v ≡ false → (gives_any xs v ≡ true) ⊎ (word_now ≡ word)
        later (inl is) other = inl (let h = rw other at is in h)
        later (inr e) other = inr e

    phis_miss : (m v j : ℕ) (xs : List Line) (word : Datum) → numbers.owner m ≡ Some v → gives_any xs v ≡ false → written (phi_writes_now j xs) m word ≡ word
    phis_miss m v j [] word owned none = refl
    phis_miss m v j (x ∷ xs) word owned none =
        let parts = or_parts (gives x v) (gives_any xs v) none in
        ap (λ (t : Bool). written (phi_writes_now (suc j) xs) m (if t then incoming from now (renamed_inst func table naming number to j x.inst) else word)) (number_other x.to m v owned parts.0)
        ∙ phis_miss m v (suc j) xs word owned parts.1

    phis_before_miss : (v : ℕ) (xs : List Line) (word : Datum) → gives_any xs v ≡ false → written (map (phi_write from registers) xs) v word ≡ word
    phis_before_miss v [] word none = refl
    phis_before_miss v (x ∷ xs) word none =
        let parts = or_parts (gives x v) (gives_any xs v) none in
        ap (λ (t : Bool). written (map (phi_write from registers) xs) v (if t then incoming from registers x.inst else word)) parts.0
        ∙ phis_before_miss v xs word parts.1

    -- names behind phis
    names_phis : (v j : ℕ) (xs rest : List Line) → drop j (lines_at func to) ≡ xs ++ rest
        → ((k : ℕ) (x : Line) → slice_get xs k ≡ Some x → is_phi x.inst.op ≡ true)
        → names_at func table naming to (j + length xs) v ≡ (if gives_any xs v then own v else names_at func table naming to j v)
    names_phis v j [] rest place all =
        let e : j + 0 ≡ j = omega arith in
        ap (λ (k : ℕ). names_at func table naming to k v) e
    names_phis v j (x ∷ xs) rest place all =
        let e : j + suc (length xs) ≡ suc j + length xs = omega arith in
        let here = at_rest (lines_at func to) j x (xs ++ rest) place in
        let other = phi_stays x.inst.op (all 0 x refl) in
        ap (λ (k : ℕ). names_at func table naming to k v) e
        ∙ names_phis v (suc j) xs rest here.1 (λ k. all (suc k))
        ∙ elim (cases_Bool (gives x v)) [
          | inl given ↦ either (gives_any xs v) (names_given func table naming to j x v here.0 given) ∙ sym (ap (λ (t : Bool). if t || gives_any xs v then own v else names_at func table naming to j v) given)
          | inr none ↦
              ap (λ (name : Name). if gives_any xs v then own v else name) (names_kept func table naming to j x v here.0 none other)
              ∙ sym (ap (λ (t : Bool). if t || gives_any xs v then own v else names_at func table naming to j v) none)
        ]
      where
        either : (t : Bool) {name : Name} → name ≡ own v → (if t then own v else name) ≡ own v
        either true e = refl
        either false e = e

    place_phis : drop 0 (lines_at func to) ≡ phis ++ body
    place_phis = sym (take-append-drop (phi_count (lines_at func to)) (lines_at func to))

    all_phis : (k : ℕ) (x : Line) → slice_get phis k ≡ Some x → is_phi x.inst.op ≡ true
    all_phis k x is = prefix_passes (λ (line : Line). is_phi line.inst.op) (lines_at func to) k x is

    front_name : (v : ℕ) → names_at func table naming to front v ≡ (if gives_any phis v then own v else naming.front to v)
    front_name v =
        let e : 0 + length phis ≡ front = (let h = prefix_within (λ (line : Line). is_phi line.inst.op) (lines_at func to) in omega (arith, h)) in
        ap (λ (k : ℕ). names_at func table naming to k v) (sym e) ∙ names_phis v 0 phis body place_phis all_phis

    -- a line among the phis
    phi_at : (v j : ℕ) (xs rest : List Line) → drop j (lines_at func to) ≡ xs ++ rest → gives_any xs v ≡ true
        → (k : ℕ) × (line : Line) × (slice_get (lines_at func to) k ≡ Some line) × (line.to ≡ Some v)
    phi_at v j [] rest place is = absurd (false≢true is)
    phi_at v j (x ∷ xs) rest place is =
        let here = at_rest (lines_at func to) j x (xs ++ rest) place in
        elim (cases_Bool (gives x v)) [
          | inl given ↦ (j, x, here.0, given_is x.to v given)
          | inr other ↦ phi_at v (suc j) xs rest here.1 (let h = rw other at is in h)
        ]

    live_before : (v j : ℕ) (xs rest : List Line) → drop j (lines_at func to) ≡ xs ++ rest → gives_any xs v ≡ false → live to (j + length xs) v ≡ true → live to j v ≡ true
    live_before v j [] rest place none alive = let e : j + 0 ≡ j = omega arith in ap (λ (k : ℕ). live to k v) (sym e) ∙ alive
    live_before v j (x ∷ xs) rest place none alive =
        let here = at_rest (lines_at func to) j x (xs ++ rest) place in
        let parts = or_parts (gives x v) (gives_any xs v) none in
        let e : j + suc (length xs) ≡ suc j + length xs = omega arith in
        closed.later to j v x here.0 parts.0 (live_before v (suc j) xs rest here.1 parts.1 (ap (λ (k : ℕ). live to k v) (sym e) ∙ alive))

    abbrev writes_before : List Write
    writes_before = map (phi_write from registers) phis

    abbrev pub writes_now : List Write
    writes_now = map (phi_write from now) (map (piece_line text number) (ins ++ phis_now))

    split_now : (m : ℕ) (word : Datum) → written writes_now m word ≡ written (phi_writes_now 0 phis) m (written (ins_writes (joined_at func naming to)) m word)
    split_now m word =
        ap (λ (ws : List Write). written ws m word)
        (ap (map (phi_write from now)) (map-append (piece_line text number) ins phis_now)
        ∙ map-append (phi_write from now) (map (piece_line text number) ins) (map (piece_line text number) phis_now))
        ∙ written_append (ins_writes (joined_at func naming to)) (phi_writes_now 0 phis) m word

    phi_each : (v : ℕ) → gives_any phis v ≡ true → read (put_all writes_now now) (number (own v)) ≡ read (put_all writes_before registers) v
    phi_each v given =
        let line = phi_at v 0 phis body place_phis given in
        let below : v < length registers = rw room_before (plain.room_line to line.0 v line.1 line.2 line.3) in
        let now_below : number (own v) < length now = rw room_now (numbers.room_line to line.0 v line.1 line.2 line.3) in
        read_put_all writes_now now (number (own v)) now_below
        ∙ split_now (number (own v)) (read now (number (own v)))
        ∙ phis_hit v 0 phis body (read registers v) (written (ins_writes (joined_at func naming to)) (number (own v)) (read now (number (own v)))) place_phis all_phis (inl given)
        ∙ sym (read_put_all writes_before registers v below)

    joined_each : (v : ℕ) → gives_any phis v ≡ false → naming.joins to v ≡ true → live to 0 v ≡ true
        → read (put_all writes_now now) (number (joined to v)) ≡ read (put_all writes_before registers) v
    joined_each v none joins alive =
        let at = fits.at_join to v joins in
        let now_below : number (joined to v) < length now = rw room_now (numbers.room_join to v joins at.1) in
        read_put_all writes_now now (number (joined to v)) now_below
        ∙ split_now (number (joined to v)) (read now (number (joined to v)))
        ∙ phis_miss (number (joined to v)) v 0 phis (written (ins_writes (joined_at func naming to)) (number (joined to v)) (read now (number (joined to v)))) (numbers.owns (joined to v)) none
        ∙ ins_hit v (joined_at func naming to) (read now (number (joined to v))) (inl (filter_among (naming.joins to) v (pointers func) at.1 joins))
        ∙ kept v (closed.crosses from to v edge alive)
        ∙ sym (read_put_all_kept writes_before registers v (phis_before_miss v phis (read registers v) none))

    other_each : (v : ℕ) → gives_any phis v ≡ false → naming.joins to v ≡ false → live to 0 v ≡ true
        → read (put_all writes_now now) (number (naming.front to v)) ≡ read (put_all writes_before registers) v
    other_each v none apart alive =
        let owned : numbers.owner (number (naming.front to v)) ≡ Some v = names_owner func table naming live fits number now_room numbers to 0 v in
        let miss : (x : ℕ) → among x (joined_at func naming to) ≡ true → x ≡ v → ⊥ =
        λ x is same. true≢false (sym (among_filter (naming.joins to) x (pointers func) is).1 ∙ ap (naming.joins to) same ∙ apart) in
        read_put_all_kept writes_now now (number (naming.front to v))
        (split_now (number (naming.front to v)) (read now (number (naming.front to v)))
        ∙ phis_miss (number (naming.front to v)) v 0 phis (written (ins_writes (joined_at func naming to)) (number (naming.front to v)) (read now (number (naming.front to v)))) owned none
        ∙ ins_miss (number (naming.front to v)) v (joined_at func naming to) (read now (number (naming.front to v))) owned miss)
        ∙ ap (λ (name : Name). read now (number name)) (fits.at_edge from to v edge alive apart)
        ∙ kept v (closed.crosses from to v edge alive)
        ∙ sym (read_put_all_kept writes_before registers v (phis_before_miss v phis (read registers v) none))

    pub jump_each : (v : ℕ) → live to front v ≡ true → read (put_all writes_now now) (numbered_at to front v) ≡ read (put_all writes_before registers) v
    jump_each v alive = elim (cases_Bool (gives_any phis v)) [
      | inl given ↦
          ap (λ (name : Name). read (put_all writes_now now) (number name)) (front_name v ∙ ap (λ (t : Bool). if t then own v else naming.front to v) given) ∙ phi_each v given
      | inr none ↦
          let e : 0 + length phis ≡ front = (let h = prefix_within (λ (line : Line). is_phi line.inst.op) (lines_at func to) in omega (arith, h)) in
          let start : live to 0 v ≡ true = live_before v 0 phis body place_phis none (ap (λ (k : ℕ). live to k v) e ∙ alive) in
          ap (λ (name : Name). read (put_all writes_now now) (number name)) (front_name v ∙ ap (λ (t : Bool). if t then own v else naming.front to v) none)
          ∙ elim (cases_Bool (naming.joins to v)) [
            | inl joins ↦ ap (λ (name : Name). read (put_all writes_now now) (number name)) (fits.at_join to v joins).0 ∙ joined_each v none joins start
            | inr apart ↦ other_each v none apart start
          ]
    ]

-- the lines of a rewritten block, behind its phis
module _ (r : Rewriting) (room : ℕ) (plain : IsPlain r.func room) (to : ℕ) where
  abbrev pub phis_of : List Line
  phis_of = take (phi_count (lines_at r.func to)) (lines_at r.func to)

  abbrev pub body_of : List Line
  body_of = drop (phi_count (lines_at r.func to)) (lines_at r.func to)

  abbrev pub phi_lines : List Line
  phi_lines = map (piece_line r.text r.number) (map (inserted_phi r.func r.table r.naming r.number to) (joined_at r.func r.naming to)
      ++ phi_pieces r.func r.table r.naming r.number to 0 (take (phi_count (lines_at r.func to)) (lines_at r.func to)))

  these_phis : (k : ℕ) (x : Line) → slice_get phis_of k ≡ Some x → is_phi x.inst.op ≡ true
  these_phis k x is = prefix_passes (λ (line : Line). is_phi line.inst.op) (lines_at r.func to) k x is

  pub lines_split : lines_now r to ≡ phi_lines ++ rest_now r to (phi_count (lines_at r.func to)) (drop (phi_count (lines_at r.func to)) (lines_at r.func to))
  lines_split =
      let e : 0 + length phis_of ≡ phi_count (lines_at r.func to) = (let h = prefix_within (λ (line : Line). is_phi line.inst.op) (lines_at r.func to) in omega (arith, h)) in
      let ins = map (inserted_phi r.func r.table r.naming r.number to) (joined_at r.func r.naming to) in
      let phis = phi_pieces r.func r.table r.naming r.number to 0 phis_of in
      let rest = expanded r.func r.table r.naming r.number to (phi_count (lines_at r.func to)) body_of in
      ap (λ (ls : List Line). map (piece_line r.text r.number) (ins ++ expanded r.func r.table r.naming r.number to 0 ls)) (sym (take-append-drop (phi_count (lines_at r.func to)) (lines_at r.func to)))
      ∙ ap (λ (ps : List Piece). map (piece_line r.text r.number) (ins ++ ps)) (expanded_phis r.func r.table r.naming r.number to 0 phis_of body_of these_phis)
      ∙ ap (λ (n : ℕ). map (piece_line r.text r.number) (ins ++ (phis ++ expanded r.func r.table r.naming r.number to n body_of))) e
      ∙ ap (map (piece_line r.text r.number)) (sym (append_assoc ins phis rest))
      ∙ map-append (piece_line r.text r.number) (ins ++ phis) rest

  all_are : (k : ℕ) (l : Line) → slice_get phi_lines k ≡ Some l → is_phi l.inst.op ≡ true
  all_are k l is =
      let ins = map (inserted_phi r.func r.table r.naming r.number to) (joined_at r.func r.naming to) in
      let phis = phi_pieces r.func r.table r.naming r.number to 0 phis_of in
      either (map (piece_line r.text r.number) ins) (map (piece_line r.text r.number) phis) k
      (ap (λ (ls : List Line). slice_get ls k) (sym (map-append (piece_line r.text r.number) ins phis)) ∙ is)
      (inserted_are r.func r.table r.naming r.number r.text to (joined_at r.func r.naming to)) (phi_pieces_are r.func r.table r.naming r.number r.text to 0 phis_of these_phis)
    where
      either : (xs ys : List Line) (k : ℕ) → slice_get (xs ++ ys) k ≡ Some l → ((k : ℕ) (l : Line) → slice_get xs k ≡ Some l → is_phi l.inst.op ≡ true)
          → ((k : ℕ) (l : Line) → slice_get ys k ≡ Some l → is_phi l.inst.op ≡ true) → is_phi l.inst.op ≡ true
      either [] ys k is one two = two k l is
      either (x ∷ xs) ys zero is one two = one 0 l is
      either (x ∷ xs) ys (suc k) is one two = either xs ys k is (λ j. one (suc j)) two

  pub phis_count : phi_count (lines_now r to) ≡ length phi_lines
  phis_count =
      let rest = rest_now r to (phi_count (lines_at r.func to)) body_of in
      let sum = prefix_append (λ (line : Line). is_phi line.inst.op) phi_lines rest all_are in
      let none = body_apart r.func r.table r.naming r.number r.text to (phi_count (lines_at r.func to)) body_of (λ line others is.
      not_phi line others is) in
      ap phi_count lines_split ∙ omega (arith, sum, none)
    where
      not_phi : (line : Line) (others : List Line) → body_of ≡ line ∷ others → is_phi line.inst.op ≡ false
      not_phi line others is = elim (cases_Bool (is_phi line.inst.op)) [
        | inr none ↦ none
        | inl phi ↦ absurd (let below = plain.phis to (phi_count (lines_at r.func to)) line (at_rest (lines_at r.func to) (phi_count (lines_at r.func to)) line others is).0 phi in omega arith)
      ]
