-- What the phis of a rewritten block put for the name of a live value is the name of what the phis of the block before put for the value.
use Rattle.std.proofs.Common.{◌≡◌, ℕ, zero, suc, ◌+◌, ◌≤◌, Bool, true, false, eqb, ◌||◌, if◌then◌else◌, List, [], ◌∷◌, ◌++◌, length, map, get_or, take, drop, refl, sym, ap, subst, ◌∙◌, inl, inr, arith}
use Rattle.std.specs.Prelude.{Option, Some, None, slice_get}
use Rattle.std.specs.List.{list_any, position, prefix_len}
use Rattle.std.specs.Option.{option_map, option_map_or}
use Rattle.std.proofs.lemmas.Bool.{cases_Bool, cases_eq, eqb-true, eq-eqb, ne_eqb, false≢true, true≢false, or_parts}
use Rattle.std.proofs.lemmas.List.{map-append, take-append-drop}
use Rattle.std.proofs.lemmas.List.Quantifiers.{position-Some}
use Rattle.std.proofs.lemmas.Option.{slice_get-get_or, slice_get_within}
use Rattle.list_laws.proofs.Places.{get_front, get_map, get_taken, take_front_of}
use Rattle.sp_ids.specs.declared.ids.BlockId.{BlockId}
use Rattle.ir_ast.specs.declared.ops.Operand.{Operand}
use Rattle.ir_ast.specs.declared.ops.Operand.TheVariants.{Null}
use Rattle.ir_ast.specs.declared.ops.Op.{Op}
use Rattle.ir_ast.specs.declared.ops.Op.TheVariants.{Phi}
use Rattle.ir_ast.specs.Insts.{Instruction}
use Rattle.ir_ast.specs.Blocks.{BasicBlock}
use Rattle.ir_ast.specs.Funcs.{Function}
use Rattle.ir_ast.specs.Operands.{value_in}
use Rattle.ir_ast.specs.Faults.PhiEdges.{is_phi}
use Rattle.ir_cfg.specs.Graphs.{graph_of, preds_of}
use Rattle.definite_assign.proofs.TextLemmas.{one_definition}
use Rattle.object_meaning.specs.Jumps.{phi_count}
use Rattle.object_meaning.specs.Lines.{Line}
use Rattle.rewriting_forms.specs.Numbered.{among, gives, is_call, lines_at, named, pointers, preds}
use Rattle.rewriting_forms.specs.Liveness.{live_table}
use Rattle.rewriting_forms.specs.Liveness as liveness
use Rattle.rewriting_forms.specs.Names.{Name, Naming, joined, names_at, names_at_end, own}
use Rattle.rewriting_forms.specs.Rewritten.{Piece, expanded, inserted_phi, joined_at, phi_operands, plain, renamed, renamed_inst}
use Rattle.rewriting_laws.specs.Laws.{Edge, Fits, IsNumbering, IsPlain}
use Rattle.rewriting_laws.proofs.JumpLemmas.{lines_split, one_piece, phi_lines, phi_pieces, phis_count, label_get, prefix_within}
use Rattle.rewriting_laws.proofs.LiveLaws.{table_closed}
use Rattle.rewriting_laws.proofs.NameLemmas.{among_cons, among_filter, among_here, among_there, at_rest, filter_among, found, names_given, names_kept, names_owner, number_apart}
use Rattle.rewritten_sound.proofs.definite.NowLaws.{defines_piece, now, number, pieces}
use Rattle.rewritten_sound.proofs.definite.PieceLaws.{among_at, piece_at}
use Rattle.pair_facts.specs.Lines.{operand_at, phis_in}
use Rattle.pair_facts.specs.Pairs.{along, incoming, value_along}
use Rattle.rewritten_sound.proofs.pairs.NowPlaces.{lines, start_of, whole_rewriting, written}
use Rattle.object_meaning.proofs.LineLaws.{given_is}
use Rattle.list_laws.proofs.Tests.{prefix_passes, position_passes}

-- ---- lists

pub operand_there : (operands : List Operand) (place v : ℕ) → operand_at operands place ≡ named v → slice_get operands place ≡ Some (named v)
operand_there [] place v is = absurd cc
operand_there (o ∷ operands) zero v is = ap (λ o. Some o) is
operand_there (o ∷ operands) (suc place) v is = operand_there operands place v is

-- ---- phis of one block

abbrev pub gives_any : List Line → ℕ → Bool
gives_any xs v = list_any (λ (x : Line). gives x v) xs

pub no_phi : (from v : ℕ) (xs : List Line) → gives_any xs v ≡ false → value_along from xs v ≡ named v
no_phi from v [] none = refl
no_phi from v (x ∷ xs) none =
    let parts = or_parts (gives x v) (gives_any xs v) none in
    rw parts.0 (no_phi from v xs parts.1)

-- the phi that gives a value
pub phi_found : (from v : ℕ) (xs : List Line) → gives_any xs v ≡ true
    → (k : ℕ) × (phi : Line) × (slice_get xs k ≡ Some phi) × (gives phi v ≡ true) × (value_along from xs v ≡ incoming from phi.inst)
phi_found from v [] is = absurd (false≢true is)
phi_found from v (x ∷ xs) is = elim (cases_Bool (gives x v)) [
  | inl given ↦ (0, x, refl, given, rw given refl)
  | inr other ↦
      let rest = phi_found from v xs (let h = rw other at is in h) in
      (suc rest.0, rest.1, rest.2, rest.3, rw other rest.4)
]

-- what a phi takes from a block, as an entry
pub incoming_entry : (from u : ℕ) (phi : Instruction) → incoming from phi ≡ named u → liveness.incoming from phi ≡ Some (named u)
incoming_entry from u phi is = by (position (λ (label : BlockId). eqb label.0 from) phi.labels) is
  where
    by : (place : Option ℕ) → option_map_or (λ (k : ℕ). operand_at phi.operands k) place Null ≡ named u → option_map_or (λ (k : ℕ). slice_get phi.operands k) place None ≡ Some (named u)
    by None is = absurd cc
    by (Some k) is = operand_there phi.operands k u is

module _ (func : Function) (table : List Operand) (naming : Naming) (fits : Fits func table naming (live_table func table)) (now_room room : ℕ)
    (numbers : IsNumbering func table naming.joins (number func table naming) now_room) (plain_form : IsPlain func room) where
  abbrev numbered : Name → ℕ
  numbered = number func table naming

  -- ---- one phi

  inserted_takes : (from b v : ℕ) → Edge func from b → incoming from (written func table naming (inserted_phi func table naming numbered b v)).inst ≡ named (numbered (names_at_end func table naming from v))
  inserted_takes from b v edge =
      let labels = preds_of (graph_of func) b in
      let first = label_get labels from edge in
      let place = found (λ (label : BlockId). eqb label.0 from) labels first.0 first.1 first.2 first.3 in
      let block : (place.1).0 ≡ from = eqb-true (place.1).0 from place.4 in
      let operand_is = get_map (λ (p : ℕ). named (numbered (names_at_end func table naming p v))) (map (λ (l : BlockId). l.0) labels) place.0 (place.1).0
      (get_map (λ (l : BlockId). l.0) labels place.0 place.1 place.3) in
      ap (λ (p : Option ℕ). option_map_or (λ (k : ℕ). operand_at (map (λ (p : ℕ). named (numbered (names_at_end func table naming p v))) (preds func b)) k) p Null) place.2
      ∙ operand_here (map (λ (p : ℕ). named (numbered (names_at_end func table naming p v))) (preds func b)) place.0 (named (numbered (names_at_end func table naming (place.1).0 v))) operand_is
      ∙ ap (λ (p : ℕ). named (numbered (names_at_end func table naming p v))) block
    where
      operand_here : (operands : List Operand) (k : ℕ) (o : Operand) → slice_get operands k ≡ Some o → operand_at operands k ≡ o
      operand_here [] k o is = absurd cc
      operand_here (x ∷ operands) zero o is = cc
      operand_here (x ∷ operands) (suc k) o is = operand_here operands k o is

  phi_operand : (labels : List BlockId) (operands : List Operand) (k : ℕ) (label : BlockId) → slice_get labels k ≡ Some label
      → operand_at (phi_operands func table naming numbered labels operands) k ≡ renamed numbered (names_at_end func table naming label.0) (operand_at operands k)
  phi_operand [] operands k label is = absurd (cc)
  phi_operand (l ∷ labels) [] k label is = refl
  phi_operand (l ∷ labels) (o ∷ operands) zero label is =
      let e : l ≡ label = cc in
      ap (λ (x : BlockId). renamed numbered (names_at_end func table naming x.0) o) e
  phi_operand (l ∷ labels) (o ∷ operands) (suc k) label is = phi_operand labels operands k label is

  phi_takes : (from b k : ℕ) (phi : Line) → is_phi phi.inst.op ≡ true
      → incoming from (written func table naming (plain func table naming numbered b k phi)).inst ≡ renamed numbered (names_at_end func table naming from) (incoming from phi.inst)
  phi_takes from b k phi is = go (position (λ (label : BlockId). eqb label.0 from) phi.inst.labels) refl
    where
      operands_are : (renamed_inst func table naming numbered b k phi.inst).operands ≡ phi_operands func table naming numbered phi.inst.labels phi.inst.operands
      operands_are = rw is refl

      go : (p : Option ℕ) → position (λ (label : BlockId). eqb label.0 from) phi.inst.labels ≡ p
          → option_map_or (λ (e : ℕ). operand_at (renamed_inst func table naming numbered b k phi.inst).operands e) (position (λ (label : BlockId). eqb label.0 from) phi.inst.labels) Null
          ≡ renamed numbered (names_at_end func table naming from) (option_map_or (λ (e : ℕ). operand_at phi.inst.operands e) (position (λ (label : BlockId). eqb label.0 from) phi.inst.labels) Null)
      go None none =
          ap (λ (p : Option ℕ). option_map_or (λ (e : ℕ). operand_at (renamed_inst func table naming numbered b k phi.inst).operands e) p Null) none
          ∙ sym (ap (λ (p : Option ℕ). renamed numbered (names_at_end func table naming from) (option_map_or (λ (e : ℕ). operand_at phi.inst.operands e) p Null)) none)
      go (Some i) at =
          let label = position_passes (λ (l : BlockId). eqb l.0 from) phi.inst.labels i at in
          let block = eqb-true (label.0).0 from label.2 in
          ap (λ (p : Option ℕ). option_map_or (λ (e : ℕ). operand_at (renamed_inst func table naming numbered b k phi.inst).operands e) p Null) at
          ∙ ap (λ (os : List Operand). operand_at os i) operands_are
          ∙ phi_operand phi.inst.labels phi.inst.operands i label.0 label.1
          ∙ ap (λ (p : ℕ). renamed numbered (names_at_end func table naming p) (operand_at phi.inst.operands i)) block
          ∙ sym (ap (λ (p : Option ℕ). renamed numbered (names_at_end func table naming from) (option_map_or (λ (e : ℕ). operand_at phi.inst.operands e) p Null)) at)

  -- ---- all phis

  abbrev inserted : ℕ → List ℕ → List Line
  inserted b vs = map (written func table naming) (map (inserted_phi func table naming numbered b) vs)

  inserted_hit : (from b v : ℕ) (vs : List ℕ) (rest : List Line) → Edge func from b → among v vs ≡ true
      → value_along from (inserted b vs ++ rest) (numbered (joined b v)) ≡ named (numbered (names_at_end func table naming from v))
  inserted_hit from b v [] rest edge is = absurd (false≢true is)
  inserted_hit from b v (x ∷ vs) rest edge is = elim (cases_eq x v) [
    | inl e ↦
        rw (e, eq-eqb (numbered (joined b v)) (numbered (joined b v)) refl) (inserted_takes from b v edge)
    | inr other ↦
        rw (number_apart func table naming (live_table func table) fits numbered now_room numbers (joined b x) x (numbered (joined b v)) v refl (numbers.owns (joined b v)) other)
        (inserted_hit from b v vs rest edge (among_cons v x vs is other))
  ]

  inserted_miss : (from b m : ℕ) (vs : List ℕ) (rest : List Line) → ((x : ℕ) → among x vs ≡ true → eqb (numbered (joined b x)) m ≡ false)
      → value_along from (inserted b vs ++ rest) m ≡ value_along from rest m
  inserted_miss from b m [] rest apart = refl
  inserted_miss from b m (x ∷ vs) rest apart =
      rw (apart x (among_here x vs)) (inserted_miss from b m vs rest (λ y is. apart y (among_there y x vs is)))

  abbrev phis_written : ℕ → ℕ → List Line → List Line
  phis_written b j xs = map (written func table naming) (phi_pieces func table naming numbered b j xs)

  own_apart : (x : Option ℕ) (m v : ℕ) → numbers.owner m ≡ Some v → option_map_or (λ (given : ℕ). eqb given v) x false ≡ false
      → option_map_or (λ (given : ℕ). eqb given m) (option_map numbered (option_map own x)) false ≡ false
  own_apart None m v owned other = refl
  own_apart (Some x) m v owned other =
      number_apart func table naming (live_table func table) fits numbered now_room numbers (own x) x m v refl owned
      (λ same. true≢false (sym (eq-eqb x v same) ∙ other))

  own_hit : (x : Option ℕ) (v : ℕ) → option_map_or (λ (given : ℕ). eqb given v) x false ≡ true
      → option_map_or (λ (given : ℕ). eqb given (numbered (own v))) (option_map numbered (option_map own x)) false ≡ true
  own_hit None v is = absurd (false≢true is)
  own_hit (Some x) v is = eq-eqb (numbered (own x)) (numbered (own v)) (ap (λ (y : ℕ). numbered (own y)) (eqb-true x v is))

  phis_hit : (from b v j : ℕ) (xs : List Line) → ((k : ℕ) (x : Line) → slice_get xs k ≡ Some x → is_phi x.inst.op ≡ true) → gives_any xs v ≡ true
      → value_along from (phis_written b j xs) (numbered (own v)) ≡ renamed numbered (names_at_end func table naming from) (value_along from xs v)
  phis_hit from b v j [] all is = absurd (false≢true is)
  phis_hit from b v j (x ∷ xs) all is = elim (cases_Bool (gives x v)) [
    | inl given ↦ rw (given, own_hit x.to v given) (phi_takes from b j x (all 0 x refl))
    | inr other ↦
        rw (other, own_apart x.to (numbered (own v)) v (numbers.owns (own v)) other)
        (phis_hit from b v (suc j) xs (λ k. all (suc k)) (let h = rw other at is in h))
  ]

  phis_miss : (from b v m j : ℕ) (xs : List Line) → numbers.owner m ≡ Some v → gives_any xs v ≡ false → value_along from (phis_written b j xs) m ≡ named m
  phis_miss from b v m j [] owned none = refl
  phis_miss from b v m j (x ∷ xs) owned none =
      let parts = or_parts (gives x v) (gives_any xs v) none in
      rw (own_apart x.to m v owned parts.0) (phis_miss from b v m (suc j) xs owned parts.1)

  -- ---- names behind phis

  phi_stays : (op : Op) → is_phi op ≡ true → is_call op ≡ false
  phi_stays Phi is = refl
  phi_stays _ is = cc

  start_later : (b k : ℕ) → length (joined_at func naming b) ≤ start_of func table naming b k
  start_later b zero = omega arith
  start_later b (suc k) = let rest = start_later b k in omega arith

  names_phis : (b v j : ℕ) (xs rest : List Line) → drop j (lines_at func b) ≡ xs ++ rest → ((k : ℕ) (x : Line) → slice_get xs k ≡ Some x → is_phi x.inst.op ≡ true)
      → names_at func table naming b (j + length xs) v ≡ (if gives_any xs v then own v else names_at func table naming b j v)
  names_phis b v j [] rest place all =
      let e : j + 0 ≡ j = omega arith in
      ap (λ (k : ℕ). names_at func table naming b k v) e
  names_phis b v j (x ∷ xs) rest place all =
      let e : j + suc (length xs) ≡ suc j + length xs = omega arith in
      let here = at_rest (lines_at func b) j x (xs ++ rest) place in
      let other = phi_stays x.inst.op (all 0 x refl) in
      ap (λ (k : ℕ). names_at func table naming b k v) e
      ∙ names_phis b v (suc j) xs rest here.1 (λ k. all (suc k))
      ∙ elim (cases_Bool (gives x v)) [
        | inl given ↦ either (gives_any xs v) (names_given func table naming b j x v here.0 given) ∙ sym (ap (λ (t : Bool). if t || gives_any xs v then own v else names_at func table naming b j v) given)
        | inr none ↦
            ap (λ (name : Name). if gives_any xs v then own v else name) (names_kept func table naming b j x v here.0 none other)
            ∙ sym (ap (λ (t : Bool). if t || gives_any xs v then own v else names_at func table naming b j v) none)
      ]
    where
      either : (t : Bool) {name : Name} → name ≡ own v → (if t then own v else name) ≡ own v
      either true e = refl
      either false e = e

  live_before : (b v j : ℕ) (xs rest : List Line) → drop j (lines_at func b) ≡ xs ++ rest → gives_any xs v ≡ false → live_table func table b (j + length xs) v ≡ true
      → live_table func table b j v ≡ true
  live_before b v j [] rest place none alive = let e : j + 0 ≡ j = omega arith in ap (λ (k : ℕ). live_table func table b k v) (sym e) ∙ alive
  live_before b v j (x ∷ xs) rest place none alive =
      let here = at_rest (lines_at func b) j x (xs ++ rest) place in
      let parts = or_parts (gives x v) (gives_any xs v) none in
      let e : j + suc (length xs) ≡ suc j + length xs = omega arith in
      (table_closed func table).later b j v x here.0 parts.0 (live_before b v (suc j) xs rest here.1 parts.1 (ap (λ (k : ℕ). live_table func table b k v) (sym e) ∙ alive))

  module _ (from b : ℕ) (edge : Edge func from b) where
    abbrev pub phis : List Line
    phis = phis_in (lines_at func b)

    abbrev pub front : ℕ
    front = phi_count (lines_at func b)

    place_phis : drop 0 (lines_at func b) ≡ phis ++ drop (phi_count (lines_at func b)) (lines_at func b)
    place_phis = sym (take-append-drop (phi_count (lines_at func b)) (lines_at func b))

    all_phis : (k : ℕ) (x : Line) → slice_get phis k ≡ Some x → is_phi x.inst.op ≡ true
    all_phis k x is = prefix_passes (λ (line : Line). is_phi line.inst.op) (lines_at func b) k x is

    count_is : 0 + length phis ≡ front
    count_is = let h = prefix_within (λ (line : Line). is_phi line.inst.op) (lines_at func b) in omega (arith, h)

    front_name : (v : ℕ) → names_at func table naming b front v ≡ (if gives_any phis v then own v else naming.front b v)
    front_name v =
        ap (λ (k : ℕ). names_at func table naming b k v) (sym count_is) ∙ names_phis b v 0 phis (drop (phi_count (lines_at func b)) (lines_at func b)) place_phis all_phis

    live_front : (v : ℕ) → gives_any phis v ≡ false → live_table func table b front v ≡ true → live_table func table b 0 v ≡ true
    live_front v none alive =
        live_before b v 0 phis (drop (phi_count (lines_at func b)) (lines_at func b)) place_phis none (ap (λ (k : ℕ). live_table func table b k v) count_is ∙ alive)

    phis_are : phis_in (lines func table naming b) ≡ inserted b (joined_at func naming b) ++ phis_written b 0 phis
    phis_are =
        let split = lines_split (whole_rewriting func table naming room plain_form) room plain_form b in
        let count = phis_count (whole_rewriting func table naming room plain_form) room plain_form b in
        ap (λ (n : ℕ). take n (lines func table naming b)) count
        ∙ ap (take (length (phi_lines (whole_rewriting func table naming room plain_form) room plain_form b))) split
        ∙ take_front_of (phi_lines (whole_rewriting func table naming room plain_form) room plain_form b) _
        ∙ map-append (written func table naming) (map (inserted_phi func table naming numbered b) (joined_at func naming b)) (phi_pieces func table naming numbered b 0 phis)

    along_now : (m : ℕ) → along from (phis_in (lines func table naming b)) (named m) ≡ value_along from (inserted b (joined_at func naming b) ++ phis_written b 0 phis) m
    along_now m = ap (λ (ls : List Line). value_along from ls m) phis_are

    -- an inserted phi and a phi of the block have different numbers
    joined_apart : (own_block : BasicBlock) → slice_get func.blocks b ≡ Some own_block → (v : ℕ) → gives_any phis v ≡ true → (x : ℕ) → among x (joined_at func naming b) ≡ true
        → eqb (numbered (joined b x)) (numbered (own v)) ≡ false
    joined_apart own_block stands v given x is = ne_eqb (numbered (joined b x)) (numbered (own v)) (λ same.
        let place = among_at x (joined_at func naming b) is in
        let inside = slice_get_within (joined_at func naming b) place.0 x place.1 in
        let one : slice_get (pieces func table naming b) place.0 ≡ Some (inserted_phi func table naming numbered b x) =
        get_front (map (inserted_phi func table naming numbered b) (joined_at func naming b)) (expanded func table naming numbered b 0 (lines_at func b)) place.0
        (inserted_phi func table naming numbered b x) (get_map (inserted_phi func table naming numbered b) (joined_at func naming b) place.0 x place.1) in
        let phi = phi_found from v phis given in
        let within = slice_get_within phis phi.0 phi.1 phi.2 in
        let count = count_is in
        let in_lines : slice_get (lines_at func b) phi.0 ≡ Some phi.1 = sym (get_taken (lines_at func b) phi.0 (phi_count (lines_at func b)) (omega arith)) ∙ phi.2 in
        let phi_op = all_phis phi.0 phi.1 phi.2 in
        let other : slice_get (pieces func table naming b) (start_of func table naming b phi.0 + 0) ≡ Some (plain func table naming numbered b phi.0 phi.1) =
        piece_at func table naming numbered b phi.0 0 phi.1 (plain func table naming numbered b phi.0 phi.1) in_lines
        (ap (λ (ps : List Piece). slice_get ps 0) (one_piece func table naming numbered b phi.0 phi.1 phi.1.inst.op (phi_stays phi.1.inst.op phi_op))) in
        let first = defines_piece func table naming b place.0 (numbered (own v)) own_block (inserted_phi func table naming numbered b x) (joined b x) stands one refl same in
        let second = defines_piece func table naming b (start_of func table naming b phi.0 + 0) (numbered (own v)) own_block (plain func table naming numbered b phi.0 phi.1) (own v) stands other
        (ap (option_map own) (given_is phi.1.to v phi.3)) refl in
        let places = one_definition (now func table naming) (numbered (own v)) b place.0 b (start_of func table naming b phi.0 + 0) first second in
        let later = start_later b phi.0 in
        omega (arith, places, inside, later))

    pub edge_law : (own_block : BasicBlock) → slice_get func.blocks b ≡ Some own_block → (v : ℕ) → live_table func table b front v ≡ true
        → along from (phis_in (lines func table naming b)) (named (numbered (names_at func table naming b front v)))
        ≡ renamed numbered (names_at_end func table naming from) (along from phis (named v))
    edge_law own_block stands v alive = elim (cases_Bool (gives_any phis v)) [
      | inl given ↦
          ap (λ (name : Name). along from (phis_in (lines func table naming b)) (named (numbered name))) (front_name v ∙ ap (λ (t : Bool). if t then own v else naming.front b v) given)
          ∙ along_now (numbered (own v))
          ∙ inserted_miss from b (numbered (own v)) (joined_at func naming b) (phis_written b 0 phis) (joined_apart own_block stands v given)
          ∙ phis_hit from b v 0 phis all_phis given
      | inr none ↦
          ap (λ (name : Name). along from (phis_in (lines func table naming b)) (named (numbered name))) (front_name v ∙ ap (λ (t : Bool). if t then own v else naming.front b v) none)
          ∙ along_now (numbered (naming.front b v))
          ∙ kept v none (live_front v none alive)
          ∙ sym (ap (renamed numbered (names_at_end func table naming from)) (no_phi from v phis none))
    ]
      where
        kept : (v : ℕ) → gives_any phis v ≡ false → live_table func table b 0 v ≡ true
            → value_along from (inserted b (joined_at func naming b) ++ phis_written b 0 phis) (numbered (naming.front b v)) ≡ named (numbered (names_at_end func table naming from v))
        kept v none alive = elim (cases_Bool (naming.joins b v)) [
          | inl joins ↦
              let at = fits.at_join b v joins in
              ap (λ (name : Name). value_along from (inserted b (joined_at func naming b) ++ phis_written b 0 phis) (numbered name)) at.0
              ∙ inserted_hit from b v (joined_at func naming b) (phis_written b 0 phis) edge (filter_among (naming.joins b) v (pointers func) at.1 joins)
          | inr apart ↦
              let owned : numbers.owner (numbered (naming.front b v)) ≡ Some v = names_owner func table naming (live_table func table) fits numbered now_room numbers b 0 v in
              inserted_miss from b (numbered (naming.front b v)) (joined_at func naming b) (phis_written b 0 phis)
              (λ x is. number_apart func table naming (live_table func table) fits numbered now_room numbers (joined b x) x (numbered (naming.front b v)) v refl owned
              (λ same. true≢false (sym (among_filter (naming.joins b) x (pointers func) is).1 ∙ ap (naming.joins b) same ∙ apart)))
              ∙ phis_miss from b v (numbered (naming.front b v)) 0 phis owned none
              ∙ ap (λ (name : Name). named (numbered name)) (fits.at_edge from b v edge alive apart)
        ]

    -- what a phi puts for a live value is live at the end of the block before
    pub alive_along : (v u : ℕ) → live_table func table b front v ≡ true → along from phis (named v) ≡ named u → live_table func table from (length (lines_at func from)) u ≡ true
    alive_along v u alive is = elim (cases_Bool (gives_any phis v)) [
      | inl given ↦
          let phi = phi_found from v phis given in
          let within = slice_get_within phis phi.0 phi.1 phi.2 in
          let count = count_is in
          let in_lines : slice_get (lines_at func b) phi.0 ≡ Some phi.1 = sym (get_taken (lines_at func b) phi.0 (phi_count (lines_at func b)) (omega arith)) ∙ phi.2 in
          (table_closed func table).entries from b phi.0 u phi.1 edge in_lines (all_phis phi.0 phi.1 phi.2) (incoming_entry from u phi.1.inst (sym phi.4 ∙ is))
      | inr none ↦
          let both : Some v ≡ Some u = ap value_in (sym (no_phi from v phis none) ∙ is) in
          let same : v ≡ u = cc in
          subst (λ (n : ℕ). live_table func table from (length (lines_at func from)) n ≡ true) same ((table_closed func table).crosses from b v edge (live_front v none alive))
    ]
