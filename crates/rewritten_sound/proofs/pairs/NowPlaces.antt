-- The lines of a rewritten block by place: which line of the block before each stands for, and the groups among them.
use Rattle.std.proofs.Common.{◌≡◌, ℕ, zero, suc, ◌+◌, ◌-◌, ◌≤◌, Bool, true, false, eqb, List, [], ◌∷◌, ◌++◌, length, map, take, drop, refl, sym, ap, subst, ◌∙◌, inl, inr, arith}
use Rattle.std.specs.Prelude.{Option, Some, None, slice_get}
use Rattle.std.specs.List.{prefix_len}
use Rattle.std.proofs.lemmas.List.{length-append, length-map}
use Rattle.std.proofs.lemmas.List.Sums.{prefix_len-le-length}
use Rattle.std.proofs.lemmas.Option.{get_or_from_slice_get, slice_get_within}
use Rattle.std.proofs.lemmas.Bool.{eq-eqb}
use Rattle.list_laws.proofs.Places.{get_map, get_some, map_back, get_joined}
use Rattle.ir_ast.specs.declared.types.Ty.{Ty}
use Rattle.ir_ast.specs.declared.ops.Callee.{Callee}
use Rattle.ir_ast.specs.declared.ops.Op.TheVariants.{Call}
use Rattle.ir_ast.specs.declared.ops.Operand.{Operand}
use Rattle.ir_ast.specs.Callees.{is_leaf}
use Rattle.ir_ast.specs.Funcs.{Function}
use Rattle.ir_ast.specs.Faults.GroupShape.{is_statepoint}
use Rattle.ir_ast.specs.Faults.PhiEdges.{is_phi}
use Rattle.object_meaning.specs.Frames.{is_member}
use Rattle.object_meaning.specs.Jumps.{phi_count}
use Rattle.object_meaning.specs.Lines.{Line}
use Rattle.rewriting_forms.specs.Numbered.{among, is_call, line_at, lines_at, pointers}
use Rattle.rewriting_forms.specs.Liveness.{live_list, live_table}
use Rattle.rewriting_forms.specs.Names.{Name, Naming}
use Rattle.rewriting_forms.specs.Rewritten.{Piece, expanded, group, inserted_phi, joined_at, plain, relocate_of, result_of, statepoint}
use Rattle.rewriting_laws.specs.Laws.{IsPlain}
use Rattle.rewriting_laws.specs.Related.{Rewriting, piece_line}
use Rattle.rewriting_laws.proofs.JumpLemmas.{lines_split, one_piece, phi_lines, phis_count}
use Rattle.rewriting_laws.proofs.LiveLaws.{drop_from}
use Rattle.rewriting_laws.proofs.NameLemmas.{among_filter, at_rest, call_or_not, is_none, is_one}
use Rattle.rewritten_sound.proofs.definite.NowLaws.{number, pieces, text}
use Rattle.rewritten_sound.proofs.definite.PieceLaws.{PieceFrom, call_pieces, cut, for_line, from_join, from_line, offset, piece_at, piece_from, pieces_for, result_piece}
use Rattle.pair_facts.specs.Lines.{group_in, head_at, line_in, no_line}
use Rattle.pair_facts.proofs.GroupLaws.{members_head}
use Rattle.std.proofs.lemmas.Map.Keys.{any_passes_from_place}
use Rattle.object_meaning.proofs.LineLaws.{line_is}
use Rattle.pair_facts.proofs.OwnLaws.{head_none}

-- ---- lists

drop_mapped : {A B : Type 0} (f : A → B) (front : List A) (x : A) (ys : List A) → drop (suc (length front)) (map f (front ++ x ∷ ys)) ≡ map f ys
drop_mapped f [] x ys = refl
drop_mapped f (z ∷ front) x ys = drop_mapped f front x ys

-- those in front that pass, where what follows doesn't
passing : {A B : Type 0} (p : B → Bool) (f : A → B) (xs ys : List A) → ((i : ℕ) (x : A) → slice_get xs i ≡ Some x → p (f x) ≡ true)
    → prefix_len p (map f ys) ≡ 0 → take (prefix_len p (map f (xs ++ ys))) (map f (xs ++ ys)) ≡ map f xs
passing p f [] ys all none = ap (λ (n : ℕ). take n (map f ys)) none
passing p f (x ∷ xs) ys all none =
    let here = all 0 x refl in
    let rest = passing p f xs ys (λ i. all (suc i)) none in
    let e : 1 + prefix_len p (map f (xs ++ ys)) ≡ suc (prefix_len p (map f (xs ++ ys))) = omega arith in
    rw (here, e) (ap (λ zs. f x ∷ zs) rest)

only_one : {A : Type 0} (x y : A) (i : ℕ) → slice_get (x ∷ []) i ≡ Some y → (x ≡ y) × (i ≡ 0)
only_one x y zero is = (cc, refl)
only_one x y (suc i) is = absurd cc

-- ---- heads

module _ (func : Function) (table : List Operand) (naming : Naming) where
  abbrev pub to : Name → ℕ
  to = number func table naming

  abbrev pub written : Piece → Line
  written piece = piece_line (text func table naming) (number func table naming) piece

  -- the lines of a block of the rewritten function
  abbrev pub lines : ℕ → List Line
  lines b = map (piece_line (text func table naming) (number func table naming)) (pieces func table naming b)

  -- where the lines for a line begin
  abbrev pub start_of : ℕ → ℕ → ℕ
  start_of b k = offset func table naming (number func table naming) b k

  pub line_now : (b k i : ℕ) (line : Line) (piece : Piece) → slice_get (lines_at func b) k ≡ Some line
      → slice_get (pieces_for func table naming to b k line) i ≡ Some piece → slice_get (lines b) (start_of b k + i) ≡ Some (written piece)
  line_now b k i line piece at is =
      get_map (piece_line (text func table naming) (number func table naming)) (pieces func table naming b) (start_of b k + i) piece
      (piece_at func table naming to b k i line piece at is)

  -- ---- a line that is one line still

  pub plain_now : (b k : ℕ) (line : Line) → slice_get (lines_at func b) k ≡ Some line → is_call line.inst.op ≡ false
      → slice_get (lines b) (start_of b k) ≡ Some (written (plain func table naming to b k line))
  plain_now b k line at other =
      let e : start_of b k + 0 ≡ start_of b k = omega arith in
      ap (slice_get (lines b)) (sym e)
      ∙ line_now b k 0 line (plain func table naming to b k line) at (ap (λ (ps : List Piece). slice_get ps 0) (one_piece func table naming to b k line line.inst.op other))

  pub plain_next : (b k : ℕ) (line : Line) → slice_get (lines_at func b) k ≡ Some line → is_call line.inst.op ≡ false → start_of b (suc k) ≡ suc (start_of b k)
  plain_next b k line at other =
      let long : length (pieces_for func table naming to b k (line_at func b k)) ≡ 1 =
      ap length (for_line func table naming to b k line at ∙ one_piece func table naming to b k line line.inst.op other) in
      omega (arith, long)

  -- ---- a call of no leaf

  module _ (b k : ℕ) (line : Line) (callee : Callee) (types : List Ty) (at : slice_get (lines_at func b) k ≡ Some line) (op : line.inst.op ≡ Call callee types)
      (no_leaf : is_leaf callee ≡ false) where
    abbrev pub head : Piece
    head = statepoint func table naming to b k callee types line.inst

    abbrev pub members : List Piece
    members = group func table naming to b k line

    pub whole : pieces_for func table naming to b k line ≡ head ∷ members
    whole = call_pieces func table naming to b k line callee types false op no_leaf

    pub head_now : slice_get (lines b) (start_of b k) ≡ Some (written head)
    head_now =
        let e : start_of b k + 0 ≡ start_of b k = omega arith in
        ap (slice_get (lines b)) (sym e) ∙ line_now b k 0 line head at (ap (λ (ps : List Piece). slice_get ps 0) whole)

    pub member_now : (i : ℕ) (piece : Piece) → slice_get members i ≡ Some piece → slice_get (lines b) (start_of b k + suc i) ≡ Some (written piece)
    member_now i piece is = line_now b k (suc i) line piece at (ap (λ (ps : List Piece). slice_get ps (suc i)) whole ∙ is)

    pub call_next : start_of b (suc k) ≡ start_of b k + suc (length members)
    call_next =
        let long : length (pieces_for func table naming to b k (line_at func b k)) ≡ suc (length members) =
        ap length (for_line func table naming to b k line at ∙ whole) in
        omega (arith, long)

  -- ---- members of groups

  pub data MemberOf (b k i : ℕ) (line : Line) (piece : Piece) : Type 0 where
    is_result : (v : ℕ) → line.to ≡ Some v → piece ≡ result_piece func table naming to b k line v → MemberOf b k i line piece
    is_relocate : (v : ℕ) → among v (live_list func table b k) ≡ true → piece ≡ relocate_of func table naming to b k v → MemberOf b k i line piece

  result_of_is : (b k i : ℕ) (line : Line) (piece : Piece) (given : Option ℕ) → line.to ≡ given
      → slice_get (result_of func table naming to b k line given) i ≡ Some piece → MemberOf b k i line piece
  result_of_is b k i line piece None given at = absurd cc
  result_of_is b k i line piece (Some v) given at = is_result v given (sym (only_one (result_piece func table naming to b k line v) piece i at).0)

  pub member_of : (b k i : ℕ) (line : Line) (piece : Piece) → slice_get (group func table naming to b k line) i ≡ Some piece → MemberOf b k i line piece
  member_of b k i line piece at =
      elim (get_joined (result_of func table naming to b k line line.to) (map (relocate_of func table naming to b k) (live_list func table b k)) i piece at) [
        | inl result ↦ result_of_is b k i line piece line.to refl result
        | inr there ↦
            let before = map_back (relocate_of func table naming to b k) (live_list func table b k) there.0 piece there.2 in
            is_relocate before.before (any_passes_from_place (λ (x : ℕ). eqb x before.before) (live_list func table b k) there.0 before.before before.stands (eq-eqb before.before before.before refl)) before.is
      ]

  pub member_is : (b k i : ℕ) (line : Line) (piece : Piece) → MemberOf b k i line piece → is_member piece.inst.op ≡ true
  member_is b k i line piece (is_result v given same) = ap (λ (p : Piece). is_member p.inst.op) same
  member_is b k i line piece (is_relocate v listed same) = ap (λ (p : Piece). is_member p.inst.op) same

  -- ---- where a line comes from

  pub data ComesFrom (b j : ℕ) (now : Line) : Type 0 where
    from_inserted : (v : ℕ) → naming.joins b v ≡ true → now ≡ written (inserted_phi func table naming to b v) → ComesFrom b j now
    from_plain : (k : ℕ) (line : Line) → slice_get (lines_at func b) k ≡ Some line → is_call line.inst.op ≡ false → j ≡ start_of b k
        → now ≡ written (plain func table naming to b k line) → ComesFrom b j now
    from_call : (k : ℕ) (line : Line) (callee : Callee) (types : List Ty) → slice_get (lines_at func b) k ≡ Some line → line.inst.op ≡ Call callee types
        → is_leaf callee ≡ false → j ≡ start_of b k → now ≡ written (statepoint func table naming to b k callee types line.inst) → ComesFrom b j now
    from_member : (k i : ℕ) (line : Line) (callee : Callee) (types : List Ty) (piece : Piece) → slice_get (lines_at func b) k ≡ Some line → line.inst.op ≡ Call callee types
        → is_leaf callee ≡ false → j ≡ start_of b k + suc i → slice_get (group func table naming to b k line) i ≡ Some piece → now ≡ written piece → ComesFrom b j now

  in_group : (b j k i : ℕ) (line : Line) (callee : Callee) (types : List Ty) (piece : Piece) → slice_get (lines_at func b) k ≡ Some line → line.inst.op ≡ Call callee types
      → is_leaf callee ≡ false → j ≡ start_of b k + i
      → slice_get (statepoint func table naming to b k callee types line.inst ∷ group func table naming to b k line) i ≡ Some piece → ComesFrom b j (written piece)
  in_group b j k zero line callee types piece at op no_leaf place is =
      from_call k line callee types at op no_leaf (omega (arith, place)) (ap written (let e : statepoint func table naming to b k callee types line.inst ≡ piece = cc in sym e))
  in_group b j k (suc i) line callee types piece at op no_leaf place is = from_member k i line callee types piece at op no_leaf place is refl

  of_piece : (b j : ℕ) (piece : Piece) → PieceFrom func table naming to b j piece → ComesFrom b j (written piece)
  of_piece b j piece (from_join v at same) =
      let parts = among_filter (naming.joins b) v (pointers func) (any_passes_from_place (λ (x : ℕ). eqb x v) (joined_at func naming b) j v at (eq-eqb v v refl)) in
      from_inserted v parts.1 (ap written same)
  of_piece b j piece (from_line k i line at place there) = elim (call_or_not line.inst.op) [
    | is_none other ↦
        let one = only_one (plain func table naming to b k line) piece i (ap (λ (ps : List Piece). slice_get ps i) (sym (one_piece func table naming to b k line line.inst.op other)) ∙ there) in
        let none = one.1 in
        from_plain k line at other (omega (arith, place, none)) (ap written (sym one.0))
    | is_one callee types op no_leaf ↦
        in_group b j k i line callee types piece at op no_leaf place
        (ap (λ (ps : List Piece). slice_get ps i) (sym (call_pieces func table naming to b k line callee types false op no_leaf)) ∙ there)
  ]

  pub comes_from : (b j : ℕ) (now : Line) → slice_get (lines b) j ≡ Some now → ComesFrom b j now
  comes_from b j now at =
      let back = map_back (piece_line (text func table naming) (number func table naming)) (pieces func table naming b) j now at in
      subst (ComesFrom b j) (sym back.is) (of_piece b j back.before (piece_from func table naming to b j back.before back.stands))

  -- ---- in a function before liveness

  module _ (room : ℕ) (plain_form : IsPlain func room) where
    abbrev pub whole_rewriting : Rewriting
    whole_rewriting = record {
      func = func;
      table = table;
      naming = naming;
      live = live_table func table;
      number = number func table naming;
      text = text func table naming;
      room = room;
      now_room = 0;
    }

    -- phis stand first, the inserted ones before all
    pub phis_now : (b : ℕ) → phi_count (lines b) ≡ start_of b (phi_count (lines_at func b))
    phis_now b =
        let few = prefix_len-le-length (λ (line : Line). is_phi line.inst.op) (lines_at func b) in
        let here = cut func table naming to b (phi_count (lines_at func b)) (omega (arith, few)) in
        let rest = expanded func table naming to b (phi_count (lines_at func b)) (drop (phi_count (lines_at func b)) (lines_at func b)) in
        let count = phis_count whole_rewriting room plain_form b in
        let one = ap length (lines_split whole_rewriting room plain_form b)
        ∙ length-append (phi_lines whole_rewriting room plain_form b) (map (piece_line (text func table naming) (number func table naming)) rest) in
        let rest_long = length-map rest (piece_line (text func table naming) (number func table naming)) in
        let all = length-map (pieces func table naming b) (piece_line (text func table naming) (number func table naming)) in
        let other = ap length here.whole ∙ length-append here.front rest in
        let front = here.long in
        omega (arith, count, one, rest_long, all, other, front)

    pub plain_head : (b k : ℕ) (line : Line) → slice_get (lines_at func b) k ≡ Some line → is_call line.inst.op ≡ false → head_at (lines b) (start_of b k) ≡ None
    plain_head b k line at other =
        let there = line_is (lines b) (start_of b k) (written (plain func table naming to b k line)) (plain_now b k line at other) in
        head_none (lines b) (start_of b k) (ap (λ (l : Line). is_statepoint l.inst.op) there ∙ plain_form.no_statepoint b k line at)
        (ap (λ (l : Line). is_member l.inst.op) there ∙ plain_form.no_member b k line at)

    -- what follows a group is no member
    apart : (b k : ℕ) (rest : List Line) → drop k (lines_at func b) ≡ rest → prefix_len (λ (line : Line). is_member line.inst.op) (map written (expanded func table naming to b k rest)) ≡ 0
    apart b k [] place = refl
    apart b k (line ∷ rest) place = elim (call_or_not line.inst.op) [
      | is_one callee types op no_leaf ↦
          ap (λ (ps : List Piece). prefix_len (λ (line : Line). is_member line.inst.op) (map written (ps ++ expanded func table naming to b (suc k) rest)))
          (call_pieces func table naming to b k line callee types false op no_leaf)
      | is_none other ↦
          let at = (at_rest (lines_at func b) k line rest place).0 in
          ap (λ (ps : List Piece). prefix_len (λ (line : Line). is_member line.inst.op) (map written (ps ++ expanded func table naming to b (suc k) rest)))
          (one_piece func table naming to b k line line.inst.op other)
          ∙ rw (plain_form.no_member b k line at) refl
    ]

    module _ (b k : ℕ) (line : Line) (callee : Callee) (types : List Ty) (at : slice_get (lines_at func b) k ≡ Some line) (op : line.inst.op ≡ Call callee types)
        (no_leaf : is_leaf callee ≡ false) where
      abbrev part : List Piece
      part = group func table naming to b k line

      pub member_head : (i : ℕ) → i ≤ length part → head_at (lines b) (start_of b k + i) ≡ Some (start_of b k)
      member_head i within =
          members_head (lines b) (start_of b k) (start_of b k + i)
          (ap (λ (l : Line). is_statepoint l.inst.op) (line_is (lines b) (start_of b k) (written (statepoint func table naming to b k callee types line.inst)) (head_now b k line callee types at op no_leaf)))
          (omega arith)
          (λ place low high.
          let some = get_some part (place - suc (start_of b k)) (omega arith) in
          let e : start_of b k + suc (place - suc (start_of b k)) ≡ place = omega arith in
          let there = line_is (lines b) place (written some.0) (ap (slice_get (lines b)) (sym e) ∙ member_now b k line callee types at op no_leaf (place - suc (start_of b k)) some.0 some.1) in
          ap (λ (l : Line). is_member l.inst.op) there ∙ member_is b k (place - suc (start_of b k)) line some.0 (member_of b k (place - suc (start_of b k)) line some.0 some.1))

      pub group_now : group_in (lines b) (start_of b k) ≡ map written part
      group_now =
          let within = slice_get_within (lines_at func b) k line at in
          let here = cut func table naming to b k (omega (arith, within)) in
          let rest = expanded func table naming to b (suc k) (drop (suc k) (lines_at func b)) in
          let point = statepoint func table naming to b k callee types line.inst in
          let all : pieces func table naming b ≡ here.front ++ point ∷ (part ++ rest) =
          here.whole ∙ ap (λ (ls : List Line). here.front ++ expanded func table naming to b k ls) (drop_from (lines_at func b) k line at)
          ∙ ap (λ (ps : List Piece). here.front ++ (ps ++ rest)) (whole b k line callee types at op no_leaf) in
          let tail : drop (suc (start_of b k)) (lines b) ≡ map written (part ++ rest) =
          ap (λ (n : ℕ). drop (suc n) (lines b)) (sym here.long) ∙ ap (λ (ps : List Piece). drop (suc (length here.front)) (map written ps)) all
          ∙ drop_mapped written here.front point (part ++ rest) in
          ap (λ (ls : List Line). take (prefix_len (λ (line : Line). is_member line.inst.op) ls) ls) tail
          ∙ passing (λ (line : Line). is_member line.inst.op) written part rest
          (λ i piece is. member_is b k i line piece (member_of b k i line piece is)) (apart b (suc k) (drop (suc k) (lines_at func b)) refl)
