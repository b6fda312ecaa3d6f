-- Where the lines of a rewritten block come from: inserted phis, and then the lines for each line of the block.
use Rattle.std.proofs.Common.{◌≡◌, ℕ, zero, suc, ◌+◌, ◌≤◌, Bool, true, eqb, if◌then◌else◌, List, [], ◌∷◌, ◌++◌, length, map, drop, refl, sym, ap, ◌∙◌, ◌⊎◌, inl, inr, append_assoc, append-nil, arith}
use Rattle.std.specs.Prelude.{Option, Some, None, slice_get}
use Rattle.std.proofs.lemmas.Bool.{eqb-true}
use Rattle.std.proofs.lemmas.List.{length-append, length-map}
use Rattle.std.proofs.lemmas.Option.{slice_get_within}
use Rattle.list_laws.proofs.Places.{get_front, get_map, get_past, get_some, map_back, drop_whole, get_joined}
use Rattle.ir_ast.specs.declared.types.Ty.{Ty}
use Rattle.ir_ast.specs.declared.ops.Callee.{Callee}
use Rattle.ir_ast.specs.declared.ops.Op.TheVariants.{Call, GcResult}
use Rattle.ir_ast.specs.declared.ops.Operand.{Operand}
use Rattle.ir_ast.specs.Callees.{is_leaf}
use Rattle.ir_ast.specs.Funcs.{Function}
use Rattle.object_meaning.specs.Lines.{Line}
use Rattle.rewriting_forms.specs.Numbered.{among, line_at, lines_at, named}
use Rattle.rewriting_forms.specs.Liveness.{live_list}
use Rattle.rewriting_forms.specs.Names.{Name, Naming, own, token}
use Rattle.rewriting_forms.specs.Rewritten.{Piece, expanded, expanded_by, group, inserted_phi, joined_at, pieces_of, plain, relocate_of, result_of, statepoint}
use Rattle.rewriting_laws.proofs.LiveExact.{any_found}
use Rattle.rewriting_laws.proofs.LiveLaws.{drop_from}
use Rattle.rewriting_laws.proofs.NameLemmas.{at_rest, line_is}

-- a value stands at a place of a list
pub among_at : (v : ℕ) (xs : List ℕ) → among v xs ≡ true → (i : ℕ) × (slice_get xs i ≡ Some v)
among_at v xs is = let at = any_found (λ (x : ℕ). eqb x v) xs is in (at.0, at.2 ∙ ap (λ x. Some x) (eqb-true at.1 v at.3))

module _ (func : Function) (table : List Operand) (naming : Naming) (number : Name → ℕ) where
  -- the lines for a line
  abbrev pub pieces_for : ℕ → ℕ → Line → List Piece
  pieces_for b k line = expanded_by func table naming number b k line line.inst.op

  pub call_pieces : (b k : ℕ) (line : Line) (callee : Callee) (types : List Ty) (leaf : Bool) → line.inst.op ≡ Call callee types → is_leaf callee ≡ leaf
      → pieces_for b k line ≡ (if leaf then plain func table naming number b k line ∷ []
      else statepoint func table naming number b k callee types line.inst ∷ group func table naming number b k line)
  call_pieces b k line callee types leaf is leaf_is =
      ap (expanded_by func table naming number b k line) is
      ∙ ap (λ (t : Bool). if t then plain func table naming number b k line ∷ []
      else statepoint func table naming number b k callee types line.inst ∷ group func table naming number b k line) leaf_is

  -- the members of a group
  abbrev pub result_piece : ℕ → ℕ → Line → ℕ → Piece
  result_piece b k line x = record {
    name = Some (own x);
    inst = record { result = None; op = GcResult; ty = line.inst.ty; operands = named (number (token b k)) ∷ []; labels = []; bundle = [] };
  }

  pub result_at : (b k : ℕ) (line : Line) (x : ℕ) → line.to ≡ Some x → slice_get (group func table naming number b k line) 0 ≡ Some (result_piece b k line x)
  result_at b k line x is =
      ap (λ (to : Option ℕ). slice_get (result_of func table naming number b k line to ++ map (relocate_of func table naming number b k) (live_list func table b k)) 0) is

  pub relocate_at : (b k : ℕ) (line : Line) (v : ℕ) → among v (live_list func table b k) ≡ true
      → (i : ℕ) × (slice_get (group func table naming number b k line) i ≡ Some (relocate_of func table naming number b k v))
  relocate_at b k line v listed =
      let place = among_at v (live_list func table b k) listed in
      let front = result_of func table naming number b k line line.to in (
        length front + place.0,
        get_past front (map (relocate_of func table naming number b k) (live_list func table b k)) place.0
            ∙ get_map (relocate_of func table naming number b k) (live_list func table b k) place.0 v place.1,
      )

  -- where the lines for the line at a place begin
  abbrev pub offset : ℕ → ℕ → ℕ
  offset b zero = length (joined_at func naming b)
  offset b (suc k) = offset b k + length (pieces_for b k (line_at func b k))

  pub record Cut (b k : ℕ) : Type 0 where
    pub front : List Piece
    pub whole : pieces_of func table naming number b ≡ front ++ expanded func table naming number b k (drop k (lines_at func b))
    pub long : length front ≡ offset b k

  pub for_line : (b k : ℕ) (line : Line) → slice_get (lines_at func b) k ≡ Some line → pieces_for b k (line_at func b k) ≡ pieces_for b k line
  for_line b k line at = ap (pieces_for b k) (line_is func b k line at)

  pub cut : (b k : ℕ) → k ≤ length (lines_at func b) → Cut b k
  cut b zero within = record {
    front = map (inserted_phi func table naming number b) (joined_at func naming b);
    whole = refl;
    long = length-map (joined_at func naming b) (inserted_phi func table naming number b);
  }
  cut b (suc k) within =
      let before = cut b k (omega arith) in
      let line = get_some (lines_at func b) k (omega arith) in
      record {
        front = before.front ++ pieces_for b k line.0;
        whole = before.whole
            ∙ (ap (λ (lines : List Line). before.front ++ expanded func table naming number b k lines) (drop_from (lines_at func b) k line.0 line.1)
            ∙ sym (append_assoc before.front (pieces_for b k line.0) (expanded func table naming number b (suc k) (drop (suc k) (lines_at func b)))));
        long = length-append before.front (pieces_for b k line.0)
            ∙ (ap (λ n. n + length (pieces_for b k line.0)) before.long ∙ ap (λ (ps : List Piece). offset b k + length ps) (sym (for_line b k line.0 line.1)));
      }

  pub whole_length : (b : ℕ) → length (pieces_of func table naming number b) ≡ offset b (length (lines_at func b))
  whole_length b =
      let all = cut b (length (lines_at func b)) (omega arith) in
      ap length (all.whole ∙ (ap (λ (lines : List Line). all.front ++ expanded func table naming number b (length (lines_at func b)) lines) (drop_whole (lines_at func b)) ∙ append-nil all.front)) ∙ all.long

  pub piece_at : (b k i : ℕ) (line : Line) (piece : Piece) → slice_get (lines_at func b) k ≡ Some line → slice_get (pieces_for b k line) i ≡ Some piece
      → slice_get (pieces_of func table naming number b) (offset b k + i) ≡ Some piece
  piece_at b k i line piece at is =
      let before = cut b k (let below = slice_get_within (lines_at func b) k line at in omega arith) in
      let rest = expanded func table naming number b (suc k) (drop (suc k) (lines_at func b)) in
      ap (λ (ps : List Piece). slice_get ps (offset b k + i)) (before.whole ∙ ap (λ (lines : List Line). before.front ++ expanded func table naming number b k lines) (drop_from (lines_at func b) k line at))
      ∙ (ap (λ n. slice_get (before.front ++ (pieces_for b k line ++ rest)) (n + i)) (sym before.long)
      ∙ (get_past before.front (pieces_for b k line ++ rest) i ∙ get_front (pieces_for b k line) rest i piece is))

  -- a piece is an inserted phi, or one of those for a line
  pub data PieceFrom (b j : ℕ) (piece : Piece) : Type 0 where
    from_join : (v : ℕ) → slice_get (joined_at func naming b) j ≡ Some v → piece ≡ inserted_phi func table naming number b v → PieceFrom b j piece
    from_line : (k i : ℕ) (line : Line) → slice_get (lines_at func b) k ≡ Some line → j ≡ offset b k + i → slice_get (pieces_for b k line) i ≡ Some piece
        → PieceFrom b j piece

  pub piece_from : (b j : ℕ) (piece : Piece) → slice_get (pieces_of func table naming number b) j ≡ Some piece → PieceFrom b j piece
  piece_from b j piece at =
      elim (get_joined (map (inserted_phi func table naming number b) (joined_at func naming b)) (expanded func table naming number b 0 (lines_at func b)) j piece at) [
        | inl here ↦
            let from = map_back (inserted_phi func table naming number b) (joined_at func naming b) j piece here in
            from_join from.before from.stands from.is
        | inr there ↦
            let long = length-map (joined_at func naming b) (inserted_phi func table naming number b) in
            go 0 (lines_at func b) refl there.0 there.2 (let e = there.1 in omega arith)
      ]
    where
      go : (k : ℕ) (lines : List Line) → drop k (lines_at func b) ≡ lines → (i : ℕ) → slice_get (expanded func table naming number b k lines) i ≡ Some piece → j ≡ offset b k + i
          → PieceFrom b j piece
      go k [] place i is at_place = absurd cc
      go k (line ∷ lines) place i is at_place =
          let here = at_rest (lines_at func b) k line lines place in
          elim (get_joined (pieces_for b k line) (expanded func table naming number b (suc k) lines) i piece is) [
            | inl one ↦ from_line k i line here.0 at_place one
            | inr more ↦
                let e = more.1 in
                let same : length (pieces_for b k (line_at func b k)) ≡ length (pieces_for b k line) = ap length (for_line b k line here.0) in
                go (suc k) lines here.1 more.0 more.2 (omega arith)
          ]
