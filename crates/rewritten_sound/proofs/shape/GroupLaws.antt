-- Each line of the rewritten function is well formed, and its groups are in shape.
use Rattle.std.proofs.Common.{◌≡◌, ℕ, zero, suc, ◌+◌, ◌-◌, ◌<◌, true, false, not, eqb, List, [], ◌∷◌, ◌++◌, length, map, drop, refl, sym, ap, subst, ◌∙◌, inl, inr, arith, Bool}
use Rattle.std.specs.Prelude.{Option, Some, None, IfSome, slice_get}
use Rattle.std.specs.List.{All, AllZip, Contains}
use Rattle.std.specs.Option.{option_map_or}
use Rattle.std.proofs.Math.Seq.{drop-append_seam}
use Rattle.std.proofs.lemmas.Bool.{eq-eqb}
use Rattle.std.proofs.lemmas.List.{drop-map, length-map}
use Rattle.std.proofs.lemmas.List.Elements.{All-nil}
use Rattle.std.proofs.lemmas.Option.{none-some, slice_get_within}
use Rattle.list_laws.proofs.Contents.{all_from_at, all_contained}
use Rattle.list_laws.proofs.Places.{filter_map_back, get_map, get_some, map_back, get_joined}
use Rattle.sp_ids.specs.declared.ids.ValueId.{ValueId}
use Rattle.ir_ast.specs.declared.types.Ty.{Ty}
use Rattle.ir_ast.specs.declared.types.Ty.TheVariants.{Ptr, Token}
use Rattle.ir_ast.specs.declared.ops.Callee.{Callee}
use Rattle.ir_ast.specs.declared.ops.Op.{Op}
use Rattle.ir_ast.specs.declared.ops.Op.TheVariants as ops
use Rattle.ir_ast.specs.declared.ops.Operand.{Operand}
use Rattle.ir_ast.specs.declared.ops.Operand.TheVariants as operands
use Rattle.ir_ast.specs.Callees.{is_leaf}
use Rattle.ir_ast.specs.Insts.{Instruction}
use Rattle.ir_ast.specs.Blocks.{BasicBlock}
use Rattle.ir_ast.specs.Funcs.{Function, instructions_of}
use Rattle.ir_ast.specs.Modules.{ModuleContent}
use Rattle.ir_ast.specs.Operands.{operands_of, same_operand as same_as, value_in, values_used}
use Rattle.ir_ast.specs.Scope.{scope_of}
use Rattle.ir_ast.specs.Values.{value_types}
use Rattle.ir_ast.specs.Faults.GroupShape.{Group, GroupsInShape, RelocateInShape, ResultInShape, ShapeOf, UsesNoToken, entries_of, is_part, live_entries, is_statepoint, IsApart, holds_live, is_held}
use Rattle.ir_ast.specs.Faults.TypeClash.{Fits, IsTyped}
use Rattle.ir_ast.specs.Types.{is_pointer}
use Rattle.ir_cfg.specs.DefiniteUses.{Stands, text_place}
use Rattle.ir_cfg.proofs.UsedLaws.{used_type}
use Rattle.definite_assign.proofs.TextLemmas.{stands_in_text}
use Rattle.object_meaning.specs.Frames.{is_member}
use Rattle.object_meaning.specs.Lines.{Line}
use Rattle.rewriting_forms.specs.Numbered.{among, base_at, calls, is_call, lines_at, named, pointers, preds}
use Rattle.rewriting_forms.specs.Liveness.{live_list}
use Rattle.rewriting_forms.specs.Names as forms
use Rattle.rewriting_forms.specs.Names.{Name, Naming, names_at, names_at_end, own}
use Rattle.rewriting_forms.specs.Rewritten.{Piece, entries, group, index_of, inserted_phi, joined_at, piece_inst, plain, relocate_of, renamed, result_of, statepoint}
use Rattle.rewriting_laws.proofs.JumpLemmas.{one_piece}
use Rattle.rewriting_laws.proofs.NameLemmas.{among_filter, call_or_not, is_none, is_one}
use Rattle.rewritten_sound.proofs.definite.NowLaws.{block_forth, block_now, defines_piece, insts_now, now, number, pieces, text}
use Rattle.rewritten_sound.proofs.definite.PieceLaws.{PieceFrom, call_pieces, from_join, from_line, offset, piece_at, piece_from, pieces_for, result_piece}
use Rattle.rewritten_sound.proofs.definite.ListedLaws as lists
use Rattle.rewritten_sound.specs.WellFormed.{Carries, IsWellFormed, LineCarries}
use Rattle.rewritten_sound.proofs.shape.KeptLaws.{carried_all}
use Rattle.rewritten_sound.proofs.shape.NamedLaws.{listed_pointer, pointer_is, text_back}
use Rattle.rewritten_sound.proofs.shape.PassLaws.{IsNamed, entry_of, index_within, listed_some, named_type, phi_well, plain_carries, plain_well, point_of, point_well, relocate_well, result_well, statepoint_carries, statepoint_well}
use Rattle.std.proofs.lemmas.Map.Keys.{any_passes_from_place}
use Rattle.std.proofs.lemmas.List.Folds.{list_all-map}
use Rattle.std.proofs.lemmas.List.Sums.{list_all-from_AllPass}
use Rattle.base_definite.proofs.LinePlaces.{line_from}

pub only_one : {A : Type 0} (x y : A) (i : ℕ) → slice_get (x ∷ []) i ≡ Some y → x ≡ y
only_one x y zero is = cc
only_one x y (suc i) is = absurd cc

-- what a line over carried operands uses has no type that no value had
module _ (before now_types : List Ty) where
  zip_back : (k : ℕ) (given others : List Operand) (o : Operand) → AllZip (Carries before now_types) given others → slice_get others k ≡ Some o
      → (x : Operand) × (slice_get given k ≡ Some x) × Carries before now_types x o
  zip_back k given [] o carries at = absurd cc
  zip_back k [] (other ∷ others) o carries at = absurd carries
  zip_back zero (first ∷ given) (other ∷ others) o carries at =
      let same : other ≡ o = cc in (first, refl, subst (λ (y : Operand). Carries before now_types first y) same carries.0)
  zip_back (suc k) (first ∷ given) (other ∷ others) o carries at = zip_back k given others o carries.1 at

  carried_type : (x o : Operand) (w : ℕ) (ty bad : Ty) → Carries before now_types x o → value_in o ≡ Some w → Fits before x ty → slice_get now_types w ≡ Some bad
      → (v : ℕ) × (slice_get before v ≡ Some bad)
  carried_type (operands.Value value) o w ty bad carries value_at fits at =
      let number : Some (carries.0).0 ≡ Some w = ap value_in (sym carries.1) ∙ value_at in
      let same : (carries.0).0 ≡ w = cc in
      let type : Some ty ≡ Some bad = sym (carries.2 ty fits) ∙ (ap (slice_get now_types) same ∙ at) in
      (value.0, fits ∙ type)
  carried_type (operands.Int word) o w ty bad carries value_at fits at = absurd (let none : None ≡ Some w = ap value_in (sym carries) ∙ value_at in cc)
  carried_type operands.Null o w ty bad carries value_at fits at = absurd (let none : None ≡ Some w = ap value_in (sym carries) ∙ value_at in cc)
  carried_type (operands.Fun called) o w ty bad carries value_at fits at = absurd (let none : None ≡ Some w = ap value_in (sym carries) ∙ value_at in cc)

pub shape_plain : (func : Function) (place : ℕ) (inst : Instruction) (op : Op) → is_statepoint op ≡ false → is_member op ≡ false
    → IsApart func inst → ShapeOf func place inst op
shape_plain func place inst (ops.Statepoint id callee types) no_statepoint no_member holds = absurd cc
shape_plain func place inst ops.GcResult no_statepoint no_member holds = absurd cc
shape_plain func place inst ops.GcRelocate no_statepoint no_member holds = absurd cc
shape_plain func place inst op no_statepoint no_member holds = holds

pub no_live_entries : (op : Op) (given : List Operand) → is_statepoint op ≡ false → live_entries op given ≡ []
no_live_entries (ops.Statepoint id callee types) given none = absurd cc
no_live_entries op given none = refl

module _ (content other : ModuleContent) (func : Function) (table : List Operand) (naming : Naming) (room : ℕ) (is : IsNamed content other func table naming room) where
  abbrev to : Name → ℕ
  to = number func table naming

  abbrev after : Function
  after = now func table naming

  abbrev written : Piece → Instruction
  written piece = piece_inst (text func table naming) piece

  abbrev IsWellNow : Instruction → Type 0
  IsWellNow = IsWellFormed other after

  -- ---- each line is well formed

  call_is : (line : Line) (callee : Callee) (types : List Ty) → line.inst.op ≡ ops.Call callee types → is_leaf callee ≡ false → calls line ≡ true
  call_is line callee types op no_leaf = ap is_call op ∙ ap not no_leaf

  -- a member of a group is its call's result or a relocate of a listed pointer
  pub data MemberOf (b k i : ℕ) (line : Line) (piece : Piece) : Type 0 where
    is_result : (v : ℕ) → line.to ≡ Some v → i ≡ 0 → piece ≡ result_piece func table naming to b k line v → MemberOf b k i line piece
    is_relocate : (v : ℕ) → among v (live_list func table b k) ≡ true → piece ≡ relocate_of func table naming to b k v → MemberOf b k i line piece

  result_of_is : (b k i : ℕ) (line : Line) (piece : Piece) (given : Option ℕ) → line.to ≡ given → slice_get (result_of func table naming to b k line given) i ≡ Some piece → MemberOf b k i line piece
  result_of_is b k i line piece None given at = absurd cc
  result_of_is b k zero line piece (Some v) given at =
      let same : result_piece func table naming to b k line v ≡ piece = cc in is_result v given refl (sym same)
  result_of_is b k (suc i) line piece (Some v) given at = absurd cc

  pub member_of : (b k i : ℕ) (line : Line) (piece : Piece) → slice_get (group func table naming to b k line) i ≡ Some piece → MemberOf b k i line piece
  member_of b k i line piece at =
      elim (get_joined (result_of func table naming to b k line line.to) (map (relocate_of func table naming to b k) (live_list func table b k)) i piece at) [
        | inl result ↦ result_of_is b k i line piece line.to refl result
        | inr there ↦
            let before = map_back (relocate_of func table naming to b k) (live_list func table b k) there.0 piece there.2 in
            is_relocate before.before (any_passes_from_place (λ (x : ℕ). eqb x before.before) (live_list func table b k) there.0 before.before before.stands (eq-eqb before.before before.before refl)) before.is
      ]

  member_well : (b k i : ℕ) (line : Line) (piece : Piece) (callee : Callee) (types : List Ty) → slice_get (lines_at func b) k ≡ Some line → line.inst.op ≡ ops.Call callee types
      → is_leaf callee ≡ false → MemberOf b k i line piece → IsWellNow (written piece)
  member_well b k i line piece callee types at op no_leaf (is_result v given first same) =
      subst (λ (p : Piece). IsWellNow (written p)) (sym same) (result_well content other func table naming room is b k v line callee types at op (call_is line callee types op no_leaf) given)
  member_well b k i line piece callee types at op no_leaf (is_relocate v listed same) =
      subst (λ (p : Piece). IsWellNow (written p)) (sym same) (relocate_well content other func table naming room is b k v line at (call_is line callee types op no_leaf) listed)

  group_well : (b k i : ℕ) (line : Line) (piece : Piece) (callee : Callee) (types : List Ty) → slice_get (lines_at func b) k ≡ Some line → line.inst.op ≡ ops.Call callee types
      → is_leaf callee ≡ false → slice_get (statepoint func table naming to b k callee types line.inst ∷ group func table naming to b k line) i ≡ Some piece → IsWellNow (written piece)
  group_well b k zero line piece callee types at op no_leaf found =
      let same : statepoint func table naming to b k callee types line.inst ≡ piece = cc in
      subst (λ (p : Piece). IsWellNow (written p)) same (statepoint_well content other func table naming room is b k line callee types at op (is.arguments b k line callee types at op) no_leaf)
  group_well b k (suc i) line piece callee types at op no_leaf found = member_well b k i line piece callee types at op no_leaf (member_of b k i line piece found)

  piece_well : (b j : ℕ) (block : BasicBlock) (piece : Piece) → slice_get func.blocks b ≡ Some block → PieceFrom func table naming to b j piece → IsWellNow (written piece)
  piece_well b j block piece found (from_join v at same) =
      let parts = among_filter (naming.joins b) v (pointers func) (any_passes_from_place (λ (x : ℕ). eqb x v) (joined_at func naming b) j v at (eq-eqb v v refl)) in
      let below = slice_get_within func.blocks b block found in
      subst (λ (p : Piece). IsWellNow (written p)) (sym same) (phi_well content other func table naming room is b v below parts.1)
  piece_well b j block piece found (from_line k i line at place there) = elim (call_or_not line.inst.op) [
    | is_none plain_op ↦
        let same = only_one (plain func table naming to b k line) piece i (ap (λ (ps : List Piece). slice_get ps i) (sym (one_piece func table naming to b k line line.inst.op plain_op)) ∙ there) in
        subst (λ (p : Piece). IsWellNow (written p)) same (plain_well content other func table naming room is b k line at)
    | is_one callee types op no_leaf ↦
        group_well b k i line piece callee types at op no_leaf (ap (λ (ps : List Piece). slice_get ps i) (sym (call_pieces func table naming to b k line callee types false op no_leaf)) ∙ there)
  ]

  pub record FromPiece (b j : ℕ) (inst : Instruction) : Type 0 where
    pub own_block : BasicBlock
    pub in_function : slice_get func.blocks b ≡ Some own_block
    pub piece : Piece
    pub stands : slice_get (pieces func table naming b) j ≡ Some piece
    pub from : PieceFrom func table naming to b j piece
    pub is_written : inst ≡ written piece

  pub from_piece : (b j : ℕ) (inst : Instruction) → Stands after b j inst → FromPiece b j inst
  from_piece b j inst stands =
      let here = block_now func table naming b stands.block stands.in_function in
      let back = map_back (piece_inst (text func table naming)) (pieces func table naming b) j inst (ap (λ (x : BasicBlock). slice_get x.insts j) (sym here.is) ∙ stands.in_block) in
      record {
        own_block = here.own;
        in_function = here.stands;
        piece = back.before;
        stands = back.stands;
        from = piece_from func table naming to b j back.before back.stands;
        is_written = back.is;
      }

  -- each line of the rewritten function
  pub all_well : (b j : ℕ) (inst : Instruction) → Stands after b j inst → IsWellNow inst
  all_well b j inst stands =
      let one = from_piece b j inst stands in
      subst IsWellNow (sym one.is_written) (piece_well b j one.own_block one.piece one.in_function one.from)

  -- ---- lines that are no members use no token

  carried_no_token : (inst changed : Instruction) → LineCarries (value_types func) (value_types after) inst changed → IsTyped (scope_of content func) inst → UsesNoToken after changed
  carried_no_token inst changed carries typed =
      all_from_at (λ value. slice_get (value_types after) value ≡ Some Token → ⊥) (values_used changed) (λ k w at bad.
      let item = filter_map_back value_in (operands_of changed) w k at in
      let back = zip_back (value_types func) (value_types after) item.place (operands_of inst) (operands_of changed) item.item
      (carried_all (value_types func) (value_types after) inst changed carries) item.stands in
      let type = used_type (scope_of content func) inst typed item.place back.0 back.1 in
      let wrong = carried_type (value_types func) (value_types after) back.0 item.item w type.0 Token back.2 item.gives type.1 bad in
      is.tokens wrong.0 wrong.1)

  plain_shape : (b k place : ℕ) (line : Line) → slice_get (lines_at func b) k ≡ Some line → ShapeOf after place (written (plain func table naming to b k line)) line.inst.op
  plain_shape b k place line at =
      shape_plain after place (written (plain func table naming to b k line)) line.inst.op (is.no_statepoint b k line at) (is.no_member b k line at) (
        carried_no_token line.inst (written (plain func table naming to b k line)) (plain_carries content other func table naming room is b k line at) (is.lines b k line at).typed,
        subst (All (λ entry. Fits (value_types after) entry Ptr)) (sym (no_live_entries line.inst.op (written (plain func table naming to b k line)).operands (is.no_statepoint b k line at)))
            (All-nil (λ entry. Fits (value_types after) entry Ptr)),
      )

  join_shape : (b v place : ℕ) → b < length func.blocks → naming.joins b v ≡ true → IsApart after (written (inserted_phi func table naming to b v))
  join_shape b v place below joins = (
    all_from_at (λ value. slice_get (value_types after) value ≡ Some Token → ⊥) (values_used phi) (λ k w at bad.
        let item = filter_map_back value_in (operands_of phi) w k at in
        elim (get_joined phi.operands [] item.place item.item item.stands) [
          | inr there ↦ absurd (let none = there.2 in none-some item.item none)
          | inl here ↦
              let from = map_back (λ (p : ℕ). named (to (names_at_end func table naming p v))) (preds func b) item.place item.item here in
              let type = named_type content other func table naming room is from.before (length (lines_at func from.before)) v Ptr (pointer_is func v pointer) in
              let number : Some (to (names_at_end func table naming from.before v)) ≡ Some w = ap value_in (sym from.is) ∙ item.gives in
              let same : to (names_at_end func table naming from.before v) ≡ w = cc in
              let wrong : Some Ptr ≡ Some Token = sym type ∙ (ap (slice_get (value_types after)) same ∙ bad) in
              absurd cc
        ]),
    All-nil (λ entry. Fits (value_types after) entry Ptr),
  )
    where
      phi : Instruction
      phi = written (inserted_phi func table naming to b v)

      pointer : among v (pointers func) ≡ true
      pointer = ((is.fits).at_join b v joins).1

  -- ---- a statepoint and its members

  module _ (b k : ℕ) (line : Line) (callee : Callee) (types : List Ty) (at : slice_get (lines_at func b) k ≡ Some line) (op : line.inst.op ≡ ops.Call callee types) (no_leaf : is_leaf callee ≡ false) where
    abbrev pub head : Instruction
    head = written (statepoint func table naming to b k callee types line.inst)

    -- its entries, renamed
    entries_now : drop (length types) head.operands ≡ map (renamed to (names_at func table naming b k)) (entries func table b k)
    entries_now =
        drop-map (renamed to (names_at func table naming b k)) (length types) (line.inst.operands ++ entries func table b k)
        ∙ ap (map (renamed to (names_at func table naming b k)))
        (ap (λ n. drop n (line.inst.operands ++ entries func table b k)) (is.arguments b k line callee types at op) ∙ drop-append_seam line.inst.operands (entries func table b k))

    entry_fits_now : (place : ℕ) (o : Operand) → slice_get (map (renamed to (names_at func table naming b k)) (entries func table b k)) place ≡ Some o → Fits (value_types after) o Ptr
    entry_fits_now place o there =
        let before = map_back (renamed to (names_at func table naming b k)) (entries func table b k) place o there in
        elim (entry_of func table b k place before.before before.stands) [
          | inl null ↦ subst (λ (x : Operand). Fits (value_types after) x Ptr) (sym (before.is ∙ ap (renamed to (names_at func table naming b k)) null)) refl
          | inr listed ↦
              subst (λ (x : Operand). Fits (value_types after) x Ptr) (sym (before.is ∙ ap (renamed to (names_at func table naming b k)) listed.1))
              (named_type content other func table naming room is b k listed.0 Ptr (pointer_is func listed.0 (listed_pointer func table b k listed.0 listed.2)))
        ]

    -- a pointer of the bundle is listed, and so stands among the entries
    held_now : (entry : Ty × Operand) → Contains line.inst.bundle entry → is_held (entries_of head) entry.0 (renamed to (names_at func table naming b k) entry.1) ≡ true
    held_now entry inside = by entry.0 entry.1 refl refl
      where
        by : (ty : Ty) (o : Operand) → entry.0 ≡ ty → entry.1 ≡ o → is_held (entries_of head) ty (renamed to (names_at func table naming b k) o) ≡ true
        by Ptr (operands.Value value) type same =
            let place = lists.entry_of func table b k value.0 (lists.held_listed func table b k line at is.held entry inside (ap is_pointer type) value.0 same) in
            let now = renamed to (names_at func table naming b k) (named value.0) in
            let stands : slice_get (entries_of head) place.0 ≡ Some now =
            ap (λ (all : List Operand). slice_get all place.0) entries_now ∙ get_map (renamed to (names_at func table naming b k)) (entries func table b k) place.0 (named value.0) place.2 in
            any_passes_from_place (λ (entry : Operand). same_as entry now) (entries_of head) place.0 now stands
            (eq-eqb (to (names_at func table naming b k value.0)) (to (names_at func table naming b k value.0)) refl)
        by Ptr (operands.Int word) type same = refl
        by Ptr operands.Null type same = refl
        by Ptr (operands.Fun called) type same = refl
        by ty o type same = refl

    holds_now : holds_live head ≡ true
    holds_now =
        let bundle_now : Ty × Operand → Ty × Operand = λ entry. (entry.0, renamed to (names_at func table naming b k) entry.1) in
        let held : Ty × Operand → Bool = λ entry. is_held (entries_of head) entry.0 entry.1 in
        list_all-map held bundle_now line.inst.bundle
        ∙ list_all-from_AllPass (λ entry. held (bundle_now entry)) line.inst.bundle (all_contained (λ entry. held (bundle_now entry) ≡ true) line.inst.bundle held_now)

    statepoint_shape : IsApart after head × (holds_live head ≡ true)
    statepoint_shape = (
      (
        carried_no_token (point_of func table b k line callee types) head (statepoint_carries content other func table naming room is b k line callee types)
            (point_well content func table b k line callee types (is.lines b k line at) op (is.arguments b k line callee types at op) no_leaf).typed,
        subst (All (λ entry. Fits (value_types after) entry Ptr)) (sym entries_now)
            (all_from_at (λ entry. Fits (value_types after) entry Ptr) (map (renamed to (names_at func table naming b k)) (entries func table b k)) entry_fits_now),
      ),
      holds_now,
    )

    -- where the statepoint stands in the text, and each member behind it
    own_block : (block : BasicBlock) × (slice_get func.blocks b ≡ Some block)
    own_block = let from = (line_from func b k line at).stands in (from.block, from.in_function)

    stands_now : (j : ℕ) (piece : Piece) → slice_get (pieces func table naming b) j ≡ Some piece → Stands after b j (written piece)
    stands_now j piece there = record {
      block = record { name = (own_block.0).name; insts = insts_now func table naming b };
      in_function = block_forth func table naming b own_block.0 own_block.1;
      in_block = get_map (piece_inst (text func table naming)) (pieces func table naming b) j piece there;
    }

    whole : pieces_for func table naming to b k line ≡ statepoint func table naming to b k callee types line.inst ∷ group func table naming to b k line
    whole = call_pieces func table naming to b k line callee types false op no_leaf

    abbrev start : ℕ
    start = offset func table naming to b k

    head_piece : slice_get (pieces func table naming b) (start + 0) ≡ Some (statepoint func table naming to b k callee types line.inst)
    head_piece = piece_at func table naming to b k 0 line (statepoint func table naming to b k callee types line.inst) at (ap (λ (ps : List Piece). slice_get ps 0) whole)

    member_piece : (i : ℕ) (piece : Piece) → slice_get (group func table naming to b k line) i ≡ Some piece → slice_get (pieces func table naming b) (start + suc i) ≡ Some piece
    member_piece i piece there = piece_at func table naming to b k (suc i) line piece at (ap (λ (ps : List Piece). slice_get ps (suc i)) whole ∙ there)

    part_is : (i : ℕ) (piece : Piece) → MemberOf b k i line piece → is_part (to (forms.token b k)) (written piece) ≡ true
    part_is i piece (is_result v given first same) =
        subst (λ (p : Piece). is_part (to (forms.token b k)) (written p) ≡ true) (sym same) (eq-eqb (to (forms.token b k)) (to (forms.token b k)) refl)
    part_is i piece (is_relocate v listed same) =
        subst (λ (p : Piece). is_part (to (forms.token b k)) (written p) ≡ true) (sym same) (eq-eqb (to (forms.token b k)) (to (forms.token b k)) refl)

    group_long : (i j : ℕ) (piece : Piece) → slice_get (group func table naming to b k line) i ≡ Some piece → j < i → (other_piece : Piece) × (slice_get (group func table naming to b k line) j ≡ Some other_piece)
    group_long i j piece there below =
        let within = slice_get_within (group func table naming to b k line) i piece there in
        get_some (group func table naming to b k line) j (omega arith)

    -- the group of a member
    abbrev group_of : (i : ℕ) (piece : Piece) → slice_get (group func table naming to b k line) i ≡ Some piece → Group after (to (forms.token b k)) (text_place after b (start + suc i))
    group_of i piece there = record {
      head = text_place after b (start + 0);
      statepoint = head;
      stands = stands_in_text after b (start + 0) head (stands_now (start + 0) (statepoint func table naming to b k callee types line.inst) head_piece);
      op = refl;
      gives = (defines_piece func table naming b (start + 0) (to (forms.token b k)) own_block.0 (statepoint func table naming to b k callee types line.inst) (forms.token b k) own_block.1 head_piece refl refl).numbered;
      before = omega arith;
      between = λ p past early.
          let j = p - suc (text_place after b (start + 0)) in
          let member = group_long i j piece there (omega arith) in
          let here : text_place after b (start + suc j) ≡ p = omega arith in
          let stands = stands_in_text after b (start + suc j) (written member.0) (stands_now (start + suc j) member.0 (member_piece j member.0 member.1)) in
          subst (λ (found : Option Instruction). IfSome found (λ inst. is_part (to (forms.token b k)) inst ≡ true)) (sym (ap (slice_get (instructions_of after.blocks)) (sym here) ∙ stands))
          (part_is j member.0 (member_of b k j line member.0 member.1));
    }

    pub entries_count : length (entries_of head) ≡ length (entries func table b k)
    entries_count = ap length entries_now ∙ length-map (entries func table b k) (renamed to (names_at func table naming b k))

    derived_entry : (v : ℕ) → among v (live_list func table b k) ≡ true
        → (value : ValueId) × (slice_get (entries_of head) (index_of func table b k (named v)) ≡ Some (operands.Value value))
    derived_entry v listed =
        let place = lists.entry_of func table b k v listed in
        let index : index_of func table b k (named v) ≡ place.0 = ap (λ (at : Option ℕ). option_map_or (λ place. place) at 0) place.1 in (
          record { 0 = to (names_at func table naming b k v) },
          ap (λ (all : List Operand). slice_get all (index_of func table b k (named v))) entries_now
              ∙ (ap (slice_get (map (renamed to (names_at func table naming b k)) (entries func table b k))) index
              ∙ get_map (renamed to (names_at func table naming b k)) (entries func table b k) place.0 (named v) place.2),
        )

    member_shape : (i : ℕ) (piece : Piece) → slice_get (group func table naming to b k line) i ≡ Some piece → MemberOf b k i line piece
        → ShapeOf after (text_place after b (start + suc i)) (written piece) (written piece).op
    member_shape i piece there (is_result v given first same) =
        let next : (start + 0) + 1 ≡ start + suc i = omega arith in
        let shape : ResultInShape after (text_place after b (start + suc i)) (written (result_piece func table naming to b k line v)) = record {
          token = record { 0 = to (forms.token b k) };
          operands = refl;
          group = group_of i piece there;
          directly = omega arith;
          type = refl;
        } in
        subst (λ (p : Piece). ShapeOf after (text_place after b (start + suc i)) (written p) (written p).op) (sym same) shape
    member_shape i piece there (is_relocate v listed same) =
        let count = entries_count in
        let some = listed_some func table b k v listed in
        let below = index_within content other func table naming room is b k (base_at table v) some in
        let shape : RelocateInShape after (text_place after b (start + suc i)) (written (relocate_of func table naming to b k v)) = record {
          token = record { 0 = to (forms.token b k) };
          base = index_of func table b k (base_at table v);
          derived = index_of func table b k (named v);
          operands = refl;
          group = group_of i piece there;
          base_entry = omega (arith, count, below);
          derived_entry = derived_entry v listed;
        } in
        subst (λ (p : Piece). ShapeOf after (text_place after b (start + suc i)) (written p) (written p).op) (sym same) shape

  -- ---- the groups of the function

  group_shape : (b k i : ℕ) (line : Line) (piece : Piece) (callee : Callee) (types : List Ty) → slice_get (lines_at func b) k ≡ Some line → line.inst.op ≡ ops.Call callee types
      → is_leaf callee ≡ false → slice_get (statepoint func table naming to b k callee types line.inst ∷ group func table naming to b k line) i ≡ Some piece
      → ShapeOf after (text_place after b (offset func table naming to b k + i)) (written piece) (written piece).op
  group_shape b k zero line piece callee types at op no_leaf there =
      let same : statepoint func table naming to b k callee types line.inst ≡ piece = cc in
      subst (λ (p : Piece). ShapeOf after (text_place after b (offset func table naming to b k + 0)) (written p) (written p).op) same (statepoint_shape b k line callee types at op no_leaf)
  group_shape b k (suc i) line piece callee types at op no_leaf there = member_shape b k line callee types at op no_leaf i piece there (member_of b k i line piece there)

  piece_shape : (b j : ℕ) (block : BasicBlock) (piece : Piece) → slice_get func.blocks b ≡ Some block → PieceFrom func table naming to b j piece
      → ShapeOf after (text_place after b j) (written piece) (written piece).op
  piece_shape b j block piece in_function (from_join v at same) =
      let parts = among_filter (naming.joins b) v (pointers func) (any_passes_from_place (λ (x : ℕ). eqb x v) (joined_at func naming b) j v at (eq-eqb v v refl)) in
      let below = slice_get_within func.blocks b block in_function in
      subst (λ (p : Piece). ShapeOf after (text_place after b j) (written p) (written p).op) (sym same) (join_shape b v (text_place after b j) below parts.1)
  piece_shape b j block piece in_function (from_line k i line at place there) = elim (call_or_not line.inst.op) [
    | is_none plain_op ↦
        let same = only_one (plain func table naming to b k line) piece i (ap (λ (ps : List Piece). slice_get ps i) (sym (one_piece func table naming to b k line line.inst.op plain_op)) ∙ there) in
        subst (λ (p : Piece). ShapeOf after (text_place after b j) (written p) (written p).op) same (plain_shape b k (text_place after b j) line at)
    | is_one callee types op no_leaf ↦
        subst (λ (n : ℕ). ShapeOf after (text_place after b n) (written piece) (written piece).op) (sym place)
        (group_shape b k i line piece callee types at op no_leaf (ap (λ (ps : List Piece). slice_get ps i) (sym (call_pieces func table naming to b k line callee types false op no_leaf)) ∙ there))
  ]

  pub groups_in_shape : GroupsInShape after
  groups_in_shape place inst at =
      let there = text_back after.blocks place inst at in
      let one = from_piece there.0 there.1 inst (record { block = there.2; in_function = there.3; in_block = there.4 }) in
      subst (λ (n : ℕ). ShapeOf after n inst inst.op) there.5
      (subst (λ (i : Instruction). ShapeOf after (text_place after there.0 there.1) i i.op) (sym one.is_written)
      (piece_shape there.0 there.1 one.own_block one.piece one.in_function one.from))
