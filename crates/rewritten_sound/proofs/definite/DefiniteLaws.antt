-- Each use of the rewritten function is definite.
use Rattle.std.proofs.Common.{◌≡◌, ℕ, zero, suc, ◌+◌, ◌≤◌, Bool, true, false, not, eqb, ◌&&◌, ◌||◌, if◌then◌else◌, List, [], ◌∷◌, ◌++◌, length, map, refl, sym, ap, subst, ◌∙◌, ◌⊎◌, inl, inr, arith}
use Rattle.std.specs.Prelude.{Option, Some, None, slice_get}
use Rattle.std.specs.List.{Contains, filter_map}
use Rattle.std.specs.Option.{option_map_or}
use Rattle.std.proofs.lemmas.Bool.{and_parts, cases_lt, or_cases, or_right, eq-eqb, true≢false, not-true}
use Rattle.std.proofs.lemmas.Option.{slice_get_within}
use Rattle.list_laws.proofs.Places.{filter_map_back, get_map, map_back, get_joined}
use Rattle.list_laws.proofs.Contents.{contains_get, contains_one, get_contained}
use Rattle.sp_ids.specs.declared.ids.BlockId.{BlockId}
use Rattle.sp_ids.specs.declared.ids.ValueId.{ValueId}
use Rattle.ir_ast.specs.declared.types.Ty.{Ty}
use Rattle.ir_ast.specs.declared.ops.Callee.{Callee}
use Rattle.ir_ast.specs.declared.ops.Op.TheVariants.{Call}
use Rattle.ir_ast.specs.declared.ops.Operand.{Operand}
use Rattle.ir_ast.specs.declared.ops.Operand.TheVariants as operands
use Rattle.ir_ast.specs.Bases.{IsBaseTable}
use Rattle.ir_ast.specs.Callees.{is_leaf}
use Rattle.ir_ast.specs.Insts.{Instruction}
use Rattle.ir_ast.specs.Blocks.{BasicBlock}
use Rattle.ir_ast.specs.Funcs.{Function}
use Rattle.ir_ast.specs.Operands.{value_in, values_used}
use Rattle.ir_ast.specs.Faults.PhiEdges.{PhisAreRight, is_phi}
use Rattle.ir_cfg.specs.DefiniteUses.{Stands, Uses, UsesAreDefinite, by_entry, by_line, in_arguments, text_place}
use Rattle.ir_cfg.specs.Graphs.{graph_of, preds_of}
use Rattle.ir_cfg.proofs.UsedLaws.{use_within}
use Rattle.object_meaning.specs.Lines.{Line}
use Rattle.rewriting_forms.specs.Numbered.{among, gives, line_at, lines_at, named, pointers, preds}
use Rattle.rewriting_forms.specs.Liveness.{any_held, is_live, is_live_after, live_list, live_table, is_use}
use Rattle.rewriting_forms.specs.Liveness as liveness
use Rattle.rewriting_forms.specs.Names.{Name, Names, Naming, names_at, names_at_end, own, token}
use Rattle.rewriting_forms.specs.Rewritten.{Piece, entries, group, joined_at, phi_operands, piece_inst, plain, relocate_of, renamed, result_of, statepoint}
use Rattle.rewriting_laws.specs.Laws.{Edge, Fits, IsNumbering}
use Rattle.rewriting_laws.proofs.JumpLemmas.{one_piece}
use Rattle.rewriting_laws.proofs.LiveExact.{any_found, live_complete, live_sound, use_is}
use Rattle.rewriting_laws.proofs.LiveLaws.{table_closed}
use Rattle.rewriting_laws.proofs.NameLemmas.{among_filter, call_or_not, is_none, is_one, line_is}
use Rattle.base_definite.proofs.MeetLaws.{meets_or_not}
use Rattle.base_definite.specs.Paths.{HasDefiniteBases}
use Rattle.base_definite.proofs.base_paths.UndefinedLaws.{Undefined, behind_edge, behind_line, undefined_unused}
use Rattle.base_definite.proofs.LinePlaces.{line_from}
use Rattle.rewritten_sound.specs.LeadsOut.{PhisAreBare}
use Rattle.rewritten_sound.proofs.definite.LineLaws.{gives_defines, lines_length}
use Rattle.rewritten_sound.proofs.definite.EdgeLaws.{edge_from}
use Rattle.rewritten_sound.proofs.definite.PieceLaws.{PieceFrom, call_pieces, from_join, from_line, offset, piece_at, piece_from, pieces_for}
use Rattle.rewritten_sound.proofs.definite.NowLaws.{block_now, now, number, pieces, text}
use Rattle.rewritten_sound.proofs.definite.CleanLaws.{Came, Clean, came_to, clean_end, clean_there}
use Rattle.rewritten_sound.proofs.definite.UsedLaws.{edge_block, edge_contains, held_used, in_table, live_defined, phi_edge, phis_agree, use_undefined, uses_entry, uses_operand}
use Rattle.std.proofs.lemmas.Map.Keys.{any_passes_from_place}

-- ---- what renamed operands use

abbrev option_label : Option BlockId → ℕ → Bool
option_label label b = option_map_or (λ (l : BlockId). eqb l.0 b) label false

abbrev entry_operand : Ty × Operand → Operand
entry_operand entry = entry.1

renamed_value : (to : Name → ℕ) (names : Names) (o : Operand) (m : ℕ) → value_in (renamed to names o) ≡ Some m → (u : ℕ) × (o ≡ named u) × (to (names u) ≡ m)
renamed_value to names (operands.Value value) m is = (value.0, refl, cc)
renamed_value to names (operands.Int word) m is = absurd cc
renamed_value to names operands.Null m is = absurd cc
renamed_value to names (operands.Fun called) m is = absurd cc

-- an operand with this value stands in the one list or in the other
abbrev StandsIn : List Operand → List Operand → ℕ → Type 0
StandsIn first second u = ((place : ℕ) × (slice_get first place ≡ Some (named u))) ⊎ ((place : ℕ) × (slice_get second place ≡ Some (named u)))

renamed_used : (to : Name → ℕ) (names : Names) (given : List Operand) (bundle : List (Ty × Operand)) (m : ℕ)
    → Contains (filter_map value_in (map (renamed to names) given ++ map entry_operand (map (λ (entry : Ty × Operand). (entry.0, renamed to names entry.1)) bundle))) m
    → (u : ℕ) × (to (names u) ≡ m) × StandsIn given (map entry_operand bundle) u
renamed_used to names given bundle m within =
    let place = get_contained (filter_map value_in all) m within in
    let from = filter_map_back value_in all m place.0 place.1 in
    elim (get_joined (map (renamed to names) given) (map entry_operand (map again bundle)) from.place from.item from.stands) [
      | inl first ↦
          let before = map_back (renamed to names) given from.place from.item first in
          let value = renamed_value to names before.before m (ap value_in (sym before.is) ∙ from.gives) in
          (value.0, value.2, inl (from.place, before.stands ∙ ap (λ o. Some o) value.1))
      | inr second ↦
          let outer = map_back entry_operand (map again bundle) second.0 from.item second.2 in
          let before = map_back again bundle second.0 outer.before outer.stands in
          let is : renamed to names (before.before).1 ≡ from.item = sym (ap entry_operand before.is) ∙ sym outer.is in
          let value = renamed_value to names (before.before).1 m (ap value_in is ∙ from.gives) in
          (value.0, value.2, inr (second.0, get_map entry_operand bundle second.0 before.before before.stands ∙ ap (λ o. Some o) value.1))
    ]
  where
    again : Ty × Operand → Ty × Operand
    again entry = (entry.0, renamed to names entry.1)

    all : List Operand
    all = map (renamed to names) given ++ map entry_operand (map again bundle)

only_one : {A : Type 0} (x y : A) (i : ℕ) → slice_get (x ∷ []) i ≡ Some y → x ≡ y
only_one x y zero is = cc
only_one x y (suc i) is = absurd cc

module _ (func : Function) (table : List Operand) (naming : Naming) where
  abbrev to : Name → ℕ
  to = number func table naming

  phi_operand_at : (labels : List BlockId) (given : List Operand) (e : ℕ) (label : BlockId) (operand : Operand) → slice_get labels e ≡ Some label
      → slice_get (phi_operands func table naming to labels given) e ≡ Some operand
      → (o : Operand) × (slice_get given e ≡ Some o) × (operand ≡ renamed to (names_at_end func table naming label.0) o)
  phi_operand_at [] given e label operand at is = absurd cc
  phi_operand_at (l ∷ labels) [] e label operand at is = absurd cc
  phi_operand_at (l ∷ labels) (o ∷ given) zero label operand at is =
      let same : l ≡ label = cc in
      let now_is : renamed to (names_at_end func table naming l.0) o ≡ operand = cc in
      (o, refl, sym now_is ∙ ap (λ (x : BlockId). renamed to (names_at_end func table naming x.0) o) same)
  phi_operand_at (l ∷ labels) (o ∷ given) (suc e) label operand at is = phi_operand_at labels given e label operand at is

  no_null : (t : Bool) (place u : ℕ) → slice_get (if t then operands.Null ∷ [] else []) place ≡ Some (named u) → ⊥
  no_null true zero u is = cc
  no_null true (suc place) u is = cc
  no_null false place u is = cc

  entries_named : (b k place u : ℕ) → slice_get (entries func table b k) place ≡ Some (named u) → among u (live_list func table b k) ≡ true
  entries_named b k place u at = elim (get_joined _ (map (λ (v : ℕ). named v) (live_list func table b k)) place (named u) at) [
    | inl null ↦ absurd (no_null _ place u null)
    | inr there ↦
        let before = map_back (λ (v : ℕ). named v) (live_list func table b k) there.0 (named u) there.2 in
        let both : Some u ≡ Some before.before = ap value_in before.is in
        let same : before.before ≡ u = cc in
        any_passes_from_place (λ (x : ℕ). eqb x u) (live_list func table b k) there.0 before.before before.stands (eq-eqb before.before u same)
  ]

  -- a member of a group uses its token alone
  record IsMember (b k : ℕ) (piece : Piece) : Type 0 where
    no_phi : is_phi piece.inst.op ≡ false
    first : (m : ℕ) → Contains (values_used (piece_inst (text func table naming) piece)) m → m ≡ to (token b k)

  result_member : (b k : ℕ) (line : Line) (given : Option ℕ) (i : ℕ) (piece : Piece) → slice_get (result_of func table naming to b k line given) i ≡ Some piece → IsMember b k piece
  result_member b k line None i piece at = absurd cc
  result_member b k line (Some x) i piece at =
      subst (IsMember b k) (only_one _ piece i at) (record { no_phi = refl; first = λ m within. sym (contains_one (to (token b k)) m within) })

  member_of : (b k : ℕ) (line : Line) (i : ℕ) (piece : Piece) → slice_get (group func table naming to b k line) i ≡ Some piece → IsMember b k piece
  member_of b k line i piece at =
      elim (get_joined (result_of func table naming to b k line line.to) (map (relocate_of func table naming to b k) (live_list func table b k)) i piece at) [
        | inl result ↦ result_member b k line line.to i piece result
        | inr relocate ↦
            let before = map_back (relocate_of func table naming to b k) (live_list func table b k) relocate.0 piece relocate.2 in
            subst (IsMember b k) (sym before.is) (record { no_phi = refl; first = λ m within. sym (contains_one (to (token b k)) m within) })
      ]

  no_phi_in_group : (b k i : ℕ) (line : Line) (callee : Callee) (types : List Ty) (piece : Piece)
      → slice_get (statepoint func table naming to b k callee types line.inst ∷ group func table naming to b k line) i ≡ Some piece → is_phi piece.inst.op ≡ true → ⊥
  no_phi_in_group b k zero line callee types piece at one =
      let same : statepoint func table naming to b k callee types line.inst ≡ piece = cc in
      true≢false (sym one ∙ ap (λ (p : Piece). is_phi p.inst.op) (sym same))
  no_phi_in_group b k (suc i) line callee types piece at one = true≢false (sym one ∙ (member_of b k line i piece at).no_phi)

  module _ (fits : Fits func table naming (live_table func table)) (room : ℕ) (numbers : IsNumbering func table naming.joins (number func table naming) room) (merged : ℕ → ValueId)
      (has : HasDefiniteBases func merged) (bases : IsBaseTable func merged table) (phis : PhisAreRight func) (bare : PhisAreBare func) (m : ℕ) (high : length func.args ≤ m) where
    abbrev CleanAt : ℕ → ℕ → Type 0
    CleanAt = Clean func table naming fits m

    abbrev CameTo : ℕ → ℕ → Type 0
    CameTo = Came func table naming fits m

    abbrev names_here : ℕ → ℕ → Names
    names_here = names_at func table naming

    undefined_live : (b k u : ℕ) → CleanAt b k → live_table func table b k u ≡ true → to (names_here b k u) ≡ m → (length func.args ≤ u) × Undefined func u b k
    undefined_live b k u clean alive is =
        let before = clean u alive is in
        let own_is : to (own u) ≡ m = ap to (sym before.1) ∙ is in (
          elim (cases_lt u (length func.args)) [
            | inr above ↦ above
            | inl below ↦ (let same = numbers.arguments u below in absurd (omega (arith, own_is, same, high)))
          ],
          before.0,
        )

    no_line_use : (b k u : ℕ) (line : Line) → slice_get (lines_at func b) k ≡ Some line → is_phi line.inst.op ≡ false → CleanAt b k
        → StandsIn line.inst.operands (map entry_operand line.inst.bundle) u → to (names_here b k u) ≡ m → ⊥
    no_line_use b k u line stands no_phi clean (inl place) is =
        let undefined = undefined_live b k u clean ((table_closed func table).uses b k place.0 u line stands no_phi place.1) is in
        undefined_unused func has.definite u undefined.0 (text_place func b k) b k
        (by_line b k u line.inst (line_from func b k line stands).stands no_phi (uses_operand line.inst place.0 u place.1)) undefined.1
    no_line_use b k u line stands no_phi clean (inr place) is =
        let undefined = undefined_live b k u clean ((table_closed func table).held b k place.0 u line stands place.1) is in
        undefined_unused func has.definite u undefined.0 (text_place func b k) b k
        (by_line b k u line.inst (line_from func b k line stands).stands no_phi (uses_entry line.inst place.0 u place.1)) undefined.1

    -- an entry of a live list
    no_listed : (b k u : ℕ) (line : Line) → slice_get (lines_at func b) k ≡ Some line → CleanAt b k → among u (live_list func table b k) ≡ true → to (names_here b k u) ≡ m → ⊥
    no_listed b k u line stands clean listed is =
        let parts = among_filter (λ (v : ℕ). is_live_after func table b k v && not (gives (line_at func b k) v)) u (pointers func) listed in
        let both = and_parts (is_live_after func table b k u) (not (gives (line_at func b k) u)) parts.1 in
        let line_same = line_is func b k line stands in
        let kept : gives line u ≡ false = ap (λ (l : Line). gives l u) (sym line_same) ∙ not-true (gives (line_at func b k) u) both.1 in
        let alive = (table_closed func table).later b k u line stands kept (or_right (not (among u (pointers func))) (is_live_after func table b k u) both.0) in
        let undefined = undefined_live b k u clean alive is in
        elim (or_cases (any_held func table u (line_at func b k).inst) (is_live func table b (suc k) u) both.0) [
          | inl held_there ↦
              let holds : any_held func table u line.inst ≡ true = ap (λ (l : Line). any_held func table u l.inst) (sym line_same) ∙ held_there in
              let at = any_found (λ (entry : Ty × Operand). is_use func table u entry.1) line.inst.bundle holds in
              use_undefined func table merged has bases bare u undefined.0 (at.1).1 (use_is func table u (at.1).1 at.3) b k (text_place func b k)
              (held_used func table merged has bases bare b k line (at.1).1 stands
              (contains_get (map entry_operand line.inst.bundle) at.0 (at.1).1 (get_map entry_operand line.inst.bundle at.0 at.1 at.2)))
              undefined.1
          | inr next ↦
              live_defined func table merged has bases bare u undefined.0 b (suc k) (live_sound func table u b (suc k) next)
              (behind_line b k line.inst undefined.1 (line_from func b k line stands).stands (gives_defines func u b k line stands kept))
        ]

    -- ---- a use by a line

    plain_use : (b k : ℕ) (line : Line) → slice_get (lines_at func b) k ≡ Some line → is_phi line.inst.op ≡ false → CleanAt b k
        → Contains (values_used (piece_inst (text func table naming) (plain func table naming to b k line))) m → ⊥
    plain_use b k line stands no_phi clean within =
        let here = subst (λ (t : Bool). Contains (filter_map value_in ((if t then phi_operands func table naming to line.inst.labels line.inst.operands else map (renamed to (names_here b k)) line.inst.operands)
        ++ map entry_operand (map (λ (entry : Ty × Operand). (entry.0, renamed to (names_here b k) entry.1)) line.inst.bundle))) m) no_phi within in
        let from = renamed_used to (names_here b k) line.inst.operands line.inst.bundle m here in
        no_line_use b k from.0 line stands no_phi clean from.2 from.1

    statepoint_use : (b k : ℕ) (line : Line) (callee : Callee) (types : List Ty) → slice_get (lines_at func b) k ≡ Some line → line.inst.op ≡ Call callee types → CleanAt b k
        → Contains (values_used (piece_inst (text func table naming) (statepoint func table naming to b k callee types line.inst))) m → ⊥
    statepoint_use b k line callee types stands op clean within =
        let from = renamed_used to (names_here b k) (line.inst.operands ++ entries func table b k) line.inst.bundle m within in
        by from.0 from.1 from.2
      where
        by : (u : ℕ) → to (names_here b k u) ≡ m → StandsIn (line.inst.operands ++ entries func table b k) (map entry_operand line.inst.bundle) u → ⊥
        by u is (inr place) = no_line_use b k u line stands (ap is_phi op) clean (inr place) is
        by u is (inl place) = elim (get_joined line.inst.operands (entries func table b k) place.0 (named u) place.1) [
          | inl own_operand ↦ no_line_use b k u line stands (ap is_phi op) clean (inl (place.0, own_operand)) is
          | inr there ↦ no_listed b k u line stands clean (entries_named b k there.0 u there.2) is
        ]

    group_use : (b j k i : ℕ) (line : Line) (callee : Callee) (types : List Ty) (piece : Piece) → slice_get (lines_at func b) k ≡ Some line → line.inst.op ≡ Call callee types
        → is_leaf callee ≡ false → j ≡ offset func table naming to b k + i → CameTo b j
        → slice_get (statepoint func table naming to b k callee types line.inst ∷ group func table naming to b k line) i ≡ Some piece
        → Contains (values_used (piece_inst (text func table naming) piece)) m → ⊥
    group_use b j k zero line callee types piece stands op other place came at within =
        let same : statepoint func table naming to b k callee types line.inst ≡ piece = cc in
        let below = slice_get_within (lines_at func b) k line stands in
        statepoint_use b k line callee types stands op (clean_there func table naming fits m b j k came (omega arith) (omega arith))
        (subst (λ (p : Piece). Contains (values_used (piece_inst (text func table naming) p)) m) (sym same) within)
    group_use b j k (suc i) line callee types piece stands op other place came at within =
        let member = member_of b k line i piece at in
        let is = member.first m within in
        let head : slice_get (pieces_for func table naming to b k line) 0 ≡ Some (statepoint func table naming to b k callee types line.inst) =
        ap (λ (ps : List Piece). slice_get ps 0) (call_pieces func table naming to b k line callee types false op other) in
        came.none (offset func table naming to b k + 0) (statepoint func table naming to b k callee types line.inst) (token b k) (omega arith)
        (piece_at func table naming to b k 0 line (statepoint func table naming to b k callee types line.inst) stands head) refl (sym is)

    line_use : (b j k i : ℕ) (line : Line) (piece : Piece) → slice_get (lines_at func b) k ≡ Some line → j ≡ offset func table naming to b k + i → CameTo b j
        → slice_get (pieces_for func table naming to b k line) i ≡ Some piece → is_phi piece.inst.op ≡ false
        → Contains (values_used (piece_inst (text func table naming) piece)) m → ⊥
    line_use b j k i line piece stands place came at no_phi within = elim (call_or_not line.inst.op) [
      | is_none other ↦
          let one = only_one (plain func table naming to b k line) piece i (ap (λ (ps : List Piece). slice_get ps i) (sym (one_piece func table naming to b k line line.inst.op other)) ∙ at) in
          let below = slice_get_within (lines_at func b) k line stands in
          plain_use b k line stands (ap (λ (p : Piece). is_phi p.inst.op) one ∙ no_phi) (clean_there func table naming fits m b j k came (omega arith) (omega arith))
          (subst (λ (p : Piece). Contains (values_used (piece_inst (text func table naming) p)) m) (sym one) within)
      | is_one callee types op other ↦
          group_use b j k i line callee types piece stands op other place came
          (ap (λ (ps : List Piece). slice_get ps i) (sym (call_pieces func table naming to b k line callee types false op other)) ∙ at) within
    ]

    no_use_by_line : (b j : ℕ) (inst : Instruction) → Stands (now func table naming) b j inst → is_phi inst.op ≡ false → Contains (values_used inst) m → CameTo b j → ⊥
    no_use_by_line b j inst stands no_phi within came =
        let here = block_now func table naming b stands.block stands.in_function in
        let from = map_back (piece_inst (text func table naming)) (pieces func table naming b) j inst (ap (λ (x : BasicBlock). slice_get x.insts j) (sym here.is) ∙ stands.in_block) in
        by from.before (piece_from func table naming to b j from.before from.stands)
        (ap (λ (x : Instruction). is_phi x.op) (sym from.is) ∙ no_phi) (subst (λ (x : Instruction). Contains (values_used x) m) from.is within)
      where
        by : (piece : Piece) → PieceFrom func table naming to b j piece → is_phi piece.inst.op ≡ false
            → Contains (values_used (piece_inst (text func table naming) piece)) m → ⊥
        by piece (from_join v at is) no_phi within = true≢false (ap (λ (p : Piece). is_phi p.inst.op) (sym is) ∙ no_phi)
        by piece (from_line k i line stands place at) no_phi within = line_use b j k i line piece stands place came at no_phi within

    -- ---- an entry of a phi

    -- at the end of a block
    abbrev CleanEnd : ℕ → Type 0
    CleanEnd b = CleanAt b (length (lines_at func b))

    join_use : (b v e : ℕ) (label : BlockId) (operand : Operand) → naming.joins b v ≡ true → slice_get (preds_of (graph_of func) b) e ≡ Some label
        → slice_get (map (λ (p : ℕ). named (to (names_at_end func table naming p v))) (preds func b)) e ≡ Some operand → value_in operand ≡ Some m → CleanEnd label.0 → ⊥
    join_use b v e label operand joins label_at operand_at value_at clean =
        let pred = get_map (λ (l : BlockId). l.0) (preds_of (graph_of func) b) e label label_at in
        let there : slice_get (map (λ (p : ℕ). named (to (names_at_end func table naming p v))) (preds func b)) e ≡ Some (named (to (names_at_end func table naming label.0 v))) =
        get_map (λ (p : ℕ). named (to (names_at_end func table naming p v))) (preds func b) e label.0 pred in
        let both : Some operand ≡ Some (named (to (names_at_end func table naming label.0 v))) = sym operand_at ∙ there in
        let same : operand ≡ named (to (names_at_end func table naming label.0 v)) = cc in
        let value : Some (to (names_at_end func table naming label.0 v)) ≡ Some m = ap value_in (sym same) ∙ value_at in
        let is : to (names_at_end func table naming label.0 v) ≡ m = cc in
        let edge : Edge func label.0 b = any_passes_from_place (λ (x : ℕ). eqb x label.0) (preds func b) e label.0 pred (eq-eqb label.0 label.0 refl) in
        let at = fits.at_join b v joins in
        let undefined = undefined_live label.0 (length (lines_at func label.0)) v clean ((table_closed func table).crosses label.0 b v edge at.2) is in
        let own_edge = edge_from func label.0 b edge in
        let block = edge_block func label.0 b own_edge in
        let walk = live_sound func table v b 0 (truly (among v (pointers func)) (is_live func table b 0 v) at.1 at.2) in
        live_defined func table merged has bases bare v undefined.0 b 0 walk
        (behind_edge label.0 b block.0 (subst (λ (n : ℕ). Undefined func v label.0 n) (lines_length func label.0 block.0 block.1) undefined.1) block.1 own_edge)
      where
        truly : (s t : Bool) → s ≡ true → (not s || t) ≡ true → t ≡ true
        truly true t is either = either
        truly false t is either = absurd cc

    phi_use : (b k e : ℕ) (line : Line) (label : BlockId) (operand : Operand) → slice_get (lines_at func b) k ≡ Some line → is_phi line.inst.op ≡ true
        → slice_get line.inst.labels e ≡ Some label → slice_get (phi_operands func table naming to line.inst.labels line.inst.operands) e ≡ Some operand → value_in operand ≡ Some m
        → CleanEnd label.0 → ⊥
    phi_use b k e line label operand stands one label_at operand_at value_at clean =
        let before = phi_operand_at line.inst.labels line.inst.operands e label operand label_at operand_at in
        let value = renamed_value to (names_at_end func table naming label.0) before.0 m (ap value_in (sym before.2) ∙ value_at) in
        let u = value.0 in
        let from = line_from func b k line stands in
        let own_edge = phi_edge func phis b k line.inst from.stands one e label label_at in
        let block = edge_block func label.0 b own_edge in
        let label_here : option_label (slice_get line.inst.labels e) label.0 ≡ true = ap (λ (l : Option BlockId). option_label l label.0) label_at ∙ eq-eqb label.0 label.0 refl in
        let has_succ = edge_contains func label.0 b own_edge in
        let walk = liveness.entry label.0 (length (lines_at func label.0)) b k line (named u) refl has_succ stands one
        (record { place = e; label = label_here; operand_is = before.1 ∙ ap (λ o. Some o) value.1 }) (inl refl) in
        let alive = in_table func table label.0 (length (lines_at func label.0)) u (live_complete func table u (phis_agree func phis) label.0 (length (lines_at func label.0)) walk) in
        let undefined = undefined_live label.0 (length (lines_at func label.0)) u clean alive value.2 in
        undefined_unused func has.definite u undefined.0 (text_place func b k) label.0 (length block.0.insts)
        (by_entry b k e u line.inst (named u) label block.0 from.stands one label_at (before.1 ∙ ap (λ o. Some o) value.1) refl block.1)
        (subst (λ (n : ℕ). Undefined func u label.0 n) (lines_length func label.0 block.0 block.1) undefined.1)

    no_use_by_entry : (b j e : ℕ) (phi : Instruction) (operand : Operand) (label : BlockId) → Stands (now func table naming) b j phi → is_phi phi.op ≡ true
        → slice_get phi.labels e ≡ Some label → slice_get phi.operands e ≡ Some operand → value_in operand ≡ Some m → CleanEnd label.0 → ⊥
    no_use_by_entry b j e phi operand label stands one label_at operand_at value_at clean =
        let here = block_now func table naming b stands.block stands.in_function in
        let from = map_back (piece_inst (text func table naming)) (pieces func table naming b) j phi (ap (λ (x : BasicBlock). slice_get x.insts j) (sym here.is) ∙ stands.in_block) in
        by from.before (piece_from func table naming to b j from.before from.stands)
        (ap (λ (x : Instruction). is_phi x.op) (sym from.is) ∙ one) (ap (λ (x : Instruction). slice_get x.labels e) (sym from.is) ∙ label_at)
        (ap (λ (x : Instruction). slice_get x.operands e) (sym from.is) ∙ operand_at)
      where
        by : (piece : Piece) → PieceFrom func table naming to b j piece → is_phi piece.inst.op ≡ true → slice_get piece.inst.labels e ≡ Some label → slice_get piece.inst.operands e ≡ Some operand → ⊥
        by piece (from_join v at is) one labels given =
            let parts = among_filter (naming.joins b) v (pointers func) (any_passes_from_place (λ (x : ℕ). eqb x v) (joined_at func naming b) j v at (eq-eqb v v refl)) in
            join_use b v e label operand parts.1 (ap (λ (p : Piece). slice_get p.inst.labels e) (sym is) ∙ labels) (ap (λ (p : Piece). slice_get p.inst.operands e) (sym is) ∙ given) value_at clean
        by piece (from_line k i line stands place at) one labels given = elim (call_or_not line.inst.op) [
          | is_none other ↦
              let same = only_one (plain func table naming to b k line) piece i (ap (λ (ps : List Piece). slice_get ps i) (sym (one_piece func table naming to b k line line.inst.op other)) ∙ at) in
              let is_one : is_phi line.inst.op ≡ true = ap (λ (p : Piece). is_phi p.inst.op) same ∙ one in
              let plain_operands : slice_get (if is_phi line.inst.op then phi_operands func table naming to line.inst.labels line.inst.operands else map (renamed to (names_here b k)) line.inst.operands) e ≡ Some operand =
              ap (λ (p : Piece). slice_get p.inst.operands e) same ∙ given in
              phi_use b k e line label operand stands is_one (ap (λ (p : Piece). slice_get p.inst.labels e) same ∙ labels)
              (ap (λ (t : Bool). slice_get (if t then phi_operands func table naming to line.inst.labels line.inst.operands else map (renamed to (names_here b k)) line.inst.operands) e) (sym is_one) ∙ plain_operands)
              value_at clean
          | is_one callee types op other ↦
              no_phi_in_group b k i line callee types piece (ap (λ (ps : List Piece). slice_get ps i) (sym (call_pieces func table naming to b k line callee types false op other)) ∙ at) one
        ]

    pub no_use : (line value b j : ℕ) → Uses (now func table naming) line value b j → value ≡ m → Undefined (now func table naming) m b j → ⊥
    no_use _ _ _ _ (by_line b j value inst stands no_phi within) is undefined =
        no_use_by_line b j inst stands no_phi (subst (λ (v : ℕ). Contains (values_used inst) v) is within) (came_to func table naming fits m b j undefined)
    no_use _ _ _ _ (by_entry b j e value phi operand label block stands one label_at operand_at value_at found) is undefined =
        no_use_by_entry b j e phi operand label stands one label_at operand_at (value_at ∙ ap (λ v. Some v) is)
        (clean_end func table naming fits m label.0 (length block.insts) block (came_to func table naming fits m label.0 (length block.insts) undefined) found refl)

-- for every naming that fits
pub definite_now : (func : Function) (table : List Operand) (naming : Naming) (fits : Fits func table naming (live_table func table)) (room : ℕ)
    → IsNumbering func table naming.joins (number func table naming) room → (merged : ℕ → ValueId) → HasDefiniteBases func merged → IsBaseTable func merged table → PhisAreRight func
    → PhisAreBare func → UsesAreDefinite (now func table naming)
definite_now func table naming fits room numbers merged has bases phis bare line value b j usage path leads = elim (cases_lt value (length func.args)) [
  | inl below ↦ in_arguments below
  | inr above ↦
      let here = use_within (now func table naming) line value b j usage in
      elim (meets_or_not (now func table naming) value path b j here.0 leads here.1 here.2) [
        | inl meets ↦ meets
        | inr undefined ↦ absurd (no_use func table naming fits room numbers merged has bases phis bare value above line value b j usage refl undefined)
      ]
]
