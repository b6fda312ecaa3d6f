-- Where a number isn't defined on a path of the rewritten function, no live value has it but one that the path doesn't define.
use Rattle.std.proofs.Common.{◌≡◌, ℕ, zero, suc, ◌+◌, ◌<◌, ◌≤◌, Bool, true, false, not, List, ◌∷◌, length, map, refl, sym, ap, subst, ◌∙◌, inl, inr, arith}
use Rattle.std.specs.Prelude.{Some, slice_get}
use Rattle.std.specs.Option.{option_map}
use Rattle.std.proofs.lemmas.Bool.{cases_Bool, cases_lt}
use Rattle.std.proofs.lemmas.List.{length-map}
use Rattle.std.proofs.lemmas.Option.{slice_get_within}
use Rattle.list_laws.proofs.Places.{get_front, get_map, get_some}
use Rattle.ir_ast.specs.declared.types.Ty.{Ty}
use Rattle.ir_ast.specs.declared.ops.Callee.{Callee}
use Rattle.ir_ast.specs.declared.ops.Op.TheVariants.{Call}
use Rattle.ir_ast.specs.declared.ops.Operand.{Operand}
use Rattle.ir_ast.specs.Callees.{is_leaf}
use Rattle.ir_ast.specs.Blocks.{BasicBlock}
use Rattle.ir_ast.specs.Funcs.{Function}
use Rattle.ir_cfg.specs.DefiniteUses.{Defines}
use Rattle.ir_cfg.specs.Graphs.{Graph, graph_of}
use Rattle.ir_cfg.specs.Graphs as graphs
use Rattle.object_meaning.specs.Lines.{Line}
use Rattle.rewriting_forms.specs.Numbered.{among, gives, is_call, line_at, lines_at, pointers}
use Rattle.rewriting_forms.specs.Liveness.{live_list, live_table}
use Rattle.rewriting_forms.specs.Names.{Name, Naming, names_at, names_at_end, own}
use Rattle.rewriting_forms.specs.Names as forms
use Rattle.rewriting_forms.specs.Rewritten.{Piece, expanded, group, inserted_phi, joined_at, piece_inst, plain, relocate_of, statepoint}
use Rattle.rewriting_laws.specs.Laws.{Fits}
use Rattle.rewriting_laws.proofs.JumpLemmas.{one_piece}
use Rattle.rewriting_laws.proofs.LiveLaws.{table_closed}
use Rattle.rewriting_laws.proofs.NameLemmas.{call_or_not, filter_among, is_none, is_one, names_given, names_kept, names_listed, names_unlisted}
use Rattle.base_definite.proofs.base_paths.UndefinedLaws.{Undefined, at_first, behind_edge, behind_line}
use Rattle.base_definite.proofs.LinePlaces.{line_from}
use Rattle.rewritten_sound.proofs.definite.LineLaws.{gives_defines, lines_length}
use Rattle.rewritten_sound.proofs.definite.EdgeLaws.{edge_to}
use Rattle.rewritten_sound.proofs.definite.PieceLaws.{among_at, call_pieces, for_line, offset, piece_at, pieces_for, relocate_at, result_at, result_piece, whole_length}
use Rattle.rewritten_sound.proofs.definite.NowLaws.{block_now, defines_piece, graph_now, now, number, pieces, text}
use Rattle.object_meaning.proofs.LineLaws.{given_is}

module _ (func : Function) (table : List Operand) (naming : Naming) (fits : Fits func table naming (live_table func table)) (m : ℕ) where
  abbrev live : ℕ → ℕ → ℕ → Bool
  live = live_table func table

  abbrev numbered : ℕ → ℕ → ℕ → ℕ
  numbered b k v = number func table naming (names_at func table naming b k v)

  abbrev lines_for : ℕ → ℕ → Line → List Piece
  lines_for b k line = pieces_for func table naming (number func table naming) b k line

  abbrev start_of : ℕ → ℕ → ℕ
  start_of b k = offset func table naming (number func table naming) b k

  -- none of these gives the number
  abbrev NoneGives : List Piece → Type 0
  NoneGives given = (i : ℕ) (piece : Piece) (name : Name) → slice_get given i ≡ Some piece → piece.name ≡ Some name → number func table naming name ≡ m → ⊥

  -- nor any line of the block before a place
  abbrev pub NoneBefore : ℕ → ℕ → Type 0
  NoneBefore b j = (i : ℕ) (piece : Piece) (name : Name) → i < j → slice_get (pieces func table naming b) i ≡ Some piece → piece.name ≡ Some name
      → number func table naming name ≡ m → ⊥

  -- at a place of the function before, and at the front of a block before its inserted phis
  abbrev pub Clean : ℕ → ℕ → Type 0
  Clean b k = (v : ℕ) → live b k v ≡ true → numbered b k v ≡ m → Undefined func v b k × (names_at func table naming b k v ≡ own v)

  abbrev pub FrontClean : ℕ → Type 0
  FrontClean b = (v : ℕ) → live b 0 v ≡ true → naming.joins b v ≡ false → number func table naming (naming.front b v) ≡ m
      → Undefined func v b 0 × (naming.front b v ≡ own v)

  clean_front : (b : ℕ) → FrontClean b → NoneBefore b (start_of b 0) → Clean b 0
  clean_front b clean none v alive is = elim (cases_Bool (naming.joins b v)) [
    | inr apart ↦ clean v alive apart is
    | inl joins ↦
        let at = fits.at_join b v joins in
        let place = among_at v (joined_at func naming b) (filter_among (naming.joins b) v (pointers func) at.1 joins) in
        let within = slice_get_within (joined_at func naming b) place.0 v place.1 in
        let phi = get_front (map (inserted_phi func table naming (number func table naming) b) (joined_at func naming b)) (expanded func table naming (number func table naming) b 0 (lines_at func b)) place.0 (inserted_phi func table naming (number func table naming) b v)
        (get_map (inserted_phi func table naming (number func table naming) b) (joined_at func naming b) place.0 v place.1) in
        absurd (none place.0 (inserted_phi func table naming (number func table naming) b v) (forms.joined b v) within phi refl (ap (number func table naming) (sym at.0) ∙ is))
  ]

  module _ (b k : ℕ) (line : Line) (stands : slice_get (lines_at func b) k ≡ Some line) (clean : Clean b k) (none : NoneGives (lines_for b k line)) where
    -- a value whose name stays
    stays : (v : ℕ) → gives line v ≡ false → live b (suc k) v ≡ true → names_at func table naming b (suc k) v ≡ names_at func table naming b k v → numbered b (suc k) v ≡ m
        → Undefined func v b (suc k) × (names_at func table naming b (suc k) v ≡ own v)
    stays v kept alive name is =
        let before = clean v ((table_closed func table).later b k v line stands kept alive) (ap (number func table naming) (sym name) ∙ is) in
        (behind_line b k line.inst before.0 (line_from func b k line stands).stands (gives_defines func v b k line stands kept), name ∙ before.1)

    behind_plain : is_call line.inst.op ≡ false → Clean b (suc k)
    behind_plain other v alive is = elim (cases_Bool (gives line v)) [
      | inr kept ↦ stays v kept alive (names_kept func table naming b k line v stands kept other) is
      | inl given ↦
          let one : slice_get (lines_for b k line) 0 ≡ Some (plain func table naming (number func table naming) b k line) =
          ap (λ (ps : List Piece). slice_get ps 0) (one_piece func table naming (number func table naming) b k line line.inst.op other) in
          absurd (none 0 (plain func table naming (number func table naming) b k line) (own v) one (ap (option_map own) (given_is line.to v given))
          (ap (number func table naming) (sym (names_given func table naming b k line v stands given)) ∙ is))
    ]

    behind_group : (callee : Callee) (types : List Ty) → line.inst.op ≡ Call callee types → is_leaf callee ≡ false → is_call line.inst.op ≡ true → Clean b (suc k)
    behind_group callee types op other call v alive is = elim (cases_Bool (gives line v)) [
      | inl given ↦
          let result = result_at func table naming (number func table naming) b k line v (given_is line.to v given) in
          absurd (none 1 (result_piece func table naming (number func table naming) b k line v) (own v) (ap (λ (ps : List Piece). slice_get ps 1) whole ∙ result) refl (ap (number func table naming) (sym (names_given func table naming b k line v stands given)) ∙ is))
      | inr kept ↦ elim (cases_Bool (among v (live_list func table b k))) [
        | inl listed ↦
            let member = relocate_at func table naming (number func table naming) b k line v listed in
            absurd (none (suc member.0) (relocate_of func table naming (number func table naming) b k v) (forms.relocated b k v)
            (ap (λ (ps : List Piece). slice_get ps (suc member.0)) whole ∙ member.1) refl
            (ap (number func table naming) (sym (names_listed func table naming b k line v stands kept call listed)) ∙ is))
        | inr unlisted ↦ stays v kept alive (names_unlisted func table naming b k line v stands kept unlisted) is
      ]
    ]
      where
        whole : lines_for b k line ≡ statepoint func table naming (number func table naming) b k callee types line.inst ∷ group func table naming (number func table naming) b k line
        whole = call_pieces func table naming (number func table naming) b k line callee types false op other

    clean_line : Clean b (suc k)
    clean_line = elim (call_or_not line.inst.op) [
      | is_none other ↦ behind_plain other
      | is_one callee types op other ↦ behind_group callee types op other (ap is_call op ∙ ap (λ t. not t) other)
    ]

  none_fewer : (b j more : ℕ) → j ≤ more → NoneBefore b more → NoneBefore b j
  none_fewer b j more le none i piece name below = none i piece name (omega arith)

  clean_at : (b k : ℕ) → k ≤ length (lines_at func b) → FrontClean b → NoneBefore b (start_of b k) → Clean b k
  clean_at b zero within clean none = clean_front b clean none
  clean_at b (suc k) within clean none =
      let line = get_some (lines_at func b) k (omega arith) in
      let long : length (lines_for b k (line_at func b k)) ≡ length (lines_for b k line.0) = ap length (for_line func table naming (number func table naming) b k line.0 line.1) in
      clean_line b k line.0 line.1 (clean_at b k (omega arith) clean (none_fewer b (start_of b k) (start_of b (suc k)) (omega arith) none))
      (λ i piece name at named is.
      let within_line = slice_get_within (lines_for b k line.0) i piece at in
      none (start_of b k + i) piece name (omega arith) (piece_at func table naming (number func table naming) b k i line.0 piece line.1 at) named is)

  -- how a path comes to a place of the rewritten function without the number
  pub record Came (b j : ℕ) : Type 0 where
    pub front : FrontClean b
    pub none : NoneBefore b j

  pub clean_there : (b j k : ℕ) → Came b j → k ≤ length (lines_at func b) → start_of b k ≤ j → Clean b k
  clean_there b j k came within le = clean_at b k within came.front (none_fewer b (start_of b k) j le came.none)

  -- the end of a block
  pub clean_end : (b j : ℕ) (block : BasicBlock) → Came b j → slice_get (now func table naming).blocks b ≡ Some block → j ≡ length block.insts → Clean b (length (lines_at func b))
  clean_end b j block came found last =
      let here = block_now func table naming b block found in
      let long = ap (λ (x : BasicBlock). length x.insts) here.is in
      let count = length-map (pieces func table naming b) (piece_inst (text func table naming)) in
      let all = whole_length func table naming (number func table naming) b in
      clean_there b j (length (lines_at func b)) came (omega arith) (omega (arith, last, long, count, all))

  front_entry : FrontClean 0
  front_entry v alive none is = (at_first, fits.at_entry v alive)

  front_edge : (from to : ℕ) (block : BasicBlock) → Came from (length block.insts) → slice_get (now func table naming).blocks from ≡ Some block
      → graphs.Edge (graph_of (now func table naming)) from to → FrontClean to
  front_edge from to block came found edge v alive apart is =
      let here = block_now func table naming from block found in
      let own_edge = subst (λ (g : Graph). graphs.Edge g from to) (graph_now func table naming) edge in
      let is_edge = edge_to func from to own_edge in
      let name = fits.at_edge from to v is_edge alive apart in
      let before = clean_end from (length block.insts) block came found refl v ((table_closed func table).crosses from to v is_edge alive) (ap (number func table naming) (sym name) ∙ is) in
      let end = subst (λ (n : ℕ). Undefined func v from n) (lines_length func from here.own here.stands) before.0 in
      (behind_edge from to here.own end here.stands own_edge, name ∙ before.1)

  pub came_to : (b j : ℕ) → Undefined (now func table naming) m b j → Came b j
  came_to _ _ at_first = record { front = front_entry; none = λ i piece name below at named is. omega arith }
  came_to _ _ (behind_line b j inst before stands none) =
      let earlier = came_to b j before in
      let here = block_now func table naming b stands.block stands.in_function in
      record {
        front = earlier.front;
        none = λ i piece name below at named is. elim (cases_lt i j) [
          | inl less ↦ earlier.none i piece name less at named is
          | inr le ↦
              let same : i ≡ j = omega arith in
              none (subst (λ (n : ℕ). Defines (now func table naming) m b n) same (defines_piece func table naming b i m here.own piece name here.stands at named is))
        ];
      }
  came_to _ _ (behind_edge from to block before found edge) = record {
    front = front_edge from to block (came_to from (length block.insts) before) found edge;
    none = λ i piece name below at named is. omega arith;
  }
