-- How long the rewritten function is: its lines, its entries, and the relocates of a token.
use Rattle.std.proofs.Common.{◌≡◌, ℕ, zero, suc, ◌+◌, ◌*◌, ◌^◌, ◌<◌, ◌≤◌, Bool, false, eqb, ◌&&◌, if◌then◌else◌, List, [], ◌∷◌, ◌++◌, length, map, drop, refl, sym, ap, subst, ◌∙◌, ◌⊎◌, inl, inr, arith}
use Rattle.std.specs.Prelude.{Option, Some, None, filter, is_some, slice_get}
use Rattle.std.proofs.lemmas.Bool.{cases_eq, cases_lt, ne_eqb}
use Rattle.std.proofs.lemmas.List.{length-append, length-map, map-append}
use Rattle.std.proofs.lemmas.List.Elements.{filter-append}
use Rattle.std.proofs.lemmas.List.Sums.{count_by-le-length, length-filter}
use Rattle.list_laws.proofs.Places.{map_back}
use Rattle.ir_ast.specs.declared.types.Ty.{Ty}
use Rattle.ir_ast.specs.declared.ops.Callee.{Callee}
use Rattle.ir_ast.specs.declared.ops.Op.{Op}
use Rattle.ir_ast.specs.declared.ops.Op.TheVariants as ops
use Rattle.ir_ast.specs.declared.ops.Operand.{Operand}
use Rattle.ir_ast.specs.Callees.{is_leaf}
use Rattle.ir_ast.specs.Insts.{Instruction}
use Rattle.ir_ast.specs.Blocks.{BasicBlock}
use Rattle.ir_ast.specs.Funcs.{Function, instructions_of}
use Rattle.ir_ast.specs.Modules.{ModuleContent}
use Rattle.ir_ast.specs.Values.{definition_name, definitions_of}
use Rattle.ir_ast.specs.Faults.GroupShape.{entries_of, is_part, is_statepoint}
use Rattle.ir_cfg.specs.DefiniteUses.{Defines}
use Rattle.ir_cfg.specs.Statepoints.{is_relocate, relocates_of}
use Rattle.definite_assign.proofs.TextLemmas.{one_definition, one_home}
use Rattle.object_meaning.specs.Frames.{is_member}
use Rattle.object_meaning.specs.Lines.{Line}
use Rattle.object_meaning.proofs.GivenLaws.{definition_count}
use Rattle.rewriting_forms.specs.Numbered.{lines_at, pointers}
use Rattle.rewriting_forms.specs.Liveness.{live_list}
use Rattle.rewriting_forms.specs.Names as forms
use Rattle.rewriting_forms.specs.Names.{Name, Naming}
use Rattle.rewriting_forms.specs.Rewritten.{Piece, expanded, group, inserted_phi, joined_at, names_of, piece_inst, plain, relocate_of, result_of, rewritten_blocks, statepoint}
use Rattle.rewriting_laws.proofs.JumpLemmas.{one_piece}
use Rattle.rewriting_laws.proofs.NameLemmas.{at_rest, call_or_not, is_none, is_one}
use Rattle.rewritten_sound.proofs.definite.LineLaws.{lines_length}
use Rattle.rewritten_sound.proofs.definite.NowLaws.{defines_piece, insts_now, now, number, pieces, text}
use Rattle.rewritten_sound.proofs.definite.PieceLaws.{call_pieces, for_line, offset, piece_at, pieces_for}
use Rattle.rewritten_sound.proofs.shape.GroupLaws.{entries_count, only_one}
use Rattle.rewritten_sound.proofs.shape.PassLaws.{IsNamed, entries_few, list_few, pointers_few}
use Rattle.rewritten_sound.proofs.shape.SpellLaws.{names_are}
use Rattle.base_definite.proofs.LinePlaces.{line_from}

-- of two parts of which at most one is more than none
join_counts : (A B C : Type 0) (first rest whole few : ℕ) → whole ≡ first + rest → (first ≡ 0) ⊎ (A × (first ≤ few)) → (rest ≡ 0) ⊎ (B × (rest ≤ few)) → (A → C) → (B → C) → (A → B → ⊥)
    → (whole ≡ 0) ⊎ (C × (whole ≤ few))
join_counts A B C first rest whole few sum (inl none) (inl nothing) left right apart = inl (omega (arith, none, nothing, sum))
join_counts A B C first rest whole few sum (inr some) (inl nothing) left right apart = inr (left some.0, (let small = some.1 in omega (arith, small, nothing, sum)))
join_counts A B C first rest whole few sum (inl none) (inr more) left right apart = inr (right more.0, (let small = more.1 in omega (arith, small, none, sum)))
join_counts A B C first rest whole few sum (inr some) (inr more) left right apart = absurd (apart some.0 more.0)

module _ (content other : ModuleContent) (func : Function) (table : List Operand) (naming : Naming) (room : ℕ) (is : IsNamed content other func table naming room) where
  abbrev to : Name → ℕ
  to = number func table naming

  abbrev after : Function
  after = now func table naming

  abbrev written : Piece → Instruction
  written piece = piece_inst (text func table naming) piece

  abbrev start : ℕ → ℕ → ℕ
  start b k = offset func table naming to b k

  abbrev for_this : ℕ → ℕ → Line → List Piece
  for_this b k line = pieces_for func table naming to b k line

  -- ---- lines

  result_short : (b k : ℕ) (line : Line) (given : Option ℕ) → length (result_of func table naming to b k line given) ≤ 1
  result_short b k line None = omega arith
  result_short b k line (Some v) = omega arith

  line_short : (b k : ℕ) (line : Line) → length (for_this b k line) ≤ 16385
  line_short b k line = elim (call_or_not line.inst.op) [
    | is_none other_op ↦ (let one = ap length (one_piece func table naming to b k line line.inst.op other_op) in omega (arith, one))
    | is_one callee types op no_leaf ↦
        (let whole = ap length (call_pieces func table naming to b k line callee types false op no_leaf) in
        let long = length-append (result_of func table naming to b k line line.to) (map (relocate_of func table naming to b k) (live_list func table b k)) in
        let count = length-map (live_list func table b k) (relocate_of func table naming to b k) in
        let few = list_few func table b k in
        let result = result_short b k line line.to in
        let values = is.few in
        omega (arith, whole, long, count, few, result, values))
  ]

  some_pieces : (b k : ℕ) (line : Line) → 0 < length (for_this b k line)
  some_pieces b k line = elim (call_or_not line.inst.op) [
    | is_none other_op ↦ (let one = ap length (one_piece func table naming to b k line line.inst.op other_op) in omega (arith, one))
    | is_one callee types op no_leaf ↦ (let whole = ap length (call_pieces func table naming to b k line callee types false op no_leaf) in omega (arith, whole))
  ]

  expanded_short : (b k : ℕ) (lines : List Line) → length (expanded func table naming to b k lines) ≤ 16385 * length lines
  expanded_short b k [] = omega arith
  expanded_short b k (line ∷ lines) =
      let rest = expanded_short b (suc k) lines in
      let here = line_short b k line in
      let long = length-append (for_this b k line) (expanded func table naming to b (suc k) lines) in
      omega (arith, rest, here, long)

  block_short : (b : ℕ) (block : BasicBlock) → slice_get func.blocks b ≡ Some block → 0 < length block.insts → length (insts_now func table naming b) ≤ 32768 * length block.insts
  block_short b block found some =
      let count = length-map (pieces func table naming b) (piece_inst (text func table naming)) in
      let long = length-append (map (inserted_phi func table naming to b) (joined_at func naming b)) (expanded func table naming to b 0 (lines_at func b)) in
      let joins = length-map (joined_at func naming b) (inserted_phi func table naming to b) in
      let few = joined_few b in
      let lines = expanded_short b 0 (lines_at func b) in
      let same = lines_length func b block found in
      let values = is.few in
      omega (arith, count, long, joins, few, lines, same, values, some)
    where
      joined_few : (b : ℕ) → length (joined_at func naming b) ≤ length (definitions_of func)
      joined_few b =
          let kept = length-filter (naming.joins b) (pointers func) in
          let fewer = count_by-le-length (naming.joins b) (pointers func) in
          let all = pointers_few func in
          omega (arith, kept, fewer, all)

  blocks_short : (from : ℕ) (blocks : List BasicBlock) → ((i : ℕ) (block : BasicBlock) → slice_get blocks i ≡ Some block → (slice_get func.blocks (from + i) ≡ Some block) × (0 < length block.insts))
      → length (instructions_of (rewritten_blocks func table naming (names_of func table naming) from blocks)) ≤ 32768 * length (instructions_of blocks)
  blocks_short from [] each = omega arith
  blocks_short from (block ∷ blocks) each =
      let first = each 0 block refl in
      let none : from + 0 ≡ from = omega arith in
      let here = block_short from block (ap (slice_get func.blocks) (sym none) ∙ first.0) first.1 in
      let rest = blocks_short (suc from) blocks (λ i own at. let e : suc from + i ≡ from + suc i = omega arith in let both = each (suc i) own at in (ap (slice_get func.blocks) e ∙ both.0, both.1)) in
      let long = length-append (insts_now func table naming from) (instructions_of (rewritten_blocks func table naming (names_of func table naming) (suc from) blocks)) in
      let before = length-append block.insts (instructions_of blocks) in
      omega (arith, here, rest, long, before)

  module _ (filled : (b : ℕ) (block : BasicBlock) → slice_get func.blocks b ≡ Some block → 0 < length block.insts) (short : length (instructions_of func.blocks) < 32768) where
    pub lines_few : length (instructions_of after.blocks) < 2 ^ 30
    lines_few =
        let all = blocks_short 0 func.blocks (λ i block at. let e : 0 + i ≡ i = omega arith in (ap (slice_get func.blocks) e ∙ at, filled i block at)) in
        omega (arith, all, short)

    pub names_few : length (names_of func table naming) < 2 ^ 64
    names_few =
        let same = ap length (names_are func table naming) in
        let one = length-map (definitions_of after) definition_name in
        let other_names = length-map (names_of func table naming) (text func table naming) in
        let count = definition_count after in
        let named = length-filter (λ (inst : Instruction). is_some inst.result) (instructions_of after.blocks) in
        let fewer = count_by-le-length (λ (inst : Instruction). is_some inst.result) (instructions_of after.blocks) in
        let lines = lines_few in
        let args = definition_count func in
        let values = is.few in
        omega (arith, same, one, other_names, count, named, fewer, lines, args, values)

  -- ---- statepoints

  -- how many of the instructions pass a test that no name changes
  module _ (test : Instruction → Bool) where
    abbrev passing : List Piece → ℕ
    passing ps = length (filter test (map (piece_inst (text func table naming)) ps))

    passing_append : (xs ys : List Piece) → passing (xs ++ ys) ≡ passing xs + passing ys
    passing_append xs ys =
        ap (λ insts. length (filter test insts)) (map-append (piece_inst (text func table naming)) xs ys)
        ∙ (ap length (filter-append test (map (piece_inst (text func table naming)) xs) (map (piece_inst (text func table naming)) ys))
        ∙ length-append (filter test (map (piece_inst (text func table naming)) xs)) (filter test (map (piece_inst (text func table naming)) ys)))

    passing_none : (ps : List Piece) → ((i : ℕ) (piece : Piece) → slice_get ps i ≡ Some piece → test (written piece) ≡ false) → passing ps ≡ 0
    passing_none [] none = refl
    passing_none (p ∷ ps) none =
        ap (λ t. length (if t then written p ∷ filter test (map (piece_inst (text func table naming)) ps) else filter test (map (piece_inst (text func table naming)) ps))) (none 0 p refl)
        ∙ passing_none ps (λ i. none (suc i))

    passing_all : (ps : List Piece) → passing ps ≤ length ps
    passing_all ps =
        let count = length-filter test (map (piece_inst (text func table naming)) ps) in
        let fewer = count_by-le-length test (map (piece_inst (text func table naming)) ps) in
        let same = length-map ps (piece_inst (text func table naming)) in
        omega (arith, count, fewer, same)

    no_joins : ((b v : ℕ) → test (written (inserted_phi func table naming to b v)) ≡ false) → (b : ℕ) (vs : List ℕ) → passing (map (inserted_phi func table naming to b) vs) ≡ 0
    no_joins none b vs = passing_none (map (inserted_phi func table naming to b) vs) (λ i piece at.
        let before = map_back (inserted_phi func table naming to b) vs i piece at in
        ap (λ (p : Piece). test (written p)) before.is ∙ none b before.before)

  -- ---- statepoints

  abbrev is_point : Instruction → Bool
  is_point inst = is_statepoint inst.op

  abbrev points : List Piece → ℕ
  points ps = passing is_point ps

  result_no_point : (b k : ℕ) (line : Line) (given : Option ℕ) → points (result_of func table naming to b k line given) ≡ 0
  result_no_point b k line None = refl
  result_no_point b k line (Some v) = refl

  group_no_point : (b k : ℕ) (line : Line) → points (group func table naming to b k line) ≡ 0
  group_no_point b k line =
      let sum = passing_append is_point (result_of func table naming to b k line line.to) (map (relocate_of func table naming to b k) (live_list func table b k)) in
      let result = result_no_point b k line line.to in
      let relocates = passing_none is_point (map (relocate_of func table naming to b k) (live_list func table b k)) (λ i piece at.
      let before = map_back (relocate_of func table naming to b k) (live_list func table b k) i piece at in ap (λ (p : Piece). is_point (written p)) before.is) in
      omega (arith, sum, result, relocates)

  line_points : (b k : ℕ) (line : Line) → points (for_this b k line) ≤ 1
  line_points b k line = elim (call_or_not line.inst.op) [
    | is_none other_op ↦
        (let one = ap length (one_piece func table naming to b k line line.inst.op other_op) in
        let all = passing_all is_point (for_this b k line) in
        omega (arith, one, all))
    | is_one callee types op no_leaf ↦
        (let whole : points (for_this b k line) ≡ suc (points (group func table naming to b k line)) = ap points (call_pieces func table naming to b k line callee types false op no_leaf) in
        let none = group_no_point b k line in
        omega (arith, whole, none))
  ]

  lines_points : (b k : ℕ) (lines : List Line) → points (expanded func table naming to b k lines) ≤ length lines
  lines_points b k [] = omega arith
  lines_points b k (line ∷ lines) =
      let sum = passing_append is_point (for_this b k line) (expanded func table naming to b (suc k) lines) in
      let here = line_points b k line in
      let rest = lines_points b (suc k) lines in
      omega (arith, sum, here, rest)

  block_points : (b : ℕ) (block : BasicBlock) → slice_get func.blocks b ≡ Some block → length (filter is_point (insts_now func table naming b)) ≤ length block.insts
  block_points b block found =
      let sum = passing_append is_point (map (inserted_phi func table naming to b) (joined_at func naming b)) (expanded func table naming to b 0 (lines_at func b)) in
      let none = no_joins is_point (λ b v. refl) b (joined_at func naming b) in
      let lines = lines_points b 0 (lines_at func b) in
      let same = lines_length func b block found in
      omega (arith, sum, none, lines, same)

  blocks_points : (from : ℕ) (blocks : List BasicBlock) → ((i : ℕ) (block : BasicBlock) → slice_get blocks i ≡ Some block → slice_get func.blocks (from + i) ≡ Some block)
      → length (filter is_point (instructions_of (rewritten_blocks func table naming (names_of func table naming) from blocks))) ≤ length (instructions_of blocks)
  blocks_points from [] each = omega arith
  blocks_points from (block ∷ blocks) each =
      let none : from + 0 ≡ from = omega arith in
      let here = block_points from block (ap (slice_get func.blocks) (sym none) ∙ each 0 block refl) in
      let rest = blocks_points (suc from) blocks (λ i own at. let e : suc from + i ≡ from + suc i = omega arith in ap (slice_get func.blocks) e ∙ each (suc i) own at) in
      let split = ap length (filter-append is_point (insts_now func table naming from) (instructions_of (rewritten_blocks func table naming (names_of func table naming) (suc from) blocks))) in
      let sum = length-append (filter is_point (insts_now func table naming from)) (filter is_point (instructions_of (rewritten_blocks func table naming (names_of func table naming) (suc from) blocks))) in
      let long = length-append block.insts (instructions_of blocks) in
      omega (arith, here, rest, split, sum, long)

  -- no more statepoints than lines before
  pub points_few : length (filter is_point (instructions_of after.blocks)) ≤ length (instructions_of func.blocks)
  points_few = blocks_points 0 func.blocks (λ i block at. let e : 0 + i ≡ i = omega arith in ap (slice_get func.blocks) e ∙ at)

  -- ---- relocates of one token

  plain_no_relocate : (op : Op) → is_member op ≡ false → is_relocate op ≡ false
  plain_no_relocate ops.GcRelocate none = absurd cc
  plain_no_relocate op none = refl

  start_rises : (b k later : ℕ) → k ≤ later → start b k ≤ start b later
  start_rises b k zero le = let same : k ≡ 0 = omega arith in (let e = ap (start b) same in omega arith)
  start_rises b k (suc later) le = elim (cases_lt k (suc later)) [
    | inl less ↦ let rest = start_rises b k later (omega arith) in omega arith
    | inr most ↦ let same : k ≡ suc later = omega arith in (let e = ap (start b) same in omega arith)
  ]

  module _ (b k : ℕ) (line : Line) (callee : Callee) (types : List Ty) (at : slice_get (lines_at func b) k ≡ Some line) (op : line.inst.op ≡ ops.Call callee types) (no_leaf : is_leaf callee ≡ false) where
    abbrev token_number : ℕ
    token_number = to (forms.token b k)

    abbrev relocates : Instruction → Bool
    relocates inst = is_relocate inst.op && is_part token_number inst

    pub point_defines : (c l : ℕ) (there : Line) (callee : Callee) (types : List Ty) → slice_get (lines_at func c) l ≡ Some there → there.inst.op ≡ ops.Call callee types → is_leaf callee ≡ false
        → Defines after (to (forms.token c l)) c (start c l + 0)
    point_defines c l there callee types there_at there_op leaf =
        let from = (line_from func c l there there_at).stands in
        defines_piece func table naming c (start c l + 0) (to (forms.token c l)) from.block (statepoint func table naming to c l callee types there.inst) (forms.token c l) from.in_function
        (piece_at func table naming to c l 0 there (statepoint func table naming to c l callee types there.inst) there_at
        (ap (λ (ps : List Piece). slice_get ps 0) (call_pieces func table naming to c l there callee types false there_op leaf))) refl refl

    -- another call has another token
    token_apart : (c l : ℕ) (there : Line) (other_callee : Callee) (other_types : List Ty) → slice_get (lines_at func c) l ≡ Some there → there.inst.op ≡ ops.Call other_callee other_types
        → is_leaf other_callee ≡ false → to (forms.token c l) ≡ token_number → (c ≡ b) × (l ≡ k)
    token_apart c l there other_callee other_types there_at there_op leaf same =
        let mine = point_defines b k line callee types at op no_leaf in
        let theirs = subst (λ n. Defines after n c (start c l + 0)) same (point_defines c l there other_callee other_types there_at there_op leaf) in
        let home = one_home after token_number c (start c l + 0) b (start b k + 0) theirs mine in
        let place = one_definition after token_number c (start c l + 0) b (start b k + 0) theirs mine in
        (home, by home (ap (λ n. start n l) home) place)
      where
        long : (c l : ℕ) (line : Line) → slice_get (lines_at func c) l ≡ Some line → start c l < start c (suc l)
        long c l line line_at =
            let same = ap length (for_line func table naming to c l line line_at) in
            let some = some_pieces c l line in
            omega (arith, same, some)

        by : c ≡ b → start c l ≡ start b l → start c l + 0 ≡ start b k + 0 → l ≡ k
        by home moved place = elim (cases_lt l k) [
          | inl less ↦
              (let there_b : slice_get (lines_at func b) l ≡ Some there = ap (λ n. slice_get (lines_at func n) l) (sym home) ∙ there_at in
              let more = long b l there there_b in
              let rises = start_rises b (suc l) k (omega arith) in
              absurd (omega (arith, more, rises, moved, place)))
          | inr le ↦ elim (cases_lt k l) [
            | inl more ↦
                (let up = long b k line at in
                let rises = start_rises b (suc k) l (omega arith) in
                absurd (omega (arith, up, rises, moved, place)))
            | inr both ↦ omega arith
          ]
        ]

    relocate_test : (c l v : ℕ) → relocates (written (relocate_of func table naming to c l v)) ≡ eqb (to (forms.token c l)) token_number
    relocate_test c l v = refl

    result_none : (c l : ℕ) (there : Line) (given : Option ℕ) → passing relocates (result_of func table naming to c l there given) ≡ 0
    result_none c l there None = refl
    result_none c l there (Some v) = refl

    abbrev list_pieces : ℕ → ℕ → List Piece
    list_pieces c l = map (relocate_of func table naming to c l) (live_list func table c l)

    line_relocates : (c l : ℕ) (there : Line) → slice_get (lines_at func c) l ≡ Some there
        → (passing relocates (for_this c l there) ≡ 0) ⊎ (((c ≡ b) × (l ≡ k)) × (passing relocates (for_this c l there) ≤ length (definitions_of func)))
    line_relocates c l there there_at = elim (call_or_not there.inst.op) [
      | is_none other_op ↦
          inl (ap (passing relocates) (one_piece func table naming to c l there there.inst.op other_op)
          ∙ passing_none relocates (plain func table naming to c l there ∷ []) (λ i piece one.
          let same = only_one (plain func table naming to c l there) piece i one in
          ap (λ (p : Piece). relocates (written p)) (sym same) ∙ ap (λ t. t && is_part token_number (written (plain func table naming to c l there))) (plain_no_relocate there.inst.op (is.no_member c l there there_at))))
      | is_one other_callee other_types other_op leaf ↦
          by other_callee other_types other_op leaf (cases_eq (to (forms.token c l)) token_number)
          (ap (passing relocates) (call_pieces func table naming to c l there other_callee other_types false other_op leaf))
    ]
      where
        group_sum : passing relocates (group func table naming to c l there) ≡ passing relocates (list_pieces c l)
        group_sum =
            let sum = passing_append relocates (result_of func table naming to c l there there.to) (list_pieces c l) in
            let none = result_none c l there there.to in
            omega (arith, sum, none)

        by : (callee : Callee) (types : List Ty) → there.inst.op ≡ ops.Call callee types → is_leaf callee ≡ false
            → (to (forms.token c l) ≡ token_number) ⊎ (to (forms.token c l) ≡ token_number → ⊥)
            → passing relocates (for_this c l there) ≡ passing relocates (statepoint func table naming to c l callee types there.inst ∷ group func table naming to c l there)
            → (passing relocates (for_this c l there) ≡ 0) ⊎ (((c ≡ b) × (l ≡ k)) × (passing relocates (for_this c l there) ≤ length (definitions_of func)))
        by callee types there_op leaf (inl same) whole =
            let here = token_apart c l there callee types there_at there_op leaf same in
            let all = passing_all relocates (list_pieces c l) in
            let long = length-map (live_list func table c l) (relocate_of func table naming to c l) in
            let few = list_few func table c l in
            let sum = group_sum in
            inr ((here.0, here.1), omega (arith, whole, all, long, few, sum))
        by callee types there_op leaf (inr apart) whole =
            let none = passing_none relocates (list_pieces c l) (λ i piece one.
            let before = map_back (relocate_of func table naming to c l) (live_list func table c l) i piece one in
            ap (λ (p : Piece). relocates (written p)) before.is ∙ ne_eqb (to (forms.token c l)) token_number apart) in
            inl (whole ∙ (group_sum ∙ none))

    -- from a line on
    rest_relocates : (c l : ℕ) (lines : List Line) → drop l (lines_at func c) ≡ lines
        → (passing relocates (expanded func table naming to c l lines) ≡ 0) ⊎ (((c ≡ b) × (l ≤ k)) × (passing relocates (expanded func table naming to c l lines) ≤ length (definitions_of func)))
    rest_relocates c l [] place = inl refl
    rest_relocates c l (there ∷ lines) place =
        let here = at_rest (lines_at func c) l there lines place in
        join_counts ((c ≡ b) × (l ≡ k)) ((c ≡ b) × (suc l ≤ k)) ((c ≡ b) × (l ≤ k)) (passing relocates (for_this c l there)) (passing relocates (expanded func table naming to c (suc l) lines))
        (passing relocates (for_this c l there ++ expanded func table naming to c (suc l) lines)) (length (definitions_of func))
        (passing_append relocates (for_this c l there) (expanded func table naming to c (suc l) lines)) (line_relocates c l there here.0) (rest_relocates c (suc l) lines here.1)
        (λ both. (both.0, (let same = both.1 in omega arith))) (λ both. (both.0, (let less = both.1 in omega arith)))
        (λ one two. let same = one.1 in let less = two.1 in omega arith)

    block_relocates : (c : ℕ) → (length (filter relocates (insts_now func table naming c)) ≡ 0) ⊎ ((c ≡ b) × (length (filter relocates (insts_now func table naming c)) ≤ length (definitions_of func)))
    block_relocates c =
        let sum = passing_append relocates (map (inserted_phi func table naming to c) (joined_at func naming c)) (expanded func table naming to c 0 (lines_at func c)) in
        let none = no_joins relocates (λ b v. refl) c (joined_at func naming c) in
        elim (rest_relocates c 0 (lines_at func c) refl) [
          | inl nothing ↦ inl (omega (arith, sum, none, nothing))
          | inr some ↦ inr ((some.0).0, (let few = some.1 in omega (arith, sum, none, few)))
        ]

    blocks_relocates : (from : ℕ) (blocks : List BasicBlock)
        → (length (filter relocates (instructions_of (rewritten_blocks func table naming (names_of func table naming) from blocks))) ≡ 0)
        ⊎ ((from ≤ b) × (length (filter relocates (instructions_of (rewritten_blocks func table naming (names_of func table naming) from blocks))) ≤ length (definitions_of func)))
    blocks_relocates from [] = inl refl
    blocks_relocates from (block ∷ blocks) =
        let split = ap length (filter-append relocates (insts_now func table naming from) (instructions_of (rewritten_blocks func table naming (names_of func table naming) (suc from) blocks))) in
        let sum = length-append (filter relocates (insts_now func table naming from)) (filter relocates (instructions_of (rewritten_blocks func table naming (names_of func table naming) (suc from) blocks))) in
        join_counts (from ≡ b) (suc from ≤ b) (from ≤ b) (length (filter relocates (insts_now func table naming from)))
        (length (filter relocates (instructions_of (rewritten_blocks func table naming (names_of func table naming) (suc from) blocks))))
        (length (filter relocates (insts_now func table naming from ++ instructions_of (rewritten_blocks func table naming (names_of func table naming) (suc from) blocks)))) (length (definitions_of func))
        (split ∙ sum) (block_relocates from) (blocks_relocates (suc from) blocks) (λ same. omega arith) (λ less. omega arith) (λ same less. omega arith)

    token_relocates : relocates_of after token_number ≤ 16384
    token_relocates = elim (blocks_relocates 0 func.blocks) [
      | inl none ↦ omega (arith, none)
      | inr some ↦ (let few = some.1 in let values = is.few in omega (arith, few, values))
    ]

    pub point_small : (inst : Instruction) → inst ≡ written (statepoint func table naming to b k callee types line.inst) → (length (entries_of inst) ≤ 16384) × (relocates_of after token_number ≤ 16384)
    point_small inst same = (
      (let count = ap (λ (i : Instruction). length (entries_of i)) same ∙ entries_count content other func table naming room is b k line callee types at op no_leaf in
          let few = entries_few func table b k in
          let values = is.few in
          omega (arith, count, few, values)),
      token_relocates,
    )
