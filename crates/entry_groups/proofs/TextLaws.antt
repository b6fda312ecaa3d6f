-- The text of a function that waits at its first line alone.
use Rattle.std.proofs.Common.{◌≡◌, ◌∙◌, ℕ, zero, suc, ◌<◌, ◌≤◌, ◌+◌, inl, inr, Bool, true, false, not, eqb, if◌then◌else◌, List, [], ◌∷◌, ◌++◌, length, map, filter, take, drop, Option, Some, None, is_some, slice_get, refl, ap, sym, arith, subst, length-append}
use Rattle.std.specs.Prelude.{slice_index}
use Rattle.std.specs.List.{All, Contains, sum_by}
use Rattle.std.specs.Option.{option_map, option_map_or}
use Rattle.std.proofs.lemmas.Bool.{cases_Bool, eq-eqb, false≢true}
use Rattle.std.proofs.lemmas.List.{length-map, map-append}
use Rattle.std.proofs.lemmas.Option.{slice_get_within}
use Rattle.list_laws.proofs.Contents.{contains_first, contains_later, contains_get, get_contained, joined_contains, all_at}
use Rattle.sp_ids.specs.declared.ids.BlockId.{BlockId}
use Rattle.ir_ast.specs.declared.types.Ty.{Ty}
use Rattle.ir_ast.specs.declared.ops.Op.{Op}
use Rattle.ir_ast.specs.declared.ops.Op.TheVariants.{Phi}
use Rattle.ir_ast.specs.declared.ops.Operand.{Operand}
use Rattle.ir_ast.specs.declared.ops.Operand.TheVariants.{Value, Int, Null, Fun}
use Rattle.ir_ast.specs.Insts.{Instruction}
use Rattle.ir_ast.specs.Blocks.{BasicBlock}
use Rattle.ir_ast.specs.Funcs.{Function, instructions_of}
use Rattle.ir_ast.specs.Formed.{IsFormed}
use Rattle.ir_ast.specs.Lines.{LineOf, IsLine}
use Rattle.ir_ast.specs.Values.{definitions_of, argument, outcome}
use Rattle.ir_ast.specs.Faults.PhiEdges.{is_phi}
use Rattle.object_meaning.specs.Lines.{Line, numbered, following, registers_of, insts_in}
use Rattle.object_meaning.specs.TargetRuns.{plain_lines}
use Rattle.rewriting_forms.specs.Numbered.{named, among, lines_at}
use Rattle.rewriting_forms.specs.Liveness.{live_list, live_lists}
use Rattle.rewriting_forms.specs.Liveness as lives
use Rattle.rewriting_forms.specs.Names.{Name, own, token, Names, Naming, names_at, names_at_end, naming_of}
use Rattle.rewriting_forms.specs.Rewritten.{place_in, names_of, renamed, Piece, inserted_phi, statepoint, group, phi_operands, renamed_inst, plain, expanded_by, expanded, pieces_of, old_name, spelled, piece_inst, rewritten_blocks, rewritten}
use Rattle.rewriting_laws.proofs.NameLemmas.{among_here, among_there, at_rest}
use Rattle.rewriting_laws.proofs.JumpLemmas.{one_piece}
use Rattle.live_sets.proofs.EdgeLemmas.{label_edge, succ_within}
use Rattle.statepoint_insert.specs.Calls.{calls_before}
use Rattle.statepoint_insert.specs.Groups.{GroupContent, relocate_in, group_of}
use Rattle.statepoint_insert.specs.Renumbered.{AreCounted}
use Rattle.statepoint_insert.proofs.OldNames.{old_name_is}
use Rattle.ssa_rebuild.specs.Rows.{AreKnown, held_in, group_list}
use Rattle.ssa_rebuild.proofs.CountLaws.{token_counted, relocates_counted}
use Rattle.ssa_rebuild.proofs.GroupLaws.{group_text}
use Rattle.ssa_rebuild.proofs.InsideLaws.{count, count_is, uses_inside}
use Rattle.ssa_rebuild.proofs.TaskLaws.{results}
use Rattle.entry_groups.specs.Entry.{put, put_line, put_block, first_lines, blocks_behind}
use Rattle.entry_groups.proofs.VersionLaws.{Parts, first_of, entry_of, whole, WaitsFirst, first_line, calls_first, line_in, others, settled, settled_at, settled_end, enters}
use Rattle.entry_groups.proofs.NumberLaws.{joined_none, argument_number, token_number, row, row_is}
use Rattle.list_laws.proofs.Places.{drop_none, take_none}

phi_labels : (inst : Instruction) (op : Op) → LineOf op inst → is_phi op ≡ true → length inst.labels ≡ length inst.operands
phi_labels inst Phi line is = line.0.label_count
phi_labels inst op line is = absurd (false≢true is)

known_head : (n : ℕ) (o : Operand) (operands : List Operand) → AreKnown n (o ∷ operands) → AreKnown n (o ∷ [])
known_head n (Value value) operands known = (known.0, tt)
known_head n (Int word) operands known = tt
known_head n Null operands known = tt
known_head n (Fun f) operands known = tt

known_tail : (n : ℕ) (o : Operand) (operands : List Operand) → AreKnown n (o ∷ operands) → AreKnown n operands
known_tail n (Value value) operands known = known.1
known_tail n (Int word) operands known = known
known_tail n Null operands known = known
known_tail n (Fun f) operands known = known

module _ (parts : Parts) (table : List Operand) (waits : WaitsFirst parts table) (formed : IsFormed (whole parts)) where
  abbrev func : Function
  func = whole parts

  abbrev naming : Naming
  naming = naming_of func table

  abbrev names : List Name
  names = names_of func table naming

  abbrev number : Name → ℕ
  number = place_in names

  abbrev text : Piece → Instruction
  text = piece_inst (spelled func names)

  abbrev list : List ℕ
  list = live_list func table 0 0

  abbrev here : List ℕ
  here = row parts table waits

  abbrev known_below : ℕ
  known_below = count func

  -- ---- operands

  counted : count func ≡ length parts.args + results (parts.insts ++ instructions_of parts.blocks)
  counted =
      let all = count_is func in
      let outcomes = filter (λ (inst : Instruction). is_some inst.result) (instructions_of func.blocks) in
      let split = length-append (map argument parts.args) (map outcome outcomes) in
      let one = length-map parts.args argument in
      let two = length-map outcomes outcome in
      omega (arith, all, split, one, two)

  put_one : (at : Names) (o : Operand) → ((v : ℕ) → o ≡ named v → at v ≡ settled parts table waits v) → AreKnown known_below (o ∷ []) → renamed number at o ≡ put here o
  put_one at (Value value) settles known =
      let all = counted in
      let below = known.0 in
      ap (λ (name : Name). named (number name)) (settles value.0 refl) ∙ sym (ap named (row_is parts table waits value.0 (omega (arith, below, all))))
  put_one at (Int word) settles known = refl
  put_one at Null settles known = refl
  put_one at (Fun f) settles known = refl

  put_all : (at : Names) (operands : List Operand) → ((o : Operand) → Contains operands o → (v : ℕ) → o ≡ named v → at v ≡ settled parts table waits v) → AreKnown known_below operands
      → map (renamed number at) operands ≡ map (put here) operands
  put_all at [] settles known = refl
  put_all at (o ∷ operands) settles known =
      ap (λ (x : Operand). x ∷ map (renamed number at) operands) (put_one at o (settles o (contains_first o operands)) (known_head known_below o operands known))
      ∙ ap (λ (os : List Operand). put here o ∷ os) (put_all at operands (λ other has. settles other (contains_later o other operands has)) (known_tail known_below o operands known))

  put_entries : (at : Names) (bundle : List (Ty × Operand)) → ((o : Operand) → Contains (held_in bundle) o → (v : ℕ) → o ≡ named v → at v ≡ settled parts table waits v)
      → AreKnown known_below (held_in bundle)
      → map (λ (entry : Ty × Operand). (let moved : Ty × Operand = (entry.0, renamed number at entry.1) in moved)) bundle
      ≡ map (λ (entry : Ty × Operand). (let moved : Ty × Operand = (entry.0, put here entry.1) in moved)) bundle
  put_entries at [] settles known = refl
  put_entries at (entry ∷ bundle) settles known =
      ap (λ (x : Operand). (let moved : Ty × Operand = (entry.0, x) in moved) ∷ map (λ (entry : Ty × Operand). (let moved : Ty × Operand = (entry.0, renamed number at entry.1) in moved)) bundle)
      (put_one at entry.1 (settles entry.1 (contains_first entry.1 (held_in bundle))) (known_head known_below entry.1 (held_in bundle) known))
      ∙ ap (λ (es : List (Ty × Operand)). (let moved : Ty × Operand = (entry.0, put here entry.1) in moved) ∷ es)
      (put_entries at bundle (λ other has. settles other (contains_later entry.1 other (held_in bundle) has)) (known_tail known_below entry.1 (held_in bundle) known))

  put_phi : (labels : List BlockId) (operands : List Operand) → length labels ≡ length operands
      → ((k : ℕ) (label : BlockId) (o : Operand) → slice_get labels k ≡ Some label → slice_get operands k ≡ Some o
      → (v : ℕ) → o ≡ named v → names_at_end func table naming label.0 v ≡ settled parts table waits v)
      → AreKnown known_below operands → phi_operands func table naming number labels operands ≡ map (put here) operands
  put_phi [] [] same settles known = refl
  put_phi [] (o ∷ operands) same settles known = absurd (omega (arith, same))
  put_phi (label ∷ labels) [] same settles known = absurd (omega (arith, same))
  put_phi (label ∷ labels) (o ∷ operands) same settles known =
      ap (λ (x : Operand). x ∷ phi_operands func table naming number labels operands)
      (put_one (names_at_end func table naming label.0) o (settles 0 label o refl refl) (known_head known_below o operands known))
      ∙ ap (λ (os : List Operand). put here o ∷ os)
      (put_phi labels operands (omega (arith, same)) (λ k l other is at. settles (suc k) l other is at) (known_tail known_below o operands known))

  -- ---- lines

  of_line : (P : Instruction → Type 0) → All P (instructions_of func.blocks) → (b k : ℕ) (line : Line) → b < length func.blocks → slice_get (lines_at func b) k ≡ Some line → P line.inst
  of_line P all b k line below stands =
      let here = line_in parts table waits b k line stands in
      let within = contains_get here.block.insts k line.inst here.in_block in
      let has = joined_contains (λ (block : BasicBlock). block.insts) func.blocks here.block line.inst (contains_get func.blocks b here.block here.in_function) within in
      let at = get_contained (instructions_of func.blocks) line.inst has in
      all_at P (instructions_of func.blocks) at.0 line.inst all at.1

  -- what a line uses has its one version there
  used_settles : (b k : ℕ) (line : Line) → b < length func.blocks → slice_get (lines_at func b) k ≡ Some line → (b ≡ 0 → k ≡ 0 → ⊥) → is_phi line.inst.op ≡ false
      → (o : Operand) → Contains line.inst.operands o → (v : ℕ) → o ≡ named v → names_at func table naming b k v ≡ settled parts table waits v
  used_settles b k line below stands behind other o has v is =
      let within = slice_get_within (lines_at func b) k line stands in
      settled_at parts table waits b k v below behind (omega arith) (lives.used b k line o stands other has (inl is))

  held_settles : (b k : ℕ) (line : Line) → b < length func.blocks → slice_get (lines_at func b) k ≡ Some line → (b ≡ 0 → k ≡ 0 → ⊥)
      → (o : Operand) → Contains (held_in line.inst.bundle) o → (v : ℕ) → o ≡ named v → names_at func table naming b k v ≡ settled parts table waits v
  held_settles b k line below stands behind o has v is =
      let within = slice_get_within (lines_at func b) k line stands in
      settled_at parts table waits b k v below behind (omega arith) (lives.held b k line o stands has (inl is))

  entry_settles : (b k : ℕ) (line : Line) → b < length func.blocks → slice_get (lines_at func b) k ≡ Some line → is_phi line.inst.op ≡ true
      → (j : ℕ) (label : BlockId) (o : Operand) → slice_get line.inst.labels j ≡ Some label → slice_get line.inst.operands j ≡ Some o
      → (v : ℕ) → o ≡ named v → names_at_end func table naming label.0 v ≡ settled parts table waits v
  entry_settles b k line below stands phi j label o labeled given v is =
      let here = line_in parts table waits b k line stands in
      let edge = label_edge func formed.phis b k j here.block line.inst label here.in_function here.in_block phi labeled in
      settled_end parts table waits label.0 v (succ_within func label.0 b edge)
      (lives.entry label.0 (length (lines_at func label.0)) b k line o refl edge stands phi (record {
        place = j;
        label = ap (λ (l : Option BlockId). option_map_or (λ (x : BlockId). eqb x.0 label.0) l false) labeled ∙ eq-eqb label.0 label.0 refl;
        operand_is = given;
      }) (inl is))

  operands_put : (b k : ℕ) (line : Line) → b < length func.blocks → slice_get (lines_at func b) k ≡ Some line → (b ≡ 0 → k ≡ 0 → ⊥)
      → (if is_phi line.inst.op then phi_operands func table naming number line.inst.labels line.inst.operands else map (renamed number (names_at func table naming b k)) line.inst.operands)
      ≡ map (put here) line.inst.operands
  operands_put b k line below stands behind =
      let known = uses_inside func formed.known b k line stands in
      elim (cases_Bool (is_phi line.inst.op)) [
        | inl phi ↦
            ap (λ (t : Bool). if t then phi_operands func table naming number line.inst.labels line.inst.operands else map (renamed number (names_at func table naming b k)) line.inst.operands) phi
            ∙ put_phi line.inst.labels line.inst.operands (phi_labels line.inst line.inst.op (of_line IsLine formed.lines b k line below stands) phi)
            (entry_settles b k line below stands phi) known.0
        | inr other ↦
            ap (λ (t : Bool). if t then phi_operands func table naming number line.inst.labels line.inst.operands else map (renamed number (names_at func table naming b k)) line.inst.operands) other
            ∙ put_all (names_at func table naming b k) line.inst.operands (used_settles b k line below stands behind other) known.0
      ]

  result_kept : (to : Option ℕ) → option_map (spelled func names) (option_map own to) ≡ option_map (old_name func) to
  result_kept None = refl
  result_kept (Some x) = refl

  abbrev made : Instruction → Option (List ℕ) → List Operand → List (Ty × Operand) → Instruction
  made inst result operands bundle = record inst { result = result; operands = operands; bundle = bundle }

  line_text : (b k : ℕ) (line : Line) → b < length func.blocks → slice_get (lines_at func b) k ≡ Some line → (b ≡ 0 → k ≡ 0 → ⊥)
      → map text (expanded_by func table naming number b k line line.inst.op) ≡ put_line here line.inst ∷ []
  line_text b k line below stands behind =
      let inst = line.inst in
      let at = names_at func table naming b k in
      let known = uses_inside func formed.known b k line stands in
      let operands = if is_phi inst.op then phi_operands func table naming number inst.labels inst.operands else map (renamed number at) inst.operands in
      let bundle = map (λ (entry : Ty × Operand). (let moved : Ty × Operand = (entry.0, renamed number at entry.1) in moved)) inst.bundle in
      ap (map text) (one_piece func table naming number b k line inst.op (others parts table waits b k line below stands behind))
      ∙ ap (λ (result : Option (List ℕ)). made inst result operands bundle ∷ []) (result_kept line.to ∙ old_name_is func b k line stands)
      ∙ ap (λ (os : List Operand). made inst inst.result os bundle ∷ []) (operands_put b k line below stands behind)
      ∙ ap (λ (es : List (Ty × Operand)). made inst inst.result (map (put here) inst.operands) es ∷ [])
      (put_entries at inst.bundle (held_settles b k line below stands behind) known.2)

  lines_text : (b k next : ℕ) (insts : List Instruction) → b < length func.blocks → drop k (lines_at func b) ≡ plain_lines next insts → (b ≡ 0 → k ≡ 0 → ⊥)
      → map text (expanded func table naming number b k (plain_lines next insts)) ≡ map (put_line here) insts
  lines_text b k next [] below place behind = refl
  lines_text b k next (inst ∷ insts) below place behind =
      let line = numbered next inst in
      let lines = plain_lines (following next inst) insts in
      let found = at_rest (lines_at func b) k line lines place in
      map-append text (expanded_by func table naming number b k line inst.op) (expanded func table naming number b (suc k) lines)
      ∙ ap (λ (is : List Instruction). is ++ map text (expanded func table naming number b (suc k) lines)) (line_text b k line below found.0 behind)
      ∙ ap (λ (is : List Instruction). put_line here inst ∷ is) (lines_text b (suc k) (following next inst) insts below found.1 (λ z e. omega (arith, e)))

  later_text : (b : ℕ) (blocks : List BasicBlock) → drop b func.blocks ≡ blocks → (b ≡ 0 → ⊥)
      → rewritten_blocks func table naming names b blocks ≡ map (put_block here) blocks
  later_text b [] place later = refl
  later_text b (block ∷ blocks) place later =
      let found = at_rest func.blocks b block blocks place in
      let below = slice_get_within func.blocks b block found.0 in
      let insts : insts_in func b ≡ block.insts = ap (λ (o : Option BasicBlock). option_map_or (λ (block : BasicBlock). block.insts) o []) found.0 in
      let lines : map text (pieces_of func table naming number b) ≡ map (put_line here) block.insts =
      ap (λ (vs : List ℕ). map text (map (inserted_phi func table naming number b) vs ++ expanded func table naming number b 0 (lines_at func b))) (joined_none parts table waits b below)
      ∙ lines_text b 0 (slice_index (registers_of func) b) (insts_in func b) below (drop_none (lines_at func b)) (λ z e. later z)
      ∙ ap (map (put_line here)) insts in
      ap (λ (is : List Instruction). (let made : BasicBlock = record { name = block.name; insts = is } in made) ∷ rewritten_blocks func table naming names (suc b) blocks) lines
      ∙ ap (λ (bs : List BasicBlock). put_block here block ∷ bs) (later_text (suc b) blocks found.1 (λ z. omega (arith, z)))

  -- ---- the entry

  abbrev entry_group : GroupContent
  entry_group = group_of table list

  values_are : (vs : List ℕ) → group_list (group_of table vs) ≡ vs
  values_are vs = each vs
    where
      each : (xs : List ℕ) → map (λ relocate. relocate.value.0) (map (relocate_in table vs) xs) ≡ xs
      each [] = refl
      each (x ∷ xs) = ap (λ (ys : List ℕ). x ∷ ys) (each xs)

  numbers_are : (vs : List ℕ) → ((v : ℕ) → among v vs ≡ true → v < length parts.args) → vs ≡ map (λ v. number (names_at func table naming 0 0 v)) vs
  numbers_are [] inside = refl
  numbers_are (v ∷ vs) inside =
      ap (λ (x : ℕ). x ∷ vs) (sym (ap number (enters parts table waits v) ∙ argument_number parts table waits v (inside v (among_here v vs))))
      ∙ ap (λ (xs : List ℕ). number (names_at func table naming 0 0 v) ∷ xs) (numbers_are vs (λ w is. inside w (among_there w v vs is)))

  none_before : calls_before func 0 0 ≡ 0
  none_before = refl

  are_counted : AreCounted func table names 0 0 (record { tokens = 0; relocates = 0 })
  are_counted = record {
    tokens = token_counted func table naming 0 0 (first_line parts table waits) (omega arith) refl (calls_first parts table waits);
    relocates = λ j v has.
        relocates_counted func table naming 0 0 (first_line parts table waits) (omega arith) refl (calls_first parts table waits) j v has
        ∙ ap (λ (lists : List (List ℕ)). sum_by (λ (list : List ℕ). length list) lists + j) (take_none (live_lists func table));
  }

  first_text : map text (expanded_by func table naming number 0 0 (first_line parts table waits) (first_of parts).op)
      ≡ first_lines (length parts.args) entry_group (first_of parts) (first_of parts).op
  first_text =
      ap (λ (t : Bool). map text (if t then plain func table naming number 0 0 (first_line parts table waits) ∷ []
      else statepoint func table naming number 0 0 parts.callee parts.types (first_of parts) ∷ group func table naming number 0 0 (first_line parts table waits))) waits.other
      ∙ group_text func table naming names number 0 0 (first_line parts table waits) (record { tokens = 0; relocates = 0 }) (group_list entry_group) parts.callee parts.types [] [] refl refl refl
      (values_are list ∙ numbers_are list waits.arguments) are_counted
      ∙ ap (λ (n : ℕ). entry_with n) (token_number parts table waits)
    where
      entry_with : ℕ → List Instruction
      entry_with n = first_lines n entry_group (first_of parts) (first_of parts).op

  entry_text : map text (pieces_of func table naming number 0)
      ≡ first_lines (length parts.args) entry_group (first_of parts) (first_of parts).op ++ map (put_line here) parts.insts
  entry_text =
      let rest = plain_lines (length parts.args) parts.insts in
      let line = first_line parts table waits in
      ap (λ (vs : List ℕ). map text (map (inserted_phi func table naming number 0) vs ++ expanded func table naming number 0 0 (lines_at func 0))) (joined_none parts table waits 0 (omega arith))
      ∙ map-append text (expanded_by func table naming number 0 0 line (first_of parts).op) (expanded func table naming number 0 1 rest)
      ∙ ap (λ (is : List Instruction). is ++ map text (expanded func table naming number 0 1 rest)) first_text
      ∙ ap (λ (is : List Instruction). first_lines (length parts.args) entry_group (first_of parts) (first_of parts).op ++ is)
      (lines_text 0 1 (length parts.args) parts.insts (omega arith) (drop_none rest) (λ z e. omega (arith, e)))

  -- the blocks of the rewritten function
  pub whole_text : blocks_behind (length (whole parts).args) (group_of table (live_list (whole parts) table 0 0)) (row parts table waits) (whole parts).blocks ≡ (rewritten (whole parts) table).blocks
  whole_text =
      sym (ap (λ (is : List Instruction). (let made : BasicBlock = record { name = parts.front; insts = is } in made) ∷ rewritten_blocks func table naming names 1 parts.blocks) entry_text
      ∙ ap (λ (bs : List BasicBlock). entry_block_is ∷ bs) (later_text 1 parts.blocks (drop_none parts.blocks) (λ z. omega (arith, z))))
    where
      entry_block_is : BasicBlock
      entry_block_is = record {
        name = parts.front;
        insts = first_lines (length parts.args) entry_group (first_of parts) (first_of parts).op ++ map (put_line here) parts.insts;
      }
