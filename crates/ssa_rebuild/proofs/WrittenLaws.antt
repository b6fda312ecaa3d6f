-- What is written over the numbers of a function's slots are the lines of the rewritten function.
use Rattle.std.proofs.Common.{◌≡◌, ◌∙◌, ℕ, zero, suc, ◌<◌, ◌+◌, inl, inr, Bool, true, false, not, subst, if◌then◌else◌, List, [], ◌∷◌, ◌++◌, length, map, filter, take, drop, get_or, Option, Some, None, slice_get, refl, ap, sym, arith, append_assoc, append-nil}
use Rattle.std.specs.Prelude.{slice_index, slice_index_or, codes, decimal, count_by}
use Rattle.std.specs.List.{flat_map, range_with_len, sum_by}
use Rattle.std.specs.Option.{option_map, option_map_or}
use Rattle.std.specs.Global.{Vec}
use Rattle.std.proofs.lemmas.Bool.{cases_Bool}
use Rattle.std.proofs.lemmas.List.{map-append, length-map, take_all}
use Rattle.std.proofs.lemmas.List.Sums.{sum_by-cons}
use Rattle.std.proofs.lemmas.Option.{get_or_from_slice_get}
use Rattle.list_laws.proofs.Places.{get_map, drop_none}
use Rattle.sp_ids.specs.declared.ids.BlockId.{BlockId}
use Rattle.sp_ids.specs.declared.ids.ValueId.{ValueId}
use Rattle.ir_ast.specs.declared.types.Ty.{Ty}
use Rattle.ir_ast.specs.declared.types.Ty.TheVariants.{Ptr}
use Rattle.ir_ast.specs.declared.ops.Callee.{Callee}
use Rattle.ir_ast.specs.declared.ops.Operand.{Operand}
use Rattle.ir_ast.specs.declared.ops.Op.{Op}
use Rattle.ir_ast.specs.declared.ops.Op.TheVariants.{Phi, Call}
use Rattle.ir_ast.specs.Insts.{Instruction}
use Rattle.ir_ast.specs.Blocks.{BasicBlock}
use Rattle.ir_ast.specs.Funcs.{Function}
use Rattle.ir_ast.specs.Faults.PhiEdges.{is_phi}
use Rattle.ir_ast.specs.Callees.{is_leaf}
use Rattle.ir_cfg.specs.Graphs.{graph_of, preds_of}
use Rattle.object_meaning.specs.Lines.{Line, following, numbered, registers_of}
use Rattle.object_meaning.specs.TargetRuns.{plain_lines}
use Rattle.rewriting_forms.specs.Numbered.{named, lines_at, is_call, calls, preds}
use Rattle.rewriting_forms.specs.Liveness.{live_list, live_lists}
use Rattle.rewriting_forms.specs.Names.{Name, own, relocated, joined, token, Naming, names_at}
use Rattle.rewriting_forms.specs.Rewritten.{Piece, piece_inst, place_in, renamed, line_names, joined_at, names_of, inserted_phi, statepoint, group as group_pieces, plain as plain_piece, phi_operands, expanded_by, expanded, pieces_of, spelled, old_name, is_token, is_relocated, is_joined, rewritten_blocks}
use Rattle.rewriting_laws.proofs.NameLemmas.{at_rest, line_is, is_one, is_none, call_or_not}
use Rattle.rewriting_laws.proofs.JumpLemmas.{one_piece}
use Rattle.statepoint_insert.specs.declared.texts.Counts.{Counts}
use Rattle.statepoint_insert.specs.Calls.{calls_before}
use Rattle.statepoint_insert.specs.Groups.{GroupContent, relocate_in, group_of, groups_of, has_null_base}
use Rattle.statepoint_insert.specs.Renumbered.{AreCounted}
use Rattle.statepoint_insert.specs.Texts.{statepoint_line, result_lines, relocate_lines, first_rank}
use Rattle.statepoint_insert.proofs.CallLaws.{call_list}
use Rattle.statepoint_insert.proofs.OldNames.{old_name_is}
use Rattle.version_walk.specs.declared.slots.Slot.{Slot}
use Rattle.ssa_rebuild.specs.declared.writing.Writing.{Writing}
use Rattle.version_walk.specs.Forest.{list_at}
use Rattle.ssa_rebuild.specs.Rows.{own_uses, held_in, use_numbers, number_behind, line_numbers, lines_numbers, body_numbers, count_of_call}
use Rattle.ssa_rebuild.specs.Answers.{number_of}
use Rattle.ssa_rebuild.specs.Written.{filled, filled_bundle, left, results_in, entries_left, operands_written, plain_written, plain_left, token_on, call_left, call_lines, call_written, no_group, group_at, counts_with, line_written, after, written, behind, phi_line, phi_after, phi_lines, phis_behind, begun, block_lines, block_after, blocks_written}
use Rattle.ssa_rebuild.specs.Arrivals.{labeled_numbers, phi_numbers, inserted_numbers, into_numbers, arriving_numbers}
use Rattle.ssa_rebuild.proofs.RowLaws.{count_more, calls_of_is, calls_next, insts_are}
use Rattle.ssa_rebuild.proofs.FilledLaws.{filled_is, bundle_is, left_is, phi_filled, phi_left}
use Rattle.ssa_rebuild.proofs.GroupLaws.{group_text}
use Rattle.list_laws.proofs.Ranges.{range_more}
use Rattle.ssa_rebuild.proofs.ArrivalLaws.{drop_front}
use Rattle.ir_ast.specs.Operands.{valued}

pub take_front : {A : Type 0} (n : ℕ) (xs ys : List A) → n ≡ length xs → take n (xs ++ ys) ≡ xs
take_front n [] ys is = ap (λ (m : ℕ). take m ys) is ∙ none ys
  where
    none : {A : Type 0} (ys : List A) → take 0 ys ≡ []
    none [] = refl
    none (y ∷ ys) = refl
take_front n (x ∷ xs) ys is = ap (λ (m : ℕ). take m (x ∷ (xs ++ ys))) is ∙ ap (λ (zs : List _). x ∷ zs) (take_front (length xs) xs ys refl)

module _ (func : Function) (table : List Operand) (naming : Naming) where
  abbrev names : List Name
  names = names_of func table naming

  abbrev number : Name → ℕ
  number name = place_in names name

  abbrev text : Piece → Instruction
  text piece = piece_inst (spelled func names) piece

  abbrev pub at_end : ℕ → ℕ → ℕ
  at_end p = number_behind func table naming number p

  abbrev here : ℕ → ℕ → ℕ → ℕ
  here b k v = number (names_at func table naming b k v)

  abbrev own_names : Line → List Name
  own_names line = option_map_or (λ x. own x ∷ []) line.to []

  -- ---- a line that is kept

  own_text : (to : Option ℕ) → option_map (spelled func names) (option_map own to) ≡ option_map (old_name func) to
  own_text None = refl
  own_text (Some x) = refl

  own_dropped : (to : Option ℕ) (result : Option (List ℕ)) (rest : List ℕ) → option_map (old_name func) to ≡ result
      → drop (results_in result) (map number (option_map_or (λ x. own x ∷ []) to []) ++ rest) ≡ rest
  own_dropped None result rest is = ap (λ (r : Option (List ℕ)). drop (results_in r) rest) (sym is) ∙ drop_none rest
  own_dropped (Some x) result rest is = ap (λ (r : Option (List ℕ)). drop (results_in r) (number (own x) ∷ rest)) (sym is) ∙ drop_none rest

  plain_names : (b k : ℕ) (line : Line) → slice_get (lines_at func b) k ≡ Some line → calls line ≡ false → line_names func table b k ≡ own_names line
  plain_names b k line stands plain =
      ap (λ (l : Line). (if calls l then token b k ∷ [] else []) ++ (own_names l ++ (if calls l then map (relocated b k) (live_list func table b k) else []))) (line_is func b k line stands)
      ∙ ap (λ (t : Bool). (if t then token b k ∷ [] else []) ++ (own_names line ++ (if t then map (relocated b k) (live_list func table b k) else []))) plain
      ∙ append-nil (own_names line)

  plain_split : (b k : ℕ) (line : Line) (rest : List ℕ) → calls line ≡ false → line_numbers func table naming number b k line ++ rest
      ≡ use_numbers (here b k) (own_uses line.inst) ++ (use_numbers (here b k) (held_in line.inst.bundle) ++ (map number (line_names func table b k) ++ rest))
  plain_split b k line rest plain =
      let one = use_numbers (here b k) (own_uses line.inst) in
      let two = use_numbers (here b k) (held_in line.inst.bundle) in
      let three = map number (line_names func table b k) in
      let is : line_numbers func table naming number b k line ≡ one ++ (two ++ three) = rw plain refl in
      ap (λ (ns : List ℕ). ns ++ rest) is ∙ append_assoc one (two ++ three) rest ∙ ap (λ (ns : List ℕ). one ++ ns) (append_assoc two three rest)

  operands_is : (b k : ℕ) (inst : Instruction) (tail erest : List ℕ)
      → operands_written (use_numbers (here b k) (own_uses inst) ++ tail) (phi_numbers at_end inst ++ erest) inst
      ≡ (if is_phi inst.op then phi_operands func table naming number inst.labels inst.operands else map (renamed number (names_at func table naming b k)) inst.operands)
  operands_is b k inst tail erest = elim (cases_Bool (is_phi inst.op)) [
    | inl is ↦ rw is (phi_filled func table naming number inst.labels inst.operands erest)
    | inr not ↦ rw not (filled_is number (names_at func table naming b k) inst.operands tail)
  ]

  plain_is : (b k : ℕ) (line : Line) (rest erest : List ℕ) → slice_get (lines_at func b) k ≡ Some line → calls line ≡ false
      → plain_written (line_numbers func table naming number b k line ++ rest) (phi_numbers at_end line.inst ++ erest) line.inst ≡ text (plain_piece func table naming number b k line)
  plain_is b k line rest erest stands plain =
      let inst = line.inst in
      let entries = phi_numbers at_end inst ++ erest in
      let tail = use_numbers (here b k) (held_in inst.bundle) ++ (map number (line_names func table b k) ++ rest) in
      let split = plain_split b k line rest plain in
      let result : inst.result ≡ option_map (spelled func names) (option_map own line.to) = sym (own_text line.to ∙ old_name_is func b k line stands) in
      let operands = ap (λ (ns : List ℕ). operands_written ns entries inst) split ∙ operands_is b k inst tail erest in
      let bundle = ap (λ (ns : List ℕ). filled_bundle (left ns (own_uses inst)) inst.bundle) split
      ∙ ap (λ (ns : List ℕ). filled_bundle ns inst.bundle) (left_is (here b k) (own_uses inst) tail)
      ∙ bundle_is number (names_at func table naming b k) inst.bundle (map number (line_names func table b k) ++ rest) in
      ap (λ (r : Option (List ℕ)). made r (operands_written (line_numbers func table naming number b k line ++ rest) entries inst) (filled_bundle (left (line_numbers func table naming number b k line ++ rest) (own_uses inst)) inst.bundle)) result
      ∙ ap (λ (os : List Operand). made (option_map (spelled func names) (option_map own line.to)) os (filled_bundle (left (line_numbers func table naming number b k line ++ rest) (own_uses inst)) inst.bundle)) operands
      ∙ ap (λ (es : List (Ty × Operand)). made (option_map (spelled func names) (option_map own line.to))
      (if is_phi inst.op then phi_operands func table naming number inst.labels inst.operands else map (renamed number (names_at func table naming b k)) inst.operands) es) bundle
    where
      made : Option (List ℕ) → List Operand → List (Ty × Operand) → Instruction
      made r os es = record { result = r; op = line.inst.op; ty = line.inst.ty; operands = os; labels = line.inst.labels; bundle = es }

  plain_left_is : (b k : ℕ) (line : Line) (rest : List ℕ) → slice_get (lines_at func b) k ≡ Some line → calls line ≡ false
      → plain_left (line_numbers func table naming number b k line ++ rest) line.inst ≡ rest
  plain_left_is b k line rest stands plain =
      let inst = line.inst in
      let tail = map number (line_names func table b k) ++ rest in
      ap (λ (ns : List ℕ). plain_left ns inst) (plain_split b k line rest plain)
      ∙ ap (λ (ns : List ℕ). drop (results_in inst.result) (left ns (held_in inst.bundle))) (left_is (here b k) (own_uses inst) (use_numbers (here b k) (held_in inst.bundle) ++ tail))
      ∙ ap (λ (ns : List ℕ). drop (results_in inst.result) ns) (left_is (here b k) (held_in inst.bundle) tail)
      ∙ ap (λ (ns : List Name). drop (results_in inst.result) (map number ns ++ rest)) (plain_names b k line stands plain)
      ∙ own_dropped line.to inst.result rest (old_name_is func b k line stands)

  entries_left_is : (inst : Instruction) (erest : List ℕ) → entries_left (phi_numbers at_end inst ++ erest) inst ≡ erest
  entries_left_is inst erest = elim (cases_Bool (is_phi inst.op)) [
    | inl is ↦ rw is (phi_left func table naming number inst.labels inst.operands erest)
    | inr not ↦ rw not refl
  ]

  -- ---- a call

  call_names : (b k : ℕ) (line : Line) → slice_get (lines_at func b) k ≡ Some line → calls line ≡ true
      → line_names func table b k ≡ token b k ∷ (own_names line ++ map (relocated b k) (live_list func table b k))
  call_names b k line stands call =
      ap (λ (l : Line). (if calls l then token b k ∷ [] else []) ++ (own_names l ++ (if calls l then map (relocated b k) (live_list func table b k) else []))) (line_is func b k line stands)
      ∙ ap (λ (t : Bool). (if t then token b k ∷ [] else []) ++ (own_names line ++ (if t then map (relocated b k) (live_list func table b k) else []))) call

  call_split : (b k : ℕ) (line : Line) (rest : List ℕ) → slice_get (lines_at func b) k ≡ Some line → calls line ≡ true → line_numbers func table naming number b k line ++ rest
      ≡ use_numbers (here b k) line.inst.operands ++ (map (here b k) (live_list func table b k) ++ (use_numbers (here b k) (held_in line.inst.bundle)
      ++ (number (token b k) ∷ (map number (own_names line) ++ (map number (map (relocated b k) (live_list func table b k)) ++ rest)))))
  call_split b k line rest stands call =
      let one = use_numbers (here b k) line.inst.operands in
      let two = map (here b k) (live_list func table b k) in
      let three = use_numbers (here b k) (held_in line.inst.bundle) in
      let four = map number (line_names func table b k) in
      let own_part = map number (own_names line) in
      let list_part = map number (map (relocated b k) (live_list func table b k)) in
      let is : line_numbers func table naming number b k line ≡ one ++ (two ++ (three ++ four)) = rw call refl in
      let tail : four ++ rest ≡ number (token b k) ∷ (own_part ++ (list_part ++ rest)) =
      ap (λ (ns : List Name). map number ns ++ rest) (call_names b k line stands call)
      ∙ ap (λ (ns : List ℕ). number (token b k) ∷ (ns ++ rest)) (map-append number (own_names line) (map (relocated b k) (live_list func table b k)))
      ∙ ap (λ (ns : List ℕ). number (token b k) ∷ ns) (append_assoc own_part list_part rest) in
      ap (λ (ns : List ℕ). ns ++ rest) is ∙ append_assoc one (two ++ (three ++ four)) rest
      ∙ ap (λ (ns : List ℕ). one ++ ns) (append_assoc two (three ++ four) rest ∙ ap (λ (ns : List ℕ). two ++ ns) (append_assoc three four rest ∙ ap (λ (ns : List ℕ). three ++ ns) tail))

  module _ (b k : ℕ) (line : Line) (rest : List ℕ) (stands : slice_get (lines_at func b) k ≡ Some line) (call : calls line ≡ true) (count : ℕ)
      (counted : count ≡ length (live_list func table b k)) where
    abbrev list : List ℕ
    list = live_list func table b k

    abbrev inst : Instruction
    inst = line.inst

    abbrev body : List ℕ
    body = line_numbers func table naming number b k line ++ rest

    abbrev behind_token : List ℕ
    behind_token = map number (own_names line) ++ (map number (map (relocated b k) list) ++ rest)

    abbrev held_on : List ℕ
    held_on = use_numbers (here b k) (held_in inst.bundle) ++ (number (token b k) ∷ behind_token)

    call_operands : filled body inst.operands ≡ map (renamed number (names_at func table naming b k)) inst.operands
    call_operands =
        ap (λ (ns : List ℕ). filled ns inst.operands) (call_split b k line rest stands call)
        ∙ filled_is number (names_at func table naming b k) inst.operands (map (here b k) list ++ held_on)

    live_on : left body inst.operands ≡ map (here b k) list ++ held_on
    live_on = ap (λ (ns : List ℕ). left ns inst.operands) (call_split b k line rest stands call) ∙ left_is (here b k) inst.operands (map (here b k) list ++ held_on)

    long : count ≡ length (map (here b k) list)
    long = counted ∙ sym (length-map list (here b k))

    call_live : take count (left body inst.operands) ≡ map (here b k) list
    call_live = ap (take count) live_on ∙ take_front count (map (here b k) list) held_on long

    call_held : drop count (left body inst.operands) ≡ held_on
    call_held = ap (drop count) live_on ∙ drop_front count (map (here b k) list) held_on long

    call_bundle : filled_bundle (drop count (left body inst.operands)) inst.bundle ≡ map (λ entry. (entry.0, renamed number (names_at func table naming b k) entry.1)) inst.bundle
    call_bundle = ap (λ (ns : List ℕ). filled_bundle ns inst.bundle) call_held ∙ bundle_is number (names_at func table naming b k) inst.bundle (number (token b k) ∷ behind_token)

    call_token : token_on count body inst ≡ number (token b k) ∷ behind_token
    call_token = ap (λ (ns : List ℕ). left ns (held_in inst.bundle)) call_held ∙ left_is (here b k) (held_in inst.bundle) (number (token b k) ∷ behind_token)

    pub call_left_is : call_left count body inst ≡ rest
    call_left_is =
        let size : count ≡ length (map number (map (relocated b k) list)) = counted ∙ sym (length-map (map (relocated b k) list) number ∙ length-map list (relocated b k)) in
        ap (λ (ns : List ℕ). drop count (drop (results_in inst.result) (drop 1 ns))) call_token
        ∙ ap (λ (ns : List ℕ). drop count (drop (results_in inst.result) ns)) (drop_none behind_token)
        ∙ ap (drop count) (own_dropped line.to inst.result (map number (map (relocated b k) list) ++ rest) (old_name_is func b k line stands))
        ∙ drop_front count (map number (map (relocated b k) list)) rest size

  call_is : (b k : ℕ) (line : Line) (rest : List ℕ) (callee : Callee) (types : List Ty) (counts : Counts) → slice_get (lines_at func b) k ≡ Some line → calls line ≡ true
      → AreCounted func table names b k counts
      → call_lines counts (group_of table (live_list func table b k)) (line_numbers func table naming number b k line ++ rest) line.inst callee types
      ≡ map text (statepoint func table naming number b k callee types line.inst ∷ group_pieces func table naming number b k line)
  call_is b k line rest callee types counts stands call counted =
      let list = live_list func table b k in
      let inst = line.inst in
      let body = line_numbers func table naming number b k line ++ rest in
      let count = length (map (relocate_in table list) list) in
      let long : count ≡ length list = length-map list (relocate_in table list) in
      let token_is : slice_index (token_on count body inst) 0 ≡ number (token b k) = ap (λ (ns : List ℕ). slice_index ns 0) (call_token b k line rest stands call count long) in
      let first = statepoint_line counts.tokens (has_null_base table list) (take count (left body inst.operands)) callee types inst.ty (filled body inst.operands) (filled_bundle (drop count (left body inst.operands)) inst.bundle) in
      ap (λ (n : ℕ). let ls : List Instruction = first ∷ (result_lines n inst.ty inst.result ++ relocate_lines n counts.relocates (first_rank (has_null_base table list)) (map (relocate_in table list) list)) in ls) token_is
      ∙ sym (group_text func table naming names number b k line counts (take count (left body inst.operands)) callee types (filled body inst.operands) (filled_bundle (drop count (left body inst.operands)) inst.bundle)
      (old_name_is func b k line stands) (call_operands b k line rest stands call count long) (call_bundle b k line rest stands call count long) (call_live b k line rest stands call count long) counted)

  -- ---- lines

  abbrev pub relocates_before : ℕ → ℕ
  relocates_before n = sum_by (λ (list : List ℕ). length list) (take n (live_lists func table))

  -- the counts of names before a place of a block
  pub record AreCounts (counts : Counts) (b k : ℕ) : Type 0 where
    pub tokens : counts.tokens ≡ calls_before func b k
    pub relocates : counts.relocates ≡ relocates_before (calls_before func b k)

  -- the names of the calls' tokens and relocates are counted in the order of the text
  pub record NamesAreCounted : Type 0 where
    pub tokens : (b k : ℕ) (line : Line) → b < length func.blocks → slice_get (lines_at func b) k ≡ Some line → calls line ≡ true
        → place_in (filter is_token names) (token b k) ≡ calls_before func b k
    pub relocates : (b k : ℕ) (line : Line) → b < length func.blocks → slice_get (lines_at func b) k ≡ Some line → calls line ≡ true
        → (j v : ℕ) → slice_get (live_list func table b k) j ≡ Some v
        → place_in (filter is_relocated names) (relocated b k v) ≡ relocates_before (calls_before func b k) + j

  sum_more : (lists : List (List ℕ)) (n : ℕ) (list : List ℕ) → slice_get lists n ≡ Some list
      → sum_by (λ (list : List ℕ). length list) (take (n + 1) lists) ≡ sum_by (λ (list : List ℕ). length list) (take n lists) + length list
  sum_more [] n list is = absurd (let h : None ≡ Some list = is in cc)
  sum_more (x ∷ lists) zero list is =
      let e : x ≡ list = cc in
      let one = sum_by-cons (λ (list : List ℕ). length list) x [] in
      let same : length x ≡ length list = ap length e in
      omega (arith, one, same)
  sum_more (x ∷ lists) (suc n) list is =
      let s : suc n + 1 ≡ suc (n + 1) = omega arith in
      let rest = sum_more lists n list is in
      let more = sum_by-cons (λ (list : List ℕ). length list) x (take (n + 1) lists) in
      let less = sum_by-cons (λ (list : List ℕ). length list) x (take n lists) in
      rw s (omega (arith, rest, more, less))

  module _ (groups : List GroupContent) (groups_are : groups ≡ groups_of func table) (counted : NamesAreCounted) where
    pub record IsWritten (b k : ℕ) (found pieces : List Instruction) (old new : Writing) (rest erest : List ℕ) : Type 0 where
      pub lines : found ≡ pieces
      pub body : new.body ≡ rest
      pub entries : new.entries ≡ erest
      pub counts : AreCounts new.counts b k
      pub joined : new.joined ≡ old.joined

    -- one line
    line_plain : (b k : ℕ) (line : Line) (w : Writing) (rest erest : List ℕ) → slice_get (lines_at func b) k ≡ Some line → calls line ≡ false
        → w.body ≡ line_numbers func table naming number b k line ++ rest → w.entries ≡ phi_numbers at_end line.inst ++ erest → AreCounts w.counts b k
        → IsWritten b (suc k) (line_written groups w line.inst) (map text (expanded_by func table naming number b k line line.inst.op)) w (after groups w line.inst) rest erest
    line_plain b k line w rest erest stands plain body entries counts =
        let inst = line.inst in
        let all = line_numbers func table naming number b k line ++ rest in
        let more = count_more (lines_at func b) k line stands in
        let none : count_of_call line ≡ 0 = ap (λ (t : Bool). let n : ℕ = if t then 1 else 0 in n) plain in
        let next : calls_before func b k ≡ calls_before func b (suc k) = omega (arith, more, none) in
        let then' : after groups w inst ≡ record w { body = plain_left w.body inst; entries = entries_left w.entries inst } = rw plain refl in
        let written' : line_written groups w inst ≡ plain_written w.body w.entries inst ∷ [] = rw plain refl in
        record {
          lines = written' ∙ ap (λ (ns : List ℕ). plain_written ns w.entries inst ∷ []) body
              ∙ ap (λ (ns : List ℕ). plain_written all ns inst ∷ []) entries
              ∙ ap (λ (l : Instruction). l ∷ []) (plain_is b k line rest erest stands plain)
              ∙ sym (ap (map text) (one_piece func table naming number b k line inst.op plain));
          body = ap (λ (x : Writing). x.body) then' ∙ ap (λ (ns : List ℕ). plain_left ns inst) body ∙ plain_left_is b k line rest stands plain;
          entries = ap (λ (x : Writing). x.entries) then' ∙ ap (λ (ns : List ℕ). entries_left ns inst) entries ∙ entries_left_is inst erest;
          counts = record {
            tokens = ap (λ (x : Writing). x.counts.tokens) then' ∙ counts.tokens ∙ next;
            relocates = ap (λ (x : Writing). x.counts.relocates) then' ∙ counts.relocates ∙ ap relocates_before next;
          };
          joined = ap (λ (x : Writing). x.joined) then';
        }

    line_call : (b k : ℕ) (line : Line) (w : Writing) (rest erest : List ℕ) (callee : Callee) (types : List Ty) → b < length func.blocks
        → slice_get (lines_at func b) k ≡ Some line → line.inst.op ≡ Call callee types → is_leaf callee ≡ false
        → w.body ≡ line_numbers func table naming number b k line ++ rest → w.entries ≡ phi_numbers at_end line.inst ++ erest → AreCounts w.counts b k
        → IsWritten b (suc k) (line_written groups w line.inst) (map text (expanded_by func table naming number b k line line.inst.op)) w (after groups w line.inst) rest erest
    line_call b k line w rest erest callee types below stands op other body entries counts =
        let inst = line.inst in
        let list = live_list func table b k in
        let all = line_numbers func table naming number b k line ++ rest in
        let call : calls line ≡ true = ap is_call op ∙ ap (λ (t : Bool). not t) other in
        let phi : is_phi inst.op ≡ false = ap is_phi op in
        let more = count_more (lines_at func b) k line stands in
        let one : count_of_call line ≡ 1 = ap (λ (t : Bool). let n : ℕ = if t then 1 else 0 in n) call in
        let next : calls_before func b k + 1 ≡ calls_before func b (suc k) = omega (arith, more, one) in
        let found = call_list func table b k line below stands call in
        let group_is : group_at groups w.counts ≡ group_of table list =
        ap (λ (gs : List GroupContent). slice_index_or gs w.counts.tokens no_group) groups_are
        ∙ ap (λ (n : ℕ). slice_index_or (groups_of func table) n no_group) counts.tokens
        ∙ get_or_from_slice_get (groups_of func table) (calls_before func b k) (group_of table list) no_group (get_map (group_of table) (live_lists func table) (calls_before func b k) list found) in
        let size : length (group_at groups w.counts).relocates ≡ length list = ap (λ (g : GroupContent). length g.relocates) group_is ∙ length-map list (relocate_in table list) in
        let then' : after groups w inst ≡ record w {
          counts = counts_with w.counts (length (group_at groups w.counts).relocates);
          body = call_left (length (group_at groups w.counts).relocates) w.body inst;
        } = rw call refl in
        let written' : line_written groups w inst ≡ call_written w.counts (group_at groups w.counts) w.body inst inst.op = rw call refl in
        let are : AreCounted func table names b k w.counts = record {
          tokens = counted.tokens b k line below stands call ∙ sym counts.tokens;
          relocates = λ j v has. counted.relocates b k line below stands call j v has ∙ ap (λ (n : ℕ). n + j) (sym counts.relocates);
        } in
        let pieces : expanded_by func table naming number b k line inst.op ≡ statepoint func table naming number b k callee types inst ∷ group_pieces func table naming number b k line =
        ap (λ (o : Op). expanded_by func table naming number b k line o) op
        ∙ ap (λ (t : Bool). if t then plain_piece func table naming number b k line ∷ [] else statepoint func table naming number b k callee types inst ∷ group_pieces func table naming number b k line) other in
        record {
          lines = written' ∙ ap (λ (o : Op). call_written w.counts (group_at groups w.counts) w.body inst o) op
              ∙ ap (λ (g : GroupContent). call_lines w.counts g w.body inst callee types) group_is
              ∙ ap (λ (ns : List ℕ). call_lines w.counts (group_of table list) ns inst callee types) body
              ∙ call_is b k line rest callee types w.counts stands call are
              ∙ sym (ap (map text) pieces);
          body = ap (λ (x : Writing). x.body) then' ∙ ap (λ (ns : List ℕ). call_left (length (group_at groups w.counts).relocates) ns inst) body
              ∙ call_left_is b k line rest stands call (length (group_at groups w.counts).relocates) size;
          entries = ap (λ (x : Writing). x.entries) then' ∙ entries
              ∙ ap (λ (t : Bool). (if t then labeled_numbers at_end inst.labels inst.operands else []) ++ erest) phi;
          counts = record {
            tokens = ap (λ (x : Writing). x.counts.tokens) then' ∙ ap (λ (n : ℕ). n + 1) counts.tokens ∙ next;
            relocates = ap (λ (x : Writing). x.counts.relocates) then' ∙ ap (λ (n : ℕ). n + length (group_at groups w.counts).relocates) counts.relocates
                ∙ ap (λ (n : ℕ). relocates_before (calls_before func b k) + n) size
                ∙ sym (sum_more (live_lists func table) (calls_before func b k) list found) ∙ ap relocates_before next;
          };
          joined = ap (λ (x : Writing). x.joined) then';
        }

    line_is_written : (b k : ℕ) (line : Line) (w : Writing) (rest erest : List ℕ) → b < length func.blocks → slice_get (lines_at func b) k ≡ Some line
        → w.body ≡ line_numbers func table naming number b k line ++ rest → w.entries ≡ phi_numbers at_end line.inst ++ erest → AreCounts w.counts b k
        → IsWritten b (suc k) (line_written groups w line.inst) (map text (expanded_by func table naming number b k line line.inst.op)) w (after groups w line.inst) rest erest
    line_is_written b k line w rest erest below stands body entries counts = elim (call_or_not line.inst.op) [
      | is_none plain ↦ line_plain b k line w rest erest stands plain body entries counts
      | is_one callee types op other ↦ line_call b k line w rest erest callee types below stands op other body entries counts
    ]

    -- all lines from one on
    lines_are_written : (b k next : ℕ) (insts : List Instruction) (w : Writing) (rest erest : List ℕ) → b < length func.blocks → drop k (lines_at func b) ≡ plain_lines next insts
        → w.body ≡ lines_numbers func table naming number b k (plain_lines next insts) ++ rest → w.entries ≡ flat_map (phi_numbers at_end) insts ++ erest → AreCounts w.counts b k
        → IsWritten b (k + length insts) (written groups w insts) (map text (expanded func table naming number b k (plain_lines next insts))) w (behind groups w insts) rest erest
    lines_are_written b k next [] w rest erest below place body entries counts =
        let e : k ≡ k + 0 = omega arith in
        record { lines = refl; body = body; entries = entries; counts = subst (AreCounts w.counts b) e counts; joined = refl }
    lines_are_written b k next (inst ∷ insts) w rest erest below place body entries counts =
        let line = numbered next inst in
        let lines = plain_lines (following next inst) insts in
        let at = at_rest (lines_at func b) k line lines place in
        let e : suc k + length insts ≡ k + suc (length insts) = omega arith in
        let one = line_is_written b k line w (lines_numbers func table naming number b (suc k) lines ++ rest) (flat_map (phi_numbers at_end) insts ++ erest) below at.0
        (body ∙ append_assoc (line_numbers func table naming number b k line) (lines_numbers func table naming number b (suc k) lines) rest)
        (entries ∙ append_assoc (phi_numbers at_end inst) (flat_map (phi_numbers at_end) insts) erest) counts in
        let others = lines_are_written b (suc k) (following next inst) insts (after groups w inst) rest erest below at.1 one.body one.entries one.counts in
        record {
          lines = ap (λ (ls : List Instruction). ls ++ written groups (after groups w inst) insts) one.lines
              ∙ ap (λ (ls : List Instruction). map text (expanded_by func table naming number b k line inst.op) ++ ls) others.lines
              ∙ sym (map-append text (expanded_by func table naming number b k line inst.op) (expanded func table naming number b (suc k) lines));
          body = others.body;
          entries = others.entries;
          counts = subst (AreCounts (behind groups w (inst ∷ insts)).counts b) e others.counts;
          joined = others.joined ∙ one.joined;
        }

    -- ---- inserted phis

    abbrev block_preds : ℕ → List BlockId
    block_preds b = preds_of (graph_of func) b

    pub record ArePhis (b : ℕ) (found pieces : List Instruction) (old new : Writing) (more : ℕ) (rest erest : List ℕ) : Type 0 where
      pub lines : found ≡ pieces
      pub body : new.body ≡ rest
      pub entries : new.entries ≡ erest
      pub counts : new.counts ≡ old.counts
      pub joined : new.joined ≡ old.joined + more

    inserted_long : (v : ℕ) (ps : List BlockId) → length ps ≡ length (inserted_numbers at_end (map (λ p. p.0) ps) v)
    inserted_long v [] = refl
    inserted_long v (p ∷ ps) = ap suc (inserted_long v ps)

    inserted_are : (v : ℕ) (ps : List ℕ) → map (λ n. named n) (inserted_numbers at_end ps v) ≡ map (λ p. named (at_end p v)) ps
    inserted_are v [] = refl
    inserted_are v (p ∷ ps) = ap (λ (os : List Operand). named (at_end p v) ∷ os) (inserted_are v ps)

    phi_is : (b v : ℕ) (w : Writing) (erest : List ℕ) → w.entries ≡ inserted_numbers at_end (preds func b) v ++ erest
        → place_in (filter is_joined names) (joined b v) ≡ w.joined → phi_line (block_preds b) w ≡ text (inserted_phi func table naming number b v)
    phi_is b v w erest entries place =
        let ps = block_preds b in
        let taken : take (length ps) w.entries ≡ inserted_numbers at_end (preds func b) v =
        ap (take (length ps)) entries ∙ take_front (length ps) (inserted_numbers at_end (preds func b) v) erest (inserted_long v ps) in
        ap (λ (ns : List ℕ). made w.joined (map (λ n. named n) ns)) taken
        ∙ ap (made w.joined) (inserted_are v (preds func b))
        ∙ ap (λ (n : ℕ). made n (map (λ p. named (at_end p v)) (preds func b))) (sym place)
      where
        made : ℕ → List Operand → Instruction
        made n os = record { result = Some (codes "sp.m" ++ decimal n); op = Phi; ty = Ptr; operands = os; labels = block_preds b; bundle = [] }

    phis_are : (b : ℕ) (vs : List ℕ) (w : Writing) (rest erest : List ℕ) → w.body ≡ map number (map (joined b) vs) ++ rest
        → w.entries ≡ flat_map (inserted_numbers at_end (preds func b)) vs ++ erest
        → ((j v : ℕ) → slice_get vs j ≡ Some v → place_in (filter is_joined names) (joined b v) ≡ w.joined + j)
        → ArePhis b (phi_lines (block_preds b) w (map valued vs)) (map text (map (inserted_phi func table naming number b) vs)) w (phis_behind (block_preds b) w (map valued vs)) (length vs) rest erest
    phis_are b [] w rest erest body entries places =
        let e : w.joined ≡ w.joined + 0 = omega arith in
        record { lines = refl; body = body; entries = entries; counts = refl; joined = e }
    phis_are b (v ∷ vs) w rest erest body entries places =
        let ps = block_preds b in
        let next = phi_after ps w in
        let others = flat_map (inserted_numbers at_end (preds func b)) vs in
        let split : w.entries ≡ inserted_numbers at_end (preds func b) v ++ (others ++ erest) = entries ∙ append_assoc (inserted_numbers at_end (preds func b) v) others erest in
        let z : w.joined + 0 ≡ w.joined = omega arith in
        let first = phi_is b v w (others ++ erest) split (places 0 v refl ∙ z) in
        let tail = phis_are b vs next rest erest
        (ap (drop 1) body ∙ drop_none (map number (map (joined b) vs) ++ rest))
        (ap (drop (length ps)) split ∙ drop_front (length ps) (inserted_numbers at_end (preds func b) v) (others ++ erest) (inserted_long v ps))
        (λ j u has. (let h = places (suc j) u has in omega (arith, h))) in
        let more = tail.joined in
        record {
          lines = ap (λ (l : Instruction). l ∷ phi_lines ps next (map valued vs)) first
              ∙ ap (λ (ls : List Instruction). text (inserted_phi func table naming number b v) ∷ ls) tail.lines;
          body = tail.body;
          entries = tail.entries;
          counts = tail.counts;
          joined = omega (arith, more);
        }

    -- ---- blocks

    abbrev pub joined_before : ℕ → ℕ
    joined_before b = sum_by (λ c. length (joined_at func naming c)) (range_with_len 0 b)

    module _ (joins : List (Vec ValueId)) (rows : List (Vec Slot))
        (joins_are : (b : ℕ) → b < length func.blocks → list_at joins b ≡ map valued (joined_at func naming b))
        (rows_are : (b : ℕ) → b < length func.blocks → (rest : List ℕ) × (map number_of (list_at rows b) ≡ body_numbers func table naming number b ++ rest))
        (joined_counted : (b j v : ℕ) → b < length func.blocks → slice_get (joined_at func naming b) j ≡ Some v → place_in (filter is_joined names) (joined b v) ≡ joined_before b + j)
      where
        abbrev graph : List (List BlockId)
        graph = graph_of func

        pub record IsBlock (b : ℕ) (found pieces : List Instruction) (new : Writing) (erest : List ℕ) : Type 0 where
          pub lines : found ≡ pieces
          pub entries : new.entries ≡ erest
          pub counts : AreCounts new.counts (suc b) 0
          pub joined : new.joined ≡ joined_before (suc b)

        counts_on : (b : ℕ) (insts : List Instruction) (counts : Counts) → lines_at func b ≡ plain_lines (slice_index (registers_of func) b) insts → AreCounts counts b (0 + length insts) → AreCounts counts (suc b) 0
        counts_on b insts counts lines are =
            let long : length insts ≡ length (lines_at func b) = sym (ap length lines ∙ lines_long (slice_index (registers_of func) b) insts) in
            let all = take_all (length insts) (lines_at func b) (omega (arith, long)) in
            let behind' = calls_of_is (calls_before func b 0) (lines_at func b) in
            let next = calls_next func table b in
            let s : b + 1 ≡ suc b = omega arith in
            let z : 0 + length insts ≡ length insts = omega arith in
            let whole : calls_before func b (0 + length insts) ≡ calls_before func b 0 + count_by calls (lines_at func b) =
            ap (λ (n : ℕ). calls_before func b n) z ∙ ap (λ (ls : List Line). sum_by (λ c. count_by calls (lines_at func c)) (range_with_len 0 b) + count_by calls ls) all
            ∙ (let none : count_by calls [] ≡ 0 = refl in omega (arith, none)) in
            let same : calls_before func b (0 + length insts) ≡ calls_before func (suc b) 0 = whole ∙ sym behind' ∙ next ∙ ap (λ (n : ℕ). calls_before func n 0) s in
            record { tokens = are.tokens ∙ same; relocates = are.relocates ∙ ap relocates_before same }
          where
            lines_long : (next : ℕ) (insts : List Instruction) → length (plain_lines next insts) ≡ length insts
            lines_long next [] = refl
            lines_long next (inst ∷ insts) = ap suc (lines_long (following next inst) insts)

        joined_more : (b : ℕ) → joined_before (suc b) ≡ joined_before b + length (joined_at func naming b)
        joined_more b =
            let s : suc b ≡ b + 1 = omega arith in
            let z : 0 + b ≡ b = omega arith in
            ap joined_before s ∙ ap (sum_by (λ c. length (joined_at func naming c))) (range_more 0 b ∙ ap (λ (m : ℕ). range_with_len 0 b ++ m ∷ []) z)
            ∙ sum_push (λ c. length (joined_at func naming c)) (range_with_len 0 b) b
          where
            sum_push : (f : ℕ → ℕ) (xs : List ℕ) (x : ℕ) → sum_by f (xs ++ x ∷ []) ≡ sum_by f xs + f x
            sum_push f [] x = (let one = sum_by-cons f x [] in omega (arith, one))
            sum_push f (y ∷ xs) x =
                let more = sum_by-cons f y (xs ++ x ∷ []) in
                let less = sum_by-cons f y xs in
                let rest = sum_push f xs x in
                omega (arith, more, less, rest)

        block_is : (b : ℕ) (block : BasicBlock) (w : Writing) (erest : List ℕ) → b < length func.blocks → slice_get func.blocks b ≡ Some block
            → w.entries ≡ into_numbers at_end (preds func b) (joined_at func naming b) block.insts ++ erest → AreCounts w.counts b 0 → w.joined ≡ joined_before b
            → IsBlock b (block_lines graph groups joins rows b w block.insts) (map text (pieces_of func table naming number b)) (block_after graph groups joins rows b w block.insts) erest
        block_is b block w erest below stands entries counts joined' =
            let insts = block.insts in
            let next = slice_index (registers_of func) b in
            let vs = joined_at func naming b in
            let first = begun rows b w in
            let lines : lines_at func b ≡ plain_lines next insts = ap (plain_lines next) (insts_are func table b block stands) in
            let ends = (rows_are b below).0 in
            let body : first.body ≡ map number (map (joined b) vs) ++ (lines_numbers func table naming number b 0 (plain_lines next insts) ++ ends) =
            (rows_are b below).1 ∙ append_assoc (map number (map (joined b) vs)) (lines_numbers func table naming number b 0 (lines_at func b)) ends
            ∙ ap (λ (ls : List Line). map number (map (joined b) vs) ++ (lines_numbers func table naming number b 0 ls ++ ends)) lines in
            let phis = phis_are b vs first (lines_numbers func table naming number b 0 (plain_lines next insts) ++ ends) (flat_map (phi_numbers at_end) insts ++ erest) body
            (entries ∙ append_assoc (flat_map (inserted_numbers at_end (preds func b)) vs) (flat_map (phi_numbers at_end) insts) erest)
            (λ j v has. joined_counted b j v below has ∙ ap (λ (n : ℕ). n + j) (sym joined')) in
            let behind_phis = phis_behind (block_preds b) first (map valued vs) in
            let rest = lines_are_written b 0 next insts behind_phis ends erest below (drop_none (lines_at func b) ∙ lines) phis.body phis.entries
            (subst (λ (cs : Counts). AreCounts cs b 0) (sym phis.counts) counts) in
            let joins_is = joins_are b below in
            record {
              lines = ap (λ (js : List ValueId). phi_lines (block_preds b) first js ++ written groups (phis_behind (block_preds b) first js) insts) joins_is
                  ∙ ap (λ (ls : List Instruction). ls ++ written groups behind_phis insts) phis.lines
                  ∙ ap (λ (ls : List Instruction). map text (map (inserted_phi func table naming number b) vs) ++ ls) rest.lines
                  ∙ ap (λ (ls : List Line). map text (map (inserted_phi func table naming number b) vs) ++ map text (expanded func table naming number b 0 ls)) (sym lines)
                  ∙ sym (map-append text (map (inserted_phi func table naming number b) vs) (expanded func table naming number b 0 (lines_at func b)));
              entries = ap (λ (js : List ValueId). (behind groups (phis_behind (block_preds b) first js) insts).entries) joins_is ∙ rest.entries;
              counts = subst (λ (js : List ValueId). AreCounts (behind groups (phis_behind (block_preds b) first js) insts).counts (suc b) 0) (sym joins_is) (counts_on b insts (behind groups behind_phis insts).counts lines rest.counts);
              joined = ap (λ (js : List ValueId). (behind groups (phis_behind (block_preds b) first js) insts).joined) joins_is ∙ rest.joined ∙ phis.joined
                  ∙ ap (λ (n : ℕ). n + length vs) joined' ∙ sym (joined_more b);
            }

        pub blocks_are : (b : ℕ) (blocks : List BasicBlock) (lists : List (List ℕ)) (w : Writing) → drop b func.blocks ≡ blocks → b + length blocks ≡ length func.blocks
            → length lists ≡ length blocks → ((i : ℕ) → i < length blocks → get_or lists i [] ≡ joined_at func naming (b + i))
            → w.entries ≡ arriving_numbers at_end (preds func) lists b blocks → AreCounts w.counts b 0 → w.joined ≡ joined_before b
            → blocks_written graph groups joins rows b w blocks ≡ rewritten_blocks func table naming names b blocks
        blocks_are b [] lists w place size long each entries counts joined' = refl
        blocks_are b (block ∷ blocks) [] w place size long each entries counts joined' = absurd (omega (arith, long))
        blocks_are b (block ∷ blocks) (list ∷ lists) w place size long each entries counts joined' =
            let below : b < length func.blocks = omega (arith, size) in
            let at = at_rest func.blocks b block blocks place in
            let z : b + 0 ≡ b = omega arith in
            let list_is : list ≡ joined_at func naming b = each 0 (omega arith) ∙ ap (joined_at func naming) z in
            let one = block_is b block w (arriving_numbers at_end (preds func) lists (suc b) blocks) below at.0
            (entries ∙ ap (λ (vs : List ℕ). into_numbers at_end (preds func b) vs block.insts ++ arriving_numbers at_end (preds func) lists (suc b) blocks) list_is) counts joined' in
            let others = blocks_are (suc b) blocks lists (block_after graph groups joins rows b w block.insts) at.1 (omega (arith, size)) (omega (arith, long))
            (λ i inside. (let e : b + suc i ≡ suc b + i = omega arith in each (suc i) (omega (arith, inside)) ∙ ap (joined_at func naming) e)) one.entries one.counts one.joined in
            ap (λ (is : List Instruction). named_block block.name is ∷ blocks_written graph groups joins rows (suc b) (block_after graph groups joins rows b w block.insts) blocks) one.lines
            ∙ ap (λ (bs : List BasicBlock). named_block block.name (map text (pieces_of func table naming number b)) ∷ bs) others
          where
            named_block : List ℕ → List Instruction → BasicBlock
            named_block name insts = record { name = name; insts = insts }
