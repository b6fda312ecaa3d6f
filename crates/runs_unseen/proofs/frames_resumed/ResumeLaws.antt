-- A frame that waits goes on behind its group, in both meanings.
use Rattle.std.proofs.Common.{◌≡◌, ℕ, zero, suc, ◌+◌, ◌<◌, ◌≤◌, ◌==◌, ◌&&◌, Bool, true, false, List, [], ◌∷◌, ◌++◌, length, get_or, map, take, drop, refl, sym, ap, ◌∙◌, subst, arith, Some, inl, inr}
use Rattle.std.specs.Prelude.{slice_get, slice_index, slice_index_or, if◌then◌else◌}
use Rattle.std.specs.List.{Contains, drop-map}
use Rattle.std.proofs.lemmas.Bool.{and_parts, cases_lt, eqb-true, true≢false}
use Rattle.std.proofs.lemmas.List.{take-map}
use Rattle.std.proofs.lemmas.Option.{none-some, same_Some, slice_get_within}
use Rattle.list_laws.proofs.Contents.{contains_first, contains_get, get_contained, joined_contains}
use Rattle.sp_ids.specs.declared.ids.ValueId.{ValueId}
use Rattle.ir_ast.specs.declared.ops.Op.{Op}
use Rattle.ir_ast.specs.declared.ops.Op.TheVariants as ops
use Rattle.ir_ast.specs.declared.ops.Operand.{Operand}
use Rattle.ir_ast.specs.declared.ops.Operand.TheVariants as operands
use Rattle.ir_ast.specs.declared.types.Ty.{Ty}
use Rattle.ir_ast.specs.Faults.GroupShape.{entries_of, is_statepoint, live_entries}
use Rattle.ir_ast.specs.Funcs.{Function}
use Rattle.ir_ast.specs.Lines.{LineOf}
use Rattle.ir_ast.specs.Modules.{ModuleContent}
use Rattle.ir_ast.specs.Objects.{Datum, Object, Pointer, null, number}
use Rattle.ir_ast.specs.Types.{is_pointer}
use Rattle.ir_ast.specs.Values.{outcome_type, value_types}
use Rattle.frame_forms.specs.FrameSizes.{frame_words}
use Rattle.moving_heap.specs.declared.stands.Stand.{Stand}
use Rattle.frame_walk.specs.Maps.{Pair}
use Rattle.object_meaning.specs.Frames.{answered, answered_at, answered_by, group_length, index_in, is_member, member_value, member_write, regrouped}
use Rattle.object_meaning.specs.Lines.{Line, insts_in, registers_of}
use Rattle.object_meaning.specs.Registers.{nothing, number_in, operand, pointer_in, put, put_all, value}
use Rattle.object_meaning.specs.States.{Frame}
use Rattle.pair_facts.specs.declared.bases.Base.TheVariants.{Named}
use Rattle.pair_facts.specs.Lines.{gives, group_in, is_null, is_relocate, line_in, lines_at, operand_at}
use Rattle.pair_facts.specs.Pairs.{after_group, base_index, derived_index, member_pairs, own_pairs, relocated_pairs, relocates_base}
use Rattle.pair_facts.specs.Uses.{entries_at, entries_used, relocates}
use Rattle.pair_facts.proofs.GroupLaws.{given_is, stands_member}
use Rattle.machine_meaning.specs.Machines.{gone_behind, gone_from, regrouped_by, slot_put, slot_value}
use Rattle.machine_meaning.specs.Relations.{word_in, IsPair}
use Rattle.machine_meaning.specs.Words.{worded, worded_operand}
use Rattle.moves_unseen.specs.Frames.{AreNumbers, FrameWords, IsRunning, IsWaiting, group_pairs, relocated_pair}
use Rattle.moves_unseen.specs.States.{worded_frame}
use Rattle.moves_unseen.specs.Types.{IsLineOf}
use Rattle.moves_unseen.specs.Waits.{GoesOn, IsAnswer, IsSound}
use Rattle.moves_unseen.proofs.LineTypes.{lines_are_typed}
use Rattle.moves_unseen.proofs.LiteralLaws.{literals_bare}
use Rattle.moves_unseen.proofs.PassLaws.{put_words}
use Rattle.moves_unseen.proofs.PhiLaws.{length_each, picked, put_each}
use Rattle.moves_unseen.proofs.RegisterLaws.{word_of_value}
use Rattle.moves_unseen.proofs.ValueLaws.{pair_of_base, value_at}
use Rattle.moves_unseen.proofs.VerifiedLaws.{pair_stands}
use Rattle.runs_unseen.proofs.frames_spilled.GroupSlots.{entry_pointer, member_at, pair_of}
use Rattle.runs_unseen.proofs.frames_spilled.RoomLaws.{entries_fit}
use Rattle.runs_unseen.proofs.frames_resumed.GroupLaws.{behind_group, found_in, front_index, group_picks, group_put, last_is, past_operands, rest_is}
use Rattle.object_meaning.proofs.LineLaws.{line_is}
use Rattle.moves_unseen.proofs.JumpSteps.{pair_as}
use Rattle.pair_facts.proofs.OwnLaws.{named_is}

-- ---- what a member makes

-- the word that a member of a group gives
abbrev pub member_word : List ℕ → ℕ → Line → Op → ℕ
member_word stack word member ops.GcRelocate = slice_index stack (derived_index member)
member_word stack word member _ = word

same_index : (given : List Operand) (place : ℕ) → index_in (slice_get (map worded_operand given) place) ≡ index_in (slice_get given place)
same_index [] place = refl
same_index (operands.Value at ∷ given) zero = refl
same_index (operands.Int literal ∷ given) zero = refl
same_index (operands.Null ∷ given) zero = refl
same_index (operands.Fun called ∷ given) zero = refl
same_index (first ∷ given) (suc place) = same_index given place

slot_value_is : (stack : List ℕ) (word : ℕ) (member : Line) (op : Op) → slot_value stack (number word) (worded member) op ≡ number (member_word stack word member op)
slot_value_is stack word member ops.GcRelocate = ap (λ (place : ℕ). number (slice_index stack place)) (same_index member.inst.operands 2)
slot_value_is stack word member op = refl

members_worded : (lines : List Line) → group_length (map worded lines) ≡ group_length lines
members_worded [] = refl
members_worded (line ∷ lines) = ap (λ (n : ℕ). if is_member line.inst.op then 1 + n else 0) (members_worded lines)

registers_are : (registers held : List Datum) (entries : List Operand) (answer : Datum) (members : List Line)
    → put_all (map (member_write registers entries answer) members) held ≡ put_each (λ member. member_value registers entries answer member member.inst.op) members held
registers_are registers held entries answer [] = refl
registers_are registers held entries answer (member ∷ members) =
    registers_are registers (put member.to (member_value registers entries answer member member.inst.op) held) entries answer members

words_are : (stack : List ℕ) (word : ℕ) (members : List Line) (held : List ℕ)
    → put_all (map (slot_put stack (number word)) (map worded members)) (map number held) ≡ map number (put_each (λ member. member_word stack word member member.inst.op) members held)
words_are stack word [] held = refl
words_are stack word (member ∷ members) held =
    ap (λ (registers : List Datum). put_all (map (slot_put stack (number word)) (map worded members)) registers)
    (ap (λ (d : Datum). put member.to d (map number held)) (slot_value_is stack word member member.inst.op) ∙ put_words member.to (member_word stack word member member.inst.op) held)
    ∙ words_are stack word members (put member.to (member_word stack word member member.inst.op) held)

-- where all members that give a value give the same number, both have the same one
number_picked : (data_made : Line → Datum) (word_made : Line → ℕ) (members : List Line) (at : ℕ) (old : Datum) (old_word : ℕ)
    → ((place : ℕ) (member : Line) → slice_get members place ≡ Some member → gives member at ≡ true → word_made member ≡ number_in (data_made member))
    → old_word ≡ number_in old → picked word_made members at old_word ≡ number_in (picked data_made members at old)
number_picked data_made word_made [] at old old_word each same = same
number_picked data_made word_made (member ∷ members) at old old_word each same =
    by (gives member at) refl (number_picked data_made word_made members at old old_word (λ place other stands given. each (suc place) other stands given) same)
  where
    by : (b : Bool) → gives member at ≡ b → picked word_made members at old_word ≡ number_in (picked data_made members at old)
        → (if b then word_made member else picked word_made members at old_word) ≡ number_in (if b then data_made member else picked data_made members at old)
    by true given rest = each 0 member refl given
    by false given rest = rest

relocate_op : (op : Op) → is_relocate op ≡ true → op ≡ ops.GcRelocate
relocate_op ops.GcRelocate is = refl
relocate_op op is = absurd cc

null_operand : (operand : Operand) → is_null operand ≡ true → operand ≡ operands.Null
null_operand operands.Null is = refl
null_operand operand is = absurd cc

entries_room : (func : Function) (block place : ℕ) (line : Line) → slice_get (lines_at func block) place ≡ Some line → (op : Op) → line.inst.op ≡ op → is_statepoint op ≡ true
    → length (entries_of line.inst) ≤ frame_words func
entries_room func block place line is (ops.Statepoint id callee passed) op_is statepoint =
    let room = entries_fit func block place line is id callee passed op_is in
    let same = ap (λ (op : Op). length (live_entries op line.inst.operands)) op_is in omega arith
entries_room func block place line is op op_is statepoint = absurd cc

-- ---- both meanings at a statepoint

answered_is : (frame : Frame) (call : Line) (behind : List Line) (answer : Datum) (op : Op) → is_statepoint op ≡ true
    → answered_by frame call behind answer op ≡ regrouped frame (live_entries op call.inst.operands) behind answer
answered_is frame call behind answer (ops.Statepoint id callee types) is = refl
answered_is frame call behind answer op is = absurd cc

gone_is : (stack : List ℕ) (frame : Frame) (call : Line) (behind : List Line) (answer : Datum) (op : Op) → is_statepoint op ≡ true
    → gone_behind stack frame call behind answer op ≡ regrouped_by stack frame behind answer
gone_is stack frame call behind answer (ops.Statepoint id callee types) is = refl
gone_is stack frame call behind answer op is = absurd cc

dropped_first : (lines : List Line) (place : ℕ) (line : Line) → slice_get lines place ≡ Some line → drop place lines ≡ line ∷ drop (suc place) lines
dropped_first [] place line is = absurd (none-some line is)
dropped_first (first ∷ lines) zero line is = ap (λ (l : Line). l ∷ lines) (same_Some first line is)
dropped_first (first ∷ lines) (suc place) line is = dropped_first lines place line is

null_pair : (stands : List Stand) → IsPair stands null null 0 0
null_pair stands = record { heap = record { object = omega arith; offset = omega arith }; same = refl; first = refl; derived_is = refl; base_is = refl }

-- the base of a pair with the base `null`
null_base : (stands : List Stand) (derived : Pointer) (word base_word : ℕ) → IsPair stands derived null word base_word → IsPair stands derived null word 0
null_base stands derived word base_word pair = record { heap = pair.heap; same = pair.same; first = refl; derived_is = pair.derived_is; base_is = refl }

-- ---- the frame behind the group

module _ (content : ModuleContent) (sound : IsSound content) (objects : List Object) (stands : List Stand) (frame : Frame) (held : FrameWords)
    (waiting : IsWaiting content stands frame held) (answer : Datum) (word : ℕ)
    (is_answer : IsAnswer stands (group_in (lines_at waiting.func frame.block) waiting.place) answer word) (below : List ℕ) where
  abbrev func : Function
  func = waiting.func

  abbrev lines : List Line
  lines = lines_at func frame.block

  abbrev head : ℕ
  head = waiting.place

  abbrev tail : List Line
  tail = drop (suc head) lines

  abbrev group : List Line
  group = group_in lines head

  abbrev entries : List Operand
  entries = entries_of waiting.call.inst

  abbrev types : List Ty
  types = value_types func

  abbrev stack : List ℕ
  stack = held.slots ++ below

  -- what a member gives, in both
  abbrev datum_of : Line → Datum
  datum_of member = member_value frame.registers entries answer member member.inst.op

  abbrev word_of : Line → ℕ
  word_of member = member_word stack word member member.inst.op

  abbrev new_registers : List Datum
  new_registers = put_each datum_of group frame.registers

  abbrev new_words : List ℕ
  new_words = put_each word_of group held.words

  head_line : line_in lines head ≡ waiting.call
  head_line = line_is lines head waiting.call waiting.is

  statepoint_here : is_statepoint (line_in lines head).inst.op ≡ true
  statepoint_here = ap (λ (l : Line). is_statepoint l.inst.op) head_line ∙ waiting.statepoint

  entries_here : entries_at lines head ≡ entries
  entries_here = ap (λ (l : Line). entries_of l.inst) head_line

  -- ---- its members

  member_line : (place : ℕ) (member : Line) → slice_get group place ≡ Some member → IsLineOf content func member
  member_line place member is =
      lines_are_typed content sound.target frame.func func waiting.at.defined frame.block (suc head + place) member (member_at lines head place member is)

  within : (place : ℕ) (member : Line) (to : ℕ) → slice_get group place ≡ Some member → member.to ≡ Some to → to < length types
  within place member to is given =
      slice_get_within types to (outcome_type member.inst.op member.inst.ty) ((member_line place member is).type to given)

  in_registers : (place : ℕ) (member : Line) (to : ℕ) → slice_get group place ≡ Some member → member.to ≡ Some to → to < length frame.registers
  in_registers place member to is given = subst (λ (n : ℕ). to < n) (sym waiting.registers_count) (within place member to is given)

  in_words : (place : ℕ) (member : Line) (to : ℕ) → slice_get group place ≡ Some member → member.to ≡ Some to → to < length held.words
  in_words place member to is given = subst (λ (n : ℕ). to < n) (sym waiting.words_count) (within place member to is given)

  abbrev next : ℕ
  next = slice_index (registers_of func) frame.block

  register_is : (at : ℕ) → get_or new_registers at nothing ≡ picked datum_of group at (get_or frame.registers at nothing)
  register_is at =
      group_put datum_of next (insts_in func frame.block) head frame.registers at nothing (get_or frame.registers at nothing) in_registers refl

  word_is : (at : ℕ) → get_or new_words at 0 ≡ picked word_of group at (get_or held.words at 0)
  word_is at =
      group_put word_of next (insts_in func frame.block) head held.words at 0 (get_or held.words at 0) in_words refl

  -- what a member gives
  given_register : (place : ℕ) (member : Line) (at : ℕ) → slice_get group place ≡ Some member → gives member at ≡ true
      → get_or new_registers at nothing ≡ member_value frame.registers entries answer member member.inst.op
  given_register place member at is given =
      register_is at
      ∙ group_picks datum_of next (insts_in func frame.block) head place member at (get_or frame.registers at nothing) is (given_is member at given)

  given_word : (place : ℕ) (member : Line) (at : ℕ) → slice_get group place ≡ Some member → gives member at ≡ true
      → get_or new_words at 0 ≡ member_word stack word member member.inst.op
  given_word place member at is given =
      word_is at
      ∙ group_picks word_of next (insts_in func frame.block) head place member at (get_or held.words at 0) is (given_is member at given)

  -- ---- numbers

  member_number : (place : ℕ) (member : Line) (at : ℕ) (ty : Ty) → slice_get types at ≡ Some ty → is_pointer ty ≡ false → slice_get group place ≡ Some member → gives member at ≡ true
      → (op : Op) → member.inst.op ≡ op → is_member op ≡ true → member_word stack word member op ≡ number_in (member_value frame.registers entries answer member op)
  member_number place member at ty typed plain is given ops.GcResult op_is part =
      is_answer.numbers member (contains_get group place member is) op_is
      (ap is_pointer (same_Some member.inst.ty ty
      (sym ((member_line place member is).type at (given_is member at given) ∙ ap (λ (op : Op). Some (outcome_type op member.inst.ty)) op_is) ∙ typed)) ∙ plain)
  member_number place member at ty typed plain is given ops.GcRelocate op_is part =
      let form = subst (λ (op : Op). LineOf op member.inst) op_is (member_line place member is).form in
      let same = same_Some member.inst.ty ty (sym ((member_line place member is).type at (given_is member at given) ∙ ap (λ (op : Op). Some (outcome_type op member.inst.ty)) op_is) ∙ typed) in
      absurd (true≢false (sym (form.0).type ∙ (ap is_pointer same ∙ plain)))
  member_number place member at ty typed plain is given op op_is part = absurd cc

  is_part : (place : ℕ) (member : Line) → slice_get group place ≡ Some member → is_member member.inst.op ≡ true
  is_part place member is =
      let there = stands_member lines head place member statepoint_here is in
      sym (ap (λ (l : Line). is_member l.inst.op) there.line_is) ∙ there.member.member

  new_numbers : AreNumbers types new_registers new_words
  new_numbers at ty typed plain =
      word_is at
      ∙ (number_picked datum_of word_of group at
      (get_or frame.registers at nothing) (get_or held.words at 0)
      (λ place member is given. member_number place member at ty typed plain is given member.inst.op refl (is_part place member is))
      (waiting.numbers at ty typed plain)
      ∙ sym (ap number_in (register_is at)))

  -- ---- relocates

  -- the entries of a relocate stand as a pair before the statepoint
  entries_stand : (place : ℕ) (member : Line) → slice_get group place ≡ Some member → is_relocate member.inst.op ≡ true
      → waiting.pairs (operand_at (entries_at lines head) (derived_index member)) (Named (operand_at (entries_at lines head) (base_index member))) ≡ true
  entries_stand place member is relocate =
      let there = stands_member lines head place member statepoint_here is in
      pair_stands func frame.block (suc head + place) (λ code. sound.verified frame.func frame.block (suc head + place) code func waiting.at.defined) 2 head
      (entries_used member (entries_at lines head))
      (relocates head member (record { stands = member_at lines head place member is; relocate = relocate; in_group = there.member.head_is }))
      waiting.pairs waiting.at.arrived

  derived_within : (place : ℕ) (member : Line) → slice_get group place ≡ Some member → is_relocate member.inst.op ≡ true → derived_index member < length held.slots
  derived_within place member is relocate = elim (cases_lt (derived_index member) (length (entries_at lines head))) [
    | inl low ↦ (
        let room = entries_room func frame.block head waiting.call waiting.is waiting.call.inst.op refl waiting.statepoint in
        let same = ap length entries_here in
        let whole = waiting.room in omega arith)
    | inr high ↦
        absurd (true≢false (sym (entries_stand place member is relocate)
        ∙ (ap (λ (o : Operand). waiting.pairs o (Named (operand_at (entries_at lines head) (base_index member)))) (past_operands (entries_at lines head) (derived_index member) high)
        ∙ (literals_bare func frame.block head waiting.pairs waiting.at.arrived 0).0 (Named (operand_at (entries_at lines head) (base_index member))))))
  ]

  pointer_of : (entry : ℕ) → slice_index_or (map (λ (each : Operand). pointer_in (value frame.registers each)) entries) entry null ≡ pointer_in (operand frame.registers entries entry)
  pointer_of entry = entry_pointer frame.registers entries entry ∙ sym (ap pointer_in (value_at frame.registers entries entry))

  -- its slots
  slot_pair : (place : ℕ) (member : Line) → slice_get group place ≡ Some member → is_relocate member.inst.op ≡ true
      → IsPair stands (pointer_in (operand frame.registers entries (derived_index member))) (pointer_in (operand frame.registers entries (base_index member)))
      (slice_index held.slots (derived_index member)) (slice_index held.slots (base_index member))
  slot_pair place member is relocate =
      let pair : Pair = pair_of member in
      let own : Contains (relocated_pair member) pair = subst (λ (b : Bool). Contains (if b then pair ∷ [] else []) pair) (sym relocate) (contains_first pair []) in
      let at = get_contained (group_pairs lines head) pair (joined_contains relocated_pair group member pair (contains_get group place member is) own) in
      pair_as stands
      (slice_index_or (map (λ (entry : Operand). pointer_in (value frame.registers entry)) entries) (derived_index member) null) (pointer_in (operand frame.registers entries (derived_index member)))
      (slice_index_or (map (λ (entry : Operand). pointer_in (value frame.registers entry)) entries) (base_index member) null) (pointer_in (operand frame.registers entries (base_index member)))
      (slice_index held.slots (derived_index member)) (slice_index held.slots (derived_index member)) (slice_index held.slots (base_index member)) (slice_index held.slots (base_index member))
      (pointer_of (derived_index member)) (pointer_of (base_index member)) refl refl
      (waiting.slots.each at.0 pair at.1)

  relocated_register : (place : ℕ) (member : Line) (at : ℕ) → slice_get group place ≡ Some member → gives member at ≡ true → member.inst.op ≡ ops.GcRelocate
      → get_or new_registers at nothing ≡ operand frame.registers entries (derived_index member)
  relocated_register place member at is given op_is =
      given_register place member at is given ∙ ap (member_value frame.registers entries answer member) op_is

  relocated_word : (place : ℕ) (member : Line) (at : ℕ) → slice_get group place ≡ Some member → gives member at ≡ true → member.inst.op ≡ ops.GcRelocate
      → get_or new_words at 0 ≡ slice_index held.slots (derived_index member)
  relocated_word place member at is given op_is =
      given_word place member at is given
      ∙ (ap (member_word stack word member) op_is
      ∙ front_index held.slots below (derived_index member) (derived_within place member is (ap is_relocate op_is)))

  -- ---- pairs

  abbrev IsNewPair : Operand → Operand → Type 0
  IsNewPair derived base = IsPair stands (pointer_in (value new_registers derived)) (pointer_in (value new_registers base)) (word_in new_words derived) (word_in new_words base)

  -- a result that is a pointer is its own base
  result_pair : (place : ℕ) (member : Line) (at : ValueId) (base : Operand) → slice_get group place ≡ Some member → gives member at.0 ≡ true → member.inst.op ≡ ops.GcResult
      → is_pointer member.inst.ty ≡ true → base ≡ operands.Value at → IsNewPair (operands.Value at) base
  result_pair place member at base is given op_is managed same =
      let register = given_register place member at.0 is given ∙ ap (member_value frame.registers entries answer member) op_is in
      let here = word_of_value new_words at.0 ∙ (given_word place member at.0 is given ∙ ap (member_word stack word member) op_is) in
      subst (IsNewPair (operands.Value at)) (sym same)
      (pair_as stands (pointer_in answer) (pointer_in (get_or new_registers at.0 nothing)) (pointer_in answer) (pointer_in (get_or new_registers at.0 nothing))
      word (word_in new_words (operands.Value at)) word (word_in new_words (operands.Value at))
      (sym (ap pointer_in register)) (sym (ap pointer_in register)) (sym here) (sym here)
      (pair_of_base stands (pointer_in answer) word (is_answer.bases member (contains_get group place member is) op_is managed)))

  -- a relocate has as its base the relocate of its base entry, or `null`
  relocate_pair : (place : ℕ) (member : Line) (at : ValueId) (base : Operand) → slice_get group place ≡ Some member → gives member at.0 ≡ true → member.inst.op ≡ ops.GcRelocate
      → relocated_pairs (entries_at lines head) group (base_index member) (Named base) ≡ true → IsNewPair (operands.Value at) base
  relocate_pair place member at (operands.Value other) is given op_is stood =
      let found = found_in (λ (line : Line). gives line other.0 && relocates_base (base_index member) line) group stood in
      let parts = and_parts (gives found.item other.0) (relocates_base (base_index member) found.item) found.passes in
      let relocated = and_parts (is_relocate found.item.inst.op) (base_index found.item == base_index member && derived_index found.item == base_index member) parts.1 in
      let derived = eqb-true (derived_index found.item) (base_index member)
      (and_parts (base_index found.item == base_index member) (derived_index found.item == base_index member) relocated.1).1 in
      let other_op = relocate_op found.item.inst.op relocated.0 in
      pair_as stands (pointer_in (operand frame.registers entries (derived_index member))) (pointer_in (get_or new_registers at.0 nothing))
      (pointer_in (operand frame.registers entries (base_index member))) (pointer_in (get_or new_registers other.0 nothing))
      (slice_index held.slots (derived_index member)) (word_in new_words (operands.Value at)) (slice_index held.slots (base_index member)) (word_in new_words (operands.Value other))
      (sym (ap pointer_in (relocated_register place member at.0 is given op_is)))
      (sym (ap pointer_in (relocated_register found.place found.item other.0 found.is parts.0 other_op ∙ ap (operand frame.registers entries) derived)))
      (sym (word_of_value new_words at.0 ∙ relocated_word place member at.0 is given op_is))
      (sym (word_of_value new_words other.0 ∙ (relocated_word found.place found.item other.0 found.is parts.0 other_op ∙ ap (slice_index held.slots) derived)))
      (slot_pair place member is (ap is_relocate op_is))
  relocate_pair place member at operands.Null is given op_is stood =
      let named = null_operand (operand_at (entries_at lines head) (base_index member)) stood in
      let pointer = ap pointer_in (value_at frame.registers entries (base_index member)
      ∙ ap (value frame.registers) (ap (λ (all : List Operand). operand_at all (base_index member)) (sym entries_here) ∙ named)) in
      pair_as stands (pointer_in (operand frame.registers entries (derived_index member))) (pointer_in (get_or new_registers at.0 nothing)) null null
      (slice_index held.slots (derived_index member)) (word_in new_words (operands.Value at)) 0 0
      (sym (ap pointer_in (relocated_register place member at.0 is given op_is))) refl
      (sym (word_of_value new_words at.0 ∙ relocated_word place member at.0 is given op_is)) refl
      (null_base stands (pointer_in (operand frame.registers entries (derived_index member))) (slice_index held.slots (derived_index member)) (slice_index held.slots (base_index member))
      (subst (λ (to : Pointer). IsPair stands (pointer_in (operand frame.registers entries (derived_index member))) to (slice_index held.slots (derived_index member)) (slice_index held.slots (base_index member)))
      pointer (slot_pair place member is (ap is_relocate op_is))))
  relocate_pair place member at (operands.Int literal) is given op_is stood = absurd cc
  relocate_pair place member at (operands.Fun called) is given op_is stood = absurd cc

  member_pair : (place : ℕ) (member : Line) (at : ValueId) (base : Operand) → slice_get group place ≡ Some member → gives member at.0 ≡ true → (op : Op) → member.inst.op ≡ op
      → member_pairs (entries_at lines head) group at.0 member op (Named base) ≡ true → IsNewPair (operands.Value at) base
  member_pair place member at base is given ops.GcResult op_is stood =
      let parts = and_parts (is_pointer member.inst.ty) (own_pairs at.0 (Named base)) stood in
      result_pair place member at base is given op_is parts.0 (named_is at.0 base parts.1)
  member_pair place member at base is given ops.GcRelocate op_is stood = relocate_pair place member at base is given op_is stood
  member_pair place member at base is given op op_is stood = absurd cc

  new_pointers : (derived base : Operand) → after_group (entries_at lines head) group derived (Named base) ≡ true → IsNewPair derived base
  new_pointers operands.Null base stood = subst (IsNewPair operands.Null) (sym (null_operand base stood)) (null_pair stands)
  new_pointers (operands.Value at) base stood =
      let found = found_in (λ (line : Line). gives line at.0 && member_pairs (entries_at lines head) group at.0 line line.inst.op (Named base)) group stood in
      let parts = and_parts (gives found.item at.0) (member_pairs (entries_at lines head) group at.0 found.item found.item.inst.op (Named base)) found.passes in
      member_pair found.place found.item at base found.is parts.0 found.item.inst.op refl parts.1
  new_pointers (operands.Int literal) base stood = absurd cc
  new_pointers (operands.Fun called) base stood = absurd cc

  -- ---- both frames

  abbrev new_frame : Frame
  new_frame = record frame { rest = drop (group_length tail) tail; registers = new_registers }

  running_there : IsRunning content objects stands new_frame (record held { words = new_words })
  running_there = record {
    func = func;
    place = suc (head + group_length tail);
    pairs = after_group (entries_at lines head) group;
    at = record {
      defined = waiting.at.defined;
      arrived = record {
        front = waiting.at.arrived.front;
        arrives = waiting.at.arrived.arrives;
        is = sym (behind_group lines head statepoint_here waiting.at.arrived.front);
      };
      rest = rest_is lines head statepoint_here;
    };
    words = record {
      registers_count = length_each datum_of group frame.registers ∙ waiting.registers_count;
      words_count = length_each word_of group held.words ∙ waiting.words_count;
      numbers = new_numbers;
      pointers = new_pointers;
    };
    slots = waiting.room;
    guarded = λ check passed before op. absurd (last_is lines head statepoint_here check before (ap is_statepoint op) (ap is_member op));
    chosen = λ select to before op managed gives_it. absurd (last_is lines head statepoint_here select before (ap is_statepoint op) (ap is_member op));
  }

  rest_here : frame.rest ≡ waiting.call ∷ tail
  rest_here = waiting.at.rest ∙ dropped_first lines head waiting.call waiting.is

  answered_here : answered frame answer ≡ new_frame
  answered_here =
      ap (λ (rest : List Line). answered_at frame rest answer) rest_here
      ∙ (answered_is frame waiting.call tail answer waiting.call.inst.op waiting.statepoint
      ∙ ap (λ (registers : List Datum). record frame { rest = drop (group_length tail) tail; registers = registers }) (registers_are frame.registers frame.registers entries answer group))

  abbrev worded_here : List Line → List Datum → Frame
  worded_here rest registers = record frame { rest = rest; registers = registers }

  gone_here : gone_from stack (worded_frame frame held.words) (map worded frame.rest) (number word) ≡ worded_frame new_frame new_words
  gone_here =
      ap (λ (rest : List Line). gone_from stack (worded_frame frame held.words) (map worded rest) (number word)) rest_here
      ∙ (gone_is stack (worded_frame frame held.words) (worded waiting.call) (map worded tail) (number word) waiting.call.inst.op waiting.statepoint
      ∙ (ap (λ (count : ℕ). worded_here (drop count (map worded tail)) (put_all (map (slot_put stack (number word)) (take count (map worded tail))) (map number held.words))) (members_worded tail)
      ∙ (ap (λ (rest : List Line). worded_here rest (put_all (map (slot_put stack (number word)) (take (group_length tail) (map worded tail))) (map number held.words))) (drop-map worded (group_length tail) tail)
      ∙ (ap (λ (members : List Line). worded_here (map worded (drop (group_length tail) tail)) (put_all (map (slot_put stack (number word)) members) (map number held.words))) (take-map worded (group_length tail) tail)
      ∙ ap (worded_here (map worded (drop (group_length tail) tail))) (words_are stack word group held.words)))))

  -- the frame goes on behind the group
  pub goes_on : GoesOn content objects stands frame held answer word below
  goes_on = record {
    words = new_words;
    running = subst (λ (there : Frame). IsRunning content objects stands there (record held { words = new_words })) (sym answered_here) running_there;
    is = gone_here ∙ ap (λ (there : Frame). worded_frame there new_words) (sym answered_here);
  }
