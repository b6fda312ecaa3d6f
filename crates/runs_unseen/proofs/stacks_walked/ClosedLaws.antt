-- A frame that waits in a verified module: its slots hold each pair of its group, and each base of a pair is `null` or has a slot
-- that moves with it. So the slots have the words of the same pointers after a group of moves.
use Rattle.std.proofs.Common.{◌≡◌, ℕ, zero, suc, ◌+◌, ◌<◌, ◌≤◌, ◌==◌, ◌&&◌, ◌||◌, Bool, true, false, List, [], ◌∷◌, length, map, get_or, set, refl, sym, ap, ◌∙◌, subst, arith, Option, Some, ◌⊎◌, inl, inr}
use Rattle.std.specs.Prelude.{slice_get, if◌then◌else◌}
use Rattle.std.specs.List.{AllByRecursion, Contains, flat_map, list_any}
use Rattle.std.proofs.lemmas.Bool.{and_parts, eqb-true}
use Rattle.std.proofs.lemmas.List.{get_or-set_other, length-set}
use Rattle.std.proofs.lemmas.Option.{none-some, same_Some}
use Rattle.list_laws.proofs.Contents.{all_at, contains_first, contains_later, get_contained, joined_contains}
use Rattle.list_laws.proofs.Places.{map_back}
use Rattle.ir_ast.specs.declared.modules.Form.{Form}
use Rattle.ir_ast.specs.declared.ops.Operand.{Operand}
use Rattle.ir_ast.specs.declared.ops.Operand.TheVariants as operands
use Rattle.ir_ast.specs.Faultless.{FunctionHasNoFault, OfForm}
use Rattle.ir_ast.specs.Faults.GroupShape.{GroupsInShape, entries_of, is_statepoint}
use Rattle.ir_ast.specs.Funcs.{Function, instructions_of}
use Rattle.ir_ast.specs.Modules.{ModuleContent}
use Rattle.ir_ast.specs.Objects.{Pointer}
use Rattle.frame_forms.specs.FrameSizes.{frame_words}
use Rattle.ir_cfg.specs.DefiniteUses.{text_place}
use Rattle.frame_walk.specs.Maps.{Pair}
use Rattle.frame_walk.specs.Walks.{SlotWrite, slot_write, write_slots}
use Rattle.move_plan.specs.declared.plan_lines.Move.{Move}
use Rattle.moving_heap.specs.declared.stands.Moved.{Moved}
use Rattle.moving_heap.specs.declared.stands.Stand.{Stand}
use Rattle.moving_heap.specs.Places.{carried, group_moves, group_targets, moved}
use Rattle.moving_heap.specs.Settled.{AreSettled}
use Rattle.moving_heap.proofs.PlaceLemmas.{group_is, group_places}
use Rattle.object_meaning.specs.Lines.{Line}
use Rattle.object_meaning.specs.Registers.{pointer_in, value}
use Rattle.object_meaning.specs.States.{Frame}
use Rattle.pair_facts.specs.Faults.{open_group}
use Rattle.pair_facts.specs.Lines.{group_in, is_null, is_relocate, line_in, lines_at, operand_at}
use Rattle.pair_facts.specs.Pairs.{base_index, derived_index, has_base, relocates_base}
use Rattle.pair_facts.specs.Uses.{entries_at}
use Rattle.pair_facts.proofs.PathLaws.{arrives_reached}
use Rattle.machine_meaning.specs.Relations.{AreClosed, AreSlots}
use Rattle.machine_meaning.proofs.SlotLaws.{slots_after}
use Rattle.moves_unseen.specs.Frames.{FrameWords, IsWaiting, group_pairs, relocated_pair}
use Rattle.moves_unseen.specs.Waits.{IsSound}
use Rattle.runs_unseen.proofs.records_found.SlotLaws.{IsInFrame, all_in_frame}
use Rattle.runs_unseen.proofs.frames_spilled.EntryPairs.{derived_within}
use Rattle.runs_unseen.proofs.frames_spilled.GroupSlots.{IsPairOf, entry_pointer, pair_in_group, pair_of}
use Rattle.runs_unseen.proofs.frames_spilled.TextLaws.{line_in_text}
use Rattle.object_meaning.proofs.LineLaws.{line_is}

-- ---- the pairs of a group

any_found : {X : Type 0} (p : X → Bool) (xs : List X) → list_any p xs ≡ true → (x : X) × (Contains xs x) × (p x ≡ true)
any_found p [] is = cc
any_found {X = X} p (x ∷ xs) is = by (p x) refl is (λ more. any_found p xs more)
  where
    by : (b : Bool) → p x ≡ b → (b || list_any p xs) ≡ true → (list_any p xs ≡ true → (y : X) × (Contains xs y) × (p y ≡ true)) → (y : X) × (Contains (x ∷ xs) y) × (p y ≡ true)
    by true holds is more = (x, contains_first x xs, holds)
    by false holds is more = let found = more is in (found.0, contains_later x found.0 xs found.1, found.2)

abbrev own_pair : ℕ → Pair
own_pair entry = record { base = entry; derived = entry }

-- where a relocate of the group keeps the base, the pair of it with itself is one of the group's
kept_pair : (group : List Line) (entry : ℕ) → has_base group entry ≡ true → (m : ℕ) × (slice_get (flat_map relocated_pair group) m ≡ Some (own_pair entry))
kept_pair group entry has =
    let found = any_found (relocates_base entry) group has in
    let parts = and_parts (is_relocate found.0.inst.op) ((base_index found.0 == entry) && (derived_index found.0 == entry)) found.2 in
    let same = and_parts (base_index found.0 == entry) (derived_index found.0 == entry) parts.1 in
    let pair : pair_of found.0 ≡ own_pair entry =
    ap (λ (n : ℕ). record { base = n; derived = derived_index found.0 }) (eqb-true (base_index found.0) entry same.0)
    ∙ ap (λ (n : ℕ). record { base = entry; derived = n }) (eqb-true (derived_index found.0) entry same.1) in
    let given : Contains (relocated_pair found.0) (own_pair entry) =
    subst (λ (b : Bool). Contains (if b then pair_of found.0 ∷ [] else []) (own_pair entry)) (sym parts.0)
    (subst (λ (p : Pair). Contains (p ∷ []) (own_pair entry)) (sym pair) (contains_first (own_pair entry) [])) in
    get_contained (flat_map relocated_pair group) (own_pair entry) (joined_contains relocated_pair group found.0 (own_pair entry) found.1 given)

all_here : {X : Type 0} (P : X → Type 0) (xs : List X) (place : ℕ) (x : X) → AllByRecursion P xs → slice_get xs place ≡ Some x → P x
all_here P [] place x all at = absurd (none-some x at)
all_here P (first ∷ xs) zero x all at = subst P (same_Some first x at) all.0
all_here P (first ∷ xs) (suc place) x all at = all_here P xs place x all.1 at

null_is : (operand : Operand) → is_null operand ≡ true → operand ≡ operands.Null
null_is operands.Null is = refl
null_is (operands.Value at) is = cc
null_is (operands.Int literal) is = cc
null_is (operands.Fun func) is = cc

written_length : (writes : List SlotWrite) (words : List ℕ) → length (write_slots writes words) ≡ length words
written_length [] words = refl
written_length (write ∷ writes) words = written_length writes (set words write.to write.word) ∙ length-set words write.to write.word

-- a word to which nothing is written
written_elsewhere : (writes : List SlotWrite) (words : List ℕ) (at : ℕ) → ((k : ℕ) (write : SlotWrite) → slice_get writes k ≡ Some write → write.to ≡ at → ⊥)
    → get_or (write_slots writes words) at 0 ≡ get_or words at 0
written_elsewhere [] words at other = refl
written_elsewhere (write ∷ writes) words at other =
    written_elsewhere writes (set words write.to write.word) at (λ k one found. other (suc k) one found)
    ∙ get_or-set_other words write.to at write.word 0 (λ same. other 0 write refl (sym same))

-- ---- one frame

abbrev no_pointer : Pointer
no_pointer = record { object = 0; offset = 0 }

module _ (content : ModuleContent) (sound : IsSound content) (stands : List Stand) (frame : Frame) (held : FrameWords) (waiting : IsWaiting content stands frame held) where
  abbrev func : Function
  func = waiting.func

  abbrev lines : List Line
  lines = lines_at func frame.block

  abbrev group : List Line
  group = group_in lines waiting.place

  abbrev pub pairs : List Pair
  pairs = group_pairs lines waiting.place

  abbrev given : List Operand
  given = entries_of waiting.call.inst

  abbrev entries : List Pointer
  entries = map (λ (entry : Operand). pointer_in (value frame.registers entry)) given

  shaped : GroupsInShape func
  shaped =
      let faultless = all_at (FunctionHasNoFault content) content.funcs frame.func func sound.target.typed.no_fault.functions waiting.at.defined in
      subst (λ (form : Form). OfForm form func) sound.target.typed.of_form faultless.form

  -- both slots of a pair are words of the frame
  in_frame : (pair : Pair) → IsPairOf lines waiting.place pair → (pair.derived < length held.slots) × (pair.base < length held.slots)
  in_frame pair of =
      let both = all_here (IsInFrame (frame_words func)) (instructions_of func.blocks) (text_place func frame.block of.place) of.line.inst
      (all_in_frame func shaped [] (instructions_of func.blocks) refl) (line_in_text func frame.block of.place of.line of.relocates.stands) of.relocates.relocate in (
        subst (λ (words : ℕ). pair.derived < words) (sym waiting.room) (subst (λ (p : Pair). p.derived < frame_words func) of.is both.1),
        subst (λ (words : ℕ). pair.base < words) (sym waiting.room) (subst (λ (p : Pair). p.base < frame_words func) of.is both.0),
      )

  head_is : line_in lines waiting.place ≡ waiting.call
  head_is = line_is lines waiting.place waiting.call waiting.is

  pair_at : (k : ℕ) (pair : Pair) → slice_get pairs k ≡ Some pair → IsPairOf lines waiting.place pair
  pair_at k pair at = pair_in_group lines waiting.place (ap (λ (l : Line). is_statepoint l.inst.op) head_is ∙ waiting.statepoint) k pair at

  null_entry : (place : ℕ) → is_null (operand_at given place) ≡ true → (get_or entries place no_pointer).object ≡ 0
  null_entry place null =
      ap (λ (p : Pointer). p.object) (entry_pointer frame.registers given place)
      ∙ ap (λ (o : Operand). (pointer_in (value frame.registers o)).object) (null_is (operand_at given place) null)

  base_kept : (pair : Pair) (of : IsPairOf lines waiting.place pair)
      → ((m : ℕ) × (slice_get pairs m ≡ Some (record { base = pair.base; derived = pair.base }))) ⊎ ((get_or entries pair.base no_pointer).object ≡ 0)
  base_kept pair of = by (is_null (operand_at (entries_at lines waiting.place) (base_index of.line))) refl (has_base group (base_index of.line)) refl
    where
      entries_are : entries_at lines waiting.place ≡ given
      entries_are = ap (λ (l : Line). entries_of l.inst) head_is

      base_is : base_index of.line ≡ pair.base
      base_is = ap (λ (p : Pair). p.base) of.is

      by : (b : Bool) → is_null (operand_at (entries_at lines waiting.place) (base_index of.line)) ≡ b → (c : Bool) → has_base group (base_index of.line) ≡ c
          → ((m : ℕ) × (slice_get pairs m ≡ Some (record { base = pair.base; derived = pair.base }))) ⊎ ((get_or entries pair.base no_pointer).object ≡ 0)
      by true null c has =
          inr (null_entry pair.base
          (ap (λ (all : List Operand). is_null (operand_at all pair.base)) (sym entries_are) ∙ (ap (λ (n : ℕ). is_null (operand_at (entries_at lines waiting.place) n)) (sym base_is) ∙ null)))
      by false null true has = inl (subst (λ (n : ℕ). (m : ℕ) × (slice_get pairs m ≡ Some (record { base = n; derived = n }))) base_is (kept_pair group (base_index of.line) has))
      by false null false has =
          absurd (sound.verified frame.func frame.block of.place 2 func waiting.at.defined
          (open_group (arrives_reached func frame.block waiting.at.arrived.front waiting.at.arrived.arrives) (record {
            head = waiting.place;
            line = of.line;
            relocates = of.relocates;
            named = null;
            lost = has;
          })))

  closed : AreClosed entries pairs (length held.slots)
  closed = record {
    bases = λ k pair at. base_kept pair (pair_at k pair at);
    within = λ k pair at. in_frame pair (pair_at k pair at);
  }

  abbrev pub after_slots : List Moved → List ℕ
  after_slots moves = write_slots (map (slot_write moves held.slots) pairs) held.slots

  pub slots_length : (moves : List Moved) → length (after_slots moves) ≡ length held.slots
  slots_length moves = written_length (map (slot_write moves held.slots) pairs) held.slots

  -- derived slots are those of live entries, so that the words behind these stay
  integers_stay : (moves_given : List Move) (flip : Option ℕ) (at : ℕ) → length (entries_of waiting.call.inst) ≤ at
      → get_or (after_slots (group_moves stands moves_given flip)) at 0 ≡ get_or held.slots at 0
  integers_stay moves_given flip at behind =
      written_elsewhere (map (slot_write (group_moves stands moves_given flip) held.slots) pairs) held.slots at
      (λ k write found same.
      let from = map_back (slot_write (group_moves stands moves_given flip) held.slots) pairs k write found in
      let within = derived_within content sound.verified frame func waiting.place waiting.pairs waiting.at waiting.call waiting.is waiting.statepoint k from.before from.stands in
      let to : from.before.derived ≡ at = sym (ap (λ (w : SlotWrite). w.to) from.is) ∙ same in
      let no : ⊥ = omega arith in no)

  -- the frame waits after the group of an event, with its slots written
  pub waits_after : AreSettled stands → (moves_given : List Move) (flip : Option ℕ) → (group_moves stands moves_given flip ≡ [] → ⊥)
      → IsWaiting content (map (carried (group_moves stands moves_given flip)) stands) frame (record held { slots = after_slots (group_moves stands moves_given flip) })
  waits_after settled moves_given flip some = record {
    func = func;
    place = waiting.place;
    pairs = waiting.pairs;
    at = waiting.at;
    call = waiting.call;
    is = waiting.is;
    statepoint = waiting.statepoint;
    registers_count = waiting.registers_count;
    words_count = waiting.words_count;
    numbers = waiting.numbers;
    room = slots_length (group_moves stands moves_given flip) ∙ waiting.room;
    slots =
        subst (λ (next : List Stand). AreSlots next entries (after_slots (group_moves stands moves_given flip)) pairs) (sym (group_places stands moves_given flip settled some))
        (subst (λ (made : List Moved). AreSlots (moved stands (group_targets stands moves_given flip)) entries (after_slots made) pairs) (sym (group_is stands moves_given flip some).1)
        (slots_after stands (group_targets stands moves_given flip) entries held.slots pairs settled closed waiting.slots));
    bundle = λ at entry found. integers_stay moves_given flip (length (entries_of waiting.call.inst) + at) (omega arith) ∙ waiting.bundle at entry found;
  }
