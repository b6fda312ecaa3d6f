-- A running frame that stands at a statepoint waits there, once what it keeps is in its slots.
use Rattle.std.proofs.Common.{◌≡◌, ℕ, ◌+◌, Bool, true, false, List, [], ◌∷◌, ◌++◌, length, drop, map, refl, sym, ap, ◌∙◌, subst, arith, append_assoc, Some}
use Rattle.std.specs.Prelude.{slice_get, slice_index, slice_index_or}
use Rattle.std.specs.List.{filter}
use Rattle.std.proofs.lemmas.Bool.{false≢true}
use Rattle.std.proofs.lemmas.List.{get_or-append-add, length-map}
use Rattle.std.proofs.lemmas.List.Elements.{All-filter, filter_passes}
use Rattle.std.proofs.lemmas.Option.{get_or_from_slice_get}
use Rattle.list_laws.proofs.Contents.{all_at}
use Rattle.list_laws.proofs.Places.{get_front, get_map}
use Rattle.ir_ast.specs.declared.ops.Callee.{Callee}
use Rattle.ir_ast.specs.declared.ops.Op.{Op}
use Rattle.ir_ast.specs.declared.ops.Op.TheVariants.{Statepoint}
use Rattle.ir_ast.specs.declared.ops.Operand.{Operand}
use Rattle.ir_ast.specs.declared.types.Ty.{Ty}
use Rattle.ir_ast.specs.declared.types.Ty.TheVariants as types
use Rattle.ir_ast.specs.Faults.GroupShape.{entries_of, is_statepoint, live_entries}
use Rattle.ir_ast.specs.Faults.TypeClash.{Fits}
use Rattle.ir_ast.specs.Modules.{ModuleContent}
use Rattle.ir_ast.specs.Objects.{Object, Pointer}
use Rattle.ir_ast.specs.Types.{is_pointer}
use Rattle.ir_ast.specs.Values.{value_types}
use Rattle.moving_heap.specs.declared.stands.Stand.{Stand}
use Rattle.frame_walk.specs.Maps.{Pair}
use Rattle.frame_forms.specs.FrameSizes.{frame_words, is_named_integer}
use Rattle.object_meaning.specs.Lines.{Line}
use Rattle.object_meaning.specs.Numbers.{sign_extended, width_of}
use Rattle.object_meaning.specs.Registers.{number_in, pointer_in, value}
use Rattle.object_meaning.specs.States.{Frame}
use Rattle.pair_facts.specs.Lines.{lines_at, operand_at}
use Rattle.machine_meaning.specs.Machines.{over}
use Rattle.machine_meaning.specs.Relations.{AreSlots, IsPair, word_in}
use Rattle.moves_unseen.specs.Frames.{AreKept, FrameWords, IsRunning, IsWaiting, group_pairs}
use Rattle.moves_unseen.specs.Waits.{IsSound, kept_word, spilled_words, words_kept}
use Rattle.moves_unseen.proofs.LineTypes.{lines_are_typed}
use Rattle.moves_unseen.proofs.StandLaws.{line_here}
use Rattle.moves_unseen.proofs.ValueLaws.{same_number}
use Rattle.runs_unseen.proofs.frames_spilled.EntryPairs.{base_within, derived_within, stood}
use Rattle.runs_unseen.proofs.frames_spilled.GroupSlots.{entry_pointer, entry_word}
use Rattle.runs_unseen.proofs.frames_spilled.RoomLaws.{words_fit}
use Rattle.runs_unseen.proofs.frames_spilled.SpillLaws.{length_over}

abbrev is_integer_named : Ty × Operand → Bool
is_integer_named entry = is_named_integer entry.0 entry.1

integer_plain : (ty : Ty) (operand : Operand) → is_named_integer ty operand ≡ true → is_pointer ty ≡ false
integer_plain types.Void operand is = refl
integer_plain (types.Int width) operand is = refl
integer_plain types.Ptr operand is = absurd (false≢true is)
integer_plain types.Token operand is = refl

module _ (content : ModuleContent) (sound : IsSound content) (objects : List Object) (stands : List Stand) (frame : Frame) (held : FrameWords)
    (running : IsRunning content objects stands frame held) (line : Line) (rest : List Line) (is : frame.rest ≡ line ∷ rest)
    (id : ℕ) (callee : Callee) (passed : List Ty) (op_is : line.inst.op ≡ Statepoint id callee passed) where
  abbrev lines : List Line
  lines = lines_at running.func frame.block

  abbrev entries : List Operand
  entries = entries_of line.inst

  abbrev integers : List (Ty × Operand)
  integers = filter is_integer_named line.inst.bundle

  abbrev slots : List ℕ
  slots = over (words_kept held.words line.inst (length passed)) held.slots

  -- the words of the live entries, those of the integers, and what the slots held behind them
  abbrev behind : List ℕ
  behind = map (kept_word held.words) integers ++ drop (length (words_kept held.words line.inst (length passed))) held.slots

  here : slice_get lines running.place ≡ Some line
  here = line_here content frame running.func running.place running.pairs running.at line rest is

  statepoint : is_statepoint line.inst.op ≡ true
  statepoint = ap is_statepoint op_is

  slots_are : slots ≡ map (word_in held.words) entries ++ behind
  slots_are =
      append_assoc (map (word_in held.words) (drop (length passed) line.inst.operands)) (map (kept_word held.words) integers) (drop (length (words_kept held.words line.inst (length passed))) held.slots)
      ∙ ap (λ (given : List Operand). map (word_in held.words) given ++ behind) (sym (ap (λ (op : Op). live_entries op line.inst.operands) op_is))

  abbrev pointer_at : ℕ → Pointer
  pointer_at place = slice_index_or (map (λ (entry : Operand). pointer_in (value frame.registers entry)) entries) place (record { object = 0; offset = 0 })

  pair_held : (k : ℕ) (pair : Pair) → slice_get (group_pairs lines running.place) k ≡ Some pair → (all : List ℕ) → all ≡ map (word_in held.words) entries ++ behind
      → IsPair stands (pointer_at pair.derived) (pointer_at pair.base) (slice_index all pair.derived) (slice_index all pair.base)
  pair_held k pair found all all_are =
      let standing = stood content sound.verified frame running.func running.place running.pairs running.at line here statepoint k pair found in
      let first = derived_within content sound.verified frame running.func running.place running.pairs running.at line here statepoint k pair found in
      let second = base_within content sound.verified frame running.func running.place running.pairs running.at line here statepoint k pair found in
      subst (λ (to : Pointer). IsPair stands to (pointer_at pair.base) (slice_index all pair.derived) (slice_index all pair.base)) (sym (entry_pointer frame.registers entries pair.derived))
      (subst (λ (base : Pointer). IsPair stands (pointer_in (value frame.registers (operand_at entries pair.derived))) base (slice_index all pair.derived) (slice_index all pair.base))
      (sym (entry_pointer frame.registers entries pair.base))
      (subst (λ (word : ℕ). IsPair stands (pointer_in (value frame.registers (operand_at entries pair.derived))) (pointer_in (value frame.registers (operand_at entries pair.base))) word (slice_index all pair.base))
      (sym (ap (λ (words : List ℕ). slice_index words pair.derived) all_are ∙ entry_word held.words entries behind pair.derived first))
      (subst (λ (word : ℕ). IsPair stands (pointer_in (value frame.registers (operand_at entries pair.derived))) (pointer_in (value frame.registers (operand_at entries pair.base)))
      (word_in held.words (operand_at entries pair.derived)) word)
      (sym (ap (λ (words : List ℕ). slice_index words pair.base) all_are ∙ entry_word held.words entries behind pair.base second))
      (running.words.pointers (operand_at entries pair.derived) (operand_at entries pair.base) standing))))

  -- an integer of the bundle is the same in both, so its slot has its word, sign-extended
  integers_kept : AreKept frame.registers line.inst slots
  integers_kept place entry found =
      let typed : Fits (value_types running.func) entry.1 entry.0 =
      all_at (λ (one : Ty × Operand). Fits (value_types running.func) one.1 one.0) integers place entry
      (All-filter is_integer_named (λ (one : Ty × Operand). Fits (value_types running.func) one.1 one.0) line.inst.bundle
      (lines_are_typed content sound.target frame.func running.func running.at.defined frame.block running.place line here).typed.bundle) found in
      let plain = integer_plain entry.0 entry.1
      (all_at (λ (one : Ty × Operand). is_integer_named one ≡ true) integers place entry (filter_passes is_integer_named line.inst.bundle) found) in
      let count = length-map entries (word_in held.words) in
      ap (λ (words : List ℕ). slice_index words (length entries + place)) slots_are
      ∙ (ap (λ (n : ℕ). slice_index (map (word_in held.words) entries ++ behind) (n + place)) (sym count)
      ∙ (get_or-append-add (map (word_in held.words) entries) behind place 0
      ∙ (get_or_from_slice_get behind place (kept_word held.words entry) 0
      (get_front (map (kept_word held.words) integers) (drop (length (words_kept held.words line.inst (length passed))) held.slots) place (kept_word held.words entry)
      (get_map (kept_word held.words) integers place entry found))
      ∙ ap (sign_extended (width_of entry.0) 64) (same_number (value_types running.func) frame.registers held.words running.words.numbers entry.1 entry.0 typed plain))))

  room : length slots ≡ frame_words running.func
  room =
      let few = words_fit running.func frame.block running.place line here id callee passed op_is held.words in
      let own = running.slots in
      length_over (words_kept held.words line.inst (length passed)) held.slots (omega (arith, few, own)) ∙ own

  pub waits : IsWaiting content stands frame (spilled_words held line (length passed))
  waits = record {
    func = running.func;
    place = running.place;
    pairs = running.pairs;
    at = running.at;
    call = line;
    is = here;
    statepoint = statepoint;
    registers_count = running.words.registers_count;
    words_count = running.words.words_count;
    numbers = running.words.numbers;
    room = room;
    slots = record { each = λ k pair found. pair_held k pair found slots slots_are };
    bundle = integers_kept;
  }
