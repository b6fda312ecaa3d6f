-- The words that a statepoint keeps are those of its live entries and of the integers that its bundle names, and only slots of the
-- running frame change.
use Rattle.std.proofs.Common.{◌≡◌, ℕ, zero, suc, ◌≤◌, List, [], ◌∷◌, ◌++◌, length, drop, map, refl, sym, ap, ◌∙◌, arith, Some}
use Rattle.std.specs.Prelude.{slice_get}
use Rattle.std.specs.List.{filter}
use Rattle.std.proofs.lemmas.List.{append_assoc, drop-append-le, length-append, length-drop}
use Rattle.ir_ast.specs.declared.ops.Callee.{Callee}
use Rattle.ir_ast.specs.declared.ops.Op.TheVariants.{Statepoint}
use Rattle.ir_ast.specs.declared.ops.Operand.{Operand}
use Rattle.ir_ast.specs.declared.ops.Operand.TheVariants as operands
use Rattle.ir_ast.specs.declared.types.Ty.{Ty}
use Rattle.ir_ast.specs.Modules.{ModuleContent}
use Rattle.ir_ast.specs.Objects.{number}
use Rattle.frame_forms.specs.FrameSizes.{is_named_integer}
use Rattle.object_meaning.specs.Lines.{Line}
use Rattle.object_meaning.specs.Numbers.{sign_extended, width_of}
use Rattle.object_meaning.specs.Registers.{value, number_in}
use Rattle.object_meaning.specs.States.{State}
use Rattle.pair_facts.specs.Lines.{lines_at}
use Rattle.machine_meaning.specs.Machines.{Machine, Machinery, bundle_word, kept_words, over, spilled}
use Rattle.machine_meaning.specs.Relations.{word_in}
use Rattle.machine_meaning.specs.Words.{worded, worded_operand}
use Rattle.moves_unseen.specs.Frames.{IsRunning}
use Rattle.moves_unseen.specs.States.{Extra, machine_of, return_below, stack_of, worded_state}
use Rattle.moves_unseen.specs.Waits.{IsSound, kept_word, spilled_words, words_kept}
use Rattle.moves_unseen.proofs.StandLaws.{line_here}
use Rattle.runs_unseen.proofs.frames_spilled.RoomLaws.{words_fit}

entry_words : (words : List ℕ) (count : ℕ) (operands : List Operand)
    → map (λ (operand : Operand). number_in (value (map number words) operand)) (drop count (map worded_operand operands)) ≡ map (word_in words) (drop count operands)
entry_words words zero [] = refl
entry_words words zero (operand ∷ operands) = ap (λ (rest : List ℕ). word_in words operand ∷ rest) (entry_words words zero operands)
entry_words words (suc count) [] = refl
entry_words words (suc count) (operand ∷ operands) = entry_words words count operands

word_same : (words : List ℕ) (operand : Operand) → number_in (value (map number words) operand) ≡ word_in words operand
word_same words (operands.Value at) = refl
word_same words (operands.Int literal) = refl
word_same words operands.Null = refl
word_same words (operands.Fun func) = refl

integer_words : (words : List ℕ) (entries : List (Ty × Operand))
    → map (λ (entry : Ty × Operand). sign_extended (width_of entry.0) 64 (number_in (value (map number words) entry.1))) entries ≡ map (kept_word words) entries
integer_words words [] = refl
integer_words words (entry ∷ entries) =
    ap (λ (n : ℕ). sign_extended (width_of entry.0) 64 n ∷ map (λ (each : Ty × Operand). sign_extended (width_of each.0) 64 (number_in (value (map number words) each.1))) entries) (word_same words entry.1)
    ∙ ap (λ (rest : List ℕ). kept_word words entry ∷ rest) (integer_words words entries)

over_front : (words slots tail : List ℕ) → length words ≤ length slots → over words (slots ++ tail) ≡ over words slots ++ tail
over_front words slots tail few =
    ap (λ (rest : List ℕ). words ++ rest) (drop-append-le (length words) slots tail few) ∙ sym (append_assoc words (drop (length words) slots) tail)

pub length_over : (words slots : List ℕ) → length words ≤ length slots → length (over words slots) ≡ length slots
length_over words slots few =
    let whole = length-append words (drop (length words) slots) in
    let rest = length-drop (length words) slots in
    omega (arith, few, whole, rest)

module _ (content : ModuleContent) (sound : IsSound content) (machinery : Machinery) (state : State) (extra : Extra)
    (running : IsRunning content state.objects extra.heap.stands state.running extra.running) (line : Line) (rest : List Line) (is : state.running.rest ≡ line ∷ rest)
    (id : ℕ) (callee : Callee) (types : List Ty) (op_is : line.inst.op ≡ Statepoint id callee types) where
  abbrev machine : Machine
  machine = machine_of machinery state extra

  abbrev words : List ℕ
  words = extra.running.words

  here : slice_get (lines_at running.func state.running.block) running.place ≡ Some line
  here = line_here content state.running running.func running.place running.pairs running.at line rest is

  kept_are : kept_words machine.state (worded line).inst (length types) ≡ words_kept words line.inst (length types)
  kept_are =
      let integers = filter (λ (entry : Ty × Operand). is_named_integer entry.0 entry.1) line.inst.bundle in
      ap (λ (front : List ℕ). front ++ map (bundle_word machine.state) integers) (entry_words words (length types) line.inst.operands)
      ∙ ap (λ (back : List ℕ). map (word_in words) (drop (length types) line.inst.operands) ++ back) (integer_words words integers)

  abbrev tail : List ℕ
  tail = return_below machinery (worded_state state extra).below ∷ stack_of machinery (worded_state state extra).below extra.below

  fits : length (words_kept words line.inst (length types)) ≤ length extra.running.slots
  fits =
      let few = words_fit running.func state.running.block running.place line here id callee types op_is words in
      let room = running.slots in
      omega (arith, few, room)

  pub spills : spilled machine (worded line).inst (length types) ≡ machine_of machinery state (record extra { running = spilled_words extra.running line (length types) })
  spills =
      ap (λ (stack : List ℕ). record (machine_of machinery state extra) { stack = stack })
      (ap (λ (kept : List ℕ). over kept (extra.running.slots ++ tail)) kept_are ∙ over_front (words_kept words line.inst (length types)) extra.running.slots tail fits)
