-- What a statepoint keeps fits into the words of its function's frame.
use Rattle.std.proofs.Common.{◌≡◌, ℕ, zero, suc, ◌+◌, ◌≤◌, List, [], ◌∷◌, length, drop, fold, map, max, ap, subst, arith, length-append, Some}
use Rattle.std.specs.Prelude.{count_by, slice_get}
use Rattle.std.specs.List.{filter}
use Rattle.std.proofs.lemmas.List.{length-map}
use Rattle.std.proofs.lemmas.List.Sums.{length-filter}
use Rattle.std.proofs.lemmas.Option.{none-some, same_Some}
use Rattle.ir_ast.specs.declared.ops.Callee.{Callee}
use Rattle.ir_ast.specs.declared.ops.Op.{Op}
use Rattle.ir_ast.specs.declared.ops.Op.TheVariants.{Statepoint}
use Rattle.ir_ast.specs.declared.ops.Operand.{Operand}
use Rattle.ir_ast.specs.declared.types.Ty.{Ty}
use Rattle.ir_ast.specs.Funcs.{Function, instructions_of}
use Rattle.ir_ast.specs.Insts.{Instruction}
use Rattle.frame_forms.specs.FrameSizes.{frame_words, is_named_integer, words_at, words_of}
use Rattle.ir_cfg.specs.DefiniteUses.{text_place}
use Rattle.object_meaning.specs.Lines.{Line}
use Rattle.pair_facts.specs.Lines.{lines_at}
use Rattle.machine_meaning.specs.Relations.{word_in}
use Rattle.moves_unseen.specs.Waits.{kept_word, words_kept}
use Rattle.runs_unseen.proofs.frames_spilled.TextLaws.{line_in_text}

start_below : (insts : List Instruction) (start : ℕ) → start ≤ fold max start (map words_at insts)
start_below [] start = omega arith
start_below (inst ∷ insts) start = let rest = start_below insts (max start (words_at inst)) in omega (arith, rest)

words_below : (insts : List Instruction) (start place : ℕ) (inst : Instruction) → slice_get insts place ≡ Some inst → words_at inst ≤ fold max start (map words_at insts)
words_below [] start place inst is = absurd (none-some inst is)
words_below (first ∷ insts) start zero inst is =
    let same = ap words_at (same_Some first inst is) in
    let rest = start_below insts (max start (words_at first)) in
    omega (arith, rest, same)
words_below (first ∷ insts) start (suc place) inst is = words_below insts (max start (words_at first)) place inst is

module _ (func : Function) (block place : ℕ) (line : Line) (is : slice_get (lines_at func block) place ≡ Some line)
    (id : ℕ) (callee : Callee) (types : List Ty) (op_is : line.inst.op ≡ Statepoint id callee types) where
  asked_fit : length (drop (length types) line.inst.operands) + count_by (λ entry. is_named_integer entry.0 entry.1) line.inst.bundle ≤ frame_words func
  asked_fit =
      subst (λ (words : ℕ). words ≤ frame_words func) (ap (λ (op : Op). words_of op line.inst.operands line.inst.bundle) op_is)
      (words_below (instructions_of func.blocks) 0 (text_place func block place) line.inst (line_in_text func block place line is))

  pub entries_fit : length (drop (length types) line.inst.operands) ≤ frame_words func
  entries_fit = let all = asked_fit in omega (arith, all)

  -- with the integers that its bundle names
  pub words_fit : (words : List ℕ) → length (words_kept words line.inst (length types)) ≤ frame_words func
  words_fit words =
      let integers = filter (λ (entry : Ty × Operand). is_named_integer entry.0 entry.1) line.inst.bundle in
      let all = asked_fit in
      let whole = length-append (map (word_in words) (drop (length types) line.inst.operands)) (map (kept_word words) integers) in
      let first = length-map (drop (length types) line.inst.operands) (word_in words) in
      let second = length-map integers (kept_word words) in
      let count = length-filter (λ (entry : Ty × Operand). is_named_integer entry.0 entry.1) line.inst.bundle in
      omega (arith, all, whole, first, second, count)
