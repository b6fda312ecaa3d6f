-- Loads, stores and checks of the executor are those of the machine.
use Rattle.std.proofs.Common.{◌≡◌, ℕ, false, List, ◌∷◌, map, sym, ap, ◌∙◌}
use Rattle.std.specs.Prelude.{◌==◌, ◌&&◌, Option, Result, Ok}
use Rattle.ir_ast.specs.declared.types.Ty.TheVariants.{Int}
use Rattle.ir_ast.specs.declared.ops.Elem.{Elem}
use Rattle.ir_ast.specs.Layouts.{ObjectLayout}
use Rattle.object_meaning.specs.Comparisons.{bit}
use Rattle.object_meaning.specs.Numbers.{width_of}
use Rattle.ir_ast.specs.declared.cells.Cell.{Cell}
use Rattle.ir_ast.specs.declared.ops.Callee.TheVariants.{Check, Same}
use Rattle.ir_ast.specs.declared.ops.Op.TheVariants.{Load, Store, Gep}
use Rattle.ir_ast.specs.declared.ops.Operand.{Operand}
use Rattle.ir_ast.specs.Insts.{Instruction}
use Rattle.ir_ast.specs.Objects.{Datum, number}
use Rattle.moving_heap.specs.declared.heap.Deny.{Deny}
use Rattle.moving_heap.specs.Heaps.{loaded, checked}
use Rattle.object_meaning.specs.Accesses.{cell_named}
use Rattle.object_meaning.specs.Effects.{Effect, goes_on}
use Rattle.object_meaning.specs.Lines.{following}
use Rattle.object_meaning.specs.Registers.{nothing, operand, number_in}
use Rattle.object_meaning.specs.States.{Frame}
use Rattle.machine_meaning.specs.Machines.{Machine, Machinery, gone_from, gone_on}
use Rattle.machine_meaning.specs.MachineSteps.{loading_word, storing_word, checking, stepped_word, passes}
use Rattle.machine_meaning.specs.Words.{worded_operand}
use Rattle.machine_frames.specs.Frames.{frame_of}
use Rattle.machine_lines.specs.Lines.{line_of, lines_left}
use Rattle.machine_frames.proofs.LineLemmas.{gone_call}
use Rattle.ir_machine.specs.declared.executor.Executor.{Executor}
use Rattle.ir_machine.specs.Executors.{seen, acts_at, calls_at}
use Rattle.machine_lines.specs.Going.{still}
use Rattle.ir_ast.specs.Ops.{is_statepoint}

abbrev pub held : Executor → Instruction → ℕ → Datum
held executor inst place = operand (map number executor.run.frame.registers.items) (map worded_operand inst.operands) place

module _ (machinery : Machinery) (executor : Executor) (inst : Instruction) (rest : List Instruction) where
  pub load_is : (p : ℕ) (found : Result ℕ Deny) → inst.op ≡ Load → held executor inst 0 ≡ number p → found ≡ loaded executor.heap p
      → loading_word (seen executor) (line_of executor.run.frame.next inst) (lines_left (following executor.run.frame.next inst) rest) found
      ≡ acts_at machinery executor inst rest inst.op
  load_is p found is at_p found_is =
      let line = line_of executor.run.frame.next inst in let lines = lines_left (following executor.run.frame.next inst) rest in
      sym (ap (acts_at machinery executor inst rest) is
      ∙ ap (λ (d : Datum). loading_word (seen executor) line lines (loaded (still executor.heap) (number_in d))) at_p
      ∙ ap (loading_word (seen executor) line lines) (sym found_is))

  pub store_is : (word p : ℕ) → inst.op ≡ Store → held executor inst 0 ≡ number word → held executor inst 1 ≡ number p
      → storing_word (seen executor) (line_of executor.run.frame.next inst) (lines_left (following executor.run.frame.next inst) rest) word p (loaded (still executor.heap) p)
      ≡ acts_at machinery executor inst rest inst.op
  store_is word p is at_word at_p =
      let line = line_of executor.run.frame.next inst in let lines = lines_left (following executor.run.frame.next inst) rest in
      let heap = still executor.heap in
      sym (ap (acts_at machinery executor inst rest) is
      ∙ ap (λ (d : Datum). storing_word (seen executor) line lines (number_in d) (number_in (held executor inst 1)) (loaded heap (number_in (held executor inst 1)))) at_word
      ∙ ap (λ (d : Datum). storing_word (seen executor) line lines word (number_in d) (loaded heap (number_in d))) at_p)

  pub check_is : (operands : List Operand) (base p kind : ℕ) (cell : Cell) (found : Result (Unit {0}) Deny) → held executor inst 0 ≡ number base → held executor inst 1 ≡ number p
      → held executor inst 2 ≡ number kind → cell ≡ cell_named kind → found ≡ checked executor.heap base p cell
      → checking (seen executor) found ≡ calls_at machinery executor inst rest Check operands
  check_is operands base p kind cell found at_base at_p at_kind cell_is found_is =
      let heap = still executor.heap in
      let with_all : Datum → Datum → Cell → Effect Machine = λ b q k. checking (seen executor) (checked heap (number_in b) (number_in q) k) in
      ap (checking (seen executor)) found_is
      ∙ ap (with_all (number base) (number p)) (cell_is ∙ ap (λ (d : Datum). cell_named (number_in d)) (sym at_kind))
      ∙ ap (λ (q : Datum). with_all (number base) q (cell_named (number_in (held executor inst 2)))) (sym at_p)
      ∙ ap (λ (b : Datum). with_all b (held executor inst 1) (cell_named (number_in (held executor inst 2)))) (sym at_base)

  pub check_past_is : (operands : List Operand) (base p kind : ℕ) (cell : Cell) → executor.run.frame.rest.insts.now ≡ inst ∷ rest → is_statepoint inst.op ≡ false
      → held executor inst 0 ≡ number base → held executor inst 1 ≡ number p → held executor inst 2 ≡ number kind → cell ≡ cell_named kind → Ok tt ≡ checked executor.heap base p cell
      → goes_on (passes (seen executor) (line_of executor.run.frame.next inst) (lines_left (following executor.run.frame.next inst) rest) 0)
      ≡ calls_at machinery executor inst rest Check operands
  check_past_is operands base p kind cell stands plain at_base at_p at_kind cell_is found =
      let next = executor.run.frame.next in let frame = frame_of executor.run.frame in let stack = executor.run.stack in
      let runs : Frame → Effect Machine = λ f. goes_on (record (seen executor) { state = record (seen executor).state { running = f } }) in
      ap runs
      (gone_call stack frame (line_of next inst) (lines_left (following next inst) rest) nothing inst.op plain
      ∙ sym (ap (λ (insts : List Instruction). gone_from stack frame (lines_left next insts) nothing) stands))
      ∙ check_is operands base p kind cell (Ok tt) at_base at_p at_kind cell_is found

  pub same_is : (operands : List Operand) (base p other_base other_p word : ℕ) → held executor inst 0 ≡ number base → held executor inst 1 ≡ number p
      → held executor inst 2 ≡ number other_base → held executor inst 3 ≡ number other_p → word ≡ bit ((base == other_base) && (p == other_p))
      → goes_on (gone_on (number word) (seen executor)) ≡ calls_at machinery executor inst rest Same operands
  same_is operands base p other_base other_p word one two three four is =
      let with_all : Datum → Datum → Datum → Datum → Effect Machine = λ a b x y.
      goes_on (gone_on (number (bit ((number_in a == number_in x) && (number_in b == number_in y)))) (seen executor)) in
      ap (λ (w : ℕ). goes_on (gone_on (number w) (seen executor))) is
      ∙ ap (λ (a : Datum). with_all a (number p) (number other_base) (number other_p)) (sym one)
      ∙ ap (λ (b : Datum). with_all (held executor inst 0) b (number other_base) (number other_p)) (sym two)
      ∙ ap (λ (x : Datum). with_all (held executor inst 0) (held executor inst 1) x (number other_p)) (sym three)
      ∙ ap (λ (y : Datum). with_all (held executor inst 0) (held executor inst 1) (held executor inst 2) y) (sym four)

  pub advance_is : (elem : Elem) (index_width : ℕ) (place : Option ℕ) (layouts : List ObjectLayout) (from index word : ℕ) → inst.op ≡ Gep elem index_width place → layouts ≡ machinery.setting.layouts
      → held executor inst 0 ≡ number from → held executor inst 1 ≡ number index → word ≡ stepped_word layouts elem (width_of (Int index_width)) place from index
      → goes_on (passes (seen executor) (line_of executor.run.frame.next inst) (lines_left (following executor.run.frame.next inst) rest) word)
      ≡ acts_at machinery executor inst rest inst.op
  advance_is elem index_width place layouts from index word is layouts_are one two word_is =
      let goes : ℕ → Effect Machine = λ w. goes_on (passes (seen executor) (line_of executor.run.frame.next inst) (lines_left (following executor.run.frame.next inst) rest) w) in
      let width = width_of (Int index_width) in
      ap goes (word_is
      ∙ ap (λ (ls : List ObjectLayout). stepped_word ls elem width place from index) layouts_are
      ∙ ap (λ (d : Datum). stepped_word machinery.setting.layouts elem width place (number_in d) index) (sym one)
      ∙ ap (λ (d : Datum). stepped_word machinery.setting.layouts elem width place (number_in (held executor inst 0)) (number_in d)) (sym two))
      ∙ sym (ap (acts_at machinery executor inst rest) is)
