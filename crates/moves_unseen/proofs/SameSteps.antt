-- A comparison of two pairs, `gc_same`: the machine takes the same step.
use Rattle.std.proofs.Common.{◌≡◌, ℕ, ◌==◌, ◌&&◌, Bool, true, List, ◌∷◌, map, refl, sym, ap, ◌∙◌, subst, Option, Some}
use Rattle.std.specs.Prelude.{slice_get}
use Rattle.ir_ast.specs.declared.ops.Callee.TheVariants.{Check, Same}
use Rattle.ir_ast.specs.declared.ops.Op.{Op}
use Rattle.ir_ast.specs.declared.ops.Op.TheVariants.{Call, Select}
use Rattle.ir_ast.specs.declared.types.Ty.{Ty}
use Rattle.ir_ast.specs.Faults.GroupShape.{is_statepoint}
use Rattle.ir_ast.specs.Faults.PhiEdges.{is_phi}
use Rattle.ir_ast.specs.Modules.{ModuleContent}
use Rattle.ir_ast.specs.Objects.{Datum, Pointer, number}
use Rattle.ir_ast.specs.Values.{value_types}
use Rattle.object_meaning.specs.Comparisons.{bit, same_pointer}
use Rattle.object_meaning.specs.Effects.{Effect, goes_on}
use Rattle.object_meaning.specs.Frames.{is_member, passed}
use Rattle.object_meaning.specs.Lines.{Line}
use Rattle.object_meaning.specs.Registers.{operand, value, number_in, pointer_in, put}
use Rattle.object_meaning.specs.States.{State, Setting}
use Rattle.object_meaning.specs.Steps.{acts, step, steps_at}
use Rattle.pair_facts.specs.declared.bases.Base.TheVariants.{Named}
use Rattle.pair_facts.specs.Lines.{line_before, lines_at, operand_at}
use Rattle.pair_facts.specs.Pairs.{after, given_pairs, with_given, without}
use Rattle.machine_meaning.specs.Machines.{Machine, Machinery, gone_behind, gone_from, gone_on}
use Rattle.machine_meaning.specs.MachineSteps.{machine_acts, machine_at, machine_step, passes}
use Rattle.machine_meaning.specs.Words.{worded, worded_operand}
use Rattle.machine_meaning.specs.Relations.{word_in}
use Rattle.moves_unseen.specs.Frames.{AreWords}
use Rattle.moves_unseen.specs.States.{Extra, IsRelated, machine_of}
use Rattle.moves_unseen.specs.Steps.{StepFollows, both_go}
use Rattle.moves_unseen.proofs.ComparisonLaws.{pairs_compared}
use Rattle.moves_unseen.proofs.PassLaws.{pass_follows}
use Rattle.moves_unseen.proofs.StandLaws.{IsAlone}
use Rattle.moves_unseen.proofs.ValueLaws.{number_given, value_at, word_at}

not_check : (types others : List Ty) (op : Op) → op ≡ Call Same types → op ≡ Call Check others → ⊥
not_check types others op one other = cc

not_select : (types : List Ty) (op : Op) → op ≡ Call Same types → op ≡ Select → ⊥
not_select types op one other = cc

module _ (content : ModuleContent) (machinery : Machinery) (setting : Setting) (state : State) (extra : Extra)
    (related : IsRelated content state extra) (line : Line) (rest : List Line) (is : state.running.rest ≡ line ∷ rest)
    (types : List Ty) (op_is : line.inst.op ≡ Call Same types) (given : ℕ) (gives : line.to ≡ Some given) (ty : Ty)
    (typed : slice_get (value_types related.running.func) given ≡ Some ty)
    (first : related.running.pairs (operand_at line.inst.operands 1) (Named (operand_at line.inst.operands 0)) ≡ true)
    (second : related.running.pairs (operand_at line.inst.operands 3) (Named (operand_at line.inst.operands 2)) ≡ true) where
  alone : IsAlone line
  alone = record { statepoint = ap is_statepoint op_is; member = ap is_member op_is; phi = ap is_phi op_is }

  abbrev machine : Machine
  machine = machine_of machinery state extra

  abbrev at : ℕ → Pointer
  at place = pointer_in (value state.running.registers (operand_at line.inst.operands place))

  abbrev word : ℕ → ℕ
  word place = word_in extra.running.words (operand_at line.inst.operands place)

  abbrev answer : ℕ
  answer = bit (same_pointer (at 1) (at 3))

  here_is : step setting state ≡ goes_on (passed state line rest (number answer))
  unfolding step
  here_is =
      ap (steps_at setting state) is
      ∙ (ap (acts setting state line rest) op_is
      ∙ (ap (λ (d : Datum). goes_on (passed state line rest (number (bit (same_pointer (pointer_in d) (pointer_in (operand state.running.registers line.inst.operands 3)))))))
      (value_at state.running.registers line.inst.operands 1)
      ∙ ap (λ (d : Datum). goes_on (passed state line rest (number (bit (same_pointer (at 1) (pointer_in d)))))) (value_at state.running.registers line.inst.operands 3)))

  gone_is : (made : ℕ) → gone_on (number made) machine ≡ passes machine (worded line) (map worded rest) made
  gone_is made =
      ap (λ (lines : List Line). record machine { state = record machine.state { running = gone_from machine.stack machine.state.running lines (number made) } }) (ap (map worded) is)
      ∙ ap (λ (op : Op). record machine { state = record machine.state { running = gone_behind machine.stack machine.state.running (worded line) (map worded rest) (number made) op } }) op_is

  abbrev in_line : ℕ → ℕ
  in_line place = number_in (operand (map number extra.running.words) (map worded_operand line.inst.operands) place)

  compared : (in_line 0 == in_line 2) && (in_line 1 == in_line 3) ≡ same_pointer (at 1) (at 3)
  compared =
      ap (λ (w : ℕ). (w == in_line 2) && (in_line 1 == in_line 3)) (word_at extra.running.words line.inst.operands 0)
      ∙ (ap (λ (w : ℕ). (word 0 == w) && (in_line 1 == in_line 3)) (word_at extra.running.words line.inst.operands 2)
      ∙ (ap (λ (w : ℕ). (word 0 == word 2) && (w == in_line 3)) (word_at extra.running.words line.inst.operands 1)
      ∙ (ap (λ (w : ℕ). (word 0 == word 2) && (word 1 == w)) (word_at extra.running.words line.inst.operands 3)
      ∙ pairs_compared extra.heap.stands related.objects.settled (at 1) (at 0) (at 3) (at 2) (word 1) (word 0) (word 3) (word 2)
      (related.running.words.pointers (operand_at line.inst.operands 1) (operand_at line.inst.operands 0) first)
      (related.running.words.pointers (operand_at line.inst.operands 3) (operand_at line.inst.operands 2) second))))

  there_is : machine_step machinery machine ≡ goes_on (passes machine (worded line) (map worded rest) answer)
  unfolding machine_step
  there_is =
      ap (machine_at machinery machine) (ap (map worded) is)
      ∙ (ap (machine_acts machinery machine (worded line) (map worded rest)) op_is
      ∙ (ap (λ (b : Bool). goes_on (gone_on (number (bit b)) machine)) compared
      ∙ ap (λ (next : Machine). goes_on next) (gone_is answer)))

  words_after : AreWords extra.heap.stands (value_types related.running.func)
      (after related.running.pairs (line_before (lines_at related.running.func state.running.block) related.running.place) line)
      (put line.to (number answer) state.running.registers) (put line.to answer extra.running.words)
  words_after =
      subst (λ (op : Op). AreWords extra.heap.stands (value_types related.running.func)
      (with_given line.to (λ value. given_pairs (without value related.running.pairs) (line_before (lines_at related.running.func state.running.block) related.running.place) line.inst op value) related.running.pairs)
      (put line.to (number answer) state.running.registers) (put line.to answer extra.running.words)) (sym op_is)
      (subst (λ (to_given : Option ℕ). AreWords extra.heap.stands (value_types related.running.func)
      (with_given to_given (λ value. given_pairs (without value related.running.pairs) (line_before (lines_at related.running.func state.running.block) related.running.place) line.inst (Call Same types) value) related.running.pairs)
      (put to_given (number answer) state.running.registers) (put to_given answer extra.running.words)) (sym gives)
      (number_given extra.heap.stands (value_types related.running.func) related.running.pairs state.running.registers extra.running.words given ty related.running.words typed
      (number answer) answer refl
      (given_pairs (without given related.running.pairs) (line_before (lines_at related.running.func state.running.block) related.running.place) line.inst (Call Same types) given)
      (λ base. refl)))

  -- related before, the machine steps as the target meaning, and related after
  pub same_follows : StepFollows content machinery (step setting state) (machine_step machinery (machine_of machinery state extra))
  same_follows =
      subst (λ (effect : Effect State). StepFollows content machinery effect (machine_step machinery machine)) (sym here_is)
      (subst (StepFollows content machinery (goes_on (passed state line rest (number answer)))) (sym there_is)
      (both_go (passed state line rest (number answer)) (passes machine (worded line) (map worded rest) answer)
      (pass_follows content machinery state extra related line rest is alone (number answer) answer words_after
      (λ others op. absurd (not_check types others line.inst.op op_is op))
      (λ to_given op managed gives_to. absurd (not_select types line.inst.op op_is op)))))
