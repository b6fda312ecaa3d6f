-- `icmp` of integers, and of pointers that are their own bases: the machine takes the same step.
use Rattle.std.proofs.Common.{◌≡◌, ℕ, ◌==◌, not, Bool, true, List, ◌∷◌, map, refl, sym, ap, ◌∙◌, subst, Option, Some}
use Rattle.std.specs.Prelude.{slice_get}
use Rattle.ir_ast.specs.declared.ops.Callee.TheVariants.{Check}
use Rattle.ir_ast.specs.declared.ops.Op.{Op}
use Rattle.ir_ast.specs.declared.ops.Op.TheVariants.{Call, Icmp, Select}
use Rattle.ir_ast.specs.declared.ops.Pred.{Pred}
use Rattle.ir_ast.specs.declared.ops.Pred.TheVariants.{Eq, Ne}
use Rattle.ir_ast.specs.declared.types.Ty.{Ty}
use Rattle.ir_ast.specs.declared.types.Ty.TheVariants.{Int}
use Rattle.pair_facts.specs.declared.bases.Base.TheVariants.{Named}
use Rattle.ir_ast.specs.Faults.GroupShape.{is_statepoint}
use Rattle.ir_ast.specs.Faults.PhiEdges.{is_phi}
use Rattle.ir_ast.specs.Modules.{ModuleContent}
use Rattle.ir_ast.specs.Objects.{Datum, number}
use Rattle.ir_ast.specs.Values.{value_types}
use Rattle.object_meaning.specs.Comparisons.{bit, compares, numbers_compare, same_pointer}
use Rattle.object_meaning.specs.Effects.{Effect, goes_on}
use Rattle.object_meaning.specs.Frames.{is_member, passed}
use Rattle.object_meaning.specs.Lines.{Line}
use Rattle.object_meaning.specs.Numbers.{width_of}
use Rattle.object_meaning.specs.Registers.{operand, value, number_in, pointer_in, put}
use Rattle.object_meaning.specs.States.{State, Setting}
use Rattle.object_meaning.specs.Steps.{acts, step, steps_at}
use Rattle.pair_facts.specs.Lines.{line_before, lines_at, operand_at}
use Rattle.pair_facts.specs.Pairs.{after, given_pairs, with_given, without}
use Rattle.machine_meaning.specs.Machines.{Machine, Machinery}
use Rattle.machine_meaning.specs.MachineSteps.{machine_acts, machine_at, machine_step, passes}
use Rattle.machine_meaning.specs.Words.{worded, worded_operand, worded_type}
use Rattle.machine_meaning.specs.Relations.{word_in}
use Rattle.moves_unseen.specs.Frames.{AreWords}
use Rattle.moves_unseen.specs.States.{Extra, IsRelated, machine_of}
use Rattle.moves_unseen.specs.Steps.{IsCompared, IsNumber, StepFollows, both_go, differing, equal, integers}
use Rattle.moves_unseen.proofs.ComparisonLaws.{bases_compared}
use Rattle.moves_unseen.proofs.PassLaws.{pass_follows}
use Rattle.moves_unseen.proofs.StandLaws.{IsAlone}
use Rattle.moves_unseen.proofs.ValueLaws.{number_given, same_number, value_at, word_at}

not_call : (pred : Pred) (types : List Ty) (op : Op) → op ≡ Icmp pred → op ≡ Call Check types → ⊥
not_call pred types op one other = cc

not_select : (pred : Pred) (op : Op) → op ≡ Icmp pred → op ≡ Select → ⊥
not_select pred op one other = cc

module _ (content : ModuleContent) (machinery : Machinery) (setting : Setting) (state : State) (extra : Extra)
    (related : IsRelated content state extra) (line : Line) (rest : List Line) (is : state.running.rest ≡ line ∷ rest)
    (pred : Pred) (op_is : line.inst.op ≡ Icmp pred) (how : IsCompared (value_types related.running.func) related.running.pairs line pred)
    (given : ℕ) (gives : line.to ≡ Some given) (ty : Ty) (typed : slice_get (value_types related.running.func) given ≡ Some ty) where
  alone : IsAlone line
  alone = record { statepoint = ap is_statepoint op_is; member = ap is_member op_is; phi = ap is_phi op_is }

  abbrev machine : Machine
  machine = machine_of machinery state extra

  abbrev here_at : ℕ → Datum
  here_at place = operand state.running.registers line.inst.operands place

  abbrev there_at : ℕ → Datum
  there_at place = operand (map number extra.running.words) (map worded_operand line.inst.operands) place

  numbers_same : (place : ℕ) → IsNumber (value_types related.running.func) (operand_at line.inst.operands place) → number_in (there_at place) ≡ number_in (here_at place)
  numbers_same place numbered =
      word_at extra.running.words line.inst.operands place
      ∙ (same_number (value_types related.running.func) state.running.registers extra.running.words related.running.words.numbers
      (operand_at line.inst.operands place) numbered.ty numbered.fits numbered.plain
      ∙ sym (ap number_in (value_at state.running.registers line.inst.operands place)))

  pointers_same : related.running.pairs (operand_at line.inst.operands 0) (Named (operand_at line.inst.operands 0)) ≡ true
      → related.running.pairs (operand_at line.inst.operands 1) (Named (operand_at line.inst.operands 1)) ≡ true
      → number_in (there_at 0) == number_in (there_at 1) ≡ same_pointer (pointer_in (here_at 0)) (pointer_in (here_at 1))
  pointers_same first second =
      ap (λ (w : ℕ). w == number_in (there_at 1)) (word_at extra.running.words line.inst.operands 0)
      ∙ (ap (λ (w : ℕ). word_in extra.running.words (operand_at line.inst.operands 0) == w) (word_at extra.running.words line.inst.operands 1)
      ∙ (bases_compared extra.heap.stands related.objects.settled (pointer_in (value state.running.registers (operand_at line.inst.operands 0))) (pointer_in (value state.running.registers (operand_at line.inst.operands 1)))
      (word_in extra.running.words (operand_at line.inst.operands 0)) (word_in extra.running.words (operand_at line.inst.operands 1))
      (related.running.words.pointers (operand_at line.inst.operands 0) (operand_at line.inst.operands 0) first)
      (related.running.words.pointers (operand_at line.inst.operands 1) (operand_at line.inst.operands 1) second)
      ∙ (ap (λ (d : Datum). same_pointer (pointer_in d) (pointer_in (value state.running.registers (operand_at line.inst.operands 1)))) (sym (value_at state.running.registers line.inst.operands 0))
      ∙ ap (λ (d : Datum). same_pointer (pointer_in (here_at 0)) (pointer_in d)) (sym (value_at state.running.registers line.inst.operands 1)))))

  compared_by : (one : Pred) → IsCompared (value_types related.running.func) related.running.pairs line one
      → compares one (worded_type (Icmp one) line.inst.ty) (there_at 0) (there_at 1) ≡ compares one line.inst.ty (here_at 0) (here_at 1)
  compared_by _ (integers one width type_is first second) =
      ap (λ (t : Ty). compares one (worded_type (Icmp one) t) (there_at 0) (there_at 1)) type_is
      ∙ (ap (λ (n : ℕ). numbers_compare one (width_of (Int width)) n (number_in (there_at 1))) (numbers_same 0 first)
      ∙ (ap (λ (n : ℕ). numbers_compare one (width_of (Int width)) (number_in (here_at 0)) n) (numbers_same 1 second)
      ∙ sym (ap (λ (t : Ty). compares one t (here_at 0) (here_at 1)) type_is)))
  compared_by _ (equal type_is first second) =
      ap (λ (t : Ty). compares Eq (worded_type (Icmp Eq) t) (there_at 0) (there_at 1)) type_is
      ∙ (pointers_same first second ∙ sym (ap (λ (t : Ty). compares Eq t (here_at 0) (here_at 1)) type_is))
  compared_by _ (differing type_is first second) =
      ap (λ (t : Ty). compares Ne (worded_type (Icmp Ne) t) (there_at 0) (there_at 1)) type_is
      ∙ (ap not (pointers_same first second) ∙ sym (ap (λ (t : Ty). compares Ne t (here_at 0) (here_at 1)) type_is))

  abbrev answer : ℕ
  answer = bit (compares pred line.inst.ty (here_at 0) (here_at 1))

  here_is : step setting state ≡ goes_on (passed state line rest (number answer))
  unfolding step
  here_is = ap (steps_at setting state) is ∙ ap (acts setting state line rest) op_is

  there_is : machine_step machinery machine ≡ goes_on (passes machine (worded line) (map worded rest) answer)
  unfolding machine_step
  there_is =
      ap (machine_at machinery machine) (ap (map worded) is)
      ∙ (ap (machine_acts machinery machine (worded line) (map worded rest)) op_is
      ∙ (ap (λ (op : Op). goes_on (passes machine (worded line) (map worded rest) (bit (compares pred (worded_type op line.inst.ty) (there_at 0) (there_at 1))))) op_is
      ∙ ap (λ (b : Bool). goes_on (passes machine (worded line) (map worded rest) (bit b))) (compared_by pred how)))

  words_after : AreWords extra.heap.stands (value_types related.running.func)
      (after related.running.pairs (line_before (lines_at related.running.func state.running.block) related.running.place) line)
      (put line.to (number answer) state.running.registers) (put line.to answer extra.running.words)
  words_after =
      subst (λ (op : Op). AreWords extra.heap.stands (value_types related.running.func)
      (with_given line.to (λ value. given_pairs (without value related.running.pairs) (line_before (lines_at related.running.func state.running.block) related.running.place) line.inst op value) related.running.pairs)
      (put line.to (number answer) state.running.registers) (put line.to answer extra.running.words)) (sym op_is)
      (subst (λ (to_given : Option ℕ). AreWords extra.heap.stands (value_types related.running.func)
      (with_given to_given (λ value. given_pairs (without value related.running.pairs) (line_before (lines_at related.running.func state.running.block) related.running.place) line.inst (Icmp pred) value) related.running.pairs)
      (put to_given (number answer) state.running.registers) (put to_given answer extra.running.words)) (sym gives)
      (number_given extra.heap.stands (value_types related.running.func) related.running.pairs state.running.registers extra.running.words given ty related.running.words typed
      (number answer) answer refl
      (given_pairs (without given related.running.pairs) (line_before (lines_at related.running.func state.running.block) related.running.place) line.inst (Icmp pred) given)
      (λ base. refl)))

  -- related before, the machine steps as the target meaning, and related after
  pub icmp_follows : StepFollows content machinery (step setting state) (machine_step machinery (machine_of machinery state extra))
  icmp_follows =
      subst (λ (effect : Effect State). StepFollows content machinery effect (machine_step machinery machine)) (sym here_is)
      (subst (StepFollows content machinery (goes_on (passed state line rest (number answer)))) (sym there_is)
      (both_go (passed state line rest (number answer)) (passes machine (worded line) (map worded rest) answer)
      (pass_follows content machinery state extra related line rest is alone (number answer) answer words_after
      (λ types op. absurd (not_call pred types line.inst.op op_is op))
      (λ to op managed gives_to. absurd (not_select pred line.inst.op op_is op)))))
