-- `getelementptr` and loads: the machine takes the same step.
use Rattle.std.proofs.Common.{◌≡◌, ℕ, ◌+◌, ◌*◌, ◌%◌, ◌^◌, List, ◌∷◌, map, sym, ap, ◌∙◌, subst, Option}
use Rattle.std.specs.Int.{w64, cast_unsigned}
use Rattle.sp_ids.specs.Numbers.{signed}
use Rattle.ir_ast.specs.declared.ops.Callee.TheVariants.{Check}
use Rattle.ir_ast.specs.declared.ops.Elem.{Elem}
use Rattle.ir_ast.specs.declared.ops.Op.{Op}
use Rattle.ir_ast.specs.declared.ops.Op.TheVariants.{Call, Gep, Select}
use Rattle.ir_ast.specs.declared.ops.Operand.{Operand}
use Rattle.ir_ast.specs.declared.types.Ty.{Ty}
use Rattle.ir_ast.specs.declared.types.Ty.TheVariants.{Int}
use Rattle.ir_ast.specs.Faults.GroupShape.{is_statepoint}
use Rattle.ir_ast.specs.Faults.PhiEdges.{is_phi}
use Rattle.ir_ast.specs.Layouts.{ObjectLayout}
use Rattle.ir_ast.specs.Modules.{ModuleContent}
use Rattle.ir_ast.specs.Objects.{Datum, number, pointer, advanced}
use Rattle.ir_ast.specs.Values.{value_types}
use Rattle.object_meaning.specs.Computing.{element_bytes, field_bytes}
use Rattle.object_meaning.specs.Effects.{Effect, goes_on}
use Rattle.object_meaning.specs.Frames.{is_member, passed}
use Rattle.object_meaning.specs.Lines.{Line}
use Rattle.object_meaning.specs.Numbers.{width_of}
use Rattle.object_meaning.specs.Registers.{operand, value, number_in, pointer_in, put}
use Rattle.object_meaning.specs.States.{State, Setting}
use Rattle.object_meaning.specs.Steps.{acts, step, steps_at}
use Rattle.pair_facts.specs.Lines.{line_before, lines_at, operand_at}
use Rattle.pair_facts.specs.Pairs.{after, given_pairs, with_given, without}
use Rattle.machine_meaning.specs.Machines.{Machinery}
use Rattle.machine_meaning.specs.MachineSteps.{machine_acts, machine_at, machine_step, passes, stepped_word}
use Rattle.machine_meaning.specs.Words.{worded, worded_operand}
use Rattle.machine_meaning.specs.Relations.{word_in}
use Rattle.moves_unseen.specs.Frames.{AreWords}
use Rattle.moves_unseen.specs.States.{Extra, IsRelated, machine_of}
use Rattle.moves_unseen.specs.Steps.{GivesPointer, IsNumber, StepFollows, both_go}
use Rattle.moves_unseen.proofs.PassLaws.{pass_follows}
use Rattle.moves_unseen.proofs.StandLaws.{IsAlone}
use Rattle.moves_unseen.proofs.ValueLaws.{advanced_given, same_number, value_at, word_at}

not_call : (elem : Elem) (index_width : ℕ) (field : Option ℕ) (types : List Ty) (op : Op) → op ≡ Gep elem index_width field → op ≡ Call Check types → ⊥
not_call elem index_width field types op one other = cc

not_select : (elem : Elem) (index_width : ℕ) (field : Option ℕ) (op : Op) → op ≡ Gep elem index_width field → op ≡ Select → ⊥
not_select elem index_width field op one other = cc

module _ (content : ModuleContent) (machinery : Machinery) (setting : Setting) (same_layouts : machinery.setting.layouts ≡ setting.layouts) (state : State) (extra : Extra)
    (related : IsRelated content state extra) (line : Line) (rest : List Line) (is : state.running.rest ≡ line ∷ rest)
    (elem : Elem) (index_width : ℕ) (field : Option ℕ) (op_is : line.inst.op ≡ Gep elem index_width field) (index : IsNumber (value_types related.running.func) (operand_at line.inst.operands 1))
    (gives : GivesPointer (value_types related.running.func) line) where
  alone : IsAlone line
  alone = record { statepoint = ap is_statepoint op_is; member = ap is_member op_is; phi = ap is_phi op_is }

  abbrev from : Operand
  from = operand_at line.inst.operands 0

  -- so many bytes
  abbrev by : ℕ
  by = cast_unsigned w64 (signed (width_of (Int index_width)) (number_in (operand state.running.registers line.inst.operands 1))) * element_bytes setting.layouts elem
      + field_bytes setting.layouts elem field

  abbrev further : Datum
  further = pointer (advanced (pointer_in (value state.running.registers from)) by)

  abbrev further_word : ℕ
  further_word = (word_in extra.running.words from + by) % 2 ^ 64

  same_index : number_in (operand (map number extra.running.words) (map worded_operand line.inst.operands) 1) ≡ number_in (operand state.running.registers line.inst.operands 1)
  same_index =
      word_at extra.running.words line.inst.operands 1
      ∙ (same_number (value_types related.running.func) state.running.registers extra.running.words related.running.words.numbers
      (operand_at line.inst.operands 1) index.ty index.fits index.plain
      ∙ sym (ap number_in (value_at state.running.registers line.inst.operands 1)))

  here_is : step setting state ≡ goes_on (passed state line rest further)
  unfolding step
  here_is =
      ap (steps_at setting state) is
      ∙ (ap (acts setting state line rest) op_is
      ∙ ap (λ (d : Datum). goes_on (passed state line rest (pointer (advanced (pointer_in d) by)))) (value_at state.running.registers line.inst.operands 0))

  there_is : machine_step machinery (machine_of machinery state extra) ≡ goes_on (passes (machine_of machinery state extra) (worded line) (map worded rest) further_word)
  unfolding machine_step
  there_is =
      ap (machine_at machinery (machine_of machinery state extra)) (ap (map worded) is)
      ∙ (ap (machine_acts machinery (machine_of machinery state extra) (worded line) (map worded rest)) op_is
      ∙ (ap (λ (layouts : List ObjectLayout). goes_on (passes (machine_of machinery state extra) (worded line) (map worded rest)
      (stepped_word layouts elem (width_of (Int index_width)) field (number_in (operand (map number extra.running.words) (map worded_operand line.inst.operands) 0))
      (number_in (operand (map number extra.running.words) (map worded_operand line.inst.operands) 1))))) same_layouts
      ∙ (ap (λ (word : ℕ). goes_on (passes (machine_of machinery state extra) (worded line) (map worded rest)
      (stepped_word setting.layouts elem (width_of (Int index_width)) field word (number_in (operand (map number extra.running.words) (map worded_operand line.inst.operands) 1)))))
      (word_at extra.running.words line.inst.operands 0)
      ∙ ap (λ (n : ℕ). goes_on (passes (machine_of machinery state extra) (worded line) (map worded rest)
      (stepped_word setting.layouts elem (width_of (Int index_width)) field (word_in extra.running.words from) n))) same_index)))

  words_after : AreWords extra.heap.stands (value_types related.running.func)
      (after related.running.pairs (line_before (lines_at related.running.func state.running.block) related.running.place) line)
      (put line.to further state.running.registers) (put line.to further_word extra.running.words)
  words_after =
      subst (λ (op : Op). AreWords extra.heap.stands (value_types related.running.func)
      (with_given line.to (λ value. given_pairs (without value related.running.pairs) (line_before (lines_at related.running.func state.running.block) related.running.place) line.inst op value) related.running.pairs)
      (put line.to further state.running.registers) (put line.to further_word extra.running.words)) (sym op_is)
      (subst (λ (to : Option ℕ). AreWords extra.heap.stands (value_types related.running.func)
      (with_given to (λ value. given_pairs (without value related.running.pairs) (line_before (lines_at related.running.func state.running.block) related.running.place) line.inst (Gep elem index_width field) value) related.running.pairs)
      (put to further state.running.registers) (put to further_word extra.running.words)) (sym gives.to)
      (advanced_given extra.heap.stands (value_types related.running.func) related.running.pairs state.running.registers extra.running.words gives.given gives.ty related.running.words gives.typed
      from by gives.managed))

  -- related before, the machine steps as the target meaning, and related after
  pub gep_follows : StepFollows content machinery (step setting state) (machine_step machinery (machine_of machinery state extra))
  gep_follows =
      subst (λ (here : Effect State). StepFollows content machinery here (machine_step machinery (machine_of machinery state extra))) (sym here_is)
      (subst (StepFollows content machinery (goes_on (passed state line rest further))) (sym there_is)
      (both_go (passed state line rest further) (passes (machine_of machinery state extra) (worded line) (map worded rest) further_word)
      (pass_follows content machinery state extra related line rest is alone further further_word words_after
      (λ types op. absurd (not_call elem index_width field types line.inst.op op_is op))
      (λ to op managed gives_to. absurd (not_select elem index_width field line.inst.op op_is op)))))
