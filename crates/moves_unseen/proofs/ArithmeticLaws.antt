-- Lines that compute integers: the machine takes the same step.
use Rattle.std.proofs.Common.{◌≡◌, ℕ, false, List, ◌∷◌, map, refl, sym, ap, ◌∙◌, subst, Option}
use Rattle.std.specs.Prelude.{Result, Ok, Err}
use Rattle.sp_ids.specs.declared.ends.End.TheVariants.{Trap as Trapped}
use Rattle.sp_ids.specs.declared.ends.Trap.{Trap}
use Rattle.ir_ast.specs.declared.types.Ty.{Ty}
use Rattle.ir_ast.specs.declared.types.Ty.TheVariants.{Int}
use Rattle.ir_ast.specs.declared.ops.Op.TheVariants as ops
use Rattle.pair_facts.specs.declared.bases.Base.TheVariants as bases
use Rattle.ir_ast.specs.declared.ops.Op.{Op}
use Rattle.ir_ast.specs.declared.ops.Op.TheVariants.{Call, Select}
use Rattle.ir_ast.specs.declared.ops.Callee.TheVariants.{Check}
use Rattle.ir_ast.specs.Faults.GroupShape.{is_statepoint}
use Rattle.ir_ast.specs.Faults.PhiEdges.{is_phi}
use Rattle.ir_ast.specs.Insts.{Instruction}
use Rattle.ir_ast.specs.Layouts.{ObjectLayout}
use Rattle.ir_ast.specs.Modules.{ModuleContent}
use Rattle.ir_ast.specs.Objects.{Datum, number}
use Rattle.ir_ast.specs.Values.{value_types}
use Rattle.object_meaning.specs.Computing.{computed, value_of_line, with_number}
use Rattle.object_meaning.specs.Effects.{Effect}
use Rattle.object_meaning.specs.Frames.{is_member, passed}
use Rattle.object_meaning.specs.Lines.{Line}
use Rattle.object_meaning.specs.Numbers.{arithmetic, width_of, truncated, sign_extended}
use Rattle.object_meaning.specs.Registers.{operand, value, number_in, put}
use Rattle.object_meaning.specs.States.{State, Setting}
use Rattle.object_meaning.specs.Steps.{acts, settled, step, steps_at}
use Rattle.pair_facts.specs.declared.bases.Base.{Base}
use Rattle.pair_facts.specs.Lines.{line_before, lines_at, operand_at}
use Rattle.pair_facts.specs.Pairs.{Pairs, after, given_pairs, with_given, without}
use Rattle.machine_meaning.specs.Machines.{Machine, Machinery, lifted}
use Rattle.machine_meaning.specs.MachineSteps.{machine_acts, machine_at, machine_step, passes}
use Rattle.machine_meaning.specs.Words.{worded, worded_operand, worded_type}
use Rattle.moves_unseen.specs.Frames.{AreWords}
use Rattle.moves_unseen.specs.States.{Extra, IsRelated, machine_of}
use Rattle.moves_unseen.specs.Steps.{GivesNumber, IsArithmetic, IsNumber, StepFollows, both_end, both_go, add, sub, mul, udiv, sdiv, urem, srem, conjunction, disjunction, difference, shl, lshr, ashr, trunc, zext, sext}
use Rattle.moves_unseen.proofs.PassLaws.{pass_follows}
use Rattle.moves_unseen.proofs.StandLaws.{IsAlone}
use Rattle.moves_unseen.proofs.ValueLaws.{number_given, same_number, value_at, word_at}
use Rattle.moves_unseen.proofs.LastLaws.{last_of}

-- ---- what holds of each operator

lone_statepoint : (op : Op) → IsArithmetic op → is_statepoint op ≡ false
lone_statepoint _ add = refl
lone_statepoint _ sub = refl
lone_statepoint _ mul = refl
lone_statepoint _ udiv = refl
lone_statepoint _ sdiv = refl
lone_statepoint _ urem = refl
lone_statepoint _ srem = refl
lone_statepoint _ conjunction = refl
lone_statepoint _ disjunction = refl
lone_statepoint _ difference = refl
lone_statepoint _ shl = refl
lone_statepoint _ lshr = refl
lone_statepoint _ ashr = refl
lone_statepoint _ (trunc width) = refl
lone_statepoint _ (zext width) = refl
lone_statepoint _ (sext width) = refl

lone_member : (op : Op) → IsArithmetic op → is_member op ≡ false
lone_member _ add = refl
lone_member _ sub = refl
lone_member _ mul = refl
lone_member _ udiv = refl
lone_member _ sdiv = refl
lone_member _ urem = refl
lone_member _ srem = refl
lone_member _ conjunction = refl
lone_member _ disjunction = refl
lone_member _ difference = refl
lone_member _ shl = refl
lone_member _ lshr = refl
lone_member _ ashr = refl
lone_member _ (trunc width) = refl
lone_member _ (zext width) = refl
lone_member _ (sext width) = refl

lone_phi : (op : Op) → IsArithmetic op → is_phi op ≡ false
lone_phi _ add = refl
lone_phi _ sub = refl
lone_phi _ mul = refl
lone_phi _ udiv = refl
lone_phi _ sdiv = refl
lone_phi _ urem = refl
lone_phi _ srem = refl
lone_phi _ conjunction = refl
lone_phi _ disjunction = refl
lone_phi _ difference = refl
lone_phi _ shl = refl
lone_phi _ lshr = refl
lone_phi _ ashr = refl
lone_phi _ (trunc width) = refl
lone_phi _ (zext width) = refl
lone_phi _ (sext width) = refl

same_type : (op : Op) (ty : Ty) → IsArithmetic op → worded_type op ty ≡ ty
same_type _ ty add = refl
same_type _ ty sub = refl
same_type _ ty mul = refl
same_type _ ty udiv = refl
same_type _ ty sdiv = refl
same_type _ ty urem = refl
same_type _ ty srem = refl
same_type _ ty conjunction = refl
same_type _ ty disjunction = refl
same_type _ ty difference = refl
same_type _ ty shl = refl
same_type _ ty lshr = refl
same_type _ ty ashr = refl
same_type _ ty (trunc width) = refl
same_type _ ty (zext width) = refl
same_type _ ty (sext width) = refl

no_pairs : (pairs : Pairs) (last : Option Line) (inst : Instruction) (op : Op) (value : ℕ) (base : Base) → IsArithmetic op → given_pairs pairs last inst op value base ≡ false
no_pairs pairs last inst _ value base add = refl
no_pairs pairs last inst _ value base sub = refl
no_pairs pairs last inst _ value base mul = refl
no_pairs pairs last inst _ value base udiv = refl
no_pairs pairs last inst _ value base sdiv = refl
no_pairs pairs last inst _ value base urem = refl
no_pairs pairs last inst _ value base srem = refl
no_pairs pairs last inst _ value base conjunction = refl
no_pairs pairs last inst _ value base disjunction = refl
no_pairs pairs last inst _ value base difference = refl
no_pairs pairs last inst _ value base shl = refl
no_pairs pairs last inst _ value base lshr = refl
no_pairs pairs last inst _ value base ashr = refl
no_pairs pairs last inst _ value base (trunc width) = refl
no_pairs pairs last inst _ value base (zext width) = refl
no_pairs pairs last inst _ value base (sext width) = refl

not_call : (op : Op) (types : List Ty) → IsArithmetic op → op ≡ Call Check types → ⊥
not_call _ types add is = cc
not_call _ types sub is = cc
not_call _ types mul is = cc
not_call _ types udiv is = cc
not_call _ types sdiv is = cc
not_call _ types urem is = cc
not_call _ types srem is = cc
not_call _ types conjunction is = cc
not_call _ types disjunction is = cc
not_call _ types difference is = cc
not_call _ types shl is = cc
not_call _ types lshr is = cc
not_call _ types ashr is = cc
not_call _ types (trunc width) is = cc
not_call _ types (zext width) is = cc
not_call _ types (sext width) is = cc

not_select : (op : Op) → IsArithmetic op → op ≡ Select → ⊥
not_select _ add is = cc
not_select _ sub is = cc
not_select _ mul is = cc
not_select _ udiv is = cc
not_select _ sdiv is = cc
not_select _ urem is = cc
not_select _ srem is = cc
not_select _ conjunction is = cc
not_select _ disjunction is = cc
not_select _ difference is = cc
not_select _ shl is = cc
not_select _ lshr is = cc
not_select _ ashr is = cc
not_select _ (trunc width) is = cc
not_select _ (zext width) is = cc
not_select _ (sext width) is = cc

acts_so : (setting : Setting) (state : State) (line : Line) (rest : List Line) (op : Op) → IsArithmetic op
    → acts setting state line rest op ≡ settled state line rest (value_of_line setting.layouts state.running.registers op line.inst.ty line.inst.operands)
acts_so setting state line rest _ add = refl
acts_so setting state line rest _ sub = refl
acts_so setting state line rest _ mul = refl
acts_so setting state line rest _ udiv = refl
acts_so setting state line rest _ sdiv = refl
acts_so setting state line rest _ urem = refl
acts_so setting state line rest _ srem = refl
acts_so setting state line rest _ conjunction = refl
acts_so setting state line rest _ disjunction = refl
acts_so setting state line rest _ difference = refl
acts_so setting state line rest _ shl = refl
acts_so setting state line rest _ lshr = refl
acts_so setting state line rest _ ashr = refl
acts_so setting state line rest _ (trunc width) = refl
acts_so setting state line rest _ (zext width) = refl
acts_so setting state line rest _ (sext width) = refl

machine_acts_so : (machinery : Machinery) (machine : Machine) (line : Line) (rest : List Line) (op : Op) → IsArithmetic op
    → machine_acts machinery machine line rest op
    ≡ lifted machine (settled machine.state line rest (value_of_line machinery.setting.layouts machine.state.running.registers op line.inst.ty line.inst.operands))
machine_acts_so machinery machine line rest _ add = refl
machine_acts_so machinery machine line rest _ sub = refl
machine_acts_so machinery machine line rest _ mul = refl
machine_acts_so machinery machine line rest _ udiv = refl
machine_acts_so machinery machine line rest _ sdiv = refl
machine_acts_so machinery machine line rest _ urem = refl
machine_acts_so machinery machine line rest _ srem = refl
machine_acts_so machinery machine line rest _ conjunction = refl
machine_acts_so machinery machine line rest _ disjunction = refl
machine_acts_so machinery machine line rest _ difference = refl
machine_acts_so machinery machine line rest _ shl = refl
machine_acts_so machinery machine line rest _ lshr = refl
machine_acts_so machinery machine line rest _ ashr = refl
machine_acts_so machinery machine line rest _ (trunc width) = refl
machine_acts_so machinery machine line rest _ (zext width) = refl
machine_acts_so machinery machine line rest _ (sext width) = refl

-- what is computed of two numbers
abbrev number_of : Op → Ty → ℕ → ℕ → Result ℕ Trap
number_of (ops.Trunc width) ty one two = Ok (truncated (width_of (Int width)) one)
number_of (ops.Zext width) ty one two = Ok one
number_of (ops.Sext width) ty one two = Ok (sign_extended (width_of ty) (width_of (Int width)) one)
number_of op ty one two = arithmetic op (width_of ty) one two

computed_so : (layouts : List ObjectLayout) (op : Op) (ty : Ty) (first second third : Datum) → IsArithmetic op
    → computed layouts op ty first second third ≡ with_number (number_of op ty (number_in first) (number_in second))
computed_so layouts _ ty first second third add = refl
computed_so layouts _ ty first second third sub = refl
computed_so layouts _ ty first second third mul = refl
computed_so layouts _ ty first second third udiv = refl
computed_so layouts _ ty first second third sdiv = refl
computed_so layouts _ ty first second third urem = refl
computed_so layouts _ ty first second third srem = refl
computed_so layouts _ ty first second third conjunction = refl
computed_so layouts _ ty first second third disjunction = refl
computed_so layouts _ ty first second third difference = refl
computed_so layouts _ ty first second third shl = refl
computed_so layouts _ ty first second third lshr = refl
computed_so layouts _ ty first second third ashr = refl
computed_so layouts _ ty first second third (trunc width) = refl
computed_so layouts _ ty first second third (zext width) = refl
computed_so layouts _ ty first second third (sext width) = refl

-- ---- the step

module _ (content : ModuleContent) (machinery : Machinery) (setting : Setting) (state : State) (extra : Extra) (related : IsRelated content state extra) (line : Line) (rest : List Line)
    (is : state.running.rest ≡ line ∷ rest) (arithmetical : IsArithmetic line.inst.op) (gives : GivesNumber (value_types related.running.func) line) where
  alone : IsAlone line
  alone = record { statepoint = lone_statepoint line.inst.op arithmetical; member = lone_member line.inst.op arithmetical; phi = lone_phi line.inst.op arithmetical }

  -- the operand at a place is the same number in both
  same_operand : (place : ℕ) → IsNumber (value_types related.running.func) (operand_at line.inst.operands place)
      → number_in (operand (map number extra.running.words) (map worded_operand line.inst.operands) place) ≡ number_in (operand state.running.registers line.inst.operands place)
  same_operand place numbered =
      word_at extra.running.words line.inst.operands place
      ∙ (same_number (value_types related.running.func) state.running.registers extra.running.words related.running.words.numbers
      (operand_at line.inst.operands place) numbered.ty numbered.fits numbered.plain
      ∙ sym (ap number_in (value_at state.running.registers line.inst.operands place)))

  abbrev answer : Result ℕ Trap
  answer = number_of line.inst.op line.inst.ty (number_in (operand state.running.registers line.inst.operands 0)) (number_in (operand state.running.registers line.inst.operands 1))

  here_is : step setting state ≡ settled state line rest (with_number answer)
  unfolding step
  here_is =
      ap (steps_at setting state) is
      ∙ (acts_so setting state line rest line.inst.op arithmetical
      ∙ ap (settled state line rest) (computed_so setting.layouts line.inst.op line.inst.ty (operand state.running.registers line.inst.operands 0)
      (operand state.running.registers line.inst.operands 1) (operand state.running.registers line.inst.operands 2) arithmetical))

  there_is : machine_step machinery (machine_of machinery state extra)
      ≡ lifted (machine_of machinery state extra) (settled (machine_of machinery state extra).state (worded line) (map worded rest) (with_number answer))
  unfolding machine_step
  there_is =
      let machine = machine_of machinery state extra in
      let words = map number extra.running.words in
      let operands = map worded_operand line.inst.operands in
      ap (machine_at machinery (machine_of machinery state extra)) (ap (map worded) is)
      ∙ (machine_acts_so machinery (machine_of machinery state extra) (worded line) (map worded rest) line.inst.op arithmetical
      ∙ ap (λ (result : Result Datum Trap). lifted (machine_of machinery state extra) (settled (machine_of machinery state extra).state (worded line) (map worded rest) result))
      (computed_so machinery.setting.layouts line.inst.op (worded_type line.inst.op line.inst.ty) (operand (map number extra.running.words) (map worded_operand line.inst.operands) 0)
      (operand (map number extra.running.words) (map worded_operand line.inst.operands) 1) (operand (map number extra.running.words) (map worded_operand line.inst.operands) 2) arithmetical
      ∙ (ap (λ (ty : Ty). with_number (number_of line.inst.op ty (number_in (operand (map number extra.running.words) (map worded_operand line.inst.operands) 0))
      (number_in (operand (map number extra.running.words) (map worded_operand line.inst.operands) 1)))) (same_type line.inst.op line.inst.ty arithmetical)
      ∙ (ap (λ (one : ℕ). with_number (number_of line.inst.op line.inst.ty one (number_in (operand (map number extra.running.words) (map worded_operand line.inst.operands) 1)))) (same_operand 0 gives.first)
      ∙ ap (λ (two : ℕ). with_number (number_of line.inst.op line.inst.ty (number_in (operand state.running.registers line.inst.operands 0)) two)) (same_operand 1 gives.second)))))

  words_after : (word : ℕ) → AreWords extra.heap.stands (value_types related.running.func)
      (after related.running.pairs (line_before (lines_at related.running.func state.running.block) related.running.place) line)
      (put line.to (number word) state.running.registers) (put line.to word extra.running.words)
  words_after word =
      let last = line_before (lines_at related.running.func state.running.block) related.running.place in
      subst (λ (to : Option ℕ). AreWords extra.heap.stands (value_types related.running.func)
      (with_given to (λ value. given_pairs (without value related.running.pairs) (line_before (lines_at related.running.func state.running.block) related.running.place) line.inst line.inst.op value) related.running.pairs)
      (put to (number word) state.running.registers) (put to word extra.running.words)) (sym gives.to)
      (number_given extra.heap.stands (value_types related.running.func) related.running.pairs state.running.registers extra.running.words gives.given gives.ty related.running.words gives.typed
      (number word) word refl
      (given_pairs (without gives.given related.running.pairs) (line_before (lines_at related.running.func state.running.block) related.running.place) line.inst line.inst.op gives.given)
      (λ base. no_pairs (without gives.given related.running.pairs) (line_before (lines_at related.running.func state.running.block) related.running.place) line.inst line.inst.op gives.given (bases.Named base) arithmetical))

  by_answer : (result : Result ℕ Trap) → StepFollows content machinery (settled state line rest (with_number result))
      (lifted (machine_of machinery state extra) (settled (machine_of machinery state extra).state (worded line) (map worded rest) (with_number result)))
  by_answer (Ok word) =
      both_go (passed state line rest (number word)) (passes (machine_of machinery state extra) (worded line) (map worded rest) word)
      (pass_follows content machinery state extra related line rest is alone (number word) word (words_after word)
      (λ types op. absurd (not_call line.inst.op types arithmetical op))
      (λ to op managed gives_to. absurd (not_select line.inst.op arithmetical op)))
  by_answer (Err trap) =
      both_end (Trapped trap) state (machine_of machinery state extra) (last_of content machinery state extra related)

  -- related before, the machine steps as the target meaning, and related after
  pub arithmetic_follows : StepFollows content machinery (step setting state) (machine_step machinery (machine_of machinery state extra))
  arithmetic_follows =
      subst (λ (here : Effect State). StepFollows content machinery here (machine_step machinery (machine_of machinery state extra))) (sym here_is)
      (subst (StepFollows content machinery (settled state line rest (with_number answer))) (sym there_is) (by_answer answer))
