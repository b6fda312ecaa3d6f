-- `print` and `read`: the machine takes the same step.
use Rattle.std.proofs.Common.{◌≡◌, ℕ, ℤ, List, [], ◌∷◌, map, refl, sym, ap, ◌∙◌, subst, Option, Some, None}
use Rattle.std.specs.Prelude.{slice_get}
use Rattle.std.specs.Int.{w64, cast_unsigned}
use Rattle.sp_ids.specs.declared.ends.End.TheVariants.{Trap as Trapped}
use Rattle.sp_ids.specs.declared.ends.Trap.TheVariants.{Input}
use Rattle.ir_ast.specs.declared.ops.Callee.{Callee}
use Rattle.ir_ast.specs.declared.ops.Callee.TheVariants.{Check, Print, Read}
use Rattle.ir_ast.specs.declared.ops.Op.{Op}
use Rattle.ir_ast.specs.declared.ops.Op.TheVariants.{Call, Select}
use Rattle.ir_ast.specs.declared.types.Ty.{Ty}
use Rattle.ir_ast.specs.Faults.GroupShape.{is_statepoint}
use Rattle.ir_ast.specs.Faults.PhiEdges.{is_phi}
use Rattle.ir_ast.specs.Modules.{ModuleContent}
use Rattle.ir_ast.specs.Objects.{number}
use Rattle.ir_ast.specs.Values.{value_types}
use Rattle.object_meaning.specs.Calls.{taking}
use Rattle.object_meaning.specs.Effects.{Effect, prints}
use Rattle.object_meaning.specs.Frames.{is_member, passed}
use Rattle.object_meaning.specs.Lines.{Line}
use Rattle.object_meaning.specs.Registers.{nothing, operand, number_in, put}
use Rattle.object_meaning.specs.States.{State, Setting}
use Rattle.object_meaning.specs.Steps.{acts, step, steps_at}
use Rattle.pair_facts.specs.Lines.{line_before, lines_at, operand_at}
use Rattle.pair_facts.specs.Pairs.{given_pairs, with_given, without}
use Rattle.machine_meaning.specs.Machines.{Machine, Machinery, gone_behind, gone_from, gone_on, lifted}
use Rattle.machine_meaning.specs.MachineSteps.{machine_acts, machine_at, machine_step, passes}
use Rattle.machine_meaning.specs.Words.{worded, worded_operand}
use Rattle.moves_unseen.specs.Frames.{AreWords}
use Rattle.moves_unseen.specs.States.{Extra, Follows, IsRelated, machine_of}
use Rattle.moves_unseen.specs.Steps.{IsNumber, StepFollows, both_end, both_go, both_print}
use Rattle.moves_unseen.proofs.PassLaws.{pass_follows}
use Rattle.moves_unseen.proofs.StandLaws.{IsAlone}
use Rattle.moves_unseen.proofs.ValueLaws.{number_given, same_number, value_at, word_at}
use Rattle.moves_unseen.proofs.LastLaws.{last_of}

same_callee : (callee : Callee) (types others : List Ty) (op : Op) → op ≡ Call callee types → op ≡ Call Check others → callee ≡ Check
same_callee callee types others op one other = cc

not_select : (callee : Callee) (types : List Ty) (op : Op) → op ≡ Call callee types → op ≡ Select → ⊥
not_select callee types op one other = cc

-- ---- plain calls

module _ (content : ModuleContent) (machinery : Machinery) (state : State) (extra : Extra) (related : IsRelated content state extra) (line : Line) (rest : List Line)
    (is : state.running.rest ≡ line ∷ rest) (callee : Callee) (types : List Ty) (op_is : line.inst.op ≡ Call callee types) (no_check : callee ≡ Check → ⊥) where
  alone : IsAlone line
  alone = record { statepoint = ap is_statepoint op_is; member = ap is_member op_is; phi = ap is_phi op_is }

  -- the machine goes on behind a plain call as behind any line
  pub gone_is : (made : ℕ) → gone_on (number made) (machine_of machinery state extra) ≡ passes (machine_of machinery state extra) (worded line) (map worded rest) made
  gone_is made =
      let machine = machine_of machinery state extra in
      ap (λ (lines : List Line). record (machine_of machinery state extra) {
        state = record (machine_of machinery state extra).state {
          running = gone_from (machine_of machinery state extra).stack (machine_of machinery state extra).state.running lines (number made);
        };
      }) (ap (map worded) is)
      ∙ ap (λ (op : Op). record (machine_of machinery state extra) {
        state = record (machine_of machinery state extra).state {
          running = gone_behind (machine_of machinery state extra).stack (machine_of machinery state extra).state.running (worded line) (map worded rest) (number made) op;
        };
      }) op_is

  pub without_answer : line.to ≡ None → Follows content machinery (passed state line rest nothing) (passes (machine_of machinery state extra) (worded line) (map worded rest) 0)
  without_answer gives_none =
      pass_follows content machinery state extra related line rest is alone nothing 0
      (subst (λ (given : Option ℕ). AreWords extra.heap.stands (value_types related.running.func)
      (with_given given (λ value. given_pairs (without value related.running.pairs) (line_before (lines_at related.running.func state.running.block) related.running.place) line.inst line.inst.op value) related.running.pairs)
      (put given nothing state.running.registers) (put given 0 extra.running.words)) (sym gives_none) related.running.words)
      (λ others op. absurd (no_check (same_callee callee types others line.inst.op op_is op)))
      (λ to op managed gives_to. absurd (not_select callee types line.inst.op op_is op))

  pub with_answer : (made given : ℕ) → line.to ≡ Some given → (ty : Ty) → slice_get (value_types related.running.func) given ≡ Some ty
      → Follows content machinery (passed state line rest (number made)) (passes (machine_of machinery state extra) (worded line) (map worded rest) made)
  with_answer made given gives ty typed =
      pass_follows content machinery state extra related line rest is alone (number made) made
      (subst (λ (op : Op). AreWords extra.heap.stands (value_types related.running.func)
      (with_given line.to (λ value. given_pairs (without value related.running.pairs) (line_before (lines_at related.running.func state.running.block) related.running.place) line.inst op value) related.running.pairs)
      (put line.to (number made) state.running.registers) (put line.to made extra.running.words)) (sym op_is)
      (subst (λ (to_given : Option ℕ). AreWords extra.heap.stands (value_types related.running.func)
      (with_given to_given (λ value. given_pairs (without value related.running.pairs) (line_before (lines_at related.running.func state.running.block) related.running.place) line.inst (Call callee types) value) related.running.pairs)
      (put to_given (number made) state.running.registers) (put to_given made extra.running.words)) (sym gives)
      (number_given extra.heap.stands (value_types related.running.func) related.running.pairs state.running.registers extra.running.words given ty related.running.words typed
      (number made) made refl
      (given_pairs (without given related.running.pairs) (line_before (lines_at related.running.func state.running.block) related.running.place) line.inst (Call callee types) given)
      (λ base. refl))))
      (λ others op. absurd (no_check (same_callee callee types others line.inst.op op_is op)))
      (λ to op managed gives_to. absurd (not_select callee types line.inst.op op_is op))

print_is_no_check : Print ≡ Check → ⊥
print_is_no_check is = cc

read_is_no_check : Read ≡ Check → ⊥
read_is_no_check is = cc

-- ---- the two

module _ (content : ModuleContent) (machinery : Machinery) (setting : Setting) (state : State) (extra : Extra) (related : IsRelated content state extra) (line : Line) (rest : List Line)
    (is : state.running.rest ≡ line ∷ rest) (types : List Ty) where
  abbrev machine : Machine
  machine = machine_of machinery state extra

  -- related before, the machine steps as the target meaning, and related after
  pub print_follows : line.inst.op ≡ Call Print types → line.to ≡ None → IsNumber (value_types related.running.func) (operand_at line.inst.operands 0)
      → StepFollows content machinery (step setting state) (machine_step machinery machine)
  unfolding step machine_step
  print_follows op_is gives_none shown =
      let here : step setting state ≡ prints (number_in (operand state.running.registers line.inst.operands 0)) (passed state line rest nothing) =
      ap (steps_at setting state) is ∙ ap (acts setting state line rest) op_is in
      let same : number_in (operand (map number extra.running.words) (map worded_operand line.inst.operands) 0) ≡ number_in (operand state.running.registers line.inst.operands 0) =
      word_at extra.running.words line.inst.operands 0
      ∙ (same_number (value_types related.running.func) state.running.registers extra.running.words related.running.words.numbers
      (operand_at line.inst.operands 0) shown.ty shown.fits shown.plain
      ∙ sym (ap number_in (value_at state.running.registers line.inst.operands 0))) in
      let there : machine_step machinery machine ≡ prints (number_in (operand state.running.registers line.inst.operands 0)) (passes machine (worded line) (map worded rest) 0) =
      ap (machine_at machinery machine) (ap (map worded) is)
      ∙ (ap (machine_acts machinery machine (worded line) (map worded rest)) op_is
      ∙ (ap (λ (n : ℕ). prints n (gone_on nothing machine)) same
      ∙ ap (λ (next : Machine). prints (number_in (operand state.running.registers line.inst.operands 0)) next)
      (gone_is content machinery state extra related line rest is Print types op_is print_is_no_check 0))) in
      subst (λ (effect : Effect State). StepFollows content machinery effect (machine_step machinery machine)) (sym here)
      (subst (StepFollows content machinery (prints (number_in (operand state.running.registers line.inst.operands 0)) (passed state line rest nothing))) (sym there)
      (both_print (number_in (operand state.running.registers line.inst.operands 0)) (passed state line rest nothing) (passes machine (worded line) (map worded rest) 0)
      (without_answer content machinery state extra related line rest is Print types op_is print_is_no_check gives_none)))

  took : (numbers : List ℤ) → state.input ≡ numbers → line.inst.op ≡ Call Read types → (given : ℕ) → line.to ≡ Some given → (ty : Ty) → slice_get (value_types related.running.func) given ≡ Some ty
      → StepFollows content machinery (taking state (passed state line rest) numbers) (lifted machine (taking machine.state (λ answer. (gone_on answer machine).state) numbers))
  took [] input_is op_is given gives ty typed = both_end (Trapped Input) state machine (last_of content machinery state extra related)
  took (first ∷ more) input_is op_is given gives ty typed =
      let made = cast_unsigned w64 first in
      let follows = with_answer content machinery state extra related line rest is Read types op_is read_is_no_check (cast_unsigned w64 first) given gives ty typed in
      both_go (record (passed state line rest (number (cast_unsigned w64 first))) { input = more })
      (record machine { state = record (gone_on (number (cast_unsigned w64 first)) machine).state { input = more } })
      (record {
        extra = follows.extra;
        is = ap (λ (next : Machine). record next { state = record next.state { input = more } })
            (gone_is content machinery state extra related line rest is Read types op_is read_is_no_check (cast_unsigned w64 first) ∙ follows.is);
        related = record {
          objects = follows.related.objects;
          settled = follows.related.settled;
          running = follows.related.running;
          below = follows.related.below;
          tasks = follows.related.tasks;
          await = follows.related.await;
        };
      })

  -- related before, the machine steps as the target meaning, and related after
  pub read_follows : line.inst.op ≡ Call Read types → (given : ℕ) → line.to ≡ Some given → (ty : Ty) → slice_get (value_types related.running.func) given ≡ Some ty
      → StepFollows content machinery (step setting state) (machine_step machinery machine)
  unfolding step machine_step
  read_follows op_is given gives ty typed =
      let here : step setting state ≡ taking state (passed state line rest) state.input =
      ap (steps_at setting state) is ∙ ap (acts setting state line rest) op_is in
      let there : machine_step machinery machine ≡ lifted machine (taking machine.state (λ answer. (gone_on answer machine).state) state.input) =
      ap (machine_at machinery machine) (ap (map worded) is) ∙ ap (machine_acts machinery machine (worded line) (map worded rest)) op_is in
      subst (λ (effect : Effect State). StepFollows content machinery effect (machine_step machinery machine)) (sym here)
      (subst (StepFollows content machinery (taking state (passed state line rest) state.input)) (sym there)
      (took state.input refl op_is given gives ty typed))
