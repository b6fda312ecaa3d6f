-- Which label a jump takes: the same in both.
use Rattle.std.proofs.Common.{◌≡◌, ℕ, suc, ◌+◌, ◌<◌, Bool, true, false, not, List, [], ◌∷◌, length, drop, map, refl, sym, ap, ◌∙◌, subst, arith, ltb, Option, Some, None}
use Rattle.std.specs.Prelude.{if◌then◌else◌}
use Rattle.std.specs.List.{AllZip, drop-map, list_all, position, prefix_len}
use Rattle.std.specs.Option.{option_map_or}
use Rattle.std.proofs.lemmas.Bool.Decides.{nat_tests}
use Rattle.list_laws.proofs.Places.{get_some}
use Rattle.sp_ids.specs.declared.ids.BlockId.{BlockId}
use Rattle.sp_ids.specs.declared.ends.End.TheVariants.{OutOfSteps, Trap as Trapped}
use Rattle.sp_ids.specs.declared.ends.Trap.TheVariants.{Unreachable as Executed}
use Rattle.ir_ast.specs.declared.ops.Op.{Op}
use Rattle.ir_ast.specs.declared.ops.Op.TheVariants as ops
use Rattle.ir_ast.specs.declared.ops.Operand.{Operand}
use Rattle.ir_ast.specs.declared.ops.Operand.TheVariants as operands
use Rattle.ir_ast.specs.declared.types.Ty.{Ty}
use Rattle.ir_ast.specs.declared.types.Ty.TheVariants.{Int}
use Rattle.ir_ast.specs.Faults.TypeClash.{Fits, asked}
use Rattle.ir_ast.specs.Lines.{LineOf}
use Rattle.ir_ast.specs.Modules.{ModuleContent}
use Rattle.ir_ast.specs.Objects.{Datum, number}
use Rattle.ir_ast.specs.Operands.{is_literal}
use Rattle.ir_ast.specs.Types.{is_condition, is_pointer}
use Rattle.ir_ast.specs.Values.{value_types}
use Rattle.ir_cfg.specs.TargetModules.{IsTargetModule}
use Rattle.map_bytes.specs.Maps.{StackMap}
use Rattle.move_plan.specs.declared.plan_lines.PlanLine.{PlanLine}
use Rattle.move_plan.specs.Plans.{go}
use Rattle.object_meaning.specs.Calls.{stepped}
use Rattle.object_meaning.specs.Effects.{Effect, ends}
use Rattle.object_meaning.specs.Jumps.{branch_taken, case_taken, is_case, jumped, label_at}
use Rattle.object_meaning.specs.Lines.{Line}
use Rattle.object_meaning.specs.Registers.{operand, number_in}
use Rattle.object_meaning.specs.States.{State, Setting}
use Rattle.object_meaning.specs.Steps.{acts, step, steps_at}
use Rattle.object_meaning.specs.TargetRuns.{target_setting}
use Rattle.object_meaning.proofs.LineLaws.{branch_within}
use Rattle.pair_facts.specs.Lines.{operand_at}
use Rattle.machine_meaning.specs.Code.{machinery_of}
use Rattle.machine_meaning.specs.Machines.{Machine, Machinery, lifted}
use Rattle.machine_meaning.specs.MachineSteps.{machine_acts, machine_at, machine_step}
use Rattle.machine_meaning.specs.Words.{worded, worded_operand}
use Rattle.moves_unseen.specs.States.{Extra, IsRelated, machine_of}
use Rattle.moves_unseen.specs.Steps.{IsNumber, StepFollows, both_end}
use Rattle.moves_unseen.specs.Types.{IsJump, IsLineOf, branches, jumps, switches}
use Rattle.moves_unseen.proofs.LineTypes.{lines_are_typed}
use Rattle.moves_unseen.proofs.PlainSteps.{integer_plain, number_repeated}
use Rattle.moves_unseen.proofs.StandLaws.{line_here}
use Rattle.moves_unseen.proofs.ValueLaws.{same_number, value_at, word_at}
use Rattle.moves_unseen.proofs.JumpSteps.{jump_step}
use Rattle.moves_unseen.proofs.LastLaws.{last_of, last_running}

literals_same : (cases : List Operand) → list_all is_literal cases ≡ true → map worded_operand cases ≡ cases
literals_same [] all = refl
literals_same (operands.Int literal ∷ cases) all = ap (λ (more : List Operand). operands.Int literal ∷ more) (literals_same cases all)
literals_same (operands.Value at ∷ cases) all = absurd cc
literals_same (operands.Null ∷ cases) all = absurd cc
literals_same (operands.Fun called ∷ cases) all = absurd cc

position_lower : (test : Operand → Bool) (cases : List Operand) (at : ℕ) → position test cases ≡ Some at → at < length cases
position_lower test cases at is = by (ltb (prefix_len (λ one. not (test one)) cases) (length cases)) refl is
  where
    by : (b : Bool) → ltb (prefix_len (λ one. not (test one)) cases) (length cases) ≡ b → (if b then Some (prefix_len (λ one. not (test one)) cases) else None) ≡ Some at → at < length cases
    by true lower found = let same : prefix_len (λ one. not (test one)) cases ≡ at = cc in grind (arith, nat_tests)
    by false lower found = absurd cc

dropped : (given : List Operand) → 0 < length given → suc (length (drop 1 given)) ≡ length given
dropped [] some = absurd (omega arith)
dropped (first ∷ given) some = refl

case_lower : (chosen : Datum) (given : List Operand) → 0 < length given → case_taken chosen (drop 1 given) < length given
case_lower chosen given some = by (position (is_case (number_in chosen)) (drop 1 given)) refl
  where
    by : (found : Option ℕ) → position (is_case (number_in chosen)) (drop 1 given) ≡ found → option_map_or (λ place. place + 1) found 0 < length given
    by None is = some
    by (Some at) is =
        let lower = position_lower (is_case (number_in chosen)) (drop 1 given) at is in
        let whole = dropped given some in
        omega arith

condition_plain : (ty : Ty) → is_condition ty ≡ true → is_pointer ty ≡ false
condition_plain (Int width) is = refl
condition_plain ty is = absurd cc

module _ (content : ModuleContent) (target : IsTargetModule content) (map_given : StackMap) (plan : List PlanLine) (bound : ℕ) (state : State) (extra : Extra)
    (related : IsRelated content state extra) (line : Line) (rest : List Line) (is : state.running.rest ≡ line ∷ rest) where
  abbrev machinery : Machinery
  machinery = machinery_of content map_given plan bound

  abbrev setting : Setting
  setting = target_setting content (go plan) bound

  abbrev machine : Machine
  machine = machine_of machinery state extra

  abbrev types : List Ty
  types = value_types related.running.func

  abbrev Both : Type 0
  Both = StepFollows content machinery (step setting state) (machine_step machinery machine)

  of_line : IsLineOf content related.running.func line
  of_line =
      lines_are_typed content target state.running.func related.running.func related.running.at.defined state.running.block related.running.place line
      (line_here content state.running related.running.func related.running.place related.running.pairs related.running.at line rest is)

  form : (op : Op) → line.inst.op ≡ op → LineOf op line.inst
  form op op_is = subst (λ (each : Op). LineOf each line.inst) op_is of_line.form

  fits : (op : Op) → line.inst.op ≡ op → AllZip (Fits types) line.inst.operands (asked op line.inst.ty (length line.inst.operands))
  fits op op_is = subst (λ (each : Op). AllZip (Fits types) line.inst.operands (asked each line.inst.ty (length line.inst.operands))) op_is of_line.typed.operands

  -- the first operand is the same number in both
  same_first : IsNumber types (operand_at line.inst.operands 0)
      → number_in (operand (map number extra.running.words) (map worded_operand line.inst.operands) 0) ≡ number_in (operand state.running.registers line.inst.operands 0)
  same_first numbered =
      word_at extra.running.words line.inst.operands 0
      ∙ (same_number types state.running.registers extra.running.words related.running.words.numbers (operand_at line.inst.operands 0) numbered.ty numbered.fits numbered.plain
      ∙ sym (ap number_in (value_at state.running.registers line.inst.operands 0)))

  -- both take the label at this place
  by_label : IsJump line.inst.op → (at : ℕ) → at < length line.inst.labels → step setting state ≡ stepped setting state (jumped setting (label_at line.inst.labels at))
      → machine_step machinery machine ≡ lifted machine (stepped machinery.setting machine.state (jumped machinery.setting (label_at line.inst.labels at))) → Both
  by_label jump at lower here_is there_is =
      let found = get_some line.inst.labels at lower in
      let to_is = ap (λ (one : Option BlockId). option_map_or (λ (label : BlockId). label.0) one 0) found.1 in
      subst (λ (effect : Effect State). StepFollows content machinery effect (machine_step machinery machine))
      (sym (here_is ∙ ap (λ (to : ℕ). stepped setting state (jumped setting to)) to_is))
      (subst (StepFollows content machinery (stepped setting state (jumped setting (found.0).0)))
      (sym (there_is ∙ ap (λ (to : ℕ). lifted machine (stepped machinery.setting machine.state (jumped machinery.setting to))) to_is))
      (jump_step content target map_given plan bound state extra related line rest is jump at found.0 found.1))

  jump_both : line.inst.op ≡ ops.Br → Both
  unfolding step machine_step
  jump_both op_is =
      by_label (subst IsJump (sym op_is) jumps) 0 (let count = (form ops.Br op_is).label_count in omega arith)
      (ap (steps_at setting state) is ∙ ap (acts setting state line rest) op_is)
      (ap (machine_at machinery machine) (ap (map worded) is) ∙ ap (machine_acts machinery machine (worded line) (map worded rest)) op_is)

  branch_both : line.inst.op ≡ ops.CondBr → Both
  unfolding step machine_step
  branch_both op_is =
      let has = form ops.CondBr op_is in
      let same = same_first (number_repeated types line.inst.operands (length line.inst.operands) line.inst.ty (fits ops.CondBr op_is) (condition_plain line.inst.ty has.type) 0) in
      by_label (subst IsJump (sym op_is) branches) (branch_taken (operand state.running.registers line.inst.operands 0))
      (let count = has.label_count in let lower = branch_within (operand state.running.registers line.inst.operands 0) in omega arith)
      (ap (steps_at setting state) is ∙ ap (acts setting state line rest) op_is)
      (ap (machine_at machinery machine) (ap (map worded) is)
      ∙ (ap (machine_acts machinery machine (worded line) (map worded rest)) op_is
      ∙ ap (λ (n : ℕ). lifted machine (stepped machinery.setting machine.state (jumped machinery.setting (label_at line.inst.labels (branch_taken (number n)))))) same))

  switch_both : line.inst.op ≡ ops.Switch → Both
  unfolding step machine_step
  switch_both op_is =
      let has = form ops.Switch op_is in
      let same = same_first (number_repeated types line.inst.operands (length line.inst.operands) line.inst.ty (fits ops.Switch op_is) (integer_plain line.inst.ty (has.0).type) 0) in
      by_label (subst IsJump (sym op_is) switches) (case_taken (operand state.running.registers line.inst.operands 0) (drop 1 line.inst.operands))
      (subst (λ (n : ℕ). case_taken (operand state.running.registers line.inst.operands 0) (drop 1 line.inst.operands) < n) (sym (has.0).label_count)
      (case_lower (operand state.running.registers line.inst.operands 0) line.inst.operands has.1))
      (ap (steps_at setting state) is ∙ ap (acts setting state line rest) op_is)
      (ap (machine_at machinery machine) (ap (map worded) is)
      ∙ (ap (machine_acts machinery machine (worded line) (map worded rest)) op_is
      ∙ (ap (λ (n : ℕ). lifted machine (stepped machinery.setting machine.state (jumped machinery.setting (label_at line.inst.labels (case_taken (number n) (drop 1 (map worded_operand line.inst.operands))))))) same
      ∙ ap (λ (cases : List Operand). lifted machine (stepped machinery.setting machine.state (jumped machinery.setting (label_at line.inst.labels (case_taken (operand state.running.registers line.inst.operands 0) cases)))))
      (drop-map worded_operand 1 line.inst.operands ∙ literals_same (drop 1 line.inst.operands) has.2))))

  by_operator : (op : Op) → IsJump op → line.inst.op ≡ op → Both
  by_operator _ jumps op_is = jump_both op_is
  by_operator _ branches op_is = branch_both op_is
  by_operator _ switches op_is = switch_both op_is

  -- related before, the machine jumps as the target meaning, and related after
  pub jump_follows : IsJump line.inst.op → Both
  jump_follows jump = by_operator line.inst.op jump refl

  -- both trap at a line that isn't to be reached
  pub unreachable_follows : line.inst.op ≡ ops.Unreachable → Both
  unfolding step machine_step
  unreachable_follows op_is =
      subst (λ (effect : Effect State). StepFollows content machinery effect (machine_step machinery machine))
      (sym (ap (steps_at setting state) is ∙ ap (acts setting state line rest) op_is))
      (subst (StepFollows content machinery (stepped setting state (ends (Trapped Executed))))
      (sym (ap (machine_at machinery machine) (ap (map worded) is) ∙ ap (machine_acts machinery machine (worded line) (map worded rest)) op_is))
      (by (ltb state.steps bound)))
    where
      by : (b : Bool) → StepFollows content machinery (if b then ends (Trapped Executed) (record state { steps = state.steps + 1 }) else ends OutOfSteps state)
          (lifted machine (if b then ends (Trapped Executed) (record machine.state { steps = state.steps + 1 }) else ends OutOfSteps machine.state))
      by true = both_end (Trapped Executed) (record state { steps = state.steps + 1 }) (machine_of machinery (record state { steps = state.steps + 1 }) extra)
          (last_running content machinery (record state { steps = state.steps + 1 }) extra related.objects related.running related.below)
      by false = both_end OutOfSteps state machine (last_of content machinery state extra related)
