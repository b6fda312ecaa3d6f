-- A new object: an event, and then both make the object, or trap for its count or for want of room.
use Rattle.std.proofs.Common.{◌≡◌, ℕ, ℤ, zero, suc, ◌+◌, Bool, true, false, if◌then◌else◌, List, [], ◌∷◌, ◌++◌, length, map, take, drop, refl, sym, ap, ◌∙◌, subst, arith, ltb, Some, Ok, Err}
use Rattle.std.specs.Prelude.{int_lt, pos, slice_get, unsigned_abs}
use Rattle.std.specs.List.{AllZip, sum_by}
use Rattle.std.proofs.lemmas.Bool.{ltb-false}
use Rattle.std.proofs.lemmas.List.{take-map}
use Rattle.std.proofs.lemmas.List.Sums.{sum_by_push}
use Rattle.std.proofs.lemmas.Option.{same_Some}
use Rattle.sp_ids.specs.Numbers.{signed}
use Rattle.sp_ids.specs.declared.ends.End.TheVariants.{Trap}
use Rattle.sp_ids.specs.declared.ends.Trap.{Trap as Ending}
use Rattle.sp_ids.specs.declared.ends.Trap.TheVariants.{Count, Full}
use Rattle.ir_ast.specs.declared.cells.Cell.{Cell}
use Rattle.ir_ast.specs.declared.ops.Callee.{Callee}
use Rattle.ir_ast.specs.declared.ops.Callee.TheVariants as callees
use Rattle.ir_ast.specs.declared.ops.Op.{Op}
use Rattle.ir_ast.specs.declared.ops.Op.TheVariants.{Statepoint}
use Rattle.ir_ast.specs.declared.ops.Operand.{Operand}
use Rattle.ir_ast.specs.declared.types.Ty.{Ty}
use Rattle.ir_ast.specs.declared.types.Ty.TheVariants.{Int, Ptr}
use Rattle.ir_ast.specs.Faults.TypeClash.{Fits, IsCallOf, RuleOf, asked}
use Rattle.ir_ast.specs.Modules.{ModuleContent}
use Rattle.ir_ast.specs.Objects.{Datum, Object, Pointer, footprint, number, pointer}
use Rattle.ir_ast.specs.Scope.{Signature, scope_of}
use Rattle.ir_ast.specs.Sizes.{fields_in}
use Rattle.ir_ast.specs.Types.{is_pointer}
use Rattle.ir_ast.specs.Values.{value_types}
use Rattle.move_plan.specs.declared.plan_lines.PlanLine.{PlanLine}
use Rattle.move_plan.specs.Plans.{go}
use Rattle.moving_heap.specs.declared.heap.AllocFault.TheVariants as faults
use Rattle.moving_heap.specs.declared.stands.Stand.{Stand}
use Rattle.moving_heap.specs.Heaps.{with_object}
use Rattle.moving_heap.specs.Heaps.{footprint as bytes_for}
use Rattle.moving_heap.specs.Places.{first_place, new_stand}
use Rattle.object_meaning.specs.Calls.{allocating, made as object_made}
use Rattle.object_meaning.specs.Effects.{Effect}
use Rattle.object_meaning.specs.Effects as effects
use Rattle.object_meaning.specs.Frames.{answered, answered_at, answered_by, grouped, regrouped, resumed}
use Rattle.object_meaning.specs.Lines.{Line}
use Rattle.object_meaning.specs.Registers.{number_in, operand}
use Rattle.object_meaning.specs.States.{Frame, Setting, State}
use Rattle.object_meaning.specs.Steps.{step}
use Rattle.object_meaning.specs.TargetRuns.{target_setting}
use Rattle.object_meaning.specs.Tasks.{with_event}
use Rattle.pair_facts.specs.Lines.{lines_at, operand_at}
use Rattle.stackmap_write.specs.ModuleMaps.{map_of}
use Rattle.machine_meaning.specs.Code.{machinery_of}
use Rattle.machine_meaning.specs.Machines.{Machine, Machinery, gone_on}
use Rattle.machine_meaning.specs.MachineSteps.{machine_step}
use Rattle.machine_meaning.specs.MachineTasks.{allocated_machine, allocating_machine}
use Rattle.machine_meaning.specs.Words.{worded_operand}
use Rattle.moves_unseen.specs.Frames.{FrameWords, IsWaiting}
use Rattle.moves_unseen.specs.States.{Extra, IsRelated, machine_of}
use Rattle.moves_unseen.specs.Steps.{StepFollows, both_end, both_go}
use Rattle.moves_unseen.specs.Types.{IsLineOf}
use Rattle.moves_unseen.specs.Waits.{IsSound, MakesObject, NewObjectsFollow, makes}
use Rattle.moves_unseen.proofs.AllocLaws.{made_is_held}
use Rattle.moves_unseen.proofs.LineTypes.{lines_are_typed}
use Rattle.moves_unseen.proofs.StandLaws.{line_here}
use Rattle.moves_unseen.proofs.ValueLaws.{same_number, value_at, word_at}
use Rattle.moves_unseen.proofs.LastLaws.{last_waiting}
use Rattle.runs_unseen.proofs.events_unseen.EventLaws.{AllWait}
use Rattle.runs_unseen.proofs.events_unseen.ObjectLaws.{all_more, base_answers, new_base, sizes_same, waits_more}
use Rattle.runs_unseen.proofs.events_unseen.PollSteps.{event_is, here, made, statepoint_at, there}
use Rattle.runs_unseen.proofs.events_unseen.SwitchLaws.{goes_on}
use Rattle.list_laws.proofs.Zips.{zip_weaker}

-- ---- what the module says of the line

-- a call of `gc_new` takes a count and answers a pointer
record IsMaking (layout : ℕ) (types : List Ty) (line : Line) : Type 0 where
  pub types_are : types ≡ Int 64 ∷ []
  pub answers : line.inst.ty ≡ Ptr

the_signature : (one other : Signature) → Some one ≡ Some other → one ≡ other
the_signature one other is = same_Some one other is

first_taken : (count : ℕ) (given : List Operand) → count ≡ 1 → operand_at (take count given) 0 ≡ operand_at given 0
first_taken zero given is = absurd (omega arith)
first_taken (suc count) [] is = refl
first_taken (suc count) (first ∷ given) is = refl

fits_first : (types : List Ty) (given : List Operand) (ty : Ty) (wanted : List Ty) → AllZip (Fits types) given (ty ∷ wanted) → Fits types (operand_at given 0) ty
fits_first types [] ty wanted fits = absurd fits
fits_first types (first ∷ given) ty wanted fits = fits.0

module _ (content : ModuleContent) (sound : IsSound content) (stands : List Stand) (frame : Frame) (held : FrameWords) (waiting : IsWaiting content stands frame held)
    (line : Line) (rest : List Line) (is : frame.rest ≡ line ∷ rest) (id layout : ℕ) (types : List Ty) (op_is : line.inst.op ≡ Statepoint id (callees.New layout) types) where
  line_there : slice_get (lines_at waiting.func frame.block) waiting.place ≡ Some line
  line_there = line_here content frame waiting.func waiting.place waiting.pairs waiting.at line rest is

  of_line : IsLineOf content waiting.func line
  of_line = lines_are_typed content sound.target frame.func waiting.func waiting.at.defined frame.block waiting.place line line_there

  rule : IsCallOf (scope_of content waiting.func) (callees.New layout) types line.inst
  rule = subst (λ (op : Op). RuleOf (scope_of content waiting.func) op line.inst) op_is of_line.typed.rule

  making : IsMaking layout types line
  making =
      let same = the_signature (record { answer = Ptr; params = Int 64 ∷ [] }) (record { answer = line.inst.ty; params = types }) rule.signature in
      record { types_are = sym (ap (λ (s : Signature). s.params) same); answers = sym (ap (λ (s : Signature). s.answer) same) }

  pub answers_pointer : is_pointer waiting.call.inst.ty ≡ true
  answers_pointer =
      let same = same_Some waiting.call line (sym waiting.is ∙ line_there) in
      ap (λ (l : Line). is_pointer l.inst.ty) same ∙ ap is_pointer making.answers

  -- the count is the same
  pub count_same : number_in (operand (map number held.words) (take (length types) (map worded_operand line.inst.operands)) 0)
      ≡ number_in (operand frame.registers (take (length types) line.inst.operands) 0)
  count_same =
      let one : length types ≡ 1 = ap (λ (ts : List Ty). length ts) making.types_are in
      let first = first_taken (length types) line.inst.operands one in
      let wanted = ap (λ (op : Op). asked op line.inst.ty (length line.inst.operands)) op_is in
      ap (λ (os : List Operand). number_in (operand (map number held.words) os 0)) (take-map worded_operand (length types) line.inst.operands)
      ∙ (word_at held.words (take (length types) line.inst.operands) 0
      ∙ (same_number (value_types waiting.func) frame.registers held.words waiting.numbers (operand_at (take (length types) line.inst.operands) 0) (Int 64) fits refl
      ∙ sym (ap number_in (value_at frame.registers (take (length types) line.inst.operands) 0))))
    where
      fits : Fits (value_types waiting.func) (operand_at (take (length types) line.inst.operands) 0) (Int 64)
      fits =
          let one : length types ≡ 1 = ap (λ (ts : List Ty). length ts) making.types_are in
          subst (λ (o : Operand). Fits (value_types waiting.func) o (Int 64)) (sym (first_taken (length types) line.inst.operands one))
          (fits_first (value_types waiting.func) line.inst.operands (Int 64) _
          (subst (λ (ts : List Ty). AllZip (Fits (value_types waiting.func)) line.inst.operands (asked (Statepoint id (callees.New layout) ts) line.inst.ty (length line.inst.operands))) making.types_are
          (subst (λ (op : Op). AllZip (Fits (value_types waiting.func)) line.inst.operands (asked op line.inst.ty (length line.inst.operands))) op_is of_line.typed.operands)))

-- ---- the object is made

module _ (content : ModuleContent) (sound : IsSound content) (plan : List PlanLine) (bound : ℕ) (state : State) (extra : Extra)
    (all : AllWait content (with_event state) extra) (line : Line) (rest : List Line) (is : state.running.rest ≡ line ∷ rest) (id layout : ℕ) (types : List Ty)
    (op_is : line.inst.op ≡ Statepoint id (callees.New layout) types) where
  abbrev machinery : Machinery
  machinery = machinery_of content (map_of content) plan bound

  abbrev setting : Setting
  setting = target_setting content (go plan) bound

  abbrev machine : Machine
  machine = machine_of machinery (with_event state) extra

  abbrev fields : List Cell
  fields = fields_in content.layouts layout

  abbrev stands : List Stand
  stands = extra.heap.stands

  abbrev entries : List Operand
  entries = drop (length types) line.inst.operands

  abbrev bytes : ℕ → ℕ
  bytes count = sum_by (λ (stand : Stand). stand.size) stands + bytes_for fields count

  abbrev to : Pointer
  to = record { object = length state.objects + 1; offset = 0 }

  answered_is : (answer : Datum) → answered state.running answer ≡ regrouped state.running entries rest answer
  answered_is answer = ap (λ (lines : List Line). answered_at state.running lines answer) is ∙ ap (answered_by state.running line rest answer) op_is

  module _ (count : ℕ) (room : ltb 67108864 (bytes count) ≡ false) where
    abbrev object : Object
    object = object_made content.layouts layout count

    abbrev state_then : State
    state_then = record (with_event state) { objects = state.objects ++ object ∷ [] }

    abbrev extra_then : Extra
    extra_then = record extra { heap = with_object extra.heap layout fields count }

    abbrev new : Stand
    new = new_stand stands (bytes_for fields count)

    all_then : AllWait content state_then extra_then
    all_then = record {
      objects = made_is_held content.layouts state.objects extra.heap all.objects layout count room;
      settled = refl;
      running = waits_more content stands new state.running extra.running all.running;
      below = all_more content stands new state.below extra.below all.below;
      tasks = zip_weaker (λ frames held. AllZip (IsWaiting content stands) frames held) (λ frames held. AllZip (IsWaiting content (stands ++ new ∷ [])) frames held) state.tasks extra.tasks
          (all_more content stands new) all.tasks;
      await = all.await;
    }

    goes_with : StepFollows content machinery (effects.goes_on (record state_then { running = regrouped state.running entries rest (pointer to) }))
        (effects.goes_on (gone_on (number (first_place stands)) (record machine { heap = with_object extra.heap layout fields count })))
    goes_with =
        let few = ltb-false 67108864 (bytes count) room in
        let base = new_base stands (bytes_for fields count) (length state.objects) (sym all.objects.stands_count) (omega arith) in
        let managed = answers_pointer content sound (stands ++ new ∷ []) state.running extra.running all_then.running line rest is id layout types op_is in
        let follows = goes_on content sound machinery state_then extra_then all_then (pointer to) (first_place stands)
        (base_answers content sound (stands ++ new ∷ []) state.running extra.running all_then.running managed to (first_place stands) base) in
        subst (λ (frame : Frame). StepFollows content machinery (effects.goes_on (record state_then { running = frame }))
        (effects.goes_on (gone_on (number (first_place stands)) (record machine { heap = with_object extra.heap layout fields count })))) (answered_is (pointer to))
        (both_go (resumed state_then (pointer to)) (gone_on (number (first_place stands)) (machine_of machinery state_then extra_then)) follows)

  -- both have room for the object, or none has
  sizes_are : (count : ℕ) → sum_by (footprint content.layouts) (state.objects ++ object_made content.layouts layout count ∷ []) ≡ bytes count
  sizes_are count =
      sum_by_push (footprint content.layouts) state.objects (object_made content.layouts layout count)
      ∙ ap (λ (n : ℕ). n + bytes_for fields count) (sizes_same content.layouts state.objects stands all.objects.stands_count all.objects.sizes)

  makes_with : (count : ℤ) → StepFollows content machinery (allocating setting state (grouped state entries rest) layout count) (allocating_machine machine layout fields count)
  makes_with count =
      subst (λ (size : ℕ). StepFollows content machinery
      (if int_lt count (pos 0) then effects.ends (Trap Count) (with_event state)
      else (if ltb 67108864 size then effects.ends (Trap Full) (with_event state) else effects.goes_on (record (with_event (grouped state entries rest (pointer to))) {
        objects = state.objects ++ object_made content.layouts layout (unsigned_abs count) ∷ [];
      }))) (allocating_machine machine layout fields count)) (sym (sizes_are (unsigned_abs count)))
      (by (int_lt count (pos 0)) (ltb 67108864 (bytes (unsigned_abs count))) refl)
    where
      ended : (kind : Ending) → StepFollows content machinery (effects.ends (Trap kind) (with_event state)) (effects.ends (Trap kind) machine)
      ended kind = both_end (Trap kind) (with_event state) machine (last_waiting content machinery (with_event state) extra all.objects all.running all.below)

      by : (b c : Bool) → ltb 67108864 (bytes (unsigned_abs count)) ≡ c → StepFollows content machinery
          (if b then effects.ends (Trap Count) (with_event state)
          else (if c then effects.ends (Trap Full) (with_event state) else effects.goes_on (record (with_event (grouped state entries rest (pointer to))) {
            objects = state.objects ++ object_made content.layouts layout (unsigned_abs count) ∷ [];
          })))
          (allocated_machine machine layout fields (unsigned_abs count) (if b then Err faults.Count else (if c then Err faults.Full else Ok (first_place stands))))
      by true c room = ended Count
      by false true room = ended Full
      by false false room = goes_with (unsigned_abs count) room

  pub object_follows : (asked other : ℕ) → asked ≡ other
      → StepFollows content machinery (allocating setting state (grouped state entries rest) layout (signed 64 asked)) (allocating_machine machine layout fields (signed 64 other))
  object_follows asked other same =
      subst (λ (n : ℕ). StepFollows content machinery (allocating setting state (grouped state entries rest) layout (signed 64 asked)) (allocating_machine machine layout fields (signed 64 n))) same
      (makes_with (signed 64 asked))

-- ---- both steps

module _ (content : ModuleContent) (sound : IsSound content) (plan : List PlanLine) (bound : ℕ)
    (state : State) (extra : Extra) (related : IsRelated content state extra) (line : Line) (rest : List Line) (is : state.running.rest ≡ line ∷ rest) where
  abbrev the_machinery : Machinery
  the_machinery = machinery_of content (map_of content) plan bound

  new_follows : (id : ℕ) (callee : Callee) (types : List Ty) → line.inst.op ≡ Statepoint id callee types → MakesObject callee
      → StepFollows content the_machinery (step (target_setting content (go plan) bound) state) (machine_step the_machinery (machine_of the_machinery state extra))
  new_follows id _ types op_is (makes layout) =
      let moved = made content sound plan bound state extra related line rest is id (callees.New layout) types op_is in
      let wait = moved.waits.running in
      subst (λ (effect : Effect State). StepFollows content the_machinery effect (machine_step the_machinery (machine_of the_machinery state extra)))
      (sym (here content sound plan bound state extra related line rest is id (callees.New layout) types op_is))
      (subst (StepFollows content the_machinery (allocating (target_setting content (go plan) bound) state (grouped state (drop (length types) line.inst.operands) rest) layout
      (signed 64 (number_in (operand state.running.registers (take (length types) line.inst.operands) 0)))))
      (sym (there content sound plan bound state extra related line rest is id (callees.New layout) types op_is
      ∙ event_is content sound plan bound state extra related line rest is id (callees.New layout) types op_is
      (λ now. allocating_machine now layout (fields_in content.layouts layout)
      (signed 64 (number_in (operand now.state.running.registers (take (length types) (map worded_operand line.inst.operands)) 0))))))
      (object_follows content sound plan bound state moved.after moved.waits line rest is id layout types op_is
      (number_in (operand state.running.registers (take (length types) line.inst.operands) 0))
      (number_in (operand (map number moved.after.running.words) (take (length types) (map worded_operand line.inst.operands)) 0))
      (sym (count_same content sound moved.after.heap.stands state.running moved.after.running moved.waits.running line rest is id layout types op_is))))

pub new_objects_follow : NewObjectsFollow
new_objects_follow content sound plan bound state extra related line rest is due =
    let at = statepoint_at MakesObject line.inst.op due in
    new_follows content sound plan bound state extra related line rest is at.id at.callee at.types at.is at.due_is
