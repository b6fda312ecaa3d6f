-- Jumps, calls, returns, new objects and tasks: what the interpreter does is the step of the meaning.
use Rattle.std.proofs.Common.{◌≡◌, ℕ, ℤ, pos, zero, suc, ◌+◌, ◌-◌, ◌<◌, ◌≤◌, true, false, List, [], ◌∷◌, ◌++◌, length, map, drop, set, replicate, Option, Some, None, refl, sym, ap, subst, ◌∙◌, lt-ltb}
use Rattle.std.specs.Prelude.{slice_get, int_lt, unsigned_abs, ◌==◌}
use Rattle.std.specs.List.{position}
use Rattle.std.specs.Option.{option_map_or}
use Rattle.std.specs.Int.{w64, cast_unsigned}
use Rattle.std.proofs.lemmas.Bool.{le-ltb}
use Rattle.std.proofs.lemmas.List.{map-append, length-map, map-set}
use Rattle.sp_ids.specs.Numbers.{signed}
use Rattle.sp_ids.specs.declared.ends.End.TheVariants.{Trap, OutOfSteps}
use Rattle.sp_ids.specs.declared.ends.Trap.TheVariants.{Unreachable, Depth, Count, Full, Input, Tasks}
use Rattle.ir_ast.specs.declared.ops.Callee.TheVariants as callees
use Rattle.ir_ast.specs.declared.ops.Operand.{Operand}
use Rattle.ir_ast.specs.declared.ops.Operand.TheVariants.{Int}
use Rattle.ir_ast.specs.Insts.{Instruction}
use Rattle.ir_ast.specs.Layouts.{ObjectLayout}
use Rattle.ir_ast.specs.Objects.{Datum, pointer, Object}
use Rattle.move_plan.specs.declared.plan_lines.PlanLine.{PlanLine}
use Rattle.object_meaning.specs.Calls.{stepped, entering, allocating, made, taking, function_in}
use Rattle.object_meaning.specs.Effects.{goes_on, prints, ends}
use Rattle.object_meaning.specs.Frames.{entered, passed, resumed}
use Rattle.object_meaning.specs.Jumps.{incoming, phi_write, phi_count, arrived, jumped, label_at, branch_taken, case_taken}
use Rattle.object_meaning.specs.Lines.{Line, poll, insts_of, lines_of, lines_from, register_count}
use Rattle.object_meaning.specs.Numbers.{width_of}
use Rattle.object_meaning.specs.Registers.{nothing, value, operand, number_in, Write, put_all}
use Rattle.object_meaning.specs.States.{Frame, State}
use Rattle.object_meaning.specs.Steps.{step, acts, returned}
use Rattle.object_meaning.specs.Tasks.{started, with_event, task_ended}
use Rattle.object_meaning.proofs.StepLaws.{step_at_end}
use Rattle.object_store.specs.declared.words.Word.{Word}
use Rattle.object_store.specs.Stored.{is_full}
use Rattle.object_store.specs.Words.{datum, number_word, pointer_word}
use Rattle.flat_code.specs.declared.lines.Copied.{Copied}
use Rattle.flat_code.specs.declared.lines.Edge.{Edge}
use Rattle.flat_code.specs.declared.lines.Exit.{Exit}
use Rattle.flat_code.specs.declared.lines.Exit.TheVariants.{Enter, New, Print, Read, Start, Branch, Jump, Return, Unreachable as Stops}
use Rattle.flat_code.specs.declared.lines.Segment.{Segment}
use Rattle.flat_code.specs.Codes.{FlatModule, defined_at, block_at, front_lines, HasFront, Begins}
use Rattle.flat_code.specs.Edges.{chosen, copy_of, block_lines, phis_in, IsEdge}
use Rattle.flat_code.specs.Flats.{operand_at}
use Rattle.flat_code.specs.Spots.{insts_at, first_at}
use Rattle.flat_code.proofs.PhiLemmas.{phi_rest}
use Rattle.flat_code.proofs.StraightLemmas.{passes_here, passes_more, value_at}
use Rattle.tool_io.specs.Counts.{raised}
use Rattle.run_tasks.specs.declared.printing.Did.TheVariants.{GoesOn, Prints, Ends}
use Rattle.waiting_frames.specs.Frames.{Seen, front_frame, exit_frame}
use Rattle.ir_meaning.specs.Stacks.{Frames, word, passed_frame, entered_frames, move_of, moved, arrived_frames}
use Rattle.ir_meaning.specs.Machines.{Rest, state_from, exit_from, state_with, task_frames, waiting_frames, today, StandsAt, LeadsAlong, SwitchesAt, Turned}
use Rattle.ir_meaning.proofs.MachineLemmas.{turned_goes, turned_prints, turned_ends, stands_block, passed_at, exit_step, call_step}
use Rattle.ir_meaning.proofs.WordLemmas.{word_is, words_are, write_of, moves_are}
use Rattle.run_tasks.proofs.StepLemmas.{out_of_steps, step_left}

-- ---- jumps

chosen_is : (from : ℕ) (registers : List Datum) (phi : Instruction) → value registers (chosen from phi) ≡ incoming from registers phi
chosen_is from registers phi =
    elim (position (λ label. label.0 == from) phi.labels) as (λ found. value registers (option_map_or (operand_at phi.operands) found (Int 0)) ≡ option_map_or (operand registers phi.operands) found nothing) [
      | None ↦ refl
      | Some place ↦ value_at registers phi.operands place
    ]

copies_written : (from : ℕ) (registers : List Word) (lines : List Line)
    → map write_of (map (move_of registers) (map (copy_of from) lines)) ≡ map (phi_write from (map datum registers)) lines
copies_written from registers [] = refl
copies_written from registers (line ∷ lines) =
    let here : datum (word registers (chosen from line.inst)) ≡ incoming from (map datum registers) line.inst =
    word_is registers (chosen from line.inst) ∙ chosen_is from (map datum registers) line.inst in
    cc (here, copies_written from registers lines)

arrived_is : (code : FlatModule) (frames : Frames) (block start : ℕ) (copies : List Copied) → Begins code frames.running.spot.func block start
    → copies ≡ map (copy_of (block_at code frames.running.spot.func frames.running.spot.segment)) (phis_in (block_lines (defined_at code frames.running.spot.func) block))
    → front_frame code (arrived_frames frames copies (record { func = frames.running.spot.func; segment = start })).running
    ≡ arrived (exit_frame code frames.running) block (lines_of code.content frames.running.spot.func block)
arrived_is code frames block start copies begins is =
    let func = frames.running.spot.func in let registers = frames.running.registers in
    let from = block_at code func frames.running.spot.segment in
    let lines = block_lines (defined_at code func) block in
    let rest : front_lines code func start ≡ drop (phi_count lines) lines =
    begins.lines ∙ sym (phi_rest block (first_at (defined_at code func) block) (insts_at (defined_at code func) block)) in
    let written : map datum (moved (map (move_of registers) copies) registers) ≡ put_all (map (phi_write from (map datum registers)) (phis_in lines)) (map datum registers) =
    moves_are (map (move_of registers) copies) registers
    ∙ ap (λ (writes : List Write). put_all writes (map datum registers))
    (ap (λ (cs : List Copied). map write_of (map (move_of registers) cs)) is ∙ copies_written from registers (phis_in lines)) in
    ap (λ (b : ℕ). let f : Frame = record { func = func; block = b; rest = front_lines code func start; registers = map datum (moved (map (move_of registers) copies) registers) } in f) begins.block_is
    ∙ ap (λ (r : List Line). let f : Frame = record { func = func; block = block; rest = r; registers = map datum (moved (map (move_of registers) copies) registers) } in f) rest
    ∙ ap (λ (rs : List Datum). let f : Frame = record { func = func; block = block; rest = drop (phi_count lines) lines; registers = rs } in f) written

pub jump_goes : (code : FlatModule) (plan : List PlanLine) (bound : ℕ) (frames next : Frames) (others : Rest) (edge : Edge) (start : ℕ)
    → LeadsAlong code frames (today code plan bound) (exit_from code frames others) edge → others.steps < bound → Begins code frames.running.spot.func edge.block start
    → next ≡ arrived_frames frames edge.copies.items (record { func = frames.running.spot.func; segment = start })
    → Turned (today code plan bound) (exit_from code frames others) GoesOn (state_from code next (record others { steps = others.steps + 1 }))
jump_goes code plan bound frames next others edge start leads left begins is =
    let setting = today code plan bound in let state = exit_from code frames others in let more = record others { steps = others.steps + 1 } in
    turned_goes setting state (state_from code next more)
    (ap (λ (fs : Frames). goes_on (state_from code fs more)) is
    ∙ ap (λ (frame : Frame). goes_on (state_with code frame frames more)) (arrived_is code frames edge.block start edge.copies.items begins leads.copies)
    ∙ step_left setting state (jumped setting edge.block) left ∙ sym leads.step_is)

pub jump_lost : (code : FlatModule) (plan : List PlanLine) (bound : ℕ) (frames : Frames) (others : Rest) (edge : Edge)
    → LeadsAlong code frames (today code plan bound) (exit_from code frames others) edge → others.steps < bound
    → insts_of code.content frames.running.spot.func edge.block ≡ []
    → Turned (today code plan bound) (exit_from code frames others) (Ends (Trap Unreachable)) (state_from code frames (record others { steps = others.steps + 1 }))
jump_lost code plan bound frames others edge leads left none =
    let setting = today code plan bound in let state = exit_from code frames others in let more = record others { steps = others.steps + 1 } in
    let func = frames.running.spot.func in let first = first_at (defined_at code func) edge.block in
    let middle : State = record (exit_from code frames more) { running = arrived (exit_frame code frames.running) edge.block (lines_of code.content func edge.block) } in
    let over : middle.running.rest ≡ [] = ap (λ (insts : List Instruction). drop (phi_count (lines_from edge.block first insts)) (lines_from edge.block first insts)) none in
    record {
      middle = middle;
      still = refl;
      passes = passes_more setting state middle middle (leads.step_is ∙ sym (step_left setting state (jumped setting edge.block) left)) (passes_here setting middle);
      last = middle;
      effect = sym (step_at_end setting middle over);
      after = record { func = refl; below = refl; steps = refl; events = refl };
    }

-- an edge that the exit's line takes
pub leads_along : (code : FlatModule) (plan : List PlanLine) (bound : ℕ) (frames : Frames) (others : Rest) (segment : Segment) (exit : Exit)
    (s : StandsAt code frames segment exit) (label : ℕ) (edge : Edge)
    → acts (today code plan bound) (exit_from code frames others) s.leaves.line (front_lines code frames.running.spot.func (frames.running.spot.segment + 1)) s.leaves.line.inst.op
    ≡ stepped (today code plan bound) (exit_from code frames others) (jumped (today code plan bound) label)
    → IsEdge (defined_at code frames.running.spot.func) segment.start.block label edge
    → LeadsAlong code frames (today code plan bound) (exit_from code frames others) edge
leads_along code plan bound frames others segment exit s label edge e is = record {
  step_is = exit_step code plan bound frames others segment exit s ∙ e
      ∙ ap (λ (l : ℕ). stepped (today code plan bound) (exit_from code frames others) (jumped (today code plan bound) l)) (sym is.block);
  copies = is.copies
      ∙ ap (λ (l : ℕ). map (copy_of segment.start.block) (phis_in (block_lines (defined_at code frames.running.spot.func) l))) (sym is.block)
      ∙ ap (λ (b : ℕ). map (copy_of b) (phis_in (block_lines (defined_at code frames.running.spot.func) edge.block))) (sym (stands_block code frames segment exit s));
}

pub jump_leads : (code : FlatModule) (plan : List PlanLine) (bound : ℕ) (frames : Frames) (others : Rest) (segment : Segment) (edge : Edge)
    → StandsAt code frames segment (Jump edge) → LeadsAlong code frames (today code plan bound) (exit_from code frames others) edge
jump_leads code plan bound frames others segment edge s =
    let setting = today code plan bound in let state = exit_from code frames others in
    let rest = front_lines code frames.running.spot.func (frames.running.spot.segment + 1) in
    leads_along code plan bound frames others segment (Jump edge) s (label_at s.leaves.line.inst.labels 0) edge
    (ap (acts setting state s.leaves.line rest) s.leaves.exit_is.0) s.leaves.exit_is.1

-- which label a condition takes
pub branch_leads : (code : FlatModule) (plan : List PlanLine) (bound : ℕ) (frames : Frames) (others : Rest) (segment : Segment) (one other edge : Edge) (place : ℕ)
    → (s : StandsAt code frames segment (Branch one other)) → branch_taken (operand (map datum frames.running.registers) segment.operands.items 0) ≡ place
    → IsEdge (defined_at code frames.running.spot.func) segment.start.block (label_at s.leaves.line.inst.labels place) edge
    → LeadsAlong code frames (today code plan bound) (exit_from code frames others) edge
branch_leads code plan bound frames others segment one other edge place s taken is =
    let setting = today code plan bound in let state = exit_from code frames others in
    let rest = front_lines code frames.running.spot.func (frames.running.spot.segment + 1) in
    let registers = map datum frames.running.registers in
    leads_along code plan bound frames others segment (Branch one other) s (label_at s.leaves.line.inst.labels place) edge
    (ap (acts setting state s.leaves.line rest) s.leaves.exit_is.0
    ∙ ap (λ (os : List Operand). stepped setting state (jumped setting (label_at s.leaves.line.inst.labels (branch_taken (operand registers os 0))))) s.leaves.operands_are
    ∙ ap (λ (p : ℕ). stepped setting state (jumped setting (label_at s.leaves.line.inst.labels p))) taken) is

pub switch_leads : (code : FlatModule) (plan : List PlanLine) (bound : ℕ) (frames : Frames) (others : Rest) (segment : Segment) (edges : List Edge) (edge : Edge) (place : ℕ)
    → (s : SwitchesAt code frames segment edges)
    → case_taken (operand (map datum frames.running.registers) segment.operands.items 0) (drop 1 segment.operands.items) ≡ place
    → IsEdge (defined_at code frames.running.spot.func) segment.start.block (label_at s.stands.leaves.line.inst.labels place) edge
    → LeadsAlong code frames (today code plan bound) (exit_from code frames others) edge
switch_leads code plan bound frames others segment edges edge place s taken is =
    let setting = today code plan bound in let state = exit_from code frames others in
    let rest = front_lines code frames.running.spot.func (frames.running.spot.segment + 1) in
    let registers = map datum frames.running.registers in let line = s.stands.leaves.line in
    leads_along code plan bound frames others segment s.exit s.stands (label_at line.inst.labels place) edge
    (ap (acts setting state line rest) s.op
    ∙ ap (λ (os : List Operand). stepped setting state (jumped setting (label_at line.inst.labels (case_taken (operand registers os 0) (drop 1 os))))) s.stands.leaves.operands_are
    ∙ ap (λ (p : ℕ). stepped setting state (jumped setting (label_at line.inst.labels p))) taken) is

-- ---- calls

pub zeros_are : (count : ℕ) → map datum (replicate count (number_word 0)) ≡ replicate count nothing
zeros_are zero = refl
zeros_are (suc count) = ap (λ rest. nothing ∷ rest) (zeros_are count)

-- the first frame of a call
pub front_is : (code : FlatModule) (plan : List PlanLine) (bound func : ℕ) (words : List Word) (arguments : List Datum) (count : ℕ) → HasFront code func
    → map datum words ≡ arguments ++ replicate (count - length arguments) nothing → count ≡ register_count code.content func
    → front_frame code (record { spot = record { func = func; segment = 0 }; registers = words }) ≡ entered (today code plan bound) func arguments
front_is code plan bound func words arguments count front are is =
    ap (λ (b : ℕ). let f : Frame = record { func = func; block = b; rest = front_lines code func 0; registers = map datum words } in f) front.block
    ∙ ap (λ (r : List Line). let f : Frame = record { func = func; block = 0; rest = r; registers = map datum words } in f) front.lines
    ∙ ap (λ (rs : List Datum). let f : Frame = record { func = func; block = 0; rest = poll ∷ lines_of code.content func 0; registers = rs } in f)
    (are ∙ ap (λ (n : ℕ). arguments ++ replicate (n - length arguments) nothing) is)

pub enter_goes : (code : FlatModule) (plan : List PlanLine) (bound : ℕ) (frames next : Frames) (others : Rest) (segment : Segment) (func count : ℕ)
    → StandsAt code frames segment (Enter func) → HasFront code func → count ≡ register_count code.content func → others.steps < bound
    → length (map (exit_frame code) frames.below) + 1 < 4096
    → next ≡ entered_frames frames (record { func = func; segment = 0 }) segment.operands.items count
    → Turned (today code plan bound) (exit_from code frames others) GoesOn (state_from code next (record others { steps = others.steps + 1 }))
enter_goes code plan bound frames next others segment func count s front many left few is =
    let setting = today code plan bound in let state = exit_from code frames others in let more = record others { steps = others.steps + 1 } in
    let registers = frames.running.registers in let operands = segment.operands.items in
    let arguments = map (value (map datum registers)) operands in
    let words = map (word registers) operands ++ replicate (count - length operands) (number_word 0) in
    let same : map datum words ≡ arguments ++ replicate (count - length arguments) nothing =
    map-append datum (map (word registers) operands) (replicate (count - length operands) (number_word 0))
    ∙ ap (λ (xs : List Datum). xs ++ map datum (replicate (count - length operands) (number_word 0))) (words_are registers operands)
    ∙ ap (λ (xs : List Datum). arguments ++ xs) (zeros_are (count - length operands))
    ∙ ap (λ (n : ℕ). arguments ++ replicate (count - n) nothing) (sym (length-map operands (value (map datum registers)))) in
    let fits = lt-ltb (length (map (exit_frame code) frames.below) + 1) 4096 few in
    let enters : goes_on (record (exit_from code frames more) { running = entered setting func arguments; below = exit_frame code frames.running ∷ map (exit_frame code) frames.below })
    ≡ entering setting func arguments (record state { steps = state.steps + 1 }) = rw fits refl in
    turned_goes setting state (state_from code next more)
    (ap (λ (fs : Frames). goes_on (state_from code fs more)) is
    ∙ ap (λ (frame : Frame). goes_on (record (exit_from code frames more) { running = frame; below = exit_frame code frames.running ∷ map (exit_frame code) frames.below }))
    (front_is code plan bound func words arguments count front same many)
    ∙ enters ∙ step_left setting state (entering setting func arguments) left
    ∙ call_step code plan bound frames others segment (Enter func) s (callees.Fun (record { 0 = func })) s.leaves.exit_is)

pub enter_out : (code : FlatModule) (plan : List PlanLine) (bound : ℕ) (frames : Frames) (others : Rest) (segment : Segment) (func : ℕ)
    → StandsAt code frames segment (Enter func) → bound ≤ others.steps
    → Turned (today code plan bound) (exit_from code frames others) (Ends OutOfSteps) (state_from code frames others)
enter_out code plan bound frames others segment func s over =
    let setting = today code plan bound in let state = exit_from code frames others in
    turned_ends setting state state (state_from code frames others) OutOfSteps
    (out_of_steps setting state (entering setting func (map (value (map datum frames.running.registers)) segment.operands.items)) over
    ∙ call_step code plan bound frames others segment (Enter func) s (callees.Fun (record { 0 = func })) s.leaves.exit_is)
    (record { func = refl; below = refl; steps = refl; events = refl })

pub enter_deep : (code : FlatModule) (plan : List PlanLine) (bound : ℕ) (frames : Frames) (others : Rest) (segment : Segment) (func : ℕ)
    → StandsAt code frames segment (Enter func) → others.steps < bound → 4096 ≤ length (map (exit_frame code) frames.below) + 1
    → Turned (today code plan bound) (exit_from code frames others) (Ends (Trap Depth)) (state_from code frames (record others { steps = others.steps + 1 }))
enter_deep code plan bound frames others segment func s left deep =
    let setting = today code plan bound in let state = exit_from code frames others in let more = record others { steps = others.steps + 1 } in
    let arguments = map (value (map datum frames.running.registers)) segment.operands.items in
    let full = le-ltb (length (map (exit_frame code) frames.below) + 1) 4096 deep in
    let traps : ends (Trap Depth) (exit_from code frames more) ≡ entering setting func arguments (record state { steps = state.steps + 1 }) = rw full refl in
    turned_ends setting state (exit_from code frames more) (state_from code frames more) (Trap Depth)
    (traps ∙ step_left setting state (entering setting func arguments) left
    ∙ call_step code plan bound frames others segment (Enter func) s (callees.Fun (record { 0 = func })) s.leaves.exit_is)
    (record { func = refl; below = refl; steps = refl; events = refl })

-- ---- returns

pub ret_step : (code : FlatModule) (plan : List PlanLine) (bound : ℕ) (frames : Frames) (others : Rest) (segment : Segment) (width : ℕ) → (s : StandsAt code frames segment (Return width))
    → stepped (today code plan bound) (exit_from code frames others)
    (returned width (operand (map datum frames.running.registers) segment.operands.items 0) (map (exit_frame code) frames.below))
    ≡ step (today code plan bound) (exit_from code frames others)
ret_step code plan bound frames others segment width s =
    let setting = today code plan bound in let state = exit_from code frames others in
    let rest = front_lines code frames.running.spot.func (frames.running.spot.segment + 1) in
    let registers = map datum frames.running.registers in let below = map (exit_frame code) frames.below in
    ap (λ (w : ℕ). stepped setting state (returned w (operand registers segment.operands.items 0) below)) s.leaves.exit_is.1
    ∙ ap (λ (os : List Operand). stepped setting state (returned (width_of s.leaves.line.inst.ty) (operand registers os 0) below)) (sym s.leaves.operands_are)
    ∙ sym (exit_step code plan bound frames others segment (Return width) s ∙ ap (acts setting state s.leaves.line rest) s.leaves.exit_is.0)

-- a task returns from its first frame
pub returned_end : (code : FlatModule) (below : List Seen) (width : ℕ) (answer : Datum) (state : State) → length below ≡ 0
    → task_ended state width answer ≡ returned width answer (map (exit_frame code) below) state
returned_end code [] width answer state none = refl
returned_end code (seen ∷ below) width answer state none = cc

-- ---- printing, reading, new objects

pub print_is : (code : FlatModule) (plan : List PlanLine) (bound : ℕ) (frames next : Frames) (others : Rest) (segment : Segment) (word : ℕ)
    → StandsAt code frames segment Print → word ≡ number_in (operand (map datum frames.running.registers) segment.operands.items 0)
    → next ≡ record frames { running = passed_frame frames.running segment.to (number_word 0) }
    → Turned (today code plan bound) (exit_from code frames others) (Prints word) (state_from code next others)
print_is code plan bound frames next others segment word s is next_is =
    let setting = today code plan bound in let state = exit_from code frames others in
    turned_prints setting state (state_from code next others) word
    (ap (λ (fs : Frames). prints word (state_from code fs others)) next_is
    ∙ ap (prints word) (passed_at code frames others segment Print s (number_word 0))
    ∙ ap (λ (w : ℕ). prints w (passed state s.leaves.line (front_lines code frames.running.spot.func (frames.running.spot.segment + 1)) nothing)) is
    ∙ call_step code plan bound frames others segment Print s callees.Print s.leaves.exit_is)

pub read_none : (code : FlatModule) (plan : List PlanLine) (bound : ℕ) (frames : Frames) (others : Rest) (segment : Segment)
    → StandsAt code frames segment Read → slice_get others.input 0 ≡ None
    → Turned (today code plan bound) (exit_from code frames others) (Ends (Trap Input)) (state_from code frames others)
read_none code plan bound frames others segment s none =
    let setting = today code plan bound in let state = exit_from code frames others in
    turned_ends setting state state (state_from code frames others) (Trap Input)
    (over others.input none ∙ call_step code plan bound frames others segment Read s callees.Read s.leaves.exit_is)
    (record { func = refl; below = refl; steps = refl; events = refl })
  where
    over : (input : List ℤ) → slice_get input 0 ≡ None
        → ends (Trap Input) (exit_from code frames others)
        ≡ taking (exit_from code frames others) (passed (exit_from code frames others) s.leaves.line (front_lines code frames.running.spot.func (frames.running.spot.segment + 1))) input
    over [] none = refl
    over (first ∷ rest) none = cc

pub read_some : (code : FlatModule) (plan : List PlanLine) (bound : ℕ) (frames next : Frames) (others : Rest) (segment : Segment) (first : ℤ) (word : ℕ) (left : List ℤ)
    → StandsAt code frames segment Read → slice_get others.input 0 ≡ Some first → word ≡ cast_unsigned w64 first → left ≡ drop 1 others.input
    → next ≡ record frames { running = passed_frame frames.running segment.to (number_word word) }
    → Turned (today code plan bound) (exit_from code frames others) GoesOn (state_from code next (record others { input = left }))
read_some code plan bound frames next others segment first word left s found is rest_is next_is =
    let setting = today code plan bound in let state = exit_from code frames others in
    turned_goes setting state (state_from code next (record others { input = left }))
    (ap (λ (fs : Frames). goes_on (state_from code fs (record others { input = left }))) next_is
    ∙ taken_from others.input found rest_is
    ∙ call_step code plan bound frames others segment Read s callees.Read s.leaves.exit_is)
  where
    taken_from : (input : List ℤ) → slice_get input 0 ≡ Some first → left ≡ drop 1 input
        → goes_on (state_from code (record frames { running = passed_frame frames.running segment.to (number_word word) }) (record others { input = left }))
        ≡ taking (exit_from code frames others) (passed (exit_from code frames others) s.leaves.line (front_lines code frames.running.spot.func (frames.running.spot.segment + 1))) input
    taken_from [] found left_is = cc
    taken_from (one ∷ numbers) found left_is =
        let same : one ≡ first = cc in
        let spelled : word ≡ cast_unsigned w64 one = is ∙ ap (cast_unsigned w64) (sym same) in
        rw (left_is, spelled) (ap (λ (state : State). goes_on (record state { input = numbers }))
        (passed_at code frames others segment Read s (number_word (cast_unsigned w64 one))))

-- the count of a new object
make_step : (code : FlatModule) (plan : List PlanLine) (bound : ℕ) (frames : Frames) (others : Rest) (segment : Segment) (layout : ℕ) (s : StandsAt code frames segment (New layout)) (count : ℤ)
    → count ≡ signed 64 (number_in (operand (map datum frames.running.registers) segment.operands.items 0))
    → allocating (today code plan bound) (exit_from code frames others)
    (passed (exit_from code frames others) s.leaves.line (front_lines code frames.running.spot.func (frames.running.spot.segment + 1))) layout count
    ≡ step (today code plan bound) (exit_from code frames others)
make_step code plan bound frames others segment layout s count is =
    let setting = today code plan bound in let state = exit_from code frames others in
    ap (allocating setting state (passed state s.leaves.line (front_lines code frames.running.spot.func (frames.running.spot.segment + 1))) layout) is
    ∙ call_step code plan bound frames others segment (New layout) s (callees.New layout) s.leaves.exit_is

pub make_none : (code : FlatModule) (plan : List PlanLine) (bound : ℕ) (frames : Frames) (others : Rest) (segment : Segment) (layout : ℕ) (count : ℤ) (events : ℕ)
    → StandsAt code frames segment (New layout) → count ≡ signed 64 (number_in (operand (map datum frames.running.registers) segment.operands.items 0))
    → int_lt count (pos 0) ≡ true → events ≡ raised others.events
    → Turned (today code plan bound) (exit_from code frames others) (Ends (Trap Count)) (state_from code frames (record others { events = events }))
make_none code plan bound frames others segment layout count events s count_is less events_are =
    let setting = today code plan bound in let state = exit_from code frames others in
    turned_ends setting state (with_event state) (state_from code frames (record others { events = events })) (Trap Count)
    ((rw less refl) ∙ make_step code plan bound frames others segment layout s count count_is)
    (record { func = refl; below = refl; steps = refl; events = sym events_are })

pub make_full : (code : FlatModule) (plan : List PlanLine) (bound : ℕ) (frames : Frames) (others : Rest) (segment : Segment) (layout : ℕ) (count : ℤ) (events n : ℕ) (layouts : List ObjectLayout) (objects : List Object)
    → StandsAt code frames segment (New layout) → count ≡ signed 64 (number_in (operand (map datum frames.running.registers) segment.operands.items 0))
    → int_lt count (pos 0) ≡ false → events ≡ raised others.events → layouts ≡ code.content.layouts → n ≡ unsigned_abs count
    → is_full layouts (others.objects ++ made layouts layout n ∷ []) ≡ true
    → Turned (today code plan bound) (exit_from code frames others) (Ends (Trap Full)) (state_from code frames (record others { objects = objects; events = events }))
make_full code plan bound frames others segment layout count events n layouts objects s count_is some events_are layouts_are amount room =
    let setting = today code plan bound in let state = exit_from code frames others in
    let full : is_full code.content.layouts (others.objects ++ made code.content.layouts layout (unsigned_abs count) ∷ []) ≡ true =
    subst (λ (k : ℕ). is_full code.content.layouts (others.objects ++ made code.content.layouts layout k ∷ []) ≡ true) amount
    (subst (λ (ls : List ObjectLayout). is_full ls (others.objects ++ made ls layout n ∷ []) ≡ true) layouts_are room) in
    turned_ends setting state (with_event state) (state_from code frames (record others { objects = objects; events = events })) (Trap Full)
    ((rw (some, full) refl) ∙ make_step code plan bound frames others segment layout s count count_is)
    (record { func = refl; below = refl; steps = refl; events = sym events_are })

pub make_goes : (code : FlatModule) (plan : List PlanLine) (bound : ℕ) (frames next : Frames) (others : Rest) (segment : Segment) (layout : ℕ) (count : ℤ) (events n object : ℕ) (layouts : List ObjectLayout) (objects : List Object)
    → StandsAt code frames segment (New layout) → count ≡ signed 64 (number_in (operand (map datum frames.running.registers) segment.operands.items 0))
    → int_lt count (pos 0) ≡ false → events ≡ raised others.events → layouts ≡ code.content.layouts → n ≡ unsigned_abs count
    → is_full layouts (others.objects ++ made layouts layout n ∷ []) ≡ false
    → object ≡ length others.objects + 1 → objects ≡ others.objects ++ made layouts layout n ∷ []
    → next ≡ record frames { running = passed_frame frames.running segment.to (pointer_word object 0) }
    → Turned (today code plan bound) (exit_from code frames others) GoesOn (state_from code next (record others { objects = objects; events = events }))
make_goes code plan bound frames next others segment layout count events n object layouts objects s count_is some events_are layouts_are amount room object_is objects_are next_is =
    let setting = today code plan bound in let state = exit_from code frames others in
    let empty : is_full code.content.layouts (others.objects ++ made code.content.layouts layout (unsigned_abs count) ∷ []) ≡ false =
    subst (λ (k : ℕ). is_full code.content.layouts (others.objects ++ made code.content.layouts layout k ∷ []) ≡ false) amount
    (subst (λ (ls : List ObjectLayout). is_full ls (others.objects ++ made ls layout n ∷ []) ≡ false) layouts_are room) in
    let grown : objects ≡ others.objects ++ made code.content.layouts layout (unsigned_abs count) ∷ [] =
    objects_are ∙ ap (λ (ls : List ObjectLayout). others.objects ++ made ls layout n ∷ []) layouts_are ∙ ap (λ (k : ℕ). others.objects ++ made code.content.layouts layout k ∷ []) amount in
    let allocates : goes_on (record (with_event (passed state s.leaves.line (front_lines code frames.running.spot.func (frames.running.spot.segment + 1)) (pointer (record { object = length others.objects + 1; offset = 0 })))) {
      objects = others.objects ++ made code.content.layouts layout (unsigned_abs count) ∷ [];
    }) ≡ allocating setting state (passed state s.leaves.line (front_lines code frames.running.spot.func (frames.running.spot.segment + 1))) layout count = rw (some, empty) refl in
    turned_goes setting state (state_from code next (record others { objects = objects; events = events }))
    (ap (λ (fs : Frames). goes_on (state_from code fs (record others { objects = objects; events = events }))) next_is
    ∙ ap (λ (os : List Object). goes_on (state_from code (record frames { running = passed_frame frames.running segment.to (pointer_word object 0) }) (record others { objects = os; events = events }))) grown
    ∙ ap (λ (k : ℕ). goes_on (state_from code (record frames { running = passed_frame frames.running segment.to (pointer_word object 0) }) (record others { objects = others.objects ++ made code.content.layouts layout (unsigned_abs count) ∷ []; events = k }))) events_are
    ∙ ap (λ (k : ℕ). goes_on (state_from code (record frames { running = passed_frame frames.running segment.to (pointer_word k 0) }) (record others { objects = others.objects ++ made code.content.layouts layout (unsigned_abs count) ∷ []; events = raised others.events }))) object_is
    ∙ ap (λ (st : State). goes_on (record (with_event st) { objects = others.objects ++ made code.content.layouts layout (unsigned_abs count) ∷ [] }))
    (passed_at code frames others segment (New layout) s (pointer_word (length others.objects + 1) 0))
    ∙ allocates ∙ make_step code plan bound frames others segment layout s count count_is)

-- ---- tasks

start_step : (code : FlatModule) (plan : List PlanLine) (bound : ℕ) (frames : Frames) (others : Rest) (segment : Segment) (func : ℕ) (argument : Word)
    → StandsAt code frames segment Start → func ≡ function_in (slice_get segment.operands.items 0)
    → datum argument ≡ operand (map datum frames.running.registers) segment.operands.items 1
    → started (today code plan bound) (exit_from code frames others) func (datum argument) ≡ step (today code plan bound) (exit_from code frames others)
start_step code plan bound frames others segment func argument s is passes =
    let setting = today code plan bound in let state = exit_from code frames others in
    ap (λ (f : ℕ). started setting state f (datum argument)) is
    ∙ ap (started setting state (function_in (slice_get segment.operands.items 0))) passes
    ∙ call_step code plan bound frames others segment Start s callees.TaskStart s.leaves.exit_is

pub start_many : (code : FlatModule) (plan : List PlanLine) (bound : ℕ) (frames : Frames) (others : Rest) (segment : Segment)
    → StandsAt code frames segment Start → 64 ≤ length others.tasks
    → Turned (today code plan bound) (exit_from code frames others) (Ends (Trap Tasks)) (state_from code frames others)
start_many code plan bound frames others segment s many =
    let setting = today code plan bound in let state = exit_from code frames others in
    let count : 64 ≤ length (map (waiting_frames code) others.tasks) = subst (λ (n : ℕ). 64 ≤ n) (sym (length-map others.tasks (waiting_frames code))) many in
    let full = le-ltb (length (map (waiting_frames code) others.tasks)) 64 count in
    turned_ends setting state state (state_from code frames others) (Trap Tasks)
    ((rw full refl) ∙ call_step code plan bound frames others segment Start s callees.TaskStart s.leaves.exit_is)
    (record { func = refl; below = refl; steps = refl; events = refl })

pub start_goes : (code : FlatModule) (plan : List PlanLine) (bound : ℕ) (frames next : Frames) (others : Rest) (segment : Segment) (func count : ℕ) (argument : Word) (tasks : List (Option Frames))
    → StandsAt code frames segment Start → func ≡ function_in (slice_get segment.operands.items 0)
    → datum argument ≡ operand (map datum frames.running.registers) segment.operands.items 1
    → HasFront code func → count ≡ register_count code.content func
    → next ≡ record { running = record { spot = record { func = func; segment = 0 }; registers = argument ∷ replicate (count - 1) (number_word 0) }; below = [] }
    → tasks ≡ set others.tasks others.task (Some frames) ++ None ∷ [] → length others.tasks < 64
    → Turned (today code plan bound) (exit_from code frames others) GoesOn (state_from code next (record others { task = length others.tasks; tasks = tasks }))
start_goes code plan bound frames next others segment func count argument tasks s is passes front count_is next_is pushed few =
    let setting = today code plan bound in let state = exit_from code frames others in
    let many = length-map others.tasks (waiting_frames code) in
    let words = argument ∷ replicate (count - 1) (number_word 0) in
    let same : map datum words ≡ (datum argument ∷ []) ++ replicate (count - length (datum argument ∷ [])) nothing = ap (λ (xs : List Datum). datum argument ∷ xs) (zeros_are (count - 1)) in
    let written : map (waiting_frames code) tasks ≡ set (map (waiting_frames code) others.tasks) others.task (task_frames code frames) ++ [] ∷ [] =
    ap (map (waiting_frames code)) pushed ∙ map-append (waiting_frames code) (set others.tasks others.task (Some frames)) (None ∷ [])
    ∙ ap (λ (ts : List (List Frame)). ts ++ [] ∷ []) (map-set (waiting_frames code) others.tasks others.task (Some frames)) in
    let starts : goes_on (record state {
      running = entered setting func (datum argument ∷ []);
      below = [];
      task = length others.tasks;
      tasks = set (map (waiting_frames code) others.tasks) others.task (task_frames code frames) ++ [] ∷ [];
    }) ≡ started setting state func (datum argument) = rw (many, lt-ltb (length others.tasks) 64 few) refl in
    turned_goes setting state (state_from code next (record others { task = length others.tasks; tasks = tasks }))
    (ap (λ (fs : Frames). goes_on (state_from code fs (record others { task = length others.tasks; tasks = tasks }))) next_is
    ∙ ap (λ (ts : List (List Frame)). goes_on (record state { running = front_frame code (record { spot = record { func = func; segment = 0 }; registers = words }); below = []; task = length others.tasks; tasks = ts })) written
    ∙ ap (λ (frame : Frame). goes_on (record state { running = frame; below = []; task = length others.tasks; tasks = set (map (waiting_frames code) others.tasks) others.task (task_frames code frames) ++ [] ∷ [] }))
    (front_is code plan bound func words (datum argument ∷ []) count front same count_is)
    ∙ starts ∙ start_step code plan bound frames others segment func argument s is passes)

-- ---- ends

stop_step : (code : FlatModule) (plan : List PlanLine) (bound : ℕ) (frames : Frames) (others : Rest) (segment : Segment) (s : StandsAt code frames segment Stops)
    → stepped (today code plan bound) (exit_from code frames others) (ends (Trap Unreachable)) ≡ step (today code plan bound) (exit_from code frames others)
stop_step code plan bound frames others segment s =
    let setting = today code plan bound in let state = exit_from code frames others in
    let rest = front_lines code frames.running.spot.func (frames.running.spot.segment + 1) in
    sym (exit_step code plan bound frames others segment Stops s ∙ ap (acts setting state s.leaves.line rest) s.leaves.exit_is)

pub stop_out : (code : FlatModule) (plan : List PlanLine) (bound : ℕ) (frames : Frames) (others : Rest) (segment : Segment) → StandsAt code frames segment Stops → bound ≤ others.steps
    → Turned (today code plan bound) (exit_from code frames others) (Ends OutOfSteps) (state_from code frames others)
stop_out code plan bound frames others segment s over =
    let setting = today code plan bound in let state = exit_from code frames others in
    turned_ends setting state state (state_from code frames others) OutOfSteps
    (out_of_steps setting state (ends (Trap Unreachable)) over ∙ stop_step code plan bound frames others segment s)
    (record { func = refl; below = refl; steps = refl; events = refl })

pub stop_traps : (code : FlatModule) (plan : List PlanLine) (bound : ℕ) (frames : Frames) (others : Rest) (segment : Segment) → StandsAt code frames segment Stops → others.steps < bound
    → Turned (today code plan bound) (exit_from code frames others) (Ends (Trap Unreachable)) (state_from code frames (record others { steps = others.steps + 1 }))
stop_traps code plan bound frames others segment s left =
    let setting = today code plan bound in let state = exit_from code frames others in let more = record others { steps = others.steps + 1 } in
    turned_ends setting state (exit_from code frames more) (state_from code frames more) (Trap Unreachable)
    (step_left setting state (ends (Trap Unreachable)) left ∙ stop_step code plan bound frames others segment s)
    (record { func = refl; below = refl; steps = refl; events = refl })

pub ret_out : (code : FlatModule) (plan : List PlanLine) (bound : ℕ) (frames : Frames) (others : Rest) (segment : Segment) (width : ℕ) → StandsAt code frames segment (Return width) → bound ≤ others.steps
    → Turned (today code plan bound) (exit_from code frames others) (Ends OutOfSteps) (state_from code frames others)
ret_out code plan bound frames others segment width s over =
    let setting = today code plan bound in let state = exit_from code frames others in
    turned_ends setting state state (state_from code frames others) OutOfSteps
    (out_of_steps setting state (returned width (operand (map datum frames.running.registers) segment.operands.items 0) (map (exit_frame code) frames.below)) over
    ∙ ret_step code plan bound frames others segment width s)
    (record { func = refl; below = refl; steps = refl; events = refl })

-- what a return with steps left does
ret_does : (code : FlatModule) (plan : List PlanLine) (bound : ℕ) (frames : Frames) (others : Rest) (segment : Segment) (width : ℕ) (answer : Datum) (s : StandsAt code frames segment (Return width))
    → others.steps < bound → answer ≡ operand (map datum frames.running.registers) segment.operands.items 0
    → returned width answer (map (exit_frame code) frames.below) (exit_from code frames (record others { steps = others.steps + 1 })) ≡ step (today code plan bound) (exit_from code frames others)
ret_does code plan bound frames others segment width answer s left is =
    let setting = today code plan bound in let state = exit_from code frames others in let more = record others { steps = others.steps + 1 } in
    ap (λ (d : Datum). returned width d (map (exit_frame code) frames.below) (exit_from code frames more)) is
    ∙ step_left setting state (returned width (operand (map datum frames.running.registers) segment.operands.items 0) (map (exit_frame code) frames.below)) left
    ∙ ret_step code plan bound frames others segment width s

pub ret_ended : (code : FlatModule) (plan : List PlanLine) (bound : ℕ) (frames : Frames) (others : Rest) (segment : Segment) (width : ℕ) (answer : Datum) (s : StandsAt code frames segment (Return width))
    → others.steps < bound → answer ≡ operand (map datum frames.running.registers) segment.operands.items 0 → length frames.below ≡ 0
    → task_ended (exit_from code frames (record others { steps = others.steps + 1 })) width answer ≡ step (today code plan bound) (exit_from code frames others)
ret_ended code plan bound frames others segment width answer s left is none =
    returned_end code frames.below width answer (exit_from code frames (record others { steps = others.steps + 1 })) none
    ∙ ret_does code plan bound frames others segment width answer s left is

pub ret_more : (code : FlatModule) (plan : List PlanLine) (bound : ℕ) (frames next : Frames) (others : Rest) (segment : Segment) (width : ℕ) (answer : Datum) (s : StandsAt code frames segment (Return width))
    → others.steps < bound → answer ≡ operand (map datum frames.running.registers) segment.operands.items 0 → frames.below ≡ next.running ∷ next.below
    → goes_on (resumed (exit_from code next (record others { steps = others.steps + 1 })) answer) ≡ step (today code plan bound) (exit_from code frames others)
ret_more code plan bound frames next others segment width answer s left is below =
    ap (λ (bs : List Seen). returned width answer (map (exit_frame code) bs) (exit_from code frames (record others { steps = others.steps + 1 }))) (sym below)
    ∙ ret_does code plan bound frames others segment width answer s left is
