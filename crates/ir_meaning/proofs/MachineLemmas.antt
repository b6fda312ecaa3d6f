-- Turns, the lines at which frames stand, and frames that go on.
use Rattle.std.proofs.Common.{◌≡◌, ℕ, zero, suc, ◌+◌, List, [], ◌∷◌, map, set, Option, Some, None, refl, sym, ap, ◌∙◌}
use Rattle.std.specs.Prelude.{slice_get, unwrap_or}
use Rattle.std.specs.Option.{option_map, option_map_or}
use Rattle.std.proofs.lemmas.List.{map-set}
use Rattle.sp_ids.specs.declared.ends.End.{End}
use Rattle.sp_ids.specs.declared.ends.End.TheVariants.{Trap}
use Rattle.sp_ids.specs.declared.ends.Trap.TheVariants.{Unreachable}
use Rattle.ir_ast.specs.declared.ops.Callee.{Callee}
use Rattle.ir_ast.specs.declared.ops.Op.{Op}
use Rattle.ir_ast.specs.Funcs.{Function as IrFunction}
use Rattle.ir_ast.specs.Objects.{Datum}
use Rattle.move_plan.specs.declared.plan_lines.PlanLine.{PlanLine}
use Rattle.object_meaning.specs.Calls.{called}
use Rattle.object_meaning.specs.Effects.{Effect, goes_on, prints, ends}
use Rattle.object_meaning.specs.Frames.{passed, answered_by, answered_at, resumed}
use Rattle.object_meaning.specs.Lines.{Line}
use Rattle.object_meaning.specs.Registers.{nothing, put}
use Rattle.object_meaning.specs.States.{Frame, State, Setting}
use Rattle.object_meaning.specs.Steps.{step, acts}
use Rattle.object_meaning.specs.Tasks.{handed_over, switched, switched_to}
use Rattle.object_meaning.proofs.StepLaws.{step_is}
use Rattle.object_meaning.specs.Outcomes.{sizes_in}
use Rattle.object_store.specs.declared.words.Word.{Word}
use Rattle.object_store.specs.Words.{datum}
use Rattle.flat_code.specs.declared.lines.Exit.{Exit}
use Rattle.flat_code.specs.declared.lines.Exit.TheVariants.{Poll, Enter, New, Print, Read, Start, Jump, Branch, Switch, Return, Unreachable as Stops}
use Rattle.flat_code.specs.declared.lines.Segment.{Segment}
use Rattle.flat_code.specs.Codes.{FlatModule, defined_at, block_at, front_lines, exit_lines}
use Rattle.flat_code.specs.Segments.{Calls, IsExit}
use Rattle.flat_code.specs.Spots.{lines_at}
use Rattle.flat_code.specs.Straight.{Passes, IsAlike}
use Rattle.flat_code.proofs.StraightLemmas.{passes_here, reaches_by}
use Rattle.run_tasks.specs.declared.printing.Did.{Did}
use Rattle.run_tasks.specs.declared.printing.Did.TheVariants.{GoesOn, Prints, Ends}
use Rattle.waiting_frames.specs.Frames.{front_frame, exit_frame}
use Rattle.ir_meaning.specs.Stacks.{Frames, passed_frame}
use Rattle.ir_meaning.specs.Machines.{Rest, Whole, state_from, exit_from, state_with, waiting_frames, switched_so, gone_to, today, StandsAt, Turned, Does}
use Rattle.ir_meaning.proofs.WordLemmas.{put_is}
use Rattle.list_laws.proofs.Places.{set_none}

-- ---- turns

pub turned_goes : (setting : Setting) (middle state : State) → goes_on state ≡ step setting middle → Turned setting middle GoesOn state
turned_goes setting middle state e = record { middle = middle; passes = passes_here setting middle; still = refl; last = state; effect = e; after = refl }

pub turned_prints : (setting : Setting) (middle state : State) (number : ℕ) → prints number state ≡ step setting middle → Turned setting middle (Prints number) state
turned_prints setting middle state number e = record { middle = middle; passes = passes_here setting middle; still = refl; last = state; effect = e; after = refl }

pub turned_ends : (setting : Setting) (middle last state : State) (end : End) → ends end last ≡ step setting middle → IsAlike last state → Turned setting middle (Ends end) state
turned_ends setting middle last state end e alike = record { middle = middle; passes = passes_here setting middle; still = refl; last = last; effect = e; after = alike }

pub turned_does : (setting : Setting) (middle state : State) (did : Did) (effect : Effect State) → effect ≡ step setting middle → Does did effect state → Turned setting middle did state
turned_does setting middle state did effect e does =
    record { middle = middle; passes = passes_here setting middle; still = refl; last = does.last; effect = does.effect_is ∙ e; after = does.after }

pub turned_behind : (setting : Setting) (start middle state : State) (did : Did) → Passes setting start middle
    → sizes_in setting.layouts middle.objects ≡ sizes_in setting.layouts start.objects → Turned setting middle did state → Turned setting start did state
turned_behind setting start middle state did passes still turned = record {
  middle = turned.middle;
  passes = record {
    by = λ lines. reaches_by _ (record { state = start; lines = lines }) (record { state = middle; lines = lines })
        (record { state = turned.middle; lines = lines }) (passes.by lines) (turned.passes.by lines);
  };
  still = turned.still ∙ still;
  last = turned.last;
  effect = turned.effect;
  after = turned.after;
}

-- ---- the lines at an exit

pub stands_rest : (code : FlatModule) (frames : Frames) (segment : Segment) (exit : Exit) (s : StandsAt code frames segment exit)
    → exit_lines code frames.running.spot.func frames.running.spot.segment ≡ s.leaves.line ∷ front_lines code frames.running.spot.func (frames.running.spot.segment + 1)
stands_rest code frames segment exit s =
    ap (λ (found : Option Segment). option_map_or (λ (one : Segment). lines_at (defined_at code frames.running.spot.func) one.end) found []) s.there ∙ s.leaves.is

pub stands_block : (code : FlatModule) (frames : Frames) (segment : Segment) (exit : Exit) (s : StandsAt code frames segment exit)
    → block_at code frames.running.spot.func frames.running.spot.segment ≡ segment.start.block
stands_block code frames segment exit s = ap (λ (found : Option Segment). option_map_or (λ (one : Segment). one.start.block) found 0) s.there

passed_frame_is : (code : FlatModule) (frames : Frames) (segment : Segment) (exit : Exit) (s : StandsAt code frames segment exit) (one : Word)
    → front_frame code (passed_frame frames.running segment.to one)
    ≡ record (exit_frame code frames.running) {
      rest = front_lines code frames.running.spot.func (frames.running.spot.segment + 1);
      registers = put s.leaves.line.to (datum one) (map datum frames.running.registers);
    }
passed_frame_is code frames segment exit s one =
    let func = frames.running.spot.func in let rest = front_lines code func (frames.running.spot.segment + 1) in
    let block = s.leaves.block ∙ sym (stands_block code frames segment exit s) in
    let registers = put_is segment.to one frames.running.registers ∙ ap (λ (to : Option ℕ). put to (datum one) (map datum frames.running.registers)) (sym s.leaves.to_is) in
    ap (λ (b : ℕ). let f : Frame = record { func = func; block = b; rest = rest; registers = map datum (put segment.to one frames.running.registers) } in f) block
    ∙ ap (λ (rs : List Datum). let f : Frame = record { func = func; block = block_at code func frames.running.spot.segment; rest = rest; registers = rs } in f) registers

-- the running frame goes on behind the exit
pub passed_at : (code : FlatModule) (frames : Frames) (others : Rest) (segment : Segment) (exit : Exit) (s : StandsAt code frames segment exit) (one : Word)
    → state_from code (record frames { running = passed_frame frames.running segment.to one }) others
    ≡ passed (exit_from code frames others) s.leaves.line (front_lines code frames.running.spot.func (frames.running.spot.segment + 1)) (datum one)
passed_at code frames others segment exit s one =
    ap (λ (frame : Frame). state_with code frame frames others) (passed_frame_is code frames segment exit s one)

-- the step at the line of an exit
pub exit_step : (code : FlatModule) (plan : List PlanLine) (bound : ℕ) (frames : Frames) (others : Rest) (segment : Segment) (exit : Exit) (s : StandsAt code frames segment exit)
    → step (today code plan bound) (exit_from code frames others)
    ≡ acts (today code plan bound) (exit_from code frames others) s.leaves.line (front_lines code frames.running.spot.func (frames.running.spot.segment + 1)) s.leaves.line.inst.op
exit_step code plan bound frames others segment exit s =
    step_is (today code plan bound) (exit_from code frames others) s.leaves.line (front_lines code frames.running.spot.func (frames.running.spot.segment + 1))
    (stands_rest code frames segment exit s)

pub call_step : (code : FlatModule) (plan : List PlanLine) (bound : ℕ) (frames : Frames) (others : Rest) (segment : Segment) (exit : Exit) (s : StandsAt code frames segment exit)
    (callee : Callee) → Calls callee s.leaves.line.inst.op
    → called (today code plan bound) (exit_from code frames others) (passed (exit_from code frames others) s.leaves.line (front_lines code frames.running.spot.func (frames.running.spot.segment + 1)))
    callee segment.operands.items
    ≡ step (today code plan bound) (exit_from code frames others)
call_step code plan bound frames others segment exit s callee calls =
    let setting = today code plan bound in let state = exit_from code frames others in
    let rest = front_lines code frames.running.spot.func (frames.running.spot.segment + 1) in
    ap (called setting state (passed state s.leaves.line rest) callee) (sym s.leaves.operands_are)
    ∙ sym (ap (acts setting state s.leaves.line rest) calls.is) ∙ sym (exit_step code plan bound frames others segment exit s)

-- ---- frames that waited

plain_by : (frame : Frame) (call : Line) (rest : List Line) (answer : Datum) (op : Op) → call.inst.op ≡ op
    → answered_by frame call rest answer op ≡ record frame { rest = rest; registers = put call.to answer frame.registers }
    → answered_by frame call rest answer call.inst.op ≡ record frame { rest = rest; registers = put call.to answer frame.registers }
plain_by frame call rest answer op is plain = ap (answered_by frame call rest answer) is ∙ plain

answered_exit : (defined : Option IrFunction) (from : ℕ) (frame : Frame) (call : Line) (rest : List Line) (answer : Datum) (exit : Exit) → IsExit defined from call.inst exit
    → answered_by frame call rest answer call.inst.op ≡ record frame { rest = rest; registers = put call.to answer frame.registers }
answered_exit defined from frame call rest answer Poll is = plain_by frame call rest answer _ is.is refl
answered_exit defined from frame call rest answer (Enter func) is = plain_by frame call rest answer _ is.is refl
answered_exit defined from frame call rest answer (New layout) is = plain_by frame call rest answer _ is.is refl
answered_exit defined from frame call rest answer Print is = plain_by frame call rest answer _ is.is refl
answered_exit defined from frame call rest answer Read is = plain_by frame call rest answer _ is.is refl
answered_exit defined from frame call rest answer Start is = plain_by frame call rest answer _ is.is refl
answered_exit defined from frame call rest answer (Jump edge) is = plain_by frame call rest answer _ is.0 refl
answered_exit defined from frame call rest answer (Branch one other) is = plain_by frame call rest answer _ is.0 refl
answered_exit defined from frame call rest answer (Switch edges) is = plain_by frame call rest answer _ is.0 refl
answered_exit defined from frame call rest answer (Return width) is = plain_by frame call rest answer _ is.0 refl
answered_exit defined from frame call rest answer Stops is = plain_by frame call rest answer _ is refl

pub resumed_at : (code : FlatModule) (frames : Frames) (others : Rest) (segment : Segment) (exit : Exit) (s : StandsAt code frames segment exit) (answer : Word)
    → state_from code (record frames { running = passed_frame frames.running segment.to answer }) others ≡ resumed (exit_from code frames others) (datum answer)
resumed_at code frames others segment exit s answer =
    let rest = front_lines code frames.running.spot.func (frames.running.spot.segment + 1) in
    passed_at code frames others segment exit s answer
    ∙ ap (λ (frame : Frame). record (exit_from code frames others) { running = frame })
    (sym (ap (λ (lines : List Line). answered_at (exit_frame code frames.running) lines (datum answer)) (stands_rest code frames segment exit s)
    ∙ answered_exit (defined_at code frames.running.spot.func) segment.start.block (exit_frame code frames.running) s.leaves.line rest (datum answer) exit s.leaves.exit_is))

-- ---- tasks

pub waiting_at : (code : FlatModule) (tasks : List (Option Frames)) (task : ℕ) (found : Option (Option Frames)) → slice_get tasks task ≡ found
    → slice_get (map (waiting_frames code) tasks) task ≡ option_map (waiting_frames code) found
waiting_at code tasks task found is = get_waiting code tasks task ∙ ap (option_map (waiting_frames code)) is
  where
    get_waiting : (code : FlatModule) (tasks : List (Option Frames)) (task : ℕ)
        → slice_get (map (waiting_frames code) tasks) task ≡ option_map (waiting_frames code) (slice_get tasks task)
    get_waiting code [] task = refl
    get_waiting code (one ∷ tasks) zero = refl
    get_waiting code (one ∷ tasks) (suc task) = get_waiting code tasks task

-- where another task's frames run
pub switched_is : (code : FlatModule) (frames : Frames) (others : Rest) (to : ℕ) (found : Option (Option Frames)) → slice_get others.tasks to ≡ found
    → exit_from code (switched_so (record { frames = frames; others = others }) to found).frames (switched_so (record { frames = frames; others = others }) to found).others
    ≡ switched (exit_from code frames others) to
switched_is code frames others to None is =
    ap (switched_to (exit_from code frames others) to) (sym (waiting_at code others.tasks to None is))
switched_is code frames others to (Some None) is =
    ap (switched_to (exit_from code frames others) to) (sym (waiting_at code others.tasks to (Some None) is))
switched_is code frames others to (Some (Some next)) is =
    ap (λ (tasks : List (List Frame)). record (exit_from code next others) { task = to; tasks = tasks })
    (map-set (waiting_frames code) (set others.tasks others.task (Some frames)) to None
    ∙ ap (λ (tasks : List (List Frame)). set tasks to []) (map-set (waiting_frames code) others.tasks others.task (Some frames)))
    ∙ ap (switched_to (exit_from code frames others) to) (sym (waiting_at code others.tasks to (Some (Some next)) is))

pub found_none : (whole : Whole) (to : ℕ) (found : Option (Option Frames)) → unwrap_or found None ≡ None → switched_so whole to found ≡ whole
found_none whole to None e = refl
found_none whole to (Some None) e = refl
found_none whole to (Some (Some next)) e = cc

-- a `go` line
pub gone_is : (code : FlatModule) (whole : Whole) (to : Option ℕ)
    → exit_from code (gone_to whole to).frames (gone_to whole to).others
    ≡ option_map_or (switched (exit_from code whole.frames whole.others)) to (exit_from code whole.frames whole.others)
gone_is code whole None = refl
gone_is code whole (Some to) = switched_is code whole.frames whole.others to (slice_get whole.others.tasks to) refl

-- a task that ends hands over to task 0, if it waits
pub handed_none : (code : FlatModule) (frames : Frames) (others : Rest) → unwrap_or (slice_get others.tasks 0) None ≡ None
    → ends (Trap Unreachable) (exit_from code frames (record others { tasks = set others.tasks 0 None }))
    ≡ handed_over (exit_from code frames others) (slice_get (exit_from code frames others).tasks 0)
handed_none code frames others none =
    ap (λ (tasks : List (Option Frames)). ends (Trap Unreachable) (exit_from code frames (record others { tasks = tasks }))) (set_none others.tasks 0 none)
    ∙ by (slice_get others.tasks 0) refl none
  where
    by : (found : Option (Option Frames)) → slice_get others.tasks 0 ≡ found → unwrap_or found None ≡ None
        → ends (Trap Unreachable) (exit_from code frames others) ≡ handed_over (exit_from code frames others) (slice_get (exit_from code frames others).tasks 0)
    by None is e = ap (handed_over (exit_from code frames others)) (sym (waiting_at code others.tasks 0 None is))
    by (Some None) is e = ap (handed_over (exit_from code frames others)) (sym (waiting_at code others.tasks 0 (Some None) is))
    by (Some (Some next)) is e = cc

pub handed_some : (code : FlatModule) (frames next : Frames) (others : Rest) → slice_get others.tasks 0 ≡ Some (Some next)
    → goes_on (resumed (exit_from code next (record others { task = 0; tasks = set others.tasks 0 None })) nothing)
    ≡ handed_over (exit_from code frames others) (slice_get (exit_from code frames others).tasks 0)
handed_some code frames next others is =
    ap (λ (tasks : List (List Frame)). goes_on (resumed (record (exit_from code next others) { task = 0; tasks = tasks }) nothing)) (map-set (waiting_frames code) others.tasks 0 None)
    ∙ ap (handed_over (exit_from code frames others)) (sym (waiting_at code others.tasks 0 (Some (Some next)) is))
