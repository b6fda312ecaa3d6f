-- Frames that go on, that are entered and that arrive at a block, and the tasks that run by turns.
use Rattle.std.proofs.Common.{◌≡◌, ℕ, Bool, true, false, if◌then◌else◌, List, [], ◌∷◌, ◌++◌, length, map, take, refl, sym, ap, subst, ◌∙◌, arith}
use Rattle.std.specs.Prelude.{Option, Some, None, slice_get, slice_set}
use Rattle.std.specs.List.{All}
use Rattle.std.specs.Option.{option_map, option_map_or}
use Rattle.std.proofs.lemmas.Bool.{true≢false}
use Rattle.std.proofs.lemmas.List.{map-append, map-set}
use Rattle.std.proofs.lemmas.List.Elements.{All-append, All-cons, All-nil, All-set, All-head, All-tail}
use Rattle.std.proofs.lemmas.Option.{slice_get-map}
use Rattle.list_laws.proofs.Contents.{all_at}
use Rattle.graph_search.specs.Paths.{Marked}
use Rattle.ir_ast.specs.declared.ops.Op.{Op}
use Rattle.ir_ast.specs.declared.ops.Op.TheVariants as ops
use Rattle.ir_ast.specs.Objects.{Datum}
use Rattle.ir_cfg.proofs.KeepsPlaces.{marks_before}
use Rattle.object_meaning.specs.Frames.{answered_at, answered_by, entered, resumed}
use Rattle.object_meaning.specs.Jumps.{arrived, phi_count, phi_write}
use Rattle.object_meaning.specs.Lines.{Line}
use Rattle.object_meaning.specs.Registers.{nothing, put, put_all}
use Rattle.object_meaning.specs.States.{Frame, State, Setting}
use Rattle.object_meaning.specs.Tasks.{polled, switched, switched_to, with_event}
use Rattle.renaming_laws.proofs.ListLaws.{before, behind, drop_behind, take_before}
use Rattle.unreached_laws.proofs.RegisterLaws.{before_none, entered_kept, put_kept}
use Rattle.unreached_laws.proofs.Keepings.{Keeping, KeepsBlocks, LineStays, Takes, is_grouped, line_kept, with_lines}
use Rattle.unreached_laws.proofs.PhiLaws.{behind_kept, is_phi_line, phis_same}
use Rattle.unreached_laws.proofs.Related.{FrameStays, Goes, Stays, TaskStays, image, image_of}
use Rattle.renaming_laws.proofs.StepLaws.{arrived_is}

-- a frame behind the phis of a block
abbrev behind_phis : Frame → ℕ → List Line → Frame
behind_phis frame block lines = record frame {
  block = block;
  rest = behind is_phi_line lines;
  registers = put_all (map (phi_write frame.block frame.registers) (before is_phi_line lines)) frame.registers;
}

all_behind : (P : Line → Type 0) (test : Line → Bool) (lines : List Line) → All P lines → All P (behind test lines)
all_behind P test [] all = all
all_behind P test (line ∷ lines) all = by (test line) (all_behind P test lines (All-tail P line lines all))
  where
    by : (b : Bool) → All P (behind test lines) → All P (if b then behind test lines else line ∷ lines)
    by true rest = rest
    by false rest = all

module _ (keepings : ℕ → Keeping) where
  abbrev stay_of : ℕ → Line → Type 0
  stay_of func line = LineStays keepings func line

  -- ---- a frame that waited

  plain_answer : (frame : Frame) (call : Line) (rest : List Line) (answer : Datum) → LineStays keepings frame.func call
      → (let there : Frame = record (image keepings frame) {
        rest = map (line_kept (keepings frame.func)) rest;
        registers = put (line_kept (keepings frame.func) call).to answer (image keepings frame).registers;
      } in there) ≡ image keepings (record frame { rest = rest; registers = put call.to answer frame.registers })
  plain_answer frame call rest answer stays =
      ap (λ registers. record (image keepings frame) { rest = map (line_kept (keepings frame.func)) rest; registers = registers })
      (sym (put_kept (keepings frame.func).values call.to answer frame.registers stays.result))

  answer_same : (frame : Frame) (call : Line) (rest : List Line) (answer : Datum) → LineStays keepings frame.func call → (op : Op) → is_grouped op ≡ false
      → answered_by (image keepings frame) (line_kept (keepings frame.func) call) (map (line_kept (keepings frame.func)) rest) answer op
      ≡ image keepings (answered_by frame call rest answer op)
  answer_same frame call rest answer stays (ops.Statepoint id callee types) ungrouped = absurd (true≢false ungrouped)
  answer_same frame call rest answer stays op ungrouped = plain_answer frame call rest answer stays

  answer_stays : (frame : Frame) (call : Line) (rest : List Line) (answer : Datum) → FrameStays keepings frame → All (LineStays keepings frame.func) rest
      → (op : Op) → is_grouped op ≡ false → FrameStays keepings (answered_by frame call rest answer op)
  answer_stays frame call rest answer stays lines (ops.Statepoint id callee types) ungrouped = absurd (true≢false ungrouped)
  answer_stays frame call rest answer stays lines op ungrouped = record { entry = stays.entry; block = stays.block; rest = lines }

  lines_answered : (frame : Frame) (lines : List Line) (answer : Datum) → All (LineStays keepings frame.func) lines
      → answered_at (image keepings frame) (map (line_kept (keepings frame.func)) lines) answer ≡ image keepings (answered_at frame lines answer)
  lines_answered frame [] answer stay = refl
  lines_answered frame (call ∷ rest) answer stay =
      let first = All-head (stay_of frame.func) call rest stay in
      answer_same frame call rest answer first call.inst.op first.ungrouped

  lines_stay : (frame : Frame) (lines : List Line) (answer : Datum) → FrameStays keepings frame → All (LineStays keepings frame.func) lines
      → FrameStays keepings (answered_at frame lines answer)
  lines_stay frame [] answer stays stay = stays
  lines_stay frame (call ∷ rest) answer stays stay =
      let first = All-head (stay_of frame.func) call rest stay in
      answer_stays frame call rest answer stays (All-tail (stay_of frame.func) call rest stay) call.inst.op first.ungrouped

  -- the running frame, which waited, goes on with the answer
  pub resumed_goes : (state there : State) (answer : Datum) → Goes keepings state there → Goes keepings (resumed state answer) (resumed there answer)
  resumed_goes state there answer goes = record {
    stays = record {
      running = lines_stay state.running state.running.rest answer (goes.stays).running ((goes.stays).running).rest;
      below = (goes.stays).below;
      tasks = (goes.stays).tasks;
    };
    is = ap (λ at. resumed at answer) goes.is
        ∙ ap (λ running. record (image_of keepings state) { running = running }) (lines_answered state.running state.running.rest answer ((goes.stays).running).rest);
  }

  -- ---- tasks

  pub event_goes : (state there : State) → Goes keepings state there → Goes keepings (with_event state) (with_event there)
  event_goes state there goes = record {
    stays = record { running = (goes.stays).running; below = (goes.stays).below; tasks = (goes.stays).tasks };
    is = ap with_event goes.is;
  }

  set_tasks : (tasks : List (List Frame)) (place : ℕ) (task : List Frame)
      → slice_set (map (map (image keepings)) tasks) place (map (image keepings) task) ≡ map (map (image keepings)) (slice_set tasks place task)
  set_tasks tasks place task = sym (map-set (map (image keepings)) tasks place task)

  task_found : (tasks : List (List Frame)) (place : ℕ) (found : Option (List Frame)) → slice_get tasks place ≡ found → All (TaskStays keepings) tasks
      → (frames : List Frame) → found ≡ Some frames → TaskStays keepings frames
  task_found tasks place found at stay frames is = all_at (TaskStays keepings) tasks place frames stay (at ∙ is)

  switched_goes : (state : State) (to : ℕ) (found : Option (List Frame)) → Stays keepings state → ((frames : List Frame) → found ≡ Some frames → TaskStays keepings frames)
      → Goes keepings (switched_to state to found) (switched_to (image_of keepings state) to (option_map (map (image keepings)) found))
  switched_goes state to None stays each = record { stays = stays; is = refl }
  switched_goes state to (Some []) stays each = record { stays = stays; is = refl }
  switched_goes state to (Some (frame ∷ below)) stays each =
      let frames = each (frame ∷ below) refl in
      record {
        stays = record {
          running = All-head (FrameStays keepings) frame below frames;
          below = All-tail (FrameStays keepings) frame below frames;
          tasks = All-set (TaskStays keepings) (slice_set state.tasks state.task (state.running ∷ state.below)) to [] (All-nil (FrameStays keepings))
              (All-set (TaskStays keepings) state.tasks state.task (state.running ∷ state.below) (All-cons (FrameStays keepings) state.running state.below stays.running stays.below) stays.tasks);
        };
        is = ap (λ tasks. record state { running = image keepings frame; below = map (image keepings) below; task = to; tasks = tasks })
            (ap (λ tasks. slice_set tasks to []) (set_tasks state.tasks state.task (state.running ∷ state.below))
            ∙ set_tasks (slice_set state.tasks state.task (state.running ∷ state.below)) to []);
      }

  turn_goes : (state : State) → Stays keepings state → (go : Option ℕ)
      → Goes keepings (option_map_or (switched state) go state) (option_map_or (switched (image_of keepings state)) go (image_of keepings state))
  turn_goes state stays None = record { stays = stays; is = refl }
  turn_goes state stays (Some to) =
      subst (λ found. Goes keepings (switched state to) (switched_to (image_of keepings state) to found)) (sym (slice_get-map (map (image keepings)) state.tasks to))
      (switched_goes state to (slice_get state.tasks to) stays (task_found state.tasks to (slice_get state.tasks to) refl stays.tasks))

  pub polled_goes : (setting other : Setting) (state : State) → ((event : ℕ) → other.go event ≡ setting.go event) → Stays keepings state
      → Goes keepings (polled setting state) (polled other (image_of keepings state))
  polled_goes setting other state same stays =
      let now = with_event state in
      let after : Stays keepings now = record { running = stays.running; below = stays.below; tasks = stays.tasks } in
      rw (same now.events) (resumed_goes (option_map_or (switched now) (setting.go now.events) now)
      (option_map_or (switched (image_of keepings now)) (setting.go now.events) (image_of keepings now)) nothing (turn_goes now after (setting.go now.events)))

  -- ---- frames that begin, and that arrive

  module _ (one : Setting) (lines : ℕ → ℕ → List Line) (registers : ℕ → ℕ) (law : KeepsBlocks keepings one lines registers) where
    abbrev other : Setting
    other = with_lines one lines registers

    front_lines : (func : ℕ) → Marked (keepings func).blocks 0
        → one.front ++ lines func 0 ≡ map (line_kept (keepings func)) (one.front ++ one.lines func 0)
    front_lines func entry =
        ap (λ (number : ℕ). one.front ++ lines func number) (sym (before_none (keepings func).blocks))
        ∙ (ap (λ more. one.front ++ more) (law.lines func 0 entry)
        ∙ (ap (λ front. front ++ map (line_kept (keepings func)) (one.lines func 0)) (sym (law.front func))
        ∙ sym (map-append (line_kept (keepings func)) one.front (one.lines func 0))))

    pub entered_is : (func : ℕ) (arguments : List Datum) → Takes (keepings func) (length arguments)
        → entered other func arguments ≡ image keepings (entered one func arguments)
    entered_is func arguments takes = λ i. record {
      func = func;
      block = sym (before_none (keepings func).blocks) i;
      rest = front_lines func takes.entry i;
      registers = sym (entered_kept (keepings func).values arguments (one.registers func) (registers func)
          (λ register below. law.arguments func register (let few = takes.few in omega arith)) (law.room func) (law.now_room func)) i;
    }

    pub entered_stays : (func : ℕ) (arguments : List Datum) → Takes (keepings func) (length arguments) → FrameStays keepings (entered one func arguments)
    entered_stays func arguments takes = record {
      entry = takes.entry;
      block = takes.entry;
      rest = All-append (LineStays keepings func) one.front (one.lines func 0) (law.front_stays func) (law.stay func 0 takes.entry);
    }

    pub arrived_is_image : (frame : Frame) (block : ℕ) → FrameStays keepings frame → Marked (keepings frame.func).blocks block
        → arrived (image keepings frame) (marks_before (keepings frame.func).blocks block) (lines frame.func (marks_before (keepings frame.func).blocks block))
        ≡ image keepings (arrived frame block (one.lines frame.func block))
    arrived_is_image frame block stays marked =
        ap (arrived (image keepings frame) (marks_before (keepings frame.func).blocks block)) (law.lines frame.func block marked)
        ∙ (arrived_is (image keepings frame) (marks_before (keepings frame.func).blocks block) (map (line_kept (keepings frame.func)) (one.lines frame.func block))
        ∙ (here ∙ ap (image keepings) (sym (arrived_is frame block (one.lines frame.func block)))))
      where
        here : behind_phis (image keepings frame) (marks_before (keepings frame.func).blocks block) (map (line_kept (keepings frame.func)) (one.lines frame.func block))
            ≡ image keepings (behind_phis frame block (one.lines frame.func block))
        here = λ i. record {
          func = frame.func;
          block = marks_before (keepings frame.func).blocks block;
          rest = behind_kept (keepings frame.func) (one.lines frame.func block) i;
          registers = phis_same keepings frame.func frame.block stays.block frame.registers (one.lines frame.func block) (law.stay frame.func block marked) frame.registers i;
        }

    pub arrived_stays : (frame : Frame) (block : ℕ) → FrameStays keepings frame → Marked (keepings frame.func).blocks block
        → FrameStays keepings (arrived frame block (one.lines frame.func block))
    arrived_stays frame block stays marked =
        subst (FrameStays keepings) (sym (arrived_is frame block (one.lines frame.func block)))
        (let behind_them : FrameStays keepings (behind_phis frame block (one.lines frame.func block)) = record {
          entry = stays.entry;
          block = marked;
          rest = all_behind (LineStays keepings frame.func) is_phi_line (one.lines frame.func block) (law.stay frame.func block marked);
        } in behind_them)
