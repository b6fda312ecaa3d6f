-- The running frame, which waited, goes on with an answer: so do both states, and the relation holds behind it.
use Rattle.std.proofs.Common.{◌≡◌, ℕ, List, [], ◌∷◌, refl, sym, ap, subst, arith}
use Rattle.std.specs.List.{AllZip}
use Rattle.ir_ast.specs.declared.ops.Op.{Op}
use Rattle.ir_ast.specs.declared.ops.Op.TheVariants as ops
use Rattle.ir_ast.specs.Modules.{ModuleContent}
use Rattle.ir_ast.specs.Objects.{Datum, number}
use Rattle.moving_heap.specs.declared.stands.Stand.{Stand}
use Rattle.object_meaning.specs.Frames.{answered, answered_at, answered_by, resumed}
use Rattle.object_meaning.specs.Lines.{Line}
use Rattle.object_meaning.specs.Registers.{nothing}
use Rattle.object_meaning.specs.States.{Frame, State}
use Rattle.pair_facts.specs.Lines.{group_in, lines_at}
use Rattle.machine_meaning.specs.Machines.{Machine, Machinery, gone_on}
use Rattle.moves_unseen.specs.Awaits.{AllAwait, TasksAwait}
use Rattle.moves_unseen.specs.Frames.{IsWaiting}
use Rattle.moves_unseen.specs.Objects.{AreHeld}
use Rattle.moves_unseen.specs.States.{Extra, Follows, machine_of, return_below, stack_of, worded_frames}
use Rattle.moves_unseen.specs.Waits.{GoesOn, IsAnswer, IsSound}
use Rattle.moves_unseen.proofs.PassLaws.{with_words}
use Rattle.runs_unseen.proofs.frames_resumed.ResumeLaws.{goes_on}

-- a frame that goes on is one of the same function
pub answered_func : (frame : Frame) (answer : Datum) → (answered frame answer).func ≡ frame.func
answered_func frame answer = by frame.rest
  where
    by_op : (call : Line) (rest : List Line) (op : Op) → (answered_by frame call rest answer op).func ≡ frame.func
    by_op call rest (ops.Statepoint id callee types) = refl
    by_op call rest op = refl

    by : (rest : List Line) → (answered_at frame rest answer).func ≡ frame.func
    by [] = refl
    by (call ∷ rest) = by_op call rest call.inst.op

-- each group takes the answer of what answers nothing: a pointer would be `null`
pub nothing_answers : (stands : List Stand) (group : List Line) → IsAnswer stands group nothing 0
nothing_answers stands group = record {
  numbers = λ member inside op plain. refl;
  bases = λ member inside op managed. record { heap = record { object = omega arith; offset = omega arith }; first = refl; word = refl };
}

module _ (content : ModuleContent) (sound : IsSound content) (machinery : Machinery) (state : State) (extra : Extra)
    (objects : AreHeld content.layouts state.objects extra.heap.stands extra.heap.contents) (settled : extra.heap.moves ≡ [])
    (waiting : IsWaiting content extra.heap.stands state.running extra.running) (below : AllZip (IsWaiting content extra.heap.stands) state.below extra.below)
    (tasks : AllZip (λ frames held. AllZip (IsWaiting content extra.heap.stands) frames held) state.tasks extra.tasks) (await : TasksAwait content state)
    (answer : Datum) (word : ℕ) (is_answer : IsAnswer extra.heap.stands (group_in (lines_at waiting.func state.running.block) waiting.place) answer word) where
  abbrev machine : Machine
  machine = machine_of machinery state extra

  on : GoesOn content state.objects extra.heap.stands state.running extra.running answer word
      (return_below machinery (worded_frames state.below extra.below) ∷ stack_of machinery (worded_frames state.below extra.below) extra.below)
  on = goes_on content sound state.objects extra.heap.stands state.running extra.running waiting answer word is_answer
      (return_below machinery (worded_frames state.below extra.below) ∷ stack_of machinery (worded_frames state.below extra.below) extra.below)

  pub resumed_follows : Follows content machinery (resumed state answer) (gone_on (number word) machine)
  resumed_follows = record {
    extra = with_words extra on.words;
    is = ap (λ (frame : Frame). record machine { state = record machine.state { running = frame } }) on.is;
    related = record {
      objects = objects;
      settled = settled;
      running = on.running;
      below = below;
      tasks = tasks;
      await = subst (λ (func : ℕ). AllAwait content func state.below state.task state.tasks) (sym (answered_func state.running answer)) await;
    };
  }
