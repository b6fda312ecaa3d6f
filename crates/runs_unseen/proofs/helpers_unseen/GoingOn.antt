-- A state that stands at a statepoint, whose frame has spilled its live entries, goes on behind the group with an answer.
use Rattle.std.proofs.Common.{◌≡◌, ℕ, ◌∷◌, List, length, drop, refl, sym, ap, ◌∙◌, false}
use Rattle.std.proofs.lemmas.Bool.{true≢false}
use Rattle.ir_ast.specs.declared.ops.Callee.{Callee}
use Rattle.ir_ast.specs.declared.ops.Op.TheVariants.{Statepoint}
use Rattle.ir_ast.specs.declared.ops.Operand.{Operand}
use Rattle.ir_ast.specs.declared.types.Ty.{Ty}
use Rattle.ir_ast.specs.Faults.GroupShape.{is_statepoint}
use Rattle.ir_ast.specs.Modules.{ModuleContent}
use Rattle.ir_ast.specs.Objects.{Datum, number}
use Rattle.ir_ast.specs.Types.{is_pointer}
use Rattle.object_meaning.specs.Frames.{answered, answered_at, answered_by, grouped, regrouped, resumed}
use Rattle.object_meaning.specs.Lines.{Line}
use Rattle.object_meaning.specs.States.{Frame, State}
use Rattle.pair_facts.specs.Lines.{group_in, lines_at}
use Rattle.machine_meaning.specs.Machines.{Machinery, gone_on, spilled}
use Rattle.machine_meaning.specs.Words.{worded}
use Rattle.moves_unseen.specs.Frames.{FrameWords, IsWaiting}
use Rattle.moves_unseen.specs.States.{Extra, Follows, IsRelated, machine_of}
use Rattle.moves_unseen.specs.Steps.{IsLast}
use Rattle.moves_unseen.specs.Waits.{IsAnswer, IsSound, spilled_words}
use Rattle.moves_unseen.proofs.LastLaws.{last_waiting}
use Rattle.moves_unseen.proofs.StandLaws.{line_here}
use Rattle.runs_unseen.proofs.frames_resumed.StateLaws.{resumed_follows}
use Rattle.runs_unseen.proofs.frames_spilled.ResultLaws.{result_type}
use Rattle.runs_unseen.proofs.frames_spilled.SpillLaws.{spills}
use Rattle.runs_unseen.proofs.frames_spilled.WaitLaws.{waits}

module _ (content : ModuleContent) (sound : IsSound content) (machinery : Machinery) (state : State) (extra : Extra) (related : IsRelated content state extra)
    (line : Line) (rest : List Line) (is : state.running.rest ≡ line ∷ rest) (id : ℕ) (callee : Callee) (types : List Ty) (op_is : line.inst.op ≡ Statepoint id callee types) where
  abbrev entries : List Operand
  entries = drop (length types) line.inst.operands

  -- the frame's words, its entries in its slots
  abbrev pub held : FrameWords
  held = spilled_words extra.running line (length types)

  abbrev pub held_extra : Extra
  held_extra = record extra { running = held }

  pub spilled_is : spilled (machine_of machinery state extra) (worded line).inst (length types) ≡ machine_of machinery state held_extra
  spilled_is = spills content sound machinery state extra related.running line rest is id callee types op_is

  pub waiting : IsWaiting content extra.heap.stands state.running held
  waiting = waits content sound state.objects extra.heap.stands state.running extra.running related.running line rest is id callee types op_is

  pub last_held : IsLast content machinery state (machine_of machinery state held_extra)
  last_held = last_waiting content machinery state held_extra related.objects waiting related.below

  -- ---- answers

  abbrev pub group : List Line
  group = group_in (lines_at waiting.func state.running.block) waiting.place

  -- a result has the type of the statepoint's line, so a number answers where this is no pointer
  pub number_answered : is_pointer line.inst.ty ≡ false → (word : ℕ) → IsAnswer extra.heap.stands group (number word) word
  number_answered plain word = record {
    numbers = λ member contained op_of plain. refl;
    bases = λ member contained op_of managed.
        let same = result_type content sound.target state.running.func waiting.func waiting.at.defined state.running.block waiting.place line
        (line_here content state.running waiting.func waiting.place waiting.pairs waiting.at line rest is) (ap is_statepoint op_is) member contained op_of in
        absurd (true≢false (sym managed ∙ (ap is_pointer same ∙ plain)));
  }

  -- ---- behind the group

  answered_is : (answer : Datum) → answered state.running answer ≡ regrouped state.running entries rest answer
  answered_is answer =
      ap (λ (lines : List Line). answered_at state.running lines answer) is ∙ ap (answered_by state.running line rest answer) op_is

  pub grouped_is : (answer : Datum) → grouped state entries rest answer ≡ resumed state answer
  grouped_is answer = ap (λ (frame : Frame). record state { running = frame }) (sym (answered_is answer))

  -- both go on behind the group with the answer, and are related there
  pub goes_on_behind : (answer : Datum) (word : ℕ) → IsAnswer extra.heap.stands group answer word
      → Follows content machinery (resumed state answer) (gone_on (number word) (machine_of machinery state held_extra))
  goes_on_behind answer word given =
      resumed_follows content sound machinery state held_extra related.objects related.settled waiting related.below related.tasks related.await answer word given
