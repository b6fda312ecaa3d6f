-- Frames that waited and go on with an answer, in the two runs.
use Rattle.std.proofs.Common.{◌≡◌, ℕ, suc, false, List, [], ◌∷◌, ◌++◌, map, drop, refl, ap, arith, ◌∙◌}
use Rattle.std.specs.Option.{option_map}
use Rattle.std.proofs.lemmas.Bool.{true≢false}
use Rattle.ir_ast.specs.declared.ops.Op.{Op}
use Rattle.ir_ast.specs.declared.ops.Op.TheVariants.{Statepoint}
use Rattle.ir_ast.specs.Faults.GroupShape.{is_statepoint}
use Rattle.ir_ast.specs.Objects.{Datum}
use Rattle.object_meaning.specs.Lines.{Line}
use Rattle.object_meaning.specs.Registers.{put}
use Rattle.object_meaning.specs.States.{Frame, State}
use Rattle.object_meaning.specs.Frames.{regrouped, answered, answered_at, answered_by, resumed}
use Rattle.rewriting_forms.specs.Numbered.{lines_at}
use Rattle.rewriting_forms.specs.Names.{own}
use Rattle.rewriting_forms.specs.Rewritten.{Piece, plain as plain_piece, expanded}
use Rattle.rewriting_laws.specs.Related.{Rewriting, IsRewriting, piece_line, FrameKept, StateKept, frame_now, rest_now}
use Rattle.rewriting_laws.proofs.NameLemmas.{at_rest, is_one, is_none, call_or_not}
use Rattle.rewriting_laws.proofs.JumpLemmas.{one_piece}
use Rattle.rewriting_laws.proofs.StepLemmas.{line_kept, entries_now, after_call, rest_is_call, regrouped_kept}

-- a frame that got its answer, where it stands at a line that is no statepoint
abbrev behind_line : Frame → Line → List Line → Datum → Frame
behind_line frame line rest answer = record frame { rest = rest; registers = put line.to answer frame.registers }

answered_plain : (frame : Frame) (line : Line) (rest : List Line) (answer : Datum) (op : Op) → is_statepoint op ≡ false
    → answered_by frame line rest answer op ≡ behind_line frame line rest answer
answered_plain frame line rest answer (Statepoint id callee types) none = absurd (true≢false none)
answered_plain frame line rest answer _ none = refl

module _ (all : ℕ → Rewriting) (laws : (g : ℕ) → IsRewriting all (all g)) where
  -- a frame that waited gets its answer
  goes_on_kept : (frame waiting : Frame) (answer : Datum) (lines : List Line) → frame.rest ≡ lines → FrameKept (all frame.func) frame waiting
      → FrameKept (all (answered_at frame lines answer).func) (answered_at frame lines answer) (answered_at waiting waiting.rest answer)
  goes_on_kept frame waiting answer [] empty kept =
      let r = all frame.func in
      let is : answered_at waiting waiting.rest answer ≡ frame_now r frame kept.k kept.registers =
      ap (λ (x : Frame). answered_at x x.rest answer) kept.is
      ∙ ap (λ (ls : List Line). answered_at (frame_now r frame kept.k kept.registers) (rest_now r frame.block kept.k ls) answer) empty in
      record { k = kept.k; registers = kept.registers; place = kept.place; behind = kept.behind; is = is; kept = kept.kept }
  goes_on_kept frame waiting answer (line ∷ rest) at kept =
      let r = all frame.func in
      let law = laws frame.func in
      let place : drop kept.k (lines_at r.func frame.block) ≡ line ∷ rest = kept.place ∙ at in
      let stands = (at_rest (lines_at r.func frame.block) kept.k line rest place).0 in
      let next = (at_rest (lines_at r.func frame.block) kept.k line rest place).1 in
      let none = (law.plain).no_statepoint frame.block kept.k line stands in
      let behind = kept.behind in
      let same : answered_at waiting waiting.rest answer ≡ answered_at (frame_now r frame kept.k kept.registers) (rest_now r frame.block kept.k (line ∷ rest)) answer =
      ap (λ (x : Frame). answered_at x x.rest answer) kept.is
      ∙ ap (λ (ls : List Line). answered_at (frame_now r frame kept.k kept.registers) (rest_now r frame.block kept.k ls) answer) at in
      by_line frame line rest answer none (answered_at waiting waiting.rest answer)
      (elim (call_or_not line.inst.op) [
        | is_none plain ↦
            let piece = one_piece r.func r.table r.naming r.number frame.block kept.k line line.inst.op plain in
            let is = same
            ∙ ap (λ (ps : List Piece). answered_at (frame_now r frame kept.k kept.registers) (map (piece_line r.text r.number) (ps ++ expanded r.func r.table r.naming r.number frame.block (suc kept.k) rest)) answer) piece
            ∙ answered_plain (frame_now r frame kept.k kept.registers) (piece_line r.text r.number (plain_piece r.func r.table r.naming r.number frame.block kept.k line))
            (rest_now r frame.block (suc kept.k) rest) answer line.inst.op none in
            record {
              k = suc kept.k;
              registers = put (option_map r.number (option_map own line.to)) answer kept.registers;
              place = next;
              behind = omega (arith, behind);
              is = is;
              kept = line_kept all r law frame.block kept.k line frame.registers kept.registers answer stands plain kept.kept;
            }
        | is_one callee types e not_leaf ↦
            let grouped_frame = regrouped_kept all r law frame kept.k kept.registers line rest callee types place kept.behind kept.kept e not_leaf answer in
            let shape : answered_at (frame_now r frame kept.k kept.registers) (rest_now r frame.block kept.k (line ∷ rest)) answer
            ≡ regrouped (frame_now r frame kept.k kept.registers) (entries_now all r law frame kept.k kept.registers line rest callee types place kept.behind kept.kept e not_leaf)
            (after_call all r law frame kept.k kept.registers line rest callee types place kept.behind kept.kept e not_leaf) answer =
            ap (λ (ls : List Line). answered_at (frame_now r frame kept.k kept.registers) ls answer)
            (rest_is_call all r law frame kept.k kept.registers line rest callee types place kept.behind kept.kept e not_leaf) in
            rw (same ∙ shape) grouped_frame
      ])
    where
      by_line : (frame : Frame) (line : Line) (rest : List Line) (answer : Datum) → is_statepoint line.inst.op ≡ false → (later : Frame)
          → FrameKept (all frame.func) (behind_line frame line rest answer) later
          → FrameKept (all (answered_by frame line rest answer line.inst.op).func) (answered_by frame line rest answer line.inst.op) later
      by_line frame line rest answer none later kept = rw (answered_plain frame line rest answer line.inst.op none) kept

  pub answered_kept : (frame waiting : Frame) (answer : Datum) → FrameKept (all frame.func) frame waiting
      → FrameKept (all (answered frame answer).func) (answered frame answer) (answered waiting answer)
  answered_kept frame waiting answer kept = goes_on_kept frame waiting answer frame.rest refl kept

  pub resumed_kept : (state now : State) (answer : Datum) → StateKept all state now → StateKept all (resumed state answer) (resumed now answer)
  resumed_kept state now answer kept = record {
    running = answered_kept state.running now.running answer kept.running;
    below = kept.below;
    tasks = kept.tasks;
    is = ap (λ (x : State). let y : State = record x { running = answered now.running answer } in y) kept.is;
  }
