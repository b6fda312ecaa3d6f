-- The walk over the stack of a task, frame by frame: each record is that of the statepoint at which the frame waits.
use Rattle.std.proofs.Common.{◌≡◌, ℕ, zero, suc, ◌+◌, ◌<◌, true, List, [], ◌∷◌, ◌++◌, length, take, drop, map, get_or, refl, ap, ◌∙◌, arith, Option, Some, Ok, Err, if◌then◌else◌}
use Rattle.std.specs.List.{AllZip}
use Rattle.std.proofs.lemmas.Bool.{ne_eqb}
use Rattle.std.proofs.lemmas.List.{length-append}
use Rattle.ir_ast.specs.Modules.{ModuleContent}
use Rattle.frame_walk.specs.Maps.{FrameEntry, Pair, pairs_of, usable}
use Rattle.frame_walk.specs.Walks.{behind_frame, frame_words, slot_write, walked_frame, walked_from, write_slots}
use Rattle.move_plan.specs.declared.plan_lines.Move.{Move}
use Rattle.move_plan.specs.declared.plan_lines.PlanLine.{PlanLine}
use Rattle.moving_heap.specs.declared.stands.Moved.{Moved}
use Rattle.moving_heap.specs.declared.stands.Stand.{Stand}
use Rattle.moving_heap.specs.Places.{carried, group_moves}
use Rattle.moving_heap.specs.Settled.{AreSettled}
use Rattle.object_meaning.specs.States.{Frame}
use Rattle.stackmap_write.specs.Constants.{constants_of}
use Rattle.stackmap_write.specs.ModuleMaps.{deopt_places, map_of}
use Rattle.machine_meaning.specs.Code.{machinery_of}
use Rattle.machine_meaning.specs.Machines.{Machinery, return_address}
use Rattle.machine_meaning.specs.Moving.{walked_task}
use Rattle.moves_unseen.specs.Frames.{FrameWords, IsWaiting}
use Rattle.moves_unseen.specs.States.{return_below, stack_of, worded_frame, worded_frames}
use Rattle.moves_unseen.specs.Waits.{IsRecorded, IsSound, IsWalked}
use Rattle.frames_shown.proofs.StackLaws.{dropped_behind, got_behind, taken_front}
use Rattle.runs_unseen.proofs.records_found.WaitingLaws.{record_is_found}
use Rattle.runs_unseen.proofs.stacks_walked.ClosedLaws.{after_slots, pairs, waits_after}

-- ---- one frame

-- a frame whose words stand on top, with its return word behind them, and whose record is usable
one_frame : (found : ℕ → Option FrameEntry) (moves : List Moved) (fuel address : ℕ) (slots : List ℕ) (next : ℕ) (rest : List ℕ) (entry : FrameEntry)
    → (address ≡ 0 → ⊥) → found address ≡ Some entry → frame_words entry ≡ length slots → usable (length (slots ++ next ∷ rest)) entry ≡ true
    → walked_from (suc fuel) found moves address (slots ++ next ∷ rest)
    ≡ behind_frame (write_slots (map (slot_write moves slots) (pairs_of entry)) slots) next (walked_from fuel found moves next rest)
one_frame found moves fuel address slots next rest entry some is size fits =
    ap (λ b. if b then Ok (slots ++ next ∷ rest) else walked_frame moves address (slots ++ next ∷ rest) (λ to more. walked_from fuel found moves to more) (found address)) (ne_eqb address 0 some)
    ∙ (ap (walked_frame moves address (slots ++ next ∷ rest) (λ to more. walked_from fuel found moves to more)) is
    ∙ (ap (λ b. if b then behind_frame (write_slots (map (slot_write moves (take (frame_words entry) (slots ++ next ∷ rest))) (pairs_of entry)) (take (frame_words entry) (slots ++ next ∷ rest)))
    (get_or (slots ++ next ∷ rest) (frame_words entry) 0)
    (walked_from fuel found moves (get_or (slots ++ next ∷ rest) (frame_words entry) 0) (drop (frame_words entry + 1) (slots ++ next ∷ rest))) else Err address) fits
    ∙ (ap (λ (words : List ℕ). behind_frame (write_slots (map (slot_write moves words) (pairs_of entry)) words) (get_or (slots ++ next ∷ rest) (frame_words entry) 0)
    (walked_from fuel found moves (get_or (slots ++ next ∷ rest) (frame_words entry) 0) (drop (frame_words entry + 1) (slots ++ next ∷ rest)))) (taken_front slots (frame_words entry) (next ∷ rest) size)
    ∙ (ap (λ (word : ℕ). behind_frame (write_slots (map (slot_write moves slots) (pairs_of entry)) slots) word (walked_from fuel found moves word (drop (frame_words entry + 1) (slots ++ next ∷ rest))))
    (got_behind slots (frame_words entry) next rest size)
    ∙ ap (λ (below : List ℕ). behind_frame (write_slots (map (slot_write moves slots) (pairs_of entry)) slots) next (walked_from fuel found moves next below))
    (dropped_behind slots (frame_words entry + 1) next rest (ap (λ (n : ℕ). n + 1) size))))))

-- ---- all frames of a task

module _ (content : ModuleContent) (sound : IsSound content) (plan : List PlanLine) (bound : ℕ) (stands : List Stand) (settled : AreSettled stands)
    (lines : List Move) (flip : Option ℕ) (some : group_moves stands lines flip ≡ [] → ⊥) where
  abbrev machinery : Machinery
  machinery = machinery_of content (map_of content) plan bound

  abbrev moves : List Moved
  moves = group_moves stands lines flip

  -- what is left behind a frame: the words of the others
  record AreWalked (frames : List Frame) (helds : List FrameWords) : Type 0 where
    pub after : List FrameWords
    pub is : (fuel : ℕ) → length (stack_of machinery (worded_frames frames helds) helds) < fuel
        → walked_from fuel machinery.found moves (return_below machinery (worded_frames frames helds)) (stack_of machinery (worded_frames frames helds) helds)
        ≡ Ok (stack_of machinery (worded_frames frames helds) after)
    pub same : worded_frames frames after ≡ worded_frames frames helds
    pub waiting : AllZip (IsWaiting content (map (carried moves) stands)) frames after

  all_walked : (frames : List Frame) (helds : List FrameWords) → AllZip (IsWaiting content stands) frames helds → AreWalked frames helds
  all_walked [] [] waiting = record { after = []; is = λ fuel low. none_left fuel low; same = refl; waiting = tt }
    where
      none_left : (fuel : ℕ) → 0 < fuel → walked_from fuel machinery.found moves 0 [] ≡ Ok []
      none_left zero low = absurd (omega arith)
      none_left (suc fuel) low = refl
  all_walked [] (held ∷ helds) waiting = absurd waiting
  all_walked (frame ∷ frames) [] waiting = absurd waiting
  all_walked (frame ∷ frames) (held ∷ helds) waiting =
      let below = all_walked frames helds waiting.1 in
      let slots = after_slots content sound stands frame held waiting.0 moves in
      record {
        after = record held { slots = slots } ∷ below.after;
        is = frame_is below;
        same = ap (λ (more : List Frame). worded_frame frame held.words ∷ more) below.same;
        waiting = (waits_after content sound stands frame held waiting.0 settled lines flip some, below.waiting);
      }
    where
      recorded : IsRecorded machinery frame held (pairs content sound stands frame held waiting.0) (deopt_places (constants_of content) waiting.0.call.inst) waiting.0.func.name
      recorded = record_is_found content sound plan bound stands frame held waiting.0

      next : ℕ
      next = return_below machinery (worded_frames frames helds)

      rest : List ℕ
      rest = stack_of machinery (worded_frames frames helds) helds

      frame_is : (below : AreWalked frames helds) → (fuel : ℕ) → length (held.slots ++ next ∷ rest) < fuel
          → walked_from fuel machinery.found moves (return_address machinery (worded_frame frame held.words)) (held.slots ++ next ∷ rest)
          ≡ Ok (after_slots content sound stands frame held waiting.0 moves ++ next ∷ stack_of machinery (worded_frames frames helds) below.after)
      frame_is below zero low = absurd (omega arith)
      frame_is below (suc fuel) low =
          let size = length-append held.slots (next ∷ rest) in
          one_frame machinery.found moves fuel (return_address machinery (worded_frame frame held.words)) held.slots next rest recorded.entry recorded.returns recorded.found recorded.size
          (recorded.fits (length (held.slots ++ next ∷ rest)) (omega arith))
          ∙ (ap (behind_frame (write_slots (map (slot_write moves held.slots) (pairs_of recorded.entry)) held.slots) next) (below.is fuel (omega arith))
          ∙ ap (λ (all : List Pair). Ok (write_slots (map (slot_write moves held.slots) all) held.slots ++ next ∷ stack_of machinery (worded_frames frames helds) below.after)) recorded.pairs_are)

  walked_is : (frames : List Frame) (helds : List FrameWords) → AllZip (IsWaiting content stands) frames helds → (all : AreWalked frames helds)
      → walked_task machinery moves (worded_frames frames helds) (stack_of machinery (worded_frames frames helds) helds) ≡ Ok (stack_of machinery (worded_frames frames helds) all.after)
  walked_is [] [] waiting all = refl
  walked_is [] (held ∷ helds) waiting all = absurd waiting
  walked_is (frame ∷ frames) [] waiting all = absurd waiting
  walked_is (frame ∷ frames) (held ∷ helds) waiting all =
      let stack = stack_of machinery (worded_frames (frame ∷ frames) (held ∷ helds)) (held ∷ helds) in
      all.is (length (stack_of machinery (worded_frames (frame ∷ frames) (held ∷ helds)) (held ∷ helds)) + 1) (omega arith)

  pub stacks_walked : (frames : List Frame) (helds : List FrameWords) → AllZip (IsWaiting content stands) frames helds → IsWalked content machinery moves stands frames helds
  stacks_walked frames helds waiting =
      let all = all_walked frames helds waiting in
      record { after = all.after; is = walked_is frames helds waiting all; same = all.same; waiting = all.waiting }
