-- The lines of all frames that wait, from the caller upwards.
use Rattle.std.proofs.Common.{◌≡◌, ℕ, zero, suc, ◌+◌, ◌≤◌, true, List, [], ◌∷◌, ◌++◌, length, take, drop, get_or, refl, sym, ap, ◌∙◌, arith, Some, if◌then◌else◌}
use Rattle.std.specs.List.{AllZip}
use Rattle.std.proofs.lemmas.Bool.{ne_eqb}
use Rattle.std.proofs.lemmas.List.{length-append}
use Rattle.sp_ids.specs.declared.ends.End.{End}
use Rattle.sp_ids.specs.declared.ends.End.TheVariants.{Trap}
use Rattle.frame_walk.specs.Maps.{FrameEntry, usable}
use Rattle.frame_walk.specs.Walks.{frame_words}
use Rattle.moving_heap.specs.declared.stands.Stand.{Stand}
use Rattle.moving_heap.specs.Settled.{AreSettled}
use Rattle.object_meaning.specs.Lines.{Line}
use Rattle.object_meaning.specs.States.{Frame, State}
use Rattle.object_meaning.specs.Texts.{bundle_line, bundle_lines, bundle_of, closing_lines}
use Rattle.machine_meaning.specs.Machines.{Machinery, return_address}
use Rattle.machine_meaning.specs.TrapLines.{closing_of, frame_line, lines_at, lines_from, lines_with, values_of}
use Rattle.moves_unseen.specs.Frames.{FrameWords}
use Rattle.moves_unseen.specs.States.{Extra, machine_of, return_below, stack_of, worded_frame, worded_frames}
use Rattle.frames_shown.specs.Statements.{IsShown}
use Rattle.frames_shown.proofs.FrameLaws.{line_shown, values_shown}

-- ---- a stack, whose first frame has these words, and its return word behind them

pub taken_front : (xs : List ℕ) (n : ℕ) (ys : List ℕ) → n ≡ length xs → take n (xs ++ ys) ≡ xs
taken_front [] zero ys is = refl
taken_front [] (suc n) ys is = absurd (omega arith)
taken_front (x ∷ xs) zero ys is = absurd (omega arith)
taken_front (x ∷ xs) (suc n) ys is = ap (λ (rest : List ℕ). x ∷ rest) (taken_front xs n ys (omega arith))

pub got_behind : (xs : List ℕ) (n y : ℕ) (ys : List ℕ) → n ≡ length xs → get_or (xs ++ y ∷ ys) n 0 ≡ y
got_behind [] zero y ys is = refl
got_behind [] (suc n) y ys is = absurd (omega arith)
got_behind (x ∷ xs) zero y ys is = absurd (omega arith)
got_behind (x ∷ xs) (suc n) y ys is = got_behind xs n y ys (omega arith)

pub dropped_behind : (xs : List ℕ) (n y : ℕ) (ys : List ℕ) → n ≡ length xs + 1 → drop n (xs ++ y ∷ ys) ≡ ys
dropped_behind [] zero y ys is = absurd (omega arith)
dropped_behind [] (suc zero) y ys is = refl
dropped_behind [] (suc (suc n)) y ys is = absurd (omega arith)
dropped_behind (x ∷ xs) zero y ys is = absurd (omega arith)
dropped_behind (x ∷ xs) (suc n) y ys is = dropped_behind xs n y ys (omega arith)

-- ---- one frame

module _ (machinery : Machinery) (stands : List Stand) (number address : ℕ) (slots : List ℕ) (next : ℕ) (rest : List ℕ) (entry : FrameEntry) (name : List ℕ) where
  abbrev stack : List ℕ
  stack = slots ++ next ∷ rest

  with_name : (below : ℕ → List ℕ → List (List ℕ)) → frame_words entry ≡ length slots
      → lines_with machinery stands number (slots ++ next ∷ rest) below entry (Some name) ≡ frame_line number name (values_of machinery stands slots entry) ++ below next rest
  with_name below size =
      ap (λ (words : List ℕ). frame_line number name (values_of machinery stands words entry) ++ below (get_or stack (frame_words entry) 0) (drop (frame_words entry + 1) stack))
      (taken_front slots (frame_words entry) (next ∷ rest) size)
      ∙ (ap (λ (word : ℕ). frame_line number name (values_of machinery stands slots entry) ++ below word (drop (frame_words entry + 1) stack)) (got_behind slots (frame_words entry) next rest size)
      ∙ ap (λ (more : List ℕ). frame_line number name (values_of machinery stands slots entry) ++ below next more)
      (dropped_behind slots (frame_words entry + 1) next rest (ap (λ (n : ℕ). n + 1) size)))

  at_entry : (below : ℕ → List ℕ → List (List ℕ)) → frame_words entry ≡ length slots → usable (length (slots ++ next ∷ rest)) entry ≡ true → machinery.name_at address ≡ Some name
      → lines_at machinery stands number address (slots ++ next ∷ rest) below (Some entry) ≡ frame_line number name (values_of machinery stands slots entry) ++ below next rest
  at_entry below size fits named =
      ap (λ b. if b then lines_with machinery stands number stack below entry (machinery.name_at address) else []) fits
      ∙ (ap (lines_with machinery stands number stack below entry) named ∙ with_name below size)

  pub one_frame : (fuel : ℕ) → (address ≡ 0 → ⊥) → machinery.found address ≡ Some entry → frame_words entry ≡ length slots → usable (length (slots ++ next ∷ rest)) entry ≡ true
      → machinery.name_at address ≡ Some name
      → lines_from (suc fuel) machinery stands number address (slots ++ next ∷ rest)
      ≡ frame_line number name (values_of machinery stands slots entry) ++ lines_from fuel machinery stands (number + 1) next rest
  one_frame fuel some is size fits named =
      ap (λ b. if b then [] else lines_at machinery stands number address stack (λ to more. lines_from fuel machinery stands (number + 1) to more) (machinery.found address)) (ne_eqb address 0 some)
      ∙ (ap (lines_at machinery stands number address stack (λ to more. lines_from fuel machinery stands (number + 1) to more)) is
      ∙ at_entry (λ to more. lines_from fuel machinery stands (number + 1) to more) size fits named)

-- ---- all frames

module _ (machinery : Machinery) (names : ℕ → List ℕ) (stands : List Stand) (settled : AreSettled stands) where
  frame_shown : (number : ℕ) (frame : Frame) (held : FrameWords) (one : IsShown machinery names stands frame held)
      → frame_line number (names frame.func) (values_of machinery stands held.slots one.mapped.entry) ≡ bundle_line names number frame (bundle_of frame.rest)
  frame_shown number frame held one =
      line_shown number names frame one.call.inst.bundle (values_of machinery stands held.slots one.mapped.entry)
      (values_shown machinery stands settled frame.registers one.call.inst held.slots one.pairs one.keeps one.mapped.entry one.mapped.pairs_are one.mapped.entries)
      ∙ sym (ap (λ (rest : List Line). bundle_line names number frame (bundle_of rest)) one.rest)

  -- a frame that is on top of the others
  on_top : (frame : Frame) (held : FrameWords) → IsShown machinery names stands frame held → (next : ℕ) (rest : List ℕ) (number : ℕ) (more : List (List ℕ))
      → ((less : ℕ) → length rest ≤ less → lines_from less machinery stands (number + 1) next rest ≡ more) → (fuel : ℕ) → length (held.slots ++ next ∷ rest) ≤ fuel
      → lines_from fuel machinery stands number (return_address machinery (worded_frame frame held.words)) (held.slots ++ next ∷ rest)
      ≡ bundle_line names number frame (bundle_of frame.rest) ++ more
  on_top frame held one next rest number more below zero room = let size = length-append held.slots (next ∷ rest) in absurd (omega arith)
  on_top frame held one next rest number more below (suc fuel) room =
      let size = length-append held.slots (next ∷ rest) in
      one_frame machinery stands number (return_address machinery (worded_frame frame held.words)) held.slots next rest one.mapped.entry (names frame.func) fuel one.mapped.returns one.mapped.found one.mapped.size
      (one.mapped.fits (length (held.slots ++ next ∷ rest)) (omega arith)) one.mapped.named
      ∙ (ap (λ (line : List (List ℕ)). line ++ lines_from fuel machinery stands (number + 1) next rest) (frame_shown number frame held one)
      ∙ ap (λ (others : List (List ℕ)). bundle_line names number frame (bundle_of frame.rest) ++ others) (below fuel (omega arith)))

  pub all_shown : (frames : List Frame) (helds : List FrameWords) → AllZip (IsShown machinery names stands) frames helds → (number fuel : ℕ)
      → length (stack_of machinery (worded_frames frames helds) helds) ≤ fuel
      → lines_from fuel machinery stands number (return_below machinery (worded_frames frames helds)) (stack_of machinery (worded_frames frames helds) helds) ≡ bundle_lines names number frames
  all_shown [] [] all number zero room = refl
  all_shown [] [] all number (suc fuel) room = refl
  all_shown [] (held ∷ helds) all number fuel room = absurd all
  all_shown (frame ∷ frames) [] all number fuel room = absurd all
  all_shown (frame ∷ frames) (held ∷ helds) all number fuel room =
      on_top frame held all.0 (return_below machinery (worded_frames frames helds)) (stack_of machinery (worded_frames frames helds) helds) number (bundle_lines names (number + 1) frames)
      (all_shown frames helds all.1 (number + 1)) fuel room

-- ---- what is written where a run ends

pub closing_shown : (machinery : Machinery) (names : ℕ → List ℕ) (end : End) (state : State) (extra : Extra) → AreSettled extra.heap.stands
    → length extra.running.slots ≡ machinery.frame_words state.running.func → AllZip (IsShown machinery names extra.heap.stands) state.below extra.below
    → closing_of machinery end (machine_of machinery state extra) ≡ closing_lines names end state
closing_shown machinery names (Trap trap) state extra settled room all =
    let words = extra.running.slots in
    let next = return_below machinery (worded_frames state.below extra.below) in
    let rest = stack_of machinery (worded_frames state.below extra.below) extra.below in
    let own = machinery.frame_words state.running.func in
    let size = length-append words (next ∷ rest) in
    ap (λ (address : ℕ). lines_from (length (words ++ next ∷ rest)) machinery extra.heap.stands 1 address (drop (own + 1) (words ++ next ∷ rest))) (got_behind words own next rest (sym room))
    ∙ (ap (lines_from (length (words ++ next ∷ rest)) machinery extra.heap.stands 1 next) (dropped_behind words (own + 1) next rest (ap (λ (n : ℕ). n + 1) (sym room)))
    ∙ all_shown machinery names extra.heap.stands settled state.below extra.below all 1 (length (words ++ next ∷ rest)) (omega arith))
closing_shown machinery names _ state extra settled room all = refl
