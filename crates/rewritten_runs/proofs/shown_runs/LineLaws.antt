-- The lines of a trace begin with `#`, and those that a program prints or its waiting frames show don't.
use Rattle.std.proofs.Common.{◌≡◌, ℕ, ℤ, zero, suc, pos, negsuc, Bool, true, false, List, [], ◌∷◌, ◌++◌, length, map, take, drop, slice_index, reverse, cond, Option, Some, None, refl, sym, ap, ◌∙◌, append_assoc, append-nil, arith}
use Rattle.std.specs.Prelude.{◌+◌, ◌==◌, ◌/◌, ◌%◌, nat_lt, not}
use Rattle.std.specs.Fmt.{digits, digits_onto, digit_glyph, signed_decimal}
use Rattle.std.specs.List.{flat_map}
use Rattle.std.proofs.lemmas.Bool.Decides.{nat_tests}
use Rattle.std.proofs.lemmas.List.{reverse-append}
use Rattle.std.proofs.lemmas.List.Elements.{filter-append}
use Rattle.sp_ids.specs.Numbers.{signed}
use Rattle.sp_ids.specs.declared.ends.End.{End}
use Rattle.sp_ids.specs.declared.ends.End.TheVariants.{Trap}
use Rattle.moving_heap.specs.declared.stands.Stand.{Stand}
use Rattle.frame_walk.specs.Maps.{FrameEntry, usable}
use Rattle.frame_walk.specs.Walks.{frame_words}
use Rattle.object_meaning.specs.Effects.{Effect, goes_on, prints, ends, Progress, after, newline, printed_line}
use Rattle.object_meaning.specs.Runs.{Next, Go, End as Over, advance, goes}
use Rattle.object_meaning.specs.Tasks.{with_event}
use Rattle.object_meaning.specs.Traces.{done_at, traced}
use Rattle.object_meaning.proofs.RunLaws.{goes_over, not_over, traced_over}
use Rattle.object_meaning.proofs.OutcomeLaws.{same_lines}
use Rattle.machine_meaning.specs.Happenings.{Happening, ObjectMove, SlotChange, happenings_at}
use Rattle.machine_meaning.specs.Machines.{Machine, Machinery}
use Rattle.machine_meaning.specs.MachineRuns.{machine_proceeds}
use Rattle.machine_meaning.specs.MachineSteps.{machine_step}
use Rattle.machine_meaning.specs.TrapLines.{closing_of, frame_line, lines_at, lines_with, values_of}
use Rattle.machine_meaning.specs.TrapLines.{lines_from as frames_from}
use Rattle.tool_report.specs.RunLines.{event_line, moved_line, slot_line}
use Rattle.run_texts.specs.RunTexts.{event_lines, line_of_move, line_of_slot, lines_from, printed_by, step_lines, trace_lines}
use Rattle.rewritten_runs.specs.ShownTexts.{is_traced, program_lines}

-- ---- lines of a trace

none_of : {X : Type 0} (line : X → List ℕ) → ((x : X) → is_traced (line x) ≡ true) → (xs : List X) → program_lines (map line xs) ≡ []
none_of line traced_so [] = refl
none_of line traced_so (x ∷ xs) = ap (λ (is : Bool). cond (not is) (line x ∷ program_lines (map line xs)) (program_lines (map line xs))) (traced_so x) ∙ none_of line traced_so xs

move_traced : (move : ObjectMove) → is_traced (line_of_move move) ≡ true
unfolding moved_line
move_traced move = refl

slot_traced : (slot : SlotChange) → is_traced (line_of_slot slot) ≡ true
unfolding slot_line
slot_traced slot = refl

event_dropped : (number : ℕ) (one : Happening) → program_lines (event_lines number one) ≡ []
unfolding event_line
event_dropped number one =
    filter-append (λ (line : List ℕ). not (is_traced line)) (map line_of_move one.moves) (map line_of_slot one.slots)
    ∙ (ap (λ (lines : List (List ℕ)). lines ++ program_lines (map line_of_slot one.slots)) (none_of line_of_move move_traced one.moves)
    ∙ none_of line_of_slot slot_traced one.slots)

events_dropped : (number : ℕ) (happened : List Happening) → program_lines (flat_map (event_lines number) happened) ≡ []
events_dropped number [] = refl
events_dropped number (one ∷ rest) =
    filter-append (λ (line : List ℕ). not (is_traced line)) (event_lines number one) (flat_map (event_lines number) rest)
    ∙ (ap (λ (lines : List (List ℕ)). lines ++ program_lines (flat_map (event_lines number) rest)) (event_dropped number one) ∙ events_dropped number rest)

-- ---- numbers

digit_plain : (n : ℕ) (below : Bool) → nat_lt (n % 10) 10 ≡ below → (cond below (48 + n % 10) (87 + n % 10) == 35) ≡ false
digit_plain n true is = grind (arith, nat_tests)
digit_plain n false is = grind (arith, nat_tests)

digits_by : (count n : ℕ) (acc rest : List ℕ) (last : Bool) → n / 10 == 0 ≡ last → is_traced (digits_onto count 10 false (n / 10) (digit_glyph false (n % 10) ∷ acc) ++ rest) ≡ false
    → is_traced (cond last (digit_glyph false (n % 10) ∷ acc) (digits_onto count 10 false (n / 10) (digit_glyph false (n % 10) ∷ acc)) ++ rest) ≡ false
digits_by count n acc rest true is more = digit_plain n (nat_lt (n % 10) 10) refl
digits_by count n acc rest false is more = more

digits_plain : (count n : ℕ) (acc rest : List ℕ) → is_traced (acc ++ rest) ≡ false → is_traced (digits_onto count 10 false n acc ++ rest) ≡ false
digits_plain zero n acc rest plain = plain
digits_plain (suc count) n acc rest plain =
    digits_by count n acc rest (n / 10 == 0) refl (digits_plain count (n / 10) (digit_glyph false (n % 10) ∷ acc) rest (digit_plain n (nat_lt (n % 10) 10) refl))

number_plain : (z : ℤ) → is_traced (signed_decimal z ++ newline) ≡ false
unfolding digits
number_plain (pos n) = digits_plain 64 n [] newline refl
number_plain (negsuc n) = refl

printed_plain : (word : ℕ) → is_traced (printed_line word) ≡ false
unfolding printed_line
printed_plain word = number_plain (signed 64 word)

-- ---- steps

printed_kept : (effect : Effect Machine) → program_lines (printed_by effect) ≡ printed_by effect
printed_kept (goes_on machine) = refl
printed_kept (prints word machine) = ap (λ (is : Bool). cond (not is) (printed_line word ∷ []) []) (printed_plain word)
printed_kept (ends end machine) = refl

step_kept : (machinery : Machinery) (trace : Bool) (machine : Machine) → program_lines (step_lines machinery trace machine) ≡ step_lines machinery false machine
step_kept machinery true machine =
    filter-append (λ (line : List ℕ). not (is_traced line)) (trace_lines machinery machine) (printed_by (machine_step machinery machine))
    ∙ (ap (λ (lines : List (List ℕ)). lines ++ program_lines (printed_by (machine_step machinery machine)))
    (events_dropped (with_event machine.state).events (happenings_at machinery machine machine.state.running.rest)) ∙ printed_kept (machine_step machinery machine))
step_kept machinery false machine = printed_kept (machine_step machinery machine)

module _ (machinery : Machinery) (trace : Bool) where
  abbrev shown_at : Progress Machine → List (List ℕ)
  shown_at progress = step_lines machinery trace progress.state

  done_kept : (next : Next End (Progress Machine)) → program_lines (done_at shown_at next) ≡ done_at (λ (progress : Progress Machine). step_lines machinery false progress.state) next
  done_kept (Go progress) = step_kept machinery trace progress.state
  done_kept (Over end last) = refl

  -- without the lines of the trace, the steps write what they print
  pub steps_kept : (count : ℕ) (next : Next End (Progress Machine)) → program_lines (lines_from machinery trace count next) ≡ lines_from machinery false count next
  steps_kept zero next = refl
  steps_kept (suc count) next =
      let step = machine_proceeds machinery in
      filter-append (λ (line : List ℕ). not (is_traced line)) (done_at shown_at next) (traced shown_at step count (advance step next))
      ∙ (ap (λ (lines : List (List ℕ)). lines ++ program_lines (traced shown_at step count (advance step next))) (done_kept next)
      ∙ ap (λ (lines : List (List ℕ)). done_at (λ (progress : Progress Machine). step_lines machinery false progress.state) next ++ lines) (steps_kept count (advance step next)))

-- ---- what the steps print, in order

abbrev behind_effect : Machinery → ℕ → List (List ℕ) → Effect Machine → List (List ℕ)
behind_effect machinery count lines effect = printed_by effect ++ lines_from machinery false count (after lines effect)

prints_all : (machinery : Machinery) (count : ℕ) (lines : List (List ℕ)) (effect : Effect Machine) (end : End) (last : Progress Machine)
    → goes (machine_proceeds machinery) count (after lines effect) ≡ Over end last → reverse last.lines ≡ reverse lines ++ behind_effect machinery count lines effect
unfolding machine_proceeds
prints_all machinery zero lines (goes_on machine) end last is = absurd (not_over end last (record { state = machine; lines = lines }) (sym is))
prints_all machinery (suc count) lines (goes_on machine) end last is = prints_all machinery count lines (machine_step machinery machine) end last is
prints_all machinery zero lines (prints word machine) end last is =
    absurd (not_over end last (record { state = machine; lines = printed_line word ∷ lines }) (sym is))
prints_all machinery (suc count) lines (prints word machine) end last is =
    let more = behind_effect machinery count (printed_line word ∷ lines) (machine_step machinery machine) in
    prints_all machinery count (printed_line word ∷ lines) (machine_step machinery machine) end last is
    ∙ (ap (λ (front : List (List ℕ)). front ++ more) (reverse-append (printed_line word ∷ []) lines) ∙ append_assoc (reverse lines) (printed_line word ∷ []) more)
prints_all machinery count lines (ends other machine) end last is =
    let same = same_lines other end machine lines last (sym (goes_over (machine_proceeds machinery) count other (record { state = machine; lines = lines })) ∙ is) in
    let none = traced_over (λ (progress : Progress Machine). step_lines machinery false progress.state) (machine_proceeds machinery) count other (record { state = machine; lines = lines }) in
    ap reverse same ∙ (sym (append-nil (reverse lines)) ∙ ap (λ (more : List (List ℕ)). reverse lines ++ more) (sym none))

pub prints_from : (machinery : Machinery) (count : ℕ) (now : Progress Machine) (end : End) (last : Progress Machine)
    → goes (machine_proceeds machinery) count (Go now) ≡ Over end last → reverse last.lines ≡ reverse now.lines ++ lines_from machinery false count (Go now)
unfolding machine_proceeds
prints_from machinery zero now end last is = absurd (not_over end last now (sym is))
prints_from machinery (suc count) now end last is = prints_all machinery count now.lines (machine_step machinery now.state) end last is

-- ---- what waiting frames show

abbrev Kept : List (List ℕ) → Type 0
Kept lines = program_lines lines ≡ lines

both_kept : (front back : List (List ℕ)) → Kept front → Kept back → Kept (front ++ back)
both_kept front back one two =
    filter-append (λ (line : List ℕ). not (is_traced line)) front back
    ∙ (ap (λ (lines : List (List ℕ)). lines ++ program_lines back) one ∙ ap (λ (lines : List (List ℕ)). front ++ lines) two)

either_kept : (b : Bool) (one other : List (List ℕ)) → Kept one → Kept other → Kept (cond b one other)
either_kept true one other first second = first
either_kept false one other first second = second

frame_kept : (number : ℕ) (name : List ℕ) (values : List (List ℕ)) → Kept (frame_line number name values)
frame_kept number name [] = refl
frame_kept number name (value ∷ values) = refl

module _ (machinery : Machinery) (stands : List Stand) where
  module _ (number : ℕ) (stack : List ℕ) (below : ℕ → List ℕ → List (List ℕ)) (kept : (next : ℕ) (rest : List ℕ) → Kept (below next rest)) where
    with_kept : (one : FrameEntry) (name : Option (List ℕ)) → Kept (lines_with machinery stands number stack below one name)
    with_kept one None = refl
    with_kept one (Some name) =
        let values = values_of machinery stands (take (frame_words one) stack) one in
        let next = slice_index stack (frame_words one) in let rest = drop (frame_words one + 1) stack in
        both_kept (frame_line number name values) (below next rest) (frame_kept number name values) (kept next rest)

    at_kept : (address : ℕ) (found : Option FrameEntry) → Kept (lines_at machinery stands number address stack below found)
    at_kept address None = refl
    at_kept address (Some one) =
        either_kept (usable (length stack) one) (lines_with machinery stands number stack below one (machinery.name_at address)) [] (with_kept one (machinery.name_at address)) refl

  frames_kept : (fuel number address : ℕ) (stack : List ℕ) → Kept (frames_from fuel machinery stands number address stack)
  frames_kept zero number address stack = refl
  frames_kept (suc fuel) number address stack =
      let below = λ (next : ℕ) (rest : List ℕ). frames_from fuel machinery stands (number + 1) next rest in
      either_kept (address == 0) [] (lines_at machinery stands number address stack below (machinery.found address)) refl
      (at_kept number stack below (λ next rest. frames_kept fuel (number + 1) next rest) address (machinery.found address))

pub closing_kept : (machinery : Machinery) (end : End) (last : Machine) → Kept (closing_of machinery end last)
closing_kept machinery (Trap trap) last =
    let own = machinery.frame_words last.state.running.func in
    frames_kept machinery last.heap.stands (length last.stack) 1 (slice_index last.stack own) (drop (own + 1) last.stack)
closing_kept machinery _ last = refl
