-- The lines of frames that wait, frame by frame.
use Rattle.std.proofs.Common.{◌≡◌, ℕ, zero, suc, ◌+◌, ◌≤◌, ◌==◌, if◌then◌else◌, cond, Bool, true, false, List, [], ◌∷◌, ◌++◌, length, map, take, drop, slice_index, refl, sym, ap, ◌∙◌, arith, Option, Some, None, codes, decimal, append_assoc}
use Rattle.std.specs.Prelude.{◌⊎◌}
use Rattle.std.proofs.Common.{inl, inr}
use Rattle.std.proofs.lemmas.Bool.{eq-eqb, ne_eqb}
use Rattle.std.proofs.lemmas.List.{append-nil, get_or_past}
use Rattle.std.proofs.lemmas.Option.{none-some}
use Rattle.moving_heap.specs.declared.stands.Stand.{Stand}
use Rattle.frame_walk.specs.Maps.{FrameEntry, usable}
use Rattle.frame_walk.specs.Walks.{frame_in, frame_words, usable_only}
use Rattle.frame_walk.proofs.WalkLemmas.{used_record}
use Rattle.tool_io.specs.Sink.{append_known}
use Rattle.tool_io.proofs.AppendLaws.{AppendsBefore}
use Rattle.object_meaning.specs.Effects.{newline}
use Rattle.piece_writer.specs.Lists.{led}
use Rattle.machine_meaning.specs.Machines.{Machinery}
use Rattle.machine_meaning.specs.TrapLines.{frame_line, lines_at, lines_from, lines_with, waiting_lines}
use Rattle.trap_frames.specs.Waiting.{IsReadBy, line_with}
use Rattle.trap_frames.specs.declared.deopts.Shown.{Shown}
use Rattle.trap_frames.specs.DeoptLines.{deopt_line, shown_text}

either_nothing : (b : Bool) (lines : List (List ℕ)) → lines ≡ [] → (if b then [] else lines) ≡ []
either_nothing true lines e = refl
either_nothing false lines e = e

module _ (machinery : Machinery) (stands : List Stand) (number address : ℕ) (stack : List ℕ) where
  unused : (below : ℕ → List ℕ → List (List ℕ)) (one : FrameEntry) (b : Bool) → cond b (Some one) None ≡ None
      → (if b then lines_with machinery stands number stack below one (machinery.name_at address) else []) ≡ []
  unused below one true is = absurd (none-some one (sym is))
  unused below one false is = refl

  nothing_at : (below : ℕ → List ℕ → List (List ℕ)) (found : Option FrameEntry) → usable_only (length stack) found ≡ None → lines_at machinery stands number address stack below found ≡ []
  nothing_at below None is = refl
  nothing_at below (Some one) is = unused below one (usable (length stack) one) is

  -- where the frames end, no line follows
  pub lines_end : (fuel : ℕ) → (address ≡ 0) ⊎ (frame_in machinery.found address (length stack) ≡ None) → lines_from fuel machinery stands number address stack ≡ []
  lines_end zero why = refl
  lines_end (suc fuel) (inl none) =
      ap (λ b. if b then [] else lines_at machinery stands number address stack (λ next rest. lines_from fuel machinery stands (number + 1) next rest) (machinery.found address)) (eq-eqb address 0 none)
  lines_end (suc fuel) (inr none) =
      either_nothing (address == 0) _ (nothing_at (λ next rest. lines_from fuel machinery stands (number + 1) next rest) (machinery.found address) none)

  -- a frame, and those behind it
  pub lines_more : (fuel : ℕ) (one : FrameEntry) → (address ≡ 0 → ⊥) → frame_in machinery.found address (length stack) ≡ Some one
      → lines_from (fuel + 1) machinery stands number address stack
      ≡ lines_with machinery stands number stack (λ next rest. lines_from fuel machinery stands (number + 1) next rest) one (machinery.name_at address)
  lines_more fuel one some is =
      let below = λ (next : ℕ) (rest : List ℕ). lines_from fuel machinery stands (number + 1) next rest in
      let used = used_record (machinery.found address) (length stack) one is in
      let more : fuel + 1 ≡ suc fuel = omega arith in
      ap (λ (n : ℕ). lines_from n machinery stands number address stack) more
      ∙ ap (λ b. if b then [] else lines_at machinery stands number address stack below (machinery.found address)) (ne_eqb address 0 some)
      ∙ ap (lines_at machinery stands number address stack below) used.0
      ∙ ap (λ b. if b then lines_with machinery stands number stack below one (machinery.name_at address) else []) used.1

  -- the line of a frame, whose function has this name, and those of the frames behind it
  pub next_lines : (fuel : ℕ) (one : FrameEntry) (name constants words : List ℕ) (next : ℕ) (rest : List ℕ) → (address ≡ 0 → ⊥) → frame_in machinery.found address (length stack) ≡ Some one
      → machinery.name_at address ≡ Some name → machinery.constants ≡ constants → words ≡ take (frame_words one) stack
      → next ≡ slice_index stack (frame_words one) → rest ≡ drop (frame_words one + 1) stack
      → lines_from (fuel + 1) machinery stands number address stack ≡ line_with constants stands words one number name ++ lines_from fuel machinery stands (number + 1) next rest
  next_lines fuel one name constants words next rest some is named numbers words_are next_is rest_is =
      let lines = λ (k ws : List ℕ). line_with k stands ws one number name in
      let below = λ (to : ℕ) (others : List ℕ). lines_from fuel machinery stands (number + 1) to others in
      lines_more fuel one some is
      ∙ ap (lines_with machinery stands number stack below one) named
      ∙ ap (λ (k : List ℕ). lines k (take (frame_words one) stack) ++ below (slice_index stack (frame_words one)) (drop (frame_words one + 1) stack)) numbers
      ∙ ap (λ (ws : List ℕ). lines constants ws ++ below (slice_index stack (frame_words one)) (drop (frame_words one + 1) stack)) (sym words_are)
      ∙ ap (λ (to : ℕ). lines constants words ++ below to (drop (frame_words one + 1) stack)) (sym next_is)
      ∙ ap (λ (others : List ℕ). lines constants words ++ below next others) (sym rest_is)

  -- a frame that is in no function
  pub lines_unnamed : (fuel : ℕ) (one : FrameEntry) → (address ≡ 0 → ⊥) → frame_in machinery.found address (length stack) ≡ Some one → machinery.name_at address ≡ None
      → lines_from (fuel + 1) machinery stands number address stack ≡ []
  lines_unnamed fuel one some is unnamed =
      lines_more fuel one some is
      ∙ ap (lines_with machinery stands number stack (λ to others. lines_from fuel machinery stands (number + 1) to others) one) unnamed

-- where the running frame's words are all, nothing waits
pub none_waits : (machinery : Machinery) (stands : List Stand) (own : ℕ) (stack : List ℕ) → length stack ≤ own → waiting_lines machinery stands own stack ≡ []
none_waits machinery stands own stack all =
    lines_end machinery stands 1 (slice_index stack own) (drop (own + 1) stack) (length stack) (inl (get_or_past stack own 0 all))

-- the line that is put is the frame's
frame_line_is : (number : ℕ) (name : List ℕ) (first : Shown) (values : List Shown)
    → frame_line number name (map shown_text (first ∷ values)) ≡ deopt_line number name (first ∷ values) ∷ []
unfolding deopt_line
frame_line_is number name first values =
    let spaced = led (codes " ") (map shown_text (first ∷ values)) in
    let front = codes "! " ++ decimal number in
    ap (λ (line : List ℕ). line ∷ [])
    (append_assoc (front ++ codes " @" ++ name) spaced newline
    ∙ append_assoc (front ++ codes " @") name (spaced ++ newline)
    ∙ append_assoc front (codes " @") (name ++ (spaced ++ newline))
    ∙ append_assoc (codes "! ") (decimal number) (codes " @" ++ (name ++ (spaced ++ newline))))

pub line_of : (number : ℕ) (name : List ℕ) (values : List Shown) (shown : List (List ℕ)) → (values ≡ [] → ⊥) → map shown_text values ≡ shown
    → frame_line number name shown ≡ deopt_line number name values ∷ []
line_of number name [] shown some is = absurd (some refl)
line_of number name (first ∷ values) shown some is = ap (frame_line number name) (sym is) ∙ frame_line_is number name first values

-- without values there is none
pub line_none : (number : ℕ) (name : List ℕ) (values : List Shown) (shown : List (List ℕ)) → values ≡ [] → map shown_text values ≡ shown → frame_line number name shown ≡ []
line_none number name [] shown none is = ap (frame_line number name) (sym is)
line_none number name (first ∷ values) shown none is = cc

-- nothing is left to be added
pub before_end : {old new : Option (List ℕ)} {whole left : List ℕ} → AppendsBefore old new whole left → left ≡ [] → new ≡ append_known old whole
before_end {old} before none =
    before.added ∙ ap (append_known old) (sym (before.split ∙ ap (λ (l : List ℕ). before.done ++ l) none ∙ append-nil before.done))

-- what the frames' map has is what the machinery reads
module _ (machinery : Machinery) (found : ℕ → Option FrameEntry) (constants : List ℕ) (names : ℕ → Option (List ℕ)) (reads : IsReadBy found constants names machinery)
    (walked : ℕ → Option FrameEntry) (same : walked ≡ found) where
  pub found_at : (address left : ℕ) (one : Option FrameEntry) → frame_in walked address left ≡ one → frame_in machinery.found address left ≡ one
  found_at address left one is = ap (usable_only left) (reads.found_is address ∙ ap (λ (f : ℕ → Option FrameEntry). f address) (sym same)) ∙ is

  pub why_at : (address left : ℕ) → (address ≡ 0) ⊎ (frame_in walked address left ≡ None) → (address ≡ 0) ⊎ (frame_in machinery.found address left ≡ None)
  why_at address left (inl none) = inl none
  why_at address left (inr none) = inr (found_at address left None none)
