-- Changes of slots, pair by pair and frame by frame.
use Rattle.std.proofs.Common.{◌≡◌, ℕ, zero, suc, ◌+◌, ◌-◌, ◌*◌, ◌/◌, ◌<◌, ◌≤◌, List, [], ◌∷◌, ◌++◌, length, take, drop, map, refl, sym, ap, ◌∙◌, arith, Option, Some}
use Rattle.std.specs.Prelude.{min, slice_index}
use Rattle.std.proofs.lemmas.Bool.{ne_eqb}
use Rattle.std.proofs.lemmas.List.{append-nil, append_assoc, drop-drop, drop_all, get_or-drop, get_or_past, length-drop, map-append, take_all}
use Rattle.moving_heap.specs.declared.stands.Moved.{Moved}
use Rattle.frame_walk.specs.Maps.{FrameEntry, Pair}
use Rattle.frame_walk.specs.Walks.{frame_words}
use Rattle.machine_meaning.specs.Happenings.{SlotChange as Change, changes_from, frame_changes, slot_change}
use Rattle.run_traces.specs.declared.frames.SlotChange.{SlotChange}
use Rattle.run_traces.specs.Changes.{change_of}

pub change_is : (task frame offset old new word : ℕ) (before after : List ℕ) (pair : Pair) → offset ≡ 8 * word → old ≡ slice_index before word → new ≡ slice_index after word → word ≡ pair.derived
    → change_of (record { task = task; frame = frame; offset = offset; old = old; new = new }) ≡ slot_change task frame before after pair
change_is task frame offset old new word before after pair one two three four =
    ap (λ (o : ℕ). change_of (record { task = task; frame = frame; offset = o; old = old; new = new })) one
    ∙ ap (λ (w : ℕ). change_of (record { task = task; frame = frame; offset = 8 * word; old = w; new = new })) two
    ∙ ap (λ (w : ℕ). change_of (record { task = task; frame = frame; offset = 8 * word; old = slice_index before word; new = w })) three
    ∙ ap (λ (w : ℕ). change_of (record { task = task; frame = frame; offset = 8 * w; old = slice_index before w; new = slice_index after w })) four

pub added : (f : Pair → Change) (items pushed : List SlotChange) (x : SlotChange) (pair : Pair) (rest : List Pair) → pushed ≡ items ++ x ∷ [] → change_of x ≡ f pair
    → map change_of pushed ++ map f rest ≡ map change_of items ++ map f (pair ∷ rest)
added f items pushed x pair rest is same =
    ap (λ (l : List SlotChange). map change_of l ++ map f rest) is
    ∙ ap (λ (l : List Change). l ++ map f rest) (map-append change_of items (x ∷ []))
    ∙ append_assoc (map change_of items) (change_of x ∷ []) (map f rest)
    ∙ ap (λ (y : Change). map change_of items ++ y ∷ map f rest) same

-- ---- frames

frame_more : (fuel : ℕ) (found : ℕ → Option FrameEntry) (moves : List Moved) (task frame address : ℕ) (stack : List ℕ) (one : FrameEntry) → (address ≡ 0 → ⊥) → found address ≡ Some one
    → changes_from (fuel + 1) found moves task frame address stack
    ≡ frame_changes moves task frame one (take (frame_words one) stack)
    ++ changes_from fuel found moves task (frame + 1) (slice_index stack (frame_words one)) (drop (frame_words one + 1) stack)
frame_more fuel found moves task frame address stack one some is =
    let more : fuel + 1 ≡ suc fuel = omega arith in rw (more, ne_eqb address 0 some, is) refl

none_from : (fuel : ℕ) (found : ℕ → Option FrameEntry) (moves : List Moved) (task frame : ℕ) (stack : List ℕ) → changes_from fuel found moves task frame 0 stack ≡ []
none_from zero found moves task frame stack = refl
none_from (suc fuel) found moves task frame stack = refl

module _ (found : ℕ → Option FrameEntry) (moves : List Moved) (task frame address : ℕ) (stack : List ℕ) (place : ℕ) (one : FrameEntry) (some : address ≡ 0 → ⊥) (is : found address ≡ Some one)
    (within : place ≤ length stack) (items new all : List Change) where
  -- the frame has all words that are left
  pub last_frame : (fuel count : ℕ) → count ≡ min (one.frame_bytes / 8) (length stack - place) → count ≡ length stack - place
      → new ≡ items ++ frame_changes moves task frame one (take count (drop place stack))
      → items ++ changes_from (fuel + 1) found moves task frame address (drop place stack) ≡ all → new ≡ all
  last_frame fuel count least whole added so_far =
      let rest = drop place stack in
      let size : length (drop place stack) ≡ length stack - place = length-drop place stack in
      let words : take count (drop place stack) ≡ take (frame_words one) (drop place stack) = take_all count rest (omega arith) ∙ sym (take_all (frame_words one) rest (omega arith)) in
      let zero : slice_index (drop place stack) (frame_words one) ≡ 0 = get_or_past rest (frame_words one) 0 (omega arith) in
      let none : changes_from fuel found moves task (frame + 1) (slice_index (drop place stack) (frame_words one)) (drop (frame_words one + 1) (drop place stack)) ≡ [] =
      ap (λ (next : ℕ). changes_from fuel found moves task (frame + 1) next (drop (frame_words one + 1) rest)) zero ∙ none_from fuel found moves task (frame + 1) (drop (frame_words one + 1) rest) in
      added ∙ ap (λ (ws : List ℕ). items ++ frame_changes moves task frame one ws) words
      ∙ ap (λ (l : List Change). items ++ l) (sym (append-nil (frame_changes moves task frame one (take (frame_words one) rest)))
      ∙ ap (λ (l : List Change). frame_changes moves task frame one (take (frame_words one) rest) ++ l) (sym none)
      ∙ sym (frame_more fuel found moves task frame address rest one some is))
      ∙ so_far

  -- frames are left behind it
  pub next_frame : (fuel count next : ℕ) → count ≡ min (one.frame_bytes / 8) (length stack - place) → count < length stack - place → next ≡ slice_index stack (place + count)
      → new ≡ items ++ frame_changes moves task frame one (take count (drop place stack))
      → items ++ changes_from (fuel + 1) found moves task frame address (drop place stack) ≡ all
      → new ++ changes_from fuel found moves task (frame + 1) next (drop (place + count + 1) stack) ≡ all
  next_frame fuel count next least short word added so_far =
      let rest = drop place stack in
      let count_is : count ≡ frame_words one = omega arith in
      let behind : drop (place + count + 1) stack ≡ drop (count + 1) (drop place stack) =
      (let e : place + count + 1 ≡ place + (count + 1) = omega arith in ap (λ (n : ℕ). drop n stack) e) ∙ sym (drop-drop (count + 1) place stack) in
      let at : next ≡ slice_index (drop place stack) count = word ∙ sym (get_or-drop place stack count 0) in
      ap (λ (l : List Change). l ++ changes_from fuel found moves task (frame + 1) next (drop (place + count + 1) stack)) added
      ∙ append_assoc items (frame_changes moves task frame one (take count rest)) (changes_from fuel found moves task (frame + 1) next (drop (place + count + 1) stack))
      ∙ ap (λ (n : ℕ). items ++ (frame_changes moves task frame one (take count rest) ++ changes_from fuel found moves task (frame + 1) n (drop (place + count + 1) stack))) at
      ∙ ap (λ (l : List ℕ). items ++ (frame_changes moves task frame one (take count rest) ++ changes_from fuel found moves task (frame + 1) (slice_index rest count) l)) behind
      ∙ ap (λ (n : ℕ). items ++ (frame_changes moves task frame one (take n rest) ++ changes_from fuel found moves task (frame + 1) (slice_index rest n) (drop (n + 1) rest))) count_is
      ∙ ap (λ (l : List Change). items ++ l) (sym (frame_more fuel found moves task frame address rest one some is))
      ∙ so_far

-- words that were written back are the words
pub written_back : (len : ℕ) (items old new : List ℕ) → old ≡ items → length new ≡ length old → len ≡ length items → take len (new ++ drop (length new) items) ≡ new
written_back len items old new is same whole =
    let size : length new ≡ length items = same ∙ ap length is in
    let none : drop (length new) items ≡ [] = drop_all (length new) items (omega arith) in
    ap (λ (rest : List ℕ). take len (new ++ rest)) none ∙ (ap (take len) (append-nil new) ∙ take_all len new (omega arith))
