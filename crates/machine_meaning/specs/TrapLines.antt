-- What the frames that wait show at a trap: it is read from the stack of the running task through the map, from the caller
-- upwards (Stack maps and patch points in LLVM, "Stack Map Format").
use Rattle.std.specs.Prelude.{ℕ, zero, suc, ◌+◌, ◌-◌, ◌%◌, ◌^◌, ◌==◌, if◌then◌else◌, List, [], ◌∷◌, ◌++◌, length, take, drop, map, fold, codes, decimal, Option, Some, None, slice_index}
use Rattle.std.specs.Int.{w32, cast_unsigned}
use Rattle.std.specs.List.{flat_map}
use Rattle.std.specs.Fmt.{signed_decimal}
use Rattle.sp_ids.specs.Numbers.{signed}
use Rattle.sp_ids.specs.declared.ends.End.{End}
use Rattle.sp_ids.specs.declared.ends.End.TheVariants.{Trap}
use Rattle.map_bytes.specs.declared.values.Place.{Place}
use Rattle.moving_heap.specs.declared.stands.Stand.{Stand}
use Rattle.moving_heap.specs.Places.{stands_at}
use Rattle.frame_walk.specs.Maps.{FrameEntry, Pair, is_constant, is_listed, deopt_places, usable, word_place, pairs_of}
use Rattle.frame_walk.specs.Walks.{frame_words}
use Rattle.object_meaning.specs.Effects.{newline}
use Rattle.machine_meaning.specs.Machines.{Machine, Machinery}

-- ---- values

-- the last of these pairs with this derived slot
abbrev pub pair_at : List Pair → ℕ → Option Pair
pair_at pairs word = fold (λ found pair. if pair.derived == word then Some pair else found) None pairs

abbrev pub shown_word : ℕ → List ℕ
shown_word word = signed_decimal (signed 64 word)

-- a word whose base is the address of an object, or isn't
abbrev pub shown_over : ℕ → ℕ → Option Stand → List ℕ
shown_over base word (Some stand) = decimal stand.number ++ codes "+" ++ decimal ((word + 2 ^ 64 - base) % 2 ^ 64)
shown_over base word None = shown_word word

abbrev pub shown_by : List Stand → List ℕ → ℕ → Option Pair → List ℕ
shown_by stands words word (Some pair) = shown_over (slice_index words pair.base) word (stands_at stands (slice_index words pair.base))
shown_by stands words word None = shown_word word

-- a slot of a frame with these words, which have these pairs
abbrev pub shown_slot : List Stand → List ℕ → List Pair → ℕ → List ℕ
shown_slot stands words pairs place = shown_by stands words (slice_index words place) (pair_at pairs place)

-- a location of a frame, where the map has these constants; the place of a listed one is read by its field, which has no sign
abbrev pub shown_at : List ℕ → List Stand → List ℕ → List Pair → Place → List ℕ
shown_at constants stands words pairs place =
    if is_constant place then signed_decimal place.offset
    else if is_listed place then shown_word (slice_index constants (cast_unsigned w32 place.offset))
    else shown_slot stands words pairs (word_place place)

abbrev pub shown_place : Machinery → List Stand → List ℕ → List Pair → Place → List ℕ
shown_place machinery = shown_at machinery.constants

-- ---- frames

-- the line of a frame of a function with this name, where its record has "deopt" locations
abbrev pub frame_line : ℕ → List ℕ → List (List ℕ) → List (List ℕ)
frame_line number name [] = []
frame_line number name (value ∷ values) =
    (codes "! " ++ decimal number ++ codes " @" ++ name ++ flat_map (λ each. codes " " ++ each) (value ∷ values) ++ newline) ∷ []

abbrev pub values_of : Machinery → List Stand → List ℕ → FrameEntry → List (List ℕ)
values_of machinery stands words one = map (shown_place machinery stands words (pairs_of one)) (deopt_places one)

-- a frame with this record, of a function with this name, and the frames behind it
abbrev pub lines_with : Machinery → List Stand → ℕ → List ℕ → (ℕ → List ℕ → List (List ℕ)) → FrameEntry → Option (List ℕ) → List (List ℕ)
lines_with machinery stands number stack below one None = []
lines_with machinery stands number stack below one (Some name) =
    frame_line number name (values_of machinery stands (take (frame_words one) stack) one)
    ++ below (slice_index stack (frame_words one)) (drop (frame_words one + 1) stack)

-- without a usable record the lines end
abbrev pub lines_at : Machinery → List Stand → ℕ → ℕ → List ℕ → (ℕ → List ℕ → List (List ℕ)) → Option FrameEntry → List (List ℕ)
lines_at machinery stands number address stack below None = []
lines_at machinery stands number address stack below (Some one) =
    if usable (length stack) one then lines_with machinery stands number stack below one (machinery.name_at address) else []

-- the lines of a stack from a frame on, which has this number and returns to `address`; a stack of so many words has no
-- more frames
abbrev pub lines_from : ℕ → Machinery → List Stand → ℕ → ℕ → List ℕ → List (List ℕ)
lines_from zero machinery stands number address stack = []
lines_from (suc fuel) machinery stands number address stack =
    if address == 0 then []
    else lines_at machinery stands number address stack (λ next rest. lines_from fuel machinery stands (number + 1) next rest) (machinery.found address)

-- the running frame has these words and its return address in front of the frames that wait
abbrev pub waiting_lines : Machinery → List Stand → ℕ → List ℕ → List (List ℕ)
waiting_lines machinery stands own stack =
    lines_from (length stack) machinery stands 1 (slice_index stack own) (drop (own + 1) stack)

-- what is written after the last printed line
abbrev pub closing_of : Machinery → End → Machine → List (List ℕ)
closing_of machinery (Trap trap) machine =
    waiting_lines machinery machine.heap.stands (machinery.frame_words machine.state.running.func) machine.stack
closing_of machinery _ machine = []
