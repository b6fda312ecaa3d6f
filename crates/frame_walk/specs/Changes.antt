-- What a whole loop over the frames of a stack leaves.
use Rattle.std.specs.Prelude.{◌≡◌, ◌≢◌, ℕ, ◌+◌, List, length, take, drop, Option, Some, None, slice_index}
use Rattle.frame_walk.specs.Maps.{FrameEntry}
use Rattle.frame_walk.specs.Walks.{frame_in, frame_words}
use Rattle.frame_walk.specs.Lent.{joined}

-- the usable frames from a return address on are changed one behind the other, newest first: a frame's words become others as `does`
-- says, which also says in which state the next frame is changed. Each return word stays, and so does all that lies behind the last
-- usable frame; the answer is the address without a usable record at which the frames ended
pub data FramesChange (S : Type 0) (found : ℕ → Option FrameEntry) (does : S → FrameEntry → List ℕ → List ℕ → S → Type 0) : ℕ → S → List ℕ → S → List ℕ → Option ℕ → Type 0 where
  ended : (state : S) (stack : List ℕ) → FramesChange S found does 0 state stack state stack None
  lost : (address : ℕ) (state : S) (stack : List ℕ) → address ≢ 0 → frame_in found address (length stack) ≡ None
      → FramesChange S found does address state stack state stack (Some address)
  frame : (address : ℕ) (one : FrameEntry) (state next last : S) (stack words rest : List ℕ) (answer : Option ℕ)
      → address ≢ 0 → frame_in found address (length stack) ≡ Some one
      → does state one (take (frame_words one) stack) words next → length words ≡ frame_words one
      → FramesChange S found does (slice_index stack (frame_words one)) next (drop (frame_words one + 1) stack) last rest answer
      → FramesChange S found does address state stack last (joined (slice_index stack (frame_words one)) words rest) answer
