-- What a stack ends as whose words were lent.
use Rattle.std.specs.Prelude.{ℕ, List, length, take, drop, ◌++◌}
use Rattle.std.specs.Borrow.{MutBor, Fml, GName, Array, u64, follows}
use Rattle.frame_walk.specs.contracts.stack.Stack.{the_row}

-- these words in place of the stack's. They are as many; others would be cut, or filled up from the stack's own
abbrev pub refilled : List ℕ → List ℕ → List ℕ
refilled stack words = take (length stack) (words ++ drop (length words) stack)

-- the words that are lent under `name` are the stack's own: it ends as they do
abbrev pub LendsStack : MutBor (List ℕ) → GName → Fml
LendsStack stack name = follows the_row (Array u64 0) stack.ghost_name name (refilled stack.now)
