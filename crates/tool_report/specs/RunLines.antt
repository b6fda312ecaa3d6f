-- The lines of a run's trace, and those that tell where its objects stand in the end.
use Rattle.std.specs.Prelude.{ℕ, Bool, true, false, List, ◌++◌, codes, decimal}
use Rattle.moving_heap.specs.declared.stands.Verdict.{Verdict}
use Rattle.moving_heap.specs.declared.stands.Verdict.TheVariants.{Empty, Legal, Illegal}

abbrev pub verdict_name : Verdict → List ℕ
verdict_name Empty = codes "empty"
verdict_name Legal = codes "legal"
verdict_name Illegal = codes "illegal"

-- a poll, or a new object
abbrev pub event_kind : Bool → List ℕ
event_kind true = codes " poll "
event_kind false = codes " new "

-- an event by its number, and the verdict on its group of moves
unfoldable pub event_line : ℕ → Bool → Verdict → List ℕ
event_line event poll verdict =
    codes "# " ++ (decimal event ++ (event_kind poll ++ (verdict_name verdict ++ codes "\n")))

-- an object that moves, by its number, with its old and its new address
unfoldable pub moved_line : (object old new : ℕ) → List ℕ
moved_line object old new =
    codes "# move " ++ (decimal object ++ (codes " " ++ (decimal old ++ (codes " " ++ (decimal new ++ codes "\n")))))

-- the slot of a derived pointer: its task, its frame, counted from the newest, its bytes from the frame's stack pointer, and its
-- word before and after the moves
unfoldable pub slot_line : (task frame offset old new : ℕ) → List ℕ
slot_line task frame offset old new =
    codes "# slot " ++ (decimal task ++ (codes " " ++ (decimal frame ++ (codes " " ++ (decimal offset
    ++ (codes " " ++ (decimal old ++ (codes " " ++ (decimal new ++ codes "\n")))))))))

-- an object by its number, the name of its layout, how many elements it has, and its address
unfoldable pub place_line : ℕ → List ℕ → (count address : ℕ) → List ℕ
place_line object layout count address =
    codes "@ " ++ (decimal object ++ (codes " %" ++ (layout ++ (codes " " ++ (decimal count ++ (codes " " ++ (decimal address ++ codes "\n")))))))
