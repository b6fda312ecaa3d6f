-- The line that closes a run.
use Rattle.std.specs.Prelude.{ℕ, List, ◌++◌, codes, decimal}
use Rattle.std.specs.Fmt.{signed_decimal}
use Rattle.sp_ids.specs.declared.ends.End.{End}
use Rattle.sp_ids.specs.declared.ends.End.TheVariants.{Return, Trap as Traps, OutOfSteps, Poison, LostFrame}
use Rattle.sp_ids.specs.declared.ends.Trap.{Trap}
use Rattle.sp_ids.specs.declared.ends.Trap.TheVariants.{Div, Overflow, Shift, Unreachable, Null, Bounds, Kind, Count, Full, Input, Depth, Tasks}

abbrev pub trap_name : Trap → List ℕ
trap_name Div = codes "div"
trap_name Overflow = codes "overflow"
trap_name Shift = codes "shift"
trap_name Unreachable = codes "unreachable"
trap_name Null = codes "null"
trap_name Bounds = codes "bounds"
trap_name Kind = codes "kind"
trap_name Count = codes "count"
trap_name Full = codes "full"
trap_name Input = codes "input"
trap_name Depth = codes "depth"
trap_name Tasks = codes "tasks"

-- the function of this name ran last
abbrev pub in_function : List ℕ → List ℕ
in_function name = codes " in @" ++ name

abbrev pub end_words : End → List ℕ → List ℕ
end_words (Return number) name = codes "= return " ++ signed_decimal number
end_words (Traps trap) name = codes "= trap " ++ (trap_name trap ++ in_function name)
end_words OutOfSteps name = codes "= out of steps"
end_words Poison name = codes "= poison" ++ in_function name
end_words LostFrame name = codes "= lost frame" ++ in_function name

abbrev pub counts : ℕ → ℕ → List ℕ
counts steps events = codes " steps " ++ (decimal steps ++ (codes " events " ++ (decimal events ++ codes "\n")))

-- a run ended so, where the function of this name ran last, after so many steps and events
abbrev pub closing_line : End → List ℕ → (steps events : ℕ) → List ℕ
closing_line end name steps events = end_words end name ++ counts steps events
