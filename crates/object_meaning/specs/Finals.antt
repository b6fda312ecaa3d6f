-- The ends that a run on objects has.
use Rattle.sp_ids.specs.declared.ends.End.{End}
use Rattle.sp_ids.specs.declared.ends.End.TheVariants as ended

-- a run on objects returns, traps or runs out of steps
abbrev pub IsFinal : End → Type 0
IsFinal (ended.Return answer) = Unit {0}
IsFinal (ended.Trap trap) = Unit {0}
IsFinal ended.OutOfSteps = Unit {0}
IsFinal ended.Poison = ⊥
IsFinal ended.LostFrame = ⊥
