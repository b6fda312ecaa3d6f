-- The functions of a module before groups are made, and what each step asks of them.
use Rattle.std.specs.Prelude.{ℕ, List, length, map, sum}
use Rattle.ir_ast.specs.declared.ops.Operand.{Operand}
use Rattle.ir_ast.specs.Formed.{IsFormed}
use Rattle.ir_ast.specs.Funcs.{Function}
use Rattle.base_forms.specs.Based.{base_table, based}
use Rattle.base_forms.specs.Polls.{placed}
use Rattle.poll_place.specs.Ready.{IsReady}
use Rattle.poll_place.specs.Room.{HasFewLines}
use Rattle.rewriting_forms.specs.Liveness.{live_lists}
use Rattle.rewriting_forms.specs.Rewritten.{rewritten}
use Rattle.statepoint_insert.specs.Marked.{IsReady as IsReadyForGroups}

-- what a contract sees of a `Before`: a function with bases, and the base of each of its values
pub record BeforeGroups : Type 0 where
  pub func : Function
  pub bases : List Operand

-- that of a function with its polls
abbrev pub made_of : Function → BeforeGroups
made_of func = record { func = based func; bases = base_table func }

-- how many relocates a function with its polls will have: one for each pointer in a live list
abbrev pub relocates_of : Function → ℕ
relocates_of func = sum (map length (live_lists (based func) (base_table func)))

-- bases and checks can be put in, and with them it is formed
pub record CanBeMade (func : Function) : Type 0 where
  pub ready : IsReady func
  pub formed : IsFormed (based func)

-- polls can be placed in it, and then bases and checks put in
pub record CanBegin (func : Function) : Type 0 where
  pub polls : HasFewLines func
  pub bases : CanBeMade (placed func)

-- groups can be put into it
abbrev pub CanHaveGroups : BeforeGroups → Type 0
CanHaveGroups before = IsReadyForGroups before.func before.bases

abbrev pub rewritten_of : BeforeGroups → Function
rewritten_of before = rewritten before.func before.bases
