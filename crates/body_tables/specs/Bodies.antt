-- The instructions of a function as references, and what they give.
use Rattle.std.specs.Prelude.{Bool, if◌then◌else◌, is_some, List, [], ◌∷◌, Option, Some, None, map}
use Rattle.std.specs.Borrow.{Bor}
use Rattle.std.specs.List.{list_any}
use Rattle.ir_ast.specs.Insts.{Instruction}
use Rattle.ir_ast.specs.Derived.{is_step}
use Rattle.ir_ast.specs.Faults.PhiEdges.{is_phi}
use Rattle.ir_ast.specs.Values.{Definition, argument, outcome}

abbrev pub seen_insts : List (Bor Instruction) → List Instruction
seen_insts insts = map (λ inst. inst.now) insts

abbrev pub inst_of : Definition → Option Instruction
inst_of (argument arg) = None
inst_of (outcome inst) = Some inst

abbrev pub given_by : Instruction → List Definition
given_by inst = if is_some inst.result then outcome inst ∷ [] else []

-- whether one of these is a `getelementptr`, or a phi
abbrev pub any_step : List Instruction → Bool
any_step insts = list_any (λ inst. is_step inst.op) insts

abbrev pub any_phi : List Instruction → Bool
any_phi insts = list_any (λ inst. is_phi inst.op) insts
