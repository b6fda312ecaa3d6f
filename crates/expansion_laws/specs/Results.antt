-- What a row of steps gives, by the meaning's operators.
use Rattle.std.specs.Prelude.{ℕ, ◌-◌, ◌==◌, if◌then◌else◌, length, List, [], ◌∷◌, ◌++◌, get_or, Result, Ok, Err}
use Rattle.sp_ids.specs.declared.ends.Trap.{Trap}
use Rattle.ir_lines.specs.Modules.{binary_of}
use Rattle.object_meaning.specs.Numbers.{arithmetic}
use Rattle.object_meaning.specs.Comparisons.{numbers_compare, bit}
use Rattle.llvm_steps.specs.declared.steps.Operand.{Operand}
use Rattle.llvm_steps.specs.declared.steps.Operand.TheVariants.{Given, Made, Number}
use Rattle.llvm_steps.specs.declared.steps.Step.{Step}
use Rattle.llvm_steps.specs.declared.steps.Step.TheVariants.{Compute, Compare, Choose, ChooseBit}

-- an operand, over the intrinsic's operands and the results of the steps so far
abbrev pub operand_in : List ℕ → List ℕ → Operand → ℕ
operand_in given made (Given place) = get_or given place 0
operand_in given made (Made step) = get_or made step 0
operand_in given made (Number number) = number

-- the result of a step on integers of this width
abbrev pub step_gives : ℕ → (Operand → ℕ) → Step → Result ℕ Trap
step_gives width operand (Compute op left right) = arithmetic (binary_of op) width (operand left) (operand right)
step_gives width operand (Compare pred left right) = Ok (bit (numbers_compare pred width (operand left) (operand right)))
step_gives width operand (Choose test left right) = Ok (if operand test == 1 then operand left else operand right)
step_gives width operand (ChooseBit test left right) = Ok (if operand test == 1 then operand left else operand right)

abbrev pub made_then : List ℕ → (List ℕ → Result (List ℕ) Trap) → Result ℕ Trap → Result (List ℕ) Trap
made_then made more (Ok value) = more (made ++ value ∷ [])
made_then made more (Err trap) = Err trap

-- the results of the steps, behind those that were made
abbrev pub results_of : ℕ → List ℕ → List ℕ → List Step → Result (List ℕ) Trap
results_of width given made [] = Ok made
results_of width given made (s ∷ ss) =
    made_then made (λ next. results_of width given next ss) (step_gives width (operand_in given made) s)

-- ---- what comes of a row

-- the result of the last step
abbrev pub last_of : Result (List ℕ) Trap → Result ℕ Trap
last_of (Ok made) = Ok (get_or made (length made - 1) 0)
last_of (Err trap) = Err trap

-- of a checked operation the number, and whether it overflowed
abbrev pub pair_of : Result (List ℕ) Trap → Result (ℕ × ℕ) Trap
pair_of (Ok made) = Ok (get_or made 0 0, get_or made (length made - 1) 0)
pair_of (Err trap) = Err trap

-- what a row gives of these operands
abbrev pub row_gives : ℕ → List ℕ → List Step → Result ℕ Trap
row_gives width given row = last_of (results_of width given [] row)

abbrev pub row_checks : ℕ → List ℕ → List Step → Result (ℕ × ℕ) Trap
row_checks width given row = pair_of (results_of width given [] row)
