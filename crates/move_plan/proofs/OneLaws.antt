-- A text stands for one thing at most.
use Rattle.std.proofs.Common.{◌≡◌, ℕ, List, arith, inl, inr}
use Rattle.std.specs.Prelude.{ℤ}
use Rattle.std.specs.Str.Lines.{lines}
use Rattle.move_plan.specs.declared.plan_lines.PlanLine.{PlanLine}
use Rattle.move_plan.specs.PlanLines.{ReadsAs}
use Rattle.move_plan.specs.Plans.{IsPlanOf}
use Rattle.move_plan.specs.PlanFaults.{IsLeastFault}
use Rattle.move_plan.specs.InputNumbers.{Holds}
use Rattle.move_plan.specs.Inputs.{IsFirstInputFault, IsInputOf}
use Rattle.move_plan.proofs.FaultLaws.{one_reading}
use Rattle.move_plan.proofs.InputLaws.{one_number}
use Rattle.move_plan.proofs.TextLemmas.{says_unique}

pub one_plan : (text : List ℕ) (one other : List PlanLine) → IsPlanOf text one → IsPlanOf text other → one ≡ other
one_plan text one other is also = says_unique ReadsAs one_reading (lines text) one other is also

pub one_fault : (text : List ℕ) (line code other_line other_code : ℕ) → IsLeastFault text line code → IsLeastFault text other_line other_code
    → (line ≡ other_line) × (code ≡ other_code)
one_fault text line code other_line other_code is also = elim (is.least other_line other_code also.is) [
  | inl before ↦ elim (also.least line code is.is) [
    | inl behind ↦ absurd (omega arith)
    | inr here ↦ absurd (omega (arith, here.0))
  ]
  | inr here ↦ elim (also.least line code is.is) [
    | inl behind ↦ absurd (omega (arith, here.0))
    | inr also_here ↦ (here.0, omega (arith, here.1, also_here.1))
  ]
]

pub one_input : (text : List ℕ) (one other : List ℤ) → IsInputOf text one → IsInputOf text other → one ≡ other
one_input text one other is also = says_unique Holds one_number (lines text) one other is also

pub one_input_fault : (text : List ℕ) (line other : ℕ) → IsFirstInputFault text line → IsFirstInputFault text other → line ≡ other
one_input_fault text line other is also = omega (arith, is.first other also.is, also.first line is.is)
