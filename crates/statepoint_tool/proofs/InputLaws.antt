-- What reading an input and a plan come to.
use Rattle.std.proofs.Common.{◌≡◌, ℕ, List, cond, ◌==◌, refl, sym, ap, ◌∙◌}
use Rattle.std.specs.Prelude.{ℤ}
use Rattle.move_plan.specs.declared.plan_lines.PlanLine.{PlanLine}
use Rattle.move_plan.specs.Inputs.{HasNoInputFault, IsFirstInputFault, IsInputOf}
use Rattle.move_plan.specs.PlanFaults.{HasNoFault as HasNoPlanFault}
use Rattle.move_plan.specs.Plans.{IsPlanOf}
use Rattle.move_plan.proofs.OneLaws.{one_fault, one_input, one_input_fault, one_plan}
use Rattle.statepoint_tool.specs.PlanFaults.{IsLeastPlanFault, code_of_fault, line_of_fault}
use Rattle.statepoint_tool.specs.Steps.{Step, Go, Stop}
use Rattle.statepoint_tool.specs.Work.{ReadingInput, has_numbers, no_input, ReadingPlan, planned, no_plan}
use Rattle.statepoint_tool.specs.declared.refusal.Cause.{Cause}
use Rattle.statepoint_tool.specs.declared.refusal.Cause.TheVariants.{Input, Plan}
use Rattle.statepoint_tool.specs.declared.refusal.PlanFault.{PlanFault}
use Rattle.statepoint_tool.specs.declared.refusal.PlanFault.TheVariants.{Syntax, Order, TwoGo, Limit}
use Rattle.statepoint_tool.proofs.StepLaws.{Once, stop_in, same-value, not_both}

-- ---- a fault of a plan is its line and its code

fault_at : (line code : ℕ) → PlanFault
fault_at line code =
    cond (code == 1) (Syntax line) (cond (code == 2) (Order line) (cond (code == 3) (TwoGo line) (Limit line)))

fault_at-is : (fault : PlanFault) → fault_at (line_of_fault fault) (code_of_fault fault) ≡ fault
unfolding fault_at
fault_at-is (Syntax line) = refl
fault_at-is (Order line) = refl
fault_at-is (TwoGo line) = refl
fault_at-is (Limit line) = refl

one-plan_fault : (text : List ℕ) (one other : PlanFault) → IsLeastPlanFault text one → IsLeastPlanFault text other → one ≡ other
one-plan_fault text one other is also =
    let same = one_fault text (line_of_fault one) (code_of_fault one) (line_of_fault other) (code_of_fault other) is also in
    sym (fault_at-is one)
    ∙ (ap (λ (line : ℕ). fault_at line (code_of_fault one)) same.0
    ∙ (ap (λ (code : ℕ). fault_at (line_of_fault other) code) same.1 ∙ fault_at-is other))

-- ---- each phase comes to one step

pub Once-ReadingInput : (text : List ℕ) → Once (ReadingInput text)
Once-ReadingInput text _ _ (has_numbers one is clear) (has_numbers other also none) = ap Go (one_input text one other is also)
Once-ReadingInput text _ _ (has_numbers numbers is clear) (no_input line first) = absurd (clear line first.is)
Once-ReadingInput text _ _ (no_input line first) (has_numbers numbers is clear) = absurd (clear line first.is)
Once-ReadingInput text _ _ (no_input one first) (no_input other also) =
    ap (λ (line : ℕ). stop_in (List ℤ) (Input line)) (one_input_fault text one other first also)

pub Once-ReadingPlan : (text : List ℕ) → Once (ReadingPlan text)
Once-ReadingPlan text _ _ (planned one is clear) (planned other also none) = ap Go (one_plan text one other is also)
Once-ReadingPlan text _ _ (planned plan is clear) (no_plan fault least) = absurd (clear (line_of_fault fault) (code_of_fault fault) least.is)
Once-ReadingPlan text _ _ (no_plan fault least) (planned plan is clear) = absurd (clear (line_of_fault fault) (code_of_fault fault) least.is)
Once-ReadingPlan text _ _ (no_plan one least) (no_plan other also) =
    ap (λ (fault : PlanFault). stop_in (List PlanLine) (Plan fault)) (one-plan_fault text one other least also)

-- ---- what a step tells of the text

pub record GivesInput (text : List ℕ) (numbers : List ℤ) : Type 0 where
  pub are : IsInputOf text numbers
  pub faultless : HasNoInputFault text

pub record RefusesInput (text : List ℕ) (cause : Cause) : Type 0 where
  pub line : ℕ
  pub is : cause ≡ Input line
  pub first : IsFirstInputFault text line

input_by : (text : List ℕ) (step : Step (List ℤ)) (numbers : List ℤ) → step ≡ Go numbers → ReadingInput text step → GivesInput text numbers
input_by text _ numbers same (has_numbers own is clear) =
    let e = same-value own numbers same in record { are = rw e at is; faultless = clear }
input_by text _ numbers same (no_input line first) = absurd (not_both numbers (Input line) (sym same))

pub input-gives : (text : List ℕ) (numbers : List ℤ) → ReadingInput text (Go numbers) → GivesInput text numbers
input-gives text numbers reading = input_by text (Go numbers) numbers refl reading

no_input_by : (text : List ℕ) (step : Step (List ℤ)) (cause : Cause) → step ≡ Stop cause → ReadingInput text step → RefusesInput text cause
no_input_by text _ cause same (has_numbers numbers is clear) = absurd (not_both numbers cause same)
no_input_by text _ cause same (no_input line first) =
    record { line = line; is = (let s : stop_in (List ℤ) (Input line) ≡ Stop cause = same in cc); first = first }

pub input-refused : (text : List ℕ) (cause : Cause) → ReadingInput text (Stop cause) → RefusesInput text cause
input-refused text cause reading = no_input_by text (Stop cause) cause refl reading

pub record GivesPlan (text : List ℕ) (plan : List PlanLine) : Type 0 where
  pub is : IsPlanOf text plan
  pub faultless : HasNoPlanFault text

pub record RefusesPlan (text : List ℕ) (cause : Cause) : Type 0 where
  pub fault : PlanFault
  pub is : cause ≡ Plan fault
  pub least : IsLeastPlanFault text fault

plan_by : (text : List ℕ) (step : Step (List PlanLine)) (plan : List PlanLine) → step ≡ Go plan → ReadingPlan text step → GivesPlan text plan
plan_by text _ plan same (planned own is clear) =
    let e = same-value own plan same in record { is = rw e at is; faultless = clear }
plan_by text _ plan same (no_plan fault least) = absurd (not_both plan (Plan fault) (sym same))

pub plan-gives : (text : List ℕ) (plan : List PlanLine) → ReadingPlan text (Go plan) → GivesPlan text plan
plan-gives text plan reading = plan_by text (Go plan) plan refl reading

no_plan_by : (text : List ℕ) (step : Step (List PlanLine)) (cause : Cause) → step ≡ Stop cause → ReadingPlan text step → RefusesPlan text cause
no_plan_by text _ cause same (planned plan is clear) = absurd (not_both plan cause same)
no_plan_by text _ cause same (no_plan fault least) =
    record { fault = fault; is = (let s : stop_in (List PlanLine) (Plan fault) ≡ Stop cause = same in cc); least = least }

pub plan-refused : (text : List ℕ) (cause : Cause) → ReadingPlan text (Stop cause) → RefusesPlan text cause
plan-refused text cause reading = no_plan_by text (Stop cause) cause refl reading
