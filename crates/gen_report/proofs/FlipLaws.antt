-- The text `every 1 flip` is a plan without a fault, by which every event moves all objects.
use Rattle.std.proofs.Common.{◌≡◌, ℕ, zero, suc, ◌+◌, ◌<◌, List, [], ◌∷◌, Some, codes, refl, sym, subst, ◌∙◌, arith}
use Rattle.std.specs.Prelude.{slice_get}
use Rattle.std.specs.Fmt.{digits}
use Rattle.std.specs.Str.Lines.{lines}
use Rattle.move_plan.specs.declared.plan_lines.PlanLine.{PlanLine}
use Rattle.move_plan.specs.declared.plan_lines.PlanLine.TheVariants.{Every}
use Rattle.move_plan.specs.PlanFaults.{HasFault, no_form, falls, late, second_go, too_many}
use Rattle.move_plan.specs.PlanLines.{ReadsAs}
use Rattle.move_plan.specs.Plans.{IsPlanOf}
use Rattle.move_plan.specs.Texts.{HasLine}
use Rattle.move_plan.specs.Words.{words}
use Rattle.move_plan.proofs.OneLaws.{one_plan}
use Rattle.gen_report.specs.Summaries.{flipping}

abbrev flip_text : List ℕ
flip_text = codes "every 1 flip"

one_line : lines flip_text ≡ flip_text ∷ []
one_line = refl

reads : ReadsAs flip_text (Some (Every 1))
unfolding digits words
reads = record { spelled = refl; in_range = (omega arith, omega arith) }

is_plan : IsPlanOf flip_text flipping
is_plan = record { readings = Some (Every 1) ∷ []; each = (reads, tt); given = refl }

-- it has one line
record IsFirst (number : ℕ) (line : List ℕ) : Type 0 where
  number_is : number ≡ 1
  line_is : line ≡ flip_text

none_there : (place : ℕ) (line : List ℕ) → slice_get {X = List ℕ} [] place ≡ Some line → ⊥
none_there zero line is = cc
none_there (suc place) line is = cc

first_at : (place : ℕ) (line : List ℕ) → slice_get (flip_text ∷ []) place ≡ Some line → IsFirst (place + 1) line
first_at zero line is = record { number_is = refl; line_is = cc }
first_at (suc place) line is = absurd (none_there place line is)

first : (number : ℕ) (line : List ℕ) → HasLine flip_text number line → IsFirst number line
first number line has =
    let found = first_at has.place line has.stands in
    record { number_is = has.counted ∙ found.number_is; line_is = found.line_is }

not_both : (earlier number : ℕ) (line other : List ℕ) → earlier < number → HasLine flip_text earlier line → HasLine flip_text number other → ⊥
not_both earlier number line other before one two =
    let a = (first earlier line one).number_is in
    let b = (first number other two).number_is in
    absurd (omega (arith, a, b, before))

pub no_fault : (number code : ℕ) → HasFault flip_text number code → ⊥
no_fault number code (no_form line has none is) = none (Some (Every 1)) (subst (λ (l : List ℕ). ReadsAs l (Some (Every 1))) (sym (first number line has).line_is) reads)
no_fault number code (falls earlier above event before what less one at two at_too below is) = not_both earlier number one.line two.line less one.has two.has
no_fault number code (late earlier period line less has blank says is) = not_both earlier number line says.line less has says.has
no_fault number code (second_go earlier event task other less one two is) = not_both earlier number one.line two.line less one.has two.has
no_fault number code (too_many line has is code_is) = let n = (first number line has).number_is in absurd (omega (arith, n, is))

pub flips : (plan : List PlanLine) → IsPlanOf flip_text plan → plan ≡ flipping
flips plan is = one_plan flip_text plan flipping is is_plan
