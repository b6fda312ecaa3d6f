-- What a fact directly behind the definition of its pointer asks before that line.
use Rattle.std.specs.Prelude.{◌≡◌, ℕ, Bool, false, ◌==◌, ◌&&◌, ◌||◌, ◌-◌, List, Option, Some, None, if◌then◌else◌}
use Rattle.ir_ast.specs.declared.ops.Operand.{Operand}
use Rattle.ir_ast.specs.declared.ops.Op.{Op}
use Rattle.ir_ast.specs.declared.ops.Op.TheVariants.{Select, Gep, Load}
use Rattle.ir_ast.specs.Insts.{Instruction}
use Rattle.ir_ast.specs.Funcs.{Function}
use Rattle.ir_ast.specs.Types.{is_pointer}
use Rattle.object_meaning.specs.Lines.{Line}
use Rattle.pair_facts.specs.declared.bases.Base.{Base}
use Rattle.pair_facts.specs.declared.bases.Base.TheVariants.{Any, Named}
use Rattle.pair_facts.specs.Lines.{line_in, gives, operand_at, same_operand, is_select}
use Rattle.pair_facts.specs.Pairs.{Pairs, is_named, is_base_named, own_pairs}
use Rattle.base_facts.specs.declared.facts.Wanted.{Wanted}
use Rattle.base_facts.specs.declared.facts.Wanted.TheVariants as bases
use Rattle.base_facts.specs.declared.facts.Fact.{Fact}
use Rattle.base_facts.specs.declared.steps.Step.{Step}
use Rattle.base_facts.specs.declared.steps.Step.TheVariants.{Known, One, Two}
use Rattle.base_facts.specs.Facts.{base_in, fact_at, holds}

-- whether what a step asks holds
abbrev pub step_holds : Function → Pairs → Step → Bool
step_holds func front (Known answer) = answer
step_holds func front (One fact) = holds func front fact
step_holds func front (Two first second) = holds func front first && holds func front second

abbrev pub asked_without : ℕ → ℕ → ℕ → Operand → Base → Option Fact
asked_without block at value operand base = if is_named value operand || is_base_named value base then None else fact_at block at operand base

abbrev pub one_of : Option Fact → Step
one_of (Some fact) = One fact
one_of None = Known false

abbrev pub two_of : Option Fact → Option Fact → Step
two_of (Some first) (Some second) = Two first second
two_of (Some first) None = Known false
two_of None second = Known false

abbrev pub is_merge_of : Instruction → Instruction → Bool
is_merge_of last inst = (is_select last.op && is_pointer last.ty) && same_operand (operand_at last.operands 0) (operand_at inst.operands 0)

module _ (block at value : ℕ) where
  abbrev pub own_step : Instruction → Step
  own_step inst = two_of (asked_without block at value (operand_at inst.operands 1) (Named (operand_at inst.operands 1)))
      (asked_without block at value (operand_at inst.operands 2) (Named (operand_at inst.operands 2)))

  abbrev pub merged : Instruction → Instruction → Bool → Step
  merged inst last given =
      if given && is_merge_of last inst
      then two_of (asked_without block at value (operand_at inst.operands 1) (Named (operand_at last.operands 1)))
      (asked_without block at value (operand_at inst.operands 2) (Named (operand_at last.operands 2)))
      else Known false

  abbrev pub follow_step : Option Line → Instruction → ℕ → Step
  follow_step None inst base = Known false
  follow_step (Some last) inst base = merged inst last.inst (gives last base)

  abbrev pub select_step : Option Line → Instruction → Wanted → Step
  select_step last inst bases.Any = two_of (asked_without block at value (operand_at inst.operands 1) Any) (asked_without block at value (operand_at inst.operands 2) Any)
  select_step last inst bases.Null = Known false
  select_step last inst (bases.Value base) = if value == base then own_step inst else follow_step last inst base

  abbrev pub step_for : Option Line → Instruction → Op → Wanted → Step
  step_for last inst Load base = Known (is_pointer inst.ty && own_pairs value (base_in base))
  step_for last inst (Gep elem index_width place) base = one_of (asked_without block at value (operand_at inst.operands 0) (base_in base))
  step_for last inst Select base = if is_pointer inst.ty then select_step last inst base else Known false
  step_for last inst op base = Known false

-- whether the line before gives the value
abbrev pub GivesBefore : List Line → ℕ → ℕ → Bool → Type 0
GivesBefore lines at value answer = gives (line_in lines (at - 1)) value ≡ answer
