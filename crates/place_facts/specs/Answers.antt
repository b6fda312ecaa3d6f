-- Questions, and what answers them.
use Rattle.std.specs.Prelude.{◌≡◌, ℕ, Bool, List, Option, Some, None, MatchBool, slice_get}
use Rattle.std.specs.List.{Contains}
use Rattle.ir_ast.specs.declared.ops.Operand.{Operand}
use Rattle.ir_ast.specs.Funcs.{Function}
use Rattle.pair_facts.specs.declared.bases.Base.{Base}
use Rattle.place_facts.specs.declared.facts.Question.{Question}
use Rattle.place_facts.specs.declared.facts.Facts.{Facts}
use Rattle.place_facts.specs.Before.{StandsBefore, MissesBefore, IsAskable}
use Rattle.place_facts.specs.Asked.{number_of}

abbrev pub question_of : ℕ → Operand → Base → Question
question_of place pointer base = record { place = place; pointer = pointer; base = base }

abbrev pub answer_at : List Bool → Option ℕ → Option Bool
answer_at answers None = None
answer_at answers (Some number) = slice_get answers number

-- the answer to a question, none where it has none
abbrev pub answer_in : Facts → Question → Option Bool
answer_in facts question = answer_at facts.answers (number_of facts.asked question)

-- yes where the pair stands before the instruction on every path there, and no where it is missed on some
abbrev pub IsAnswered : Function → Question → Bool → Type 0
IsAnswered func question answer =
    MatchBool answer (StandsBefore func question.place question.pointer question.base) (MissesBefore func question.place question.pointer question.base)

-- a question that was asked, with its answer
pub record IsTold (func : Function) (questions : List Question) (question : Question) (answer : Bool) : Type 0 where
  pub asked : Contains questions question
  pub askable : IsAskable func question.place
  pub is : IsAnswered func question answer

-- what is told is so, and what was asked of an instruction is told
pub record AreAnswers (func : Function) (questions : List Question) (facts : Facts) : Type 0 where
  pub told : (question : Question) (answer : Bool) → answer_in facts question ≡ Some answer → IsTold func questions question answer
  pub whole : (question : Question) → Contains questions question → IsAskable func question.place → ¬ (answer_in facts question ≡ None)
