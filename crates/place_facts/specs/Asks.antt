-- The ask that has the answer to a question.
use Rattle.std.specs.Prelude.{ℕ, Option, Some, None}
use Rattle.ir_ast.specs.declared.ops.Operand.{Operand}
use Rattle.ir_ast.specs.Funcs.{Function}
use Rattle.pair_facts.specs.declared.bases.Base.{Base}
use Rattle.pair_facts.specs.Paths.{Stands, Misses}
use Rattle.base_facts.specs.declared.asks.Ask.{Ask}
use Rattle.base_facts.specs.Answers as asks
use Rattle.place_facts.specs.declared.facts.Question.{Question}
use Rattle.place_facts.specs.Before.{StandsBefore, MissesBefore, IsAskable}

abbrev pub ask_at : ℕ → ℕ → Operand → Base → Ask
ask_at block place pointer base = record { block = record { 0 = block }; place = place; pointer = pointer; base = base }

-- what the ask has is what the question has
pub record AsksFor (func : Function) (question : Question) (ask : Ask) : Type 0 where
  pub askable : IsAskable func question.place
  pub can_ask : asks.IsAskable func ask
  pub stands : Stands func ask.block.0 ask.place ask.pointer ask.base → StandsBefore func question.place question.pointer question.base
  pub misses : Misses func ask.block.0 ask.place ask.pointer ask.base → MissesBefore func question.place question.pointer question.base

abbrev pub IsAskOf : Function → Question → Option Ask → Type 0
IsAskOf func question (Some ask) = AsksFor func question ask
IsAskOf func question None = ¬ IsAskable func question.place
