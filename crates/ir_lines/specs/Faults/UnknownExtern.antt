-- Code 12. A declaration that isn't one of the externals, with its answer and its parameters.
use Rattle.std.specs.Prelude.{ℕ, List, map}
use Rattle.std.specs.List.{Contains}
use Rattle.line_parts.specs.Types.{TypeWord}
use Rattle.line_parts.specs.Lists.{Named}
use Rattle.ir_lines.specs.Statements.{Line, declare}
use Rattle.ir_lines.specs.Sections.{layouts_of, types_of}
use Rattle.ir_lines.specs.Externals.{external, externals_of}

pub record UnknownExtern (lines : List Line) (line : ℕ) : Type 0 where
  pub answer : TypeWord
  pub name : List ℕ
  pub parameters : List Named
  pub stands : Contains lines (record { number = line; says = declare answer name parameters })
  pub unknown : ¬ Contains (externals_of (map (λ one. one.name) (layouts_of lines))) (external name answer (types_of parameters))
