-- What a name stands for: what its first line gives.
use Rattle.std.specs.Prelude.{ℕ, List, find, Option}
use Rattle.std.specs.Str.{bytes_eq}
use Rattle.line_parts.specs.Types.{TypeWord}
use Rattle.ir_lines.specs.Statements.{Line}
use Rattle.ir_lines.specs.Sections.{LayoutLine, Head, Definition, Naming, BlockLines, layouts_of, heads_of, values_of, blocks_of}

-- what the lines of a function can name
pub record Scope : Type 0 where
  pub layouts : List LayoutLine
  pub heads : List Head
  pub values : List Naming
  pub blocks : List BlockLines
  -- what the function answers
  pub answer : TypeWord

abbrev pub scope_of : List Line → Definition → Scope
scope_of lines func = record {
  layouts = layouts_of lines;
  heads = heads_of lines;
  values = values_of func;
  blocks = blocks_of func;
  answer = func.answer;
}

abbrev pub layout_named : Scope → List ℕ → Option LayoutLine
layout_named scope name = find (λ one. bytes_eq name one.name) scope.layouts

abbrev pub head_named : Scope → List ℕ → Option Head
head_named scope name = find (λ one. bytes_eq name one.name) scope.heads

abbrev pub value_named : Scope → List ℕ → Option Naming
value_named scope name = find (λ one. bytes_eq name one.name) scope.values

abbrev pub block_named : Scope → List ℕ → Option BlockLines
block_named scope name = find (λ one. bytes_eq name one.name) scope.blocks
