-- Code 3. Layouts, heads, the labels of a function and its values are four spaces of names.
use Rattle.std.specs.Prelude.{◌≡◌, ℕ, true, false, List, map}
use Rattle.std.specs.List.{Contains}
use Rattle.ir_lines.specs.Statements.{Line}
use Rattle.ir_lines.specs.Sections.{Definition, Head, layouts_of, heads_of, definitions_of, blocks_of, values_of}
use Rattle.ir_lines.specs.InBody.{Repeats}

-- a declaration of a name that has a definition, earlier or later
pub record DeclaresDefined (lines : List Line) (line : ℕ) : Type 0 where
  pub declared : Head
  pub stands : Contains (heads_of lines) declared
  pub is_declared : declared.defined ≡ false
  pub number : declared.line ≡ line
  pub other : Head
  pub other_stands : Contains (heads_of lines) other
  pub is_defined : other.defined ≡ true
  pub same : other.name ≡ declared.name

pub data NameTwice (lines : List Line) (line : ℕ) : Type 0 where
  layout_again : Repeats (map (λ one. (one.line, one.name)) (layouts_of lines)) line → NameTwice lines line
  head_again : Repeats (map (λ one. (one.line, one.name)) (heads_of lines)) line → NameTwice lines line
  declares_defined : DeclaresDefined lines line → NameTwice lines line
  label_again : (func : Definition) → Contains (definitions_of lines) func
      → Repeats (map (λ one. (one.line, one.name)) (blocks_of func)) line → NameTwice lines line
  value_again : (func : Definition) → Contains (definitions_of lines) func
      → Repeats (map (λ one. (one.line, one.name)) (values_of func)) line → NameTwice lines line
