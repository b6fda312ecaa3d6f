-- Code 11, at line 0. The first definition named `@main` takes nothing and answers `i32` or `i64`.
use Rattle.std.specs.Prelude.{◌≡◌, ℕ, ◌==◌, Bool, true, false, ◌&&◌, ◌||◌, List, [], codes, find, Option, Some, None}
use Rattle.std.specs.Str.{bytes_eq}
use Rattle.line_parts.specs.Types.{TypeWord}
use Rattle.line_parts.specs.Types.{Int}
use Rattle.line_parts.specs.Lists.{Named}
use Rattle.ir_lines.specs.Statements.{Line}
use Rattle.ir_lines.specs.Sections.{Definition, definitions_of}

abbrev pub takes_nothing : List Named → Bool
takes_nothing [] = true
takes_nothing _ = false

abbrev pub is_status : TypeWord → Bool
is_status (Int width) = width == 32 || width == 64
is_status _ = false

abbrev pub is_main : Option Definition → Bool
is_main None = false
is_main (Some func) = takes_nothing func.arguments && is_status func.answer

pub record NoMain (lines : List Line) (line : ℕ) : Type 0 where
  pub at_no_line : line ≡ 0
  pub lacks : is_main (find (λ func. bytes_eq func.name (codes "main")) (definitions_of lines)) ≡ false
