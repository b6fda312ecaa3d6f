-- The versions over which a function's text is written.
use Rattle.std.specs.Prelude.{◌≡◌, ℕ, ◌<◌, List, ◌++◌, length, map}
use Rattle.ir_ast.specs.declared.ops.Operand.{Operand}
use Rattle.ir_ast.specs.Funcs.{Function}
use Rattle.rewriting_forms.specs.Names.{Naming}
use Rattle.rewriting_forms.specs.Rewritten.{joined_at, names_of, place_in}
use Rattle.version_walk.specs.Forest.{list_at}
use Rattle.ssa_rebuild.specs.declared.versions.Versions.{Versions}
use Rattle.ssa_rebuild.specs.Answers.{number_of}
use Rattle.ssa_rebuild.specs.Rows.{body_numbers}
use Rattle.ssa_rebuild.specs.Arrivals.{entry_numbers}
use Rattle.ir_ast.specs.Operands.{valued}

-- the inserted phis of a naming, and the numbers of its names: each row begins with those of its block's inserted phis and lines, and
-- what stands behind them is no matter
pub record AreVersions (func : Function) (table : List Operand) (naming : Naming) (versions : Versions) : Type 0 where
  pub joins : (b : ℕ) → b < length func.blocks → list_at versions.joins.items b ≡ map valued (joined_at func naming b)
  pub rows : (b : ℕ) → b < length func.blocks
      → (rest : List ℕ) × (map number_of (list_at versions.rows.items b) ≡ body_numbers func table naming (place_in (names_of func table naming)) b ++ rest)
  pub entries : versions.entries.items ≡ entry_numbers func table naming
