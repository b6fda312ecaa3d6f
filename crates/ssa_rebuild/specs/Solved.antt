-- All slots of a function, answered.
use Rattle.std.specs.Prelude.{◌≡◌, ℕ, ◌<◌, List, length, map}
use Rattle.std.specs.Global.{Vec}
use Rattle.ir_ast.specs.declared.ops.Operand.{Operand}
use Rattle.ir_ast.specs.Funcs.{Function}
use Rattle.rewriting_forms.specs.Names.{Naming}
use Rattle.rewriting_forms.specs.Rewritten.{names_of, place_in}
use Rattle.version_walk.specs.declared.slots.Slot.{Slot}
use Rattle.version_walk.specs.declared.slots.Slot.TheVariants.{Number}
use Rattle.version_walk.specs.Forest.{list_at}
use Rattle.ssa_rebuild.specs.Rows.{block_numbers}

-- each block has the numbers of the versions that its slots ask for
pub record AreNumbered (func : Function) (table : List Operand) (naming : Naming) (answers : List (Vec Slot)) : Type 0 where
  pub whole : length answers ≡ length func.blocks
  pub each : (b : ℕ) → b < length func.blocks
      → list_at answers b ≡ map Number (block_numbers func table naming (place_in (names_of func table naming)) b)
