-- Where the results of a function's instructions stand.
use Rattle.std.specs.Prelude.{◌≡◌, ℕ, ◌+◌, List, length, take, filter, is_some, Some, slice_get}
use Rattle.ir_ast.specs.Funcs.{Function, instructions_of}
use Rattle.ir_cfg.specs.DefiniteUses.{Defines, text_place}
use Rattle.definite_assign.specs.declared.homes.Home.{Home}

-- the value's definition stands here
pub record IsHome (func : Function) (value : ℕ) (home : Home) : Type 0 where
  pub at : ℕ
  pub defines : Defines func value home.block.0 at
  pub place : home.place ≡ text_place func home.block.0 at

-- the homes are those of the results of the instructions before this place of the text
pub record AreHomes (func : Function) (until : ℕ) (homes : List Home) : Type 0 where
  pub count : length homes ≡ length (filter (λ inst. is_some inst.result) (take until (instructions_of func.blocks)))
  pub each : (k : ℕ) (home : Home) → slice_get homes k ≡ Some home → IsHome func (length func.args + k) home
