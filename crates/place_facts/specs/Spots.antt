-- Where the instructions of a function stand, by their numbers in its text.
use Rattle.std.specs.Prelude.{◌≡◌, ℕ, List, length, Some, slice_get}
use Rattle.ir_ast.specs.Insts.{Instruction}
use Rattle.ir_ast.specs.Funcs.{Function, instructions_of}
use Rattle.ir_cfg.specs.DefiniteUses.{Stands, text_place}
use Rattle.place_facts.specs.declared.spots.Spot.{Spot}

-- the instruction with this number, in text order, stands at this place of this block
pub record IsNumbered (func : Function) (number block place : ℕ) : Type 0 where
  pub inst : Instruction
  pub stands : Stands func block place inst
  pub number_is : number ≡ text_place func block place

-- where so many first instructions stand
pub record AreSpots (func : Function) (count : ℕ) (spots : List Spot) : Type 0 where
  pub whole : length spots ≡ count
  pub each : (number : ℕ) (spot : Spot) → slice_get spots number ≡ Some spot → IsNumbered func number spot.block spot.place

abbrev pub KnowsSpots : Function → List Spot → Type 0
KnowsSpots func spots = AreSpots func (length (instructions_of func.blocks)) spots
