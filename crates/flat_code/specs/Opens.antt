-- A function that is being decoded.
use Rattle.std.specs.Prelude.{◌≡◌, List, [], ◌∷◌, ◌++◌, Option, Some}
use Rattle.std.specs.List.{All}
use Rattle.ir_ast.specs.Layouts.{ObjectLayout}
use Rattle.ir_ast.specs.Funcs.{Function}
use Rattle.ir_ast.specs.Insts.{Instruction}
use Rattle.object_meaning.specs.Lines.{numbered}
use Rattle.flat_code.specs.declared.spots.Spot.{Spot}
use Rattle.flat_code.specs.declared.decode.Open.{Open}
use Rattle.flat_code.specs.Flats.{Decodes, IsSizedLine}
use Rattle.flat_code.specs.Spots.{lines_at, passed_spot}
use Rattle.flat_code.specs.Segments.{AreChained, starts_in}

-- the segments so far lead to the open one, and its lines to the spot to which it has come
pub record IsOpen (layouts : List ObjectLayout) (defined : Option Function) (open_one : Open) : Type 0 where
  pub chained : AreChained layouts defined open_one.segments.items (Some open_one.start)
  pub lines : Decodes layouts (lines_at defined open_one.start) open_one.lines.items (lines_at defined open_one.spot)
  pub sized : All IsSizedLine open_one.lines.items
  pub block : open_one.spot.block ≡ open_one.start.block

-- where the segments begin, the open one too
abbrev pub starts_of : Open → List Spot
starts_of open_one = starts_in open_one.segments.items ++ open_one.start ∷ []

-- the line of this instruction stands next
abbrev pub StandsBefore : Option Function → Spot → Instruction → Type 0
StandsBefore defined spot inst = lines_at defined spot ≡ numbered spot.next inst ∷ lines_at defined (passed_spot spot inst)
