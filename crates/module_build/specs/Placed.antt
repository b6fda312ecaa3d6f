-- Lines in their places, as those of a text that was read are: what building a module relies on.
use Rattle.std.specs.Prelude.{◌^◌, ◌<◌, List, [], map, length}
use Rattle.std.specs.List.{All}
use Rattle.ir_ast.specs.Blocks.{EndsAtTerminator}
use Rattle.ir_ast.specs.Funcs.{IsSmall}
use Rattle.ir_lines.specs.Statements.{Line}
use Rattle.ir_lines.specs.Sections.{Definition, layouts_of, definitions_of, arguments_named, blocks_of}
use Rattle.ir_lines.specs.Modules.{Known, known_of, insts_of, block_of, argument_of}

-- each block ends with its terminator, and there are few arguments, blocks and instructions
pub record IsPlacedFunction (known : Known) (func : Definition) : Type 0 where
  pub blocks : All (λ block. EndsAtTerminator (insts_of known block.lines)) (blocks_of func)
  pub small : IsSmall (map argument_of (arguments_named func.line [] func.arguments)) (map (block_of known) (blocks_of func))

pub record IsPlaced (lines : List Line) : Type 0 where
  pub functions : All (λ func. IsPlacedFunction (known_of lines func) func) (definitions_of lines)
  pub few_layouts : length (layouts_of lines) < 2 ^ 32
  pub few_functions : length (definitions_of lines) < 2 ^ 32
