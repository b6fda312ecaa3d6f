-- Lines of the source form, by blocks and functions.
use Rattle.std.specs.List.{All}
use Rattle.ir_ast.specs.Blocks.{BasicBlock}
use Rattle.ir_ast.specs.Funcs.{Function}
use Rattle.flat_code.specs.Spots.{AllReady}

abbrev pub BlockIsReady : BasicBlock → Type 0
BlockIsReady block = AllReady block.insts

abbrev pub FunctionIsReady : Function → Type 0
FunctionIsReady func = All BlockIsReady func.blocks
