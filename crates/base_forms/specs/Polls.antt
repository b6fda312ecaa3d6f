-- The function with its polls: a poll is a line of its own at the front of the entry block, and before each terminator
-- with an edge to the same or an earlier place in the text (Garbage Collection Safepoints in LLVM, "PlaceSafepoints").
use Rattle.std.specs.Prelude.{ℕ, zero, suc, if◌then◌else◌, List, [], ◌∷◌, ◌++◌, map}
use Rattle.std.specs.List.{flat_map}
use Rattle.ir_ast.specs.declared.modules.Form.TheVariants.{Rewritten}
use Rattle.ir_ast.specs.Insts.{Instruction}
use Rattle.ir_ast.specs.Blocks.{BasicBlock}
use Rattle.ir_ast.specs.Funcs.{Function}
use Rattle.ir_ast.specs.Modules.{ModuleContent}
use Rattle.object_meaning.specs.Lines.{poll, retreats}

-- `call void @gc.safepoint_poll()`
abbrev pub poll_call : Instruction
poll_call = poll.inst

abbrev pub front_poll : ℕ → List Instruction
front_poll zero = poll_call ∷ []
front_poll (suc number) = []

-- an instruction of the block with this number, after its poll where it has one
abbrev pub polled : ℕ → Instruction → List Instruction
polled number inst = (if retreats number inst then poll_call ∷ [] else []) ++ inst ∷ []

abbrev pub placed_block : ℕ → BasicBlock → BasicBlock
placed_block number block = record block { insts = front_poll number ++ flat_map (polled number) block.insts }

-- these blocks, of which the first has this number
abbrev pub placed_from : ℕ → List BasicBlock → List BasicBlock
placed_from number [] = []
placed_from number (block ∷ blocks) = placed_block number block ∷ placed_from (suc number) blocks

-- the placed function
abbrev pub placed : Function → Function
placed func = record func { blocks = placed_from 0 func.blocks }

abbrev pub placed_module : ModuleContent → ModuleContent
placed_module content = record content { funcs = map placed content.funcs; form = Rewritten }
