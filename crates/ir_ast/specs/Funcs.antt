-- What a contract sees of a `Func`: its content, and its lines beside it.
use Rattle.std.specs.Prelude.{◌≡◌, ℕ, ◌^◌, ◌<◌, List, [], ◌∷◌, length, replicate, slice_get}
use Rattle.std.specs.List.{flat_map, prefix_len}
use Rattle.std.specs.Option.{option_map_or}
use Rattle.ir_ast.specs.declared.types.Ty.{Ty}
use Rattle.ir_ast.specs.declared.funcs.Arg.{Arg}
use Rattle.ir_ast.specs.Ops.{is_phi}
use Rattle.ir_ast.specs.Insts.{Instruction}
use Rattle.ir_ast.specs.Blocks.{BasicBlock}

pub record Function : Type 0 where
  pub name : List ℕ
  pub answer : Ty
  pub args : List Arg
  pub blocks : List BasicBlock

pub record LinedFunction : Type 0 where
  pub content : Function
  pub lines : List ℕ

-- the instructions of these blocks in text order
abbrev pub instructions_of : List BasicBlock → List Instruction
instructions_of blocks = flat_map (λ block. block.insts) blocks

-- the instructions of a block, none where there is no such block
abbrev pub insts_in : Function → ℕ → List Instruction
insts_in func number = option_map_or (λ block. block.insts) (slice_get func.blocks number) []

-- how many phis stand before the first other instruction
abbrev pub phis_of : List Instruction → ℕ
phis_of insts = prefix_len (λ inst. is_phi inst.op) insts

-- the lines of a function that wasn't read
abbrev pub zeros_of : Function → List ℕ
zeros_of func = replicate (length (instructions_of func.blocks)) 0

-- the lines where they are kept, or else 0 for each instruction
abbrev pub lines_or_zeros : List BasicBlock → List ℕ → List ℕ
lines_or_zeros blocks [] = replicate (length (instructions_of blocks)) 0
lines_or_zeros blocks (line ∷ lines) = line ∷ lines

-- fewer than 2^30 arguments, blocks and instructions
pub record IsSmall (args : List Arg) (blocks : List BasicBlock) : Type 0 where
  pub few_arguments : length args < 2 ^ 30
  pub few_blocks : length blocks < 2 ^ 30
  pub few_instructions : length (instructions_of blocks) < 2 ^ 30

-- what a `Func` keeps: it is small, and its lines are one for each instruction
pub record IsFunction (args : List Arg) (blocks : List BasicBlock) (lines : List ℕ) : Type 0 where
  pub small : IsSmall args blocks
  pub one_each : length (lines_or_zeros blocks lines) ≡ length (instructions_of blocks)

abbrev pub content_of : LinedFunction → Function
content_of func = func.content

abbrev pub lines_of : LinedFunction → List ℕ
lines_of func = func.lines
