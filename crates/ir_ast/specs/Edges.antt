-- The edges between the blocks of a function.
use Rattle.std.specs.Prelude.{ℕ, ◌==◌, List, [], if◌then◌else◌, count_by, slice_get}
use Rattle.std.specs.List.{flat_map}
use Rattle.std.specs.Option.{option_map_or}
use Rattle.sp_ids.specs.declared.ids.BlockId.{BlockId}
use Rattle.ir_ast.specs.Blocks.{BasicBlock}
use Rattle.ir_ast.specs.Funcs.{Function}
use Rattle.ir_ast.specs.Ops.{is_terminator}

-- the labels of a block's terminator: one edge each
abbrev pub targets : BasicBlock → List BlockId
targets block = flat_map (λ inst. if is_terminator inst.op then inst.labels else []) block.insts

-- how many of these labels name a block
abbrev pub count_of : ℕ → List BlockId → ℕ
count_of block labels = count_by (λ label. label.0 == block) labels

-- how many edges lead from one block to another
abbrev pub edges : Function → ℕ → ℕ → ℕ
edges func from to = option_map_or (λ block. count_of to (targets block)) (slice_get func.blocks from) 0
