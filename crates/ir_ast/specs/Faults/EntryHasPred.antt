-- The first block: what has no fault of code 6.
use Rattle.std.specs.Prelude.{◌≡◌, ◌≢◌, true}
use Rattle.std.specs.List.{All}
use Rattle.ir_ast.specs.Ops.{is_terminator}
use Rattle.ir_ast.specs.Insts.{Instruction}
use Rattle.ir_ast.specs.Funcs.{Function, instructions_of}

-- a terminator that doesn't name the first block
abbrev pub LeavesEntry : Instruction → Type 0
LeavesEntry inst = is_terminator inst.op ≡ true → All (λ label. label.0 ≢ 0) inst.labels

abbrev pub EntryHasNoPred : Function → Type 0
EntryHasNoPred func = All LeavesEntry (instructions_of func.blocks)
