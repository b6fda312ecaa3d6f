-- The last line of a block.
use Rattle.std.specs.Prelude.{◌-◌, Bool, false, List, length, slice_get}
use Rattle.std.specs.Option.{option_map_or}
use Rattle.ir_ast.specs.Insts.{Instruction}
use Rattle.ir_ast.specs.Ops.{is_terminator}

-- the last of these is a terminator
abbrev pub ends_at : List Instruction → Bool
ends_at insts = option_map_or (λ inst. is_terminator inst.op) (slice_get insts (length insts - 1)) false
