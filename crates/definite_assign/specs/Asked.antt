-- What a line asks for that isn't defined before it in the same block.
use Rattle.std.specs.Prelude.{ℕ, ◌-◌, ◌==◌, ◌&&◌, nat_lt, List, [], ◌∷◌, ◌++◌, if◌then◌else◌, Option, Some, None, slice_get}
use Rattle.std.specs.List.{flat_map}
use Rattle.sp_ids.specs.declared.ids.BlockId.{BlockId}
use Rattle.ir_ast.specs.declared.ops.Operand.{Operand}
use Rattle.ir_ast.specs.declared.ops.Operand.TheVariants.{Value}
use Rattle.ir_ast.specs.declared.ops.Op.{Op}
use Rattle.ir_ast.specs.declared.ops.Op.TheVariants.{Phi}
use Rattle.ir_ast.specs.Insts.{Instruction}
use Rattle.ir_ast.specs.Operands.{operands_of}
use Rattle.definite_assign.specs.declared.homes.Home.{Home}
use Rattle.definite_assign.specs.declared.uses.FarUse.{FarUse}
use Rattle.definite_assign.specs.declared.uses.Spot.{Spot}

-- the home of a value that is no argument
abbrev pub home_of : List Home → ℕ → ℕ → Option Home
home_of homes arguments value = if nat_lt value arguments then None else slice_get homes (value - arguments)

abbrev pub far_use : Option Home → Spot → ℕ → List FarUse
far_use None spot place = []
far_use (Some home) spot place =
    if home.block.0 == spot.block.0 && nat_lt home.place spot.before then []
    else record { home = home.block; block = spot.block; place = place } ∷ []

abbrev pub asked : List Home → ℕ → Spot → ℕ → Operand → List FarUse
asked homes arguments spot place (Value value) = far_use (home_of homes arguments value.0) spot place
asked homes arguments spot place _ = []

-- the end of the block of a label: all places of the text are before it
abbrev pub end_of : BlockId → Spot
end_of label = record { block = label; before = 4294967295 }

abbrev pub entry_asked : List Home → ℕ → ℕ → Option BlockId → Operand → List FarUse
entry_asked homes arguments place None operand = []
entry_asked homes arguments place (Some label) operand = asked homes arguments (end_of label) place operand

abbrev pub entries_asked : List Home → ℕ → ℕ → List BlockId → List Operand → List FarUse
entries_asked homes arguments place [] operands = []
entries_asked homes arguments place (label ∷ labels) [] = []
entries_asked homes arguments place (label ∷ labels) (operand ∷ operands) =
    asked homes arguments (end_of label) place operand ++ entries_asked homes arguments place labels operands

abbrev pub line_asked : List Home → ℕ → BlockId → ℕ → Op → Instruction → List FarUse
line_asked homes arguments block place Phi inst = entries_asked homes arguments place inst.labels inst.operands
line_asked homes arguments block place _ inst =
    flat_map (asked homes arguments (record { block = block; before = place }) place) (operands_of inst)

abbrev pub asked_by : List Home → ℕ → BlockId → ℕ → Instruction → List FarUse
asked_by homes arguments block place inst = line_asked homes arguments block place inst.op inst
