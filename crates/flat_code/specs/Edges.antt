-- What the phis of a block assign on an edge to it.
use Rattle.std.specs.Prelude.{◌≡◌, ℕ, ◌==◌, List, [], ◌∷◌, map, Option}
use Rattle.std.specs.List.{position}
use Rattle.std.specs.Option.{option_map_or}
use Rattle.ir_ast.specs.declared.ops.Operand.{Operand}
use Rattle.ir_ast.specs.declared.ops.Operand.TheVariants.{Int}
use Rattle.ir_ast.specs.Insts.{Instruction}
use Rattle.ir_ast.specs.Funcs.{Function}
use Rattle.ir_ast.specs.Objects.{Datum}
use Rattle.object_meaning.specs.Lines.{Line, numbered, following, lines_from}
pub use Rattle.object_meaning.specs.BlockLines.{phis_in}
use Rattle.object_meaning.specs.Registers.{Write, value}
use Rattle.flat_code.specs.declared.lines.Copied.{Copied}
use Rattle.flat_code.specs.declared.lines.Edge.{Edge}
use Rattle.flat_code.specs.Flats.{operand_at}
use Rattle.flat_code.specs.Spots.{insts_at, first_at}

-- the operand of a phi on an edge from a block: that of the first entry with its label
abbrev pub chosen : ℕ → Instruction → Operand
chosen from phi = option_map_or (operand_at phi.operands) (position (λ label. label.0 == from) phi.labels) (Int 0)

abbrev pub copy_of : ℕ → Line → Copied
copy_of from phi = record { to = phi.to; from = chosen from phi.inst }

-- the lines of a block
abbrev pub block_lines : Option Function → ℕ → List Line
block_lines defined block = lines_from block (first_at defined block) (insts_at defined block)

-- the edge from a block to one with this label
pub record IsEdge (defined : Option Function) (from label : ℕ) (edge : Edge) : Type 0 where
  pub block : edge.block ≡ label
  pub copies : edge.copies.items ≡ map (copy_of from) (phis_in (block_lines defined label))

-- the same of instructions, of which the first result goes to the register `next`
abbrev pub copies_from : ℕ → ℕ → List Instruction → List Copied
copies_from from next [] = []
copies_from from next (phi ∷ phis) = copy_of from (numbered next phi) ∷ copies_from from (following next phi) phis

-- what copies write, all read before any is written
abbrev pub copied : List Datum → Copied → Write
copied registers copy = record { to = copy.to; value = value registers copy.from }
