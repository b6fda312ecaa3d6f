-- What is kept of the way back from values.
use Rattle.std.specs.Prelude.{◌≡◌, ℕ, List, Option, Some, None, slice_get}
use Rattle.std.specs.Option.{option_and_then}
use Rattle.ir_ast.specs.declared.ops.Operand.{Operand}
use Rattle.ir_ast.specs.declared.ops.Operand.TheVariants.{Value}
use Rattle.base_tables.specs.declared.origins.WayBack.{WayBack}
use Rattle.base_tables.specs.declared.origins.WayBack.TheVariants.{Ends, Leads}
use Rattle.base_tables.specs.Kinds.{Kind, stepped_in, origin_in}
use Rattle.ir_ast.specs.Operands.{named}

abbrev pub found_at : List (Option Operand) → Operand → Option Operand
found_at found (Value value) = option_and_then (λ origin. origin) (slice_get found value.0)
found_at found operand = None

-- what was found of values is their origin
pub record AreFound (kinds : List Kind) (found : List (Option Operand)) : Type 0 where
  pub each : (value : ℕ) (origin : Operand) → slice_get found value ≡ Some (Some origin) → origin ≡ origin_in kinds (named value)

-- the origin of an operand, or the one before it
abbrev pub Nears : List Kind → Operand → WayBack → Type 0
Nears kinds operand (Ends origin) = origin_in kinds operand ≡ origin
Nears kinds operand (Leads before) = stepped_in kinds operand ≡ Some before
