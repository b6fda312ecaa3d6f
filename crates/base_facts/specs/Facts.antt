-- Facts, and what settles them.
use Rattle.std.specs.Prelude.{ℕ, Bool, false, Option, Some, None}
use Rattle.std.specs.Option.{option_map_or}
use Rattle.ir_ast.specs.declared.ops.Operand.{Operand}
use Rattle.ir_ast.specs.declared.ops.Operand.TheVariants.{Value, Int, Null, Fun}
use Rattle.ir_ast.specs.Funcs.{Function}
use Rattle.pair_facts.specs.declared.bases.Base.{Base}
use Rattle.pair_facts.specs.declared.bases.Base.TheVariants.{Any, Named}
use Rattle.pair_facts.specs.Lines.{lines_at, named}
use Rattle.pair_facts.specs.Pairs.{Pairs}
use Rattle.pair_facts.specs.Paths.{pairs_at}
use Rattle.base_facts.specs.declared.facts.Pointer.{Pointer}
use Rattle.base_facts.specs.declared.facts.Pointer.TheVariants as pointers
use Rattle.base_facts.specs.declared.facts.Wanted.{Wanted}
use Rattle.base_facts.specs.declared.facts.Wanted.TheVariants as bases
use Rattle.base_facts.specs.declared.facts.Fact.{Fact}

abbrev pub pointer_of : Operand → Option Pointer
pointer_of (Value value) = Some (pointers.Value value.0)
pointer_of Null = Some pointers.Null
pointer_of (Int number) = None
pointer_of (Fun func) = None

abbrev pub wanted_of : Base → Option Wanted
wanted_of Any = Some bases.Any
wanted_of (Named (Value value)) = Some (bases.Value value.0)
wanted_of (Named Null) = Some bases.Null
wanted_of (Named (Int number)) = None
wanted_of (Named (Fun func)) = None

abbrev fact_with : ℕ → ℕ → Option Pointer → Option Wanted → Option Fact
fact_with block place (Some pointer) (Some base) = Some (record { block = block; place = place; pointer = pointer; base = base })
fact_with block place None base = None
fact_with block place (Some pointer) None = None

abbrev pub fact_at : ℕ → ℕ → Operand → Base → Option Fact
fact_at block place operand base = fact_with block place (pointer_of operand) (wanted_of base)

abbrev pub operand_in : Pointer → Operand
operand_in pointers.Null = Null
operand_in (pointers.Value value) = named value

abbrev pub base_in : Wanted → Base
base_in bases.Any = Any
base_in bases.Null = Named Null
base_in (bases.Value value) = Named (named value)

-- whether a fact holds on a path that comes to its block with these pairs
abbrev pub holds : Function → Pairs → Fact → Bool
holds func front fact = pairs_at (lines_at func fact.block) front fact.place (operand_in fact.pointer) (base_in fact.base)

abbrev pub maybe_holds : Function → Pairs → Option Fact → Bool
maybe_holds func front found = option_map_or (holds func front) found false
