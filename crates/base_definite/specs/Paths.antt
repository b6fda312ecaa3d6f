-- What is proved of bases on paths.
use Rattle.std.specs.Prelude.{◌≢◌, ℕ, map}
use Rattle.std.specs.List.{All}
use Rattle.sp_ids.specs.declared.ids.ValueId.{ValueId}
use Rattle.ir_ast.specs.declared.ops.Operand.TheVariants.{Value}
use Rattle.ir_ast.specs.Blocks.{EndsAtTerminator}
use Rattle.ir_ast.specs.Funcs.{Function}
use Rattle.ir_ast.specs.Lists.{Distinct}
use Rattle.ir_ast.specs.Values.{definition_name, definitions_of}
use Rattle.ir_ast.specs.Bases.{Base, HasBases}
use Rattle.ir_cfg.specs.DefiniteUses.{Uses, UsesAreDefinite}
use Rattle.base_definite.specs.Comings.{DefinedSince}

-- a function whose derived phis and selects have their bases, and whose uses are definite
pub record HasDefiniteBases (func : Function) (merged : ℕ → ValueId) : Type 0 where
  pub bases : HasBases func merged
  pub names : Distinct (map definition_name (definitions_of func))
  pub ends : All (λ block. EndsAtTerminator block.insts) func.blocks
  pub definite : UsesAreDefinite func

-- no path comes to a use of a derived pointer with its base defined since the pointer was
abbrev pub BasesStay : Type 0
BasesStay = (func : Function) (merged : ℕ → ValueId) → HasDefiniteBases func merged
    → (pointer base : ValueId) → Base func merged (Value pointer) (Value base) → pointer.0 ≢ base.0
    → (line block place : ℕ) → Uses func line pointer.0 block place → ¬ DefinedSince func base.0 pointer.0 block place
