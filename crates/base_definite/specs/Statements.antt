-- What is proved of the uses and the bases of the function with bases.
use Rattle.std.specs.Prelude.{◌≢◌, ℕ}
use Rattle.std.specs.List.{All}
use Rattle.sp_ids.specs.declared.ids.ValueId.{ValueId}
use Rattle.ir_ast.specs.declared.ops.Operand.TheVariants.{Value}
use Rattle.ir_ast.specs.Modules.{ModuleContent}
use Rattle.ir_ast.specs.Bases.{Base}
use Rattle.ir_cfg.specs.DefiniteUses.{Uses, UsesAreDefinite}
use Rattle.ir_cfg.specs.SourceModules.{IsSourceModule}
use Rattle.ir_cfg.specs.Paths.{IsReached}
use Rattle.base_forms.specs.Polls.{placed}
use Rattle.base_forms.specs.Based.{based, based_module}
use Rattle.base_definite.specs.Comings.{DefinedSince}
use Rattle.base_definite.specs.Paths.{HasDefiniteBases}
use Rattle.base_definite.specs.Relations.{before}

-- in the module with bases every path to a use meets the definition before it
abbrev pub BasedIsDefinite : Type 0
BasedIsDefinite = (content : ModuleContent) → IsSourceModule content → All UsesAreDefinite (based_module content).funcs

-- in each function of a module without unreached blocks, derived phis and selects have their bases directly before them,
-- values have names of their own, and uses are definite
abbrev pub BasedHasDefiniteBases : Type 0
BasedHasDefiniteBases = (content : ModuleContent) → IsSourceModule content → All (λ func. IsReached func → HasDefiniteBases (based (placed func)) before) content.funcs

-- so no path comes to a use of a derived pointer of the function with bases with its base defined since the pointer was
abbrev pub BasedBasesStay : Type 0
BasedBasesStay = (content : ModuleContent) → IsSourceModule content → All (λ func. IsReached func
    → (pointer base : ValueId) → Base (based (placed func)) before (Value pointer) (Value base) → pointer.0 ≢ base.0
    → (line block place : ℕ) → Uses (based (placed func)) line pointer.0 block place → ¬ DefinedSince (based (placed func)) base.0 pointer.0 block place) content.funcs
