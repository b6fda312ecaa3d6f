-- The faults that are seen without the lines of functions: those of layouts, declarations and heads, and of no main function.
use Rattle.std.specs.Prelude.{◌≡◌, ℕ, false, ◌⊎◌, List, codes, Option}
use Rattle.std.specs.List.{Contains}
use Rattle.line_parts.specs.Types.{TypeWord}
use Rattle.line_parts.specs.Lists.{Named}
use Rattle.ir_ast.specs.declared.modules.Form.{Form}
use Rattle.ir_ast.specs.declared.modules.Form.TheVariants.{Source}
use Rattle.ir_ast.specs.Lists.{HasFront}
use Rattle.ir_ast.specs.Faults.Reserved.{IsExternalName}
use Rattle.ir_lines.specs.Statements.{Statement, Line, layout, declare, define}
use Rattle.ir_lines.specs.Sections.{types_of}
use Rattle.ir_lines.specs.Externals.{external, externals_of, helpers}
use Rattle.ir_lines.specs.Faults.BadLayout.{are_cells}
use Rattle.ir_lines.specs.Faults.NoStrategy.{is_strategy}

-- the codes of a declaration, where definitions and layouts have these names
abbrev pub DeclareFault : Form → List (List ℕ) → List (List ℕ) → TypeWord → List ℕ → List Named → ℕ → Type 0
DeclareFault form functions layouts answer name parameters code =
    ((code ≡ 3) × Contains functions name)
    ⊎ (((code ≡ 12) × ¬ Contains (externals_of layouts) (external name answer (types_of parameters)))
    ⊎ ((code ≡ 14) × (form ≡ Source) × (Contains helpers name ⊎ HasFront (codes "llvm.") name)))

abbrev pub DefineFault : List ℕ → Option (List ℕ) → ℕ → Type 0
DefineFault name strategy code = ((code ≡ 10) × (is_strategy strategy ≡ false)) ⊎ ((code ≡ 14) × IsExternalName name)

-- the codes of a line outside functions
abbrev pub OuterFault : Form → List (List ℕ) → List (List ℕ) → Statement → ℕ → Type 0
OuterFault form functions layouts (layout name fields) code = (code ≡ 13) × (are_cells fields ≡ false)
OuterFault form functions layouts (declare answer name parameters) code = DeclareFault form functions layouts answer name parameters code
OuterFault form functions layouts (define answer name arguments strategy) code = DefineFault name strategy code
OuterFault form functions layouts _ code = ⊥

-- a line outside functions has the code
pub record OuterFaults (form : Form) (functions layouts : List (List ℕ)) (lines : List Line) (line code : ℕ) : Type 0 where
  pub found : Line
  pub inside : Contains lines found
  pub number : found.number ≡ line
  pub faulty : OuterFault form functions layouts found.says code
