-- What is proved of the module with bases and of the rewritten module of a source module without unreached blocks.
use Rattle.std.specs.Prelude.{ℕ, ℤ, List, Option, ◌↔◌, length}
use Rattle.std.specs.List.{All}
use Rattle.sp_ids.specs.declared.ids.ValueId.{ValueId}
use Rattle.ir_ast.specs.declared.ops.Operand.{Operand}
use Rattle.ir_ast.specs.Bases.{IsBaseTable}
use Rattle.ir_ast.specs.Faults.PhiEdges.{PhisAreRight}
use Rattle.ir_ast.specs.Funcs.{Function}
use Rattle.ir_ast.specs.Modules.{ModuleContent}
use Rattle.ir_cfg.specs.DefiniteUses.{UsesAreDefinite}
use Rattle.ir_cfg.specs.SourceModules.{IsSourceModule}
use Rattle.ir_cfg.specs.Paths.{IsReached}
use Rattle.object_meaning.specs.Outcomes.{Outcome}
use Rattle.object_meaning.specs.SourceRuns.{SourceGives}
use Rattle.object_meaning.specs.TargetRuns.{TargetGives}
use Rattle.base_forms.specs.Polls.{placed}
use Rattle.base_forms.specs.Based.{base_table, based_module}
use Rattle.rewriting_forms.specs.Liveness.{live_table}
use Rattle.rewriting_forms.specs.Names.{Naming}
use Rattle.rewriting_forms.specs.Rewritten.{Choice, names_of, place_in, rewritten_module, rewritten_module_by, rewritten_with}
use Rattle.rewriting_laws.specs.Laws.{Fits, IsNumbering}
use Rattle.rewriting_laws.specs.Statements.{HaveFittingNames, IsBefore, IsExact, func_of}
use Rattle.base_definite.specs.Paths.{HasDefiniteBases}
use Rattle.rewritten_sound.specs.LeadsOut.{PhisAreBare}

-- the bases of each function of the module with bases
abbrev pub base_tables : ModuleContent → ℕ → List Operand
base_tables content number = base_table (placed (func_of content number))

-- the module that the rewriting gives
abbrev pub rewritten_source : ModuleContent → ModuleContent
rewritten_source content = rewritten_module (based_module content) (base_tables content)

-- and the one with a naming chosen for each function
abbrev pub rewritten_source_by : ModuleContent → Choice → ModuleContent
rewritten_source_by content choose = rewritten_module_by (based_module content) (base_tables content) choose

-- a choice by which names fit at every edge
abbrev pub ChoiceFits : ModuleContent → Choice → Type 0
ChoiceFits content choose = HaveFittingNames (based_module content) (base_tables content) choose

-- a source module each of whose blocks is reached
pub record IsReachedSource (content : ModuleContent) : Type 0 where
  pub source : IsSourceModule content
  pub reached : All IsReached content.funcs

-- the module with bases is one before liveness, whatever its base tables are
abbrev pub BasedIsBefore : Type 0
BasedIsBefore = (content : ModuleContent) → IsReachedSource content → (tables : ℕ → List Operand) → IsBefore (based_module content) tables

-- so the rewritten module gives, by the target meaning, what its source gives by the source meaning
abbrev pub RewrittenKeepsMeaning : Type 0
RewrittenKeepsMeaning = (content : ModuleContent) → IsReachedSource content → (input : List ℤ) (go : ℕ → Option ℕ) (bound : ℕ) (outcome : Outcome)
    → SourceGives content input go bound outcome ↔ TargetGives (rewritten_source content) input go bound outcome

-- and so does each under a choice that fits
abbrev pub FittingKeepsMeaning : Type 0
FittingKeepsMeaning = (content : ModuleContent) → IsReachedSource content → (choose : Choice) → ChoiceFits content choose
    → (input : List ℤ) (go : ℕ → Option ℕ) (bound : ℕ) (outcome : Outcome)
    → SourceGives content input go bound outcome ↔ TargetGives (rewritten_source_by content choose) input go bound outcome

-- a function before liveness, the base of each of its values, and a choice of inserted phis by which names fit at every edge
pub record HasFittingNames (func : Function) (merged : ℕ → ValueId) (table : List Operand) (naming : Naming) : Type 0 where
  pub fits : Fits func table naming (live_table func table)
  pub numbers : IsNumbering func table naming.joins (place_in (names_of func table naming)) (length (names_of func table naming))
  pub bases : HasDefiniteBases func merged
  pub table_bases : IsBaseTable func merged table
  pub phis : PhisAreRight func
  pub bare : PhisAreBare func

-- whatever phis are inserted, as long as the names fit
abbrev pub FittingIsDefinite : Type 0
FittingIsDefinite = (func : Function) (merged : ℕ → ValueId) (table : List Operand) (naming : Naming) → HasFittingNames func merged table naming → UsesAreDefinite (rewritten_with func table naming)

-- in the rewritten module every path to a use meets the definition before it
abbrev pub RewrittenIsDefinite : Type 0
RewrittenIsDefinite = (content : ModuleContent) → IsReachedSource content → All UsesAreDefinite (rewritten_source content).funcs

-- and in each under a choice that fits
abbrev pub FittingSourceIsDefinite : Type 0
FittingSourceIsDefinite = (content : ModuleContent) → IsReachedSource content → (choose : Choice) → ChoiceFits content choose
    → All UsesAreDefinite (rewritten_source_by content choose).funcs

-- in the module with bases the test of liveness is exact, whatever the table
abbrev pub LiveIsExactThere : Type 0
LiveIsExactThere = (content : ModuleContent) → IsReachedSource content
    → All (λ func. (table : List Operand) (b k v : ℕ) → IsExact func table b k v) (based_module content).funcs
