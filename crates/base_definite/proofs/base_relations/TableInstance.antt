-- Of each function of a source module.
use Rattle.std.proofs.Common.{◌≡◌, ℕ, true, ap}
use Rattle.std.specs.Prelude.{Some, slice_get}
use Rattle.std.specs.List.{All}
use Rattle.list_laws.proofs.Contents.{all_at, all_from_at}
use Rattle.sp_ids.specs.declared.ids.ValueId.{ValueId}
use Rattle.ir_ast.specs.declared.ops.Operand.TheVariants as operands
use Rattle.ir_ast.specs.Bases.{HasBases, IsBaseTable}
use Rattle.ir_ast.specs.Funcs.{Function, instructions_of}
use Rattle.ir_ast.specs.Modules.{ModuleContent}
use Rattle.ir_cfg.specs.DefiniteUses.{UsesAreDefinite}
use Rattle.ir_cfg.specs.SourceModules.{IsSourceModule}
use Rattle.ir_cfg.specs.Paths.{IsReached}
use Rattle.base_forms.specs.DerivedMarks.{derived_marks}
use Rattle.base_forms.specs.Polls.{placed}
use Rattle.base_forms.specs.Based.{base_table, based}
use Rattle.base_laws.proofs.TypeLaws.{IsTypedLine, MarksPointers, derived_are_pointers}
use Rattle.base_laws.proofs.NumberLaws.{renaming_of}
use Rattle.base_laws.proofs.LineLaws.{IsReady}
use Rattle.base_laws.proofs.ReadyLaws.{ready, renaming_found, renamings}
use Rattle.base_definite.specs.Relations.{TableHasBases, before}
use Rattle.base_definite.proofs.base_relations.EndLaws.{Ends, ends_placed, value_ends}
use Rattle.base_definite.proofs.base_relations.BaseLaws.{has_bases}
use Rattle.base_definite.proofs.base_relations.TableLaws.{is_base_table}

module _ (content : ModuleContent) (source : IsSourceModule content) (number : ℕ) (func : Function) (found : slice_get content.funcs number ≡ Some func) where
  pub is_here : renamings content number ≡ renaming_of true (placed func)
  is_here = ap renaming_found found

  pub all_ready : All (IsReady (renamings content) (placed func)) (instructions_of (placed func).blocks)
  all_ready = ready content source number func found

  pub pointers : MarksPointers (placed func) (derived_marks (placed func))
  pointers = derived_are_pointers (placed func)
      (all_from_at (IsTypedLine (placed func)) (instructions_of (placed func).blocks)
      (λ place inst at. (all_at (IsReady (renamings content) (placed func)) (instructions_of (placed func).blocks) place inst all_ready at).typed))

  pub definite_here : UsesAreDefinite func
  definite_here = all_at UsesAreDefinite content.funcs number func source.definite found

  pub ends_here : IsReached func → (value : ValueId) → Ends (placed func) (operands.Value value)
  ends_here reached value = ends_placed func (operands.Value value) (value_ends func definite_here reached value)

  in_terms : IsReached func → HasBases (based (placed func)) before × IsBaseTable (based (placed func)) before (base_table (placed func))
  in_terms reached = (
    has_bases (renamings content) number (placed func) true is_here pointers all_ready (ends_here reached),
    is_base_table (renamings content) number (placed func) true is_here pointers all_ready (ends_here reached),
  )

pub table_has_bases : TableHasBases
table_has_bases content source =
    all_from_at (λ (func : Function). IsReached func → HasBases (based (placed func)) before × IsBaseTable (based (placed func)) before (base_table (placed func))) content.funcs
    (λ number func found. in_terms content source number func found)
