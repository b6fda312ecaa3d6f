-- Of each function of a source module.
use Rattle.std.proofs.Common.{◌≡◌, ℕ, true, ◌<◌, ◌∷◌, [], length, sym, ap, subst, ◌∙◌, arith}
use Rattle.std.specs.Prelude.{Some, slice_get}
use Rattle.std.proofs.lemmas.List.{length-append}
use Rattle.list_laws.proofs.Contents.{all_at, all_from_at}
use Rattle.list_laws.proofs.Places.{map_back}
use Rattle.ir_ast.specs.declared.modules.Form.TheVariants.{Source}
use Rattle.ir_ast.specs.Blocks.{BasicBlock, EndsAtTerminator}
use Rattle.ir_ast.specs.Funcs.{Function}
use Rattle.ir_ast.specs.Modules.{ModuleContent}
use Rattle.ir_cfg.specs.DefiniteUses.{UsesAreDefinite}
use Rattle.ir_cfg.specs.SourceModules.{IsSourceModule}
use Rattle.ir_cfg.specs.TypedModules.{IsTypedFunction}
use Rattle.base_forms.specs.Polls.{placed}
use Rattle.base_forms.specs.Based.{based, based_module}
use Rattle.base_laws.proofs.ReadyLaws.{renamings}
use Rattle.base_definite.proofs.base_relations.TableInstance.{all_ready, definite_here, is_here, pointers}
use Rattle.base_definite.specs.Statements.{BasedIsDefinite}
use Rattle.base_definite.proofs.PolledUses.{none_undefined}
use Rattle.base_definite.proofs.BasedUses.{based_definite}

module _ (content : ModuleContent) (source : IsSourceModule content) (number : ℕ) (func : Function) (found : slice_get content.funcs number ≡ Some func) where
  typed_function : IsTypedFunction Source func
  typed_function = all_at (IsTypedFunction Source) content.funcs number func (source.typed).functions found

  filled : (place : ℕ) (block : BasicBlock) → slice_get func.blocks place ≡ Some block → 0 < length block.insts
  filled place block at =
      let ends = all_at (λ (each : BasicBlock). EndsAtTerminator each.insts) func.blocks place block typed_function.ends at in
      let long = ap length ends.whole ∙ length-append ends.before (ends.last ∷ []) in
      omega arith

  pub definite_now : UsesAreDefinite (based (placed func))
  definite_now =
      based_definite (renamings content) number (placed func) true (is_here content source number func found) (pointers content source number func found) (all_ready content source number func found)
      (none_undefined func filled (definite_here content source number func found))

pub based_is_definite : BasedIsDefinite
based_is_definite content source =
    all_from_at UsesAreDefinite (based_module content).funcs (λ number now at.
    let from = map_back (λ func. based (placed func)) content.funcs number now at in
    subst UsesAreDefinite (sym from.is) (definite_now content source number from.before from.stands))
