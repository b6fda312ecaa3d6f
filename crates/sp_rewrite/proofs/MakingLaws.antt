-- The functions of a module without unreached blocks are ready for bases, and with them formed.
use Rattle.std.proofs.Common.{◌≡◌, ℕ, ◌^◌, ◌<◌, List, length, map, sym, ap, subst, ◌∙◌}
use Rattle.std.specs.Prelude.{Some, slice_get}
use Rattle.std.specs.List.{All}
use Rattle.std.specs.Option.{option_map}
use Rattle.std.proofs.lemmas.Option.{get_or_from_slice_get}
use Rattle.list_laws.proofs.Contents.{all_at, all_from_at}
use Rattle.list_laws.proofs.Places.{get_map, map_back}
use Rattle.ir_ast.specs.Formed.{IsFormed}
use Rattle.ir_ast.specs.Funcs.{Function, instructions_of}
use Rattle.ir_ast.specs.Modules.{ModuleContent}
use Rattle.ir_ast.specs.declared.modules.Form.TheVariants.{Rewritten}
use Rattle.ir_ast.specs.declared.ops.Operand.{Operand}
use Rattle.ir_cfg.specs.TypedModules.{IsTypedFunction}
use Rattle.ir_cfg.specs.SourceModules.{IsSourceModule}
use Rattle.ir_cfg.proofs.TypedLemmas.{formed_module}
use Rattle.base_forms.specs.Polls.{placed, placed_module}
use Rattle.base_forms.specs.Based.{base_table, based, based_module}
use Rattle.rewriting_forms.specs.Rewritten.{rewritten}
use Rattle.rewriting_laws.specs.Laws.{IsReached}
use Rattle.rewriting_laws.specs.Statements.{IsBefore, no_function}
use Rattle.rewriting_laws.proofs.Whole.{now_get}
use Rattle.rewritten_sound.specs.Definite.{IsReachedSource, base_tables, rewritten_source}
use Rattle.rewritten_sound.proofs.definite.Instance.{based_is_before}
use Rattle.poll_place.specs.Ready.{IsReady}
use Rattle.poll_place.proofs.ReadyLemmas.{sources_are_ready}
use Rattle.rewritten_sound.proofs.shape.BasedTarget.{based_is_target}
use Rattle.rewritten_sound.proofs.shape.TargetLaws.{rewritten_is_target}
use Rattle.rewrite_passes.specs.Before.{CanBeMade, CanHaveGroups, made_of}
use Rattle.sp_rewrite.specs.Before.{FunctionsAreReady}
use Rattle.sp_rewrite.proofs.RewrittenLaws.{reached_source}

formed_at : (reached : ModuleContent) → IsSourceModule reached → (number : ℕ) (func : Function) → slice_get reached.funcs number ≡ Some func → IsFormed (based (placed func))
formed_at reached source number func found =
    all_at IsFormed (map (λ func. based (placed func)) reached.funcs) number (based (placed func)) (formed_module Rewritten (based_module reached) (based_is_target reached source).typed).formed
    (get_map (λ func. based (placed func)) reached.funcs number func found)

pub all_can_be_made : (reached : ModuleContent) → IsSourceModule reached → All CanBeMade (placed_module reached).funcs
all_can_be_made reached source =
    let ready = (sources_are_ready reached source).ready in
    all_from_at CanBeMade (map placed reached.funcs) (λ number now at.
    let from = map_back placed reached.funcs number now at in
    let formed = formed_at reached source number from.before from.stands in
    record {
      ready = all_at IsReady (map placed reached.funcs) number now ready at;
      formed = subst (λ (func : Function). IsFormed (based func)) (sym from.is) formed;
    })

module _ (reached : ModuleContent) (is : IsReachedSource reached) where
  before : IsBefore (based_module reached) (base_tables reached)
  before = based_is_before reached is (base_tables reached)

  -- what insertion of groups asks of a function with its tables
  ready_at : (number : ℕ) (func : Function) → slice_get reached.funcs number ≡ Some func → CanHaveGroups (made_of (placed func))
  ready_at number func found =
      let made = get_map (λ func. based (placed func)) reached.funcs number func found in
      let now : slice_get (rewritten_source reached).funcs number ≡ Some (rewritten (based (placed func)) (base_tables reached number)) =
      now_get (based_module reached) (base_tables reached) before number ∙ ap (option_map (λ (func : Function). rewritten func (base_tables reached number))) made in
      let typed = all_at (IsTypedFunction Rewritten) (rewritten_source reached).funcs number (rewritten (based (placed func)) (base_tables reached number)) ((rewritten_is_target reached is).typed).functions now in
      let table : base_tables reached number ≡ base_table (placed func) = ap (λ (f : Function). base_table (placed f)) (get_or_from_slice_get reached.funcs number func no_function found) in
      record {
        formed = formed_at reached is.source number func found;
        reached = subst IsReached (get_or_from_slice_get (based_module reached).funcs number (based (placed func)) no_function made) (before.graph number);
        few = subst (λ (table : List Operand). length (instructions_of (rewritten (based (placed func)) table).blocks) < 2 ^ 30) table (typed.small).few_instructions;
      }

  pub all_can_have_groups : All CanHaveGroups (map (λ func. made_of (placed func)) reached.funcs)
  all_can_have_groups =
      all_from_at CanHaveGroups (map (λ func. made_of (placed func)) reached.funcs) (λ number now at.
      let from = map_back (λ func. made_of (placed func)) reached.funcs number now at in
      subst CanHaveGroups (sym from.is) (ready_at number from.before from.stands))

pub functions_are_ready : FunctionsAreReady
functions_are_ready content reached source drops =
    let is = reached_source content reached source drops in
    record {
      polls = (sources_are_ready reached is.source).room;
      bases = all_can_be_made reached is.source;
      groups = all_can_have_groups reached is;
    }
