-- The bases of each function of a source module, with what their law asks for.
use Rattle.std.proofs.Common.{◌≡◌, ◌≢◌, ℕ, ◌≤◌, List, length, map, sym, subst, arith}
use Rattle.std.specs.Prelude.{Some, slice_get}
use Rattle.std.specs.List.{All}
use Rattle.std.proofs.lemmas.List.Sums.{count_by-le-length, length-filter}
use Rattle.list_laws.proofs.Contents.{all_at, all_from_at}
use Rattle.sp_ids.specs.declared.ids.ValueId.{ValueId}
use Rattle.ir_ast.specs.declared.ops.Operand.TheVariants.{Value}
use Rattle.ir_ast.specs.declared.modules.Form.TheVariants.{Source}
use Rattle.ir_ast.specs.Bases.{Base, HasBases, IsBaseTable}
use Rattle.ir_ast.specs.Faultless.{FunctionHasNoFault, OfForm}
use Rattle.ir_ast.specs.Faults.Reserved.{IsSource}
use Rattle.ir_ast.specs.Funcs.{Function, instructions_of}
use Rattle.ir_ast.specs.Lists.{Distinct}
use Rattle.ir_ast.specs.Modules.{ModuleContent}
use Rattle.ir_ast.specs.Values.{Definition, definition_name, definitions_of}
use Rattle.ir_cfg.specs.DefiniteUses.{Uses}
use Rattle.ir_cfg.specs.SourceModules.{IsSourceModule}
use Rattle.ir_cfg.specs.TypedModules.{IsTypedFunction}
use Rattle.ir_cfg.specs.Paths.{IsReached}
use Rattle.base_forms.specs.Polls.{placed}
use Rattle.base_forms.specs.Based.{base_table, based}
use Rattle.base_forms.proofs.PlacedLaws.{definitions_placed}
use Rattle.base_laws.proofs.ReadyLaws.{renamings}
use Rattle.base_laws.proofs.ShapeLaws.{in_shape}
use Rattle.base_definite.specs.Comings.{DefinedSince}
use Rattle.base_definite.specs.Paths.{HasDefiniteBases}
use Rattle.base_definite.proofs.base_paths.StayLaws.{bases_stay}
use Rattle.base_definite.specs.Relations.{before}
use Rattle.base_definite.proofs.base_relations.TableInstance.{all_ready, table_has_bases}
use Rattle.base_definite.specs.Statements.{BasedBasesStay, BasedHasDefiniteBases}
use Rattle.base_definite.proofs.SpreadLaws.{IsFree}
use Rattle.base_definite.proofs.NameLaws.{distinct_now}
use Rattle.base_definite.proofs.DefiniteInstance.{definite_now}
use Rattle.object_meaning.proofs.GivenLaws.{has_result, definition_count}

module _ (content : ModuleContent) (source : IsSourceModule content) (number : ℕ) (func : Function) (found : slice_get content.funcs number ≡ Some func) where
  typed_function : IsTypedFunction Source func
  typed_function = all_at (IsTypedFunction Source) content.funcs number func (source.typed).functions found

  no_fault : FunctionHasNoFault content func
  no_fault = all_at (FunctionHasNoFault content) content.funcs number func ((source.typed).no_fault).functions found

  is_source : IsSource func
  is_source = (subst (λ form. OfForm form func) (source.typed).of_form no_fault.form).0

  apart : Distinct (map definition_name (definitions_of func))
  apart = all_at (λ (each : Function). Distinct (map definition_name (definitions_of each))) content.funcs number func (((source.typed).no_fault).names).values found

  small : length (definitions_of func) ≤ 8192
  small =
      let count = definition_count func in
      let named = length-filter has_result (instructions_of func.blocks) in
      let fewer = count_by-le-length has_result (instructions_of func.blocks) in
      let limit = typed_function.small in
      omega arith

  names_apart : Distinct (map definition_name (definitions_of (based (placed func))))
  names_apart =
      let same = sym (definitions_placed func) in
      distinct_now (renamings content) (placed func) (all_ready content source number func found)
      (subst (λ (all : List Definition). Distinct (map definition_name all)) same apart)
      (subst (λ (all : List Definition). All IsFree all) same is_source.values)
      (subst (λ (all : List Definition). length all ≤ 8192) same small)

  definite_bases : IsReached func → HasDefiniteBases (based (placed func)) before
  definite_bases reached = record {
    bases = (all_at (λ (each : Function). IsReached each → HasBases (based (placed each)) before × IsBaseTable (based (placed each)) before (base_table (placed each))) content.funcs number func
        (table_has_bases content source) found reached).0;
    names = names_apart;
    ends = (in_shape content source number func found).ends;
    definite = definite_now content source number func found;
  }

pub based_has_definite_bases : BasedHasDefiniteBases
based_has_definite_bases content source =
    all_from_at (λ (func : Function). IsReached func → HasDefiniteBases (based (placed func)) before) content.funcs (λ number func found. definite_bases content source number func found)

pub based_bases_stay : BasedBasesStay
based_bases_stay content source =
    all_from_at
    (λ (func : Function). IsReached func → (pointer base : ValueId) → Base (based (placed func)) before (Value pointer) (Value base) → pointer.0 ≢ base.0
    → (line block place : ℕ) → Uses (based (placed func)) line pointer.0 block place → ¬ DefinedSince (based (placed func)) base.0 pointer.0 block place)
    content.funcs (λ number func found reached. bases_stay (based (placed func)) before (definite_bases content source number func found reached))
