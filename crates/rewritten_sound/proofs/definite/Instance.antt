-- The laws for a source module without unreached blocks.
use Rattle.std.proofs.Common.{◌≡◌, ℕ, List, length, refl, sym, ap, subst, ◌∙◌, arith}
use Rattle.std.specs.Prelude.{Option, Some, None, slice_get}
use Rattle.std.specs.List.{All}
use Rattle.std.specs.Option.{option_map}
use Rattle.std.proofs.lemmas.List.{length-map}
use Rattle.list_laws.proofs.Contents.{all_at, all_from_at}
use Rattle.list_laws.proofs.Places.{map_back}
use Rattle.ir_ast.specs.declared.modules.Form.TheVariants.{Source}
use Rattle.ir_ast.specs.declared.ops.Operand.{Operand}
use Rattle.ir_ast.specs.Bases.{HasBases, IsBaseTable}
use Rattle.ir_ast.specs.Edges.{targets}
use Rattle.ir_ast.specs.Faultless.{FunctionHasNoFault}
use Rattle.ir_ast.specs.Funcs.{Function}
use Rattle.ir_ast.specs.Modules.{ModuleContent}
use Rattle.ir_cfg.specs.DefiniteUses.{UsesAreDefinite}
use Rattle.ir_cfg.specs.Graphs.{Graph}
use Rattle.ir_cfg.specs.Paths.{Reached, IsReached}
use Rattle.ir_cfg.specs.TypedModules.{IsTypedFunction}
use Rattle.ir_ast.specs.Faults.PhiEdges.{PhisAreRight}
use Rattle.ir_cfg.proofs.KeepsLines.{all_insts}
use Rattle.base_forms.specs.Polls.{placed}
use Rattle.base_forms.specs.Based.{base_table, based, based_module}
use Rattle.base_laws.proofs.MeaningLaws.{bases_keep_meaning, found_now}
use Rattle.base_laws.proofs.ShapeLaws.{graph_now, in_shape}
use Rattle.base_definite.specs.Paths.{HasDefiniteBases}
use Rattle.base_definite.specs.Relations.{before}
use Rattle.base_definite.proofs.base_relations.TableInstance.{table_has_bases}
use Rattle.base_definite.proofs.BasesInstance.{based_has_definite_bases}
use Rattle.rewriting_forms.specs.Names.{Naming, naming_of}
use Rattle.rewriting_forms.specs.Rewritten.{Choice, names_of, place_in, rewritten_with}
use Rattle.rewriting_forms.specs.Liveness.{live_table}
use Rattle.rewriting_laws.specs.Laws.{Fits, IsNumbering}
use Rattle.rewriting_laws.specs.Related.{IsRewriting}
use Rattle.rewriting_laws.specs.Statements.{IsExact, func_of, no_function, rewritings_by}
use Rattle.rewriting_laws.proofs.LiveExact.{live_is_exact}
use Rattle.rewriting_laws.proofs.Rewritings.{fitting_adds, fitting_keeps}
use Rattle.rewriting_laws.proofs.Whole.{chosen_fit, get_by, modules_by}
use Rattle.std.proofs.lemmas.Option.{get_or_from_slice_get}
use Rattle.rewritten_sound.specs.LeadsOut.{IsReadyForGroups, LeadsOut}
use Rattle.rewritten_sound.specs.Definite.{BasedIsBefore, ChoiceFits, FittingIsDefinite, FittingKeepsMeaning, FittingSourceIsDefinite, IsReachedSource, LiveIsExactThere, RewrittenIsDefinite, RewrittenKeepsMeaning, base_tables, rewritten_source_by}
use Rattle.rewritten_sound.proofs.definite.BeforeLaws.{is_before}
use Rattle.rewritten_sound.proofs.definite.DefiniteLaws.{definite_now}
use Rattle.rewritten_sound.proofs.definite.MadeLaws.{leads_out, phis_are_bare, phis_are_right}
use Rattle.rewritten_sound.proofs.definite.UsedLaws.{phis_agree}

-- ---- one function

module _ (content : ModuleContent) (is : IsReachedSource content) (number : ℕ) (func : Function) (found : slice_get content.funcs number ≡ Some func) where
  abbrev made : Function
  made = based (placed func)

  typed_function : IsTypedFunction Source func
  typed_function = all_at (IsTypedFunction Source) content.funcs number func ((is.source).typed).functions found

  no_fault : FunctionHasNoFault content func
  no_fault = all_at (FunctionHasNoFault content) content.funcs number func (((is.source).typed).no_fault).functions found

  reached : IsReached func
  reached = all_at IsReached content.funcs number func is.reached found

  reached_now : IsReached made
  reached_now block below =
      let long = ap length (graph_now func) in
      let one = length-map (based (placed func)).blocks targets in
      let other = length-map func.blocks targets in
      subst (λ (graph : Graph). Reached graph block) (sym (graph_now func)) (reached block (omega arith))

  pub is_ready : IsReadyForGroups (based_module content) made
  is_ready = record {
    shape = in_shape content is.source number func found;
    leads = all_insts LeadsOut made.blocks (λ b place block inst in_blocks in_block.
        leads_out func typed_function.lines b place inst (record { block = block; in_function = in_blocks; in_block = in_block }));
    reached = reached_now;
  }

  phis_now : PhisAreRight made
  phis_now = phis_are_right func no_fault.phis typed_function.lines (graph_now func) (in_shape content is.source number func found).phis

  exact_there : (table : List Operand) (b k v : ℕ) → IsExact made table b k v
  exact_there table b k v = live_is_exact made table (phis_agree made phis_now) b k v

  pub definite_there : (naming : Naming) → Fits made (base_table (placed func)) naming (live_table made (base_table (placed func))) → (room : ℕ)
      → IsNumbering made (base_table (placed func)) naming.joins (place_in (names_of made (base_table (placed func)) naming)) room
      → UsesAreDefinite (rewritten_with made (base_table (placed func)) naming)
  definite_there naming fits room numbers =
      let definite_bases = all_at (λ (each : Function). IsReached each → HasDefiniteBases (based (placed each)) before) content.funcs number func (based_has_definite_bases content is.source) found reached in
      let table = (all_at (λ (each : Function). IsReached each → HasBases (based (placed each)) before × IsBaseTable (based (placed each)) before (base_table (placed each))) content.funcs number func
      (table_has_bases content is.source) found reached).1 in
      definite_now made (base_table (placed func)) naming fits room numbers before definite_bases table
      phis_now
      (phis_are_bare func no_fault.phis typed_function.lines)

-- ---- the module

all_ready : (content : ModuleContent) → IsReachedSource content → All (IsReadyForGroups (based_module content)) (based_module content).funcs
all_ready content is =
    all_from_at (IsReadyForGroups (based_module content)) (based_module content).funcs (λ number now at.
    let from = map_back (λ func. based (placed func)) content.funcs number now at in
    subst (IsReadyForGroups (based_module content)) (sym from.is) (is_ready content is number from.before from.stands))

pub based_is_before : BasedIsBefore
based_is_before content is tables = is_before (based_module content) (all_ready content is) tables

pub live_is_exact_there : LiveIsExactThere
live_is_exact_there content is =
    all_from_at (λ (func : Function). (table : List Operand) (b k v : ℕ) → IsExact func table b k v) (based_module content).funcs (λ number now at.
    let from = map_back (λ func. based (placed func)) content.funcs number now at in
    subst (λ (func : Function). (table : List Operand) (b k v : ℕ) → IsExact func table b k v) (sym from.is) (exact_there content is number from.before from.stands))

pub fitting_keeps_meaning : FittingKeepsMeaning
fitting_keeps_meaning content is choose fitting input go bound outcome =
    let ready = based_is_before content is (base_tables content) in
    let bases = bases_keep_meaning content is.source input go bound outcome in (
      λ gives. fitting_keeps (based_module content) (base_tables content) choose ready fitting input go bound outcome (bases.0 gives),
      λ gives. bases.1 (fitting_adds (based_module content) (base_tables content) choose ready fitting input go bound outcome gives),
    )

module _ (content : ModuleContent) (is : IsReachedSource content) (choose : Choice) (fitting : ChoiceFits content choose) (number : ℕ) where
  abbrev chosen : Function → List Operand → Naming
  chosen func table = choose number func table

  abbrev FitsThere : Function → List Operand → Type 0
  FitsThere func table = Fits func table (chosen func table) (live_table func table)

  abbrev NumbersThere : Function → List Operand → Type 0
  NumbersThere func table =
      IsNumbering func table (chosen func table).joins (place_in (names_of func table (chosen func table))) (length (names_of func table (chosen func table)))

  each : IsRewriting (rewritings_by (based_module content) (base_tables content) choose) (rewritings_by (based_module content) (base_tables content) choose number)
  each = (modules_by (based_module content) (base_tables content) choose (based_is_before content is (base_tables content)) fitting).each number

  abbrev rewritten_there : Function → List Operand → Function
  rewritten_there func table = rewritten_with func table (chosen func table)

  get_now : (here : Option Function) → slice_get content.funcs number ≡ here
      → slice_get (rewritten_source_by content choose).funcs number
      ≡ option_map (λ (func : Function). rewritten_there func (base_tables content number)) (option_map (λ (func : Function). based (placed func)) here)
  get_now here found =
      get_by (based_module content) (base_tables content) choose (based_is_before content is (base_tables content)) fitting number
      ∙ ap (option_map (λ (func : Function). rewritten_there func (base_tables content number))) (found_now content number here found)

  module _ (func : Function) (found : slice_get content.funcs number ≡ Some func) where
    table_is : base_tables content number ≡ base_table (placed func)
    table_is = ap (λ (f : Function). base_table (placed f)) (get_or_from_slice_get content.funcs number func no_function found)

    func_is : func_of (based_module content) number ≡ based (placed func)
    func_is = get_or_from_slice_get (based_module content).funcs number (based (placed func)) no_function (found_now content number (Some func) found)

    at_func : (P : Function → List Operand → Type 0) → P (func_of (based_module content) number) (base_tables content number) → P (based (placed func)) (base_table (placed func))
    at_func P holds =
        subst (λ (table : List Operand). P (based (placed func)) table) table_is
        (subst (λ (f : Function). P f (base_tables content number)) func_is holds)

    definite_of : UsesAreDefinite (rewritten_there (based (placed func)) (base_table (placed func)))
    definite_of =
        definite_there content is number func found (chosen (based (placed func)) (base_table (placed func))) (at_func FitsThere each.fits)
        (length (names_of (based (placed func)) (base_table (placed func)) (chosen (based (placed func)) (base_table (placed func))))) (at_func NumbersThere each.numbers)

  definite_at : (now : Function) (here : Option Function) → slice_get content.funcs number ≡ here → slice_get (rewritten_source_by content choose).funcs number ≡ Some now → UsesAreDefinite now
  definite_at now None none at = absurd (let missing : None ≡ Some now = sym (get_now None none) ∙ at in cc)
  definite_at now (Some func) found at =
      let both : Some (rewritten_there (based (placed func)) (base_tables content number)) ≡ Some now = sym (get_now (Some func) found) ∙ at in
      let same : rewritten_there (based (placed func)) (base_tables content number) ≡ now = cc in
      subst UsesAreDefinite (ap (rewritten_there (based (placed func))) (sym (table_is func found)) ∙ same) (definite_of func found)

pub fitting_source_is_definite : FittingSourceIsDefinite
fitting_source_is_definite content is choose fitting =
    all_from_at UsesAreDefinite (rewritten_source_by content choose).funcs
    (λ number now at. definite_at content is choose fitting number now (slice_get content.funcs number) refl at)

pub fitting_is_definite : FittingIsDefinite
fitting_is_definite func merged table naming has =
    definite_now func table naming has.fits (length (names_of func table naming)) has.numbers merged has.bases has.table_bases has.phis has.bare

-- ---- the rewritten module

pub source_fits : (content : ModuleContent) → IsReachedSource content → ChoiceFits content (λ g. naming_of)
source_fits content is = chosen_fit (based_module content) (base_tables content) (based_is_before content is (base_tables content))

pub rewritten_keeps_meaning : RewrittenKeepsMeaning
rewritten_keeps_meaning content is = fitting_keeps_meaning content is (λ g. naming_of) (source_fits content is)

pub rewritten_is_definite : RewrittenIsDefinite
rewritten_is_definite content is = fitting_source_is_definite content is (λ g. naming_of) (source_fits content is)
