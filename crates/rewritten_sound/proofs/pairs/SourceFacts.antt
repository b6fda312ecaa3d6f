-- The rewritten module of a source module whose functions take pointers with their bases is verified, and what bundles hold there.
use Rattle.std.proofs.Common.{◌≡◌, ℕ, true, List, refl, sym, ap, subst, ◌∙◌}
use Rattle.std.specs.Prelude.{Option, Some, None, slice_get}
use Rattle.std.specs.List.{All}
use Rattle.std.specs.Option.{option_map}
use Rattle.std.proofs.lemmas.Bool.{false≢true}
use Rattle.std.proofs.lemmas.Option.{get_or_from_slice_get, none-some, same_Some}
use Rattle.list_laws.proofs.Contents.{all_at, all_from_at}
use Rattle.ir_ast.specs.declared.modules.Form.TheVariants.{Rewritten}
use Rattle.ir_ast.specs.declared.ops.Op.{Op}
use Rattle.ir_ast.specs.declared.ops.Op.TheVariants as ops
use Rattle.ir_ast.specs.declared.ops.Operand.{Operand}
use Rattle.ir_ast.specs.Bases.{HasBases, IsBaseTable}
use Rattle.ir_ast.specs.Faultless.{FunctionHasNoFault}
use Rattle.ir_ast.specs.Faults.PhiEdges.{PhisAreRight, is_phi}
use Rattle.ir_ast.specs.Faults.TypeClash.{FunctionIsTyped, IsTyped}
use Rattle.ir_ast.specs.Funcs.{Function, instructions_of}
use Rattle.ir_ast.specs.Lines.{IsLine, LineOf}
use Rattle.ir_ast.specs.Modules.{ModuleContent}
use Rattle.ir_ast.specs.Scope.{scope_of}
use Rattle.ir_cfg.specs.TargetModules.{IsTargetModule}
use Rattle.ir_cfg.specs.TypedModules.{IsTypedFunction}
use Rattle.ir_cfg.specs.Paths.{IsReached}
use Rattle.definite_assign.proofs.TextLemmas.{stands_in_text}
use Rattle.object_meaning.specs.Lines.{register_count}
use Rattle.base_forms.specs.Polls.{placed}
use Rattle.base_forms.specs.Based.{base_table, based, based_module}
use Rattle.base_laws.proofs.MeaningLaws.{found_now}
use Rattle.base_definite.specs.Paths.{HasDefiniteBases}
use Rattle.base_definite.specs.Relations.{before}
use Rattle.base_definite.proofs.base_relations.TableInstance.{table_has_bases}
use Rattle.base_definite.proofs.BasesInstance.{based_has_definite_bases}
use Rattle.rewriting_forms.specs.Liveness.{live_table}
use Rattle.rewriting_forms.specs.Names.{Naming}
use Rattle.rewriting_forms.specs.Rewritten.{Choice, rewritten_with}
use Rattle.rewriting_laws.specs.Laws.{IsPlain}
use Rattle.rewriting_laws.specs.Related.{IsRewriting}
use Rattle.rewriting_laws.specs.Statements.{func_of, no_function, rewritings_by}
use Rattle.rewriting_laws.proofs.Whole.{get_by, modules_by}
use Rattle.rewritten_sound.specs.LeadsOut.{PhisAreBare}
use Rattle.rewritten_sound.specs.Definite.{ChoiceFits, IsReachedSource, base_tables, rewritten_source_by}
use Rattle.rewritten_sound.proofs.definite.Instance.{based_is_before, is_ready}
use Rattle.rewritten_sound.proofs.shape.BasedTarget.{based_is_target}
use Rattle.pair_facts.specs.Faults.{FaultAt, IsVerified}
use Rattle.rewritten_sound.specs.Pairs.{HasTypedBases, TakesBases}
use Rattle.rewritten_sound.specs.Takes.{HasPairs, HoldsOthers}
use Rattle.rewritten_sound.proofs.pairs.PairsFacts.{bases_have_pairs, holds_others}
use Rattle.rewritten_sound.proofs.pairs.Verdict.{fitting_is_verified}
use Rattle.ir_ast.proofs.OpLaws.{phi_is}

bare_phis : (func : Function) → All IsLine (instructions_of func.blocks) → PhisAreBare func
bare_phis func forms b k inst stands one =
    (subst (λ (op : Op). LineOf op inst) (phi_is inst.op one) (all_at IsLine (instructions_of func.blocks) _ inst forms (stands_in_text func b k inst stands))).0.no_bundle

module _ (content : ModuleContent) (is : IsReachedSource content) (number : ℕ) where
  module _ (func : Function) (found : slice_get content.funcs number ≡ Some func) where
    abbrev made : Function
    made = based (placed func)

    made_there : slice_get (based_module content).funcs number ≡ Some made
    made_there = found_now content number (Some func) found

    func_is : func_of (based_module content) number ≡ made
    func_is = get_or_from_slice_get (based_module content).funcs number made no_function made_there

    table_is : base_tables content number ≡ base_table (placed func)
    table_is = ap (λ (f : Function). base_table (placed f)) (get_or_from_slice_get content.funcs number func no_function found)

    target : IsTargetModule (based_module content)
    target = based_is_target content is.source

    form : IsTypedFunction Rewritten made
    form = all_at (IsTypedFunction Rewritten) (based_module content).funcs number made target.typed.functions made_there

    no_fault : FunctionHasNoFault (based_module content) made
    no_fault = all_at (FunctionHasNoFault (based_module content)) (based_module content).funcs number made target.typed.no_fault.functions made_there

    types : FunctionIsTyped (scope_of (based_module content) made) made
    types = all_at (λ (f : Function). FunctionIsTyped (scope_of (based_module content) f) f) (based_module content).funcs number made target.typed.no_fault.typed made_there

    reached : IsReached func
    reached = all_at IsReached content.funcs number func is.reached found

    pub reached_there : IsReached made
    reached_there = (is_ready content is number func found).reached

    pub bases_there : HasDefiniteBases made before
    bases_there = all_at (λ (f : Function). IsReached f → HasDefiniteBases (based (placed f)) before) content.funcs number func (based_has_definite_bases content is.source) found reached

    pub table_there : IsBaseTable made before (base_table (placed func))
    table_there =
        (all_at (λ (f : Function). IsReached f → HasBases (based (placed f)) before × IsBaseTable (based (placed f)) before (base_table (placed f))) content.funcs number func
        (table_has_bases content is.source) found reached).1

    pub phis_there : PhisAreRight made
    phis_there = no_fault.phis

    pub bare_there : PhisAreBare made
    bare_there = bare_phis made form.lines

    pub lines_there : All IsLine (instructions_of made.blocks)
    lines_there = form.lines

    pub typed_there : All (IsTyped (scope_of (based_module content) made)) (instructions_of made.blocks)
    typed_there = types.lines

    pub others_there : HoldsOthers made
    others_there = holds_others (based_module content) made before (base_table (placed func)) bases_there table_there phis_there bare_there reached_there lines_there typed_there

    typed_bases : TakesBases func → HasTypedBases (based_module content) made before (base_table (placed func)) (register_count (based_module content) number)
    typed_bases takes = record {
      plain = subst (λ (f : Function). IsPlain f (register_count (based_module content) number)) func_is ((based_is_before content is (base_tables content)).plain number);
      reached = reached_there;
      bases = bases_there;
      table_bases = table_there;
      phis = phis_there;
      bare = bare_there;
      lines = lines_there;
      typed = typed_there;
      takes = takes;
    }

    pairs_there : TakesBases func → HasPairs (func_of (based_module content) number) (base_tables content number) (live_table (func_of (based_module content) number) (base_tables content number))
    pairs_there takes =
        subst (λ (f : Function). HasPairs f (base_tables content number) (live_table f (base_tables content number))) (sym func_is)
        (subst (λ (table : List Operand). HasPairs made table (live_table made table)) (sym table_is)
        (bases_have_pairs (based_module content) made before (base_table (placed func)) (register_count (based_module content) number) (typed_bases takes)))

module _ (content : ModuleContent) (is : IsReachedSource content) (choose : Choice) (fitting : ChoiceFits content choose) (number : ℕ) where
  each : IsRewriting (rewritings_by (based_module content) (base_tables content) choose) (rewritings_by (based_module content) (base_tables content) choose number)
  each = (modules_by (based_module content) (base_tables content) choose (based_is_before content is (base_tables content)) fitting).each number

  abbrev chosen : Function → Naming
  chosen func = choose number func (base_tables content number)

  abbrev rewritten_there : Function → Function
  rewritten_there func = rewritten_with func (base_tables content number) (chosen func)

  none_there : (func : Function) → slice_get content.funcs number ≡ Some func → TakesBases func → (block place code : ℕ)
      → FaultAt (rewritten_there (func_of (based_module content) number)) block place code → ⊥
  none_there func found takes =
      fitting_is_verified (func_of (based_module content) number) (base_tables content number) (chosen (func_of (based_module content) number)) (register_count (based_module content) number)
      (record { plain = each.plain; fits = each.fits; numbers = each.numbers; pairs = pairs_there content is number func found takes })

  get_now : (here : Option Function) → slice_get content.funcs number ≡ here
      → slice_get (rewritten_source_by content choose).funcs number ≡ option_map (λ (f : Function). rewritten_there f) (option_map (λ (f : Function). based (placed f)) here)
  get_now here found =
      get_by (based_module content) (base_tables content) choose (based_is_before content is (base_tables content)) fitting number
      ∙ ap (option_map (λ (f : Function). rewritten_there f)) (found_now content number here found)

  verified_at : (takes : All TakesBases content.funcs) (now : Function) (here : Option Function) → slice_get content.funcs number ≡ here → slice_get (rewritten_source_by content choose).funcs number ≡ Some now
      → (block place code : ℕ) → FaultAt now block place code → ⊥
  verified_at takes now None none at block place code fault = none-some now (sym (get_now None none) ∙ at)
  verified_at takes now (Some func) found at block place code fault =
      let takes_here = all_at TakesBases content.funcs number func takes found in
      let same : rewritten_there (based (placed func)) ≡ now = same_Some (rewritten_there (based (placed func))) now (sym (get_now (Some func) found) ∙ at) in
      let func_same = func_is content is number func found in
      none_there func found takes_here block place code
      (subst (λ (f : Function). FaultAt f block place code) (sym (ap (λ (f : Function). rewritten_there f) func_same ∙ same)) fault)

pub taking_is_verified : (content : ModuleContent) → IsReachedSource content → (choose : Choice) → ChoiceFits content choose → All TakesBases content.funcs
    → IsVerified (rewritten_source_by content choose)
taking_is_verified content is choose fitting takes number block place code func at fault =
    verified_at content is choose fitting number takes func (slice_get content.funcs number) refl at block place code fault

-- the bundles of the module with bases hold other pointers than their lines give
pub all_hold_others : (content : ModuleContent) → IsReachedSource content → All HoldsOthers (based_module content).funcs
all_hold_others content is = all_from_at HoldsOthers (based_module content).funcs (λ number now at. by number now (slice_get content.funcs number) refl at)
  where
    by : (number : ℕ) (now : Function) (here : Option Function) → slice_get content.funcs number ≡ here → slice_get (based_module content).funcs number ≡ Some now → HoldsOthers now
    by number now None none at = absurd (none-some now (sym (found_now content number None none) ∙ at))
    by number now (Some func) found at =
        subst HoldsOthers (same_Some (based (placed func)) now (sym (found_now content number (Some func) found) ∙ at)) (others_there content is number func found)
