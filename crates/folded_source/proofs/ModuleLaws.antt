-- A source module with its functions under settled tables is a source module.
use Rattle.std.proofs.Common.{◌≡◌, ℕ, suc, ◌<◌, ◌≤◌, List, [], ◌∷◌, ◌++◌, length, map, refl, sym, ap, subst, ◌∙◌, ◌⊎◌, arith, codes}
use Rattle.std.specs.Prelude.{Option, Some, None, slice_get}
use Rattle.std.specs.List.{All, AllZip, flat_map}
use Rattle.std.specs.Option.{IsSomeAnd, MatchOption}
use Rattle.std.proofs.lemmas.List.{length-append}
use Rattle.std.proofs.lemmas.List.Elements.{length_all_zip}
use Rattle.std.proofs.lemmas.Slice.Zip.{AllZip-right}
use Rattle.list_laws.proofs.Contents.{all_at, all_back, all_from_at, all_front}
use Rattle.list_laws.proofs.Zips.{zip_map}
use Rattle.ir_ast.specs.declared.types.Ty.TheVariants.{Int}
use Rattle.ir_ast.specs.Blocks.{BasicBlock}
use Rattle.ir_ast.specs.Funcs.{Function, instructions_of}
use Rattle.ir_ast.specs.Insts.{Instruction}
use Rattle.ir_ast.specs.Layouts.{ObjectLayout}
use Rattle.ir_ast.specs.Lines.{IsLine}
use Rattle.ir_ast.specs.Lists.{Distinct}
use Rattle.ir_ast.specs.Modules.{ModuleContent}
use Rattle.ir_ast.specs.Scope.{scope_of, signature_of}
use Rattle.ir_ast.specs.Values.{definition_name, definitions_of}
use Rattle.ir_ast.specs.Faultless.{FunctionHasNoFault, HasNoFault}
use Rattle.ir_ast.specs.Faults.NoMain.{HasMain}
use Rattle.ir_ast.specs.Faults.Reserved.{IsExternalName}
use Rattle.ir_ast.specs.Faults.TypeClash.{FunctionIsTyped}
use Rattle.ir_ast.specs.declared.modules.Form.TheVariants.{Source}
use Rattle.ir_cfg.specs.DefiniteUses.{UsesAreDefinite}
use Rattle.ir_cfg.specs.Limits.{IsName, IsWithinLimits}
use Rattle.ir_cfg.specs.SourceModules.{IsSourceModule}
use Rattle.ir_cfg.specs.TypedModules.{IsTypedFunction}
use Rattle.ir_cfg.proofs.KeepsSource.{same_called}
use Rattle.folded_forms.specs.Folded.{Table, folded, folded_blocks}
use Rattle.folded_forms.specs.Simplified.{SameBlock, SameFunction}
use Rattle.folded_source.specs.Statements.{IsUnder, ModuleIsUnder, StaysSource}
use Rattle.folded_source.proofs.FunctionLaws.{IsOfSource, SeesSame, few_lines, function_definite, function_faultless, function_typed, function_types, values_distinct}
use Rattle.folded_source.proofs.PlaceLaws.{targets_same}
use Rattle.folded_source.proofs.Settled.{IsSettled}
use Rattle.object_meaning.specs.Lines.{after_all}

-- ---- the same blocks

same_blocks : (table : Table) (next : ℕ) (blocks : List BasicBlock) → All IsLine (instructions_of blocks) → AllZip SameBlock blocks (folded_blocks table next blocks)
same_blocks table next [] lines = tt
same_blocks table next (block ∷ blocks) lines = (
  record { name = refl; labels = targets_same table next block (all_front IsLine block.insts (instructions_of blocks) lines) },
  same_blocks table (after_all next block.insts) blocks (all_back IsLine block.insts (instructions_of blocks) lines),
)

pub same_function : (func : Function) (table : Table) → All IsLine (instructions_of func.blocks) → SameFunction func (folded func table)
same_function func table lines = record { name = refl; answer = refl; args = refl; blocks = same_blocks table (length func.args) func.blocks lines }

-- ---- the module

abbrev Holds : Function → Table → Type 0
Holds func table = IsSettled func table

abbrev Under : Function → Function → Type 0
Under func new = IsUnder Holds func new

pub of_source : (content : ModuleContent) (source : IsSourceModule content) (place : ℕ) (func : Function) → slice_get content.funcs place ≡ Some func → IsOfSource content func
of_source content source place func at = record {
  form = (source.typed).of_form;
  typed = all_at (IsTypedFunction Source) content.funcs place func (source.typed).functions at;
  definite = all_at UsesAreDefinite content.funcs place func source.definite at;
  faultless = all_at (FunctionHasNoFault content) content.funcs place func ((source.typed).no_fault).functions at;
  lines = all_at (λ (f : Function). FunctionIsTyped (scope_of content f) f) content.funcs place func ((source.typed).no_fault).typed at;
}

-- the first `@main` and the functions round it
record MainFrom (front : List Function) (main : Function) (funcs : List Function) : Type 0 where
  pub earlier : List Function
  pub new : Function
  pub later : List Function
  pub whole : funcs ≡ earlier ++ new ∷ later
  pub before : AllZip Under front earlier
  pub under : Under main new

main_from : (front : List Function) (main : Function) (back funcs : List Function) → AllZip Under (front ++ main ∷ back) funcs → MainFrom front main funcs
main_from [] main back [] zip = absurd zip
main_from [] main back (func ∷ funcs) zip = record { earlier = []; new = func; later = funcs; whole = refl; before = tt; under = zip.0 }
main_from (one ∷ front) main back [] zip = absurd zip
main_from (one ∷ front) main back (func ∷ funcs) zip =
    let rest = main_from front main back funcs zip.1 in
    record {
      earlier = func ∷ rest.earlier;
      new = rest.new;
      later = rest.later;
      whole = ap (λ (fs : List Function). func ∷ fs) rest.whole;
      before = (zip.0, rest.before);
      under = rest.under;
    }

abbrev AnswersNumber : Function → Type 0
AnswersNumber func = (func.answer ≡ Int 32) ⊎ (func.answer ≡ Int 64)

-- what holds of each function of the new module
all_after : (P : Function → Type 0) (funcs after : List Function) → AllZip Under funcs after
    → ((place : ℕ) (func : Function) (table : Table) → slice_get funcs place ≡ Some func → IsSettled func table → P (folded func table)) → All P after
all_after P funcs after zip each = all_from_at P after (λ place new at.
    by place new (slice_get funcs place) refl
    (subst (λ (found : Option Function). MatchOption found (Unit {0}) (λ other. IsSomeAnd (slice_get funcs place) (λ func. Under func other))) at (AllZip-right Under funcs after zip place)))
  where
    by : (place : ℕ) (new : Function) (found : Option Function) → slice_get funcs place ≡ found → IsSomeAnd found (λ func. Under func new) → P new
    by place new None none under = absurd under
    by place new (Some func) here under = subst P (sym under.is) (each place func under.table here under.holds)

module _ (content after : ModuleContent) (source : IsSourceModule content) (under : ModuleIsUnder Holds content after) where
  abbrev zip : AllZip Under content.funcs after.funcs
  zip = under.functions

  many : length after.funcs ≡ length content.funcs
  many = sym (length_all_zip Under content.funcs after.funcs zip)

  same_signatures : map signature_of after.funcs ≡ map signature_of content.funcs
  same_signatures = zip_map Under signature_of (λ func new is. ap signature_of is.is) content.funcs after.funcs zip

  sees : SeesSame content after
  sees = record {
    form = under.form;
    layouts = ap (λ (ls : List ObjectLayout). length ls) under.layouts;
    functions = many;
    called = λ func new callee. same_called content.funcs after.funcs callee same_signatures;
    fields = λ func new. ap (map (λ (layout : ObjectLayout). length layout.fields)) under.layouts;
  }

  its : (place : ℕ) (func : Function) → slice_get content.funcs place ≡ Some func → IsOfSource content func
  its place func at = of_source content source place func at

  main_after : HasMain after
  main_after =
      let has = ((source.typed).no_fault).main in
      let found = main_from has.earlier has.main has.later after.funcs (subst (λ (fs : List Function). AllZip Under fs after.funcs) has.whole zip) in
      record {
        earlier = found.earlier;
        main = found.new;
        later = found.later;
        whole = found.whole;
        first = all_after (λ (func : Function). func.name ≡ codes "main" → ⊥) has.earlier found.earlier found.before (λ place func table at settled.
            all_at (λ (f : Function). f.name ≡ codes "main" → ⊥) has.earlier place func has.first at);
        name = ap (λ (f : Function). f.name) (found.under).is ∙ has.name;
        args = ap (λ (f : Function). f.args) (found.under).is ∙ has.args;
        answer = subst AnswersNumber (sym (found.under).is) has.answer;
      }

  labels_distinct : (func : Function) (table : Table) → Distinct (map (λ (block : BasicBlock). block.name) func.blocks) → Distinct (map (λ (block : BasicBlock). block.name) (folded func table).blocks)
  labels_distinct func table distinct = subst Distinct (sym (names_same (length func.args) func.blocks)) distinct
    where
      names_same : (next : ℕ) (blocks : List BasicBlock) → map (λ (block : BasicBlock). block.name) (folded_blocks table next blocks) ≡ map (λ (block : BasicBlock). block.name) blocks
      names_same next [] = refl
      names_same next (block ∷ blocks) = ap (λ (names : List (List ℕ)). block.name ∷ names) (names_same (after_all next block.insts) blocks)

  faultless_after : HasNoFault after
  faultless_after =
      let old = (source.typed).no_fault in
      record {
        names = record {
          layouts = subst (λ (ls : List ObjectLayout). Distinct (map (λ layout. layout.name) ls)) (sym under.layouts) (old.names).layouts;
          functions = subst Distinct (sym (zip_map Under (λ (func : Function). func.name) (λ func new is. ap (λ (f : Function). f.name) is.is) content.funcs after.funcs zip)) (old.names).functions;
          labels = all_after (λ (func : Function). Distinct (map (λ block. block.name) func.blocks)) content.funcs after.funcs zip (λ place func table at settled.
              labels_distinct func table (all_at (λ (f : Function). Distinct (map (λ block. block.name) f.blocks)) content.funcs place func (old.names).labels at));
          values = all_after (λ (func : Function). Distinct (map definition_name (definitions_of func))) content.funcs after.funcs zip (λ place func table at settled.
              values_distinct content func table settled (its place func at) (all_at (λ (f : Function). Distinct (map definition_name (definitions_of f))) content.funcs place func (old.names).values at));
        };
        typed = all_after (λ (func : Function). FunctionIsTyped (scope_of after func) func) content.funcs after.funcs zip (λ place func table at settled.
            function_types content func table settled (its place func at) after sees);
        functions = all_after (FunctionHasNoFault after) content.funcs after.funcs zip (λ place func table at settled.
            function_faultless content func table settled (its place func at) after sees);
        main = main_after;
        fields = subst (λ (ls : List ObjectLayout). All (λ layout. 0 < length layout.fields) ls) (sym under.layouts) old.fields;
        free = all_after (λ (func : Function). IsExternalName func.name → ⊥) content.funcs after.funcs zip (λ place func table at settled.
            all_at (λ (f : Function). IsExternalName f.name → ⊥) content.funcs place func old.free at);
      }

  limits_after : IsWithinLimits after
  limits_after =
      let limits = (source.typed).limits in
      record {
        layouts = subst (λ (ls : List ObjectLayout). length ls ≤ 4096) (sym under.layouts) limits.layouts;
        functions = subst (λ (n : ℕ). n ≤ 4096) (sym many) limits.functions;
        layout_names = subst (λ (ls : List ObjectLayout). All (λ layout. length layout.name ≤ 4096) ls) (sym under.layouts) limits.layout_names;
        function_names = all_after (λ (func : Function). length func.name ≤ 4096) content.funcs after.funcs zip (λ place func table at settled.
            all_at (λ (f : Function). length f.name ≤ 4096) content.funcs place func limits.function_names at);
        fields = subst (λ (ls : List ObjectLayout). All (λ layout. length layout.fields ≤ 64) ls) (sym under.layouts) limits.fields;
        arguments = all_after (λ (func : Function). length func.args ≤ 64) content.funcs after.funcs zip (λ place func table at settled.
            all_at (λ (f : Function). length f.args ≤ 64) content.funcs place func limits.arguments at);
      }

  abbrev text : Function → List Instruction
  text func = instructions_of func.blocks

  fewer : (funcs new : List Function) → AllZip Under funcs new
      → ((place : ℕ) (func : Function) → slice_get funcs place ≡ Some func → IsOfSource content func) → length (flat_map text new) ≤ length (flat_map text funcs)
  fewer [] [] each of = omega arith
  fewer [] (func ∷ new) each of = absurd each
  fewer (func ∷ funcs) [] each of = absurd each
  fewer (func ∷ funcs) (one ∷ new) each of =
      let rest = fewer funcs new each.1 (λ place f at. of (suc place) f at) in
      let same = ap (λ (f : Function). length (text f)) (each.0).is in
      let few = few_lines content func (each.0).table (each.0).holds (of 0 func refl) in
      let here = length-append (text one) (flat_map text new) in
      let there = length-append (text func) (flat_map text funcs) in
      omega (arith, rest, same, few, here, there)

  source_after : IsSourceModule after
  source_after =
      let typed = source.typed in
      let few = fewer content.funcs after.funcs zip its in
      let small = typed.small in
      record {
        typed = record {
          of_form = under.form ∙ typed.of_form;
          no_fault = faultless_after;
          functions = all_after (IsTypedFunction Source) content.funcs after.funcs zip (λ place func table at settled. function_typed content func table settled (its place func at));
          layout_names = subst (λ (ls : List ObjectLayout). All (λ layout. IsName layout.name) ls) (sym under.layouts) typed.layout_names;
          limits = limits_after;
          small = omega (arith, few, small);
        };
        definite = all_after UsesAreDefinite content.funcs after.funcs zip (λ place func table at settled. function_definite content func table settled (its place func at));
      }

  same_functions : (funcs new : List Function) → AllZip Under funcs new → ((place : ℕ) (func : Function) → slice_get funcs place ≡ Some func → IsOfSource content func) → AllZip SameFunction funcs new
  same_functions [] [] each of = tt
  same_functions [] (func ∷ new) each of = absurd each
  same_functions (func ∷ funcs) [] each of = absurd each
  same_functions (func ∷ funcs) (one ∷ new) each of = (
    subst (SameFunction func) (sym (each.0).is) (same_function func (each.0).table (((of 0 func refl).typed).lines)),
    same_functions funcs new each.1 (λ place f at. of (suc place) f at),
  )

  pub stays_source : StaysSource content after
  stays_source = record { source = source_after; functions = same_functions content.funcs after.funcs zip its }
