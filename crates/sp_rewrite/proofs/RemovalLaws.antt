-- Whichever trivial phis are removed from the functions of a source module, what is left does what the source does.
use Rattle.std.proofs.Common.{◌≡◌, ◌∙◌, ◌+◌, ℕ, suc, true, List, [], ◌∷◌, Some, slice_get, refl, ap, sym, subst, arith}
use Rattle.std.proofs.lemmas.Bool.{and_parts}
use Rattle.std.proofs.lemmas.Option.{get_or_from_slice_get}
use Rattle.ir_ast.specs.declared.modules.Form.TheVariants.{Rewritten}
use Rattle.ir_ast.specs.declared.ops.Operand.{Operand}
use Rattle.ir_ast.specs.Funcs.{Function}
use Rattle.ir_ast.specs.Modules.{ModuleContent}
use Rattle.ir_cfg.specs.SourceModules.{IsSourceModule}
use Rattle.ir_cfg.specs.Unreached.{ModuleDropsUnreached}
use Rattle.base_forms.specs.Based.{based_module}
use Rattle.phi_webs.specs.Becomes.{becomes}
use Rattle.phi_webs.proofs.BecomesLaws.{becomes_is_minimal, becomes_is_removal}
use Rattle.rewriting_forms.specs.Names.{Name, full_naming, joined, joins_of, least_naming, naming_after, naming_of, same_name}
use Rattle.rewriting_forms.specs.Rewritten.{Choice, rewritten_funcs_by, rewritten_with}
use Rattle.rewriting_laws.specs.Laws.{IsReached}
use Rattle.rewriting_laws.specs.Statements.{func_of, no_function}
use Rattle.rewriting_laws.proofs.NameTests.{tells_names}
use Rattle.rewriting_laws.proofs.RemovalLaws.{join_inside, least_is_one, removal_fits}
use Rattle.rewritten_sound.specs.Definite.{ChoiceFits, IsReachedSource, base_tables}
use Rattle.rewritten_sound.proofs.definite.Instance.{based_is_before, fitting_keeps_meaning, fitting_source_is_definite}
use Rattle.rewritten_sound.proofs.pairs.TakesFacts.{fitting_source_is_verified}
use Rattle.unreached_laws.proofs.MeaningLaws.{unreached_are_no_matter}
use Rattle.sp_rewrite.specs.Removals.{AreRemovals, RemovalEnds, RemovalEndsThere, RemovalIsNoMatter, RemovalKeepsAll, choice_after, phis_in}
use Rattle.sp_rewrite.proofs.RewrittenLaws.{reached_source}

removals_fit : (reached : ModuleContent) → IsReachedSource reached → (now : ℕ → Name → Name) → AreRemovals reached now → ChoiceFits reached (choice_after now)
removals_fit reached is now removals = record {
  fits = λ g. removal_fits (func_of (based_module reached) g) (base_tables reached g) ((based_is_before reached is (base_tables reached)).graph g) (now g) (removals g);
  inside = λ g b v joins.
      let func = func_of (based_module reached) g in
      let table = base_tables reached g in
      join_inside func table b v (and_parts (joins_of func table b v) (same_name (joined b v) (now g (joined b v))) joins).0;
}

pub removal_keeps_all : RemovalKeepsAll
removal_keeps_all content reached source drops now removals =
    let is = reached_source content reached source drops in
    let fit = removals_fit reached is now removals in
    record {
      meaning = λ input go bound outcome.
          let without = unreached_are_no_matter content reached source drops input go bound outcome in
          let keeps = fitting_keeps_meaning reached is (choice_after now) fit input go bound outcome in
          (λ gives. keeps.0 (without.0 gives), λ gives. without.1 (keeps.1 gives));
      definite = fitting_source_is_definite reached is (choice_after now) fit;
      verified = fitting_source_is_verified reached is (choice_after now) fit;
    }

pub removal_is_no_matter : RemovalIsNoMatter
removal_is_no_matter content reached source drops now other removals others input go bound outcome =
    let one = (removal_keeps_all content reached source drops now removals).meaning input go bound outcome in
    let two = (removal_keeps_all content reached source drops other others).meaning input go bound outcome in
    (λ gives. two.0 (one.1 gives), λ gives. one.0 (two.1 gives))

-- ---- where no trivial phi is left

-- two choices that are the same at each function give the same functions
same_funcs : (tables : ℕ → List Operand) (choose other : Choice) (from : ℕ) (funcs : List Function)
    → ((k : ℕ) (func : Function) → slice_get funcs k ≡ Some func → choose (from + k) func (tables (from + k)) ≡ other (from + k) func (tables (from + k)))
    → rewritten_funcs_by tables choose from funcs ≡ rewritten_funcs_by tables other from funcs
same_funcs tables choose other from [] each = refl
same_funcs tables choose other from (func ∷ funcs) each =
    let z : from + 0 ≡ from = omega arith in
    let here : choose from func (tables from) ≡ other from func (tables from) = subst (λ n. choose n func (tables n) ≡ other n func (tables n)) z (each 0 func refl) in
    ap (λ naming. rewritten_with func (tables from) naming ∷ rewritten_funcs_by tables choose (suc from) funcs) here
    ∙ ap (λ rest. rewritten_with func (tables from) (other from func (tables from)) ∷ rest)
    (same_funcs tables choose other (suc from) funcs (λ k f at.
    let step : from + suc k ≡ suc from + k = omega arith in
    subst (λ n. choose n f (tables n) ≡ other n f (tables n)) step (each (suc k) f at)))

pub removal_ends : RemovalEnds
removal_ends reached = (
  λ g. becomes same_name (phis_in reached g),
  λ g. becomes_is_removal same_name tells_names (phis_in reached g),
  λ g. becomes_is_minimal same_name tells_names (phis_in reached g),
)

pub removal_ends_there : RemovalEndsThere
removal_ends_there content reached source drops now removals minimal =
    ap with_funcs (same_funcs tables (choice_after now) (λ g. naming_of) 0 before.funcs (λ g func at.
    let z : 0 + g ≡ g = omega arith in
    subst (λ n. naming_after (full_naming func (tables n)) (now n) ≡ least_naming func (tables n)) (sym z)
    (subst (λ f. naming_after (full_naming f (tables g)) (now g) ≡ least_naming f (tables g)) (get_or_from_slice_get before.funcs g func no_function at)
    (least_is_one (func_of before g) (tables g) (graphs g) (now g) (removals g) (minimal g)))))
  where
    before : ModuleContent
    before = based_module reached

    tables : ℕ → List Operand
    tables = base_tables reached

    graphs : (g : ℕ) → IsReached (func_of (based_module reached) g)
    graphs = (based_is_before reached (reached_source content reached source drops) (base_tables reached)).graph

    with_funcs : List Function → ModuleContent
    with_funcs funcs = record (based_module reached) { funcs = funcs; form = Rewritten }
