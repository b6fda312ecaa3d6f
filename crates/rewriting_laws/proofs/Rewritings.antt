-- The rewritten module, and each under other names that fit, ends as the module before liveness does.
use Rattle.std.proofs.Common.{◌≡◌, ℕ, suc, ◌+◌, Bool, not, if◌then◌else◌, List, [], ◌∷◌, length, refl, ap, sym, Option, ◌∙◌, subst}
use Rattle.std.specs.Prelude.{codes, Some, None, slice_get, ℤ}
use Rattle.std.specs.Option.{option_map, option_map_or}
use Rattle.std.specs.List.{prefix_len}
use Rattle.std.specs.Str.{bytes_eq}
use Rattle.ir_ast.specs.declared.ops.Operand.{Operand}
use Rattle.ir_ast.specs.Funcs.{Function}
use Rattle.ir_ast.specs.Modules.{ModuleContent}
use Rattle.object_meaning.specs.Lines.{main_of}
use Rattle.object_meaning.specs.States.{Setting}
use Rattle.object_meaning.specs.Outcomes.{Outcome, Gives, opening}
use Rattle.object_meaning.specs.TargetRuns.{TargetGives}
use Rattle.object_meaning.specs.Texts.{function_name}
use Rattle.object_meaning.proofs.SimulationLaws.{FollowsIn, gives_there, gives_here}
use Rattle.rewriting_forms.specs.Names.{naming_of}
use Rattle.rewriting_forms.specs.Rewritten.{Choice, rewritten_funcs_by, rewritten_module_by, rewritten_with}
use Rattle.rewriting_laws.specs.Related.{Rewriting, setting_of, setting_now}
use Rattle.rewriting_laws.specs.Statements.{FittingAdds, FittingKeeps, HaveFittingNames, IsBefore, RewritingAdds, RewritingKeeps, rewritings_by}
use Rattle.rewriting_laws.proofs.Keeps.{ProgressKept, follows, begun_same}
use Rattle.rewriting_laws.proofs.Whole.{chosen_fit, get_by, modules_by, setting_before, setting_behind}

-- the functions keep their names
same_prefix : (p : List ℕ → Bool) (tables : ℕ → List Operand) (choose : Choice) (from : ℕ) (funcs : List Function)
    → prefix_len (λ (f : Function). not (p f.name)) (rewritten_funcs_by tables choose from funcs) ≡ prefix_len (λ (f : Function). not (p f.name)) funcs
same_prefix p tables choose from [] = refl
same_prefix p tables choose from (f ∷ funcs) = ap (λ (n : ℕ). if not (p f.name) then 1 + n else 0) (same_prefix p tables choose (suc from) funcs)

same_length : (tables : ℕ → List Operand) (choose : Choice) (from : ℕ) (funcs : List Function) → length (rewritten_funcs_by tables choose from funcs) ≡ length funcs
same_length tables choose from [] = refl
same_length tables choose from (f ∷ funcs) = ap suc (same_length tables choose (suc from) funcs)

same_main : (content : ModuleContent) (tables : ℕ → List Operand) (choose : Choice) → main_of (rewritten_module_by content tables choose) ≡ main_of content
same_main content tables choose =
    let front = same_prefix (λ (name : List ℕ). bytes_eq name (codes "main")) tables choose 0 content.funcs in
    let long = same_length tables choose 0 content.funcs in
    rw (front, long) refl

names_same : (content : ModuleContent) (tables : ℕ → List Operand) (choose : Choice) → IsBefore content tables → HaveFittingNames content tables choose → (g : ℕ)
    → function_name (rewritten_module_by content tables choose) g ≡ function_name content g
names_same content tables choose before fitting g =
    ap (λ (o : Option Function). option_map_or (λ (f : Function). f.name) o []) (get_by content tables choose before fitting g) ∙ named (slice_get content.funcs g)
  where
    named : (o : Option Function) → option_map_or (λ (f : Function). f.name) (option_map (λ (f : Function). rewritten_with f (tables g) (choose g f (tables g))) o) [] ≡ option_map_or (λ (f : Function). f.name) o []
    named (Some f) = refl
    named None = refl

-- the run of the two settings, from their openings
module _ (content : ModuleContent) (tables : ℕ → List Operand) (choose : Choice) (before : IsBefore content tables) (fitting : HaveFittingNames content tables choose) (input : List ℤ) (go : ℕ → Option ℕ) (bound : ℕ) where
  abbrev all : ℕ → Rewriting
  all = rewritings_by content tables choose

  abbrev now : ModuleContent
  now = rewritten_module_by content tables choose

  abbrev one : Setting
  one = setting_of content all go bound

  abbrev other : Setting
  other = setting_now now all go bound

  it_follows : FollowsIn one other (ProgressKept all content now (modules_by content tables choose before fitting) go bound)
  it_follows = follows all content now (modules_by content tables choose before fitting) go bound (names_same content tables choose before fitting)

  begins : ProgressKept all content now (modules_by content tables choose before fitting) go bound (opening one input) (opening other input)
  begins = begun_same all content now (modules_by content tables choose before fitting) go bound (same_main content tables choose) input

  there : (outcome : Outcome) → TargetGives content input go bound outcome → TargetGives now input go bound outcome
  there outcome gives =
      let from : Gives one input outcome = subst (λ (s : Setting). Gives s input outcome) (setting_before content tables choose before fitting go bound) gives in
      subst (λ (s : Setting). Gives s input outcome) (sym (setting_behind content tables choose before fitting go bound))
      (gives_there one other (ProgressKept all content now (modules_by content tables choose before fitting) go bound) it_follows input begins outcome from)

  here : (outcome : Outcome) → TargetGives now input go bound outcome → TargetGives content input go bound outcome
  here outcome gives =
      let from : Gives other input outcome = subst (λ (s : Setting). Gives s input outcome) (setting_behind content tables choose before fitting go bound) gives in
      subst (λ (s : Setting). Gives s input outcome) (sym (setting_before content tables choose before fitting go bound))
      (gives_here one other (ProgressKept all content now (modules_by content tables choose before fitting) go bound) it_follows input begins outcome from)

pub fitting_keeps : FittingKeeps
fitting_keeps content tables choose before fitting input go bound outcome gives = there content tables choose before fitting input go bound outcome gives

pub fitting_adds : FittingAdds
fitting_adds content tables choose before fitting input go bound outcome gives = here content tables choose before fitting input go bound outcome gives

-- ---- the rewritten module

pub rewriting_keeps : RewritingKeeps
rewriting_keeps content tables before = fitting_keeps content tables (λ g. naming_of) before (chosen_fit content tables before)

pub rewriting_adds : RewritingAdds
rewriting_adds content tables before = fitting_adds content tables (λ g. naming_of) before (chosen_fit content tables before)
