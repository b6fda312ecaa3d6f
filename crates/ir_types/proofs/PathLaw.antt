-- The least fault of lines, by the first fault that isn't one of paths, or by the first line with a use that some path
-- reaches without its definition.
use Rattle.std.proofs.Common.{◌≡◌, ℕ, ◌≤◌, ◌<◌, inl, inr, sym, subst, List, length, Some, arith}
use Rattle.std.specs.List.{All}
use Rattle.std.specs.Prelude.{slice_get}
use Rattle.std.proofs.lemmas.Bool.{cases_order}
use Rattle.ir_ast.specs.declared.modules.Form.{Form}
use Rattle.ir_ast.specs.Funcs.{Function, instructions_of}
use Rattle.ir_ast.specs.Modules.{line_at}
use Rattle.ir_cfg.specs.DefiniteUses.{UsesAreDefinite}
use Rattle.ir_reader.specs.declared.states.Place.TheVariants as places
use Rattle.definite_assign.specs.Faults.{HasMissedUse, LineIsDefinite}
use Rattle.definite_assign.proofs.UseLemmas.{use_within}
use Rattle.ir_lines.specs.Statements.{Line}
use Rattle.ir_lines.specs.Modules.{module_of}
use Rattle.ir_lines.specs.FaultOrder.{ComesFirst, IsLeast}
use Rattle.ir_resolve.specs.FaultSet.{HasResolvedFault, HasNoResolvedFault}
use Rattle.ir_types.specs.Faults.NotDefinite.{NotDefinite}
use Rattle.ir_types.specs.FaultSet.{HasFault, HasNoFault, IsLeastFault, plain, not_definite}
use Rattle.ir_types.specs.FirstMissed.{IsFirstMissed}
use Rattle.ir_types.proofs.FirstLemmas.{all_at, same_func}
use Rattle.ir_lines.specs.TextLines.{Stand}
use Rattle.module_laws.proofs.Rising.{Within, numbers}
use Rattle.module_laws.proofs.InOrder.{InOrder, lines_at, module-rises, later-function, later-place, each-lined}

-- ---- where a fault stands without looking at paths

pub plain-least : (form : Form) (lines : List Line) (line code : ℕ) → IsLeast (HasResolvedFault form lines) line code → IsLeastFault form lines line code
plain-least form lines line code least = record {
  is = plain code least.is;
  least = λ other_line other_code fault. first other_line other_code fault;
}
  where
    first : (other_line other_code : ℕ) → HasFault form lines other_line other_code → ComesFirst line code other_line other_code
    first other_line other_code (plain _ fault) = least.least other_line other_code fault
    first other_line other_code (not_definite none missed) = absurd (none line code least.is)

-- ---- where none stands

not_missed : (func : Function) (place : ℕ) → LineIsDefinite func place → HasMissedUse func place → ⊥
not_missed func place definite missed =
    missed.missed.misses (definite missed.value missed.block missed.place missed.uses missed.missed.path missed.missed.leads)

none_missed : (form : Form) (lines : List Line) (line : ℕ) → All UsesAreDefinite (module_of form lines).content.funcs → NotDefinite form lines line → ⊥
none_missed form lines line all fault =
    not_missed fault.func fault.place
    (λ value block place used. all_at UsesAreDefinite (module_of form lines).content.funcs fault.number fault.func all fault.stands fault.place value block place used) fault.missed

pub definite-faultless : (form : Form) (lines : List Line) → HasNoResolvedFault form lines → All UsesAreDefinite (module_of form lines).content.funcs → HasNoFault form lines
definite-faultless form lines none all line _ (plain code fault) = none line code fault
definite-faultless form lines none all line _ (not_definite also missed) = none_missed form lines line all missed

-- ---- the first line with a use that isn't definite is the least

missed_within : (func : Function) (place : ℕ) → HasMissedUse func place → place < length (instructions_of func.blocks)
missed_within func place missed = use_within func place missed.value missed.block missed.place missed.uses

in_lines : (form : Form) (lines : List Line) (number place : ℕ) (func : Function) → slice_get (module_of form lines).content.funcs number ≡ Some func → HasMissedUse func place
    → place < length (lines_at (module_of form lines).lines number)
in_lines form lines number place func stands missed =
    let below = missed_within func place missed in
    let long = each-lined form lines number func stands in omega (arith, below, long)

-- in one function
one_function : (form : Form) (lines : List Line) (to number place there : ℕ) (func : Function) → InOrder 1 (module_of form lines).lines to
    → ((earlier : ℕ) → earlier < place → LineIsDefinite func earlier) → HasMissedUse func there
    → slice_get (module_of form lines).content.funcs number ≡ Some func
    → line_at (module_of form lines).lines number place ≤ line_at (module_of form lines).lines number there
one_function form lines to number place there func order definite missed stands =
    elim (cases_order place there) [
      | inl e ↦ later-place (module_of form lines).lines 1 to number place there order (omega (arith, e)) (in_lines form lines number there func stands missed)
      | inr apart ↦ elim apart [
        | inl before ↦ later-place (module_of form lines).lines 1 to number place there order (omega (arith, before)) (in_lines form lines number there func stands missed)
        | inr after ↦ absurd (not_missed func there (definite there after) missed)
      ]
    ]

same_function : (form : Form) (lines : List Line) (to line other : ℕ) (first : IsFirstMissed (module_of form lines) line) (fault : NotDefinite form lines other)
    → InOrder 1 (module_of form lines).lines to → first.number ≡ fault.number → line ≤ other
same_function form lines to line other first fault order same =
    let moved : slice_get (module_of form lines).content.funcs first.number ≡ Some fault.func =
    subst (λ (n : ℕ). slice_get (module_of form lines).content.funcs n ≡ Some fault.func) (sym same) fault.stands in
    let func : fault.func ≡ first.func = same_func (module_of form lines).content.funcs first.number fault.func first.func moved first.stands in
    let missed : HasMissedUse first.func fault.place = subst (λ (f : Function). HasMissedUse f fault.place) func fault.missed in
    let below = one_function form lines to first.number first.place fault.place first.func order first.first_place missed first.stands in
    let at : other ≡ line_at (module_of form lines).lines first.number fault.place =
    subst (λ (n : ℕ). other ≡ line_at (module_of form lines).lines n fault.place) (sym same) fault.at in
    omega (arith, below, at, first.at)

other_function : (form : Form) (lines : List Line) (to line other : ℕ) (first : IsFirstMissed (module_of form lines) line) (fault : NotDefinite form lines other)
    → InOrder 1 (module_of form lines).lines to → first.number < fault.number → line ≤ other
other_function form lines to line other first fault order before =
    let below = later-function (module_of form lines).lines 1 to first.number fault.number first.place fault.place order before
    (in_lines form lines first.number first.place first.func first.stands first.missed)
    (in_lines form lines fault.number fault.place fault.func fault.stands fault.missed) in
    omega (arith, below, first.at, fault.at)

not_earlier : (form : Form) (lines : List Line) (line other : ℕ) (first : IsFirstMissed (module_of form lines) line) (fault : NotDefinite form lines other)
    → fault.number < first.number → ⊥
not_earlier form lines line other first fault before =
    not_missed fault.func fault.place
    (λ value block place used. first.first_function fault.number fault.func before fault.stands fault.place value block place used) fault.missed

missed-first : (form : Form) (lines : List Line) (to line other : ℕ) → InOrder 1 (module_of form lines).lines to → IsFirstMissed (module_of form lines) line → NotDefinite form lines other
    → line ≤ other
missed-first form lines to line other order first fault =
    elim (cases_order first.number fault.number) [
      | inl e ↦ same_function form lines to line other first fault order e
      | inr apart ↦ elim apart [
        | inl before ↦ other_function form lines to line other first fault order before
        | inr after ↦ absurd (not_earlier form lines line other first fault after)
      ]
    ]

not_later : (line other : ℕ) → line ≤ other → ComesFirst line 8 other 8
not_later line other before =
    elim (cases_order line other) [
      | inl e ↦ inr (e, omega arith)
      | inr apart ↦ elim apart [
        | inl less ↦ inl less
        | inr more ↦ absurd (omega (arith, before, more))
      ]
    ]

pub missed-least : (form : Form) (lines : List Line) (to line : ℕ) → HasNoResolvedFault form lines → Stand places.Top lines → Within 1 (numbers lines) to
    → IsFirstMissed (module_of form lines) line → IsLeastFault form lines line 8
missed-least form lines to line none stand within missed = record {
  is = not_definite none (record {
    number = missed.number;
    func = missed.func;
    stands = missed.stands;
    place = missed.place;
    missed = missed.missed;
    at = missed.at;
  });
  least = λ other_line other_code fault. first other_line other_code fault;
}
  where
    first : (other_line other_code : ℕ) → HasFault form lines other_line other_code → ComesFirst line 8 other_line other_code
    first other_line _ (plain code fault) = absurd (none other_line code fault)
    first other_line _ (not_definite _ fault) =
        not_later line other_line (missed-first form lines to line other_line (module-rises form lines 1 to stand within) missed fault)
