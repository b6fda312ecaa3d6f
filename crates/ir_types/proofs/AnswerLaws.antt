-- The first fault of a text resolved and of its module is the least of both; and what is known of a module without one.
use Rattle.std.proofs.Common.{◌≡◌, ◌∙◌, ℕ, ◌+◌, inl, inr, sym, ap, subst, List, length, Option, None, Result, Ok, Err, IfOk}
use Rattle.std.specs.List.{All}
use Rattle.std.specs.Str.Lines.{lines}
use Rattle.ir_ast.specs.declared.modules.Form.{Form}
use Rattle.ir_ast.specs.Formed.{IsFormedModule}
use Rattle.ir_ast.specs.Modules.{LinedModule}
use Rattle.ir_cfg.specs.DefiniteUses.{UsesAreDefinite}
use Rattle.ir_cfg.specs.TypedModules.{IsModuleOf}
use Rattle.ir_cfg.proofs.TypedLemmas.{formed_module}
use Rattle.ir_reader.specs.declared.raw.NumberedReading.{NumberedReading}
use Rattle.ir_reader.specs.Raws.{Readings, IsRead}
use Rattle.ir_lines.specs.declared.faults.Fault.{Fault}
use Rattle.ir_lines.specs.Statements.{Line}
use Rattle.ir_lines.specs.Modules.{module_of}
use Rattle.ir_lines.specs.Notes.{Notes}
use Rattle.ir_lines.specs.Views.{seen_lines}
use Rattle.ir_lines.proofs.NoteLemmas.{Either, notes-then, notes-same, notes-none}
use Rattle.ir_resolve.specs.Resolved.{resolved}
use Rattle.ir_resolve.specs.TextFaults.{HasTextFault}
use Rattle.ir_resolve.specs.ModuleFaults.{HasModuleFault}
use Rattle.ir_resolve.specs.FaultSet.{HasResolvedFault, HasNoResolvedFault, of_text, of_module}
use Rattle.module_laws.specs.TextFunctions.{HasFewInstructions}
use Rattle.module_laws.proofs.ReadTexts.{read-lines}
use Rattle.module_laws.proofs.Rising.{lines-rise}
use Rattle.module_laws.proofs.TypedTexts.{whole_typed, whole_functions}
use Rattle.ir_types.specs.declared.faults.TypeFault.{TypeFault}
use Rattle.ir_types.specs.declared.faults.TypeFault.TheVariants as answers
use Rattle.ir_types.specs.FaultSet.{IsLeastFault}
use Rattle.ir_types.specs.FirstMissed.{IsFirstMissed}
use Rattle.ir_types.specs.Answers.{Answers, PathsAnswer}
use Rattle.ir_types.proofs.PathLaw.{missed-least, definite-faultless}

-- ---- the text's own faults, and those of its module

abbrev OfText : Form → List Line → ℕ → ℕ → Type 0
OfText form lines line code = HasTextFault form lines line code

abbrev OfModule : LinedModule → List (List (List ℕ)) → ℕ → ℕ → Type 0
OfModule whole cases line code = HasModuleFault (record { whole = whole; cases = cases }) line code

abbrev OfEither : Form → List Line → ℕ → ℕ → Type 0
OfEither form lines line code = HasResolvedFault form lines line code

to-either : (form : Form) (lines : List Line) (line code : ℕ)
    → Either (OfText form lines) (OfModule (resolved form lines).whole (resolved form lines).cases) line code → HasResolvedFault form lines line code
to-either form lines line code (inl own) = of_text own
to-either form lines line code (inr its) = of_module its

from-either : (form : Form) (lines : List Line) (line code : ℕ) → HasResolvedFault form lines line code
    → Either (OfText form lines) (OfModule (resolved form lines).whole (resolved form lines).cases) line code
from-either form lines line code (of_text own) = inl own
from-either form lines line code (of_module its) = inr its

pub resolved-noted : (form : Form) (lines : List Line) (noted found : Option Fault) (whole : LinedModule) (cases : List (List (List ℕ)))
    → whole ≡ (resolved form lines).whole → cases ≡ (resolved form lines).cases
    → Notes None noted (OfText form lines) → Notes noted found (OfModule whole cases) → Notes None found (OfEither form lines)
resolved-noted form lines noted found whole cases is are own its =
    let moved : Notes noted found (OfModule (resolved form lines).whole cases) = subst (λ (w : LinedModule). Notes noted found (OfModule w cases)) is its in
    let both : Notes noted found (OfModule (resolved form lines).whole (resolved form lines).cases) =
    subst (λ (cs : List (List (List ℕ))). Notes noted found (OfModule (resolved form lines).whole cs)) are moved in
    notes-same None found (Either (OfText form lines) (OfModule (resolved form lines).whole (resolved form lines).cases)) (OfEither form lines)
    (to-either form lines) (from-either form lines)
    (notes-then None noted found (OfText form lines) (OfModule (resolved form lines).whole (resolved form lines).cases) own both)

-- ---- of readings

-- what was noted of the readings in their form, whose module and cases these are
pub text-noted : (r : Readings) (form : Form) (ls : List NumberedReading) → form ≡ r.form → ls ≡ r.lines → (noted found : Option Fault)
    (whole : LinedModule) (cases given : List (List (List ℕ))) → whole ≡ (resolved form (seen_lines ls)).whole → cases ≡ (resolved form (seen_lines ls)).cases
    → given ≡ cases → Notes None noted (OfText form (seen_lines ls)) → Notes noted found (OfModule whole given)
    → Notes None found (OfEither r.form (seen_lines r.lines))
text-noted r form ls f l noted found whole cases given is are g own its =
    subst (λ (m : Form). Notes None found (OfEither m (seen_lines r.lines))) f
    (subst (λ (xs : List NumberedReading). Notes None found (OfEither form (seen_lines xs))) l
    (resolved-noted form (seen_lines ls) noted found whole given is (g ∙ are) own its))

pub text-unbroken : (r : Readings) (found : Option Fault) → found ≡ None → Notes None found (OfEither r.form (seen_lines r.lines))
    → HasNoResolvedFault r.form (seen_lines r.lines)
text-unbroken r found is noted =
    notes-none (OfEither r.form (seen_lines r.lines)) (subst (λ (f : Option Fault). Notes None f (OfEither r.form (seen_lines r.lines))) is noted)

pub text-module : (r : Readings) (form : Form) (ls : List NumberedReading) → form ≡ r.form → ls ≡ r.lines → (whole : LinedModule)
    → whole ≡ (resolved form (seen_lines ls)).whole → whole ≡ module_of r.form (seen_lines r.lines)
text-module r form ls f l whole is =
    is ∙ ap (λ (m : Form). module_of m (seen_lines ls)) f ∙ ap (λ (xs : List NumberedReading). module_of r.form (seen_lines xs)) l

-- ---- the answer

pub formed-text : (r : Readings) → IsRead r → (whole : LinedModule) → whole ≡ module_of r.form (seen_lines r.lines) → HasNoResolvedFault r.form (seen_lines r.lines)
    → IsFormedModule whole.content
formed-text r read whole is none = formed_module r.form whole.content (whole_typed r read whole is none)

pub answers-paths : (r : Readings) → IsRead r → (whole : LinedModule) → whole ≡ module_of r.form (seen_lines r.lines) → HasNoResolvedFault r.form (seen_lines r.lines)
    → (answered : Result LinedModule TypeFault) → PathsAnswer whole answered → Answers r.form (seen_lines r.lines) answered
answers-paths r read whole is none (Ok again) paths = record {
  is = paths.0 ∙ is;
  faultless = definite-faultless r.form (seen_lines r.lines) none (subst (λ (w : LinedModule). All UsesAreDefinite w.content.funcs) is paths.1);
}
answers-paths r read whole is none (Err (answers.Fault fault)) paths =
    subst (λ (code : ℕ). IsLeastFault r.form (seen_lines r.lines) fault.line code) (sym paths.1)
    (missed-least r.form (seen_lines r.lines) (1 + length (lines r.text)) fault.line none (read-lines r read).placed (lines-rise r read)
    (subst (λ (w : LinedModule). IsFirstMissed w fault.line) is paths.0))
answers-paths r read whole is none (Err answers.Memory) paths = tt

pub module-paths : (r : Readings) → IsRead r → (whole : LinedModule) → whole ≡ module_of r.form (seen_lines r.lines) → HasNoResolvedFault r.form (seen_lines r.lines)
    → (answered : Result LinedModule TypeFault) → PathsAnswer whole answered → IfOk answered (λ again. IsModuleOf r.form again.content)
module-paths r read whole is none (Ok again) paths = subst (λ (w : LinedModule). IsModuleOf r.form w.content) (sym paths.0) (record {
  typed = whole_typed r read whole is none;
  definite = paths.1;
})
module-paths r read whole is none (Err fault) paths = tt

-- what the module has, it still has
pub kept-paths : (P : LinedModule → Type 0) (whole : LinedModule) → P whole → (answered : Result LinedModule TypeFault) → PathsAnswer whole answered → IfOk answered P
kept-paths P whole has (Ok again) paths = subst P (sym paths.0) has
kept-paths P whole has (Err fault) paths = tt

pub functions-paths : (r : Readings) → IsRead r → (whole : LinedModule) → whole ≡ module_of r.form (seen_lines r.lines) → HasNoResolvedFault r.form (seen_lines r.lines)
    → (answered : Result LinedModule TypeFault) → PathsAnswer whole answered → IfOk answered (λ again. All HasFewInstructions again.content.funcs)
functions-paths r read whole is none answered paths =
    kept-paths (λ (w : LinedModule). All HasFewInstructions w.content.funcs) whole (whole_functions r read whole is none) answered paths
