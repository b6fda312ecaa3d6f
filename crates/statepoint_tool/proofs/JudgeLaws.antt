-- What verifying a module comes to, before it is run or told of.
use Rattle.std.proofs.Common.{◌≡◌, ◌∙◌, inl, inr, ℕ, true, false, List, Option, refl, sym, ap, subst, arith}
use Rattle.ir_ast.specs.declared.modules.Form.TheVariants as text_forms
use Rattle.ir_ast.specs.Modules.{LinedModule, ModuleContent}
use Rattle.ir_cfg.specs.TypedModules.{IsModuleOf}
use Rattle.sp_rewrite.specs.Relocates.{HasManyRelocates}
use Rattle.sp_rewrite.proofs.RewrittenLaws.{source_is_rewritten}
use Rattle.pair_facts.specs.Faults.{IsVerified, IsNoLater, IsLeastFault}
use Rattle.statepoint_verify.specs.declared.faults.Fault.{Fault as CheckFault}
use Rattle.statepoint_verify.specs.declared.faults.VerifyFault.{VerifyFault}
use Rattle.statepoint_verify.specs.declared.faults.VerifyFault.TheVariants as refusals
use Rattle.statepoint_verify.specs.Verdicts.{IsRefusal}
use Rattle.statepoint_tool.specs.Causes.{IsTrusted}
use Rattle.statepoint_tool.specs.Steps.{Step, Go, Stop, Then, goes_on, stops, comes_to}
use Rattle.statepoint_tool.specs.Taken.{Taken, Bytes, Longer, Faulty, file_phase}
use Rattle.statepoint_tool.specs.Work.{Judging, verified, said_no, Rewriting, rewritten, too_many, judged, form_of, module_phase, checked_phase, run_module_phase}
use Rattle.ir_machine.specs.declared.run.Shows.{Shows}
use Rattle.statepoint_tool.specs.declared.engine.Engine.{Engine}
use Rattle.statepoint_tool.specs.declared.engine.Engine.TheVariants.{Meaning, Rewriter, Machine}
use Rattle.statepoint_tool.specs.declared.refusal.Cause.{Cause}
use Rattle.statepoint_tool.specs.declared.refusal.Cause.TheVariants.{Check, Module, ReadFault, TooLong}
use Rattle.statepoint_tool.specs.declared.refusal.ModuleFault.TheVariants.{TooManyRelocations}
use Rattle.statepoint_tool.proofs.StepLaws.{Once, stop_in, same-value, not_both, Once-comes_to, Once-Then}
use Rattle.statepoint_tool.proofs.TextLaws.{Once-module_phase}
use Rattle.statepoint_tool.proofs.RewriteLaws.{Once-Rewriting}

same_line : (l c m d : ℕ) → IsNoLater l c m d → IsNoLater m d l c → l ≡ m
same_line l c m d (inl p) (inl q) = absurd (omega arith)
same_line l c m d (inl p) (inr q) = let r = q.0 in absurd (omega arith)
same_line l c m d (inr p) q = p.0

same_code : (l c m d : ℕ) → IsNoLater l c m d → IsNoLater m d l c → c ≡ d
same_code l c m d (inl p) (inl q) = absurd (omega arith)
same_code l c m d (inl p) (inr q) = let r = q.0 in absurd (omega arith)
same_code l c m d (inr p) (inl q) = let r = p.0 in absurd (omega arith)
same_code l c m d (inr p) (inr q) = let r = p.1 in let s = q.1 in omega arith

same_fault : (one other : CheckFault) → one.line ≡ other.line → one.code ≡ other.code → one ≡ other
same_fault one other line code =
    ap (λ (n : ℕ). record { line = n; code = one.code }) line ∙ ap (λ (n : ℕ). record { line = other.line; code = n }) code

one-least : (whole : LinedModule) (one other : CheckFault) → IsLeastFault whole one.line one.code → IsLeastFault whole other.line other.code → one ≡ other
one-least whole one other p q =
    let first : IsNoLater one.line one.code other.line other.code = p.least other.line other.code q.fault in
    let second : IsNoLater other.line other.code one.line one.code = q.least one.line one.code p.fault in
    same_fault one other (same_line one.line one.code other.line other.code first second) (same_code one.line one.code other.line other.code first second)

unfaulty : (whole : LinedModule) (line code : ℕ) → IsVerified whole.content → IsLeastFault whole line code → ⊥
unfaulty whole line code none least =
    none least.fault.number least.fault.block least.fault.place code least.fault.func least.fault.defined least.fault.fault

Once-Judging : (whole : LinedModule) → Once (Judging whole)
Once-Judging whole _ _ (verified none) (verified also) = refl
Once-Judging whole _ _ (verified none) (said_no fault least) = absurd (unfaulty whole fault.line fault.code none least)
Once-Judging whole _ _ (said_no fault least) (verified none) = absurd (unfaulty whole fault.line fault.code none least)
Once-Judging whole _ _ (said_no one p) (said_no other q) = ap (λ (fault : CheckFault). stop_in LinedModule (Check fault)) (one-least whole one other p q)

Once-judged : (engine : Engine) (whole : LinedModule) → Once (judged engine whole)
Once-judged Meaning whole = Once-comes_to (Go whole)
Once-judged (Rewriter map_file shows) whole = Once-Then (Rewriting whole.content) (λ after. comes_to (Go whole)) (Once-Rewriting whole.content) (λ (after : ModuleContent). Once-comes_to (Go whole))
Once-judged (Machine map_file true shows) whole = Once-comes_to (Go whole)
Once-judged (Machine map_file false shows) whole = Once-Judging whole

pub Once-checked_phase : (text : List ℕ) → Once (checked_phase text)
Once-checked_phase text = Once-Then (module_phase text_forms.Rewritten text) Judging (Once-module_phase text_forms.Rewritten text) Once-Judging

pub Once-run_module_phase : (engine : Engine) (text : List ℕ) → Once (run_module_phase engine text)
Once-run_module_phase engine text = Once-Then (module_phase (form_of engine) text) (judged engine) (Once-module_phase (form_of engine) text) (Once-judged engine)

-- what the verifier refuses it tells
pub refused-says : (whole : LinedModule) (error : VerifyFault) (fault : CheckFault) (back : LinedModule) → error ≡ refusals.Fault fault back
    → IsRefusal whole error → Judging whole (Stop (Check fault))
refused-says whole error fault back is refused = said_no fault (subst (IsRefusal whole) is refused).1

-- ---- what a verdict tells

pub record Passes (whole after : LinedModule) : Type 0 where
  pub is : after ≡ whole
  pub verified : IsVerified whole.content

pub passes_by : (whole : LinedModule) (step : Step LinedModule) (after : LinedModule) → step ≡ Go after → Judging whole step → Passes whole after
passes_by whole _ after is (verified none) = record { is = sym (same-value whole after is); verified = none }
passes_by whole _ after is (said_no fault least) = absurd (not_both after (Check fault) (sym is))

pub passes : (whole after : LinedModule) → Judging whole (Go after) → Passes whole after
passes whole after judging = passes_by whole (Go after) after refl judging

pub record SaysNo (whole : LinedModule) (cause : Cause) : Type 0 where
  pub fault : CheckFault
  pub is : cause ≡ Check fault
  pub least : IsLeastFault whole fault.line fault.code

says_no_by : (whole : LinedModule) (step : Step LinedModule) (cause : Cause) → step ≡ Stop cause → Judging whole step → SaysNo whole cause
says_no_by whole _ cause is (verified none) = absurd (not_both whole cause is)
says_no_by whole _ cause is (said_no fault least) =
    record { fault = fault; is = (let s : stop_in LinedModule (Check fault) ≡ Stop cause = is in cc); least = least }

pub says_no : (whole : LinedModule) (cause : Cause) → Judging whole (Stop cause) → SaysNo whole cause
says_no whole cause judging = says_no_by whole (Stop cause) cause refl judging

-- a module that goes on is the one that was read, and is trusted or verified
pub record GoesOn (engine : Engine) (whole after : LinedModule) : Type 0 where
  pub is : after ≡ whole
  pub trusted : IsTrusted engine whole.content

few_by : (content : ModuleContent) (step : Step ModuleContent) (after : ModuleContent) → step ≡ Go after → Rewriting content step → ¬ HasManyRelocates content
few_by content _ after is (rewritten own own_is few) = few
few_by content _ after is (too_many many) = absurd (not_both after (Module TooManyRelocations) (sym is))

goes_rewritten : (map_file : Option (List ℕ)) (shows : Shows) (whole after : LinedModule) (step : Step LinedModule) → step ≡ Go after → Then (Rewriting whole.content) (λ (made : ModuleContent). comes_to (Go whole)) step → GoesOn (Rewriter map_file shows) whole after
goes_rewritten map_file shows whole after _ is (goes_on made step first rest) =
    record { is = same-value after whole (sym is ∙ rest); trusted = few_by whole.content (Go made) made refl first }
goes_rewritten map_file shows whole after _ is (stops reason first) = absurd (not_both after reason (sym is))

pub trusted_of : (engine : Engine) (whole after : LinedModule) → judged engine whole (Go after) → GoesOn engine whole after
trusted_of Meaning whole after same = record { is = same-value after whole same; trusted = tt }
trusted_of (Rewriter map_file shows) whole after phase = goes_rewritten map_file shows whole after (Go after) refl phase
trusted_of (Machine map_file true shows) whole after same = record { is = same-value after whole same; trusted = tt }
trusted_of (Machine map_file false shows) whole after judging = let found = passes whole after judging in record { is = found.is; trusted = found.verified }

-- a module of the form that the engine runs goes on where it is trusted: a source module has a rewritten module
pub as-trusted : (engine : Engine) (whole : LinedModule) → IsModuleOf (form_of engine) whole.content → IsTrusted engine whole.content → judged engine whole (Go whole)
as-trusted Meaning whole is trusted = refl
as-trusted (Rewriter map_file shows) whole is few = (let made = source_is_rewritten whole.content is in goes_on made.0 (Go whole) (rewritten made.0 made.1 few) refl)
as-trusted (Machine map_file true shows) whole is trusted = refl
as-trusted (Machine map_file false shows) whole is trusted = verified trusted

-- a module that is to be rewritten stops where it would have too many relocates
pub record IsLarge (whole : LinedModule) (cause : Cause) : Type 0 where
  pub is : cause ≡ Module TooManyRelocations
  pub many : HasManyRelocates whole.content

large_by : (whole : LinedModule) (step : Step ModuleContent) (cause : Cause) → step ≡ Stop cause → Rewriting whole.content step → IsLarge whole cause
large_by whole _ cause is (rewritten own own_is few) = absurd (not_both own cause is)
large_by whole _ cause is (too_many many) = record { is = (let s : stop_in ModuleContent (Module TooManyRelocations) ≡ Stop cause = is in cc); many = many }

pub large : (whole : LinedModule) (cause : Cause) (step : Step LinedModule) → step ≡ Stop cause → Then (Rewriting whole.content) (λ (after : ModuleContent). comes_to (Go whole)) step → IsLarge whole cause
large whole cause _ is (goes_on made step first rest) = absurd (not_both whole cause (sym rest ∙ is))
large whole cause _ is (stops own first) =
    let same : own ≡ cause = (let s : stop_in LinedModule own ≡ Stop cause = is in cc) in
    large_by whole (Stop own) cause (ap (stop_in ModuleContent) same) first

-- ---- phases of a file

-- where the phase that a phase begins with stops, so does it
pub file-stops : {A B : Type 0} (name : List ℕ) (read : List ℕ → Step A → Type 0) (next : A → Step B → Type 0) (taken : Taken) (reason : Cause)
    → file_phase name read taken (Stop reason) → file_phase name (λ text. Then (read text) next) taken (Stop reason)
file-stops name read next (Bytes text) reason stopped = stops reason stopped
file-stops {A} {B} name read next Longer reason stopped = let is : stop_in A reason ≡ Stop (TooLong name) = stopped in
    let same : reason ≡ TooLong name = cc in ap (stop_in B) same
file-stops {A} {B} name read next Faulty reason stopped = let is : stop_in A reason ≡ Stop (ReadFault name) = stopped in
    let same : reason ≡ ReadFault name = cc in ap (stop_in B) same
