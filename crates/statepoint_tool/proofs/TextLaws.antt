-- What reading and typing a module's text come to.
use Rattle.std.proofs.Common.{◌≡◌, ℕ, inl, inr, List, Result, Ok, Err, ◌∙◌, refl, sym, ap, subst, arith}
use Rattle.ir_ast.specs.declared.modules.Form.{Form as TextForm}
use Rattle.ir_ast.specs.Modules.{LinedModule}
use Rattle.ir_reader.specs.Text.{Numbered, Fault, syntax_fault, limit_fault, readings_in}
use Rattle.ir_lines.specs.declared.faults.Fault.{Fault as TypeFault}
use Rattle.ir_types.specs.Answers.{IsTypedAs, Answers}
use Rattle.ir_types.specs.declared.faults.TypeFault.{TypeFault as TypingFault}
use Rattle.ir_types.specs.declared.faults.TypeFault.TheVariants as answers
use Rattle.ir_lines.specs.Statements.{Line, lines_of}
use Rattle.ir_lines.specs.FaultOrder.{ComesFirst}
use Rattle.ir_types.specs.FaultSet.{IsLeastFault}
use Rattle.ir_lines.specs.Modules.{module_of}
use Rattle.statepoint_tool.specs.Causes.{IsReadAs, IsAccepted, HasTextFault, unread, over_limit, faulty}
use Rattle.statepoint_tool.specs.Steps.{Step, Go, Stop, goes_on, stops}
use Rattle.statepoint_tool.specs.Work.{read_step, reading, Typing, faultless, faulty as typed_faulty, module_phase}
use Rattle.statepoint_tool.specs.declared.refusal.Cause.{Cause}
use Rattle.statepoint_tool.specs.declared.refusal.Cause.TheVariants.{Module}
use Rattle.statepoint_tool.specs.declared.refusal.ModuleFault.{ModuleFault}
use Rattle.statepoint_tool.specs.declared.refusal.ModuleFault.TheVariants.{Syntax, Limit, Typed}
use Rattle.statepoint_tool.proofs.StepLaws.{Once, stop_in, same-value, not_both, Once-comes_to, Once-Then}

-- ---- one fault is the least

same_line : (l c m d : ℕ) → ComesFirst l c m d → ComesFirst m d l c → l ≡ m
same_line l c m d (inl p) (inl q) = absurd (omega arith)
same_line l c m d (inl p) (inr q) = let r = q.0 in absurd (omega arith)
same_line l c m d (inr p) (inl q) = p.0
same_line l c m d (inr p) (inr q) = p.0

same_code : (l c m d : ℕ) → ComesFirst l c m d → ComesFirst m d l c → c ≡ d
same_code l c m d (inl p) (inl q) = absurd (omega arith)
same_code l c m d (inl p) (inr q) = let r = q.0 in absurd (omega arith)
same_code l c m d (inr p) (inl q) = let r = p.0 in absurd (omega arith)
same_code l c m d (inr p) (inr q) = let r = p.1 in let s = q.1 in omega arith

same_fault : (one other : TypeFault) → one.line ≡ other.line → one.code ≡ other.code → one ≡ other
same_fault one other line code =
    ap (λ (n : ℕ). record { line = n; code = one.code }) line ∙ ap (λ (n : ℕ). record { line = other.line; code = n }) code

pub one-least : (form : TextForm) (lines : List Line) (one other : TypeFault) → IsLeastFault form lines one.line one.code → IsLeastFault form lines other.line other.code → one ≡ other
one-least form lines one other p q =
    let first : ComesFirst one.line one.code other.line other.code = p.least other.line other.code q.is in
    let second : ComesFirst other.line other.code one.line one.code = q.least one.line one.code p.is in
    same_fault one other (same_line one.line one.code other.line other.code first second) (same_code one.line one.code other.line other.code first second)

pub Once-Typing : (form : TextForm) (lines : List Line) → Once (Typing form lines)
Once-Typing form lines _ _ (faultless none) (faultless also) = refl
Once-Typing form lines _ _ (faultless none) (typed_faulty fault least) = absurd (none fault.line fault.code least.is)
Once-Typing form lines _ _ (typed_faulty fault least) (faultless none) = absurd (none fault.line fault.code least.is)
Once-Typing form lines _ _ (typed_faulty one p) (typed_faulty other q) =
    ap (λ (fault : TypeFault). stop_in LinedModule (Module (Typed fault))) (one-least form lines one other p q)

pub Once-module_phase : (form : TextForm) (text : List ℕ) → Once (module_phase form text)
Once-module_phase form text = Once-Then (reading form text) (Typing form) (Once-comes_to (read_step (readings_in form text))) (Once-Typing form)

-- ---- the lines of a text

-- what the typer answers
pub typed-go : (form : TextForm) (lines : List Line) (whole : LinedModule) → IsTypedAs form lines whole → Typing form lines (Go whole)
typed-go form lines whole typed = subst (λ (w : LinedModule). Typing form lines (Go w)) (sym typed.is) (faultless typed.faultless)

pub typed-stop : (form : TextForm) (lines : List Line) (error : TypingFault) (fault : TypeFault) → error ≡ answers.Fault fault → Answers form lines (Err error) → Typing form lines (Stop (Module (Typed fault)))
typed-stop form lines error fault is answered = typed_faulty fault (subst (λ (e : TypingFault). Answers form lines (Err e)) is answered)

read_by : (form : TextForm) (text : List ℕ) (lines : List Line) (result : Result (List Numbered) Fault) → readings_in form text ≡ result → Go lines ≡ read_step result → IsReadAs form text lines
read_by form text lines (Ok readings) is same = record { readings = readings; read = is; are = same-value lines (lines_of readings) same }
read_by form text lines (Err (syntax_fault line)) is same = absurd (not_both lines (Module (Syntax line)) same)
read_by form text lines (Err (limit_fault line)) is same = absurd (not_both lines (Module (Limit line)) same)

-- a text that is read
pub reads-as : (form : TextForm) (text : List ℕ) (lines : List Line) → reading form text (Go lines) → IsReadAs form text lines
reads-as form text lines same = read_by form text lines (readings_in form text) refl same

pub as-read : (form : TextForm) (text : List ℕ) (lines : List Line) → IsReadAs form text lines → reading form text (Go lines)
as-read form text lines read = ap Go read.are ∙ sym (ap read_step read.read)

-- a text that isn't
pub record StopsByText (form : TextForm) (text : List ℕ) (cause : Cause) : Type 0 where
  pub fault : ModuleFault
  pub is : cause ≡ Module fault
  pub has : HasTextFault form text fault

unread_by : (form : TextForm) (text : List ℕ) (cause : Cause) (result : Result (List Numbered) Fault) → readings_in form text ≡ result → Stop cause ≡ read_step result → StopsByText form text cause
unread_by form text cause (Ok readings) is same = absurd (not_both (lines_of readings) cause (sym same))
unread_by form text cause (Err (syntax_fault line)) is same = record { fault = Syntax line; is = (let s : stop_in (List Line) cause ≡ Stop (Module (Syntax line)) = same in cc); has = unread line is }
unread_by form text cause (Err (limit_fault line)) is same = record { fault = Limit line; is = (let s : stop_in (List Line) cause ≡ Stop (Module (Limit line)) = same in cc); has = over_limit line is }

stops_reading : (form : TextForm) (text : List ℕ) (cause : Cause) → reading form text (Stop cause) → StopsByText form text cause
stops_reading form text cause same = unread_by form text cause (readings_in form text) refl same

-- ---- the module of a text

-- a text is accepted, as the module of its lines
pub record Accepts (form : TextForm) (text : List ℕ) (whole : LinedModule) : Type 0 where
  pub lines : List Line
  pub accepted : IsAccepted form text lines
  pub is : whole ≡ module_of form lines

accepts_typed : (form : TextForm) (text : List ℕ) (lines : List Line) → IsReadAs form text lines → (step : Step LinedModule) (whole : LinedModule) → step ≡ Go whole → Typing form lines step → Accepts form text whole
accepts_typed form text lines read _ whole same (faultless none) =
    record { lines = lines; accepted = record { read = read; faultless = none }; is = sym (same-value (module_of form lines) whole same) }
accepts_typed form text lines read _ whole same (typed_faulty fault least) = absurd (not_both whole (Module (Typed fault)) (sym same))

accepts_by : (form : TextForm) (text : List ℕ) (step : Step LinedModule) (whole : LinedModule) → step ≡ Go whole → module_phase form text step → Accepts form text whole
accepts_by form text _ whole same (goes_on lines step read typing) = accepts_typed form text lines (reads-as form text lines read) step whole same typing
accepts_by form text _ whole same (stops cause read) = absurd (not_both whole cause (sym same))

pub accepts : (form : TextForm) (text : List ℕ) (whole : LinedModule) → module_phase form text (Go whole) → Accepts form text whole
accepts form text whole phase = accepts_by form text (Go whole) whole refl phase

typed_stops : (form : TextForm) (text : List ℕ) (lines : List Line) → IsReadAs form text lines → (step : Step LinedModule) (cause : Cause) → step ≡ Stop cause → Typing form lines step → StopsByText form text cause
typed_stops form text lines read _ cause same (faultless none) = absurd (not_both (module_of form lines) cause same)
typed_stops form text lines read _ cause same (typed_faulty fault least) =
    record { fault = Typed fault; is = (let s : stop_in LinedModule (Module (Typed fault)) ≡ Stop cause = same in cc); has = faulty lines fault read least }

stops_by : (form : TextForm) (text : List ℕ) (step : Step LinedModule) (cause : Cause) → step ≡ Stop cause → module_phase form text step → StopsByText form text cause
stops_by form text _ cause same (goes_on lines step read typing) = typed_stops form text lines (reads-as form text lines read) step cause same typing
stops_by form text _ cause same (stops own read) =
    let is : own ≡ cause = (let s : stop_in LinedModule own ≡ Stop cause = same in cc) in subst (λ (c : Cause). StopsByText form text c) is (stops_reading form text own read)

pub refuses : (form : TextForm) (text : List ℕ) (cause : Cause) → module_phase form text (Stop cause) → StopsByText form text cause
refuses form text cause phase = stops_by form text (Stop cause) cause refl phase

pub as-accepted : (form : TextForm) (text : List ℕ) (lines : List Line) → IsAccepted form text lines → module_phase form text (Go (module_of form lines))
as-accepted form text lines accepted =
    goes_on lines (Go (module_of form lines)) (as-read form text lines accepted.read) (faultless accepted.faultless)

pub as-refused : (form : TextForm) (text : List ℕ) (fault : ModuleFault) → HasTextFault form text fault → module_phase form text (Stop (Module fault))
as-refused form text _ (unread line is) = stops (Module (Syntax line)) (sym (ap read_step is))
as-refused form text _ (over_limit line is) = stops (Module (Limit line)) (sym (ap read_step is))
as-refused form text _ (faulty lines fault read least) =
    goes_on lines (Stop (Module (Typed fault))) (as-read form text lines read) (typed_faulty fault least)
