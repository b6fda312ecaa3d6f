-- From what is known of lines to what is known of their text, and from each part of the work to the answer.
use Rattle.std.proofs.Common.{◌≡◌, refl, sym, ap, ◌∙◌, subst, ◌≤◌, ◌<◌, ℕ, List, length, map, Ok, Err, inl, inr}
use Rattle.std.specs.Prelude.{Result, ◌++◌}
use Rattle.std.specs.List.{All}
use Rattle.ir_ast.specs.declared.modules.Form.{Form}
use Rattle.ir_ast.specs.declared.modules.Form.TheVariants.{Source, Rewritten}
use Rattle.ir_lines.specs.Statements.{Line, lines_of}
use Rattle.ir_lines.specs.Modules.{module_of}
use Rattle.ir_lines.specs.Views.{seen_lines}
use Rattle.ir_printer.specs.Texts.{text_of}
use Rattle.ir_reader.specs.declared.raw.NumberedReading.{NumberedReading}
use Rattle.ir_reader.specs.declared.faults.ReadFault.{ReadFault}
use Rattle.ir_reader.specs.declared.faults.ReadFault.TheVariants as read_faults
use Rattle.ir_reader.specs.Raws.{seen_numbered}
use Rattle.ir_reader.specs.Reads.{IsFault}
use Rattle.ir_reader.specs.Text.{readings_in}
use Rattle.ir_types.specs.FaultSet.{HasNoFault, IsLeastFault}
use Rattle.module_laws.proofs.ReadTexts.{seen-again}
use Rattle.llvm_lift.specs.declared.front.Judged.{Judged}
use Rattle.llvm_lift.specs.declared.front.Judged.TheVariants.{Printed, Faulty}
use Rattle.llvm_lift.specs.declared.refusals.Refusal.{Refusal}
use Rattle.llvm_lift.specs.declared.refusals.Refusal.TheVariants as refusals
use Rattle.llvm_lift.specs.Texts.{IsNone, IsPrinted, IsPrintedOf, IsJudged, IsJudgedLines, IsUnread, HasFault, unread, passes, untyped}
use Rattle.llvm_lift.specs.Lifted.{Settles, source, rewritten, both, IsAgain, IsSettled, IsOutside, Answers, IsMaking, IsLifting, as_it_stands, plainer, IsRefusal, IsLift, left, lifted, IsMade, IsFaultOfMade, IsJudgedLifted, IsFaultOf}
use Rattle.ir_types.specs.FaultSet.{plain as plain_fault}
use Rattle.outside_texts.specs.Declares.{IsRefused}
use Rattle.llvm_features.specs.declared.features.Feature.TheVariants.{NoLayout}
use Rattle.llvm_features.specs.declared.features.Reason.{Reason}
use Rattle.llvm_features.specs.Features.{reasons_of}
use Rattle.llvm_lift.proofs.StandLaws.{faulty_is_none}

-- what is judged of the lines that a text has is judged of the text
pub judged_lines : (form : Form) (text : List ℕ) (lines : List NumberedReading) (result : Result Judged Refusal)
    → readings_in form text ≡ Ok (map seen_numbered lines) → IsJudgedLines form (seen_lines lines) result → IsJudged form text result
judged_lines form text lines (Ok (Printed out)) reads printed = record {
  content = (module_of form (seen_lines lines)).content;
  stands = record {
    readings = map seen_numbered lines;
    reads = reads;
    faultless = subst (HasNoFault form) (sym (seen-again lines)) printed.faultless;
    is = ap (λ (it : List Line). (module_of form it).content) (seen-again lines);
  };
  is = printed.is;
}
judged_lines form text lines (Ok (Faulty fault)) reads least =
    untyped (map seen_numbered lines) fault.code reads (subst (λ (it : List Line). IsLeastFault form it fault.line fault.code) (sym (seen-again lines)) least)
judged_lines form text lines (Err refusals.Memory) reads nothing = nothing
judged_lines form text lines (Err (refusals.Outside reasons)) reads nothing = nothing
judged_lines form text lines (Err (refusals.Fault fault)) reads nothing = nothing
judged_lines form text lines (Err refusals.TooLong) reads nothing = nothing

-- a text that isn't of the source form, by what was said of it in the rewritten form and of what is printed there
pub settled_again : (text shown : List ℕ) (line code : ℕ) (result : Result Judged Refusal) → HasFault Source text line code → IsPrinted Rewritten text shown
    → IsAgain shown result → IsSettled text result
settled_again text shown line code (Ok (Printed out)) faulty printed (small, inl (same, none)) =
    rewritten (faulty_is_none Source text line code faulty) (subst (IsPrinted Rewritten text) (sym same) printed)
    (subst (λ it. length it ≤ 16777216) (sym same) small) (subst (IsNone Source) (sym same) none)
settled_again text shown line code (Ok (Printed out)) faulty printed (small, inr source_again) =
    both (faulty_is_none Source text line code faulty) shown printed small source_again
settled_again text shown line code (Ok (Faulty fault)) faulty printed never = absurd never
settled_again text shown line code (Err refusals.Memory) faulty printed nothing = nothing
settled_again text shown line code (Err refusals.TooLong) faulty printed long = record {
  source = faulty_is_none Source text line code faulty;
  shown = shown;
  printed = printed;
  long = long;
}
settled_again text shown line code (Err (refusals.Outside reasons)) faulty printed never = absurd never
settled_again text shown line code (Err (refusals.Fault fault)) faulty printed never = absurd never

-- a text that has a fault in both forms is outside
pub is_outside : (text : List ℕ) (line code other_line other_code : ℕ) → HasFault Source text line code → HasFault Rewritten text other_line other_code → IsOutside text
is_outside text line code other_line other_code first second = record {
  source = faulty_is_none Source text line code first;
  rewritten = faulty_is_none Rewritten text other_line other_code second;
}

-- what is made of a text outside the profile is an answer for it
pub answers_outside : {X : Type 0} (view : X → List ℕ) (text : List ℕ) (result : Result X Refusal) → IsOutside text → IsLifting view text result → Answers view text result
answers_outside view text (Ok out) outside made = lifted (record { outside = outside; lifted = made.lifted; small = made.small; settles = made.settles })
answers_outside view text (Err (refusals.Outside reasons)) outside some = (outside, some)
answers_outside view text (Err (refusals.Fault fault)) outside made = record { outside = outside; form = made.form; lifted = made.lifted; line = made.line; fault = made.fault }
answers_outside view text (Err refusals.TooLong) outside made = inr outside
answers_outside view text (Err refusals.Memory) outside made = made

-- what is said of a text without readings is judged of it
pub judged_unread : (form : Form) (text : List ℕ) (fault : ReadFault) (result : Result Judged Refusal)
    → IsFault fault (readings_in form text) → IsUnread fault result → IsJudged form text result
judged_unread form text (read_faults.Syntax line) (Ok (Faulty found)) is (same_line, same_code) =
    subst (λ (it : ℕ). HasFault form text it found.code) (sym same_line) (subst (λ (it : ℕ). HasFault form text line it) (sym same_code) (unread is))
judged_unread form text (read_faults.Syntax line) (Ok (Printed out)) is never = absurd never
judged_unread form text (read_faults.Syntax line) (Err refusal) is never = absurd never
judged_unread form text (read_faults.Limit line) (Ok (Faulty found)) is (same_line, same_code) =
    subst (λ (it : ℕ). HasFault form text it found.code) (sym same_line) (subst (λ (it : ℕ). HasFault form text line it) (sym same_code) (passes is))
judged_unread form text (read_faults.Limit line) (Ok (Printed out)) is never = absurd never
judged_unread form text (read_faults.Limit line) (Err refusal) is never = absurd never
judged_unread form text read_faults.Memory (Ok judged) is never = absurd never
judged_unread form text read_faults.Memory (Err refusals.Memory) is nothing = nothing
judged_unread form text read_faults.Memory (Err refusals.TooLong) is never = absurd never
judged_unread form text read_faults.Memory (Err (refusals.Outside reasons)) is never = absurd never
judged_unread form text read_faults.Memory (Err (refusals.Fault fault)) is never = absurd never

-- what is said of a lifted text, by what is said of it in either form, or in the source form alone
pub lifted_settled : (text : List ℕ) (result : Result Judged Refusal) → IsSettled text result → IsJudgedLifted text result
lifted_settled text (Ok (Printed out)) settles = settles
lifted_settled text (Ok (Faulty fault)) said = record { form = Rewritten; lifted = text; line = fault.line; fault = said.1 }
lifted_settled text (Err refusals.Memory) nothing = nothing
lifted_settled text (Err refusals.TooLong) long = tt
lifted_settled text (Err (refusals.Outside reasons)) never = absurd never
lifted_settled text (Err (refusals.Fault fault)) never = absurd never

pub lifted_source : (text : List ℕ) (result : Result Judged Refusal) → IsJudged Source text result → IsJudgedLifted text result
lifted_source text (Ok (Printed out)) printed = source printed
lifted_source text (Ok (Faulty fault)) said = record { form = Source; lifted = text; line = fault.line; fault = said }
lifted_source text (Err refusals.Memory) nothing = nothing
lifted_source text (Err refusals.TooLong) never = absurd never
lifted_source text (Err (refusals.Outside reasons)) never = absurd never
lifted_source text (Err (refusals.Fault fault)) never = absurd never

-- the fault of a lifted text
pub lifting_fault : {X : Type 0} (view : X → List ℕ) (code : ℕ) (refusal : Refusal) → IsFaultOfMade code → IsFaultOf code refusal
    → IsMaking view (Err refusal)
lifting_fault view code (refusals.Fault fault) made same = subst IsFaultOfMade (sym same) made
lifting_fault view code (refusals.Outside reasons) made never = absurd never
lifting_fault view code refusals.TooLong made never = absurd never
lifting_fault view code refusals.Memory made never = absurd never

-- what is made is what lifting answers
pub making_lifts : {X : Type 0} (view : X → List ℕ) (text : List ℕ) (result : Result X Refusal) → IsMaking view result → IsLifting view text result
making_lifts view text (Ok out) made = made
making_lifts view text (Err (refusals.Outside reasons)) never = absurd never
making_lifts view text (Err (refusals.Fault fault)) made = made
making_lifts view text (Err refusals.TooLong) made = made
making_lifts view text (Err refusals.Memory) made = made

-- what lifting a text in plainer spelling answers
pub plainer_lifts : {X : Type 0} (view : X → List ℕ) (text plain : List ℕ) (result : Result X Refusal) → IsLifting view plain result → IsLifting view text result
plainer_lifts view text plain (Ok out) made = made
plainer_lifts view text plain (Err (refusals.Outside reasons)) are = record { plain = are.plain; spelling = plainer are.plain; missing = are.missing; is = are.is; lack = are.lack; some = are.some }
plainer_lifts view text plain (Err (refusals.Fault fault)) made = made
plainer_lifts view text plain (Err refusals.TooLong) made = made
plainer_lifts view text plain (Err refusals.Memory) made = made

-- a text that has the fault of an unknown external wherever it is read is outside
refused_is_none : (form : Form) (text : List ℕ) → IsRefused form text → IsNone form text
refused_is_none form text refused content stands =
    let fault = refused stands.readings stands.reads in
    stands.faultless fault.0 12 (plain_fault 12 fault.1)

pub refused_outside : (text : List ℕ) → ((form : Form) → IsRefused form text) → IsOutside text
refused_outside text refused = record { source = refused_is_none Source text (refused Source); rewritten = refused_is_none Rewritten text (refused Rewritten) }

-- what is told of reasons is what lifting answers
pub refusal_lifts : {X : Type 0} (view : X → List ℕ) (text : List ℕ) (reasons missing : List Reason) (refusal : Refusal) → reasons ≡ reasons_of text
    → All (λ reason. reason.feature ≡ NoLayout) missing → IsRefusal reasons missing refusal → IsLifting view text (Err refusal)
refusal_lifts view text reasons missing (refusals.Outside all) told lack is = record {
  plain = text;
  spelling = as_it_stands;
  missing = missing;
  is = is.0 ∙ ap (λ (it : List Reason). it ++ missing) told;
  lack = lack;
  some = is.1;
}
refusal_lifts view text reasons missing (refusals.Fault fault) told lack never = absurd never
refusal_lifts view text reasons missing refusals.TooLong told lack never = absurd never
refusal_lifts view text reasons missing refusals.Memory told lack is = is
