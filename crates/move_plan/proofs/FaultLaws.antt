-- The reader of a plan stops at the least fault of its text, and only there.
use Rattle.std.proofs.Common.{◌≡◌, refl, ap, sym, subst, ◌∙◌, ℕ, ◌+◌, ◌<◌, ◌≤◌, Bool, true, false, List, [], ◌∷◌, ◌++◌, length, take, drop, arith, None, Some, Option, inl, inr}
use Rattle.std.specs.Prelude.{slice_get, not, nat_lt}
use Rattle.std.specs.Option.{option_to_list}
use Rattle.std.specs.Str.Lines.{lines}
use Rattle.std.proofs.lemmas.Bool.{cases_eq, cases_lt}
use Rattle.std.proofs.lemmas.Bool.Decides.{nat_tests}
use Rattle.std.proofs.lemmas.List.{append-nil, length_push, take_all}
use Rattle.std.proofs.lemmas.Option.{none-some, same_Some, slice_get_within}
use Rattle.sp_text.specs.Lines.{NumberedLine, lines_of, numbered}
use Rattle.move_plan.specs.declared.faults.PlanFault.{PlanFault}
use Rattle.move_plan.specs.declared.faults.PlanFault.TheVariants as faults
use Rattle.move_plan.specs.declared.plan_lines.PlanLine.{PlanLine}
use Rattle.move_plan.specs.declared.plan_lines.PlanLine.TheVariants.{Every, Move, Flip, Go}
use Rattle.move_plan.specs.Words.{words, IsBlank}
use Rattle.move_plan.specs.Texts.{HasLine, HasNoReading, LinesSay}
use Rattle.move_plan.specs.PlanLines.{ReadsAs}
use Rattle.move_plan.specs.Decoded.{decoded}
use Rattle.move_plan.specs.Plans.{event_of, IsPlan, IsPlanOf}
use Rattle.move_plan.specs.PlanFaults.{at_event, HasFault, HasNoFault, IsFaultOf, IsLeastFault, LineSays, falls, late, limit, no_form, order, second_go, syntax, too_many, two_go}
use Rattle.move_plan.specs.Steps.{is_empty, is_late, is_second_go, last_event, IsLate, IsOverLimit, IsSecondGo, MayFollow, StopsAt, TakesLine}
use Rattle.move_plan.proofs.DecodeLemmas.{decoded-complete}
use Rattle.move_plan.proofs.PlanLemmas.{event-le-last, go-contains, go-from, last-from, plan_none, plan_push, some-from}
use Rattle.move_plan.proofs.TextLemmas.{all_numbered, get_take, next_numbered, none_numbered, reading_at, same_line, says_at, says_from, says_none, says_push, take_line_more}
use Rattle.list_laws.proofs.Places.{take_back as get_from_take}

-- ---- a line has at most one reading

reading-decoded : (line : List ℕ) (reading : Option PlanLine) → ReadsAs line reading → decoded (words line) ≡ reading
reading-decoded line None blank = ap decoded blank
reading-decoded line (Some what) says = decoded-complete (words line) what says

pub one_reading : (line : List ℕ) (one other : Option PlanLine) → ReadsAs line one → ReadsAs line other → one ≡ other
one_reading line one other reads also = sym (reading-decoded line one reads) ∙ reading-decoded line other also

not_blank : (line : List ℕ) (what : PlanLine) → ReadsAs line (Some what) → ¬ IsBlank line
not_blank line what reads blank = none-some what (one_reading line None (Some what) blank reads)

-- ---- the lines before one

-- the first lines were read, and have no fault
pub record ReadsUpTo (text : List ℕ) (count : ℕ) (plan : List PlanLine) : Type 0 where
  pub says : LinesSay ReadsAs (take count (lines text)) plan
  pub plan_is : IsPlan plan
  pub faultless : (number code : ℕ) → number ≤ count → ¬ HasFault text number code
  pub within : count ≤ 262144
  pub short : length plan ≤ count

earlier_line : (text : List ℕ) (count number : ℕ) (line : List ℕ) → HasLine text number line → number ≤ count → (place : ℕ) × (slice_get (take count (lines text)) place ≡ Some line)
earlier_line text count number line has before =
    (has.place, get_take count (lines text) has.place line (omega (arith, has.counted)) has.stands)

earlier_says : (text : List ℕ) (count number : ℕ) (plan : List PlanLine) (what : PlanLine) → ReadsUpTo text count plan → LineSays text number what → number ≤ count
    → (place : ℕ) × (slice_get plan place ≡ Some what)
earlier_says text count number plan what so_far said before =
    let at = earlier_line text count number said.line said.has before in
    says_at ReadsAs one_reading (take count (lines text)) plan at.0 said.line what so_far.says at.1 said.reads

pub record SaidEarlier (text : List ℕ) (count : ℕ) (what : PlanLine) : Type 0 where
  pub number : ℕ
  pub before : number < count + 1
  pub said : LineSays text number what

plan_said : (text : List ℕ) (count place : ℕ) (plan : List PlanLine) (what : PlanLine) → ReadsUpTo text count plan → slice_get plan place ≡ Some what → SaidEarlier text count what
plan_said text count place plan what so_far at =
    let found = says_from ReadsAs (take count (lines text)) plan place what so_far.says at in
    let stands = get_from_take count (lines text) found.0 found.1 found.2 in
    record {
      number = found.0 + 1;
      before = omega (arith, stands.0);
      said = record { line = found.1; has = record { place = found.0; counted = refl; stands = stands.1 }; reads = found.3 };
    }

-- a line that isn't blank says something
earlier_some : (text : List ℕ) (count number : ℕ) (plan : List PlanLine) (line : List ℕ) → ReadsUpTo text count plan → HasLine text number line → ¬ IsBlank line → number ≤ count
    → (place : ℕ) × (what : PlanLine) × (slice_get plan place ≡ Some what)
earlier_some text count number plan line so_far has some before =
    let at = earlier_line text count number line has before in
    let read = reading_at ReadsAs (take count (lines text)) plan at.0 line so_far.says at.1 in
    by read.0 read.1
  where
    by : (reading : Option PlanLine) → ReadsAs line reading → (place : ℕ) × (what : PlanLine) × (slice_get plan place ≡ Some what)
    by None blank = absurd (some blank)
    by (Some what) reads = (let at = earlier_says text count number plan what so_far (record { line = line; has = has; reads = reads }) before in (at.0, what, at.1))

-- ---- the faults of a line that has a reading

-- the line after those
pub record IsNext (text : List ℕ) (count : ℕ) (line : List ℕ) (reading : Option PlanLine) : Type 0 where
  pub stands : slice_get (lines text) count ≡ Some line
  pub reads : ReadsAs line reading

next_line : (text : List ℕ) (count : ℕ) (line : List ℕ) → slice_get (lines text) count ≡ Some line → HasLine text (count + 1) line
next_line text count line stands = record { place = count; counted = refl; stands = stands }

says_this : (text : List ℕ) (count : ℕ) (line : List ℕ) (reading : Option PlanLine) (what : PlanLine) → IsNext text count line reading → LineSays text (count + 1) what → reading ≡ Some what
says_this text count line reading what is said =
    let same : said.line ≡ line = same_line text (count + 1) said.line line said.has (next_line text count line is.stands) in
    one_reading line reading (Some what) is.reads (subst (λ (one : List ℕ). ReadsAs one (Some what)) same said.reads)

pub data IsBehind (plan : List PlanLine) (reading : Option PlanLine) (number code : ℕ) : Type 0 where
  out_of_order : (what : PlanLine) → reading ≡ Some what → is_late plan what ≡ true → code ≡ order → IsBehind plan reading number code
  second : (what : PlanLine) → reading ≡ Some what → is_second_go plan what ≡ true → code ≡ two_go → IsBehind plan reading number code
  over : number ≡ 262144 + 1 → code ≡ limit → IsBehind plan reading number code

late-from : (plan : List PlanLine) (what : PlanLine) (event : ℕ) → at_event what ≡ Some event → event < last_event plan → is_late plan what ≡ true
late-from plan (Every period) event at below = absurd (none-some event at)
late-from plan (Move e obj to) event at below = (let same : e ≡ event = same_Some e event at in grind (arith, nat_tests))
late-from plan (Flip e) event at below = (let same : e ≡ event = same_Some e event at in grind (arith, nat_tests))
late-from plan (Go e task) event at below = (let same : e ≡ event = same_Some e event at in grind (arith, nat_tests))

at_event-is : (what : PlanLine) (event : ℕ) → at_event what ≡ Some event → event_of what ≡ event
at_event-is (Every period) event at = absurd (none-some event at)
at_event-is (Move e obj to) event at = same_Some e event at
at_event-is (Flip e) event at = same_Some e event at
at_event-is (Go e task) event at = same_Some e event at

some_late : (plan : List PlanLine) (place period : ℕ) (what : PlanLine) → slice_get plan place ≡ Some what → is_late plan (Every period) ≡ true
some_late [] place period what at = absurd (none-some what at)
some_late (line ∷ rest) place period what at = refl

pub classify : (text : List ℕ) (count : ℕ) (plan : List PlanLine) (line : List ℕ) (reading : Option PlanLine) (code : ℕ) → ReadsUpTo text count plan
    → IsNext text count line reading → HasFault text (count + 1) code → IsBehind plan reading (count + 1) code
classify text count plan line reading code so_far is (no_form other has none coded) =
    let same : other ≡ line = same_line text (count + 1) other line has (next_line text count line is.stands) in
    absurd (none reading (subst (λ (one : List ℕ). ReadsAs one reading) (sym same) is.reads))
classify text count plan line reading code so_far is (falls earlier above event before what first said_before at_before said at low coded) =
    let found = earlier_says text count earlier plan before so_far said_before (omega arith) in
    let bound = event-le-last plan found.0 before so_far.plan_is.rises found.1 in
    let same = at_event-is before above at_before in
    out_of_order what (says_this text count line reading what is said) (late-from plan what event at (omega (arith, bound, same, low))) coded
classify text count plan line reading code so_far is (late earlier period other first has some said coded) =
    let found = earlier_some text count earlier plan other so_far has some (omega arith) in
    out_of_order (Every period) (says_this text count line reading (Every period) is said) (some_late plan found.0 period found.1 found.2) coded
classify text count plan line reading code so_far is (second_go earlier event task other first said_before said coded) =
    let found = earlier_says text count earlier plan (Go event task) so_far said_before (omega arith) in
    second (Go event other) (says_this text count line reading (Go event other) is said) (go-contains plan found.0 event task found.1) coded
classify text count plan line reading code so_far is (too_many other has over_limit coded) = over over_limit coded

-- ---- the reader goes on

follows-apart : (plan : List PlanLine) (reading : Option PlanLine) (number code : ℕ) → MayFollow plan reading → IsBehind plan reading number code → (number ≡ 262144 + 1) × (code ≡ limit)
follows-apart plan reading number code follows (out_of_order what is tardy coded) =
    (let this = subst (λ (one : Option PlanLine). MayFollow plan one) is follows in absurd (cc))
follows-apart plan reading number code follows (second what is again coded) =
    (let this = subst (λ (one : Option PlanLine). MayFollow plan one) is follows in absurd (cc))
follows-apart plan reading number code follows (over at coded) = (at, coded)

fault_line : (text : List ℕ) (number code : ℕ) → HasFault text number code → (line : List ℕ) × HasLine text number line
fault_line text number code (no_form line has none coded) = (line, has)
fault_line text number code (falls earlier above event before what first said_before at_before said at low coded) = (said.line, said.has)
fault_line text number code (late earlier period other first has some said coded) = (said.line, said.has)
fault_line text number code (second_go earlier event task other first said_before said coded) = (said.line, said.has)
fault_line text number code (too_many line has over_limit coded) = (line, has)

pub reads_none : (text : List ℕ) → ReadsUpTo text 0 []
reads_none text = record {
  says = says_none ReadsAs;
  plan_is = plan_none;
  faultless = λ number code before fault. (let at = fault_line text number code fault in omega (arith, at.1.counted));
  within = omega arith;
  short = omega arith;
}

plan_taken : (plan : List PlanLine) (count : ℕ) (line : List ℕ) (reading : Option PlanLine) → IsPlan plan → ReadsAs line reading → MayFollow plan reading → length plan ≤ count
    → count + 1 ≤ 262144 → IsPlan (plan ++ option_to_list reading) × (length (plan ++ option_to_list reading) ≤ count + 1)
plan_taken plan count line None is reads follows short room = rw (append-nil plan) (is, omega arith)
plan_taken plan count line (Some what) is reads follows short room =
    (plan_push plan what is reads.in_range follows (omega arith), omega (arith, length_push plan what))

pub goes_on : (text : List ℕ) (count : ℕ) (plan : List PlanLine) (line : List ℕ) (next : List PlanLine) → ReadsUpTo text count plan
    → slice_get (lines text) count ≡ Some line → TakesLine plan (count + 1) line next → ReadsUpTo text (count + 1) next
goes_on text count plan line next so_far stands takes =
    let taken = plan_taken plan count line takes.reading so_far.plan_is takes.reads takes.follows so_far.short takes.within in
    record {
      says = rw (takes.added, take_line_more (lines text) count line stands) (says_push ReadsAs (take count (lines text)) plan line takes.reading so_far.says takes.reads);
      plan_is = rw takes.added taken.0;
      faultless = λ number code before fault. elim (cases_eq number (count + 1)) [
        | inl here ↦ (let behind = classify text count plan line takes.reading code so_far (record { stands = stands; reads = takes.reads }) (subst (λ (n : ℕ). HasFault text n code) here fault) in
            let past = follows-apart plan takes.reading (count + 1) code takes.follows behind in
            omega (arith, past.0, takes.within))
        | inr apart ↦ so_far.faultless number code (omega arith) fault
      ];
      within = takes.within;
      short = rw takes.added taken.1;
    }

-- ---- the reader stops

code_some : (text : List ℕ) (number code : ℕ) → HasFault text number code → 1 ≤ code
code_some text number code (no_form line has none coded) = omega (arith, coded)
code_some text number code (falls earlier above event before what first said_before at_before said at low coded) = omega (arith, coded)
code_some text number code (late earlier period other first has some said coded) = omega (arith, coded)
code_some text number code (second_go earlier event task other first said_before said coded) = omega (arith, coded)
code_some text number code (too_many line has over_limit coded) = omega (arith, coded)

-- the least code of the next line is the least fault
least_here : (text : List ℕ) (count : ℕ) (plan : List PlanLine) (code : ℕ) → ReadsUpTo text count plan → HasFault text (count + 1) code
    → ((other : ℕ) → HasFault text (count + 1) other → code ≤ other) → IsLeastFault text (count + 1) code
least_here text count plan code so_far is first = record {
  is = is;
  least = λ number other fault. elim (cases_lt (count + 1) number) [
    | inl behind ↦ inl behind
    | inr up_to ↦ elim (cases_eq number (count + 1)) [
      | inl here ↦ inr (sym here, first other (subst (λ (n : ℕ). HasFault text n other) here fault))
      | inr before ↦ absurd (so_far.faultless number other (omega arith) fault)
    ]
  ];
}

said_here : (text : List ℕ) (count : ℕ) (line : List ℕ) (what : PlanLine) → slice_get (lines text) count ≡ Some line → ReadsAs line (Some what) → LineSays text (count + 1) what
said_here text count line what stands reads = record { line = line; has = next_line text count line stands; reads = reads }

-- a line below the last event is below that of an earlier line
falls_here : (text : List ℕ) (count : ℕ) (plan : List PlanLine) (line : List ℕ) (what : PlanLine) (event : ℕ) → ReadsUpTo text count plan
    → LineSays text (count + 1) what → at_event what ≡ Some event → nat_lt event (last_event plan) ≡ true → HasFault text (count + 1) order
falls_here text count plan line what event so_far said at low =
    let below : event < last_event plan = grind (arith, nat_tests, low) in
    let last = last-from plan (omega (arith, below)) in
    let before = plan_said text count last.0 plan last.1 so_far last.2 in
    falls before.number (event_of last.1) event last.1 what before.before before.said (at_some last.1 (omega (arith, below, last.3))) said at (omega (arith, below, last.3)) refl
  where
    at_some : (one : PlanLine) → 0 < event_of one → at_event one ≡ Some (event_of one)
    at_some (Every period) some = absurd (omega arith)
    at_some (Move e obj to) some = refl
    at_some (Flip e) some = refl
    at_some (Go e task) some = refl

order_here : (text : List ℕ) (count : ℕ) (plan : List PlanLine) (line : List ℕ) (what : PlanLine) → ReadsUpTo text count plan → slice_get (lines text) count ≡ Some line
    → ReadsAs line (Some what) → is_late plan what ≡ true → HasFault text (count + 1) order
order_here text count plan line (Every period) so_far stands reads tardy =
    let some = some-from plan (not_from (is_empty plan) tardy) in
    let before = plan_said text count some.0 plan some.1 so_far some.2 in
    late before.number period before.said.line before.before before.said.has (not_blank before.said.line some.1 before.said.reads) (said_here text count line (Every period) stands reads) refl
  where
    not_from : (b : Bool) → not b ≡ true → b ≡ false
    not_from true e = sym e
    not_from false e = refl
order_here text count plan line (Move event obj to) so_far stands reads tardy =
    falls_here text count plan line (Move event obj to) event so_far (said_here text count line (Move event obj to) stands reads) refl tardy
order_here text count plan line (Flip event) so_far stands reads tardy =
    falls_here text count plan line (Flip event) event so_far (said_here text count line (Flip event) stands reads) refl tardy
order_here text count plan line (Go event task) so_far stands reads tardy =
    falls_here text count plan line (Go event task) event so_far (said_here text count line (Go event task) stands reads) refl tardy

two_go_here : (text : List ℕ) (count : ℕ) (plan : List PlanLine) (line : List ℕ) (what : PlanLine) → ReadsUpTo text count plan → slice_get (lines text) count ≡ Some line
    → ReadsAs line (Some what) → is_second_go plan what ≡ true → HasFault text (count + 1) two_go
two_go_here text count plan line (Every period) so_far stands reads again = absurd (cc)
two_go_here text count plan line (Move event obj to) so_far stands reads again = absurd (cc)
two_go_here text count plan line (Flip event) so_far stands reads again = absurd (cc)
two_go_here text count plan line (Go event task) so_far stands reads again =
    let found = go-from plan event again in
    let before = plan_said text count found.0 plan (Go event found.1) so_far found.2 in
    second_go before.number event found.1 task before.before before.said (said_here text count line (Go event task) stands reads) refl

stops_order : (text : List ℕ) (count : ℕ) (plan : List PlanLine) (line : List ℕ) → ReadsUpTo text count plan → slice_get (lines text) count ≡ Some line → IsLate plan line
    → IsLeastFault text (count + 1) order
stops_order text count plan line so_far stands is =
    least_here text count plan order so_far (order_here text count plan line is.what so_far stands is.reads is.late) (λ other fault.
    by other (classify text count plan line (Some is.what) other so_far (record { stands = stands; reads = is.reads }) fault))
  where
    by : (other : ℕ) → IsBehind plan (Some is.what) (count + 1) other → order ≤ other
    by other (out_of_order what same tardy coded) = omega (arith, coded)
    by other (second what same again coded) = omega (arith, coded)
    by other (over at coded) = omega (arith, coded)

stops_two_go : (text : List ℕ) (count : ℕ) (plan : List PlanLine) (line : List ℕ) → ReadsUpTo text count plan → slice_get (lines text) count ≡ Some line → IsSecondGo plan line
    → IsLeastFault text (count + 1) two_go
stops_two_go text count plan line so_far stands is =
    least_here text count plan two_go so_far (two_go_here text count plan line is.what so_far stands is.reads is.second) (λ other fault.
    by other (classify text count plan line (Some is.what) other so_far (record { stands = stands; reads = is.reads }) fault))
  where
    by : (other : ℕ) → IsBehind plan (Some is.what) (count + 1) other → two_go ≤ other
    by other (out_of_order what same tardy coded) =
        (let this : is.what ≡ what = same_Some is.what what same in
        let in_order : is_late plan what ≡ false = subst (λ (one : PlanLine). is_late plan one ≡ false) this is.in_order in absurd (cc))
    by other (second what same again coded) = omega (arith, coded)
    by other (over at coded) = omega (arith, coded)

stops_limit : (text : List ℕ) (count : ℕ) (plan : List PlanLine) (line : List ℕ) → ReadsUpTo text count plan → slice_get (lines text) count ≡ Some line → IsOverLimit plan (count + 1) line
    → IsLeastFault text (count + 1) limit
stops_limit text count plan line so_far stands is =
    least_here text count plan limit so_far (too_many line (next_line text count line stands) (omega (arith, so_far.within, is.over)) refl) (λ other fault.
    (let past = follows-apart plan is.reading (count + 1) other is.follows (classify text count plan line is.reading other so_far (record { stands = stands; reads = is.reads }) fault) in
    omega (arith, past.1)))

stops_syntax : (text : List ℕ) (count : ℕ) (plan : List PlanLine) (line : List ℕ) → ReadsUpTo text count plan → slice_get (lines text) count ≡ Some line → HasNoReading ReadsAs line
    → IsLeastFault text (count + 1) syntax
stops_syntax text count plan line so_far stands none =
    least_here text count plan syntax so_far (no_form line (next_line text count line stands) none refl) (λ other fault. code_some text (count + 1) other fault)

-- where a line can't be taken, the fault is the least one
pub stops : (text : List ℕ) (count : ℕ) (plan : List PlanLine) (line : List ℕ) (fault : PlanFault) → ReadsUpTo text count plan → slice_get (lines text) count ≡ Some line
    → StopsAt plan (count + 1) line fault → IsFaultOf text fault
stops text count plan line (faults.Syntax at) so_far stands is = rw is.0 (stops_syntax text count plan line so_far stands is.1)
stops text count plan line (faults.Order at) so_far stands is = rw is.0 (stops_order text count plan line so_far stands is.1)
stops text count plan line (faults.TwoGo at) so_far stands is = rw is.0 (stops_two_go text count plan line so_far stands is.1)
stops text count plan line (faults.Limit at) so_far stands is = rw is.0 (stops_limit text count plan line so_far stands is.1)
stops text count plan line faults.Memory so_far stands is = tt

-- ---- the reader is at the end

pub whole_plan : (text : List ℕ) (count : ℕ) (plan : List PlanLine) → ReadsUpTo text count plan → length (lines text) ≤ count → IsPlanOf text plan
whole_plan text count plan so_far all = subst (λ (ls : List (List ℕ)). LinesSay ReadsAs ls plan) (take_all count (lines text) all) so_far.says

pub whole_faultless : (text : List ℕ) (count : ℕ) (plan : List PlanLine) → ReadsUpTo text count plan → length (lines text) ≤ count → HasNoFault text
whole_faultless text count plan so_far all = λ number code fault.
    let at = fault_line text number code fault in
    let within = slice_get_within (lines text) at.1.place at.0 at.1.stands in
    so_far.faultless number code (omega (arith, at.1.counted, within)) fault

-- ---- the reader's loop

-- the lines that are left are those behind the ones that were read
pub record ReadSoFar (text : List ℕ) (left : List NumberedLine) (plan : List PlanLine) : Type 0 where
  pub count : ℕ
  pub left_are : left ≡ numbered (count + 1) (drop count (lines text))
  pub so_far : ReadsUpTo text count plan

pub loop_begins : (text : List ℕ) (left : List NumberedLine) (plan : List PlanLine) → left ≡ lines_of text → plan ≡ [] → ReadSoFar text left plan
loop_begins text left plan all none = record { count = 0; left_are = all ∙ all_numbered text; so_far = rw none (reads_none text) }

pub loop_goes_on : (text : List ℕ) (left more : List NumberedLine) (plan next : List PlanLine) (line : NumberedLine) → ReadSoFar text left plan → left ≡ line ∷ more
    → TakesLine plan line.number line.bytes next → ReadSoFar text more next
loop_goes_on text left more plan next line so_far first takes =
    let parts = next_numbered (lines text) so_far.count line more (sym first ∙ so_far.left_are) in
    record {
      count = so_far.count + 1;
      left_are = parts.2;
      so_far = goes_on text so_far.count plan line.bytes next so_far.so_far parts.0 (subst (λ (n : ℕ). TakesLine plan n line.bytes next) parts.1 takes);
    }

pub loop_stops : (text : List ℕ) (left more : List NumberedLine) (plan : List PlanLine) (line : NumberedLine) (fault : PlanFault) → ReadSoFar text left plan → left ≡ line ∷ more
    → StopsAt plan line.number line.bytes fault → IsFaultOf text fault
loop_stops text left more plan line fault so_far first is =
    let parts = next_numbered (lines text) so_far.count line more (sym first ∙ so_far.left_are) in
    stops text so_far.count plan line.bytes fault so_far.so_far parts.0 (subst (λ (n : ℕ). StopsAt plan n line.bytes fault) parts.1 is)

pub loop_ends : (text : List ℕ) (left : List NumberedLine) (plan : List PlanLine) → ReadSoFar text left plan → left ≡ [] → IsPlanOf text plan × HasNoFault text
loop_ends text left plan so_far none =
    let all = none_numbered (lines text) so_far.count (sym none ∙ so_far.left_are) in
    (whole_plan text so_far.count plan so_far.so_far all, whole_faultless text so_far.count plan so_far.so_far all)
