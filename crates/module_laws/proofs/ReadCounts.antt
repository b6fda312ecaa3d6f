-- Lines that stand in their places and were counted: each body has a line, its cases stand behind their `switch`,
-- and no count passes its limit.
use Rattle.std.proofs.Common.{◌≡◌, ◌∙◌, ℕ, ◌<◌, ◌≤◌, ◌+◌, refl, sym, ap, subst, Bool, true, false, not, cond, ◌&&◌, List, [], ◌∷◌, ◌++◌, length, length-append, Option, Some, None, arith}
use Rattle.std.specs.Prelude.{take_while, nat_le, slice_get}
use Rattle.std.specs.List.{All, AllByRecursion, sum_by}
use Rattle.std.proofs.lemmas.Bool.{leb-true, and_parts}
use Rattle.std.proofs.lemmas.List.Sums.{take_while-cons, sum_by-cons}
use Rattle.std.proofs.lemmas.List.Elements.{All-nil, All-cons}
use Rattle.ir_ast.specs.declared.modules.Form.{Form as TextForm}
use Rattle.ir_ast.specs.declared.modules.Form.TheVariants.{Source, Rewritten}
use Rattle.ir_reader.specs.declared.states.Place.{Place}
use Rattle.ir_reader.specs.declared.states.Place.TheVariants as places
use Rattle.ir_reader.specs.declared.states.State.{State}
use Rattle.ir_reader.specs.declared.states.Counts.{Counts}
use Rattle.ir_reader.specs.declared.states.Counted.{Counted}
use Rattle.ir_reader.specs.declared.states.Counted.TheVariants as kinds
use Rattle.sp_text.specs.Tokens.{tokens}
use Rattle.line_forms.specs.declared.forms.Form.{Form}
use Rattle.line_forms.specs.declared.forms.Form.TheVariants as forms
use Rattle.line_forms.specs.Forms.{slots, is_dropped_form}
use Rattle.line_forms.specs.Slots.{Item}
use Rattle.ir_reader.specs.Limits.{counts_as, said_counts_as, counted, counted_in, counts_fit}
use Rattle.ir_reader.specs.Text.{Numbered}
use Rattle.line_forms.specs.Seen.{Said}
use Rattle.line_forms.proofs.FamilyLines.{fit_parts}
use Rattle.line_forms.specs.Seen as says
use Rattle.ir_lines.specs.Statements.{Statement, Line, of_form, stated, lines_of, layout, declare, define, close, label, switch_case, switch_end, gc_relocate}
use Rattle.ir_lines.specs.Sections.{Definition, layouts_of, layout_said, definitions_of, definition_said, is_case, is_close}
use Rattle.ir_lines.specs.TextLines.{place_behind, Stand}
use Rattle.ir_lines.specs.Parts.{is_of_group}
use Rattle.ir_lines.specs.ReadLines.{is_instruction, is_relocate, relocates_first, RelocatesAreFew, instruction_count, opens_case, CasesStand}
use Rattle.module_laws.proofs.Runs.{IsKept, IsSpelled, Runs}
use Rattle.module_laws.proofs.Formed.{Parts, items_of, parse_told}
use Rattle.module_build.proofs.Bodies.{Inside, Body, inside_function}

-- ---- places

abbrev pub is_cases : Place → Bool
is_cases places.Cases = true
is_cases _ = false

abbrev CasesAgree : Statement → Option Place → Type 0
CasesAgree s None = Unit {0}
CasesAgree s (Some next) = is_cases next ≡ opens_case s

cases_agree : (place : Place) (s : Statement) → CasesAgree s (place_behind place s)
cases_agree places.Top close = tt
cases_agree places.Top (layout name fields) = refl
cases_agree places.Top (declare answer name parameters) = refl
cases_agree places.Top (define answer name arguments strategy) = refl
cases_agree places.Top s = tt
cases_agree places.Closed close = refl
cases_agree places.Closed (label name) = refl
cases_agree places.Closed s = tt
cases_agree places.Cases (switch_case width value to) = refl
cases_agree places.Cases switch_end = refl
cases_agree places.Cases s = tt
cases_agree places.Entry (label name) = refl
cases_agree places.Entry s = by s
  where
    by : (s : Statement) → CasesAgree s (Rattle.ir_lines.specs.TextLines.behind_instruction s)
    by close = tt
    by (layout name fields) = tt
    by (declare answer name parameters) = tt
    by (define answer name arguments strategy) = tt
    by (label name) = tt
    by (switch_case width value to) = tt
    by switch_end = tt
    by s = refl
cases_agree places.Block s = by s
  where
    by : (s : Statement) → CasesAgree s (Rattle.ir_lines.specs.TextLines.behind_instruction s)
    by close = tt
    by (layout name fields) = tt
    by (declare answer name parameters) = tt
    by (define answer name arguments strategy) = tt
    by (label name) = tt
    by (switch_case width value to) = tt
    by switch_end = tt
    by s = refl

abbrev CaseNeeds : Place → Statement → Option Place → Type 0
CaseNeeds place s None = Unit {0}
CaseNeeds place s (Some next) = is_case s ≡ true → is_cases place ≡ true

needs_not : (place : Place) (s : Statement) (o : Option Place) → is_case s ≡ false → CaseNeeds place s o
needs_not place s None e = tt
needs_not place s (Some next) e = λ f. absurd (let bad : true ≡ false = sym f ∙ e in cc)

case_needs : (place : Place) (s : Statement) → CaseNeeds place s (place_behind place s)
case_needs places.Cases (switch_case width value to) = λ e. refl
case_needs places.Top (switch_case width value to) = tt
case_needs places.Entry (switch_case width value to) = tt
case_needs places.Block (switch_case width value to) = tt
case_needs places.Closed (switch_case width value to) = tt
case_needs place s = needs_not place s (place_behind place s) refl

pub cases_stand : (ls : List Line) (place : Place) → Body place ls → CasesStand (is_cases place) ls
cases_stand [] place body = tt
cases_stand (l ∷ ls) place body =
    let next = body.next in
    let agree : is_cases next ≡ opens_case l.says = subst (CasesAgree l.says) body.is (cases_agree place l.says) in (
      subst (CaseNeeds place l.says) body.is (case_needs place l.says),
      subst (λ (b : Bool). CasesStand b ls) agree (cases_stand ls next body.more.1),
    )

pub has_line : (ls : List Line) → Body places.Entry ls → 0 < length ls
has_line [] body = absurd (let bad : places.Entry ≡ places.Closed = body in cc)
has_line (l ∷ ls) body = omega arith

-- ---- counts

abbrev pub kind_said : Statement → Counted
kind_said (layout name fields) = kinds.Layout
kind_said (define answer name arguments strategy) = kinds.Function (length arguments)
kind_said (gc_relocate result token base derived) = kinds.Relocate
kind_said s = cond (is_instruction s) kinds.Instruction kinds.Nothing

-- in a text of this form
abbrev pub kind_in : TextForm → Statement → Counted
kind_in form s = counted_in form (kind_said s)

same_kind : (form : Form) → is_dropped_form form ≡ false → (a : Parts (slots form)) → counts_as form (items_of (slots form) a) ≡ kind_said (of_form form (slice_get (items_of (slots form) a)))
same_kind (forms.Dropped which) kept a = absurd (let bad : true ≡ false = kept in cc)
same_kind form kept a = refl

kind_is : (what : Said) → IsKept what → IsSpelled what → said_counts_as what ≡ kind_said (stated what)
kind_is (says.label name) kept spelled = refl
kind_is (says.line l) kept spelled =
    let parts = parse_told (slots l.form) (tokens spelled.0) l.items [] (fit_parts l.form (tokens spelled.0) l.items [] spelled.1).0 in
    subst (λ (whole : List Item). counts_as l.form whole ≡ kind_said (of_form l.form (slice_get whole))) parts.1 (same_kind l.form kept parts.0)

-- the lines were counted from here on, within the limits
abbrev pub Run : TextForm → Counts → List Line → Type 0
Run form c [] = counts_fit c ≡ true
Run form c (l ∷ ls) = (counts_fit c ≡ true) × Run form (counted (kind_in form l.says) c) ls

pub runs-counted : (xs : List Numbered) (s : State) → counts_fit s.counts ≡ true → Runs s xs → Run s.form s.counts (lines_of xs)
runs-counted [] s fits run = fits
runs-counted (x ∷ xs) s fits run = (
  fits,
  subst (λ (c : Counts). Run s.form c (lines_of xs))
      (run.step.counts ∙ ap (λ (k : Counted). counted (counted_in s.form k) s.counts) (kind_is x.said run.step.kept run.step.spelled))
      (subst (λ (form : TextForm). Run form run.next.counts (lines_of xs)) run.step.form (runs-counted xs run.next (run.step.few fits) run.more)),
)

record Fit (c : Counts) : Type 0 where
  layouts : c.layouts ≤ 4096
  functions : c.functions ≤ 4096
  values : c.values ≤ 4096
  instructions : c.instructions ≤ 65536
  relocates : c.relocates ≤ 16384

fit-is : (c : Counts) → counts_fit c ≡ true → Fit c
fit-is c e =
    let whole = and_parts (nat_le c.layouts 4096 && nat_le c.functions 4096 && nat_le c.values 4096 && nat_le c.instructions 65536) (nat_le c.relocates 16384) e in
    let a = and_parts (nat_le c.layouts 4096 && nat_le c.functions 4096 && nat_le c.values 4096) (nat_le c.instructions 65536) whole.0 in
    let b = and_parts (nat_le c.layouts 4096 && nat_le c.functions 4096) (nat_le c.values 4096) a.0 in
    let d = and_parts (nat_le c.layouts 4096) (nat_le c.functions 4096) b.0 in
    record {
      layouts = leb-true c.layouts 4096 d.0;
      functions = leb-true c.functions 4096 d.1;
      values = leb-true c.values 4096 b.1;
      instructions = leb-true c.instructions 65536 a.1;
      relocates = leb-true c.relocates 16384 whole.1;
    }

-- what one line adds
record Adds (c next : Counts) (s : Statement) : Type 0 where
  layouts : next.layouts ≡ c.layouts + length (layout_said 0 s)
  functions : next.functions ≡ c.functions + length (definition_said 0 s [])

adds : (form : TextForm) (c : Counts) (s : Statement) → Adds c (counted (kind_in form s) c) s
adds Source c (layout name fields) = record { layouts = omega arith; functions = omega arith }
adds Source c (define answer name arguments strategy) = record { layouts = omega arith; functions = omega arith }
adds Source c s = record { layouts = omega arith; functions = omega arith }
adds Rewritten c (layout name fields) = record { layouts = omega arith; functions = omega arith }
adds Rewritten c (define answer name arguments strategy) = record { layouts = omega arith; functions = omega arith }
adds Rewritten c s = record { layouts = omega arith; functions = omega arith }

-- in the source form
instructions_add : (c : Counts) (s : Statement) → is_of_group s ≡ false → (counted (kind_in Source s) c).instructions ≡ c.instructions + cond (is_instruction s) 1 0
instructions_add c (gc_relocate result token base derived) e = absurd (let bad : true ≡ false = e in cc)
instructions_add c (layout name fields) e = omega arith
instructions_add c (define answer name arguments strategy) e = omega arith
instructions_add c s e = omega arith

same_layouts : (n : ℕ) (s : Statement) → length (layout_said n s) ≡ length (layout_said 0 s)
same_layouts n (layout name fields) = refl
same_layouts n s = refl

same_definitions : (n : ℕ) (s : Statement) (ls : List Line) → length (definition_said n s ls) ≡ length (definition_said 0 s [])
same_definitions n (define answer name arguments strategy) ls = refl
same_definitions n s ls = refl

count-cons : (l : Line) (ls : List Line) → instruction_count (l ∷ ls) ≡ cond (is_instruction l.says) 1 0 + instruction_count ls
count-cons l ls = sum_by-cons (λ (one : Line). cond (is_instruction one.says) 1 0) l ls

pub layouts_total : (form : TextForm) (ls : List Line) (c : Counts) → Run form c ls → c.layouts + length (layouts_of ls) ≤ 4096
layouts_total form [] c run = let f = (fit-is c run).layouts in omega arith
layouts_total form (l ∷ ls) c run =
    let more = layouts_total form ls (counted (kind_in form l.says) c) run.1 in
    let a = (adds form c l.says).layouts in
    omega (arith, length-append (layout_said l.number l.says) (layouts_of ls), same_layouts l.number l.says)

pub functions_total : (form : TextForm) (ls : List Line) (c : Counts) → Run form c ls → c.functions + length (definitions_of ls) ≤ 4096
functions_total form [] c run = let f = (fit-is c run).functions in omega arith
functions_total form (l ∷ ls) c run =
    let more = functions_total form ls (counted (kind_in form l.says) c) run.1 in
    let a = (adds form c l.says).functions in
    omega (arith, length-append (definition_said l.number l.says ls) (definitions_of ls), same_definitions l.number l.says ls)

abbrev pub NoGroups : List Line → Type 0
NoGroups ls = AllByRecursion (λ l. is_of_group l.says ≡ false) ls

pub instructions_total : (ls : List Line) (c : Counts) → NoGroups ls → Run Source c ls → c.instructions + instruction_count ls ≤ 65536
instructions_total [] c own run = let f = (fit-is c run).instructions in omega arith
instructions_total (l ∷ ls) c own run =
    let more = instructions_total ls (counted (kind_in Source l.says) c) own.1 run.1 in
    let a = instructions_add c l.says own.0 in
    omega (arith, count-cons l ls)

-- ---- in a body

abbrev is_define : Statement → Bool
is_define (define answer name arguments strategy) = true
is_define s = false

abbrev DefineNeeds : Statement → Option Place → Type 0
DefineNeeds s None = Unit {0}
DefineNeeds s (Some next) = is_define s ≡ false

defines_not : (s : Statement) (o : Option Place) → is_define s ≡ false → DefineNeeds s o
defines_not s None e = tt
defines_not s (Some next) e = e

define_needs : (place : Place) (s : Statement) → Inside place → DefineNeeds s (place_behind place s)
define_needs places.Top s in' = absurd in'
define_needs places.Entry (define answer name arguments strategy) in' = tt
define_needs places.Block (define answer name arguments strategy) in' = tt
define_needs places.Closed (define answer name arguments strategy) in' = tt
define_needs places.Cases (define answer name arguments strategy) in' = tt
define_needs place s in' = defines_not s (place_behind place s) refl

values_add : (c : Counts) (s : Statement) → is_define s ≡ false → is_of_group s ≡ false
    → (counted (kind_in Source s) c).values ≡ c.values + cond (is_instruction s) 1 0
values_add c (define answer name arguments strategy) e own = absurd (let bad : true ≡ false = e in cc)
values_add c (gc_relocate result token base derived) e own = absurd (let bad : true ≡ false = own in cc)
values_add c (layout name fields) e own = omega arith
values_add c s e own = omega arith

pub values_in : (ls : List Line) (place : Place) (c : Counts) → Inside place → Body place ls → NoGroups ls → Run Source c ls → c.values + instruction_count ls ≤ 4096
values_in [] place c in' body own run = let f = (fit-is c run).values in omega arith
values_in (l ∷ ls) place c in' body own run =
    let plain : is_define l.says ≡ false = subst (DefineNeeds l.says) body.is (define_needs place l.says in') in
    let more = values_in ls body.next (counted (kind_in Source l.says) c) body.more.0 body.more.1 own.1 run.1 in
    let a = values_add c l.says plain own.0 in
    omega (arith, count-cons l ls)

run-while : (form : TextForm) (p : Line → Bool) (ls : List Line) (c : Counts) → Run form c ls → Run form c (take_while p ls)
run-while form p [] c run = run
run-while form p (l ∷ ls) c run = by (p l) refl (run-while form p ls (counted (kind_in form l.says) c) run.1)
  where
    by : (b : Bool) → p l ≡ b → Run form (counted (kind_in form l.says) c) (take_while p ls) → Run form c (take_while p (l ∷ ls))
    by true e ih = subst (Run form c) (sym (take_while-cons p l ls ∙ ap (λ (b : Bool). cond b (l ∷ take_while p ls) []) e)) (run.0, ih)
    by false e ih = subst (Run form c) (sym (take_while-cons p l ls ∙ ap (λ (b : Bool). cond b (l ∷ take_while p ls) []) e)) run.0

-- ---- each function

-- its lines were counted, behind its head
pub record IsCounted (form : TextForm) (func : Definition) : Type 0 where
  pub start : Counts
  pub values : start.values ≡ length func.arguments
  pub run : Run form start func.body

function_counted : (form : TextForm) (n : ℕ) (c : Counts) → (counted (counted_in form (kinds.Function n)) c).values ≡ n
function_counted Source n c = refl
function_counted Rewritten n c = refl

one_counted : (form : TextForm) (n : ℕ) (s : Statement) (ls : List Line) (c : Counts) → Run form (counted (kind_in form s) c) ls → All (IsCounted form) (definitions_of ls)
    → All (IsCounted form) (definition_said n s ls ++ definitions_of ls)
one_counted form n (define answer name arguments strategy) ls c run ih =
    let start = counted (counted_in form (kinds.Function (length arguments))) c in
    All-cons (IsCounted form) (record {
      line = n;
      answer = answer;
      name = name;
      arguments = arguments;
      strategy = strategy;
      body = take_while inside_function ls;
    }) (definitions_of ls) (record {
      start = start;
      values = function_counted form (length arguments) c;
      run = run-while form inside_function ls start run;
    }) ih
one_counted form n s ls c run ih = ih

pub each_counted : (form : TextForm) (ls : List Line) (c : Counts) → Run form c ls → All (IsCounted form) (definitions_of ls)
each_counted form [] c run = All-nil (IsCounted form)
each_counted form (l ∷ ls) c run = one_counted form l.number l.says ls c run.1 (each_counted form ls (counted (kind_in form l.says) c) run.1)

-- arguments and instructions of a function of the source form
pub few_values_in : (func : Definition) → Body places.Entry func.body → NoGroups func.body → IsCounted Source func
    → length func.arguments + instruction_count func.body ≤ 4096
few_values_in func body own counted =
    let most = values_in func.body places.Entry counted.start tt body own counted.run in
    let same = counted.values in
    omega arith

-- ---- relocates in a row

relocate_counted : (form : TextForm) (s : Statement) (c : Counts) → is_relocate s ≡ true → (counted (kind_in form s) c).relocates ≡ c.relocates + 1
relocate_counted Source (gc_relocate result token base derived) c e = refl
relocate_counted Rewritten (gc_relocate result token base derived) c e = refl
relocate_counted form s c e = absurd (let bad : false ≡ true = e in cc)

relocates_here : (form : TextForm) (ls : List Line) (c : Counts) → Run form c ls → c.relocates + relocates_first ls ≤ 16384
relocates_here form [] c run = let f = (fit-is c run).relocates in omega arith
relocates_here form (l ∷ ls) c run = by (is_relocate l.says) refl (relocates_here form ls (counted (kind_in form l.says) c) run.1)
  where
    first : relocates_first (l ∷ ls) ≡ length (cond (is_relocate l.says) (l ∷ take_while (λ (one : Line). is_relocate one.says) ls) [])
    first = ap length (take_while-cons (λ (one : Line). is_relocate one.says) l ls)

    by : (b : Bool) → is_relocate l.says ≡ b → (counted (kind_in form l.says) c).relocates + relocates_first ls ≤ 16384 → c.relocates + relocates_first (l ∷ ls) ≤ 16384
    by true e more =
        let is = first ∙ ap (λ (b : Bool). length (cond b (l ∷ take_while (λ (one : Line). is_relocate one.says) ls) [])) e in
        let one = relocate_counted form l.says c e in
        omega (arith, is, one, more)
    by false e more =
        let is = first ∙ ap (λ (b : Bool). length (cond b (l ∷ take_while (λ (one : Line). is_relocate one.says) ls) [])) e in
        let f = (fit-is c run.0).relocates in
        omega (arith, is, f)

run-behind : (form : TextForm) (before after : List Line) (c : Counts) → Run form c (before ++ after) → (d : Counts) × Run form d after
run-behind form [] after c run = (c, run)
run-behind form (l ∷ before) after c run = run-behind form before after (counted (kind_in form l.says) c) run.1

pub relocates_few : (form : TextForm) (ls : List Line) (c : Counts) → Run form c ls → RelocatesAreFew ls
relocates_few form ls c run = λ before after e.
    let behind = run-behind form before after c (subst (Run form c) e run) in
    let few = relocates_here form after behind.0 behind.1 in
    omega arith

-- ---- all instructions

abbrev body_part : Place → List Line → ℕ
body_part places.Top ls = 0
body_part _ ls = instruction_count (take_while inside_function ls)

no_part : (place : Place) → body_part place [] ≤ 0
no_part places.Top = omega arith
no_part place = omega arith

abbrev in_all : List Line → ℕ
in_all ls = sum_by (λ (func : Definition). instruction_count func.body) (definitions_of ls)

abbrev Total : Place → List Line → Type 0
Total place ls = body_part place ls + in_all ls ≤ instruction_count ls

-- a line of no definition
plain_total : (place : Place) (s : Statement) (n : ℕ) (ls : List Line) (next : Place) → is_define s ≡ false → in_all (record { number = n; says = s } ∷ ls) ≡ in_all ls
    → (Inside place → is_close s ≡ false → Inside next) → Total next ls → Total place (record { number = n; says = s } ∷ ls)
plain_total places.Top s n ls next plain same stays total =
    omega (arith, count-cons (record { number = n; says = s }) ls, same)
plain_total place s n ls next plain same stays total = by place (is_close s) refl stays
  where
    part : (next : Place) → Inside next → body_part next ls ≡ instruction_count (take_while inside_function ls)
    part places.Top in' = absurd in'
    part next in' = refl

    cut : (b : Bool) → is_close s ≡ b → instruction_count (take_while inside_function (record { number = n; says = s } ∷ ls))
        ≡ instruction_count (cond (not b) (record { number = n; says = s } ∷ take_while inside_function ls) [])
    cut b e = ap instruction_count (take_while-cons inside_function (record { number = n; says = s }) ls
        ∙ ap (λ (x : Bool). cond (not x) (record { number = n; says = s } ∷ take_while inside_function ls) []) e)

    by : (p : Place) (b : Bool) → is_close s ≡ b → (Inside p → is_close s ≡ false → Inside next) → body_part p (record { number = n; says = s } ∷ ls) + in_all (record { number = n; says = s } ∷ ls) ≤ instruction_count (record { number = n; says = s } ∷ ls)
    by places.Top b e stays = omega (arith, count-cons (record { number = n; says = s }) ls, same)
    by p true e stays = omega (arith, cut true e, count-cons (record { number = n; says = s }) ls, same)
    by p false e stays =
        let inside = stays tt e in
        omega (
          arith,
          cut false e,
          part next inside,
          count-cons (record { number = n; says = s }) ls,
          count-cons (record { number = n; says = s }) (take_while inside_function ls),
          same,
        )

abbrev pub StaysIn : Option Place → Type 0
StaysIn None = Unit {0}
StaysIn (Some next) = Inside next

pub stays_in : (place : Place) (s : Statement) → Inside place → is_close s ≡ false → StaysIn (place_behind place s)
stays_in places.Top s in' c = absurd in'
stays_in places.Closed close in' c = absurd (let bad : true ≡ false = c in cc)
stays_in places.Entry (label name) in' c = tt
stays_in places.Block (label name) in' c = tt
stays_in places.Cases (label name) in' c = tt
stays_in place s in' c = tt

total_plain : (place : Place) (s : Statement) (n : ℕ) (ls : List Line) (next : Place) → place_behind place s ≡ Some next → is_define s ≡ false
    → in_all (record { number = n; says = s } ∷ ls) ≡ in_all ls → Total next ls → Total place (record { number = n; says = s } ∷ ls)
total_plain place s n ls next is plain same total =
    plain_total place s n ls next plain same (λ in' c. subst StaysIn is (stays_in place s in' c)) total

abbrev OpensEntry : Place → Option Place → Type 0
OpensEntry place None = Unit {0}
OpensEntry place (Some next) = (place ≡ places.Top) × (next ≡ places.Entry)

opens_entry : (place : Place) (answer : Rattle.line_parts.specs.Types.TypeWord) (name : List ℕ) (arguments : List (Rattle.line_parts.specs.Lists.Named)) (strategy : Option (List ℕ))
    → OpensEntry place (place_behind place (define answer name arguments strategy))
opens_entry places.Top answer name arguments strategy = (refl, refl)
opens_entry place answer name arguments strategy = tt

total_step : (place : Place) (s : Statement) (n : ℕ) (ls : List Line) (next : Place) → place_behind place s ≡ Some next → Total next ls → Total place (record { number = n; says = s } ∷ ls)
total_step place (define answer name arguments strategy) n ls next is total =
    let at = subst (OpensEntry place) is (opens_entry place answer name arguments strategy) in
    let func : Definition = record {
      line = n;
      answer = answer;
      name = name;
      arguments = arguments;
      strategy = strategy;
      body = take_while inside_function ls;
    } in
    let t : Total places.Entry ls = subst (λ (p : Place). Total p ls) at.1 total in
    subst (λ (p : Place). Total p (record { number = n; says = define answer name arguments strategy } ∷ ls)) (sym at.0)
    (omega (
      arith,
      count-cons (record { number = n; says = define answer name arguments strategy }) ls,
      sum_by-cons (λ (one : Definition). instruction_count one.body) func (definitions_of ls),
    ))
total_step place s n ls next is total = total_plain place s n ls next is refl refl total

pub total_all : (ls : List Line) (place : Place) → Stand place ls → Total place ls
total_all [] place stand = let none = no_part place in omega arith
total_all (l ∷ ls) place stand = total_step place l.says l.number ls stand.next stand.is (total_all ls stand.next stand.more)
