-- A text stands for a plan, or has a least fault; for an input, or has a first fault.
use Rattle.std.proofs.Common.{◌≡◌, refl, sym, subst, ℕ, ◌<◌, ◌≤◌, ◌^◌, List, [], ◌∷◌, ◌++◌, ◌⊎◌, length, arith, None, Some, Option, inl, inr}
use Rattle.std.specs.Prelude.{ℤ, pos, neg_ℤ, FitsSigned}
use Rattle.std.specs.Int.{w64}
use Rattle.std.specs.Option.{SomeIff, option_to_list}
use Rattle.std.specs.Str.Parse.{digits_value}
use Rattle.std.proofs.lemmas.Bool.{cases_Bool, cases_eq, cases_lt}
use Rattle.std.proofs.lemmas.Int.{ints}
use Rattle.sp_text.specs.Bytes.{minus}
use Rattle.sp_text.specs.Lines.{NumberedLine, lines_of}
use Rattle.move_plan.specs.declared.faults.PlanFault.{PlanFault}
use Rattle.move_plan.specs.declared.faults.PlanFault.TheVariants as faults
use Rattle.move_plan.specs.declared.faults.InputFault.TheVariants as input_faults
use Rattle.move_plan.specs.declared.plan_lines.PlanLine.{PlanLine}
use Rattle.move_plan.specs.Words.{words}
use Rattle.move_plan.specs.Texts.{HasNoReading}
use Rattle.move_plan.specs.PlanLines.{ReadsAs}
use Rattle.move_plan.specs.Plans.{IsPlanOf}
use Rattle.move_plan.specs.PlanFaults.{HasNoFault, IsFaultOf, IsLeastFault, limit, order, syntax, two_go}
use Rattle.move_plan.specs.Decoded.{decoded, numeral_of}
use Rattle.move_plan.specs.Steps.{MayFollow, StopsAt, TakesLine, is_late, is_second_go}
use Rattle.move_plan.specs.InputNumbers.{AreDigits, Holds, IsNumber, Spells, negative, positive}
use Rattle.move_plan.specs.Inputs.{HasNoInputFault, IsFirstInputFault, IsInputOf}
use Rattle.move_plan.specs.InputSteps.{StopsAtNumber, TakesNumber}
use Rattle.move_plan.proofs.DecodeLemmas.{line_says, no_reading}
use Rattle.move_plan.proofs.FaultLaws as plans
use Rattle.move_plan.proofs.InputLaws as inputs
use Rattle.move_plan.proofs.InputLemmas.{few_digits, minus_apart, minus_number}

-- a line has a reading or none
abbrev IsDecided : {X : Type 0} → (List ℕ → Option X → Type 0) → List ℕ → Type 0
IsDecided {X} reads line = ((reading : Option X) × reads line reading) ⊎ HasNoReading reads line

-- ---- plans

by_decoded : (line first : List ℕ) (rest : List (List ℕ)) → words line ≡ first ∷ rest → (r : Option PlanLine) → r ≡ decoded (first ∷ rest) → IsDecided ReadsAs line
by_decoded line first rest are None is = inr (no_reading line first rest are is)
by_decoded line first rest are (Some what) is = inl (Some what, line_says line first rest what are is)

by_words : (line : List ℕ) (ws : List (List ℕ)) → words line ≡ ws → IsDecided ReadsAs line
by_words line [] are = inl (None, are)
by_words line (first ∷ rest) are = by_decoded line first rest are (decoded (first ∷ rest)) refl

-- the line is taken, or it can't be
abbrev IsStep : List PlanLine → ℕ → List ℕ → Type 0
IsStep plan number line = ((next : List PlanLine) × TakesLine plan number line next) ⊎ ((fault : PlanFault) × StopsAt plan number line fault × ¬ (fault ≡ faults.Memory))

within_limit : (plan : List PlanLine) (number : ℕ) (line : List ℕ) (reading : Option PlanLine) → ReadsAs line reading → MayFollow plan reading → IsStep plan number line
within_limit plan number line reading reads follows = elim (cases_lt 262144 number) [
  | inl over ↦ inr (faults.Limit number, (refl, record { reading = reading; reads = reads; follows = follows; over = over }), λ clash. cc)
  | inr within ↦ inl (plan ++ option_to_list reading, record { reading = reading; reads = reads; follows = follows; within = within; added = refl })
]

read_step : (plan : List PlanLine) (number : ℕ) (line : List ℕ) (reading : Option PlanLine) → ReadsAs line reading → IsStep plan number line
read_step plan number line None reads = within_limit plan number line None reads tt
read_step plan number line (Some what) reads = elim (cases_Bool (is_late plan what)) [
  | inl tardy ↦ inr (faults.Order number, (refl, record { what = what; reads = reads; late = tardy }), λ clash. cc)
  | inr in_order ↦ elim (cases_Bool (is_second_go plan what)) [
    | inl second ↦ inr (faults.TwoGo number, (refl, record { what = what; reads = reads; in_order = in_order; second = second }), λ clash. cc)
    | inr first ↦ within_limit plan number line (Some what) reads (in_order, first)
  ]
]

step : (plan : List PlanLine) (number : ℕ) (line : List ℕ) → IsStep plan number line
step plan number line = elim (by_words line (words line) refl) [
  | inl says ↦ read_step plan number line says.0 says.1
  | inr none ↦ inr (faults.Syntax number, (refl, none), λ clash. cc)
]

abbrev HasLeastFault : List ℕ → Type 0
HasLeastFault text = (line : ℕ) × (code : ℕ) × IsLeastFault text line code

least_of : (text : List ℕ) (fault : PlanFault) → ¬ (fault ≡ faults.Memory) → IsFaultOf text fault → HasLeastFault text
least_of text (faults.Syntax at) known is = (at, syntax, is)
least_of text (faults.Order at) known is = (at, order, is)
least_of text (faults.TwoGo at) known is = (at, two_go, is)
least_of text (faults.Limit at) known is = (at, limit, is)
least_of text faults.Memory known is = absurd (known refl)

abbrev IsPlanOrFault : List ℕ → Type 0
IsPlanOrFault text = ((plan : List PlanLine) × IsPlanOf text plan × HasNoFault text) ⊎ HasLeastFault text

plan_from : (text : List ℕ) (left : List NumberedLine) (plan : List PlanLine) → plans.ReadSoFar text left plan → IsPlanOrFault text
plan_from text [] plan so_far = (let ends = plans.loop_ends text [] plan so_far refl in inl (plan, ends.0, ends.1))
plan_from text (line ∷ more) plan so_far = elim (step plan line.number line.bytes) [
  | inl takes ↦ plan_from text more takes.0 (plans.loop_goes_on text (line ∷ more) more plan takes.0 line so_far refl takes.1)
  | inr stops ↦ inr (least_of text stops.0 stops.2 (plans.loop_stops text (line ∷ more) more plan line stops.0 so_far refl stops.1))
]

pub plan_or_fault : (text : List ℕ) → IsPlanOrFault text
plan_or_fault text = plan_from text (lines_of text) [] (plans.loop_begins text (lines_of text) [] refl refl)

-- ---- inputs

pos-fits : (m : ℕ) → m < 2 ^ 63 → FitsSigned w64 (pos m)
pos-fits m small = search (arith, ints)

fits-pos : (m : ℕ) → FitsSigned w64 (pos m) → m < 2 ^ 63
fits-pos m fits = omega (arith, ints, fits)

by_numeral : (ds : List ℕ) (r : Option ℕ) → SomeIff r (AreDigits ds) (digits_value 10 ds) → AreDigits ds ⊎ ¬ AreDigits ds
by_numeral ds None not = inr not
by_numeral ds (Some m) is = inl is.0

digits_decided : (ds : List ℕ) → AreDigits ds ⊎ ¬ AreDigits ds
digits_decided ds = elim (cases_lt 19 (length ds)) [
  | inl over ↦ inr (λ are. omega (arith, are.few, over))
  | inr few ↦ by_numeral ds (numeral_of ds) (few_digits ds (numeral_of ds) refl few)
]

abbrev IsNumberOrNone : List ℕ → Type 0
IsNumberOrNone word = ((n : ℤ) × IsNumber word n) ⊎ ((n : ℤ) → ¬ IsNumber word n)

-- digits are a number where it has 64 bits
too_great : (word : List ℕ) → AreDigits word → 2 ^ 63 ≤ digits_value 10 word → (n : ℤ) → ¬ IsNumber word n
too_great word are great n number = by n number.spelled number.fits
  where
    by : (z : ℤ) → Spells word z → FitsSigned w64 z → ⊥
    by z (positive _ value) fits = omega (arith, fits-pos (digits_value 10 word) (subst (λ (y : ℤ). FitsSigned w64 y) value fits), great)
    by z (negative digits is _ value) fits = minus_apart digits (subst (λ (ds : List ℕ). AreDigits ds) is are)

digits_number : (word : List ℕ) → AreDigits word → IsNumberOrNone word
digits_number word are = elim (cases_lt (digits_value 10 word) (2 ^ 63)) [
  | inl small ↦ inl (pos (digits_value 10 word), record { spelled = positive are refl; fits = pos-fits (digits_value 10 word) small })
  | inr great ↦ inr (too_great word are great)
]

-- behind a `-`
minus_some : (digits : List ℕ) → AreDigits digits → digits_value 10 digits ≤ 2 ^ 63 → IsNumber (minus ∷ digits) (neg_ℤ (pos (digits_value 10 digits)))
minus_some digits are small =
    let m = digits_value 10 digits in
    minus_number (minus ∷ digits) digits minus m (Some (neg_ℤ (pos m))) refl refl are refl (small, refl)

minus_none : (digits : List ℕ) → AreDigits digits → 2 ^ 63 < digits_value 10 digits → (n : ℤ) → ¬ IsNumber (minus ∷ digits) n
minus_none digits are great =
    let m = digits_value 10 digits in
    minus_number (minus ∷ digits) digits minus m None refl refl are refl (λ small. omega (arith, small, great))

not_spelled : (word : List ℕ) → ¬ AreDigits word → ((digits : List ℕ) → word ≡ minus ∷ digits → ¬ AreDigits digits) → (n : ℤ) → ¬ IsNumber word n
not_spelled word none no_minus n number = by n number.spelled
  where
    by : (z : ℤ) → ¬ Spells word z
    by z (positive are value) = none are
    by z (negative digits is are value) = no_minus digits is are

minus_number_decided : (digits : List ℕ) → ¬ AreDigits (minus ∷ digits) → AreDigits digits ⊎ ¬ AreDigits digits → IsNumberOrNone (minus ∷ digits)
minus_number_decided digits none (inr no_digits) = inr (not_spelled (minus ∷ digits) none (λ others is are. no_digits (subst (λ (ds : List ℕ). AreDigits ds) (same_tail others is) are)))
  where
    same_tail : (others : List ℕ) → minus ∷ digits ≡ minus ∷ others → others ≡ digits
    same_tail others is = cc
minus_number_decided digits none (inl are) = elim (cases_lt (2 ^ 63) (digits_value 10 digits)) [
  | inl great ↦ inr (minus_none digits are great)
  | inr small ↦ inl (neg_ℤ (pos (digits_value 10 digits)), minus_some digits are small)
]

no_digits_number : (word : List ℕ) → ¬ AreDigits word → IsNumberOrNone word
no_digits_number [] none = inr (not_spelled [] none (λ digits is are. no_head digits is))
  where
    no_head : (digits : List ℕ) → [] ≡ minus ∷ digits → ⊥
    no_head digits is = cc
no_digits_number (c ∷ ds) none = elim (cases_eq c minus) [
  | inl is ↦ subst (λ (b : ℕ). IsNumberOrNone (b ∷ ds)) (sym is) (minus_number_decided ds (minus_apart ds) (digits_decided ds))
  | inr apart ↦ inr (not_spelled (c ∷ ds) none (λ digits is are. apart (same_head digits is)))
]
  where
    same_head : (digits : List ℕ) → c ∷ ds ≡ minus ∷ digits → c ≡ minus
    same_head digits is = cc

number_decided : (word : List ℕ) → IsNumberOrNone word
number_decided word = elim (digits_decided word) [
  | inl are ↦ digits_number word are
  | inr none ↦ no_digits_number word none
]

more_words : (line one two : List ℕ) (rest : List (List ℕ)) → words line ≡ one ∷ two ∷ rest → HasNoReading Holds line
more_words line one two rest are = by
  where
    by : (held : Option ℤ) → ¬ Holds line held
    by None blank = absurd (cc)
    by (Some n) holds = (let only = holds.only in absurd (cc))

by_only_word : (line : List ℕ) (ws : List (List ℕ)) → words line ≡ ws → IsDecided Holds line
by_only_word line [] are = inl (None, are)
by_only_word line (word ∷ []) are = elim (number_decided word) [
  | inl is ↦ inl (Some is.0, record { word = word; only = are; number = is.1 })
  | inr not ↦ inr (inputs.no_number line word [] are refl not)
]
by_only_word line (one ∷ two ∷ rest) are = inr (more_words line one two rest are)

abbrev IsNumberStep : List ℤ → ℕ → List ℕ → Type 0
IsNumberStep numbers number line = ((next : List ℤ) × TakesNumber numbers line next) ⊎ StopsAtNumber numbers number line (input_faults.Line number)

number_step : (numbers : List ℤ) (number : ℕ) (line : List ℕ) (held : Option ℤ) → Holds line held → IsNumberStep numbers number line
number_step numbers number line None holds =
    let held : Option ℤ = None in inl (numbers ++ option_to_list held, record { held = held; holds = holds; room = tt; added = refl })
number_step numbers number line (Some n) holds = elim (cases_lt (length numbers) 1048576) [
  | inl room ↦ inl (numbers ++ option_to_list (Some n), record { held = Some n; holds = holds; room = omega (arith, room); added = refl })
  | inr full ↦ inr (refl, inr (record { number = n; holds = holds; full = full }))
]

input_step : (numbers : List ℤ) (number : ℕ) (line : List ℕ) → IsNumberStep numbers number line
input_step numbers number line = elim (by_only_word line (words line) refl) [
  | inl says ↦ number_step numbers number line says.0 says.1
  | inr none ↦ inr (refl, inl none)
]

abbrev IsInputOrFault : List ℕ → Type 0
IsInputOrFault text = ((numbers : List ℤ) × IsInputOf text numbers × HasNoInputFault text) ⊎ ((line : ℕ) × IsFirstInputFault text line)

input_from : (text : List ℕ) (left : List NumberedLine) (numbers : List ℤ) → inputs.HeldSoFar text left numbers → IsInputOrFault text
input_from text [] numbers so_far = (let ends = inputs.loop_ends text [] numbers so_far refl in inl (numbers, ends.0, ends.1))
input_from text (line ∷ more) numbers so_far = elim (input_step numbers line.number line.bytes) [
  | inl takes ↦ input_from text more takes.0 (inputs.loop_goes_on text (line ∷ more) more numbers takes.0 line so_far refl takes.1)
  | inr stops ↦ inr (line.number, inputs.loop_stops text (line ∷ more) more numbers line (input_faults.Line line.number) so_far refl stops)
]

pub input_or_fault : (text : List ℕ) → IsInputOrFault text
input_or_fault text = input_from text (lines_of text) [] (inputs.loop_begins text (lines_of text) [] refl refl)
