-- The reader of an input stops at the first fault of its text, and only there.
use Rattle.std.proofs.Common.{◌≡◌, refl, ap, sym, subst, ◌∙◌, ℕ, ◌+◌, ◌-◌, ◌≤◌, List, [], ◌∷◌, ◌++◌, length, take, drop, arith, None, Some, Option, inl, inr}
use Rattle.std.specs.Prelude.{ℤ, pos, neg_ℤ, slice_get}
use Rattle.std.specs.Option.{option_to_list}
use Rattle.std.specs.Str.Lines.{lines}
use Rattle.std.specs.Int.{w64}
use Rattle.std.specs.Str.Parse.{digits_value}
use mir.Val.{to_z, of_z}
use Rattle.std.proofs.lemmas.Int.{to_z-of_z}
use Rattle.std.proofs.lemmas.Bool.{cases_eq, cases_lt}
use Rattle.std.proofs.lemmas.List.{append-nil, length_push, take_all}
use Rattle.std.proofs.lemmas.Option.{slice_get_within}
use Rattle.sp_text.specs.Lines.{NumberedLine, lines_of, numbered}
use Rattle.move_plan.specs.declared.faults.InputFault.{InputFault}
use Rattle.move_plan.specs.declared.faults.InputFault.TheVariants as faults
use Rattle.move_plan.specs.Words.{words}
use Rattle.move_plan.specs.Texts.{HasLine, HasNoReading, LinesSay}
use Rattle.move_plan.specs.InputNumbers.{AreDigits, IsNumber, Spells, positive, negative, Holds, HoldsNumber}
use Rattle.move_plan.specs.Inputs.{HasInputFault, HasNoInputFault, IsFirstInputFault, IsInputFaultOf, IsInputOf, too_many, unread}
use Rattle.move_plan.specs.InputSteps.{HasRoom, IsOverLimit, StopsAtNumber, TakesNumber}
use Rattle.move_plan.proofs.InputLemmas.{minus_apart}
use Rattle.move_plan.proofs.TextLemmas.{all_numbered, next_numbered, none_numbered, same_line, says_none, says_push, says_unique, take_line_more}

-- ---- a line holds at most one number

one_value : (word : List ℕ) (n m : ℤ) → Spells word n → Spells word m → n ≡ m
one_value word n m (positive are value) (positive also other) = value ∙ sym other
one_value word n m (positive are value) (negative digits is also other) = absurd (minus_apart digits (subst (λ (ds : List ℕ). AreDigits ds) is are))
one_value word n m (negative digits is are value) (positive also other) = absurd (minus_apart digits (subst (λ (ds : List ℕ). AreDigits ds) is also))
one_value word n m (negative digits is are value) (negative others same also other) =
    let tied : digits ≡ others = cc in
    value ∙ ap (λ ds. neg_ℤ (pos (digits_value 10 ds))) tied ∙ sym other

pub one_number : (line : List ℕ) (one other : Option ℤ) → Holds line one → Holds line other → one ≡ other
one_number line None None holds also = refl
one_number line None (Some m) holds also = (let only = also.only in absurd (cc))
one_number line (Some n) None holds also = (let only = holds.only in absurd (cc))
one_number line (Some n) (Some m) holds also =
    let tied : holds.word ≡ also.word = (let a = holds.only in let b = also.only in cc) in
    ap (λ x. Some x) (one_value also.word n m (subst (λ (word : List ℕ). Spells word n) tied holds.number.spelled) also.number.spelled)

-- ---- what a line's one word is

pub holds_word : (line word : List ℕ) (rest : List (List ℕ)) (n : ℤ) → words line ≡ word ∷ rest → rest ≡ [] → IsNumber word n → HoldsNumber line (to_z w64 (of_z w64 n))
holds_word line word rest n are none number =
    subst (λ (z : ℤ). HoldsNumber line z) (sym (to_z-of_z w64 n number.fits)) (record { word = word; only = are ∙ ap (λ ws. word ∷ ws) none; number = number })

pub no_number : (line word : List ℕ) (rest : List (List ℕ)) → words line ≡ word ∷ rest → rest ≡ [] → ((n : ℤ) → ¬ IsNumber word n) → HasNoReading Holds line
no_number line word rest are none not = by
  where
    by : (held : Option ℤ) → ¬ Holds line held
    by None blank = absurd (cc)
    by (Some n) holds =
        (let only = holds.only in
        let tied : holds.word ≡ word = cc in
        not n (subst (λ (w : List ℕ). IsNumber w n) tied holds.number))

-- ---- the lines before one

pub record HeldUpTo (text : List ℕ) (count : ℕ) (numbers : List ℤ) : Type 0 where
  pub says : LinesSay Holds (take count (lines text)) numbers
  pub faultless : (number : ℕ) → number ≤ count → ¬ HasInputFault text number
  pub few : length numbers ≤ 1048576

next_line : (text : List ℕ) (count : ℕ) (line : List ℕ) → slice_get (lines text) count ≡ Some line → HasLine text (count + 1) line
next_line text count line stands = record { place = count; counted = refl; stands = stands }

-- the numbers held before a line are those that were read
same_numbers : (text : List ℕ) (count : ℕ) (numbers others : List ℤ) → HeldUpTo text count numbers → LinesSay Holds (take (count + 1 - 1) (lines text)) others → numbers ≡ others
same_numbers text count numbers others so_far held =
    let here : count + 1 - 1 ≡ count = omega arith in
    says_unique Holds one_number (take count (lines text)) numbers others so_far.says (subst (λ (n : ℕ). LinesSay Holds (take n (lines text)) others) here held)

no_fault_here : (text : List ℕ) (count : ℕ) (numbers : List ℤ) (line : List ℕ) (held : Option ℤ) → HeldUpTo text count numbers → slice_get (lines text) count ≡ Some line
    → Holds line held → HasRoom numbers held → ¬ HasInputFault text (count + 1)
no_fault_here text count numbers line held so_far stands holds room (unread other has none) =
    let same : other ≡ line = same_line text (count + 1) other line has (next_line text count line stands) in
    none held (subst (λ (one : List ℕ). Holds one held) (sym same) holds)
no_fault_here text count numbers line held so_far stands holds room (too_many other n others has also before full) =
    let same : other ≡ line = same_line text (count + 1) other line has (next_line text count line stands) in
    let tied : held ≡ Some n = one_number line held (Some n) holds (subst (λ (one : List ℕ). Holds one (Some n)) same also) in
    let more : length numbers + 1 ≤ 1048576 = subst (λ (one : Option ℤ). HasRoom numbers one) tied room in
    omega (arith, more, full, ap length (same_numbers text count numbers others so_far before))

fault_line : (text : List ℕ) (number : ℕ) → HasInputFault text number → (line : List ℕ) × HasLine text number line
fault_line text number (unread line has none) = (line, has)
fault_line text number (too_many line n others has also before full) = (line, has)

held_none : (text : List ℕ) → HeldUpTo text 0 []
held_none text = record {
  says = says_none Holds;
  faultless = λ number before fault. (let at = fault_line text number fault in omega (arith, at.1.counted));
  few = omega arith;
}

room_for : (numbers : List ℤ) (held : Option ℤ) → length numbers ≤ 1048576 → HasRoom numbers held → length (numbers ++ option_to_list held) ≤ 1048576
room_for numbers None few room = rw (append-nil numbers) few
room_for numbers (Some n) few room = omega (arith, length_push numbers n, room)

goes_on : (text : List ℕ) (count : ℕ) (numbers : List ℤ) (line : List ℕ) (next : List ℤ) → HeldUpTo text count numbers → slice_get (lines text) count ≡ Some line
    → TakesNumber numbers line next → HeldUpTo text (count + 1) next
goes_on text count numbers line next so_far stands takes = record {
  says = rw (takes.added, take_line_more (lines text) count line stands) (says_push Holds (take count (lines text)) numbers line takes.held so_far.says takes.holds);
  faultless = λ number before fault. elim (cases_eq number (count + 1)) [
    | inl here ↦ no_fault_here text count numbers line takes.held so_far stands takes.holds takes.room (subst (λ (n : ℕ). HasInputFault text n) here fault)
    | inr apart ↦ so_far.faultless number (omega arith) fault
  ];
  few = rw takes.added (room_for numbers takes.held so_far.few takes.room);
}

-- the first fault is that of the next line
first_here : (text : List ℕ) (count : ℕ) (numbers : List ℤ) → HeldUpTo text count numbers → HasInputFault text (count + 1) → IsFirstInputFault text (count + 1)
first_here text count numbers so_far is = record {
  is = is;
  first = λ other fault. elim (cases_lt other (count + 1)) [
    | inl before ↦ absurd (so_far.faultless other (omega arith) fault)
    | inr behind ↦ behind
  ];
}

over_here : (text : List ℕ) (count : ℕ) (numbers : List ℤ) (line : List ℕ) → HeldUpTo text count numbers → slice_get (lines text) count ≡ Some line → IsOverLimit numbers line
    → HasInputFault text (count + 1)
over_here text count numbers line so_far stands is =
    let here : count ≡ count + 1 - 1 = omega arith in
    too_many line is.number numbers (next_line text count line stands) is.holds (subst (λ (n : ℕ). LinesSay Holds (take n (lines text)) numbers) here so_far.says)
    (omega (arith, so_far.few, is.full))

stops : (text : List ℕ) (count : ℕ) (numbers : List ℤ) (line : List ℕ) (fault : InputFault) → HeldUpTo text count numbers → slice_get (lines text) count ≡ Some line
    → StopsAtNumber numbers (count + 1) line fault → IsInputFaultOf text fault
stops text count numbers line (faults.Line at) so_far stands is = rw is.0 (elim is.1 [
  | inl none ↦ first_here text count numbers so_far (unread line (next_line text count line stands) none)
  | inr over ↦ first_here text count numbers so_far (over_here text count numbers line so_far stands over)
])
stops text count numbers line faults.Memory so_far stands is = tt

-- ---- the reader's loop

pub record HeldSoFar (text : List ℕ) (left : List NumberedLine) (numbers : List ℤ) : Type 0 where
  pub count : ℕ
  pub left_are : left ≡ numbered (count + 1) (drop count (lines text))
  pub so_far : HeldUpTo text count numbers

pub loop_begins : (text : List ℕ) (left : List NumberedLine) (numbers : List ℤ) → left ≡ lines_of text → numbers ≡ [] → HeldSoFar text left numbers
loop_begins text left numbers all none = record { count = 0; left_are = all ∙ all_numbered text; so_far = rw none (held_none text) }

pub loop_goes_on : (text : List ℕ) (left more : List NumberedLine) (numbers next : List ℤ) (line : NumberedLine) → HeldSoFar text left numbers → left ≡ line ∷ more
    → TakesNumber numbers line.bytes next → HeldSoFar text more next
loop_goes_on text left more numbers next line so_far first takes =
    let parts = next_numbered (lines text) so_far.count line more (sym first ∙ so_far.left_are) in
    record {
      count = so_far.count + 1;
      left_are = parts.2;
      so_far = goes_on text so_far.count numbers line.bytes next so_far.so_far parts.0 takes;
    }

pub loop_stops : (text : List ℕ) (left more : List NumberedLine) (numbers : List ℤ) (line : NumberedLine) (fault : InputFault) → HeldSoFar text left numbers → left ≡ line ∷ more
    → StopsAtNumber numbers line.number line.bytes fault → IsInputFaultOf text fault
loop_stops text left more numbers line fault so_far first is =
    let parts = next_numbered (lines text) so_far.count line more (sym first ∙ so_far.left_are) in
    stops text so_far.count numbers line.bytes fault so_far.so_far parts.0 (subst (λ (n : ℕ). StopsAtNumber numbers n line.bytes fault) parts.1 is)

pub loop_ends : (text : List ℕ) (left : List NumberedLine) (numbers : List ℤ) → HeldSoFar text left numbers → left ≡ [] → IsInputOf text numbers × HasNoInputFault text
loop_ends text left numbers so_far none =
    let all = none_numbered (lines text) so_far.count (sym none ∙ so_far.left_are) in (
      subst (λ (ls : List (List ℕ)). LinesSay Holds ls numbers) (take_all so_far.count (lines text) all) so_far.so_far.says,
      λ number fault. (let at = fault_line text number fault in
          let within = slice_get_within (lines text) at.1.place at.0 at.1.stands in
          so_far.so_far.faultless number (omega (arith, at.1.counted, within)) fault),
    )
