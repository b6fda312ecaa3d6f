-- Questions that were asked, a question at a time.
use Rattle.std.proofs.Common.{◌≡◌, ◌∙◌, ◌⊎◌, inl, inr, ℕ, ◌+◌, cond, Bool, true, false, List, [], ◌∷◌, ◌++◌, Option, Some, None, refl, ap, sym, subst, slice_get, length, arith}
use Rattle.std.specs.Prelude.{◌==◌, ◌&&◌}
use Rattle.std.specs.List.{All, AllZip}
use Rattle.std.specs.Map.{lookup}
use Rattle.std.proofs.lemmas.Bool.{false≢true, cases_Bool, eqb-true, eq-eqb, and_parts, and_from}
use Rattle.std.proofs.lemmas.Option.{none-some, same_Some, slice_get_within}
use Rattle.list_laws.proofs.Places.{cases_below, get_front, get_last, pushed_cases}
use Rattle.list_laws.proofs.Contents.{contains_get, get_contained, all_from_at}
use Rattle.list_laws.proofs.Zips.{zip_at}
use Rattle.ir_ast.specs.declared.ops.Operand.{Operand}
use Rattle.ir_ast.specs.declared.ops.Operand.TheVariants as operands
use Rattle.ir_ast.specs.Funcs.{Function}
use Rattle.pair_facts.specs.declared.bases.Base.{Base}
use Rattle.pair_facts.specs.declared.bases.Base.TheVariants as bases
use Rattle.base_facts.specs.declared.asks.Ask.{Ask}
use Rattle.base_facts.specs.Answers as asks
use Rattle.place_facts.specs.declared.facts.Question.{Question}
use Rattle.place_facts.specs.declared.asked.Asked.{Asked}
use Rattle.place_facts.specs.declared.facts.Facts.{Facts}
use Rattle.place_facts.specs.declared.keys.Name.{Name}
use Rattle.place_facts.specs.declared.keys.Name.TheVariants as names
use Rattle.place_facts.specs.declared.keys.Wanted.{Wanted}
use Rattle.place_facts.specs.declared.keys.Wanted.TheVariants as wanted
use Rattle.place_facts.specs.Before.{IsAskable}
use Rattle.place_facts.specs.Asks.{AsksFor}
use Rattle.place_facts.specs.Keys.{name_of, wanted_of, key_of, same_name, same_wanted, same_key}
use Rattle.place_facts.specs.Asked.{number_of, IsAskedAs, KnowsAsks, AddsAsk, HasAsked}
use Rattle.place_facts.specs.Answers.{answer_at, question_of, IsAnswered, IsTold, AreAnswers}

-- ---- a question is its key

operand_named : (one other : Operand) → same_name (name_of one) (name_of other) ≡ true → one ≡ other
operand_named (operands.Value one) (operands.Value other) is = ap (λ (n : ℕ). operands.Value (record { 0 = n })) (eqb-true one.0 other.0 is)
operand_named (operands.Int one) (operands.Int other) is = ap operands.Int (eqb-true one other is)
operand_named operands.Null operands.Null is = refl
operand_named (operands.Fun one) (operands.Fun other) is = ap (λ (n : ℕ). operands.Fun (record { 0 = n })) (eqb-true one.0 other.0 is)
operand_named (operands.Value one) (operands.Int other) is = absurd (false≢true is)
operand_named (operands.Value one) operands.Null is = absurd (false≢true is)
operand_named (operands.Value one) (operands.Fun other) is = absurd (false≢true is)
operand_named (operands.Int one) (operands.Value other) is = absurd (false≢true is)
operand_named (operands.Int one) operands.Null is = absurd (false≢true is)
operand_named (operands.Int one) (operands.Fun other) is = absurd (false≢true is)
operand_named operands.Null (operands.Value other) is = absurd (false≢true is)
operand_named operands.Null (operands.Int other) is = absurd (false≢true is)
operand_named operands.Null (operands.Fun other) is = absurd (false≢true is)
operand_named (operands.Fun one) (operands.Value other) is = absurd (false≢true is)
operand_named (operands.Fun one) (operands.Int other) is = absurd (false≢true is)
operand_named (operands.Fun one) operands.Null is = absurd (false≢true is)

base_wanted : (one other : Base) → same_wanted (wanted_of one) (wanted_of other) ≡ true → one ≡ other
base_wanted bases.Any bases.Any is = refl
base_wanted bases.Any (bases.Named other) is = absurd (false≢true is)
base_wanted (bases.Named one) bases.Any is = absurd (false≢true is)
base_wanted (bases.Named one) (bases.Named other) is = ap bases.Named (operand_named one other is)

question_keyed : (one other : Question) → same_key (key_of one) (key_of other) ≡ true → one ≡ other
question_keyed one other is =
    let outer = and_parts (one.place == other.place) (same_name (name_of one.pointer) (name_of other.pointer) && same_wanted (wanted_of one.base) (wanted_of other.base)) is in
    let inner = and_parts (same_name (name_of one.pointer) (name_of other.pointer)) (same_wanted (wanted_of one.base) (wanted_of other.base)) outer.1 in
    ap (λ (place : ℕ). question_of place one.pointer one.base) (eqb-true one.place other.place outer.0)
    ∙ ap (λ (pointer : Operand). question_of other.place pointer one.base) (operand_named one.pointer other.pointer inner.0)
    ∙ ap (question_of other.place other.pointer) (base_wanted one.base other.base inner.1)

same_itself : (name : Name) → same_name name name ≡ true
same_itself (names.Value value) = eq-eqb value value refl
same_itself (names.Int number) = eq-eqb number number refl
same_itself names.Null = refl
same_itself (names.Fun func) = eq-eqb func func refl

wanted_itself : (one : Wanted) → same_wanted one one ≡ true
wanted_itself wanted.Any = refl
wanted_itself (wanted.Named name) = same_itself name

key_itself : (question : Question) → same_key (key_of question) (key_of question) ≡ true
key_itself question =
    and_from (question.place == question.place) _ (eq-eqb question.place question.place refl)
    (and_from (same_name (name_of question.pointer) (name_of question.pointer)) _ (same_itself (name_of question.pointer)) (wanted_itself (wanted_of question.base)))

-- ---- a question more

pub asked_none : (func : Function) (questions : List Question) (asked : Asked) → asked.numbers.entries ≡ [] → asked.asks.items ≡ [] → KnowsAsks func questions 0 asked
asked_none func questions asked numbers none = record {
  can_ask = λ number ask is. absurd (none-some ask (ap (λ (xs : List Ask). slice_get xs number) (sym none) ∙ is));
  told = λ question number is. absurd (none-some number (sym (ap (lookup (same_key (key_of question))) numbers) ∙ is));
  whole = λ place question below. absurd (omega (arith, below));
}

asked_added : (func : Function) (questions : List Question) (count : ℕ) (question : Question) (ask : Ask) (old new : Asked) → slice_get questions count ≡ Some question
    → AsksFor func question ask → AddsAsk question ask old new → KnowsAsks func questions count old → KnowsAsks func questions (count + 1) new
asked_added func questions count question ask old new at asks_for adds knows = record {
  can_ask = λ number one is. elim (pushed number one (ap (λ (xs : List Ask). slice_get xs number) (sym adds.asks) ∙ is)) [
    | inl earlier ↦ knows.can_ask number one earlier
    | inr last ↦ subst (asks.IsAskable func) last asks_for.can_ask
  ];
  told = λ other number is. told_by other number (same_key (key_of question) (key_of other)) refl is;
  whole = λ place other low there askable none. elim (cases_Bool (same_key (key_of question) (key_of other))) [
    | inl same ↦ none-some (length old.asks.items) (sym none ∙ adds.numbers other ∙ ap (chosen other) same)
    | inr apart ↦ elim (cases_below place count low) [
      | inl below ↦ knows.whole place other below there askable (sym (adds.numbers other ∙ ap (chosen other) apart) ∙ none)
      | inr last ↦
          (let same : question ≡ other = same_Some question other (sym at ∙ ap (slice_get questions) (sym last) ∙ there) in
          false≢true (sym apart ∙ subst (λ (q : Question). same_key (key_of question) (key_of q) ≡ true) same (key_itself question)))
    ]
  ];
}
  where
    chosen : Question → Bool → Option ℕ
    chosen other test = cond test (Some (length old.asks.items)) (number_of old other)

    pushed : (number : ℕ) (one : Ask) → slice_get (old.asks.items ++ ask ∷ []) number ≡ Some one → (slice_get old.asks.items number ≡ Some one) ⊎ (ask ≡ one)
    pushed number one is = elim (pushed_cases old.asks.items ask number one is) [
      | inl earlier ↦ inl earlier
      | inr last ↦ inr last.1
    ]

    told_by : (other : Question) (number : ℕ) (test : Bool) → same_key (key_of question) (key_of other) ≡ test → number_of new other ≡ Some number
        → IsAskedAs func questions new other number
    told_by other number true same is =
        let own : length old.asks.items ≡ number = same_Some (length old.asks.items) number (sym (adds.numbers other ∙ ap (chosen other) same) ∙ is) in
        subst (λ (q : Question). IsAskedAs func questions new q number) (question_keyed question other same) (record {
          ask = ask;
          stands = ap (λ (xs : List Ask). slice_get xs number) adds.asks
              ∙ ap (slice_get (old.asks.items ++ ask ∷ [])) (sym own) ∙ get_last old.asks.items ask;
          asks_for = asks_for;
          contained = contains_get questions count question at;
        })
    told_by other number false apart is =
        let before = knows.told other number (sym (adds.numbers other ∙ ap (chosen other) apart) ∙ is) in
        record {
          ask = before.ask;
          stands = ap (λ (xs : List Ask). slice_get xs number) adds.asks ∙ get_front old.asks.items (ask ∷ []) number before.ask before.stands;
          asks_for = before.asks_for;
          contained = before.contained;
        }

asked_without : (func : Function) (questions : List Question) (count : ℕ) (question : Question) (asked : Asked) → slice_get questions count ≡ Some question
    → (IsAskable func question.place → ⊥) → KnowsAsks func questions count asked → KnowsAsks func questions (count + 1) asked
asked_without func questions count question asked at never knows = record {
  can_ask = knows.can_ask;
  told = knows.told;
  whole = λ place other low there askable none. elim (cases_below place count low) [
    | inl below ↦ knows.whole place other below there askable none
    | inr last ↦
        (let same : question ≡ other = same_Some question other (sym at ∙ ap (slice_get questions) (sym last) ∙ there) in
        never (subst (λ (q : Question). IsAskable func q.place) (sym same) askable))
  ];
}

pub asked_more : (func : Function) (questions : List Question) (count : ℕ) (question : Question) (old new : Asked) → slice_get questions count ≡ Some question
    → HasAsked func question old new → KnowsAsks func questions count old → KnowsAsks func questions (count + 1) new
asked_more func questions count question old new at (inl has) knows = asked_added func questions count question has.0 old new at has.1 has.2 knows
asked_more func questions count question old new at (inr has) knows =
    subst (KnowsAsks func questions (count + 1)) (sym has.1) (asked_without func questions count question old at has.0 knows)

-- ---- all of them

pub all_askable : (func : Function) (questions : List Question) (count : ℕ) (asked : Asked) → KnowsAsks func questions count asked → All (asks.IsAskable func) asked.asks.items
all_askable func questions count asked knows = all_from_at (asks.IsAskable func) asked.asks.items knows.can_ask

answered_by : (func : Function) (question : Question) (ask : Ask) (answer : Bool) → AsksFor func question ask → asks.IsAnswered func ask answer → IsAnswered func question answer
answered_by func question ask true asks_for is = asks_for.stands is
answered_by func question ask false asks_for is = asks_for.misses is

pub all_answered : (func : Function) (questions : List Question) (facts : Facts) → KnowsAsks func questions (length questions) facts.asked
    → AllZip (asks.IsAnswered func) facts.asked.asks.items facts.answers → AreAnswers func questions facts
all_answered func questions facts knows all = record {
  told = λ question answer is. told_by question answer (number_of facts.asked question) refl is;
  whole = λ question there askable none.
      let at = get_contained questions question there in
      none_by question (number_of facts.asked question) refl none
      (knows.whole at.0 question (slice_get_within questions at.0 question at.1) at.1 askable);
}
  where
    at_number : (question : Question) (number : ℕ) → number_of facts.asked question ≡ Some number
        → (answer : Bool) × (slice_get facts.answers number ≡ Some answer) × IsTold func questions question answer
    at_number question number is =
        let asked_as = knows.told question number is in
        let found = zip_at (asks.IsAnswered func) facts.asked.asks.items facts.answers number asked_as.ask all asked_as.stands in (
          found.0,
          found.1,
          record {
            asked = asked_as.contained;
            askable = asked_as.asks_for.askable;
            is = answered_by func question asked_as.ask found.0 asked_as.asks_for found.2;
          },
        )

    told_by : (question : Question) (answer : Bool) (number : Option ℕ) → number_of facts.asked question ≡ number → answer_at facts.answers number ≡ Some answer
        → IsTold func questions question answer
    told_by question answer None none is = absurd (none-some answer is)
    told_by question answer (Some number) there is =
        let found = at_number question number there in
        subst (IsTold func questions question) (same_Some found.0 answer (sym found.1 ∙ is)) found.2

    none_by : (question : Question) (number : Option ℕ) → number_of facts.asked question ≡ number → answer_at facts.answers (number_of facts.asked question) ≡ None
        → (number_of facts.asked question ≡ None → ⊥) → ⊥
    none_by question None none is never = never none
    none_by question (Some number) there is never =
        let found = at_number question number there in
        none-some found.0 (sym (sym (ap (answer_at facts.answers) there) ∙ is) ∙ found.1)
