-- What a step asks is what the line of the definition gives.
use Rattle.std.proofs.Common.{◌≡◌, ◌∙◌, inl, inr, ℕ, zero, suc, cond, Bool, true, false, List, Option, Some, None, refl, ap, sym, subst, arith}
use Rattle.std.specs.Prelude.{◌==◌, ◌&&◌, ◌||◌}
use Rattle.std.proofs.lemmas.Bool.{false≢true, cases_Bool, eqb-true}
use Rattle.std.proofs.lemmas.Option.{get_or_from_slice_get}
use Rattle.ir_ast.specs.declared.ops.Operand.{Operand}
use Rattle.ir_ast.specs.declared.ops.Operand.TheVariants.{Value, Int, Null, Fun}
use Rattle.ir_ast.specs.declared.ops.Op.{Op}
use Rattle.ir_ast.specs.declared.ops.Op.TheVariants.{Select, Gep, Load}
use Rattle.ir_ast.specs.Insts.{Instruction}
use Rattle.ir_ast.specs.Funcs.{Function}
use Rattle.ir_ast.specs.Types.{is_pointer}
use Rattle.object_meaning.specs.Lines.{Line}
use Rattle.object_meaning.specs.Frames.{is_member}
use Rattle.pair_facts.specs.declared.bases.Base.{Base}
use Rattle.pair_facts.specs.declared.bases.Base.TheVariants.{Any, Named}
use Rattle.pair_facts.specs.Lines.{lines_at, line_in, line_before, no_line, gives, named, operand_at, same_operand, is_select}
use Rattle.pair_facts.specs.Pairs.{Pairs, is_named, is_base_named, without, are_own, follows, follows_named, selected, given_pairs}
use Rattle.pair_facts.specs.Paths.{pairs_at}
use Rattle.pair_facts.proofs.FreshLaws.{IsSound, int, function, pairs_sound}
use Rattle.pair_facts.proofs.PlaceLaws.{behind_line, after_given}
use Rattle.pair_facts.proofs.GroupLaws.{given_is}
use Rattle.base_facts.specs.declared.facts.Pointer.{Pointer}
use Rattle.base_facts.specs.declared.facts.Wanted.{Wanted}
use Rattle.base_facts.specs.declared.facts.Wanted.TheVariants as bases
use Rattle.base_facts.specs.declared.facts.Fact.{Fact}
use Rattle.base_facts.specs.declared.steps.Step.{Step}
use Rattle.base_facts.specs.declared.steps.Step.TheVariants.{Known, One, Two}
use Rattle.base_facts.specs.Facts.{operand_in, base_in, fact_at, holds, maybe_holds}
use Rattle.base_facts.specs.Settled.{IsDefined}
use Rattle.base_facts.specs.Steps.{step_holds, asked_without, one_of, two_of, is_merge_of, own_step, follow_step, select_step, step_for}
use Rattle.list_laws.proofs.Booleans.{and_false, or_false}

-- ---- the fact of a pair

pub fact_holds : (func : Function) (front : Pairs) (block place : ℕ) (operand : Operand) (base : Base) → IsSound (pairs_at (lines_at func block) front place)
    → pairs_at (lines_at func block) front place operand base ≡ maybe_holds func front (fact_at block place operand base)
fact_holds func front block place (Value value) Any sound = refl
fact_holds func front block place (Value value) (Named (Value other)) sound = refl
fact_holds func front block place (Value value) (Named Null) sound = refl
fact_holds func front block place (Value value) (Named (Int number)) sound = sound.no_literal_base (Value value) (Int number) (int number)
fact_holds func front block place (Value value) (Named (Fun other)) sound = sound.no_literal_base (Value value) (Fun other) (function other)
fact_holds func front block place Null Any sound = refl
fact_holds func front block place Null (Named (Value other)) sound = refl
fact_holds func front block place Null (Named Null) sound = refl
fact_holds func front block place Null (Named (Int number)) sound = sound.no_literal_base Null (Int number) (int number)
fact_holds func front block place Null (Named (Fun other)) sound = sound.no_literal_base Null (Fun other) (function other)
fact_holds func front block place (Int number) base sound = sound.no_literal (Int number) base (int number)
fact_holds func front block place (Fun other) base sound = sound.no_literal (Fun other) base (function other)

without_holds : (func : Function) (front : Pairs) (block at value : ℕ) (operand : Operand) (base : Base) → IsSound (pairs_at (lines_at func block) front at)
    → without value (pairs_at (lines_at func block) front at) operand base ≡ maybe_holds func front (asked_without block at value operand base)
without_holds func front block at value operand base sound = by (is_named value operand) (is_base_named value base)
  where
    by : (b c : Bool) → cond b false (cond c false (pairs_at (lines_at func block) front at operand base))
        ≡ maybe_holds func front (cond (b || c) None (fact_at block at operand base))
    by true c = refl
    by false true = refl
    by false false = fact_holds func front block at operand base sound

one_holds : (func : Function) (front : Pairs) (found : Option Fact) → maybe_holds func front found ≡ step_holds func front (one_of found)
one_holds func front (Some fact) = refl
one_holds func front None = refl

two_holds : (func : Function) (front : Pairs) (first second : Option Fact) → (maybe_holds func front first && maybe_holds func front second) ≡ step_holds func front (two_of first second)
two_holds func front (Some first) (Some second) = refl
two_holds func front (Some first) None = and_false (holds func front first)
two_holds func front None second = refl

-- both pairs before the line
pair_holds : (func : Function) (front : Pairs) (block at value : ℕ) (first second : Operand) (base other : Base) → IsSound (pairs_at (lines_at func block) front at)
    → (without value (pairs_at (lines_at func block) front at) first base && without value (pairs_at (lines_at func block) front at) second other)
    ≡ step_holds func front (two_of (asked_without block at value first base) (asked_without block at value second other))
pair_holds func front block at value first second base other sound =
    ap (λ b. b && without value (pairs_at (lines_at func block) front at) second other) (without_holds func front block at value first base sound)
    ∙ ap (λ b. maybe_holds func front (asked_without block at value first base) && b) (without_holds func front block at value second other sound)
    ∙ two_holds func front (asked_without block at value first base) (asked_without block at value second other)

-- ---- selects

follow_test : (func : Function) (front : Pairs) (g k s p q : Bool) (step : Step) → (p && q) ≡ step_holds func front step
    → (g && (k && (s && (p && q)))) ≡ step_holds func front (cond (g && (k && s)) step (Known false))
follow_test func front true true true p q step is = is
follow_test func front true true false p q step is = refl
follow_test func front true false s p q step is = refl
follow_test func front false k s p q step is = refl

follow_holds : (func : Function) (front : Pairs) (block at value : ℕ) (last : Option Line) (inst : Instruction) (base : ℕ) → IsSound (pairs_at (lines_at func block) front at)
    → follows_named (without value (pairs_at (lines_at func block) front at)) last inst.operands (named base) ≡ step_holds func front (follow_step block at value last inst base)
follow_holds func front block at value None inst base sound = refl
follow_holds func front block at value (Some line) inst base sound =
    follow_test func front (gives line base) (is_select line.inst.op && is_pointer line.inst.ty) (same_operand (operand_at line.inst.operands 0) (operand_at inst.operands 0))
    (without value (pairs_at (lines_at func block) front at) (operand_at inst.operands 1) (Named (operand_at line.inst.operands 1)))
    (without value (pairs_at (lines_at func block) front at) (operand_at inst.operands 2) (Named (operand_at line.inst.operands 2)))
    (two_of (asked_without block at value (operand_at inst.operands 1) (Named (operand_at line.inst.operands 1)))
    (asked_without block at value (operand_at inst.operands 2) (Named (operand_at line.inst.operands 2))))
    (pair_holds func front block at value (operand_at inst.operands 1) (operand_at inst.operands 2) (Named (operand_at line.inst.operands 1)) (Named (operand_at line.inst.operands 2)) sound)

-- the line before doesn't give the value
abbrev NotLast : Option Line → ℕ → Type 0
NotLast last value = (line : Line) → last ≡ Some line → gives line value ≡ false

no_follow : (pairs : Pairs) (last : Option Line) (operands : List Operand) (value : ℕ) → NotLast last value → follows_named pairs last operands (named value) ≡ false
no_follow pairs None operands value none = refl
no_follow pairs (Some line) operands value none = ap (λ b. b && follows pairs operands line) (none line refl)

select_holds : (func : Function) (front : Pairs) (block at value : ℕ) (last : Option Line) (inst : Instruction) (base : Wanted) → IsSound (pairs_at (lines_at func block) front at)
    → NotLast last value
    → selected (without value (pairs_at (lines_at func block) front at)) last inst.operands value (base_in base) ≡ step_holds func front (select_step block at value last inst base)
select_holds func front block at value last inst bases.Any sound none =
    pair_holds func front block at value (operand_at inst.operands 1) (operand_at inst.operands 2) Any Any sound
select_holds func front block at value last inst bases.Null sound none = refl
select_holds func front block at value last inst (bases.Value base) sound none = elim (cases_Bool (value == base)) [
  | inl same ↦
      (let own = are_own (without value (pairs_at (lines_at func block) front at)) inst.operands in
      let is : value ≡ base = eqb-true value base same in
      ap (λ b. (b && own) || follows_named (without value (pairs_at (lines_at func block) front at)) last inst.operands (named base)) same
      ∙ ap (λ b. own || b) (subst (λ (n : ℕ). follows_named (without value (pairs_at (lines_at func block) front at)) last inst.operands (named n) ≡ false) is
      (no_follow (without value (pairs_at (lines_at func block) front at)) last inst.operands value none))
      ∙ or_false own
      ∙ pair_holds func front block at value (operand_at inst.operands 1) (operand_at inst.operands 2) (Named (operand_at inst.operands 1)) (Named (operand_at inst.operands 2)) sound
      ∙ ap (λ b. step_holds func front (cond b (own_step block at value inst) (follow_step block at value last inst base))) (sym same))
  | inr other ↦
      ap (λ b. (b && are_own (without value (pairs_at (lines_at func block) front at)) inst.operands)
      || follows_named (without value (pairs_at (lines_at func block) front at)) last inst.operands (named base)) other
      ∙ follow_holds func front block at value last inst base sound
      ∙ ap (λ b. step_holds func front (cond b (own_step block at value inst) (follow_step block at value last inst base))) (sym other)
]

chosen : (func : Function) (front : Pairs) (test given : Bool) (step : Step) → given ≡ step_holds func front step → (test && given) ≡ step_holds func front (cond test step (Known false))
chosen func front true given step is = is
chosen func front false given step is = refl

-- ---- all definitions

step_given : (func : Function) (front : Pairs) (block at value : ℕ) (last : Option Line) (inst : Instruction) (op : Op) (base : Wanted)
    → IsSound (pairs_at (lines_at func block) front at) → NotLast last value
    → given_pairs (without value (pairs_at (lines_at func block) front at)) last inst op value (base_in base) ≡ step_holds func front (step_for block at value last inst op base)
step_given func front block at value last inst Load base sound none = refl
step_given func front block at value last inst (Gep elem index_width place) base sound none =
    without_holds func front block at value (operand_at inst.operands 0) (base_in base) sound
    ∙ one_holds func front (asked_without block at value (operand_at inst.operands 0) (base_in base))
step_given func front block at value last inst Select base sound none =
    chosen func front (is_pointer inst.ty) (selected (without value (pairs_at (lines_at func block) front at)) last inst.operands value (base_in base)) (select_step block at value last inst base)
    (select_holds func front block at value last inst base sound none)
step_given func front block at value last inst op base sound none = refl

not_last : (lines : List Line) (at value : ℕ) → ((other : ℕ) → (line_in lines other).to ≡ Some value → other ≡ at) → NotLast (line_before lines at) value
not_last lines zero value only line is = absurd (let never : None ≡ Some line = is in cc)
not_last lines (suc at) value only line is = elim (cases_Bool (gives line value)) [
  | inl found ↦
      (let here : line_in lines at ≡ line = get_or_from_slice_get lines at line no_line is in
      let same = only at (ap (λ (l : Line). l.to) here ∙ given_is line value found) in
      absurd (omega (arith, same)))
  | inr none ↦ none
]

-- a fact behind the definition of its pointer is what the step asks
pub definition_holds : (func : Function) (fact : Fact) (defined : IsDefined func fact) (front : Pairs) → IsSound front
    → let lines = lines_at func fact.block in
    holds func front fact ≡ step_holds func front (step_for fact.block defined.at defined.value (line_before lines defined.at) (line_in lines defined.at).inst (line_in lines defined.at).inst.op fact.base)
definition_holds func fact defined front sound =
    let lines = lines_at func fact.block in
    let at = defined.at in
    let pairs = pairs_at lines front at in
    ap (λ (place : ℕ). pairs_at lines front place (operand_in fact.pointer) (base_in fact.base)) defined.behind
    ∙ ap (λ (p : Pointer). pairs_at lines front (suc at) (operand_in p) (base_in fact.base)) defined.pointer
    ∙ behind_line lines at pairs (named defined.value) (base_in fact.base) (defined.plain, defined.past)
    ∙ after_given pairs (line_before lines at) (line_in lines at) (base_in fact.base) defined.value defined.gives
    ∙ step_given func front fact.block at defined.value (line_before lines at) (line_in lines at).inst (line_in lines at).inst.op fact.base
    (pairs_sound lines front at sound) (not_last lines at defined.value defined.only)

-- ---- the facts of a step stand at the line

abbrev pub AllFacts : (Fact → Type 0) → Step → Type 0
AllFacts P (Known answer) = Unit {0}
AllFacts P (One fact) = P fact
AllFacts P (Two first second) = P first × P second

pub record IsAt (block at : ℕ) (fact : Fact) : Type 0 where
  pub block_is : fact.block ≡ block
  pub place_is : fact.place ≡ at

abbrev maybe_at : ℕ → ℕ → Option Fact → Type 0
maybe_at block at None = Unit {0}
maybe_at block at (Some fact) = IsAt block at fact

fact_is_at : (block at : ℕ) (operand : Operand) (base : Base) → maybe_at block at (fact_at block at operand base)
fact_is_at block at (Value value) Any = record { block_is = refl; place_is = refl }
fact_is_at block at (Value value) (Named (Value other)) = record { block_is = refl; place_is = refl }
fact_is_at block at (Value value) (Named Null) = record { block_is = refl; place_is = refl }
fact_is_at block at (Value value) (Named (Int number)) = tt
fact_is_at block at (Value value) (Named (Fun other)) = tt
fact_is_at block at Null Any = record { block_is = refl; place_is = refl }
fact_is_at block at Null (Named (Value other)) = record { block_is = refl; place_is = refl }
fact_is_at block at Null (Named Null) = record { block_is = refl; place_is = refl }
fact_is_at block at Null (Named (Int number)) = tt
fact_is_at block at Null (Named (Fun other)) = tt
fact_is_at block at (Int number) base = tt
fact_is_at block at (Fun other) base = tt

pub fact_stands_at : (block at : ℕ) (operand : Operand) (base : Base) (fact : Fact) → fact_at block at operand base ≡ Some fact → IsAt block at fact
fact_stands_at block at operand base fact is = subst (maybe_at block at) is (fact_is_at block at operand base)

without_at : (block at value : ℕ) (operand : Operand) (base : Base) → maybe_at block at (asked_without block at value operand base)
without_at block at value operand base = by (is_named value operand || is_base_named value base)
  where
    by : (b : Bool) → maybe_at block at (cond b None (fact_at block at operand base))
    by true = tt
    by false = fact_is_at block at operand base

one_at : (block at : ℕ) (found : Option Fact) → maybe_at block at found → AllFacts (IsAt block at) (one_of found)
one_at block at None is = tt
one_at block at (Some fact) is = is

two_at : (block at : ℕ) (first second : Option Fact) → maybe_at block at first → maybe_at block at second → AllFacts (IsAt block at) (two_of first second)
two_at block at (Some first) (Some second) is other = (is, other)
two_at block at (Some first) None is other = tt
two_at block at None second is other = tt

cond_at : (block at : ℕ) (test : Bool) (step other : Step) → AllFacts (IsAt block at) step → AllFacts (IsAt block at) other → AllFacts (IsAt block at) (cond test step other)
cond_at block at true step other is also = is
cond_at block at false step other is also = also

follow_at : (block at value : ℕ) (last : Option Line) (inst : Instruction) (base : ℕ) → AllFacts (IsAt block at) (follow_step block at value last inst base)
follow_at block at value None inst base = tt
follow_at block at value (Some line) inst base =
    cond_at block at (gives line base && is_merge_of line.inst inst) _ (Known false)
    (two_at block at _ _ (without_at block at value (operand_at inst.operands 1) (Named (operand_at line.inst.operands 1))) (without_at block at value (operand_at inst.operands 2) (Named (operand_at line.inst.operands 2)))) tt

select_at : (block at value : ℕ) (last : Option Line) (inst : Instruction) (base : Wanted) → AllFacts (IsAt block at) (select_step block at value last inst base)
select_at block at value last inst bases.Any =
    two_at block at _ _ (without_at block at value (operand_at inst.operands 1) Any) (without_at block at value (operand_at inst.operands 2) Any)
select_at block at value last inst bases.Null = tt
select_at block at value last inst (bases.Value base) =
    cond_at block at (value == base) (own_step block at value inst) (follow_step block at value last inst base)
    (two_at block at _ _ (without_at block at value (operand_at inst.operands 1) (Named (operand_at inst.operands 1))) (without_at block at value (operand_at inst.operands 2) (Named (operand_at inst.operands 2))))
    (follow_at block at value last inst base)

pub step_at : (block at value : ℕ) (last : Option Line) (inst : Instruction) (op : Op) (base : Wanted) → AllFacts (IsAt block at) (step_for block at value last inst op base)
step_at block at value last inst Load base = tt
step_at block at value last inst (Gep elem index_width place) base = one_at block at _ (without_at block at value (operand_at inst.operands 0) (base_in base))
step_at block at value last inst Select base =
    cond_at block at (is_pointer inst.ty) (select_step block at value last inst base) (Known false) (select_at block at value last inst base) tt
step_at block at value last inst op base = tt

-- a line that asks is no line of a group
abbrev pub is_asking : Step → Bool
is_asking (Known answer) = false
is_asking (One fact) = true
is_asking (Two first second) = true

pub step_outside : (block at value : ℕ) (last : Option Line) (inst : Instruction) (op : Op) (base : Wanted) → is_asking (step_for block at value last inst op base) ≡ true → is_member op ≡ false
step_outside block at value last inst Load base asks = refl
step_outside block at value last inst (Gep elem index_width place) base asks = refl
step_outside block at value last inst Select base asks = refl
step_outside block at value last inst op base asks = absurd (false≢true asks)
