-- Facts ask for what they need along edges and at the lines of definitions.
use Rattle.std.proofs.Common.{◌≡◌, ◌∙◌, inl, inr, ℕ, zero, suc, ◌+◌, ◌<◌, ◌≤◌, Bool, true, false, List, [], ◌∷◌, Option, Some, None, ap, sym, subst, slice_get, length, arith}
use Rattle.std.specs.Prelude.{◌&&◌}
use Rattle.std.specs.List.{Contains}
use Rattle.std.proofs.lemmas.Bool.{cases_lt, and_from}
use Rattle.std.proofs.lemmas.List.{get_or_past, length-map}
use Rattle.std.proofs.lemmas.Option.{none-some, same_Some, slice_get_within}
use Rattle.list_laws.proofs.Places.{get_some}
use Rattle.ir_ast.specs.Edges.{targets}
use Rattle.ir_ast.specs.Funcs.{Function}
use Rattle.ir_cfg.specs.Graphs.{graph_of, Edge}
use Rattle.ir_cfg.specs.Paths.{Path, Reached}
use Rattle.ir_cfg.specs.Paths.{at_entry as at_start, along as further}
use Rattle.ir_cfg.proofs.PathLemmas.{edge_within}
use Rattle.object_meaning.specs.Lines.{Line}
use Rattle.object_meaning.specs.Frames.{is_member}
use Rattle.object_meaning.specs.Jumps.{phi_count}
use Rattle.pair_facts.specs.Lines.{lines_at, line_in, line_before, no_line, phis_in}
use Rattle.pair_facts.specs.Pairs.{Pairs, at_entry, along, base_along, on_edge}
use Rattle.pair_facts.specs.Paths.{pairs_at, pairs_at_end, Arrives, start, went}
use Rattle.pair_facts.proofs.FreshLaws.{IsSound, pairs_sound, arrives_sound}
use Rattle.pair_facts.proofs.PlaceLaws.{pairs_from_front}
use Rattle.pair_facts.proofs.PathLaws.{arrives_reached}
use Rattle.base_facts.specs.declared.facts.Pointer.TheVariants as pointers
use Rattle.base_facts.specs.declared.facts.Fact.{Fact}
use Rattle.base_facts.specs.declared.search.Asked.{Asked}
use Rattle.base_facts.specs.declared.steps.Step.{Step}
use Rattle.base_facts.specs.declared.steps.Step.TheVariants.{Known, One, Two}
use Rattle.base_facts.specs.Facts.{operand_in, base_in, fact_at, holds, maybe_holds}
use Rattle.base_facts.specs.Settled.{IsDefined}
use Rattle.base_facts.specs.Steps.{step_holds, step_for}
use Rattle.base_facts.specs.Asked.{IsReached, MissesFact, IsFact, Grows, IsAsked, MissedBy, HasFailed, Answered, HasAsked}
use Rattle.base_facts.specs.Closing.{HoldingBelow, HoldsAlong, Follows, from_front, from_definition, from_source, HasClosed, AskedAlong, AskedBefore, ClosedBelow, AllClosed, CanAsk, CanStep, Stepped, HasStepped}
use Rattle.base_facts.proofs.SettleLemmas.{start_front}
use Rattle.base_facts.proofs.StepLemmas.{fact_holds, definition_holds, IsAt, AllFacts, fact_stands_at, step_at, step_outside, is_asking}
use Rattle.base_facts.proofs.AskedLemmas.{grows_not, grows_more}
use Rattle.list_laws.proofs.Booleans.{and_false}

-- ---- reached blocks

path_arrives : (func : Function) (blocks : List ℕ) (block : ℕ) → Path (graph_of func) blocks block → IsReached func block
path_arrives func _ _ at_start = (at_entry func, start)
path_arrives func _ _ (further blocks from to path edge) =
    let before = path_arrives func blocks from path in
    (on_edge from (phis_in (lines_at func to)) (pairs_at_end (lines_at func from) before.0), went from to before.0 before.1 edge)

pub reached_arrives : (func : Function) (block : ℕ) → Reached (graph_of func) block → IsReached func block
reached_arrives func block reached = path_arrives func reached.0 block reached.1

pub length-graph_of : (func : Function) → length (graph_of func) ≡ length func.blocks
length-graph_of func = length-map func.blocks targets

-- ---- behind the phis of a block

pub front_holds : (func : Function) (fact : Fact) (front : Pairs) → fact.place ≡ phi_count (lines_at func fact.block) → holds func front fact ≡ front (operand_in fact.pointer) (base_in fact.base)
front_holds func fact front is =
    let lines = lines_at func fact.block in
    ap (λ (place : ℕ). pairs_at lines front place (operand_in fact.pointer) (base_in fact.base)) is
    ∙ pairs_from_front lines front (phi_count lines) (operand_in fact.pointer) (base_in fact.base) (start_front lines (phi_count lines) (omega arith)) (λ place past down. absurd (omega arith))

abbrev pub pair_along : Function → Fact → ℕ → Pairs → Bool
pair_along func fact from front = on_edge from (phis_in (lines_at func fact.block)) (pairs_at_end (lines_at func from) front) (operand_in fact.pointer) (base_in fact.base)

pub missed_along : (func : Function) (fact : Fact) (from : ℕ) (front : Pairs) → fact.place ≡ phi_count (lines_at func fact.block) → Edge (graph_of func) from fact.block
    → Arrives func from front → pair_along func fact from front ≡ false → MissesFact func fact
missed_along func fact from front is edge arrives none = record {
  front = on_edge from (phis_in (lines_at func fact.block)) (pairs_at_end (lines_at func from) front);
  arrives = went from fact.block front arrives edge;
  fails = front_holds func fact (on_edge from (phis_in (lines_at func fact.block)) (pairs_at_end (lines_at func from) front)) is ∙ none;
}

pub along_fact : (func : Function) (fact : Fact) (from end : ℕ) (found : Option Fact) (front : Pairs) → end ≡ length (lines_at func from) → IsSound front
    → found ≡ fact_at from end (along from (phis_in (lines_at func fact.block)) (operand_in fact.pointer)) (base_along from (phis_in (lines_at func fact.block)) (base_in fact.base))
    → pair_along func fact from front ≡ maybe_holds func front found
along_fact func fact from end found front end_is sound found_is =
    let phis = phis_in (lines_at func fact.block) in
    ap (λ (place : ℕ). pairs_at (lines_at func from) front place (along from phis (operand_in fact.pointer)) (base_along from phis (base_in fact.base))) (sym end_is)
    ∙ fact_holds func front from end (along from phis (operand_in fact.pointer)) (base_along from phis (base_in fact.base)) (pairs_sound (lines_at func from) front end sound)
    ∙ ap (maybe_holds func front) (sym found_is)

-- ---- the one fact with a number

pub one_fact : (asked : Asked) (number : ℕ) (one other : Fact) → IsFact asked number one → IsFact asked number other → one ≡ other
one_fact asked number one other is also = same_Some one other (sym is ∙ also)

pub missed_grows : (func : Function) (old new : Asked) (asker : ℕ) (fact : Fact) → Grows old new → asker < length old.facts.keys → MissedBy func old asker fact → MissedBy func new asker fact
missed_grows func old new asker fact grows inside missed own is misses =
    let found = get_some old.facts.keys asker inside in
    let same = one_fact new asker found.0 own (grows.facts asker found.0 found.1) is in
    missed own (subst (IsFact old asker) same found.1) misses

pub keys_grow : (old new : Asked) (number : ℕ) → Grows old new → number < length old.facts.keys → number < length new.facts.keys
keys_grow old new number grows inside =
    let found = get_some old.facts.keys number inside in
    slice_get_within new.facts.keys number found.0 (grows.facts number found.0 found.1)

pub answered_grows : (func : Function) (old new : Asked) (asker : ℕ) (fact : Fact) → Grows old new → Answered func old asker fact → Answered func new asker fact
answered_grows func old new asker fact grows answered none front sound holding =
    answered (λ failed. none (grows.failing asker failed)) front sound
    (λ number one is asks block up. holding number one (grows.facts number one is) (grows.asks number asker asks) block up)

-- ---- along an edge

-- a fact at the end of a block before
pub can_ask_along : (func : Function) (asked : Asked) (number : ℕ) (fact other : Fact) (from end : ℕ) → fact.place ≡ phi_count (lines_at func fact.block)
    → Edge (graph_of func) from fact.block → IsReached func from → IsFact asked number fact → end ≡ length (lines_at func from)
    → Some other ≡ fact_at from end (along from (phis_in (lines_at func fact.block)) (operand_in fact.pointer)) (base_along from (phis_in (lines_at func fact.block)) (base_in fact.base))
    → CanAsk func asked number other
can_ask_along func asked number fact other from end is edge reached stands end_is found =
    let phis = phis_in (lines_at func fact.block) in
    let at = fact_stands_at from end (along from phis (operand_in fact.pointer)) (base_along from phis (base_in fact.base)) other (sym found) in
    let place_is : other.place ≡ length (lines_at func from) = at.place_is ∙ end_is in
    let lines_are : lines_at func other.block ≡ lines_at func from = ap (lines_at func) at.block_is in
    record {
      place = record {
        block_inside = omega (arith, at.block_is, edge_within (graph_of func) from fact.block edge, length-graph_of func);
        place_inside = omega (arith, place_is, ap (λ (l : List Line). length l) lines_are);
      };
      outside = ap (λ (l : Line). is_member l.inst.op)
          (ap (λ (l : List Line). line_in l other.place) lines_are ∙ get_or_past (lines_at func from) other.place no_line (omega (arith, place_is)));
      reached = subst (IsReached func) (sym at.block_is) reached;
      misses = λ own own_is missed.
          let arrives : Arrives func from missed.front = subst (λ (b : ℕ). Arrives func b missed.front) at.block_is missed.arrives in
          subst (MissesFact func) (one_fact asked number fact own stands own_is)
          (missed_along func fact from missed.front is edge arrives
          (along_fact func fact from end (Some other) missed.front end_is (arrives_sound func from missed.front arrives) found ∙ missed.fails));
    }

pub asked_along : (func : Function) (number : ℕ) (fact other : Fact) (from end : ℕ) (old new : Asked) → end ≡ length (lines_at func from)
    → Some other ≡ fact_at from end (along from (phis_in (lines_at func fact.block)) (operand_in fact.pointer)) (base_along from (phis_in (lines_at func fact.block)) (base_in fact.base))
    → HasAsked func number other old new → AskedAlong func number fact from old new
asked_along func number fact other from end old new end_is found has = record {
  asked = has.asked;
  grows = has.grows;
  along = λ none front arrives holding.
      let phis = phis_in (lines_at func fact.block) in
      let at = fact_stands_at from end (along from phis (operand_in fact.pointer)) (base_along from phis (base_in fact.base)) other (sym found) in
      let sound = arrives_sound func from front arrives in
      along_fact func fact from end (Some other) front end_is sound found
      ∙ has.answered none front sound (λ n one is asks block up. holding n one is asks (block ∙ at.block_is));
}

-- a pair of a literal
pub misses_along : (func : Function) (fact : Fact) (from end : ℕ) → fact.place ≡ phi_count (lines_at func fact.block) → Edge (graph_of func) from fact.block
    → IsReached func from → end ≡ length (lines_at func from)
    → None ≡ fact_at from end (along from (phis_in (lines_at func fact.block)) (operand_in fact.pointer)) (base_along from (phis_in (lines_at func fact.block)) (base_in fact.base))
    → MissesFact func fact
misses_along func fact from end is edge reached end_is none =
    missed_along func fact from reached.0 is edge reached.1
    (along_fact func fact from end None reached.0 end_is (arrives_sound func from reached.0 reached.1) none)

pub failed_along : (func : Function) (number : ℕ) (fact : Fact) (from : ℕ) (old new : Asked) → HasFailed func number old new → AskedAlong func number fact from old new
failed_along func number fact from old new failed = record {
  asked = failed.asked;
  grows = failed.grows;
  along = λ none. absurd (none failed.failed);
}

pub unreached_along : (func : Function) (number : ℕ) (fact : Fact) (from : ℕ) (asked : Asked) → IsAsked func asked → (Reached (graph_of func) from → ⊥) → AskedAlong func number fact from asked asked
unreached_along func number fact from asked are never = record {
  asked = are;
  grows = grows_not asked;
  along = λ none front arrives holding. absurd (never (arrives_reached func from front arrives));
}

-- ---- all edges

pub before_none : (func : Function) (number : ℕ) (fact : Fact) (preds : List ℕ) (asked : Asked) → IsAsked func asked → AskedBefore func number fact preds 0 asked asked
before_none func number fact preds asked are = record {
  asked = are;
  grows = grows_not asked;
  along = λ place from below. absurd (omega arith);
}

pub before_more : (func : Function) (number : ℕ) (fact : Fact) (preds : List ℕ) (count from : ℕ) (old mid new : Asked) → slice_get preds count ≡ Some from
    → AskedBefore func number fact preds count old mid → AskedAlong func number fact from mid new → AskedBefore func number fact preds (count + 1) old new
before_more func number fact preds count from old mid new at before now = record {
  asked = now.asked;
  grows = grows_more old mid new before.grows now.grows;
  along = λ place other below stands none. elim (cases_lt place count) [
    | inl earlier ↦ (λ front arrives holding.
        before.along place other earlier stands (λ failed. none (now.grows.failing number failed)) front arrives
        (λ n one is asks block. holding n one (now.grows.facts n one is) (now.grows.asks n number asks) block))
    | inr last ↦ (let same : place ≡ count = omega arith in
        let own : other ≡ from = same_Some other from (sym stands ∙ ap (λ (k : ℕ). slice_get preds k) same ∙ at) in
        subst (HoldsAlong func new number fact) (sym own) (now.along none))
  ];
}

pub front_closed : (func : Function) (number : ℕ) (fact : Fact) (preds : List ℕ) (old new : Asked) → fact.place ≡ phi_count (lines_at func fact.block)
    → (fact.block ≡ 0 → at_entry func (operand_in fact.pointer) (base_in fact.base) ≡ true)
    → ((from : ℕ) → Edge (graph_of func) from fact.block → (k : ℕ) × (slice_get preds k ≡ Some from))
    → AskedBefore func number fact preds (length preds) old new → HasClosed func number fact old new
front_closed func number fact preds old new is entry edges before = record {
  asked = before.asked;
  grows = before.grows;
  closed = λ none. from_front is entry
      (λ from edge. let pred = edges from edge in before.along pred.0 from (slice_get_within preds pred.0 from pred.1) pred.1 none);
}

pub misses_entry : (func : Function) (fact : Fact) → fact.place ≡ phi_count (lines_at func fact.block) → fact.block ≡ 0
    → at_entry func (operand_in fact.pointer) (base_in fact.base) ≡ false → MissesFact func fact
misses_entry func fact is entry none = record {
  front = at_entry func;
  arrives = subst (λ (b : ℕ). Arrives func b (at_entry func)) (sym entry) start;
  fails = front_holds func fact (at_entry func) is ∙ none;
}

-- ---- at a definition

same_value : (value other : ℕ) → pointers.Value value ≡ pointers.Value other → value ≡ other
same_value value other same = cc

-- the fact behind the definition is what its line asks
pub definition_asks : (func : Function) (fact : Fact) (value at : ℕ) (step : Step) (front : Pairs) → IsDefined func fact → fact.pointer ≡ pointers.Value value → fact.place ≡ suc at
    → step ≡ step_for fact.block at value (line_before (lines_at func fact.block) at) (line_in (lines_at func fact.block) at).inst (line_in (lines_at func fact.block) at).inst.op fact.base
    → IsSound front → holds func front fact ≡ step_holds func front step
definition_asks func fact value at step front defined pointer place is sound =
    let lines = lines_at func fact.block in
    let value_is : defined.value ≡ value = same_value defined.value value (sym defined.pointer ∙ pointer) in
    let at_is : defined.at ≡ at = omega (arith, defined.behind, place) in
    definition_holds func fact defined front sound
    ∙ ap (λ (v : ℕ). step_holds func front (step_for fact.block defined.at v (line_before lines defined.at) (line_in lines defined.at).inst (line_in lines defined.at).inst.op fact.base)) value_is
    ∙ ap (λ (k : ℕ). step_holds func front (step_for fact.block k value (line_before lines k) (line_in lines k).inst (line_in lines k).inst.op fact.base)) at_is
    ∙ ap (step_holds func front) (sym is)

pub can_step : (func : Function) (asked : Asked) (number : ℕ) (fact : Fact) (value at : ℕ) (step : Step) → IsAsked func asked → IsFact asked number fact → fact.block < length func.blocks
    → IsDefined func fact → fact.pointer ≡ pointers.Value value → fact.place ≡ suc at
    → step ≡ step_for fact.block at value (line_before (lines_at func fact.block) at) (line_in (lines_at func fact.block) at).inst (line_in (lines_at func fact.block) at).inst.op fact.base
    → CanStep func asked number step
can_step func asked number fact value at step are stands inside defined pointer place is = record {
  inside = slice_get_within asked.facts.keys number fact stands;
  fails = λ known own own_is. subst (MissesFact func) (one_fact asked number fact own stands own_is) (record {
    front = reached.0;
    arrives = reached.1;
    fails = asks reached.0 (arrives_sound func fact.block reached.0 reached.1) ∙ ap (step_holds func reached.0) known;
  });
  one = λ first known. can first (subst (AllFacts (IsAt fact.block at)) known facts_at) (ap is_asking known)
      (λ front sound none. asks front sound ∙ ap (step_holds func front) known ∙ none);
  first = λ first second known. can first (subst (AllFacts (IsAt fact.block at)) known facts_at).0 (ap is_asking known)
      (λ front sound none. asks front sound ∙ ap (step_holds func front) known ∙ ap (λ b. b && holds func front second) none);
  second = λ first second known. can second (subst (AllFacts (IsAt fact.block at)) known facts_at).1 (ap is_asking known)
      (λ front sound none. asks front sound ∙ ap (step_holds func front) known ∙ ap (λ b. holds func front first && b) none ∙ and_false (holds func front first));
}
  where
    lines : List Line
    lines = lines_at func fact.block

    reached : IsReached func fact.block
    reached = are.reached number fact stands

    asks : (front : Pairs) → IsSound front → holds func front fact ≡ step_holds func front step
    asks front sound = definition_asks func fact value at step front defined pointer place is sound

    facts_at : AllFacts (IsAt fact.block at) step
    facts_at = subst (AllFacts (IsAt fact.block at)) (sym is) (step_at fact.block at value (line_before lines at) (line_in lines at).inst (line_in lines at).inst.op fact.base)

    can : (first : Fact) → IsAt fact.block at first → is_asking step ≡ true → ((front : Pairs) → IsSound front → holds func front first ≡ false → holds func front fact ≡ false) → CanAsk func asked number first
    can first first_at asking fails =
        let lines_are : lines_at func first.block ≡ lines = ap (lines_at func) first_at.block_is in
        record {
          place = record {
            block_inside = omega (arith, first_at.block_is, inside);
            place_inside = omega (arith, first_at.place_is, defined.inside, defined.behind, place, ap (λ (l : List Line). length l) lines_are);
          };
          outside = ap (λ (l : List Line). is_member (line_in l first.place).inst.op) lines_are ∙ ap (λ (k : ℕ). is_member (line_in lines k).inst.op) first_at.place_is
              ∙ step_outside fact.block at value (line_before lines at) (line_in lines at).inst (line_in lines at).inst.op fact.base (sym (ap is_asking is) ∙ asking);
          reached = subst (IsReached func) (sym first_at.block_is) reached;
          misses = λ own own_is missed.
              let arrives : Arrives func fact.block missed.front = subst (λ (b : ℕ). Arrives func b missed.front) first_at.block_is missed.arrives in
              subst (MissesFact func) (one_fact asked number fact own stands own_is)
              (record { front = missed.front; arrives = arrives; fails = fails missed.front (arrives_sound func fact.block missed.front arrives) missed.fails });
        }

-- the facts for which the definition asks hold
first_holds : (func : Function) (asked : Asked) (number : ℕ) (fact first : Fact) (at : ℕ) (front : Pairs) → IsDefined func fact → fact.place ≡ suc at → IsAt fact.block at first
    → Answered func asked number first → ¬ Contains asked.failing.items number → IsSound front → HoldingBelow func asked number fact.block fact.place front → holds func front first ≡ true
first_holds func asked number fact first at front defined place first_at answered none sound holding =
    answered none front sound
    (λ n one is asks block up. holding n one is asks (block ∙ first_at.block_is)
    (elim up [
      | inl low ↦ omega (arith, low, first_at.place_is, place)
      | inr phis ↦ omega (arith, phis, ap (λ (b : ℕ). phi_count (lines_at func b)) (block ∙ first_at.block_is), defined.past, defined.behind)
    ]))

stepped_holds : (func : Function) (asked : Asked) (number : ℕ) (fact : Fact) (at : ℕ) (step : Step) (front : Pairs) → IsDefined func fact → fact.place ≡ suc at
    → AllFacts (IsAt fact.block at) step → Stepped func asked number step → ¬ Contains asked.failing.items number → IsSound front
    → HoldingBelow func asked number fact.block fact.place front → step_holds func front step ≡ true
stepped_holds func asked number fact at (Known answer) front defined place facts_at stepped none sound holding = stepped none
stepped_holds func asked number fact at (One first) front defined place facts_at stepped none sound holding =
    first_holds func asked number fact first at front defined place facts_at stepped none sound holding
stepped_holds func asked number fact at (Two first second) front defined place facts_at stepped none sound holding =
    and_from (holds func front first) (holds func front second)
    (first_holds func asked number fact first at front defined place facts_at.0 stepped.0 none sound holding)
    (first_holds func asked number fact second at front defined place facts_at.1 stepped.1 none sound holding)

pub definition_closed : (func : Function) (number : ℕ) (fact : Fact) (value at : ℕ) (step : Step) (old new : Asked) → IsDefined func fact → fact.pointer ≡ pointers.Value value → fact.place ≡ suc at
    → step ≡ step_for fact.block at value (line_before (lines_at func fact.block) at) (line_in (lines_at func fact.block) at).inst (line_in (lines_at func fact.block) at).inst.op fact.base
    → HasStepped func number step old new → HasClosed func number fact old new
definition_closed func number fact value at step old new defined pointer place is has = record {
  asked = has.asked;
  grows = has.grows;
  closed = λ none. from_definition (λ front sound holding.
      let lines = lines_at func fact.block in
      definition_asks func fact value at step front defined pointer place is sound
      ∙ stepped_holds func new number fact at step front defined place
      (subst (AllFacts (IsAt fact.block at)) (sym is) (step_at fact.block at value (line_before lines at) (line_in lines at).inst (line_in lines at).inst.op fact.base))
      has.stepped none sound holding);
}

pub null_closed : (func : Function) (number : ℕ) (fact : Fact) (asked : Asked) → IsDefined func fact → fact.pointer ≡ pointers.Null → HasClosed func number fact asked asked
null_closed func number fact asked defined null = absurd (never defined.value (sym null ∙ defined.pointer))
  where
    never : (value : ℕ) → pointers.Null ≡ pointers.Value value → ⊥
    never value same = cc

-- ---- all facts

follows_grows : (func : Function) (old new : Asked) (number : ℕ) (fact : Fact) → Grows old new → Follows func old number fact → Follows func new number fact
follows_grows func old new number fact grows (from_front place entry edges) = from_front place entry
    (λ from edge front arrives holding. edges from edge front arrives (λ n one is asks block. holding n one (grows.facts n one is) (grows.asks n number asks) block))
follows_grows func old new number fact grows (from_definition follows) = from_definition
    (λ front sound holding. follows front sound (λ n one is asks block low. holding n one (grows.facts n one is) (grows.asks n number asks) block low))
follows_grows func old new number fact grows (from_source source place is holds) = from_source source place is
    (λ front arrives holding. holds front arrives (λ n one there asks block. holding n one (grows.facts n one there) (grows.asks n number asks) block))

pub closed_more : (func : Function) (number : ℕ) (fact : Fact) (old mid new : Asked) → IsFact mid number fact → ClosedBelow func number old mid → HasClosed func number fact mid new
    → ClosedBelow func (number + 1) old new
closed_more func number fact old mid new stands below has = record {
  asked = has.asked;
  grows = grows_more old mid new below.grows has.grows;
  closed = λ n one low is none. elim (cases_lt n number) [
    | inl earlier ↦
        (let inside : n < length mid.facts.keys = omega (arith, earlier, slice_get_within mid.facts.keys number fact stands) in
        let found = get_some mid.facts.keys n inside in
        let same = one_fact new n found.0 one (has.grows.facts n found.0 found.1) is in
        follows_grows func mid new n one has.grows
        (below.closed n one earlier (subst (IsFact mid n) same found.1) (λ failed. none (has.grows.failing n failed))))
    | inr last ↦
        (let own : n ≡ number = omega arith in
        let same = one_fact new number fact one (has.grows.facts number fact stands) (subst (λ (k : ℕ). IsFact new k one) own is) in
        subst (λ (k : ℕ). Follows func new k one) (sym own) (subst (Follows func new number) same (has.closed (λ failed. none (subst (λ (k : ℕ). Contains new.failing.items k) (sym own) failed)))))
  ];
}

get_none_past : {A : Type 0} (xs : List A) (k : ℕ) → slice_get xs k ≡ None → length xs ≤ k
get_none_past [] k none = omega arith
get_none_past (x ∷ xs) zero none = absurd (none-some x (sym none))
get_none_past (x ∷ xs) (suc k) none = omega (arith, get_none_past xs k none)

pub all_closed : (func : Function) (number : ℕ) (old new : Asked) → slice_get new.facts.keys number ≡ None → ClosedBelow func number old new → AllClosed func old new
all_closed func number old new none below = record {
  asked = below.asked;
  grows = below.grows;
  closed = λ n one is. below.closed n one (omega (arith, get_none_past new.facts.keys number none, slice_get_within new.facts.keys n one is)) is;
}

-- both facts were asked
pub stepped_two : (func : Function) (number : ℕ) (step : Step) (first second : Fact) (old mid new : Asked) → step ≡ Two first second → HasAsked func number first old mid → HasAsked func number second mid new
    → HasStepped func number step old new
stepped_two func number step first second old mid new is one two = record {
  asked = two.asked;
  grows = grows_more old mid new one.grows two.grows;
  stepped = subst (Stepped func new number) (sym is) (answered_grows func mid new number first two.grows one.answered, two.answered);
}
