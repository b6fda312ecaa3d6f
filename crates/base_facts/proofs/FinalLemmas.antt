-- What is left unmarked holds on every path, and what is marked is missed on some path.
use Rattle.std.proofs.Common.{◌≡◌, ◌∙◌, inl, inr, ℕ, zero, suc, ◌+◌, ◌<◌, Bool, true, false, not, List, [], ◌∷◌, map, Some, None, refl, ap, sym, subst, slice_get, length, arith, get_or, take, Vec, ◌++◌}
use Rattle.std.specs.List.{Contains, AllZip}
use Rattle.std.specs.declared.alloc.Global.{Global}
use Rattle.std.proofs.lemmas.Bool.{false≢true, cases_lt}
use Rattle.std.proofs.lemmas.List.{length-map, get_or_past, take_more}
use Rattle.std.proofs.lemmas.Option.{none-some, slice_get_within, get_or_from_slice_get, slice_get-get_or}
use Rattle.list_laws.proofs.Places.{get_some, map_back}
use Rattle.list_laws.proofs.Contents.{get_contained, contains_get, contains_none}
use Rattle.graph_search.specs.Edges.{AreInside}
use Rattle.graph_search.specs.Edges.{Edge as RowEdge}
use Rattle.graph_search.specs.Paths.{ReachedFrom, at_start, along, Marked, MarksReached}
use Rattle.ir_ast.specs.Funcs.{Function}
use Rattle.ir_cfg.specs.Graphs.{graph_of, Edge}
use Rattle.object_meaning.specs.Jumps.{phi_count}
use Rattle.pair_facts.specs.Lines.{lines_at, phis_in}
use Rattle.pair_facts.specs.Pairs.{Pairs, at_entry, on_edge}
use Rattle.pair_facts.specs.Paths.{pairs_at_end, Arrives, start, went}
use Rattle.pair_facts.proofs.FreshLaws.{IsSound, pairs_sound, arrives_sound}
use Rattle.pair_facts.proofs.PathLaws.{arrives_reached}
use Rattle.ir_cfg.specs.Paths.{Reached}
use Rattle.base_facts.specs.declared.asks.Ask.{Ask}
use Rattle.base_facts.specs.declared.asks.Found.{Found}
use Rattle.base_facts.specs.declared.asks.Found.TheVariants.{Known, Numbered}
use Rattle.base_facts.specs.declared.facts.Fact.{Fact}
use Rattle.base_facts.specs.declared.search.Asked.{Asked}
use Rattle.base_facts.specs.Facts.{operand_in, base_in, fact_at, holds, maybe_holds}
use Rattle.base_facts.specs.Settled.{IsSettled, SettlesBy}
use Rattle.base_facts.specs.Asked.{IsReached, MissesFact, IsFact, rows_of, Asks, Grows, IsAsked, IsNumbered}
use Rattle.base_facts.specs.Closing.{Holding, HoldingBelow, HoldsAlong, Follows, from_front, from_definition, from_source, IsClosed}
use Rattle.base_facts.specs.Sources.{IsSource}
use Rattle.base_facts.specs.Answers.{IsAnswered}
use Rattle.base_facts.specs.Found.{ask_holds, IsFound, HasFound, IsFoundFact, HasFoundFact, told_by, AreFound}
use Rattle.base_facts.proofs.StepLemmas.{fact_holds, IsAt, fact_stands_at}
use Rattle.base_facts.proofs.AskedLemmas.{grows_not}
use Rattle.base_facts.proofs.SourceLemmas.{Passes, passes_start, passes_more, passes_holds}
use Rattle.base_facts.proofs.ClosingLemmas.{front_holds, one_fact, pair_along}
use Rattle.list_laws.proofs.Zips.{zip_pushed, zip_weaker}

-- ---- the graph of askers

pub length-rows_of : (asked : Asked) → length (rows_of asked) ≡ length asked.askers.items
length-rows_of asked = length-map asked.askers.items (λ row. row.items)

asks_of_edge : (asked : Asked) (number asker : ℕ) → RowEdge (rows_of asked) number asker → Asks asked number asker
asks_of_edge asked number asker edge = elim (cases_lt number (length (rows_of asked))) [
  | inl below ↦
      (let row = get_some (rows_of asked) number below in
      record {
        row = row.0;
        stands = row.1;
        contained = contains_get row.0 edge.number asker
            (ap (λ (xs : List ℕ). slice_get xs edge.number) (sym (get_or_from_slice_get (rows_of asked) number row.0 [] row.1)) ∙ edge.leads);
      })
  | inr past ↦ absurd (none-some asker (sym (ap (λ (xs : List ℕ). slice_get xs edge.number) (get_or_past (rows_of asked) number [] past)) ∙ edge.leads))
]

edge_of_asks : (asked : Asked) (number asker : ℕ) → Asks asked number asker → RowEdge (rows_of asked) number asker
edge_of_asks asked number asker asks =
    let there = get_contained asks.row asker asks.contained in
    record {
      number = there.0;
      leads = ap (λ (xs : List ℕ). slice_get xs there.0) (get_or_from_slice_get (rows_of asked) number asks.row [] asks.stands) ∙ there.1;
    }

pub rows_inside : (func : Function) (asked : Asked) → IsAsked func asked → AreInside (rows_of asked) asked.failing.items
rows_inside func asked are = record {
  starts_inside = λ node there. omega (arith, are.failing node there, are.same, length-rows_of asked);
  edges_inside = λ from to edge. omega (arith, are.asks from to (asks_of_edge asked from to edge), are.same, length-rows_of asked);
}

-- ---- marked facts are missed

reached_missed : (func : Function) (asked : Asked) (number : ℕ) → IsAsked func asked → ReachedFrom (rows_of asked) asked.failing.items number
    → (fact : Fact) → IsFact asked number fact → MissesFact func fact
reached_missed func asked number are (at_start _ there) fact is = are.misses number fact there is
reached_missed func asked _ are (along from to before edge) fact is =
    let asks = asks_of_edge asked from to edge in
    let inside : from < length asked.facts.keys = (let row = map_back (λ row. row.items) asked.askers.items from asks.row asks.stands in
    omega (arith, slice_get_within asked.askers.items from row.before row.stands, are.same)) in
    let asker = get_some asked.facts.keys from inside in
    are.spreads from to asker.0 fact asks asker.1 is (reached_missed func asked from are before asker.0 asker.1)

pub marked_missed : (func : Function) (asked : Asked) (marks : List Bool) (number : ℕ) (fact : Fact) → IsAsked func asked → MarksReached (rows_of asked) asked.failing.items marks
    → Marked marks number → IsFact asked number fact → MissesFact func fact
marked_missed func asked marks number fact are found marked is = reached_missed func asked number are (found.sound number marked) fact is

-- ---- unmarked facts hold

abbrev Unmarked : Asked → ℕ → Type 0
Unmarked asked number = ReachedFrom (rows_of asked) asked.failing.items number → ⊥

-- what the facts behind the phis of a block are on this path
abbrev FrontHolds : Function → Asked → ℕ → Pairs → Type 0
FrontHolds func asked block front = (number : ℕ) (fact : Fact) → IsFact asked number fact → fact.block ≡ block → Unmarked asked number
    → fact.place ≡ phi_count (lines_at func fact.block)
    → (fact.block ≡ 0 → at_entry func (operand_in fact.pointer) (base_in fact.base) ≡ true)
    → ((from : ℕ) → Edge (graph_of func) from fact.block → HoldsAlong func asked number fact from) → holds func front fact ≡ true

asker_unmarked : (asked : Asked) (number asker : ℕ) → Unmarked asked asker → Asks asked number asker → Unmarked asked number
asker_unmarked asked number asker unmarked asks reached = unmarked (along number asker reached (edge_of_asks asked number asker asks))

-- what those are that a source decides
abbrev AtSource : Function → Asked → ℕ → Fact → ℕ → Type 0
AtSource func asked number fact source = (front : Pairs) → Arrives func source front → Holding func asked number source front
    → pairs_at_end (lines_at func source) front (operand_in fact.pointer) (base_in fact.base) ≡ true

abbrev SourcedHolds : Function → Asked → ℕ → Pairs → Type 0
SourcedHolds func asked block front = (number : ℕ) (fact : Fact) → IsFact asked number fact → fact.block ≡ block → Unmarked asked number
    → (source : ℕ) → fact.place ≡ phi_count (lines_at func fact.block) → IsSource func fact source → AtSource func asked number fact source
    → holds func front fact ≡ true

levels : (func : Function) (asked : Asked) (block : ℕ) (front : Pairs) → IsSound front → ((number : ℕ) (fact : Fact) → IsFact asked number fact → IsClosed func asked number fact)
    → FrontHolds func asked block front → SourcedHolds func asked block front → (fuel number : ℕ) (fact : Fact) → fact.place < fuel → IsFact asked number fact → fact.block ≡ block
    → Unmarked asked number → holds func front fact ≡ true
levels func asked block front sound closed frontal sourced zero number fact low is own unmarked = absurd (omega arith)
levels func asked block front sound closed frontal sourced (suc fuel) number fact low is own unmarked =
    by (closed number fact is (λ failing. unmarked (at_start number failing)))
    (λ m other there asks beside below. levels func asked block front sound closed frontal sourced fuel m other (omega arith) there (beside ∙ own) (asker_unmarked asked m number unmarked asks))
  where
    by : Follows func asked number fact → HoldingBelow func asked number fact.block fact.place front → holds func front fact ≡ true
    by (from_front place entry edges) holding = frontal number fact is own unmarked place entry edges
    by (from_definition follows) holding = follows front sound holding
    by (from_source source place source_is at_source) holding = sourced number fact is own unmarked source place source_is at_source

-- on a path to a block the unmarked facts hold there, and those that a source decides hold on the way from it
record HoldsAt (func : Function) (asked : Asked) (block : ℕ) (front : Pairs) : Type 0 where
  holding : (number : ℕ) (fact : Fact) → IsFact asked number fact → fact.block ≡ block → Unmarked asked number → holds func front fact ≡ true
  passing : (number : ℕ) (fact : Fact) → Unmarked asked number → (source : ℕ) (is : IsSource func fact source) → AtSource func asked number fact source
      → Passes func fact source is block front

-- a fact that a source decides, at its own block
sourced_holds : (func : Function) (asked : Asked) (block : ℕ) (front : Pairs)
    → ((number : ℕ) (fact : Fact) → Unmarked asked number → (source : ℕ) (is : IsSource func fact source) → AtSource func asked number fact source → Passes func fact source is block front)
    → SourcedHolds func asked block front
sourced_holds func asked block front passing number fact is own unmarked source place source_is at_source =
    front_holds func fact front place
    ∙ passes_holds func fact source source_is front
    (subst (λ (b : ℕ). Passes func fact source source_is b front) (sym own) (passing number fact unmarked source source_is at_source))

-- an edge more
hold_behind : (func : Function) (asked : Asked) (from to : ℕ) (front : Pairs) → ((number : ℕ) (fact : Fact) → IsFact asked number fact → IsClosed func asked number fact)
    → Arrives func from front → Edge (graph_of func) from to → HoldsAt func asked from front
    → HoldsAt func asked to (on_edge from (phis_in (lines_at func to)) (pairs_at_end (lines_at func from) front))
hold_behind func asked from to front closed arrives edge was = record {
  holding = λ number fact is own unmarked.
      levels func asked to _ (arrives_sound func to _ (went from to front arrives edge)) closed
      (λ n one there beside free place entry edges.
      let own_edge : Edge (graph_of func) from one.block = subst (Edge (graph_of func) from) (sym beside) edge in
      let along_holds : pair_along func one from front ≡ true = edges from own_edge front arrives
      (λ m other stands asks same. was.holding m other stands same (asker_unmarked asked m n free asks)) in
      front_holds func one _ place
      ∙ ap (λ (b : ℕ). on_edge from (phis_in (lines_at func b)) (pairs_at_end (lines_at func from) front) (operand_in one.pointer) (base_in one.base)) (sym beside)
      ∙ along_holds)
      (sourced_holds func asked to _ passing)
      (suc fact.place) number fact (omega arith) is own unmarked;
  passing = passing;
}
  where
    passing : (number : ℕ) (fact : Fact) → Unmarked asked number → (source : ℕ) (is : IsSource func fact source) → AtSource func asked number fact source
        → Passes func fact source is to (on_edge from (phis_in (lines_at func to)) (pairs_at_end (lines_at func from) front))
    passing number fact unmarked source is at_source =
        passes_more func fact source is from to front arrives edge (was.passing number fact unmarked source is at_source)
        (λ same. subst (λ (b : ℕ). pairs_at_end (lines_at func b) front (operand_in fact.pointer) (base_in fact.base) ≡ true) (sym same)
        (at_source front (subst (λ (b : ℕ). Arrives func b front) same arrives)
        (λ m other stands asks block_is. was.holding m other stands (block_is ∙ sym same) (asker_unmarked asked m number unmarked asks))))

all_hold : (func : Function) (asked : Asked) (block : ℕ) (front : Pairs) → ((number : ℕ) (fact : Fact) → IsFact asked number fact → IsClosed func asked number fact)
    → Arrives func block front → HoldsAt func asked block front
all_hold func asked _ _ closed start = record {
  holding = λ number fact is own unmarked.
      levels func asked 0 (at_entry func) (arrives_sound func 0 (at_entry func) start) closed
      (λ n one there beside free place entry edges. front_holds func one (at_entry func) place ∙ entry beside)
      (sourced_holds func asked 0 (at_entry func) (λ n one free source is at_source. passes_start func one source is))
      (suc fact.place) number fact (omega arith) is own unmarked;
  passing = λ number fact unmarked source is at_source. passes_start func fact source is;
}
all_hold func asked _ _ closed (went from to front arrives edge) = hold_behind func asked from to front closed arrives edge (all_hold func asked from front closed arrives)

pub unmarked_holds : (func : Function) (asked : Asked) (block : ℕ) (front : Pairs) → ((number : ℕ) (fact : Fact) → IsFact asked number fact → IsClosed func asked number fact)
    → Arrives func block front → (number : ℕ) (fact : Fact) → IsFact asked number fact → fact.block ≡ block → Unmarked asked number → holds func front fact ≡ true
unmarked_holds func asked block front closed arrives number fact is own unmarked = (all_hold func asked block front closed arrives).holding number fact is own unmarked

-- ---- answers

-- one number more
pub asked_numbered : (func : Function) (fact : Fact) (number : ℕ) (old new : Asked) → IsAsked func old → IsNumbered fact number old new → IsSettled func fact → IsReached func fact.block
    → IsAsked func new
asked_numbered func fact number old new are numbered settled reached = record {
  same = numbered.same;
  settled = λ n one is. elim (numbered.facts n one is) [
    | inl earlier ↦ are.settled n one earlier
    | inr own ↦ subst (IsSettled func) (sym own) settled
  ];
  reached = λ n one is. elim (numbered.facts n one is) [
    | inl earlier ↦ are.reached n one earlier
    | inr own ↦ subst (λ (f : Fact). IsReached func f.block) (sym own) reached
  ];
  failing = λ n there. omega (arith, are.failing n (failing_back n there), numbered.longer);
  misses = λ n one there is. are.misses n one (failing_back n there) (was n one (are.failing n (failing_back n there)) is);
  asks = λ n one asks. omega (arith, are.asks n one (numbered.askers n one asks), numbered.longer);
  spreads = λ n one f o asks is also.
      let earlier = numbered.askers n one asks in
      let inside : n < length old.facts.keys = (let row = map_back (λ row. row.items) old.askers.items n earlier.row earlier.stands in
      omega (arith, slice_get_within old.askers.items n row.before row.stands, are.same)) in
      are.spreads n one f o earlier (was n f inside is) (was one o (are.asks n one earlier) also);
}
  where
    failing_back : (n : ℕ) → Contains new.failing.items n → Contains old.failing.items n
    failing_back n there = subst (λ (f : Vec ℕ Global). Contains f.items n) numbered.failing there

    was : (n : ℕ) (one : Fact) → n < length old.facts.keys → IsFact new n one → IsFact old n one
    was n one below is =
        let found = get_some old.facts.keys n below in
        found.1 ∙ ap Some (one_fact new n found.0 one (numbered.grows.facts n found.0 found.1) is)

pub found_grows : (func : Function) (old new : Asked) (ask : Ask) (found : Found) → Grows old new → IsFound func old ask found → IsFound func new ask found
found_grows func old new ask (Known answer) grows is = is
found_grows func old new ask (Numbered number) grows is = record { fact = is.fact; stands = grows.facts number is.fact is.stands; block = is.block; same = is.same }

-- an ask that is a fact
pub found_fact : (func : Function) (ask : Ask) (fact : Fact) (found : Found) (old new : Asked) → IsReached func ask.block.0
    → fact_at ask.block.0 ask.place ask.pointer ask.base ≡ Some fact → HasFoundFact func fact found old new → HasFound func ask found old new
found_fact func ask fact found old new reached is has = record { asked = has.asked; grows = has.grows; is = by found has.is }
  where
    at : IsAt ask.block.0 ask.place fact
    at = fact_stands_at ask.block.0 ask.place ask.pointer ask.base fact is

    same : (front : Pairs) → IsSound front → ask_holds func front ask ≡ holds func front fact
    same front sound = fact_holds func front ask.block.0 ask.place ask.pointer ask.base (pairs_sound (lines_at func ask.block.0) front ask.place sound) ∙ ap (maybe_holds func front) is

    by : (found : Found) → IsFoundFact func new fact found → IsFound func new ask found
    by (Known true) decides = λ front arrives. same front (arrives_sound func ask.block.0 front arrives) ∙ decides front (arrives_sound func ask.block.0 front arrives)
    by (Known false) decides = record {
      front = reached.0;
      arrives = reached.1;
      misses = same reached.0 (arrives_sound func ask.block.0 reached.0 reached.1) ∙ decides reached.0 (arrives_sound func ask.block.0 reached.0 reached.1);
    }
    by (Numbered number) numbered = record {
      fact = numbered.other;
      stands = numbered.stands;
      block = numbered.block ∙ at.block_is;
      same = λ front sound. same front sound ∙ numbered.same front sound;
    }

-- an ask with a literal
pub found_none : (func : Function) (ask : Ask) (asked : Asked) → IsAsked func asked → IsReached func ask.block.0
    → fact_at ask.block.0 ask.place ask.pointer ask.base ≡ None → HasFound func ask (Known false) asked asked
found_none func ask asked are reached is = record {
  asked = are;
  grows = grows_not asked;
  is = record {
    front = reached.0;
    arrives = reached.1;
    misses = fact_holds func reached.0 ask.block.0 ask.place ask.pointer ask.base (pairs_sound (lines_at func ask.block.0) reached.0 ask.place (arrives_sound func ask.block.0 reached.0 reached.1))
        ∙ ap (maybe_holds func reached.0) is;
  };
}

pub found_unreached : (func : Function) (ask : Ask) (asked : Asked) → IsAsked func asked → (Reached (graph_of func) ask.block.0 → ⊥) → HasFound func ask (Known true) asked asked
found_unreached func ask asked are never = record {
  asked = are;
  grows = grows_not asked;
  is = λ front arrives. absurd (never (arrives_reached func ask.block.0 front arrives));
}

-- what was found, with the marks
pub told_answer : (func : Function) (asked : Asked) (marks : List Bool) (ask : Ask) (found : Found) → IsAsked func asked
    → ((number : ℕ) (fact : Fact) → IsFact asked number fact → IsClosed func asked number fact) → MarksReached (rows_of asked) asked.failing.items marks
    → IsFound func asked ask found → IsAnswered func ask (told_by marks found)
told_answer func asked marks ask (Known answer) are closed found is = is
told_answer func asked marks ask (Numbered number) are closed found is = by (get_or marks number false) refl
  where
    inside : number < length marks
    inside = omega (arith, slice_get_within asked.facts.keys number is.fact is.stands, are.same, length-rows_of asked, found.whole)

    by : (mark : Bool) → get_or marks number false ≡ mark → IsAnswered func ask (not mark)
    by true marked =
        let missed = marked_missed func asked marks number is.fact are found (slice_get-get_or marks number false inside ∙ ap Some marked) is.stands in
        let arrives : Arrives func ask.block.0 missed.front = subst (λ (b : ℕ). Arrives func b missed.front) is.block missed.arrives in
        record {
          front = missed.front;
          arrives = arrives;
          misses = is.same missed.front (arrives_sound func ask.block.0 missed.front arrives) ∙ missed.fails;
        }
    by false unmarked = λ front arrives.
        is.same front (arrives_sound func ask.block.0 front arrives)
        ∙ unmarked_holds func asked ask.block.0 front closed arrives number is.fact is.stands is.block
        (λ reached. false≢true (sym unmarked ∙ get_or_from_slice_get marks number true false (found.complete number reached)))

zip_map : {A B C : Type 0} (P : A → B → Type 0) (Q : A → C → Type 0) (f : B → C) (xs : List A) (ys : List B) → ((x : A) (y : B) → P x y → Q x (f y)) → AllZip P xs ys → AllZip Q xs (map f ys)
zip_map P Q f [] [] each all = tt
zip_map P Q f [] (y ∷ ys) each all = absurd all
zip_map P Q f (x ∷ xs) [] each all = absurd all
zip_map P Q f (x ∷ xs) (y ∷ ys) each all = (each x y all.0, zip_map P Q f xs ys each all.1)

pub told_all : (func : Function) (asked : Asked) (marks : List Bool) (asks : List Ask) (found : List Found) → IsAsked func asked
    → ((number : ℕ) (fact : Fact) → IsFact asked number fact → IsClosed func asked number fact) → MarksReached (rows_of asked) asked.failing.items marks
    → AllZip (IsFound func asked) asks found → AllZip (IsAnswered func) asks (map (told_by marks) found)
told_all func asked marks asks found are closed marked all =
    zip_map (IsFound func asked) (IsAnswered func) (told_by marks) asks found (λ ask one is. told_answer func asked marks ask one are closed marked is) all

pub all_grow : (func : Function) (old new : Asked) (asks : List Ask) (found : List Found) → Grows old new → AllZip (IsFound func old) asks found → AllZip (IsFound func new) asks found
all_grow func old new asks found grows all = zip_weaker (IsFound func old) (IsFound func new) asks found (λ ask one is. found_grows func old new ask one grows is) all

-- one ask more
pub found_more : (func : Function) (old new : Asked) (asks : List Ask) (count : ℕ) (ask : Ask) (found next : List Found) (one : Found) → slice_get asks count ≡ Some ask
    → next ≡ found ++ one ∷ [] → AreFound func old asks count found → HasFound func ask one old new → AreFound func new asks (count + 1) next
found_more func old new asks count ask found next one at pushed before has = record {
  asked = has.asked;
  found =
      let more : take (count + 1) asks ≡ take count asks ++ ask ∷ [] = take_more asks count ask (slice_get_within asks count ask at)
      ∙ ap (λ (a : Ask). take count asks ++ a ∷ []) (get_or_from_slice_get asks count ask ask at) in
      subst (λ (xs : List Ask). AllZip (IsFound func new) xs next) (sym more)
      (subst (λ (ys : List Found). AllZip (IsFound func new) (take count asks ++ ask ∷ []) ys) (sym pushed)
      (zip_pushed (IsFound func new) (take count asks) found ask one (all_grow func old new (take count asks) found has.grows before.found) has.is));
}

pub nothing_is_asked : (func : Function) (asked : Asked) → asked.facts.keys ≡ [] → asked.askers.items ≡ [] → asked.failing.items ≡ [] → IsAsked func asked
nothing_is_asked func asked facts askers failing = record {
  same = ap length askers ∙ ap length (sym facts);
  settled = λ number fact is. absurd (no_fact number fact is);
  reached = λ number fact is. absurd (no_fact number fact is);
  failing = λ number there. absurd (contains_none number (subst (λ (xs : List ℕ). Contains xs number) failing there));
  misses = λ number fact there is. absurd (no_fact number fact is);
  asks = λ number asker asks. absurd (no_row number asks.row (ap (λ (a : List (Vec ℕ Global)). slice_get (map (λ (v : Vec ℕ Global). v.items) a) number) (sym askers) ∙ asks.stands));
  spreads = λ number asker fact other asks is also. absurd (no_fact number fact is);
}
  where
    no_fact : (number : ℕ) (fact : Fact) → IsFact asked number fact → ⊥
    no_fact number fact is = none-some fact (ap (λ (xs : List Fact). slice_get xs number) (sym facts) ∙ is)

    no_row : (number : ℕ) (row : List ℕ) → slice_get {X = List ℕ} [] number ≡ Some row → ⊥
    no_row number row is = none-some row is

-- a fact that asks for another
pub found_numbered : (func : Function) (fact other : Fact) (number : ℕ) (old new : Asked) → IsAsked func old → IsReached func fact.block → SettlesBy func fact other → IsNumbered other number old new
    → HasFoundFact func fact (Numbered number) old new
found_numbered func fact other number old new are reached settles numbered = record {
  asked = asked_numbered func other number old new are numbered settles.settled (subst (IsReached func) (sym settles.block) reached);
  grows = numbered.grows;
  is = record { other = other; stands = numbered.stands; block = settles.block; same = settles.same };
}
