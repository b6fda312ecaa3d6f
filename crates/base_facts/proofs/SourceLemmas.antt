-- A fact is what it was at the end of the last block that each path leaves, or is missed where a path leaves it nowhere.
use Rattle.std.proofs.Common.{◌≡◌, ◌∙◌, ◌⊎◌, inl, inr, ℕ, ◌<◌, ◌≤◌, Bool, true, false, List, Option, Some, None, refl, ap, sym, subst, length, arith}
use Rattle.std.specs.Prelude.{◌==◌}
use Rattle.std.specs.Option.{option_map_or}
use Rattle.std.proofs.lemmas.Bool.{false≢true, cases_Bool, cases_eq, cases_lt, eqb-true, lt-ltb, ltb-true, and_parts}
use Rattle.std.proofs.lemmas.List.{get_or_past}
use Rattle.std.proofs.lemmas.Option.{none-some, same_Some, slice_get_past}
use Rattle.ir_ast.specs.Funcs.{Function}
use Rattle.ir_ast.specs.declared.funcs.Arg.{Arg}
use Rattle.ir_ast.specs.Types.{is_pointer}
use Rattle.ir_cfg.specs.Graphs.{graph_of, Edge}
use Rattle.object_meaning.specs.Lines.{Line}
use Rattle.object_meaning.specs.Frames.{is_member}
use Rattle.object_meaning.specs.Jumps.{phi_count}
use Rattle.pair_facts.specs.declared.bases.Base.TheVariants.{Any, Named}
use Rattle.pair_facts.specs.Lines.{lines_at, line_in, no_line, phis_in, named}
use Rattle.pair_facts.specs.Pairs.{Pairs, at_entry, is_pointer_argument, own_pairs, along as before_phis, base_along, on_edge}
use Rattle.pair_facts.specs.Paths.{pairs_at, pairs_at_end, Arrives, start, went}
use Rattle.pair_facts.specs.Segments.{start_at}
use Rattle.pair_facts.proofs.FreshLaws.{arrives_sound}
use Rattle.pair_facts.proofs.OwnLaws.{arrives_own}
use Rattle.pair_facts.proofs.PlaceLaws.{Leaves, LeavesBase, pairs_from_front}
use Rattle.pair_facts.proofs.PathLaws.{arrives_reached}
use Rattle.fact_tables.specs.declared.homes.Home.{Home}
use Rattle.fact_tables.specs.Homes.{GivesAt, home_at, home_in, KnowsHomes}
use Rattle.fact_tables.proofs.TableLemmas.{home_found, gives_inside}
use Rattle.since_statepoint.specs.Regions.{waits, Slips, from_entry, from_statepoint, along}
use Rattle.base_facts.specs.declared.facts.Pointer.{Pointer}
use Rattle.base_facts.specs.declared.facts.Pointer.TheVariants as pointers
use Rattle.base_facts.specs.declared.facts.Wanted.{Wanted}
use Rattle.base_facts.specs.declared.facts.Wanted.TheVariants as bases
use Rattle.base_facts.specs.declared.facts.Fact.{Fact}
use Rattle.base_facts.specs.Facts.{operand_in, base_in, holds}
use Rattle.base_facts.specs.declared.search.Asked.{Asked}
use Rattle.base_facts.specs.Asked.{IsReached, MissesFact, IsFact, HasAsked}
use Rattle.base_facts.specs.Closing.{CanAsk, HasClosed, from_source}
use Rattle.base_facts.specs.Sources.{Names, IsHomeBlock, AreNames, IsSource, IsLast}
use Rattle.base_facts.proofs.SettleLemmas.{before_group, value_lost}
use Rattle.base_facts.proofs.EdgeLemmas.{along_other}
use Rattle.base_facts.proofs.ClosingLemmas.{reached_arrives, front_holds, one_fact}

-- ---- a value that a block doesn't give

pub value_leaves : (line : Line) (value : ℕ) → (line.to ≡ Some value → ⊥) → Leaves line (named value)
value_leaves line value none given is = elim (cases_Bool (given == value)) [
  | inl same ↦ absurd (none (is ∙ ap Some (eqb-true given value same)))
  | inr other ↦ other
]

not_waiting : (func : Function) (block : ℕ) → waits func block ≡ false → start_at (lines_at func block) (length (lines_at func block)) ≡ 0
not_waiting func block plain = elim (cases_lt 0 (start_at (lines_at func block) (length (lines_at func block)))) [
  | inl some ↦ absurd (false≢true (sym plain ∙ lt-ltb 0 (start_at (lines_at func block) (length (lines_at func block))) some))
  | inr none ↦ omega (arith, none)
]

-- a value that is missed stays so
value_edge : (func : Function) (from to value : ℕ) (pairs : Pairs) → ((place : ℕ) → GivesAt func to place value → ⊥)
    → on_edge from (phis_in (lines_at func to)) pairs (named value) Any ≡ pairs (named value) Any
value_edge func from to value pairs none = ap (λ operand. pairs operand Any) (along_other (lines_at func to) from value (λ at below given. none at given))

value_end : (func : Function) (block value : ℕ) (front : Pairs) → waits func block ≡ false → ((place : ℕ) → GivesAt func block place value → ⊥)
    → pairs_at_end (lines_at func block) front (named value) Any ≡ front (named value) Any
value_end func block value front plain none =
    pairs_from_front (lines_at func block) front (length (lines_at func block)) (named value) Any (not_waiting func block plain)
    (λ place past low. (value_leaves (line_in (lines_at func block) place) value (none place), λ given is. refl))

value_gone : (func : Function) (block value : ℕ) (front : Pairs) → waits func block ≡ true → ((place : ℕ) → GivesAt func block place value → ⊥)
    → pairs_at_end (lines_at func block) front (named value) Any ≡ false
value_gone func block value front waiting none =
    let lines = lines_at func block in
    let outside : is_member (line_in lines (length lines)).inst.op ≡ false = ap (λ (l : Line). is_member l.inst.op) (get_or_past lines (length lines) no_line (omega arith)) in
    before_group lines front (length lines) (named value) Any (ltb-true 0 (start_at lines (length lines)) waiting)
    (λ at low high. value_leaves (line_in lines at) value (none at))
    (λ head is. value_lost lines (length lines) value head Any outside is (λ at low high given. none at given))

-- ---- paths that slip past the home of a value

record Missing (func : Function) (value block : ℕ) : Type 0 where
  front : Pairs
  arrives : Arrives func block front
  missing : front (named value) Any ≡ false

slips_missing : (func : Function) (value home block : ℕ) → IsHomeBlock func value home → Slips func home block → (block ≡ home → ⊥) → Missing func value block
slips_missing func value home _ is from_entry apart = record {
  front = at_entry func;
  arrives = start;
  missing = elim (cases_Bool (at_entry func (named value) Any)) [
    | inl holds ↦ absurd (apart (sym (is.entry Any holds)))
    | inr none ↦ none
  ];
}
slips_missing func value home _ is (from_statepoint from to reached waiting aside edge) apart =
    let came = reached_arrives func from reached in
    record {
      front = on_edge from (phis_in (lines_at func to)) (pairs_at_end (lines_at func from) came.0);
      arrives = went from to came.0 came.1 edge;
      missing = value_edge func from to value (pairs_at_end (lines_at func from) came.0) (λ place given. apart (is.only to place given))
          ∙ value_gone func from value came.0 waiting (λ place given. aside (is.only from place given));
    }
slips_missing func value home _ is (along from to before plain aside edge) apart =
    let was = slips_missing func value home from is before aside in
    record {
      front = on_edge from (phis_in (lines_at func to)) (pairs_at_end (lines_at func from) was.front);
      arrives = went from to was.front was.arrives edge;
      missing = value_edge func from to value (pairs_at_end (lines_at func from) was.front) (λ place given. apart (is.only to place given))
          ∙ value_end func from value was.front plain (λ place given. aside (is.only from place given)) ∙ was.missing;
    }

pub nowhere_misses : (func : Function) (fact : Fact) (value home : ℕ) → Names fact value → IsHomeBlock func value home → (fact.block ≡ home → ⊥)
    → Slips func home fact.block → fact.place ≡ phi_count (lines_at func fact.block) → MissesFact func fact
nowhere_misses func fact value home names is apart slips place =
    let was = slips_missing func value home fact.block is slips apart in
    let sound = arrives_sound func fact.block was.front was.arrives in
    let own = arrives_own func fact.block was.front was.arrives in
    record {
      front = was.front;
      arrives = was.arrives;
      fails = front_holds func fact was.front place ∙ elim (cases_Bool (was.front (operand_in fact.pointer) (base_in fact.base))) [
        | inl holds ↦ elim names [
          | inl pointer ↦
              absurd (false≢true (sym was.missing ∙ sound.fresh (named value) (base_in fact.base)
              (subst (λ (p : Pointer). was.front (operand_in p) (base_in fact.base) ≡ true) pointer holds)))
          | inr base ↦
              absurd (false≢true (sym was.missing ∙ sound.fresh (named value) (Named (named value))
              (own (operand_in fact.pointer) value (subst (λ (b : Wanted). was.front (operand_in fact.pointer) (base_in b) ≡ true) base holds))))
        ]
        | inr none ↦ none
      ];
    }

-- ---- blocks that give no value of a fact

abbrev Quiet : Function → ℕ → Fact → Type 0
Quiet func block fact = (value : ℕ) → Names fact value → (place : ℕ) → GivesAt func block place value → ⊥

pointer_leaves : (line : Line) (pointer : Pointer) → ((value : ℕ) → pointer ≡ pointers.Value value → line.to ≡ Some value → ⊥) → Leaves line (operand_in pointer)
pointer_leaves line pointers.Null none given is = refl
pointer_leaves line (pointers.Value value) none given is = value_leaves line value (none value refl) given is

base_leaves : (line : Line) (base : Wanted) → ((value : ℕ) → base ≡ bases.Value value → line.to ≡ Some value → ⊥) → LeavesBase line (base_in base)
base_leaves line bases.Any none given is = refl
base_leaves line bases.Null none given is = refl
base_leaves line (bases.Value value) none given is = value_leaves line value (none value refl) given is

pointer_edge : (lines : List Line) (from : ℕ) (pointer : Pointer) → ((value : ℕ) → pointer ≡ pointers.Value value → (place : ℕ) → (line_in lines place).to ≡ Some value → ⊥)
    → before_phis from (phis_in lines) (operand_in pointer) ≡ operand_in pointer
pointer_edge lines from pointers.Null none = refl
pointer_edge lines from (pointers.Value value) none = along_other lines from value (λ at below given. none value refl at given)

base_edge : (lines : List Line) (from : ℕ) (base : Wanted) → ((value : ℕ) → base ≡ bases.Value value → (place : ℕ) → (line_in lines place).to ≡ Some value → ⊥)
    → base_along from (phis_in lines) (base_in base) ≡ base_in base
base_edge lines from bases.Any none = refl
base_edge lines from bases.Null none = refl
base_edge lines from (bases.Value value) none = ap Named (along_other lines from value (λ at below given. none value refl at given))

module _ (func : Function) (fact : Fact) where
  abbrev at_end : ℕ → Pairs → Bool
  at_end block front = pairs_at_end (lines_at func block) front (operand_in fact.pointer) (base_in fact.base)

  quiet_end : (block : ℕ) (front : Pairs) → waits func block ≡ false → Quiet func block fact → at_end block front ≡ front (operand_in fact.pointer) (base_in fact.base)
  quiet_end block front plain quiet =
      pairs_from_front (lines_at func block) front (length (lines_at func block)) (operand_in fact.pointer) (base_in fact.base) (not_waiting func block plain)
      (λ place past low. (
        pointer_leaves (line_in (lines_at func block) place) fact.pointer (λ value is. quiet value (inl is) place),
        base_leaves (line_in (lines_at func block) place) fact.base (λ value is. quiet value (inr is) place),
      ))

  quiet_edge : (from to : ℕ) (pairs : Pairs) → Quiet func to fact
      → on_edge from (phis_in (lines_at func to)) pairs (operand_in fact.pointer) (base_in fact.base) ≡ pairs (operand_in fact.pointer) (base_in fact.base)
  quiet_edge from to pairs quiet =
      ap (λ operand. pairs operand (base_along from (phis_in (lines_at func to)) (base_in fact.base))) (pointer_edge (lines_at func to) from fact.pointer (λ value is. quiet value (inl is)))
      ∙ ap (pairs (operand_in fact.pointer)) (base_edge (lines_at func to) from fact.base (λ value is. quiet value (inr is)))

  -- ---- behind the source

  module _ (source : ℕ) (is : IsSource func fact source) where
    -- the block is the source, or a path slips past it there
    abbrev Left : ℕ → Type 0
    Left block = (block ≡ source) ⊎ Slips func source block

    value_quiet : (block value : ℕ) → Names fact value → Left block ⊎ ((place : ℕ) → GivesAt func block place value → ⊥)
    value_quiet block value names =
        let near = is.near value names in
        elim (cases_eq block near.home) [
          | inl same ↦ elim near.near [
            | inl own ↦ inl (inl (same ∙ own))
            | inr slips ↦ inl (inr (subst (Slips func source) (sym same) slips))
          ]
          | inr apart ↦ inr (λ place given. apart (near.is.only block place given))
        ]

    pointer_quiet : (block : ℕ) (pointer : Pointer) → fact.pointer ≡ pointer
        → Left block ⊎ ((value : ℕ) → pointer ≡ pointers.Value value → (place : ℕ) → GivesAt func block place value → ⊥)
    pointer_quiet block pointers.Null same = inr (λ value null. absurd (cc))
    pointer_quiet block (pointers.Value own) same = elim (value_quiet block own (inl same)) [
      | inl left ↦ inl left
      | inr none ↦ inr (λ value equal place given. none place (given ∙ ap Some (sym (pointer_value own value equal))))
    ]
      where
        pointer_value : (own value : ℕ) → pointers.Value own ≡ pointers.Value value → own ≡ value
        pointer_value own value equal = cc

    base_quiet : (block : ℕ) (base : Wanted) → fact.base ≡ base → Left block ⊎ ((value : ℕ) → base ≡ bases.Value value → (place : ℕ) → GivesAt func block place value → ⊥)
    base_quiet block bases.Any same = inr (λ value any. absurd (cc))
    base_quiet block bases.Null same = inr (λ value null. absurd (cc))
    base_quiet block (bases.Value own) same = elim (value_quiet block own (inr same)) [
      | inl left ↦ inl left
      | inr none ↦ inr (λ value equal place given. none place (given ∙ ap Some (sym (base_value own value equal))))
    ]
      where
        base_value : (own value : ℕ) → bases.Value own ≡ bases.Value value → own ≡ value
        base_value own value equal = cc

    quiet_or : (block : ℕ) → Left block ⊎ Quiet func block fact
    quiet_or block = elim (pointer_quiet block fact.pointer refl) [
      | inl left ↦ inl left
      | inr pointer ↦ elim (base_quiet block fact.base refl) [
        | inl left ↦ inl left
        | inr base ↦ inr (λ value names. elim names [
          | inl own ↦ pointer value own
          | inr own ↦ base value own
        ])
      ]
    ]

    -- what holds at a block of a path, where it isn't before the source
    pub record Passes (block : ℕ) (front : Pairs) : Type 0 where
      pub is_so : Left block ⊎ (front (operand_in fact.pointer) (base_in fact.base) ≡ true)

    pub passes_start : Passes 0 (at_entry func)
    passes_start = record { is_so = inl (inr from_entry) }

    passes_to : (from to : ℕ) (front : Pairs) → at_end from front ≡ true → Passes to (on_edge from (phis_in (lines_at func to)) (pairs_at_end (lines_at func from) front))
    passes_to from to front holds = elim (quiet_or to) [
      | inl left ↦ record { is_so = inl left }
      | inr quiet ↦ record { is_so = inr (quiet_edge from to (pairs_at_end (lines_at func from) front) quiet ∙ holds) }
    ]

    pub passes_more : (from to : ℕ) (front : Pairs) → Arrives func from front → Edge (graph_of func) from to → Passes from front → (from ≡ source → at_end from front ≡ true)
        → Passes to (on_edge from (phis_in (lines_at func to)) (pairs_at_end (lines_at func from) front))
    passes_more from to front arrives edge before holding = elim (cases_eq from source) [
      | inl same ↦ passes_to from to front (holding same)
      | inr apart ↦ elim (cases_Bool (waits func from)) [
        | inl waiting ↦ record { is_so = inl (inr (from_statepoint from to (arrives_reached func from front arrives) waiting apart edge)) }
        | inr plain ↦ elim before.is_so [
          | inl left ↦ record { is_so = inl (inr (slipped left apart plain)) }
          | inr holds ↦ elim (quiet_or from) [
            | inl left ↦ record { is_so = inl (inr (slipped left apart plain)) }
            | inr quiet ↦ passes_to from to front (quiet_end from front plain quiet ∙ holds)
          ]
        ]
      ]
    ]
      where
        slipped : Left from → (from ≡ source → ⊥) → waits func from ≡ false → Slips func source to
        slipped (inl same) apart plain = absurd (apart same)
        slipped (inr slips) apart plain = along from to slips plain apart edge

    pub passes_holds : (front : Pairs) → Passes fact.block front → front (operand_in fact.pointer) (base_in fact.base) ≡ true
    passes_holds front passes = elim passes.is_so [
      | inl (inl same) ↦ absurd (is.apart (sym same))
      | inl (inr slips) ↦ absurd (is.passes slips)
      | inr holds ↦ holds
    ]

    -- ---- what is missed at the end of the source

    record Loses (block : ℕ) : Type 0 where
      front : Pairs
      arrives : Arrives func block front
      fails : front (operand_in fact.pointer) (base_in fact.base) ≡ false

    module _ (lost : Pairs) (came : Arrives func source lost) (missed : at_end source lost ≡ false) where
      loses_to : (from to : ℕ) (front : Pairs) → Arrives func from front → Edge (graph_of func) from to → at_end from front ≡ false → Left to ⊎ Loses to
      loses_to from to front arrives edge fails = elim (quiet_or to) [
        | inl left ↦ inl left
        | inr quiet ↦ inr (record {
          front = on_edge from (phis_in (lines_at func to)) (pairs_at_end (lines_at func from) front);
          arrives = went from to front arrives edge;
          fails = quiet_edge from to (pairs_at_end (lines_at func from) front) quiet ∙ fails;
        })
      ]

      loses_along : (block : ℕ) (front : Pairs) → Arrives func block front → Left block ⊎ Loses block
      loses_along _ _ start = inl (inr from_entry)
      loses_along _ _ (went from to front arrives edge) = elim (cases_eq from source) [
        | inl same ↦ loses_to from to lost (subst (λ (b : ℕ). Arrives func b lost) (sym same) came) edge (subst (λ (b : ℕ). at_end b lost ≡ false) (sym same) missed)
        | inr apart ↦ elim (cases_Bool (waits func from)) [
          | inl waiting ↦ inl (inr (from_statepoint from to (arrives_reached func from front arrives) waiting apart edge))
          | inr plain ↦ elim (loses_along from front arrives) [
            | inl left ↦ inl (inr (slipped left apart plain))
            | inr loses ↦ elim (quiet_or from) [
              | inl left ↦ inl (inr (slipped left apart plain))
              | inr quiet ↦ loses_to from to loses.front loses.arrives edge (quiet_end from loses.front plain quiet ∙ loses.fails)
            ]
          ]
        ]
      ]
        where
          slipped : Left from → (from ≡ source → ⊥) → waits func from ≡ false → Slips func source to
          slipped (inl same) apart plain = absurd (apart same)
          slipped (inr slips) apart plain = along from to slips plain apart edge

      pub source_misses : (front : Pairs) → Arrives func fact.block front → fact.place ≡ phi_count (lines_at func fact.block) → MissesFact func fact
      source_misses front arrives place = elim (loses_along fact.block front arrives) [
        | inl (inl same) ↦ absurd (is.apart (sym same))
        | inl (inr slips) ↦ absurd (is.passes slips)
        | inr loses ↦ record { front = loses.front; arrives = loses.arrives; fails = front_holds func fact loses.front place ∙ loses.fails }
      ]

-- ---- homes

pub no_home : (func : Function) (homes : List (Option Home)) (value : ℕ) → KnowsHomes func (length func.blocks) 0 homes → home_in homes value ≡ None → 0 < length func.blocks
    → IsHomeBlock func value 0
no_home func homes value knows none some = record {
  inside = some;
  only = λ block place given. absurd (none-some (home_at block place) (sym none ∙ home_found func homes block place value knows given));
  entry = λ base holds. refl;
}

pub line_home : (func : Function) (homes : List (Option Home)) (value : ℕ) (home : Home) → KnowsHomes func (length func.blocks) 0 homes → home_in homes value ≡ Some home
    → length func.args ≤ value → IsHomeBlock func value home.block
line_home func homes value home knows found past = record {
  inside = gives_inside func home.block home.place value (knows.sound value home found);
  only = λ block place given. ap (λ (h : Home). h.block) (sym (same_Some home (home_at block place) (sym found ∙ home_found func homes block place value knows given)));
  entry = λ base holds. absurd (false≢true (sym (ap (λ (found : Option Arg). option_map_or (λ (arg : Arg). is_pointer arg.ty) found false) (slice_get_past func.args value past))
      ∙ (and_parts (is_pointer_argument func value) (own_pairs value base) holds).0));
}

-- ---- finding the source

pub source_found : (func : Function) (fact : Fact) (first second one other : ℕ) → AreNames fact first second → IsHomeBlock func first one → IsHomeBlock func second other
    → (one ≡ fact.block → ⊥) → IsLast func one other fact.block → IsSource func fact one
source_found func fact first second one other names first_is second_is apart last = record {
  inside = first_is.inside;
  reached = last.reached;
  apart = apart;
  passes = last.passes;
  near = λ value named_there. elim (names.only value named_there) [
    | inl same ↦ record { home = one; is = subst (λ (v : ℕ). IsHomeBlock func v one) (sym same) first_is; near = inl refl }
    | inr same ↦ record { home = other; is = subst (λ (v : ℕ). IsHomeBlock func v other) (sym same) second_is; near = last.near }
  ];
}

pub turned_names : (fact : Fact) (first second : ℕ) → AreNames fact first second → AreNames fact second first
turned_names fact first second names = record {
  one = names.other;
  other = names.one;
  only = λ value there. elim (names.only value there) [
    | inl same ↦ inr same
    | inr same ↦ inl same
  ];
}

-- ---- asking at the end of the source

pub can_ask_behind : (func : Function) (asked : Asked) (number : ℕ) (fact other : Fact) (source end : ℕ) → fact.place ≡ phi_count (lines_at func fact.block)
    → IsReached func fact.block → IsSource func fact source → IsFact asked number fact → end ≡ length (lines_at func source)
    → other ≡ record fact { block = source; place = end } → CanAsk func asked number other
can_ask_behind func asked number fact other source end place reached is stands end_is other_is =
    subst (CanAsk func asked number) (sym other_is) (record {
      place = record { block_inside = is.inside; place_inside = omega (arith, end_is) };
      outside = ap (λ (l : Line). is_member l.inst.op) (get_or_past (lines_at func source) end no_line (omega (arith, end_is)));
      reached = reached_arrives func source is.reached;
      misses = λ own own_is missed. subst (MissesFact func) (one_fact asked number fact own stands own_is)
          (source_misses func fact source is missed.front missed.arrives
          (ap (λ (n : ℕ). pairs_at (lines_at func source) missed.front n (operand_in fact.pointer) (base_in fact.base)) (sym end_is) ∙ missed.fails)
          reached.0 reached.1 place);
    })

pub behind_closed : (func : Function) (number : ℕ) (fact other : Fact) (source end : ℕ) (old new : Asked) → fact.place ≡ phi_count (lines_at func fact.block)
    → IsSource func fact source → end ≡ length (lines_at func source) → other ≡ record fact { block = source; place = end } → HasAsked func number other old new
    → HasClosed func number fact old new
behind_closed func number fact other source end old new place is end_is other_is has = record {
  asked = has.asked;
  grows = has.grows;
  closed = λ none. from_source source place is (λ front arrives holding.
      ap (λ (n : ℕ). pairs_at (lines_at func source) front n (operand_in fact.pointer) (base_in fact.base)) (sym end_is)
      ∙ ap (holds func front) (sym other_is)
      ∙ has.answered none front (arrives_sound func source front arrives)
      (λ n one there asks block up. holding n one there asks (block ∙ ap (λ (f : Fact). f.block) other_is)));
}
