-- Facts that are asked: a number more, an asker more, a fact that fails.
use Rattle.std.proofs.Common.{◌≡◌, ◌∙◌, ◌⊎◌, inl, inr, ℕ, zero, suc, ◌+◌, ◌<◌, ◌≤◌, Bool, true, false, List, [], ◌∷◌, ◌++◌, map, Some, refl, ap, sym, subst, slice_get, length, arith, get_or, set, cond, Vec}
use Rattle.std.specs.List.{Contains}
use Rattle.std.specs.declared.alloc.Global.{Global}
use Rattle.std.proofs.lemmas.Bool.{cases_eq}
use Rattle.std.proofs.lemmas.List.{length_push}
use Rattle.std.proofs.Math.ListN.{length-set}
use Rattle.std.proofs.lemmas.List.Elements.{Contains-append_left, Contains-append_right, Contains-append_cases}
use Rattle.std.proofs.lemmas.Option.{same_Some, slice_get_within, slice_get-get_or}
use Rattle.list_laws.proofs.Places.{get_front, get_some, get_middle, get_map, map_back, get_pushed, get_own}
use Rattle.list_laws.proofs.Contents.{contains_one, contains_none, contains_first}
use Rattle.ir_ast.specs.Funcs.{Function}
use Rattle.pair_facts.specs.Paths.{Arrives}
use Rattle.pair_facts.proofs.FreshLaws.{arrives_sound}
use Rattle.base_facts.specs.declared.facts.Fact.{Fact}
use Rattle.base_facts.specs.declared.search.Asked.{Asked}
use Rattle.base_facts.specs.Settled.{Decides, IsSettled, SettlesBy}
use Rattle.base_facts.specs.Asked.{IsReached, MissesFact, IsFact, rows_of, Asks, Grows, IsAsked, IsNumbered, MissedBy, AddsAsker, HasFailed, HasAsked}

pub grows_not : (asked : Asked) → Grows asked asked
grows_not asked = record { facts = λ number fact is. is; asks = λ number asker is. is; failing = λ number is. is }

pub grows_more : (first second third : Asked) → Grows first second → Grows second third → Grows first third
grows_more first second third one two = record {
  facts = λ number fact is. two.facts number fact (one.facts number fact is);
  asks = λ number asker is. two.asks number asker (one.asks number asker is);
  failing = λ number is. two.failing number (one.failing number is);
}

-- a fact that decides never is missed on each path
pub never_missed : (func : Function) (fact : Fact) → IsReached func fact.block → Decides func fact false → MissesFact func fact
never_missed func fact reached never = record {
  front = reached.0;
  arrives = reached.1;
  fails = never reached.0 (arrives_sound func fact.block reached.0 reached.1);
}

-- ---- the fact is missed

asks_inside : (func : Function) (asked : Asked) (number asker : ℕ) → length asked.askers.items ≡ length asked.facts.keys → Asks asked number asker → number < length asked.facts.keys
asks_inside func asked number asker same asks =
    let m = map_back (λ row. row.items) asked.askers.items number asks.row asks.stands in
    omega (arith, slice_get_within asked.askers.items number m.before m.stands)

pub has_failed : (func : Function) (asker : ℕ) (old new : Asked) → new.facts ≡ old.facts → new.askers ≡ old.askers → new.failing.items ≡ old.failing.items ++ asker ∷ []
    → asker < length old.facts.keys → ((fact : Fact) → IsFact old asker fact → MissesFact func fact) → IsAsked func old → HasFailed func asker old new
has_failed func asker old new facts askers failing inside misses are = record {
  asked = record {
    same = ap (λ (a : _). length a.items) askers ∙ are.same ∙ ap (λ (f : _). length f.keys) (sym facts);
    settled = λ number fact is. are.settled number fact (back number fact is);
    reached = λ number fact is. are.reached number fact (back number fact is);
    failing = λ number there. elim (cases number there) [
      | inl earlier ↦ omega (arith, are.failing number earlier, same_keys)
      | inr own ↦ omega (arith, own, inside, same_keys)
    ];
    misses = λ number fact there is. elim (cases number there) [
      | inl earlier ↦ are.misses number fact earlier (back number fact is)
      | inr own ↦ misses fact (subst (λ (n : ℕ). IsFact old n fact) own (back number fact is))
    ];
    asks = λ number one asks. omega (arith, are.asks number one (asks_back number one asks), same_keys);
    spreads = λ number one fact other asks is also. are.spreads number one fact other (asks_back number one asks) (back number fact is) (back one other also);
  };
  grows = record {
    facts = λ number fact is. ap (λ (f : _). slice_get f.keys number) facts ∙ is;
    asks = λ number one asks. record { row = asks.row; stands = ap (λ (a : _). slice_get (map (λ row. row.items) a.items) number) askers ∙ asks.stands; contained = asks.contained };
    failing = λ number there. subst (λ (xs : List ℕ). Contains xs number) (sym failing) (Contains-append_left old.failing.items (asker ∷ []) number there);
  };
  failed = subst (λ (xs : List ℕ). Contains xs asker) (sym failing) (Contains-append_right old.failing.items (asker ∷ []) asker (contains_first asker []));
}
  where
    same_keys : length new.facts.keys ≡ length old.facts.keys
    same_keys = ap (λ (f : _). length f.keys) facts

    back : (number : ℕ) (fact : Fact) → IsFact new number fact → IsFact old number fact
    back number fact is = ap (λ (f : _). slice_get f.keys number) (sym facts) ∙ is

    asks_back : (number one : ℕ) → Asks new number one → Asks old number one
    asks_back number one asks = record { row = asks.row; stands = ap (λ (a : _). slice_get (map (λ row. row.items) a.items) number) (sym askers) ∙ asks.stands; contained = asks.contained }

    cases : (number : ℕ) → Contains new.failing.items number → Contains old.failing.items number ⊎ (number ≡ asker)
    cases number there = elim (Contains-append_cases old.failing.items (asker ∷ []) number (subst (λ (xs : List ℕ). Contains xs number) failing there)) [
      | inl earlier ↦ inl earlier
      | inr own ↦ inr (sym (contains_one asker number own))
    ]

-- ---- an answer

-- a fact that asks for another
pub other_asked : (func : Function) (asker number : ℕ) (fact other : Fact) (old mid new : Asked) → IsAsked func old → asker < length old.facts.keys
    → IsReached func fact.block → MissedBy func old asker fact → SettlesBy func fact other → IsNumbered other number old mid → AddsAsker number asker mid new
    → HasAsked func asker fact old new
other_asked func asker number fact other old mid new are inside reached missed settles numbered added = record {
  asked = record {
    same = added.same ∙ numbered.same ∙ ap (λ (f : _). length f.keys) (sym added.facts);
    settled = λ n one is. elim (numbered.facts n one (to_mid n one is)) [
      | inl earlier ↦ are.settled n one earlier
      | inr own ↦ subst (IsSettled func) (sym own) settles.settled
    ];
    reached = λ n one is. elim (numbered.facts n one (to_mid n one is)) [
      | inl earlier ↦ are.reached n one earlier
      | inr own ↦ subst (λ (b : ℕ). IsReached func b) (sym (ap (λ (f : Fact). f.block) own ∙ settles.block)) reached
    ];
    failing = λ n there. omega (arith, are.failing n (failing_back n there), longer);
    misses = λ n one there is. are.misses n one (failing_back n there) (was n one (are.failing n (failing_back n there)) is);
    asks = λ n one asks. elim (asks_back n one asks) [
      | inl earlier ↦ omega (arith, are.asks n one earlier, longer)
      | inr own ↦ omega (arith, own.1, inside, longer)
    ];
    spreads = λ n one f o asks is also. elim (asks_back n one asks) [
      | inl earlier ↦ are.spreads n one f o earlier (was n f (asks_inside func old n one are.same earlier) is) (was one o (are.asks n one earlier) also)
      | inr own ↦ (λ misses.
          let f_is : f ≡ other = same_Some f other (sym (subst (λ (k : ℕ). IsFact new k f) own.0 is) ∙ stands) in
          missed o (was asker o inside (subst (λ (k : ℕ). IsFact new k o) own.1 also))
          (missed_fact (subst (MissesFact func) f_is misses)))
    ];
  };
  grows = grows;
  answered = λ none front sound holding.
      settles.same front sound ∙ holding number other stands added.added settles.block settles.up;
}
  where
    to_mid : (n : ℕ) (one : Fact) → IsFact new n one → IsFact mid n one
    to_mid n one is = ap (λ (f : _). slice_get f.keys n) (sym added.facts) ∙ is

    stands : IsFact new number other
    stands = ap (λ (f : _). slice_get f.keys number) added.facts ∙ numbered.stands

    longer : length old.facts.keys ≤ length new.facts.keys
    longer = omega (arith, numbered.longer, ap (λ (f : _). length f.keys) added.facts)

    grows : Grows old new
    grows = record {
      facts = λ n one is. ap (λ (f : _). slice_get f.keys n) added.facts ∙ numbered.grows.facts n one is;
      asks = λ n one asks. added.kept n one (numbered.grows.asks n one asks);
      failing = λ n there. subst (λ (f : _). Contains f.items n) (sym added.failing) (numbered.grows.failing n there);
    }

    failing_back : (n : ℕ) → Contains new.failing.items n → Contains old.failing.items n
    failing_back n there = subst (λ (f : _). Contains f.items n) numbered.failing (subst (λ (f : _). Contains f.items n) added.failing there)

    was : (n : ℕ) (one : Fact) → n < length old.facts.keys → IsFact new n one → IsFact old n one
    was n one below is =
        let found = get_some old.facts.keys n below in
        let again : IsFact new n found.0 = ap (λ (f : _). slice_get f.keys n) added.facts ∙ numbered.grows.facts n found.0 found.1 in
        found.1 ∙ ap Some (same_Some found.0 one (sym again ∙ is))

    asks_back : (n one : ℕ) → Asks new n one → Asks old n one ⊎ ((n ≡ number) × (one ≡ asker))
    asks_back n one asks = elim (added.others n one asks) [
      | inl earlier ↦ inl (numbered.askers n one earlier)
      | inr own ↦ inr own
    ]

    missed_fact : MissesFact func other → MissesFact func fact
    missed_fact misses =
        let arrives : Arrives func fact.block misses.front = subst (λ (b : ℕ). Arrives func b misses.front) settles.block misses.arrives in
        record {
          front = misses.front;
          arrives = arrives;
          fails = settles.same misses.front (arrives_sound func fact.block misses.front arrives) ∙ misses.fails;
        }

-- ---- a number more, an asker more

key_new : (test : Bool) (keys new : List Fact) (fact : Fact) → new ≡ cond test keys (keys ++ fact ∷ []) → length new ≡ length keys + 1 → new ≡ keys ++ fact ∷ []
key_new true keys new fact is long = absurd (omega (arith, long, ap length is))
key_new false keys new fact is long = is

map_pushed : {A B : Type 0} (f : A → B) (xs : List A) (x : A) → map f (xs ++ x ∷ []) ≡ map f xs ++ f x ∷ []
map_pushed f [] x = refl
map_pushed f (y ∷ xs) x = ap (λ rest. f y ∷ rest) (map_pushed f xs x)

pub numbered_new : (fact : Fact) (number : ℕ) (test : Bool) (old new : Asked) (row : Vec ℕ Global) → new.facts.keys ≡ cond test old.facts.keys (old.facts.keys ++ fact ∷ [])
    → length new.facts.keys ≡ length old.facts.keys + 1 → new.askers.items ≡ old.askers.items ++ row ∷ [] → row.items ≡ [] → new.failing ≡ old.failing
    → number ≡ length old.askers.items → length old.askers.items ≡ length old.facts.keys → IsNumbered fact number old new
numbered_new fact number test old new row keys_are long askers_are none failing number_is same =
    let keys : new.facts.keys ≡ old.facts.keys ++ fact ∷ [] = key_new test old.facts.keys new.facts.keys fact keys_are long in
    let rows : rows_of new ≡ rows_of old ++ row.items ∷ [] = ap (map (λ (v : Vec ℕ Global). v.items)) askers_are ∙ map_pushed (λ (v : Vec ℕ Global). v.items) old.askers.items row in
    let at_end : number ≡ length old.facts.keys = number_is ∙ same in
    record {
      grows = record {
        facts = λ n one is. subst (λ (xs : List Fact). slice_get xs n ≡ Some one) (sym keys) (get_front old.facts.keys (fact ∷ []) n one is);
        asks = λ n one asks. record {
          row = asks.row;
          stands = subst (λ (xs : List (List ℕ)). slice_get xs n ≡ Some asks.row) (sym rows) (get_front (rows_of old) (row.items ∷ []) n asks.row asks.stands);
          contained = asks.contained;
        };
        failing = λ n there. subst (λ (f : Vec ℕ Global). Contains f.items n) (sym failing) there;
      };
      stands = subst (λ (xs : List Fact). slice_get xs number ≡ Some fact) (sym keys)
          (subst (λ (n : ℕ). slice_get (old.facts.keys ++ fact ∷ []) n ≡ Some fact) (sym at_end) (get_middle old.facts.keys fact []));
      same = ap length askers_are ∙ length_push old.askers.items row ∙ ap (λ (n : ℕ). n + 1) same ∙ sym long;
      facts = λ n one is. get_pushed old.facts.keys fact n one (subst (λ (xs : List Fact). slice_get xs n ≡ Some one) keys is);
      askers = λ n one asks. elim (get_pushed (rows_of old) row.items n asks.row (subst (λ (xs : List (List ℕ)). slice_get xs n ≡ Some asks.row) rows asks.stands)) [
        | inl earlier ↦ record { row = asks.row; stands = earlier; contained = asks.contained }
        | inr last ↦ absurd (contains_none one (subst (λ (xs : List ℕ). Contains xs one) (last ∙ none) asks.contained))
      ];
      failing = failing;
      longer = omega (arith, long);
    }

get_elsewhere : {A : Type 0} (xs : List A) (j k : ℕ) (y : A) → (k ≡ j → ⊥) → slice_get (set xs j y) k ≡ slice_get xs k
get_elsewhere [] j k y apart = refl
get_elsewhere (x ∷ xs) zero zero y apart = absurd (apart refl)
get_elsewhere (x ∷ xs) zero (suc k) y apart = refl
get_elsewhere (x ∷ xs) (suc j) zero y apart = refl
get_elsewhere (x ∷ xs) (suc j) (suc k) y apart = get_elsewhere xs j k y (λ same. apart (ap suc same))

pub adds_asker : (number asker : ℕ) (old new : Asked) (before after : Vec ℕ Global) → number < length old.askers.items → before ≡ get_or old.askers.items number before
    → after.items ≡ before.items ++ asker ∷ [] → new.facts ≡ old.facts → new.failing ≡ old.failing → new.askers.items ≡ set old.askers.items number after
    → AddsAsker number asker old new
adds_asker number asker old new before after inside read pushed facts failing written = record {
  facts = facts;
  failing = failing;
  same = ap length written ∙ length-set old.askers.items number after;
  kept = λ other one asks. elim (cases_eq other number) [
    | inl same ↦
        (let own : slice_get (rows_of old) number ≡ Some asks.row = subst (λ (n : ℕ). slice_get (rows_of old) n ≡ Some asks.row) same asks.stands in
        let row_is : asks.row ≡ before.items = same_Some asks.row before.items (sym own ∙ get_map (λ (v : Vec ℕ Global). v.items) old.askers.items number before there) in
        record {
          row = after.items;
          stands = subst (λ (n : ℕ). slice_get (rows_of new) n ≡ Some after.items) (sym same) now;
          contained = subst (λ (xs : List ℕ). Contains xs one) (sym pushed) (Contains-append_left before.items (asker ∷ []) one (subst (λ (xs : List ℕ). Contains xs one) row_is asks.contained));
        })
    | inr apart ↦
        (let m = map_back (λ (v : Vec ℕ Global). v.items) old.askers.items other asks.row asks.stands in
        record {
          row = asks.row;
          stands = get_map (λ (v : Vec ℕ Global). v.items) new.askers.items other m.before (ap (λ (xs : List (Vec ℕ Global)). slice_get xs other) written ∙ get_elsewhere old.askers.items number other after apart ∙ m.stands) ∙ ap Some (sym m.is);
          contained = asks.contained;
        })
  ];
  added = record {
    row = after.items;
    stands = now;
    contained = subst (λ (xs : List ℕ). Contains xs asker) (sym pushed) (Contains-append_right before.items (asker ∷ []) asker (contains_first asker []));
  };
  others = λ other one asks. elim (cases_eq other number) [
    | inl same ↦
        (let own : slice_get (rows_of new) number ≡ Some asks.row = subst (λ (n : ℕ). slice_get (rows_of new) n ≡ Some asks.row) same asks.stands in
        let row_is : asks.row ≡ before.items ++ asker ∷ [] = same_Some asks.row after.items (sym own ∙ now) ∙ pushed in
        elim (Contains-append_cases before.items (asker ∷ []) one (subst (λ (xs : List ℕ). Contains xs one) row_is asks.contained)) [
          | inl earlier ↦ inl (record {
            row = before.items;
            stands = subst (λ (n : ℕ). slice_get (rows_of old) n ≡ Some before.items) (sym same) (get_map (λ (v : Vec ℕ Global). v.items) old.askers.items number before there);
            contained = earlier;
          })
          | inr last ↦ inr (same, sym (contains_one asker one last))
        ])
    | inr apart ↦
        (let m = map_back (λ (v : Vec ℕ Global). v.items) new.askers.items other asks.row asks.stands in
        inl (record {
          row = asks.row;
          stands = get_map (λ (v : Vec ℕ Global). v.items) old.askers.items other m.before (sym (get_elsewhere old.askers.items number other after apart) ∙ ap (λ (xs : List (Vec ℕ Global)). slice_get xs other) (sym written) ∙ m.stands) ∙ ap Some (sym m.is);
          contained = asks.contained;
        }))
  ];
}
  where
    there : slice_get old.askers.items number ≡ Some before
    there = slice_get-get_or old.askers.items number before inside ∙ ap Some (sym read)

    now : slice_get (rows_of new) number ≡ Some after.items
    now = get_map (λ (v : Vec ℕ Global). v.items) new.askers.items number after (ap (λ (xs : List (Vec ℕ Global)). slice_get xs number) written ∙ get_own old.askers.items number after inside)
