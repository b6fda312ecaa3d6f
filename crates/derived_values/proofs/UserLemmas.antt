-- Users of values, and the marks of a search along them.
use Rattle.std.proofs.Common.{◌≡◌, ◌∙◌, ℕ, zero, suc, ◌<◌, ◌≤◌, ◌+◌, Bool, List, [], ◌∷◌, ◌++◌, length, get_or, set, take, replicate, Option, Some, None, slice_get, refl, ap, sym, subst, arith, inl, inr, ◌⊎◌}
use Rattle.std.specs.Prelude.{map}
use Rattle.std.specs.List.{Contains, filter_map}
use Rattle.std.specs.Option.{option_to_list}
use Rattle.std.proofs.lemmas.List.{length-set, take_more, length-replicate, take-map, length-map, get_or-map}
use Rattle.std.proofs.lemmas.List.Elements.{Contains-append_left, Contains-append_right, Contains-append_cases, filter_map-append}
use Rattle.std.proofs.lemmas.Option.{none-some, same_Some, slice_get_within}
use Rattle.list_laws.proofs.Places.{cases_below}
use Rattle.list_laws.proofs.Contents.{contains_none, contains_one, contains_first}
use Rattle.edge_rows.proofs.Rows.{pushed, pushed-kept, pushed-added, pushed-source}
use Rattle.graph_search.specs.Edges.{Edge, AreInside}
use Rattle.graph_search.specs.Paths.{MarksReached, ReachedFrom, at_start, along}
use Rattle.ir_ast.specs.declared.ops.Operand.{Operand}
use Rattle.ir_ast.specs.declared.types.Ty.{Ty}
use Rattle.ir_ast.specs.Operands.{value_in}
use Rattle.derived_values.specs.Givens.{Given, other, step, merge}
use Rattle.derived_values.specs.Deriveds.{UsedBy, DerivedIn, at_step, at_use, AreMarks}
use Rattle.derived_values.specs.Users.{AddsUsers, Notes, AreSources}
use Rattle.ir_ast.proofs.OpLaws.{one_operand}

-- ---- adding users

pub adds_none : (user : ℕ) (rows : List (List ℕ)) → AddsUsers [] user rows rows
adds_none user rows = record {
  whole = refl;
  kept = λ value one used. used;
  added = λ value there below. absurd (contains_none value there);
  source = λ value one used. inl used;
}

pub adds_past : (value user : ℕ) (rows : List (List ℕ)) → length rows ≤ value → AddsUsers (value ∷ []) user rows rows
adds_past value user rows past = record {
  whole = refl;
  kept = λ v one used. used;
  added = λ v there below. let same = contains_one value v there in absurd (omega (arith, same, below));
  source = λ v one used. inl used;
}

pub adds_one : (value user : ℕ) (rows new : List (List ℕ)) → value < length rows → new ≡ set rows value (get_or rows value [] ++ user ∷ [])
    → AddsUsers (value ∷ []) user rows new
adds_one value user rows new below is = subst (λ (n : List (List ℕ)). AddsUsers (value ∷ []) user rows n) (sym is) (record {
  whole = length-set rows value (get_or rows value [] ++ user ∷ []);
  kept = λ v one used. pushed-kept rows value user v one used;
  added = λ v there inside. subst (λ (w : ℕ). Edge (pushed rows value user) w user) (contains_one value v there) (pushed-added rows value user below);
  source = λ v one used. source v one (pushed-source rows value user v one used);
})
  where
    source : (v one : ℕ) → Edge rows v one ⊎ ((v ≡ value) × (one ≡ user)) → Edge rows v one ⊎ (Contains (value ∷ []) v × (one ≡ user))
    source v one (inl used) = inl used
    source v one (inr t) = inr (subst (λ (w : ℕ). Contains (value ∷ []) w) (sym t.0) (contains_first value []), t.1)

adds_append : (front back : List ℕ) (user : ℕ) (old rows new : List (List ℕ)) → AddsUsers front user old rows → AddsUsers back user rows new
    → AddsUsers (front ++ back) user old new
adds_append front back user old rows new first next = record {
  whole = next.whole ∙ first.whole;
  kept = λ v one used. next.kept v one (first.kept v one used);
  added = λ v there below. added v below (Contains-append_cases front back v there);
  source = λ v one used. source v one (next.source v one used);
}
  where
    added : (v : ℕ) → v < length old → Contains front v ⊎ Contains back v → Edge new v user
    added v below (inl there) = next.kept v user (first.added v there below)
    added v below (inr there) = next.added v there (omega (arith, first.whole, below))

    earlier : (v one : ℕ) → Edge old v one ⊎ (Contains front v × (one ≡ user)) → Edge old v one ⊎ (Contains (front ++ back) v × (one ≡ user))
    earlier v one (inl used) = inl used
    earlier v one (inr t) = inr (Contains-append_left front back v t.0, t.1)

    source : (v one : ℕ) → Edge rows v one ⊎ (Contains back v × (one ≡ user)) → Edge old v one ⊎ (Contains (front ++ back) v × (one ≡ user))
    source v one (inl used) = earlier v one (first.source v one used)
    source v one (inr t) = inr (Contains-append_right front back v t.0, t.1)

one_value : (o : Option ℕ) → option_to_list o ≡ filter_map (λ (x : Option ℕ). x) (o ∷ [])
one_value None = refl
one_value (Some value) = refl

-- one operand more
pub adds_operand : (operands : List Operand) (i : ℕ) (operand : Operand) (user : ℕ) (old rows new : List (List ℕ)) → i < length operands
    → AddsUsers (filter_map value_in (take i operands)) user old rows
    → AddsUsers (option_to_list (value_in (get_or operands i operand))) user rows new
    → AddsUsers (filter_map value_in (take (i + 1) operands)) user old new
adds_operand operands i operand user old rows new below first next =
    rw (take_more operands i operand below, filter_map-append value_in (take i operands) (get_or operands i operand ∷ []))
    (adds_append (filter_map value_in (take i operands)) (filter_map value_in (get_or operands i operand ∷ [])) user old rows new first
    (subst (λ (vs : List ℕ). AddsUsers vs user rows new) (one_operand (get_or operands i operand)) next))

-- one entry of a bundle more
pub adds_entry : (bundle : List (Ty × Operand)) (i : ℕ) (entry : Ty × Operand) (user : ℕ) (old rows new : List (List ℕ)) → i < length bundle
    → AddsUsers (filter_map value_in (map (λ one. one.1) (take i bundle))) user old rows
    → AddsUsers (option_to_list (value_in (get_or bundle i entry).1)) user rows new
    → AddsUsers (filter_map value_in (map (λ one. one.1) (take (i + 1) bundle))) user old new
adds_entry bundle i entry user old rows new below first next =
    let operands : List Operand = map (λ (one : Ty × Operand). one.1) bundle in
    let size : length operands ≡ length bundle = length-map bundle (λ (one : Ty × Operand). one.1) in
    let here : get_or operands i entry.1 ≡ (get_or bundle i entry).1 = get_or-map (λ (one : Ty × Operand). one.1) bundle i entry entry.1 below in
    subst (λ (xs : List Operand). AddsUsers (filter_map value_in xs) user old new) (take-map (λ (one : Ty × Operand). one.1) (i + 1) bundle)
    (adds_operand operands i entry.1 user old rows new (omega arith)
    (subst (λ (xs : List Operand). AddsUsers (filter_map value_in xs) user old rows) (sym (take-map (λ (one : Ty × Operand). one.1) i bundle)) first)
    (subst (λ (x : Operand). AddsUsers (option_to_list (value_in x)) user rows new) (sym here) next))

-- operands, and then a bundle
pub adds_used : (operands : List Operand) (bundle : List (Ty × Operand)) (user : ℕ) (old rows new : List (List ℕ)) → AddsUsers (filter_map value_in operands) user old rows
    → AddsUsers (filter_map value_in (map (λ entry. entry.1) bundle)) user rows new → AddsUsers (filter_map value_in (operands ++ map (λ entry. entry.1) bundle)) user old new
adds_used operands bundle user old rows new first next =
    let entries = map (λ (entry : Ty × Operand). entry.1) bundle in
    subst (λ (vs : List ℕ). AddsUsers vs user old new) (sym (filter_map-append value_in operands entries))
    (adds_append (filter_map value_in operands) (filter_map value_in entries) user old rows new first next)

-- ---- the sources of some values

none-used : (n v u : ℕ) → ¬ Edge (replicate n []) v u
none-used zero v u used = none-some u used.leads
none-used (suc n) zero u used = none-some u used.leads
none-used (suc n) (suc v) u used = none-used n v u (record { number = used.number; leads = used.leads })

pub sources_start : (givers : List Given) (found : List ℕ) (users : List (List ℕ)) (n : ℕ) → found ≡ [] → users ≡ replicate n [] → n ≡ length givers → AreSources givers 0 found users
sources_start givers found users n none is size = record {
  whole = rw is (length-replicate n [] ∙ size);
  step_found = λ value there. absurd (contains_none value (subst (λ (ns : List ℕ). Contains ns value) none there));
  step_kept = λ value below at. absurd (omega (arith, below));
  use_found = λ value user used. absurd (none-used n value user (subst (λ (rows : List (List ℕ)). Edge rows value user) is used));
  use_kept = λ value user below used inside. absurd (omega (arith, below));
}

-- ---- one value more

module _ (givers : List Given) (count : ℕ) (found more : List ℕ) (users rows : List (List ℕ)) (before : AreSources givers count found users) where
  given_here : (given one : Given) (value : ℕ) → slice_get givers count ≡ Some given → value ≡ count → slice_get givers value ≡ Some one → given ≡ one
  given_here given one value at same stands = same_Some given one (sym at ∙ ap (λ n. slice_get givers n) (sym same) ∙ stands)

  more_other : slice_get givers count ≡ Some other → more ≡ found → rows ≡ users → AreSources givers (count + 1) more rows
  more_other at same_found same_users =
      rw (same_found, same_users)
      (record {
        whole = before.whole;
        step_found = λ value there. let f = before.step_found value there in (omega (arith, f.0), f.1);
        step_kept = λ value below is. step_kept value is (cases_below value count below);
        use_found = λ value user used. let f = before.use_found value user used in (omega (arith, f.0), f.1);
        use_kept = λ value user below used inside. use_kept value user used inside (cases_below user count below);
      })
    where
      step_kept : (value : ℕ) → slice_get givers value ≡ Some step → (value < count) ⊎ (value ≡ count) → Contains found value
      step_kept value is (inl below) = before.step_kept value below is
      step_kept value is (inr same) = let bad : other ≡ step = given_here other step value at same is in absurd (cc)

      use_kept : (value user : ℕ) → UsedBy givers value user → value < length givers → (user < count) ⊎ (user ≡ count) → Edge users value user
      use_kept value user used inside (inl below) = before.use_kept value user below used inside
      use_kept value user used inside (inr same) = let bad : other ≡ merge used.values = given_here other (merge used.values) user at same used.stands in absurd (cc)

  more_step : slice_get givers count ≡ Some step → more ≡ found ++ count ∷ [] → rows ≡ users → AreSources givers (count + 1) more rows
  more_step at is_more same_users =
      rw (is_more, same_users)
      (record {
        whole = before.whole;
        step_found = λ value there. step_found value (Contains-append_cases found (count ∷ []) value there);
        step_kept = λ value below is. step_kept value is (cases_below value count below);
        use_found = λ value user used. let f = before.use_found value user used in (omega (arith, f.0), f.1);
        use_kept = λ value user below used inside. use_kept value user used inside (cases_below user count below);
      })
    where
      step_found : (value : ℕ) → Contains found value ⊎ Contains (count ∷ []) value → (value < count + 1) × (slice_get givers value ≡ Some step)
      step_found value (inl there) = let f = before.step_found value there in (omega (arith, f.0), f.1)
      step_found value (inr there) =
          let same = contains_one count value there in
          (omega (arith, same), ap (λ n. slice_get givers n) (sym same) ∙ at)

      step_kept : (value : ℕ) → slice_get givers value ≡ Some step → (value < count) ⊎ (value ≡ count) → Contains (found ++ count ∷ []) value
      step_kept value is (inl below) = Contains-append_left found (count ∷ []) value (before.step_kept value below is)
      step_kept value is (inr same) =
          Contains-append_right found (count ∷ []) value (subst (λ (n : ℕ). Contains (count ∷ []) n) (sym same) (contains_first count []))

      use_kept : (value user : ℕ) → UsedBy givers value user → value < length givers → (user < count) ⊎ (user ≡ count) → Edge users value user
      use_kept value user used inside (inl below) = before.use_kept value user below used inside
      use_kept value user used inside (inr same) = let bad : step ≡ merge used.values = given_here step (merge used.values) user at same used.stands in absurd (cc)

  more_merge : (values : List ℕ) → slice_get givers count ≡ Some (merge values) → more ≡ found → AddsUsers values count users rows → AreSources givers (count + 1) more rows
  more_merge values at same_found adds =
      rw same_found
      (record {
        whole = adds.whole ∙ before.whole;
        step_found = λ value there. let f = before.step_found value there in (omega (arith, f.0), f.1);
        step_kept = λ value below is. step_kept value is (cases_below value count below);
        use_found = λ value user used. use_found value user (adds.source value user used);
        use_kept = λ value user below used inside. use_kept value user used inside (cases_below user count below);
      })
    where
      step_kept : (value : ℕ) → slice_get givers value ≡ Some step → (value < count) ⊎ (value ≡ count) → Contains found value
      step_kept value is (inl below) = before.step_kept value below is
      step_kept value is (inr same) = let bad : merge values ≡ step = given_here (merge values) step value at same is in absurd (cc)

      use_found : (value user : ℕ) → Edge users value user ⊎ (Contains values value × (user ≡ count)) → (user < count + 1) × UsedBy givers value user
      use_found value user (inl used) = let f = before.use_found value user used in (omega (arith, f.0), f.1)
      use_found value user (inr t) =
          (omega (arith, t.1), record { values = values; stands = ap (λ n. slice_get givers n) t.1 ∙ at; used = t.0 })

      use_kept : (value user : ℕ) → UsedBy givers value user → value < length givers → (user < count) ⊎ (user ≡ count) → Edge rows value user
      use_kept value user used inside (inl below) = adds.kept value user (before.use_kept value user below used inside)
      use_kept value user used inside (inr same) =
          let alike : merge used.values ≡ merge values = sym (given_here (merge values) (merge used.values) user at same used.stands) in
          let same_values : used.values ≡ values = cc in
          subst (λ (n : ℕ). Edge rows value n) (sym same)
          (adds.added value (subst (λ (vs : List ℕ). Contains vs value) same_values used.used) (omega (arith, before.whole, inside)))

  pub sources_more : (given : Given) → slice_get givers count ≡ Some given → Notes given count found more users rows → AreSources givers (count + 1) more rows
  sources_more other at notes = more_other at notes.0 notes.1
  sources_more step at notes = more_step at notes.0 notes.1
  sources_more (merge values) at notes = more_merge values at notes.0 notes.1

-- ---- what the search needs, and what its marks are

module _ (givers : List Given) (found : List ℕ) (users : List (List ℕ)) (sources : AreSources givers (length givers) found users) where
  pub sources_inside : AreInside users found
  sources_inside = record {
    starts_inside = λ node there. let f = sources.step_found node there in omega (arith, f.0, sources.whole);
    edges_inside = λ from to edge. let f = sources.use_found from to edge in omega (arith, f.0, sources.whole);
  }

  reached_in : (value : ℕ) → ReachedFrom users found value → DerivedIn givers value
  reached_in _ (at_start node there) = at_step node (sources.step_found node there).1
  reached_in _ (along from to reached edge) = at_use from to (sources.use_found from to edge).1 (reached_in from reached)

  in_reached : (value : ℕ) → DerivedIn givers value → (value < length givers) × ReachedFrom users found value
  in_reached _ (at_step value at) =
      let inside = slice_get_within givers value step at in
      (inside, at_start value (sources.step_kept value inside at))
  in_reached _ (at_use value user used derived) =
      let inside = slice_get_within givers user (merge used.values) used.stands in
      let before = in_reached value derived in
      (inside, along value user before.1 (sources.use_kept value user inside used before.0))

  pub marks_of_search : (marks : List Bool) → MarksReached users found marks → AreMarks givers marks
  marks_of_search marks reached = record {
    whole = reached.whole ∙ sources.whole;
    sound = λ value marked. reached_in value (reached.sound value marked);
    complete = λ value derived. reached.complete value (in_reached value derived).1;
  }
