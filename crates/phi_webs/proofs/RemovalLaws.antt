-- What holds of each removal, and why the order of removals doesn't matter.
use Rattle.std.proofs.Common.{◌≡◌, ◌≢◌, inl, inr, Bool, List, refl, ap, sym, ◌∙◌, subst}
use Rattle.std.specs.List.{Contains}
use Rattle.phi_webs.specs.Webs.{Tells, Phi, NamedOnce, Rooted, outside, through, IsTrivial, replaced, Removal, none, one, IsMinimal}
use Rattle.phi_webs.specs.Statements.{RemovedAreSolved, KeptAreOpen, SettlesAtOnce, OutsideStays, MinimalAbsorbs, OrderIsFree, SharedIsKept}
use Rattle.phi_webs.proofs.TestLemmas.{same_or_not, replaced_at, replaced_beside, replaced_cases}

-- a name that became another is that of a phi
pub record IsPhiName {A : Type 0} (web : List (Phi A)) (n : A) : Type 0 where
  pub phi : Phi A
  pub stands : Contains web phi
  pub name_is : phi.name ≡ n

module _ {A : Type 0} (same : A → A → Bool) (tells : Tells same) where
  pub removed_is_phi : (web : List (Phi A)) (now : A → A) → Removal same web now → (n : A) → now n ≢ n → IsPhiName web n
  removed_is_phi web _ none n changed = absurd (changed refl)
  removed_is_phi web _ (one now phi value earlier trivial) n changed =
      elim (same_or_not same tells (now n) n) [
        | inl kept ↦ elim (replaced_cases same tells phi.name value (now n)) [
          | inl (here, _) ↦ record { phi = phi; stands = trivial.stands; name_is = sym here ∙ kept }
          | inr (_, stays) ↦ absurd (changed (stays ∙ kept))
        ]
        | inr before ↦ removed_is_phi web now earlier n before
      ]

  pub outside_stays : OutsideStays A same
  outside_stays web now removal n out = elim (same_or_not same tells (now n) n) [
    | inl kept ↦ kept
    | inr changed ↦ (let at : IsPhiName web n = removed_is_phi web now removal n changed in
        absurd (out at.phi at.stands (sym at.name_is)))
  ]

  -- what takes a phi's place is what its operand became, and stays
  value_stays : (web : List (Phi A)) (now : A → A) (phi : Phi A) (value : A) → ((n : A) → now (now n) ≡ now n)
      → IsTrivial web now phi value → now value ≡ value
  value_stays web now phi value settles trivial =
      let given : now trivial.some.0 ≡ value = trivial.some.2 in
      ap now (sym given) ∙ settles trivial.some.0 ∙ given

  pub settles_at_once : SettlesAtOnce A same
  settles_at_once web _ none n = refl
  settles_at_once web _ (one now phi value earlier trivial) n =
      let before : (m : A) → now (now m) ≡ now m = λ m. settles_at_once web now earlier m in
      let next : A → A = λ m. replaced same phi.name value m in
      elim (replaced_cases same tells phi.name value (now n)) [
        | inl (_, becomes) ↦
            ap (λ m. next (now m)) becomes
            ∙ ap next (value_stays web now phi value before trivial)
            ∙ replaced_beside same tells phi.name value value trivial.other
            ∙ sym becomes
        | inr (_, stays) ↦ ap (λ m. next (now m)) stays ∙ ap next (before n)
      ]

  pub removed_are_solved : RemovedAreSolved A same
  removed_are_solved web once _ none phi stands changed o within = absurd (changed refl)
  removed_are_solved web once _ (one now last value earlier trivial) phi stands changed o within =
      elim (same_or_not same tells (now phi.name) phi.name) [
        | inl kept ↦ elim (replaced_cases same tells last.name value (now phi.name)) [
          | inl (here, becomes) ↦
              (let is : phi ≡ last = once phi last stands trivial.stands (sym kept ∙ here) in
              let inside : Contains last.operands o = subst (λ (p : Phi A). Contains p.operands o) is within in
              elim (trivial.all o inside) [
                | inl itself ↦ replaced_at same tells last.name value (now o) itself ∙ sym becomes
                | inr other ↦ ap (λ m. replaced same last.name value m) other
                    ∙ replaced_beside same tells last.name value value trivial.other ∙ sym becomes
              ])
          | inr (_, stays) ↦ absurd (changed (stays ∙ kept))
        ]
        | inr before ↦ ap (λ m. replaced same last.name value m) (removed_are_solved web once now earlier phi stands before o within)
      ]

  -- nothing that comes from outside becomes a phi whose operands have all become itself
  never_closed : (web : List (Phi A)) → NamedOnce web → (now : A → A) → Removal same web now → (phi : Phi A) → Contains web phi
      → ((o : A) → Contains phi.operands o → now o ≡ phi.name) → (n : A) → Rooted web n → now n ≢ phi.name
  never_closed web once now removal phi stands closed _ (outside n out) becomes =
      out phi stands (sym (outside_stays web now removal n out) ∙ becomes)
  never_closed web once now removal phi stands closed _ (through other o there within rooted) becomes =
      never_closed web once now removal phi stands closed o rooted
      (elim (same_or_not same tells (now other.name) other.name) [
        | inl kept ↦ (let is : other ≡ phi = once other phi there stands (sym kept ∙ becomes) in
            closed o (subst (λ (p : Phi A). Contains p.operands o) is within))
        | inr changed ↦ removed_are_solved web once now removal other there changed o within ∙ becomes
      ])

  pub kept_are_open : KeptAreOpen A same
  kept_are_open web once now removal phi stands rooted kept closed =
      never_closed web once now removal phi stands closed phi.name rooted kept

  -- one more removal changes nothing behind a minimal one
  value_absorbed : (web : List (Phi A)) → NamedOnce web → (minimal : A → A) → Removal same web minimal → IsMinimal web minimal
      → (now : A → A) → ((n : A) → minimal (now n) ≡ minimal n) → (phi : Phi A) (value : A) → IsTrivial web now phi value
      → minimal value ≡ minimal phi.name
  value_absorbed web once minimal removal least now absorbs phi value trivial =
      let first : A = trivial.some.0 in
      let given : now first ≡ value = trivial.some.2 in
      let first_is : minimal first ≡ minimal value = sym (absorbs first) ∙ ap minimal given in
      elim (same_or_not same tells (minimal phi.name) phi.name) [
        | inl kept ↦ elim (same_or_not same tells (minimal value) phi.name) [
          | inl itself ↦ itself ∙ sym kept
          | inr other ↦ absurd (least phi (minimal value) (record {
            stands = trivial.stands;
            kept = kept;
            other = other;
            some = (first, trivial.some.1, first_is);
            all = λ o within. elim (trivial.all o within) [
              | inl same ↦ inl (sym (absorbs o) ∙ ap minimal same ∙ kept)
              | inr same ↦ inr (sym (absorbs o) ∙ ap minimal same)
            ];
          }))
        ]
        | inr changed ↦
            sym first_is ∙ removed_are_solved web once minimal removal phi trivial.stands changed first trivial.some.1
      ]

  absorbs_each : (web : List (Phi A)) → NamedOnce web → (minimal : A → A) → Removal same web minimal → IsMinimal web minimal
      → (other : A → A) → Removal same web other → (n : A) → minimal (other n) ≡ minimal n
  absorbs_each web once minimal removal least _ none n = refl
  absorbs_each web once minimal removal least _ (one now phi value earlier trivial) n =
      let before : (m : A) → minimal (now m) ≡ minimal m = λ m. absorbs_each web once minimal removal least now earlier m in
      elim (replaced_cases same tells phi.name value (now n)) [
        | inl (here, becomes) ↦
            ap minimal becomes
            ∙ value_absorbed web once minimal removal least now before phi value trivial
            ∙ ap minimal (sym here)
            ∙ before n
        | inr (_, stays) ↦ ap minimal stays ∙ before n
      ]

  pub minimal_absorbs : MinimalAbsorbs A same
  minimal_absorbs web once minimal other removal least others n = absorbs_each web once minimal removal least other others n

  pub order_is_free : OrderIsFree A same
  order_is_free web once rooted first second removal least removals fewest n =
      let back : first (second n) ≡ first n = minimal_absorbs web once first second removal least removals n in
      let forth : second (first n) ≡ second n = minimal_absorbs web once second first removals fewest removal n in
      elim (same_or_not same tells (first n) (second n)) [
        | inl is ↦ is
        | inr differ ↦
            (let changed : second (first n) ≢ first n = λ h. differ (sym h ∙ forth) in
            let at : IsPhiName web (first n) = removed_is_phi web second removals (first n) changed in
            let phi : Phi A = at.phi in
            let name_is : phi.name ≡ first n = at.name_is in
            let gone : second phi.name ≢ phi.name = λ h. changed (ap second (sym name_is) ∙ h ∙ name_is) in
            absurd (kept_are_open web once first removal phi at.stands (rooted phi at.stands)
            (ap first name_is ∙ settles_at_once web first removal n ∙ sym name_is)
            (λ o within.
            sym (minimal_absorbs web once first second removal least removals o)
            ∙ ap first (removed_are_solved web once second removals phi at.stands gone o within ∙ ap second name_is ∙ forth)
            ∙ back
            ∙ sym name_is)))
      ]

pub shared_is_kept : {A B : Type 0} (same : A → A → Bool) → Tells same → SharedIsKept A B same
shared_is_kept same tells web of shares _ none n = refl
shared_is_kept same tells web of shares _ (one now phi value earlier trivial) n =
    let first : _ = trivial.some.0 in
    let given : now first ≡ value = trivial.some.2 in
    elim (replaced_cases same tells phi.name value (now n)) [
      | inl (here, becomes) ↦
          ap of becomes
          ∙ ap of (sym given)
          ∙ shared_is_kept same tells web of shares now earlier first
          ∙ shares phi trivial.stands first trivial.some.1
          ∙ ap of (sym here)
          ∙ shared_is_kept same tells web of shares now earlier n
      | inr (_, stays) ↦ ap of stays ∙ shared_is_kept same tells web of shares now earlier n
    ]
