-- Names lead by steps to what they have become.
use Rattle.std.proofs.Common.{◌≡◌, ◌≢◌, ◌⊎◌, inl, inr, Bool, true, false, ℕ, zero, suc, ◌==◌, ◌+◌, ◌^◌, ◌<◌, ◌≤◌, List, length, slice_set, refl, ap, sym, ◌∙◌, subst, arith}
use Rattle.std.specs.Bool.{Decides}
use Rattle.std.proofs.lemmas.Bool.Decides.{Decides-eqb}
use Rattle.std.proofs.lemmas.List.{length-set, get_or_past, get_or-set_same, get_or-set_other}
use Rattle.phi_webs.specs.Webs.{Tells, Phi, IsTrivial, replaced}
use Rattle.phi_webs.specs.Forests.{up_of, Leads, IsEnd, KeepsEnds}
use Rattle.phi_webs.specs.Settled.{same}
use Rattle.phi_webs.proofs.TestLemmas.{same_or_not, tells_same, tells_other, replaced_at, replaced_beside}
use Rattle.std.proofs.lemmas.Bool.{cases_lt}

pub tells_numbers : Tells same
tells_numbers x y = Decides-eqb x y

pub number_or_not : (x y : ℕ) → (x ≡ y) ⊎ (x ≢ y)
number_or_not x y = same_or_not same tells_numbers x y

-- the end of a name is its own, and comes later than the name
pub record Comes {ups : List ℕ} {now : ℕ → ℕ} {last : ℕ} (leads : Leads ups now last) (n : ℕ) : Type 0 where
  pub stays : up_of ups (now n) ≡ now n
  pub late : (n ≡ now n) ⊎ (leads.time n < leads.time (now n))

comes_within : {ups : List ℕ} {now : ℕ → ℕ} {last : ℕ} (leads : Leads ups now last) (bound n : ℕ) → last < leads.time n + bound
    → Comes leads n
comes_within {ups} {now} {last} leads zero n left = absurd (let most : leads.time n ≤ last = leads.in_time n in omega arith)
comes_within {ups} {now} {last} leads (suc bound) n left = elim (number_or_not (up_of ups n) n) [
  | inl own ↦
      (let is : now n ≡ n = leads.ends n own in
      record { stays = subst (λ (m : ℕ). up_of ups m ≡ m) (sym is) own; late = inl (sym is) })
  | inr goes ↦
      (let next : leads.time n < leads.time (up_of ups n) = leads.later n goes in
      let comes : Comes leads (up_of ups n) = comes_within leads bound (up_of ups n) (omega arith) in
      let follows : now (up_of ups n) ≡ now n = leads.follows n in
      record {
        stays = subst (λ (m : ℕ). up_of ups m ≡ m) follows comes.stays;
        late = elim comes.late [
          | inl here ↦ inr (subst (λ (m : ℕ). leads.time n < leads.time m) (here ∙ follows) next)
          | inr later ↦ inr (subst (λ (m : ℕ). leads.time n < leads.time m) follows (omega arith))
        ];
      })
]

pub comes : {ups : List ℕ} {now : ℕ → ℕ} {last : ℕ} (leads : Leads ups now last) (n : ℕ) → Comes leads n
comes {ups} {now} {last} leads n = comes_within leads (suc last) n (omega arith)

pub now_settles : {ups : List ℕ} {now : ℕ → ℕ} {last : ℕ} → Leads ups now last → (n : ℕ) → now (now n) ≡ now n
now_settles {ups} {now} leads n = leads.ends (now n) (comes leads n).stays

pub kept_is_up : {ups : List ℕ} {now : ℕ → ℕ} {last : ℕ} → Leads ups now last → (n : ℕ) → now n ≡ n → up_of ups n ≡ n
kept_is_up {ups} leads n kept = subst (λ (m : ℕ). up_of ups m ≡ m) kept (comes leads n).stays

-- ---- one step is written

pub goes_within : (ups : List ℕ) (n : ℕ) → up_of ups n ≢ n → n < length ups
goes_within ups n goes = elim (cases_lt n (length ups)) [ inl below ↦ below | inr past ↦ absurd (goes (get_or_past ups n n past)) ]

pub up_put : (ups : List ℕ) (n value : ℕ) → n < length ups → up_of (slice_set ups n value) n ≡ value
up_put ups n value below = get_or-set_same ups n value n below

pub up_beside : (ups : List ℕ) (n value m : ℕ) → m ≢ n → up_of (slice_set ups n value) m ≡ up_of ups m
up_beside ups n value m other = get_or-set_other ups n m value m other

-- a name that isn't its own is put directly below its end
pub shortened : (ups : List ℕ) (now : ℕ → ℕ) (last : ℕ) (here end : ℕ) → Leads ups now last → now here ≡ end → up_of ups here ≢ here
    → Leads (slice_set ups here end) now last
shortened ups now last here end leads is goes = record {
  time = leads.time;
  in_time = leads.in_time;
  few = leads.few;
  follows = λ n. elim (number_or_not n here) [
    | inl at ↦ ap now (up_at n at) ∙ ap now (sym is) ∙ now_settles leads here ∙ ap now (sym at)
    | inr other ↦ ap now (up_beside ups here end n other) ∙ leads.follows n
  ];
  ends = λ n own. elim (number_or_not n here) [
    | inl at ↦ ap now at ∙ is ∙ sym (up_at n at) ∙ own
    | inr other ↦ leads.ends n (sym (up_beside ups here end n other) ∙ own)
  ];
  later = λ n moves. elim (number_or_not n here) [
    | inl at ↦ subst (λ (m : ℕ). leads.time n < leads.time m) (sym (up_at n at)) (elim (comes leads here).late [
      | inl same ↦ absurd (moves (up_at n at ∙ sym is ∙ sym same ∙ sym at))
      | inr later ↦ subst (λ (m : ℕ). leads.time m < leads.time end) (sym at) (subst (λ (m : ℕ). leads.time here < leads.time m) is later)
    ])
    | inr other ↦ subst (λ (m : ℕ). leads.time n < leads.time m) (sym (up_beside ups here end n other))
        (leads.later n (λ h. moves (up_beside ups here end n other ∙ h)))
  ];
}
  where
    up_at : (n : ℕ) → n ≡ here → up_of (slice_set ups here end) n ≡ end
    up_at n at = subst (λ (m : ℕ). up_of (slice_set ups here end) m ≡ end) (sym at) (up_put ups here end (goes_within ups here goes))

-- ---- one phi more goes

pub one_more : (web : List (Phi ℕ)) (ups : List ℕ) (now : ℕ → ℕ) (last : ℕ) (phi : Phi ℕ) (value : ℕ) → Leads ups now last
    → IsTrivial web now phi value → phi.name < length ups → suc last < 2 ^ 34
    → Leads (slice_set ups phi.name value) (λ n. replaced same phi.name value (now n)) (suc last)
one_more web ups now last phi value leads trivial below few = record {
  time = time;
  in_time = in_time;
  few = few;
  follows = λ n. elim (number_or_not n phi.name) [
    | inl at ↦ ap (λ m. replaced same phi.name value (now m)) (up_at n at)
        ∙ ap (λ m. replaced same phi.name value m) value_is
        ∙ replaced_beside same tells_numbers phi.name value value trivial.other
        ∙ sym (replaced_at same tells_numbers phi.name value (now n) (ap now at ∙ trivial.kept))
    | inr other ↦ ap (λ m. replaced same phi.name value (now m)) (up_beside ups phi.name value n other)
        ∙ ap (λ m. replaced same phi.name value m) (leads.follows n)
  ];
  ends = λ n own. elim (number_or_not n phi.name) [
    | inl at ↦ absurd (trivial.other (sym (up_at n at) ∙ own ∙ at))
    | inr other ↦
        (let before : now n ≡ n = leads.ends n (sym (up_beside ups phi.name value n other) ∙ own) in
        ap (λ m. replaced same phi.name value m) before ∙ replaced_beside same tells_numbers phi.name value n other)
  ];
  later = λ n moves. elim (number_or_not n phi.name) [
    | inl at ↦ subst (λ (m : ℕ). time n < time m) (sym (up_at n at))
        (time_below n at)
    | inr other ↦ subst (λ (m : ℕ). time n < time m) (sym (up_beside ups phi.name value n other))
        (later_beside n other (λ h. moves (up_beside ups phi.name value n other ∙ h)))
  ];
}
  where
    up_at : (n : ℕ) → n ≡ phi.name → up_of (slice_set ups phi.name value) n ≡ value
    up_at n at = subst (λ (m : ℕ). up_of (slice_set ups phi.name value) m ≡ value) (sym at) (up_put ups phi.name value below)

    given : now trivial.some.0 ≡ value
    given = trivial.some.2

    value_is : now value ≡ value
    value_is = ap now (sym given) ∙ now_settles leads trivial.some.0 ∙ given

    -- what is kept has the last time
    time_by : Bool → Bool → ℕ → ℕ
    time_by true own n = leads.time n
    time_by false true n = suc last
    time_by false false n = leads.time n

    time : ℕ → ℕ
    time n = time_by (n == phi.name) (up_of ups n == n) n

    in_time : (n : ℕ) → time n ≤ suc last
    in_time n = by (n == phi.name) (up_of ups n == n) (leads.in_time n)
      where
        by : (b c : Bool) → leads.time n ≤ last → time_by b c n ≤ suc last
        by true c le = omega arith
        by false true le = omega arith
        by false false le = omega arith

    time_kept : (n : ℕ) → n ≢ phi.name → up_of ups n ≡ n → time n ≡ suc last
    time_kept n other own =
        ap (λ b. time_by b (up_of ups n == n) n) (tells_other same tells_numbers n phi.name other)
        ∙ ap (λ b. time_by false b n) (tells_same same tells_numbers (up_of ups n) n own)

    time_old : (n : ℕ) → (n ≡ phi.name) ⊎ (up_of ups n ≢ n) → time n ≡ leads.time n
    time_old n h = by (n == phi.name) (up_of ups n == n) (tells_numbers n phi.name) (tells_numbers (up_of ups n) n) h
      where
        by : (b c : Bool) → Decides b (n ≡ phi.name) → Decides c (up_of ups n ≡ n) → (n ≡ phi.name) ⊎ (up_of ups n ≢ n) → time_by b c n ≡ leads.time n
        by true c d e h = refl
        by false false d e h = refl
        by false true d e (inl at) = (let wrong : false ≡ true = d.1 at in cc)
        by false true d e (inr goes) = absurd (goes (e.0 refl))

    time_below : (n : ℕ) → n ≡ phi.name → time n < time value
    time_below n at =
        let one : time n ≡ leads.time n = time_old n (inl at) in
        let two : time value ≡ suc last = time_kept value trivial.other (kept_is_up leads value value_is) in
        let le : leads.time n ≤ last = leads.in_time n in
        omega arith

    later_beside : (n : ℕ) → n ≢ phi.name → up_of ups n ≢ n → time n < time (up_of ups n)
    later_beside n other goes =
        let one : time n ≡ leads.time n = time_old n (inr goes) in
        let less : leads.time n < leads.time (up_of ups n) = leads.later n goes in
        let le : leads.time (up_of ups n) ≤ last = leads.in_time (up_of ups n) in
        elim (number_or_not (up_of ups n) phi.name) [
          | inl at ↦ (let two : time (up_of ups n) ≡ leads.time (up_of ups n) = time_old (up_of ups n) (inl at) in omega arith)
          | inr beside ↦ elim (number_or_not (up_of ups (up_of ups n)) (up_of ups n)) [
            | inl own ↦ (let two : time (up_of ups n) ≡ suc last = time_kept (up_of ups n) beside own in omega arith)
            | inr moves ↦ (let two : time (up_of ups n) ≡ leads.time (up_of ups n) = time_old (up_of ups n) (inr moves) in omega arith)
          ]
        ]

-- ---- the way to the end, and its shortening

-- after so many steps a name has the end of the first
pub record Climbs (ups : List ℕ) (name here steps : ℕ) : Type 0 where
  pub each : (now : ℕ → ℕ) (last : ℕ) (leads : Leads ups now last) → (now here ≡ now name) × (steps ≤ leads.time here)

pub climbs_more : (ups : List ℕ) (name here next steps : ℕ) → Climbs ups name here steps → next ≡ up_of ups here → next ≢ here
    → Climbs ups name next (steps + 1)
climbs_more ups name here next steps climbs is goes = record {
  each = λ now last leads.
      let before : (now here ≡ now name) × (steps ≤ leads.time here) = climbs.each now last leads in
      let less : leads.time here < leads.time (up_of ups here) = leads.later here (λ h. goes (is ∙ h)) in
      let time_is : leads.time next ≡ leads.time (up_of ups here) = ap leads.time is in
      (ap now is ∙ leads.follows here ∙ before.0, omega (arith, before.1));
}

pub climbed_up : (ups : List ℕ) (name here next steps : ℕ) → Climbs ups name here steps → next ≡ up_of ups here → next ≡ here
    → IsEnd ups name here
climbed_up ups name here next steps climbs is own now last leads =
    sym (leads.ends here (sym is ∙ own)) ∙ (climbs.each now last leads).0

pub climbs_ends : (ups : List ℕ) (name here steps : ℕ) → Climbs ups name here steps → 2 ^ 64 ≤ steps + 1 → IsEnd ups name here
climbs_ends ups name here steps climbs long now last leads =
    let at : steps ≤ leads.time here = (climbs.each now last leads).1 in
    let most : leads.time here ≤ last = leads.in_time here in
    let few : last < 2 ^ 34 = leads.few in
    absurd (omega arith)

pub record Shortens (old new : List ℕ) (here end : ℕ) : Type 0 where
  pub len : length new ≡ length old
  pub each : (now : ℕ → ℕ) (last : ℕ) → Leads old now last → Leads new now last × (now here ≡ end)

pub shortens_none : (ups : List ℕ) (name end : ℕ) → IsEnd ups name end → Shortens ups ups name end
shortens_none ups name end is = record { len = refl; each = λ now last leads. (leads, sym (is now last leads)) }

pub shortens_more : (old new newer : List ℕ) (here end next : ℕ) → Shortens old new here end → next ≡ up_of new here → next ≢ here
    → newer ≡ slice_set new here end → Shortens old newer next end
shortens_more old new newer here end next shortens is goes put = record {
  len = ap length put ∙ length-set new here end ∙ shortens.len;
  each = λ now last leads.
      let before : Leads new now last × (now here ≡ end) = shortens.each now last leads in (
        subst (λ (ups : List ℕ). Leads ups now last) (sym put)
            (shortened new now last here end before.0 before.1 (λ h. goes (is ∙ h))),
        ap now is ∙ before.0.follows here ∙ before.1,
      );
}
