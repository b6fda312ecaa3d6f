-- Looks at the operands of a phi, one after another, and at one phi after another.
use Rattle.std.proofs.Common.{◌≡◌, ◌≢◌, ◌⊎◌, inl, inr, length-append, ℕ, suc, ◌+◌, ◌^◌, ◌<◌, ◌≤◌, List, [], ◌∷◌, ◌++◌, length, take, get_or, slice_set, slice_index_or, Option, Some, None, IfSome, IfNone, refl, ap, sym, ◌∙◌, subst, arith}
use Rattle.std.specs.List.{Contains}
use Rattle.std.proofs.lemmas.Option.{none-some, same_Some}
use Rattle.std.proofs.lemmas.List.Elements.{All-contains, All-take, All-contains_itself, Contains-append_left, Contains-append_right, Contains-append_cases}
use Rattle.std.proofs.lemmas.List.{length-set, get_or_past, get_or_append_left, get_or_default, take_more, map_more}
use Rattle.list_laws.proofs.Contents.{contains_none, contains_first, contains_one, contains_map}
use Rattle.phi_webs.specs.Webs.{Phi, IsTrivial, replaced, none, one}
use Rattle.phi_webs.specs.Becomes.{becomes}
use Rattle.phi_webs.specs.Forests.{up_of, Leads, IsEnd, KeepsEnds}
use Rattle.phi_webs.specs.declared.rows.PhiRow.{PhiRow}
use Rattle.phi_webs.specs.declared.rows.Replaced.{Replaced}
use Rattle.phi_webs.specs.Settled.{same, phi_of, web_of, IsSettled, AnswersBecomes, HasOther, HasNoOther, CanGo, NoneCanGo, HasRoom, IsUnderWay, EndIsNoted}
use Rattle.phi_webs.proofs.RemovalLaws.{order_is_free}
use Rattle.phi_webs.proofs.BecomesLaws.{becomes_is_removal, becomes_is_minimal}
use Rattle.phi_webs.proofs.ForestLemmas.{tells_numbers, number_or_not, kept_is_up, one_more}
use Rattle.std.proofs.lemmas.Bool.{cases_lt}

-- ---- names keep what they have become

pub keeps_none : (ups : List ℕ) → KeepsEnds ups ups
keeps_none ups = record { ends = λ now last leads. leads; len = refl }

pub keeps_both : (old mid new : List ℕ) → KeepsEnds old mid → KeepsEnds mid new → KeepsEnds old new
keeps_both old mid new first second = record {
  ends = λ now last leads. second.ends now last (first.ends now last leads);
  len = second.len ∙ first.len;
}

-- ---- operands

-- of these operands one at most has become another name, the one that was found
pub record IsFound (now : ℕ → ℕ) (name : ℕ) (operands : List ℕ) (value : ℕ) : Type 0 where
  pub other : value ≢ name
  pub some : (o : ℕ) × Contains operands o × (now o ≡ value)
  pub all : (o : ℕ) → Contains operands o → (now o ≡ name) ⊎ (now o ≡ value)

pub Gathered : (ℕ → ℕ) → ℕ → List ℕ → Option ℕ → Type 0
Gathered now name operands None = (o : ℕ) → Contains operands o → now o ≡ name
Gathered now name operands (Some value) = IsFound now name operands value

pub gathered_none : (now : ℕ → ℕ) (name : ℕ) → Gathered now name [] None
unfolding Gathered
gathered_none now name o within = absurd (contains_none o within)

last_of : (now : ℕ → ℕ) (operands : List ℕ) (o : ℕ) (P : ℕ → Type 0) → ((m : ℕ) → Contains operands m → P (now m)) → P (now o)
    → (m : ℕ) → Contains (operands ++ o ∷ []) m → P (now m)
last_of now operands o P before here m within = elim (Contains-append_cases operands (o ∷ []) m within) [
  | inl earlier ↦ before m earlier
  | inr last ↦ subst (λ (n : ℕ). P (now n)) (contains_one o m last) here
]

pub gathered_itself : (now : ℕ → ℕ) (name : ℕ) (operands : List ℕ) (o : ℕ) (found : Option ℕ) → Gathered now name operands found
    → now o ≡ name → Gathered now name (operands ++ o ∷ []) found
unfolding Gathered
gathered_itself now name operands o None gathered itself = last_of now operands o (λ n. n ≡ name) gathered itself
gathered_itself now name operands o (Some value) gathered itself = record {
  other = gathered.other;
  some = (gathered.some.0, Contains-append_left operands (o ∷ []) gathered.some.0 gathered.some.1, gathered.some.2);
  all = last_of now operands o (λ n. (n ≡ name) ⊎ (n ≡ value)) gathered.all (inl itself);
}

contains_last : (operands : List ℕ) (o : ℕ) → Contains (operands ++ o ∷ []) o
contains_last operands o = Contains-append_right operands (o ∷ []) o (contains_first o [])

pub gathered_first : (now : ℕ → ℕ) (name : ℕ) (operands : List ℕ) (o end : ℕ) → Gathered now name operands None
    → end ≡ now o → end ≢ name → Gathered now name (operands ++ o ∷ []) (Some end)
unfolding Gathered
gathered_first now name operands o end gathered is other = record {
  other = other;
  some = (o, contains_last operands o, sym is);
  all = last_of now operands o (λ n. (n ≡ name) ⊎ (n ≡ end)) (λ m within. inl (gathered m within)) (inr (sym is));
}

pub gathered_again : (now : ℕ → ℕ) (name : ℕ) (operands : List ℕ) (o value : ℕ) → Gathered now name operands (Some value)
    → now o ≡ value → Gathered now name (operands ++ o ∷ []) (Some value)
unfolding Gathered
gathered_again now name operands o value gathered is = record {
  other = gathered.other;
  some = (gathered.some.0, Contains-append_left operands (o ∷ []) gathered.some.0 gathered.some.1, gathered.some.2);
  all = last_of now operands o (λ n. (n ≡ name) ⊎ (n ≡ value)) gathered.all (inr is);
}

-- two different operands, none of which has become the phi
pub two_others : (web : List (Phi ℕ)) (now : ℕ → ℕ) (phi : Phi ℕ) (value : ℕ) (operands : List ℕ) (found o : ℕ)
    → ((m : ℕ) → Contains operands m → Contains phi.operands m) → Gathered now phi.name operands (Some found)
    → Contains phi.operands o → now o ≢ phi.name → now o ≢ found → ¬ IsTrivial web now phi value
unfolding Gathered
two_others web now phi value operands found o inside gathered within other differs trivial =
    let first : ℕ = gathered.some.0 in
    let first_is : now first ≡ found = gathered.some.2 in
    elim (trivial.all first (inside first gathered.some.1)) [
      | inl itself ↦ gathered.other (sym first_is ∙ itself)
      | inr before ↦ elim (trivial.all o within) [
        | inl itself ↦ other itself
        | inr here ↦ differs (here ∙ sym before ∙ first_is)
      ]
    ]

-- the look at a phi, so many operands of which were passed
pub record Looks (old new : List ℕ) (phi : Phi ℕ) (passed : List ℕ) (found : Option ℕ) : Type 0 where
  pub len : length new ≡ length old
  pub each : (now : ℕ → ℕ) (last : ℕ) → Leads old now last
      → Leads new now last × (now phi.name ≡ phi.name) × Gathered now phi.name passed found

pub looks_none : (ups : List ℕ) (phi : Phi ℕ) → up_of ups phi.name ≡ phi.name → Looks ups ups phi [] None
looks_none ups phi own = record {
  len = refl;
  each = λ now last leads. (leads, leads.ends phi.name own, gathered_none now phi.name);
}

-- one operand more has been looked at
pub looks_itself : (old new newer : List ℕ) (phi : Phi ℕ) (passed more : List ℕ) (o end : ℕ) (found : Option ℕ)
    → Looks old new phi passed found → KeepsEnds new newer → IsEnd new o end → end ≡ phi.name → more ≡ passed ++ o ∷ []
    → Looks old newer phi more found
looks_itself old new newer phi passed more o end found looks keeps is itself next = record {
  len = keeps.len ∙ looks.len;
  each = λ now last leads.
      let before : Leads new now last × (now phi.name ≡ phi.name) × Gathered now phi.name passed found = looks.each now last leads in (
        keeps.ends now last before.0,
        before.1,
        subst (λ (xs : List ℕ). Gathered now phi.name xs found) (sym next)
            (gathered_itself now phi.name passed o found before.2 (sym (is now last before.0) ∙ itself)),
      );
}

pub looks_first : (old new newer : List ℕ) (phi : Phi ℕ) (passed more : List ℕ) (o end : ℕ)
    → Looks old new phi passed None → KeepsEnds new newer → IsEnd new o end → end ≢ phi.name → more ≡ passed ++ o ∷ []
    → Looks old newer phi more (Some end)
looks_first old new newer phi passed more o end looks keeps is other next = record {
  len = keeps.len ∙ looks.len;
  each = λ now last leads.
      let before : Leads new now last × (now phi.name ≡ phi.name) × Gathered now phi.name passed None = looks.each now last leads in (
        keeps.ends now last before.0,
        before.1,
        subst (λ (xs : List ℕ). Gathered now phi.name xs (Some end)) (sym next)
            (gathered_first now phi.name passed o end before.2 (is now last before.0) other),
      );
}

pub looks_again : (old new newer : List ℕ) (phi : Phi ℕ) (passed more : List ℕ) (o end value : ℕ)
    → Looks old new phi passed (Some value) → KeepsEnds new newer → IsEnd new o end → value ≡ end → more ≡ passed ++ o ∷ []
    → Looks old newer phi more (Some value)
looks_again old new newer phi passed more o end value looks keeps is same next = record {
  len = keeps.len ∙ looks.len;
  each = λ now last leads.
      let before : Leads new now last × (now phi.name ≡ phi.name) × Gathered now phi.name passed (Some value) = looks.each now last leads in (
        keeps.ends now last before.0,
        before.1,
        subst (λ (xs : List ℕ). Gathered now phi.name xs (Some value)) (sym next)
            (gathered_again now phi.name passed o value before.2 (sym (is now last before.0) ∙ sym same)),
      );
}

pub looks_more : (old new newer : List ℕ) (phi : Phi ℕ) (passed more : List ℕ) (o end : ℕ) (found next : Option ℕ)
    → Looks old new phi passed found → KeepsEnds new newer → IsEnd new o end → EndIsNoted phi.name found end (Some next) → more ≡ passed ++ o ∷ []
    → Looks old newer phi more next
looks_more old new newer phi passed more o end found next looks keeps is noted pushed =
    elim noted [
      | inl itself ↦ subst (λ (f : Option ℕ). Looks old newer phi more f) (sym itself.1)
          (looks_itself old new newer phi passed more o end found looks keeps is itself.0 pushed)
      | inr others ↦ elim others [
        | inl first ↦ subst (λ (f : Option ℕ). Looks old newer phi more f) (sym first.2)
            (looks_first old new newer phi passed more o end (subst (λ (f : Option ℕ). Looks old new phi passed f) first.1 looks) keeps is first.0 pushed)
        | inr again ↦ subst (λ (f : Option ℕ). Looks old newer phi more f) (sym (again.1 ∙ again.0))
            (looks_again old new newer phi passed more o end end (subst (λ (f : Option ℕ). Looks old new phi passed f) again.0 looks) keeps is refl pushed)
      ]
    ]

-- the answers of a look
pub none_if_gone : (ups : List ℕ) (phi : Phi ℕ) → up_of ups phi.name ≢ phi.name → HasNoOther ups phi
none_if_gone ups phi goes now last leads web value trivial = goes (kept_is_up leads phi.name trivial.kept)

pub none_if_two : (old new : List ℕ) (phi : Phi ℕ) (passed : List ℕ) (found o end : ℕ) → Looks old new phi passed (Some found)
    → ((m : ℕ) → Contains passed m → Contains phi.operands m) → Contains phi.operands o → IsEnd new o end → end ≢ phi.name → found ≢ end
    → HasNoOther old phi
none_if_two old new phi passed found o end looks inside within is other differs now last leads web value trivial =
    let before : Leads new now last × (now phi.name ≡ phi.name) × Gathered now phi.name passed (Some found) = looks.each now last leads in
    let end_is : end ≡ now o = is now last before.0 in
    two_others web now phi value passed found o inside before.2 within (λ h. other (end_is ∙ h)) (λ h. differs (sym h ∙ sym end_is)) trivial

pub two_noted : (old new : List ℕ) (phi : Phi ℕ) (passed : List ℕ) (found : Option ℕ) (o end : ℕ) → Looks old new phi passed found
    → ((m : ℕ) → Contains passed m → Contains phi.operands m) → Contains phi.operands o → IsEnd new o end
    → EndIsNoted phi.name found end None → HasNoOther old phi
two_noted old new phi passed found o end looks inside within is noted =
    none_if_two old new phi passed noted.0 o end (subst (λ (f : Option ℕ). Looks old new phi passed f) noted.1 looks) inside within is noted.3 noted.2

pub none_at_end : (old new : List ℕ) (phi : Phi ℕ) → Looks old new phi phi.operands None → HasNoOther old phi
unfolding Gathered
none_at_end old new phi looks now last leads web value trivial =
    let before : Leads new now last × (now phi.name ≡ phi.name) × Gathered now phi.name phi.operands None = looks.each now last leads in
    trivial.other (sym trivial.some.2 ∙ before.2 trivial.some.0 trivial.some.1)

pub some_at_end : (old new : List ℕ) (phi : Phi ℕ) (value : ℕ) → Looks old new phi phi.operands (Some value) → HasOther old phi value
unfolding Gathered
some_at_end old new phi value looks now last leads web stands =
    let before : Leads new now last × (now phi.name ≡ phi.name) × Gathered now phi.name phi.operands (Some value) = looks.each now last leads in
    let found : IsFound now phi.name phi.operands value = before.2 in
    record { stands = stands; kept = before.1; other = found.other; some = found.some; all = found.all }

-- ---- phis

-- no phi of these can go
pub record Passes (old new : List ℕ) (passed : List (Phi ℕ)) : Type 0 where
  pub keeps : KeepsEnds old new
  pub each : (phi : Phi ℕ) → Contains passed phi → HasNoOther old phi

pub none_before : (old new : List ℕ) (phi : Phi ℕ) → KeepsEnds old new → HasNoOther new phi → HasNoOther old phi
none_before old new phi keeps no_other now last leads web value trivial = no_other now last (keeps.ends now last leads) web value trivial

pub passes_more : (old new newer : List ℕ) (passed more : List (Phi ℕ)) (phi : Phi ℕ) → Passes old new passed → HasNoOther new phi
    → KeepsEnds new newer → more ≡ passed ++ phi ∷ [] → Passes old newer more
passes_more old new newer passed more phi passes no_other keeps next = record {
  keeps = keeps_both old new newer passes.keeps keeps;
  each = λ p within. elim (Contains-append_cases passed (phi ∷ []) p (subst (λ (xs : List (Phi ℕ)). Contains xs p) next within)) [
    | inl earlier ↦ passes.each p earlier
    | inr here ↦ subst (λ (q : Phi ℕ). HasNoOther old q) (contains_one phi p here) (none_before old new phi passes.keeps no_other)
  ];
}

pub other_before : (old new : List ℕ) (phi : Phi ℕ) (value : ℕ) → KeepsEnds old new → HasOther new phi value → HasOther old phi value
other_before old new phi value keeps other now last leads = other now last (keeps.ends now last leads)

pub can_go : (old new : List ℕ) (web : List (Phi ℕ)) (phi : Phi ℕ) (gone : Replaced) → KeepsEnds old new → HasOther new phi gone.value
    → Contains web phi → gone.name ≡ phi.name → CanGo old web gone
can_go old new web phi gone keeps other stands name_is = record {
  phi = phi;
  stands = stands;
  name_is = name_is;
  other = λ now last leads. other now last (keeps.ends now last leads);
}

-- ---- the removal under way

pub under_way_none : (web : List (Phi ℕ)) (ups : List ℕ) → ((n : ℕ) → up_of ups n ≡ n) → HasRoom ups web → IsUnderWay web ups 0
under_way_none web ups own room = record {
  now = λ n. n;
  last = 0;
  removal = none;
  leads = record {
    time = λ n. 0;
    in_time = λ n. omega arith;
    few = omega arith;
    follows = own;
    ends = λ n h. refl;
    later = λ n goes. absurd (goes (own n));
  };
  within = omega arith;
  room = room;
}

pub under_way_more : (web : List (Phi ℕ)) (old mid put new : List ℕ) (steps : ℕ) (gone : Replaced) → IsUnderWay web old steps
    → CanGo old web gone → KeepsEnds old mid → put ≡ slice_set mid gone.name gone.value → KeepsEnds put new → steps < 2 ^ 33
    → IsUnderWay web new (steps + 1)
under_way_more web old mid put new steps gone way can keeps written stays few =
    let phi : Phi ℕ = can.phi in
    let trivial : IsTrivial web way.now phi gone.value = can.other way.now way.last way.leads web can.stands in
    let within : way.last ≤ steps = way.within in
    let put_is : slice_set mid phi.name gone.value ≡ put = ap (λ n. slice_set mid n gone.value) (sym can.name_is) ∙ sym written in
    let room : HasRoom mid web = λ p stands. subst (λ (n : ℕ). p.name < n) (sym keeps.len) (way.room p stands) in
    let len : length put ≡ length mid = ap length written ∙ length-set mid gone.name gone.value in
    record {
      now = λ n. replaced same phi.name gone.value (way.now n);
      last = suc way.last;
      removal = one way.now phi gone.value way.removal trivial;
      leads = stays.ends (λ n. replaced same phi.name gone.value (way.now n)) (suc way.last)
          (subst (λ (ups : List ℕ). Leads ups (λ n. replaced same phi.name gone.value (way.now n)) (suc way.last)) put_is
          (one_more web mid way.now way.last phi gone.value (keeps.ends way.now way.last way.leads) trivial (room phi can.stands) (omega arith)));
      within = omega arith;
      room = λ p stands. subst (λ (n : ℕ). p.name < n) (sym (stays.len ∙ len)) (room p stands);
    }

get_or-append_length : (xs : List ℕ) (x d : ℕ) → slice_index_or (xs ++ x ∷ []) (length xs) d ≡ x
get_or-append_length [] x d = refl
get_or-append_length (y ∷ xs) x d = get_or-append_length xs x d

-- the names up to a place stand in the answer
pub record EndsSoFar (old new ends : List ℕ) (place : ℕ) : Type 0 where
  pub keeps : KeepsEnds old new
  pub len : length ends ≡ place
  pub each : (now : ℕ → ℕ) (last : ℕ) → Leads old now last → (k : ℕ) → k < place → slice_index_or ends k k ≡ now k

pub ends_none : (ups : List ℕ) → EndsSoFar ups ups [] 0
ends_none ups = record {
  keeps = keeps_none ups;
  len = refl;
  each = λ now last leads k below. absurd (omega arith);
}

pub ends_more : (old new newer ends more : List ℕ) (place end : ℕ) → EndsSoFar old new ends place → KeepsEnds new newer
    → IsEnd new (up_of new place) end → more ≡ ends ++ end ∷ [] → EndsSoFar old newer more (place + 1)
ends_more old new newer ends more place end so_far keeps is pushed = record {
  keeps = keeps_both old new newer so_far.keeps keeps;
  len = ap length pushed ∙ length-append ends (end ∷ []) ∙ ap (λ n. n + 1) so_far.len;
  each = λ now last leads k below.
      let leads_new : Leads new now last = so_far.keeps.ends now last leads in
      ap (λ (xs : List ℕ). slice_index_or xs k k) pushed ∙ at now last leads leads_new k below;
}
  where
    at : (now : ℕ → ℕ) (last : ℕ) → Leads old now last → Leads new now last → (k : ℕ) → k < place + 1
        → slice_index_or (ends ++ end ∷ []) k k ≡ now k
    at now last leads leads_new k below = elim (number_or_not k place) [
      | inl here ↦
          (let at_end : slice_index_or (ends ++ end ∷ []) (length ends) k ≡ end = get_or-append_length ends end k in
          ap (λ n. slice_index_or (ends ++ end ∷ []) n k) (here ∙ sym so_far.len) ∙ at_end ∙ is now last leads_new ∙ leads_new.follows place
          ∙ ap now (sym here))
      | inr before ↦
          (let len : length ends ≡ place = so_far.len in
          let within : k < length ends = omega arith in
          get_or_append_left ends (end ∷ []) k k within ∙ so_far.each now last leads k (omega arith))
    ]

pub ends_all : (old new ends : List ℕ) (place : ℕ) → EndsSoFar old new ends place → length old ≤ place
    → (now : ℕ → ℕ) (last : ℕ) → Leads old now last → (n : ℕ) → up_of ends n ≡ now n
ends_all old new ends place so_far whole now last leads n = elim (cases_lt n place) [
  | inl below ↦ so_far.each now last leads n below
  | inr past ↦
      (let len : length ends ≡ place = so_far.len in
      get_or_past ends n n (omega arith) ∙ sym (leads.ends n (get_or_past old n n (omega arith))))
]

pub settled_if_none : (web : List (Phi ℕ)) (ups mid ends : List ℕ) (steps : ℕ) → IsUnderWay web ups steps → NoneCanGo ups web
    → KeepsEnds ups mid → ((now : ℕ → ℕ) (last : ℕ) → Leads mid now last → (n : ℕ) → up_of ends n ≡ now n) → IsSettled web ends
settled_if_none web ups mid ends steps way none_left keeps at = record {
  now = way.now;
  removal = way.removal;
  minimal = λ phi value trivial. none_left phi trivial.stands way.now way.last way.leads web value trivial;
  at = at way.now way.last (keeps.ends way.now way.last way.leads);
}

pub settled_becomes : (web : List (Phi ℕ)) (ends : List ℕ) → IsSettled web ends → AnswersBecomes web ends
settled_becomes web ends settled once rooted n =
    settled.at n
    ∙ order_is_free same tells_numbers web once rooted settled.now (becomes same web) settled.removal settled.minimal
    (becomes_is_removal same tells_numbers web) (becomes_is_minimal same tells_numbers web) n

-- ---- places of lists

pub contains_item : {A : Type 0} (xs : List A) (i : ℕ) (d : A) → i < length xs → Contains xs (get_or xs i d)
contains_item xs i d below = (i, below, get_or_default xs i (get_or xs i d) d below)

pub contains_front : {A : Type 0} (xs : List A) (i : ℕ) (x : A) → Contains (take i xs) x → Contains xs x
contains_front xs i x within =
    All-contains (Contains xs) (take i xs) x (All-take (Contains xs) i xs (All-contains_itself xs)) within

pub web_more : (rows : List PhiRow) (i : ℕ) (d row : PhiRow) → i < length rows → row ≡ get_or rows i d
    → web_of (take (i + 1) rows) ≡ web_of (take i rows) ++ phi_of row ∷ []
web_more rows i d row below is = map_more phi_of rows i d below ∙ ap (λ r. web_of (take i rows) ++ phi_of r ∷ []) (sym is)

pub web_contains : (rows : List PhiRow) (i : ℕ) (d row : PhiRow) → i < length rows → row ≡ get_or rows i d → Contains (web_of rows) (phi_of row)
web_contains rows i d row below is =
    subst (λ (r : PhiRow). Contains (web_of rows) (phi_of r)) (sym is) (contains_map phi_of rows (get_or rows i d) (contains_item rows i d below))

-- ---- each name is its own

pub own_more : (ups : List ℕ) (name : ℕ) → ((n : ℕ) → up_of ups n ≡ n) → length ups ≡ name → (n : ℕ) → up_of (ups ++ name ∷ []) n ≡ n
own_more ups name own len n = elim (number_or_not n name) [
  | inl here ↦ ap (λ k. slice_index_or (ups ++ name ∷ []) k n) (here ∙ sym len) ∙ get_or-append_length ups name n ∙ sym here
  | inr other ↦ elim (cases_lt n (length ups)) [
    | inl below ↦ get_or_append_left ups (name ∷ []) n n below ∙ own n
    | inr past ↦ get_or_past (ups ++ name ∷ []) n n (let all : length (ups ++ name ∷ []) ≡ length ups + 1 = length-append ups (name ∷ []) in omega arith)
  ]
]

pub greater_more : (web more : List (Phi ℕ)) (phi : Phi ℕ) (greatest next : ℕ) → ((p : Phi ℕ) → Contains web p → p.name ≤ greatest)
    → greatest ≤ next → phi.name ≤ next → more ≡ web ++ phi ∷ [] → (p : Phi ℕ) → Contains more p → p.name ≤ next
greater_more web more phi greatest next below le here is p within =
    elim (Contains-append_cases web (phi ∷ []) p (subst (λ (xs : List (Phi ℕ)). Contains xs p) is within)) [
      | inl earlier ↦ (let before : p.name ≤ greatest = below p earlier in omega arith)
      | inr last ↦ subst (λ (q : Phi ℕ). q.name ≤ next) (contains_one phi p last) here
    ]

pub room_from : (web : List (Phi ℕ)) (ups : List ℕ) (greatest : ℕ) → ((phi : Phi ℕ) → Contains web phi → phi.name ≤ greatest)
    → greatest < length ups → HasRoom ups web
room_from web ups greatest below long phi stands = let le : phi.name ≤ greatest = below phi stands in omega arith

-- ---- answers

pub look_some : (old new : List ℕ) (phi : Phi ℕ) (passed : List ℕ) (found : Option ℕ) → Looks old new phi passed found
    → passed ≡ phi.operands → IfSome found (HasOther old phi)
look_some old new phi passed None looks whole = tt
look_some old new phi passed (Some value) looks whole =
    some_at_end old new phi value (subst (λ (xs : List ℕ). Looks old new phi xs (Some value)) whole looks)

pub look_none : (old new : List ℕ) (phi : Phi ℕ) (passed : List ℕ) (found : Option ℕ) → Looks old new phi passed found
    → passed ≡ phi.operands → IfNone found (HasNoOther old phi)
look_none old new phi passed None looks whole =
    none_at_end old new phi (subst (λ (xs : List ℕ). Looks old new phi xs None) whole looks)
look_none old new phi passed (Some value) looks whole = tt

pub at_some : {A : Type 0} (P : A → Type 0) (o : Option A) (x : A) → o ≡ Some x → IfSome o P → P x
at_some P None x is holds = absurd (none-some x is)
at_some P (Some y) x is holds = subst P (same_Some y x is) holds

pub at_none : {A : Type 0} (P : Type 0) (o : Option A) → o ≡ None → IfNone o P → P
at_none P None is holds = holds
at_none P (Some y) is holds = absurd (none-some y (sym is))

pub some_before : (old mid : List ℕ) (web : List (Phi ℕ)) (o : Option Replaced) → KeepsEnds old mid → IfSome o (CanGo mid web)
    → IfSome o (CanGo old web)
some_before old mid web None keeps can = tt
some_before old mid web (Some gone) keeps can =
    record { phi = can.phi; stands = can.stands; name_is = can.name_is; other = other_before old mid can.phi gone.value keeps can.other }

pub nothing_before : (old mid : List ℕ) (web : List (Phi ℕ)) (o : Option Replaced) → KeepsEnds old mid → IfNone o (NoneCanGo mid web)
    → IfNone o (NoneCanGo old web)
nothing_before old mid web None keeps no_one = λ phi stands. none_before old mid phi keeps (no_one phi stands)
nothing_before old mid web (Some gone) keeps no_one = tt

pub read_up : (ups : List ℕ) (place x : ℕ) → place < length ups → x ≡ slice_index_or ups place x → x ≡ up_of ups place
read_up ups place x below is = is ∙ get_or_default ups place x place below

abbrev pub no_row : PhiRow
no_row = record { name = 0; operands = record { ref_ptr = (0, 0); now = [] } }
