-- One run follows another: where each step of the first is some steps of the second that do the same, the second comes to the
-- end of the first and does all that it does. Since each run has just one outcome, this ties two meanings both ways.
use Rattle.std.proofs.Common.{◌≡◌, ℕ, zero, suc, ◌+◌, List, ◌++◌, refl, sym, ap, ◌∙◌, append_assoc, append-nil, reverse, subst, zero-add, suc-add}
use Rattle.std.specs.Prelude.{ℤ}
use Rattle.sp_ids.specs.declared.ends.End.{End}
use Rattle.object_meaning.specs.Effects.{Progress, line_count}
use Rattle.object_meaning.specs.Outcomes.{Gives, Outcome, accesses_from, events_from, opening, outcome_of, proceeds}
use Rattle.object_meaning.specs.Runs.{Next, Go, End as Over, advance, goes}
use Rattle.object_meaning.specs.States.{State, Setting}
use Rattle.object_meaning.specs.Texts.{closing_lines}
use Rattle.object_meaning.specs.Traces.{Access, Event, accesses_at, done_at, events_at, traced}
use Rattle.object_meaning.proofs.RunLaws.{goes_over, not_over, traced_over}
use Rattle.object_meaning.proofs.OutcomeLaws.{gives_end, gives_one, gives_some}

-- ---- steps after steps

pub goes_on : {E A : Type 0} (step : A → Next E A) (count more : ℕ) (next : Next E A) → goes step (count + more) next ≡ goes step more (goes step count next)
goes_on step zero more next = rw (zero-add more) refl
goes_on step (suc count) more next = rw (suc-add count more) (goes_on step count more (advance step next))

traced_on : {E A T : Type 0} (did : A → List T) (step : A → Next E A) (count more : ℕ) (next : Next E A)
    → traced did step (count + more) next ≡ traced did step count next ++ traced did step more (goes step count next)
traced_on did step zero more next = rw (zero-add more) refl
traced_on did step (suc count) more next =
    rw (suc-add count more)
    (ap (λ rest. done_at did next ++ rest) (traced_on did step count more (advance step next))
    ∙ sym (append_assoc (done_at did next) (traced did step count (advance step next)) (traced did step more (goes step count (advance step next)))))

-- ---- one run follows another

-- some steps of a run from a state come to this, and do this
pub record Leads {E B T U : Type 0} (right : B → Next E B) (done : B → List T) (seen : B → List U) (start : B) (does : List T) (sees : List U) (next : Next E B) : Type 0 where
  pub count : ℕ
  pub by : goes right count (Go start) ≡ next
  pub does_so : traced done right count (Go start) ≡ does
  pub sees_so : traced seen right count (Go start) ≡ sees

pub record LeadsOn {E A B T U : Type 0} (right : B → Next E B) (done : B → List T) (seen : B → List U) (related : A → B → Type 0)
    (start : B) (does : List T) (sees : List U) (next : A) : Type 0 where
  pub there : B
  pub leads : Leads {E = E} right done seen start does sees (Go there)
  pub holds : related next there

pub record LeadsOut {E A B T U : Type 0} (right : B → Next E B) (done : B → List T) (seen : B → List U) (last_related : E → A → B → Type 0)
    (start : B) (does : List T) (sees : List U) (end : E) (last : A) : Type 0 where
  pub there : B
  pub leads : Leads right done seen start does sees (Over end there)
  pub holds : last_related end last there

-- each step of the first run is some steps of the second, which do and see the same, keep a relation of their states, and end
-- where it ends
pub record Follows {E A B T U : Type 0} (left : A → Next E A) (right : B → Next E B) (did : A → List T) (done : B → List T) (saw : A → List U) (seen : B → List U)
    (related : A → B → Type 0) (last_related : E → A → B → Type 0) : Type 0 where
  pub on : (now : A) (there : B) → related now there → (next : A) → left now ≡ Go next
      → LeadsOn {E = E} right done seen related there (did now) (saw now) next
  pub out : (now : A) (there : B) → related now there → (end : E) (last : A) → left now ≡ Over end last
      → LeadsOut right done seen last_related there (did now) (saw now) end last

-- the second run has come to the same end, and did and saw the same
pub record Followed {E A B T U : Type 0} (left : A → Next E A) (right : B → Next E B) (did : A → List T) (done : B → List T) (saw : A → List U) (seen : B → List U)
    (last_related : E → A → B → Type 0) (count : ℕ) (start : A) (there : B) (end : E) (last : A) : Type 0 where
  pub within : ℕ
  pub last_there : B
  pub by : goes right within (Go there) ≡ Over end last_there
  pub holds : last_related end last last_there
  pub does : traced did left count (Go start) ≡ traced done right within (Go there)
  pub sees : traced saw left count (Go start) ≡ traced seen right within (Go there)

-- what a step does, and what follows
then_traced : {E A B T : Type 0} (left : A → Next E A) (right : B → Next E B) (did : A → List T) (done : B → List T) (count steps more : ℕ) (now next : A) (there on : B)
    → left now ≡ Go next → goes right steps (Go there) ≡ Go on → traced done right steps (Go there) ≡ did now
    → traced did left count (Go next) ≡ traced done right more (Go on)
    → traced did left (suc count) (Go now) ≡ traced done right (steps + more) (Go there)
then_traced left right did done count steps more now next there on is by does rest =
    ap (λ after. did now ++ traced did left count after) is
    ∙ (ap (λ tail. did now ++ tail) rest
    ∙ (ap (λ head. head ++ traced done right more (Go on)) (sym does)
    ∙ (ap (λ after. traced done right steps (Go there) ++ traced done right more after) (sym by)
    ∙ sym (traced_on done right steps more (Go there)))))

out_traced : {E A B T : Type 0} (left : A → Next E A) (right : B → Next E B) (did : A → List T) (done : B → List T) (count steps : ℕ) (now last : A) (there : B) (end : E)
    → left now ≡ Over end last → traced done right steps (Go there) ≡ did now → traced did left (suc count) (Go now) ≡ traced done right steps (Go there)
out_traced left right did done count steps now last there end is does =
    ap (λ after. did now ++ traced did left count after) is
    ∙ (ap (λ tail. did now ++ tail) (traced_over did left count end last) ∙ (append-nil (did now) ∙ sym does))

module _ {E A B T U : Type 0} (left : A → Next E A) (right : B → Next E B) (did : A → List T) (done : B → List T) (saw : A → List U) (seen : B → List U)
    (related : A → B → Type 0) (last_related : E → A → B → Type 0) (follows : Follows left right did done saw seen related last_related) where
  pub followed : (count : ℕ) (now : A) (there : B) (end : E) (last : A) → related now there → goes left count (Go now) ≡ Over end last
      → Followed left right did done saw seen last_related count now there end last
  followed zero now there end last holds is = absurd (not_over end last now (sym is))
  followed (suc count) now there end last holds is =
      by (left now) refl is (λ next onto related_so ends. followed count next onto end last related_so ends)
    where
      by : (next : Next E A) → left now ≡ next → goes left count next ≡ Over end last
          → ((next : A) (onto : B) → related next onto → goes left count (Go next) ≡ Over end last → Followed left right did done saw seen last_related count next onto end last)
          → Followed left right did done saw seen last_related (suc count) now there end last
      by (Go next) steps ends from =
          let one = follows.on now there holds next steps in
          let rest = from next one.there one.holds ends in
          record {
            within = one.leads.count + rest.within;
            last_there = rest.last_there;
            by = goes_on right one.leads.count rest.within (Go there) ∙ (ap (goes right rest.within) one.leads.by ∙ rest.by);
            holds = rest.holds;
            does = then_traced left right did done count one.leads.count rest.within now next there one.there steps one.leads.by one.leads.does_so rest.does;
            sees = then_traced left right saw seen count one.leads.count rest.within now next there one.there steps one.leads.by one.leads.sees_so rest.sees;
          }
      by (Over other state) steps ends from =
          let out = follows.out now there holds end last (steps ∙ (sym (goes_over left count other state) ∙ ends)) in
          record {
            within = out.leads.count;
            last_there = out.there;
            by = out.leads.by;
            holds = out.holds;
            does = out_traced left right did done count out.leads.count now state there other steps out.leads.does_so;
            sees = out_traced left right saw seen count out.leads.count now state there other steps out.leads.sees_so;
          }

-- ---- two settings

-- the last states of two runs give the same
pub record SameLast (one other : Setting) (end : End) (last there : Progress State) : Type 0 where
  pub lines : there.lines ≡ last.lines
  pub shown : closing_lines other.names end there.state ≡ closing_lines one.names end last.state
  pub func : there.state.running.func ≡ last.state.running.func
  pub steps : there.state.steps ≡ last.state.steps
  pub events : there.state.events ≡ last.state.events
  pub objects : there.state.objects ≡ last.state.objects

abbrev pub happens : Progress State → List Event
happens progress = events_at progress.state.running.rest

abbrev pub accessing : Setting → Progress State → List Access
accessing setting progress = accesses_at setting progress.state progress.state.running.rest

-- the run of another setting follows that of this one
abbrev pub FollowsIn : (one other : Setting) → (Progress State → Progress State → Type 0) → Type 0
FollowsIn one other related =
    Follows (proceeds one) (proceeds other) happens happens (accessing one) (accessing other) related (SameLast one other)

outcome_there : (one other : Setting) (input : List ℤ) (within more : ℕ) (end : End) (last there : Progress State) → SameLast one other end last there
    → events_from one within (Go (opening one input)) ≡ events_from other more (Go (opening other input))
    → accesses_from one within (Go (opening one input)) ≡ accesses_from other more (Go (opening other input))
    → outcome_of other input more end there ≡ outcome_of one input within end last
outcome_there one other input within more end last there same events accesses =
    let lines : reverse there.lines ++ closing_lines other.names end there.state ≡ reverse last.lines ++ closing_lines one.names end last.state =
    ap (λ (all : List (List ℕ)). reverse all ++ closing_lines other.names end there.state) same.lines ∙ ap (λ more. reverse last.lines ++ more) same.shown in
    let printed : line_count there.lines ≡ line_count last.lines = ap line_count same.lines in
    let func = same.func in
    let steps = same.steps in
    let count = same.events in
    let objects = same.objects in
    cc

module _ (one other : Setting) (related : Progress State → Progress State → Type 0) (follows : FollowsIn one other related) (input : List ℤ)
    (opens : related (opening one input) (opening other input)) where
  -- so it gives the same
  pub gives_there : (outcome : Outcome) → Gives one input outcome → Gives other input outcome
  gives_there outcome gives =
      let there = followed (proceeds one) (proceeds other) happens happens (accessing one) (accessing other) related (SameLast one other) follows
      gives.run.within (opening one input) (opening other input) outcome.end gives.last opens gives.run.by in
      let same = outcome_there one other input gives.run.within there.within outcome.end gives.last there.last_there there.holds there.does there.sees ∙ sym gives.is in
      subst (Gives other input) same (gives_end other input outcome.end there.last_there (record { within = there.within; by = there.by }))

  -- and this one gives what it gives
  pub gives_here : (outcome : Outcome) → Gives other input outcome → Gives one input outcome
  gives_here outcome gives =
      let given = gives_some one input in
      subst (Gives one input) (gives_one other input given.outcome outcome (gives_there given.outcome given.gives) gives) given.gives
