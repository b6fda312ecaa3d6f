-- What a run of the machine gives: there is one outcome, and it is found by running.
use Rattle.std.proofs.Common.{◌≡◌, ℕ, refl, subst, ◌∙◌, ap, sym, ℤ, List, Option, Some, None}
use Rattle.sp_ids.specs.declared.ends.End.{End}
use Rattle.object_meaning.specs.Runs.{Next, Go, End as Over, Ends, goes}
use Rattle.object_meaning.specs.Effects.{Progress}
use Rattle.machine_meaning.specs.Machines.{Machine, Machinery}
use Rattle.machine_meaning.specs.Happenings.{happenings_at, accesses_by}
use Rattle.machine_meaning.specs.MachineRuns.{MachineOutcome, MachineryGives, accesses_from, happenings_from, machine_outcome, machine_opening, machine_proceeds}
use Rattle.object_meaning.proofs.RunLaws.{one_end, traced_more}

-- ---- there is one outcome

-- more steps after the end add nothing
outcome_same : (machinery : Machinery) (input : List ℤ) (end : End) (last : Progress Machine) (one two : Ends (machine_proceeds machinery) (machine_opening machinery input) end last)
    → machine_outcome machinery input one.within end last ≡ machine_outcome machinery input two.within end last
outcome_same machinery input end last one two =
    let start = machine_opening machinery input in
    let happened : happenings_from machinery one.within (Go start) ≡ happenings_from machinery two.within (Go start) =
    traced_more (λ progress. happenings_at machinery progress.state progress.state.state.running.rest) (machine_proceeds machinery) one.within two.within (Go start) end end last last one.by two.by in
    let accesses : accesses_from machinery one.within (Go start) ≡ accesses_from machinery two.within (Go start) =
    traced_more (λ progress. accesses_by progress.state progress.state.state.running.rest) (machine_proceeds machinery) one.within two.within (Go start) end end last last one.by two.by in
    ap (λ seen. record (machine_outcome machinery input one.within end last) { happened = seen }) happened
    ∙ ap (λ seen. record (machine_outcome machinery input two.within end last) { accesses = seen }) accesses

outcomes_same : (machinery : Machinery) (input : List ℤ) (end other : End) (last other_last : Progress Machine)
    (one : Ends (machine_proceeds machinery) (machine_opening machinery input) end last) (two : Ends (machine_proceeds machinery) (machine_opening machinery input) other other_last)
    → end ≡ other → last ≡ other_last → machine_outcome machinery input one.within end last ≡ machine_outcome machinery input two.within other other_last
outcomes_same machinery input end other last other_last one two ends_so lasts_so =
    let end_is = ap (λ (e : End). machine_outcome machinery input two.within e other_last) ends_so in
    let last_is = ap (λ (l : Progress Machine). machine_outcome machinery input two.within end l) lasts_so in
    let by : goes (machine_proceeds machinery) two.within (Go (machine_opening machinery input)) ≡ Over end last =
    two.by ∙ (sym (ap (λ (e : End). Over e other_last) ends_so) ∙ sym (ap (λ (l : Progress Machine). Over end l) lasts_so)) in
    outcome_same machinery input end last one (record { within = two.within; by = by }) ∙ (last_is ∙ end_is)

pub gives_one : (machinery : Machinery) (input : List ℤ) (one other : MachineOutcome) → MachineryGives machinery input one → MachineryGives machinery input other → one ≡ other
gives_one machinery input one other first second =
    let same = one_end (machine_proceeds machinery) (machine_opening machinery input) one.end other.end first.last second.last first.run second.run in
    first.is ∙ (outcomes_same machinery input one.end other.end first.last second.last first.run second.run same.end same.last ∙ sym second.is)

-- ---- by running

-- what the run gives, if it has come to its end
abbrev pub found : Machinery → List ℤ → ℕ → Next End (Progress Machine) → Option MachineOutcome
found machinery input within (Go progress) = None
found machinery input within (Over end last) = Some (machine_outcome machinery input within end last)

gives_found : (machinery : Machinery) (input : List ℤ) (within : ℕ) (outcome : MachineOutcome) (next : Next End (Progress Machine))
    → goes (machine_proceeds machinery) within (Go (machine_opening machinery input)) ≡ next → found machinery input within next ≡ Some outcome → MachineryGives machinery input outcome
gives_found machinery input within outcome (Go progress) by is = cc
gives_found machinery input within outcome (Over end last) by is =
    let same : machine_outcome machinery input within end last ≡ outcome = cc in
    subst (MachineryGives machinery input) same (record { last = last; run = record { within = within; by = by }; is = refl })

pub gives_within : (machinery : Machinery) (input : List ℤ) (within : ℕ) (outcome : MachineOutcome)
    → found machinery input within (goes (machine_proceeds machinery) within (Go (machine_opening machinery input))) ≡ Some outcome → MachineryGives machinery input outcome
gives_within machinery input within outcome is =
    gives_found machinery input within outcome (goes (machine_proceeds machinery) within (Go (machine_opening machinery input))) refl is
