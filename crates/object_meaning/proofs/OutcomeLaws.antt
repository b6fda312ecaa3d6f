-- What a run gives: there is one outcome, and what was printed on the way stands first in it.
use Rattle.std.proofs.Common.{◌≡◌, ℕ, zero, suc, List, [], ◌∷◌, ◌++◌, reverse, Option, Some, None, refl, sym, ap, subst, ◌∙◌, append_assoc, append-nil}
use Rattle.std.specs.Prelude.{ℤ}
use Rattle.std.specs.List.{concat}
use Rattle.std.proofs.lemmas.List.{reverse-append}
use Rattle.std.proofs.lemmas.List.Folds.{concat-append}
use Rattle.sp_ids.specs.declared.ends.End.{End}
use Rattle.object_meaning.specs.Effects.{Effect, goes_on, prints, ends, Progress, after, printed_line, text_of, PrintsMore}
use Rattle.object_meaning.specs.Outcomes.{Outcome, Gives, accesses_from, events_from, opening, outcome_of, proceeds, whole_text}
use Rattle.object_meaning.specs.Runs.{Next, Go, End as Over, goes, Ends, Reaches}
use Rattle.object_meaning.specs.States.{State, Setting}
use Rattle.object_meaning.specs.Steps.{step}
use Rattle.object_meaning.specs.Texts.{closing_lines}
use Rattle.object_meaning.specs.Traces.{accesses_at, events_at}
use Rattle.object_meaning.proofs.RunLaws.{ends_at, goes_over, not_over, one_end, same_over, traced_more}
use Rattle.object_meaning.proofs.EndLaws.{IsFinal, run_ends}

-- ---- there is one outcome

pub record Given (setting : Setting) (input : List ℤ) : Type 0 where
  pub outcome : Outcome
  pub final : IsFinal outcome.end
  pub gives : Gives setting input outcome

-- a run that has come to its end gives an outcome
pub gives_end : (setting : Setting) (input : List ℤ) (end : End) (last : Progress State) (run : Ends (proceeds setting) (opening setting input) end last)
    → Gives setting input (outcome_of setting input run.within end last)
gives_end setting input end last run = record { last = last; run = run; is = refl }

-- whatever the plan and the input, a run gives an outcome, which is a return, a trap or want of steps
pub gives_some : (setting : Setting) (input : List ℤ) → Given setting input
gives_some setting input =
    let halted = run_ends setting (opening setting input) in
    record { outcome = outcome_of setting input halted.run.within halted.end halted.last; final = halted.final; gives = gives_end setting input halted.end halted.last halted.run }

-- more steps after the end add nothing
pub outcome_same : (setting : Setting) (input : List ℤ) (end : End) (last : Progress State) (one two : Ends (proceeds setting) (opening setting input) end last)
    → outcome_of setting input one.within end last ≡ outcome_of setting input two.within end last
outcome_same setting input end last one two =
    let start = opening setting input in
    let events : events_from setting one.within (Go start) ≡ events_from setting two.within (Go start) =
    traced_more (λ progress. events_at progress.state.running.rest) (proceeds setting) one.within two.within (Go start) end end last last one.by two.by in
    let accesses : accesses_from setting one.within (Go start) ≡ accesses_from setting two.within (Go start) =
    traced_more (λ progress. accesses_at setting progress.state progress.state.running.rest) (proceeds setting) one.within two.within (Go start) end end last last one.by two.by in
    ap (λ happened. record (outcome_of setting input one.within end last) { happened = happened }) events
    ∙ ap (λ seen. record (outcome_of setting input two.within end last) { accesses = seen }) accesses

outcomes_same : (setting : Setting) (input : List ℤ) (end other : End) (last other_last : Progress State)
    (one : Ends (proceeds setting) (opening setting input) end last) (two : Ends (proceeds setting) (opening setting input) other other_last)
    → end ≡ other → last ≡ other_last → outcome_of setting input one.within end last ≡ outcome_of setting input two.within other other_last
outcomes_same setting input end other last other_last one two ends_so lasts_so =
    let end_is = ap (λ (e : End). outcome_of setting input two.within e other_last) ends_so in
    let last_is = ap (λ (l : Progress State). outcome_of setting input two.within end l) lasts_so in
    let by : goes (proceeds setting) two.within (Go (opening setting input)) ≡ Over end last =
    two.by ∙ (sym (ap (λ (e : End). Over e other_last) ends_so) ∙ sym (ap (λ (l : Progress State). Over end l) lasts_so)) in
    outcome_same setting input end last one (record { within = two.within; by = by }) ∙ (last_is ∙ end_is)

pub gives_one : (setting : Setting) (input : List ℤ) (one other : Outcome) → Gives setting input one → Gives setting input other → one ≡ other
gives_one setting input one other first second =
    let same = one_end (proceeds setting) (opening setting input) one.end other.end first.last second.last first.run second.run in
    first.is ∙ (outcomes_same setting input one.end other.end first.last second.last first.run second.run same.end same.last ∙ sym second.is)

-- so an outcome is never poison or a lost frame
pub gives_final : (setting : Setting) (input : List ℤ) (outcome : Outcome) → Gives setting input outcome → IsFinal outcome.end
gives_final setting input outcome gives =
    let given = gives_some setting input in
    subst (λ (each : Outcome). IsFinal each.end) (gives_one setting input given.outcome outcome given.gives gives) given.final

-- ---- what is printed on the way

pub same_lines : {S : Type 0} (end other : End) (state : S) (lines : List (List ℕ)) (last : Progress S)
    → Over end (record { state = state; lines = lines }) ≡ Over other last → last.lines ≡ lines
same_lines {S} end other state lines last is = sym (ap (λ (p : Progress S). p.lines) (same_over end other (record { state = state; lines = lines }) last is).last)

pub more_lines : (lines : List (List ℕ)) (line : List ℕ) (last : List (List ℕ)) → PrintsMore (line ∷ lines) last → PrintsMore lines last
more_lines lines line last printed = record { more = line ++ printed.more; text = printed.text ∙ append_assoc (text_of lines) line printed.more }

prints_more : (setting : Setting) (count : ℕ) (lines : List (List ℕ)) (effect : Effect State) (end : End) (last : Progress State)
    → goes (proceeds setting) count (after lines effect) ≡ Over end last → PrintsMore lines last.lines
unfolding proceeds
prints_more setting zero lines (goes_on state) end last is = absurd (not_over end last (record { state = state; lines = lines }) (sym is))
prints_more setting (suc count) lines (goes_on state) end last is = prints_more setting count lines (step setting state) end last is
prints_more setting zero lines (prints word state) end last is =
    absurd (not_over end last (record { state = state; lines = printed_line word ∷ lines }) (sym is))
prints_more setting (suc count) lines (prints word state) end last is =
    more_lines lines (printed_line word) last.lines (prints_more setting count (printed_line word ∷ lines) (step setting state) end last is)
prints_more setting count lines (ends other state) end last is =
    let same = same_lines other end state lines last (sym (goes_over (proceeds setting) count other (record { state = state; lines = lines })) ∙ is) in
    record { more = []; text = ap text_of same ∙ sym (append-nil (text_of lines)) }

prints_on : (setting : Setting) (count : ℕ) (now : Progress State) (end : End) (last : Progress State)
    → goes (proceeds setting) count (Go now) ≡ Over end last → PrintsMore now.lines last.lines
unfolding proceeds
prints_on setting zero now end last is = absurd (not_over end last now (sym is))
prints_on setting (suc count) now end last is = prints_more setting count now.lines (step setting now.state) end last is

-- what a run has printed in a state that it comes to stands first in what it prints in the end
pub printed_first : (setting : Setting) (start now last : Progress State) (end : End) → Reaches {E = End} (proceeds setting) start now
    → Ends (proceeds setting) start end last → PrintsMore now.lines last.lines
printed_first setting start now last end reached finished =
    let rest = ends_at (proceeds setting) reached.after finished.within (Go start) now end last reached.by finished.by in
    prints_on setting rest.within now end last rest.by

-- ---- the text

pub concat-reverse : (lines : List (List ℕ)) → concat (reverse lines) ≡ text_of lines
concat-reverse [] = refl
concat-reverse (line ∷ lines) =
    ap concat (reverse-append (line ∷ []) lines) ∙ (concat-append (reverse lines) (line ∷ []) ∙ (ap (λ text. text ++ (line ++ [])) (concat-reverse lines) ∙ ap (λ more. text_of lines ++ more) (append-nil line)))

-- the text of an outcome: what was printed, and what the waiting frames show
pub text_is : (setting : Setting) (input : List ℤ) (within : ℕ) (end : End) (last : Progress State)
    → whole_text (outcome_of setting input within end last) ≡ text_of last.lines ++ concat (closing_lines setting.names end last.state)
text_is setting input within end last =
    let shown = closing_lines setting.names end last.state in
    concat-append (reverse last.lines) shown ∙ ap (λ text. text ++ concat shown) (concat-reverse last.lines)

-- ---- by running

-- what the run gives, if it has come to its end
abbrev pub found : Setting → List ℤ → ℕ → Next End (Progress State) → Option Outcome
found setting input within (Go progress) = None
found setting input within (Over end last) = Some (outcome_of setting input within end last)

gives_found : (setting : Setting) (input : List ℤ) (within : ℕ) (outcome : Outcome) (next : Next End (Progress State))
    → goes (proceeds setting) within (Go (opening setting input)) ≡ next → found setting input within next ≡ Some outcome → Gives setting input outcome
gives_found setting input within outcome (Go progress) by is = cc
gives_found setting input within outcome (Over end last) by is =
    let same : outcome_of setting input within end last ≡ outcome = cc in
    subst (Gives setting input) same (gives_end setting input end last (record { within = within; by = by }))

pub gives_within : (setting : Setting) (input : List ℤ) (within : ℕ) (outcome : Outcome)
    → found setting input within (goes (proceeds setting) within (Go (opening setting input))) ≡ Some outcome → Gives setting input outcome
gives_within setting input within outcome is =
    gives_found setting input within outcome (goes (proceeds setting) within (Go (opening setting input))) refl is
