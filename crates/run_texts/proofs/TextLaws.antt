-- The laws of the texts of runs.
use Rattle.std.proofs.Common.{◌≡◌, ℕ, zero, suc, false, List, [], ◌∷◌, ◌++◌, reverse, refl, sym, ap, ◌∙◌, append_assoc, append-nil}
use Rattle.std.specs.List.{concat}
use Rattle.std.proofs.lemmas.List.Folds.{concat-append}
use Rattle.sp_ids.specs.declared.ends.End.{End}
use Rattle.object_meaning.specs.Effects.{Effect, goes_on, prints, ends, Progress, after, printed_line, text_of}
use Rattle.object_meaning.specs.Runs.{Next, Go, End as Over, advance, goes}
use Rattle.object_meaning.specs.Texts.{function_name}
use Rattle.object_meaning.specs.Traces.{done_at, traced}
use Rattle.object_meaning.proofs.RunLaws.{goes_over, not_over, one_end, traced_more, traced_over}
use Rattle.machine_meaning.specs.Code.{machinery_of}
use Rattle.machine_meaning.specs.Machines.{Machine, Machinery}
use Rattle.machine_meaning.specs.MachineRuns.{MachineOutcome, machine_opening, machine_proceeds}
use Rattle.machine_meaning.specs.MachineSteps.{machine_step}
use Rattle.machine_meaning.specs.TrapLines.{closing_of}
use Rattle.tool_report.specs.Closings.{closing_line}
use Rattle.run_texts.specs.RunTexts.{last_lines, lines_from, printed_by, step_lines}
use Rattle.run_texts.specs.Statements.{BareTexts, OneText, WrittenFirst}
use Rattle.object_meaning.proofs.OutcomeLaws.{concat-reverse, same_lines}

-- ---- what the first steps do

-- one more step comes last
pub traced_last : {E A T : Type 0} (did : A → List T) (step : A → Next E A) (count : ℕ) (next : Next E A)
    → traced did step (suc count) next ≡ traced did step count next ++ done_at did (goes step count next)
traced_last did step zero next = append-nil (done_at did next)
traced_last did step (suc count) next =
    ap (λ rest. done_at did next ++ rest) (traced_last did step count (advance step next))
    ∙ sym (append_assoc (done_at did next) (traced did step count (advance step next)) (done_at did (goes step count (advance step next))))

pub record Front {T : Type 0} (all front : List T) : Type 0 where
  pub rest : List T
  pub is : all ≡ front ++ rest

-- more steps than lead to the end do nothing more
pub traced_front : {E A T : Type 0} (did : A → List T) (step : A → Next E A) (count more : ℕ) (next : Next E A) (end : E) (last : A)
    → goes step more next ≡ Over end last → Front (traced did step more next) (traced did step count next)
traced_front did step zero more next end last is = record { rest = traced did step more next; is = refl }
traced_front did step (suc count) zero next end last is =
    let none : traced did step (suc count) next ≡ [] = ap (traced did step (suc count)) is ∙ traced_over did step (suc count) end last in
    record { rest = []; is = sym (ap (λ front. front ++ []) none) }
traced_front did step (suc count) (suc more) next end last is =
    let front = traced_front did step count more (advance step next) end last is in
    record {
      rest = front.rest;
      is = ap (λ rest. done_at did next ++ rest) front.is ∙ sym (append_assoc (done_at did next) (traced did step count (advance step next)) front.rest);
    }

-- ---- one text

pub one_text : OneText
one_text content map input plan bound places trace one other text other_text first second =
    let machinery = machinery_of content map plan bound in
    let start = machine_opening machinery input in
    let same = one_end (machine_proceeds machinery) start one.end other.end first.gives.last second.gives.last first.gives.run second.gives.run in
    let steps = traced_more (λ progress. step_lines machinery trace progress.state) (machine_proceeds machinery) first.gives.run.within second.gives.run.within (Go start)
    one.end other.end first.gives.last second.gives.last first.gives.run.by second.gives.run.by in
    let before = lines_from machinery trace second.gives.run.within (Go start) in
    first.is
    ∙ ap (λ lines. concat (lines ++ last_lines content machinery places one.end first.gives.last.state)) steps
    ∙ ap (λ (end : End). concat (before ++ last_lines content machinery places end first.gives.last.state)) same.end
    ∙ ap (λ (last : Progress Machine). concat (before ++ last_lines content machinery places other.end last.state)) same.last
    ∙ sym second.is

-- ---- without places and trace

-- what is printed from an effect on
abbrev printed_from : Machinery → ℕ → List (List ℕ) → Effect Machine → List ℕ
printed_from machinery count lines effect = concat (printed_by effect ++ lines_from machinery false count (after lines effect))

prints_all : (machinery : Machinery) (count : ℕ) (lines : List (List ℕ)) (effect : Effect Machine) (end : End) (last : Progress Machine)
    → goes (machine_proceeds machinery) count (after lines effect) ≡ Over end last → text_of last.lines ≡ text_of lines ++ printed_from machinery count lines effect
unfolding machine_proceeds
prints_all machinery zero lines (goes_on machine) end last is = absurd (not_over end last (record { state = machine; lines = lines }) (sym is))
prints_all machinery (suc count) lines (goes_on machine) end last is = prints_all machinery count lines (machine_step machinery machine) end last is
prints_all machinery zero lines (prints word machine) end last is =
    absurd (not_over end last (record { state = machine; lines = printed_line word ∷ lines }) (sym is))
prints_all machinery (suc count) lines (prints word machine) end last is =
    prints_all machinery count (printed_line word ∷ lines) (machine_step machinery machine) end last is
    ∙ append_assoc (text_of lines) (printed_line word) (printed_from machinery count (printed_line word ∷ lines) (machine_step machinery machine))
prints_all machinery count lines (ends other machine) end last is =
    let same = same_lines other end machine lines last (sym (goes_over (machine_proceeds machinery) count other (record { state = machine; lines = lines })) ∙ is) in
    let none = traced_over (λ (progress : Progress Machine). step_lines machinery false progress.state) (machine_proceeds machinery) count other (record { state = machine; lines = lines }) in
    ap text_of same ∙ (sym (append-nil (text_of lines)) ∙ ap (λ more. text_of lines ++ concat more) (sym none))

prints_from : (machinery : Machinery) (count : ℕ) (now : Progress Machine) (end : End) (last : Progress Machine)
    → goes (machine_proceeds machinery) count (Go now) ≡ Over end last → text_of last.lines ≡ text_of now.lines ++ concat (lines_from machinery false count (Go now))
unfolding machine_proceeds
prints_from machinery zero now end last is = absurd (not_over end last now (sym is))
prints_from machinery (suc count) now end last is = prints_all machinery count now.lines (machine_step machinery now.state) end last is

bare_same : (steps shown lines : List (List ℕ)) (line : List ℕ) → text_of lines ≡ concat steps → concat (steps ++ (shown ++ line ∷ [])) ≡ concat (reverse lines ++ shown) ++ line
bare_same steps shown lines line is =
    concat-append steps (shown ++ line ∷ [])
    ∙ ap (λ text. text ++ concat (shown ++ line ∷ [])) (sym is ∙ sym (concat-reverse lines))
    ∙ ap (λ text. concat (reverse lines) ++ text) (concat-append shown (line ∷ []) ∙ ap (λ text. concat shown ++ text) (append-nil line))
    ∙ sym (append_assoc (concat (reverse lines)) (concat shown) line)
    ∙ ap (λ text. text ++ line) (sym (concat-append (reverse lines) shown))

pub bare_texts : BareTexts
bare_texts content map input plan bound outcome text writes =
    let machinery = machinery_of content map plan bound in
    let last = writes.gives.last in
    writes.is
    ∙ bare_same (lines_from machinery false writes.gives.run.within (Go (machine_opening machinery input))) (closing_of machinery outcome.end last.state) last.lines
    (closing_line outcome.end (function_name content last.state.state.running.func) last.state.state.steps last.state.state.events)
    (prints_from machinery writes.gives.run.within (machine_opening machinery input) outcome.end last writes.gives.run.by)
    ∙ ap (λ (o : MachineOutcome). concat o.lines ++ closing_line o.end (function_name content o.func) o.steps o.events) (sym writes.gives.is)

-- ---- what was written stands first

pub written_first : WrittenFirst
written_first content map input plan bound places trace outcome text writes steps =
    let machinery = machinery_of content map plan bound in
    let start = Go (machine_opening machinery input) in
    let did : Progress Machine → List (List ℕ) = λ progress. step_lines machinery trace progress.state in
    let front = traced_front did (machine_proceeds machinery) steps writes.gives.run.within start outcome.end writes.gives.last writes.gives.run.by in
    let behind = last_lines content machinery places outcome.end writes.gives.last.state in
    let first = lines_from machinery trace steps start in
    record {
      more = concat (front.rest ++ behind);
      is = writes.is ∙ (ap (λ lines. concat (lines ++ behind)) front.is
          ∙ (ap concat (append_assoc first front.rest behind) ∙ concat-append first (front.rest ++ behind)));
    }
