-- What was printed on the way stands first in what a run prints.
use Rattle.std.proofs.Common.{◌≡◌, ℕ, zero, suc, List, [], ◌∷◌, sym, ap, ◌∙◌, append-nil}
use Rattle.sp_ids.specs.declared.ends.End.{End}
use Rattle.object_meaning.specs.Effects.{Effect, goes_on, prints, ends, Progress, after, printed_line, text_of, PrintsMore}
use Rattle.object_meaning.specs.Runs.{Go, End as Over, goes}
use Rattle.object_meaning.proofs.RunLaws.{ends_at, goes_over, not_over}
use Rattle.object_meaning.proofs.OutcomeLaws.{more_lines, same_lines}
use Rattle.machine_meaning.specs.Machines.{Machine, Machinery}
use Rattle.machine_meaning.specs.MachineRuns.{machine_opening, machine_proceeds}
use Rattle.machine_meaning.specs.MachineSteps.{machine_step}
use Rattle.runs_unseen.specs.MachineEnds.{PrintedFirst}

prints_more : (machinery : Machinery) (count : ℕ) (lines : List (List ℕ)) (effect : Effect Machine) (end : End) (last : Progress Machine)
    → goes (machine_proceeds machinery) count (after lines effect) ≡ Over end last → PrintsMore lines last.lines
unfolding machine_proceeds
prints_more machinery zero lines (goes_on machine) end last is = absurd (not_over end last (record { state = machine; lines = lines }) (sym is))
prints_more machinery (suc count) lines (goes_on machine) end last is = prints_more machinery count lines (machine_step machinery machine) end last is
prints_more machinery zero lines (prints word machine) end last is =
    absurd (not_over end last (record { state = machine; lines = printed_line word ∷ lines }) (sym is))
prints_more machinery (suc count) lines (prints word machine) end last is =
    more_lines lines (printed_line word) last.lines (prints_more machinery count (printed_line word ∷ lines) (machine_step machinery machine) end last is)
prints_more machinery count lines (ends other machine) end last is =
    let same = same_lines other end machine lines last (sym (goes_over (machine_proceeds machinery) count other (record { state = machine; lines = lines })) ∙ is) in
    record { more = []; text = ap text_of same ∙ sym (append-nil (text_of lines)) }

prints_on : (machinery : Machinery) (count : ℕ) (now : Progress Machine) (end : End) (last : Progress Machine)
    → goes (machine_proceeds machinery) count (Go now) ≡ Over end last → PrintsMore now.lines last.lines
unfolding machine_proceeds
prints_on machinery zero now end last is = absurd (not_over end last now (sym is))
prints_on machinery (suc count) now end last is = prints_more machinery count now.lines (machine_step machinery now.state) end last is

pub printed_first : PrintedFirst
printed_first machinery input now outcome reached gives =
    let rest = ends_at (machine_proceeds machinery) reached.after gives.run.within (Go (machine_opening machinery input)) now outcome.end gives.last reached.by gives.run.by in
    prints_on machinery rest.within now outcome.end gives.last rest.by
