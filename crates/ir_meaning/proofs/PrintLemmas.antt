-- What a run has printed on the way stands first among the lines that it prints in the end.
use Rattle.std.proofs.Common.{◌≡◌, ℕ, zero, suc, List, [], ◌∷◌, ◌++◌, sym, ◌∙◌, append_assoc}
use Rattle.sp_ids.specs.declared.ends.End.{End}
use Rattle.object_meaning.specs.Effects.{Effect, goes_on, prints, ends, Progress, after, printed_line}
use Rattle.object_meaning.specs.Outcomes.{proceeds}
use Rattle.object_meaning.specs.Runs.{Go, End as Over, goes, Ends, Reaches}
use Rattle.object_meaning.specs.States.{State, Setting}
use Rattle.object_meaning.specs.Steps.{step}
use Rattle.object_meaning.proofs.RunLaws.{ends_at, goes_over, not_over}
use Rattle.object_meaning.proofs.OutcomeLaws.{same_lines}

-- the newest line stands first
pub record PrintsAfter (now last : List (List ℕ)) : Type 0 where
  pub more : List (List ℕ)
  pub is : last ≡ more ++ now

after_line : (lines : List (List ℕ)) (line : List ℕ) (last : List (List ℕ)) → PrintsAfter (line ∷ lines) last → PrintsAfter lines last
after_line lines line last printed = record { more = printed.more ++ line ∷ []; is = printed.is ∙ sym (append_assoc printed.more (line ∷ []) lines) }

prints_after : (setting : Setting) (count : ℕ) (lines : List (List ℕ)) (effect : Effect State) (end : End) (last : Progress State)
    → goes (proceeds setting) count (after lines effect) ≡ Over end last → PrintsAfter lines last.lines
unfolding proceeds
prints_after setting zero lines (goes_on state) end last is = absurd (not_over end last (record { state = state; lines = lines }) (sym is))
prints_after setting (suc count) lines (goes_on state) end last is = prints_after setting count lines (step setting state) end last is
prints_after setting zero lines (prints word state) end last is =
    absurd (not_over end last (record { state = state; lines = printed_line word ∷ lines }) (sym is))
prints_after setting (suc count) lines (prints word state) end last is =
    after_line lines (printed_line word) last.lines (prints_after setting count (printed_line word ∷ lines) (step setting state) end last is)
prints_after setting count lines (ends other state) end last is =
    record { more = []; is = same_lines other end state lines last (sym (goes_over (proceeds setting) count other (record { state = state; lines = lines })) ∙ is) }

prints_on : (setting : Setting) (count : ℕ) (now : Progress State) (end : End) (last : Progress State)
    → goes (proceeds setting) count (Go now) ≡ Over end last → PrintsAfter now.lines last.lines
unfolding proceeds
prints_on setting zero now end last is = absurd (not_over end last now (sym is))
prints_on setting (suc count) now end last is = prints_after setting count now.lines (step setting now.state) end last is

pub lines_first : (setting : Setting) (start now last : Progress State) (end : End) → Reaches {E = End} (proceeds setting) start now
    → Ends (proceeds setting) start end last → PrintsAfter now.lines last.lines
lines_first setting start now last end reached finished =
    let rest = ends_at (proceeds setting) reached.after finished.within (Go start) now end last reached.by finished.by in
    prints_on setting rest.within now end last rest.by
