-- What follows from the whole answer of a call.
use Rattle.std.proofs.Common.{◌≡◌, ◌≢◌, ℕ, ◌⊎◌, inl, inr, List, [], Result, Ok, Err, refl, sym, ap, subst, ◌∙◌}
use Rattle.sp_ids.specs.declared.ends.End.{End}
use Rattle.sp_ids.specs.declared.ends.End.TheVariants as ended_by
use Rattle.ir_ast.specs.declared.modules.Form.TheVariants as text_forms
use Rattle.statepoint_tool.specs.Answers.{SinkSeen, Gained, SinkFailed, Came, IsBegun, IsTold, IsSaidInPart, IsAnswer, PutByLine}
use Rattle.generated_forms.specs.Modules.{generated}
use Rattle.gen_report.specs.Summaries.{summary_of}
use Rattle.statepoint_tool.specs.Causes.{AsksToGenerate, CannotRead, Ends, by_showing, by_checking, by_rewriting, by_running, by_running_rewritten, by_executing, by_generating, module_run}
use Rattle.statepoint_tool.specs.Notes.{refusal_line, status_of_cause}
use Rattle.statepoint_tool.specs.Statuses.{CauseOf, Exactly, IsDue, NoteFailed, ReadFaultCounted, Says, Writes, WritesFront, Yields, status_of_step}
use Rattle.statepoint_tool.specs.Steps.{Step, Go, Stop}
use Rattle.statepoint_tool.specs.Taken.{FilesSeen}
use Rattle.tool_words.specs.Words.{command_of}
use Rattle.statepoint_tool.specs.Work.{Output, Given, MayGiveNamed, Generating, generates, content_of, ended_with, shown, passed, written_of, output_of, work, lines_of_run, told_with}
use Rattle.statepoint_tool.specs.Closings.{status_of_end}
use Rattle.statepoint_tool.specs.declared.refusal.Cause.{Cause}
use Rattle.statepoint_tool.specs.declared.refusal.Cause.TheVariants as cause
use Rattle.statepoint_tool.specs.declared.refusal.Refusal.{Refusal}
use Rattle.statepoint_tool.specs.declared.refusal.Refusal.TheVariants.{Defined, WriteFault, Memory}
use Rattle.statepoint_tool.specs.declared.status.Status.{Status}
use Rattle.statepoint_tool.specs.declared.status.Status.TheVariants as ending
use Rattle.statepoint_tool.proofs.StepLaws.{same-value}
use Rattle.statepoint_tool.proofs.CauseLaws.{Explains, Explains-work, CauseOf-explained, ComesWith, IsWithin, Once-work, Rose-gives, within_may}

-- the status of a call is that of a step that the work comes to
pub record StatusOf (phase : Step Output → Type 0) (status : Status) : Type 0 where
  pub step : Step Output
  pub due : phase step
  pub is : status ≡ status_of_step step

module _ (words : List (List ℕ)) (files : FilesSeen) (out notes : SinkSeen) (given : Given) (may : MayGiveNamed files (command_of words) given) where
  -- a line that was cut off was due
  note_failed : (refusal : Refusal) (status : Status) → IsDue refusal words given out → IsSaidInPart refusal status notes → NoteFailed words files out notes
  note_failed refusal status due part =
      (part.failed, record { given = given; may = may; holds = record { refusal = refusal; due = due; front = part.front } })

  -- it is, or it yields
  status_of_answer : (ended : Result Status Refusal) (status : Status) → Came ended (work words given) out → IsTold ended status notes →
      StatusOf (work words given) status ⊎ Yields words files status out notes
  status_of_answer (Ok ended) status came told =
      inl (record { step = Go came.output; due = came.defined; is = told.0 ∙ came.status_is })
  status_of_answer (Err (Defined reason)) status came (inl said) =
      inl (record { step = Stop reason; due = came.defined; is = said.status_is })
  status_of_answer (Err (Defined reason)) status came (inr part) =
      inr (inr (part.status_is, inr (note_failed (Defined reason) status (Explains-work words given (Stop reason) came.defined) part)))
  status_of_answer (Err WriteFault) status came (inl said) = inr (inr (said.status_is, inl came.0))
  status_of_answer (Err WriteFault) status came (inr part) = inr (inr (part.status_is, inl came.0))
  status_of_answer (Err Memory) status came (inl said) = inr (inl said.status_is)
  status_of_answer (Err Memory) status came (inr part) = inr (inr (part.status_is, inr (note_failed Memory status tt part)))

module _ (words : List (List ℕ)) (files : FilesSeen) (out notes : SinkSeen) (status : Status) (answer : IsAnswer words files out notes status) where
  step_of_answer : StatusOf (work words answer.works.given) status ⊎ Yields words files status out notes
  step_of_answer = status_of_answer words files out notes answer.works.given answer.works.may answer.ended status answer.works.came answer.told

  not_yielding : (wanted : Status) → wanted ≢ ending.WantOfMemory → wanted ≢ ending.WriteFault → status ≡ wanted → Yields words files status out notes → ⊥
  not_yielding wanted no_memory no_write is (inl memory) = no_memory (sym is ∙ memory)
  not_yielding wanted no_memory no_write is (inr write) = no_write (sym is ∙ write.0)

  cause_of_answer : (wanted : Status) → status ≡ wanted → StatusOf (work words answer.works.given) status → CauseOf wanted words answer.works.given
  cause_of_answer wanted is of =
      let given = answer.works.given in
      subst (λ (s : Status). CauseOf s words given) (sym of.is ∙ is) (CauseOf-explained words given of.step (Explains-work words given of.step of.due))

  comes_of_answer : (wanted : Status) → ComesWith words answer.works.given wanted → StatusOf (work words answer.works.given) status → status ≡ wanted
  comes_of_answer wanted comes of =
      of.is ∙ (ap status_of_step (Once-work words answer.works.given of.step comes.0 of.due comes.1) ∙ comes.2)

  -- a status that never yields comes exactly where its cause holds
  pub Exactly-answer : (wanted : Status) → wanted ≢ ending.WantOfMemory → wanted ≢ ending.WriteFault →
      ((given : Given) → IsWithin words given → CauseOf wanted words given → ComesWith words given wanted) →
      Exactly words files out notes status wanted (CauseOf wanted)
  Exactly-answer wanted no_memory no_write comes =
      let given = answer.works.given in
      record {
        only = λ is. elim step_of_answer [
          | inl of ↦ record { given = given; may = answer.works.may; holds = cause_of_answer wanted is of }
          | inr yields ↦ absurd (not_yielding wanted no_memory no_write is yields)
        ];
        wherever = λ holds. elim step_of_answer [
          | inl of ↦ inl (comes_of_answer wanted (comes given (within_may words given files answer.works.may) (holds given answer.works.may)) of)
          | inr yields ↦ inr yields
        ];
      }

  -- a read fault comes only where it was counted
  pub ReadFaultCounted-answer : status ≡ ending.ReadFault → ReadFaultCounted words files
  ReadFaultCounted-answer is =
      let given = answer.works.given in
      elim step_of_answer [
        | inl of ↦
            (let cannot : CannotRead words given = cause_of_answer ending.ReadFault is of in
            record { given = given; may = answer.works.may; holds = (cannot, Rose-gives words given files answer.works.may cannot.0 cannot.1) })
        | inr yields ↦ absurd (not_yielding ending.ReadFault (λ clash. cc) (λ clash. cc) is yields)
      ]

  -- the status of a failed sink comes only where a sink failed
  pub write_fault-answer : status ≡ ending.WriteFault → SinkFailed out ⊎ SinkFailed notes
  write_fault-answer is = elim step_of_answer [
    | inl of ↦ absurd (cause_of_answer ending.WriteFault is of)
    | inr yields ↦ elim yields [
      | inl memory ↦ absurd (same_status (sym memory ∙ is))
      | inr write ↦ elim write.1 [ inl failed ↦ inl failed | inr cut_off ↦ inr cut_off.0 ]
    ]
  ]
    where
      same_status : ending.WantOfMemory ≡ ending.WriteFault → ⊥
      same_status clash = cc

-- what a call leaves on its sinks
module _ (words : List (List ℕ)) (files : FilesSeen) (out notes : SinkSeen) (given : Given) (may : MayGiveNamed files (command_of words) given) where
  ends_of : (output : Output) → work words given (Go output) → Ends words given output
  ends_of output due = Explains-work words given (Go output) due

  writes_at : (output : Output) (end : End) → output.status ≡ status_of_end end → Ends words given output → Gained out output.text × PutByLine output.lines out → Writes (status_of_end end) words files out
  writes_at output (ended_by.Return number) is ends written = record { given = given; may = may; holds = ((output, ends, is), written.0, written.1) }
  writes_at output (ended_by.Trap trap) is ends written = record { given = given; may = may; holds = ((output, ends, is), written.0, written.1) }
  writes_at output ended_by.OutOfSteps is ends written = record { given = given; may = may; holds = ((output, ends, is), written.0, written.1) }
  writes_at output ended_by.Poison is ends written = record { given = given; may = may; holds = ((output, ends, is), written.0, written.1) }
  writes_at output ended_by.LostFrame is ends written = record { given = given; may = may; holds = ((output, ends, is), written.0, written.1) }

  writes_generated : (asks : AsksToGenerate words) (output : Output) (step : Step Output) → step ≡ Go output → Generating asks.seed asks.size asks.steps step → Gained out output.text × PutByLine output.lines out
      → Writes output.status words files out
  writes_generated asks output _ is (generates after own meant means) written =
      let made = told_with (summary_of (generated asks.seed asks.size) after meant) meant.end in
      let same = same-value made output is in
      subst (λ (o : Output). Writes o.status words files out) same
      (writes_at made meant.end refl (by_generating asks made (generates after own meant means)) (subst (λ (o : Output). Gained out o.text × PutByLine o.lines out) (sym same) written))

  writes_output : (output : Output) → Ends words given output → Gained out output.text × PutByLine output.lines out → Writes output.status words files out
  writes_output _ (by_showing shows) written =
      record { given = given; may = may; holds = ((shown (content_of text_forms.Source shows.lines), by_showing shows, refl), written.0, written.1) }
  writes_output _ (by_checking checks) written =
      record { given = given; may = may; holds = ((passed, by_checking checks, refl), written.0, written.1) }
  writes_output _ (by_rewriting rewrites) written =
      record { given = given; may = may; holds = ((written_of rewrites.reads.asks.part rewrites.after, by_rewriting rewrites, refl), written.0, written.1) }
  writes_output _ (by_running runs outcome gives) written =
      writes_at (output_of (module_run runs.reads) outcome) outcome.end refl (by_running runs outcome gives) written
  writes_output _ (by_running_rewritten runs) written =
      writes_at (ended_with runs.text (lines_of_run runs.writes) runs.meant.end) runs.meant.end refl (by_running_rewritten runs) written
  writes_output _ (by_executing runs outcome text writes) written =
      writes_at (ended_with text (lines_of_run writes) outcome.end) outcome.end refl (by_executing runs outcome text writes) written
  writes_output output (by_generating asks _ generating) written = writes_generated asks output (Go output) refl generating written

  writes_nothing : (reason : Cause) → Gained out [] → Writes (status_of_cause reason) words files out
  writes_nothing cause.Words unwritten = unwritten
  writes_nothing (cause.ReadFault name) unwritten = unwritten
  writes_nothing (cause.TooLong name) unwritten = unwritten
  writes_nothing (cause.Module fault) unwritten = unwritten
  writes_nothing (cause.Input line) unwritten = unwritten
  writes_nothing (cause.Plan fault) unwritten = unwritten
  writes_nothing (cause.Map fault) unwritten = unwritten
  writes_nothing (cause.Check fault) unwritten = unwritten

  writes_begun : IsBegun (λ output. work words given (Go output)) out → WritesFront words files out
  writes_begun begun =
      inr (record {
        given = given;
        may = may;
        holds = record { output = begun.output; defined = ends_of begun.output begun.defined; front = begun.front };
      })

  writes_front : Gained out [] ⊎ IsBegun (λ output. work words given (Go output)) out → WritesFront words files out
  writes_front (inl unwritten) = inl unwritten
  writes_front (inr begun) = writes_begun begun

  writes_of : (ended : Result Status Refusal) (status : Status) → Came ended (work words given) out → IsTold ended status notes → Writes status words files out
  writes_of (Ok ended) status came told =
      subst (λ (s : Status). Writes s words files out) (sym (told.0 ∙ came.status_is)) (writes_output came.output (ends_of came.output came.defined) (came.written, came.by_line))
  writes_of (Err (Defined reason)) status came (inl said) =
      subst (λ (s : Status). Writes s words files out) (sym said.status_is) (writes_nothing reason came.unwritten)
  writes_of (Err (Defined reason)) status came (inr part) =
      subst (λ (s : Status). Writes s words files out) (sym part.status_is) (inl came.unwritten)
  writes_of (Err WriteFault) status came (inl said) = subst (λ (s : Status). Writes s words files out) (sym said.status_is) (writes_begun came.1)
  writes_of (Err WriteFault) status came (inr part) = subst (λ (s : Status). Writes s words files out) (sym part.status_is) (writes_begun came.1)
  writes_of (Err Memory) status came (inl said) = subst (λ (s : Status). Writes s words files out) (sym said.status_is) (writes_front came)
  writes_of (Err Memory) status came (inr part) = subst (λ (s : Status). Writes s words files out) (sym part.status_is) (writes_front came)

  says_nothing : (end : End) → Gained notes [] → Says (status_of_end end) words files out notes
  says_nothing (ended_by.Return number) silent = silent
  says_nothing (ended_by.Trap trap) silent = silent
  says_nothing ended_by.OutOfSteps silent = silent
  says_nothing ended_by.Poison silent = silent
  says_nothing ended_by.LostFrame silent = silent

  says_generated : (asks : AsksToGenerate words) (output : Output) (step : Step Output) → step ≡ Go output → Generating asks.seed asks.size asks.steps step → Gained notes []
      → Says output.status words files out notes
  says_generated asks output _ is (generates after own meant means) silent =
      subst (λ (o : Output). Says o.status words files out notes) (same-value (told_with (summary_of (generated asks.seed asks.size) after meant) meant.end) output is)
      (says_nothing meant.end silent)

  says_output : (output : Output) → Ends words given output → Gained notes [] → Says output.status words files out notes
  says_output _ (by_showing shows) silent = silent
  says_output _ (by_checking checks) silent = silent
  says_output _ (by_rewriting rewrites) silent = silent
  says_output _ (by_running runs outcome gives) silent = says_nothing outcome.end silent
  says_output _ (by_running_rewritten runs) silent = says_nothing runs.meant.end silent
  says_output _ (by_executing runs outcome text writes) silent = says_nothing outcome.end silent
  says_output output (by_generating asks _ generating) silent = says_generated asks output (Go output) refl generating silent

  says_line : (reason : Cause) → Explains (Stop reason) words given → Gained notes (refusal_line (Defined reason)) → Says (status_of_cause reason) words files out notes
  says_line cause.Words explains line = line
  says_line (cause.ReadFault name) explains line = record { given = given; may = may; holds = ((name, explains), line) }
  says_line (cause.TooLong name) explains line = record { given = given; may = may; holds = ((name, explains), line) }
  says_line (cause.Module fault) explains line = record { given = given; may = may; holds = ((fault, explains), line) }
  says_line (cause.Input number) explains line = record { given = given; may = may; holds = ((number, explains), line) }
  says_line (cause.Plan fault) explains line = record { given = given; may = may; holds = ((fault, explains), line) }
  says_line (cause.Map fault) explains line = record { given = given; may = may; holds = ((fault, explains), line) }
  says_line (cause.Check fault) explains line = record { given = given; may = may; holds = ((fault, explains), line) }

  says_cut_off : (refusal : Refusal) (status : Status) → IsDue refusal words given out → IsSaidInPart refusal status notes → Says status words files out notes
  says_cut_off refusal status due part =
      subst (λ (s : Status). Says s words files out notes) (sym part.status_is) (inr (note_failed words files out notes given may refusal status due part))

  says_of : (ended : Result Status Refusal) (status : Status) → Came ended (work words given) out → IsTold ended status notes → Says status words files out notes
  says_of (Ok ended) status came told =
      subst (λ (s : Status). Says s words files out notes) (sym (told.0 ∙ came.status_is)) (says_output came.output (ends_of came.output came.defined) told.1)
  says_of (Err (Defined reason)) status came (inl said) =
      subst (λ (s : Status). Says s words files out notes) (sym said.status_is) (says_line reason (Explains-work words given (Stop reason) came.defined) said.line)
  says_of (Err (Defined reason)) status came (inr part) =
      says_cut_off (Defined reason) status (Explains-work words given (Stop reason) came.defined) part
  says_of (Err WriteFault) status came (inl said) =
      subst (λ (s : Status). Says s words files out notes) (sym said.status_is) (inl (came.0, said.line))
  says_of (Err WriteFault) status came (inr part) = says_cut_off WriteFault status came.0 part
  says_of (Err Memory) status came (inl said) = subst (λ (s : Status). Says s words files out notes) (sym said.status_is) said.line
  says_of (Err Memory) status came (inr part) = says_cut_off Memory status tt part

pub Writes-answer : (words : List (List ℕ)) (files : FilesSeen) (out notes : SinkSeen) (status : Status) → IsAnswer words files out notes status → Writes status words files out
Writes-answer words files out notes status answer =
    writes_of words files out notes answer.works.given answer.works.may answer.ended status answer.works.came answer.told

pub Says-answer : (words : List (List ℕ)) (files : FilesSeen) (out notes : SinkSeen) (status : Status) → IsAnswer words files out notes status → Says status words files out notes
Says-answer words files out notes status answer =
    says_of words files out notes answer.works.given answer.works.may answer.ended status answer.works.came answer.told
