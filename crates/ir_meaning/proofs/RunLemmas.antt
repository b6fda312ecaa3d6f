-- A run by its steps, and what it has written.
use Rattle.std.proofs.Common.{◌≡◌, ℕ, suc, ◌+◌, ◌-◌, ◌^◌, min, List, [], ◌∷◌, ◌++◌, length, reverse, refl, sym, ap, subst, ◌∙◌, arith, append_assoc}
use Rattle.std.specs.Prelude.{Some, None}
use Rattle.std.specs.List.{All, concat}
use Rattle.std.proofs.lemmas.List.{append-nil, reverse-append}
use Rattle.std.proofs.lemmas.List.Elements.{All-same}
use Rattle.std.proofs.lemmas.List.Folds.{concat-append}
use Rattle.list_laws.proofs.Contents.{all_back}
use Rattle.tool_io.specs.Sink.{append_known, AppendsFront}
use Rattle.tool_io.proofs.AppendLaws.{append_known-then, AppendsFront-second, AppendsFront-same}
use Rattle.piece_writer.specs.LinePuts.{IsShort, PutsFirst, PutsLines, SinkTold}
use Rattle.piece_writer.proofs.LineLaws.{puts_none, puts_one, puts_both, puts_same, first_none, first_all, first_failed, first_more, first_after, first_same, first_front}
use Rattle.sp_ids.specs.declared.ends.End.{End}
use Rattle.run_tasks.specs.declared.printing.Did.{Did}
use Rattle.run_tasks.specs.declared.printing.Did.TheVariants.{GoesOn, Prints, Ends as Finishes}
use Rattle.flat_code.specs.Straight.{Passes, IsAlike}
use Rattle.flat_code.proofs.StraightLemmas.{reaches_by}
use Rattle.sp_ids.specs.declared.ends.Trap.{Trap as Trapped}
use Rattle.sp_ids.specs.declared.ends.End.TheVariants.{Trap}
use Rattle.run_tasks.specs.declared.runs.Ran.{Ran}
use Rattle.run_tasks.specs.Dids.{effect_of, ended_of}
use Rattle.ir_meaning.specs.Machines.{IsAfter, Turned}
use Rattle.object_meaning.specs.Texts.{bundle_lines, closing_lines}
use Rattle.object_meaning.specs.Runs.{Ends, Reaches}
use Rattle.object_meaning.proofs.RunLaws.{reaches_more, ends_more}
use Rattle.object_meaning.proofs.EndLaws.{run_ends}
use Rattle.object_meaning.specs.States.{State, Setting}
use Rattle.object_meaning.specs.Steps.{step}
use Rattle.object_meaning.specs.Effects.{Effect, goes_on, prints, ends, Progress, after, line_count, printed_line}
use Rattle.object_meaning.specs.Outcomes.{proceeds}
use Rattle.ir_meaning.specs.References.{IsRunFrom, WritesFrontFrom, lines_from, unprinted, Follows, Wrote, WroteFront}
use Rattle.ir_meaning.proofs.PrintLemmas.{lines_first}

pub follows_start : (setting : Setting) (state : State) (old : SinkTold) → Follows setting (unprinted state) state 0 old old
follows_start setting state old = record {
  lines = [];
  reached = record { after = 0; by = refl };
  counted = refl;
  puts = puts_none old;
}

pub follows_on : (setting : Setting) (start : Progress State) (state next : State) (count : ℕ) (old now : SinkTold)
    → Follows setting start state count old now → goes_on next ≡ step setting state → Follows setting start next count old now
unfolding proceeds
follows_on setting start state next count old now follows e = record {
  lines = follows.lines;
  reached = reaches_more (proceeds setting) start (record { state = state; lines = follows.lines }) (record { state = next; lines = follows.lines })
      follows.reached (ap (after follows.lines) (sym e));
  counted = follows.counted;
  puts = follows.puts;
}

-- the run has printed one more line, and it was written
reaches_printed : (setting : Setting) (start : Progress State) (state next : State) (word count : ℕ) (old now : SinkTold)
    → (follows : Follows setting start state count old now) → prints word next ≡ step setting state
    → Reaches {E = End} (proceeds setting) start (record { state = next; lines = printed_line word ∷ follows.lines })
unfolding proceeds
reaches_printed setting start state next word count old now follows e =
    reaches_more (proceeds setting) start (record { state = state; lines = follows.lines })
    (record { state = next; lines = printed_line word ∷ follows.lines }) follows.reached (ap (after follows.lines) (sym e))

counted_more : (length count more : ℕ) → count ≡ min length (2 ^ 64 - 1) → more ≡ min (count + 1) (2 ^ 64 - 1) → more ≡ min (suc length) (2 ^ 64 - 1)
counted_more length count more one two = omega arith

newest_last : (line : List ℕ) (lines : List (List ℕ)) → reverse lines ++ line ∷ [] ≡ reverse (line ∷ lines)
newest_last line lines = sym (reverse-append (line ∷ []) lines)

pub follows_printed : (setting : Setting) (start : Progress State) (state next : State) (word count more : ℕ) (old now new : SinkTold)
    → Follows setting start state count old now → prints word next ≡ step setting state
    → more ≡ min (count + 1) (2 ^ 64 - 1) → PutsLines now new (printed_line word ∷ []) → Follows setting start next more old new
follows_printed setting start state next word count more old now new follows e counts put = record {
  lines = printed_line word ∷ follows.lines;
  reached = reaches_printed setting start state next word count old now follows e;
  counted = counted_more (length follows.lines) count more follows.counted counts;
  puts = puts_same old new (reverse follows.lines ++ printed_line word ∷ []) (reverse (printed_line word ∷ follows.lines)) (newest_last (printed_line word) follows.lines)
      (puts_both old now new (reverse follows.lines) (printed_line word ∷ []) follows.puts put);
}

-- the first ones of the lines that the run has printed in a state that it comes to are first ones of all its lines
printed_front : (setting : Setting) (start now : Progress State) (old new : SinkTold) → Reaches {E = End} (proceeds setting) start now
    → PutsFirst old new (reverse now.lines) → WritesFrontFrom setting start old new
printed_front setting start now old new reached put =
    let halted = run_ends setting start in
    let more = lines_first setting start now halted.last halted.end reached halted.run in
    let closing = closing_lines setting.names halted.end halted.last.state in
    let whole = lines_from setting halted.end halted.last in
    let split : reverse now.lines ++ (reverse more.more ++ closing) ≡ whole =
    sym (append_assoc (reverse now.lines) (reverse more.more) closing)
    ∙ ap (λ (printed : List (List ℕ)). printed ++ closing) (sym (ap reverse more.is ∙ reverse-append more.more now.lines)) in
    let puts = first_same old new (reverse now.lines ++ (reverse more.more ++ closing)) whole split (first_more old new (reverse now.lines) (reverse more.more ++ closing) put) in
    record {
      end = halted.end;
      last = halted.last;
      run = halted.run;
      front = first_front old new whole puts;
      puts = λ short. puts;
    }

pub follows_front : (setting : Setting) (start : Progress State) (state : State) (count : ℕ) (old now : SinkTold)
    → Follows setting start state count old now → WritesFrontFrom setting start old now
follows_front setting start state count old now follows =
    printed_front setting start (record { state = state; lines = follows.lines }) old now follows.reached
    (first_same old now (reverse follows.lines ++ []) (reverse follows.lines) (append-nil (reverse follows.lines)) (first_all old now (reverse follows.lines) [] follows.puts))

front_printed : (setting : Setting) (start : Progress State) (state next : State) (word count : ℕ) (old now new : SinkTold)
    → Follows setting start state count old now → prints word next ≡ step setting state
    → AppendsFront now.written new.written (printed_line word) → new.puts ≡ now.puts → WritesFrontFrom setting start old new
front_printed setting start state next word count old now new follows e front kept =
    printed_front setting start (record { state = next; lines = printed_line word ∷ follows.lines }) old new
    (reaches_printed setting start state next word count old now follows e)
    (first_same old new (reverse follows.lines ++ printed_line word ∷ []) (reverse (printed_line word ∷ follows.lines)) (newest_last (printed_line word) follows.lines)
    (first_after old now new (reverse follows.lines) (printed_line word ∷ []) follows.puts (first_failed now new (printed_line word) [] front kept)))

-- a step of the machine that isn't the last
pub follows_more : (setting : Setting) (start : Progress State) (state next : State) (did : Did) (count more : ℕ) (old now new : SinkTold)
    → Follows setting start state count old now → effect_of did next ≡ step setting state → ended_of did ≡ None → Wrote did count more now new
    → Follows setting start next more old new
follows_more setting start state next GoesOn count more old now new follows e goes wrote =
    rw (wrote.0, wrote.1) (follows_on setting start state next count old now follows e)
follows_more setting start state next (Prints word) count more old now new follows e goes wrote =
    follows_printed setting start state next word count more old now new follows e wrote.0 (puts_one now new (printed_line word) wrote.1 wrote.2)
follows_more setting start state next (Finishes end) count more old now new follows e goes wrote = cc

pub front_more : (setting : Setting) (start : Progress State) (state next : State) (did : Did) (count : ℕ) (old now new : SinkTold)
    → Follows setting start state count old now → effect_of did next ≡ step setting state → WroteFront did now new
    → WritesFrontFrom setting start old new
front_more setting start state next GoesOn count old now new follows e wrote = absurd wrote
front_more setting start state next (Prints word) count old now new follows e wrote =
    front_printed setting start state next word count old now new follows e wrote.0 wrote.1
front_more setting start state next (Finishes end) count old now new follows e wrote = absurd wrote

-- nothing was written
pub front_none : (setting : Setting) (start : Progress State) (old : SinkTold) → WritesFrontFrom setting start old old
front_none setting start old =
    printed_front setting start start old old (record { after = 0; by = refl }) (first_none old (reverse start.lines))

-- ---- turns

follows_passes : (setting : Setting) (start : Progress State) (state middle : State) (count : ℕ) (old now : SinkTold)
    → Follows setting start state count old now → Passes setting state middle → Follows setting start middle count old now
follows_passes setting start state middle count old now follows passes = record {
  lines = follows.lines;
  reached = reaches_by (proceeds setting) start (record { state = state; lines = follows.lines }) (record { state = middle; lines = follows.lines }) follows.reached (passes.by follows.lines);
  counted = follows.counted;
  puts = follows.puts;
}

pub after_effect : (did : Did) (last next : State) (effect : Effect State) → ended_of did ≡ None → IsAfter did last next → effect_of did last ≡ effect → effect_of did next ≡ effect
after_effect GoesOn last next effect goes after e = subst (λ (s : State). goes_on s ≡ effect) after e
after_effect (Prints word) last next effect goes after e = subst (λ (s : State). prints word s ≡ effect) after e
after_effect (Finishes end) last next effect goes after e = cc

-- a turn of the machine that isn't the last
pub follows_turned : (setting : Setting) (start : Progress State) (state next : State) (did : Did) (count more : ℕ) (old now new : SinkTold)
    → Follows setting start state count old now → Turned setting state did next → ended_of did ≡ None → Wrote did count more now new
    → Follows setting start next more old new
follows_turned setting start state next did count more old now new follows turned goes wrote =
    follows_more setting start turned.middle next did count more old now new (follows_passes setting start state turned.middle count old now follows turned.passes)
    (after_effect did turned.last next (step setting turned.middle) goes turned.after turned.effect) goes wrote

pub front_turned : (setting : Setting) (start : Progress State) (state next : State) (did : Did) (count : ℕ) (old now new : SinkTold)
    → Follows setting start state count old now → Turned setting state did next → ended_of did ≡ None → WroteFront did now new
    → WritesFrontFrom setting start old new
front_turned setting start state next did count old now new follows turned goes wrote =
    front_more setting start turned.middle next did count old now new (follows_passes setting start state turned.middle count old now follows turned.passes)
    (after_effect did turned.last next (step setting turned.middle) goes turned.after turned.effect) wrote

-- ---- the last turn

-- the run has ended, and what is left of its last state is this
record Ended (setting : Setting) (start : Progress State) (end : End) (next : State) (count : ℕ) (old now : SinkTold) : Type 0 where
  last : Progress State
  run : Ends (proceeds setting) start end last
  alike : IsAlike last.state next
  counted : count ≡ line_count last.lines
  puts : PutsLines old now (reverse last.lines)

ended_turned : (setting : Setting) (start : Progress State) (state next : State) (did : Did) (end : End) (count : ℕ) (old now : SinkTold)
    → Follows setting start state count old now → Turned setting state did next → ended_of did ≡ Some end → Ended setting start end next count old now
unfolding proceeds
ended_turned setting start state next GoesOn end count old now follows turned ended = cc
ended_turned setting start state next (Prints word) end count old now follows turned ended = cc
ended_turned setting start state next (Finishes over) end count old now follows turned ended =
    let same : over ≡ end = cc in
    let last = turned.last in let alike : IsAlike turned.last next = turned.after in
    let passed = follows_passes setting start state turned.middle count old now follows turned.passes in
    let ends_so : ends end last ≡ step setting turned.middle = ap (λ (how : End). ends how last) (sym same) ∙ turned.effect in
    record {
      last = record { state = last; lines = passed.lines };
      run = ends_more (proceeds setting) start (record { state = turned.middle; lines = passed.lines }) end (record { state = last; lines = passed.lines })
          passed.reached (ap (after passed.lines) (sym ends_so));
      alike = alike;
      counted = passed.counted;
      puts = passed.puts;
    }

-- an end that is no trap shows nothing
pub untrapped_lines : (names : ℕ → List ℕ) (end : End) (state : State) → ((trap : Trapped) → end ≡ Trap trap → ⊥) → [] ≡ closing_lines names end state
untrapped_lines names (Trap trap) state none = absurd (none trap refl)
untrapped_lines names _ state none = refl

closing_same : (names : ℕ → List ℕ) (end : End) (last state : State) → last.below ≡ state.below → closing_lines names end last ≡ closing_lines names end state
closing_same names (Trap trap) last state below = ap (bundle_lines names 1) below
closing_same names _ last state below = refl

pub end_turned : (setting : Setting) (start : Progress State) (state next : State) (did : Did) (end : End) (count : ℕ) (ran : Ran) (old now new : SinkTold)
    → Follows setting start state count old now → Turned setting state did next → ended_of did ≡ Some end
    → ran ≡ record { end = end; func = record { 0 = next.running.func }; steps = next.steps; events = next.events; lines = count }
    → new.written ≡ append_known now.written (concat (closing_lines setting.names end next))
    → (All IsShort (closing_lines setting.names end next) → PutsLines now new (closing_lines setting.names end next)) → IsRunFrom setting start ran old new
end_turned setting start state next did end count ran old now new follows turned ended is shown put =
    let over = ended_turned setting start state next did end count old now follows turned ended in
    let printed = reverse over.last.lines in
    let closing = closing_lines setting.names end next in
    let same : printed ++ closing ≡ lines_from setting end over.last =
    ap (λ (lines : List (List ℕ)). printed ++ lines) (sym (closing_same setting.names end over.last.state next over.alike.below)) in
    rw is (record {
      last = over.last;
      run = over.run;
      func = sym over.alike.func;
      steps = sym over.alike.steps;
      events = sym over.alike.events;
      lines = over.counted;
      written = append_known-then old.written now.written new.written (concat printed) (concat closing) over.puts.written shown
          ∙ ap (append_known old.written) (sym (concat-append printed closing) ∙ ap concat same);
      puts = λ short.
          puts_same old new (printed ++ closing) (lines_from setting end over.last) same
          (puts_both old now new printed closing over.puts (put (all_back IsShort printed closing (All-same IsShort (printed ++ closing) (lines_from setting end over.last) same short))));
    })

-- what is shown at the end was written in part
pub front_ended : (setting : Setting) (start : Progress State) (state next : State) (did : Did) (end : End) (count : ℕ) (old now new : SinkTold)
    → Follows setting start state count old now → Turned setting state did next → ended_of did ≡ Some end
    → AppendsFront now.written new.written (concat (closing_lines setting.names end next))
    → (All IsShort (closing_lines setting.names end next) → PutsFirst now new (closing_lines setting.names end next)) → WritesFrontFrom setting start old new
front_ended setting start state next did end count old now new follows turned ended front put =
    let over = ended_turned setting start state next did end count old now follows turned ended in
    let printed = reverse over.last.lines in
    let closing = closing_lines setting.names end next in
    let same : printed ++ closing ≡ lines_from setting end over.last =
    ap (λ (lines : List (List ℕ)). printed ++ lines) (sym (closing_same setting.names end over.last.state next over.alike.below)) in
    record {
      end = end;
      last = over.last;
      run = over.run;
      front =
          AppendsFront-same (AppendsFront-second old.written (concat printed) over.puts.written front) (concat (lines_from setting end over.last))
          (ap concat (sym same) ∙ concat-append printed closing);
      puts = λ short.
          first_same old new (printed ++ closing) (lines_from setting end over.last) same
          (first_after old now new printed closing over.puts (put (all_back IsShort printed closing (All-same IsShort (printed ++ closing) (lines_from setting end over.last) same short))));
    }
