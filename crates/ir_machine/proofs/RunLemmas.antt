-- A run by its steps, and what it has written.
use Rattle.std.proofs.Common.{◌≡◌, ℕ, ℤ, suc, ◌+◌, ◌-◌, ◌^◌, min, Bool, false, List, [], ◌∷◌, ◌++◌, length, Option, Some, None, refl, sym, ap, ◌∙◌, subst, arith, inl, inr}
use Rattle.std.specs.List.{All, concat}
use Rattle.std.proofs.lemmas.List.{append-nil, append_assoc}
use Rattle.std.proofs.lemmas.List.Elements.{All-same}
use Rattle.std.proofs.lemmas.List.Folds.{concat-append}
use Rattle.list_laws.proofs.Contents.{all_back}
use Rattle.tool_io.specs.Sink.{append_known, AppendsFront}
use Rattle.tool_io.proofs.AppendLaws.{append_known-then, AppendsFront-first, AppendsFront-same, AppendsFront-second}
use Rattle.piece_writer.specs.LinePuts.{IsShort, PutsFirst, PutsLines, SinkTold}
use Rattle.piece_writer.proofs.LineLaws.{first_after, first_all, first_front, first_more, first_none, first_same, puts_both, puts_none, puts_same}
use Rattle.sp_ids.specs.declared.ends.End.{End}
use Rattle.sp_ids.specs.declared.ends.End.TheVariants as stops
use Rattle.ir_ast.specs.Modules.{ModuleContent}
use Rattle.map_bytes.specs.Maps.{StackMap}
use Rattle.move_plan.specs.declared.plan_lines.PlanLine.{PlanLine}
use Rattle.moving_heap.specs.declared.stands.Stand.{Stand}
use Rattle.moving_heap.specs.Settled.{AreSettled}
use Rattle.object_meaning.specs.Effects.{Effect, goes_on, prints, ends, Progress, after, printed_line, line_count}
use Rattle.object_meaning.specs.Outcomes.{whole_text}
use Rattle.object_meaning.specs.Runs.{Ends, Go, Next, advance, goes}
use Rattle.object_meaning.specs.Texts.{function_name}
use Rattle.object_meaning.specs.Traces.{done_at}
use Rattle.object_meaning.proofs.RunLaws.{goes_more}
use Rattle.machine_meaning.specs.Code.{machinery_of}
use Rattle.machine_meaning.specs.Machines.{Machine, Machinery}
use Rattle.machine_meaning.specs.MachineSteps.{machine_step}
use Rattle.machine_meaning.specs.MachineRuns.{MachineOutcome, MachineGives, machine_outcome, machine_proceeds, machine_opening}
use Rattle.machine_meaning.specs.TrapLines.{closing_of}
use Rattle.machine_meaning.proofs.SettledLaws.{IsSoundAfter, step_sound}
use Rattle.runs_unseen.proofs.machine_ends.EndLaws.{each_run_ends}
use Rattle.stackmap_write.specs.ModuleMaps.{map_of}
use Rattle.moves_unseen.specs.Waits.{IsSound}
use Rattle.runs_unseen.proofs.SeenRuns.{seen_here}
use Rattle.tool_report.specs.Closings.{closing_line}
use Rattle.run_texts.specs.RunTexts.{RunWrites, end_lines, last_lines, lines_from, printed_by, run_lines, step_lines}
use Rattle.run_texts.proofs.TextLaws.{bare_texts, traced_front, traced_last, written_first}
use Rattle.run_tasks.specs.declared.runs.Ran.{Ran}
use Rattle.run_tasks.proofs.RunLemmas.{ran_is}
use Rattle.run_traces.specs.declared.happenings.Happening.{Happening}
use Rattle.run_tasks.specs.declared.printing.Did.{Did}
use Rattle.run_tasks.specs.declared.printing.Did.TheVariants.{GoesOn, Prints, Ends as Finishes}
use Rattle.ir_machine.specs.declared.run.Shows.{Shows}
use Rattle.ir_machine.specs.Executors.{told, told_of, without_words}
use Rattle.ir_machine.specs.Traces.{StepForeseen, did_lose, is_lost, shown_lines}
use Rattle.ir_machine.specs.Answers.{BeginsText, Follows, IsRunFrom, IsRunOver, IsRunUnseen, PutsFrontOver, PutsRunOver, WritesFrontFrom, WritesFrontOver, counted_by, lines_of_step, lines_over, lines_of_run, printed_of, unprinted}
use Rattle.run_tasks.specs.Dids.{effect_of, ended_of}

pub follows_start : (machinery : Machinery) (trace : Bool) (machine : Machine) (old : SinkTold) → AreSettled machine.heap.stands → Follows machinery trace (unprinted machine) machine 0 old old
follows_start machinery trace machine old settled = record {
  lines = [];
  reached = record { after = 0; by = refl };
  counted = refl;
  puts = puts_none old;
  settled = settled;
}

counted_more : (length count : ℕ) → count ≡ min length (2 ^ 64 - 1) → min (count + 1) (2 ^ 64 - 1) ≡ min (suc length) (2 ^ 64 - 1)
counted_more length count one = omega arith

-- ---- what a step did

told_on : (next : Machine) (effect : Effect Machine) → goes_on next ≡ told effect → goes_on next ≡ effect
told_on next (goes_on other) e = e
told_on next (prints word other) e = e
told_on next (ends end other) e = cc

told_prints : (next : Machine) (word : ℕ) (effect : Effect Machine) → prints word next ≡ told effect → prints word next ≡ effect
told_prints next word (goes_on other) e = e
told_prints next word (prints other_word other) e = e
told_prints next word (ends end other) e = cc

pub record LikeEnd (end : End) (now last : Machine) (effect : Effect Machine) : Type 0 where
  pub is : ends end last ≡ effect
  pub same : told_of end now ≡ told_of end last

pub record EndsLike (end : End) (now : Machine) (effect : Effect Machine) : Type 0 where
  pub last : Machine
  pub like : LikeEnd end now last effect

told_end : (end : End) (now : Machine) (effect : Effect Machine) → ends end (told_of end now) ≡ told effect → EndsLike end now effect
told_end end now (goes_on other) e = cc
told_end end now (prints word other) e = cc
told_end end now (ends over other) e =
    let same : end ≡ over = cc in
    let kept : told_of end now ≡ told_of over other = cc in
    record { last = other; like = record { is = ap (λ (one : End). ends one other) same; same = kept ∙ ap (λ (one : End). told_of one other) (sym same) } }

-- all but the stacks is the same
bare_same : (end : End) (now last : Machine) → told_of end now ≡ told_of end last → without_words now ≡ without_words last
bare_same (stops.Return number) now last e = ap without_words e
bare_same (stops.Trap trap) now last e = ap without_words e
bare_same stops.OutOfSteps now last e = ap without_words e
bare_same stops.Poison now last e = ap without_words e
bare_same stops.LostFrame now last e = e

-- and what waiting frames show
closing_same : (machinery : Machinery) (end : End) (now last : Machine) → told_of end now ≡ told_of end last → closing_of machinery end now ≡ closing_of machinery end last
closing_same machinery (stops.Return number) now last e = refl
closing_same machinery (stops.Trap trap) now last e = ap (closing_of machinery (stops.Trap trap)) e
closing_same machinery stops.OutOfSteps now last e = refl
closing_same machinery stops.Poison now last e = refl
closing_same machinery stops.LostFrame now last e = refl

lost_end : (end : End) (machine : Machine) → is_lost (ends end machine) ≡ did_lose (Finishes end)
lost_end (stops.Return number) machine = refl
lost_end (stops.Trap trap) machine = refl
lost_end stops.OutOfSteps machine = refl
lost_end stops.Poison machine = refl
lost_end stops.LostFrame machine = refl

lost_same : (did : Did) (next : Machine) (effect : Effect Machine) → told (effect_of did next) ≡ told effect → is_lost effect ≡ did_lose did
lost_same GoesOn next effect e = ap is_lost (sym (told_on next effect e))
lost_same (Prints word) next effect e = ap is_lost (sym (told_prints next word effect e))
lost_same (Finishes end) next effect e = let like = told_end end next effect e in ap is_lost (sym like.like.is) ∙ lost_end end like.last

printed_same : (did : Did) (next : Machine) (effect : Effect Machine) → told (effect_of did next) ≡ told effect → printed_by effect ≡ printed_of did
printed_same GoesOn next effect e = ap printed_by (sym (told_on next effect e))
printed_same (Prints word) next effect e = ap printed_by (sym (told_prints next word effect e))
printed_same (Finishes end) next effect e = ap printed_by (sym (told_end end next effect e).like.is)

settled_after : (next : Machine) (effect : Effect Machine) → goes_on next ≡ effect → IsSoundAfter effect → AreSettled next.heap.stands
settled_after next effect e sound = subst IsSoundAfter (sym e) sound

settled_printed : (next : Machine) (word : ℕ) (effect : Effect Machine) → prints word next ≡ effect → IsSoundAfter effect → AreSettled next.heap.stands
settled_printed next word effect e sound = subst IsSoundAfter (sym e) sound

pub settled_end : (next : Machine) (did : Did) (end : End) (machinery : Machinery) (machine : Machine) → AreSettled machine.heap.stands → told (effect_of did next) ≡ told (machine_step machinery machine)
    → ended_of did ≡ Some end → AreSettled next.heap.stands
settled_end next GoesOn end machinery machine settled e is = cc
settled_end next (Prints word) end machinery machine settled e is = cc
settled_end next (Finishes over) end machinery machine settled e is =
    let like = told_end over next (machine_step machinery machine) e in
    let sound : AreSettled like.last.heap.stands = subst IsSoundAfter (sym like.like.is) (step_sound machinery machine settled) in
    subst (λ (m : Machine). AreSettled m.heap.stands) (sym (bare_same over next like.last like.like.same)) sound

-- ---- a step further

module _ (content : ModuleContent) (machinery : Machinery) (shows : Shows) (start : Progress Machine) (machine later next : Machine) (count : ℕ) (old now : SinkTold)
    (follows : Follows machinery shows.trace start machine count old now) where
  abbrev written_so_far : List (List ℕ)
  written_so_far = lines_from machinery shows.trace follows.reached.after (Go start)

  -- where the run stands after one more step
  one_step : goes (machine_proceeds machinery) (suc follows.reached.after) (Go start) ≡ after follows.lines (machine_step machinery machine)
  unfolding machine_proceeds
  one_step = goes_more (machine_proceeds machinery) follows.reached.after (Go start) ∙ ap (advance (machine_proceeds machinery)) follows.reached.by

  pub follows_front : WritesFrontFrom content machinery shows start old now
  follows_front = inl (record {
    steps = follows.reached.after;
    puts = first_same old now (written_so_far ++ []) written_so_far (append-nil written_so_far) (first_all old now written_so_far [] follows.puts);
  })

  module _ (event : Bool) (one : Happening) (did : Did) (foreseen : StepForeseen machinery shows.trace machine event one) (same : machine_step machinery later ≡ machine_step machinery machine)
      (does : told (effect_of did next) ≡ told (machine_step machinery later)) where
    done : told (effect_of did next) ≡ told (machine_step machinery machine)
    done = does ∙ ap told same

    step_is : step_lines machinery shows.trace machine ≡ shown_lines event (did_lose did) one ++ printed_of did
    step_is =
        ap (λ front. front ++ printed_by (machine_step machinery machine)) (foreseen ∙ ap (λ lost. shown_lines event lost one) (lost_same did next (machine_step machinery machine) done))
        ∙ ap (λ rest. shown_lines event (did_lose did) one ++ rest) (printed_same did next (machine_step machinery machine) done)

    lines_next : lines_from machinery shows.trace (suc follows.reached.after) (Go start) ≡ written_so_far ++ (shown_lines event (did_lose did) one ++ printed_of did)
    lines_next =
        traced_last (λ progress. step_lines machinery shows.trace progress.state) (machine_proceeds machinery) follows.reached.after (Go start)
        ∙ ap (λ (state : Next End (Progress Machine)). written_so_far ++ done_at (λ progress. step_lines machinery shows.trace progress.state) state) follows.reached.by
        ∙ ap (λ lines. written_so_far ++ lines) step_is

    pub step_front : (new : SinkTold) → PutsFirst now new (lines_of_step event one did) → WritesFrontFrom content machinery shows start old new
    step_front new front = inl (record {
      steps = suc follows.reached.after;
      puts = first_same old new (written_so_far ++ lines_of_step event one did) (lines_from machinery shows.trace (suc follows.reached.after) (Go start)) (sym lines_next)
          (first_after old now new written_so_far (lines_of_step event one did) follows.puts front);
    })

    module _ (mid : SinkTold) (added : PutsLines now mid (lines_of_step event one did)) where
      puts_next : PutsLines old mid (lines_from machinery shows.trace (suc follows.reached.after) (Go start))
      puts_next =
          puts_same old mid (written_so_far ++ lines_of_step event one did) (lines_from machinery shows.trace (suc follows.reached.after) (Go start)) (sym lines_next)
          (puts_both old now mid written_so_far (lines_of_step event one did) follows.puts added)

      goes_so : goes_on next ≡ machine_step machinery machine → Follows machinery shows.trace start next count old mid
      goes_so e = record {
        lines = follows.lines;
        reached = record { after = suc follows.reached.after; by = one_step ∙ ap (after follows.lines) (sym e) };
        counted = follows.counted;
        puts = puts_next;
        settled = settled_after next (machine_step machinery machine) e (step_sound machinery machine follows.settled);
      }

      prints_so : (word : ℕ) → prints word next ≡ machine_step machinery machine → Follows machinery shows.trace start next (min (count + 1) (2 ^ 64 - 1)) old mid
      prints_so word e = record {
        lines = printed_line word ∷ follows.lines;
        reached = record { after = suc follows.reached.after; by = one_step ∙ ap (after follows.lines) (sym e) };
        counted = counted_more (length follows.lines) count follows.counted;
        puts = puts_next;
        settled = settled_printed next word (machine_step machinery machine) e (step_sound machinery machine follows.settled);
      }

  -- a step that isn't the last
  pub follows_more : (event : Bool) (one : Happening) (did : Did) → StepForeseen machinery shows.trace machine event one → machine_step machinery later ≡ machine_step machinery machine
      → told (effect_of did next) ≡ told (machine_step machinery later) → ended_of did ≡ None → (mid : SinkTold) → PutsLines now mid (lines_of_step event one did)
      → Follows machinery shows.trace start next (counted_by did count) old mid
  follows_more event one GoesOn foreseen same does goes mid added =
      goes_so event one GoesOn foreseen same does mid added (told_on next (machine_step machinery machine) (does ∙ ap told same))
  follows_more event one (Prints word) foreseen same does goes mid added =
      prints_so event one (Prints word) foreseen same does mid added word (told_prints next word (machine_step machinery machine) (does ∙ ap told same))
  follows_more event one (Finishes end) foreseen same does goes mid added = cc

  -- the last one
  module _ (event : Bool) (one : Happening) (over end : End) (foreseen : StepForeseen machinery shows.trace machine event one) (same : machine_step machinery later ≡ machine_step machinery machine)
      (does : told (effect_of (Finishes over) next) ≡ told (machine_step machinery later)) (is : over ≡ end) (mid new : SinkTold) (added : PutsLines now mid (lines_of_step event one (Finishes over))) where
    abbrev like : EndsLike over next (machine_step machinery machine)
    like = told_end over next (machine_step machinery machine) (does ∙ ap told same)

    abbrev ends_so : Ends (machine_proceeds machinery) start end (record { state = like.last; lines = follows.lines })
    ends_so = record {
      within = suc follows.reached.after;
      by = one_step ∙ ap (after follows.lines) (sym (ap (λ (how : End). ends how like.last) (sym is) ∙ like.like.is));
    }

    abbrev before_end : List (List ℕ)
    before_end = lines_from machinery shows.trace (suc follows.reached.after) (Go start)

    abbrev at_end : List (List ℕ)
    at_end = last_lines content machinery shows.places end next

    abbrev all_lines : List (List ℕ)
    all_lines = lines_of_run content machinery shows (suc follows.reached.after) start end like.last

    bare : without_words next ≡ without_words like.last
    bare = bare_same over next like.last like.like.same

    all_are : before_end ++ at_end ≡ all_lines
    all_are =
        ap (λ (shown : List (List ℕ)). before_end ++ (shown ++ end_lines content shows.places end next))
        (subst (λ (how : End). closing_of machinery how next ≡ closing_of machinery how like.last) is (closing_same machinery over next like.last like.like.same))
        ∙ ap (λ (m : Machine). before_end ++ (closing_of machinery end like.last ++ end_lines content shows.places end m)) bare

    before : PutsLines old mid before_end
    before = puts_next event one (Finishes over) foreseen same does mid added

    short_end : All IsShort all_lines → All IsShort at_end
    short_end short = all_back IsShort before_end at_end (All-same IsShort (before_end ++ at_end) all_lines all_are short)

    ended : new.written ≡ append_known mid.written (concat at_end) → (All IsShort at_end → PutsLines mid new at_end) → (ran : Ran)
        → ran ≡ record { end = end; func = record { 0 = next.state.running.func }; steps = next.state.steps; events = next.state.events; lines = count }
        → IsRunFrom content machinery shows start ran old new
    ended closed put ran ran_is = rw ran_is (record {
      last = record { state = like.last; lines = follows.lines };
      run = ends_so;
      func = ap (λ (m : Machine). m.state.running.func) bare;
      steps = ap (λ (m : Machine). m.state.steps) bare;
      events = ap (λ (m : Machine). m.state.events) bare;
      lines = follows.counted;
      written = append_known-then old.written mid.written new.written (concat before_end) (concat at_end) before.written closed
          ∙ ap (append_known old.written) (sym (concat-append before_end at_end) ∙ ap concat all_are);
      puts = λ short. puts_same old new (before_end ++ at_end) all_lines all_are (puts_both old mid new before_end at_end before (put (short_end short)));
    })

    closing_front : AppendsFront mid.written new.written (concat at_end) → (All IsShort at_end → PutsFirst mid new at_end) → WritesFrontFrom content machinery shows start old new
    closing_front front put = inr (record {
      end = end;
      last = record { state = like.last; lines = follows.lines };
      run = ends_so;
      front = AppendsFront-same (AppendsFront-second old.written (concat before_end) before.written front) (concat all_lines) (ap concat (sym all_are) ∙ concat-append before_end at_end);
      puts = λ short. first_same old new (before_end ++ at_end) all_lines all_are (first_after old mid new before_end at_end before (put (short_end short)));
    })

  module _ (event : Bool) (one : Happening) (end : End) where
    finishing : (did : Did) → ended_of did ≡ Some end → (P : Did → Type 0) → ((over : End) → over ≡ end → P (Finishes over)) → P did
    finishing GoesOn is P case = cc
    finishing (Prints word) is P case = cc
    finishing (Finishes over) is P case = case over cc

    pub end_more : (did : Did) → StepForeseen machinery shows.trace machine event one → machine_step machinery later ≡ machine_step machinery machine
        → told (effect_of did next) ≡ told (machine_step machinery later) → ended_of did ≡ Some end → (mid new : SinkTold) → PutsLines now mid (lines_of_step event one did)
        → new.written ≡ append_known mid.written (concat (last_lines content machinery shows.places end next)) → (All IsShort (last_lines content machinery shows.places end next) → PutsLines mid new (last_lines content machinery shows.places end next)) → (ran : Ran)
        → ran ≡ record { end = end; func = record { 0 = next.state.running.func }; steps = next.state.steps; events = next.state.events; lines = count }
        → IsRunFrom content machinery shows start ran old new
    end_more did foreseen same does is mid new added closed put ran ran_is =
        finishing did is (λ d. told (effect_of d next) ≡ told (machine_step machinery later) → PutsLines now mid (lines_of_step event one d) → IsRunFrom content machinery shows start ran old new)
        (λ over over_is does added. ended event one over end foreseen same does over_is mid new added closed put ran ran_is) does added

    pub end_front : (did : Did) → StepForeseen machinery shows.trace machine event one → machine_step machinery later ≡ machine_step machinery machine
        → told (effect_of did next) ≡ told (machine_step machinery later) → ended_of did ≡ Some end → (mid new : SinkTold) → PutsLines now mid (lines_of_step event one did)
        → AppendsFront mid.written new.written (concat (last_lines content machinery shows.places end next)) → (All IsShort (last_lines content machinery shows.places end next) → PutsFirst mid new (last_lines content machinery shows.places end next)) → WritesFrontFrom content machinery shows start old new
    end_front did foreseen same does is mid new added front put =
        finishing did is (λ d. told (effect_of d next) ≡ told (machine_step machinery later) → PutsLines now mid (lines_of_step event one d) → WritesFrontFrom content machinery shows start old new)
        (λ over over_is does added. closing_front event one over end foreseen same does over_is mid new added front put) does added

-- no object has been made
pub none_settled : (stands : List Stand) → stands ≡ [] → AreSettled stands
none_settled stands none = rw none (record {
  each = λ k d l. absurd (omega arith);
  within = omega arith;
  numbered = record { at = λ k d l. absurd (omega arith) };
  apart = refl;
})

-- nothing was written
pub front_none : (content : ModuleContent) (machinery : Machinery) (shows : Shows) (start : Progress Machine) (old : SinkTold) → WritesFrontFrom content machinery shows start old old
front_none content machinery shows start old = inl (record { steps = 0; puts = first_none old [] })

-- ---- what the run gives

module _ (content : ModuleContent) (map : StackMap) (input : List ℤ) (plan : List PlanLine) (bound : ℕ) (shows : Shows) where
  abbrev machinery : Machinery
  machinery = machinery_of content map plan bound

  module _ (outcome : MachineOutcome) (gives : MachineGives content map input plan bound outcome) where
    abbrev given_text : List ℕ
    given_text = concat (run_lines content machinery shows.places shows.trace input gives.run.within outcome.end gives.last.state)

    writes_given : RunWrites content map input plan bound shows.places shows.trace outcome given_text
    writes_given = record { gives = gives; is = refl }

  abbrev outcome_ended : (end : End) (last : Progress Machine) → Ends (machine_proceeds machinery) (machine_opening machinery input) end last → MachineOutcome
  outcome_ended end last run = machine_outcome machinery input run.within end last

  abbrev gives_ended : (end : End) (last : Progress Machine) (run : Ends (machine_proceeds machinery) (machine_opening machinery input) end last)
      → MachineGives content map input plan bound (outcome_ended end last run)
  gives_ended end last run = record { last = last; run = run; is = refl }

  module _ (old new : SinkTold) where
    pub run_is : (ran : Ran) → IsRunFrom content machinery shows (machine_opening machinery input) ran old new → IsRunOver content map input plan bound shows ran old.written new.written
    run_is ran run =
        let outcome = outcome_ended ran.end run.last run.run in
        let gives = gives_ended ran.end run.last run.run in
        record {
          outcome = outcome;
          text = given_text outcome gives;
          writes = writes_given outcome gives;
          answer = ran_is ran run.last.state.state.running.func run.last.state.state.steps run.last.state.state.events (line_count run.last.lines) run.func run.steps run.events run.lines;
          written = run.written;
        }

    pub puts_are : (ran : Ran) → IsRunFrom content machinery shows (machine_opening machinery input) ran old new → PutsRunOver content map input plan bound shows old new
    puts_are ran run = record { outcome = outcome_ended ran.end run.last run.run; gives = gives_ended ran.end run.last run.run; puts = run.puts }

    front_of : (outcome : MachineOutcome) (gives : MachineGives content map input plan bound outcome) → AppendsFront old.written new.written (given_text outcome gives)
        → WritesFrontOver content map input plan bound shows old.written new.written
    front_of outcome gives front = record {
      outcome = outcome;
      text = given_text outcome gives;
      writes = writes_given outcome gives;
      front = front;
    }

    -- the lines of the first steps stand first among all
    begun_puts : (begun : BeginsText machinery shows.trace (machine_opening machinery input) old new) → PutsFrontOver content map input plan bound shows old new
    begun_puts begun =
        let given = each_run_ends machinery input in
        let start = Go (machine_opening machinery input) in
        let did : Progress Machine → List (List ℕ) = λ progress. step_lines machinery shows.trace progress.state in
        let front = traced_front did (machine_proceeds machinery) begun.steps given.gives.run.within start given.outcome.end given.gives.last given.gives.run.by in
        let behind = last_lines content machinery shows.places given.outcome.end given.gives.last.state in
        let first = lines_from machinery shows.trace begun.steps start in
        record {
          outcome = given.outcome;
          gives = given.gives;
          puts = λ short.
              first_same old new (first ++ (front.rest ++ behind)) (lines_over content map input plan bound shows given.outcome given.gives)
              (sym (append_assoc first front.rest behind) ∙ ap (λ lines. lines ++ behind) (sym front.is))
              (first_more old new first (front.rest ++ behind) begun.puts);
        }

    begun_front : BeginsText machinery shows.trace (machine_opening machinery input) old new → WritesFrontOver content map input plan bound shows old.written new.written
    begun_front begun =
        let given = each_run_ends machinery input in
        let first = written_first content map input plan bound shows.places shows.trace given.outcome (given_text given.outcome given.gives) (writes_given given.outcome given.gives) begun.steps in
        front_of given.outcome given.gives
        (AppendsFront-same (AppendsFront-first (first_front old new (lines_from machinery shows.trace begun.steps (Go (machine_opening machinery input))) begun.puts) first.more) (given_text given.outcome given.gives) first.is)

    pub front_is : WritesFrontFrom content machinery shows (machine_opening machinery input) old new → WritesFrontOver content map input plan bound shows old.written new.written
    front_is (inl begun) = begun_front begun
    front_is (inr begun) = front_of (outcome_ended begun.end begun.last begun.run) (gives_ended begun.end begun.last begun.run) begun.front

    pub cut_is : WritesFrontFrom content machinery shows (machine_opening machinery input) old new → PutsFrontOver content map input plan bound shows old new
    cut_is (inl begun) = begun_puts begun
    cut_is (inr begun) = record { outcome = outcome_ended begun.end begun.last begun.run; gives = gives_ended begun.end begun.last begun.run; puts = begun.puts }

-- ---- runs of verified modules over their own maps

module _ (content : ModuleContent) (sound : IsSound content) (input : List ℤ) (plan : List PlanLine) (bound : ℕ) (shows : Shows) (old new : Option (List ℕ)) where
  own_seen : (ran : Ran) → IsRunOver content (map_of content) input plan bound shows ran old new → IsRunUnseen content input plan bound shows ran old new
  own_seen ran over =
      let writes = over.writes in
      let machine = over.outcome in
      let like = seen_here content sound input plan bound machine writes.gives in
      let outcome = like.outcome in
      record {
        outcome = outcome;
        gives = like.gives;
        machine = machine;
        seen = like.seen;
        answer = over.answer;
        text = over.text;
        writes = writes;
        written = over.written;
        bare = λ no_places no_trace.
            bare_texts content (map_of content) input plan bound machine over.text
            (subst (λ (trace : Bool). RunWrites content (map_of content) input plan bound false trace machine over.text) no_trace
            (subst (λ (places : Bool). RunWrites content (map_of content) input plan bound places shows.trace machine over.text) no_places writes))
            ∙ ap (λ lines. concat lines ++ closing_line machine.end (function_name content machine.func) machine.steps machine.events) like.seen.lines
            ∙ ap (λ (end : End). whole_text outcome ++ closing_line end (function_name content machine.func) machine.steps machine.events) like.seen.end
            ∙ ap (λ func. whole_text outcome ++ closing_line outcome.end (function_name content func) machine.steps machine.events) like.seen.func
            ∙ ap (λ steps. whole_text outcome ++ closing_line outcome.end (function_name content outcome.func) steps machine.events) like.seen.steps
            ∙ ap (λ events. whole_text outcome ++ closing_line outcome.end (function_name content outcome.func) outcome.steps events) like.seen.events;
      }

  pub seen_over : (map : StackMap) → map ≡ map_of content → (ran : Ran) → IsRunOver content map input plan bound shows ran old new → IsRunUnseen content input plan bound shows ran old new
  seen_over map own ran over = own_seen ran (subst (λ (m : StackMap). IsRunOver content m input plan bound shows ran old new) own over)
