-- The lines of a segment, as a part of the run.
use Rattle.std.proofs.Common.{◌≡◌, ℕ, List, [], ◌∷◌, ◌++◌, map, Option, Some, None, Ok, Err, refl, sym, ap, subst, ◌∙◌, append_assoc}
use Rattle.std.specs.Prelude.{MatchOption}
use Rattle.std.specs.Option.{option_map_or}
use Rattle.sp_ids.specs.declared.ends.End.TheVariants.{Trap as Trapped}
use Rattle.sp_ids.specs.declared.ends.Trap.{Trap}
use Rattle.sp_ids.specs.declared.ends.Trap.TheVariants.{Unreachable}
use Rattle.ir_ast.specs.Layouts.{ObjectLayout}
use Rattle.ir_ast.specs.Objects.{Object}
use Rattle.move_plan.specs.declared.plan_lines.PlanLine.{PlanLine}
use Rattle.object_meaning.specs.Effects.{ends}
use Rattle.object_meaning.specs.Frames.{resumed}
use Rattle.object_meaning.specs.Lines.{Line}
use Rattle.object_meaning.specs.Steps.{step}
use Rattle.object_meaning.proofs.StepLaws.{step_at_end}
use Rattle.object_meaning.specs.Outcomes.{sizes_in}
use Rattle.object_store.specs.declared.words.Word.{Word}
use Rattle.object_store.specs.Words.{datum}
use Rattle.flat_code.specs.declared.lines.Exit.{Exit}
use Rattle.flat_code.specs.declared.lines.Segment.{Segment}
use Rattle.flat_code.specs.Codes.{FlatModule, defined_at, segment_at, front_lines, exit_lines, Fits, Leaves}
use Rattle.flat_code.specs.Flats.{Held, flat_lines, lines_done}
use Rattle.flat_code.specs.Spots.{lines_at}
use Rattle.flat_code.specs.Straight.{Passes, held_effect, stood}
use Rattle.flat_code.proofs.StraightLemmas.{step_straight, straight_passes}
use Rattle.run_tasks.specs.declared.printing.Did.TheVariants.{Ends}
use Rattle.waiting_frames.specs.Frames.{exit_frame}
use Rattle.ir_meaning.specs.Stacks.{Frames, passed_frame}
use Rattle.ir_meaning.specs.Machines.{Rest, state_from, exit_from, today, StandsAt, Turned}
use Rattle.ir_meaning.proofs.MachineLemmas.{turned_ends, resumed_at}
use Rattle.ir_meaning.proofs.StillLemmas.{lines_still, traps_in}

pub fits_stands : (code : FlatModule) (frames : Frames) (segment : Segment) (exit : Exit) → Fits code frames.running.spot.func frames.running.spot.segment segment
    → segment.exit ≡ Some exit → StandsAt code frames segment exit
fits_stands code frames segment exit fits is = record {
  there = fits.there;
  leaves = subst (λ (found : Option Exit). MatchOption found (lines_at (defined_at code frames.running.spot.func) segment.end ≡ [])
      (Leaves code frames.running.spot.func frames.running.spot.segment segment)) is fits.leads;
}

pub resumed_fits : (code : FlatModule) (frames : Frames) (others : Rest) (segment : Segment) (exit : Exit) (answer : Word)
    → Fits code frames.running.spot.func frames.running.spot.segment segment → segment.exit ≡ Some exit
    → state_from code (record frames { running = passed_frame frames.running segment.to answer }) others ≡ resumed (exit_from code frames others) (datum answer)
resumed_fits code frames others segment exit answer fits is = resumed_at code frames others segment exit (fits_stands code frames segment exit fits is) answer

-- the frame stands at a segment, before its lines and behind them
front_is_at : (code : FlatModule) (func place : ℕ) (segment : Segment) → Fits code func place segment → front_lines code func place ≡ lines_at (defined_at code func) segment.start
front_is_at code func place segment fits = ap (λ (found : Option Segment). option_map_or (λ (one : Segment). lines_at (defined_at code func) one.start) found []) fits.there

exit_is_at : (code : FlatModule) (func place : ℕ) (segment : Segment) → Fits code func place segment → exit_lines code func place ≡ lines_at (defined_at code func) segment.end
exit_is_at code func place segment fits = ap (λ (found : Option Segment). option_map_or (λ (one : Segment). lines_at (defined_at code func) one.end) found []) fits.there

pub over_at : (code : FlatModule) (plan : List PlanLine) (bound : ℕ) (frames : Frames) (others : Rest) (segment : Segment)
    → Fits code frames.running.spot.func frames.running.spot.segment segment → segment.exit ≡ None
    → Turned (today code plan bound) (exit_from code frames others) (Ends (Trapped Unreachable)) (state_from code frames others)
over_at code plan bound frames others segment fits is =
    let setting = today code plan bound in let state = exit_from code frames others in
    let over : lines_at (defined_at code frames.running.spot.func) segment.end ≡ [] =
    subst (λ (found : Option Exit). MatchOption found (lines_at (defined_at code frames.running.spot.func) segment.end ≡ [])
    (Leaves code frames.running.spot.func frames.running.spot.segment segment)) is fits.leads in
    turned_ends setting state state (state_from code frames others) (Trapped Unreachable)
    (sym (step_at_end setting state (exit_is_at code frames.running.spot.func frames.running.spot.segment segment fits ∙ over)))
    (record { func = refl; below = refl; steps = refl; events = refl })

pub nowhere_at : (code : FlatModule) (plan : List PlanLine) (bound : ℕ) (frames : Frames) (others : Rest)
    → segment_at code frames.running.spot.func frames.running.spot.segment ≡ None
    → Turned (today code plan bound) (state_from code frames others) (Ends (Trapped Unreachable)) (state_from code frames others)
nowhere_at code plan bound frames others none =
    let setting = today code plan bound in let state = state_from code frames others in
    turned_ends setting state state state (Trapped Unreachable)
    (sym (step_at_end setting state (ap (λ (found : Option Segment). option_map_or (λ (one : Segment). lines_at (defined_at code frames.running.spot.func) one.start) found []) none)))
    (record { func = refl; below = refl; steps = refl; events = refl })

-- the lines of a segment
pub segment_passes : (code : FlatModule) (plan : List PlanLine) (bound : ℕ) (frames next : Frames) (others : Rest) (segment : Segment) (layouts : List ObjectLayout) (objects : List Object)
    → Fits code frames.running.spot.func frames.running.spot.segment segment → layouts ≡ code.content.layouts
    → Ok (record { registers = map datum next.running.registers; objects = objects })
    ≡ lines_done layouts (record { registers = map datum frames.running.registers; objects = others.objects }) segment.lines.items
    → next ≡ record frames { running = record frames.running { registers = next.running.registers } }
    → Passes (today code plan bound) (state_from code frames others) (exit_from code next (record others { objects = objects }))
segment_passes code plan bound frames next others segment layouts objects fits layouts_are done is =
    let func = frames.running.spot.func in let place = frames.running.spot.segment in
    let start = state_from code frames others in let lines = fits.fits.lines in
    let held : Held = record { registers = map datum frames.running.registers; objects = others.objects } in
    let after : Held = record { registers = map datum next.running.registers; objects = objects } in
    let done_so : lines_done code.content.layouts held (flat_lines code.content.layouts lines.front) ≡ Ok after =
    ap (lines_done code.content.layouts held) (sym lines.are) ∙ ap (λ (ls : List ObjectLayout). lines_done ls held segment.lines.items) (sym layouts_are) ∙ sym done in
    let passes = straight_passes (today code plan bound) lines.front (lines_at (defined_at code func) segment.end) start after lines.inner (front_is_at code func place segment fits ∙ lines.splits) done_so in
    let there : stood start (lines_at (defined_at code func) segment.end) after ≡ exit_from code next (record others { objects = objects }) =
    ap (λ (rest : List Line). stood start rest after) (sym (exit_is_at code func place segment fits))
    ∙ ap (λ (fs : Frames). exit_from code fs (record others { objects = objects })) (sym is) in
    subst (Passes (today code plan bound) start) there passes

-- they make no object
pub segment_still : (code : FlatModule) (registers after : List Word) (before objects : List Object) (segment : Segment) (layouts : List ObjectLayout) → layouts ≡ code.content.layouts
    → Ok (record { registers = map datum after; objects = objects }) ≡ lines_done layouts (record { registers = map datum registers; objects = before }) segment.lines.items
    → sizes_in code.content.layouts objects ≡ sizes_in code.content.layouts before
segment_still code registers after before objects segment layouts layouts_are done =
    let held : Held = record { registers = map datum registers; objects = before } in
    let last : Held = record { registers = map datum after; objects = objects } in
    lines_still code.content.layouts held last segment.lines.items (ap (λ (ls : List ObjectLayout). lines_done ls held segment.lines.items) (sym layouts_are) ∙ sym done)

pub segment_traps : (code : FlatModule) (plan : List PlanLine) (bound : ℕ) (frames next : Frames) (others : Rest) (segment : Segment) (layouts : List ObjectLayout) (objects : List Object) (trap : Trap)
    → Fits code frames.running.spot.func frames.running.spot.segment segment → layouts ≡ code.content.layouts
    → Err trap ≡ lines_done layouts (record { registers = map datum frames.running.registers; objects = others.objects }) segment.lines.items
    → next ≡ record frames { running = record frames.running { registers = next.running.registers } }
    → Turned (today code plan bound) (state_from code frames others) (Ends (Trapped trap)) (state_from code next (record others { objects = objects }))
segment_traps code plan bound frames next others segment layouts objects trap fits layouts_are done is =
    let func = frames.running.spot.func in let place = frames.running.spot.segment in
    let start = state_from code frames others in let lines = fits.fits.lines in
    let held : Held = record { registers = map datum frames.running.registers; objects = others.objects } in
    let done_so : lines_done code.content.layouts held (flat_lines code.content.layouts lines.front) ≡ Err trap =
    ap (lines_done code.content.layouts held) (sym lines.are) ∙ ap (λ (ls : List ObjectLayout). lines_done ls held segment.lines.items) (sym layouts_are) ∙ sym done in
    let trapped = traps_in code.content.layouts held lines.front trap lines.inner done_so in
    let rest = lines_at (defined_at code func) segment.end in
    let behind = trapped.line ∷ (trapped.behind ++ rest) in
    let last = stood start behind trapped.now in
    let there : start.running.rest ≡ trapped.before ++ behind =
    front_is_at code func place segment fits ∙ (lines.splits ∙ (ap (λ (front : List Line). front ++ rest) trapped.splits ∙ append_assoc trapped.before (trapped.line ∷ trapped.behind) rest)) in
    let setting = today code plan bound in
    let stepped : step setting last ≡ ends (Trapped trap) last =
    step_straight setting last trapped.line (trapped.behind ++ rest) refl trapped.straight ∙ ap (held_effect last (trapped.behind ++ rest)) trapped.traps in
    record {
      middle = last;
      passes = straight_passes setting trapped.before behind start trapped.now trapped.inner there trapped.done;
      still = lines_still code.content.layouts held trapped.now (flat_lines code.content.layouts trapped.before) trapped.done;
      last = last;
      effect = sym stepped;
      after = record {
        func = sym (ap (λ (fs : Frames). fs.running.spot.func) is);
        below = sym (ap (λ (fs : Frames). map (exit_frame code) fs.below) is);
        steps = refl;
        events = refl;
      };
    }
