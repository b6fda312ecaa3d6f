-- The text of a run that is shown, by the meaning on objects.
use Rattle.std.proofs.Common.{◌≡◌, ℕ, ℤ, suc, Bool, true, false, List, [], ◌∷◌, ◌++◌, map, length, Some, refl, sym, ap, ◌∙◌, append_assoc, arith}
use Rattle.std.specs.Prelude.{not, slice_get}
use Rattle.std.specs.List.{concat}
use Rattle.std.proofs.lemmas.List.Elements.{filter-append}
use Rattle.std.proofs.lemmas.List.Folds.{concat-append}
use Rattle.sp_ids.specs.declared.ends.End.{End}
use Rattle.ir_ast.specs.Layouts.{ObjectLayout}
use Rattle.ir_ast.specs.Modules.{ModuleContent}
use Rattle.ir_ast.specs.Objects.{Object}
use Rattle.move_plan.specs.declared.plan_lines.PlanLine.{PlanLine}
use Rattle.map_bytes.specs.Maps.{StackMap}
use Rattle.moving_heap.specs.declared.stands.Stand.{Stand}
use Rattle.moving_heap.specs.Contents.{Content}
use Rattle.object_meaning.specs.Outcomes.{Outcome, sizes_in}
use Rattle.object_meaning.specs.Runs.{Go}
use Rattle.object_meaning.specs.Texts.{function_name}
use Rattle.object_meaning.specs.Traces.{Event}
use Rattle.machine_meaning.specs.Code.{machinery_of}
use Rattle.machine_meaning.specs.MachineRuns.{MachineOutcome, machine_opening}
use Rattle.machine_meaning.specs.Machines.{Machine, Machinery}
use Rattle.machine_meaning.specs.TrapLines.{closing_of}
use Rattle.tool_report.specs.Closings.{closing_line}
use Rattle.tool_report.specs.RunLines.{place_line}
use Rattle.run_texts.specs.RunTexts.{RunWrites, end_lines, layout_name, lines_from, place_lines}
use Rattle.rewritten_runs.specs.Places.{stands_by}
use Rattle.rewritten_runs.proofs.event_places.RunLaws.{places_are_by_events}
use Rattle.rewritten_runs.specs.ShownTexts.{IsShownText, is_traced, object_lines, places_shown, program_lines}
use Rattle.rewritten_runs.specs.ShownStatements.{IsAlike}
use Rattle.rewritten_runs.proofs.shown_runs.LineLaws.{closing_kept, prints_from, steps_kept}

-- ---- places

place_named : (layouts : List ObjectLayout) (stand : Stand) (object : Object) (held : Content) → held.layout ≡ object.layout → held.count ≡ object.count
    → place_line stand.number (layout_name layouts held.layout) held.count stand.address ≡ place_line stand.number (layout_name layouts object.layout) object.count stand.address
place_named layouts stand object held layout count =
    ap (λ (place : ℕ). place_line stand.number (layout_name layouts place) held.count stand.address) layout
    ∙ ap (λ (c : ℕ). place_line stand.number (layout_name layouts object.layout) c stand.address) count

same_places : (layouts : List ObjectLayout) (objects : List Object) (stands : List Stand) (contents : List Content) → length contents ≡ length objects
    → ((place : ℕ) (object : Object) (held : Content) → slice_get objects place ≡ Some object → slice_get contents place ≡ Some held → (held.layout ≡ object.layout) × (held.count ≡ object.count))
    → place_lines layouts stands contents ≡ object_lines layouts objects stands
same_places layouts [] [] [] count each = refl
same_places layouts [] (stand ∷ stands) [] count each = refl
same_places layouts [] stands (held ∷ contents) count each = absurd (omega (arith, count))
same_places layouts (object ∷ objects) stands [] count each = absurd (omega (arith, count))
same_places layouts (object ∷ objects) [] (held ∷ contents) count each = refl
same_places layouts (object ∷ objects) (stand ∷ stands) (held ∷ contents) count each =
    let first = each 0 object held refl refl in
    ap (λ (line : List ℕ). line ∷ place_lines layouts stands contents) (place_named layouts stand object held first.0 first.1)
    ∙ ap (λ (lines : List (List ℕ)). place_line stand.number (layout_name layouts object.layout) object.count stand.address ∷ lines)
    (same_places layouts objects stands contents (omega (arith, count)) (λ place o h one two. each (suc place) o h one two))

-- ---- the whole

module _ (content : ModuleContent) (stack_map : StackMap) (input : List ℤ) (plan : List PlanLine) (bound : ℕ) (places trace : Bool) (machine : MachineOutcome) (text : List ℕ)
    (writes : RunWrites content stack_map input plan bound places trace machine text) (meant : Outcome) (alike : IsAlike content meant machine) where
  abbrev machinery : Machinery
  machinery = machinery_of content stack_map plan bound

  abbrev last : Machine
  last = writes.gives.last.state

  abbrev body : List (List ℕ)
  body = lines_from machinery trace writes.gives.run.within (Go (machine_opening machinery input))

  abbrev shown : List (List ℕ)
  shown = closing_of machinery machine.end last

  -- what the steps print and waiting frames show is all that the run writes
  program : lines_from machinery false writes.gives.run.within (Go (machine_opening machinery input)) ++ shown ≡ meant.lines
  program =
      ap (λ (lines : List (List ℕ)). lines ++ shown) (sym (prints_from machinery writes.gives.run.within (machine_opening machinery input) machine.end writes.gives.last writes.gives.run.by))
      ∙ (sym (ap (λ (m : MachineOutcome). m.lines) writes.gives.is) ∙ alike.lines)

  stands : last.heap.stands ≡ stands_by plan meant.happened (sizes_in content.layouts meant.objects)
  stands =
      sym (ap (λ (m : MachineOutcome). m.heap.stands) writes.gives.is)
      ∙ ((places_are_by_events content stack_map input plan bound machine writes.gives alike.way).stands
      ∙ (ap (λ (happened : List Event). stands_by plan happened (map (λ (stand : Stand). stand.size) machine.heap.stands)) alike.happened
      ∙ ap (stands_by plan meant.happened) alike.sizes))

  shown_places : (shown : Bool) → end_lines content shown machine.end last ≡ closing_line machine.end (function_name content last.state.running.func) last.state.steps last.state.events ∷ places_shown shown content plan meant
  shown_places false = refl
  shown_places true =
      let contents : machine.heap.contents ≡ last.heap.contents = ap (λ (m : MachineOutcome). m.heap.contents) writes.gives.is in
      ap (λ (lines : List (List ℕ)). closing_line machine.end (function_name content last.state.running.func) last.state.steps last.state.events ∷ lines)
      (ap (place_lines content.layouts last.heap.stands) (sym contents)
      ∙ (same_places content.layouts meant.objects last.heap.stands machine.heap.contents alike.count alike.each ∙ ap (object_lines content.layouts meant.objects) stands))

  closes : closing_line machine.end (function_name content last.state.running.func) last.state.steps last.state.events
      ≡ closing_line meant.end (function_name content meant.func) meant.steps meant.events
  closes =
      sym (ap (λ (m : MachineOutcome). closing_line m.end (function_name content m.func) m.steps m.events) writes.gives.is)
      ∙ (ap (λ (e : End). closing_line e (function_name content machine.func) machine.steps machine.events) alike.end
      ∙ (ap (λ (f : ℕ). closing_line meant.end (function_name content f) machine.steps machine.events) alike.func
      ∙ (ap (λ (s : ℕ). closing_line meant.end (function_name content meant.func) s machine.events) alike.steps
      ∙ ap (closing_line meant.end (function_name content meant.func) meant.steps) alike.events)))

  -- the text of a run that is shown, by the meaning on objects
  pub shown_text : IsShownText content plan places trace meant text
  shown_text =
      let start = Go (machine_opening machinery input) in
      let within = writes.gives.run.within in
      let close = closing_line machine.end (function_name content last.state.running.func) last.state.steps last.state.events in
      let standing = places_shown places content plan meant in
      record {
        lines = body ++ shown;
        program = filter-append (λ (line : List ℕ). not (is_traced line)) body shown
            ∙ (ap (λ (lines : List (List ℕ)). lines ++ program_lines shown) (steps_kept machinery trace within start)
            ∙ (ap (λ (lines : List (List ℕ)). lines_from machinery false within start ++ lines) (closing_kept machinery machine.end last) ∙ program));
        untraced = λ off. ap (λ (t : Bool). lines_from machinery t within start ++ shown) off ∙ program;
        whole =
            writes.is
            ∙ (ap (λ (lines : List (List ℕ)). concat (body ++ (shown ++ lines))) (shown_places places)
            ∙ (ap concat (sym (append_assoc body shown (close ∷ standing)))
            ∙ (concat-append (body ++ shown) (close ∷ standing)
            ∙ ap (λ (line : List ℕ). concat (body ++ shown) ++ (line ++ concat standing)) closes)));
      }
