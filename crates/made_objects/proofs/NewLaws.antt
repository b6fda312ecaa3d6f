-- Which new objects are made: each, but for one at which the run traps.
use Rattle.std.proofs.Common.{◌≡◌, ℕ, zero, suc, ◌+◌, Bool, true, false, List, [], ◌∷◌, ◌++◌, ◌⊎◌, inl, inr, length, refl, sym, ap, subst, ◌∙◌, cond, ℤ, pos, arith, append-nil, length-append}
use Rattle.std.specs.Prelude.{drop, take, int_lt, nat_lt, unsigned_abs}
use Rattle.std.specs.List.{sum_by}
use Rattle.std.proofs.lemmas.List.{length-map}
use Rattle.sp_ids.specs.declared.ends.End.{End}
use Rattle.sp_ids.specs.declared.ends.End.TheVariants.{Trap as Traps}
use Rattle.sp_ids.specs.declared.ends.Trap.TheVariants.{Count, Full}
use Rattle.sp_ids.specs.Numbers.{signed}
use Rattle.ir_ast.specs.declared.ops.Callee.{Callee}
use Rattle.ir_ast.specs.declared.ops.Callee.TheVariants.{New}
use Rattle.ir_ast.specs.declared.ops.Op.{Op}
use Rattle.ir_ast.specs.declared.ops.Op.TheVariants.{Call, Statepoint}
use Rattle.ir_ast.specs.declared.ops.Operand.{Operand}
use Rattle.ir_ast.specs.Layouts.{ObjectLayout}
use Rattle.ir_ast.specs.Objects.{Datum, Object, footprint, pointer}
use Rattle.object_meaning.specs.Calls.{allocated, allocating, called, made}
use Rattle.object_meaning.specs.Effects.{Effect, Progress, goes_on, prints, ends, after, printed_line}
use Rattle.object_meaning.specs.Frames.{grouped, passed}
use Rattle.object_meaning.specs.Lines.{Line}
use Rattle.object_meaning.specs.Outcomes.{events_from, proceeds, sizes_in}
use Rattle.object_meaning.specs.Registers.{number_in, operand}
use Rattle.object_meaning.specs.Runs.{Go, End as Over, goes}
use Rattle.object_meaning.specs.States.{State, Setting}
use Rattle.object_meaning.specs.Steps.{acts, step, steps_at}
use Rattle.object_meaning.specs.Tasks.{with_event}
use Rattle.object_meaning.specs.Traces.{Event, at_poll, at_new, event_at, event_of, events_at}
use Rattle.object_meaning.proofs.RunLaws.{goes_over, not_over, same_over, traced_over}
use Rattle.made_objects.specs.Statements.{IsRefused, new_count}
use Rattle.made_objects.proofs.StepLaws.{EndsAt, GoesOn, Tells, step_tells}

-- ---- the end at a new object that isn't made

abbrev Refuses : List Event → Effect State → Type 0
Refuses (at_new ∷ rest) (ends end last) = IsRefused end
Refuses events effect = Unit {0}

refuses_if : (rest : List Event) (test : Bool) (one other : Effect State) → Refuses (at_new ∷ rest) one → Refuses (at_new ∷ rest) other → Refuses (at_new ∷ rest) (cond test one other)
refuses_if rest true one other first second = first
refuses_if rest false one other first second = second

allocating_refuses : (setting : Setting) (state : State) (done : Datum → State) (layout : ℕ) (count : ℤ) → Refuses (at_new ∷ []) (allocating setting state done layout count)
allocating_refuses setting state done layout count =
    let object = made setting.layouts layout (unsigned_abs count) in
    let now : State = record (with_event (done (pointer (record { object = length state.objects + 1; offset = 0 })))) { objects = state.objects ++ object ∷ [] } in
    refuses_if [] (int_lt count (pos 0)) (ends (Traps Count) (with_event state)) (allocated setting state done object) (inl refl)
    (refuses_if [] (nat_lt 67108864 (sum_by (footprint setting.layouts) (state.objects ++ object ∷ []))) (ends (Traps Full) (with_event state)) (goes_on now) (inr refl) (tt {0}))

called_refuses : (setting : Setting) (state : State) (done : Datum → State) (callee : Callee) (operands : List Operand)
    → Refuses (event_at callee) (called setting state done callee operands)
called_refuses setting state done (New layout) operands =
    allocating_refuses setting state done layout (signed 64 (number_in (operand state.running.registers operands 0)))
called_refuses setting state done callee operands = tt {0}

acts_refuses : (setting : Setting) (state : State) (line : Line) (rest : List Line) (op : Op) → Refuses (event_of op) (acts setting state line rest op)
acts_refuses setting state line rest (Call callee types) = called_refuses setting state (passed state line rest) callee line.inst.operands
acts_refuses setting state line rest (Statepoint id callee types) =
    called_refuses setting state (grouped state (drop (length types) line.inst.operands) rest) callee (take (length types) line.inst.operands)
acts_refuses setting state line rest op = tt {0}

at_refuses : (setting : Setting) (state : State) (lines : List Line) → Refuses (events_at lines) (steps_at setting state lines)
at_refuses setting state [] = tt {0}
at_refuses setting state (line ∷ rest) = acts_refuses setting state line rest line.inst.op

step_refuses : (setting : Setting) (state : State) → Refuses (events_at state.running.rest) (step setting state)
unfolding step
step_refuses setting state = at_refuses setting state state.running.rest

-- ---- how many new objects there were

new_split : (one other : List Event) → new_count (one ++ other) ≡ new_count one + new_count other
new_split [] other = omega arith
new_split (at_poll ∷ one) other = new_split one other
new_split (at_new ∷ one) other = let rest = new_split one other in omega (arith, rest)

count_of_sizes : (layouts : List ObjectLayout) (one : List Object) (other : List Object) (sizes : List ℕ) → sizes_in layouts one ≡ sizes_in layouts other ++ sizes
    → length one ≡ length other + length sizes
count_of_sizes layouts one other sizes is =
    sym (length-map one (footprint layouts)) ∙ (ap length is ∙ (length-append (sizes_in layouts other) sizes ∙ ap (λ (n : ℕ). n + length sizes) (length-map other (footprint layouts))))

module _ (setting : Setting) (end : End) (last : Progress State) where
  -- the rest of a run makes all of its new objects, or is refused the last one
  abbrev AllMade : State → List Event → Type 0
  AllMade before events =
      (length last.state.objects ≡ length before.objects + new_count events) ⊎ ((length last.state.objects + 1 ≡ length before.objects + new_count events) × IsRefused end)

  same_count : (before now : State) → sizes_in setting.layouts now.objects ≡ sizes_in setting.layouts before.objects → length now.objects ≡ length before.objects
  same_count before now same =
      let count = count_of_sizes setting.layouts now.objects before.objects [] (same ∙ sym (append-nil (sizes_in setting.layouts before.objects))) in omega (arith, count)

  goes_count : (before now : State) (here : List Event) → GoesOn setting.layouts before here now → length now.objects ≡ length before.objects + new_count here
  goes_count before now [] stays = let same = same_count before now stays.sizes in omega (arith, same)
  goes_count before now (at_poll ∷ rest) tells =
      let same = same_count before now (tells.0).sizes in
      let none = ap new_count tells.1 in omega (arith, same, none)
  goes_count before now (at_new ∷ rest) tells =
      let grown = count_of_sizes setting.layouts now.objects before.objects (tells.0 ∷ []) (tells.1).sizes in
      let none = ap new_count tells.2 in omega (arith, grown, none)

  goes_all : (before now : State) (here later : List Event) → GoesOn setting.layouts before here now → AllMade now later → AllMade before (here ++ later)
  goes_all before now here later tells rest =
      let own = goes_count before now here tells in
      let both = new_split here later in
      elim rest [ inl all ↦ inl (omega (arith, own, both, all)) | inr most ↦ inr (let count = most.0 in omega (arith, own, both, count), most.1) ]

  ends_all : (before stopped : State) (here : List Event) → stopped ≡ last.state → EndsAt setting.layouts before here stopped → Refuses here (ends end stopped) → AllMade before here
  ends_all before stopped [] is stays refuses =
      let same = same_count before stopped stays.sizes in
      let count = ap (λ (s : State). length s.objects) is in inl (omega (arith, same, count))
  ends_all before stopped (at_poll ∷ rest) is never refuses = absurd never
  ends_all before stopped (at_new ∷ rest) is tells refuses =
      let same = same_count before stopped (tells.0).sizes in
      let none = ap new_count tells.1 in
      let count = ap (λ (s : State). length s.objects) is in inr (omega (arith, same, none, count), refuses)

  abbrev here : Progress State → List Event
  here progress = events_at progress.state.running.rest

  by_effect : (within : ℕ) → ((now : Progress State) → goes (proceeds setting) within (Go now) ≡ Over end last → AllMade now.state (events_from setting within (Go now)))
      → (before : State) (lines : List (List ℕ)) (events : List Event) (effect : Effect State) → Tells setting.layouts before events effect → Refuses events effect
      → goes (proceeds setting) within (after lines effect) ≡ Over end last → AllMade before (events ++ events_from setting within (after lines effect))
  by_effect within again before lines events (goes_on now) tells refuses by =
      let next : Progress State = record { state = now; lines = lines } in
      goes_all before now events (events_from setting within (Go next)) tells (again next by)
  by_effect within again before lines events (prints word now) tells refuses by =
      let next : Progress State = record { state = now; lines = printed_line word ∷ lines } in
      goes_all before now events (events_from setting within (Go next)) tells (again next by)
  by_effect within again before lines events (ends other stopped) tells refuses by =
      let over : Progress State = record { state = stopped; lines = lines } in
      let same = same_over other end over last (sym (goes_over (proceeds setting) within other over) ∙ by) in
      let none = traced_over here (proceeds setting) within other over in
      subst (λ (list : List Event). AllMade before (events ++ list)) (sym none)
      (subst (AllMade before) (sym (append-nil events))
      (ends_all before stopped events (ap (λ (p : Progress State). p.state) same.last) tells (subst (λ (e : End). Refuses events (ends e stopped)) same.end refuses)))

  pub all_made : (within : ℕ) (now : Progress State) → goes (proceeds setting) within (Go now) ≡ Over end last → AllMade now.state (events_from setting within (Go now))
  unfolding proceeds
  all_made zero now by = absurd (not_over end last now (sym by))
  all_made (suc within) now by =
      by_effect within (all_made within) now.state now.lines (here now) (step setting now.state) (step_tells setting now.state) (step_refuses setting now.state) by
