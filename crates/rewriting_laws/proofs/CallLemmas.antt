-- Calls, in the two runs.
use Rattle.std.proofs.Common.{◌≡◌, ℕ, zero, suc, ◌+◌, ◌-◌, ◌<◌, ◌≤◌, Bool, false, nat_lt, List, [], ◌∷◌, ◌++◌, length, map, filter, replicate, refl, ap, sym, arith, inl, inr, ◌∙◌, subst}
use Rattle.std.specs.Prelude.{Option, Some, None, slice_get, slice_index_or, slice_set, Result, Ok, Err, ℤ, pos, int_lt, unsigned_abs}
use Rattle.std.specs.List.{sum_by}
use Rattle.std.specs.Option.{option_map_or}
use Rattle.std.specs.Int.{w64, cast_unsigned}
use Rattle.std.proofs.lemmas.List.{length-append, length-replicate, length-map}
use Rattle.std.proofs.lemmas.Bool.{cases_Bool, cases_lt}
use Rattle.sp_ids.specs.declared.ends.Trap.{Trap}
use Rattle.sp_ids.specs.declared.ends.Trap.TheVariants.{Count, Full, Input, Depth, Tasks}
use Rattle.sp_ids.specs.declared.ends.End.TheVariants.{OutOfSteps, Trap as Trapped}
use Rattle.sp_ids.specs.Numbers.{signed}
use Rattle.ir_ast.specs.declared.ops.Callee.{Callee}
use Rattle.ir_ast.specs.declared.ops.Callee.TheVariants.{Fun, New, Print, Read, TaskStart, Poll, Check, Same}
use Rattle.ir_ast.specs.declared.ops.Operand.{Operand}
use Rattle.ir_ast.specs.Layouts.{ObjectLayout}
use Rattle.ir_ast.specs.Modules.{ModuleContent}
use Rattle.ir_ast.specs.Objects.{Datum, number, pointer, Object, footprint}
use Rattle.object_meaning.specs.Comparisons.{bit, same_pointer}
use Rattle.object_meaning.specs.Lines.{Line, register_count}
use Rattle.object_meaning.specs.Registers.{nothing, value, operand, number_in, pointer_in}
use Rattle.object_meaning.specs.States.{Frame, State, Setting}
use Rattle.object_meaning.specs.Effects.{Effect}
use Rattle.object_meaning.specs.Frames.{entered}
use Rattle.object_meaning.specs.Tasks.{with_event, switched, polled, started}
use Rattle.object_meaning.specs.Calls.{stepped, entering, made, allocated, allocating, taking, function_in, checked, called}
use Rattle.object_meaning.specs.Accesses.{Place, accessed, cell_named}
use Rattle.rewriting_forms.specs.Numbered.{lines_at, pointers}
use Rattle.rewriting_forms.specs.Names.{Name, own}
use Rattle.rewriting_forms.specs.Rewritten.{inserted_phi, expanded}
use Rattle.rewriting_laws.specs.Related.{Rewriting, ArgumentsFit, IsRewriting, piece_line, FrameKept, no_frames, more_frames, StateKept, EffectKept, both_go, both_print, both_end, setting_of, setting_now, AreModules, lines_now, rest_now}
use Rattle.rewriting_laws.proofs.AnswerLemmas.{resumed_kept}
use Rattle.rewriting_laws.proofs.StateLemmas.{kept_length, tasks_length, task_set, task_push, kept_event, kept_objects, kept_input, kept_frames, switched_kept}

module _ (all : ℕ → Rewriting) (content now_content : ModuleContent) (modules : AreModules all content now_content) (go : ℕ → Option ℕ) (bound : ℕ) where
  abbrev pub one : Setting
  one = setting_of content all go bound

  abbrev pub other : Setting
  other = setting_now now_content all go bound

  front_get : (xs ys : List Datum) (v : ℕ) → v < length xs → slice_index_or (xs ++ ys) v nothing ≡ slice_index_or xs v nothing
  front_get [] ys v below = absurd (omega arith)
  front_get (x ∷ xs) ys zero below = refl
  front_get (x ∷ xs) ys (suc v) below = front_get xs ys v (omega arith)

  zeros_get : (n v : ℕ) → slice_index_or (replicate n nothing) v nothing ≡ nothing
  zeros_get zero v = refl
  zeros_get (suc n) zero = refl
  zeros_get (suc n) (suc v) = zeros_get n v

  back_get : (xs : List Datum) (n v : ℕ) → length xs ≤ v → slice_index_or (xs ++ replicate n nothing) v nothing ≡ nothing
  back_get [] n v past = zeros_get n v
  back_get (x ∷ xs) n zero past = absurd (omega arith)
  back_get (x ∷ xs) n (suc v) past = back_get xs n v (omega arith)

  none_pass : (p : ℕ → Bool) (xs : List ℕ) → ((v : ℕ) → p v ≡ false) → filter p xs ≡ []
  none_pass p [] none = refl
  none_pass p (x ∷ xs) none = rw (none x) (none_pass p xs none)

  -- the first frame of a call
  pub entered_kept : (g : ℕ) (arguments : List Datum) → length arguments ≤ length (all g).func.args
      → FrameKept (all g) (entered one g arguments) (entered other g arguments)
  entered_kept g arguments few =
      let r = all g in
      let law = modules.each g in
      let none = (law.plain).entry in
      let room = modules.room g in
      let room_now = modules.room_now g in
      record {
        k = 0;
        registers = arguments ++ replicate (register_count now_content g - length arguments) nothing;
        place = refl;
        behind = rw none (omega arith);
        is = ap (λ (lines : List Line). let frame : Frame = record { func = g; block = 0; rest = lines; registers = arguments ++ replicate (register_count now_content g - length arguments) nothing } in frame)
            (no_inserted law);
        kept = record {
          each = λ v alive.
              ap (λ (name : Name). slice_index_or (arguments ++ replicate (register_count now_content g - length arguments) nothing) (r.number name) nothing) ((law.fits).at_entry v alive)
              ∙ argument law v few;
          room_before = length-append arguments (replicate (register_count content g - length arguments) nothing) ∙ sizes arguments (register_count content g) (law.few_arguments) few room;
          room_now = length-append arguments (replicate (register_count now_content g - length arguments) nothing) ∙ sizes arguments (register_count now_content g) (law.few_arguments_now) few room_now;
        };
      }
    where
      sizes : (arguments : List Datum) (count : ℕ) {room : ℕ} → length (all g).func.args ≤ room → length arguments ≤ length (all g).func.args → count ≡ room
          → length arguments + length (replicate (count - length arguments) nothing) ≡ room
      sizes arguments count few_room few same = rw (length-replicate (count - length arguments) nothing) (omega arith)

      -- no edge leads to the entry, so no phi is inserted there
      no_inserted : IsRewriting all (all g) → lines_now (all g) 0 ≡ rest_now (all g) 0 0 (lines_at (all g).func 0)
      no_inserted law =
          ap (λ (vs : List ℕ). map (piece_line (all g).text (all g).number) (map (inserted_phi (all g).func (all g).table (all g).naming (all g).number 0) vs ++ expanded (all g).func (all g).table (all g).naming (all g).number 0 0 (lines_at (all g).func 0)))
          (none_pass ((all g).naming.joins 0) (pointers (all g).func) (law.fits).no_join)

      argument : IsRewriting all (all g) → (v : ℕ) → length arguments ≤ length (all g).func.args
          → slice_index_or (arguments ++ replicate (register_count now_content g - length arguments) nothing) ((all g).number (own v)) nothing
          ≡ slice_index_or (arguments ++ replicate (register_count content g - length arguments) nothing) v nothing
      argument law v few = elim (cases_lt v (length (all g).func.args)) [
        | inl below ↦
            ap (λ (n : ℕ). slice_index_or (arguments ++ replicate (register_count now_content g - length arguments) nothing) n nothing) ((law.numbers).arguments v below)
            ∙ same v
        | inr above ↦
            let beyond = number_above law v above in
            back_get arguments (register_count now_content g - length arguments) ((all g).number (own v)) (omega (arith, beyond, few))
            ∙ sym (back_get arguments (register_count content g - length arguments) v (omega (arith, above, few)))
      ]
        where
          same : (v : ℕ) → slice_index_or (arguments ++ replicate (register_count now_content g - length arguments) nothing) v nothing
              ≡ slice_index_or (arguments ++ replicate (register_count content g - length arguments) nothing) v nothing
          same v = elim (cases_lt v (length arguments)) [
            | inl below ↦ front_get arguments (replicate (register_count now_content g - length arguments) nothing) v below
                ∙ sym (front_get arguments (replicate (register_count content g - length arguments) nothing) v below)
            | inr past ↦ back_get arguments (register_count now_content g - length arguments) v past ∙ sym (back_get arguments (register_count content g - length arguments) v past)
          ]

          number_above : IsRewriting all (all g) → (v : ℕ) → length (all g).func.args ≤ v → length (all g).func.args ≤ (all g).number (own v)
          number_above law v above = elim (cases_lt ((all g).number (own v)) (length (all g).func.args)) [
            | inr le ↦ le
            | inl lt ↦
                let twice = (law.numbers).arguments ((all g).number (own v)) lt in
                let same : Some ((all g).number (own v)) ≡ Some v =
                sym ((law.numbers).owns (own ((all g).number (own v)))) ∙ ap (law.numbers).owner twice ∙ (law.numbers).owns (own v) in
                let e : (all g).number (own v) ≡ v = cc in
                absurd (omega (arith, e, lt, above))
          ]

  -- the other state by what differs
  abbrev pub built : State → State → State
  built state now = record state { running = now.running; below = now.below; tasks = now.tasks }

  pub built_kept : (state now : State) → StateKept all state now → StateKept all state (built state now)
  built_kept state now kept = record { running = kept.running; below = kept.below; tasks = kept.tasks; is = refl }

  length_same : (state now : State) → StateKept all state now → length now.below ≡ length state.below
  length_same state now kept = kept_length all state.below now.below kept.below

  pub stepped_kept : (state now : State) (next next' : State → Effect State) → StateKept all state now
      → EffectKept all (next (record state { steps = state.steps + 1 })) (next' (record now { steps = now.steps + 1 }))
      → EffectKept all (stepped one state next) (stepped other now next')
  stepped_kept state now next next' kept =
      subst (λ (x : State). EffectKept all (next (record state { steps = state.steps + 1 })) (next' (record x { steps = x.steps + 1 }))
      → EffectKept all (stepped one state next) (stepped other x next')) (sym kept.is)
      (λ each. elim (cases_Bool (nat_lt state.steps bound)) [
        | inl more ↦ rw more each
        | inr out ↦ rw out (both_end OutOfSteps state (built state now) (built_kept state now kept))
      ])

  pub more_steps : (state now : State) → StateKept all state now → StateKept all (record state { steps = state.steps + 1 }) (record now { steps = now.steps + 1 })
  more_steps state now kept = record {
    running = kept.running;
    below = kept.below;
    tasks = kept.tasks;
    is = ap (λ (x : State). let y : State = record x { steps = x.steps + 1 } in y) kept.is;
  }

  entering_kept : (state now : State) (g : ℕ) (arguments : List Datum) → length arguments ≤ length (all g).func.args → StateKept all state now
      → EffectKept all (entering one g arguments state) (entering other g arguments now)
  entering_kept state now g arguments few kept =
      let deep = length_same state now kept in
      rw deep (elim (cases_Bool (nat_lt (length state.below + 1) 4096)) [
        | inr full ↦ rw full (both_end (Trapped Depth) state now kept)
        | inl room ↦ rw room
            (both_go (record state { running = entered one g arguments; below = state.running ∷ state.below })
            (record now { running = entered other g arguments; below = now.running ∷ now.below })
            (record {
              running = entered_kept g arguments few;
              below = more_frames state.running now.running state.below now.below kept.running kept.below;
              tasks = kept.tasks;
              is = ap (λ (x : State). let y : State = record x { running = entered other g arguments; below = now.running ∷ now.below } in y) kept.is;
            }))
      ])

  allocated_kept : (state now : State) (done done' : Datum → State) (object : Object) → StateKept all state now
      → ((answer : Datum) → StateKept all (done answer) (done' answer)) → EffectKept all (allocated one state done object) (allocated other now done' object)
  allocated_kept state now done done' object kept each =
      subst (λ (x : State). EffectKept all (allocated one state done object) (allocated other x done' object)) (sym kept.is) (rw (modules.layouts) (elim (cases_Bool (nat_lt 67108864 (sum_by (footprint content.layouts) (state.objects ++ object ∷ [])))) [
        | inl full ↦ rw full (both_end (Trapped Full) (with_event state) (with_event (built state now)) (kept_event all state (built state now) (built_kept state now kept)))
        | inr room ↦
            let answer : Datum = pointer (record { object = length state.objects + 1; offset = 0 }) in
            rw room
            (both_go (record (with_event (done answer)) { objects = state.objects ++ object ∷ [] }) (record (with_event (done' answer)) { objects = state.objects ++ object ∷ [] })
            (kept_objects all (with_event (done answer)) (with_event (done' answer)) (state.objects ++ object ∷ []) (kept_event all (done answer) (done' answer) (each answer))))
      ]))

  allocating_kept : (state now : State) (done done' : Datum → State) (layout : ℕ) (count : ℤ) → StateKept all state now
      → ((answer : Datum) → StateKept all (done answer) (done' answer)) → EffectKept all (allocating one state done layout count) (allocating other now done' layout count)
  allocating_kept state now done done' layout count kept each = elim (cases_Bool (int_lt count (pos 0))) [
    | inl negative ↦ rw negative (both_end (Trapped Count) (with_event state) (with_event now) (kept_event all state now kept))
    | inr fine ↦
        let same : made now_content.layouts layout (unsigned_abs count) ≡ made content.layouts layout (unsigned_abs count) =
        ap (λ (layouts : List ObjectLayout). made layouts layout (unsigned_abs count)) modules.layouts in
        rw (fine, same) (allocated_kept state now done done' (made content.layouts layout (unsigned_abs count)) kept each)
  ]

  taking_kept : (state now : State) (done done' : Datum → State) (input : List ℤ) → StateKept all state now
      → ((answer : Datum) → StateKept all (done answer) (done' answer)) → EffectKept all (taking state done input) (taking now done' input)
  taking_kept state now done done' [] kept each = both_end (Trapped Input) state now kept
  taking_kept state now done done' (first ∷ rest) kept each =
      let answer : Datum = number (cast_unsigned w64 first) in
      both_go (record (done answer) { input = rest }) (record (done' answer) { input = rest }) (kept_input all (done answer) (done' answer) rest (each answer))

  checked_kept : (state now : State) (done done' : Datum → State) (result : Result Place Trap) → StateKept all state now
      → ((answer : Datum) → StateKept all (done answer) (done' answer)) → EffectKept all (checked state done result) (checked now done' result)
  checked_kept state now done done' (Ok place) kept each = both_go (done nothing) (done' nothing) (each nothing)
  checked_kept state now done done' (Err trap) kept each = both_end (Trapped trap) state now kept

  started_kept : (state now : State) (g : ℕ) (argument : Datum) → 1 ≤ length (all g).func.args → StateKept all state now
      → EffectKept all (started one state g argument) (started other now g argument)
  started_kept state now g argument few kept =
      let many = tasks_length all state.tasks now.tasks kept.tasks in
      subst (λ (x : State). EffectKept all (started one state g argument) (started other x g argument)) (sym kept.is) (rw many (elim (cases_Bool (nat_lt (length state.tasks) 64)) [
        | inr full ↦ rw full (both_end (Trapped Tasks) state (built state now) (built_kept state now kept))
        | inl room ↦ rw room
            (both_go (record state { running = entered one g (argument ∷ []); below = []; task = length state.tasks; tasks = slice_set state.tasks state.task (state.running ∷ state.below) ++ [] ∷ [] })
            (record (built state now) { running = entered other g (argument ∷ []); below = []; task = length state.tasks; tasks = slice_set now.tasks state.task (now.running ∷ now.below) ++ [] ∷ [] })
            (kept_frames all state (built state now) (entered one g (argument ∷ [])) (entered other g (argument ∷ [])) [] [] (length state.tasks)
            (slice_set state.tasks state.task (state.running ∷ state.below) ++ [] ∷ []) (slice_set now.tasks state.task (now.running ∷ now.below) ++ [] ∷ []) (built_kept state now kept)
            (entered_kept g (argument ∷ []) few) no_frames
            (task_push all (slice_set state.tasks state.task (state.running ∷ state.below)) (slice_set now.tasks state.task (now.running ∷ now.below)) [] []
            (task_set all state.tasks now.tasks state.task (state.running ∷ state.below) (now.running ∷ now.below) kept.tasks
            (more_frames state.running now.running state.below now.below kept.running kept.below))
            no_frames)))
      ]))

  polled_kept : (state now : State) → StateKept all state now → StateKept all (polled one state) (polled other now)
  polled_kept state now kept =
      subst (λ (x : State). StateKept all (polled one state) (polled other x)) (sym kept.is)
      (resumed_kept all modules.each (option_map_or (switched (with_event state)) (go (with_event state).events) (with_event state))
      (option_map_or (switched (with_event (built state now))) (go (with_event state).events) (with_event (built state now))) nothing
      (switch (go (with_event state).events) (kept_event all state (built state now) (built_kept state now kept))))
    where
      switch : (to : Option ℕ) → StateKept all (with_event state) (with_event (built state now))
          → StateKept all (option_map_or (switched (with_event state)) to (with_event state)) (option_map_or (switched (with_event (built state now))) to (with_event (built state now)))
      switch None event = event
      switch (Some to) event = switched_kept all (with_event state) (with_event (built state now)) to event

  -- the operands of the two lines
  pub record OperandsKept (registers now : List Datum) (operands others : List Operand) : Type 0 where
    pub words : map (value now) others ≡ map (value registers) operands
    pub each : (place : ℕ) → operand now others place ≡ operand registers operands place
    pub function : function_in (slice_get others 0) ≡ function_in (slice_get operands 0)

  pub called_kept : (state now : State) (done done' : Datum → State) (operands others : List Operand) → StateKept all state now
      → ((answer : Datum) → StateKept all (done answer) (done' answer))
      → OperandsKept state.running.registers now.running.registers operands others → (callee : Callee) → ArgumentsFit all callee operands
      → EffectKept all (called one state done callee operands) (called other now done' callee others)
  called_kept state now done done' operands others kept each same (Fun g) fit =
      rw same.words
      (stepped_kept state now (entering one g.0 (map (value state.running.registers) operands)) (entering other g.0 (map (value state.running.registers) operands)) kept
      (entering_kept (record state { steps = state.steps + 1 }) (record now { steps = now.steps + 1 }) g.0 (map (value state.running.registers) operands)
      (rw (length-map operands (value state.running.registers)) fit) (more_steps state now kept)))
  called_kept state now done done' operands others kept each same (New layout) fit =
      rw (same.each 0) (allocating_kept state now done done' layout (signed 64 (number_in (operand state.running.registers operands 0))) kept each)
  called_kept state now done done' operands others kept each same Print fit =
      rw (same.each 0) (both_print (number_in (operand state.running.registers operands 0)) (done nothing) (done' nothing) (each nothing))
  called_kept state now done done' operands others kept each same Read fit =
      let input : now.input ≡ state.input = ap (λ (x : State). x.input) kept.is in
      subst (λ (input : List ℤ). EffectKept all (taking state done state.input) (taking now done' input)) (sym input) (taking_kept state now done done' state.input kept each)
  called_kept state now done done' operands others kept each same TaskStart fit =
      rw (same.function, same.each 1) (started_kept state now (function_in (slice_get operands 0)) (operand state.running.registers operands 1) fit kept)
  called_kept state now done done' operands others kept each same Poll fit =
      both_go (polled one state) (polled other now) (polled_kept state now kept)
  called_kept state now done done' operands others kept each same Check fit =
      let objects : now.objects ≡ state.objects = ap (λ (x : State). x.objects) kept.is in
      let e : accessed now_content.layouts now.objects (cell_named (number_in (operand now.running.registers others 2))) (pointer_in (operand now.running.registers others 1))
      ≡ accessed content.layouts state.objects (cell_named (number_in (operand state.running.registers operands 2))) (pointer_in (operand state.running.registers operands 1)) =
      ap (λ (layouts : List ObjectLayout). accessed layouts now.objects (cell_named (number_in (operand now.running.registers others 2))) (pointer_in (operand now.running.registers others 1))) modules.layouts
      ∙ ap (λ (os : List Object). accessed content.layouts os (cell_named (number_in (operand now.running.registers others 2))) (pointer_in (operand now.running.registers others 1))) objects
      ∙ ap (λ (d : Datum). accessed content.layouts state.objects (cell_named (number_in d)) (pointer_in (operand now.running.registers others 1))) (same.each 2)
      ∙ ap (λ (d : Datum). accessed content.layouts state.objects (cell_named (number_in (operand state.running.registers operands 2))) (pointer_in d)) (same.each 1) in
      subst (λ (result : Result Place Trap). EffectKept all
      (checked state done (accessed content.layouts state.objects (cell_named (number_in (operand state.running.registers operands 2))) (pointer_in (operand state.running.registers operands 1))))
      (checked now done' result)) (sym e)
      (checked_kept state now done done' (accessed content.layouts state.objects (cell_named (number_in (operand state.running.registers operands 2))) (pointer_in (operand state.running.registers operands 1))) kept each)
  called_kept state now done done' operands others kept each same Same fit =
      rw (same.each 1, same.each 3)
      (both_go (done (number (bit (same_pointer (pointer_in (operand state.running.registers operands 1)) (pointer_in (operand state.running.registers operands 3))))))
      (done' (number (bit (same_pointer (pointer_in (operand state.running.registers operands 1)) (pointer_in (operand state.running.registers operands 3))))))
      (each (number (bit (same_pointer (pointer_in (operand state.running.registers operands 1)) (pointer_in (operand state.running.registers operands 3)))))))
