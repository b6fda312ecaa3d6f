-- The run of one call of a generated function, from its entry to the frame that called it.
use Rattle.std.proofs.Common.{◌≡◌, ◌∙◌, ℕ, zero, suc, ◌+◌, ◌%◌, ◌<◌, ◌≤◌, ◌^◌, Bool, true, List, [], ◌∷◌, ◌++◌, length, Option, Some, refl, sym, ap, subst, inl, inr, codes, arith}
use Rattle.std.specs.Prelude.{nat_lt, slice_get}
use Rattle.std.proofs.lemmas.Bool.{cases_Bool, lt-ltb, ltb-true}
use Rattle.tool_io.specs.Counts.{raised}
use Rattle.sp_ids.specs.declared.ends.End.{End}
use Rattle.ir_ast.specs.declared.types.Ty.TheVariants.{Int as Integer, Ptr}
use Rattle.ir_ast.specs.declared.ops.Operand.TheVariants.{Int}
use Rattle.ir_ast.specs.Funcs.{Function}
use Rattle.ir_ast.specs.Objects.{Datum, number, pointer, Object}
use Rattle.object_meaning.specs.Lines.{Line, poll}
use Rattle.object_meaning.specs.States.{Frame, State}
use Rattle.object_meaning.specs.Registers.{nothing, number_in}
use Rattle.object_meaning.specs.Comparisons.{bit}
use Rattle.object_meaning.specs.Jumps.{phi_count}
use Rattle.object_meaning.specs.Runs.{Next, Go, End as Over, goes, Reaches}
use Rattle.object_meaning.proofs.RunLaws.{not_over, goes_over, gone}
use Rattle.object_meaning.specs.Effects.{Progress}
use Rattle.object_meaning.specs.Accesses.{loaded, stored}
use Rattle.object_meaning.specs.Calls.{made}
use Rattle.object_meaning.specs.Frames.{answered, entered}
use Rattle.generated_forms.specs.Lines as forms
use Rattle.generated_forms.specs.Lines.{new_line, field_line, load_line, store_line, add_line, below_line, phi_line, call_line, jump_line, branch_line, return_line}
use Rattle.generated_forms.specs.Shapes.{making, merging, looping}
use Rattle.generated_forms.specs.Modules.{function}
use Rattle.generated_runs.proofs.Steps.{layouts_of, World, at, giving, acting, front, setting, next_of, step_poll, step_new_one, step_new_two, step_field, step_second, step_load, step_store, step_add, step_below, step_jump, step_taken, step_other, step_call, step_return}
use Rattle.generated_runs.proofs.Heaps.{Heap, Holds, room, one_node, two_node, heap_more, heap_stored, heap_within, holds_more, holds_new, holds_stored, front_accessed, second_accessed, front_place, second_place}

module _ (funcs : List Function) (go : ℕ → Option ℕ) where
  pub here : (now : Progress State) → Reaches {E = End} (next_of funcs go) now now
  here now = record { after = 0; by = refl }

  -- one step, and then more
  pub ahead : (start next last : Progress State) → next_of funcs go start ≡ Go next → Reaches {E = End} (next_of funcs go) next last → Reaches {E = End} (next_of funcs go) start last
  ahead start next last first rest = record { after = suc rest.after; by = ap (goes (next_of funcs go) rest.after) first ∙ rest.by }

  -- the call comes back to the frame that waits for it
  pub record Back (start : Progress State) (caller : Frame) (below : List Frame) (objects : List Object) (most steps : ℕ) : Type 0 where
    pub answer : Datum
    pub last : World
    pub reached : Reaches {E = End} (next_of funcs go) start (at (answered caller answer) last)
    pub below_is : last.below ≡ below
    pub heap : Heap last.objects most
    pub steps_are : last.steps ≤ steps
    -- the objects that were there are there still
    pub kept : (object count : ℕ) → Holds objects object count → Holds last.objects object count

  started_by : (start next : Progress State) (caller : Frame) (below : List Frame) (objects : List Object) (most steps : ℕ) → next_of funcs go start ≡ Go next
      → Back next caller below objects most steps → Back start caller below objects most steps
  started_by start next caller below objects most steps first back = record {
    answer = back.answer;
    last = back.last;
    reached = ahead start next (at (answered caller back.answer) back.last) first back.reached;
    below_is = back.below_is;
    heap = back.heap;
    steps_are = back.steps_are;
    kept = back.kept;
  }

  kept_by : (start : Progress State) (caller : Frame) (below : List Frame) (before objects : List Object) (most steps : ℕ)
      → ((object count : ℕ) → Holds before object count → Holds objects object count) → Back start caller below objects most steps → Back start caller below before most steps
  kept_by start caller below before objects most steps stays back = record {
    answer = back.answer;
    last = back.last;
    reached = back.reached;
    below_is = back.below_is;
    heap = back.heap;
    steps_are = back.steps_are;
    kept = λ object count holds. back.kept object count (stays object count holds);
  }

  -- a run over another
  reaches_from : (count : ℕ) (next : Next End (Progress State)) (start now last : Progress State) → next_of funcs go start ≡ next
      → ((middle : Progress State) → goes (next_of funcs go) count (Go middle) ≡ Go now → Reaches {E = End} (next_of funcs go) middle last)
      → goes (next_of funcs go) count next ≡ Go now → Reaches {E = End} (next_of funcs go) start last
  reaches_from count (Go middle) start now last first rest by = ahead start middle last first (rest middle by)
  reaches_from count (Over end state) start now last first rest by = absurd (not_over end state now (sym (goes_over (next_of funcs go) count end state) ∙ by))

  pub reaches_on : (count : ℕ) (start now last : Progress State) → goes (next_of funcs go) count (Go start) ≡ Go now → Reaches {E = End} (next_of funcs go) now last
      → Reaches {E = End} (next_of funcs go) start last
  reaches_on zero start now last by rest = subst (λ (p : Progress State). Reaches {E = End} (next_of funcs go) p last) (sym (gone {E = End} start now by)) rest
  reaches_on (suc count) start now last by rest =
      reaches_from count (next_of funcs go start) start now last refl (λ middle more. reaches_on count middle now last more rest) by

  -- a call comes back, and then the frame that waited does
  joined : (start : Progress State) (frame caller : Frame) (middle below : List Frame) (objects : List Object) (most before steps : ℕ) (back : Back start frame middle objects most before)
      → Back (at (answered frame back.answer) back.last) caller below back.last.objects most steps → Back start caller below objects most steps
  joined start frame caller middle below objects most before steps back rest = record {
    answer = rest.answer;
    last = rest.last;
    reached = reaches_on back.reached.after start (at (answered frame back.answer) back.last) (at (answered caller rest.answer) rest.last) back.reached.by rest.reached;
    below_is = rest.below_is;
    heap = rest.heap;
    steps_are = rest.steps_are;
    kept = λ object count holds. rest.kept object count (back.kept object count holds);
  }

  -- ---- a function that makes objects

  abbrev making_lines : ℕ → List Line
  making_lines constant =
      giving 2 (new_line (codes "n") 2) ∷ giving 3 (field_line (codes "p") 2 1) ∷ acting (store_line (Int constant) 3)
      ∷ giving 4 (new_line (codes "q") 1) ∷ giving 5 (load_line (codes "v") 3) ∷ giving 6 (add_line (codes "r") 5 (forms.value 1))
      ∷ acting (return_line (forms.value 6)) ∷ []

  making_entered : (place constant : ℕ) (object x : Datum) → slice_get funcs place ≡ Some (function place (making constant))
      → entered (setting funcs go) place (object ∷ x ∷ [])
      ≡ record { func = place; block = 0; rest = poll ∷ making_lines constant; registers = object ∷ x ∷ nothing ∷ nothing ∷ nothing ∷ nothing ∷ nothing ∷ [] }
  making_entered place constant object x there = rw there refl

  module _ (place constant : ℕ) (x : Datum) (world : World) (caller : Frame) (below : List Frame) (most : ℕ) where
    pub making_back : slice_get funcs place ≡ Some (function place (making constant)) → world.below ≡ caller ∷ below → Heap world.objects most
        → most + 2 ≤ 2000000 → world.steps + 1 ≤ 10000000
        → Back (at (entered (setting funcs go) place (front 1 ∷ x ∷ [])) world) caller below world.objects (most + 2) (world.steps + 1)
    making_back there waits heap small less =
        let fr : List Line → List Datum → Frame = λ rest registers. record { func = place; block = 0; rest = rest; registers = registers } in
        let l7 : List Line = acting (return_line (forms.value 6)) ∷ [] in
        let l6 : List Line = giving 6 (add_line (codes "r") 5 (forms.value 1)) ∷ l7 in
        let l5 : List Line = giving 5 (load_line (codes "v") 3) ∷ l6 in
        let l4 : List Line = giving 4 (new_line (codes "q") 1) ∷ l5 in
        let l3 : List Line = acting (store_line (Int constant) 3) ∷ l4 in
        let l2 : List Line = giving 3 (field_line (codes "p") 2 1) ∷ l3 in
        let l1 : List Line = giving 2 (new_line (codes "n") 2) ∷ l2 in
        let new : ℕ = length world.objects + 1 in
        let w1 : World = record world { events = raised world.events } in
        let w2 : World = record w1 { objects = world.objects ++ made layouts_of 0 2 ∷ []; events = raised w1.events } in
        let w3 : World = record w2 { objects = stored w2.objects (second_place new) (number constant) } in
        let w4 : World = record w3 { objects = w3.objects ++ made layouts_of 0 1 ∷ []; events = raised w3.events } in
        let last : World = record w4 { below = below; steps = w4.steps + 1 } in
        let heap2 : Heap w2.objects (most + 1) = heap_more world.objects most (made layouts_of 0 2) heap two_node in
        let heap3 : Heap w3.objects (most + 1) = heap_stored w2.objects (most + 1) (second_place new) (number constant) heap2 in
        let heap4 : Heap w4.objects (most + 1 + 1) = heap_more w3.objects (most + 1) (made layouts_of 0 1) heap3 one_node in
        let holds2 : Holds w2.objects new 2 = holds_new world.objects (made layouts_of 0 2) two_node in
        let holds3 : Holds w3.objects new 2 = holds_stored w2.objects (second_place new) (number constant) new 2 holds2 in
        let holds4 : Holds w4.objects new 2 = holds_more w3.objects (made layouts_of 0 1 ∷ []) new 2 holds3 in
        let p : Datum = pointer (record { object = new; offset = 16 }) in
        let q : Datum = front (length w3.objects + 1) in
        let v : Datum = loaded w4.objects (second_place new) in
        let r : Datum = number ((number_in v + number_in x) % 2 ^ 64) in
        let r0 : List Datum = front 1 ∷ x ∷ nothing ∷ nothing ∷ nothing ∷ nothing ∷ nothing ∷ [] in
        let r1 : List Datum = front 1 ∷ x ∷ front new ∷ nothing ∷ nothing ∷ nothing ∷ nothing ∷ [] in
        let r2 : List Datum = front 1 ∷ x ∷ front new ∷ p ∷ nothing ∷ nothing ∷ nothing ∷ [] in
        let r3 : List Datum = front 1 ∷ x ∷ front new ∷ p ∷ q ∷ nothing ∷ nothing ∷ [] in
        let r4 : List Datum = front 1 ∷ x ∷ front new ∷ p ∷ q ∷ v ∷ nothing ∷ [] in
        let r5 : List Datum = front 1 ∷ x ∷ front new ∷ p ∷ q ∷ v ∷ r ∷ [] in
        subst (λ (f : Frame). Back (at f world) caller below world.objects (most + 2) (world.steps + 1)) (sym (making_entered place constant (front 1) x there))
        (started_by (at (fr (poll ∷ l1) r0) world) (at (fr l1 r0) w1) caller below world.objects (most + 2) (world.steps + 1) (step_poll funcs go place 0 l1 r0 world)
        (started_by (at (fr l1 r0) w1) (at (fr l2 r1) w2) caller below world.objects (most + 2) (world.steps + 1)
        (step_new_two funcs go place 0 l2 r0 w1 (codes "n") 2 (room world.objects most (made layouts_of 0 2) heap two_node (omega arith)))
        (started_by (at (fr l2 r1) w2) (at (fr l3 r2) w2) caller below world.objects (most + 2) (world.steps + 1) (step_second funcs go place 0 l3 r1 w2 (codes "p") 2 3 new refl)
        (started_by (at (fr l3 r2) w2) (at (fr l4 r2) w3) caller below world.objects (most + 2) (world.steps + 1)
        (step_store funcs go place 0 l4 r2 w2 (Int constant) 3 (second_place new) (second_accessed w2.objects new holds2))
        (started_by (at (fr l4 r2) w3) (at (fr l5 r3) w4) caller below world.objects (most + 2) (world.steps + 1)
        (step_new_one funcs go place 0 l5 r2 w3 (codes "q") 4 (room w3.objects (most + 1) (made layouts_of 0 1) heap3 one_node (omega arith)))
        (started_by (at (fr l5 r3) w4) (at (fr l6 r4) w4) caller below world.objects (most + 2) (world.steps + 1)
        (step_load funcs go place 0 l6 r3 w4 (codes "v") 3 5 (second_place new) (second_accessed w4.objects new holds4))
        (started_by (at (fr l6 r4) w4) (at (fr l7 r5) w4) caller below world.objects (most + 2) (world.steps + 1) (step_add funcs go place 0 l7 r4 w4 (codes "r") 5 (forms.value 1) 6)
        (record {
          answer = r;
          last = last;
          reached = ahead (at (fr l7 r5) w4) (at (answered caller r) last) (at (answered caller r) last)
              (step_return funcs go place 0 [] r5 w4 (forms.value 6) caller below (lt-ltb world.steps 10000000 (omega arith)) waits) (here (at (answered caller r) last));
          below_is = refl;
          heap = heap_within w4.objects (most + 1 + 1) (most + 2) heap4 (omega arith);
          steps_are = omega arith;
          kept = λ object count holds.
              holds_more w3.objects (made layouts_of 0 1 ∷ []) object count
              (holds_stored w2.objects (second_place new) (number constant) object count (holds_more world.objects (made layouts_of 0 2 ∷ []) object count holds));
        }))))))))

    -- ---- a loop

    looping_entered : slice_get funcs place ≡ Some (function place (looping constant))
        → entered (setting funcs go) place (front 1 ∷ x ∷ [])
        ≡ record {
          func = place;
          block = 0;
          rest = poll ∷ giving 2 (field_line (codes "p0") 0 0) ∷ acting (jump_line 1) ∷ [];
          registers = front 1 ∷ x ∷ nothing ∷ nothing ∷ nothing ∷ nothing ∷ nothing ∷ nothing ∷ nothing ∷ [];
        }
    looping_entered there = rw there refl

    abbrev turn_lines : List Line
    turn_lines =
        giving 4 (load_line (codes "v") 2) ∷ giving 5 (add_line (codes "w") 4 (forms.value 1)) ∷ acting (store_line (forms.value 5) 2)
        ∷ giving 6 (add_line (codes "i1") 3 (Int 1)) ∷ giving 7 (below_line (codes "t") 6 constant) ∷ poll ∷ acting (branch_line 7 1 2) ∷ []

    abbrev loop_lines : List Line
    loop_lines = giving 3 (phi_line (codes "i") (Integer 64) (Int 0) 0 6 1) ∷ turn_lines

    abbrev done_lines : List Line
    done_lines = giving 8 (load_line (codes "u") 2) ∷ acting (return_line (forms.value 8)) ∷ []

    loop_there : slice_get funcs place ≡ Some (function place (looping constant)) → (setting funcs go).lines place 1 ≡ loop_lines
    loop_there there = rw there refl

    done_there : slice_get funcs place ≡ Some (function place (looping constant)) → (setting funcs go).lines place 2 ≡ done_lines
    done_there there = rw there refl

    abbrev read : World → Datum
    read now = loaded now.objects (front_place 1)

    abbrev summed : World → Datum
    summed now = number ((number_in (read now) + number_in x) % 2 ^ 64)

    abbrev wrote : World → World
    wrote now = record now { objects = stored now.objects (front_place 1) (summed now) }

    -- after a turn: it has stored, polled and jumped
    abbrev turned : World → World
    turned now = record (wrote now) { events = raised now.events; steps = now.steps + 1 }

    abbrev counted : ℕ → ℕ
    counted count = (count + 1) % 2 ^ 64

    abbrev turn_registers : ℕ → Datum → Datum → Datum → Datum → Datum → List Datum
    turn_registers count v w i1 t u = front 1 ∷ x ∷ front 1 ∷ number count ∷ v ∷ w ∷ i1 ∷ t ∷ u ∷ []

    abbrev looped : ℕ → List Line → List Datum → Frame
    looped number_of rest registers = record { func = place; block = number_of; rest = rest; registers = registers }

    -- one turn of the loop, from behind its phi, and what comes after it where the loop goes on
    turn : slice_get funcs place ≡ Some (function place (looping constant)) → (count : ℕ) (now : World) (v w i1 t u : Datum) (steps : ℕ)
        → now.below ≡ caller ∷ below → Heap now.objects most → now.steps + 2 ≤ steps → steps ≤ 10000000
        → (nat_lt (counted count) constant ≡ true
        → Back (at (looped 1 turn_lines (turn_registers (counted count) (read now) (summed now) (number (counted count)) (number (bit (nat_lt (counted count) constant))) u)) (turned now)) caller below (turned now).objects most steps)
        → Back (at (looped 1 turn_lines (turn_registers count v w i1 t u)) now) caller below now.objects most steps
    turn there count now v w i1 t u steps waits heap less most_steps more =
        let l6 : List Line = acting (branch_line 7 1 2) ∷ [] in
        let l5 : List Line = poll ∷ l6 in
        let l4 : List Line = giving 7 (below_line (codes "t") 6 constant) ∷ l5 in
        let l3 : List Line = giving 6 (add_line (codes "i1") 3 (Int 1)) ∷ l4 in
        let l2 : List Line = acting (store_line (forms.value 5) 2) ∷ l3 in
        let l1 : List Line = giving 5 (add_line (codes "w") 4 (forms.value 1)) ∷ l2 in
        let now1 : World = wrote now in
        let now2 : World = record now1 { events = raised now1.events } in
        let heap1 : Heap now1.objects most = heap_stored now.objects most (front_place 1) (summed now) heap in
        let next : ℕ = counted count in
        let t' : Datum = number (bit (nat_lt next constant)) in
        let r0 : List Datum = turn_registers count v w i1 t u in
        let r1 : List Datum = turn_registers count (read now) w i1 t u in
        let r2 : List Datum = turn_registers count (read now) (summed now) i1 t u in
        let r3 : List Datum = turn_registers count (read now) (summed now) (number next) t u in
        let r4 : List Datum = turn_registers count (read now) (summed now) (number next) t' u in
        let r5 : List Datum = turn_registers next (read now) (summed now) (number next) t' u in
        let r6 : List Datum = turn_registers count (read now) (summed now) (number next) t' (loaded now1.objects (front_place 1)) in
        let last : World = record (turned now) { below = below; steps = now.steps + 1 + 1 } in
        let kept1 : (object many : ℕ) → Holds now.objects object many → Holds now1.objects object many = λ object many holds. holds_stored now.objects (front_place 1) (summed now) object many holds in
        let can : nat_lt now.steps 10000000 ≡ true = lt-ltb now.steps 10000000 (omega arith) in
        let then_can : nat_lt (now.steps + 1) 10000000 ≡ true = lt-ltb (now.steps + 1) 10000000 (omega arith) in
        started_by (at (looped 1 turn_lines r0) now) (at (looped 1 l1 r1) now) caller below now.objects most steps (step_load funcs go place 1 l1 r0 now (codes "v") 2 4 (front_place 1) (front_accessed now.objects 1 heap.first))
        (started_by (at (looped 1 l1 r1) now) (at (looped 1 l2 r2) now) caller below now.objects most steps (step_add funcs go place 1 l2 r1 now (codes "w") 4 (forms.value 1) 5)
        (started_by (at (looped 1 l2 r2) now) (at (looped 1 l3 r2) now1) caller below now.objects most steps (step_store funcs go place 1 l3 r2 now (forms.value 5) 2 (front_place 1) (front_accessed now.objects 1 heap.first))
        (started_by (at (looped 1 l3 r2) now1) (at (looped 1 l4 r3) now1) caller below now.objects most steps (step_add funcs go place 1 l4 r2 now1 (codes "i1") 3 (Int 1) 6)
        (started_by (at (looped 1 l4 r3) now1) (at (looped 1 l5 r4) now1) caller below now.objects most steps (step_below funcs go place 1 l5 r3 now1 (codes "t") 6 constant 7)
        (started_by (at (looped 1 l5 r4) now1) (at (looped 1 l6 r4) now2) caller below now.objects most steps (step_poll funcs go place 1 l6 r4 now1)
        (elim (cases_Bool (nat_lt next constant)) [
          | inl again ↦
              started_by (at (looped 1 l6 r4) now2) (at (looped 1 turn_lines r5) (turned now)) caller below now.objects most steps
              (step_taken funcs go place 1 [] r4 now2 7 1 2 loop_lines can (rw again refl) (loop_there there))
              (kept_by (at (looped 1 turn_lines r5) (turned now)) caller below now.objects (turned now).objects most steps kept1 (more again))
          | inr finished ↦
              started_by (at (looped 1 l6 r4) now2) (at (looped 2 done_lines r4) (turned now)) caller below now.objects most steps
              (step_other funcs go place 1 [] r4 now2 7 1 2 done_lines can (rw finished refl) (done_there there))
              (started_by (at (looped 2 done_lines r4) (turned now)) (at (looped 2 (acting (return_line (forms.value 8)) ∷ []) r6) (turned now)) caller below now.objects most steps
              (step_load funcs go place 2 (acting (return_line (forms.value 8)) ∷ []) r4 (turned now) (codes "u") 2 8 (front_place 1) (front_accessed now1.objects 1 heap1.first))
              (record {
                answer = loaded now1.objects (front_place 1);
                last = last;
                reached = ahead (at (looped 2 (acting (return_line (forms.value 8)) ∷ []) r6) (turned now)) (at (answered caller (loaded now1.objects (front_place 1))) last) (at (answered caller (loaded now1.objects (front_place 1))) last)
                    (step_return funcs go place 2 [] r6 (turned now) (forms.value 8) caller below then_can waits) (here (at (answered caller (loaded now1.objects (front_place 1))) last));
                below_is = refl;
                heap = heap1;
                steps_are = omega arith;
                kept = kept1;
              }))
        ]))))))

    -- the turns of the loop from one whose count is this one
    turns : slice_get funcs place ≡ Some (function place (looping constant)) → constant < 100 → (left count : ℕ) (now : World) (v w i1 t u : Datum) (steps : ℕ)
        → constant ≤ count + 1 + left → count < 1000 → now.below ≡ caller ∷ below → Heap now.objects most → now.steps + left + 2 ≤ steps → steps ≤ 10000000
        → Back (at (looped 1 turn_lines (turn_registers count v w i1 t u)) now) caller below now.objects most steps
    turns there low zero count now v w i1 t u steps enough small waits heap less most_steps =
        turn there count now v w i1 t u steps waits heap (omega arith) most_steps
        (λ again. absurd (let below_constant : counted count < constant = ltb-true (counted count) constant again in omega arith))
    turns there low (suc left) count now v w i1 t u steps enough small waits heap less most_steps =
        turn there count now v w i1 t u steps waits heap (omega arith) most_steps
        (λ again.
        let below_constant : counted count < constant = ltb-true (counted count) constant again in
        turns there low left (counted count) (turned now) (read now) (summed now) (number (counted count)) (number (bit (nat_lt (counted count) constant))) u steps
        (omega arith) (omega arith) waits (heap_stored now.objects most (front_place 1) (summed now) heap) (omega arith) most_steps)

    pub looping_back : slice_get funcs place ≡ Some (function place (looping constant)) → constant < 10 → world.below ≡ caller ∷ below → Heap world.objects most
        → world.steps + 12 ≤ 10000000
        → Back (at (entered (setting funcs go) place (front 1 ∷ x ∷ [])) world) caller below world.objects most (world.steps + 12)
    looping_back there low waits heap less =
        let l2 : List Line = acting (jump_line 1) ∷ [] in
        let l1 : List Line = giving 2 (field_line (codes "p0") 0 0) ∷ l2 in
        let w1 : World = record world { events = raised world.events } in
        let w2 : World = record w1 { steps = world.steps + 1 } in
        let r0 : List Datum = front 1 ∷ x ∷ nothing ∷ nothing ∷ nothing ∷ nothing ∷ nothing ∷ nothing ∷ nothing ∷ [] in
        let r1 : List Datum = front 1 ∷ x ∷ front 1 ∷ nothing ∷ nothing ∷ nothing ∷ nothing ∷ nothing ∷ nothing ∷ [] in
        let r2 : List Datum = turn_registers 0 nothing nothing nothing nothing nothing in
        subst (λ (f : Frame). Back (at f world) caller below world.objects most (world.steps + 12)) (sym (looping_entered there))
        (started_by (at (looped 0 (poll ∷ l1) r0) world) (at (looped 0 l1 r0) w1) caller below world.objects most (world.steps + 12) (step_poll funcs go place 0 l1 r0 world)
        (started_by (at (looped 0 l1 r0) w1) (at (looped 0 l2 r1) w1) caller below world.objects most (world.steps + 12) (step_field funcs go place 0 l2 r0 w1 (codes "p0") 0 2 1 refl)
        (started_by (at (looped 0 l2 r1) w1) (at (looped 1 turn_lines r2) w2) caller below world.objects most (world.steps + 12)
        (step_jump funcs go place 0 [] r1 w1 1 loop_lines (lt-ltb world.steps 10000000 (omega arith)) (loop_there there))
        (turns there (omega arith) 9 0 w2 nothing nothing nothing nothing nothing (world.steps + 12) (omega arith) (omega arith) waits heap (omega arith) less))))

    -- ---- the phi of two pointers

    abbrev choosing_lines : List Line
    choosing_lines =
        giving 2 (new_line (codes "n") 1) ∷ giving 3 (field_line (codes "p1") 0 0) ∷ giving 4 (below_line (codes "c") 1 constant)
        ∷ acting (branch_line 4 1 2) ∷ []

    abbrev left_lines : List Line
    left_lines = giving 5 (field_line (codes "p2") 2 0) ∷ acting (jump_line 2) ∷ []

    -- loads, adds and stores, from a line whose result is this value
    abbrev adding_lines : ℕ → List Line
    adding_lines loading =
        giving loading (load_line (codes "v") 6) ∷ giving (loading + 1) (add_line (codes "r") loading (Int constant))
        ∷ acting (store_line (forms.value (loading + 1)) 6) ∷ acting (return_line (forms.value (loading + 1))) ∷ []

    abbrev chosen : Line
    chosen = giving 6 (phi_line (codes "p") Ptr (forms.value 3) 0 5 1)

    -- loads, adds and stores where the phi gave an object of one element; in a function without the call
    first_adds : (now : World) (a b c d : Datum) (object : ℕ) (v r : Datum) (now_most steps : ℕ) → now.below ≡ caller ∷ below → Heap now.objects now_most
        → Holds now.objects object 1 → now.steps + 1 ≤ steps → steps ≤ 10000000
        → Back (at (looped 2 (adding_lines 7) (front 1 ∷ x ∷ a ∷ b ∷ c ∷ d ∷ front object ∷ v ∷ r ∷ [])) now) caller below now.objects now_most steps
    first_adds now a b c d object v r now_most steps waits heap holds less most_steps =
        let l3 : List Line = acting (return_line (forms.value 8)) ∷ [] in
        let l2 : List Line = acting (store_line (forms.value 8) 6) ∷ l3 in
        let l1 : List Line = giving 8 (add_line (codes "r") 7 (Int constant)) ∷ l2 in
        let v' : Datum = loaded now.objects (front_place object) in
        let r' : Datum = number ((number_in v' + constant) % 2 ^ 64) in
        let r0 : List Datum = front 1 ∷ x ∷ a ∷ b ∷ c ∷ d ∷ front object ∷ v ∷ r ∷ [] in
        let r1 : List Datum = front 1 ∷ x ∷ a ∷ b ∷ c ∷ d ∷ front object ∷ v' ∷ r ∷ [] in
        let r2 : List Datum = front 1 ∷ x ∷ a ∷ b ∷ c ∷ d ∷ front object ∷ v' ∷ r' ∷ [] in
        let now1 : World = record now { objects = stored now.objects (front_place object) r' } in
        let last : World = record now1 { below = below; steps = now.steps + 1 } in
        started_by (at (looped 2 (adding_lines 7) r0) now) (at (looped 2 l1 r1) now) caller below now.objects now_most steps
        (step_load funcs go place 2 l1 r0 now (codes "v") 6 7 (front_place object) (front_accessed now.objects object holds))
        (started_by (at (looped 2 l1 r1) now) (at (looped 2 l2 r2) now) caller below now.objects now_most steps (step_add funcs go place 2 l2 r1 now (codes "r") 7 (Int constant) 8)
        (started_by (at (looped 2 l2 r2) now) (at (looped 2 l3 r2) now1) caller below now.objects now_most steps
        (step_store funcs go place 2 l3 r2 now (forms.value 8) 6 (front_place object) (front_accessed now.objects object holds))
        (record {
          answer = r';
          last = last;
          reached = ahead (at (looped 2 l3 r2) now1) (at (answered caller r') last) (at (answered caller r') last)
              (step_return funcs go place 2 [] r2 now1 (forms.value 8) caller below (lt-ltb now.steps 10000000 (omega arith)) waits) (here (at (answered caller r') last));
          below_is = refl;
          heap = heap_stored now.objects now_most (front_place object) r' heap;
          steps_are = omega arith;
          kept = λ other count held. holds_stored now.objects (front_place object) r' other count held;
        })))

    -- the same in a function with the call
    later_adds : (now : World) (a b c d : Datum) (object : ℕ) (k v r : Datum) (now_most steps : ℕ) → now.below ≡ caller ∷ below → Heap now.objects now_most
        → Holds now.objects object 1 → now.steps + 1 ≤ steps → steps ≤ 10000000
        → Back (at (looped 2 (adding_lines 8) (front 1 ∷ x ∷ a ∷ b ∷ c ∷ d ∷ front object ∷ k ∷ v ∷ r ∷ [])) now) caller below now.objects now_most steps
    later_adds now a b c d object k v r now_most steps waits heap holds less most_steps =
        let l3 : List Line = acting (return_line (forms.value 9)) ∷ [] in
        let l2 : List Line = acting (store_line (forms.value 9) 6) ∷ l3 in
        let l1 : List Line = giving 9 (add_line (codes "r") 8 (Int constant)) ∷ l2 in
        let v' : Datum = loaded now.objects (front_place object) in
        let r' : Datum = number ((number_in v' + constant) % 2 ^ 64) in
        let r0 : List Datum = front 1 ∷ x ∷ a ∷ b ∷ c ∷ d ∷ front object ∷ k ∷ v ∷ r ∷ [] in
        let r1 : List Datum = front 1 ∷ x ∷ a ∷ b ∷ c ∷ d ∷ front object ∷ k ∷ v' ∷ r ∷ [] in
        let r2 : List Datum = front 1 ∷ x ∷ a ∷ b ∷ c ∷ d ∷ front object ∷ k ∷ v' ∷ r' ∷ [] in
        let now1 : World = record now { objects = stored now.objects (front_place object) r' } in
        let last : World = record now1 { below = below; steps = now.steps + 1 } in
        started_by (at (looped 2 (adding_lines 8) r0) now) (at (looped 2 l1 r1) now) caller below now.objects now_most steps
        (step_load funcs go place 2 l1 r0 now (codes "v") 6 8 (front_place object) (front_accessed now.objects object holds))
        (started_by (at (looped 2 l1 r1) now) (at (looped 2 l2 r2) now) caller below now.objects now_most steps (step_add funcs go place 2 l2 r1 now (codes "r") 8 (Int constant) 9)
        (started_by (at (looped 2 l2 r2) now) (at (looped 2 l3 r2) now1) caller below now.objects now_most steps
        (step_store funcs go place 2 l3 r2 now (forms.value 9) 6 (front_place object) (front_accessed now.objects object holds))
        (record {
          answer = r';
          last = last;
          reached = ahead (at (looped 2 l3 r2) now1) (at (answered caller r') last) (at (answered caller r') last)
              (step_return funcs go place 2 [] r2 now1 (forms.value 9) caller below (lt-ltb now.steps 10000000 (omega arith)) waits) (here (at (answered caller r') last));
          below_is = refl;
          heap = heap_stored now.objects now_most (front_place object) r' heap;
          steps_are = omega arith;
          kept = λ other count held. holds_stored now.objects (front_place object) r' other count held;
        })))

    -- from the entry to the phi, whatever follows it: the rest of the registers is blank
    choose : (behind : List Line) (blank : List Datum) (final steps : ℕ)
        → entered (setting funcs go) place (front 1 ∷ x ∷ [])
        ≡ looped 0 (poll ∷ choosing_lines) (front 1 ∷ x ∷ nothing ∷ nothing ∷ nothing ∷ nothing ∷ nothing ∷ blank)
        → (setting funcs go).lines place 1 ≡ left_lines → (setting funcs go).lines place 2 ≡ chosen ∷ behind → phi_count behind ≡ 0
        → Heap world.objects most → most + 1 ≤ 2000000 → world.steps + 2 ≤ steps → steps ≤ 10000000
        → ((now : World) (a b c d : Datum) (object : ℕ) → now.below ≡ world.below → Heap now.objects (most + 1) → Holds now.objects object 1 → now.steps ≤ world.steps + 2
        → ((other count : ℕ) → Holds world.objects other count → Holds now.objects other count)
        → Back (at (looped 2 behind (front 1 ∷ x ∷ a ∷ b ∷ c ∷ d ∷ front object ∷ blank)) now) caller below world.objects final steps)
        → Back (at (entered (setting funcs go) place (front 1 ∷ x ∷ [])) world) caller below world.objects final steps
    choose behind blank final steps entered_is left_there merged_there plain heap small less most_steps more =
        let l3 : List Line = acting (branch_line 4 1 2) ∷ [] in
        let l2 : List Line = giving 4 (below_line (codes "c") 1 constant) ∷ l3 in
        let l1 : List Line = giving 3 (field_line (codes "p1") 0 0) ∷ l2 in
        let new : ℕ = length world.objects + 1 in
        let test : Bool = nat_lt (number_in x) constant in
        let c : Datum = number (bit test) in
        let w1 : World = record world { events = raised world.events } in
        let w2 : World = record w1 { objects = world.objects ++ made layouts_of 0 1 ∷ []; events = raised w1.events } in
        let w3 : World = record w2 { steps = world.steps + 1 } in
        let w4 : World = record w3 { steps = world.steps + 1 + 1 } in
        let heap2 : Heap w2.objects (most + 1) = heap_more world.objects most (made layouts_of 0 1) heap one_node in
        let holds2 : Holds w2.objects new 1 = holds_new world.objects (made layouts_of 0 1) one_node in
        let kept2 : (other count : ℕ) → Holds world.objects other count → Holds w2.objects other count = λ other count holds. holds_more world.objects (made layouts_of 0 1 ∷ []) other count holds in
        let r0 : List Datum = front 1 ∷ x ∷ nothing ∷ nothing ∷ nothing ∷ nothing ∷ nothing ∷ blank in
        let r1 : List Datum = front 1 ∷ x ∷ front new ∷ nothing ∷ nothing ∷ nothing ∷ nothing ∷ blank in
        let r2 : List Datum = front 1 ∷ x ∷ front new ∷ front 1 ∷ nothing ∷ nothing ∷ nothing ∷ blank in
        let r3 : List Datum = front 1 ∷ x ∷ front new ∷ front 1 ∷ c ∷ nothing ∷ nothing ∷ blank in
        let r4 : List Datum = front 1 ∷ x ∷ front new ∷ front 1 ∷ c ∷ front new ∷ nothing ∷ blank in
        let r5 : List Datum = front 1 ∷ x ∷ front new ∷ front 1 ∷ c ∷ nothing ∷ front 1 ∷ blank in
        let r6 : List Datum = front 1 ∷ x ∷ front new ∷ front 1 ∷ c ∷ front new ∷ front new ∷ blank in
        let can : nat_lt world.steps 10000000 ≡ true = lt-ltb world.steps 10000000 (omega arith) in
        let then_can : nat_lt (world.steps + 1) 10000000 ≡ true = lt-ltb (world.steps + 1) 10000000 (omega arith) in
        subst (λ (f : Frame). Back (at f world) caller below world.objects final steps) (sym entered_is)
        (started_by (at (looped 0 (poll ∷ choosing_lines) r0) world) (at (looped 0 choosing_lines r0) w1) caller below world.objects final steps (step_poll funcs go place 0 choosing_lines r0 world)
        (started_by (at (looped 0 choosing_lines r0) w1) (at (looped 0 l1 r1) w2) caller below world.objects final steps
        (step_new_one funcs go place 0 l1 r0 w1 (codes "n") 2 (room world.objects most (made layouts_of 0 1) heap one_node (omega arith)))
        (started_by (at (looped 0 l1 r1) w2) (at (looped 0 l2 r2) w2) caller below world.objects final steps (step_field funcs go place 0 l2 r1 w2 (codes "p1") 0 3 1 refl)
        (started_by (at (looped 0 l2 r2) w2) (at (looped 0 l3 r3) w2) caller below world.objects final steps (step_below funcs go place 0 l3 r2 w2 (codes "c") 1 constant 4)
        (elim (cases_Bool test) [
          | inl taken ↦
              started_by (at (looped 0 l3 r3) w2) (at (looped 1 left_lines r3) w3) caller below world.objects final steps
              (step_taken funcs go place 0 [] r3 w2 4 1 2 left_lines can (rw taken refl) left_there)
              (started_by (at (looped 1 left_lines r3) w3) (at (looped 1 (acting (jump_line 2) ∷ []) r4) w3) caller below world.objects final steps
              (step_field funcs go place 1 (acting (jump_line 2) ∷ []) r3 w3 (codes "p2") 2 5 new refl)
              (started_by (at (looped 1 (acting (jump_line 2) ∷ []) r4) w3) (at (looped 2 behind r6) w4) caller below world.objects final steps
              (step_jump funcs go place 1 [] r4 w3 2 (chosen ∷ behind) then_can merged_there ∙ rw plain refl)
              (more w4 (front new) (front 1) c (front new) new refl heap2 holds2 (omega arith) kept2)))
          | inr other ↦
              started_by (at (looped 0 l3 r3) w2) (at (looped 2 behind r5) w3) caller below world.objects final steps
              (step_other funcs go place 0 [] r3 w2 4 1 2 (chosen ∷ behind) can (rw other refl) merged_there ∙ rw plain refl)
              (more w3 (front new) (front 1) c nothing 1 refl heap2 heap2.first (omega arith) kept2)
        ])))))

    -- ---- the whole of such a function

    first_entered : slice_get funcs place ≡ Some (function place (merging 0 constant))
        → entered (setting funcs go) place (front 1 ∷ x ∷ [])
        ≡ looped 0 (poll ∷ choosing_lines) (front 1 ∷ x ∷ nothing ∷ nothing ∷ nothing ∷ nothing ∷ nothing ∷ nothing ∷ nothing ∷ [])
    first_entered there = rw there refl

    first_left : slice_get funcs place ≡ Some (function place (merging 0 constant)) → (setting funcs go).lines place 1 ≡ left_lines
    first_left there = rw there refl

    first_merged : slice_get funcs place ≡ Some (function place (merging 0 constant)) → (setting funcs go).lines place 2 ≡ chosen ∷ adding_lines 7
    first_merged there = rw there refl

    pub first_back : slice_get funcs place ≡ Some (function place (merging 0 constant)) → world.below ≡ caller ∷ below → Heap world.objects most
        → most + 1 ≤ 2000000 → world.steps + 3 ≤ 10000000
        → Back (at (entered (setting funcs go) place (front 1 ∷ x ∷ [])) world) caller below world.objects (most + 1) (world.steps + 3)
    first_back there waits heap small less =
        choose (adding_lines 7) (nothing ∷ nothing ∷ []) (most + 1) (world.steps + 3) (first_entered there) (first_left there) (first_merged there) refl heap small (omega arith) less
        (λ now a b c d object below_is now_heap holds steps_are kept.
        kept_by (at (looped 2 (adding_lines 7) (front 1 ∷ x ∷ a ∷ b ∷ c ∷ d ∷ front object ∷ nothing ∷ nothing ∷ [])) now) caller below world.objects now.objects (most + 1) (world.steps + 3) kept
        (first_adds now a b c d object nothing nothing (most + 1) (world.steps + 3) (below_is ∙ waits) now_heap holds (omega arith) less))

    later_entered : (before : ℕ) → slice_get funcs place ≡ Some (function place (merging (suc before) constant))
        → entered (setting funcs go) place (front 1 ∷ x ∷ [])
        ≡ looped 0 (poll ∷ choosing_lines) (front 1 ∷ x ∷ nothing ∷ nothing ∷ nothing ∷ nothing ∷ nothing ∷ nothing ∷ nothing ∷ nothing ∷ [])
    later_entered before there = rw there refl

    later_left : (before : ℕ) → slice_get funcs place ≡ Some (function place (merging (suc before) constant)) → (setting funcs go).lines place 1 ≡ left_lines
    later_left before there = rw there refl

    abbrev called : ℕ → Line
    called before = giving 7 (call_line (codes "k") before 0 (forms.value 1))

    later_merged : (before : ℕ) → slice_get funcs place ≡ Some (function place (merging (suc before) constant)) → (setting funcs go).lines place 2 ≡ chosen ∷ called before ∷ adding_lines 8
    later_merged before there = rw there refl

    -- over the run of the function that it calls
    pub later_back : (before more cost : ℕ) → slice_get funcs place ≡ Some (function place (merging (suc before) constant)) → world.below ≡ caller ∷ below → Heap world.objects most
        → most + 1 + more ≤ 2000000 → world.steps + cost + 4 ≤ 10000000 → length world.below + 1 < 4096
        → ((now : World) (frame : Frame) → now.below ≡ frame ∷ world.below → Heap now.objects (most + 1) → now.steps ≤ world.steps + 3
        → Back (at (entered (setting funcs go) before (front 1 ∷ x ∷ [])) now) frame world.below now.objects (most + 1 + more) (world.steps + cost + 3))
        → Back (at (entered (setting funcs go) place (front 1 ∷ x ∷ [])) world) caller below world.objects (most + 1 + more) (world.steps + cost + 4)
    later_back before more cost there waits heap small less shallow runs =
        let final : ℕ = most + 1 + more in
        let steps : ℕ = world.steps + cost + 4 in
        choose (called before ∷ adding_lines 8) (nothing ∷ nothing ∷ nothing ∷ []) final steps (later_entered before there) (later_left before there) (later_merged before there) refl heap (omega arith) (omega arith) less
        (λ now a b c d object below_is now_heap holds steps_are kept.
        let registers : List Datum = front 1 ∷ x ∷ a ∷ b ∷ c ∷ d ∷ front object ∷ nothing ∷ nothing ∷ nothing ∷ [] in
        let frame : Frame = looped 2 (called before ∷ adding_lines 8) registers in
        let now1 : World = record now { below = frame ∷ now.below; steps = now.steps + 1 } in
        let called_one : Progress State = at (entered (setting funcs go) before (front 1 ∷ x ∷ [])) now1 in
        let can : nat_lt now.steps 10000000 ≡ true = lt-ltb now.steps 10000000 (omega arith) in
        let deep : nat_lt (length now.below + 1) 4096 ≡ true = subst (λ (frames : List Frame). nat_lt (length frames + 1) 4096 ≡ true) (sym below_is) (lt-ltb (length world.below + 1) 4096 shallow) in
        let back : Back called_one frame world.below now.objects final (world.steps + cost + 3) = runs now1 frame (ap (λ (frames : List Frame). frame ∷ frames) below_is) now_heap (omega arith) in
        kept_by (at frame now) caller below world.objects now.objects final steps kept
        (started_by (at frame now) called_one caller below now.objects final steps (step_call funcs go place 2 (adding_lines 8) registers now (codes "k") before 0 (forms.value 1) 7 can deep)
        (joined called_one frame caller world.below below now.objects final (world.steps + cost + 3) steps back
        (let deeper = back.steps_are in
        later_adds back.last a b c d object back.answer nothing nothing final steps (back.below_is ∙ waits) back.heap (back.kept object 1 holds) (omega (arith, deeper)) less))))
