-- The run of a generated module: `@main` calls each function in turn, and returns 0.
use Rattle.std.proofs.Common.{◌≡◌, ◌∙◌, ℕ, zero, suc, ◌+◌, ◌-◌, ◌*◌, ◌<◌, ◌≤◌, true, false, not, List, [], ◌∷◌, ◌++◌, length, map, Option, Some, refl, sym, ap, subst, codes, arith, pos, add-one}
use Rattle.std.specs.Prelude.{ℤ, nat_lt, slice_get, slice_set, slice_index, slice_index_or, replicate, unwrap_or, is_some}
use Rattle.std.specs.Str.{bytes_eq}
use Rattle.std.specs.List.{flat_map, range_with_len, prefix_len}
use Rattle.std.proofs.lemmas.Bool.{lt-ltb}
use Rattle.std.proofs.lemmas.List.{length-append}
use Rattle.std.proofs.lemmas.List.FromFn.{length-map-range_with_len}
use Rattle.std.proofs.lemmas.List.Elements.{All-from_recursion}
use Rattle.list_laws.proofs.Places.{get_map, get_front, get_middle}
use Rattle.tool_io.specs.Counts.{raised}
use Rattle.sp_ids.specs.declared.ends.End.{End}
use Rattle.sp_ids.specs.declared.ends.End.TheVariants.{Return}
use Rattle.ir_ast.specs.declared.ops.Operand.TheVariants.{Int}
use Rattle.ir_ast.specs.Funcs.{Function}
use Rattle.ir_ast.specs.Sizes.{laid, size_of}
use Rattle.ir_ast.specs.Objects.{Datum, number, Object}
use Rattle.object_meaning.specs.Lines.{Line, poll, lines_from, after_all}
use Rattle.object_meaning.specs.States.{Frame, State, Setting}
use Rattle.object_meaning.specs.Registers.{nothing, number_in}
use Rattle.object_meaning.specs.Runs.{Go, Ends, Reaches}
use Rattle.object_meaning.specs.Effects.{Progress, printed_line}
use Rattle.object_meaning.specs.Calls.{made}
use Rattle.object_meaning.specs.Frames.{answered, entered}
use Rattle.object_meaning.specs.Outcomes.{Outcome, opening, outcome_of}
use Rattle.object_meaning.proofs.RunLaws.{ends_more}
use Rattle.object_meaning.proofs.OutcomeLaws.{gives_one, gives_end}
use Rattle.generated_forms.specs.Lines.{numbered_name, new_line, call_line, print_line, return_line}
use Rattle.generated_forms.specs.Modules.{function_at, visit, main_of, generated}
use Rattle.generated_runs.specs.Statements.{GeneratedReturns}
use Rattle.generated_runs.proofs.Steps.{layouts_of, World, at, giving, acting, front, setting, next_of, step_poll, step_new_one, step_call, step_print, step_end}
use Rattle.generated_runs.proofs.Heaps.{Heap, IsNode, one_node, heap_within}
use Rattle.generated_runs.proofs.Shapes.{Back, ahead, here, reaches_on}
use Rattle.generated_runs.proofs.Chain.{all_run}
use Rattle.list_laws.proofs.Ranges.{range_get}

-- ---- the functions of a module

abbrev functions : ℕ → ℕ → List Function
functions seed size = map (function_at seed) (range_with_len 0 size)

abbrev funcs_of : ℕ → ℕ → List Function
funcs_of seed size = functions seed size ++ main_of size ∷ []

pub function_there : (seed size place : ℕ) → place < size → slice_get (funcs_of seed size) place ≡ Some (function_at seed place)
function_there seed size place less =
    get_front (functions seed size) (main_of size ∷ []) place (function_at seed place)
    (get_map (function_at seed) (range_with_len 0 size) place place (range_get 0 size place less ∙ ap (λ (n : ℕ). Some n) (omega arith)))

main_there : (seed size : ℕ) → slice_get (funcs_of seed size) size ≡ Some (main_of size)
main_there seed size =
    subst (λ (n : ℕ). slice_get (funcs_of seed size) n ≡ Some (main_of size)) (length-map-range_with_len (function_at seed) 0 size)
    (get_middle (functions seed size) (main_of size) [])

-- `@main` is the last, and no other is named so
not_main : (seed start count : ℕ) (size : ℕ)
    → prefix_len (λ (func : Function). not (bytes_eq func.name (codes "main"))) (map (function_at seed) (range_with_len start count) ++ main_of size ∷ []) ≡ count
unfolding function_at main_of
not_main seed start zero size = refl
not_main seed start (suc count) size =
    ap (λ (n : ℕ). 1 + n) (not_main seed (start + 1) count size) ∙ (let e : 1 + count ≡ suc count = omega arith in e)

main_is : (seed size : ℕ) (go : ℕ → Option ℕ) → (setting (funcs_of seed size) go).main ≡ size
main_is seed size go =
    let first = not_main seed 0 size size in
    let count : length (funcs_of seed size) ≡ size + 1 = omega (arith, length-append (functions seed size) (main_of size ∷ []), length-map-range_with_len (function_at seed) 0 size) in
    rw (first, count, lt-ltb size (size + 1) (omega arith)) refl

-- ---- the registers of `@main`

after_visits : (start count : ℕ) → after_all (start + 1) (flat_map visit (range_with_len start count) ++ return_line (Int 0) ∷ []) ≡ start + count + 1
after_visits start zero = omega arith
after_visits start (suc count) = after_visits (start + 1) count ∙ (let e : start + 1 + count + 1 ≡ start + suc count + 1 = omega arith in e)

module _ (seed size : ℕ) (go : ℕ → Option ℕ) where
  abbrev whole : Setting
  whole = setting (funcs_of seed size) go

  -- the lines of the visits from a place on
  abbrev visit_lines : ℕ → ℕ → List Line
  visit_lines start count = lines_from 0 (start + 1) (flat_map visit (range_with_len start count) ++ return_line (Int 0) ∷ [])

  main_lines : whole.lines size 0 ≡ giving 0 (new_line (codes "o") 1) ∷ visit_lines 0 size
  unfolding main_of
  main_lines = rw (main_there seed size) refl

  main_registers : whole.registers size ≡ size + 1
  unfolding main_of
  main_registers = rw (main_there seed size) (after_visits 0 size ∙ (let e : 0 + size + 1 ≡ size + 1 = omega arith in e))

  abbrev standing : List Line → List Datum → Frame
  standing rest registers = record { func = size; block = 0; rest = rest; registers = registers }

  main_entered : entered whole size [] ≡ standing (poll ∷ giving 0 (new_line (codes "o") 1) ∷ visit_lines 0 size) (nothing ∷ replicate size nothing)
  main_entered =
      ap (λ (rest : List Line). standing (poll ∷ rest) (replicate (whole.registers size - 0) nothing)) main_lines
      ∙ ap (λ (n : ℕ). standing (poll ∷ giving 0 (new_line (codes "o") 1) ∷ visit_lines 0 size) (replicate n nothing)) (let e : whole.registers size - 0 ≡ suc size = omega (arith, main_registers) in e)

  -- the run comes to the return of `@main`
  record Done (start : Progress State) : Type 0 where
    pub registers : List Datum
    pub last : World
    pub reached : Reaches {E = End} (next_of (funcs_of seed size) go) start (at (standing (acting (return_line (Int 0)) ∷ []) registers) last)
    pub below_is : last.below ≡ []
    pub steps_are : last.steps < 10000000

  done_ahead : (start next : Progress State) → next_of (funcs_of seed size) go start ≡ Go next → Done next → Done start
  done_ahead start next first done = record {
    registers = done.registers;
    last = done.last;
    reached = ahead (funcs_of seed size) go start next (at (standing (acting (return_line (Int 0)) ∷ []) done.registers) done.last) first done.reached;
    below_is = done.below_is;
    steps_are = done.steps_are;
  }

  done_over : (start next : Progress State) → Reaches {E = End} (next_of (funcs_of seed size) go) start next → Done next → Done start
  done_over start next first done = record {
    registers = done.registers;
    last = done.last;
    reached = reaches_on (funcs_of seed size) go first.after start next (at (standing (acting (return_line (Int 0)) ∷ []) done.registers) done.last) first.by done.reached;
    below_is = done.below_is;
    steps_are = done.steps_are;
  }

  -- the visits from a place on
  all_visits : (count start : ℕ) → start + count ≡ size → size ≤ 1000 → (world : World) (rest : List Datum) → world.below ≡ [] → Heap world.objects (1 + start * 1002)
      → world.steps ≤ start * 5000 → Done (at (standing (visit_lines start count) (front 1 ∷ rest)) world)
  all_visits zero start all few world rest alone heap steps_are = record {
    registers = front 1 ∷ rest;
    last = world;
    reached = here (funcs_of seed size) go (at (standing (acting (return_line (Int 0)) ∷ []) (front 1 ∷ rest)) world);
    below_is = alone;
    steps_are = omega arith;
  }
  all_visits (suc count) start all few world rest alone heap steps_are =
      let name : List ℕ = numbered_name (codes "v") (start + 1) in
      let l2 : List Line = visit_lines (start + 1) count in
      let l1 : List Line = acting (print_line (start + 1)) ∷ l2 in
      let frame : Frame = standing (giving (start + 1) (call_line name start 0 (Int (start + 1))) ∷ l1) (front 1 ∷ rest) in
      let w1 : World = record world { below = frame ∷ world.below; steps = world.steps + 1 } in
      let called : Progress State = at (entered whole start (front 1 ∷ number (start + 1) ∷ [])) w1 in
      let can : nat_lt world.steps 10000000 ≡ true = lt-ltb world.steps 10000000 (omega arith) in
      let shallow : nat_lt (length world.below + 1) 4096 ≡ true = rw alone refl in
      let back : Back (funcs_of seed size) go called frame [] world.objects (1 + start * 1002 + start + 2) (world.steps + 1 + (4 * start + 16)) =
      all_run (funcs_of seed size) go seed size (function_there seed size) start (omega arith) (number (start + 1)) w1 frame [] (1 + start * 1002) (ap (λ (frames : List Frame). frame ∷ frames) alone) heap
      (omega arith) (omega arith) (rw alone (omega arith)) in
      let taken = back.steps_are in
      let w2 : World = back.last in
      let rest' : List Datum = slice_set rest start back.answer in
      let w3 : World = record w2 { lines = printed_line (number_in (slice_index_or (front 1 ∷ rest') (start + 1) nothing)) ∷ w2.lines } in
      let put_there : slice_set (front 1 ∷ rest) (start + 1) back.answer ≡ front 1 ∷ rest' = rw (add-one start) refl in
      done_ahead (at frame world) called (step_call (funcs_of seed size) go size 0 l1 (front 1 ∷ rest) world name start 0 (Int (start + 1)) (start + 1) can shallow)
      (done_over called (at (answered frame back.answer) w2) back.reached
      (subst (λ (registers : List Datum). Done (at (standing l1 registers) w2)) (sym put_there)
      (done_ahead (at (standing l1 (front 1 ∷ rest')) w2) (at (standing l2 (front 1 ∷ rest')) w3) (step_print (funcs_of seed size) go size 0 l2 (front 1 ∷ rest') w2 (start + 1))
      (all_visits count (start + 1) (omega arith) few w3 rest' back.below_is (heap_within w2.objects (1 + start * 1002 + start + 2) (1 + (start + 1) * 1002) back.heap (omega arith)) (omega (arith, taken))))))

  room_there : nat_lt 67108864 (Rattle.std.specs.Prelude.sum_by (Rattle.ir_ast.specs.Objects.footprint layouts_of) ([] ++ made layouts_of 0 1 ∷ [])) ≡ false
  unfolding laid size_of
  room_there = refl

  first_heap : Heap (made layouts_of 0 1 ∷ []) 1
  first_heap = record {
    nodes = All-from_recursion IsNode (made layouts_of 0 1 ∷ []) (one_node, tt);
    few = omega arith;
    first = record { object = made layouts_of 0 1; later = omega arith; there = refl; layout = refl; count_is = refl };
  }

  module _ (input : List ℤ) (few : size ≤ 1000) where
    abbrev start_world : World
    start_world = record { below = []; objects = []; input = input; steps = 0; events = 0; lines = [] }

    opening_is : opening whole input ≡ at (standing (poll ∷ giving 0 (new_line (codes "o") 1) ∷ visit_lines 0 size) (nothing ∷ replicate size nothing)) start_world
    opening_is =
        ap (λ (main : ℕ). at (entered whole main []) start_world) (main_is seed size go) ∙ ap (λ (frame : Frame). at frame start_world) main_entered

    done : Done (opening whole input)
    done =
        let l2 : List Line = visit_lines 0 size in
        let l1 : List Line = giving 0 (new_line (codes "o") 1) ∷ l2 in
        let r0 : List Datum = nothing ∷ replicate size nothing in
        let w1 : World = record start_world { events = raised 0 } in
        let w2 : World = record w1 { objects = made layouts_of 0 1 ∷ []; events = raised (raised 0) } in
        subst Done (sym opening_is)
        (done_ahead (at (standing (poll ∷ l1) r0) start_world) (at (standing l1 r0) w1) (step_poll (funcs_of seed size) go size 0 l1 r0 start_world)
        (done_ahead (at (standing l1 r0) w1) (at (standing l2 (front 1 ∷ replicate size nothing)) w2) (step_new_one (funcs_of seed size) go size 0 l2 r0 w1 (codes "o") 0 room_there)
        (all_visits size 0 (let e : 0 + size ≡ size = omega arith in e) few w2 (replicate size nothing) refl first_heap (omega arith))))

    run : (last : Progress State) × Ends (next_of (funcs_of seed size) go) (opening whole input) (Return (pos 0)) last
    run =
        let there = done in
        let now : Progress State = at (standing (acting (return_line (Int 0)) ∷ []) there.registers) there.last in
        let last : Progress State = at (standing (acting (return_line (Int 0)) ∷ []) there.registers) (record there.last { steps = there.last.steps + 1 }) in (
          last,
          ends_more (next_of (funcs_of seed size) go) (opening whole input) now (Return (pos 0)) last there.reached
              (step_end (funcs_of seed size) go size 0 [] there.registers there.last (lt-ltb there.last.steps 10000000 there.steps_are) there.below_is),
        )

pub generated_returns : GeneratedReturns
unfolding generated
generated_returns seed size input go outcome few gives =
    let ended = run seed size go input few in
    let same = gives_one (setting (funcs_of seed size) go) input outcome (outcome_of (setting (funcs_of seed size) go) input ended.1.within (Return (pos 0)) ended.0) gives
    (gives_end (setting (funcs_of seed size) go) input (Return (pos 0)) ended.0 ended.1) in
    ap (λ (o : Outcome). o.end) same
