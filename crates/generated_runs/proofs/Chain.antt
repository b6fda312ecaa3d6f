-- The run of one call of the function at a place of a generated module, over those of the functions that it calls.
use Rattle.std.proofs.Common.{◌≡◌, ℕ, zero, suc, ◌+◌, ◌*◌, ◌<◌, ◌≤◌, List, [], ◌∷◌, length, Option, Some, arith}
use Rattle.std.specs.Prelude.{slice_get}
use Rattle.ir_ast.specs.Funcs.{Function}
use Rattle.ir_ast.specs.Objects.{Datum, Object}
use Rattle.object_meaning.specs.States.{Frame}
use Rattle.object_meaning.specs.Effects.{Progress}
use Rattle.object_meaning.specs.States.{State}
use Rattle.object_meaning.specs.Frames.{entered}
use Rattle.generated_forms.specs.Draws.{drawn, state_after}
use Rattle.generated_forms.specs.Bodies.{Shape, Making, Merging, Looping, shape_at, constant_at, bound_of, body}
use Rattle.generated_forms.specs.Modules.{function, function_at}
use Rattle.generated_runs.proofs.Steps.{World, at, front, setting}
use Rattle.generated_runs.proofs.Heaps.{Heap, heap_within}
use Rattle.generated_runs.proofs.Shapes.{Back, making_back, looping_back, first_back, later_back}

pub drawn_below : (below state : ℕ) → 0 < below → drawn below state < below
unfolding drawn
drawn_below below state some = omega arith

bound_some : (shape : Shape) → 0 < bound_of shape
bound_some Making = omega arith
bound_some Merging = omega arith
bound_some Looping = omega arith

module _ (funcs : List Function) (go : ℕ → Option ℕ) where
  within : (start : Progress State) (caller : Frame) (below : List Frame) (objects : List Object) (most more steps further : ℕ) → most ≤ more → steps ≤ further
      → Back funcs go start caller below objects most steps → Back funcs go start caller below objects more further
  within start caller below objects most more steps further fewer less back =
      let taken = back.steps_are in
      record {
        answer = back.answer;
        last = back.last;
        reached = back.reached;
        below_is = back.below_is;
        heap = heap_within back.last.objects most more back.heap fewer;
        steps_are = omega (arith, taken);
        kept = back.kept;
      }

  -- a call of the function at this place comes back, wherever it is called with the first object
  abbrev pub Runs : ℕ → Type 0
  Runs place = (x : Datum) (world : World) (caller : Frame) (below : List Frame) (most : ℕ) → world.below ≡ caller ∷ below → Heap world.objects most
      → most + place + 2 ≤ 2000000 → world.steps + (4 * place + 16) ≤ 10000000 → length world.below + place < 4000
      → Back funcs go (at (entered (setting funcs go) place (front 1 ∷ x ∷ [])) world) caller below world.objects (most + place + 2) (world.steps + (4 * place + 16))

  first_runs : (shape : Shape) (constant : ℕ) → constant < bound_of shape → slice_get funcs 0 ≡ Some (function 0 (body shape 0 constant)) → Runs 0
  first_runs Making constant low there x world caller below most waits heap small less shallow =
      within (at (entered (setting funcs go) 0 (front 1 ∷ x ∷ [])) world) caller below world.objects (most + 2) (most + 0 + 2) (world.steps + 1) (world.steps + (4 * 0 + 16)) (omega arith) (omega arith)
      (making_back funcs go 0 constant x world caller below most there waits heap (omega arith) (omega arith))
  first_runs Merging constant low there x world caller below most waits heap small less shallow =
      within (at (entered (setting funcs go) 0 (front 1 ∷ x ∷ [])) world) caller below world.objects (most + 1) (most + 0 + 2) (world.steps + 3) (world.steps + (4 * 0 + 16)) (omega arith) (omega arith)
      (first_back funcs go 0 constant x world caller below most there waits heap (omega arith) (omega arith))
  first_runs Looping constant low there x world caller below most waits heap small less shallow =
      within (at (entered (setting funcs go) 0 (front 1 ∷ x ∷ [])) world) caller below world.objects most (most + 0 + 2) (world.steps + 12) (world.steps + (4 * 0 + 16)) (omega arith) (omega arith)
      (looping_back funcs go 0 constant x world caller below most there low waits heap (omega arith))

  later_runs : (before : ℕ) (shape : Shape) (constant : ℕ) → constant < bound_of shape → slice_get funcs (suc before) ≡ Some (function (suc before) (body shape (suc before) constant)) → Runs before → Runs (suc before)
  later_runs before Making constant low there earlier x world caller below most waits heap small less shallow =
      within (at (entered (setting funcs go) (suc before) (front 1 ∷ x ∷ [])) world) caller below world.objects (most + 2) (most + suc before + 2) (world.steps + 1) (world.steps + (4 * suc before + 16)) (omega arith) (omega arith)
      (making_back funcs go (suc before) constant x world caller below most there waits heap (omega arith) (omega arith))
  later_runs before Looping constant low there earlier x world caller below most waits heap small less shallow =
      within (at (entered (setting funcs go) (suc before) (front 1 ∷ x ∷ [])) world) caller below world.objects most (most + suc before + 2) (world.steps + 12) (world.steps + (4 * suc before + 16)) (omega arith) (omega arith)
      (looping_back funcs go (suc before) constant x world caller below most there low waits heap (omega arith))
  later_runs before Merging constant low there earlier x world caller below most waits heap small less shallow =
      let cost : ℕ = 4 * before + 16 in
      within (at (entered (setting funcs go) (suc before) (front 1 ∷ x ∷ [])) world) caller below world.objects (most + 1 + (before + 2)) (most + suc before + 2) (world.steps + cost + 4) (world.steps + (4 * suc before + 16)) (omega arith) (omega arith)
      (later_back funcs go (suc before) constant x world caller below most before (before + 2) cost there waits heap (omega arith) (omega arith) (omega arith)
      (λ now frame now_waits now_heap steps_are.
      within (at (entered (setting funcs go) before (front 1 ∷ x ∷ [])) now) frame world.below now.objects (most + 1 + before + 2) (most + 1 + (before + 2)) (now.steps + cost) (world.steps + cost + 3) (omega arith) (omega arith)
      (earlier x now frame world.below (most + 1) now_waits now_heap (omega arith) (omega arith) (rw now_waits (omega arith)))))

  pub all_run : (seed size : ℕ) → ((place : ℕ) → place < size → slice_get funcs place ≡ Some (function_at seed place)) → (place : ℕ) → place < size → Runs place
  unfolding function_at
  all_run seed size there zero less =
      first_runs (shape_at seed 0) (constant_at seed 0) (drawn_below (bound_of (shape_at seed 0)) (state_after seed (2 * 0 + 2)) (bound_some (shape_at seed 0))) (there 0 less)
  all_run seed size there (suc before) less =
      later_runs before (shape_at seed (suc before)) (constant_at seed (suc before))
      (drawn_below (bound_of (shape_at seed (suc before))) (state_after seed (2 * suc before + 2)) (bound_some (shape_at seed (suc before)))) (there (suc before) less)
      (all_run seed size there before (omega arith))
