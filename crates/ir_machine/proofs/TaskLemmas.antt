-- Tasks that wait, by number.
use Rattle.std.proofs.Common.{◌≡◌, ℕ, zero, suc, ◌+◌, ◌<◌, List, [], ◌∷◌, ◌++◌, ◌≤◌, length, map, set, take, drop, get_or, refl, sym, ap, ◌∙◌, append_assoc, arith}
use Rattle.std.specs.Prelude.{Option, Some, None, unwrap_or, slice_get, slice_index_or, Result, Ok, Err}
use Rattle.std.specs.Option.{option_map}
use Rattle.std.proofs.lemmas.List.{map-set, length-map, append-nil}
use Rattle.flat_code.proofs.RegisterLemmas.{rest_at}
use Rattle.std.proofs.lemmas.Option.{slice_get-map}
use Rattle.moving_heap.specs.Heaps.{HeapView}
use Rattle.sp_ids.specs.declared.ends.End.TheVariants.{Trap}
use Rattle.sp_ids.specs.declared.ends.Trap.TheVariants.{Unreachable}
use Rattle.moving_heap.specs.declared.stands.Moved.{Moved}
use Rattle.object_meaning.specs.Registers.{nothing}
use Rattle.object_meaning.specs.States.{Frame}
use Rattle.object_meaning.specs.Effects.{Effect, goes_on, ends}
use Rattle.machine_meaning.specs.Machines.{Machine, Machinery, gone_on}
use Rattle.machine_meaning.specs.MachineTasks.{switched_machine, handed_machine}
use Rattle.machine_meaning.specs.Moving.{joined, walked_task, walked_tasks}
use Rattle.machine_frames.specs.declared.tasks.Task.{Task}
use Rattle.machine_frames.specs.Frames.{frame_of, below_of, frames_of}
use Rattle.ir_machine.specs.Executors.{waiting, kept, without_words}
use Rattle.machine_frames.specs.declared.frames.Frame.{Frame as Standing}
use Rattle.ir_machine.specs.Events.{IsLost, before_walk, frame_or, next_frame, unwalked}

pub waiting_at : (tasks : List (Option Task)) (task : ℕ) (found : Option (Option Task)) → slice_get tasks task ≡ found
    → slice_get (map waiting tasks) task ≡ option_map waiting found
waiting_at tasks task found is = slice_get-map waiting tasks task ∙ ap (option_map waiting) is

pub kept_at : (tasks : List (Option Task)) (task : ℕ) (words : Task) → slice_get tasks task ≡ Some (Some words)
    → slice_index_or (map kept tasks) task [] ≡ words.stack
kept_at [] task words is = cc
kept_at (one ∷ tasks) zero words is = let e : one ≡ Some words = cc in ap kept e
kept_at (one ∷ tasks) (suc task) words is = kept_at tasks task words is

-- ---- another task runs

abbrev pub with_task : Machine → Task → ℕ → List (Option Task) → Machine
with_task machine run task tasks = record machine {
  state = record machine.state { running = frame_of run.frame; below = below_of run; task = task; tasks = map waiting tasks };
  stack = run.stack;
  stacks = map kept tasks;
}

pub switched_some : (machine : Machine) (run next : Task) (task to : ℕ) (tasks after : List (Option Task)) → after ≡ set (set tasks task (Some run)) to None
    → slice_get tasks to ≡ Some (Some next)
    → with_task machine next to after ≡ switched_machine (with_task machine run task tasks) to (slice_get (map waiting tasks) to)
switched_some machine run next task to tasks after after_is found =
    let whole : List ℕ → List (List Frame) → List (List ℕ) → Machine = λ stack frames stacks. record machine {
      state = record machine.state { running = frame_of next.frame; below = below_of next; task = to; tasks = frames };
      stack = stack;
      stacks = stacks;
    } in
    ap (with_task machine next to) after_is
    ∙ ap (λ (frames : List (List Frame)). whole next.stack frames (map kept (set (set tasks task (Some run)) to None)))
    (map-set waiting (set tasks task (Some run)) to None ∙ ap (λ (ts : List (List Frame)). set ts to []) (map-set waiting tasks task (Some run)))
    ∙ ap (λ (stacks : List (List ℕ)). whole next.stack (set (set (map waiting tasks) task (frames_of run)) to []) stacks)
    (map-set kept (set tasks task (Some run)) to None ∙ ap (λ (ts : List (List ℕ)). set ts to []) (map-set kept tasks task (Some run)))
    ∙ ap (λ (stack : List ℕ). whole stack (set (set (map waiting tasks) task (frames_of run)) to []) (set (set (map kept tasks) task run.stack) to [])) (sym (kept_at tasks to next found))
    ∙ ap (switched_machine (with_task machine run task tasks) to) (sym (waiting_at tasks to (Some (Some next)) found))

pub switched_none : (machine : Machine) (tasks : List (Option Task)) (to : ℕ) → unwrap_or (slice_get tasks to) None ≡ None
    → switched_machine machine to (slice_get (map waiting tasks) to) ≡ machine
switched_none machine tasks to none = ap (switched_machine machine to) (slice_get-map waiting tasks to) ∙ at_none (slice_get tasks to) none
  where
    at_none : (found : Option (Option Task)) → unwrap_or found None ≡ None → switched_machine machine to (option_map waiting found) ≡ machine
    at_none None e = refl
    at_none (Some None) e = refl
    at_none (Some (Some next)) e = cc

pub handed_some : (machine : Machine) (run next : Task) (task : ℕ) (tasks after : List (Option Task)) → after ≡ set tasks 0 None → slice_get tasks 0 ≡ Some (Some next)
    → goes_on (gone_on nothing (with_task machine next 0 after)) ≡ handed_machine (with_task machine run task tasks) (slice_get (map waiting tasks) 0)
handed_some machine run next task tasks after after_is found =
    let whole : List ℕ → List (List Frame) → List (List ℕ) → Effect Machine = λ stack frames stacks. goes_on (gone_on nothing (record machine {
      state = record machine.state { running = frame_of next.frame; below = below_of next; task = 0; tasks = frames };
      stack = stack;
      stacks = stacks;
    })) in
    ap (λ (ts : List (Option Task)). goes_on (gone_on nothing (with_task machine next 0 ts))) after_is
    ∙ ap (λ (frames : List (List Frame)). whole next.stack frames (map kept (set tasks 0 None))) (map-set waiting tasks 0 None)
    ∙ ap (λ (stacks : List (List ℕ)). whole next.stack (set (map waiting tasks) 0 []) stacks) (map-set kept tasks 0 None)
    ∙ ap (λ (stack : List ℕ). whole stack (set (map waiting tasks) 0 []) (set (map kept tasks) 0 [])) (sym (kept_at tasks 0 next found))
    ∙ ap (handed_machine (with_task machine run task tasks)) (sym (waiting_at tasks 0 (Some (Some next)) found))

pub handed_none : (machine : Machine) (tasks : List (Option Task)) → unwrap_or (slice_get tasks 0) None ≡ None
    → ends (Trap Unreachable) machine ≡ handed_machine machine (slice_get (map waiting tasks) 0)
handed_none machine tasks none = at_none (slice_get tasks 0) none ∙ ap (handed_machine machine) (sym (slice_get-map waiting tasks 0))
  where
    at_none : (found : Option (Option Task)) → unwrap_or found None ≡ None → ends (Trap Unreachable) machine ≡ handed_machine machine (option_map waiting found)
    at_none None e = refl
    at_none (Some None) e = refl
    at_none (Some (Some next)) e = cc

-- the walk leaves frames as they are
pub same_frames : (machine : Machine) (run after : Task) (task : ℕ) (tasks others : List (Option Task)) → after ≡ record run { stack = after.stack } → map waiting others ≡ map waiting tasks
    → without_words (with_task machine run task tasks) ≡ without_words (with_task machine after task others)
same_frames machine run after task tasks others run_is others_are =
    ap (λ (ts : List (List Frame)). without_words (record (with_task machine run task tasks) { state = record (with_task machine run task tasks).state { tasks = ts } })) (sym others_are)
    ∙ ap (λ (r : Task). without_words (with_task machine r task others)) (sym run_is)

pub moved_seen : (machine : Machine) (run after : Task) (task : ℕ) (tasks others : List (Option Task)) (heap now : HeapView) → after ≡ record run { stack = after.stack } → map waiting others ≡ map waiting tasks
    → now ≡ heap
    → record (with_task machine run task tasks) { stack = after.stack; stacks = map kept others; heap = heap } ≡ record (with_task machine after task others) { heap = now }
moved_seen machine run after task tasks others heap now run_is others_are heap_is =
    ap (λ (ts : List (List Frame)). record (with_task machine run task tasks) { state = record (with_task machine run task tasks).state { tasks = ts }; stack = after.stack; stacks = map kept others; heap = heap }) (sym others_are)
    ∙ ap (λ (r : Task). record (with_task machine r task others) { stack = after.stack; heap = heap }) (sym run_is)
    ∙ ap (λ (h : HeapView). record (with_task machine after task others) { heap = h }) (sym heap_is)

pub same_count : (tasks others : List (Option Task)) → map waiting others ≡ map waiting tasks → length others ≡ length tasks
same_count tasks others e = omega (arith, ap length e, length-map others waiting, length-map tasks waiting)

-- tasks that are the same but for the words of their stacks have the same frames
unwalked_waits : (tasks : List (Option Task)) → map waiting (map unwalked tasks) ≡ map waiting tasks
unwalked_waits [] = refl
unwalked_waits (None ∷ tasks) = let none : List Frame = [] in ap (λ (rest : List (List Frame)). none ∷ rest) (unwalked_waits tasks)
unwalked_waits (Some task ∷ tasks) = ap (λ (rest : List (List Frame)). frames_of task ∷ rest) (unwalked_waits tasks)

pub same_waits : (tasks others : List (Option Task)) → map unwalked others ≡ map unwalked tasks → map waiting others ≡ map waiting tasks
same_waits tasks others same = sym (unwalked_waits others) ∙ ap (map waiting) same ∙ unwalked_waits tasks

next_unwalked : (to : ℕ) (frame : Standing) (tasks : List (Option Task)) → next_frame (Some to) frame (map unwalked tasks) ≡ next_frame (Some to) frame tasks
next_unwalked to frame tasks = ap (λ (found : Option (Option Task)). frame_or (unwrap_or found None) frame) (slice_get-map unwalked tasks to) ∙ by (slice_get tasks to)
  where
    by : (found : Option (Option Task)) → frame_or (unwrap_or (option_map unwalked found) None) frame ≡ frame_or (unwrap_or found None) frame
    by None = refl
    by (Some None) = refl
    by (Some (Some task)) = refl

pub same_next : (to : Option ℕ) (frame : Standing) (tasks others : List (Option Task)) → map unwalked others ≡ map unwalked tasks
    → next_frame to frame others ≡ next_frame to frame tasks
same_next None frame tasks others same = refl
same_next (Some to) frame tasks others same =
    sym (next_unwalked to frame others) ∙ ap (next_frame (Some to) frame) same ∙ next_unwalked to frame tasks

-- ---- the walk over all tasks

abbrev pub walk_of : Machinery → List Moved → List (Option Task) → Result (List (List ℕ)) ℕ
walk_of machinery moves tasks = walked_tasks machinery moves (map waiting tasks) (map kept tasks)

joined_ok : (one : Result (List ℕ) ℕ) (more : Result (List (List ℕ)) ℕ) (first : List ℕ) (rest : List (List ℕ)) → joined one more ≡ Ok (first ∷ rest)
    → (one ≡ Ok first) × (more ≡ Ok rest)
joined_ok (Ok stack) (Ok stacks) first rest e = ((let same : stack ≡ first = cc in ap Ok same), (let same : stacks ≡ rest = cc in ap Ok same))
joined_ok (Ok stack) (Err lost) first rest e = cc
joined_ok (Err lost) more first rest e = cc

joined_both : (one : Result (List ℕ) ℕ) (more : Result (List (List ℕ)) ℕ) (first : List ℕ) (rest : List (List ℕ)) → one ≡ Ok first → more ≡ Ok rest
    → joined one more ≡ Ok (first ∷ rest)
joined_both one more first rest e f = ap (λ o. joined o more) e ∙ ap (joined (Ok first)) f

-- where the running task is put into its place among the others
pub hole_walks : (machinery : Machinery) (moves : List Moved) (tasks after : List (Option Task)) (place : ℕ) (frames : List Frame) (stack new : List ℕ)
    → slice_get tasks place ≡ Some None → walk_of machinery moves tasks ≡ Ok (map kept after) → length after ≡ length tasks → walked_task machinery moves frames stack ≡ Ok new
    → walked_tasks machinery moves (set (map waiting tasks) place frames) (set (map kept tasks) place stack) ≡ Ok (set (map kept after) place new)
hole_walks machinery moves [] after place frames stack new there others same one = cc
hole_walks machinery moves (first ∷ tasks) [] place frames stack new there others same one = absurd (omega arith)
hole_walks machinery moves (first ∷ tasks) (next ∷ after) zero frames stack new there others same one =
    let both = joined_ok (walked_task machinery moves (waiting first) (kept first)) (walk_of machinery moves tasks) (kept next) (map kept after) others in
    joined_both (walked_task machinery moves frames stack) (walk_of machinery moves tasks) new (map kept after) one both.1
hole_walks machinery moves (first ∷ tasks) (next ∷ after) (suc place) frames stack new there others same one =
    let both = joined_ok (walked_task machinery moves (waiting first) (kept first)) (walk_of machinery moves tasks) (kept next) (map kept after) others in
    let fewer : length after ≡ length tasks = omega arith in
    joined_both (walked_task machinery moves (waiting first) (kept first)) (walked_tasks machinery moves (set (map waiting tasks) place frames) (set (map kept tasks) place stack))
    (kept next) (set (map kept after) place new) both.0 (hole_walks machinery moves tasks after place frames stack new there both.1 fewer one)

-- and its place is empty again
pub hole_again : (machinery : Machinery) (moves : List Moved) (tasks after : List (Option Task)) (place : ℕ)
    → slice_get tasks place ≡ Some None → walk_of machinery moves tasks ≡ Ok (map kept after) → length after ≡ length tasks
    → set (map kept after) place [] ≡ map kept after
hole_again machinery moves [] after place there others same = cc
hole_again machinery moves (first ∷ tasks) [] place there others same = absurd (omega arith)
hole_again machinery moves (first ∷ tasks) (next ∷ after) zero there others same =
    let none : first ≡ None = cc in
    let both = joined_ok (walked_task machinery moves (waiting first) (kept first)) (walk_of machinery moves tasks) (kept next) (map kept after) others in
    let nothing : Ok [] ≡ Ok (kept next) = sym (ap (λ (o : Option Task). walked_task machinery moves (waiting o) (kept o)) none) ∙ both.0 in
    let is : [] ≡ kept next = cc in ap (λ (words : List ℕ). words ∷ map kept after) is
hole_again machinery moves (first ∷ tasks) (next ∷ after) (suc place) there others same =
    let both = joined_ok (walked_task machinery moves (waiting first) (kept first)) (walk_of machinery moves tasks) (kept next) (map kept after) others in
    let fewer : length after ≡ length tasks = omega arith in
    ap (λ rest. kept next ∷ rest) (hole_again machinery moves tasks after place there both.1 fewer)

-- a lost frame of any task
joined_lost : (one : Result (List ℕ) ℕ) (more : Result (List (List ℕ)) ℕ) (address : ℕ) → one ≡ Err address → joined one more ≡ Err address
joined_lost one more address e = ap (λ o. joined o more) e

joined_later : (one : Result (List ℕ) ℕ) (more : Result (List (List ℕ)) ℕ) → IsLost more → IsLost (joined one more)
joined_later (Ok stack) more lost = record { address = lost.address; is = ap (joined (Ok stack)) lost.is }
joined_later (Err address) more lost = record { address = address; is = refl }

pub lost_here : (machinery : Machinery) (moves : List Moved) (tasks : List (Option Task)) (place : ℕ) (frames : List Frame) (stack : List ℕ) (address : ℕ)
    → slice_get tasks place ≡ Some None → walked_task machinery moves frames stack ≡ Err address
    → IsLost (walked_tasks machinery moves (set (map waiting tasks) place frames) (set (map kept tasks) place stack))
lost_here machinery moves [] place frames stack address there one = cc
lost_here machinery moves (first ∷ tasks) zero frames stack address there one =
    record { address = address; is = joined_lost (walked_task machinery moves frames stack) (walk_of machinery moves tasks) address one }
lost_here machinery moves (first ∷ tasks) (suc place) frames stack address there one =
    joined_later (walked_task machinery moves (waiting first) (kept first)) (walked_tasks machinery moves (set (map waiting tasks) place frames) (set (map kept tasks) place stack))
    (lost_here machinery moves tasks place frames stack address there one)

-- one of the two is lost
joined_lost_of : (one : Result (List ℕ) ℕ) (more : Result (List (List ℕ)) ℕ) (other : Result (List (List ℕ)) ℕ) → IsLost (joined one more) → (IsLost more → IsLost other) → IsLost (joined one other)
joined_lost_of (Ok stack) (Ok stacks) other lost later = absurd (let no : Ok (stack ∷ stacks) ≡ Err lost.address = lost.is in cc)
joined_lost_of (Ok stack) (Err address) other lost later = joined_later (Ok stack) other (later (record { address = address; is = refl }))
joined_lost_of (Err address) more other lost later = record { address = address; is = refl }

lost_behind : (one : Result (List ℕ) ℕ) (more : Result (List (List ℕ)) ℕ) (words : List ℕ) → one ≡ Ok words → IsLost (joined one more) → IsLost more
lost_behind one (Err address) words e lost = record { address = address; is = refl }
lost_behind one (Ok stacks) words e lost =
    absurd (let no : Ok (words ∷ stacks) ≡ Err lost.address = sym (ap (λ o. joined o (Ok stacks)) e) ∙ lost.is in cc)

pub lost_there : (machinery : Machinery) (moves : List Moved) (tasks : List (Option Task)) (place : ℕ) (frames : List Frame) (stack : List ℕ)
    → slice_get tasks place ≡ Some None → IsLost (walk_of machinery moves tasks)
    → IsLost (walked_tasks machinery moves (set (map waiting tasks) place frames) (set (map kept tasks) place stack))
lost_there machinery moves [] place frames stack there lost = cc
lost_there machinery moves (first ∷ tasks) zero frames stack there lost =
    let none : first ≡ None = cc in
    let nothing : walked_task machinery moves (waiting first) (kept first) ≡ Ok [] = ap (λ (o : Option Task). walked_task machinery moves (waiting o) (kept o)) none in
    joined_later (walked_task machinery moves frames stack) (walk_of machinery moves tasks)
    (lost_behind (walked_task machinery moves (waiting first) (kept first)) (walk_of machinery moves tasks) [] nothing lost)
lost_there machinery moves (first ∷ tasks) (suc place) frames stack there lost =
    joined_lost_of (walked_task machinery moves (waiting first) (kept first)) (walk_of machinery moves tasks)
    (walked_tasks machinery moves (set (map waiting tasks) place frames) (set (map kept tasks) place stack)) lost
    (λ later. lost_there machinery moves tasks place frames stack there later)

-- ---- one stack after another

drop_next : {X : Type 0} (xs : List X) (i : ℕ) → drop (suc i) xs ≡ drop 1 (drop i xs)
drop_next [] zero = refl
drop_next [] (suc i) = refl
drop_next (x ∷ xs) zero = refl
drop_next (x ∷ xs) (suc i) = drop_next xs i

drop_set : {X : Type 0} (xs : List X) (i : ℕ) (x : X) → drop (suc i) (set xs i x) ≡ drop (suc i) xs
drop_set [] i x = refl
drop_set (y ∷ xs) zero x = refl
drop_set (y ∷ xs) (suc i) x = drop_set xs i x

take_set : {X : Type 0} (xs : List X) (i : ℕ) (x : X) → i < length xs → take (suc i) (set xs i x) ≡ take i xs ++ x ∷ []
take_set [] i x below = absurd (omega arith)
take_set (y ∷ xs) zero x below = refl
take_set (y ∷ xs) (suc i) x below = ap (λ rest. y ∷ rest) (take_set xs i x (omega arith))

pub record WalkedTo (machinery : Machinery) (moves : List Moved) (initial tasks : List (Option Task)) (place : ℕ) : Type 0 where
  pub frames : map unwalked tasks ≡ map unwalked initial
  pub rest : drop place tasks ≡ drop place initial
  pub walks : walk_of machinery moves initial ≡ before_walk (take place (map kept tasks)) (walk_of machinery moves (drop place initial))

before_joined : (done : List (List ℕ)) (words : List ℕ) (walk : Result (List (List ℕ)) ℕ) → before_walk done (joined (Ok words) walk) ≡ before_walk (done ++ words ∷ []) walk
before_joined done words (Ok rest) = ap Ok (sym (append_assoc done (words ∷ []) rest))
before_joined done words (Err lost) = refl

same_again : (tasks : List (Option Task)) (place : ℕ) (one : Option Task) → place < length tasks → one ≡ get_or tasks place one → set (map unwalked tasks) place (unwalked one) ≡ map unwalked tasks
same_again [] place one below read = refl
same_again (x ∷ tasks) zero one below read = ap (λ (o : Option Task). unwalked o ∷ map unwalked tasks) read
same_again (x ∷ tasks) (suc place) one below read = ap (λ rest. unwalked x ∷ rest) (same_again tasks place one (omega arith) read)

module _ (machinery : Machinery) (moves : List Moved) (initial tasks : List (Option Task)) (place : ℕ) (one : Option Task) (below : place < length tasks) (read : one ≡ get_or tasks place one)
    (so_far : WalkedTo machinery moves initial tasks place) where
  same_rest : drop (suc place) tasks ≡ drop (suc place) initial
  same_rest = drop_next tasks place ∙ ap (drop 1) so_far.rest ∙ sym (drop_next initial place)

  here : drop place initial ≡ one ∷ drop (suc place) initial
  here = sym so_far.rest ∙ rest_at tasks place one below read ∙ ap (λ (n : ℕ). one ∷ drop n tasks) (let e : place + 1 ≡ suc place = omega arith in e) ∙ ap (λ rest. one ∷ rest) same_rest

  walks_here : walk_of machinery moves initial ≡ before_walk (take place (map kept tasks)) (joined (walked_task machinery moves (waiting one) (kept one)) (walk_of machinery moves (drop (suc place) initial)))
  walks_here = so_far.walks ∙ ap (λ (ts : List (Option Task)). before_walk (take place (map kept tasks)) (walk_of machinery moves ts)) here

  pub walks_more : (next : Option Task) → unwalked next ≡ unwalked one → walked_task machinery moves (waiting one) (kept one) ≡ Ok (kept next)
      → WalkedTo machinery moves initial (set tasks place next) (place + 1)
  walks_more next same walked =
      let more : place + 1 ≡ suc place = omega arith in
      let few : place < length (map kept tasks) = omega (arith, length-map tasks kept) in
      rw more (record {
        frames = map-set unwalked tasks place next ∙ ap (set (map unwalked tasks) place) same ∙ same_again tasks place one below read ∙ so_far.frames;
        rest = drop_set tasks place next ∙ same_rest;
        walks = walks_here
            ∙ ap (λ (w : Result (List ℕ) ℕ). before_walk (take place (map kept tasks)) (joined w (walk_of machinery moves (drop (suc place) initial)))) walked
            ∙ before_joined (take place (map kept tasks)) (kept next) (walk_of machinery moves (drop (suc place) initial))
            ∙ ap (λ (done : List (List ℕ)). before_walk done (walk_of machinery moves (drop (suc place) initial)))
            (sym (ap (take (suc place)) (map-set kept tasks place next) ∙ take_set (map kept tasks) place (kept next) few));
      })

  pub kept_more : (next : Option Task) → unwalked next ≡ unwalked one → map unwalked (set tasks place next) ≡ map unwalked initial
  kept_more next same = map-set unwalked tasks place next ∙ ap (set (map unwalked tasks) place) same ∙ same_again tasks place one below read ∙ so_far.frames

  pub walks_lost : (address : ℕ) → walked_task machinery moves (waiting one) (kept one) ≡ Err address → IsLost (walk_of machinery moves initial)
  walks_lost address lost = record {
    address = address;
    is = walks_here ∙ ap (λ (w : Result (List ℕ) ℕ). before_walk (take place (map kept tasks)) (joined w (walk_of machinery moves (drop (suc place) initial)))) lost;
  }
