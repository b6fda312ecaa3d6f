-- The tasks by number, on words: what is put and what stands at a place.
use Rattle.std.proofs.Common.{◌≡◌, ℕ, zero, suc, List, [], ◌∷◌, get_or, set, refl, sym, ap, ◌∙◌, Some, None}
use Rattle.std.specs.Prelude.{slice_get}
use Rattle.std.specs.List.{AllZip}
use Rattle.std.proofs.lemmas.Option.{none-some, same_Some}
use Rattle.object_meaning.specs.States.{Frame}
use Rattle.machine_meaning.specs.Machines.{Machinery}
use Rattle.moves_unseen.specs.Frames.{FrameWords}
use Rattle.moves_unseen.specs.States.{stack_of, stacks_of, worded_frames, worded_tasks}

-- ---- two lists place by place

pub zip_set : {A B : Type 0} (R : A → B → Type 0) (xs : List A) (ys : List B) (place : ℕ) (x : A) (y : B) → AllZip R xs ys → R x y → AllZip R (set xs place x) (set ys place y)
zip_set R [] [] place x y all one = tt
zip_set R [] (other ∷ ys) place x y all one = absurd all
zip_set R (first ∷ xs) [] place x y all one = absurd all
zip_set R (first ∷ xs) (other ∷ ys) zero x y all one = (one, all.1)
zip_set R (first ∷ xs) (other ∷ ys) (suc place) x y all one = (all.0, zip_set R xs ys place x y all.1 one)

pub set_back : {A : Type 0} (xs : List A) (place : ℕ) (x y : A) → slice_get xs place ≡ Some x → set (set xs place y) place x ≡ xs
set_back [] place x y at = absurd (none-some x at)
set_back (first ∷ xs) zero x y at = ap (λ one. one ∷ xs) (sym (same_Some first x at))
set_back (first ∷ xs) (suc place) x y at = ap (λ more. first ∷ more) (set_back xs place x y at)

pub get_other : {A : Type 0} (xs : List A) (place other : ℕ) (y : A) → (place ≡ other → ⊥) → slice_get (set xs place y) other ≡ slice_get xs other
get_other [] place other y apart = refl
get_other (first ∷ xs) zero zero y apart = absurd (apart refl)
get_other (first ∷ xs) zero (suc other) y apart = refl
get_other (first ∷ xs) (suc place) zero y apart = refl
get_other (first ∷ xs) (suc place) (suc other) y apart = get_other xs place other y (λ same. apart (ap suc same))

-- ---- tasks on words

pub tasks_set : (tasks : List (List Frame)) (helds : List (List FrameWords)) (place : ℕ) (frames : List Frame) (held : List FrameWords)
    → set (worded_tasks tasks helds) place (worded_frames frames held) ≡ worded_tasks (set tasks place frames) (set helds place held)
tasks_set [] helds place frames held = refl
tasks_set (first ∷ tasks) [] zero frames held = refl
tasks_set (first ∷ tasks) [] (suc place) frames held = refl
tasks_set (first ∷ tasks) (one ∷ helds) zero frames held = refl
tasks_set (first ∷ tasks) (one ∷ helds) (suc place) frames held = ap (λ (more : List (List Frame)). worded_frames first one ∷ more) (tasks_set tasks helds place frames held)

pub stacks_set : (machinery : Machinery) (tasks : List (List Frame)) (helds : List (List FrameWords)) (place : ℕ) (frames : List Frame) (held : List FrameWords)
    → set (stacks_of machinery tasks helds) place (stack_of machinery frames held) ≡ stacks_of machinery (set tasks place frames) (set helds place held)
stacks_set machinery [] helds place frames held = refl
stacks_set machinery (first ∷ tasks) [] zero frames held = refl
stacks_set machinery (first ∷ tasks) [] (suc place) frames held = refl
stacks_set machinery (first ∷ tasks) (one ∷ helds) zero frames held = refl
stacks_set machinery (first ∷ tasks) (one ∷ helds) (suc place) frames held =
    ap (λ (more : List (List ℕ)). stack_of machinery first one ∷ more) (stacks_set machinery tasks helds place frames held)

pub worded_at : (tasks : List (List Frame)) (helds : List (List FrameWords)) (place : ℕ) (frames : List Frame) (held : List FrameWords)
    → slice_get tasks place ≡ Some frames → slice_get helds place ≡ Some held → slice_get (worded_tasks tasks helds) place ≡ Some (worded_frames frames held)
worded_at [] helds place frames held at there = absurd (none-some frames at)
worded_at (first ∷ tasks) [] place frames held at there = absurd (none-some held there)
worded_at (first ∷ tasks) (one ∷ helds) zero frames held at there =
    ap (λ (f : List Frame). Some (worded_frames f one)) (same_Some first frames at) ∙ ap (λ (h : List FrameWords). Some (worded_frames frames h)) (same_Some one held there)
worded_at (first ∷ tasks) (one ∷ helds) (suc place) frames held at there = worded_at tasks helds place frames held at there

pub worded_none : (tasks : List (List Frame)) (helds : List (List FrameWords)) (place : ℕ) → slice_get tasks place ≡ None → slice_get (worded_tasks tasks helds) place ≡ None
worded_none [] helds place none = refl
worded_none (first ∷ tasks) [] place none = refl
worded_none (first ∷ tasks) (one ∷ helds) zero none = absurd (none-some first (sym none))
worded_none (first ∷ tasks) (one ∷ helds) (suc place) none = worded_none tasks helds place none

pub stack_at : (machinery : Machinery) (tasks : List (List Frame)) (helds : List (List FrameWords)) (place : ℕ) (frames : List Frame) (held : List FrameWords)
    → slice_get tasks place ≡ Some frames → slice_get helds place ≡ Some held → get_or (stacks_of machinery tasks helds) place [] ≡ stack_of machinery frames held
stack_at machinery [] helds place frames held at there = absurd (none-some frames at)
stack_at machinery (first ∷ tasks) [] place frames held at there = absurd (none-some held there)
stack_at machinery (first ∷ tasks) (one ∷ helds) zero frames held at there =
    ap (λ (f : List Frame). stack_of machinery f one) (same_Some first frames at) ∙ ap (stack_of machinery frames) (same_Some one held there)
stack_at machinery (first ∷ tasks) (one ∷ helds) (suc place) frames held at there = stack_at machinery tasks helds place frames held at there
