-- What holds of each frame of each task, over switches.
use Rattle.std.proofs.Common.{◌≡◌, ℕ, zero, suc, List, [], ◌∷◌, ◌++◌, Some, subst}
use Rattle.std.specs.Prelude.{slice_get, slice_set}
use Rattle.object_meaning.specs.States.{Frame}

abbrev pub Each : (Frame → Type 0) → List Frame → Type 0
Each P [] = Unit {0}
Each P (frame ∷ frames) = P frame × Each P frames

abbrev pub EachTask : (Frame → Type 0) → List (List Frame) → Type 0
EachTask P [] = Unit {0}
EachTask P (task ∷ tasks) = Each P task × EachTask P tasks

pub each_set : (P : Frame → Type 0) (tasks : List (List Frame)) (task : ℕ) (now : List Frame) → EachTask P tasks → Each P now → EachTask P (slice_set tasks task now)
each_set P [] task now all here = all
each_set P (first ∷ tasks) zero now all here = (here, all.1)
each_set P (first ∷ tasks) (suc task) now all here = (all.0, each_set P tasks task now all.1 here)

pub each_get : (P : Frame → Type 0) (tasks : List (List Frame)) (task : ℕ) (found : List Frame) → EachTask P tasks → slice_get tasks task ≡ Some found → Each P found
each_get P [] task found all is = cc
each_get P (first ∷ tasks) zero found all is = let same : first ≡ found = cc in subst (Each P) same all.0
each_get P (first ∷ tasks) (suc task) found all is = each_get P tasks task found all.1 is

pub each_push : (P : Frame → Type 0) (tasks : List (List Frame)) → EachTask P tasks → EachTask P (tasks ++ [] ∷ [])
each_push P [] all = (tt, tt)
each_push P (first ∷ tasks) all = (all.0, each_push P tasks all.1)
