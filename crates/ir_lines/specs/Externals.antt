-- The externals, with what they answer and take.
use Rattle.std.specs.Prelude.{ℕ, List, [], ◌∷◌, ◌++◌, map, codes}
use Rattle.line_parts.specs.Types.{TypeWord}
use Rattle.line_parts.specs.Types.{Void, Int, Managed, Plain}

pub record External : Type 0 where
  pub name : List ℕ
  pub answer : TypeWord
  pub parameters : List TypeWord

abbrev pub external : List ℕ → TypeWord → List TypeWord → External
external name answer parameters = record { name = name; answer = answer; parameters = parameters }

abbrev pub gc_new : List ℕ → List ℕ
gc_new layout = codes "gc_new." ++ layout

abbrev pub own_helpers : List External
own_helpers =
    external (codes "gc.safepoint_poll") Void []
    ∷ external (codes "gc_check") Void (Managed ∷ Managed ∷ Int 64 ∷ [])
    ∷ external (codes "gc_same") (Int 1) (Managed ∷ Managed ∷ Managed ∷ Managed ∷ [])
    ∷ []

abbrev pub own_basics : List External
own_basics =
    external (codes "print_i64") Void (Int 64 ∷ [])
    ∷ external (codes "read_i64") (Int 64) []
    ∷ external (codes "task_start") Void (Plain ∷ Managed ∷ [])
    ∷ []

-- those whose names are whole
abbrev pub own_externals : List External
own_externals = own_basics ++ own_helpers

-- each layout has its own `gc_new`
abbrev pub makers_of : List (List ℕ) → List External
makers_of layouts = map (λ layout. external (gc_new layout) Managed (Int 64 ∷ [])) layouts

abbrev pub externals_of : List (List ℕ) → List External
externals_of layouts = makers_of layouts ++ own_externals

abbrev pub basics : List (List ℕ)
basics = codes "print_i64" ∷ codes "read_i64" ∷ codes "task_start" ∷ []

-- what only rewritten modules declare
abbrev pub helpers : List (List ℕ)
helpers = codes "gc.safepoint_poll" ∷ codes "gc_check" ∷ codes "gc_same" ∷ []
