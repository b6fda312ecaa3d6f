-- A table of flags, one for each of the externals that a module within the limits may call.
use Rattle.std.specs.Prelude.{◌≡◌, ℕ, Bool, false, ◌||◌, ◌-◌, ◌<◌, nat_lt, List, length, if◌then◌else◌, slice_index_or}
use Rattle.std.proofs.Common.{zero, suc}
use Rattle.ir_ast.specs.Funcs.{Function}
use Rattle.print_tables.specs.declared.externals.External.{External}
use Rattle.print_tables.specs.declared.externals.External.TheVariants.{New, Print, Read, TaskStart, Poll, Check, Same, StatepointFamily, RelocateFamily, ResultOf, ResultPointer}
use Rattle.print_tables.specs.Externals.{calls}

-- the externals that don't depend on a layout or a width
abbrev pub plain_external : ℕ → External
plain_external zero = Print
plain_external (suc zero) = Read
plain_external (suc (suc zero)) = TaskStart
plain_external (suc (suc (suc zero))) = Poll
plain_external (suc (suc (suc (suc zero)))) = Check
plain_external (suc (suc (suc (suc (suc zero))))) = Same
plain_external (suc (suc (suc (suc (suc (suc zero)))))) = StatepointFamily
plain_external (suc (suc (suc (suc (suc (suc (suc zero))))))) = RelocateFamily
plain_external _ = ResultPointer

-- the external with this place in the table: 9 plain ones, the results of the 64 widths, and then the
-- layouts in their order
unfoldable pub external_at : ℕ → External
external_at place =
    if nat_lt place 9 then plain_external place else (if nat_lt place 73 then ResultOf (place - 8) else New (place - 73))

-- each flag is set where these functions call the external with its place
abbrev pub AreCalled : List Function → List Bool → Type 0
AreCalled funcs called = (place : ℕ) → place < length called → slice_index_or called place false ≡ calls funcs (external_at place)

-- each flag is set where the test of its place holds
abbrev pub Marks : (ℕ → Bool) → List Bool → List Bool → Type 0
Marks test old new =
    (length new ≡ length old)
    × ((place : ℕ) → place < length old → slice_index_or new place false ≡ (slice_index_or old place false || test place))
