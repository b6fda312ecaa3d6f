-- The lines at which a frame stands.
use Rattle.std.proofs.Common.{◌≡◌, true, false, [], ◌∷◌, refl}
use Rattle.std.specs.Prelude.{Option, Some, None, slice_get}
use Rattle.ir_ast.specs.Insts.{Instruction}
use Rattle.ir_ast.specs.Funcs.{Function}
use Rattle.object_meaning.specs.Lines.{poll, numbered, retreats}
use Rattle.object_meaning.proofs.ListLemmas.{drop_at, drop_end}
use Rattle.flat_code.specs.declared.spots.Due.TheVariants.{Front, Line as Next, Behind}
use Rattle.flat_code.specs.declared.spots.Spot.{Spot}
use Rattle.flat_code.specs.Spots.{insts_at, lines_at, passed_spot}

pub at_front : (defined : Option Function) (spot : Spot) → spot.due ≡ Front
    → lines_at defined spot ≡ poll ∷ lines_at defined (record spot { due = Next })
at_front defined spot e = rw e refl

pub at_line : (defined : Option Function) (spot : Spot) (inst : Instruction) → spot.due ≡ Next
    → slice_get (insts_at defined spot.block) spot.at ≡ Some inst → retreats spot.block inst ≡ false
    → lines_at defined spot ≡ numbered spot.next inst ∷ lines_at defined (passed_spot spot inst)
at_line defined spot inst due there none =
    let cut = drop_at (insts_at defined spot.block) spot.at inst there in rw (due, cut, none) refl

pub at_poll : (defined : Option Function) (spot : Spot) (inst : Instruction) → spot.due ≡ Next
    → slice_get (insts_at defined spot.block) spot.at ≡ Some inst → retreats spot.block inst ≡ true
    → lines_at defined spot ≡ poll ∷ lines_at defined (record spot { due = Behind })
at_poll defined spot inst due there polls =
    let cut = drop_at (insts_at defined spot.block) spot.at inst there in rw (due, cut, polls) refl

pub at_behind : (defined : Option Function) (spot : Spot) (inst : Instruction) → spot.due ≡ Behind
    → slice_get (insts_at defined spot.block) spot.at ≡ Some inst
    → lines_at defined spot ≡ numbered spot.next inst ∷ lines_at defined (passed_spot spot inst)
at_behind defined spot inst due there =
    let cut = drop_at (insts_at defined spot.block) spot.at inst there in rw (due, cut) refl
