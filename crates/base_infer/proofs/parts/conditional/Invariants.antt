use Rattle.std.proofs.Common.{◌≡◌, ◌∷◌, take}
use Rattle.std.specs.Prelude.{map}
use Rattle.base_tables.specs.Tables.{now_by, base_by}
use Rattle.base_infer.proofs.parts.conditional.Given as goal

abbrev pub invariant-loop-pointer : goal.invariant-loop-pointer
invariant-loop-pointer l = l.bases.items ≡ now_by l.tables l.fn.condition ∷ map (base_by l.tables) (take l.pointer-index l.pointers)
