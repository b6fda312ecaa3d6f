use Rattle.std.proofs.Common.{ℕ, Option, length, subst}
use Rattle.map_bytes.specs.Fits.{PlaceFits}
use Rattle.stackmap_write.specs.ModuleMaps.{deopt_place}
use Rattle.stackmap_write.proofs.PlaceFitLaws.{slot_alone}
use Rattle.stackmap_write.proofs.records.deopt_place.Goals as goal

pub slot_of-requires : goal.slot_of-requires
slot_of-requires c =
    let keys = c.args.constants.now.keys in
    slot_alone (length keys) c.in-Some.word (subst (λ (word : Option ℕ). PlaceFits (length keys) (deopt_place keys c.args.ty c.args.operand word)) c.in-Some.is c.requires.fits)
