use Rattle.std.proofs.lemmas.List.{length-map}
use Rattle.std.proofs.lemmas.Slice.Zip.{length-zip}
use Rattle.piece_writer.proofs.rows.PairsRow.count.Goals as goal

pub returns : goal.returns
returns g c = simp (length-map, length-zip) c.min.ensures
