use Rattle.stackmap_write.proofs.FitLaws.{target_map_fits, written_is_map}
use Rattle.stackmap_write.proofs.maps.write.Goals as goal

pub write_fitting-requires-clause-fits : goal.write_fitting-requires-clause-fits
write_fitting-requires-clause-fits c = target_map_fits c.args.module.now.content c.requires.target

pub returns-clause-is_map : goal.returns-clause-is_map
returns-clause-is_map c = written_is_map c.args.module.now.content c.requires.target c.write_fitting.result c.write_fitting.ensures
