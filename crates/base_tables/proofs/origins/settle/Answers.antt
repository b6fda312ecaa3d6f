use Rattle.std.proofs.Common.{◌∙◌}
use Rattle.std.specs.Prelude.{map}
use Rattle.base_tables.specs.Seen.{seen_shape}
use Rattle.base_tables.proofs.OriginLemmas.{origin_in-step}
use Rattle.base_tables.proofs.origins.settle.Goals as goal

pub loop-preserved : goal.loop-preserved
loop-preserved c = record {
  found = c.keep.ensures;
  origin = c.loop.invariant.origin ∙ origin_in-step (map seen_shape c.args.shapes.now) c.loop.current c.in-Leads.before c.in-Leads.ensures;
}
