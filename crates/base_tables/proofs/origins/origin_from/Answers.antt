use Rattle.std.proofs.Common.{◌∙◌, suc, length, arith}
use Rattle.std.specs.Prelude.{map}
use Rattle.std.proofs.lemmas.List.{length-map}
use Rattle.base_tables.specs.Kinds.{stepped_in}
use Rattle.base_tables.specs.Seen.{seen_shape}
use Rattle.base_tables.proofs.OriginLemmas.{origin_in-step, one_less}
use Rattle.base_tables.proofs.origins.origin_from.Goals as goal

pub loop-preserved : goal.loop-preserved
loop-preserved c =
    let kinds = map seen_shape c.args.shapes.now in
    record {
      end = c.loop.invariant.end;
      near = c.loop.invariant.near ∙ origin_in-step kinds c.loop.current c.in-Leads.before c.in-Leads.ensures;
      left = c.loop.invariant.left
          ∙ one_less (stepped_in kinds) (suc (length kinds)) c.loop.counter c.loop.current c.in-Leads.before
          (omega (arith, c.loop-test.true, length-map c.args.shapes.now seen_shape)) c.in-Leads.ensures;
    }
