use Rattle.std.proofs.Common.{◌∙◌, refl}
use Rattle.flat_code.specs.Spots.{insts_at, first_at}
use Rattle.flat_code.proofs.PhiLemmas.{phi_copies}
use Rattle.flat_code.proofs.edges.edge.Goals as goal

pub returns : goal.returns
returns c =
    let copies = rw (c.first.ensures, c.phi_count.ensures.value, c.insts-insts.ensures.value) at c.in_ok-copies.ensures in
    record {
      block = refl;
      copies = copies ∙ phi_copies c.args.from c.args.label (first_at c.args.source.now.defined c.args.label) (insts_at c.args.source.now.defined c.args.label);
    }
