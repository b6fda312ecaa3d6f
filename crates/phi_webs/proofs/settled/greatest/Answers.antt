use Rattle.std.proofs.Common.{◌≡◌, ◌+◌, ◌<◌, List, length, take, refl, sym, subst, slice_index_or, arith}
use Rattle.std.specs.List.{Contains}
use Rattle.std.proofs.lemmas.List.{take_all}
use Rattle.phi_webs.specs.declared.rows.PhiRow.{PhiRow}
use Rattle.phi_webs.specs.Settled.{phi_of, web_of}
use Rattle.phi_webs.proofs.LookLemmas.{greater_more, web_more, no_row}
use Rattle.phi_webs.proofs.settled.greatest.Goals as goal

pub loop-phi-preserved : goal.loop-phi-preserved
loop-phi-preserved c =
    let row : PhiRow = slice_index_or c.args.phis.now c.loop-phi.phi-index no_row in
    let below : c.loop-phi.phi-index < length c.args.phis.now = omega arith in
    greater_more (web_of (take c.loop-phi.phi-index c.args.phis.now)) (web_of (take (c.loop-phi.phi-index + 1) c.args.phis.now)) (phi_of row)
    c.loop-phi.greatest c.larger-greatest.result c.loop-phi.invariant c.larger-greatest.ensures.first c.larger-greatest.ensures.second
    (web_more c.args.phis.now c.loop-phi.phi-index no_row row below refl)

pub returns : goal.returns
returns c phi within =
    let whole : take c.loop-phi.phi-index c.args.phis.now ≡ c.args.phis.now =
    take_all c.loop-phi.phi-index c.args.phis.now (omega arith) in
    c.loop-phi.invariant phi (subst (λ (rows : List PhiRow). Contains (web_of rows) phi) (sym whole) within)
