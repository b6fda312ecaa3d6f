use Rattle.std.proofs.Common.{◌≡◌, ◌<◌, length, refl, slice_index_or, arith}
use Rattle.phi_webs.specs.declared.rows.PhiRow.{PhiRow}
use Rattle.phi_webs.specs.declared.rows.Replaced.{Replaced}
use Rattle.phi_webs.specs.Settled.{phi_of, web_of, HasOther}
use Rattle.phi_webs.proofs.LookLemmas.{can_go, web_contains, at_some, no_row}
use Rattle.phi_webs.proofs.search.Search.next_gone.Goals as goal

pub returns-in-Some-2-clause-some : goal.returns-in-Some-2-clause-some
returns-in-Some-2-clause-some c =
    let row : PhiRow = slice_index_or c.args.phis.now c.in-Some.place no_row in
    let below : c.in-Some.place < length c.args.phis.now = omega arith in
    can_go c.args.ups.now.items c.loop-look.ups.items (web_of c.args.phis.now) (phi_of row) c.in-Some-2.gone
    c.loop-look.invariant
    (at_some (λ (g : Replaced). HasOther c.loop-look.ups.items (phi_of row) g.value) c.in_ok-gone.field-0 c.in-Some-2.gone c.in-Some-2.is
    c.in_ok-gone.ensures.some)
    (web_contains c.args.phis.now c.in-Some.place no_row row below refl)
    (at_some (λ (g : Replaced). g.name ≡ row.name) c.in_ok-gone.field-0 c.in-Some-2.gone c.in-Some-2.is c.in_ok-gone.ensures.name)
