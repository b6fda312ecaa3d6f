use Rattle.std.proofs.Common.{◌≡◌, ◌+◌, ◌<◌, List, length, take, refl, sym, subst, slice_index_or, arith}
use Rattle.std.specs.List.{Contains}
use Rattle.std.proofs.lemmas.List.{take_all}
use Rattle.phi_webs.specs.declared.rows.PhiRow.{PhiRow}
use Rattle.phi_webs.specs.Settled.{phi_of, web_of, HasNoOther}
use Rattle.phi_webs.proofs.LookLemmas.{can_go, passes_more, web_more, web_contains, at_none, no_row}
use Rattle.phi_webs.proofs.looks.first_trivial.Goals as goal

pub returns-in-Some-clause-some : goal.returns-in-Some-clause-some
returns-in-Some-clause-some c =
    let row : PhiRow = slice_index_or c.args.phis.now c.loop-phi.phi-index no_row in
    let below : c.loop-phi.phi-index < length c.args.phis.now = omega arith in
    can_go c.args.ups.now.items c.loop-phi.ups.items (web_of c.args.phis.now) (phi_of row)
    (record { name = row.name; value = c.in-Some.value })
    c.loop-phi.invariant.keeps
    c.in-Some.ensures.some
    (web_contains c.args.phis.now c.loop-phi.phi-index no_row row below refl)
    refl

pub loop-phi-preserved : goal.loop-phi-preserved
loop-phi-preserved c =
    let row : PhiRow = slice_index_or c.args.phis.now c.loop-phi.phi-index no_row in
    let below : c.loop-phi.phi-index < length c.args.phis.now = omega arith in
    passes_more c.args.ups.now.items c.loop-phi.ups.items c.only_other.new.ups.items
    (web_of (take c.loop-phi.phi-index c.args.phis.now)) (web_of (take (c.loop-phi.phi-index + 1) c.args.phis.now)) (phi_of row)
    c.loop-phi.invariant
    (at_none (HasNoOther c.loop-phi.ups.items (phi_of row)) c.only_other.result c.in_default.is c.only_other.ensures.none)
    c.only_other.ensures.keeps
    (web_more c.args.phis.now c.loop-phi.phi-index no_row row below refl)

pub returns-clause-none : goal.returns-clause-none
returns-clause-none c phi within =
    let whole : take c.loop-phi.phi-index c.args.phis.now ≡ c.args.phis.now =
    take_all c.loop-phi.phi-index c.args.phis.now (omega arith) in
    c.loop-phi.invariant.each phi (subst (λ (rows : List PhiRow). Contains (web_of rows) phi) (sym whole) within)
