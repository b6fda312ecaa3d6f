use Rattle.std.proofs.Common.{◌∙◌, ◌-◌, sym, arith}
use Rattle.live_sets.proofs.FoundLemmas.{not_many_where}
use Rattle.live_sets.proofs.phis.add_join.Goals as goal

pub returns-then-not-is_join : goal.returns-then-not-is_join
returns-then-not-is_join c =
    not_many_where c.args.places.now.fronts c.args.joins.now.items c.args.place (c.args.place - c.len-count.result) c.args.value
    (sym c.is_join.ensures ∙ c.if-not-is_join.true)
    (omega (arith, c.len-count.ensures, c.if-place-count.false))
