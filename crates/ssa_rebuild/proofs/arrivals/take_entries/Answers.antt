use Rattle.std.proofs.Common.{refl}
use Rattle.ssa_rebuild.proofs.TakeLemmas.{takes_both}
use Rattle.ssa_rebuild.proofs.arrivals.take_entries.Goals as goal

pub returns : goal.returns
returns c = takes_both c.args.rows.now c.args.arrivals.now c.take_joined.new.arrivals c.take_phis.new.arrivals _ _ _ _ _ _ c.in_ok-take_joined.ensures c.in_ok-take_phis.ensures (λ p. refl) (λ here. refl)
