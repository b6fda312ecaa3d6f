use Rattle.std.proofs.Common.{refl}
use Rattle.ssa_rebuild.proofs.RowLemmas.{grows_both}
use Rattle.ssa_rebuild.proofs.entries.add_entries.Goals as goal

pub returns : goal.returns
returns c = grows_both c.args.rows.now.items c.add_joined.new.rows.items c.add_phis.new.rows.items _ _ _ c.in_ok-add_joined.ensures c.in_ok-add_phis.ensures (λ p. refl)
