use Rattle.std.proofs.Common.{ℕ, length, arith, subst}
use Rattle.std.specs.Prelude.{map}
use Rattle.derived_values.specs.Givens.{seen_giver}
use Rattle.derived_values.specs.Users.{AreSources}
use Rattle.derived_values.proofs.UserLemmas.{sources_start, sources_more}
use Rattle.derived_values.proofs.search.sources_of.Goals as goal

pub loop-value-init : goal.loop-value-init
loop-value-init g c =
    sources_start (g.G.Givers.givers c.args.givers.now) c.new-steps.result.items _ c.count-count.result c.new-steps.ensures.items c.in_ok-users.ensures c.count-count.ensures

pub loop-value-preserved : goal.loop-value-preserved
loop-value-preserved g c =
    sources_more (g.G.Givers.givers c.args.givers.now) c.loop-value.value c.loop-value.steps.items c.note_giver.new.steps.items _ _ c.loop-value.invariant
    (seen_giver c.giver.result) c.giver.ensures c.in_ok-note_giver.ensures

pub returns : goal.returns
returns g c =
    subst (λ (n : ℕ). AreSources (g.G.Givers.givers c.args.givers.now) n c.loop-value.steps.items (map (λ row. row.items) c.loop-value.users.items))
    (omega (arith, c.count-count.ensures)) c.loop-value.invariant
