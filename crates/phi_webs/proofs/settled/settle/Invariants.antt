use Rattle.phi_webs.specs.Settled.{web_of, IsUnderWay}
use Rattle.phi_webs.proofs.settled.settle.Given as goal

abbrev pub invariant-loop-step : goal.invariant-loop-step
invariant-loop-step l = IsUnderWay (web_of l.phis) l.ups.items l._step
