use Rattle.std.proofs.Common.{arith}
use Rattle.phi_webs.specs.Settled.{web_of}
use Rattle.phi_webs.proofs.LookLemmas.{room_from}
use Rattle.phi_webs.proofs.settled.own_names.Goals as goal

pub returns-clause-room : goal.returns-clause-room
returns-clause-room c =
    room_from (web_of c.args.phis.now) c.loop-name.ups.items c.greatest-last.result c.greatest-last.ensures (omega arith)
