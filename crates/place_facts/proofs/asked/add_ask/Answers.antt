use Rattle.std.proofs.Common.{◌≡◌, length, arith}
use Rattle.place_facts.proofs.KeyLemmas.{adds_ask}
use Rattle.place_facts.proofs.asked.add_ask.Goals as goal

pub returns : goal.returns
returns c =
    let last : c.len.result ≡ length c.args.asked.now.asks.items = omega (arith, c.len.ensures, c.args.asked.now.asks.ok.0) in
    adds_ask c.args.question c.args.ask c.args.asked.now _ c.key_of.result c.len.result c.key_of.ensures last c.in_ok-insert.ensures.updates c.in_ok-push.ensures.items
