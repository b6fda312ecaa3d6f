use Rattle.std.proofs.Common.{refl}
use Rattle.base_facts.proofs.AskedLemmas.{has_failed}
use Rattle.base_facts.proofs.search.fail.Goals as goal

pub returns : goal.returns
returns c = has_failed c.args.func.now.content c.args.asker c.args.asked.now _ refl refl c.in_ok-push.ensures.items c.requires.inside c.requires.misses c.requires.asked
