use Rattle.std.proofs.Common.{refl}
use Rattle.base_facts.proofs.AskedLemmas.{adds_asker}
use Rattle.base_facts.proofs.search.add_asker.Goals as goal

pub returns : goal.returns
returns c = adds_asker c.args.number c.args.asker c.args.asked.now _ c.index_mut.result.now c.push.new.self c.requires c.index_mut.ensures.value c.in_ok-push.ensures.items refl refl refl
