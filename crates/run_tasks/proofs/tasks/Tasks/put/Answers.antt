use Rattle.run_tasks.proofs.TableLemmas.{empty_key}
use Rattle.run_tasks.proofs.tasks.Tasks.put.Goals as goal

pub put_entry-requires-clause-empty : goal.put_entry-requires-clause-empty
put_entry-requires-clause-empty g c =
    empty_key c.self.inside.running c.self.inside.keys.items c.self.inside.entries c.args.number c.args.self.now c.self.view_is c.self.invariant.keyed c.requires.empty
