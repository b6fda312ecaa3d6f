use Rattle.std.proofs.Common.{Some, set, ap, ◌∙◌}
use Rattle.run_tasks.specs.Tables.{waiting_in}
use Rattle.run_tasks.proofs.TableLemmas.{keyed_put, new_key, waiting_set}
use Rattle.run_tasks.proofs.tasks.put_entry.Goals as goal

pub returns-clause-left : goal.returns-clause-left
returns-clause-left g c =
    let keys = c.args.keys.now.items in let old = c.args.entries.now in let new = c.insert_reserved-key.new.self in let key = c.insert_reserved-key.result in
    waiting_set old new key (Some c.args.state) keys c.args.number (Some key) c.insert_reserved-key.ensures.updates
    (λ j ne e. new_key keys old key c.requires.keyed c.insert_reserved-key.ensures.was_vacant j e)
    ∙ ap (set (waiting_in keys old) c.args.number) c.insert_reserved-key.ensures.updates.changed

pub returns-clause-keyed : goal.returns-clause-keyed
returns-clause-keyed g c =
    let keys = c.args.keys.now.items in let old = c.args.entries.now in let new = c.insert_reserved-key.new.self in let key = c.insert_reserved-key.result in
    keyed_put keys old new c.args.number key c.args.state c.requires.keyed c.requires.there c.requires.empty c.insert_reserved-key.ensures.was_vacant c.insert_reserved-key.ensures.updates c.insert_reserved-key.ensures.len c.insert_reserved-key.ensures.capacity
