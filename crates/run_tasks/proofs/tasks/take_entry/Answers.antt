use Rattle.std.proofs.Common.{◌≡◌, Some, None, get_or, sym, ap, ◌∙◌}
use Rattle.std.specs.Prelude.{Option}
use Rattle.std.proofs.Common.{List, ℕ}
use Rattle.std.proofs.lemmas.List.{map-set}
use Rattle.run_tasks.specs.Tables.{found}
use Rattle.run_tasks.proofs.TableLemmas.{keyed_taken, waiting_set}
use Rattle.run_tasks.proofs.tasks.take_entry.Goals as goal

pub returns-in-None-clause-left : goal.returns-in-None-clause-left
returns-in-None-clause-left g c = map-set (found c.args.entries.now) c.args.keys.now.items c.args.number None

pub returns-in-Some-clause-left : goal.returns-in-Some-clause-left
returns-in-Some-clause-left g c =
    let keys = c.args.keys.now.items in
    let at : get_or keys c.args.number None ≡ Some c.in-Some.key =
    sym (c.key_at-key.ensures ∙ ap (λ (ks : List (Option ℕ)). get_or ks c.args.number None) c.as_slice.ensures.value) ∙ c.in-Some.is in
    waiting_set c.args.entries.now c.try_remove.new.self c.in-Some.key None keys c.args.number None c.try_remove.ensures.updates
    (λ j ne e. c.requires.keyed.apart c.args.number j c.in-Some.key (λ z. ne (sym z)) at e)

pub returns-in-Some-clause-keyed : goal.returns-in-Some-clause-keyed
returns-in-Some-clause-keyed g c =
    let keys = c.args.keys.now.items in
    let at : get_or keys c.args.number None ≡ Some c.in-Some.key =
    sym (c.key_at-key.ensures ∙ ap (λ (ks : List (Option ℕ)). get_or ks c.args.number None) c.as_slice.ensures.value) ∙ c.in-Some.is in
    let one = c.requires.keyed.present c.args.number c.in-Some.key at in
    let there : c.try_remove.result ≡ Some one.value = c.try_remove.ensures.value ∙ one.is in
    keyed_taken keys c.args.entries.now c.try_remove.new.self c.args.number c.in-Some.key c.requires.keyed at c.try_remove.ensures.updates (rw there at c.try_remove.ensures.len) c.try_remove.ensures.capacity
