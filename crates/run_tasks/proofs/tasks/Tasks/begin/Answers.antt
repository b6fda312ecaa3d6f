use Rattle.std.proofs.Common.{◌≡◌, ◌<◌, ◌++◌, ◌∷◌, [], ℕ, List, Option, None, get_or, length, subst, sym, ap, ◌∙◌, arith}
use Rattle.std.proofs.lemmas.List.{length-map, length_push}
use Rattle.slab.specs.Slab.{slab_len}
use Rattle.run_tasks.specs.Tables.{AreKeyed, IsKept, Table, found}
use Rattle.run_tasks.proofs.TableLemmas.{begun_so, kept_begun, kept_grown, keyed_more}
use Rattle.run_tasks.proofs.tasks.Tasks.begin.Goals as goal

pub invariant_of-self : goal.invariant_of-self
invariant_of-self g c = kept_grown c.self.inside.running c.self.inside.keys.items c.self.inside.entries c.reserve.new.self c.self.invariant c.reserve.ensures.rest_kept c.reserve.ensures.capacity

pub invariant_of-self-in_err-push : goal.invariant_of-self-in_err-push
invariant_of-self-in_err-push g c =
    subst (λ (keys : List (Option ℕ)). IsKept c.self.inside.running keys c.reserve.new.self) (sym c.in_err-push.ensures.items)
    (kept_grown c.self.inside.running c.self.inside.keys.items c.self.inside.entries c.reserve.new.self c.self.invariant c.reserve.ensures.rest_kept c.reserve.ensures.capacity)

pub put_entry-requires-clause-keyed : goal.put_entry-requires-clause-keyed
put_entry-requires-clause-keyed g c =
    let count : slab_len c.reserve.new.self ≡ slab_len c.self.inside.entries = ap slab_len c.reserve.ensures.rest_kept in
    subst (λ (keys : List (Option ℕ)). AreKeyed keys c.reserve.new.self) (sym c.in_ok-push.ensures.items)
    (keyed_more c.self.inside.keys.items c.self.inside.entries c.reserve.new.self c.self.invariant.keyed c.reserve.ensures.rest_kept (omega (arith, c.in_ok-reserve.ensures.room, c.len-number.ensures)))

pub invariant_of-self-2 : goal.invariant_of-self-2
invariant_of-self-2 g c =
    let keys = c.self.inside.keys.items in
    let number : c.len-number.result ≡ length keys = omega (arith, c.len-number.ensures) in
    let few : length keys < 64 = omega (arith, c.requires, ap (λ (t : Table g.row.T.Denot). length t.waiting) c.self.view_is, length-map keys (found c.self.inside.entries)) in
    let pushed = ap length c.in_ok-push.ensures.items ∙ length_push keys None in
    subst (λ (task : ℕ). IsKept task c.put_entry.new.keys.items c.put_entry.new.entries) (sym number)
    (kept_begun c.self.inside.running keys c.put_entry.new.keys.items c.self.inside.entries c.put_entry.new.entries c.self.invariant few
    (λ place ne. c.put_entry.ensures.others place ne ∙ ap (λ (ks : List (Option ℕ)). get_or ks place None) c.in_ok-push.ensures.items) (c.put_entry.ensures.count ∙ pushed) c.put_entry.ensures.keyed)

pub returns-clause-begun : goal.returns-clause-begun
returns-clause-begun g c =
    let keys = c.self.inside.keys.items in
    let number : c.len-number.result ≡ length keys = omega (arith, c.len-number.ensures) in
    begun_so c.self.inside.running keys c.push.new.self.items c.self.inside.entries c.reserve.new.self c.len-number.result c.args.self.now _ c.args.running.now c.replace-waits.result
    c.self.view_is c.reserve.ensures.rest_kept c.self.invariant.there number c.in_ok-push.ensures.items c.put_entry.ensures.left c.replace-waits.ensures.value
