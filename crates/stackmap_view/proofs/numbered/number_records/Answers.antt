use Rattle.std.proofs.Common.{◌≡◌, ◌++◌, length, sym, ap, ◌∙◌, rules}
use Rattle.std.specs.Prelude.{map}
use Rattle.std.specs.List.{enumerate_from}
use Rattle.std.proofs.lemmas.List.{append-nil}
use Rattle.map_bytes.specs.Entries.{entries}
use Rattle.stackmap_view.specs.declared.numbered.Numbered.{Numbered}
use Rattle.stackmap_view.specs.Indexes.{numbered}
use Rattle.stackmap_view.specs.Maps.{stack_map}
use Rattle.stackmap_view.specs.Walks.{records_left}
use Rattle.stackmap_view.proofs.IndexLaws.{number-more}
use Rattle.stackmap_view.proofs.numbered.number_records.Goals as goal

pub loop-lent-init : goal.loop-lent-init
loop-lent-init c =
    let start = c.into_iter-lent-iterator.result in
    ap (λ items. map numbered items ++ enumerate_from (length items) (records_left start)) c.new-list.ensures.items
    ∙ ap (enumerate_from 0) (ap records_left c.into_iter-lent-iterator.ensures.into_iter_gives ∙ c.records-lent-items.ensures)

pub loop-lent-preserved : goal.loop-lent-preserved
loop-lent-preserved c =
    let items = c.loop-lent.list.items in
    let one : Numbered = record { lent = c.in-Some.lent; number = c.len-number.result } in
    let left = records_left c.next.new.self in
    let number : c.len-number.result ≡ length items = search rules in
    ap (λ items. map numbered items ++ enumerate_from (length items) left) c.in_ok-push.ensures.items
    ∙ number-more items one (records_left c.loop-lent.lent-iterator) left (enumerate_from 0 (entries (stack_map c.args.view.now))) c.in-Some.ensures.steps number c.loop-lent.invariant

pub returns : goal.returns
returns c =
    let items = c.loop-lent.list.items in
    sym (append-nil (map numbered items)) ∙ ap (λ left. map numbered items ++ enumerate_from (length items) left) (sym c.in-None.ensures.steps.0) ∙ c.loop-lent.invariant
