use Rattle.std.proofs.Common.{sym, ◌∙◌, arith}
use Rattle.std.specs.Prelude.{codes, map}
use Rattle.std.proofs.lemmas.Result.{err_from_is_err_and}
use Rattle.line_parts.specs.Lists.{begins_entry, entry_at}
use Rattle.line_tokens.specs.Marks.{is_mark}
use Rattle.std.proofs.lemmas.List.{map_push}
use Rattle.line_parts.specs.Seen.{seen_entry}
use Rattle.line_parts.proofs.Dropping.{past-le}
use Rattle.line_parts.proofs.Listing.{reached_first, reached_end, reached_next, reached_stop, shorter_is, entry_at-shorter}
use Rattle.line_parts.proofs.cursor.Cursor.entries.Goals as goal

pub loop-entries-init : goal.loop-entries-init
loop-entries-init c = rw c.new-entries.ensures.items (reached_first entry_at begins_entry c.args.self.now)

pub returns-in_err-entry : goal.returns-in_err-entry
returns-in_err-entry c =
    let p = err_from_is_err_and c.from_residual.result c.from_residual.ensures.1 in
    rw (p.1, p.2) (reached_stop entry_at begins_entry c.args.self.now (map seen_entry c.loop-entries.entries.items) c.loop-entries.self c.in_err-entry.field-0.0 c.loop-entries.invariant c.in_err-entry.ensures)

pub returns-then-not-begins_entry : goal.returns-then-not-begins_entry
returns-then-not-begins_entry c =
    let lt = shorter_is _ (entry_at c.loop-entries.self) (seen_entry c.in_ok-entry.entry) c.entry.new.self (entry_at-shorter c.loop-entries.self) c.in_ok-entry.ensures in
    rw (c.in_ok-push.ensures.ok, map_push seen_entry c.loop-entries.entries.items c.in_ok-entry.entry) (reached_end entry_at begins_entry c.args.self.now (map seen_entry c.loop-entries.entries.items) c.loop-entries.self (seen_entry c.in_ok-entry.entry) c.entry.new.self
    c.loop-entries.invariant c.in_ok-entry.ensures lt (sym c.begins_entry.ensures ∙ c.if-not-begins_entry.true))

pub loop-entries-smaller : goal.loop-entries-smaller
loop-entries-smaller c =
    let lt = shorter_is _ (entry_at c.loop-entries.self) (seen_entry c.in_ok-entry.entry) c.entry.new.self (entry_at-shorter c.loop-entries.self) c.in_ok-entry.ensures in
    rw c.pass_comma.ensures (omega (arith, lt, past-le (is_mark (codes ",")) c.entry.new.self))

pub loop-entries-preserved : goal.loop-entries-preserved
loop-entries-preserved c =
    let lt = shorter_is _ (entry_at c.loop-entries.self) (seen_entry c.in_ok-entry.entry) c.entry.new.self (entry_at-shorter c.loop-entries.self) c.in_ok-entry.ensures in
    rw (c.pass_comma.ensures, c.in_ok-push.ensures.ok, map_push seen_entry c.loop-entries.entries.items c.in_ok-entry.entry) (reached_next entry_at begins_entry c.args.self.now (map seen_entry c.loop-entries.entries.items) c.loop-entries.self (seen_entry c.in_ok-entry.entry) c.entry.new.self
    c.loop-entries.invariant c.in_ok-entry.ensures lt (sym c.begins_entry.ensures ∙ c.if-not-begins_entry.false))
