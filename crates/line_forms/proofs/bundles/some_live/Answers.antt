use Rattle.std.proofs.Common.{sym, ◌∙◌, arith}
use Rattle.std.specs.Prelude.{codes, map}
use Rattle.std.proofs.lemmas.Result.{err_from_is_err_and}
use Rattle.line_parts.specs.Lists.{comma}
use Rattle.line_parts.specs.Bundles.{live_entry_at}
use Rattle.line_tokens.specs.Marks.{is_mark}
use Rattle.std.proofs.lemmas.List.{map_push}
use Rattle.line_parts.specs.Seen.{seen_value}
use Rattle.line_parts.proofs.Dropping.{past-le}
use Rattle.line_parts.proofs.Listing.{reached_first, reached_end, reached_next, reached_stop, shorter_is, live_entry_at-shorter}
use Rattle.line_forms.proofs.bundles.some_live.Goals as goal

pub loop-live-init : goal.loop-live-init
loop-live-init c = rw c.new-live.ensures.items (reached_first live_entry_at comma c.args.cursor.now)

pub returns-in_err-entry : goal.returns-in_err-entry
returns-in_err-entry c =
    let p = err_from_is_err_and c.from_residual.result c.from_residual.ensures.1 in
    rw (p.1, p.2) (reached_stop live_entry_at comma c.args.cursor.now (map seen_value c.loop-live.live.items) c.loop-live.cursor c.in_err-entry.field-0.0 c.loop-live.invariant c.in_err-entry.ensures)

pub returns-then-not-begins_mark : goal.returns-then-not-begins_mark
returns-then-not-begins_mark c =
    let lt = shorter_is _ (live_entry_at c.loop-live.cursor) (seen_value c.in_ok-entry.entry) c.live_entry.new.cursor (live_entry_at-shorter c.loop-live.cursor) c.in_ok-entry.ensures in
    rw (c.in_ok-push.ensures.ok, map_push seen_value c.loop-live.live.items c.in_ok-entry.entry) (reached_end live_entry_at comma c.args.cursor.now (map seen_value c.loop-live.live.items) c.loop-live.cursor (seen_value c.in_ok-entry.entry) c.live_entry.new.cursor
    c.loop-live.invariant c.in_ok-entry.ensures lt (sym c.begins_mark.ensures ∙ c.if-not-begins_mark.true))

pub loop-live-smaller : goal.loop-live-smaller
loop-live-smaller c =
    let lt = shorter_is _ (live_entry_at c.loop-live.cursor) (seen_value c.in_ok-entry.entry) c.live_entry.new.cursor (live_entry_at-shorter c.loop-live.cursor) c.in_ok-entry.ensures in
    rw c.pass_comma.ensures (omega (arith, lt, past-le (is_mark (codes ",")) c.live_entry.new.cursor))

pub loop-live-preserved : goal.loop-live-preserved
loop-live-preserved c =
    let lt = shorter_is _ (live_entry_at c.loop-live.cursor) (seen_value c.in_ok-entry.entry) c.live_entry.new.cursor (live_entry_at-shorter c.loop-live.cursor) c.in_ok-entry.ensures in
    rw (c.pass_comma.ensures, c.in_ok-push.ensures.ok, map_push seen_value c.loop-live.live.items c.in_ok-entry.entry) (reached_next live_entry_at comma c.args.cursor.now (map seen_value c.loop-live.live.items) c.loop-live.cursor (seen_value c.in_ok-entry.entry) c.live_entry.new.cursor
    c.loop-live.invariant c.in_ok-entry.ensures lt (sym c.begins_mark.ensures ∙ c.if-not-begins_mark.false))
