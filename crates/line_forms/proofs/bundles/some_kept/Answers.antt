use Rattle.std.proofs.Common.{sym, ◌∙◌, arith}
use Rattle.std.specs.Prelude.{codes, map}
use Rattle.std.proofs.lemmas.Result.{err_from_is_err_and}
use Rattle.line_parts.specs.Lists.{comma}
use Rattle.line_parts.specs.Bundles.{kept_entry_at}
use Rattle.line_tokens.specs.Marks.{is_mark}
use Rattle.std.proofs.lemmas.List.{map_push}
use Rattle.line_forms.specs.Seen.{seen_kept}
use Rattle.line_parts.proofs.Dropping.{past-le}
use Rattle.line_parts.proofs.Listing.{reached_first, reached_end, reached_next, reached_stop, shorter_is, kept_entry_at-shorter}
use Rattle.line_forms.proofs.bundles.some_kept.Goals as goal

pub loop-kept-init : goal.loop-kept-init
loop-kept-init c = rw c.new-kept.ensures.items (reached_first kept_entry_at comma c.args.cursor.now)

pub returns-in_err-entry : goal.returns-in_err-entry
returns-in_err-entry c =
    let p = err_from_is_err_and c.from_residual.result c.from_residual.ensures.1 in
    rw (p.1, p.2) (reached_stop kept_entry_at comma c.args.cursor.now (map seen_kept c.loop-kept.kept.items) c.loop-kept.cursor c.in_err-entry.field-0.0 c.loop-kept.invariant c.in_err-entry.ensures)

pub returns-then-not-begins_mark : goal.returns-then-not-begins_mark
returns-then-not-begins_mark c =
    let lt = shorter_is _ (kept_entry_at c.loop-kept.cursor) (seen_kept c.in_ok-entry.entry) c.kept_entry.new.cursor (kept_entry_at-shorter c.loop-kept.cursor) c.in_ok-entry.ensures in
    rw (c.in_ok-push.ensures.ok, map_push seen_kept c.loop-kept.kept.items c.in_ok-entry.entry) (reached_end kept_entry_at comma c.args.cursor.now (map seen_kept c.loop-kept.kept.items) c.loop-kept.cursor (seen_kept c.in_ok-entry.entry) c.kept_entry.new.cursor
    c.loop-kept.invariant c.in_ok-entry.ensures lt (sym c.begins_mark.ensures ∙ c.if-not-begins_mark.true))

pub loop-kept-smaller : goal.loop-kept-smaller
loop-kept-smaller c =
    let lt = shorter_is _ (kept_entry_at c.loop-kept.cursor) (seen_kept c.in_ok-entry.entry) c.kept_entry.new.cursor (kept_entry_at-shorter c.loop-kept.cursor) c.in_ok-entry.ensures in
    rw c.pass_comma.ensures (omega (arith, lt, past-le (is_mark (codes ",")) c.kept_entry.new.cursor))

pub loop-kept-preserved : goal.loop-kept-preserved
loop-kept-preserved c =
    let lt = shorter_is _ (kept_entry_at c.loop-kept.cursor) (seen_kept c.in_ok-entry.entry) c.kept_entry.new.cursor (kept_entry_at-shorter c.loop-kept.cursor) c.in_ok-entry.ensures in
    rw (c.pass_comma.ensures, c.in_ok-push.ensures.ok, map_push seen_kept c.loop-kept.kept.items c.in_ok-entry.entry) (reached_next kept_entry_at comma c.args.cursor.now (map seen_kept c.loop-kept.kept.items) c.loop-kept.cursor (seen_kept c.in_ok-entry.entry) c.kept_entry.new.cursor
    c.loop-kept.invariant c.in_ok-entry.ensures lt (sym c.begins_mark.ensures ∙ c.if-not-begins_mark.false))
