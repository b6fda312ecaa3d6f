use Rattle.std.proofs.Common.{sym, ◌∙◌, arith}
use Rattle.std.specs.Prelude.{codes, map}
use Rattle.std.proofs.lemmas.Result.{err_from_is_err_and}
use Rattle.line_parts.specs.Lists.{comma}
use Rattle.line_tokens.specs.Marks.{is_mark}
use Rattle.line_parts.specs.Parts.{allowed_type_at, is_value_type}
use Rattle.std.proofs.lemmas.List.{map_push}
use Rattle.line_parts.specs.Seen.{seen_type}
use Rattle.line_parts.proofs.Dropping.{past-le}
use Rattle.line_parts.proofs.Listing.{reached_first, reached_end, reached_next, reached_stop, shorter_is, allowed_type_at-shorter}
use Rattle.line_parts.proofs.cursor.Cursor.some_fields.Goals as goal

pub loop-fields-init : goal.loop-fields-init
loop-fields-init c = rw c.new-fields.ensures.items (reached_first (allowed_type_at is_value_type) comma c.args.self.now)

pub returns-in_err-field : goal.returns-in_err-field
returns-in_err-field c =
    let p = err_from_is_err_and c.from_residual.result c.from_residual.ensures.1 in
    rw (p.1, p.2) (reached_stop (allowed_type_at is_value_type) comma c.args.self.now (map seen_type c.loop-fields.fields.items) c.loop-fields.self c.in_err-field.field-0.0 c.loop-fields.invariant c.in_err-field.ensures)

pub returns-then-not-begins_mark : goal.returns-then-not-begins_mark
returns-then-not-begins_mark c =
    let lt = shorter_is _ (allowed_type_at is_value_type c.loop-fields.self) (seen_type c.in_ok-field.field) c.value_type.new.self (allowed_type_at-shorter is_value_type c.loop-fields.self) c.in_ok-field.ensures in
    rw (c.in_ok-push.ensures.ok, map_push seen_type c.loop-fields.fields.items c.in_ok-field.field) (reached_end (allowed_type_at is_value_type) comma c.args.self.now (map seen_type c.loop-fields.fields.items) c.loop-fields.self (seen_type c.in_ok-field.field) c.value_type.new.self
    c.loop-fields.invariant c.in_ok-field.ensures lt (sym c.begins_mark.ensures ∙ c.if-not-begins_mark.true))

pub loop-fields-smaller : goal.loop-fields-smaller
loop-fields-smaller c =
    let lt = shorter_is _ (allowed_type_at is_value_type c.loop-fields.self) (seen_type c.in_ok-field.field) c.value_type.new.self (allowed_type_at-shorter is_value_type c.loop-fields.self) c.in_ok-field.ensures in
    rw c.pass_comma.ensures (omega (arith, lt, past-le (is_mark (codes ",")) c.value_type.new.self))

pub loop-fields-preserved : goal.loop-fields-preserved
loop-fields-preserved c =
    let lt = shorter_is _ (allowed_type_at is_value_type c.loop-fields.self) (seen_type c.in_ok-field.field) c.value_type.new.self (allowed_type_at-shorter is_value_type c.loop-fields.self) c.in_ok-field.ensures in
    rw (c.pass_comma.ensures, c.in_ok-push.ensures.ok, map_push seen_type c.loop-fields.fields.items c.in_ok-field.field) (reached_next (allowed_type_at is_value_type) comma c.args.self.now (map seen_type c.loop-fields.fields.items) c.loop-fields.self (seen_type c.in_ok-field.field) c.value_type.new.self
    c.loop-fields.invariant c.in_ok-field.ensures lt (sym c.begins_mark.ensures ∙ c.if-not-begins_mark.false))
