use Rattle.std.proofs.Common.{sym}
use Rattle.sp_text.proofs.FrontLemmas.{bang-digits, bang-plain, bang-none, not_zero, first_small}
use Rattle.sp_text.proofs.fronts.bang_front.Goals as goal

pub returns-then-is_ascii_digit : goal.returns-then-is_ascii_digit
returns-then-is_ascii_digit c =
    let first = c.in_ok-first.ensures.cases.0 in
    rw (first, c.digits_len.ensures.len)
    (bang-digits _ _ (first_small _ _ _ c.type_inv.bytes first) (sym c.if-is_ascii_digit.ensures.value))

pub returns-then-begins_name : goal.returns-then-begins_name
returns-then-begins_name c =
    let first = c.in_ok-first.ensures.cases.0 in
    rw (first, c.name_len.ensures.len)
    (bang-plain _ _ (first_small _ _ _ c.type_inv.bytes first) (sym c.if-begins_name.ensures))

pub returns-else-begins_name : goal.returns-else-begins_name
returns-else-begins_name c =
    let first = c.in_ok-first.ensures.cases.0 in
    let digit = sym c.if-is_ascii_digit.ensures.value in
    rw first (bang-none _ _ digit (sym c.if-begins_name.ensures) (not_zero _ digit))
