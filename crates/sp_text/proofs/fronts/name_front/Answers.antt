use Rattle.std.proofs.Common.{sym}
use Rattle.std.proofs.lemmas.Bool.{ne_eqb}
use Rattle.sp_text.proofs.FrontLemmas.{name-zero, name-digits, name-plain, name-none, not_zero, first_small}
use Rattle.sp_text.proofs.fronts.name_front.Goals as goal

pub returns-then-first-eq48 : goal.returns-then-first-eq48
returns-then-first-eq48 c = rw (c.in_ok-first.ensures.cases.0, c.if-first-eq48.true) (name-zero _)

pub returns-then-is_ascii_digit : goal.returns-then-is_ascii_digit
returns-then-is_ascii_digit c =
    let first = c.in_ok-first.ensures.cases.0 in
    rw (first, c.digits_len.ensures.len)
    (name-digits _ _ (first_small _ _ _ c.type_inv.bytes first) (sym c.if-is_ascii_digit.ensures.value)
    (ne_eqb _ _ c.if-first-eq48.false))

pub returns-then-begins_name : goal.returns-then-begins_name
returns-then-begins_name c =
    let first = c.in_ok-first.ensures.cases.0 in
    rw (first, c.name_len.ensures.len)
    (name-plain _ _ (first_small _ _ _ c.type_inv.bytes first) (sym c.if-begins_name.ensures))

pub returns-else-is_ascii_digit : goal.returns-else-is_ascii_digit
returns-else-is_ascii_digit c =
    let first = c.in_ok-first.ensures.cases.0 in
    let digit = sym c.if-is_ascii_digit.ensures.value in
    rw first (name-none _ _ digit (sym c.if-begins_name.ensures) (not_zero _ digit))
