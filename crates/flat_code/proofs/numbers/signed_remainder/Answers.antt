use Rattle.std.proofs.Common.{◌≢◌, refl, sym, ◌∙◌, ne_eqb}
use mir.Syntax.{w64}
use mir.ValLaws.{to_z-of_z}
use lib.Signed.{rem_z}
use Rattle.sp_ids.specs.Numbers.{wrapped}
use Rattle.object_meaning.proofs.NumberLemmas.{spelled_same, word_remainder}
use Rattle.flat_code.proofs.numbers.signed_remainder.Goals as goal

pub returns : goal.returns
returns c =
    let same = spelled_same c.args.width (rem_z c.sign.result c.sign-2.result) (word_remainder c.sign.result c.sign-2.result c.sign.type_inv) in
    let one = to_z-of_z w64 c.sign.result (record { sfits = c.sign.type_inv }) in
    let two = to_z-of_z w64 c.sign-2.result (record { sfits = c.sign-2.type_inv }) in
    let whole = rw (c.sign.ensures, c.sign-2.ensures) at ((rw (one, two) at c.spelled.ensures) ∙ same) in
    let nonzero : wrapped c.args.width c.args.right ≢ 0 = λ e. c.if-wrap-eq0.false (c.wrap.ensures ∙ e) in
    let divides = ne_eqb (wrapped c.args.width c.args.right) 0 nonzero in
    let fits = sym c.if-overflows.ensures in
    rw (whole, divides, fits) refl
