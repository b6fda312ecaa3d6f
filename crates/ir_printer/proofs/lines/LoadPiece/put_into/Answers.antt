use Rattle.std.proofs.Common.{◌≡◌, arith, sym, ◌∙◌}
use Rattle.std.proofs.lemmas.Bool.Decides.{nat_tests}
use Rattle.ir_printer.proofs.OperandLemmas.{type_text-i64}
use Rattle.ir_printer.proofs.lines.LoadPiece.put_into.Goals as goal

pub returns-in-Int-eq64-clause-ok : goal.returns-in-Int-eq64-clause-ok
returns-in-Int-eq64-clause-ok g c =
    let same : c.in-Int-eq64.field-0 ≡ 64 = grind (arith, nat_tests, c.in-Int-eq64.field-0-test) in
    rw (type_text-i64 c.args.self.now.inst.now.ty c.in-Int-eq64.field-0 (sym c.ty.ensures ∙ c.in-Int-eq64.is) same) c.put_then.ensures.ok

pub returns-in-Int-eq64-clause-err : goal.returns-in-Int-eq64-clause-err
returns-in-Int-eq64-clause-err g c =
    let same : c.in-Int-eq64.field-0 ≡ 64 = grind (arith, nat_tests, c.in-Int-eq64.field-0-test) in
    rw (type_text-i64 c.args.self.now.inst.now.ty c.in-Int-eq64.field-0 (sym c.ty.ensures ∙ c.in-Int-eq64.is) same) c.put_then.ensures.err
