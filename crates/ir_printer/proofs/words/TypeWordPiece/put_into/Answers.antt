use Rattle.std.proofs.Common.{◌≡◌, arith, List, ℕ, OnOk, OnErr, sym, subst}
use Rattle.std.proofs.lemmas.Bool.Decides.{nat_tests}
use Rattle.ir_printer.proofs.OperandLemmas.{type_text-i64}
use Rattle.ir_printer.proofs.words.TypeWordPiece.put_into.Goals as goal

pub returns-in-Int-eq64-clause-ok : goal.returns-in-Int-eq64-clause-ok
returns-in-Int-eq64-clause-ok g c =
    let same : c.in-Int-eq64.field-0 ≡ 64 = grind (arith, nat_tests, c.in-Int-eq64.field-0-test) in
    subst (λ (text : List ℕ). OnOk c.put-in-Int-eq64.result (g.W.PieceSink.took c.args.out.now c.put-in-Int-eq64.new.self text))
    (sym (type_text-i64 c.args.self.now.0 c.in-Int-eq64.field-0 c.in-Int-eq64.is same)) c.put-in-Int-eq64.ensures.ok

pub returns-in-Int-eq64-clause-err : goal.returns-in-Int-eq64-clause-err
returns-in-Int-eq64-clause-err g c =
    let same : c.in-Int-eq64.field-0 ≡ 64 = grind (arith, nat_tests, c.in-Int-eq64.field-0-test) in
    subst (λ (text : List ℕ). OnErr c.put-in-Int-eq64.result (g.W.PieceSink.failed_within c.args.out.now c.put-in-Int-eq64.new.self text))
    (sym (type_text-i64 c.args.self.now.0 c.in-Int-eq64.field-0 c.in-Int-eq64.is same)) c.put-in-Int-eq64.ensures.err
