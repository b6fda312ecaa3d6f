use Rattle.std.proofs.Common.{◌≡◌, arith, List, ℕ, ◌++◌, ◌∙◌, codes, OnOk, OnErr, ap, sym, subst}
use Rattle.ir_ast.specs.declared.types.Ty.TheVariants.{Int}
use Rattle.std.proofs.lemmas.Bool.Decides.{nat_tests}
use Rattle.ir_printer.proofs.OperandLemmas.{type_text-i64, type_text-i32, typed_text-named, typed_text-number}
use Rattle.ir_printer.proofs.operands.NextTypedPiece.put_into.Goals as goal

pub returns-in-Int-eq64-clause-ok : goal.returns-in-Int-eq64-clause-ok
returns-in-Int-eq64-clause-ok g c =
    let same : c.in-Int-eq64.field-0 ≡ 64 = grind (arith, nat_tests, c.in-Int-eq64.field-0-test) in
    let ty = c.args.self.now.ty in
    subst (λ (text : List ℕ). OnOk c.put_both-in-Int-eq64.result (g.W.PieceSink.took c.args.out.now c.put_both-in-Int-eq64.new.self (codes ", " ++ text)))
    (sym (typed_text-named c.args.self.now.scope.now ty c.args.self.now.operand c.in-Value.value (codes "i64") c.value-in-Int-eq64.result.now
    (type_text-i64 ty c.in-Int-eq64.field-0 c.in-Int-eq64.is same) c.in-Value.is c.value-in-Int-eq64.ensures))
    c.put_both-in-Int-eq64.ensures.ok

pub returns-in-Int-eq64-ty-clause-ok : goal.returns-in-Int-eq64-ty-clause-ok
returns-in-Int-eq64-ty-clause-ok g c =
    let same : c.in-Int-eq64-ty.field-0 ≡ 64 = grind (arith, nat_tests, c.in-Int-eq64-ty.field-0-test) in
    let ty = c.args.self.now.ty in
    subst (λ (text : List ℕ). OnOk c.put_then.result (g.W.PieceSink.took c.args.out.now c.put_then.new.out (codes ", " ++ text)))
    (sym (typed_text-number c.args.self.now.scope.now ty c.args.self.now.operand 64 c.in-Int.number (codes "i64")
    (type_text-i64 ty c.in-Int-eq64-ty.field-0 c.in-Int-eq64-ty.is same) (c.in-Int-eq64-ty.is ∙ ap Int same) c.in-Int.is))
    c.put_then.ensures.ok

pub returns-in-Int-eq32-clause-ok : goal.returns-in-Int-eq32-clause-ok
returns-in-Int-eq32-clause-ok g c =
    let same : c.in-Int-eq32.field-0 ≡ 32 = grind (arith, nat_tests, c.in-Int-eq32.field-0-test) in
    let ty = c.args.self.now.ty in
    subst (λ (text : List ℕ). OnOk c.put_then-in-Int-eq32.result (g.W.PieceSink.took c.args.out.now c.put_then-in-Int-eq32.new.out (codes ", " ++ text)))
    (sym (typed_text-number c.args.self.now.scope.now ty c.args.self.now.operand 32 c.in-Int.number (codes "i32")
    (type_text-i32 ty c.in-Int-eq32.field-0 c.in-Int-eq32.is same) (c.in-Int-eq32.is ∙ ap Int same) c.in-Int.is))
    c.put_then-in-Int-eq32.ensures.ok

pub returns-in-Int-eq64-clause-err : goal.returns-in-Int-eq64-clause-err
returns-in-Int-eq64-clause-err g c =
    let same : c.in-Int-eq64.field-0 ≡ 64 = grind (arith, nat_tests, c.in-Int-eq64.field-0-test) in
    let ty = c.args.self.now.ty in
    subst (λ (text : List ℕ). OnErr c.put_both-in-Int-eq64.result (g.W.PieceSink.failed_within c.args.out.now c.put_both-in-Int-eq64.new.self (codes ", " ++ text)))
    (sym (typed_text-named c.args.self.now.scope.now ty c.args.self.now.operand c.in-Value.value (codes "i64") c.value-in-Int-eq64.result.now
    (type_text-i64 ty c.in-Int-eq64.field-0 c.in-Int-eq64.is same) c.in-Value.is c.value-in-Int-eq64.ensures))
    c.put_both-in-Int-eq64.ensures.err

pub returns-in-Int-eq64-ty-clause-err : goal.returns-in-Int-eq64-ty-clause-err
returns-in-Int-eq64-ty-clause-err g c =
    let same : c.in-Int-eq64-ty.field-0 ≡ 64 = grind (arith, nat_tests, c.in-Int-eq64-ty.field-0-test) in
    let ty = c.args.self.now.ty in
    subst (λ (text : List ℕ). OnErr c.put_then.result (g.W.PieceSink.failed_within c.args.out.now c.put_then.new.out (codes ", " ++ text)))
    (sym (typed_text-number c.args.self.now.scope.now ty c.args.self.now.operand 64 c.in-Int.number (codes "i64")
    (type_text-i64 ty c.in-Int-eq64-ty.field-0 c.in-Int-eq64-ty.is same) (c.in-Int-eq64-ty.is ∙ ap Int same) c.in-Int.is))
    c.put_then.ensures.err

pub returns-in-Int-eq32-clause-err : goal.returns-in-Int-eq32-clause-err
returns-in-Int-eq32-clause-err g c =
    let same : c.in-Int-eq32.field-0 ≡ 32 = grind (arith, nat_tests, c.in-Int-eq32.field-0-test) in
    let ty = c.args.self.now.ty in
    subst (λ (text : List ℕ). OnErr c.put_then-in-Int-eq32.result (g.W.PieceSink.failed_within c.args.out.now c.put_then-in-Int-eq32.new.out (codes ", " ++ text)))
    (sym (typed_text-number c.args.self.now.scope.now ty c.args.self.now.operand 32 c.in-Int.number (codes "i32")
    (type_text-i32 ty c.in-Int-eq32.field-0 c.in-Int-eq32.is same) (c.in-Int-eq32.is ∙ ap Int same) c.in-Int.is))
    c.put_then-in-Int-eq32.ensures.err
