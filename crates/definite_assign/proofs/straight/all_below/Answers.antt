use Rattle.std.proofs.Common.{◌≡◌, ◌∙◌, true, sym, arith, subst, List}
use Rattle.std.specs.List.{All}
use Rattle.std.proofs.lemmas.List.{take_all}
use Rattle.std.proofs.lemmas.List.Elements.{All-more}
use Rattle.ir_ast.specs.declared.ops.Operand.{Operand}
use Rattle.definite_assign.specs.Straight.{is_below}
use Rattle.definite_assign.proofs.straight.all_below.Goals as goal

pub loop-operand-preserved : goal.loop-operand-preserved
loop-operand-preserved c =
    All-more (λ (operand : Operand). is_below c.args.limit operand ≡ true) c.args.operands.now c.loop-operand.operand-index _ c.loop-operand-test.true
    c.loop-operand.invariant (sym c.is_below.ensures ∙ c.if-not-is_below.false)

pub returns : goal.returns
returns c = λ is.
    subst (λ (os : List Operand). All (λ (operand : Operand). is_below c.args.limit operand ≡ true) os)
    (take_all c.loop-operand.operand-index c.args.operands.now (omega arith)) c.loop-operand.invariant
