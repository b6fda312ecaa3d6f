use Rattle.std.proofs.Common.{◌∙◌, ◌≡◌, arith, sym, true, false}
use Rattle.ir_ast.specs.declared.ops.Operand.{Operand}
use Rattle.std.specs.Prelude.{refl}
use Rattle.std.proofs.lemmas.List.Elements.{All-more}
use Rattle.ir_verify.specs.Groups.{NamesToken}
use Rattle.ir_verify.proofs.Zips.{all_taken}
use Rattle.ir_verify.proofs.groups.no_token.Goals as goal

pub loop-operand-preserved : goal.loop-operand-preserved
loop-operand-preserved c =
    All-more (λ (operand : Operand). ¬ NamesToken c.args.types.now operand) c.args.operands.now c.loop-operand.operand-index _ c.loop-operand-test.true
    c.loop-operand.invariant (λ named. let bad : false ≡ true = sym c.if-is_token.false ∙ c.is_token.ensures.1 named in cc)

pub returns : goal.returns
returns c = (
  (λ is. all_taken (λ (operand : Operand). ¬ NamesToken c.args.types.now operand) c.args.operands.now c.loop-operand.operand-index (omega arith) c.loop-operand.invariant),
  (λ all. refl),
)
