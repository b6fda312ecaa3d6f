use Rattle.std.proofs.Common.{◌∙◌, ◌≡◌, arith, sym, true, false}
use Rattle.ir_ast.specs.declared.ops.Operand.{Operand}
use Rattle.ir_ast.specs.declared.types.Ty.{Ty}
use Rattle.std.specs.Prelude.{refl}
use Rattle.std.proofs.lemmas.List.Elements.{All-more}
use Rattle.ir_verify.specs.Groups.{NamesToken}
use Rattle.ir_verify.proofs.Zips.{all_taken}
use Rattle.ir_verify.proofs.groups.no_token_kept.Goals as goal

pub loop-entry-preserved : goal.loop-entry-preserved
loop-entry-preserved c =
    All-more (λ (entry : Ty × Operand). ¬ NamesToken c.args.types.now entry.1) c.args.bundle.now c.loop-entry.entry-index _ c.loop-entry-test.true
    c.loop-entry.invariant (λ named. let bad : false ≡ true = sym c.if-is_token.false ∙ c.is_token.ensures.1 named in cc)

pub returns : goal.returns
returns c = (
  (λ is. all_taken (λ (entry : Ty × Operand). ¬ NamesToken c.args.types.now entry.1) c.args.bundle.now c.loop-entry.entry-index (omega arith) c.loop-entry.invariant),
  (λ all. refl),
)
