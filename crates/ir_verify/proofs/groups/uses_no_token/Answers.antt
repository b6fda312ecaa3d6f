use Rattle.std.proofs.Common.{◌∙◌, ◌≡◌, List, subst, sym, true, false}
use Rattle.std.specs.List.{All}
use Rattle.ir_ast.specs.declared.ops.Operand.{Operand}
use Rattle.ir_ast.specs.declared.types.Ty.{Ty}
use Rattle.ir_verify.specs.Groups.{NamesToken}
use Rattle.ir_verify.proofs.GroupLemmas.{uses-to, uses-front, uses-back}
use Rattle.ir_verify.proofs.groups.uses_no_token.Goals as goal

pub returns-then-no_token : goal.returns-then-no_token
returns-then-no_token c =
    let types = c.args.types.now in
    let inst = c.args.inst.now in
    let P : List Operand → Type 0 = All (λ (operand : Operand). ¬ NamesToken types operand) in
    let Q : List (Ty × Operand) → Type 0 = All (λ (entry : Ty × Operand). ¬ NamesToken types entry.1) in (
      (λ is. uses-to types inst (subst P c.operands.ensures (c.no_token.ensures.0 c.if-no_token.true)) (subst Q c.bundle.ensures (c.no_token_kept.ensures.0 is))),
      (λ all. c.no_token_kept.ensures.1 (subst Q (sym c.bundle.ensures) (uses-back types inst all))),
    )

pub returns-else-no_token : goal.returns-else-no_token
returns-else-no_token c =
    let types = c.args.types.now in
    let inst = c.args.inst.now in
    let P : List Operand → Type 0 = All (λ (operand : Operand). ¬ NamesToken types operand) in (
      (λ is. absurd (let bad : false ≡ true = sym c.if-no_token.false ∙ is in cc)),
      (λ all. c.no_token.ensures.1 (subst P (sym c.operands.ensures) (uses-front types inst all))),
    )
