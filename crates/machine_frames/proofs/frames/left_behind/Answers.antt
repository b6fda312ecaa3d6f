use Rattle.std.proofs.Common.{◌≡◌, true, false, sym, ◌∙◌, arith}
use Rattle.machine_frames.proofs.LineLemmas.{behind_point, behind_call}
use Rattle.machine_frames.proofs.frames.left_behind.Goals as goal
use Rattle.ir_ast.specs.Ops.{is_statepoint}

pub returns-then-is_statepoint : goal.returns-then-is_statepoint
returns-then-is_statepoint c =
    let point : is_statepoint c.args.op.now ≡ true = sym c.is_statepoint.ensures ∙ c.if-is_statepoint.true in
    λ next. omega (arith, behind_point c.args.op.now next c.args.rest.now point, c.member_count.ensures.value)

pub returns-else-is_statepoint : goal.returns-else-is_statepoint
returns-else-is_statepoint c =
    let call : is_statepoint c.args.op.now ≡ false = sym c.is_statepoint.ensures ∙ c.if-is_statepoint.false in
    λ next. behind_call c.args.op.now next c.args.rest.now call
