use Rattle.std.proofs.Common.{◌∙◌, ap, arith}
use Rattle.pair_facts.specs.Lines.{lines_at}
use Rattle.statepoint_verify.specs.Tests.{checks_by}
use Rattle.statepoint_verify.proofs.TestLemmas.{checked_before}
use Rattle.statepoint_verify.proofs.accesses.is_checked.Goals as goal

pub returns-else-place-eq0 : goal.returns-else-place-eq0
returns-else-place-eq0 c =
    let lines = lines_at c.args.func.now.content c.args.block in
    c.checks.ensures ∙ ap (checks_by c.args.address c.args.ty) c.inst_at.ensures ∙ checked_before lines c.args.place c.args.address c.args.ty (omega arith) c.requires.place
