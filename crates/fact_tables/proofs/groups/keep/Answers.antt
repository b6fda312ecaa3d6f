use Rattle.std.proofs.Common.{◌≡◌, true, false}
use Rattle.pair_facts.specs.Lines.{is_relocate}
use Rattle.fact_tables.proofs.GroupLemmas.{keeps_relocate, keeps_other}
use Rattle.fact_tables.proofs.groups.keep.Goals as goal
use Rattle.std.proofs.lemmas.Result.{IfOk-weaker}

pub returns-then-is_relocate : goal.returns-then-is_relocate
returns-then-is_relocate c =
    let own : is_relocate c.args.inst.now.op ≡ true = cc (c.op.ensures, c.is_relocate.ensures, c.if-is_relocate.true) in
    IfOk-weaker c.keep_both.result _ _
    (λ unit keeps. keeps_relocate c.args.inst.now c.index_at.result c.index_at-then-is_relocate.result c.args.kept.now c.keep_both.new.kept own c.index_at.ensures c.index_at-then-is_relocate.ensures keeps)
    c.keep_both.ensures

pub returns-else-is_relocate : goal.returns-else-is_relocate
returns-else-is_relocate c =
    let other : is_relocate c.args.inst.now.op ≡ false = cc (c.op.ensures, c.is_relocate.ensures, c.if-is_relocate.false) in
    keeps_other c.args.inst.now c.args.kept.now other
