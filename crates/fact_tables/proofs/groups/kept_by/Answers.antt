use Rattle.std.proofs.Common.{◌≡◌, ◌-◌, ◌+◌, ℕ, suc, subst, arith, take}
use Rattle.pair_facts.specs.Lines.{lines_at, group_in}
use Rattle.fact_tables.specs.Groups.{IsKept}
use Rattle.fact_tables.proofs.GroupLemmas.{kept_none, kept_more, kept_all, group_inside}
use Rattle.fact_tables.proofs.groups.kept_by.Goals as goal

pub loop-place-init : goal.loop-place-init
loop-place-init c =
    let lines = lines_at c.args.func.now.content c.args.block in
    let none : 0 ≡ c.args.head + 1 - suc c.args.head = omega arith in
    subst (λ (n : ℕ). IsKept (take n (group_in lines c.args.head)) c.nothing_kept-kept.result) none
    (kept_none (group_in lines c.args.head) c.nothing_kept-kept.result c.nothing_kept-kept.ensures.bases c.nothing_kept-kept.ensures.values)

pub loop-place-preserved : goal.loop-place-preserved
loop-place-preserved c =
    let lines = lines_at c.args.func.now.content c.args.block in
    kept_more lines c.args.head c.loop-place.place c.inst_at.result.now c.loop-place.kept c.keep.new.kept (omega arith) (omega (arith, c.group_end-end.ensures))
    c.inst_at.ensures c.in_ok-keep.ensures c.loop-place.invariant

pub returns : goal.returns
returns c =
    let lines = lines_at c.args.func.now.content c.args.block in
    kept_all lines c.args.head c.loop-place.place c.loop-place.kept (omega (arith, c.group_end-end.ensures)) c.loop-place.invariant

pub inst_at-requires-clause-place : goal.inst_at-requires-clause-place
inst_at-requires-clause-place c =
    let lines = lines_at c.args.func.now.content c.args.block in
    group_inside lines c.args.head c.loop-place.place c.requires.head (omega (arith, c.group_end-end.ensures))
