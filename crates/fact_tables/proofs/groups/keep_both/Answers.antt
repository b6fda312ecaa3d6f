use Rattle.std.proofs.Common.{refl}
use Rattle.fact_tables.proofs.GroupLemmas.{keeps_same, keeps_apart}
use Rattle.fact_tables.proofs.groups.keep_both.Goals as goal

pub returns-in_ok-insert-2 : goal.returns-in_ok-insert-2
returns-in_ok-insert-2 c =
    keeps_same c.args.base c.args.derived c.args.kept.now (record { values = c.insert.new.self; bases = c.insert-then-base-derived.new.self }) c.if-base-derived.true
    c.in_ok-insert.ensures.keys c.in_ok-insert-2.ensures.keys

pub returns-else-base-derived : goal.returns-else-base-derived
returns-else-base-derived c =
    keeps_apart c.args.base c.args.derived c.args.kept.now (record c.args.kept.now { values = c.insert.new.self }) c.if-base-derived.false
    c.in_ok-insert.ensures.keys refl
