use Rattle.std.proofs.Common.{sym, ◌∙◌}
use Rattle.print_tables.specs.Called.{external_at}
use Rattle.print_tables.proofs.PlaceLemmas.{external_at-new, external_at-result}
use Rattle.print_tables.proofs.called.place_of.Goals as goal

pub returns-in-Print : goal.returns-in-Print
unfolding external_at
returns-in-Print c = sym c.in-Print.is

pub returns-in-Read : goal.returns-in-Read
unfolding external_at
returns-in-Read c = sym c.in-Read.is

pub returns-in-TaskStart : goal.returns-in-TaskStart
unfolding external_at
returns-in-TaskStart c = sym c.in-TaskStart.is

pub returns-in-Poll : goal.returns-in-Poll
unfolding external_at
returns-in-Poll c = sym c.in-Poll.is

pub returns-in-Check : goal.returns-in-Check
unfolding external_at
returns-in-Check c = sym c.in-Check.is

pub returns-in-Same : goal.returns-in-Same
unfolding external_at
returns-in-Same c = sym c.in-Same.is

pub returns-in-StatepointFamily : goal.returns-in-StatepointFamily
unfolding external_at
returns-in-StatepointFamily c = sym c.in-StatepointFamily.is

pub returns-in-RelocateFamily : goal.returns-in-RelocateFamily
unfolding external_at
returns-in-RelocateFamily c = sym c.in-RelocateFamily.is

pub returns-in-ResultPointer : goal.returns-in-ResultPointer
unfolding external_at
returns-in-ResultPointer c = sym c.in-ResultPointer.is

pub returns-in-New : goal.returns-in-New
returns-in-New c = external_at-new c.in-New.layout ∙ sym c.in-New.is

pub returns-in-ResultOf : goal.returns-in-ResultOf
returns-in-ResultOf c = rw c.in-ResultOf.is (external_at-result c.in-ResultOf.width c.place_of_width.result c.place_of_width.ensures.some)
