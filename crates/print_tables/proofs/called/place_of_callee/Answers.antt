use Rattle.print_tables.proofs.PlaceLemmas.{at-fun, at-new, at-print, at-read, at-task_start, at-poll, at-check, at-same}
use Rattle.print_tables.proofs.called.place_of_callee.Goals as goal

pub returns-in-Fun : goal.returns-in-Fun
returns-in-Fun c = λ place. rw c.in-Fun.is (at-fun _ place)

pub returns-in-New : goal.returns-in-New
returns-in-New c = λ place. rw c.in-New.is (at-new c.in-New.layout place)

pub returns-in-Print : goal.returns-in-Print
returns-in-Print c = λ place. rw c.in-Print.is (at-print place)

pub returns-in-Read : goal.returns-in-Read
returns-in-Read c = λ place. rw c.in-Read.is (at-read place)

pub returns-in-TaskStart : goal.returns-in-TaskStart
returns-in-TaskStart c = λ place. rw c.in-TaskStart.is (at-task_start place)

pub returns-in-Poll : goal.returns-in-Poll
returns-in-Poll c = λ place. rw c.in-Poll.is (at-poll place)

pub returns-in-Check : goal.returns-in-Check
returns-in-Check c = λ place. rw c.in-Check.is (at-check place)

pub returns-in-Same : goal.returns-in-Same
returns-in-Same c = λ place. rw c.in-Same.is (at-same place)
