use Rattle.print_tables.proofs.PlaceLemmas.{at-result, at-pointer_result}
use Rattle.print_tables.proofs.called.place_of_result.Goals as goal

pub returns-in-Int : goal.returns-in-Int
returns-in-Int c = λ place. rw c.in-Int.is (at-result c.in-Int.width c.place_of_width.result c.place_of_width.ensures.some c.place_of_width.ensures.none place)

pub returns-in-Ptr : goal.returns-in-Ptr
returns-in-Ptr c = λ place. rw c.in-Ptr.is (at-pointer_result place)
