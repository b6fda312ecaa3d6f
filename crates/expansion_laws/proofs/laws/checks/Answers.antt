use Rattle.expansion_laws.proofs.PickLaws.{adds_with_carry_law, subtracts_with_borrow_law}
use Rattle.expansion_laws.proofs.NumberLaws.{multiplies_checked}
use Rattle.expansion_laws.proofs.laws.checks.Goals as goal

pub returns-clause-adds : goal.returns-clause-adds
returns-clause-adds c = adds_with_carry_law

pub returns-clause-subtracts : goal.returns-clause-subtracts
returns-clause-subtracts c = subtracts_with_borrow_law

pub returns-clause-multiplies : goal.returns-clause-multiplies
returns-clause-multiplies c = multiplies_checked
