-- What a step that prints nothing writes, and an end that is no trap.
use Rattle.std.proofs.Common.{◌≡◌, ℕ, [], refl}
use Rattle.sp_ids.specs.declared.ends.End.{End}
use Rattle.sp_ids.specs.declared.ends.End.TheVariants.{Trap}
use Rattle.sp_ids.specs.declared.ends.Trap.{Trap as TrapKind}
use Rattle.machine_meaning.specs.Machines.{Machine, Machinery}
use Rattle.machine_meaning.specs.TrapLines.{closing_of}
use Rattle.run_tasks.specs.declared.printing.Did.{Did}
use Rattle.run_tasks.specs.declared.printing.Did.TheVariants.{Prints}
use Rattle.ir_machine.specs.Answers.{printed_of}

pub prints_nothing : (did : Did) → ((word : ℕ) → did ≡ Prints word → ⊥) → [] ≡ printed_of did
prints_nothing (Prints word) none = absurd (none word refl)
prints_nothing _ none = refl

pub shows_nothing : (machinery : Machinery) (end : End) (machine : Machine) → ((trap : TrapKind) → end ≡ Trap trap → ⊥) → closing_of machinery end machine ≡ []
shows_nothing machinery (Trap trap) machine none = absurd (none trap refl)
shows_nothing machinery _ machine none = refl
