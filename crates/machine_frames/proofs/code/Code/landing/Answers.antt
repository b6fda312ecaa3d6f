use Rattle.machine_frames.proofs.LandingLemmas.{landing_found, no_table}
use Rattle.machine_frames.proofs.code.Code.landing.Goals as goal

pub returns-in-None : goal.returns-in-None
returns-in-None c =
    rw (← c.self.view_is) (no_table c.self.inside.«module».now.content c.self.inside.layouts c.self.inside.tables.items c.args.func c.args.block c.self.invariant (rw c.as_slice.ensures.value at c.in-None.ensures))

pub returns-in-Some : goal.returns-in-Some
returns-in-Some c =
    rw (← c.self.view_is) (landing_found c.self.inside.«module».now.content c.self.inside.layouts c.self.inside.tables.items c.args.func c.args.block c.self.invariant (λ landing. landing.now) c.in-Some.table.now c.landing.result
    (rw c.as_slice.ensures.value at c.in-Some.ensures) c.landing.ensures)
