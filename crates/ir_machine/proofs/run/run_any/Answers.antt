use Rattle.std.proofs.Common.{◌≡◌, refl, subst}
use Rattle.map_bytes.specs.Faults.{IsFirstFault}
use Rattle.ir_machine.proofs.run.run_any.Goals as goal

pub returns-in-Err-clause-bad : goal.returns-in-Err-clause-bad
returns-in-Err-clause-bad g c =
    λ fault e. let same : c.in-Err.fault ≡ fault = cc in (subst (IsFirstFault c.args.map.now) same c.in-Err.ensures.fault, refl)
