-- What the verifier answers where it refuses a module.
use Rattle.std.specs.Prelude.{◌≡◌}
use Rattle.ir_ast.specs.Modules.{LinedModule}
use Rattle.pair_facts.specs.Faults.{IsLeastFault}
use Rattle.statepoint_verify.specs.declared.faults.VerifyFault.{VerifyFault}
use Rattle.statepoint_verify.specs.declared.faults.VerifyFault.TheVariants.{Fault, Memory}

-- the module is handed back, with the least of its faults or for want of memory
abbrev pub IsRefusal : LinedModule → VerifyFault → Type 0
IsRefusal whole (Fault fault back) = (back ≡ whole) × IsLeastFault whole fault.line fault.code
IsRefusal whole (Memory back) = back ≡ whole
