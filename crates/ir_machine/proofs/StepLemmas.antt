-- What the executor does at a line is what the machine does there.
use Rattle.std.proofs.Common.{◌≡◌, ℕ, Bool, true, List, [], sym, ap, subst, ◌∙◌}
use Rattle.std.specs.Prelude.{Result}
use Rattle.std.specs.Result.{IfOk}
use Rattle.std.proofs.lemmas.Result.{IfOk-weaker}
use Rattle.sp_ids.specs.declared.memory.Memory.{Memory}
use Rattle.sp_ids.specs.declared.ends.Trap.{Trap}
use Rattle.ir_ast.specs.declared.ops.Op.{Op}
use Rattle.ir_ast.specs.Objects.{Datum, number}
use Rattle.object_meaning.specs.Computing.{computed, with_number}
use Rattle.object_meaning.specs.Effects.{Effect}
use Rattle.object_meaning.specs.Lines.{Line}
use Rattle.object_meaning.specs.Registers.{operand}
use Rattle.object_meaning.specs.Steps.{settled}
use Rattle.machine_meaning.specs.Machines.{Machine, Machinery, lifted}
use Rattle.machine_meaning.specs.MachineSteps.{machine_acts}
use Rattle.machine_lines.specs.Decoding.{is_plain}
use Rattle.machine_lines.proofs.GoingLemmas.{plain_acts}
use Rattle.ir_machine.specs.declared.executor.Executor.{Executor}
use Rattle.run_tasks.specs.declared.printing.Did.{Did}
use Rattle.ir_machine.specs.Executors.{DoesSo, GoesOnTo, told}

-- the same effect, said otherwise
pub does_as : (now : Executor) (result : Result Did Memory) (one other : Effect Machine) → one ≡ other → IfOk result (DoesSo one now) → IfOk result (DoesSo other now)
does_as now result one other same does = subst (λ (effect : Effect Machine). IfOk result (DoesSo effect now)) same does

pub goes_as : (old new : Machine) (result : Result Bool Memory) (one other : Effect Machine) → one ≡ other → IfOk result (λ went. GoesOnTo one old went new)
    → IfOk result (λ went. GoesOnTo other old went new)
goes_as old new result one other same goes = subst (λ (effect : Effect Machine). IfOk result (λ went. GoesOnTo effect old went new)) same goes

-- ---- steps
