-- Without a step nothing lets a derived value out.
use Rattle.std.proofs.Common.{◌≡◌, false}
use Rattle.std.specs.Prelude.{Option}
use Rattle.ir_ast.specs.Funcs.{LinedFunction}
use Rattle.body_tables.specs.Bodies.{any_step}
use Rattle.body_tables.proofs.UserLemmas.{keeps-without_step}
use Rattle.ir_lines.specs.declared.faults.Fault.{Fault}
use Rattle.ir_lines.specs.Notes.{Notes}
use Rattle.ir_lines.proofs.NoteLemmas.{notes-nothing}
use Rattle.ir_verify.specs.Bodies.{insts_of}
use Rattle.ir_verify.specs.Founds.{FoundIn}
use Rattle.ir_verify.specs.FunctionFaults.{EscapeAt}

pub nothing-escapes : (func : LinedFunction) (kept : Option Fault) → any_step (insts_of func) ≡ false
    → Notes kept kept (FoundIn (EscapeAt func) (insts_of func))
nothing-escapes func kept none =
    notes-nothing kept (FoundIn (EscapeAt func) (insts_of func)) (λ line code found. found.faulty.2 (keeps-without_step func.content found.here none))
