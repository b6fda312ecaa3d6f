use Rattle.ir_ast.specs.Faults.NoMain.{HasMain}
use Rattle.ir_resolve.specs.Resolved.{Resolved}
use Rattle.ir_resolve.specs.ModuleFaults.{HasModuleFault}
use Rattle.ir_lines.proofs.NoteLemmas.{Either, notes-then, notes-same, not-iff}
use Rattle.ir_verify.specs.Founds.{FoundIn}
use Rattle.ir_verify.specs.FunctionFaults.{At, FunctionAt}
use Rattle.ir_verify.proofs.Founds.{notes-at}
use Rattle.ir_verify.proofs.Union.{AreFuncs, module-found, found-module}
use Rattle.ir_verify.proofs.verify.first_broken.Goals as goal

pub returns : goal.returns
returns c =
    let content = c.args.module.now.content in
    let text : Resolved = record { whole = c.args.module.now; cases = c.args.cases.now } in
    let funcs = c.funcs.result.now in
    let are : AreFuncs text funcs = record { content = c.funcs.ensures.content; lines = c.funcs.ensures.lines } in
    let f = c.args.noted in
    let g = c.note_if.new.self.found in
    let h = c.note_functions.new.first.found in
    notes-same f h (Either (At 11 0 (¬ HasMain content)) (FoundIn (FunctionAt content text.cases) funcs)) (λ l code. HasModuleFault text l code)
    (λ l code found. found-module text funcs are l code found) (λ l code fault. module-found text funcs are l code fault)
    (notes-then f g h (At 11 0 (¬ HasMain content)) (FoundIn (FunctionAt content text.cases) funcs)
    (notes-at 0 11 _ _ f g (not-iff (HasMain content) c.has_main.result c.has_main.ensures) c.note_if.ensures) c.in_ok-note_functions.ensures)
