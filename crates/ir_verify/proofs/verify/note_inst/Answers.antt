use Rattle.std.proofs.Common.{◌∙◌, sym}
use Rattle.ir_ast.specs.Scope.{scope_of}
use Rattle.ir_resolve.specs.ModuleFaults.{IsTypedBesidesCalls}
use Rattle.ir_lines.proofs.NoteLemmas.{Either, notes-then, not-iff}
use Rattle.ir_verify.specs.FunctionFaults.{TypeFault, OrderFault, PartFault, CaseFault, EntryFault}
use Rattle.ir_verify.proofs.Founds.{notes-at}
use Rattle.ir_verify.proofs.verify.note_inst.Goals as goal

pub returns : goal.returns
returns c =
    let content = c.args.module.now.content in
    let func = c.args.func.now.content in
    let line = c.args.line in
    let cases = c.args.cases.now in
    let inst = c.args.inst.now in
    let f = c.args.first.now.found in
    let g = c.note_if.new.self.found in
    let h = c.note_if-2.new.self.found in
    let i = c.note_cases.new.first.found in
    let j = c.note_entry.new.first.found in
    notes-then f g j (TypeFault content func line inst) (Either (OrderFault line inst) (PartFault line cases inst))
    (notes-at line 5 _ _ f g (not-iff (IsTypedBesidesCalls (scope_of content func) inst) c.is_typed.result c.is_typed.ensures) c.note_if.ensures)
    (notes-then g h j (OrderFault line inst) (PartFault line cases inst)
    (notes-at line 15 c.orders_pointers.result _ g h ((λ t. sym c.orders_pointers.ensures ∙ t), (λ e. c.orders_pointers.ensures ∙ e)) c.note_if-2.ensures)
    (notes-then h i j (CaseFault line cases inst) (EntryFault line cases inst) c.in_ok-note_cases.ensures c.note_entry.ensures))
