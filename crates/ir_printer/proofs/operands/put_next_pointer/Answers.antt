use Rattle.std.proofs.Common.{List, ℕ, ◌++◌, codes, OnOk, OnErr, refl, sym, subst, ◌∙◌}
use Rattle.ir_ast.specs.declared.types.Ty.TheVariants.{Ptr}
use Rattle.ir_printer.specs.Operands.{operand_at}
use Rattle.ir_printer.proofs.OperandLemmas.{typed_text-named}
use Rattle.ir_printer.proofs.operands.put_next_pointer.Goals as goal

pub returns-in-Value-clause-ok : goal.returns-in-Value-clause-ok
returns-in-Value-clause-ok g c =
    subst (λ (text : List ℕ). OnOk c.put_both.result (g.W.PieceSink.took c.args.out.now c.put_both.new.self (codes ", " ++ text)))
    (sym (typed_text-named c.args.scope.now Ptr (operand_at c.args.inst.now c.args.place) c.in-Value.value (codes "ptr addrspace(1)") c.value.result.now
    refl (sym c.operand_of.ensures ∙ c.in-Value.is) c.value.ensures))
    c.put_both.ensures.ok

pub returns-in-Value-clause-err : goal.returns-in-Value-clause-err
returns-in-Value-clause-err g c =
    subst (λ (text : List ℕ). OnErr c.put_both.result (g.W.PieceSink.failed_within c.args.out.now c.put_both.new.self (codes ", " ++ text)))
    (sym (typed_text-named c.args.scope.now Ptr (operand_at c.args.inst.now c.args.place) c.in-Value.value (codes "ptr addrspace(1)") c.value.result.now
    refl (sym c.operand_of.ensures ∙ c.in-Value.is) c.value.ensures))
    c.put_both.ensures.err
