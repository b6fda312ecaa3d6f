use Rattle.std.proofs.Common.{◌≡◌, true, false, List, map, refl, sym, ap, ◌∙◌}
use Rattle.ir_ast.specs.declared.ops.Operand.{Operand}
use Rattle.object_meaning.specs.Registers.{operand, is_set}
use Rattle.object_store.specs.Words.{datum}
use Rattle.ir_meaning.specs.Machines.{rest_of}
use Rattle.ir_meaning.proofs.WordLemmas.{operand_is}
use Rattle.ir_meaning.proofs.CallLemmas.{jump_leads, branch_leads}
use Rattle.ir_meaning.proofs.machine.Machine.take.Goals as goal

pub jump-requires : goal.jump-requires
jump-requires c =
    jump_leads c.args.code.now c.args.plan.now c.args.bound c.args.self.now.stack (rest_of c.args.self.now) c.args.segment.now _ (rw c.in-Jump.is at c.requires.stands)

pub jump-requires-then-is_set : goal.jump-requires-then-is_set
jump-requires-then-is_set c =
    let registers = c.args.self.now.stack.running.registers in
    let s = rw c.in-Branch.is at c.requires.stands in
    let test : is_set (operand (map datum registers) c.args.segment.now.operands.items 0) ≡ true =
    sym (c.is_set.ensures ∙ ap is_set (ap datum c.operand.ensures ∙ operand_is registers c.as_slice.result.now 0 ∙ ap (λ (os : List Operand). operand (map datum registers) os 0) c.as_slice.ensures.value)) ∙ c.if-is_set.true in
    branch_leads c.args.code.now c.args.plan.now c.args.bound c.args.self.now.stack (rest_of c.args.self.now) c.args.segment.now _ _ _ 0 s (rw test refl) s.leaves.exit_is.1

pub jump-requires-else-is_set : goal.jump-requires-else-is_set
jump-requires-else-is_set c =
    let registers = c.args.self.now.stack.running.registers in
    let s = rw c.in-Branch.is at c.requires.stands in
    let test : is_set (operand (map datum registers) c.args.segment.now.operands.items 0) ≡ false =
    sym (c.is_set.ensures ∙ ap is_set (ap datum c.operand.ensures ∙ operand_is registers c.as_slice.result.now 0 ∙ ap (λ (os : List Operand). operand (map datum registers) os 0) c.as_slice.ensures.value)) ∙ c.if-is_set.false in
    branch_leads c.args.code.now c.args.plan.now c.args.bound c.args.self.now.stack (rest_of c.args.self.now) c.args.segment.now _ _ _ 1 s (rw test refl) s.leaves.exit_is.2

pub choose-requires : goal.choose-requires
choose-requires c =
    let s = rw c.in-Switch.is at c.requires.stands in
    record { stands = record { exit = _; stands = s; op = s.leaves.exit_is.0; edges_are = rw c.as_slice-in-Switch.ensures.value s.leaves.exit_is.1 } }
