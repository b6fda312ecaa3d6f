use Rattle.std.proofs.Common.{◌≡◌, ℕ, ◌-◌, ◌≤◌, List, ◌<◌, length, map, drop, sym, ap, subst, ◌∙◌, arith}
use Rattle.ir_ast.specs.declared.ops.Operand.{Operand}
use Rattle.ir_ast.specs.Objects.{Datum}
use Rattle.object_meaning.specs.Jumps.{case_taken, label_at}
use Rattle.object_meaning.specs.Registers.{operand}
use Rattle.object_store.specs.Words.{datum}
use Rattle.flat_code.specs.Codes.{defined_at}
use Rattle.flat_code.specs.Edges.{IsEdge}
use Rattle.ir_meaning.specs.Machines.{rest_of}
use Rattle.ir_meaning.proofs.WordLemmas.{operand_is}
use Rattle.ir_meaning.proofs.CallLemmas.{switch_leads}
use Rattle.ir_meaning.proofs.machine.Machine.choose.Goals as goal

below_edges : (taken operands edges others : ℕ) → taken ≤ others - 1 → operands ≡ others → 1 ≤ edges → operands ≤ edges → taken < edges
below_edges taken operands edges others within same some enough = omega arith

pub bounds-edges-taken : goal.bounds-edges-taken
bounds-edges-taken c =
    let s = c.requires.stands in
    let same : length s.stands.leaves.line.inst.operands ≡ length c.as_slice-operands.result.now =
    ap (λ (xs : List Operand). length xs) (s.stands.leaves.operands_are ∙ sym c.as_slice-operands.ensures.value) in
    below_edges c.case_taken-taken.result (length s.stands.leaves.line.inst.operands) (length c.args.edges.now) (length c.as_slice-operands.result.now)
    c.case_taken-taken.ensures.within same s.edges_are.some s.edges_are.enough

pub jump-requires : goal.jump-requires
jump-requires c =
    let registers = c.args.self.now.stack.running.registers in let s = c.requires.stands in let os : List Operand = c.args.segment.now.operands.items in
    let value = ap datum c.operand.ensures ∙ operand_is registers c.as_slice-operands.result.now 0 in
    let taken : case_taken (operand (map datum registers) os 0) (drop 1 os) ≡ c.case_taken-taken.result =
    sym (c.case_taken-taken.ensures.value ∙ ap (λ (d : Datum). case_taken d (drop 1 c.as_slice-operands.result.now)) value
    ∙ ap (λ (xs : List Operand). case_taken (operand (map datum registers) xs 0) (drop 1 xs)) c.as_slice-operands.ensures.value) in
    let same : length s.stands.leaves.line.inst.operands ≡ length c.as_slice-operands.result.now =
    ap (λ (xs : List Operand). length xs) (s.stands.leaves.operands_are ∙ sym c.as_slice-operands.ensures.value) in
    let below = below_edges c.case_taken-taken.result (length s.stands.leaves.line.inst.operands) (length c.args.edges.now) (length c.as_slice-operands.result.now)
    c.case_taken-taken.ensures.within same s.edges_are.some s.edges_are.enough in
    let is = s.edges_are.each c.case_taken-taken.result c.index-edges-taken.result below in
    switch_leads c.args.code.now c.args.plan.now c.args.bound c.args.self.now.stack (rest_of c.args.self.now) c.args.segment.now c.args.edges.now c.index-edges-taken.result c.case_taken-taken.result s taken
    (subst (IsEdge (defined_at c.args.code.now c.args.self.now.stack.running.spot.func) c.args.segment.now.start.block (label_at s.stands.leaves.line.inst.labels c.case_taken-taken.result)) (sym c.index-edges-taken.is) is)
