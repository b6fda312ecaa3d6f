use Rattle.std.proofs.Common.{List, ℕ, Bool, ◌||◌, ◌&&◌, not, subst}
use Rattle.std.specs.List.{list_any}
use Rattle.ir_ast.specs.declared.types.Ty.{Ty}
use Rattle.ir_ast.specs.declared.ops.Operand.{Operand}
use Rattle.ir_ast.specs.Faults.PhiEdges.{is_phi}
use Rattle.live_sets.specs.Sets.{Changed}
use Rattle.live_sets.specs.Uses.{names, uses}
use Rattle.live_sets.proofs.SetLemmas.{line_back}
use Rattle.live_sets.proofs.uses.go_back.Goals as goal

pub returns : goal.returns
returns c =
    let marks = c.args.marks.now in
    let bases = c.args.bases.now in
    line_back marks (names c.args.to) (λ v. not (is_phi c.args.inst.now.op) && list_any (uses marks bases v) c.args.inst.now.operands)
    (λ v. list_any (λ (entry : Ty × Operand). uses marks bases v entry.1) c.args.inst.now.bundle) c.args.set.now c.take.new.set c.put_own.new.set c.put_bundle.new.set
    c.take.ensures c.in_ok-put_own.ensures
    (subst (λ (entries : List (Ty × Operand)). Changed marks c.put_own.new.set c.put_bundle.new.set (λ (v : ℕ) (old : Bool). list_any (λ (entry : Ty × Operand). uses marks bases v entry.1) entries || old))
    c.bundle.ensures c.in_ok-put_bundle.ensures)
