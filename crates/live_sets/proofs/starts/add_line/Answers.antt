use Rattle.std.proofs.Common.{ap, sym, List, ℕ, ◌++◌}
use Rattle.std.specs.List.{flat_map}
use Rattle.std.proofs.lemmas.Result.{IfOk-weaker}
use Rattle.ir_ast.specs.declared.types.Ty.{Ty}
use Rattle.ir_ast.specs.declared.ops.Operand.{Operand}
use Rattle.live_sets.specs.Starts.{Grown, adds, own_adds, line_adds}
use Rattle.live_sets.proofs.StartLemmas.{grown_both}
use Rattle.live_sets.proofs.starts.add_line.Goals as goal

pub returns : goal.returns
returns c =
    let marks = c.args.marks.now in
    let bases = c.args.bases.now in
    let spot = c.args.spot in
    let inst = c.args.inst.now in
    IfOk-weaker c.add_bundle.result
    (λ _. Grown c.args.wanted.now c.add_own.new.starts.items c.add_bundle.new.starts.items (λ (v : ℕ). flat_map (λ (entry : Ty × Operand). adds marks bases spot v entry.1) c.bundle.result.now))
    (λ _. Grown c.args.wanted.now c.args.starts.now.items c.add_bundle.new.starts.items (λ (v : ℕ). line_adds marks bases spot v inst))
    (λ _ second. grown_both c.args.wanted.now c.args.starts.now.items c.add_own.new.starts.items c.add_bundle.new.starts.items (λ (v : ℕ). own_adds marks bases spot v inst)
    (λ (v : ℕ). flat_map (λ (entry : Ty × Operand). adds marks bases spot v entry.1) c.bundle.result.now) (λ (v : ℕ). line_adds marks bases spot v inst)
    c.in_ok-add_own.ensures second
    (λ v. ap (λ (es : List (Ty × Operand)). own_adds marks bases spot v inst ++ flat_map (λ (entry : Ty × Operand). adds marks bases spot v entry.1) es) (sym c.bundle.ensures)))
    c.add_bundle.ensures
