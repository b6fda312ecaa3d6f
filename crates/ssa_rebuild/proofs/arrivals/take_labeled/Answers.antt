use Rattle.std.proofs.Common.{◌≡◌, ◌<◌, ◌≤◌, ◌⊎◌, inl, inr, ℕ, refl, arith, List, length, take, min, []}
use Rattle.std.proofs.lemmas.Bool.{cases_lt}
use Rattle.std.proofs.lemmas.Option.{slice_get-get_or}
use Rattle.sp_ids.specs.declared.ids.BlockId.{BlockId}
use Rattle.ir_ast.specs.declared.ops.Operand.{Operand}
use Rattle.ssa_rebuild.specs.Rows.{entries_for}
use Rattle.ssa_rebuild.proofs.RowLemmas.{entries_more, entries_short}
use Rattle.ssa_rebuild.proofs.TakeLemmas.{takes_none, takes_both, takes_same, labeled_more, labeled_short}
use Rattle.ssa_rebuild.proofs.arrivals.take_labeled.Goals as goal

pub loop-place-init : goal.loop-place-init
loop-place-init c = takes_none c.args.rows.now c.args.arrivals.now _ _ (λ p. nothing p c.args.labels.now c.args.operands.now) (λ here. refl)
  where
    nothing : (p : ℕ) (labels : List BlockId) (operands : List Operand) → entries_for p (take 0 labels) (take 0 operands) ≡ []
    nothing p labels operands = refl

pub loop-place-preserved : goal.loop-place-preserved
loop-place-preserved c =
    let place = c.loop-place.place in
    let labels = c.args.labels.now in
    let operands = c.args.operands.now in
    let one : place < length labels = omega (arith, c.loop-place-test.true, c.min-place-end.ensures) in
    let two : place < length operands = omega (arith, c.loop-place-test.true, c.min-place-end.ensures) in
    takes_both c.args.rows.now c.args.arrivals.now c.loop-place.arrivals c.take_entry.new.arrivals _ _ _ _ _ _ c.loop-place.invariant c.in_ok-take_entry.ensures
    (λ p. entries_more p place labels operands _ _ (slice_get-get_or labels place _ one) (slice_get-get_or operands place _ two))
    (λ here. labeled_more here place labels operands _ _ (slice_get-get_or labels place _ one) (slice_get-get_or operands place _ two))

pub returns : goal.returns
returns c =
    let past = shorter (length c.args.labels.now) (length c.args.operands.now) c.loop-place.place (omega (arith, c.min-place-end.ensures, c.loop-place-test.false)) in
    takes_same c.args.rows.now c.args.arrivals.now c.loop-place.arrivals _ _ _ _
    (λ p. entries_short p c.loop-place.place c.args.labels.now c.args.operands.now past)
    (λ here. labeled_short here c.loop-place.place c.args.labels.now c.args.operands.now past)
    c.loop-place.invariant
  where
    shorter : (m n k : ℕ) → min m n ≤ k → (m ≤ k) ⊎ (n ≤ k)
    shorter m n k le = elim (cases_lt k m) [ inl lt ↦ inr (omega (arith, le)) | inr ge ↦ inl (omega (arith, ge)) ]
