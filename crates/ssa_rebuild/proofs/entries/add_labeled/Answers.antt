use Rattle.std.proofs.Common.{◌≡◌, ◌<◌, ◌≤◌, ◌⊎◌, inl, inr, ℕ, refl, arith, List, length, take, min, []}
use Rattle.std.proofs.lemmas.Bool.{cases_lt}
use Rattle.std.proofs.lemmas.Option.{slice_get-get_or}
use Rattle.sp_ids.specs.declared.ids.BlockId.{BlockId}
use Rattle.ir_ast.specs.declared.ops.Operand.{Operand}
use Rattle.ssa_rebuild.specs.Rows.{entries_for}
use Rattle.ssa_rebuild.proofs.RowLemmas.{grows_none, grows_both, grows_same, entries_more, entries_short}
use Rattle.ssa_rebuild.proofs.entries.add_labeled.Goals as goal

pub loop-place-init : goal.loop-place-init
loop-place-init c = grows_none c.args.rows.now.items _ (λ p within. nothing p c.args.labels.now c.args.operands.now)
  where
    nothing : (p : ℕ) (labels : List BlockId) (operands : List Operand) → entries_for p (take 0 labels) (take 0 operands) ≡ []
    nothing p labels operands = refl

pub loop-place-preserved : goal.loop-place-preserved
loop-place-preserved c =
    let place = c.loop-place.place in
    let labels = c.args.labels.now in
    let operands = c.args.operands.now in
    let one : place < length labels = omega (arith, c.loop-place-test.true, c.min-place-end.ensures) in
    let two : place < length operands = omega (arith, c.loop-place-test.true, c.min-place-end.ensures) in
    grows_both c.args.rows.now.items c.loop-place.rows.items c.add_entry.new.rows.items _ _ _ c.loop-place.invariant c.in_ok-add_entry.ensures
    (λ p. entries_more p place labels operands _ _ (slice_get-get_or labels place _ one) (slice_get-get_or operands place _ two))

pub returns : goal.returns
returns c = grows_same c.args.rows.now.items c.loop-place.rows.items _ _
    (λ p. entries_short p c.loop-place.place c.args.labels.now c.args.operands.now (shorter (length c.args.labels.now) (length c.args.operands.now) c.loop-place.place (omega (arith, c.min-place-end.ensures, c.loop-place-test.false))))
    c.loop-place.invariant
  where
    shorter : (m n k : ℕ) → min m n ≤ k → (m ≤ k) ⊎ (n ≤ k)
    shorter m n k le = elim (cases_lt k m) [ inl lt ↦ inr (omega (arith, le)) | inr ge ↦ inl (omega (arith, ge)) ]
