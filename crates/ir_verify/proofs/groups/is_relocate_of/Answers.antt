use Rattle.std.proofs.Common.{◌≡◌, ◌∙◌, ℕ, sym, subst, true, false}
use Rattle.std.specs.Prelude.{slice_get, Option}
use Rattle.ir_verify.specs.Groups.{number_in, HaveEntries, seen_open}
use Rattle.ir_verify.proofs.GroupLemmas.{relocate-is, relocate-long, relocate-first, relocate-entries}
use Rattle.ir_verify.proofs.groups.is_relocate_of.Goals as goal

pub returns-then-operands-ne3 : goal.returns-then-operands-ne3
returns-then-operands-ne3 c = (
  (λ is. absurd (let bad : false ≡ true = is in cc)),
  (λ r. absurd (c.if-operands-ne3.true (relocate-long (seen_open c.args.group.now) c.args.inst.now c.operands-operands.result.now c.operands-operands.ensures r))),
)

pub returns-then-not-starts_with : goal.returns-then-not-starts_with
returns-then-not-starts_with c = (
  (λ is. absurd (let bad : false ≡ true = is in cc)),
  (λ r. sym c.if-not-starts_with.true ∙ c.starts_with.ensures
      ∙ relocate-first (seen_open c.args.group.now) c.args.inst.now c.operands-operands.result.now c.operands-operands.ensures r),
)

pub returns : goal.returns
returns c =
    let group = seen_open c.args.group.now in
    let inst = c.args.inst.now in
    let operands = c.operands-operands.result.now in
    let is = c.operands-operands.ensures in
    let base = c.number_at.ensures in
    let derived = c.number_at-2.ensures in (
      (λ t. relocate-is group inst operands is c.if-operands-ne3.false (sym c.starts_with.ensures ∙ c.if-not-starts_with.false)
          (subst (λ (d : Option ℕ). HaveEntries group (number_in (slice_get operands 1)) d) derived
          (subst (λ (b : Option ℕ). HaveEntries group b c.number_at-2.result) base (c.have_entries.ensures.0 t)))),
      (λ r. c.have_entries.ensures.1
          (subst (λ (b : Option ℕ). HaveEntries group b c.number_at-2.result) (sym base)
          (subst (λ (d : Option ℕ). HaveEntries group (number_in (slice_get operands 1)) d) (sym derived) (relocate-entries group inst operands is r)))),
    )
