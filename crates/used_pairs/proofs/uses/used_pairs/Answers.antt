use Rattle.std.proofs.Common.{◌≡◌, ℕ, List, sym, ap, subst, length, arith}
use Rattle.used_pairs.specs.declared.uses.UsedPair.{UsedPair}
use Rattle.used_pairs.specs.Lists.{AreUsed}
use Rattle.used_pairs.proofs.UseLemmas.{used_none, used_all}
use Rattle.used_pairs.proofs.uses.used_pairs.Goals as goal

pub loop-number-init : goal.loop-number-init
loop-number-init c =
    subst (λ (used : List UsedPair). AreUsed c.args.func.now.content 0 0 used) (sym c.new-used.ensures.items) (used_none c.args.func.now.content)

pub returns : goal.returns
returns c =
    let func = c.args.func.now.content in
    let count : length c.blocks-block-items.result.now ≡ length func.blocks = ap length c.blocks-block-items.ensures.value in
    let all : c.loop-number.number ≡ length func.blocks = omega arith in
    used_all func c.loop-number.used.items (subst (λ (n : ℕ). AreUsed func n 0 c.loop-number.used.items) all c.loop-number.invariant)
