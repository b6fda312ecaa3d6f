use Rattle.std.proofs.Common.{◌≡◌, ℕ, ◌<◌, length, ap, sym, subst, arith, ◌∙◌}
use Rattle.std.specs.List.{All}
use Rattle.sp_ids.specs.declared.ids.BlockId.{BlockId}
use Rattle.ir_cfg.specs.Graphs.{labels_of}
use Rattle.ir_cfg.specs.Filled.{AreCounts}
use Rattle.ir_cfg.proofs.CountLemmas.{labels_inside, sum_of_counts}
use Rattle.ir_cfg.proofs.TurnLemmas.{ends_of}
use Rattle.ir_cfg.proofs.turned.ends.Goals as goal

pub counts-requires : goal.counts-requires
counts-requires c = rw (c.items-labels.ensures, c.len.ensures) (labels_inside c.args.succs.now c.requires)

pub add_up-requires : goal.add_up-requires
add_up-requires c =
    let counts = c.in_ok-ends.ends.items in
    let many : length counts ≡ length c.args.succs.now = c.in_ok-ends.ensures.whole ∙ c.len.ensures in
    let are : AreCounts (labels_of c.args.succs.now) counts = rw (← c.items-labels.ensures) c.in_ok-ends.ensures.counts in
    let inside : All (λ (label : BlockId). label.0 < length counts) (labels_of c.args.succs.now) =
    subst (λ (n : ℕ). All (λ (label : BlockId). label.0 < n) (labels_of c.args.succs.now)) (sym many) (labels_inside c.args.succs.now c.requires) in
    let all = sum_of_counts (labels_of c.args.succs.now) counts are inside in
    let long = ap length c.items-labels.ensures in
    omega (arith, all, long)

pub returns : goal.returns
returns c =
    let counts = c.in_ok-ends.ends.items in
    let many : length counts ≡ length c.args.succs.now = c.in_ok-ends.ensures.whole ∙ c.len.ensures in
    let are : AreCounts (labels_of c.args.succs.now) counts = rw (← c.items-labels.ensures) c.in_ok-ends.ensures.counts in
    ends_of c.args.succs.now counts c.add_up.new.counts.items c.requires many are c.add_up.ensures
