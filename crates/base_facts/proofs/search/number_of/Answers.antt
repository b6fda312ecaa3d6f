use Rattle.std.proofs.Common.{◌≡◌, ◌+◌, ◌∙◌, ℕ, ap, length, arith, cond, true, refl}
use Rattle.base_facts.proofs.AskedLemmas.{numbered_new}
use Rattle.base_facts.proofs.search.number_of.Goals as goal

pub returns : goal.returns
returns c =
    let is_new : c.in_ok-number.is_new ≡ true = cc (c.if-not-is_new.false) in
    let long : length c.insert_full.new.self.keys ≡ length c.args.asked.now.facts.keys + 1 =
    c.in_ok-number.ensures.len ∙ ap (λ b. length c.args.asked.now.facts.keys + cond {A = ℕ} b 1 0) is_new in
    numbered_new c.args.fact _ _ c.args.asked.now _ c.new.result c.in_ok-number.ensures.keys long c.in_ok-push.ensures.items c.new.ensures.items refl
    (omega (arith, c.len-next.ensures, c.args.asked.now.askers.ok.0)) c.requires
