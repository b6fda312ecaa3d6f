use Rattle.std.proofs.Common.{◌∙◌, ℕ, List, ap, sym, get_or}
use Rattle.version_walk.proofs.SlotLemmas.{set_same, logged_none}
use Rattle.version_walk.proofs.versions.Versions.give.Goals as goal

pub returns-then-before-number-clause-current : goal.returns-then-before-number-clause-current
returns-then-before-number-clause-current c =
    set_same c.args.self.now.current.items c.args.value.0 c.args.number
    (sym (c.at-before.ensures ∙ ap (λ (xs : List ℕ). get_or xs c.args.value.0 0) c.as_slice.ensures.value) ∙ c.if-before-number.true)

pub returns-then-before-number-clause-log : goal.returns-then-before-number-clause-log
returns-then-before-number-clause-log c = logged_none c.args.self.now
