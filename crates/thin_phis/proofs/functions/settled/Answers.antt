use Rattle.std.proofs.Common.{◌≡◌, ◌∙◌, ℕ, List, ap, sym, subst}
use Rattle.std.specs.Global.{Vec}
use Rattle.sp_ids.specs.declared.ids.ValueId.{ValueId}
use Rattle.phi_webs.specs.Webs.{Phi}
use Rattle.phi_webs.specs.Settled.{AnswersBecomes, web_of}
use Rattle.version_walk.specs.declared.slots.Slot.{Slot}
use Rattle.thin_phis.specs.Runs.{web_in}
use Rattle.thin_phis.proofs.functions.settled.Goals as goal

pub returns : goal.returns
returns c =
    let versions = c.args.versions.now in
    let graph = c.args.cfg.now in
    let blocks = c.args.func.now.content.blocks in
    let web : web_of c.as_slice-4.result.now ≡ web_in versions.joins.items versions.rows.items graph versions.entries.items 0 blocks =
    ap web_of c.as_slice-4.ensures.value ∙ c.in_ok-web.ensures
    ∙ ap (λ (js : List (Vec ValueId)). web_in js c.as_slice-2.result.now graph c.as_slice-3.result.now 0 blocks) c.as_slice.ensures.value
    ∙ ap (λ (rs : List (Vec Slot)). web_in versions.joins.items rs graph c.as_slice-3.result.now 0 blocks) c.as_slice-2.ensures.value
    ∙ ap (λ (ns : List ℕ). web_in versions.joins.items versions.rows.items graph ns 0 blocks) c.as_slice-3.ensures.value in
    subst (λ (phis : List (Phi ℕ)). AnswersBecomes phis c.in_ok-numbers.numbers) web
    (subst (λ (ends : List ℕ). AnswersBecomes (web_of c.as_slice-4.result.now) ends) (sym c.in_ok-numbers.ensures) c.in_ok-ends.ensures.becomes)
