use Rattle.std.proofs.Common.{◌≡◌, ◌∙◌, ℕ, ap, refl, length}
use Rattle.std.proofs.lemmas.Option.{slice_get_within}
use Rattle.pair_facts.specs.Lines.{lines_at}
use Rattle.base_facts.specs.declared.facts.Fact.{Fact}
use Rattle.base_facts.proofs.SourceLemmas.{can_ask_behind, behind_closed}
use Rattle.base_facts.proofs.closing.ask_behind.Goals as goal
use Rattle.std.proofs.lemmas.Result.{IfOk-weaker}

pub ask-requires : goal.ask-requires
ask-requires c =
    let func = c.args.func.now.content in
    let end : c.count_insts-place.result ≡ length (lines_at func c.args.block) = c.count_insts-place.ensures ∙ ap (λ (b : ℕ). length (lines_at func b)) c.block_id.ensures in
    let other : Fact = record { block = c.args.block; place = c.count_insts-place.result; pointer = c.args.fact.pointer; base = c.args.fact.base } in
    let can = can_ask_behind func c.args.asked.now c.args.number c.args.fact other c.args.block c.count_insts-place.result c.requires.front
    (c.requires.asked.reached c.args.number c.args.fact c.requires.stands) c.requires.source c.requires.stands end refl in
    record {
      tables = c.requires.tables;
      place = can.place;
      outside = can.outside;
      reached = can.reached;
      asked = c.requires.asked;
      inside = slice_get_within c.args.asked.now.facts.keys c.args.number c.args.fact c.requires.stands;
      misses = can.misses;
    }

pub returns : goal.returns
returns c =
    let func = c.args.func.now.content in
    let end : c.count_insts-place.result ≡ length (lines_at func c.args.block) = c.count_insts-place.ensures ∙ ap (λ (b : ℕ). length (lines_at func b)) c.block_id.ensures in
    let other : Fact = record { block = c.args.block; place = c.count_insts-place.result; pointer = c.args.fact.pointer; base = c.args.fact.base } in
    IfOk-weaker c.ask.result _ _
    (λ x has. behind_closed func c.args.number c.args.fact other c.args.block c.count_insts-place.result c.args.asked.now c.ask.new.asked c.requires.front c.requires.source end refl has)
    c.ask.ensures
