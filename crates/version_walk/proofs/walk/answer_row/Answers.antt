use Rattle.std.proofs.Common.{◌∙◌, sym, refl, ap}
use Rattle.version_walk.specs.Slots.{answered, current_behind}
use Rattle.version_walk.proofs.ForestLemmas.{list_is}
use Rattle.version_walk.proofs.walk.answer_row.Goals as goal

pub returns : goal.returns
returns c =
    let row = sym (list_is c.args.rows.now.items c.args.block c.index_mut.result.now c.requires.block c.index_mut.ensures.value) in
    record {
      row = c.answer_all.new.row;
      rows = refl;
      answers = c.in_ok-answer_all.ensures.row ∙ ap (answered c.args.versions.now.current.items c.args.start) row;
      current = c.in_ok-answer_all.ensures.current ∙ ap (current_behind c.args.versions.now.current.items c.args.start) row;
      log = c.in_ok-answer_all.ensures.log;
    }
