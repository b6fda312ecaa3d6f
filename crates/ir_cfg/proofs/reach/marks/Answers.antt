use Rattle.ir_cfg.proofs.PathLemmas.{numbers_inside, marks_from_numbers}
use Rattle.ir_cfg.proofs.reach.marks.Goals as goal

pub reached_from-requires : goal.reached_from-requires
reached_from-requires c = record { inside = numbers_inside c.args.succs.now c.requires.inside c.requires.entry }

pub returns : goal.returns
returns c = marks_from_numbers c.args.succs.now c.in_ok-reached_from.field-0.items c.in_ok-reached_from.ensures.marks
