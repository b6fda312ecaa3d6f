use Rattle.std.proofs.Common.{◌≡◌, refl, sym, []}
use Rattle.std.proofs.lemmas.Result.{on_ok_weaker}
use Rattle.object_meaning.specs.Lines.{poll}
use Rattle.flat_code.specs.declared.spots.Due.TheVariants.{Behind}
use Rattle.flat_code.specs.declared.spots.Spot.{Spot}
use Rattle.flat_code.proofs.LineLemmas.{at_line, at_poll, at_behind}
use Rattle.flat_code.proofs.decode.take_poll.Goals as goal

pub returns-then-not-retreats-clause-stands : goal.returns-then-not-retreats-clause-stands
returns-then-not-retreats-clause-stands c =
    at_line c.args.source.now.defined c.args.draft.now.spot c.args.inst.now c.requires.due c.requires.there (sym c.if-not-retreats.ensures)

pub leave-requires-clause-exit : goal.leave-requires-clause-exit
leave-requires-clause-exit c = record {
  line = poll;
  is = at_poll c.args.source.now.defined c.args.draft.now.spot c.args.inst.now c.requires.due c.requires.there (sym c.if-not-retreats.ensures);
  block = refl;
  to_is = refl;
  operands_are = sym c.new.ensures.items;
  exit_is = record { types = []; is = refl };
}

pub returns-clause-stands : goal.returns-clause-stands
returns-clause-stands c =
    let behind : Spot = record c.args.draft.now.spot { due = Behind } in
    on_ok_weaker c.leave.result
    (λ (e : c.leave.new.draft.spot ≡ behind). rw e (at_behind c.args.source.now.defined behind c.args.inst.now refl c.requires.there))
    c.leave.ensures.spot
