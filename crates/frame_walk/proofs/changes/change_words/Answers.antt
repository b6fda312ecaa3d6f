use Rattle.std.proofs.Common.{◌≡◌, ℕ, ◌+◌, ◌-◌, ◌/◌, Some, length, take, drop, sym, ap, ◌∙◌, subst, arith}
use Rattle.std.proofs.lemmas.List.{length-drop, length-take-le}
use Rattle.frame_walk.specs.Walks.{frame_in, frame_words}
use Rattle.frame_walk.proofs.WalkLemmas.{frame_fits, put_length}
use Rattle.frame_walk.proofs.ChangeLemmas.{change_done, change_lost, change_more}
use Rattle.frame_walk.proofs.changes.change_words.Goals as goal

pub returns : goal.returns
returns g c =
    change_done g.row.C.Denot (g.M.FrameMap.found c.args.map.now) g.C.FrameChange.does c.args.address c.args.change.now c.args.words.now
    c.loop-next.place c.loop-next.next c.loop-next.change c.loop-next.words c.loop-next.invariant.so_far c.loop-next-test.false

pub returns-in-None : goal.returns-in-None
returns-in-None g c =
    change_lost g.row.C.Denot (g.M.FrameMap.found c.args.map.now) g.C.FrameChange.does c.args.address c.args.change.now c.args.words.now
    c.loop-next.place c.loop-next.next c.loop-next.change c.loop-next.words c.loop-next.invariant.so_far c.loop-next-test.true (sym c.in-None.ensures)

pub loop-next-preserved : goal.loop-next-preserved
loop-next-preserved g c =
    let found = g.M.FrameMap.found c.args.map.now in
    let one = g.M.Record.FrameRecord.entry c.in-Some.one in
    let i = c.loop-next.invariant in
    let words = c.loop-next.words in
    let place = c.loop-next.place in
    let is : frame_in (g.M.FrameMap.found c.args.map.now) c.loop-next.next (length c.loop-next.words - c.loop-next.place) ≡ Some (g.M.Record.FrameRecord.entry c.in-Some.one) = sym c.in-Some.ensures in
    let fits = frame_fits found c.loop-next.next (length words - place) one is in
    let k : c.loop-next.place + (g.M.Record.FrameRecord.entry c.in-Some.one).frame_bytes / 8 - c.loop-next.place ≡ (g.M.Record.FrameRecord.entry c.in-Some.one).frame_bytes / 8 = omega arith in
    let e : c.loop-next.place + c.frame_bytes.result / 8 - c.loop-next.place ≡ (g.M.Record.FrameRecord.entry c.in-Some.one).frame_bytes / 8 = rw c.frame_bytes.ensures k in
    let did = subst (λ (m : ℕ). g.C.FrameChange.does c.loop-next.change one (take m (drop place words)) c.change.new.words c.change.new.self) e c.change.ensures in
    let long = length-drop place words in
    let part : length (take ((g.M.Record.FrameRecord.entry c.in-Some.one).frame_bytes / 8) (drop c.loop-next.place c.loop-next.words)) ≡ (g.M.Record.FrameRecord.entry c.in-Some.one).frame_bytes / 8 =
    length-take-le (one.frame_bytes / 8) (drop place words) (omega arith) in
    let size : length c.change.new.words ≡ frame_words (g.M.Record.FrameRecord.entry c.in-Some.one) = c.change.auto.words ∙ ap (λ (m : ℕ). length (take m (drop place words))) e ∙ part in
    let whole = put_length place (frame_words one) words c.change.new.words (omega arith) size in
    rw (c.frame_bytes.ensures, k) (record {
      within = omega arith;
      so_far = change_more g.row.C.Denot found g.C.FrameChange.does c.args.address c.args.change.now c.args.words.now place c.loop-next.next c.loop-next.change words i.so_far
          c.change.new.words one c.change.new.self i.within c.loop-next-test.true is did size whole;
    })
