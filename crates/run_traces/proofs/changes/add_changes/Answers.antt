use Rattle.std.proofs.Common.{◌≡◌, ◌++◌, ◌+◌, ◌-◌, ◌/◌, ◌<◌, ℕ, List, length, drop, map, sym, ap, ◌∙◌, arith}
use Rattle.std.specs.Prelude.{min}
use Rattle.machine_meaning.specs.Happenings.{changes_from, frame_changes}
use Rattle.run_traces.specs.Changes.{change_of}
use Rattle.run_traces.proofs.ChangeLemmas.{last_frame, next_frame}
use Rattle.run_traces.proofs.changes.add_changes.Goals as goal

pub returns-then-count-left : goal.returns-then-count-left
returns-then-count-left g c =
    let found = g.M.FrameMap.found c.args.index.now in
    let one = g.M.Record.FrameRecord.entry c.in-Some.one in
    let items = map change_of c.frames.changes.items in
    let stack = c.args.stack.now in
    let moves = c.args.moves.now.moves in
    let i = c.frames.invariant in
    let least : c.min-count.result ≡ min ((g.M.Record.FrameRecord.entry c.in-Some.one).frame_bytes / 8) (length c.args.stack.now - c.frames.place) =
    rw (c.frame_bytes.ensures, c.len-in-frames.ensures) at c.min-count.ensures in
    let whole : c.min-count.result ≡ length c.args.stack.now - c.frames.place = omega (arith, c.if-count-left.true, c.len-in-frames.ensures) in
    last_frame found moves c.args.task c.frames.frame c.frames.next stack c.frames.place one c.frames-test.true (sym c.in-Some.ensures) i.within items (map change_of c.add_frame.new.changes.items)
    (map change_of c.args.changes.now.items ++ changes_from (length stack + 1) found moves c.args.task 0 c.args.address stack)
    (length stack - c.frames.frame) c.min-count.result least whole
    (c.in_ok-add_frame.ensures ∙ ap (λ (words : List ℕ). items ++ frame_changes moves c.args.task c.frames.frame one words) c.in_ok-copy_words.ensures)
    i.so_far

pub frames-preserved : goal.frames-preserved
frames-preserved g c =
    let found = g.M.FrameMap.found c.args.index.now in
    let one = g.M.Record.FrameRecord.entry c.in-Some.one in
    let items = map change_of c.frames.changes.items in
    let stack = c.args.stack.now in
    let moves = c.args.moves.now.moves in
    let i = c.frames.invariant in
    let least : c.min-count.result ≡ min ((g.M.Record.FrameRecord.entry c.in-Some.one).frame_bytes / 8) (length c.args.stack.now - c.frames.place) =
    rw (c.frame_bytes.ensures, c.len-in-frames.ensures) at c.min-count.ensures in
    let short : c.min-count.result < length c.args.stack.now - c.frames.place = omega (arith, c.if-count-left.false, c.len-in-frames.ensures, least) in
    let fuel : length c.args.stack.now - (c.frames.frame + 1) + 1 ≡ length c.args.stack.now - c.frames.frame = omega (arith, i.frames, short) in
    record {
      within = omega (arith, short, i.within);
      frames = omega (arith, i.frames);
      so_far = ap (λ (n : ℕ). map change_of c.add_frame.new.changes.items ++ changes_from n found moves c.args.task (c.frames.frame + 1) c.word-next.result (drop (c.frames.place + c.min-count.result + 1) stack)) fuel
          ∙ next_frame found moves c.args.task c.frames.frame c.frames.next stack c.frames.place one c.frames-test.true (sym c.in-Some.ensures) i.within items (map change_of c.add_frame.new.changes.items)
          (map change_of c.args.changes.now.items ++ changes_from (length stack + 1) found moves c.args.task 0 c.args.address stack)
          (length stack - c.frames.frame) c.min-count.result c.word-next.result least short c.word-next.ensures
          (c.in_ok-add_frame.ensures ∙ ap (λ (words : List ℕ). items ++ frame_changes moves c.args.task c.frames.frame one words) c.in_ok-copy_words.ensures)
          i.so_far;
    }
