use Rattle.std.proofs.Common.{◌≡◌, ◌++◌, List, ℕ, map, ap, ◌∙◌}
use Rattle.frame_walk.specs.Maps.{pairs_of}
use Rattle.frame_walk.specs.Walks.{frame_after, slot_write, write_slots}
use Rattle.machine_meaning.specs.Happenings.{slot_change}
use Rattle.run_traces.proofs.ChangeLemmas.{written_back}
use Rattle.run_traces.proofs.frames.add_frame.Goals as goal

pub returns : goal.returns
returns g c =
    let before = c.args.room.now.before.items in
    let one = g.R.FrameRecord.entry c.args.one.now in
    let moves = c.args.moves.now.moves in
    let task = c.args.task in let frame = c.args.frame in
    let copied : c.as_mut_slice.result.now ≡ c.args.room.now.before.items =
    c.as_mut_slice.ensures.value ∙ (c.in_ok-extend_from_slice.ensures.items ∙ (ap (λ (l : List ℕ). l ++ c.as_slice.result.now) c.clear.ensures.items ∙ c.as_slice.ensures.value)) in
    let changed : c.change_slots.new.words ≡ frame_after c.args.moves.now.moves (g.R.FrameRecord.entry c.args.one.now) c.args.room.now.before.items =
    c.change_slots.ensures
    ∙ (ap (λ (l : List ℕ). write_slots (map (slot_write moves l) (pairs_of one)) c.as_mut_slice.result.now) c.as_slice-2.ensures.value
    ∙ ap (λ (l : List ℕ). write_slots (map (slot_write moves before) (pairs_of one)) l) copied) in
    let after : c.as_slice-4.result.now ≡ frame_after c.args.moves.now.moves (g.R.FrameRecord.entry c.args.one.now) c.args.room.now.before.items =
    c.as_slice-4.ensures.value
    ∙ (written_back c.extend_from_slice.new.self.len c.extend_from_slice.new.self.items c.as_mut_slice.result.now c.change_slots.new.words c.as_mut_slice.ensures.value c.change_slots.auto.words
    c.extend_from_slice.new.self.ok.0 ∙ changed) in
    let both = ap (λ (l : List ℕ). map (slot_change task frame l c.as_slice-4.result.now) (pairs_of one)) c.as_slice-3.ensures.value
    ∙ ap (λ (l : List ℕ). map (slot_change task frame before l) (pairs_of one)) after in
    rw both at c.add_pairs.ensures
