use Rattle.std.proofs.Common.{◌∙◌, ◌≡◌, ◌<◌, ◌++◌, ℕ, Bool, true, false, length, map, sym, refl, ap, subst, List, arith, length-append}
use Rattle.std.specs.Prelude.{slice_index_or}
use Rattle.std.proofs.lemmas.List.{length-map}
use Rattle.std.proofs.lemmas.Option.{slice_get_within}
use Rattle.version_walk.specs.Forest.{list_at}
use Rattle.version_walk.specs.Walks.{AnswersRow, awaiting}
use Rattle.version_walk.proofs.ForestLemmas.{list_is}
use Rattle.version_walk.proofs.WalkLemmas.{walk_past, walk_on, weight_less, room_kept, mark_there, mark_is, last_within}
use Rattle.version_walk.proofs.walk.Walk.enter.Goals as goal

pub returns-then-is_done-clause-walk : goal.returns-then-is_done-clause-walk
returns-then-is_done-clause-walk c parents own rows whole are is =
    let done = c.args.self.now.done.items in
    let block = c.args.next.block in
    let mark = ap (λ (marks : List Bool). slice_index_or marks block true) (sym c.as_slice.ensures.value) ∙ sym c.is_done.ensures ∙ c.if-is_done.true in
    let there = last_within parents _ c.args.self.now.pending.items c.args.next _ _ _ _ is in
    walk_past parents _ c.args.self.now.pending.items c.args.next _ _ _ done (mark_is done block (omega (arith, there, whole, c.requires.sized.done)) mark) is

pub returns-clause-room : goal.returns-clause-room
returns-clause-room c =
    let block = c.args.next.block in
    let mark = ap (λ (marks : List Bool). slice_index_or marks block true) (sym c.as_slice.ensures.value) ∙ sym c.is_done.ensures ∙ c.if-is_done.false in
    let undone = mark_there c.args.self.now.done.items block mark in
    let within = slice_get_within c.args.self.now.done.items block false undone in
    room_kept c.args.starts.now block c.args.self.now.rows.items c.answer_row.new.rows.items c.take_back.new.self c.answer_row.new.versions c.at-start.result
    c.in_ok-answer_row.ensures (omega (arith, within, c.requires.sized.done, c.requires.sized.rows)) c.requires.room

pub returns-clause-walk : goal.returns-clause-walk
returns-clause-walk c parents own rows whole are is =
    let block = c.args.next.block in
    let children = c.args.forest.now.children.items in
    let mark = ap (λ (marks : List Bool). slice_index_or marks block true) (sym c.as_slice.ensures.value) ∙ sym c.is_done.ensures ∙ c.if-is_done.false in
    let undone = mark_there c.args.self.now.done.items block mark in
    let within = slice_get_within c.args.self.now.done.items block false undone in
    let depth : c.len-depth.result ≡ length c.answer_row.new.versions.log.items = omega (arith, c.len-depth.ensures) in
    let blocks : c.as_slice-2.result.now ≡ list_at children block = c.as_slice-2.ensures.value
    ∙ sym (list_is children block c.index.result.now (omega (arith, within, c.requires.sized.done)) c.index.ensures) in
    let awaited = c.in_ok-await_all.ensures
    ∙ ap (λ (n : ℕ). c.args.self.now.pending.items ++ map (awaiting n) c.as_slice-2.result.now) depth
    ∙ ap (λ (bs : List ℕ). c.args.self.now.pending.items ++ map (awaiting (length c.answer_row.new.versions.log.items)) bs) blocks in
    let answers = subst (λ (n : ℕ). AnswersRow block n c.args.self.now.rows.items c.answer_row.new.rows.items c.take_back.new.self c.answer_row.new.versions)
    c.at-start.ensures c.in_ok-answer_row.ensures in
    walk_on parents (record { starts = c.args.starts.now; own = own; rows = rows }) children c.args.self.now.pending.items c.args.next
    c.args.self.now.versions.current.items c.args.self.now.versions.log.items c.args.self.now.rows.items c.answer_row.new.rows.items c.args.self.now.done.items
    _ c.await_all.new.pending.items c.take_back.new.self c.answer_row.new.versions are is undone c.take_back.ensures.log c.take_back.ensures.current answers refl awaited
    (omega (arith, within, c.requires.sized.done, c.requires.sized.rows))

pub returns-clause-less : goal.returns-clause-less
returns-clause-less c =
    let block = c.args.next.block in
    let children = c.args.forest.now.children.items in
    let mark = ap (λ (marks : List Bool). slice_index_or marks block true) (sym c.as_slice.ensures.value) ∙ sym c.is_done.ensures ∙ c.if-is_done.false in
    let undone = mark_there c.args.self.now.done.items block mark in
    let within = slice_get_within c.args.self.now.done.items block false undone in
    let there : block < length children = omega (arith, within, c.requires.sized.done) in
    let blocks = ap length (c.as_slice-2.ensures.value ∙ sym (list_is children block c.index.result.now there c.index.ensures)) in
    let less = weight_less c.args.self.now.done.items children block undone there in
    let grown = ap length c.in_ok-await_all.ensures ∙ length-append c.args.self.now.pending.items (map (awaiting c.len-depth.result) c.as_slice-2.result.now) in
    let same = length-map c.as_slice-2.result.now (awaiting c.len-depth.result) in
    omega (arith, less, grown, same, blocks)
