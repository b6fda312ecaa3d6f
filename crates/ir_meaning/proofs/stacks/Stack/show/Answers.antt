use Rattle.std.proofs.Common.{◌≡◌, List, OnOk, OnErr, length, min, reverse, take, ap, subst, ◌∙◌, arith, rules}
use Rattle.std.specs.Prelude.{vec_len}
use Rattle.std.specs.List.{All}
use Rattle.std.proofs.lemmas.List.{take_min}
use Rattle.piece_writer.specs.LinePuts.{IsShort, PutsFirst, PutsLines, told_by}
use Rattle.waiting_frames.specs.Frames.{Seen, frames_below}
use Rattle.waiting_frames.specs.Shown.{frames_lines}
use Rattle.ir_meaning.specs.Stacks.{Frames}
use Rattle.ir_meaning.proofs.stacks.Stack.show.Goals as goal

pub returns-clause-by_one_put : goal.returns-clause-by_one_put
returns-clause-by_one_put g c =
    let old = told_by g.O.Sink.written g.O.Sink.puts c.args.out.now in
    let new = told_by g.O.Sink.written g.O.Sink.puts c.show_frames.new.out in
    let saved = c.self.inside.saved.items in let registers = c.self.inside.registers.items in let base = c.self.inside.base in
    let counted : vec_len c.self.inside.registers ≡ length registers = search rules in
    let same : frames_below (reverse c.as_slice.result.now) (take c.min-at.result c.deref.result.now) ≡ c.args.self.now.below =
    ap (λ s. frames_below (reverse s) (take c.min-at.result c.deref.result.now)) c.as_slice.ensures.value
    ∙ (ap (λ r. frames_below (reverse saved) (take c.min-at.result r)) c.deref.ensures.value
    ∙ (ap (λ n. frames_below (reverse saved) (take n registers)) (c.min-at.ensures ∙ ap (min base) (c.len.ensures ∙ counted))
    ∙ (ap (frames_below (reverse saved)) (take_min base registers)
    ∙ ap (λ (frames : Frames). frames.below) c.self.view_is))) in
    subst (λ (seens : List Seen). All IsShort (frames_lines c.args.code.now 1 seens) → OnOk c.show_frames.result (PutsLines old new (frames_lines c.args.code.now 1 seens))) same
    c.show_frames.ensures.by_one_put

pub returns-clause-cut : goal.returns-clause-cut
returns-clause-cut g c =
    let old = told_by g.O.Sink.written g.O.Sink.puts c.args.out.now in
    let new = told_by g.O.Sink.written g.O.Sink.puts c.show_frames.new.out in
    let saved = c.self.inside.saved.items in let registers = c.self.inside.registers.items in let base = c.self.inside.base in
    let counted : vec_len c.self.inside.registers ≡ length registers = omega (arith, c.deref.ensures.len, ap length c.deref.ensures.value) in
    let same : frames_below (reverse c.as_slice.result.now) (take c.min-at.result c.deref.result.now) ≡ c.args.self.now.below =
    ap (λ s. frames_below (reverse s) (take c.min-at.result c.deref.result.now)) c.as_slice.ensures.value
    ∙ (ap (λ r. frames_below (reverse saved) (take c.min-at.result r)) c.deref.ensures.value
    ∙ (ap (λ n. frames_below (reverse saved) (take n registers)) (c.min-at.ensures ∙ ap (min base) (c.len.ensures ∙ counted))
    ∙ (ap (frames_below (reverse saved)) (take_min base registers)
    ∙ ap (λ (frames : Frames). frames.below) c.self.view_is))) in
    subst (λ (seens : List Seen). All IsShort (frames_lines c.args.code.now 1 seens) → OnErr c.show_frames.result (PutsFirst old new (frames_lines c.args.code.now 1 seens))) same
    c.show_frames.ensures.cut
