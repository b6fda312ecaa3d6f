use Rattle.std.proofs.Common.{◌≡◌, ◌<◌, ap, arith, sym, subst, ℕ, length, add-one}
use Rattle.std.proofs.lemmas.Option.{slice_get_within}
use Rattle.pair_facts.specs.Lines.{lines_at}
use Rattle.fact_tables.specs.Notes.{head_before}
use Rattle.fact_tables.proofs.InstLemmas.{count_lines}
use Rattle.fact_tables.specs.Groups.{IsGroupOf}
use Rattle.statepoint_verify.specs.Marks.{AreMarked}
use Rattle.statepoint_verify.proofs.MarkLemmas.{marked_more, marked_next}
use Rattle.statepoint_verify.proofs.lines.mark_block.Goals as goal

pub group_here-requires-clause-place : goal.group_here-requires-clause-place
group_here-requires-clause-place c =
    omega (arith, count_lines c.args.func.now.content c.args.number c.args.block.now c.requires.block, ap length c.insts-place-end.ensures.value)

pub mark_line-requires-clause-block : goal.mark_line-requires-clause-block
mark_line-requires-clause-block c = slice_get_within c.args.func.now.content.blocks c.args.number c.args.block.now c.requires.block

pub mark_line-requires-clause-place : goal.mark_line-requires-clause-place
mark_line-requires-clause-place c =
    omega (arith, count_lines c.args.func.now.content c.args.number c.args.block.now c.requires.block, ap length c.insts-place-end.ensures.value)

pub loop-place-preserved : goal.loop-place-preserved
loop-place-preserved c =
    let func = c.args.func.now.content in
    let number = c.args.number in
    let lines = lines_at func number in
    let place = c.loop-place.place in
    let below : place < length lines = omega (arith, count_lines func number c.args.block.now c.requires.block, ap length c.insts-place-end.ensures.value) in
    record {
      group = subst (λ (n : ℕ). IsGroupOf lines (head_before lines n) c.in_ok-group.group) (sym (add-one place)) c.in_ok-group.ensures;
      marks = marked_more func number place c.is_reached-reached.result c.loop-place.marks.items c.mark_line.new.marks.items below
          c.is_reached-reached.ensures.0 c.is_reached-reached.ensures.1 c.in_ok-mark_line.ensures c.loop-place.invariant.marks;
    }

pub returns : goal.returns
returns c =
    let func = c.args.func.now.content in
    let count : length c.insts-place-end.result.now ≡ length c.args.block.now.insts = ap length c.insts-place-end.ensures.value in
    let all : c.loop-place.place ≡ length c.args.block.now.insts = omega arith in
    marked_next func c.args.number c.args.block.now c.loop-place.marks.items c.requires.block
    (subst (λ (n : ℕ). AreMarked func c.args.number n c.loop-place.marks.items) all c.loop-place.invariant.marks)
