use Rattle.std.proofs.Common.{◌≡◌, ◌∙◌, ◌≤◌, inl, inr, ℕ, sym, ap, subst, length, arith, true, false}
use Rattle.std.proofs.lemmas.Bool.{cases_lt}
use Rattle.std.proofs.lemmas.List.{get_or_past}
use Rattle.ir_ast.specs.Insts.{Instruction}
use Rattle.object_meaning.specs.Lines.{Line}
use Rattle.object_meaning.specs.Frames.{is_member}
use Rattle.pair_facts.specs.Lines.{lines_at, line_in, no_line}
use Rattle.fact_tables.proofs.InstLemmas.{insts_within, count_lines, inst_read, block_read}
use Rattle.fact_tables.proofs.GroupLemmas.{group_ends}
use Rattle.fact_tables.proofs.groups.group_end.Goals as goal

pub overflow_step-place : goal.overflow_step-place
overflow_step-place c =
    let func = c.args.func.now.content in
    let at = block_read func c.blocks-2.result.now c.args.block c.index-blocks-block.result c.blocks-2.ensures.value c.requires.block c.index-blocks-block.is in
    omega (arith, insts_within func.blocks c.args.block c.index-blocks-block.result at, count_lines func c.args.block c.index-blocks-block.result at, c.requires.head, c.blocks-2.ensures.small.few_instructions)

pub returns-then-not-is_member : goal.returns-then-not-is_member
returns-then-not-is_member c =
    let func = c.args.func.now.content in
    let at = block_read func c.blocks-2.result.now c.args.block c.index-blocks-block.result c.blocks-2.ensures.value c.requires.block c.index-blocks-block.is in
    let own = inst_read func c.args.block c.loop-place.place c.index-blocks-block.result c.insts-insts.result.now c.index-insts-place.result at c.insts-insts.ensures.value c.loop-place-test.true c.index-insts-place.is in
    let other : is_member c.index-insts-place.result.op ≡ false = cc (c.op.ensures, c.is_member.ensures, c.if-not-is_member.true) in
    let long = count_lines func c.args.block c.index-blocks-block.result at in
    let count = ap length c.insts-insts.ensures.value in
    group_ends (lines_at func c.args.block) c.args.head c.loop-place.place (omega arith) (omega (arith, long, count)) c.loop-place.invariant
    (ap (λ (i : Instruction). is_member i.op) own ∙ other)

pub loop-place-preserved : goal.loop-place-preserved
loop-place-preserved c = λ k low high.
    let func = c.args.func.now.content in
    let at = block_read func c.blocks-2.result.now c.args.block c.index-blocks-block.result c.blocks-2.ensures.value c.requires.block c.index-blocks-block.is in
    let own = inst_read func c.args.block c.loop-place.place c.index-blocks-block.result c.insts-insts.result.now c.index-insts-place.result at c.insts-insts.ensures.value c.loop-place-test.true c.index-insts-place.is in
    let member : is_member c.index-insts-place.result.op ≡ true = cc (c.op.ensures, c.is_member.ensures, c.if-not-is_member.false) in
    elim (cases_lt k c.loop-place.place) [
      | inl less ↦ c.loop-place.invariant k low less
      | inr past ↦ (let same : k ≡ c.loop-place.place = omega arith in
          subst (λ (n : ℕ). is_member (line_in (lines_at func c.args.block) n).inst.op ≡ true) (sym same) (ap (λ (i : Instruction). is_member i.op) own ∙ member))
    ]

pub returns : goal.returns
returns c =
    let func = c.args.func.now.content in
    let at = block_read func c.blocks-2.result.now c.args.block c.index-blocks-block.result c.blocks-2.ensures.value c.requires.block c.index-blocks-block.is in
    let long = count_lines func c.args.block c.index-blocks-block.result at in
    let count = ap length c.insts-insts.ensures.value in
    let end = length c.insts-insts.result.now in
    let past : length (lines_at func c.args.block) ≤ end = omega (arith, long, count) in
    group_ends (lines_at func c.args.block) c.args.head end (omega (arith, c.requires.head, long, count)) (omega (arith, long, count))
    (λ k low high. c.loop-place.invariant k low (omega arith))
    (ap (λ (l : Line). is_member l.inst.op) (get_or_past (lines_at func c.args.block) end no_line past))
