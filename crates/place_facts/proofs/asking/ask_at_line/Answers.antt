use Rattle.std.proofs.Common.{◌≡◌, ◌∙◌, true, false, ap, sym, subst, arith}
use Rattle.ir_ast.specs.Insts.{Instruction}
use Rattle.object_meaning.specs.Frames.{is_member}
use Rattle.pair_facts.specs.Lines.{lines_at, line_in}
use Rattle.place_facts.specs.Asks.{AsksFor}
use Rattle.place_facts.proofs.AskLemmas.{numbered_inside, asks_line, not_askable}
use Rattle.place_facts.proofs.asking.ask_at_line.Goals as goal

pub inst_at-requires-clause-block : goal.inst_at-requires-clause-block
inst_at-requires-clause-block c =
    (numbered_inside c.args.func.now.content c.args.question.place c.args.spot.block c.args.spot.place c.requires.spot).block_inside

pub inst_at-requires-clause-place : goal.inst_at-requires-clause-place
inst_at-requires-clause-place c =
    (numbered_inside c.args.func.now.content c.args.question.place c.args.spot.block c.args.spot.place c.requires.spot).place_inside

pub returns-then-is_member : goal.returns-then-is_member
returns-then-is_member c =
    let member : is_member (line_in (lines_at c.args.func.now.content c.args.spot.block) c.args.spot.place).inst.op ≡ true =
    ap (λ (inst : Instruction). is_member inst.op) (sym c.inst_at.ensures) ∙ ap is_member (sym c.op.ensures) ∙ sym c.is_member.ensures ∙ c.if-is_member.true in
    not_askable c.args.func.now.content c.args.question.place c.args.spot.block c.args.spot.place c.requires.spot c.requires.none member

pub ask-requires : goal.ask-requires
ask-requires c =
    let inside = numbered_inside c.args.func.now.content c.args.question.place c.args.spot.block c.args.spot.place c.requires.spot in
    record { block_inside = inside.block_inside; place_inside = omega (arith, inside.place_inside) }

pub returns-else-is_member : goal.returns-else-is_member
returns-else-is_member c =
    let apart : is_member (line_in (lines_at c.args.func.now.content c.args.spot.block) c.args.spot.place).inst.op ≡ false =
    ap (λ (inst : Instruction). is_member inst.op) (sym c.inst_at.ensures) ∙ ap is_member (sym c.op.ensures) ∙ sym c.is_member.ensures ∙ c.if-is_member.false in
    subst (AsksFor c.args.func.now.content c.args.question) (sym c.ask.ensures)
    (asks_line c.args.func.now.content c.args.question c.args.spot.block c.args.spot.place c.requires.spot c.requires.past c.requires.none apart)
