use Rattle.std.proofs.Common.{◌≡◌, ◌∙◌, ℕ, List, Some, sym, ap, subst, refl, length, slice_get, arith, add-one}
use Rattle.std.proofs.lemmas.Option.{slice_get_read}
use Rattle.ir_ast.specs.declared.ops.Op.{Op}
use Rattle.ir_ast.specs.Insts.{Instruction}
use Rattle.object_meaning.specs.Lines.{insts_in}
use Rattle.pair_facts.specs.Lines.{lines_at, head_here}
use Rattle.fact_tables.specs.Notes.{head_before}
use Rattle.fact_tables.proofs.LineLemmas.{insts_are}
use Rattle.used_pairs.specs.Lists.{AreUsed}
use Rattle.used_pairs.proofs.UseLemmas.{head_more, used_more, used_next}
use Rattle.used_pairs.proofs.uses.add_block.Goals as goal

pub loop-place-preserved : goal.loop-place-preserved
loop-place-preserved c =
    let func = c.args.func.now.content in
    let number = c.args.number in
    let place = c.loop-place.place in
    let inst = c.index-insts-place.result in
    let insts = c.insts-insts.result.now in
    let same = c.insts-insts.ensures.value ∙ sym (insts_are func number c.args.block.now c.requires.block) in
    let at : slice_get (insts_in func number) place ≡ Some inst =
    ap (λ (is : List Instruction). slice_get is place) (sym same)
    ∙ slice_get_read insts (length insts) place inst refl c.loop-place-test.true c.index-insts-place.is in
    let head = head_more func number place c.loop-place.head c.head_here-head.result inst at
    (c.head_here-head.ensures ∙ ap (λ (op : Op). head_here op place c.loop-place.head) c.op.ensures) c.loop-place.invariant.head_is in
    record {
      head_is = subst (λ (n : ℕ). c.head_here-head.result ≡ head_before (lines_at func number) n) (sym (add-one place)) head;
      used = used_more func number place c.head_here-head.result c.loop-place.used.items _ inst insts same at head c.in_ok-add_line.ensures c.loop-place.invariant.used;
    }

pub returns : goal.returns
returns c =
    let func = c.args.func.now.content in
    let same : length c.insts-insts.result.now ≡ length c.args.block.now.insts = ap length c.insts-insts.ensures.value in
    let all : c.loop-place.place ≡ length c.args.block.now.insts = omega arith in
    used_next func c.args.number c.args.block.now c.loop-place.used.items c.requires.block
    (subst (λ (n : ℕ). AreUsed func c.args.number n c.loop-place.used.items) all c.loop-place.invariant.used)
