use Rattle.std.proofs.Common.{◌∙◌, ◌++◌, ap, sym, List, arith, map, append-nil}
use Rattle.std.proofs.lemmas.List.{drop_all}
use Rattle.list_laws.proofs.Places.{drop_item}
use Rattle.ir_ast.specs.Insts.{Instruction}
use Rattle.object_meaning.specs.TargetRuns.{plain_lines}
use Rattle.ssa_rebuild.specs.Rows.{listed_slots, calls_of, group_list}
use Rattle.ssa_rebuild.proofs.RowLemmas.{slots_on, calls_on, one_call}
use Rattle.ssa_rebuild.proofs.lines.push_lines.Goals as goal
use Rattle.object_meaning.proofs.LineLaws.{following_few}

pub loop-inst-preserved : goal.loop-inst-preserved
loop-inst-preserved c =
    let lists = map group_list c.args.groups.now in
    let i = c.loop-inst.inst-index in
    let inst = c.inst-item.result in
    let split = drop_item c.args.insts.now i inst c.loop-inst-test.true c.inst-item.is in
    let one = one_call (record { to = c.result_of-to.result; inst = inst }) in
    let more = following_few c.loop-inst.next inst in
    record {
      row = slots_on lists c.loop-inst.call c.loop-inst.next _ _ inst _ c.loop-inst.row.items c.push_line.new.row.items c.result_of-to.result c.in_ok-call.call c.following-next.result
          split c.result_of-to.ensures c.in_ok-call.ensures.call c.following-next.ensures c.loop-inst.invariant.row c.in_ok-call.ensures.row;
      calls = calls_on c.loop-inst.call c.loop-inst.next _ _ inst _ c.result_of-to.result c.in_ok-call.call c.following-next.result
          split c.result_of-to.ensures c.in_ok-call.ensures.call c.following-next.ensures c.loop-inst.invariant.calls;
      few = omega (arith, one, c.in_ok-call.ensures.call, c.loop-inst.invariant.few);
      small = omega (arith, more, c.following-next.ensures, c.loop-inst.invariant.small);
    }

pub returns : goal.returns
returns c =
    let none = drop_all c.loop-inst.inst-index c.args.insts.now c.loop-inst-test.false in
    record {
      row = sym (c.loop-inst.invariant.row
          ∙ ap (λ (is : List Instruction). c.loop-inst.row.items ++ listed_slots (map group_list c.args.groups.now) c.loop-inst.call (plain_lines c.loop-inst.next is)) none
          ∙ append-nil c.loop-inst.row.items);
      calls = sym (c.loop-inst.invariant.calls ∙ ap (λ (is : List Instruction). calls_of c.loop-inst.call (plain_lines c.loop-inst.next is)) none);
    }
