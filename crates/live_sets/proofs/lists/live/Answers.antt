use Rattle.std.proofs.Common.{◌≡◌, ◌∙◌, ◌<◌, ◌-◌, suc, Bool, ap, sym, arith, length, ℕ, List, map, slice_get}
use Rattle.std.specs.Prelude.{reverse}
use Rattle.std.specs.List.{range_with_len, flat_map}
use Rattle.std.proofs.lemmas.Option.{get_or_from_slice_get}
use Rattle.object_meaning.specs.Lines.{registers_of}
use Rattle.rewriting_forms.specs.Numbered.{lines_at}
use Rattle.rewriting_forms.specs.Liveness.{lists_from, live_lists}
use Rattle.live_sets.proofs.StartLemmas.{list_is}
use Rattle.live_sets.proofs.ListLaws.{blocks_back}
use Rattle.live_sets.proofs.WholeLaws.{calling_at, whole}
use Rattle.live_sets.proofs.lists.live.Goals as goal
use Rattle.object_meaning.proofs.LineLaws.{count_registers}
use Rattle.list_laws.proofs.Places.{get_read}
use Rattle.ir_ast.specs.Operands.{valued}
use Rattle.ir_ast.specs.Lists.{has_mark}

pub index-requires : goal.index-requires
index-requires c =
    let func = c.args.func.now.content in
    let long = ap length c.in_ok-firsts.ensures ∙ count_registers (length func.args) func.blocks in
    omega (arith, long, c.loop-number.invariant.within, c.loop-number-test.true)

pub add_block-requires-clause-first : goal.add_block-requires-clause-first
add_block-requires-clause-first c =
    let func = c.args.func.now.content in
    let long = ap length c.in_ok-firsts.ensures ∙ count_registers (length func.args) func.blocks in
    let n = c.loop-number.number - 1 in
    sym (get_or_from_slice_get (registers_of func) n c.index.result.now 0
    (ap (λ (ns : List ℕ). slice_get ns n) (sym c.in_ok-firsts.ensures)
    ∙ get_read c.in_ok-firsts.firsts.items n c.index.result.now (omega (arith, long, c.loop-number.invariant.within, c.loop-number-test.true)) c.index.ensures))

pub add_block-requires-clause-calls : goal.add_block-requires-clause-calls
add_block-requires-clause-calls c =
    let func = c.args.func.now.content in
    let n = c.loop-number.number - 1 in
    c.is_marked-has_call.ensures ∙ ap (λ (marks : List Bool). has_mark marks n) (c.as_slice-in-loop-number.ensures.value ∙ c.in_ok-calling.ensures) ∙ calling_at func n

pub add_block-requires-clause-ends : goal.add_block-requires-clause-ends
add_block-requires-clause-ends c = λ is. (
    let func = c.args.func.now.content in
    let n = c.loop-number.number - 1 in
    let below : n < length func.blocks = omega (arith, c.loop-number.invariant.within, c.loop-number-test.true) in
    let wanted = ap (λ (marks : List Bool). has_mark marks n) (c.as_slice-3.ensures.value ∙ sym c.as_slice-in-loop-number.ensures.value) ∙ sym c.is_marked-has_call.ensures ∙ is in
    c.as_slice-in-loop-number-3.ensures.value
    ∙ sym (list_is c.in_ok-ends.ends.items n c.index-in-loop-number.result.now (let w = c.in_ok-ends.ensures.whole in omega (arith, w, below)) c.index-in-loop-number.ensures)
    ∙ c.in_ok-ends.ensures.each n below wanted)

pub loop-number-preserved : goal.loop-number-preserved
loop-number-preserved c =
    let func = c.args.func.now.content in
    let table = c.bases-table.result.now in
    let n = c.loop-number.number - 1 in
    let number_is : c.loop-number.number ≡ suc n = omega (arith, c.loop-number-test.true) in
    record {
      within = omega (arith, c.loop-number.invariant.within);
      lists = blocks_back func table n c.loop-number.lists.items c.add_block.new.lists.items (omega (arith, c.loop-number.invariant.within, c.loop-number-test.true))
          (c.loop-number.invariant.lists ∙ ap (λ (m : ℕ). reverse (map (map valued) (flat_map (λ (b : ℕ). lists_from func table b 0 (lines_at func b)) (range_with_len m (length func.blocks - m))))) number_is)
          c.in_ok-add_block.ensures;
    }

pub returns : goal.returns
returns c =
    c.of-2.ensures ∙ whole c.args.func.now.content c.bases-table.result.now c.loop-number.number c.loop-number.lists.items c.reverse.new.self.items (omega (arith, c.loop-number-test.false))
    c.loop-number.invariant.lists c.reverse.ensures.items ∙ ap (λ table. map (map valued) (live_lists c.args.func.now.content table)) c.bases-table.ensures
