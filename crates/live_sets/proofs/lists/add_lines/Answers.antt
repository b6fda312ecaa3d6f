use Rattle.std.proofs.Common.{◌≡◌, ◌∙◌, ◌-◌, suc, ap, sym, arith, length, take, ℕ, List, Some, slice_get, subst}
use Rattle.std.specs.Option.{option_map}
use Rattle.ir_ast.specs.Insts.{Instruction}
use Rattle.ir_ast.specs.Blocks.{BasicBlock}
use Rattle.ir_ast.specs.Funcs.{instructions_of}
use Rattle.object_meaning.specs.Lines.{after_all, numbered, insts_in}
use Rattle.live_sets.specs.Starts.{first_of}
use Rattle.live_sets.specs.Lists.{AtPlace}
use Rattle.std.proofs.lemmas.List.{length-take-le}
use Rattle.live_sets.proofs.NumberLemmas.{first_small, block_room}
use Rattle.live_sets.proofs.ListLaws.{read_insts, number_before, some_before, step, begun, done}
use Rattle.live_sets.proofs.lists.add_lines.Goals as goal
use Rattle.object_meaning.proofs.LineLaws.{after_few}
use Rattle.list_laws.proofs.Places.{get_read, take_whole}
use Rattle.ir_ast.specs.Operands.{valued}

pub after-next-requires : goal.after-next-requires
after-next-requires c =
    let func = c.args.func.now.content in
    let blocks = c.blocks-2.result.now in
    let first = first_small (length func.args) func.blocks c.args.number in
    let long = ap length c.blocks-2.ensures.value in
    let room = block_room blocks c.args.number c.index-blocks-number.result (omega (arith, long, c.requires.number)) c.index-blocks-number.is in
    let all = ap (λ (bs : List BasicBlock). length (instructions_of bs)) c.blocks-2.ensures.value in
    let front = ap (λ (bs : List BasicBlock). length (instructions_of (take c.args.number bs))) c.blocks-2.ensures.value in
    let insts = ap length c.insts-insts.ensures.value in
    omega (arith, first, room, all, front, insts, c.requires.first, c.blocks-2.ensures.small.few_instructions, c.blocks-2.ensures.small.few_arguments)

pub loop-place-init : goal.loop-place-init
loop-place-init c =
    let func = c.args.func.now.content in
    let insts = read_insts func c.args.number c.blocks-2.result.now c.index-blocks-number.result c.insts-insts.result.now c.blocks-2.ensures.value c.requires.number c.index-blocks-number.is c.insts-insts.ensures.value in
    record {
      within = omega arith;
      next = c.after-next.ensures ∙ sym (ap (after_all c.args.first) (take_whole c.insts-insts.result.now));
      at = subst (λ (is : List Instruction). AtPlace func c.args.bases.now c.args.marks.now c.args.number (length is) c.fill.new.set c.args.lists.now.items c.args.lists.now.items) insts
          (begun func c.args.bases.now c.args.marks.now c.requires.marks c.args.number c.args.ends.now c.fill.new.set c.args.lists.now.items c.requires.ends c.in_ok-fill.ensures);
    }

pub before-next-requires : goal.before-next-requires
before-next-requires c =
    let insts = c.insts-insts.result.now in
    let p = c.loop-place.place - 1 in
    let place_is : suc p ≡ c.loop-place.place = omega (arith, c.loop-place-test.true) in
    let at = get_read insts p c.index-insts-place.result (omega (arith, place_is, c.loop-place.invariant.within)) c.index-insts-place.is in
    λ some. (let up = some_before c.args.first p insts c.index-insts-place.result at some in
    let next : c.loop-place.next ≡ after_all c.args.first (take (suc p) insts) = c.loop-place.invariant.next ∙ ap (λ (n : ℕ). after_all c.args.first (take n insts)) (sym place_is) in
    omega (arith, up, next))

pub result_of-to-requires : goal.result_of-to-requires
result_of-to-requires c =
    let func = c.args.func.now.content in
    let insts = c.insts-insts.result.now in
    let p = c.loop-place.place - 1 in
    let place_is : suc p ≡ c.loop-place.place = omega (arith, c.loop-place-test.true) in
    let at = get_read insts p c.index-insts-place.result (omega (arith, place_is, c.loop-place.invariant.within)) c.index-insts-place.is in
    let next : c.loop-place.next ≡ after_all c.args.first (take (suc p) insts) = c.loop-place.invariant.next ∙ ap (λ (n : ℕ). after_all c.args.first (take n insts)) (sym place_is) in
    let number = number_before c.args.first c.before-next.result p insts c.index-insts-place.result at (c.before-next.ensures ∙ next) in
    let small = after_few c.args.first (take p insts) in
    let few = length-take-le p insts (omega (arith, place_is, c.loop-place.invariant.within)) in
    let first = first_small (length func.args) func.blocks c.args.number in
    let blocks = c.blocks-2.result.now in
    let long = ap length c.blocks-2.ensures.value in
    let room = block_room blocks c.args.number c.index-blocks-number.result (omega (arith, long, c.requires.number)) c.index-blocks-number.is in
    let all = ap (λ (bs : List BasicBlock). length (instructions_of bs)) c.blocks-2.ensures.value in
    let front = ap (λ (bs : List BasicBlock). length (instructions_of (take c.args.number bs))) c.blocks-2.ensures.value in
    let own = ap length c.insts-insts.ensures.value in
    omega (arith, number, small, few, first, room, all, front, own, place_is, c.loop-place.invariant.within, c.requires.first, c.blocks-2.ensures.small.few_instructions, c.blocks-2.ensures.small.few_arguments)

pub loop-place-preserved : goal.loop-place-preserved
loop-place-preserved c =
    let func = c.args.func.now.content in
    let bases = c.args.bases.now in
    let marks = c.args.marks.now in
    let insts = c.insts-insts.result.now in
    let inst = c.index-insts-place.result in
    let b = c.args.number in
    let p = c.loop-place.place - 1 in
    let same = read_insts func b c.blocks-2.result.now c.index-blocks-number.result insts c.blocks-2.ensures.value c.requires.number c.index-blocks-number.is c.insts-insts.ensures.value in
    let place_is : suc p ≡ c.loop-place.place = omega (arith, c.loop-place-test.true) in
    let at = get_read insts p inst (omega (arith, place_is, c.loop-place.invariant.within)) c.index-insts-place.is in
    let next : c.loop-place.next ≡ after_all c.args.first (take (suc p) insts) = c.loop-place.invariant.next ∙ ap (λ (n : ℕ). after_all c.args.first (take n insts)) (sym place_is) in
    let number = number_before c.args.first c.before-next.result p insts inst at (c.before-next.ensures ∙ next) in
    let in_func : slice_get (insts_in func b) p ≡ Some inst = ap (λ (is : List Instruction). slice_get is p) same ∙ at in
    let number_is : c.before-next.result ≡ after_all (first_of func b) (take p (insts_in func b)) =
    number ∙ ap (λ (n : ℕ). after_all n (take p insts)) c.requires.first ∙ ap (λ (is : List Instruction). after_all (first_of func b) (take p is)) (sym same) in
    let given : c.result_of-to.result ≡ option_map valued (numbered (after_all (first_of func b) (take p (insts_in func b))) inst).to =
    c.result_of-to.ensures ∙ ap (λ (n : ℕ). option_map valued (numbered n inst).to) number_is in
    let here : AtPlace func bases marks b (suc p) c.loop-place.set c.args.lists.now.items c.loop-place.lists.items =
    subst (λ (n : ℕ). AtPlace func bases marks b n c.loop-place.set c.args.lists.now.items c.loop-place.lists.items) (sym place_is) c.loop-place.invariant.at in
    record {
      within = omega (arith, place_is, c.loop-place.invariant.within);
      next = number;
      at = step func bases marks c.requires.marks b p inst c.result_of-to.result c.loop-place.set c.add_list.new.set c.go_back.new.set
          c.args.lists.now.items c.loop-place.lists.items c.add_list.new.lists.items in_func given here c.in_ok-add_list.ensures c.in_ok-go_back.ensures;
    }

pub returns : goal.returns
returns c =
    done c.args.func.now.content c.args.bases.now c.args.marks.now c.requires.marks c.args.number c.loop-place.place c.loop-place.set c.args.lists.now.items c.loop-place.lists.items
    (omega (arith, c.loop-place-test.false)) c.loop-place.invariant.at
