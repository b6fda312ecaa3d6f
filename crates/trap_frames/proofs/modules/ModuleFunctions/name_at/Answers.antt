use Rattle.std.proofs.Common.{◌≡◌, ℕ, ◌+◌, ◌-◌, ◌%◌, ◌<◌, ◌==◌, ◌&&◌, ◌/◌, List, length, drop, sym, ap, ◌∙◌, arith, Some}
use Rattle.std.specs.Prelude.{nat_lt}
use Rattle.ir_ast.specs.Blocks.{BasicBlock}
use Rattle.ir_ast.specs.Funcs.{Function, instructions_of}
use Rattle.machine_meaning.specs.Code.{name_in}
use Rattle.trap_frames.specs.Spans.{span_of}
use Rattle.trap_frames.proofs.NameLemmas.{even_more, here, named_here, named_later, none_below}
use Rattle.trap_frames.proofs.modules.ModuleFunctions.name_at.Goals as goal

pub returns-then-address-lt-FIRST_START : goal.returns-then-address-lt-FIRST_START
returns-then-address-lt-FIRST_START c = sym (none_below 4096 c.args.self.now.content.funcs c.args.address c.if-address-lt-FIRST_START.true)

pub loop-func-init : goal.loop-func-init
loop-func-init c =
    let start : c.args.address - (c.args.address - 4096) ≡ 4096 = omega (arith, c.if-address-lt-FIRST_START.false) in
    record {
      within = omega arith;
      even = ap (λ (n : ℕ). n % 16) start;
      rest = ap (λ (n : ℕ). name_in n c.args.self.now.content.funcs c.args.address) start;
    }

pub returns-then-is_instruction : goal.returns-then-is_instruction
returns-then-is_instruction c =
    let func = c.func-item.result.content in let funcs = c.args.self.now.content.funcs in
    let behind = c.loop-func.behind in let address = c.args.address in let k = c.loop-func.func-index in let i = c.loop-func.invariant in
    let count_is : c.count_of-count.result ≡ length (instructions_of func.blocks) =
    c.count_of-count.ensures ∙ ap (λ (blocks : List BasicBlock). length (instructions_of blocks)) c.blocks-in-loop-func.ensures.value in
    let has = ap (λ (n : ℕ). (behind % 4 == 0) && nat_lt (behind / 4) n) (sym count_is) ∙ sym c.is_instruction.ensures ∙ c.if-is_instruction.true in
    ap Some (c.bytes.ensures ∙ c.name.ensures)
    ∙ sym (sym i.rest
    ∙ ap (λ (left : List Function). name_in (address - behind) left address) (here c.funcs-func-items.result.now funcs k c.func-item.result c.funcs-func-items.ensures.content c.loop-func-test.true c.func-item.is)
    ∙ named_here func (drop (k + 1) funcs) address behind i.within has)

pub returns-then-behind-span_of : goal.returns-then-behind-span_of
returns-then-behind-span_of c =
    let func = c.func-item.result.content in let funcs = c.args.self.now.content.funcs in
    let behind = c.loop-func.behind in let address = c.args.address in let k = c.loop-func.func-index in let i = c.loop-func.invariant in
    let count_is : c.count_of-count.result ≡ length (instructions_of func.blocks) =
    c.count_of-count.ensures ∙ ap (λ (blocks : List BasicBlock). length (instructions_of blocks)) c.blocks-in-loop-func.ensures.value in
    let has = ap (λ (n : ℕ). (behind % 4 == 0) && nat_lt (behind / 4) n) (sym count_is) ∙ sym c.is_instruction.ensures ∙ c.if-is_instruction.false in
    let span = c.span_of.ensures ∙ ap span_of count_is in
    let past : address < (address - behind) + span_of (length (instructions_of func.blocks)) = omega (arith, i.within, span, c.if-behind-span_of.true) in
    sym (sym i.rest
    ∙ ap (λ (left : List Function). name_in (address - behind) left address) (here c.funcs-func-items.result.now funcs k c.func-item.result c.funcs-func-items.ensures.content c.loop-func-test.true c.func-item.is)
    ∙ named_later func (drop (k + 1) funcs) address behind i.within i.even has
    ∙ none_below ((address - behind) + span_of (length (instructions_of func.blocks))) (drop (k + 1) funcs) address past)

pub loop-func-preserved : goal.loop-func-preserved
loop-func-preserved c =
    let func = c.func-item.result.content in let funcs = c.args.self.now.content.funcs in
    let behind = c.loop-func.behind in let address = c.args.address in let k = c.loop-func.func-index in let i = c.loop-func.invariant in
    let count_is : c.count_of-count.result ≡ length (instructions_of func.blocks) =
    c.count_of-count.ensures ∙ ap (λ (blocks : List BasicBlock). length (instructions_of blocks)) c.blocks-in-loop-func.ensures.value in
    let has = ap (λ (n : ℕ). (behind % 4 == 0) && nat_lt (behind / 4) n) (sym count_is) ∙ sym c.is_instruction.ensures ∙ c.if-is_instruction.false in
    let first = c.span_of.ensures ∙ ap span_of count_is in
    let span = c.span_of-behind.ensures ∙ ap span_of count_is in
    let next : address - (behind - c.span_of-behind.result) ≡ (address - behind) + span_of (length (instructions_of func.blocks)) = omega (arith, i.within, first, span, c.if-behind-span_of.false) in
    record {
      within = omega (arith, i.within);
      even = ap (λ (n : ℕ). n % 16) next ∙ even_more (address - behind) (length (instructions_of func.blocks)) i.even;
      rest = ap (λ (n : ℕ). name_in n (drop (k + 1) funcs) address) next
          ∙ sym (ap (λ (left : List Function). name_in (address - behind) left address) (here c.funcs-func-items.result.now funcs k c.func-item.result c.funcs-func-items.ensures.content c.loop-func-test.true c.func-item.is)
          ∙ named_later func (drop (k + 1) funcs) address behind i.within i.even has)
          ∙ i.rest;
    }
