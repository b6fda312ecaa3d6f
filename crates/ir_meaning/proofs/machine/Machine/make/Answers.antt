use Rattle.std.proofs.Common.{◌≡◌, List, map, ap, ◌∙◌}
use Rattle.std.specs.Prelude.{unsigned_abs}
use Rattle.ir_ast.specs.declared.ops.Operand.{Operand}
use Rattle.sp_ids.specs.Numbers.{signed}
use Rattle.object_meaning.specs.Registers.{number_in, operand}
use Rattle.object_store.specs.declared.words.Word.{Word}
use Rattle.object_store.specs.Stored.{Store}
use Rattle.object_store.specs.Words.{datum}
use Rattle.ir_meaning.specs.Stacks.{Frames, passed_frame}
use Rattle.ir_meaning.specs.Machines.{rest_of}
use Rattle.ir_meaning.proofs.WordLemmas.{operand_is}
use Rattle.ir_meaning.proofs.CallLemmas.{make_none, make_full, make_goes}
use mir.Syntax.{w64}
use mir.ValLaws.{to_z-of_z}
use Rattle.ir_meaning.proofs.machine.Machine.make.Goals as goal

pub returns-then-count-lt0-clause-turned : goal.returns-then-count-lt0-clause-turned
returns-then-count-lt0-clause-turned c =
    let now = c.args.self.now in let registers = now.stack.running.registers in
    let count_is : c.sign-count.result ≡ signed 64 (number_in (operand (map datum registers) c.args.segment.now.operands.items 0)) =
    c.sign-count.ensures ∙ ap (signed 64) (c.number.ensures ∙ ap (λ (word : Word). number_in (datum word)) c.operand.ensures
    ∙ ap number_in (operand_is registers c.as_slice.result.now 0)
    ∙ ap (λ (os : List Operand). number_in (operand (map datum registers) os 0)) c.as_slice.ensures.value) in
    let in_range = to_z-of_z w64 c.sign-count.result (record { sfits = c.sign-count.type_inv }) in
    make_none c.args.code.now c.args.plan.now c.args.bound now.stack (rest_of now) c.args.segment.now c.args.layout c.sign-count.result c.saturating_add-self.result c.requires.stands count_is
    (rw in_range at c.if-count-lt0.true) c.saturating_add-self.ensures

pub returns-in-None-clause-turned : goal.returns-in-None-clause-turned
returns-in-None-clause-turned c =
    let now = c.args.self.now in let registers = now.stack.running.registers in
    let count_is : c.sign-count.result ≡ signed 64 (number_in (operand (map datum registers) c.args.segment.now.operands.items 0)) =
    c.sign-count.ensures ∙ ap (signed 64) (c.number.ensures ∙ ap (λ (word : Word). number_in (datum word)) c.operand.ensures
    ∙ ap number_in (operand_is registers c.as_slice.result.now 0)
    ∙ ap (λ (os : List Operand). number_in (operand (map datum registers) os 0)) c.as_slice.ensures.value) in
    let made_so = rw (c.in-None.is) at c.in_ok-add.ensures.made in
    let in_range = to_z-of_z w64 c.sign-count.result (record { sfits = c.sign-count.type_inv }) in
    let amount : c.unsigned_abs.result ≡ unsigned_abs c.sign-count.result = c.unsigned_abs.ensures.value ∙ ap unsigned_abs in_range in
    make_full c.args.code.now c.args.plan.now c.args.bound now.stack (rest_of now) c.args.segment.now c.args.layout c.sign-count.result c.saturating_add-self.result c.unsigned_abs.result now.objects.layouts c.add.new.self.objects
    c.requires.stands count_is (rw in_range at c.if-count-lt0.false) c.saturating_add-self.ensures c.requires.layouts amount made_so.0

pub returns-in_ok-pass-in-Some-clause-turned : goal.returns-in_ok-pass-in-Some-clause-turned
returns-in_ok-pass-in-Some-clause-turned c =
    let now = c.args.self.now in let registers = now.stack.running.registers in let frames : Frames = now.stack in
    let count_is : c.sign-count.result ≡ signed 64 (number_in (operand (map datum registers) c.args.segment.now.operands.items 0)) =
    c.sign-count.ensures ∙ ap (signed 64) (c.number.ensures ∙ ap (λ (word : Word). number_in (datum word)) c.operand.ensures
    ∙ ap number_in (operand_is registers c.as_slice.result.now 0)
    ∙ ap (λ (os : List Operand). number_in (operand (map datum registers) os 0)) c.as_slice.ensures.value) in
    let made_so = rw (c.in-Some.is) at c.in_ok-add.ensures.made in
    let in_range = to_z-of_z w64 c.sign-count.result (record { sfits = c.sign-count.type_inv }) in
    let amount : c.unsigned_abs.result ≡ unsigned_abs c.sign-count.result = c.unsigned_abs.ensures.value ∙ ap unsigned_abs in_range in
    make_goes c.args.code.now c.args.plan.now c.args.bound now.stack c.pass.new.self (rest_of now) c.args.segment.now c.args.layout c.sign-count.result c.saturating_add-self.result c.unsigned_abs.result c.in-Some.object now.objects.layouts c.add.new.self.objects
    c.requires.stands count_is (rw in_range at c.if-count-lt0.false) c.saturating_add-self.ensures c.requires.layouts amount made_so.0 made_so.1 (ap (λ (s : Store). s.objects) made_so.2)
    (c.in_ok-pass-in-Some.ensures ∙ ap (λ (w : Word). let f : Frames = record frames { running = passed_frame frames.running c.args.segment.now.to w } in f) c.to.ensures)
