use Rattle.std.proofs.Common.{◌≡◌, ℕ, ◌<◌, length, map, drop, subst, ◌∙◌, arith}
use Rattle.ir_ast.specs.Objects.{number}
use Rattle.flat_code.proofs.RegisterLemmas.{rest_at}
use Rattle.machine_lines.specs.Going.{GoesOver, stood}
use Rattle.machine_lines.specs.Lines.{lines_left}
use Rattle.machine_lines.proofs.GoingLemmas.{lines_further}
use Rattle.machine_lines.proofs.going.go_over_all.Goals as goal

pub loop-place-preserved : goal.loop-place-preserved
loop-place-preserved c =
    let insts = c.args.insts.now in let place = c.loop-place.place in let inst = c.index-insts-place.result in
    let below : place < length insts = omega arith in
    record {
      stands = c.do_line.ensures.stands ∙ c.loop-place.invariant.stands;
      goes = λ machinery machine layouts_are.
          lines_further machinery machine (stood machine (lines_left c.args.first insts) (map number c.args.registers.now) c.args.heap.now) c.args.layouts.now c.loop-place.next place c.in-Some.after insts inst
          c.loop-place.registers c.do_line.new.registers c.loop-place.heap c.do_line.new.heap layouts_are (rest_at insts place inst below c.index-insts-place.is) c.in-Some.ensures.did
          (c.loop-place.invariant.goes machinery machine layouts_are);
    }

pub returns-clause-goes : goal.returns-clause-goes
returns-clause-goes c = λ machinery machine layouts_are.
    let all : c.loop-place.place ≡ length c.args.insts.now = omega arith in
    subst (λ (n : ℕ). GoesOver machinery (stood machine (lines_left c.args.first c.args.insts.now) (map number c.args.registers.now) c.args.heap.now)
    (stood machine (lines_left c.loop-place.next (drop n c.args.insts.now)) (map number c.loop-place.registers) c.loop-place.heap)) all
    (c.loop-place.invariant.goes machinery machine layouts_are)
