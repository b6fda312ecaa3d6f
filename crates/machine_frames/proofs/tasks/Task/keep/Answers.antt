use Rattle.std.proofs.Common.{◌≡◌, List, ℕ, map, ap, ◌∙◌}
use Rattle.std.proofs.lemmas.Result.{on_ok_weaker}
use Rattle.ir_ast.specs.Objects.{number}
use Rattle.machine_meaning.specs.Machines.{over}
use Rattle.machine_frames.specs.declared.tasks.Task.{Task}
use Rattle.machine_frames.specs.Frames.{kept_in}
use Rattle.machine_frames.proofs.tasks.Task.keep.Goals as goal

pub returns : goal.returns
returns c =
    let now = c.args.self.now in let kept : List ℕ → List ℕ = λ rs. over (kept_in (map number rs) c.args.inst.now c.args.arguments) now.stack in
    let with : List ℕ → Task = λ ws. record now { stack = ws } in
    on_ok_weaker c.keep.result
    (λ (e : c.keep.new.stack ≡ kept c.as_slice-registers.result.now). ap with (e ∙ ap kept c.as_slice-registers.ensures.value)) c.keep.ensures
