use Rattle.std.proofs.Common.{◌≡◌, map, ap, ◌∙◌}
use Rattle.std.proofs.lemmas.Result.{on_ok_weaker}
use Rattle.ir_ast.specs.Objects.{number}
use Rattle.object_meaning.specs.Registers.{put_all}
use Rattle.machine_frames.specs.Landings.{copy_write}
use Rattle.machine_frames.proofs.frames.carry.Goals as goal

pub returns-in-Some : goal.returns-in-Some
returns-in-Some c =
    let registers = c.args.registers.now in
    on_ok_weaker c.copy_all.result
    (λ (e : map number c.copy_all.new.registers ≡ put_all (map (copy_write registers) c.in-Some.copies.now) (map number registers)).
    e ∙ ap (λ writes. put_all writes (map number registers)) (c.in-Some.ensures registers)) c.copy_all.ensures
