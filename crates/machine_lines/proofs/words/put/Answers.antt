use Rattle.std.proofs.Common.{ℕ, List, map, ap, ◌∙◌}
use Rattle.std.specs.Prelude.{Some}
use Rattle.ir_ast.specs.Objects.{number}
use Rattle.machine_lines.proofs.WordLemmas.{put_is}
use Rattle.machine_lines.proofs.words.put.Goals as goal

pub returns-in-Some : goal.returns-in-Some
returns-in-Some c =
    rw c.in-Some.is (ap (λ (rs : List ℕ). map number rs) c.write.ensures ∙ put_is (Some c.in-Some.register) c.args.word c.args.registers.now)
