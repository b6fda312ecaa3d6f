use Rattle.std.proofs.Common.{sym, ap, ◌∙◌}
use Rattle.ir_ast.specs.Objects.{number}
use Rattle.machine_lines.specs.declared.decoded.Decoded.{Decoded}
use Rattle.machine_lines.specs.Decoding.{found_word}
use Rattle.machine_lines.proofs.DecodeLemmas.{source_at_is}
use Rattle.machine_lines.proofs.decoded.Decoded.second_word.Goals as goal

pub returns : goal.returns
returns c = λ inst is.
    source_at_is c.args.registers.now inst.operands 1
    ∙ ap number (ap (λ (d : Decoded). found_word c.args.registers.now d.second) (sym is) ∙ sym c.word.ensures)
