use Rattle.std.proofs.Common.{map, drop, sym, ap, ◌∙◌}
use Rattle.std.proofs.lemmas.List.{drop-map}
use Rattle.machine_lines.specs.Decoding.{decoded_of}
use Rattle.machine_lines.proofs.decoded.Lines.behind.Goals as goal

pub invariant_of-result : goal.invariant_of-result
invariant_of-result c = record {
  tied = c.split_at-2.ensures.back ∙ ap (drop c.args.count) c.args.self.tied ∙ drop-map decoded_of c.args.count c.args.self.insts.now ∙ ap (map decoded_of) (sym c.split_at.ensures.back);
}
