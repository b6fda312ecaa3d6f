use Rattle.std.proofs.Common.{codes, map, string_bytes, ◌∙◌}
use Rattle.clap.specs.Simple.{app_of}
use Rattle.tool_words.proofs.ReadLaws.{later_texts, refused, taken}
use Rattle.tool_words.proofs.reader.read.Goals as goal

pub returns-in-Ok-clause-reads : goal.returns-in-Ok-clause-reads
returns-in-Ok-clause-reads c =
    taken (codes "statepoint") (app_of c.in_ok-reader.field-0) (map string_bytes c.args.words.now) c.in_ok-reader.ensures (later_texts c.args.words.now) c.in-Ok.matches
    c.in-Ok.ensures.kinds c.in-Ok.ensures.matches

pub returns : goal.returns
returns c = record {
  reads = tt;
  none = λ _.
      refused (codes "statepoint") (app_of c.in_ok-reader.field-0) (map string_bytes c.args.words.now) c.in_ok-reader.ensures (later_texts c.args.words.now) c.in-Err.error
      c.in-Err.ensures.kinds (λ memory. c.in_default.not-OutOfMemory (c.kind.ensures ∙ memory));
}
