use Rattle.std.specs.List.{Contains}
use Rattle.ir_lines.specs.Externals.{basics, helpers}
use Rattle.text_resolve.proofs.ExternalLemmas.{not-in-first, is-false}
use Rattle.text_resolve.proofs.tops.is_whole_name.Goals as goal

pub returns : goal.returns
returns c =
    not-in-first basics helpers c.args.name.now c.is_helper.result
    (is-false (Contains basics c.args.name.now) c.is_basic.result c.is_basic.ensures c.if-is_basic.false) c.is_helper.ensures
