use Rattle.std.proofs.Common.{◌∙◌, ap, arith}
use Rattle.std.specs.Prelude.{slice_index}
use Rattle.statepoint_verify.proofs.LeastLemmas.{mark_placed}
use Rattle.statepoint_verify.proofs.least.fault_of.Goals as goal

pub overflow_add-place : goal.overflow_add-place
overflow_add-place c =
    let placed = mark_placed c.args.func.now.content c.args.starts.now c.args.mark c.requires.starts c.requires.inside in
    omega (arith, placed.is, placed.low, c.blocks-blocks.ensures.small.few_instructions)

pub overflow_cast-place : goal.overflow_cast-place
overflow_cast-place c =
    let placed = mark_placed c.args.func.now.content c.args.starts.now c.args.mark c.requires.starts c.requires.inside in
    omega (arith, placed.is, placed.low, c.blocks-blocks.ensures.small.few_instructions)

pub returns-clause-line : goal.returns-clause-line
returns-clause-line c =
    let placed = mark_placed c.args.func.now.content c.args.starts.now c.args.mark c.requires.starts c.requires.inside in
    c.line_of.ensures ∙ ap (slice_index c.args.func.now.lines) placed.is
