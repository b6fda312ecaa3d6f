use Rattle.std.proofs.Common.{◌∙◌}
use Rattle.ir_simplify.proofs.modules.simplify.Goals as goal

pub returns-clause-simplified : goal.returns-clause-simplified
returns-clause-simplified c =
    let content = c.args.source.content in
    let after = c.in_ok-after.after.content in
    let less = c.in_ok-after.ensures.less in
    let kept = c.folded_and_thinned_stays_source.ensures content less.between after c.requires less.folded less.thinned in
    let between = c.folded_stays_source.ensures content less.between c.requires less.folded in
    record {
      source = kept.source;
      layouts = less.thinned.layouts ∙ less.folded.layouts;
      functions = kept.functions;
      gives = λ input go bound outcome given.
          (c.thinned_give_the_same.ensures less.between after between.source less.thinned input go bound outcome).0
          ((c.folded_give_the_same.ensures content less.between c.requires less.folded input go bound outcome).0 given);
      reduced = c.in_ok-after.ensures.reduced;
    }
