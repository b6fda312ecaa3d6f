use Rattle.object_meaning.specs.SourceRuns.{source_setting}
use Rattle.object_meaning.proofs.OutcomeLaws.{gives_one, gives_some}
use Rattle.object_meaning.proofs.laws.source_runs_give_one.Goals as goal

pub returns : goal.returns
returns c = record {
  some = λ content input go bound. (let given = gives_some (source_setting content go bound) input in (given.outcome, given.gives, given.final));
  one = λ content input go bound one other first second. gives_one (source_setting content go bound) input one other first second;
}
