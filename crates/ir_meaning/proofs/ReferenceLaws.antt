-- What the interpreter answers is what the module's run gives.
use Rattle.std.proofs.Common.{ℕ, ℤ, List, Option}
use Rattle.piece_writer.specs.LinePuts.{SinkTold}
use Rattle.ir_ast.specs.Modules.{ModuleContent}
use Rattle.run_tasks.specs.declared.runs.Ran.{Ran}
use Rattle.run_tasks.proofs.RunLemmas.{ran_is}
use Rattle.ir_meaning.specs.References.{IsRun, IsRunFrom, PutsFrontOfRun, PutsRun, WritesFrontFrom, WritesFrontOfRun}
use Rattle.object_meaning.specs.Effects.{line_count}
use Rattle.object_meaning.specs.Outcomes.{opening, outcome_of}
use Rattle.object_meaning.specs.SourceRuns.{source_setting}
use Rattle.object_meaning.proofs.OutcomeLaws.{gives_end}

module _ (content : ModuleContent) (input : List ℤ) (go : ℕ → Option ℕ) (bound : ℕ) (old new : SinkTold) where
  pub run_is : (ran : Ran) → IsRunFrom (source_setting content go bound) (opening (source_setting content go bound) input) ran old new
      → IsRun content input go bound ran old.written new.written
  run_is ran run =
      let setting = source_setting content go bound in
      record {
        outcome = outcome_of setting input run.run.within ran.end run.last;
        gives = gives_end setting input ran.end run.last run.run;
        answer = ran_is ran run.last.state.running.func run.last.state.steps run.last.state.events (line_count run.last.lines) run.func run.steps run.events run.lines;
        written = run.written;
      }

  pub puts_are : (ran : Ran) → IsRunFrom (source_setting content go bound) (opening (source_setting content go bound) input) ran old new
      → PutsRun content input go bound old new
  puts_are ran run =
      let setting = source_setting content go bound in
      record {
        outcome = outcome_of setting input run.run.within ran.end run.last;
        gives = gives_end setting input ran.end run.last run.run;
        puts = run.puts;
      }

  -- a front of what the run writes from its opening on is one of what it writes
  pub front_is : WritesFrontFrom (source_setting content go bound) (opening (source_setting content go bound) input) old new
      → WritesFrontOfRun content input go bound old.written new.written
  front_is writes =
      let setting = source_setting content go bound in
      record {
        outcome = outcome_of setting input writes.run.within writes.end writes.last;
        gives = gives_end setting input writes.end writes.last writes.run;
        front = writes.front;
      }

  pub cut_is : WritesFrontFrom (source_setting content go bound) (opening (source_setting content go bound) input) old new
      → PutsFrontOfRun content input go bound old new
  cut_is writes =
      let setting = source_setting content go bound in
      record {
        outcome = outcome_of setting input writes.run.within writes.end writes.last;
        gives = gives_end setting input writes.end writes.last writes.run;
        puts = writes.puts;
      }
