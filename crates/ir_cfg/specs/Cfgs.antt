-- What a `Cfg` keeps besides the edges.
use Rattle.std.specs.Prelude.{List, Bool}
use Rattle.ir_cfg.specs.Graphs.{Graph}
use Rattle.ir_cfg.specs.Turned.{IsTurned}
use Rattle.ir_cfg.specs.Marks.{MarksReached}

pub record IsCfg (graph preds : Graph) (marks : List Bool) : Type 0 where
  pub turned : IsTurned graph preds
  pub marks_reached : MarksReached graph marks
