-- What a part of a run makes.
use Rattle.std.specs.Prelude.{◌≡◌, ℕ, List, ◌++◌}
use Rattle.sp_ids.specs.declared.ends.End.{End}
use Rattle.ir_ast.specs.Layouts.{ObjectLayout}
use Rattle.object_meaning.specs.Effects.{Progress}
use Rattle.object_meaning.specs.Outcomes.{events_from, proceeds, sizes_in}
use Rattle.object_meaning.specs.Runs.{Go, Ends, Reaches}
use Rattle.object_meaning.specs.States.{State, Setting}
use Rattle.object_meaning.specs.Traces.{Event}
use Rattle.made_objects.specs.declared.makes.Made.{Made}
use Rattle.made_objects.specs.Makings.{counted_from, makings_from, sizes_made}
use Rattle.made_objects.specs.Packed.{HaveRoom}

-- from one state to another these objects were made, at these events; whatever comes later comes behind them
pub record Makes (layouts : List ObjectLayout) (before now : State) (events : List Event) (made : List Made) : Type 0 where
  pub grown : sizes_in layouts now.objects ≡ sizes_in layouts before.objects ++ sizes_made made
  pub room : HaveRoom (sizes_in layouts before.objects) → HaveRoom (sizes_in layouts now.objects)
  pub counted : now.events ≡ counted_from before.events events
  pub first : (later : List Event) (sizes : List ℕ)
      → makings_from before.events (events ++ later) (sizes_made made ++ sizes) ≡ made ++ makings_from now.events later sizes

-- a run has come to this state, and has made these objects
pub record HasMade (setting : Setting) (start now : Progress State) (made : List Made) : Type 0 where
  pub reached : Reaches {E = End} (proceeds setting) start now
  pub makes : Makes setting.layouts start.state now.state (events_from setting reached.after (Go start)) made

-- and these from a state to the end of the run
pub record MakesLast (layouts : List ObjectLayout) (before last : State) (events : List Event) (made : List Made) : Type 0 where
  pub grown : sizes_in layouts last.objects ≡ sizes_in layouts before.objects ++ sizes_made made
  pub room : HaveRoom (sizes_in layouts before.objects) → HaveRoom (sizes_in layouts last.objects)
  pub counted : last.events ≡ counted_from before.events events
  pub all : makings_from before.events events (sizes_made made) ≡ made

-- these are all objects that a run makes
pub record MakesAll (setting : Setting) (start : Progress State) (end : End) (last : Progress State) (made : List Made) : Type 0 where
  pub run : Ends (proceeds setting) start end last
  pub makes : MakesLast setting.layouts start.state last.state (events_from setting run.within (Go start)) made
