-- A frame, a state and an effect, and what they are where only kept blocks and registers are there.
use Rattle.std.proofs.Common.{◌≡◌, ℕ, List, map}
use Rattle.std.specs.List.{All}
use Rattle.sp_ids.specs.declared.ends.End.{End}
use Rattle.graph_search.specs.Paths.{Marked}
use Rattle.ir_cfg.specs.Unreached.{kept_of}
use Rattle.ir_cfg.proofs.KeepsPlaces.{marks_before}
use Rattle.object_meaning.specs.Effects.{Effect, goes_on, prints, ends}
use Rattle.object_meaning.specs.States.{Frame, State}
use Rattle.unreached_laws.proofs.Keepings.{Keeping, LineStays, line_kept}

module _ (keepings : ℕ → Keeping) where
  -- the frame under the new numbers, with the registers that are kept
  abbrev pub image : Frame → Frame
  image frame = record {
    func = frame.func;
    block = marks_before (keepings frame.func).blocks frame.block;
    rest = map (line_kept (keepings frame.func)) frame.rest;
    registers = kept_of (keepings frame.func).values frame.registers;
  }

  -- it runs in a kept block
  pub record FrameStays (frame : Frame) : Type 0 where
    pub entry : Marked (keepings frame.func).blocks 0
    pub block : Marked (keepings frame.func).blocks frame.block
    pub rest : All (LineStays keepings frame.func) frame.rest

  abbrev pub TaskStays : List Frame → Type 0
  TaskStays frames = All FrameStays frames

  abbrev pub image_of : State → State
  image_of state = record state { running = image state.running; below = map image state.below; tasks = map (map image) state.tasks }

  pub record Stays (state : State) : Type 0 where
    pub running : FrameStays state.running
    pub below : TaskStays state.below
    pub tasks : All TaskStays state.tasks

  -- a state that stays, and its image
  pub record Goes (state there : State) : Type 0 where
    pub stays : Stays state
    pub is : there ≡ image_of state

  pub data EffectKept : Effect State → Effect State → Type 0 where
    both_go : (state there : State) → Goes state there → EffectKept (goes_on state) (goes_on there)
    both_print : (word : ℕ) (state there : State) → Goes state there → EffectKept (prints word state) (prints word there)
    both_end : (end : End) (state there : State) → Goes state there → EffectKept (ends end state) (ends end there)
