-- The last states of a run: frames that wait still do, and the running one has the words of its function's frames.
use Rattle.std.proofs.Common.{◌≡◌, ℕ, refl, sym, ap, ◌∙◌, Option, Some}
use Rattle.std.specs.Prelude.{slice_get}
use Rattle.std.specs.List.{AllZip}
use Rattle.std.specs.Option.{option_map_or}
use Rattle.ir_ast.specs.Funcs.{Function}
use Rattle.ir_ast.specs.Modules.{ModuleContent}
use Rattle.frame_forms.specs.FrameSizes.{frame_words}
use Rattle.object_meaning.specs.States.{State}
use Rattle.machine_meaning.specs.Code.{words_in}
use Rattle.machine_meaning.specs.Machines.{Machinery}
use Rattle.moves_unseen.specs.Objects.{AreHeld}
use Rattle.moves_unseen.specs.Frames.{IsRunning, IsWaiting}
use Rattle.moves_unseen.specs.States.{Extra, IsRelated, machine_of}
use Rattle.moves_unseen.specs.Steps.{IsLast}

words_are : (content : ModuleContent) (number : ℕ) (func : Function) → slice_get content.funcs number ≡ Some func → frame_words func ≡ words_in content number
words_are content number func defined = sym (ap (λ (one : Option Function). option_map_or frame_words one 0) defined)

-- whether the running frame goes on, or waits at a statepoint
pub last_running : (content : ModuleContent) (machinery : Machinery) (state : State) (extra : Extra) → AreHeld content.layouts state.objects extra.heap.stands extra.heap.contents
    → IsRunning content state.objects extra.heap.stands state.running extra.running → AllZip (IsWaiting content extra.heap.stands) state.below extra.below
    → IsLast content machinery state (machine_of machinery state extra)
last_running content machinery state extra objects running below = record {
  extra = extra;
  is = refl;
  objects = objects;
  below = below;
  room = running.slots ∙ words_are content state.running.func running.func running.at.defined;
}

pub last_waiting : (content : ModuleContent) (machinery : Machinery) (state : State) (extra : Extra) → AreHeld content.layouts state.objects extra.heap.stands extra.heap.contents
    → IsWaiting content extra.heap.stands state.running extra.running → AllZip (IsWaiting content extra.heap.stands) state.below extra.below
    → IsLast content machinery state (machine_of machinery state extra)
last_waiting content machinery state extra objects waiting below = record {
  extra = extra;
  is = refl;
  objects = objects;
  below = below;
  room = waiting.room ∙ words_are content state.running.func waiting.func waiting.at.defined;
}

-- a related state may be the last one
pub last_of : (content : ModuleContent) (machinery : Machinery) (state : State) (extra : Extra) → IsRelated content state extra → IsLast content machinery state (machine_of machinery state extra)
last_of content machinery state extra related = last_running content machinery state extra related.objects related.running related.below
