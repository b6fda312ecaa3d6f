-- A new object: the sizes of all objects, the pointer to it, and the frames that wait.
use Rattle.std.proofs.Common.{◌≡◌, ℕ, suc, ◌+◌, ◌≤◌, ◌%◌, ◌^◌, true, List, [], ◌∷◌, ◌++◌, length, get_or, refl, sym, ap, ◌∙◌, subst, arith, Some}
use Rattle.std.specs.Prelude.{slice_get}
use Rattle.std.specs.List.{AllZip, sum_by}
use Rattle.std.proofs.lemmas.Bool.{true≢false}
use Rattle.std.proofs.lemmas.List.{length_push}
use Rattle.std.proofs.lemmas.List.Sums.{sum_by-cons}
use Rattle.ir_ast.specs.Layouts.{ObjectLayout}
use Rattle.ir_ast.specs.Modules.{ModuleContent}
use Rattle.ir_ast.specs.Objects.{Object, Pointer, footprint, pointer}
use Rattle.ir_ast.specs.Types.{is_pointer}
use Rattle.moving_heap.specs.declared.stands.Stand.{Stand}
use Rattle.moving_heap.specs.Places.{first_place, new_stand}
use Rattle.object_meaning.specs.States.{Frame}
use Rattle.pair_facts.specs.Lines.{group_in, lines_at}
use Rattle.machine_meaning.proofs.AddressLaws.{addr_of}
use Rattle.moves_unseen.specs.Frames.{FrameWords, IsWaiting}
use Rattle.moves_unseen.specs.Objects.{IsBase}
use Rattle.moves_unseen.specs.Waits.{IsAnswer, IsSound}
use Rattle.moves_unseen.proofs.AllocLaws.{addr_before, in_heap_before}
use Rattle.runs_unseen.proofs.frames_spilled.ResultLaws.{result_type}
use Rattle.list_laws.proofs.Zips.{zip_weaker}

-- ---- sizes

pub sizes_same : (layouts : List ObjectLayout) (objects : List Object) (stands : List Stand) → length stands ≡ length objects
    → ((place : ℕ) (object : Object) (stand : Stand) → slice_get objects place ≡ Some object → slice_get stands place ≡ Some stand → stand.size ≡ footprint layouts object)
    → sum_by (footprint layouts) objects ≡ sum_by (λ (stand : Stand). stand.size) stands
sizes_same layouts [] [] count each = refl
sizes_same layouts [] (stand ∷ stands) count each = absurd (omega arith)
sizes_same layouts (object ∷ objects) [] count each = absurd (omega arith)
sizes_same layouts (object ∷ objects) (stand ∷ stands) count each =
    let more = sizes_same layouts objects stands (omega arith) (λ place one other here there. each (suc place) one other here there) in
    sum_by-cons (footprint layouts) object objects
    ∙ (ap (λ (n : ℕ). n + sum_by (footprint layouts) objects) (sym (each 0 object stand refl refl))
    ∙ (ap (λ (n : ℕ). stand.size + n) more ∙ sym (sum_by-cons (λ (one : Stand). one.size) stand stands)))

-- ---- frames that wait

pub waits_more : (content : ModuleContent) (stands : List Stand) (new : Stand) (frame : Frame) (held : FrameWords) → IsWaiting content stands frame held → IsWaiting content (stands ++ new ∷ []) frame held
waits_more content stands new frame held waiting = record {
  func = waiting.func;
  place = waiting.place;
  pairs = waiting.pairs;
  at = waiting.at;
  call = waiting.call;
  is = waiting.is;
  statepoint = waiting.statepoint;
  registers_count = waiting.registers_count;
  words_count = waiting.words_count;
  numbers = waiting.numbers;
  room = waiting.room;
  slots = record {
    each = λ k pair at.
        let one = waiting.slots.each k pair at in
        record {
          heap = in_heap_before stands new _ one.heap;
          same = one.same;
          first = one.first;
          derived_is = one.derived_is ∙ sym (addr_before stands new _ one.heap.object);
          base_is = one.base_is ∙ sym (addr_before stands new _ (subst (λ (n : ℕ). n ≤ length stands) (sym one.same) one.heap.object));
        };
  };
  bundle = waiting.bundle;
}

pub all_more : (content : ModuleContent) (stands : List Stand) (new : Stand) (frames : List Frame) (helds : List FrameWords) → AllZip (IsWaiting content stands) frames helds
    → AllZip (IsWaiting content (stands ++ new ∷ [])) frames helds
all_more content stands new frames helds all = zip_weaker (IsWaiting content stands) (IsWaiting content (stands ++ new ∷ [])) frames helds (waits_more content stands new) all

-- ---- the answer

last_one : (stands : List Stand) (new other : Stand) → get_or (stands ++ new ∷ []) (length stands) other ≡ new
last_one [] new other = refl
last_one (first ∷ stands) new other = last_one stands new other

-- the pointer to the new object has the address at which it stands
pub new_base : (stands : List Stand) (size number : ℕ) → number ≡ length stands → sum_by (λ (stand : Stand). stand.size) stands ≤ 67108864
    → IsBase (stands ++ new_stand stands size ∷ []) (record { object = number + 1; offset = 0 }) (first_place stands)
new_base stands size number count low =
    let more = length_push stands (new_stand stands size) in
    record {
      heap = record { object = omega arith; offset = omega arith };
      first = refl;
      word =
          (let fits : first_place stands ≡ (first_place stands + 0) % 2 ^ 64 = omega arith in fits)
          ∙ (ap (λ (stand : Stand). (stand.address + 0) % 2 ^ 64) (sym (last_one stands (new_stand stands size) (record { number = 0; size = 0; address = 0 })))
          ∙ sym (addr_of (stands ++ new_stand stands size ∷ []) (record { object = number + 1; offset = 0 }) (length stands) (omega arith) (omega arith)));
    }

-- it is the answer of a group whose results are pointers
pub base_answers : (content : ModuleContent) → IsSound content → (stands : List Stand) (frame : Frame) (held : FrameWords) (waiting : IsWaiting content stands frame held)
    → is_pointer waiting.call.inst.ty ≡ true → (to : Pointer) (word : ℕ) → IsBase stands to word
    → IsAnswer stands (group_in (lines_at waiting.func frame.block) waiting.place) (pointer to) word
base_answers content sound stands frame held waiting managed to word base = record {
  numbers = λ member inside op plain.
      let type = result_type content sound.target frame.func waiting.func waiting.at.defined frame.block waiting.place waiting.call waiting.is waiting.statepoint member inside op in
      absurd (true≢false (sym managed ∙ (sym (ap is_pointer type) ∙ plain)));
  bases = λ member inside op kind. base;
}
