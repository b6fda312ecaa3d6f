-- The record of a frame that waits.
use Rattle.std.proofs.Common.{◌≡◌, ◌∙◌, ℕ, suc, ◌+◌, ◌-◌, ◌*◌, ◌/◌, ◌<◌, ◌≤◌, true, List, [], ◌∷◌, length, take, drop, map, Option, Some, None, slice_get, refl, ap, sym, arith, add-one, length-drop}
use Rattle.std.specs.Prelude.{slice_index}
use Rattle.std.specs.Option.{option_map_or}
use Rattle.std.proofs.lemmas.List.{length-map}
use Rattle.std.proofs.lemmas.List.Folds.{flat_map-map}
use Rattle.std.proofs.lemmas.List.Sums.{prefix_len-le-length}
use Rattle.std.proofs.lemmas.Option.{none-some, slice_get_within}
use Rattle.std.specs.List.{flat_map}
use Rattle.list_laws.proofs.Places.{drop_at}
use Rattle.ir_ast.specs.declared.ops.Op.{Op}
use Rattle.ir_ast.specs.declared.ops.Op.TheVariants.{Statepoint}
use Rattle.ir_ast.specs.Blocks.{BasicBlock}
use Rattle.ir_ast.specs.Faults.GroupShape.{is_statepoint}
use Rattle.ir_ast.specs.Funcs.{Function}
use Rattle.ir_ast.specs.Insts.{Instruction}
use Rattle.ir_ast.specs.Modules.{ModuleContent}
use Rattle.move_plan.specs.declared.plan_lines.PlanLine.{PlanLine}
use Rattle.moving_heap.specs.declared.stands.Stand.{Stand}
use Rattle.frame_forms.specs.CodeAddresses.{first_start}
use Rattle.frame_forms.specs.FrameSizes.{frame_words}
use Rattle.frame_walk.specs.Maps.{found_in}
use Rattle.object_meaning.specs.Frames.{group_length, is_member}
use Rattle.object_meaning.specs.Lines.{Line, first_register, insts_in, insts_of, registers_of}
use Rattle.object_meaning.specs.States.{Frame}
use Rattle.object_meaning.specs.TargetRuns.{plain_lines}
use Rattle.pair_facts.specs.Lines.{group_in, lines_at}
use Rattle.machine_meaning.specs.Code.{code_address, machinery_of, name_in}
use Rattle.machine_meaning.specs.Machines.{behind, return_address, return_to}
use Rattle.machine_meaning.specs.Words.{worded}
use Rattle.map_bytes.specs.declared.values.Place.{Place}
use Rattle.stackmap_write.specs.Constants.{constants_of}
use Rattle.stackmap_write.specs.ModuleMaps.{deopt_places, map_of}
use Rattle.moves_unseen.specs.Frames.{FrameWords, IsWaiting, group_pairs}
use Rattle.moves_unseen.specs.States.{worded_frame}
use Rattle.moves_unseen.specs.Waits.{IsRecorded, IsSound}
use Rattle.runs_unseen.proofs.records_found.FoundLaws.{HasEntry, has_entry, has_name}
use Rattle.runs_unseen.proofs.records_found.LineLaws.{group_count, group_is, line_stands, own, pair_of, run_of}
use Rattle.runs_unseen.proofs.records_found.ListLaws.{prefix_of_images}
use Rattle.runs_unseen.proofs.records_found.SlotLaws.{deopts_are, entry_with, is_usable, pairs_behind}

-- the block of an instruction
record InBlock (func : Function) (block place : ℕ) (inst : Instruction) : Type 0 where
  own : BasicBlock
  found : slice_get func.blocks block ≡ Some own
  stands : slice_get own.insts place ≡ Some inst
  same : insts_in func block ≡ own.insts

in_block : (func : Function) (block place : ℕ) (inst : Instruction) → slice_get (insts_in func block) place ≡ Some inst → InBlock func block place inst
in_block func block place inst is = by (slice_get func.blocks block) refl
  where
    by : (one : Option BasicBlock) → slice_get func.blocks block ≡ one → InBlock func block place inst
    by None none = absurd (none-some inst (sym (ap (λ (one : Option BasicBlock). slice_get (option_map_or (λ (b : BasicBlock). b.insts) one []) place) none) ∙ is))
    by (Some defined) found = record {
      own = defined;
      found = found;
      stands = sym (ap (λ (one : Option BasicBlock). slice_get (option_map_or (λ (b : BasicBlock). b.insts) one []) place) found) ∙ is;
      same = ap (λ (one : Option BasicBlock). option_map_or (λ (b : BasicBlock). b.insts) one []) found;
    }

behind_is : (op : Op) (rest : List Line) → is_statepoint op ≡ true → behind op rest ≡ drop (group_length rest) rest
behind_is (Statepoint id callee types) rest is = refl
behind_is _ rest is = cc

module _ (content : ModuleContent) (sound : IsSound content) (plan : List PlanLine) (bound : ℕ) (stands : List Stand) (frame : Frame) (held : FrameWords)
    (waiting : IsWaiting content stands frame held) where
  abbrev place : ℕ
  place = waiting.place

  abbrev lines : List Line
  lines = lines_at waiting.func frame.block

  abbrev rest : List Line
  rest = drop (suc waiting.place) (lines_at waiting.func frame.block)

  inside : InBlock waiting.func frame.block waiting.place waiting.call.inst
  inside = in_block waiting.func frame.block place waiting.call.inst (line_stands waiting.func frame.block place waiting.call waiting.is)

  abbrev run : ℕ
  run = run_of (drop (suc place) inside.own.insts)

  abbrev group : List Instruction
  group = take run (drop (suc place) inside.own.insts)

  pub rest_is : frame.rest ≡ waiting.call ∷ drop (suc waiting.place) (lines_at waiting.func frame.block)
  rest_is = waiting.at.rest ∙ (drop_at lines place waiting.call waiting.is ∙ ap (λ n. waiting.call ∷ drop n lines) (add-one place))

  abbrev given : List Line
  given = plain_lines (first_register content frame.func frame.block) (insts_of content frame.func frame.block)

  given_is : given ≡ lines
  given_is =
      ap (λ (one : Option Function). plain_lines (option_map_or (λ (defined : Function). slice_index (registers_of defined) frame.block) one 0) (option_map_or (λ (defined : Function). insts_in defined frame.block) one []))
      waiting.at.defined

  count : length (map worded given) - length (behind waiting.call.inst.op (map worded rest)) ≡ suc place + run
  count =
      let long : length (map worded given) ≡ length lines = length-map given worded ∙ ap length given_is in
      let within : place < length lines = slice_get_within lines place waiting.call waiting.is in
      let few : length rest ≡ length lines - suc place = length-drop (suc place) lines in
      let many : length (map worded rest) ≡ length rest = length-map rest worded in
      let taken : group_length (map worded rest) ≡ group_length rest = prefix_of_images worded (λ (l : Line). is_member l.inst.op) rest in
      let members : group_length rest ≡ run = group_count waiting.func frame.block (suc place) ∙ ap (λ insts. run_of (drop (suc place) insts)) inside.same in
      let short : group_length rest ≤ length rest = prefix_len-le-length (λ (l : Line). is_member l.inst.op) rest in
      let left : length (behind waiting.call.inst.op (map worded rest)) ≡ length (map worded rest) - group_length (map worded rest) =
      ap length (behind_is waiting.call.inst.op (map worded rest) waiting.statepoint) ∙ length-drop (group_length (map worded rest)) (map worded rest) in
      omega arith

  address_is : return_address (machinery_of content (map_of content) plan bound) (worded_frame frame held.words) ≡ code_address content frame.func frame.block (suc place + run)
  address_is =
      ap (λ (lines : List Line). return_to (machinery_of content (map_of content) plan bound) (worded_frame frame held.words) (map worded lines)) rest_is
      ∙ ap (code_address content frame.func frame.block) count

  abbrev deopts : List Place
  deopts = deopt_places (constants_of content) waiting.call.inst

  has : HasEntry content waiting.func (code_address content frame.func frame.block (suc place + run)) deopts group
  has = has_entry content sound.target frame.func waiting.func waiting.at.defined frame.block inside.own inside.found place waiting.call.inst inside.stands waiting.statepoint

  members_are : map own (group_in lines place) ≡ group
  members_are = group_is waiting.func frame.block place ∙ ap (λ insts. take (run_of (drop (suc place) insts)) (drop (suc place) insts)) inside.same

  pub record_is_found : IsRecorded (machinery_of content (map_of content) plan bound) frame held (group_pairs (lines_at waiting.func frame.block) waiting.place)
      (deopt_places (constants_of content) waiting.call.inst) waiting.func.name
  record_is_found = record {
    entry = entry_with (frame_words waiting.func) deopts group;
    found = ap (found_in (map_of content)) address_is ∙ has.found;
    returns = λ none. has.returns (sym address_is ∙ none);
    size = let back : 8 * frame_words waiting.func / 8 ≡ frame_words waiting.func = omega arith in back ∙ sym waiting.room;
    fits = λ left fits. is_usable (frame_words waiting.func) deopts group has.deopts_fit has.in_frame left (omega (arith, waiting.room));
    pairs_are = pairs_behind (frame_words waiting.func) deopts group ∙ (ap (flat_map pair_of) (sym members_are) ∙ flat_map-map pair_of own (group_in lines place));
    deopts_are = deopts_are (frame_words waiting.func) deopts group;
    named =
        ap (name_in first_start content.funcs) address_is
        ∙ has_name content sound.target frame.func waiting.func waiting.at.defined frame.block inside.own inside.found place waiting.call.inst inside.stands waiting.statepoint;
  }
