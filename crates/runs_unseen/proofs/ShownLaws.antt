-- What the frames that wait in a verified module show where a run ends is the same by both meanings.
use Rattle.std.proofs.Common.{◌≡◌, ℕ, suc, ◌<◌, ◌^◌, ◌&&◌, Bool, true, false, List, [], ◌∷◌, length, drop, refl, sym, ap, ◌∙◌, subst, Option, Some}
use Rattle.std.specs.Prelude.{slice_get}
use Rattle.std.specs.List.{AllZip, Contains}
use Rattle.std.specs.Option.{option_map_or}
use Rattle.list_laws.proofs.Contents.{all_at, get_contained}
use Rattle.list_laws.proofs.Tests.{all_passes}
use Rattle.list_laws.proofs.Zips.{zip_weaker}
use Rattle.sp_ids.specs.declared.ends.End.{End}
use Rattle.ir_ast.specs.declared.ops.Op.{Op}
use Rattle.ir_ast.specs.declared.ops.Op.TheVariants.{Statepoint}
use Rattle.ir_ast.specs.declared.ops.Operand.{Operand}
use Rattle.ir_ast.specs.declared.types.Ty.{Ty}
use Rattle.ir_ast.specs.Faults.GroupShape.{entries_of, is_statepoint}
use Rattle.ir_ast.specs.Faults.TypeClash.{Fits}
use Rattle.ir_ast.specs.Funcs.{Function}
use Rattle.ir_ast.specs.Insts.{Instruction}
use Rattle.ir_ast.specs.Lines.{LineOf, is_bundle}
use Rattle.ir_ast.specs.Modules.{ModuleContent}
use Rattle.ir_ast.specs.Operands.{is_value}
use Rattle.ir_ast.specs.Types.{is_first_class, is_pointer}
use Rattle.ir_ast.specs.Values.{value_types}
use Rattle.ir_cfg.specs.DefiniteUses.{text_place}
use Rattle.move_plan.specs.declared.plan_lines.PlanLine.{PlanLine}
use Rattle.map_bytes.specs.declared.values.Place.{Place}
use Rattle.moving_heap.specs.declared.stands.Stand.{Stand}
use Rattle.object_meaning.specs.Lines.{Line}
use Rattle.object_meaning.specs.States.{Frame, State}
use Rattle.object_meaning.specs.Texts.{closing_lines, function_name}
use Rattle.object_meaning.proofs.LineLaws.{line_is}
use Rattle.pair_facts.specs.Faults.{lost_value}
use Rattle.pair_facts.specs.Lines.{group_in, line_in, lines_at}
use Rattle.pair_facts.specs.Uses.{entries_at, is_kept}
use Rattle.stackmap_write.specs.Constants.{constants_of}
use Rattle.stackmap_write.specs.ModuleMaps.{deopt_places, map_of}
use Rattle.machine_meaning.specs.Code.{machinery_of}
use Rattle.machine_meaning.specs.Machines.{Machine, Machinery}
use Rattle.machine_meaning.specs.TrapLines.{closing_of}
use Rattle.moves_unseen.specs.Frames.{FrameWords, IsWaiting, group_pairs}
use Rattle.moves_unseen.specs.Steps.{IsLast}
use Rattle.moves_unseen.specs.Types.{IsLineOf}
use Rattle.moves_unseen.specs.Waits.{IsRecorded, IsSound}
use Rattle.moves_unseen.proofs.LineTypes.{lines_are_typed}
use Rattle.frames_shown.specs.Shown.{ShowsEntry}
use Rattle.frames_shown.specs.Statements.{IsEntry, IsShown}
use Rattle.frames_shown.proofs.DeoptLaws.{bundle_located}
use Rattle.frames_shown.proofs.StackLaws.{closing_shown}
use Rattle.runs_unseen.proofs.frames_spilled.EntryPairs.{derived_within}
use Rattle.runs_unseen.proofs.frames_spilled.TextLaws.{line_in_text}
use Rattle.runs_unseen.proofs.records_found.WaitingLaws.{record_is_found, rest_is}

bundled : (op : Op) (inst : Instruction) → LineOf op inst → is_statepoint op ≡ true → is_bundle inst.bundle ≡ true
bundled (Statepoint id callee types) inst form is = form.bundle
bundled _ inst form is = absurd (cc)

module _ (content : ModuleContent) (sound : IsSound content) (few : length (constants_of content) < 2 ^ 32) (plan : List PlanLine) (bound : ℕ) where
  abbrev machinery : Machinery
  machinery = machinery_of content (map_of content) plan bound

  module _ (stands : List Stand) (frame : Frame) (held : FrameWords) (waiting : IsWaiting content stands frame held) where
    abbrev func : Function
    func = waiting.func

    abbrev lines : List Line
    lines = lines_at func frame.block

    abbrev call : Instruction
    call = waiting.call.inst

    abbrev group : List Line
    group = group_in lines waiting.place

    of_line : IsLineOf content func waiting.call
    of_line = lines_are_typed content sound.target frame.func func waiting.at.defined frame.block waiting.place waiting.call waiting.is

    -- a pointer of the bundle that no relocate keeps is a fault
    kept_so : (entry : Ty × Operand) → Contains call.bundle entry → is_pointer entry.0 ≡ true → is_kept (entries_of call) group entry.1 ≡ true
    kept_so entry contained managed =
        subst (λ (entries : List Operand). is_kept entries group entry.1 ≡ true) (ap (λ (l : Line). entries_of l.inst) (line_is lines waiting.place waiting.call waiting.is))
        (by (is_kept (entries_at lines waiting.place) group entry.1) refl)
      where
        by : (b : Bool) → is_kept (entries_at lines waiting.place) group entry.1 ≡ b → b ≡ true
        by true is = refl
        by false is =
            absurd (sound.verified frame.func frame.block waiting.place 7 func waiting.at.defined (lost_value (record {
              line = waiting.call;
              stands = waiting.is;
              op = waiting.statepoint;
              entry = entry;
              contained = contained;
              pointer = managed;
              lost = is;
            })))

    entry_so : (entry : Ty × Operand) → Contains call.bundle entry → IsEntry (value_types func) (entries_of call) group entry.0 entry.1
    entry_so entry contained =
        let at = get_contained call.bundle entry contained in
        record {
          form = all_passes (λ (one : Ty × Operand). is_first_class one.0 && is_value one.1) call.bundle at.0 entry (bundled call.op call of_line.form waiting.statepoint) at.1;
          fits = all_at (λ (one : Ty × Operand). Fits (value_types func) one.1 one.0) call.bundle at.0 entry of_line.typed.bundle at.1;
          kept = kept_so entry contained;
        }

    recorded : IsRecorded machinery frame held (group_pairs lines waiting.place) (deopt_places (constants_of content) call) func.name
    recorded = record_is_found content sound plan bound stands frame held waiting

    located : AllZip (λ each place. ShowsEntry call (group_pairs lines waiting.place) (constants_of content) place each) call.bundle (deopt_places (constants_of content) call)
    located =
        bundle_located content few frame.func func waiting.at.defined (text_place func frame.block waiting.place) call
        (line_in_text func frame.block waiting.place waiting.call waiting.is) waiting.statepoint (value_types func) group entry_so

    pub is_shown : IsShown machinery (function_name content) stands frame held
    is_shown = record {
      call = waiting.call;
      behind = drop (suc waiting.place) lines;
      rest = rest_is content sound plan bound stands frame held waiting;
      pairs = group_pairs lines waiting.place;
      keeps = record {
        slots_are = waiting.slots;
        within = derived_within content sound.verified frame func waiting.place waiting.pairs waiting.at waiting.call waiting.is waiting.statepoint;
        bundle = waiting.bundle;
      };
      mapped = record {
        entry = recorded.entry;
        found = recorded.found;
        returns = recorded.returns;
        size = recorded.size;
        fits = recorded.fits;
        pairs_are = recorded.pairs_are;
        entries = subst (λ (places : List Place). AllZip (λ each place. ShowsEntry call (group_pairs lines waiting.place) (constants_of content) place each) call.bundle places) (sym recorded.deopts_are) located;
        named = recorded.named ∙ ap (λ (name : List ℕ). Some name) (sym (ap (λ (one : Option Function). option_map_or (λ (defined : Function). defined.name) one []) waiting.at.defined));
      };
    }

  -- so the last states of both show the same
  pub closing_same : (end : End) (state : State) (there : Machine) → IsLast content (machinery_of content (map_of content) plan bound) state there
      → closing_of (machinery_of content (map_of content) plan bound) end there ≡ closing_lines (function_name content) end state
  closing_same end state there last =
      ap (closing_of machinery end) last.is
      ∙ closing_shown machinery (function_name content) end state last.extra last.objects.settled last.room
      (zip_weaker (IsWaiting content last.extra.heap.stands) (IsShown machinery (function_name content) last.extra.heap.stands) state.below last.extra.below
      (λ frame held waiting. is_shown last.extra.heap.stands frame held waiting) last.below)
