-- The record that the map of a module has of a statepoint, and the code address behind the group of a statepoint.
use Rattle.std.proofs.Common.{◌≡◌, ◌∙◌, ℕ, suc, ◌+◌, ◌-◌, ◌*◌, ◌%◌, ◌^◌, ◌<◌, ◌≤◌, true, ◌==◌, List, length, take, drop, Option, Some, slice_get, ap, sym, subst, arith, length-drop, take-append-drop, find}
use Rattle.std.specs.List.{AllByRecursion, list_all}
use Rattle.std.specs.Option.{option_map, option_map_or}
use Rattle.std.proofs.lemmas.List.Sums.{prefix_len-le-length}
use Rattle.std.proofs.lemmas.Option.{slice_get_within}
use Rattle.list_laws.proofs.Contents.{all_at}
use Rattle.ir_ast.specs.declared.modules.Form.TheVariants.{Rewritten}
use Rattle.ir_ast.specs.Blocks.{BasicBlock, EndsAtTerminator}
use Rattle.ir_ast.specs.Faults.GroupShape.{is_statepoint}
use Rattle.ir_ast.specs.Funcs.{Function, instructions_of}
use Rattle.ir_ast.specs.Insts.{Instruction}
use Rattle.ir_ast.specs.Modules.{ModuleContent}
use Rattle.ir_cfg.specs.TargetModules.{IsTargetModule}
use Rattle.ir_cfg.specs.TypedModules.{IsTypedFunction}
use Rattle.frame_forms.specs.CodeAddresses.{first_start}
use Rattle.frame_forms.specs.FrameSizes.{frame_words}
use Rattle.frame_forms.specs.ModuleLayouts.{FunctionLayout, laid_at}
use Rattle.frame_walk.specs.Maps.{found_in, frame_entry, is_deopt}
use Rattle.machine_meaning.specs.Code.{code_address, name_in}
use Rattle.map_bytes.specs.declared.values.Place.{Place}
use Rattle.map_bytes.specs.Entries.{Entry, entries, entry_of}
use Rattle.object_meaning.specs.Frames.{is_member}
use Rattle.stackmap_write.specs.Constants.{constants_of}
use Rattle.stackmap_write.specs.ModuleMaps.{deopt_places, entry_of as function_entry, group_places, map_of, records_of}
use Rattle.stackmap_write.proofs.AddressLaws.{target_addresses_rise}
use Rattle.stackmap_write.proofs.FitLaws.{IsTarget, targets_of}
use Rattle.stackmap_write.proofs.PlaceFitLaws.{all_taken}
use Rattle.frames_shown.proofs.NameLaws.{name_found}
use Rattle.runs_unseen.proofs.records_found.CodeLaws.{behind_inside, text_group, text_members, text_stands}
use Rattle.runs_unseen.proofs.records_found.EntryLaws.{HasRecord, Laid, laid_in, record_in}
use Rattle.runs_unseen.proofs.records_found.LineLaws.{run_of}
use Rattle.runs_unseen.proofs.records_found.ListLaws.{first_found}
use Rattle.runs_unseen.proofs.records_found.SlotLaws.{IsInFrame, all_deopts_fit, all_in_frame, asked, entry_with}

-- what the map has at the address behind a statepoint's group
pub record HasEntry (content : ModuleContent) (func : Function) (address : ℕ) (deopts : List Place) (group : List Instruction) : Type 0 where
  pub found : found_in (map_of content) address ≡ Some (entry_with (frame_words func) deopts group)
  pub returns : address ≡ 0 → ⊥
  pub deopts_fit : list_all (is_deopt (8 * frame_words func)) deopts ≡ true
  pub in_frame : AllByRecursion (IsInFrame (frame_words func)) group

module _ (content : ModuleContent) (target : IsTargetModule content) (number : ℕ) (func : Function) (defined : slice_get content.funcs number ≡ Some func)
    (block : ℕ) (own : BasicBlock) (found : slice_get func.blocks block ≡ Some own)
    (place : ℕ) (inst : Instruction) (stands : slice_get own.insts place ≡ Some inst) (is : is_statepoint inst.op ≡ true) where
  ended : EndsAtTerminator own.insts
  ended = all_at (λ (b : BasicBlock). EndsAtTerminator b.insts) func.blocks block own (all_at (IsTypedFunction Rewritten) content.funcs number func target.typed.functions defined).ends found

  abbrev text : List Instruction
  text = instructions_of func.blocks

  abbrev at : ℕ
  at = length (instructions_of (take block func.blocks)) + place

  abbrev run : ℕ
  run = run_of (drop (suc place) own.insts)

  abbrev constants : List ℕ
  constants = constants_of content

  abbrev group : List Instruction
  group = take (run_of (drop (suc place) own.insts)) (drop (suc place) own.insts)

  -- the group in the function
  text_run : run_of (drop (suc at) text) ≡ run
  text_run = text_group func.blocks block own found place inst stands ended is

  text_group_is : take (run_of (drop (suc at) text)) (drop (suc at) text) ≡ group
  text_group_is = text_members func.blocks block own found place inst stands ended is

  one : HasRecord (records_of constants func) (4 * (0 + at + 1 + run_of (drop (suc at) text))) (deopt_places constants inst) (take (run_of (drop (suc at) text)) (drop (suc at) text))
  one = record_in constants 0 text at inst (text_stands func.blocks block own found place inst stands) is

  few : length content.funcs ≤ 4096
  few = target.typed.limits.functions

  laid : Laid constants 4096 content.funcs number func
  laid = laid_in constants 4096 content.funcs (omega (arith, few)) (targets_of content target) number func defined

  abbrev address : ℕ
  address = code_address content number block (suc place + run)

  abbrev entry : Entry
  entry = entry_of (function_entry (laid_at laid.at func)) one.one

  address_is : address ≡ laid.at + 4 * (length (instructions_of (take block func.blocks)) + (suc place + run))
  address_is =
      ap (λ (one : Option FunctionLayout). option_map_or (λ (l : FunctionLayout). l.address) one 0
      + 4 * (option_map_or (λ (f : Function). length (instructions_of (take block f.blocks))) (slice_get content.funcs number) 0 + (suc place + run))) laid.laid
      ∙ ap (λ (one : Option Function). laid.at + 4 * (option_map_or (λ (f : Function). length (instructions_of (take block f.blocks))) one 0 + (suc place + run))) defined

  returns_here : entry.return_address ≡ address
  returns_here =
      let within : at < length text = slice_get_within text at inst (text_stands func.blocks block own found place inst stands) in
      let rest : length (drop (suc at) text) ≡ length text - suc at = length-drop (suc at) text in
      let short : run_of (drop (suc at) text) ≤ length (drop (suc at) text) = prefix_len-le-length (λ (i : Instruction). is_member i.op) (drop (suc at) text) in
      let same : run_of (drop (suc at) text) ≡ run = text_run in
      let offset : one.one.offset ≡ 4 * (0 + at + 1 + run_of (drop (suc at) text)) = one.offset_is in
      let room : laid.at + 4 * length text < 2 ^ 64 = laid.room in
      let is : address ≡ laid.at + 4 * (length (instructions_of (take block func.blocks)) + (suc place + run)) = address_is in
      let plain : (laid.at + one.one.offset) % 2 ^ 64 ≡ laid.at + one.one.offset = omega arith in
      plain ∙ (let sum : laid.at + one.one.offset ≡ address = omega arith in sum)

  first : find (λ (e : Entry). e.return_address == address) (entries (map_of content)) ≡ Some entry
  first =
      let among = laid.entry one.number one.one one.stands in
      subst (λ n. find (λ (e : Entry). e.return_address == n) (entries (map_of content)) ≡ Some entry) returns_here
      (first_found (λ (e : Entry). e.return_address) (entries (map_of content)) (target_addresses_rise content target) among.0 entry among.1)

  pub has_entry : HasEntry content func (code_address content number block (suc place + run_of (drop (suc place) own.insts))) (deopt_places (constants_of content) inst)
      (take (run_of (drop (suc place) own.insts)) (drop (suc place) own.insts))
  has_entry = record {
    found = ap (option_map frame_entry) first ∙ ap (λ places. Some (record { frame_bytes = 8 * frame_words func; places = places })) (one.places_are ∙ ap (group_places (deopt_places constants inst)) text_group_is);
    returns = λ none. let later : 4096 ≤ laid.at = laid.later in let here : address ≡ laid.at + 4 * (length (instructions_of (take block func.blocks)) + (suc place + run)) = address_is in omega arith;
    deopts_fit = all_deopts_fit (frame_words func) constants inst is (asked 0 text at inst (text_stands func.blocks block own found place inst stands));
    in_frame =
        let shape = (all_at IsTarget content.funcs number func (targets_of content target) defined).shape in
        let rest = all_in_frame func shape (take (suc at) text) (drop (suc at) text) (sym (take-append-drop (suc at) text)) in
        subst (AllByRecursion (IsInFrame (frame_words func))) text_group_is (all_taken (IsInFrame (frame_words func)) (run_of (drop (suc at) text)) (drop (suc at) text) rest);
  }

  -- and the name of its function
  pub has_name : name_in first_start content.funcs (code_address content number block (suc place + run_of (drop (suc place) own.insts))) ≡ Some func.name
  has_name =
      name_found content number func defined block (suc place + run)
      (subst (λ (before : ℕ). before + (suc place + run) < length text)
      (sym (ap (λ (one : Option Function). option_map_or (λ (f : Function). length (instructions_of (take block f.blocks))) one 0) defined))
      (behind_inside func.blocks block own found place inst stands ended is))
