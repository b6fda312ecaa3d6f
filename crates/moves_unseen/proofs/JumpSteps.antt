-- A jump: both go to the same block, whose phis take the same, and stand behind them with the relation.
use Rattle.std.proofs.Common.{◌≡◌, ℕ, ◌+◌, ◌<◌, ◌==◌, Bool, true, false, List, [], ◌∷◌, length, drop, get_or, map, take, refl, sym, ap, ◌∙◌, subst, arith, ltb, Option, Some, None}
use Rattle.std.specs.Prelude.{slice_get, slice_index, if◌then◌else◌, is_some}
use Rattle.std.specs.List.{AllZip, drop-map, position}
use Rattle.std.specs.Option.{option_map_or}
use Rattle.std.proofs.lemmas.Bool.{eqb-true, true≢false}
use Rattle.std.proofs.lemmas.List.{take-map}
use Rattle.std.proofs.lemmas.Option.{get_or_from_slice_get, slice_get_within}
use Rattle.list_laws.proofs.Places.{get_map, take_back}
use Rattle.sp_ids.specs.declared.ids.BlockId.{BlockId}
use Rattle.sp_ids.specs.declared.ends.End.TheVariants.{OutOfSteps}
use Rattle.ir_ast.specs.declared.ops.Op.{Op}
use Rattle.ir_ast.specs.declared.ops.Op.TheVariants as ops
use Rattle.ir_ast.specs.declared.ops.Operand.{Operand}
use Rattle.ir_ast.specs.declared.ops.Operand.TheVariants as operands
use Rattle.ir_ast.specs.declared.types.Ty.{Ty}
use Rattle.ir_ast.specs.Edges.{targets}
use Rattle.ir_ast.specs.Faults.GroupShape.{is_statepoint}
use Rattle.ir_ast.specs.Faults.PhiEdges.{is_phi}
use Rattle.ir_ast.specs.Faults.TypeClash.{Fits, asked}
use Rattle.ir_ast.specs.Funcs.{Function}
use Rattle.ir_ast.specs.Insts.{Instruction}
use Rattle.ir_ast.specs.Lines.{LineOf}
use Rattle.ir_ast.specs.Modules.{ModuleContent}
use Rattle.ir_ast.specs.Objects.{Datum, Pointer, number}
use Rattle.ir_ast.specs.Ops.{is_terminator}
use Rattle.ir_ast.specs.Types.{is_pointer}
use Rattle.ir_ast.specs.Values.{outcome_type, value_types}
use Rattle.ir_cfg.specs.Graphs.{Edge, graph_of}
use Rattle.ir_cfg.specs.TargetModules.{IsTargetModule}
use Rattle.map_bytes.specs.Maps.{StackMap}
use Rattle.move_plan.specs.declared.plan_lines.PlanLine.{PlanLine}
use Rattle.move_plan.specs.Plans.{go}
use Rattle.moving_heap.specs.declared.stands.Stand.{Stand}
use Rattle.object_meaning.specs.Calls.{stepped}
use Rattle.object_meaning.specs.Effects.{goes_on, ends}
use Rattle.object_meaning.specs.Frames.{is_member}
use Rattle.object_meaning.specs.Jumps.{arrived, incoming, jumped, phi_count, phi_write}
use Rattle.object_meaning.specs.Lines.{Line, insts_in, registers_of}
use Rattle.object_meaning.specs.Registers.{nothing, operand, value, number_in, pointer_in, put_all}
use Rattle.object_meaning.specs.States.{Frame, State, Setting}
use Rattle.object_meaning.specs.TargetRuns.{plain_lines, target_setting}
use Rattle.pair_facts.specs.declared.bases.Base.TheVariants as bases
use Rattle.pair_facts.specs.Lines.{gives, line_before, lines_at, operand_at}
use Rattle.pair_facts.specs.Pairs.{Pairs, along, given_pairs, on_edge, with_given, without}
use Rattle.pair_facts.specs.Pairs.{incoming as taken}
use Rattle.pair_facts.specs.Paths.{behind, pairs_at, pairs_at_end, went}
use Rattle.pair_facts.proofs.PathLaws.{front_stays}
use Rattle.machine_meaning.specs.Code.{machinery_of}
use Rattle.machine_meaning.specs.Machines.{Machine, Machinery, lifted}
use Rattle.machine_meaning.specs.Words.{worded}
use Rattle.machine_meaning.specs.Relations.{word_in, IsPair}
use Rattle.moves_unseen.specs.Frames.{AreNumbers, IsRunning}
use Rattle.moves_unseen.specs.States.{Extra, IsRelated, machine_of, worded_frame}
use Rattle.moves_unseen.specs.Steps.{StepFollows, both_end, both_go}
use Rattle.moves_unseen.specs.Types.{IsJump, IsLineOf, branches, jumps, switches}
use Rattle.moves_unseen.proofs.JumpLaws.{IsEnd, before_phis, end_of, phi_lower}
use Rattle.moves_unseen.proofs.LineTypes.{lines_are_typed}
use Rattle.moves_unseen.proofs.PassLaws.{with_words}
use Rattle.moves_unseen.proofs.PhiLaws.{length_each, number_along, phis_worded, picked, picked_is, pointer_along, put_all_each, put_each, put_words_each, word_along}
use Rattle.moves_unseen.proofs.PlainSteps.{number_repeated}
use Rattle.moves_unseen.proofs.RegisterLaws.{word_of_value}
use Rattle.moves_unseen.proofs.StandLaws.{IsAlone, behind_alone, line_here}
use Rattle.moves_unseen.proofs.ValueLaws.{same_number, value_at}
use Rattle.ir_ast.proofs.OpLaws.{phi_is}
use Rattle.moving_heap.proofs.VerdictLemmas.{event_none}
use Rattle.moves_unseen.proofs.LastLaws.{last_of}

jump_alone : (line : Line) (op : Op) → line.inst.op ≡ op → IsJump op → IsAlone line
jump_alone line _ is jumps = record { statepoint = ap is_statepoint is; member = ap is_member is; phi = ap is_phi is }
jump_alone line _ is branches = record { statepoint = ap is_statepoint is; member = ap is_member is; phi = ap is_phi is }
jump_alone line _ is switches = record { statepoint = ap is_statepoint is; member = ap is_member is; phi = ap is_phi is }

jump_ends : (op : Op) → IsJump op → is_terminator op ≡ true
jump_ends _ jumps = refl
jump_ends _ branches = refl
jump_ends _ switches = refl

jump_gives : (op : Op) (inst : Instruction) → IsJump op → LineOf op inst → is_some inst.result ≡ false
jump_gives _ inst jumps form = form.result
jump_gives _ inst branches form = form.result
jump_gives _ inst switches form = (form.0).result

phi_typed : (types : List Ty) (inst : Instruction) (op : Op) → op ≡ ops.Phi → AllZip (Fits types) inst.operands (asked op inst.ty (length inst.operands))
    → AllZip (Fits types) inst.operands (asked ops.Phi inst.ty (length inst.operands))
phi_typed types inst op is all = subst (λ (each : Op). AllZip (Fits types) inst.operands (asked each inst.ty (length inst.operands))) is all

given_to : (to : Option ℕ) (at : ℕ) (line : Line) → line.to ≡ to → gives line at ≡ true → line.to ≡ Some at
given_to None at line is given = absurd (true≢false (sym given ∙ ap (λ (o : Option ℕ). option_map_or (λ (own : ℕ). own == at) o false) is))
given_to (Some other) at line is given =
    is ∙ ap (λ (n : ℕ). Some n) (eqb-true other at (sym (ap (λ (o : Option ℕ). option_map_or (λ (own : ℕ). own == at) o false) is) ∙ given))

pub pair_as : (stands : List Stand) (derived other_derived base other_base : Pointer) (word other_word base_word other_base_word : ℕ)
    → derived ≡ other_derived → base ≡ other_base → word ≡ other_word → base_word ≡ other_base_word
    → IsPair stands derived base word base_word → IsPair stands other_derived other_base other_word other_base_word
pair_as stands derived other_derived base other_base word other_word base_word other_base_word one two three four pair =
    subst (λ (d : Pointer). IsPair stands d other_base other_word other_base_word) one
    (subst (λ (b : Pointer). IsPair stands derived b other_word other_base_word) two
    (subst (λ (w : ℕ). IsPair stands derived base w other_base_word) three
    (subst (λ (w : ℕ). IsPair stands derived base word w) four pair)))

-- ---- the frame at another block

module _ (content : ModuleContent) (target : IsTargetModule content) (map_given : StackMap) (plan : List PlanLine) (bound : ℕ) (state : State) (extra : Extra)
    (related : IsRelated content state extra) (line : Line) (rest : List Line) (is : state.running.rest ≡ line ∷ rest) (jump : IsJump line.inst.op)
    (number_of : ℕ) (label : BlockId) (labelled : slice_get line.inst.labels number_of ≡ Some label) where
  abbrev machinery : Machinery
  machinery = machinery_of content map_given plan bound

  abbrev setting : Setting
  setting = target_setting content (go plan) bound

  abbrev func : Function
  func = related.running.func

  abbrev from : ℕ
  from = state.running.block

  abbrev to : ℕ
  to = label.0

  abbrev types : List Ty
  types = value_types func

  abbrev registers : List Datum
  registers = state.running.registers

  abbrev words : List ℕ
  words = extra.running.words

  abbrev machine : Machine
  machine = machine_of machinery state extra

  here : slice_get (lines_at func from) related.running.place ≡ Some line
  here = line_here content state.running func related.running.place related.running.pairs related.running.at line rest is

  of_line : IsLineOf content func line
  of_line = lines_are_typed content target state.running.func func related.running.at.defined from related.running.place line here

  ended : IsEnd func from related.running.place line
  ended = end_of content target state.running.func func related.running.at.defined from related.running.place line here (jump_ends line.inst.op jump)

  edge : Edge (graph_of func) from to
  edge = record {
    number = number_of;
    leads = ap (λ (row : List BlockId). slice_get row number_of)
        (get_or_from_slice_get (map targets func.blocks) from (targets ended.defined) [] (get_map targets func.blocks from ended.defined ended.in_function) ∙ ended.edges) ∙ labelled;
  }

  abbrev lines : List Line
  lines = lines_at func to

  abbrev phis : List Line
  phis = take (phi_count lines) lines

  abbrev front : Pairs
  front = on_edge from phis (pairs_at_end (lines_at func from) related.running.at.arrived.front)

  -- a jump changes no pairs
  at_end : pairs_at_end (lines_at func from) related.running.at.arrived.front ≡ related.running.pairs
  at_end =
      ap (pairs_at (lines_at func from) related.running.at.arrived.front) ended.count
      ∙ (ap (behind (lines_at func from) related.running.place) (sym related.running.at.arrived.is)
      ∙ (behind_alone (lines_at func from) related.running.place related.running.pairs line here (jump_alone line line.inst.op refl jump)
      ∙ ap (λ (given : Option ℕ). with_given given (λ value. given_pairs (without value related.running.pairs) (line_before (lines_at func from) related.running.place) line.inst line.inst.op value) related.running.pairs)
      (event_none line.to (of_line.gives ∙ jump_gives line.inst.op line.inst jump of_line.form))))

  abbrev new_registers : List Datum
  new_registers = put_each (λ phi. incoming from registers phi.inst) phis registers

  abbrev new_words : List ℕ
  new_words = put_each (λ phi. word_in words (taken from phi.inst)) phis words

  -- a phi of the block
  phi_line : (place : ℕ) (phi : Line) → slice_get phis place ≡ Some phi → IsLineOf content func phi × (phi.inst.op ≡ ops.Phi)
  phi_line place phi stands =
      let lower = take_back (phi_count lines) lines place phi stands in
      (lines_are_typed content target state.running.func func related.running.at.defined to place phi lower.1, phi_is phi.inst.op (phi_lower lines place phi lower.0 lower.1))

  within : (place : ℕ) (phi : Line) (given : ℕ) → slice_get phis place ≡ Some phi → phi.to ≡ Some given → given < length types
  within place phi given stands gives_it =
      let one = (phi_line place phi stands).0 in slice_get_within types given (outcome_type phi.inst.op phi.inst.ty) (one.type given gives_it)

  in_registers : (place : ℕ) (phi : Line) (given : ℕ) → slice_get phis place ≡ Some phi → phi.to ≡ Some given → given < length registers
  in_registers place phi given stands gives_it = subst (λ (n : ℕ). given < n) (sym related.running.words.registers_count) (within place phi given stands gives_it)

  in_words : (place : ℕ) (phi : Line) (given : ℕ) → slice_get phis place ≡ Some phi → phi.to ≡ Some given → given < length words
  in_words place phi given stands gives_it = subst (λ (n : ℕ). given < n) (sym related.running.words.words_count) (within place phi given stands gives_it)

  register_is : (at : ℕ) → get_or new_registers at nothing ≡ picked (λ phi. incoming from registers phi.inst) phis at (get_or registers at nothing)
  register_is at =
      picked_is (λ phi. incoming from registers phi.inst) (slice_index (registers_of func) to) (insts_in func to) (phi_count lines) registers at nothing (get_or registers at nothing) in_registers refl

  word_is : (at : ℕ) → get_or new_words at 0 ≡ picked (λ phi. word_in words (taken from phi.inst)) phis at (get_or words at 0)
  word_is at =
      picked_is (λ phi. word_in words (taken from phi.inst)) (slice_index (registers_of func) to) (insts_in func to) (phi_count lines) words at 0 (get_or words at 0) in_words refl

  new_pointer : (from_operand : Operand) → pointer_in (value new_registers from_operand) ≡ pointer_in (value registers (along from phis from_operand))
  new_pointer (operands.Value at) = ap pointer_in (register_is at.0) ∙ pointer_along from registers phis at.0
  new_pointer (operands.Int literal) = refl
  new_pointer operands.Null = refl
  new_pointer (operands.Fun called) = refl

  new_word : (from_operand : Operand) → word_in new_words from_operand ≡ word_in words (along from phis from_operand)
  new_word (operands.Value at) = word_of_value new_words at.0 ∙ (word_is at.0 ∙ word_along from words phis at.0)
  new_word (operands.Int literal) = refl
  new_word operands.Null = refl
  new_word (operands.Fun called) = refl

  taken_number : (place : ℕ) (phi : Line) → slice_get phis place ≡ Some phi → is_pointer phi.inst.ty ≡ false → word_in words (taken from phi.inst) ≡ number_in (incoming from registers phi.inst)
  taken_number place phi stands plain = by (position (λ (label : BlockId). label.0 == from) phi.inst.labels)
    where
      all : AllZip (Fits types) phi.inst.operands (asked ops.Phi phi.inst.ty (length phi.inst.operands))
      all = let one = phi_line place phi stands in phi_typed types phi.inst phi.inst.op one.1 (one.0).typed.operands

      by : (found : Option ℕ) → word_in words (option_map_or (λ at. operand_at phi.inst.operands at) found operands.Null) ≡ number_in (option_map_or (operand registers phi.inst.operands) found nothing)
      by None = refl
      by (Some at) =
          let numbered = number_repeated types phi.inst.operands (length phi.inst.operands) phi.inst.ty all plain at in
          same_number types registers words related.running.words.numbers (operand_at phi.inst.operands at) numbered.ty numbered.fits numbered.plain
          ∙ sym (ap number_in (value_at registers phi.inst.operands at))

  the_type : (one other : Ty) (found : Option Ty) → found ≡ Some one → found ≡ Some other → one ≡ other
  the_type one other found first second = cc

  new_numbers : AreNumbers types new_registers new_words
  new_numbers at ty typed plain =
      word_is at
      ∙ (number_along from registers words phis at
      (λ place phi stands given.
      let one = phi_line place phi stands in
      let type = (one.0).type at (given_to phi.to at phi refl given) ∙ ap (λ (op : Op). Some (outcome_type op phi.inst.ty)) one.1 in
      taken_number place phi stands (ap is_pointer (the_type phi.inst.ty ty (slice_get types at) type typed) ∙ plain))
      (related.running.words.numbers at ty typed plain)
      ∙ sym (ap number_in (register_is at)))

  new_pointers : (derived base : Operand) → front derived (bases.Named base) ≡ true
      → IsPair extra.heap.stands (pointer_in (value new_registers derived)) (pointer_in (value new_registers base)) (word_in new_words derived) (word_in new_words base)
  new_pointers derived base stood =
      pair_as extra.heap.stands (pointer_in (value registers (along from phis derived))) (pointer_in (value new_registers derived))
      (pointer_in (value registers (along from phis base))) (pointer_in (value new_registers base))
      (word_in words (along from phis derived)) (word_in new_words derived) (word_in words (along from phis base)) (word_in new_words base)
      (sym (new_pointer derived)) (sym (new_pointer base)) (sym (new_word derived)) (sym (new_word base))
      (related.running.words.pointers (along from phis derived) (along from phis base)
      (sym (ap (λ (pairs : Pairs). pairs (along from phis derived) (bases.Named (along from phis base))) at_end) ∙ stood))

  abbrev new_frame : Frame
  new_frame = record state.running { block = to; rest = drop (phi_count lines) lines; registers = new_registers }

  running_there : IsRunning content state.objects extra.heap.stands new_frame (record extra.running { words = new_words })
  running_there = record {
    func = func;
    place = phi_count lines;
    pairs = front;
    at = record {
      defined = related.running.at.defined;
      arrived = record {
        front = front;
        arrives = went from to related.running.at.arrived.front related.running.at.arrived.arrives edge;
        is = sym (front_stays lines front (phi_count lines) (omega arith));
      };
      rest = refl;
    };
    words = record {
      registers_count = length_each (λ phi. incoming from registers phi.inst) phis registers ∙ related.running.words.registers_count;
      words_count = length_each (λ phi. word_in words (taken from phi.inst)) phis words ∙ related.running.words.words_count;
      numbers = new_numbers;
      pointers = new_pointers;
    };
    slots = related.running.slots;
    guarded = λ check types before op. absurd (true≢false (sym (before_phis lines (phi_count lines) (omega arith) check before) ∙ ap is_phi op));
    chosen = λ select given before op managed gives_it. absurd (true≢false (sym (before_phis lines (phi_count lines) (omega arith) select before) ∙ ap is_phi op));
  }

  -- ---- both steps

  abbrev next : State
  next = record state { steps = state.steps + 1 }

  lines_are : setting.lines state.running.func to ≡ lines
  lines_are = ap (λ (one : Option Function). plain_lines (option_map_or (λ (defined : Function). slice_index (registers_of defined) to) one 0) (option_map_or (λ (defined : Function). insts_in defined to) one [])) related.running.at.defined

  frame_here : arrived state.running to (setting.lines state.running.func to) ≡ new_frame
  frame_here =
      ap (arrived state.running to) lines_are
      ∙ ap (λ (held : List Datum). record state.running { block = to; rest = drop (phi_count lines) lines; registers = held }) (put_all_each from registers registers phis)

  frame_there : arrived machine.state.running to (machinery.setting.lines state.running.func to) ≡ worded_frame new_frame new_words
  frame_there =
      ap (λ (all : List Line). arrived machine.state.running to (map worded all)) lines_are
      ∙ (ap (λ (count : ℕ). record machine.state.running { block = to; rest = drop count (map worded lines); registers = put_all (map (phi_write from (map number words)) (take count (map worded lines))) (map number words) })
      (phis_worded lines)
      ∙ (ap (λ (behind_them : List Line). record machine.state.running { block = to; rest = behind_them; registers = put_all (map (phi_write from (map number words)) (take (phi_count lines) (map worded lines))) (map number words) })
      (drop-map worded (phi_count lines) lines)
      ∙ (ap (λ (all : List Line). record machine.state.running { block = to; rest = map worded (drop (phi_count lines) lines); registers = put_all (map (phi_write from (map number words)) all) (map number words) })
      (take-map worded (phi_count lines) lines)
      ∙ ap (λ (held : List Datum). record machine.state.running { block = to; rest = map worded (drop (phi_count lines) lines); registers = held }) (put_words_each from words words phis))))

  abbrev jumped_machine : Machine
  jumped_machine = machine_of machinery (record next { running = new_frame }) (with_words extra new_words)

  goes_there : StepFollows content machinery (goes_on (record next { running = new_frame })) (goes_on jumped_machine)
  goes_there = both_go (record next { running = new_frame }) jumped_machine (record {
    extra = with_words extra new_words;
    is = refl;
    related = record {
      objects = related.objects;
      settled = related.settled;
      running = running_there;
      below = related.below;
      tasks = related.tasks;
      await = related.await;
    };
  })

  jumped_so : StepFollows content machinery (jumped setting to next) (lifted machine (jumped machinery.setting to (record machine.state { steps = state.steps + 1 })))
  jumped_so =
      subst (λ (frame : Frame). StepFollows content machinery (goes_on (record next { running = frame })) (lifted machine (jumped machinery.setting to (record machine.state { steps = state.steps + 1 }))))
      (sym frame_here)
      (subst (λ (frame : Frame). StepFollows content machinery (goes_on (record next { running = new_frame })) (goes_on (record machine { state = record machine.state { steps = state.steps + 1; running = frame } })))
      (sym frame_there) goes_there)

  pub jump_step : StepFollows content machinery (stepped setting state (jumped setting to)) (lifted machine (stepped machinery.setting machine.state (jumped machinery.setting to)))
  jump_step = by (ltb state.steps bound)
    where
      by : (b : Bool) → StepFollows content machinery (if b then jumped setting to next else ends OutOfSteps state)
          (lifted machine (if b then jumped machinery.setting to (record machine.state { steps = state.steps + 1 }) else ends OutOfSteps machine.state))
      by true = jumped_so
      by false = both_end OutOfSteps state machine (last_of content machinery state extra related)
