-- Statepoints of check, same, print and read: the machine spills, does what the plain call does, and goes on behind the group.
use Rattle.std.proofs.Common.{◌≡◌, ℕ, ℤ, ◌-◌, ◌<◌, ◌==◌, ◌&&◌, Bool, true, false, List, [], ◌∷◌, ◌++◌, length, take, drop, map, replicate, refl, sym, ap, ◌∙◌, subst, arith, Option, Some}
use Rattle.std.specs.Prelude.{slice_get, Result, Ok, Err}
use Rattle.std.specs.Int.{w64, cast_unsigned}
use Rattle.std.specs.List.{AllZip, Contains}
use Rattle.std.specs.Option.{option_map_or}
use Rattle.std.proofs.lemmas.Option.{same_Some}
use Rattle.list_laws.proofs.Contents.{contains_first, contains_later}
use Rattle.list_laws.proofs.Places.{get_front, get_taken}
use Rattle.sp_ids.specs.declared.ends.End.TheVariants.{Trap as Trapped}
use Rattle.sp_ids.specs.declared.ends.Trap.{Trap}
use Rattle.sp_ids.specs.declared.ends.Trap.TheVariants.{Input}
use Rattle.ir_ast.specs.declared.cells.Cell.{Cell}
use Rattle.ir_ast.specs.declared.ops.Callee.{Callee}
use Rattle.ir_ast.specs.declared.ops.Callee.TheVariants.{Check, Print, Read, Same}
use Rattle.ir_ast.specs.declared.ops.Op.{Op}
use Rattle.ir_ast.specs.declared.ops.Op.TheVariants.{Statepoint}
use Rattle.ir_ast.specs.declared.ops.Operand.{Operand}
use Rattle.ir_ast.specs.declared.types.Ty.{Ty}
use Rattle.ir_ast.specs.declared.types.Ty.TheVariants.{Int, Ptr, Void}
use Rattle.ir_ast.specs.Faults.TypeClash.{Fits, IsCallOf, RuleOf, asked}
use Rattle.ir_ast.specs.Funcs.{Function}
use Rattle.ir_ast.specs.Modules.{ModuleContent}
use Rattle.ir_ast.specs.Objects.{Datum, Pointer, number}
use Rattle.ir_ast.specs.Scope.{Signature, called_in, scope_of}
use Rattle.ir_ast.specs.Types.{is_pointer}
use Rattle.ir_ast.specs.Values.{value_types}
use Rattle.moving_heap.specs.Heaps.{checked}
use Rattle.object_meaning.specs.Accesses.{Place, accessed, cell_named}
use Rattle.object_meaning.specs.Calls.{taking}
use Rattle.object_meaning.specs.Calls.{checked as checked_here}
use Rattle.object_meaning.specs.Comparisons.{bit, same_pointer}
use Rattle.object_meaning.specs.Effects.{Effect, ends, goes_on, prints}
use Rattle.object_meaning.specs.Frames.{grouped, resumed}
use Rattle.object_meaning.specs.Lines.{Line}
use Rattle.object_meaning.specs.Registers.{nothing, number_in, operand, pointer_in, value}
use Rattle.object_meaning.specs.States.{Setting, State}
use Rattle.object_meaning.specs.Steps.{acts, step, steps_at}
use Rattle.pair_facts.specs.declared.bases.Base.TheVariants.{Named}
use Rattle.pair_facts.specs.Lines.{lines_at, operand_at}
use Rattle.pair_facts.specs.Uses.{Use, Uses, checked as used_by_check, checks, compared, compares, use_at}
use Rattle.machine_meaning.specs.Machines.{Machine, Machinery, gone_on, lifted}
use Rattle.machine_meaning.specs.MachineSteps.{calls, checking, machine_acts, machine_at, machine_step}
use Rattle.machine_meaning.specs.Relations.{IsPair, check_of, word_in}
use Rattle.machine_meaning.specs.Words.{worded, worded_operand}
use Rattle.moves_unseen.specs.States.{Extra, IsRelated, machine_of}
use Rattle.moves_unseen.specs.Steps.{IsNumber, StepFollows, both_end, both_go, both_print}
use Rattle.moves_unseen.specs.Types.{IsLineOf}
use Rattle.moves_unseen.specs.Waits.{IsHelper, IsSound, IsStatepointOf, waits, checks as a_check, compares as a_comparison, prints as a_print, reads as a_read}
use Rattle.moves_unseen.proofs.CheckSteps.{access_trap, denied_so}
use Rattle.moves_unseen.proofs.ComparisonLaws.{pairs_compared}
use Rattle.moves_unseen.proofs.LineTypes.{lines_are_typed}
use Rattle.moves_unseen.proofs.MemoryLaws.{check_is_access}
use Rattle.moves_unseen.proofs.PlainSteps.{number_at}
use Rattle.moves_unseen.proofs.StandLaws.{line_here}
use Rattle.moves_unseen.proofs.ValueLaws.{same_number, value_at, word_at}
use Rattle.moves_unseen.proofs.VerifiedLaws.{pair_stands}
use Rattle.runs_unseen.proofs.frames_resumed.StateLaws.{nothing_answers}
use Rattle.runs_unseen.proofs.helpers_unseen.GoingOn.{goes_on_behind, group, grouped_is, held_extra, last_held, number_answered, spilled_is}

-- an argument stands before the live entries
argument : (registers : List Datum) (operands : List Operand) (count place : ℕ) → place < count → operand registers (take count operands) place ≡ operand registers operands place
argument registers operands count place low = ap (λ (found : Option Operand). option_map_or (value registers) found nothing) (get_taken operands place count low)

module _ (content : ModuleContent) (sound : IsSound content) (machinery : Machinery) (setting : Setting) (layouts_are : setting.layouts ≡ content.layouts)
    (state : State) (extra : Extra) (related : IsRelated content state extra) (line : Line) (rest : List Line) (is : state.running.rest ≡ line ∷ rest) (id : ℕ) (types : List Ty) where
  abbrev func : Function
  func = related.running.func

  abbrev operands : List Operand
  operands = line.inst.operands

  abbrev entries : List Operand
  entries = drop (length types) line.inst.operands

  abbrev registers : List Datum
  registers = state.running.registers

  abbrev words : List ℕ
  words = extra.running.words

  abbrev machine : Machine
  machine = machine_of machinery state extra

  here : slice_get (lines_at func state.running.block) related.running.place ≡ Some line
  here = line_here content state.running func related.running.place related.running.pairs related.running.at line rest is

  of_line : IsLineOf content func line
  of_line = lines_are_typed content sound.target state.running.func func related.running.at.defined state.running.block related.running.place line here

  -- a pair that the line uses
  used : (code : ℕ) (pair : Use) → Uses (lines_at func state.running.block) related.running.place code related.running.place pair → related.running.pairs pair.address (Named pair.base) ≡ true
  used code pair uses =
      pair_stands func state.running.block related.running.place (λ each. sound.verified state.running.func state.running.block related.running.place each func related.running.at.defined)
      code related.running.place pair uses related.running.pairs related.running.at.arrived

  -- ---- a callee of which the signature is known

  module _ (callee : Callee) (op_is : line.inst.op ≡ Statepoint id callee types) (signature : Signature) (signature_found : called_in content.funcs callee ≡ Some signature) where
    signature_is : signature ≡ record { answer = line.inst.ty; params = types }
    signature_is =
        let rule : IsCallOf (scope_of content func) callee types line.inst = subst (λ (op : Op). RuleOf (scope_of content func) op line.inst) op_is of_line.typed.rule in
        same_Some signature (record { answer = line.inst.ty; params = types }) (sym signature_found ∙ rule.signature)

    pub types_are : types ≡ signature.params
    types_are = ap (λ (each : Signature). each.params) (sym signature_is)

    pub type_is : line.inst.ty ≡ signature.answer
    type_is = ap (λ (each : Signature). each.answer) (sym signature_is)

    pub argument_number : (place : ℕ) (ty : Ty) → slice_get signature.params place ≡ Some ty → is_pointer ty ≡ false → IsNumber (value_types func) (operand_at operands place)
    argument_number place ty param plain =
        let fits : AllZip (Fits (value_types func)) operands (types ++ replicate (length operands - length types) Ptr) =
        subst (λ (op : Op). AllZip (Fits (value_types func)) operands (asked op line.inst.ty (length operands))) op_is of_line.typed.operands in
        number_at (value_types func) operands (types ++ replicate (length operands - length types) Ptr) place ty fits
        (get_front types (replicate (length operands - length types) Ptr) place ty (ap (λ (each : List Ty). slice_get each place) types_are ∙ param)) plain

  -- a number is the same as a word
  same_word : (place : ℕ) → IsNumber (value_types func) (operand_at operands place)
      → number_in (operand (map number words) (map worded_operand operands) place) ≡ number_in (operand registers operands place)
  same_word place shown =
      word_at words operands place
      ∙ (same_number (value_types func) registers words related.running.words.numbers (operand_at operands place) shown.ty shown.fits shown.plain
      ∙ sym (ap number_in (value_at registers operands place)))

  -- ---- check

  module _ (op_is : line.inst.op ≡ Statepoint id Check types) where
    abbrev check_extra : Extra
    check_extra = held_extra content sound machinery state extra related line rest is id Check types op_is

    abbrev check_machine : Machine
    check_machine = machine_of machinery state check_extra

    abbrev asked_cell : Cell
    asked_cell = cell_named (number_in (operand registers operands 2))

    abbrev to : Pointer
    to = pointer_in (operand registers operands 1)

    check_types : types ≡ Ptr ∷ Ptr ∷ Int 64 ∷ []
    check_types = types_are Check op_is (record { answer = Void; params = Ptr ∷ Ptr ∷ Int 64 ∷ [] }) refl

    check_here : step setting state ≡ checked_here state (grouped state entries rest) (accessed content.layouts state.objects asked_cell to)
    unfolding step
    check_here =
        let three = ap length check_types in
        ap (steps_at setting state) is
        ∙ (ap (acts setting state line rest) op_is
        ∙ (ap (λ (d : Datum). checked_here state (grouped state entries rest) (accessed setting.layouts state.objects (cell_named (number_in d)) (pointer_in (operand registers (take (length types) operands) 1))))
        (argument registers operands (length types) 2 (omega arith))
        ∙ (ap (λ (d : Datum). checked_here state (grouped state entries rest) (accessed setting.layouts state.objects asked_cell (pointer_in d)))
        (argument registers operands (length types) 1 (omega arith))
        ∙ ap (λ layouts. checked_here state (grouped state entries rest) (accessed layouts state.objects asked_cell to)) layouts_are)))

    abbrev in_line : ℕ → ℕ
    in_line place = number_in (operand (map number words) (map worded_operand operands) place)

    check_pair : IsPair extra.heap.stands to (pointer_in (operand registers operands 0)) (in_line 1) (in_line 0)
    check_pair =
        subst (λ (d : Datum). IsPair extra.heap.stands (pointer_in d) (pointer_in (operand registers operands 0)) (in_line 1) (in_line 0)) (sym (value_at registers operands 1))
        (subst (λ (d : Datum). IsPair extra.heap.stands (pointer_in (value registers (operand_at operands 1))) (pointer_in d) (in_line 1) (in_line 0)) (sym (value_at registers operands 0))
        (subst (λ (w : ℕ). IsPair extra.heap.stands (pointer_in (value registers (operand_at operands 1))) (pointer_in (value registers (operand_at operands 0))) w (in_line 0)) (sym (word_at words operands 1))
        (subst (λ (w : ℕ). IsPair extra.heap.stands (pointer_in (value registers (operand_at operands 1))) (pointer_in (value registers (operand_at operands 0))) (word_in words (operand_at operands 1)) w) (sym (word_at words operands 0))
        (related.running.words.pointers (operand_at operands 1) (operand_at operands 0)
        (used 3 (use_at operands 0) (checks line (use_at operands 0) here
        (subst (λ (op : Op). Contains (used_by_check op line.inst) (use_at operands 0)) (sym op_is) (contains_first (use_at operands 0) []))))))))

    check_there : machine_step machinery machine ≡ checking check_machine (check_of (accessed content.layouts state.objects asked_cell to))
    unfolding machine_step
    check_there =
        ap (machine_at machinery machine) (ap (map worded) is)
        ∙ (ap (machine_acts machinery machine (worded line) (map worded rest)) op_is
        ∙ (ap (λ (now : Machine). calls machinery now (worded line) (map worded rest) Check (take (length types) (map worded_operand operands)))
        (spilled_is content sound machinery state extra related line rest is id Check types op_is)
        ∙ (ap (λ (n : ℕ). checking check_machine (checked extra.heap (in_line 0) (in_line 1) (cell_named n)))
        (same_word 2 (argument_number Check op_is (record { answer = Void; params = Ptr ∷ Ptr ∷ Int 64 ∷ [] }) refl 2 (Int 64) refl refl))
        ∙ ap (checking check_machine) (check_is_access content.layouts state.objects extra.heap related.objects asked_cell to (pointer_in (operand registers operands 0)) (in_line 1) (in_line 0) check_pair))))

    check_by : (found : Result Place Trap) → accessed content.layouts state.objects asked_cell to ≡ found
        → StepFollows content machinery (checked_here state (grouped state entries rest) found) (checking check_machine (check_of found))
    check_by (Ok place) found =
        subst (λ (next : State). StepFollows content machinery (goes_on next) (goes_on (gone_on nothing check_machine)))
        (sym (grouped_is content sound machinery state extra related line rest is id Check types op_is nothing))
        (both_go (resumed state nothing) (gone_on nothing check_machine)
        (goes_on_behind content sound machinery state extra related line rest is id Check types op_is nothing 0
        (nothing_answers extra.heap.stands (group content sound machinery state extra related line rest is id Check types op_is))))
    check_by (Err trap) found =
        subst (StepFollows content machinery (ends (Trapped trap) state)) (sym (denied_so check_machine trap (access_trap content.layouts state.objects asked_cell to trap found)))
        (both_end (Trapped trap) state check_machine (last_held content sound machinery state extra related line rest is id Check types op_is))

    pub check_follows : StepFollows content machinery (step setting state) (machine_step machinery machine)
    check_follows =
        subst (λ (effect : Effect State). StepFollows content machinery effect (machine_step machinery machine)) (sym check_here)
        (subst (StepFollows content machinery (checked_here state (grouped state entries rest) (accessed content.layouts state.objects asked_cell to))) (sym check_there)
        (check_by (accessed content.layouts state.objects asked_cell to) refl))

  -- ---- same

  module _ (op_is : line.inst.op ≡ Statepoint id Same types) where
    abbrev same_extra : Extra
    same_extra = held_extra content sound machinery state extra related line rest is id Same types op_is

    abbrev same_machine : Machine
    same_machine = machine_of machinery state same_extra

    abbrev pointer_at : ℕ → Pointer
    pointer_at place = pointer_in (value registers (operand_at operands place))

    abbrev word : ℕ → ℕ
    word place = word_in words (operand_at operands place)

    abbrev same_at : ℕ → ℕ
    same_at place = number_in (operand (map number words) (map worded_operand operands) place)

    abbrev answer : ℕ
    answer = bit (same_pointer (pointer_at 1) (pointer_at 3))

    same_types : types ≡ Ptr ∷ Ptr ∷ Ptr ∷ Ptr ∷ []
    same_types = types_are Same op_is (record { answer = Int 1; params = Ptr ∷ Ptr ∷ Ptr ∷ Ptr ∷ [] }) refl

    same_here : step setting state ≡ goes_on (grouped state entries rest (number answer))
    unfolding step
    same_here =
        let four = ap length same_types in
        ap (steps_at setting state) is
        ∙ (ap (acts setting state line rest) op_is
        ∙ (ap (λ (d : Datum). goes_on (grouped state entries rest (number (bit (same_pointer (pointer_in d) (pointer_in (operand registers (take (length types) operands) 3)))))))
        (argument registers operands (length types) 1 (omega arith) ∙ value_at registers operands 1)
        ∙ ap (λ (d : Datum). goes_on (grouped state entries rest (number (bit (same_pointer (pointer_at 1) (pointer_in d))))))
        (argument registers operands (length types) 3 (omega arith) ∙ value_at registers operands 3)))

    same_compared : (same_at 0 == same_at 2) && (same_at 1 == same_at 3) ≡ same_pointer (pointer_at 1) (pointer_at 3)
    same_compared =
        ap (λ (w : ℕ). (w == same_at 2) && (same_at 1 == same_at 3)) (word_at words operands 0)
        ∙ (ap (λ (w : ℕ). (word 0 == w) && (same_at 1 == same_at 3)) (word_at words operands 2)
        ∙ (ap (λ (w : ℕ). (word 0 == word 2) && (w == same_at 3)) (word_at words operands 1)
        ∙ (ap (λ (w : ℕ). (word 0 == word 2) && (word 1 == w)) (word_at words operands 3)
        ∙ pairs_compared extra.heap.stands related.objects.settled (pointer_at 1) (pointer_at 0) (pointer_at 3) (pointer_at 2) (word 1) (word 0) (word 3) (word 2)
        (related.running.words.pointers (operand_at operands 1) (operand_at operands 0)
        (used 4 (use_at operands 0) (compares line (use_at operands 0) here
        (subst (λ (op : Op). Contains (compared op line.inst) (use_at operands 0)) (sym op_is) (contains_first (use_at operands 0) (use_at operands 2 ∷ []))))))
        (related.running.words.pointers (operand_at operands 3) (operand_at operands 2)
        (used 4 (use_at operands 2) (compares line (use_at operands 2) here
        (subst (λ (op : Op). Contains (compared op line.inst) (use_at operands 2)) (sym op_is)
        (contains_later (use_at operands 0) (use_at operands 2) (use_at operands 2 ∷ []) (contains_first (use_at operands 2) [])))))))))

    same_there : machine_step machinery machine ≡ goes_on (gone_on (number answer) same_machine)
    unfolding machine_step
    same_there =
        ap (machine_at machinery machine) (ap (map worded) is)
        ∙ (ap (machine_acts machinery machine (worded line) (map worded rest)) op_is
        ∙ (ap (λ (now : Machine). calls machinery now (worded line) (map worded rest) Same (take (length types) (map worded_operand operands)))
        (spilled_is content sound machinery state extra related line rest is id Same types op_is)
        ∙ ap (λ (b : Bool). goes_on (gone_on (number (bit b)) same_machine)) same_compared))

    pub same_follows : StepFollows content machinery (step setting state) (machine_step machinery machine)
    same_follows =
        subst (λ (effect : Effect State). StepFollows content machinery effect (machine_step machinery machine)) (sym same_here)
        (subst (StepFollows content machinery (goes_on (grouped state entries rest (number answer)))) (sym same_there)
        (subst (λ (next : State). StepFollows content machinery (goes_on next) (goes_on (gone_on (number answer) same_machine)))
        (sym (grouped_is content sound machinery state extra related line rest is id Same types op_is (number answer)))
        (both_go (resumed state (number answer)) (gone_on (number answer) same_machine)
        (goes_on_behind content sound machinery state extra related line rest is id Same types op_is (number answer) answer
        (number_answered content sound machinery state extra related line rest is id Same types op_is
        (ap is_pointer (type_is Same op_is (record { answer = Int 1; params = Ptr ∷ Ptr ∷ Ptr ∷ Ptr ∷ [] }) refl)) answer)))))

  -- ---- print

  module _ (op_is : line.inst.op ≡ Statepoint id Print types) where
    abbrev print_extra : Extra
    print_extra = held_extra content sound machinery state extra related line rest is id Print types op_is

    abbrev print_machine : Machine
    print_machine = machine_of machinery state print_extra

    abbrev shown : ℕ
    shown = number_in (operand registers operands 0)

    print_types : types ≡ Int 64 ∷ []
    print_types = types_are Print op_is (record { answer = Void; params = Int 64 ∷ [] }) refl

    print_here : step setting state ≡ prints shown (grouped state entries rest nothing)
    unfolding step
    print_here =
        let one = ap length print_types in
        ap (steps_at setting state) is
        ∙ (ap (acts setting state line rest) op_is
        ∙ ap (λ (d : Datum). prints (number_in d) (grouped state entries rest nothing)) (argument registers operands (length types) 0 (omega arith)))

    print_there : machine_step machinery machine ≡ prints shown (gone_on nothing print_machine)
    unfolding machine_step
    print_there =
        let one = ap length print_types in
        ap (machine_at machinery machine) (ap (map worded) is)
        ∙ (ap (machine_acts machinery machine (worded line) (map worded rest)) op_is
        ∙ (ap (λ (now : Machine). calls machinery now (worded line) (map worded rest) Print (take (length types) (map worded_operand operands)))
        (spilled_is content sound machinery state extra related line rest is id Print types op_is)
        ∙ (ap (λ (d : Datum). prints (number_in d) (gone_on nothing print_machine)) (argument (map number words) (map worded_operand operands) (length types) 0 (omega arith))
        ∙ ap (λ (n : ℕ). prints n (gone_on nothing print_machine)) (same_word 0 (argument_number Print op_is (record { answer = Void; params = Int 64 ∷ [] }) refl 0 (Int 64) refl refl)))))

    pub print_follows : StepFollows content machinery (step setting state) (machine_step machinery machine)
    print_follows =
        subst (λ (effect : Effect State). StepFollows content machinery effect (machine_step machinery machine)) (sym print_here)
        (subst (StepFollows content machinery (prints shown (grouped state entries rest nothing))) (sym print_there)
        (subst (λ (next : State). StepFollows content machinery (prints shown next) (prints shown (gone_on nothing print_machine)))
        (sym (grouped_is content sound machinery state extra related line rest is id Print types op_is nothing))
        (both_print shown (resumed state nothing) (gone_on nothing print_machine)
        (goes_on_behind content sound machinery state extra related line rest is id Print types op_is nothing 0
        (nothing_answers extra.heap.stands (group content sound machinery state extra related line rest is id Print types op_is))))))

  -- ---- read

  module _ (op_is : line.inst.op ≡ Statepoint id Read types) where
    abbrev read_extra : Extra
    read_extra = held_extra content sound machinery state extra related line rest is id Read types op_is

    abbrev read_machine : Machine
    read_machine = machine_of machinery state read_extra

    read_here : step setting state ≡ taking state (grouped state entries rest) state.input
    unfolding step
    read_here = ap (steps_at setting state) is ∙ ap (acts setting state line rest) op_is

    read_there : machine_step machinery machine ≡ lifted read_machine (taking read_machine.state (λ answer. (gone_on answer read_machine).state) state.input)
    unfolding machine_step
    read_there =
        ap (machine_at machinery machine) (ap (map worded) is)
        ∙ (ap (machine_acts machinery machine (worded line) (map worded rest)) op_is
        ∙ ap (λ (now : Machine). calls machinery now (worded line) (map worded rest) Read (take (length types) (map worded_operand operands)))
        (spilled_is content sound machinery state extra related line rest is id Read types op_is))

    read_by : (numbers : List ℤ) → StepFollows content machinery (taking state (grouped state entries rest) numbers) (lifted read_machine (taking read_machine.state (λ answer. (gone_on answer read_machine).state) numbers))
    read_by [] = both_end (Trapped Input) state read_machine (last_held content sound machinery state extra related line rest is id Read types op_is)
    read_by (first ∷ more) =
        let made = cast_unsigned w64 first in
        let follows = goes_on_behind content sound machinery state extra related line rest is id Read types op_is (number (cast_unsigned w64 first)) (cast_unsigned w64 first)
        (number_answered content sound machinery state extra related line rest is id Read types op_is
        (ap is_pointer (type_is Read op_is (record { answer = Int 64; params = [] }) refl)) (cast_unsigned w64 first)) in
        subst (λ (next : State). StepFollows content machinery (goes_on (record next { input = more }))
        (goes_on (record read_machine { state = record (gone_on (number (cast_unsigned w64 first)) read_machine).state { input = more } })))
        (sym (grouped_is content sound machinery state extra related line rest is id Read types op_is (number (cast_unsigned w64 first))))
        (both_go (record (resumed state (number (cast_unsigned w64 first))) { input = more })
        (record read_machine { state = record (gone_on (number (cast_unsigned w64 first)) read_machine).state { input = more } })
        (record {
          extra = follows.extra;
          is = ap (λ (next : Machine). record next { state = record next.state { input = more } }) follows.is;
          related = record {
            objects = follows.related.objects;
            settled = follows.related.settled;
            running = follows.related.running;
            below = follows.related.below;
            tasks = follows.related.tasks;
            await = follows.related.await;
          };
        }))

    pub read_follows : StepFollows content machinery (step setting state) (machine_step machinery machine)
    read_follows =
        subst (λ (effect : Effect State). StepFollows content machinery effect (machine_step machinery machine)) (sym read_here)
        (subst (StepFollows content machinery (taking state (grouped state entries rest) state.input)) (sym read_there) (read_by state.input))

  by_callee : (callee : Callee) → IsHelper callee → line.inst.op ≡ Statepoint id callee types → StepFollows content machinery (step setting state) (machine_step machinery machine)
  by_callee _ a_check op_is = check_follows op_is
  by_callee _ a_comparison op_is = same_follows op_is
  by_callee _ a_print op_is = print_follows op_is
  by_callee _ a_read op_is = read_follows op_is

module _ (content : ModuleContent) (sound : IsSound content) (machinery : Machinery) (setting : Setting) (layouts_are : setting.layouts ≡ content.layouts)
    (state : State) (extra : Extra) (related : IsRelated content state extra) (line : Line) (rest : List Line) (is : state.running.rest ≡ line ∷ rest) where
  by_operator : (op : Op) → IsStatepointOf IsHelper op → line.inst.op ≡ op → StepFollows content machinery (step setting state) (machine_step machinery (machine_of machinery state extra))
  by_operator _ (waits id callee types due) op_is = by_callee content sound machinery setting layouts_are state extra related line rest is id types callee due op_is

  -- related before, the machine steps as the target meaning, and related after
  pub helpers_follow : IsStatepointOf IsHelper line.inst.op → StepFollows content machinery (step setting state) (machine_step machinery (machine_of machinery state extra))
  helpers_follow due = by_operator line.inst.op due refl
