-- What a `ret` answers is what the group of the frame below takes.
use Rattle.std.proofs.Common.{◌≡◌, ℕ, true, false, List, [], ◌∷◌, length, refl, sym, ap, ◌∙◌, subst, Some, inl, inr}
use Rattle.std.specs.Prelude.{slice_get}
use Rattle.std.specs.List.{AllZip, Contains}
use Rattle.std.specs.Option.{option_map}
use Rattle.std.proofs.lemmas.Option.{same_Some}
use Rattle.list_laws.proofs.Contents.{contains_first}
use Rattle.ir_ast.specs.declared.ops.Op.{Op}
use Rattle.ir_ast.specs.declared.ops.Op.TheVariants as ops
use Rattle.ir_ast.specs.declared.ops.Operand.{Operand}
use Rattle.ir_ast.specs.declared.types.Ty.{Ty}
use Rattle.ir_ast.specs.declared.types.Ty.TheVariants.{Ptr}
use Rattle.ir_ast.specs.Faults.NoMain.{HasMain}
use Rattle.ir_ast.specs.Faults.TypeClash.{Fits, RuleOf, asked}
use Rattle.ir_ast.specs.Funcs.{Function}
use Rattle.ir_ast.specs.Insts.{Instruction}
use Rattle.ir_ast.specs.Modules.{ModuleContent}
use Rattle.ir_ast.specs.Objects.{Datum, Object}
use Rattle.ir_ast.specs.Scope.{Signature, scope_of, signature_of}
use Rattle.ir_ast.specs.Types.{is_pointer}
use Rattle.ir_ast.specs.Values.{value_types}
use Rattle.moving_heap.specs.declared.stands.Stand.{Stand}
use Rattle.object_meaning.specs.Lines.{Line, main_of}
use Rattle.object_meaning.specs.Registers.{number_in, operand, pointer_in, value}
use Rattle.object_meaning.specs.States.{Frame}
use Rattle.pair_facts.specs.Lines.{group_in, lines_at, operand_at}
use Rattle.pair_facts.specs.Uses.{escapes, escaping, own_use}
use Rattle.machine_meaning.specs.Relations.{word_in}
use Rattle.moves_unseen.specs.Awaits.{IsAwaiting, WaitsFor, calls}
use Rattle.moves_unseen.specs.Frames.{FrameWords, IsRunning, IsWaiting}
use Rattle.moves_unseen.specs.Objects.{IsBase}
use Rattle.moves_unseen.specs.Types.{IsLineOf}
use Rattle.moves_unseen.specs.Waits.{IsAnswer, IsSound}
use Rattle.moves_unseen.proofs.LineTypes.{lines_are_typed}
use Rattle.moves_unseen.proofs.MainLaws.{main_found}
use Rattle.moves_unseen.proofs.PlainSteps.{number_repeated, pointer_type}
use Rattle.moves_unseen.proofs.StandLaws.{line_here}
use Rattle.moves_unseen.proofs.ValueLaws.{base_of_pair, same_number, value_at}
use Rattle.moves_unseen.proofs.VerifiedLaws.{pair_stands}
use Rattle.runs_unseen.proofs.frames_spilled.ResultLaws.{result_type}

-- the call at which a frame waits has the type that the function answers
called_type : (content : ModuleContent) (caller : Function) (above : ℕ) (op : Op) (inst : Instruction) (func : Function) → WaitsFor (Some above) op → RuleOf (scope_of content caller) op inst
    → slice_get content.funcs above ≡ Some func → inst.ty ≡ func.answer
called_type content caller _ _ inst func (calls id called types) rule found =
    ap (λ (signature : Signature). signature.answer)
    (same_Some (record { answer = inst.ty; params = types }) (signature_of func) (sym rule.signature ∙ ap (option_map signature_of) found))

module _ (content : ModuleContent) (sound : IsSound content) (objects : List Object) (stands : List Stand) (frame : Frame) (held : FrameWords)
    (running : IsRunning content objects stands frame held) (line : Line) (rest : List Line) (is : frame.rest ≡ line ∷ rest) (op_is : line.inst.op ≡ ops.Ret) where
  abbrev types : List Ty
  types = value_types running.func

  abbrev given : Operand
  given = operand_at line.inst.operands 0

  abbrev answer : Datum
  answer = operand frame.registers line.inst.operands 0

  abbrev word : ℕ
  word = word_in held.words given

  here : slice_get (lines_at running.func frame.block) running.place ≡ Some line
  here = line_here content frame running.func running.place running.pairs running.at line rest is

  of_line : IsLineOf content running.func line
  of_line = lines_are_typed content sound.target frame.func running.func running.at.defined frame.block running.place line here

  answers : line.inst.ty ≡ running.func.answer
  answers = subst (λ (op : Op). RuleOf (scope_of content running.func) op line.inst) op_is of_line.typed.rule

  fits : AllZip (Fits types) line.inst.operands (asked ops.Ret line.inst.ty (length line.inst.operands))
  fits = subst (λ (op : Op). AllZip (Fits types) line.inst.operands (asked op line.inst.ty (length line.inst.operands))) op_is of_line.typed.operands

  -- a number is the same in both
  answer_number : is_pointer line.inst.ty ≡ false → word ≡ number_in answer
  answer_number plain =
      let numbered = number_repeated types line.inst.operands (length line.inst.operands) line.inst.ty fits plain 0 in
      same_number types frame.registers held.words running.words.numbers given numbered.ty numbered.fits numbered.plain
      ∙ sym (ap number_in (value_at frame.registers line.inst.operands 0))

  -- a pointer that leaves the function is its own base
  answer_base : is_pointer line.inst.ty ≡ true → IsBase stands (pointer_in answer) word
  answer_base managed =
      let leaves : Contains (escaping line.inst.op line.inst) given = subst (λ (op : Op). Contains (escaping op line.inst) given) (sym op_is)
      (subst (λ (ty : Ty). Contains (escaping ops.Ret (record line.inst { ty = ty })) given) (sym (pointer_type line.inst.ty managed)) (contains_first given [])) in
      let stood = pair_stands running.func frame.block running.place (λ code. sound.verified frame.func frame.block running.place code running.func running.at.defined) 5 running.place
      (own_use given) (escapes line given here leaves) running.pairs running.at.arrived in
      subst (λ (datum : Datum). IsBase stands (pointer_in datum) word) (sym (value_at frame.registers line.inst.operands 0))
      (base_of_pair stands (pointer_in (value frame.registers given)) word (running.words.pointers given given stood))

  -- the frame below waits at a call of this function, whose group takes the answer
  pub answers_caller : (caller : Frame) (words : FrameWords) (waiting : IsWaiting content stands caller words) → IsAwaiting (Some frame.func) caller
      → IsAnswer stands (group_in (lines_at waiting.func caller.block) waiting.place) answer word
  answers_caller caller words waiting awaits = record {
    numbers = λ member inside op plain. answer_number (sym (ap is_pointer (type_is member inside op)) ∙ plain);
    bases = λ member inside op managed. answer_base (sym (ap is_pointer (type_is member inside op)) ∙ managed);
  }
    where
      same_call : awaits.call ≡ waiting.call
      same_call =
          same_Some awaits.call waiting.call
          (sym (line_here content caller waiting.func waiting.place waiting.pairs waiting.at awaits.call awaits.behind awaits.stands) ∙ waiting.is)

      call_line : IsLineOf content waiting.func waiting.call
      call_line = lines_are_typed content sound.target caller.func waiting.func waiting.at.defined caller.block waiting.place waiting.call waiting.is

      call_type : waiting.call.inst.ty ≡ running.func.answer
      call_type =
          called_type content waiting.func frame.func waiting.call.inst.op waiting.call.inst running.func
          (subst (λ (call : Line). WaitsFor (Some frame.func) call.inst.op) same_call awaits.op) call_line.typed.rule running.at.defined

      type_is : (member : Line) → Contains (group_in (lines_at waiting.func caller.block) waiting.place) member → member.inst.op ≡ ops.GcResult → member.inst.ty ≡ line.inst.ty
      type_is member inside op =
          result_type content sound.target caller.func waiting.func waiting.at.defined caller.block waiting.place waiting.call waiting.is waiting.statepoint member inside op
          ∙ (call_type ∙ sym answers)

  -- `@main` answers an integer
  pub answers_run : frame.func ≡ main_of content → word ≡ number_in answer
  answers_run first =
      let has = ((sound.target.typed).no_fault).main in
      let same = same_Some running.func has.main (sym running.at.defined ∙ (ap (slice_get content.funcs) first ∙ main_found content has)) in
      let type = answers ∙ ap (λ (func : Function). func.answer) same in
      answer_number (ap is_pointer type ∙ plain has)
    where
      plain : (has : HasMain content) → is_pointer has.main.answer ≡ false
      plain has = elim has.answer [ inl narrow ↦ ap is_pointer narrow | inr wide ↦ ap is_pointer wide ]
