-- The frame of a function that is called: its arguments are numbers or pointers that are their own bases.
use Rattle.std.proofs.Common.{◌≡◌, ℕ, zero, suc, ◌+◌, ◌-◌, true, false, List, [], ◌∷◌, ◌++◌, length, get_or, map, replicate, refl, sym, ap, ◌∙◌, subst, arith, Option, Some, None}
use Rattle.std.specs.Prelude.{slice_get, slice_index, is_some}
use Rattle.std.specs.List.{filter}
use Rattle.std.specs.Option.{option_map_or}
use Rattle.std.proofs.lemmas.Bool.{and_parts}
use Rattle.std.proofs.lemmas.List.{length-append, length-map, length-replicate}
use Rattle.std.proofs.lemmas.Option.{none-some, same_Some}
use Rattle.list_laws.proofs.Places.{get_map}
use Rattle.ir_ast.specs.declared.funcs.Arg.{Arg}
use Rattle.ir_ast.specs.declared.ops.Operand.{Operand}
use Rattle.ir_ast.specs.declared.ops.Operand.TheVariants as operands
use Rattle.ir_ast.specs.declared.types.Ty.{Ty}
use Rattle.ir_ast.specs.Funcs.{Function, instructions_of}
use Rattle.ir_ast.specs.Insts.{Instruction}
use Rattle.ir_ast.specs.Modules.{ModuleContent}
use Rattle.ir_ast.specs.Objects.{Datum, Object, number}
use Rattle.ir_ast.specs.Types.{is_pointer}
use Rattle.ir_ast.specs.Values.{Definition, argument, definition_type, outcome, value_types}
use Rattle.frame_forms.specs.FrameSizes.{frame_words}
use Rattle.moving_heap.specs.declared.stands.Stand.{Stand}
use Rattle.object_meaning.specs.Frames.{entered}
use Rattle.object_meaning.specs.Lines.{insts_in, register_count, registers_of}
use Rattle.object_meaning.specs.Registers.{nothing, value, number_in, pointer_in}
use Rattle.object_meaning.specs.States.{Frame, Setting}
use Rattle.object_meaning.specs.TargetRuns.{plain_lines, target_setting}
use Rattle.pair_facts.specs.declared.bases.Base.TheVariants.{Named}
use Rattle.pair_facts.specs.Pairs.{at_entry, is_pointer_argument, own_pairs}
use Rattle.pair_facts.specs.Paths.{start}
use Rattle.machine_meaning.specs.Code.{words_in}
use Rattle.machine_meaning.specs.Relations.{word_in, IsPair}
use Rattle.machine_meaning.specs.Words.{worded_setting}
use Rattle.moves_unseen.specs.Entries.{AreArguments, entered_words}
use Rattle.moves_unseen.specs.Frames.{AreWords, IsRunning}
use Rattle.moves_unseen.specs.Objects.{IsBase}
use Rattle.moves_unseen.specs.States.{worded_frame}
use Rattle.moves_unseen.proofs.MainLaws.{register_for_each}
use Rattle.moves_unseen.proofs.RegisterLaws.{word_of_value}
use Rattle.moves_unseen.proofs.ValueLaws.{pair_of_base}
use Rattle.pair_facts.proofs.OwnLaws.{named_is}

-- ---- lists

zero_there : (count place : ℕ) → ◌≡◌ {A = ℕ} (get_or (replicate count 0) place 0) (number_in (get_or (replicate count nothing) place nothing))
zero_there zero place = refl
zero_there (suc count) zero = refl
zero_there (suc count) (suc place) = zero_there count place

words_zeros : (words : List ℕ) (count : ℕ) → map number (words ++ replicate count 0) ≡ map number words ++ replicate count nothing
words_zeros [] zero = refl
words_zeros [] (suc count) = ap (λ (more : List Datum). nothing ∷ more) (words_zeros [] count)
words_zeros (word ∷ words) count = ap (λ (more : List Datum). number word ∷ more) (words_zeros words count)

types_split : (args : List Arg) (more : List Definition) → map definition_type (map argument args ++ more) ≡ map (λ arg. arg.ty) args ++ map definition_type more
types_split [] more = refl
types_split (arg ∷ args) more = ap (λ (rest : List Ty). arg.ty ∷ rest) (types_split args more)

-- ---- arguments

counted : (stands : List Stand) (types : List Ty) (given : List Datum) (words : List ℕ) → AreArguments stands types given words → (length given ≡ length types) × (length words ≡ length types)
counted stands [] [] [] are = (refl, refl)
counted stands [] [] (word ∷ words) are = absurd are
counted stands [] (datum ∷ given) [] are = absurd are
counted stands [] (datum ∷ given) (word ∷ words) are = absurd are
counted stands (ty ∷ types) [] [] are = absurd are
counted stands (ty ∷ types) [] (word ∷ words) are = absurd are
counted stands (ty ∷ types) (datum ∷ given) [] are = absurd are
counted stands (ty ∷ types) (datum ∷ given) (word ∷ words) are = let rest = counted stands types given words are.1 in (ap suc rest.0, ap suc rest.1)

entry_number : (stands : List Stand) (types more : List Ty) (given : List Datum) (words : List ℕ) (count : ℕ) → AreArguments stands types given words → (at : ℕ) (ty : Ty)
    → slice_get (types ++ more) at ≡ Some ty → is_pointer ty ≡ false → get_or (words ++ replicate count 0) at 0 ≡ number_in (get_or (given ++ replicate count nothing) at nothing)
entry_number stands [] more [] [] count are at ty is plain = zero_there count at
entry_number stands [] more [] (word ∷ words) count are at ty is plain = absurd are
entry_number stands [] more (datum ∷ given) [] count are at ty is plain = absurd are
entry_number stands [] more (datum ∷ given) (word ∷ words) count are at ty is plain = absurd are
entry_number stands (first ∷ types) more [] [] count are at ty is plain = absurd are
entry_number stands (first ∷ types) more [] (word ∷ words) count are at ty is plain = absurd are
entry_number stands (first ∷ types) more (datum ∷ given) [] count are at ty is plain = absurd are
entry_number stands (first ∷ types) more (datum ∷ given) (word ∷ words) count are zero ty is plain =
    (are.0).number (ap is_pointer (same_Some first ty is) ∙ plain)
entry_number stands (first ∷ types) more (datum ∷ given) (word ∷ words) count are (suc at) ty is plain = entry_number stands types more given words count are.1 at ty is plain

entry_base : (stands : List Stand) (types : List Ty) (given : List Datum) (words : List ℕ) (count : ℕ) → AreArguments stands types given words → (at : ℕ) (ty : Ty)
    → slice_get types at ≡ Some ty → is_pointer ty ≡ true → IsBase stands (pointer_in (get_or (given ++ replicate count nothing) at nothing)) (get_or (words ++ replicate count 0) at 0)
entry_base stands [] given words count are at ty is managed = absurd (none-some ty is)
entry_base stands (first ∷ types) [] [] count are at ty is managed = absurd are
entry_base stands (first ∷ types) [] (word ∷ words) count are at ty is managed = absurd are
entry_base stands (first ∷ types) (datum ∷ given) [] count are at ty is managed = absurd are
entry_base stands (first ∷ types) (datum ∷ given) (word ∷ words) count are zero ty is managed =
    (are.0).base (ap is_pointer (same_Some first ty is) ∙ managed)
entry_base stands (first ∷ types) (datum ∷ given) (word ∷ words) count are (suc at) ty is managed = entry_base stands types given words count are.1 at ty is managed

record IsManaged (args : List Arg) (at : ℕ) : Type 0 where
  pub arg : Arg
  pub is : slice_get args at ≡ Some arg
  pub managed : is_pointer arg.ty ≡ true

managed_argument : (args : List Arg) (at : ℕ) → option_map_or (λ arg. is_pointer arg.ty) (slice_get args at) false ≡ true → IsManaged args at
managed_argument args at is = by (slice_get args at) refl is
  where
    by : (found : Option Arg) → slice_get args at ≡ found → option_map_or (λ arg. is_pointer arg.ty) found false ≡ true → IsManaged args at
    by None here managed = absurd cc
    by (Some arg) here managed = record { arg = arg; is = here; managed = managed }

module _ (content : ModuleContent) (place : ℕ) (func : Function) (found : slice_get content.funcs place ≡ Some func) (go_line : ℕ → Option ℕ) (bound : ℕ)
    (objects : List Object) (stands : List Stand) (given : List Datum) (words : List ℕ) (are : AreArguments stands (map (λ arg. arg.ty) func.args) given words) where
  abbrev setting : Setting
  setting = target_setting content go_line bound

  abbrev types : List Ty
  types = value_types func

  abbrev left : ℕ
  left = register_count content place - length words

  same_count : length given ≡ length words
  same_count = let counts = counted stands (map (λ arg. arg.ty) func.args) given words are in counts.0 ∙ sym counts.1

  abbrev results : List Definition
  results = map outcome (filter (λ (inst : Instruction). is_some inst.result) (instructions_of func.blocks))

  whole : length words + left ≡ length types
  whole =
      let all = register_for_each content place func found in
      let counts = (counted stands (map (λ arg. arg.ty) func.args) given words are).1 in
      let split = ap length (types_split func.args results) ∙ length-append (map (λ arg. arg.ty) func.args) (map definition_type results) in
      omega arith

  abbrev registers : List Datum
  registers = given ++ replicate left nothing

  abbrev all_words : List ℕ
  all_words = words ++ replicate left 0

  entry_pair : (derived base : Operand) → at_entry func derived (Named base) ≡ true
      → IsPair stands (pointer_in (value registers derived)) (pointer_in (value registers base)) (word_in all_words derived) (word_in all_words base)
  entry_pair operands.Null operands.Null stood =
      record { heap = record { object = omega arith; offset = omega arith }; same = refl; first = refl; derived_is = refl; base_is = refl }
  entry_pair operands.Null (operands.Value at) stood = absurd cc
  entry_pair operands.Null (operands.Int literal) stood = absurd cc
  entry_pair operands.Null (operands.Fun called) stood = absurd cc
  entry_pair (operands.Int literal) base stood = absurd cc
  entry_pair (operands.Fun called) base stood = absurd cc
  entry_pair (operands.Value at) base stood =
      let parts = and_parts (is_pointer_argument func at.0) (own_pairs at.0 (Named base)) stood in
      let arg = managed_argument func.args at.0 parts.0 in
      let same = named_is at.0 base parts.1 in
      let own = entry_base stands (map (λ arg. arg.ty) func.args) given words left are at.0 (arg.arg).ty (get_map (λ arg. arg.ty) func.args at.0 arg.arg arg.is) arg.managed in
      subst (λ (other : Operand). IsPair stands (pointer_in (value registers (operands.Value at))) (pointer_in (value registers other)) (word_in all_words (operands.Value at)) (word_in all_words other))
      (sym same)
      (subst (λ (word : ℕ). IsPair stands (pointer_in (value registers (operands.Value at))) (pointer_in (value registers (operands.Value at))) word word) (sym (word_of_value all_words at.0))
      (pair_of_base stands (pointer_in (get_or registers at.0 nothing)) (get_or all_words at.0 0) own))

  words_are : AreWords stands types (at_entry func) registers all_words
  words_are = record {
    registers_count = length-append given (replicate left nothing) ∙ (let one = length-replicate left nothing in let two = same_count in let all = whole in omega arith);
    words_count = length-append words (replicate left 0) ∙ (let one : length (replicate {A = ℕ} left 0) ≡ left = length-replicate {A = ℕ} left 0 in let all = whole in omega arith);
    numbers = λ at ty is plain.
        entry_number stands (map (λ arg. arg.ty) func.args) (map definition_type results) given words left are at ty
        (sym (ap (λ (all : List Ty). slice_get all at) (types_split func.args results)) ∙ is) plain;
    pointers = entry_pair;
  }

  -- the frame that is entered stands at the front of its function
  running_there : IsRunning content objects stands (record (entered setting place given) { registers = registers }) (entered_words content place words)
  running_there = record {
    func = func;
    place = 0;
    pairs = at_entry func;
    at = record {
      defined = found;
      arrived = record { front = at_entry func; arrives = start; is = refl };
      rest = ap (λ (one : Option Function). plain_lines (option_map_or (λ (defined : Function). slice_index (registers_of defined) 0) one 0) (option_map_or (λ (defined : Function). insts_in defined 0) one [])) found;
    };
    words = words_are;
    slots = length-replicate (words_in content place) 0 ∙ ap (λ (one : Option Function). option_map_or frame_words one 0) found;
    guarded = λ check passed before op. absurd (none-some check before);
    chosen = λ select to before op managed gives. absurd (none-some select before);
  }

  entered_is : entered setting place given ≡ record (entered setting place given) { registers = registers }
  entered_is = ap (λ (count : ℕ). record (entered setting place given) { registers = given ++ replicate (register_count content place - count) nothing }) same_count

  pub frame_entered : IsRunning content objects stands (entered setting place given) (entered_words content place words)
  frame_entered = subst (λ (frame : Frame). IsRunning content objects stands frame (entered_words content place words)) (sym entered_is) running_there

  -- and the machine's frame is that frame on words
  pub entered_words_are : worded_frame (entered setting place given) (entered_words content place words).words ≡ entered (worded_setting setting) place (map number words)
  entered_words_are =
      ap (λ (held : List Datum). record (entered (worded_setting setting) place (map number words)) { registers = held })
      (words_zeros words left ∙ ap (λ (count : ℕ). map number words ++ replicate (register_count content place - count) nothing) (sym (length-map words number)))
