-- A select: the machine takes the same step, and its value is that of the operand which the condition chooses.
use Rattle.std.proofs.Common.{◌≡◌, ℕ, zero, suc, ◌+◌, ◌<◌, ◌&&◌, ◌||◌, ◌⊎◌, Bool, true, false, List, [], ◌∷◌, length, set, map, refl, sym, ap, ◌∙◌, subst, arith, Option, Some, None, inl, inr}
use Rattle.std.specs.Prelude.{slice_get, slice_index, if◌then◌else◌, is_some}
use Rattle.std.proofs.lemmas.Bool.{and_parts, eqb-true, true≢false}
use Rattle.std.proofs.lemmas.Bool.Decides.{nat_tests}
use Rattle.std.proofs.lemmas.Option.{none-some, slice_get_within}
use Rattle.std.proofs.Math.ListN.{get_or-map}
use Rattle.ir_ast.specs.declared.ops.Callee.TheVariants.{Check}
use Rattle.ir_ast.specs.declared.ops.Op.{Op}
use Rattle.ir_ast.specs.declared.ops.Op.TheVariants.{Call, Select}
use Rattle.ir_ast.specs.declared.ops.Operand.{Operand}
use Rattle.ir_ast.specs.declared.ops.Operand.TheVariants as operands
use Rattle.ir_ast.specs.declared.types.Ty.{Ty}
use Rattle.ir_ast.specs.Faults.GroupShape.{is_statepoint}
use Rattle.ir_ast.specs.Faults.PhiEdges.{is_phi}
use Rattle.ir_ast.specs.Faults.TypeClash.{Fits}
use Rattle.ir_ast.specs.Insts.{Instruction}
use Rattle.ir_ast.specs.Modules.{ModuleContent}
use Rattle.ir_ast.specs.Objects.{Datum, number}
use Rattle.ir_ast.specs.Types.{is_pointer}
use Rattle.ir_ast.specs.Values.{value_types}
use Rattle.object_meaning.specs.Effects.{Effect, goes_on}
use Rattle.object_meaning.specs.Frames.{is_member, passed}
use Rattle.object_meaning.specs.Lines.{Line, following, insts_in, numbered, registers_of}
use Rattle.object_meaning.specs.Registers.{operand, value, is_set, number_in, pointer_in, put}
use Rattle.object_meaning.specs.States.{State, Setting}
use Rattle.object_meaning.specs.Steps.{acts, step, steps_at}
use Rattle.object_meaning.specs.TargetRuns.{plain_lines}
use Rattle.pair_facts.specs.declared.bases.Base.TheVariants as bases
use Rattle.pair_facts.specs.Lines.{gives, is_given, is_select, line_before, lines_at, named, operand_at, same_operand}
use Rattle.pair_facts.specs.Pairs.{Pairs, after, are_own, follows, follows_named, given_pairs, is_named, selected, with_given, without}
use Rattle.machine_meaning.specs.Machines.{Machine, Machinery}
use Rattle.machine_meaning.specs.MachineSteps.{machine_acts, machine_at, machine_step, passes}
use Rattle.machine_meaning.specs.Words.{worded, worded_operand}
use Rattle.machine_meaning.specs.Relations.{word_in, IsPair}
use Rattle.moves_unseen.specs.Frames.{AreWords, IsChosen, chosen_place}
use Rattle.moves_unseen.specs.States.{Extra, IsRelated, machine_of}
use Rattle.moves_unseen.specs.Steps.{IsNumber, StepFollows, both_go}
use Rattle.moves_unseen.proofs.PassLaws.{pass_follows}
use Rattle.moves_unseen.proofs.RegisterLaws.{alike, apart_of, given_value, given_word, given_words, other_value, other_word}
use Rattle.moves_unseen.proofs.StandLaws.{IsAlone, line_here}
use Rattle.moves_unseen.proofs.ValueLaws.{same_number, value_at, word_at}
use Rattle.object_meaning.proofs.LineLaws.{given_is}
use Rattle.pair_facts.proofs.OwnLaws.{named_is}
use Rattle.ir_ast.proofs.OpLaws.{same_is}

-- ---- results of two lines

the_number : (one other : ℕ) (found : Option ℕ) → found ≡ Some one → found ≡ Some other → one ≡ other
the_number one other found first second = cc

the_line : (one other : Line) → Some one ≡ Some other → one ≡ other
the_line one other is = cc

result_is : (next : ℕ) (inst : Instruction) (to : ℕ) → (numbered next inst).to ≡ Some to → (to ≡ next) × (following next inst ≡ next + 1)
result_is next inst to is = by (is_some inst.result) is
  where
    by : (b : Bool) → ◌≡◌ {A = Option ℕ} (if b then Some next else None) (Some to) → (to ≡ next) × (◌≡◌ {A = ℕ} (if b then next + 1 else next) (next + 1))
    by true is = (cc, refl)
    by false is = absurd (none-some to is)

-- the result behind a line has a higher number
higher_result : (next : ℕ) (insts : List Instruction) (place : ℕ) (one two : Line) → slice_get (plain_lines next insts) place ≡ Some one
    → slice_get (plain_lines next insts) (suc place) ≡ Some two → (first second : ℕ) → one.to ≡ Some first → two.to ≡ Some second → first < second
higher_result next [] place one two is_one is_two first second gives_one gives_two = absurd (none-some one is_one)
higher_result next (inst ∷ []) zero one two is_one is_two first second gives_one gives_two = absurd (none-some two is_two)
higher_result next (inst ∷ other ∷ insts) zero one two is_one is_two first second gives_one gives_two =
    let here = result_is next inst first (ap (λ (l : Line). l.to) (the_line (numbered next inst) one is_one) ∙ gives_one) in
    let there = result_is (following next inst) other second (ap (λ (l : Line). l.to) (the_line (numbered (following next inst) other) two is_two) ∙ gives_two) in
    let one_is : first ≡ next = here.0 in
    let next_is : following next inst ≡ next + 1 = here.1 in
    let two_is : second ≡ following next inst = there.0 in omega arith
higher_result next (inst ∷ insts) (suc place) one two is_one is_two first second gives_one gives_two =
    higher_result (following next inst) insts place one two is_one is_two first second gives_one gives_two

before_one : (lines : List Line) (place : ℕ) (last line : Line) → line_before lines place ≡ Some last → slice_get lines place ≡ Some line
    → (earlier : ℕ) × (slice_get lines earlier ≡ Some last) × (slice_get lines (suc earlier) ≡ Some line)
before_one lines zero last line before here = absurd (none-some last before)
before_one lines (suc place) last line before here = (place, before, here)

-- ---- operands as words

pub worded_value : (words : List ℕ) (from : Operand) → value (map number words) (worded_operand from) ≡ number (word_in words from)
worded_value words (operands.Value at) =
    get_or-map number words at.0 0 ∙ sym (ap (λ (d : Datum). number (number_in d)) (get_or-map number words at.0 0))
worded_value words (operands.Int literal) = refl
worded_value words operands.Null = refl
worded_value words (operands.Fun func) = refl

pub worded_at : (words : List ℕ) (from : List Operand) (place : ℕ) → operand (map number words) (map worded_operand from) place ≡ number (word_in words (operand_at from place))
worded_at words [] place = refl
worded_at words (first ∷ from) zero = worded_value words first
worded_at words (first ∷ from) (suc place) = worded_at words from place

one_of : (b : Bool) → ((◌≡◌ {A = ℕ} (if b then 1 else 2) 1) × (b ≡ true)) ⊎ ((◌≡◌ {A = ℕ} (if b then 1 else 2) 2) × (b ≡ false))
one_of true = inl (refl, refl)
one_of false = inr (refl, refl)

either : (one two : Bool) → one || two ≡ true → (one ≡ true) ⊎ (two ≡ true)
either true two is = inl refl
either false two is = inr is

chosen_of : {A : Type 0} (f : ℕ → A) (b : Bool) → (if b then f 1 else f 2) ≡ f (if b then 1 else 2)
chosen_of f true = refl
chosen_of f false = refl

not_call : (types : List Ty) (op : Op) → op ≡ Select → op ≡ Call Check types → ⊥
not_call types op one other = cc

a_select : (op : Op) → is_select op ≡ true → op ≡ Select
a_select Select is = refl
a_select op is = absurd cc

own_name : (to : ℕ) → is_named to (named to) ≡ true
own_name to = grind (arith, nat_tests)

the_type : (one other : Ty) (found : Option Ty) → found ≡ Some one → found ≡ Some other → one ≡ other
the_type one other found first second = cc

module _ (content : ModuleContent) (machinery : Machinery) (setting : Setting) (state : State) (extra : Extra) (related : IsRelated content state extra) (line : Line) (rest : List Line)
    (is : state.running.rest ≡ line ∷ rest) (op_is : line.inst.op ≡ Select) (condition : IsNumber (value_types related.running.func) (operand_at line.inst.operands 0))
    (first : Fits (value_types related.running.func) (operand_at line.inst.operands 1) line.inst.ty) (second : Fits (value_types related.running.func) (operand_at line.inst.operands 2) line.inst.ty)
    (given : ℕ) (gives_it : line.to ≡ Some given) (typed : slice_get (value_types related.running.func) given ≡ Some line.inst.ty) where
  abbrev types : List Ty
  types = value_types related.running.func

  abbrev registers : List Datum
  registers = state.running.registers

  abbrev words : List ℕ
  words = extra.running.words

  abbrev pairs : Pairs
  pairs = related.running.pairs

  abbrev lines : List Line
  lines = lines_at related.running.func state.running.block

  abbrev last : Option Line
  last = line_before lines related.running.place

  abbrev machine : Machine
  machine = machine_of machinery state extra

  alone : IsAlone line
  alone = record { statepoint = ap is_statepoint op_is; member = ap is_member op_is; phi = ap is_phi op_is }

  here : slice_get lines related.running.place ≡ Some line
  here = line_here content state.running related.running.func related.running.place pairs related.running.at line rest is

  abbrev place : ℕ
  place = chosen_place registers line

  abbrev from : Operand
  from = operand_at line.inst.operands place

  abbrev datum : Datum
  datum = value registers from

  abbrev word : ℕ
  word = word_in words from

  -- ---- both steps

  chosen_here : (if is_set (operand registers line.inst.operands 0) then operand registers line.inst.operands 1 else operand registers line.inst.operands 2) ≡ datum
  chosen_here =
      chosen_of (operand registers line.inst.operands) (is_set (operand registers line.inst.operands 0)) ∙ value_at registers line.inst.operands place

  here_is : step setting state ≡ goes_on (passed state line rest datum)
  unfolding step
  here_is =
      ap (steps_at setting state) is
      ∙ (ap (acts setting state line rest) op_is
      ∙ ap (λ (d : Datum). goes_on (passed state line rest d)) chosen_here)

  abbrev in_line : ℕ → Datum
  in_line at = operand (map number words) (map worded_operand line.inst.operands) at

  same_condition : is_set (in_line 0) ≡ is_set (operand registers line.inst.operands 0)
  same_condition =
      ap (λ (n : ℕ). is_set (number n)) (word_at words line.inst.operands 0
      ∙ (same_number types registers words related.running.words.numbers (operand_at line.inst.operands 0) condition.ty condition.fits condition.plain
      ∙ sym (ap number_in (value_at registers line.inst.operands 0))))

  chosen_there : (if is_set (in_line 0) then in_line 1 else in_line 2) ≡ number word
  chosen_there =
      ap (λ (b : Bool). if b then in_line 1 else in_line 2) same_condition
      ∙ (chosen_of in_line (is_set (operand registers line.inst.operands 0)) ∙ worded_at words line.inst.operands place)

  there_is : machine_step machinery machine ≡ goes_on (passes machine (worded line) (map worded rest) word)
  unfolding machine_step
  there_is =
      ap (machine_at machinery machine) (ap (map worded) is)
      ∙ (ap (machine_acts machinery machine (worded line) (map worded rest)) op_is
      ∙ ap (λ (d : Datum). goes_on (record machine { state = passed machine.state (worded line) (map worded rest) d })) chosen_there)

  -- ---- words behind it

  fits_chosen : Fits types from line.inst.ty
  fits_chosen = elim (one_of (is_set (operand registers line.inst.operands 0))) [
    | inl holds ↦ subst (λ (at : ℕ). Fits types (operand_at line.inst.operands at) line.inst.ty) (sym holds.0) first
    | inr fails ↦ subst (λ (at : ℕ). Fits types (operand_at line.inst.operands at) line.inst.ty) (sym fails.0) second
  ]

  -- what holds of both operands holds of the chosen one
  of_chosen : (P : ℕ → Type 0) → P 1 → P 2 → P place
  of_chosen P one two = elim (one_of (is_set (operand registers line.inst.operands 0))) [
    | inl holds ↦ subst P (sym holds.0) one
    | inr fails ↦ subst P (sym fails.0) two
  ]

  plain_word : is_pointer line.inst.ty ≡ false → word ≡ number_in datum
  plain_word plain = same_number types registers words related.running.words.numbers from line.inst.ty fits_chosen plain

  in_registers : given < length registers
  in_registers = subst (λ (n : ℕ). given < n) (sym related.running.words.registers_count) (slice_get_within types given line.inst.ty typed)

  in_words : given < length words
  in_words = subst (λ (n : ℕ). given < n) (sym related.running.words.words_count) (slice_get_within types given line.inst.ty typed)

  abbrev PairAfter : Operand → Type 0
  PairAfter base = IsPair extra.heap.stands (pointer_in datum) (pointer_in (value (set registers given datum) base)) word (word_in (set words given word) base)

  -- both operands are their own bases, and so is the value
  own_after : (base : Operand) → is_named given base ≡ true → are_own (without given pairs) line.inst.operands ≡ true → PairAfter base
  own_after base own both =
      let parts = and_parts (without given pairs (operand_at line.inst.operands 1) (bases.Named (operand_at line.inst.operands 1)))
      (without given pairs (operand_at line.inst.operands 2) (bases.Named (operand_at line.inst.operands 2))) both in
      let apart = apart_of pairs given from from
      (of_chosen (λ at. without given pairs (operand_at line.inst.operands at) (bases.Named (operand_at line.inst.operands at)) ≡ true) parts.0 parts.1) in
      alike extra.heap.stands datum datum datum (value (set registers given datum) base) word word word (word_in (set words given word) base)
      refl (sym (given_value registers given datum base own in_registers)) refl (sym (given_word words given word base own in_words))
      (related.running.words.pointers from from apart.stood)

  -- the select before has this value, which isn't the value of this one
  other_given : (before : Line) (at : ℕ) → last ≡ Some before → before.to ≡ Some at → is_named given (named at) ≡ false
  other_given before at is_last gives_at =
      let two = before_one lines related.running.place before line is_last here in
      let less = higher_result (slice_index (registers_of related.running.func) state.running.block) (insts_in related.running.func state.running.block) two.0 before line two.1 two.2 at given gives_at gives_it in
      grind (arith, nat_tests)

  -- it follows the select before, and its value has that one's value as its base
  follow_after : (before : Line) (at : ℕ) → last ≡ Some before → before.to ≡ Some at → follows (without given pairs) line.inst.operands before ≡ true → PairAfter (named at)
  follow_after before at is_last gives_at followed =
      let kind = and_parts (is_select before.inst.op && is_pointer before.inst.ty)
      (same_operand (operand_at before.inst.operands 0) (operand_at line.inst.operands 0)
      && (without given pairs (operand_at line.inst.operands 1) (bases.Named (operand_at before.inst.operands 1))
      && without given pairs (operand_at line.inst.operands 2) (bases.Named (operand_at before.inst.operands 2)))) followed in
      let select = and_parts (is_select before.inst.op) (is_pointer before.inst.ty) kind.0 in
      let tests = and_parts (same_operand (operand_at before.inst.operands 0) (operand_at line.inst.operands 0))
      (without given pairs (operand_at line.inst.operands 1) (bases.Named (operand_at before.inst.operands 1))
      && without given pairs (operand_at line.inst.operands 2) (bases.Named (operand_at before.inst.operands 2))) kind.1 in
      let arms = and_parts (without given pairs (operand_at line.inst.operands 1) (bases.Named (operand_at before.inst.operands 1)))
      (without given pairs (operand_at line.inst.operands 2) (bases.Named (operand_at before.inst.operands 2))) tests.1 in
      let chosen = related.running.chosen before at is_last (a_select before.inst.op select.0) select.1 gives_at in
      let same_place : chosen_place registers before ≡ place =
      ap (λ (d : Datum). if is_set d then 1 else 2) (value_at registers before.inst.operands 0
      ∙ (ap (value registers) (same_is (operand_at before.inst.operands 0) (operand_at line.inst.operands 0) tests.0)
      ∙ sym (value_at registers line.inst.operands 0))) in
      let stood = of_chosen (λ arm. without given pairs (operand_at line.inst.operands arm) (bases.Named (operand_at before.inst.operands arm)) ≡ true) arms.0 arms.1 in
      let apart = apart_of pairs given from (operand_at before.inst.operands place) stood in
      by chosen same_place (related.running.words.pointers from (operand_at before.inst.operands place) apart.stood)
      (is_named at (operand_at before.inst.operands place)) refl
    where
      by : IsChosen registers words before at → chosen_place registers before ≡ place
          → IsPair extra.heap.stands (pointer_in datum) (pointer_in (value registers (operand_at before.inst.operands place))) word (word_in words (operand_at before.inst.operands place))
          → (own : Bool) → is_named at (operand_at before.inst.operands place) ≡ own → PairAfter (named at)
      by chosen same_place pair true own =
          let same = named_is at (operand_at before.inst.operands place) own in
          alike extra.heap.stands datum datum (value registers (operand_at before.inst.operands place)) (value (set registers given datum) (named at))
          word word (word_in words (operand_at before.inst.operands place)) (word_in (set words given word) (named at))
          refl (ap (value registers) same ∙ sym (other_value registers given datum (named at) (other_given before at is_last gives_at)))
          refl (ap (word_in words) same ∙ sym (other_word words given word (named at) (other_given before at is_last gives_at))) pair
      by chosen same_place pair false other =
          let apart = ap (λ (arm : ℕ). is_named at (operand_at before.inst.operands arm)) same_place ∙ other in
          alike extra.heap.stands datum datum (value registers (operand_at before.inst.operands place)) (value (set registers given datum) (named at))
          word word (word_in words (operand_at before.inst.operands place)) (word_in (set words given word) (named at))
          refl (sym (chosen.value apart ∙ ap (λ (arm : ℕ). value registers (operand_at before.inst.operands arm)) same_place)
          ∙ sym (other_value registers given datum (named at) (other_given before at is_last gives_at)))
          refl (sym (chosen.word apart ∙ ap (λ (arm : ℕ). word_in words (operand_at before.inst.operands arm)) same_place)
          ∙ sym (other_word words given word (named at) (other_given before at is_last gives_at))) pair

  named_after : (base : Operand) (found : Option Line) → last ≡ found → follows_named (without given pairs) found line.inst.operands base ≡ true → PairAfter base
  named_after (operands.Value at) None is_last followed = absurd cc
  named_after (operands.Value at) (Some before) is_last followed =
      let parts = and_parts (gives before at.0) (follows (without given pairs) line.inst.operands before) followed in
      follow_after before at.0 is_last (given_is before.to at.0 parts.0) parts.1
  named_after (operands.Int literal) found is_last followed = absurd cc
  named_after operands.Null found is_last followed = absurd cc
  named_after (operands.Fun func) found is_last followed = absurd cc

  pair_after : (base : Operand) → is_pointer line.inst.ty && selected (without given pairs) last line.inst.operands given (bases.Named base) ≡ true → PairAfter base
  pair_after base stood =
      let parts = and_parts (is_pointer line.inst.ty) (selected (without given pairs) last line.inst.operands given (bases.Named base)) stood in
      elim (either (is_named given base && are_own (without given pairs) line.inst.operands) (follows_named (without given pairs) last line.inst.operands base) parts.1) [
        | inl own ↦ (let both = and_parts (is_named given base) (are_own (without given pairs) line.inst.operands) own in own_after base both.0 both.1)
        | inr followed ↦ named_after base last refl followed
      ]

  words_after : AreWords extra.heap.stands types (after pairs last line) (put line.to datum registers) (put line.to word words)
  words_after =
      subst (λ (op : Op). AreWords extra.heap.stands types (with_given line.to (λ value. given_pairs (without value pairs) last line.inst op value) pairs) (put line.to datum registers) (put line.to word words)) (sym op_is)
      (subst (λ (to : Option ℕ). AreWords extra.heap.stands types (with_given to (λ value. given_pairs (without value pairs) last line.inst Select value) pairs) (put to datum registers) (put to word words)) (sym gives_it)
      (given_words extra.heap.stands types pairs registers words given line.inst.ty datum word related.running.words typed
      (given_pairs (without given pairs) last line.inst Select given) plain_word pair_after))

  -- ---- the item of selects behind it

  condition_apart : is_pointer line.inst.ty ≡ true → is_named given (operand_at line.inst.operands 0) ≡ false
  condition_apart managed = by (is_named given (operand_at line.inst.operands 0)) refl
    where
      by : (own : Bool) → is_named given (operand_at line.inst.operands 0) ≡ own → is_named given (operand_at line.inst.operands 0) ≡ false
      by false apart = apart
      by true own =
          let fits = subst (λ (o : Operand). Fits types o condition.ty) (named_is given (operand_at line.inst.operands 0) own) condition.fits in
          absurd (true≢false (sym managed ∙ (ap is_pointer (the_type line.inst.ty condition.ty (slice_get types given) typed fits) ∙ condition.plain)))

  chosen_given : is_pointer line.inst.ty ≡ true → IsChosen (set registers given datum) (set words given word) line given
  chosen_given managed =
      let same_place : chosen_place (set registers given datum) line ≡ place =
      ap (λ (d : Datum). if is_set d then 1 else 2) (value_at (set registers given datum) line.inst.operands 0
      ∙ (other_value registers given datum (operand_at line.inst.operands 0) (condition_apart managed)
      ∙ sym (value_at registers line.inst.operands 0))) in
      record {
        value = λ apart.
            given_value registers given datum (named given) (own_name given) in_registers
            ∙ (sym (other_value registers given datum from (sym (ap (λ (arm : ℕ). is_named given (operand_at line.inst.operands arm)) same_place) ∙ apart))
            ∙ sym (ap (λ (arm : ℕ). value (set registers given datum) (operand_at line.inst.operands arm)) same_place));
        word = λ apart.
            given_word words given word (named given) (own_name given) in_words
            ∙ (sym (other_word words given word from (sym (ap (λ (arm : ℕ). is_named given (operand_at line.inst.operands arm)) same_place) ∙ apart))
            ∙ sym (ap (λ (arm : ℕ). word_in (set words given word) (operand_at line.inst.operands arm)) same_place));
      }

  chosen_after : (to : ℕ) → line.inst.op ≡ Select → is_pointer line.inst.ty ≡ true → line.to ≡ Some to → IsChosen (put line.to datum registers) (put line.to word words) line to
  chosen_after to op managed gives_to =
      subst (λ (put_to : Option ℕ). IsChosen (put put_to datum registers) (put put_to word words) line to) (sym gives_it)
      (subst (λ (at : ℕ). IsChosen (set registers given datum) (set words given word) line at) (the_number given to line.to gives_it gives_to) (chosen_given managed))

  -- related before, the machine steps as the target meaning, and related after
  pub select_follows : StepFollows content machinery (step setting state) (machine_step machinery (machine_of machinery state extra))
  select_follows =
      subst (λ (effect : Effect State). StepFollows content machinery effect (machine_step machinery machine)) (sym here_is)
      (subst (StepFollows content machinery (goes_on (passed state line rest datum))) (sym there_is)
      (both_go (passed state line rest datum) (passes machine (worded line) (map worded rest) word)
      (pass_follows content machinery state extra related line rest is alone datum word words_after
      (λ others op. absurd (not_call others line.inst.op op_is op)) chosen_after)))
