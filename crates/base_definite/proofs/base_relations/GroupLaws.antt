-- Where the lines for an instruction stand in the text of the function with bases, and which values they give.
use Rattle.std.proofs.Common.{◌≡◌, ℕ, zero, suc, ◌+◌, ◌≤◌, Bool, true, false, if◌then◌else◌, List, [], ◌∷◌, ◌++◌, length, map, take, drop, refl, sym, ap, subst, ◌∙◌, append_assoc, ◌⊎◌, inl, inr, arith}
use Rattle.std.specs.Prelude.{Some, is_some, slice_get, filter}
use Rattle.std.specs.List.{All}
use Rattle.std.proofs.lemmas.List.{length-append, take-append-le}
use Rattle.std.proofs.lemmas.List.Elements.{filter-append}
use Rattle.std.proofs.Math.Seq.{take-append-add}
use Rattle.list_laws.proofs.Contents.{all_front}
use Rattle.list_laws.proofs.Places.{get_past, split_at}
use Rattle.ir_ast.specs.declared.funcs.Arg.{Arg}
use Rattle.ir_ast.specs.Insts.{Instruction}
use Rattle.ir_ast.specs.Blocks.{BasicBlock}
use Rattle.ir_ast.specs.Funcs.{Function, instructions_of}
use Rattle.ir_ast.specs.Values.{Definition, Gives, argument, definitions_of, outcome}
use Rattle.ir_ast.specs.Faults.GroupShape.{number_at}
use Rattle.object_meaning.specs.Lines.{after_all, following}
use Rattle.object_meaning.proofs.GivenLaws.{has_result, after_is, given_by, given_append, results_last}
use Rattle.base_forms.specs.DerivedMarks.{derived_marks}
use Rattle.base_forms.specs.Inserted.{inserted_number}
use Rattle.base_forms.specs.Based.{based, based_blocks, based_insts, lines_for}
use Rattle.renaming_laws.specs.Renamed.{Renaming}
use Rattle.base_laws.proofs.TypeLaws.{MarksPointers}
use Rattle.base_laws.proofs.NumberLaws.{first_keeps, renaming_of}
use Rattle.base_laws.proofs.LineLaws.{IsReady}
use Rattle.base_laws.proofs.BlockLaws.{after_based}
use Rattle.base_laws.proofs.FormLaws.{based_append}

-- ---- lists

pub get_dropped : {A : Type 0} (count : ℕ) (xs : List A) (place : ℕ) → slice_get (drop count xs) place ≡ slice_get xs (count + place)
get_dropped zero xs place = let same : place ≡ 0 + place = omega arith in ap (slice_get xs) same
get_dropped (suc count) [] place = refl
get_dropped (suc count) (x ∷ xs) place =
    let same : suc (count + place) ≡ suc count + place = omega arith in
    get_dropped count xs place ∙ ap (slice_get (x ∷ xs)) same

-- ---- from a value to its place

filtered_back : (insts : List Instruction) (index : ℕ) (inst : Instruction) → slice_get (map outcome (filter has_result insts)) index ≡ Some (outcome inst)
    → (place : ℕ) × (slice_get insts place ≡ Some inst) × (length (filter has_result (take place insts)) ≡ index) × (is_some inst.result ≡ true)
filtered_back [] index inst at = absurd cc
filtered_back (first ∷ insts) index inst at = by (has_result first) refl index at (λ k found. filtered_back insts k inst found)
  where
    by : (b : Bool) → has_result first ≡ b → (index : ℕ) → slice_get (map outcome (if b then first ∷ filter has_result insts else filter has_result insts)) index ≡ Some (outcome inst)
        → ((k : ℕ) → slice_get (map outcome (filter has_result insts)) k ≡ Some (outcome inst)
        → (place : ℕ) × (slice_get insts place ≡ Some inst) × (length (filter has_result (take place insts)) ≡ k) × (is_some inst.result ≡ true))
        → (place : ℕ) × (slice_get (first ∷ insts) place ≡ Some inst) × (length (filter has_result (take place (first ∷ insts))) ≡ index) × (is_some inst.result ≡ true)
    by false unnamed index at further =
        let found = further index at in
        (suc found.0, found.1, ap (λ (b : Bool). length (if b then first ∷ filter has_result (take found.0 insts) else filter has_result (take found.0 insts))) unnamed ∙ found.2, found.3)
    by true named zero at further =
        let same : first ≡ inst = cc in
        (0, ap (λ i. Some i) same, refl, ap has_result (sym same) ∙ named)
    by true named (suc index) at further =
        let found = further index at in (
          suc found.0,
          found.1,
          ap (λ (b : Bool). length (if b then first ∷ filter has_result (take found.0 insts) else filter has_result (take found.0 insts))) named ∙ ap suc found.2,
          found.3,
        )

behind_arguments : (args : List Arg) (rest : List Definition) (value : ℕ) (inst : Instruction) → slice_get (map argument args ++ rest) value ≡ Some (outcome inst)
    → (index : ℕ) × (slice_get rest index ≡ Some (outcome inst)) × (value ≡ length args + index)
behind_arguments [] rest value inst at = (value, at, omega arith)
behind_arguments (arg ∷ args) rest zero inst at = absurd cc
behind_arguments (arg ∷ args) rest (suc value) inst at =
    let found = behind_arguments args rest value inst at in
    (found.0, found.1, let is = found.2 in omega arith)

-- the place of what gives a value
pub record GivenAt (func : Function) (value : ℕ) (inst : Instruction) : Type 0 where
  pub place : ℕ
  pub stands : slice_get (instructions_of func.blocks) place ≡ Some inst
  pub number : number_at func place ≡ value
  pub named : is_some inst.result ≡ true

pub given_at : (func : Function) (value : ℕ) (inst : Instruction) → Gives func value inst → GivenAt func value inst
given_at func value inst given =
    let found = behind_arguments func.args (map outcome (filter has_result (instructions_of func.blocks))) value inst given in
    let back = filtered_back (instructions_of func.blocks) found.0 inst found.1 in
    record {
      place = back.0;
      stands = back.1;
      number = let index = back.2 in let is = found.2 in omega arith;
      named = back.3;
    }

-- ---- groups

module _ (func : Function) where
  abbrev marks : List Bool
  marks = derived_marks func

  abbrev pub source_text : List Instruction
  source_text = instructions_of func.blocks

  abbrev pub now_text : List Instruction
  now_text = instructions_of (based func).blocks

  -- the value whose result is the next at a place, and the lines for the instruction there
  abbrev pub value_at : ℕ → ℕ
  value_at place = after_all (length func.args) (take place (instructions_of func.blocks))

  abbrev pub group_of : ℕ → Instruction → List Instruction
  group_of value inst = lines_for func (derived_marks func) value inst inst.op

  abbrev pub before_group : ℕ → List Instruction
  before_group place = based_insts func (derived_marks func) (length func.args) (take place (instructions_of func.blocks))

  abbrev pub start_at : ℕ → ℕ
  start_at place = length (based_insts func (derived_marks func) (length func.args) (take place (instructions_of func.blocks)))

  pub value_is : (place : ℕ) → number_at func place ≡ value_at place
  value_is place = sym (after_is (length func.args) (take place (instructions_of func.blocks)))

  pub text_now : (next : ℕ) (blocks : List BasicBlock) → instructions_of (based_blocks func (derived_marks func) next blocks) ≡ based_insts func (derived_marks func) next (instructions_of blocks)
  text_now next [] = refl
  text_now next (block ∷ blocks) =
      ap (λ rest. based_insts func (derived_marks func) next block.insts ++ rest) (text_now (after_all next block.insts) blocks)
      ∙ sym (based_append func (derived_marks func) next block.insts (instructions_of blocks))

  pub text_is : now_text ≡ based_insts func (derived_marks func) (length func.args) (instructions_of func.blocks)
  text_is = text_now (length func.args) func.blocks

  -- what follows the lines for the instruction at a place
  abbrev pub after_group : ℕ → Instruction → List Instruction
  after_group place inst = based_insts func (derived_marks func) (following (value_at place) inst) (drop (place + 1) (instructions_of func.blocks))

  pub text_split : (place : ℕ) (inst : Instruction) → slice_get (instructions_of func.blocks) place ≡ Some inst
      → now_text ≡ before_group place ++ (group_of (value_at place) inst ++ after_group place inst)
  text_split place inst at =
      text_is
      ∙ (ap (based_insts func (derived_marks func) (length func.args)) (split_at (instructions_of func.blocks) place inst at)
      ∙ based_append func (derived_marks func) (length func.args) (take place (instructions_of func.blocks)) (inst ∷ drop (place + 1) (instructions_of func.blocks)))

  get_group : (group rest : List Instruction) (index : ℕ) (line : Instruction) → slice_get group index ≡ Some line → slice_get (group ++ rest) index ≡ Some line
  get_group [] rest index line at = absurd cc
  get_group (x ∷ group) rest zero line at = at
  get_group (x ∷ group) rest (suc index) line at = get_group group rest index line at

  pub line_stands : (place : ℕ) (inst : Instruction) → slice_get (instructions_of func.blocks) place ≡ Some inst → (index : ℕ) (line : Instruction)
      → slice_get (group_of (value_at place) inst) index ≡ Some line → slice_get now_text (start_at place + index) ≡ Some line
  line_stands place inst at index line in_group =
      ap (λ text. slice_get text (start_at place + index)) (text_split place inst at)
      ∙ (get_past (before_group place) (group_of (value_at place) inst ++ after_group place inst) index
      ∙ get_group (group_of (value_at place) inst) (after_group place inst) index line in_group)

  -- a line of the text stands in a group
  pub record Located (place : ℕ) (line : Instruction) : Type 0 where
    pub from : ℕ
    pub inst : Instruction
    pub stands : slice_get (instructions_of func.blocks) from ≡ Some inst
    pub index : ℕ
    pub in_group : slice_get (group_of (value_at from) inst) index ≡ Some line
    pub is : place ≡ start_at from + index

  split_place : (xs ys : List Instruction) (place : ℕ) (line : Instruction) → slice_get (xs ++ ys) place ≡ Some line
      → (slice_get xs place ≡ Some line) ⊎ ((index : ℕ) × (slice_get ys index ≡ Some line) × (place ≡ length xs + index))
  split_place [] ys place line at = inr (place, at, omega arith)
  split_place (x ∷ xs) ys zero line at = inl at
  split_place (x ∷ xs) ys (suc place) line at = elim (split_place xs ys place line at) [
    | inl here ↦ inl here
    | inr there ↦ inr (there.0, there.1, let is = there.2 in omega arith)
  ]

  pub record FoundIn (next : ℕ) (insts : List Instruction) (place : ℕ) (line : Instruction) : Type 0 where
    pub from : ℕ
    pub inst : Instruction
    pub stands : slice_get insts from ≡ Some inst
    pub index : ℕ
    pub in_group : slice_get (lines_for func (derived_marks func) (after_all next (take from insts)) inst inst.op) index ≡ Some line
    pub is : place ≡ length (based_insts func (derived_marks func) next (take from insts)) + index

  pub found_in : (next : ℕ) (insts : List Instruction) (place : ℕ) (line : Instruction) → slice_get (based_insts func (derived_marks func) next insts) place ≡ Some line → FoundIn next insts place line
  found_in next [] place line at = absurd cc
  found_in next (inst ∷ insts) place line at =
      elim (split_place (lines_for func (derived_marks func) next inst inst.op) (based_insts func (derived_marks func) (following next inst) insts) place line at) [
        | inl here ↦ record { from = 0; inst = inst; stands = refl; index = place; in_group = here; is = omega arith }
        | inr there ↦
            let rest = found_in (following next inst) insts there.0 line there.1 in
            let longer = length-append (lines_for func (derived_marks func) next inst inst.op) (based_insts func (derived_marks func) (following next inst) (take rest.from insts)) in
            record {
              from = suc rest.from;
              inst = rest.inst;
              stands = rest.stands;
              index = rest.index;
              in_group = rest.in_group;
              is = let is = there.2 in let further = rest.is in omega arith;
            }
      ]

  pub located : (place : ℕ) (line : Instruction) → slice_get now_text place ≡ Some line → Located place line
  located place line at =
      let found = found_in (length func.args) (instructions_of func.blocks) place line (sym (ap (λ text. slice_get text place) text_is) ∙ at) in
      record { from = found.from; inst = found.inst; stands = found.stands; index = found.index; in_group = found.in_group; is = found.is }

  -- ---- the values that the lines of a group give

  module _ (functions : ℕ → Renaming) (number : ℕ) (called : Bool) (is : functions number ≡ renaming_of called func) (pointers : MarksPointers func (derived_marks func))
      (ready : All (IsReady functions func) (instructions_of func.blocks)) where
    ready_front : (place : ℕ) (inst : Instruction) → slice_get (instructions_of func.blocks) place ≡ Some inst → All (IsReady functions func) (take place (instructions_of func.blocks))
    ready_front place inst at =
        all_front (IsReady functions func) (take place (instructions_of func.blocks)) (inst ∷ drop (place + 1) (instructions_of func.blocks))
        (subst (λ (all : List Instruction). All (IsReady functions func) all) (split_at (instructions_of func.blocks) place inst at) ready)

    pub values_before : (place : ℕ) (inst : Instruction) → slice_get (instructions_of func.blocks) place ≡ Some inst
        → drop (length func.args) (definitions_of func) ≡ given_by (take place (instructions_of func.blocks)) ++ (given_by (inst ∷ drop (place + 1) (instructions_of func.blocks)) ++ [])
    values_before place inst at =
        results_last func
        ∙ (ap (λ insts. given_by insts ++ []) (split_at (instructions_of func.blocks) place inst at)
        ∙ (ap (λ all. all ++ []) (given_append (take place (instructions_of func.blocks)) (inst ∷ drop (place + 1) (instructions_of func.blocks)))
        ∙ append_assoc (given_by (take place (instructions_of func.blocks))) (given_by (inst ∷ drop (place + 1) (instructions_of func.blocks))) []))

    pub start_number : (place : ℕ) (inst : Instruction) → slice_get (instructions_of func.blocks) place ≡ Some inst
        → length func.args + length (filter has_result (before_group place)) ≡ inserted_number func (derived_marks func) (value_at place)
    start_number place inst at =
        sym (after_is (length func.args) (before_group place))
        ∙ (ap (λ n. after_all n (before_group place)) (sym (first_keeps func))
        ∙ after_based functions number func called is pointers (length func.args) (take place (instructions_of func.blocks))
        (given_by (inst ∷ drop (place + 1) (instructions_of func.blocks)) ++ []) (values_before place inst at) (ready_front place inst at))

    -- the number of the next result at a line of a group
    pub line_number : (place : ℕ) (inst : Instruction) → slice_get (instructions_of func.blocks) place ≡ Some inst → (index : ℕ) → index ≤ length (group_of (value_at place) inst)
        → number_at (based func) (start_at place + index)
        ≡ inserted_number func (derived_marks func) (value_at place) + length (filter has_result (take index (group_of (value_at place) inst)))
    line_number place inst at index within =
        let cut : take (start_at place + index) now_text ≡ before_group place ++ take index (group_of (value_at place) inst) =
        ap (take (start_at place + index)) (text_split place inst at)
        ∙ (take-append-add (before_group place) (group_of (value_at place) inst ++ after_group place inst) index
        ∙ ap (λ rest. before_group place ++ rest) (take-append-le index (group_of (value_at place) inst) (after_group place inst) within)) in
        let counted : length (filter has_result (take (start_at place + index) now_text))
        ≡ length (filter has_result (before_group place)) + length (filter has_result (take index (group_of (value_at place) inst))) =
        ap (λ text. length (filter has_result text)) cut
        ∙ (ap length (filter-append has_result (before_group place) (take index (group_of (value_at place) inst)))
        ∙ length-append (filter has_result (before_group place)) (filter has_result (take index (group_of (value_at place) inst)))) in
        let first = start_number place inst at in
        omega arith
