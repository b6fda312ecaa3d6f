-- The numbers of names behind the first line, and the row that has them.
use Rattle.std.proofs.Common.{◌≡◌, ◌∙◌, ℕ, zero, suc, ◌<◌, ◌≤◌, ◌+◌, ◌-◌, inl, inr, ◌⊎◌, Bool, true, false, eqb, ◌&&◌, ◌||◌, if◌then◌else◌, List, [], ◌∷◌, ◌++◌, length, map, filter, drop, Option, Some, None, is_some, slice_get, refl, ap, sym, arith, append_assoc, append-nil, length-append}
use Rattle.std.specs.Prelude.{slice_index, slice_set}
use Rattle.std.specs.List.{list_any, flat_map, range_with_len}
use Rattle.std.specs.Option.{option_map_or}
use Rattle.std.proofs.lemmas.Bool.{cases_Bool, cases_eq, cases_lt, eqb-true, eq-eqb, true≢false, false≢true}
use Rattle.std.proofs.lemmas.List.{length-map, map-append, length-set, get_or-set_same, get_or-set_other}
use Rattle.std.proofs.lemmas.List.Elements.{filter-append}
use Rattle.std.proofs.lemmas.List.FromFn.{length-range_with_len}
use Rattle.std.proofs.lemmas.Option.{slice_get_within, get_or_from_slice_get}
use Rattle.list_laws.proofs.Places.{get_map, get_front, drop_none}
use Rattle.ir_ast.specs.declared.ops.Operand.{Operand}
use Rattle.ir_ast.specs.Insts.{Instruction}
use Rattle.ir_ast.specs.Blocks.{BasicBlock}
use Rattle.ir_ast.specs.Funcs.{Function, instructions_of}
use Rattle.object_meaning.specs.Lines.{Line, following, after_all, first_registers, registers_of, insts_in}
use Rattle.object_meaning.specs.TargetRuns.{plain_lines}
use Rattle.rewriting_forms.specs.Numbered.{among, lines_at, line_at, calls, pointers}
use Rattle.rewriting_forms.specs.Liveness.{live_list}
use Rattle.rewriting_forms.specs.Names.{Name, own, relocated, joined, token, Naming, naming_of}
use Rattle.rewriting_forms.specs.Rewritten.{place_in, line_names, joined_at, block_names, names_of}
use Rattle.rewriting_laws.proofs.NameLemmas.{line_is, at_rest}
use Rattle.rewriting_laws.proofs.PlaceLaws.{place_is, get_back}
use Rattle.rewriting_laws.proofs.ApartLaws.{names_apart}
use Rattle.statepoint_insert.specs.declared.groups.Relocate.{Relocate}
use Rattle.statepoint_insert.specs.Groups.{relocate_in}
use Rattle.ssa_rebuild.proofs.TaskLaws.{results, after_is, first_next, first_zero, lines_own}
use Rattle.entry_groups.specs.Entry.{moved, behind_group}
use Rattle.entry_groups.proofs.VersionLaws.{Parts, first_of, entry_of, whole, WaitsFirst, first_line, calls_first, calls_no, no_joins, settled, settled_own}
use Rattle.ssa_rebuild.proofs.InsideLaws.{results_append}
use Rattle.list_laws.proofs.Ranges.{range_append, range_get}

-- ---- lists

filter_none : (p : ℕ → Bool) (xs : List ℕ) → ((x : ℕ) → p x ≡ false) → filter p xs ≡ []
filter_none p [] all = refl
filter_none p (x ∷ xs) all = rw (all x) (filter_none p xs all)

results_few : (insts : List Instruction) → results insts ≤ length insts
results_few [] = omega arith
results_few (inst ∷ insts) = elim (cases_Bool (is_some inst.result)) [
  | inl is ↦ (let rest = results_few insts in rw is (omega (arith, rest)))
  | inr not ↦ (let rest = results_few insts in rw not (omega (arith, rest)))
]

abbrev own_names : Line → List Name
own_names line = option_map_or (λ x. own x ∷ []) line.to []

module _ (parts : Parts) (table : List Operand) (waits : WaitsFirst parts table) where
  abbrev func : Function
  func = whole parts

  abbrev naming : Naming
  naming = naming_of func table

  abbrev names : List Name
  names = names_of func table naming

  abbrev number : Name → ℕ
  number = place_in names

  abbrev list : List ℕ
  list = live_list func table 0 0

  abbrev arguments : ℕ
  arguments = length parts.args

  abbrev rest : List Line
  rest = plain_lines (length parts.args) parts.insts

  abbrev register : ℕ → ℕ
  register b = slice_index (registers_of func) b

  abbrev made : ℕ → List Name
  made b = block_names func table naming b

  -- ---- the names of the text

  pub joined_none : (b : ℕ) → b < length func.blocks → joined_at func naming b ≡ []
  joined_none b below = filter_none (naming.joins b) (pointers func) (λ v. no_joins parts table waits b v below)

  named_from : (b k : ℕ) (lines : List Line) → drop k (lines_at func b) ≡ lines → (b ≡ 0 → k ≡ 0 → ⊥)
      → flat_map (line_names func table b) (range_with_len k (length lines)) ≡ flat_map own_names lines
  named_from b k [] place behind = refl
  named_from b k (line ∷ lines) place behind =
      let here = at_rest (lines_at func b) k line lines place in
      let s : suc k ≡ k + 1 = omega arith in
      let one : line_names func table b k ≡ own_names line =
      ap (λ (t : Bool). (if t then token b k ∷ [] else []) ++ (option_map_or (λ (x : ℕ). own x ∷ []) (line_at func b k).to [] ++ (if t then map (relocated b k) (live_list func table b k) else []))) (calls_no parts table waits b k behind)
      ∙ append-nil (option_map_or (λ (x : ℕ). own x ∷ []) (line_at func b k).to [])
      ∙ ap (λ (l : Line). option_map_or (λ (x : ℕ). own x ∷ []) l.to []) (line_is func b k line here.0) in
      ap (λ (ns : List Name). ns ++ flat_map (line_names func table b) (range_with_len (k + 1) (length lines))) one
      ∙ ap (λ (ns : List Name). own_names line ++ ns)
      (ap (λ (m : ℕ). flat_map (line_names func table b) (range_with_len m (length lines))) (sym s) ∙ named_from b (suc k) lines here.1 (λ z e. omega (arith, e)))

  block_named : (b : ℕ) (block : BasicBlock) → slice_get func.blocks b ≡ Some block → (b ≡ 0 → ⊥)
      → made b ≡ map own (range_with_len (register b) (results block.insts))
  block_named b block is later =
      let below = slice_get_within func.blocks b block is in
      let insts : insts_in func b ≡ block.insts = ap (λ (o : Option BasicBlock). option_map_or (λ (block : BasicBlock). block.insts) o []) is in
      ap (λ (vs : List ℕ). map (joined b) vs ++ flat_map (line_names func table b) (range_with_len 0 (length (lines_at func b)))) (joined_none b below)
      ∙ named_from b 0 (lines_at func b) (drop_none (lines_at func b)) (λ z e. later z)
      ∙ lines_own (register b) (insts_in func b)
      ∙ ap (λ (is : List Instruction). map own (range_with_len (register b) (results is))) insts

  both_own : (from one other : ℕ) → map own (range_with_len from one) ++ map own (range_with_len (from + one) other) ≡ map own (range_with_len from (one + other))
  both_own from one other = sym (ap (map own) (range_append from one other) ∙ map-append own (range_with_len from one) (range_with_len (from + one) other))

  blocks_named : (b : ℕ) (blocks : List BasicBlock) → drop b func.blocks ≡ blocks → (b ≡ 0 → ⊥)
      → flat_map made (range_with_len b (length blocks)) ≡ map own (range_with_len (register b) (results (instructions_of blocks)))
  blocks_named b [] place later = refl
  blocks_named b (block ∷ blocks) place later =
      let here = at_rest func.blocks b block blocks place in
      let s : suc b ≡ b + 1 = omega arith in
      let next : register (suc b) ≡ register b + results block.insts =
      ap register s ∙ first_next (length parts.args) func.blocks b block here.0 ∙ after_is (register b) block.insts in
      let tail = blocks_named (suc b) blocks here.1 (λ z. omega (arith, z)) in
      ap (λ (ns : List Name). ns ++ flat_map made (range_with_len (b + 1) (length blocks))) (block_named b block here.0 later)
      ∙ ap (λ (ns : List Name). map own (range_with_len (register b) (results block.insts)) ++ ns)
      (ap (λ (m : ℕ). flat_map made (range_with_len m (length blocks))) (sym s) ∙ tail
      ∙ ap (λ (m : ℕ). map own (range_with_len m (results (instructions_of blocks)))) next)
      ∙ both_own (register b) (results block.insts) (results (instructions_of blocks))
      ∙ ap (λ (m : ℕ). map own (range_with_len (register b) m)) (sym (results_append block.insts (instructions_of blocks)))

  abbrev group_names : List Name
  group_names = token 0 0 ∷ map (relocated 0 0) list

  abbrev total : ℕ
  total = results (parts.insts ++ instructions_of parts.blocks)

  first_named : line_names func table 0 0 ≡ group_names
  first_named = ap (λ (t : Bool). (if t then token 0 0 ∷ [] else []) ++ ([] ++ (if t then map (relocated 0 0) list else []))) (calls_first parts table waits)

  entry_named : made 0 ≡ group_names ++ map own (range_with_len arguments (results parts.insts))
  entry_named =
      ap (λ (vs : List ℕ). map (joined 0) vs ++ flat_map (line_names func table 0) (range_with_len 0 (length (lines_at func 0)))) (joined_none 0 (omega arith))
      ∙ ap (λ (ns : List Name). ns ++ flat_map (line_names func table 0) (range_with_len 1 (length rest))) first_named
      ∙ ap (λ (ns : List Name). group_names ++ ns) (named_from 0 1 rest (drop_none rest) (λ z e. omega (arith, e)) ∙ lines_own arguments parts.insts)

  abbrev arguments_named : List Name
  arguments_named = map own (range_with_len 0 arguments)

  whole_named : names ≡ arguments_named ++ (group_names ++ map own (range_with_len arguments total))
  whole_named =
      let one = results parts.insts in
      let more = results (instructions_of parts.blocks) in
      let behind : register 1 ≡ arguments + one = first_zero (after_all arguments parts.insts) parts.blocks ∙ after_is arguments parts.insts in
      let later : flat_map made (range_with_len 1 (length parts.blocks)) ≡ map own (range_with_len (arguments + one) more) =
      blocks_named 1 parts.blocks (drop_none parts.blocks) (λ z. omega (arith, z)) ∙ ap (λ (m : ℕ). map own (range_with_len m more)) behind in
      ap (λ (ns : List Name). arguments_named ++ (ns ++ flat_map made (range_with_len 1 (length parts.blocks)))) entry_named
      ∙ ap (λ (ns : List Name). arguments_named ++ ((group_names ++ map own (range_with_len arguments one)) ++ ns)) later
      ∙ ap (λ (ns : List Name). arguments_named ++ ns) (append_assoc group_names (map own (range_with_len arguments one)) (map own (range_with_len (arguments + one) more)))
      ∙ ap (λ (ns : List Name). arguments_named ++ (group_names ++ ns)) (both_own arguments one more ∙ ap (λ (m : ℕ). map own (range_with_len arguments m)) (sym (results_append parts.insts (instructions_of parts.blocks))))

  -- ---- the numbers of names

  at_name : (i : ℕ) (name : Name) → slice_get (arguments_named ++ (group_names ++ map own (range_with_len arguments total))) i ≡ Some name → number name ≡ i
  at_name i name is = place_is names (names_apart func table naming) i name (ap (λ (ns : List Name). slice_get ns i) whole_named ∙ is)

  many_arguments : length arguments_named ≡ arguments
  many_arguments = length-map (range_with_len 0 arguments) own ∙ length-range_with_len 0 arguments

  pub argument_number : (v : ℕ) → v < arguments → number (own v) ≡ v
  argument_number v below =
      let z : 0 + v ≡ v = omega arith in
      at_name v (own v) (get_front arguments_named (group_names ++ map own (range_with_len arguments total)) v (own v)
      (get_map own (range_with_len 0 arguments) v v (range_get 0 arguments v below ∙ ap Some z)))

  pub token_number : number (token 0 0) ≡ arguments
  token_number =
      let at = at_name (length arguments_named + 0) (token 0 0) (get_back arguments_named (group_names ++ map own (range_with_len arguments total)) 0 (token 0 0) refl) in
      let many = many_arguments in
      omega (arith, at, many)

  relocated_number : (j v : ℕ) → slice_get list j ≡ Some v → number (relocated 0 0 v) ≡ (arguments + 1) + j
  relocated_number j v is =
      let at = at_name (length arguments_named + suc j) (relocated 0 0 v)
      (get_back arguments_named (group_names ++ map own (range_with_len arguments total)) (suc j) (relocated 0 0 v)
      (get_front group_names (map own (range_with_len arguments total)) (suc j) (relocated 0 0 v) (get_map (relocated 0 0) list j v is))) in
      let many = many_arguments in
      omega (arith, at, many)

  later_number : (i : ℕ) → i < total → number (own (arguments + i)) ≡ (arguments + (length list + 1)) + i
  later_number i below =
      let x = arguments + i in
      let at = at_name (length arguments_named + (length group_names + i)) (own x)
      (get_back arguments_named (group_names ++ map own (range_with_len arguments total)) (length group_names + i) (own x)
      (get_back group_names (map own (range_with_len arguments total)) i (own x)
      (get_map own (range_with_len arguments total) i x (range_get arguments total i below)))) in
      let many = many_arguments in
      let group : length group_names ≡ suc (length list) = ap suc (length-map list (relocated 0 0)) in
      omega (arith, at, many, group)

  -- ---- the row

  abbrev of_group : ℕ → Relocate
  of_group = relocate_in table list

  abbrev has : ℕ → List Relocate → Bool
  has v relocates = list_any (λ relocate. eqb relocate.value.0 v) relocates

  has_among : (v : ℕ) (vs : List ℕ) → has v (map of_group vs) ≡ among v vs
  has_among v [] = refl
  has_among v (x ∷ vs) = ap (λ (t : Bool). eqb x v || t) (has_among v vs)

  value_at : (vs : List ℕ) (j : ℕ) (relocate : Relocate) → slice_get (map of_group vs) j ≡ Some relocate → slice_get vs j ≡ Some relocate.value.0
  value_at [] j relocate is = absurd (cc)
  value_at (x ∷ vs) zero relocate is =
      let e : of_group x ≡ relocate = cc in
      ap (λ (r : Relocate). Some r.value.0) e
  value_at (x ∷ vs) (suc j) relocate is = value_at vs j relocate is

  moved_other : (next : ℕ) (relocates : List Relocate) (row : List ℕ) (v : ℕ) → has v relocates ≡ false → slice_index (moved next relocates row) v ≡ slice_index row v
  moved_other next [] row v none = refl
  moved_other next (r ∷ relocates) row v none = elim (cases_eq r.value.0 v) [
    | inl e ↦ absurd (true≢false (sym (ap (λ (t : Bool). t || has v relocates) (eq-eqb r.value.0 v e)) ∙ none))
    | inr ne ↦
        let tail : has v relocates ≡ false = tail_none (eqb r.value.0 v) (has v relocates) none in
        moved_other (suc next) relocates (slice_set row r.value.0 next) v tail ∙ get_or-set_other row r.value.0 v next 0 (λ same. ne (sym same))
  ]
    where
      tail_none : (s t : Bool) → (s || t) ≡ false → t ≡ false
      tail_none true t is = absurd (true≢false is)
      tail_none false t is = is

  record IsMoved (next : ℕ) (relocates : List Relocate) (row : List ℕ) (v : ℕ) : Type 0 where
    place : ℕ
    relocate : Relocate
    at : slice_get relocates place ≡ Some relocate
    of : relocate.value.0 ≡ v
    number : slice_index (moved next relocates row) v ≡ next + place

  moved_to : (next : ℕ) (relocates : List Relocate) (row : List ℕ) (v : ℕ) → v < length row → has v relocates ≡ true → IsMoved next relocates row v
  moved_to next [] row v within is = absurd (false≢true is)
  moved_to next (r ∷ relocates) row v within is = elim (cases_Bool (has v relocates)) [
    | inl later ↦
        let size = length-set row r.value.0 next in
        let tail = moved_to (suc next) relocates (slice_set row r.value.0 next) v (omega (arith, within, size)) later in
        let e : suc next + tail.place ≡ next + suc tail.place = omega arith in
        record { place = suc tail.place; relocate = tail.relocate; at = tail.at; of = tail.of; number = tail.number ∙ e }
    | inr none ↦
        let here : r.value.0 ≡ v = eqb-true r.value.0 v (head (eqb r.value.0 v) (has v relocates) is none) in
        let e : next ≡ next + 0 = omega arith in
        record {
          place = 0;
          relocate = r;
          at = refl;
          of = here;
          number = moved_other (suc next) relocates (slice_set row r.value.0 next) v none
              ∙ ap (λ (x : ℕ). slice_index (slice_set row x next) v) here ∙ get_or-set_same row v next 0 within ∙ e;
        }
  ]
    where
      head : (s t : Bool) → (s || t) ≡ true → t ≡ false → s ≡ true
      head true t is none = refl
      head false t is none = absurd (false≢true (sym none ∙ is))

  abbrev others : ℕ
  others = length (instructions_of func.blocks)

  abbrev start : List ℕ
  start = range_with_len 0 arguments ++ range_with_len (arguments + (length (map of_group list) + 1)) others

  start_argument : (v : ℕ) → v < arguments → slice_index start v ≡ v
  start_argument v below =
      let z : 0 + v ≡ v = omega arith in
      get_or_from_slice_get start v v 0 (get_front (range_with_len 0 arguments) (range_with_len (arguments + (length (map of_group list) + 1)) others) v v (range_get 0 arguments v below ∙ ap Some z))

  start_later : (i : ℕ) → i < others → slice_index start (arguments + i) ≡ (arguments + (length list + 1)) + i
  start_later i below =
      let many = length-range_with_len 0 arguments in
      let at : length (range_with_len 0 arguments) + i ≡ arguments + i = omega (arith, many) in
      let size = length-map list of_group in
      let e : (arguments + (length (map of_group list) + 1)) + i ≡ (arguments + (length list + 1)) + i = omega (arith, size) in
      ap (slice_index start) (sym at)
      ∙ get_or_from_slice_get start (length (range_with_len 0 arguments) + i) ((arguments + (length (map of_group list) + 1)) + i) 0
      (get_back (range_with_len 0 arguments) (range_with_len (arguments + (length (map of_group list) + 1)) others) i ((arguments + (length (map of_group list) + 1)) + i)
      (range_get (arguments + (length (map of_group list) + 1)) others i below))
      ∙ e

  start_long : arguments ≤ length start
  start_long =
      let both = length-append (range_with_len 0 arguments) (range_with_len (arguments + (length (map of_group list) + 1)) others) in
      let one = length-range_with_len 0 arguments in
      omega (arith, both, one)

  abbrev pub row : List ℕ
  row = behind_group (length (whole parts).args) (length (instructions_of (whole parts).blocks)) (map (relocate_in table (live_list (whole parts) table 0 0)) (live_list (whole parts) table 0 0))

  row_argument : (v : ℕ) → v < arguments → slice_index row v ≡ number (settled parts table waits v)
  row_argument v below = elim (cases_Bool (among v list)) [
    | inl is ↦
        let found = moved_to (arguments + 1) (map of_group list) start v (let long = start_long in omega (arith, below, long)) (has_among v list ∙ is) in
        let at = value_at list found.place found.relocate found.at ∙ ap Some found.of in
        found.number ∙ sym (relocated_number found.place v at) ∙ sym (ap (λ (t : Bool). number (if t then relocated 0 0 v else own v)) is)
    | inr none ↦
        moved_other (arguments + 1) (map of_group list) start v (has_among v list ∙ none) ∙ start_argument v below
        ∙ sym (argument_number v below) ∙ sym (ap (λ (t : Bool). number (if t then relocated 0 0 v else own v)) none)
  ]

  row_later : (i : ℕ) → i < total → slice_index row (arguments + i) ≡ number (settled parts table waits (arguments + i))
  row_later i below =
      let x = arguments + i in
      let past : arguments ≤ x = omega arith in
      let none : among x list ≡ false = elim (cases_Bool (among x list)) [
        | inl is ↦ (let inside = waits.arguments x is in absurd (omega (arith, inside, past)))
        | inr behind ↦ behind
      ] in
      let few = results_few (parts.insts ++ instructions_of parts.blocks) in
      let within : i < others = omega (arith, below, few) in
      moved_other (arguments + 1) (map of_group list) start x (has_among x list ∙ none) ∙ start_later i within
      ∙ sym (later_number i below) ∙ sym (ap number (settled_own parts table waits x past))

  pub row_is : (v : ℕ) → v < arguments + total → slice_index row v ≡ number (settled parts table waits v)
  row_is v below = elim (cases_lt v arguments) [
    | inl argument ↦ row_argument v argument
    | inr later ↦
        let e : arguments + (v - arguments) ≡ v = omega (arith, later) in
        ap (slice_index row) (sym e) ∙ row_later (v - arguments) (omega (arith, below, later)) ∙ ap (λ (x : ℕ). number (settled parts table waits x)) e
  ]
