-- The names of the values of the rewritten function: each is spelled by its name, and no two are spelled alike.
use Rattle.std.proofs.Common.{◌≡◌, ℕ, zero, suc, ◌+◌, ◌^◌, ◌<◌, ◌≤◌, Bool, true, false, eqb, leb, ◌&&◌, if◌then◌else◌, List, [], ◌∷◌, ◌++◌, length, map, get_or, take, drop, refl, sym, ap, subst, ◌∙◌, inl, inr, arith}
use Rattle.std.specs.Prelude.{Option, Some, None, filter, is_some, slice_get}
use Rattle.std.specs.List.{All, flat_map, list_all, range_with_len}
use Rattle.std.specs.Fmt.{decimal}
use Rattle.std.specs.Option.{option_map_or}
use Rattle.std.specs.Str.Parse.{AllDigits}
use Rattle.std.proofs.lemmas.Bool.{cases_lt, eq-eqb, le-leb, or_left, or_right, true≢false}
use Rattle.std.proofs.lemmas.Fmt.{decimal_injective, decimal_is_IsNumeral}
use Rattle.std.proofs.lemmas.List.{get_or_past, length-append, length-map, map-append}
use Rattle.std.proofs.lemmas.List.Elements.{All-append, All-cons, All-nil, filter-append}
use Rattle.std.proofs.lemmas.List.FromFn.{length-range_with_len}
use Rattle.std.proofs.lemmas.Option.{slice_get_within}
use Rattle.std.proofs.lemmas.Str.Parse.{tells_digits}
use Rattle.list_laws.proofs.Contents.{all_at, all_from_at}
use Rattle.list_laws.proofs.Places.{get_front, get_map, get_some, map_back}
use Rattle.sp_text.specs.Bytes.{in_name}
use Rattle.ir_ast.specs.declared.funcs.Arg.{Arg}
use Rattle.ir_ast.specs.declared.ops.Operand.{Operand}
use Rattle.ir_ast.specs.Insts.{Instruction}
use Rattle.ir_ast.specs.Blocks.{BasicBlock}
use Rattle.ir_ast.specs.Funcs.{Function, instructions_of}
use Rattle.ir_ast.specs.Lists.{Distinct}
use Rattle.ir_ast.specs.Values.{Definition, argument, definition_name, definitions_of, outcome}
use Rattle.ir_cfg.specs.Limits.{IsName}
use Rattle.ir_cfg.proofs.KeepsForms.{flat_all}
use Rattle.object_meaning.specs.Lines.{Line}
use Rattle.rewriting_forms.specs.Numbered.{calls, line_at, lines_at, no_line}
use Rattle.rewriting_forms.specs.Liveness.{live_list}
use Rattle.rewriting_forms.specs.Names as forms
use Rattle.rewriting_forms.specs.Names.{Name, Naming, own}
use Rattle.rewriting_laws.proofs.NameTests.{same_itself}
use Rattle.rewriting_forms.specs.Rewritten.{Piece, block_names, is_joined, is_relocated, is_token, joined_at, line_names, names_of, old_name, piece_inst, place_in, rewritten_blocks, same_name}
use Rattle.rewriting_laws.proofs.ApartLaws.{names_apart}
use Rattle.rewriting_laws.proofs.NameLemmas.{line_is}
use Rattle.rewriting_laws.proofs.PlaceLaws.{Apart, piece_names, pieces_names}
use Rattle.base_definite.proofs.base_paths.GivesLaws.{defines_gives}
use Rattle.rewritten_sound.proofs.definite.LineLaws.{given_defines}
use Rattle.rewritten_sound.specs.WellFormed.{IsGroupName}
use Rattle.rewritten_sound.proofs.definite.NowLaws.{insts_now, now, number, pieces, text}
use Rattle.list_laws.proofs.Ranges.{range_back}

abbrev has_result : Instruction → Bool
has_result inst = is_some inst.result

-- the names that instructions give
abbrev given_names : List Instruction → List (List ℕ)
given_names insts = map definition_name (map outcome (filter has_result insts))

given_append : (xs ys : List Instruction) → given_names (xs ++ ys) ≡ given_names xs ++ given_names ys
given_append xs ys =
    ap (λ insts. map definition_name (map outcome insts)) (filter-append has_result xs ys)
    ∙ (ap (map definition_name) (map-append outcome (filter has_result xs) (filter has_result ys))
    ∙ map-append definition_name (map outcome (filter has_result xs)) (map outcome (filter has_result ys)))

one_text : (text : Name → List ℕ) (name : Option Name) (inst : Instruction) (ps : List Piece) → given_names (map (piece_inst text) ps) ≡ map text (piece_names ps)
    → given_names (map (piece_inst text) (record { name = name; inst = inst } ∷ ps)) ≡ map text (piece_names (record { name = name; inst = inst } ∷ ps))
one_text text None inst ps rest = rest
one_text text (Some name) inst ps rest = ap (λ names. text name ∷ names) rest

piece_texts : (text : Name → List ℕ) (ps : List Piece) → given_names (map (piece_inst text) ps) ≡ map text (piece_names ps)
piece_texts text [] = refl
piece_texts text (p ∷ ps) = one_text text p.name p.inst ps (piece_texts text ps)

args_text : (all : List Definition) (from : ℕ) (args : List Arg) → ((i : ℕ) (arg : Arg) → slice_get args i ≡ Some arg → slice_get all (from + i) ≡ Some (argument arg))
    → map definition_name (map argument args) ≡ map (λ v. option_map_or definition_name (slice_get all v) []) (range_with_len from (length args))
args_text all from [] each = refl
args_text all from (arg ∷ args) each =
    let zero_more : from + 0 ≡ from = omega arith in
    let here : slice_get all from ≡ Some (argument arg) = ap (slice_get all) (sym zero_more) ∙ each 0 arg refl in
    ap (λ (name : List ℕ). name ∷ map definition_name (map argument args)) (sym (ap (λ (given : Option Definition). option_map_or definition_name given []) here))
    ∙ ap (λ names. option_map_or definition_name (slice_get all from) [] ∷ names)
    (args_text all (from + 1) args (λ i one at. let e : (from + 1) + i ≡ from + suc i = omega arith in ap (slice_get all) e ∙ each (suc i) one at))

module _ (func : Function) (table : List Operand) (naming : Naming) where
  abbrev names : List Name
  names = names_of func table naming

  abbrev spell : Name → List ℕ
  spell = text func table naming

  blocks_text : (start : ℕ) (blocks : List BasicBlock)
      → given_names (instructions_of (rewritten_blocks func table naming names start blocks)) ≡ map spell (flat_map (block_names func table naming) (range_with_len start (length blocks)))
  blocks_text start [] = refl
  blocks_text start (block ∷ blocks) =
      let one : suc start ≡ start + 1 = omega arith in
      given_append (insts_now func table naming start) (instructions_of (rewritten_blocks func table naming names (suc start) blocks))
      ∙ (ap (λ front. front ++ given_names (instructions_of (rewritten_blocks func table naming names (suc start) blocks)))
      (piece_texts spell (pieces func table naming start) ∙ ap (map spell) (pieces_names func table naming (number func table naming) start))
      ∙ (ap (λ back. map spell (block_names func table naming start) ++ back)
      (blocks_text (suc start) blocks ∙ ap (λ n. map spell (flat_map (block_names func table naming) (range_with_len n (length blocks)))) one)
      ∙ sym (map-append spell (block_names func table naming start) (flat_map (block_names func table naming) (range_with_len (start + 1) (length blocks))))))

  map_own : (vs : List ℕ) → map spell (map own vs) ≡ map (old_name func) vs
  map_own [] = refl
  map_own (v ∷ vs) = ap (λ rest. old_name func v ∷ rest) (map_own vs)

  -- the names of the rewritten function's values
  pub names_are : map definition_name (definitions_of (now func table naming)) ≡ map spell names
  names_are =
      map-append definition_name (map argument func.args) (map outcome (filter has_result (instructions_of (now func table naming).blocks)))
      ∙ (ap (λ front. front ++ given_names (instructions_of (now func table naming).blocks))
      (args_text (definitions_of func) 0 func.args (λ i arg at.
      let e : 0 + i ≡ i = omega arith in
      ap (slice_get (definitions_of func)) e ∙ get_front (map argument func.args) (map outcome (filter has_result (instructions_of func.blocks))) i (argument arg) (get_map argument func.args i arg at))
      ∙ sym (map_own (range_with_len 0 (length func.args))))
      ∙ (ap (λ back. map spell (map own (range_with_len 0 (length func.args))) ++ back) (blocks_text 0 func.blocks)
      ∙ sym (map-append spell (map own (range_with_len 0 (length func.args))) (flat_map (block_names func table naming) (range_with_len 0 (length func.blocks))))))

  -- ---- values that names stand for

  abbrev Known : Name → Type 0
  Known (own v) = v < length (definitions_of func)
  Known name = Unit {0}

  own_of_line : (b k : ℕ) → All Known (option_map_or (λ (x : ℕ). own x ∷ []) (line_at func b k).to [])
  own_of_line b k = elim (cases_lt k (length (lines_at func b))) [
    | inr past ↦ subst (λ (line : Line). All Known (option_map_or (λ (x : ℕ). own x ∷ []) line.to [])) (sym (get_or_past (lines_at func b) k no_line past)) (All-nil Known)
    | inl below ↦
        let line = get_some (lines_at func b) k below in
        subst (λ (l : Line). All Known (option_map_or (λ (x : ℕ). own x ∷ []) l.to [])) (sym (line_is func b k line.0 line.1)) (by line.0 line.1 (line.0).to refl)
  ]
    where
      by : (line : Line) → slice_get (lines_at func b) k ≡ Some line → (to : Option ℕ) → line.to ≡ to → All Known (option_map_or (λ (x : ℕ). own x ∷ []) to [])
      by line at None none = All-nil Known
      by line at (Some x) given =
          let defines = given_defines func x b k line at given in
          All-cons Known (own x) [] (slice_get_within (definitions_of func) x (outcome defines.inst) (defines_gives func x b k defines)) (All-nil Known)

  all_tokens : (t : Bool) (b k : ℕ) → All Known (if t then forms.token b k ∷ [] else [])
  all_tokens true b k = All-cons Known (forms.token b k) [] tt (All-nil Known)
  all_tokens false b k = All-nil Known

  mapped_known : (f : ℕ → Name) → ((v : ℕ) → Known (f v)) → (vs : List ℕ) → All Known (map f vs)
  mapped_known f each [] = All-nil Known
  mapped_known f each (v ∷ vs) = All-cons Known (f v) (map f vs) (each v) (mapped_known f each vs)

  all_relocates : (t : Bool) (b k : ℕ) → All Known (if t then map (forms.relocated b k) (live_list func table b k) else [])
  all_relocates true b k = mapped_known (forms.relocated b k) (λ v. tt) (live_list func table b k)
  all_relocates false b k = All-nil Known

  line_known : (b k : ℕ) → All Known (line_names func table b k)
  line_known b k =
      All-append Known (if calls (line_at func b k) then forms.token b k ∷ [] else []) _ (all_tokens (calls (line_at func b k)) b k)
      (All-append Known (option_map_or (λ (x : ℕ). own x ∷ []) (line_at func b k).to []) (if calls (line_at func b k) then map (forms.relocated b k) (live_list func table b k) else []) (own_of_line b k)
      (all_relocates (calls (line_at func b k)) b k))

  block_known : (b : ℕ) → All Known (block_names func table naming b)
  block_known b =
      All-append Known (map (forms.joined b) (joined_at func naming b)) (flat_map (line_names func table b) (range_with_len 0 (length (lines_at func b))))
      (mapped_known (forms.joined b) (λ v. tt) (joined_at func naming b))
      (flat_all Known (line_names func table b) (range_with_len 0 (length (lines_at func b)))
      (all_from_at (λ k. All Known (line_names func table b k)) (range_with_len 0 (length (lines_at func b))) (λ place k at. line_known b k)))

  arguments_known : All Known (map own (range_with_len 0 (length func.args)))
  arguments_known = all_from_at Known (map own (range_with_len 0 (length func.args))) (λ place name at.
      let before = map_back own (range_with_len 0 (length func.args)) place name at in
      let is_place = range_back 0 (length func.args) place before.before before.stands in
      let within = slice_get_within (range_with_len 0 (length func.args)) place before.before before.stands in
      let long = length-range_with_len 0 (length func.args) in
      let args = length-map func.args argument in
      let all = length-append (map argument func.args) (map outcome (filter has_result (instructions_of func.blocks))) in
      subst Known (sym before.is) (omega (arith, is_place, within, long, args, all)))

  -- an own name is that of a value there was
  pub all_known : All Known names
  all_known =
      All-append Known (map own (range_with_len 0 (length func.args))) (flat_map (block_names func table naming) (range_with_len 0 (length func.blocks))) arguments_known
      (flat_all Known (block_names func table naming) (range_with_len 0 (length func.blocks))
      (all_from_at (λ b. All Known (block_names func table naming b)) (range_with_len 0 (length func.blocks)) (λ place b at. block_known b)))

-- ---- places among the names of a kind

apart_rest : (x : Name) (names : List Name) → Apart (x ∷ names) → Apart names
apart_rest x names apart i j one other below one_at other_at = apart (suc i) (suc j) one other (omega arith) one_at other_at

-- the place of a name among those of its kind is how many stand before it
filtered_place : (test : Name → Bool) (names : List Name) (i : ℕ) (name : Name) → Apart names → slice_get names i ≡ Some name → test name ≡ true
    → place_in (filter test names) name ≡ length (filter test (take i names))
filtered_place test [] i name apart at passes = absurd cc
filtered_place test (x ∷ names) zero name apart at passes =
    let same : x ≡ name = cc in
    ap (λ t. place_in (if t then x ∷ filter test names else filter test names) name) (ap test same ∙ passes)
    ∙ ap (λ t. if t then 0 else suc (place_in (filter test names) name)) (ap (λ n. same_name n name) same ∙ same_itself name)
filtered_place test (x ∷ names) (suc i) name apart at passes = by (test x) (filtered_place test names i name (apart_rest x names apart) at passes)
  where
    by : (t : Bool) → place_in (filter test names) name ≡ length (filter test (take i names))
        → place_in (if t then x ∷ filter test names else filter test names) name ≡ length (if t then x ∷ filter test (take i names) else filter test (take i names))
    by true rest = ap (λ t. if t then 0 else suc (place_in (filter test names) name)) (apart 0 (suc i) x name (omega arith) refl at) ∙ ap suc rest
    by false rest = rest

more_before : (test : Name → Bool) (names : List Name) (i j : ℕ) (name : Name) → i < j → slice_get names i ≡ Some name → test name ≡ true
    → length (filter test (take i names)) < length (filter test (take j names))
more_before test names i zero name less at passes = absurd (omega arith)
more_before test [] i (suc j) name less at passes = absurd cc
more_before test (x ∷ names) zero (suc j) name less at passes =
    let same : x ≡ name = cc in
    subst (λ (t : Bool). 0 < length (if t then x ∷ filter test (take j names) else filter test (take j names))) (sym (ap test same ∙ passes)) (omega arith)
more_before test (x ∷ names) (suc i) (suc j) name less at passes = by (test x) (more_before test names i j name (omega arith) at passes)
  where
    by : (t : Bool) → length (filter test (take i names)) < length (filter test (take j names))
        → length (if t then x ∷ filter test (take i names) else filter test (take i names)) < length (if t then x ∷ filter test (take j names) else filter test (take j names))
    by true rest = omega arith
    by false rest = rest

before_few : (test : Name → Bool) (names : List Name) (i : ℕ) → length (filter test (take i names)) ≤ length names
before_few test names zero = omega arith
before_few test [] (suc i) = omega arith
before_few test (x ∷ names) (suc i) = by (test x) (before_few test names i)
  where
    by : (t : Bool) → length (filter test (take i names)) ≤ length names → length (if t then x ∷ filter test (take i names) else filter test (take i names)) ≤ suc (length names)
    by true rest = omega arith
    by false rest = omega arith

-- two names of a kind have different places
places_differ : (test : Name → Bool) (names : List Name) (i j : ℕ) (one other : Name) → Apart names → length names < 2 ^ 64 → i < j → slice_get names i ≡ Some one → slice_get names j ≡ Some other
    → test one ≡ true → test other ≡ true → decimal (place_in (filter test names) one) ≡ decimal (place_in (filter test names) other) → ⊥
places_differ test names i j one other apart few less one_at other_at first second same =
    let here = filtered_place test names i one apart one_at first in
    let there = filtered_place test names j other apart other_at second in
    let more = more_before test names i j one less one_at first in
    let one_few = before_few test names i in
    let other_few = before_few test names j in
    let equal = decimal_injective (place_in (filter test names) one) (place_in (filter test names) other) (omega (arith, here, one_few, few)) (omega (arith, there, other_few, few)) same in
    omega (arith, here, there, more, equal)

pub digits_named : (ds : List ℕ) → AllDigits 10 ds → list_all in_name ds ≡ true
digits_named [] all = refl
digits_named (d ∷ ds) all =
    let parts = tells_digits.parts d ds all in
    ap (λ t. t && list_all in_name ds) (digit_named d (parts.0).0 (parts.0).1) ∙ digits_named ds parts.1
  where
    digit_named : (d : ℕ) → 48 ≤ d → d ≤ 57 → in_name d ≡ true
    digit_named d low high = or_right _ (leb 48 d && leb d 57) (ap (λ t. t && leb d 57) (le-leb 48 d low) ∙ le-leb d 57 high)

-- ---- spelled names

pub record HasFreeNames (func : Function) (table : List Operand) (naming : Naming) : Type 0 where
  pub names : All (λ given. IsName (definition_name given)) (definitions_of func)
  pub apart : Distinct (map definition_name (definitions_of func))
  pub free : All (λ given. IsGroupName (definition_name given) → ⊥) (definitions_of func)
  pub few : length (names_of func table naming) < 2 ^ 64

pub letters_differ : (letter other : ℕ) → letter ≡ other → eqb letter other ≡ false → ⊥
letters_differ letter other same apart = true≢false (sym (eq-eqb letter other same) ∙ apart)

module _ (func : Function) (table : List Operand) (naming : Naming) (free : HasFreeNames func table naming) where
  given_at : (v : ℕ) → v < length (definitions_of func) → (given : Definition) × (slice_get (definitions_of func) v ≡ Some given) × (old_name func v ≡ definition_name given)
  given_at v below =
      let some = get_some (definitions_of func) v below in
      (some.0, some.1, ap (λ (found : Option Definition). option_map_or definition_name found []) some.1)

  numbered_named : (n : ℕ) → n < 2 ^ 64 → list_all in_name (decimal n) ≡ true
  numbered_named n few = digits_named (decimal n) ((decimal_is_IsNumeral n few).0).1

  place_few : (test : Name → Bool) (i : ℕ) (name : Name) → slice_get (names_of func table naming) i ≡ Some name → test name ≡ true → place_in (filter test (names_of func table naming)) name < 2 ^ 64
  place_few test i name at passes =
      let here = filtered_place test (names_of func table naming) i name (names_apart func table naming) at passes in
      let few = before_few test (names_of func table naming) i in
      let all = free.few in
      omega (arith, here, few, all)

  is_name_at : (i : ℕ) (name : Name) → slice_get (names_of func table naming) i ≡ Some name → IsName (text func table naming name)
  is_name_at i (own v) at =
      let below = all_at (Known func table naming) (names_of func table naming) i (own v) (all_known func table naming) at in
      let given = given_at v below in
      subst IsName (sym given.2) (all_at (λ (each : Definition). IsName (definition_name each)) (definitions_of func) v given.0 free.names given.1)
  is_name_at i (forms.token b k) at = or_left _ _ (numbered_named _ (place_few is_token i (forms.token b k) at refl))
  is_name_at i (forms.relocated b k v) at = or_left _ _ (numbered_named _ (place_few is_relocated i (forms.relocated b k v) at refl))
  is_name_at i (forms.joined b v) at = or_left _ _ (numbered_named _ (place_few is_joined i (forms.joined b v) at refl))

  pub names_now : All (λ given. IsName (definition_name given)) (definitions_of (now func table naming))
  names_now = all_from_at (λ (given : Definition). IsName (definition_name given)) (definitions_of (now func table naming)) (λ i given at.
      let there = get_map definition_name (definitions_of (now func table naming)) i given at in
      let back = map_back (text func table naming) (names_of func table naming) i (definition_name given) (ap (λ (all : List (List ℕ)). slice_get all i) (sym (names_are func table naming)) ∙ there) in
      subst IsName (sym back.is) (is_name_at i back.before back.stands))

  -- ---- no two alike

  own_free : (i v : ℕ) → slice_get (names_of func table naming) i ≡ Some (own v) → IsGroupName (old_name func v) → ⊥
  own_free i v at group =
      let given = given_at v (all_at (Known func table naming) (names_of func table naming) i (own v) (all_known func table naming) at) in
      all_at (λ (each : Definition). IsGroupName (definition_name each) → ⊥) (definitions_of func) v given.0 free.free given.1 (subst IsGroupName given.2 group)

  owns_apart : (i j v w : ℕ) → slice_get (names_of func table naming) i ≡ Some (own v) → slice_get (names_of func table naming) j ≡ Some (own w) → eqb v w ≡ false → old_name func v ≡ old_name func w → ⊥
  owns_apart i j v w one other apart same =
      let first = given_at v (all_at (Known func table naming) (names_of func table naming) i (own v) (all_known func table naming) one) in
      let second = given_at w (all_at (Known func table naming) (names_of func table naming) j (own w) (all_known func table naming) other) in
      let first_name = get_map definition_name (definitions_of func) v first.0 first.1 in
      let second_name = get_map definition_name (definitions_of func) w second.0 second.1 in
      let names_same : definition_name first.0 ≡ definition_name second.0 = sym first.2 ∙ (same ∙ second.2) in
      let long = length-map (definitions_of func) definition_name in
      let first_in = slice_get_within (definitions_of func) v first.0 first.1 in
      let second_in = slice_get_within (definitions_of func) w second.0 second.1 in
      elim (cases_lt v w) [
        | inl less ↦ free.apart v w less (omega arith) (first_name ∙ (ap (λ name. Some name) names_same ∙ sym second_name))
        | inr le ↦ elim (cases_lt w v) [
          | inl more ↦ free.apart w v more (omega arith) (second_name ∙ (ap (λ name. Some name) (sym names_same) ∙ sym first_name))
          | inr both ↦ true≢false (sym (eq-eqb v w (omega arith)) ∙ apart)
        ]
      ]

  abbrev letter : List ℕ → ℕ
  letter name = get_or name 3 0

  spelled_apart : (i j : ℕ) (one other : Name) → i < j → slice_get (names_of func table naming) i ≡ Some one → slice_get (names_of func table naming) j ≡ Some other
      → text func table naming one ≡ text func table naming other → ⊥
  spelled_apart i j (own v) (own w) less one_at other_at same = owns_apart i j v w one_at other_at (names_apart func table naming i j (own v) (own w) less one_at other_at) same
  spelled_apart i j (own v) (forms.token c l) less one_at other_at same = own_free i v one_at (inl (_, same))
  spelled_apart i j (own v) (forms.relocated c l w) less one_at other_at same = own_free i v one_at (inr (inl (_, same)))
  spelled_apart i j (own v) (forms.joined c w) less one_at other_at same = own_free i v one_at (inr (inr (_, same)))
  spelled_apart i j (forms.token b k) (own w) less one_at other_at same = own_free j w other_at (inl (_, sym same))
  spelled_apart i j (forms.relocated b k v) (own w) less one_at other_at same = own_free j w other_at (inr (inl (_, sym same)))
  spelled_apart i j (forms.joined b v) (own w) less one_at other_at same = own_free j w other_at (inr (inr (_, sym same)))
  spelled_apart i j (forms.token b k) (forms.token c l) less one_at other_at same =
      places_differ is_token (names_of func table naming) i j (forms.token b k) (forms.token c l) (names_apart func table naming) free.few less one_at other_at refl refl (ap (drop 4) same)
  spelled_apart i j (forms.relocated b k v) (forms.relocated c l w) less one_at other_at same =
      places_differ is_relocated (names_of func table naming) i j (forms.relocated b k v) (forms.relocated c l w) (names_apart func table naming) free.few less one_at other_at refl refl (ap (drop 4) same)
  spelled_apart i j (forms.joined b v) (forms.joined c w) less one_at other_at same =
      places_differ is_joined (names_of func table naming) i j (forms.joined b v) (forms.joined c w) (names_apart func table naming) free.few less one_at other_at refl refl (ap (drop 4) same)
  spelled_apart i j (forms.token b k) (forms.relocated c l w) less one_at other_at same = letters_differ 116 114 (ap letter same) refl
  spelled_apart i j (forms.token b k) (forms.joined c w) less one_at other_at same = letters_differ 116 109 (ap letter same) refl
  spelled_apart i j (forms.relocated b k v) (forms.token c l) less one_at other_at same = letters_differ 114 116 (ap letter same) refl
  spelled_apart i j (forms.relocated b k v) (forms.joined c w) less one_at other_at same = letters_differ 114 109 (ap letter same) refl
  spelled_apart i j (forms.joined b v) (forms.token c l) less one_at other_at same = letters_differ 109 116 (ap letter same) refl
  spelled_apart i j (forms.joined b v) (forms.relocated c l w) less one_at other_at same = letters_differ 109 114 (ap letter same) refl

  pub names_distinct : Distinct (map definition_name (definitions_of (now func table naming)))
  names_distinct = subst Distinct (sym (names_are func table naming)) (λ i j less below same.
      let long = length-map (names_of func table naming) (text func table naming) in
      let one = get_some (names_of func table naming) i (omega arith) in
      let other = get_some (names_of func table naming) j (omega arith) in
      let here = get_map (text func table naming) (names_of func table naming) i one.0 one.1 in
      let there = get_map (text func table naming) (names_of func table naming) j other.0 other.1 in
      let both : Some (text func table naming one.0) ≡ Some (text func table naming other.0) = sym here ∙ (same ∙ there) in
      let texts : text func table naming one.0 ≡ text func table naming other.0 = cc in
      spelled_apart i j one.0 other.0 less one.1 other.1 texts)
