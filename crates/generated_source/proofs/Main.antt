-- `@main` has what a source module asks of it.
use Rattle.std.proofs.Common.{◌≡◌, ◌≢◌, ◌∙◌, ℕ, zero, suc, ◌+◌, ◌<◌, ◌≤◌, ◌^◌, Bool, true, false, not, ◌&&◌, if◌then◌else◌, List, [], ◌∷◌, ◌++◌, length, map, filter, Some, None, refl, sym, ap, subst, inl, inr, codes, arith, add-one}
use Rattle.std.specs.Prelude.{slice_get, is_some, nat_lt, take}
use Rattle.std.specs.List.{All, list_all, flat_map, range_with_len}
use Rattle.std.proofs.lemmas.Bool.{false≢true, cases_Bool, ltb-true, lt-ltb, not-true, and_parts}
use Rattle.std.proofs.lemmas.List.{append-nil}
use Rattle.std.proofs.lemmas.List.Elements.{All-nil, All-cons, All-append, All-from_recursion}
use Rattle.list_laws.proofs.Contents.{get_contained, all_at}
use Rattle.list_laws.proofs.Places.{get_map}
use Rattle.ir_cfg.proofs.KeepsForms.{flat_all}
use Rattle.ir_ast.specs.declared.types.Ty.{Ty}
use Rattle.ir_ast.specs.declared.types.Ty.TheVariants.{Int as Integer, Ptr}
use Rattle.ir_ast.specs.declared.ops.Operand.TheVariants.{Int}
use Rattle.ir_ast.specs.Insts.{Instruction}
use Rattle.ir_ast.specs.Blocks.{BasicBlock, EndsAtTerminator}
use Rattle.ir_ast.specs.Funcs.{Function, instructions_of}
use Rattle.ir_ast.specs.Values.{Definition, outcome, definitions_of, definition_name, definition_type}
use Rattle.ir_ast.specs.Operands.{values_used}
use Rattle.ir_ast.specs.Widths.{IsWidth}
use Rattle.ir_ast.specs.Lists.{Distinct}
use Rattle.ir_ast.specs.Types.{is_first_class}
use Rattle.ir_ast.specs.Faults.Reserved.{IsInsertedName}
use Rattle.ir_ast.specs.Faults.PhiEdges.{is_phi, PhisAreRight}
use Rattle.ir_cfg.specs.Limits.{IsName}
use Rattle.ir_cfg.specs.DefiniteUses.{Stands, by_line, by_entry, IsDefinite, UsesAreDefinite, text_place}
use Rattle.ir_cfg.proofs.NameLaws.{differ, first_byte, not_inserted, free_main, distinct_nil, distinct_cons, absent, all_distinct, names_distinct}
use Rattle.ir_ast.specs.Faults.GroupShape.{number_at}
use Rattle.generated_forms.specs.Lines.{numbered_name, new_line, call_line, return_line}
use Rattle.generated_forms.specs.Modules.{visit, visits, main_of}
use Rattle.generated_forms.proofs.Visits.{main_ends, main_length}
use Rattle.generated_source.proofs.Lines.{IsFine, Calls, Has, Stays, fine_new, fine_call_literal, fine_print, fine_return_literal}
use Rattle.generated_source.proofs.Uses.{GivenBefore, before_definite}
use Rattle.generated_source.proofs.Names.{numbered_spelled, numbered_apart}
use Rattle.generated_source.proofs.Phis.{phis_first, rest_plain, plain, head_of, none_right}
use Rattle.generated_source.proofs.Functions.{IsSound, is_plain_value, plain_definition, plain_stays}
use Rattle.list_laws.proofs.Ranges.{range_get}
use Rattle.list_laws.proofs.Tests.{all_passes}

-- ---- what holds of each number of a range

pub range_all : (P : ℕ → Type 0) (start count : ℕ) → ((place : ℕ) → start ≤ place → place < start + count → P place) → All P (range_with_len start count)
range_all P start zero each = All-nil P
range_all P start (suc count) each =
    All-cons P start (range_with_len (start + 1) count) (each start (omega arith) (omega arith))
    (range_all P (start + 1) count (λ place low high. each place (omega arith) (omega arith)))

pub map_range_all : {A : Type 0} (P : A → Type 0) (f : ℕ → A) (start count : ℕ) → ((place : ℕ) → start ≤ place → place < start + count → P (f place))
    → All P (map f (range_with_len start count))
map_range_all P f start zero each = All-nil P
map_range_all P f start (suc count) each =
    All-cons P (f start) (map f (range_with_len (start + 1) count)) (each start (omega arith) (omega arith))
    (map_range_all P f (start + 1) count (λ place low high. each place (omega arith) (omega arith)))

-- ---- names that differ

pub distinct_all : {A : Type 0} (x : A) (xs : List A) → All (λ y. y ≢ x) xs → Distinct xs → Distinct (x ∷ xs)
distinct_all x xs none rest = distinct_cons x xs (λ k at. all_at (λ y. y ≢ x) xs k x none at refl) rest

-- names of a letter and the numbers behind places, and names behind them
pub distinct_numbered : (letter : ℕ) (start count : ℕ) (more : List (List ℕ)) → start + count < 2 ^ 62
    → All (λ name. first_byte name ≢ letter) more → Distinct more
    → Distinct (map (λ place. numbered_name (letter ∷ []) (place + 1)) (range_with_len start count) ++ more)
unfolding first_byte
distinct_numbered letter start zero more few other rest = rest
distinct_numbered letter start (suc count) more few other rest =
    distinct_all (numbered_name (letter ∷ []) (start + 1)) (map (λ place. numbered_name (letter ∷ []) (place + 1)) (range_with_len (start + 1) count) ++ more)
    (All-append (λ y. y ≢ numbered_name (letter ∷ []) (start + 1)) (map (λ place. numbered_name (letter ∷ []) (place + 1)) (range_with_len (start + 1) count)) more
    (map_range_all (λ y. y ≢ numbered_name (letter ∷ []) (start + 1)) (λ place. numbered_name (letter ∷ []) (place + 1)) (start + 1) count
    (λ place low high. numbered_apart letter (place + 1) (start + 1) (omega arith) (omega arith) (omega arith)))
    (λ k d less same. other k d less (ap first_byte same)))
    (distinct_numbered letter (start + 1) count more (omega arith) other rest)

-- ---- functions of one block without arguments

-- how many results these lines have
abbrev results : List Instruction → ℕ
results insts = length (filter (λ inst. is_some inst.result) insts)

counted_named : (inst : Instruction) (insts : List Instruction) (at : ℕ) → is_some inst.result ≡ true
    → results (take (suc at) (inst ∷ insts)) ≡ suc (results (take at insts))
counted_named inst insts at named = rw named refl

counted_unnamed : (inst : Instruction) (insts : List Instruction) (at : ℕ) → is_some inst.result ≡ false
    → results (take (suc at) (inst ∷ insts)) ≡ results (take at insts)
counted_unnamed inst insts at unnamed = rw unnamed refl

-- each line uses values that lines before it give
unfoldable pub straight : ℕ → List Instruction → Bool
straight next [] = true
straight next (inst ∷ insts) =
    (not (is_phi inst.op) && list_all (λ value. nat_lt value next) (values_used inst)) && straight (if is_some inst.result then next + 1 else next) insts

pub record GivenAt (insts : List Instruction) (value before : ℕ) : Type 0 where
  pub at : ℕ
  pub inst : Instruction
  pub less : at < before
  pub stands : slice_get insts at ≡ Some inst
  pub named : is_some inst.result ≡ true
  pub count : length (filter (λ inst. is_some inst.result) (take at insts)) ≡ value

given_at : (insts : List Instruction) (value before : ℕ) → value < length (filter (λ inst. is_some inst.result) (take before insts)) → GivenAt insts value before
given_at [] value zero less = absurd (omega arith)
given_at [] value (suc before) less = absurd (omega arith)
given_at (inst ∷ insts) value zero less = absurd (omega arith)
given_at (inst ∷ insts) zero (suc before) less = elim (cases_Bool (is_some inst.result)) [
  | inl named ↦ record { at = 0; inst = inst; less = omega arith; stands = refl; named = named; count = refl }
  | inr unnamed ↦
      let rest = given_at insts zero before (subst (λ (n : ℕ). zero < n) (counted_unnamed inst insts before unnamed) less) in
      record { at = suc rest.at; inst = rest.inst; less = omega (arith, rest.less); stands = rest.stands; named = rest.named; count = counted_unnamed inst insts rest.at unnamed ∙ rest.count }
]
given_at (inst ∷ insts) (suc value) (suc before) less = elim (cases_Bool (is_some inst.result)) [
  | inl named ↦
      let shorter : suc value < suc (results (take before insts)) = subst (λ (n : ℕ). suc value < n) (counted_named inst insts before named) less in
      let rest = given_at insts value before (omega (arith, shorter)) in
      record { at = suc rest.at; inst = rest.inst; less = omega (arith, rest.less); stands = rest.stands; named = rest.named; count = counted_named inst insts rest.at named ∙ ap suc rest.count }
  | inr unnamed ↦
      let rest = given_at insts (suc value) before (subst (λ (n : ℕ). suc value < n) (counted_unnamed inst insts before unnamed) less) in
      record { at = suc rest.at; inst = rest.inst; less = omega (arith, rest.less); stands = rest.stands; named = rest.named; count = counted_unnamed inst insts rest.at unnamed ∙ rest.count }
]

pub record StandsStraight (insts : List Instruction) (next place : ℕ) (inst : Instruction) : Type 0 where
  pub plain : is_phi inst.op ≡ false
  pub uses : list_all (λ value. nat_lt value (next + length (filter (λ inst. is_some inst.result) (take place insts)))) (values_used inst) ≡ true

straight_at : (next : ℕ) (insts : List Instruction) (place : ℕ) (inst : Instruction) → straight next insts ≡ true → slice_get insts place ≡ Some inst → StandsStraight insts next place inst
unfolding straight
straight_at next [] place inst all at = absurd (let e : None ≡ Some inst = at in cc)
straight_at next (first ∷ insts) zero inst all at =
    let same : first ≡ inst = (let e : Some first ≡ Some inst = at in cc) in
    let parts = and_parts (not (is_phi first.op)) (list_all (λ value. nat_lt value next) (values_used first)) (and_parts (not (is_phi first.op) && list_all (λ value. nat_lt value next) (values_used first)) (straight (if is_some first.result then next + 1 else next) insts) all).0 in
    record {
      plain = subst (λ (i : Instruction). is_phi i.op ≡ false) same (not-true (is_phi first.op) parts.0);
      uses = subst (λ (i : Instruction). list_all (λ value. nat_lt value (next + 0)) (values_used i) ≡ true) same
          (subst (λ (n : ℕ). list_all (λ value. nat_lt value n) (values_used first) ≡ true) (omega arith) parts.1);
    }
straight_at next (first ∷ insts) (suc place) inst all at =
    let rest = straight_at (if is_some first.result then next + 1 else next) insts place inst
    (and_parts (not (is_phi first.op) && list_all (λ value. nat_lt value next) (values_used first)) (straight (if is_some first.result then next + 1 else next) insts) all).1 at in
    record {
      plain = rest.plain;
      uses = subst (λ (n : ℕ). list_all (λ value. nat_lt value n) (values_used inst) ≡ true) (shifted next first insts place) rest.uses;
    }
  where
    shifted : (next : ℕ) (first : Instruction) (insts : List Instruction) (place : ℕ)
        → (if is_some first.result then next + 1 else next) + length (filter (λ inst. is_some inst.result) (take place insts))
        ≡ next + length (filter (λ inst. is_some inst.result) (take (suc place) (first ∷ insts)))
    shifted next first insts place = elim (cases_Bool (is_some first.result)) [
      | inl named ↦ rw named (omega arith)
      | inr unnamed ↦ rw unnamed refl
    ]

-- ---- uses of a block that stands alone

one_block : (one block : BasicBlock) (number : ℕ) → slice_get (one ∷ []) number ≡ Some block → (number ≡ 0) × (one ≡ block)
one_block one block zero at = (refl, let e : Some one ≡ Some block = at in cc)
one_block one block (suc number) at = absurd (let e : None ≡ Some block = at in cc)

module _ (name label : List ℕ) (ty : Ty) (insts : List Instruction) where
  abbrev alone : Function
  alone = record { name = name; answer = ty; args = []; blocks = record { name = label; insts = insts } ∷ [] }

  whole : instructions_of alone.blocks ≡ insts
  whole = append-nil insts

  stands_in : (number place : ℕ) (inst : Instruction) → Stands alone number place inst → (number ≡ 0) × (slice_get insts place ≡ Some inst)
  stands_in number place inst stands =
      let at = one_block (record { name = label; insts = insts }) stands.block number stands.in_function in
      (at.0, subst (λ (b : BasicBlock). slice_get b.insts place ≡ Some inst) (sym at.1) stands.in_block)

  number_alone : (place : ℕ) → number_at alone (text_place alone 0 place) ≡ results (take place insts)
  number_alone place =
      subst (λ (n : ℕ). 0 + results (take n (instructions_of alone.blocks)) ≡ results (take place insts)) (let e : place ≡ 0 + place = omega arith in e)
      (subst (λ (all : List Instruction). 0 + results (take place all) ≡ results (take place insts)) (sym whole) (omega arith))

  defined : (value place : ℕ) → value < results (take place insts) → GivenBefore alone value 0 place
  defined value place less =
      let given = given_at insts value place less in
      record {
        at = given.at;
        before = given.less;
        defines = record {
          inst = given.inst;
          stands = record { block = record { name = label; insts = insts }; in_function = refl; in_block = given.stands };
          named = given.named;
          numbered = number_alone given.at ∙ given.count;
        };
      }

  pub alone_definite : straight 0 insts ≡ true → UsesAreDefinite alone
  alone_definite all _ _ _ _ (by_line number place value inst stands plain uses) =
      let at = stands_in number place inst stands in
      let line = straight_at 0 insts place inst all at.1 in
      let used = get_contained (values_used inst) value uses in
      let less : nat_lt value (0 + results (take place insts)) ≡ true = all_passes (λ v. nat_lt v (0 + results (take place insts))) (values_used inst) used.0 value line.uses used.1 in
      subst (λ (n : ℕ). IsDefinite alone value n place) (sym at.0)
      (before_definite alone value 0 place (defined value place (omega (arith, ltb-true value (0 + results (take place insts)) less))))
  alone_definite all _ _ _ _ (by_entry number place entry value phi operand label from stands is at_label at_operand names at_block) =
      let at = stands_in number place phi stands in
      absurd (false≢true (sym (straight_at 0 insts place phi all at.1).plain ∙ is))

-- ---- the lines of `@main`

called_line : ℕ → Instruction
called_line place = call_line (numbered_name (codes "v") (place + 1)) place 0 (Int (place + 1))

abbrev main_lines : ℕ → List Instruction
main_lines size = visits size ++ return_line (Int 0) ∷ []

flat_results : (places : List ℕ) (rest : List Instruction)
    → map outcome (filter (λ inst. is_some inst.result) (flat_map visit places ++ rest))
    ≡ map (λ place. outcome (called_line place)) places ++ map outcome (filter (λ inst. is_some inst.result) rest)
unfolding called_line
flat_results [] rest = refl
flat_results (place ∷ places) rest = ap (λ (given : List Definition). outcome (called_line place) ∷ given) (flat_results places rest)

main_definitions : (size : ℕ) → definitions_of (main_of size) ≡ outcome (new_line (codes "o") 1) ∷ map (λ place. outcome (called_line place)) (range_with_len 0 size)
unfolding main_of
main_definitions size =
    ap (λ (all : List Instruction). map outcome (filter (λ (inst : Instruction). is_some inst.result) all)) (append-nil (main_lines size))
    ∙ ap (λ (given : List Definition). outcome (new_line (codes "o") 1) ∷ given)
    (flat_results (range_with_len 0 size) (return_line (Int 0) ∷ []) ∙ append-nil (map (λ (place : ℕ). outcome (called_line place)) (range_with_len 0 size)))

given_object : (size : ℕ) → slice_get (definitions_of (main_of size)) 0 ≡ Some (outcome (new_line (codes "o") 1))
given_object size = rw (main_definitions size) refl

given_call : (size place : ℕ) → place < size → slice_get (definitions_of (main_of size)) (place + 1) ≡ Some (outcome (called_line place))
given_call size place less =
    let found : slice_get (range_with_len 0 size) place ≡ Some place = range_get 0 size place less ∙ ap (λ (n : ℕ). Some n) (omega arith) in
    ap (λ (all : List Definition). slice_get all (place + 1)) (main_definitions size)
    ∙ ap (slice_get (outcome (new_line (codes "o") 1) ∷ map (λ (place : ℕ). outcome (called_line place)) (range_with_len 0 size))) (add-one place)
    ∙ get_map (λ (place : ℕ). outcome (called_line place)) (range_with_len 0 size) place place found

has_object : (size : ℕ) → Has (main_of size) 0 Ptr
has_object size = get_map definition_type (definitions_of (main_of size)) 0 (outcome (new_line (codes "o") 1)) (given_object size)

has_call : (size place : ℕ) → place < size → Has (main_of size) (place + 1) (Integer 64)
unfolding called_line
has_call size place less = get_map definition_type (definitions_of (main_of size)) (place + 1) (outcome (called_line place)) (given_call size place less)

object_stays : (size : ℕ) → Stays (main_of size) 0
unfolding is_plain_value plain_definition
object_stays size = plain_stays (main_of size) 0 (rw (given_object size) refl)

call_stays : (size place : ℕ) → place < size → Stays (main_of size) (place + 1)
unfolding is_plain_value plain_definition called_line
call_stays size place less = plain_stays (main_of size) (place + 1) (rw (given_call size place less) refl)

module _ (funcs : List Function) (size : ℕ) (few : size ≤ 1000) (calls : (place : ℕ) → place < size → Calls funcs place) where
  answers : (main_of size).answer ≡ Integer 64
  unfolding main_of
  answers = refl

  visit_fine : (place : ℕ) → 0 ≤ place → place < 0 + size → All (IsFine funcs (main_of size)) (visit place)
  visit_fine place low high =
      All-from_recursion (IsFine funcs (main_of size)) (visit place) (
        fine_call_literal funcs (main_of size) (numbered_name (codes "v") (place + 1)) place 0 (place + 1) (calls place (omega arith)) (has_object size) (object_stays size) (omega arith),
        (fine_print funcs (main_of size) (place + 1) (has_call size place (omega arith)) (call_stays size place (omega arith)), tt),
      )

  lines_fine : All (IsFine funcs (main_of size)) (main_lines size)
  lines_fine =
      All-cons (IsFine funcs (main_of size)) (new_line (codes "o") 1) (flat_map visit (range_with_len 0 size) ++ return_line (Int 0) ∷ [])
      (fine_new funcs (main_of size) (codes "o") 1 (omega arith))
      (All-append (IsFine funcs (main_of size)) (flat_map visit (range_with_len 0 size)) (return_line (Int 0) ∷ [])
      (flat_all (IsFine funcs (main_of size)) visit (range_with_len 0 size) (range_all (λ place. All (IsFine funcs (main_of size)) (visit place)) 0 size visit_fine))
      (All-from_recursion (IsFine funcs (main_of size)) (return_line (Int 0) ∷ []) (fine_return_literal funcs (main_of size) 0 answers (omega arith), tt)))

plain_visits : (places : List ℕ) → list_all plain (flat_map visit places ++ return_line (Int 0) ∷ []) ≡ true
unfolding plain
plain_visits [] = refl
plain_visits (place ∷ places) = plain_visits places

main_phis : (size : ℕ) → PhisAreRight (main_of size)
unfolding main_of phis_first rest_plain plain head_of
main_phis size = none_right (main_of size) (rw (plain_visits (range_with_len 0 size)) refl) refl

straight_visits : (start count : ℕ) → straight (start + 1) (flat_map visit (range_with_len start count) ++ return_line (Int 0) ∷ []) ≡ true
unfolding straight
straight_visits start zero = refl
straight_visits start (suc count) =
    rw (lt-ltb 0 (start + 1) (omega arith), lt-ltb (start + 1) (start + 1 + 1) (omega arith)) (straight_visits (start + 1) count)

straight_main : (size : ℕ) → straight 0 (main_lines size) ≡ true
unfolding straight
straight_main size = straight_visits 0 size

main_definite : (size : ℕ) → UsesAreDefinite (main_of size)
unfolding main_of
main_definite size = alone_definite (codes "main") (codes "entry") (Integer 64) (main_lines size) (straight_main size)

-- what holds of the definitions of `@main`
definitions_all : (size : ℕ) (P : Definition → Type 0) → P (outcome (new_line (codes "o") 1)) → ((place : ℕ) → place < size → P (outcome (called_line place)))
    → All P (definitions_of (main_of size))
definitions_all size P object each =
    subst (All P) (sym (main_definitions size))
    (All-cons P (outcome (new_line (codes "o") 1)) (map (λ (place : ℕ). outcome (called_line place)) (range_with_len 0 size)) object
    (map_range_all P (λ place. outcome (called_line place)) 0 size (λ place low high. each place (omega arith))))

names_of_calls : (places : List ℕ) → map definition_name (map (λ place. outcome (called_line place)) places) ≡ map (λ place. numbered_name (codes "v") (place + 1)) places
unfolding called_line
names_of_calls [] = refl
names_of_calls (place ∷ places) = ap (λ (names : List (List ℕ)). numbered_name (codes "v") (place + 1) ∷ names) (names_of_calls places)

main_values : (size : ℕ) → size ≤ 1000 → Distinct (map definition_name (definitions_of (main_of size)))
unfolding first_byte
main_values size few =
    let names : map definition_name (definitions_of (main_of size)) ≡ codes "o" ∷ (map (λ place. numbered_name (codes "v") (place + 1)) (range_with_len 0 size) ++ []) =
    ap (map definition_name) (main_definitions size)
    ∙ ap (λ (rest : List (List ℕ)). codes "o" ∷ rest) (names_of_calls (range_with_len 0 size) ∙ sym (append-nil (map (λ (place : ℕ). numbered_name (codes "v") (place + 1)) (range_with_len 0 size)))) in
    subst Distinct (sym names)
    (distinct_all (codes "o") (map (λ place. numbered_name (codes "v") (place + 1)) (range_with_len 0 size) ++ [])
    (All-append (λ y. y ≢ codes "o") (map (λ place. numbered_name (codes "v") (place + 1)) (range_with_len 0 size)) []
    (map_range_all (λ y. y ≢ codes "o") (λ place. numbered_name (codes "v") (place + 1)) 0 size (λ place low high same. differ 118 111 refl (ap first_byte same)))
    (All-nil (λ y. y ≢ codes "o")))
    (distinct_numbered 118 0 size [] (omega arith) (All-nil (λ name. first_byte name ≢ 118)) distinct_nil))

module _ (funcs : List Function) (size : ℕ) (few : size ≤ 1000) (calls : (place : ℕ) → place < size → Calls funcs place) where
  spelled_call : (place : ℕ) → place < size → IsName (definition_name (outcome (called_line place)))
  unfolding called_line
  spelled_call place less = numbered_spelled 118 (place + 1) refl (omega arith)

  free_call : (place : ℕ) → place < size → ¬ IsInsertedName (definition_name (outcome (called_line place)))
  unfolding called_line
  free_call place less = not_inserted 118 _ (differ 118 115 refl)

  pub main_sound : IsSound funcs (main_of size)
  unfolding main_of all_distinct absent
  main_sound = record {
    lines = subst (All (IsFine funcs (main_of size))) (sym (append-nil (main_lines size))) (lines_fine funcs size few calls);
    phis = main_phis size;
    definite = main_definite size;
    has_block = omega arith;
    ends = All-from_recursion (λ (b : BasicBlock). EndsAtTerminator b.insts) (main_of size).blocks (main_ends size, tt);
    names = record {
      own = refl;
      values = definitions_all size (λ given. IsName (definition_name given)) refl spelled_call;
      labels = All-from_recursion (λ (b : BasicBlock). IsName b.name) (main_of size).blocks (refl, tt);
    };
    free = free_main;
    free_values = definitions_all size (λ given. ¬ IsInsertedName (definition_name given)) (not_inserted 111 [] (differ 111 115 refl)) free_call;
    free_labels = All-from_recursion (λ (b : BasicBlock). ¬ IsInsertedName b.name) (main_of size).blocks (not_inserted 101 (codes "ntry") (differ 101 115 refl), tt);
    labels = names_distinct (codes "entry" ∷ []) refl;
    values = main_values size few;
    answer_widths = All-from_recursion IsWidth (64 ∷ []) ((omega arith, omega arith), tt);
    argument_widths = All-nil IsWidth;
    answer = refl;
    args = All-nil (λ (arg : Rattle.ir_ast.specs.declared.funcs.Arg.Arg). is_first_class arg.ty ≡ true);
    few_arguments = omega arith;
    small = subst (λ (all : List Instruction). 0 + length all ≤ 4096) (sym (append-nil (main_lines size))) (omega (arith, main_length size));
    short = omega arith;
  }
