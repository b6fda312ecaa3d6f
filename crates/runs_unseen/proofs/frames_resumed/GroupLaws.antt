-- The group of a statepoint in its block: its lines, the values that they give, and what stands behind it.
use Rattle.std.proofs.Common.{◌≡◌, ℕ, zero, suc, ◌+◌, ◌-◌, ◌<◌, ◌≤◌, ◌==◌, Bool, true, false, List, [], ◌∷◌, ◌++◌, length, get_or, take, drop, refl, sym, ap, ◌∙◌, subst, arith, Option, Some, None, inl, inr}
use Rattle.std.specs.Prelude.{nat_lt, slice_get, slice_index, is_some, if◌then◌else◌}
use Rattle.std.specs.List.{list_any}
use Rattle.std.specs.Option.{option_map_or}
use Rattle.std.proofs.lemmas.Bool.{cases_Bool, eqb-true, true≢false, or_cases}
use Rattle.std.proofs.lemmas.List.Sums.{prefix_len_passes}
use Rattle.std.proofs.lemmas.Option.{none-some, same_Some}
use Rattle.ir_ast.specs.declared.ops.Operand.{Operand}
use Rattle.ir_ast.specs.declared.ops.Operand.TheVariants.{Int}
use Rattle.ir_ast.specs.Faults.GroupShape.{entries_of, is_statepoint}
use Rattle.ir_ast.specs.Insts.{Instruction}
use Rattle.object_meaning.specs.Frames.{group_length, is_member}
use Rattle.object_meaning.specs.Jumps.{phi_count}
use Rattle.object_meaning.specs.Lines.{Line, after_all, following, numbered}
use Rattle.object_meaning.specs.TargetRuns.{plain_lines}
use Rattle.pair_facts.specs.Lines.{gives, group_in, head_at, is_given, line_before, line_in, no_line, operand_at}
use Rattle.pair_facts.specs.Pairs.{Pairs, after, after_group}
use Rattle.pair_facts.specs.Paths.{pairs_at}
use Rattle.pair_facts.proofs.GroupLaws.{gives_is, members_head, or_dropped}
use Rattle.moves_unseen.proofs.PhiLaws.{picked, picked_is, put_each}
use Rattle.object_meaning.proofs.LineLaws.{line_is}
use Rattle.pair_facts.proofs.OwnLaws.{head_none}
use Rattle.list_laws.proofs.Places.{take_back, drop_nil}

-- ---- lists

dropped_twice : {A : Type 0} (xs : List A) (first second : ℕ) → drop second (drop first xs) ≡ drop (first + second) xs
dropped_twice xs zero second = let same : 0 + second ≡ second = omega arith in rw same refl
dropped_twice [] (suc first) second = drop_nil second ∙ sym (drop_nil (suc first + second))
dropped_twice (x ∷ xs) (suc first) second = let same : suc first + second ≡ suc (first + second) = omega arith in rw same (dropped_twice xs first second)

pub front_index : (front below : List ℕ) (place : ℕ) → place < length front → slice_index (front ++ below) place ≡ slice_index front place
front_index [] below place within = absurd (omega arith)
front_index (word ∷ front) below zero within = refl
front_index (word ∷ front) below (suc place) within = front_index front below place (omega arith)

pub past_operands : (operands : List Operand) (place : ℕ) → length operands ≤ place → operand_at operands place ≡ Int 0
past_operands [] place past = refl
past_operands (first ∷ operands) zero past = absurd (omega arith)
past_operands (first ∷ operands) (suc place) past = past_operands operands place (omega arith)

-- an element that passes the test
pub record IsFound {A : Type 0} (test : A → Bool) (xs : List A) : Type 0 where
  pub place : ℕ
  pub item : A
  pub is : slice_get xs place ≡ Some item
  pub passes : test item ≡ true

pub found_in : {A : Type 0} (test : A → Bool) (xs : List A) → list_any test xs ≡ true → IsFound test xs
found_in test [] some = absurd (true≢false (sym some))
found_in test (x ∷ xs) some = elim (or_cases (test x) (list_any test xs) some) [
  | inl here ↦ record { place = 0; item = x; is = refl; passes = here }
  | inr later ↦ (let more = found_in test xs later in record { place = suc more.place; item = more.item; is = more.is; passes = more.passes })
]

-- ---- the values that lines give

drop_plain : (count next : ℕ) (insts : List Instruction) → drop count (plain_lines next insts) ≡ plain_lines (after_all next (take count insts)) (drop count insts)
drop_plain zero next insts = refl
drop_plain (suc count) next [] = refl
drop_plain (suc count) next (inst ∷ insts) = drop_plain count (following next inst) insts

given_above : (next : ℕ) (insts : List Instruction) (place : ℕ) (line : Line) (value : ℕ) → slice_get (plain_lines next insts) place ≡ Some line → line.to ≡ Some value → next ≤ value
given_above next [] place line value is given = absurd (none-some line is)
given_above next (inst ∷ insts) zero line value is given = by (is_some inst.result) (ap (λ (l : Line). l.to) (same_Some (numbered next inst) line is) ∙ given)
  where
    by : (b : Bool) → ◌≡◌ {A = Option ℕ} (if b then Some next else None) (Some value) → next ≤ value
    by true gives_it = let same = same_Some next value gives_it in omega arith
    by false gives_it = absurd (none-some value gives_it)
given_above next (inst ∷ insts) (suc place) line value is given = by (is_some inst.result) (given_above (following next inst) insts place line value is given)
  where
    by : (b : Bool) → (if b then next + 1 else next) ≤ value → next ≤ value
    by true above = omega arith
    by false above = above

not_first : (next value : ℕ) (b : Bool) → (if b then next + 1 else next) ≤ value → is_given (if b then Some next else None) value ≡ false
not_first next value true above = elim (cases_Bool (next == value)) [
  | inl same ↦ (let is = eqb-true next value same in absurd (omega arith))
  | inr differ ↦ differ
]
not_first next value false above = refl

-- each line gives a value of its own
picked_at : {A : Type 0} (made : Line → A) (next : ℕ) (insts : List Instruction) (count place : ℕ) (line : Line) (value : ℕ) (old : A)
    → slice_get (take count (plain_lines next insts)) place ≡ Some line → line.to ≡ Some value → picked made (take count (plain_lines next insts)) value old ≡ made line
picked_at made next insts zero place line value old is given = absurd (none-some line is)
picked_at made next [] (suc count) place line value old is given = absurd (none-some line is)
picked_at made next (inst ∷ insts) (suc count) zero line value old is given =
    let same = same_Some (numbered next inst) line is in
    ap (λ (b : Bool). if b then made (numbered next inst) else picked made (take count (plain_lines (following next inst) insts)) value old) (ap (λ (l : Line). gives l value) same ∙ gives_is line value given)
    ∙ ap made same
picked_at made next (inst ∷ insts) (suc count) (suc place) line value old is given =
    let lower = take_back count (plain_lines (following next inst) insts) place line is in
    ap (λ (b : Bool). if b then made (numbered next inst) else picked made (take count (plain_lines (following next inst) insts)) value old)
    (not_first next value (is_some inst.result) (given_above (following next inst) insts place line value lower.1 given))
    ∙ picked_at made (following next inst) insts count place line value old is given

-- ---- a group

-- a value that a member gives is what the member makes
pub group_picks : {A : Type 0} (made : Line → A) (next : ℕ) (insts : List Instruction) (head place : ℕ) (line : Line) (value : ℕ) (old : A)
    → slice_get (group_in (plain_lines next insts) head) place ≡ Some line → line.to ≡ Some value → picked made (group_in (plain_lines next insts) head) value old ≡ made line
group_picks made next insts head place line value old is given =
    subst (λ (tail : List Line). slice_get (take (group_length tail) tail) place ≡ Some line → picked made (take (group_length tail) tail) value old ≡ made line)
    (sym (drop_plain (suc head) next insts))
    (λ stands. picked_at made (after_all next (take (suc head) insts)) (drop (suc head) insts)
    (group_length (plain_lines (after_all next (take (suc head) insts)) (drop (suc head) insts))) place line value old stands given)
    is

pub group_put : {A : Type 0} (made : Line → A) (next : ℕ) (insts : List Instruction) (head : ℕ) (held : List A) (at : ℕ) (none old : A)
    → ((place : ℕ) (line : Line) (to : ℕ) → slice_get (group_in (plain_lines next insts) head) place ≡ Some line → line.to ≡ Some to → to < length held)
    → get_or held at none ≡ old → get_or (put_each made (group_in (plain_lines next insts) head) held) at none ≡ picked made (group_in (plain_lines next insts) head) at old
group_put made next insts head held at none old within same =
    subst (λ (tail : List Line). ((place : ℕ) (line : Line) (to : ℕ) → slice_get (take (group_length tail) tail) place ≡ Some line → line.to ≡ Some to → to < length held)
    → get_or (put_each made (take (group_length tail) tail) held) at none ≡ picked made (take (group_length tail) tail) at old)
    (sym (drop_plain (suc head) next insts))
    (λ inside. picked_is made (after_all next (take (suc head) insts)) (drop (suc head) insts)
    (group_length (plain_lines (after_all next (take (suc head) insts)) (drop (suc head) insts))) held at none old inside same)
    within

-- ---- behind a group

module _ (lines : List Line) (head : ℕ) (statepoint : is_statepoint (line_in lines head).inst.op ≡ true) where
  abbrev tail : List Line
  tail = drop (suc head) lines

  member_there : (place : ℕ) → head < place → place ≤ head + group_length tail → is_member (line_in lines place).inst.op ≡ true
  member_there place above below =
      let back : suc head + (place - suc head) ≡ place = omega arith in
      ap (λ (line : Line). is_member line.inst.op) (ap (λ (k : ℕ). get_or lines k no_line) (sym back) ∙ sym (or_dropped lines (suc head) (place - suc head) no_line))
      ∙ prefix_len_passes (λ (line : Line). is_member line.inst.op) tail (place - suc head) no_line (omega arith)

  pub last_head : head_at lines (head + group_length tail) ≡ Some head
  last_head = members_head lines head (head + group_length tail) statepoint (omega arith) member_there

  -- behind the group stand the pairs that it gives
  pub behind_group : (front : Pairs) → pairs_at lines front (suc (head + group_length tail)) ≡ after_group (entries_of (line_in lines head).inst) (group_in lines head)
  behind_group front =
      ap (λ (found : Option ℕ). option_map_or (λ (at : ℕ). after_group (entries_of (line_in lines at).inst) (group_in lines at)) found
      (if nat_lt (head + group_length tail) (phi_count lines) then pairs_at lines front (head + group_length tail)
      else after (pairs_at lines front (head + group_length tail)) (line_before lines (head + group_length tail)) (line_in lines (head + group_length tail)))) last_head

  -- the line before is the statepoint or a member
  pub last_is : (line : Line) → line_before lines (suc (head + group_length tail)) ≡ Some line → is_statepoint line.inst.op ≡ false → is_member line.inst.op ≡ false → ⊥
  last_is line before one two =
      let here = line_is lines (head + group_length tail) line before in
      none-some head (sym (head_none lines (head + group_length tail) (ap (λ (l : Line). is_statepoint l.inst.op) here ∙ one) (ap (λ (l : Line). is_member l.inst.op) here ∙ two)) ∙ last_head)

  pub rest_is : drop (group_length tail) tail ≡ drop (suc (head + group_length tail)) lines
  rest_is = dropped_twice lines (suc head) (group_length tail) ∙ ap (λ (count : ℕ). drop count lines) (let same : suc head + group_length tail ≡ suc (head + group_length tail) = omega arith in same)
