-- What a statepoint group gives: each of its lines by its place, and the pairs of a value that one of them gives.
use Rattle.std.proofs.Common.{◌≡◌, ◌≢◌, ◌∙◌, ◌⊎◌, inl, inr, ℕ, zero, suc, ◌+◌, ◌-◌, ◌<◌, ◌≤◌, cond, Bool, true, false, List, [], ◌∷◌, Option, Some, None, refl, ap, sym, subst, slice_get, length, arith, get_or, take, drop}
use Rattle.std.specs.Prelude.{◌&&◌}
use Rattle.std.specs.List.{list_any, prefix_len}
use Rattle.std.proofs.lemmas.Bool.{false≢true, cases_Bool, cases_lt, eq-eqb, eqb-true}
use Rattle.std.proofs.lemmas.List.Sums.{prefix_len_passes, prefix_len-le-length}
use Rattle.std.proofs.lemmas.Option.{none-some, same_Some, get_or_from_slice_get, slice_get-get_or}
use Rattle.list_laws.proofs.Places.{get_taken}
use Rattle.ir_ast.specs.declared.ops.Operand.{Operand}
use Rattle.ir_ast.specs.declared.ops.Op.{Op}
use Rattle.ir_ast.specs.declared.ops.Op.TheVariants.{Statepoint, GcResult, GcRelocate}
use Rattle.ir_ast.specs.Faults.GroupShape.{is_statepoint}
use Rattle.object_meaning.specs.Lines.{Line}
use Rattle.object_meaning.specs.Frames.{is_member, group_length}
use Rattle.pair_facts.specs.declared.bases.Base.{Base}
use Rattle.pair_facts.specs.declared.bases.Base.TheVariants.{Named}
use Rattle.pair_facts.specs.Lines.{line_in, no_line, head_at, group_in, gives, is_given, named}
use Rattle.pair_facts.specs.Pairs.{member_pairs, relocates_base, relocated_pairs, after_group}
use Rattle.pair_facts.proofs.PlaceLaws.{head_here}
use Rattle.list_laws.proofs.Booleans.{or_false}

-- ---- lists

pub or_dropped : {A : Type 0} (xs : List A) (n i : ℕ) (d : A) → get_or (drop n xs) i d ≡ get_or xs (n + i) d
or_dropped xs zero i d = let same : 0 + i ≡ i = omega arith in rw same refl
or_dropped [] (suc n) i d = refl
or_dropped (x ∷ xs) (suc n) i d = let same : suc n + i ≡ suc (n + i) = omega arith in rw same (or_dropped xs n i d)

prefix_reaches : {A : Type 0} (p : A → Bool) (xs : List A) (i : ℕ) (d : A) → p d ≡ false → ((j : ℕ) → j ≤ i → p (get_or xs j d) ≡ true) → i < prefix_len p xs
prefix_reaches p [] i d none each = absurd (false≢true (sym none ∙ each 0 (omega arith)))
prefix_reaches p (x ∷ xs) zero d none each = rw (each 0 (omega arith)) (omega arith)
prefix_reaches p (x ∷ xs) (suc i) d none each =
    let rest = prefix_reaches p xs i d none (λ j low. each (suc j) (omega arith)) in
    rw (each 0 (omega arith)) (omega (arith, rest))

pub list_any_none_at : {A : Type 0} (p : A → Bool) (xs : List A) → ((j : ℕ) (x : A) → slice_get xs j ≡ Some x → p x ≡ false) → list_any p xs ≡ false
list_any_none_at p [] none = refl
list_any_none_at p (x ∷ xs) none = rw (none 0 x refl) (list_any_none_at p xs (λ j y there. none (suc j) y there))

-- one element settles the test
list_any_one : {A : Type 0} (p : A → Bool) (xs : List A) (i : ℕ) (x : A) → slice_get xs i ≡ Some x
    → ((j : ℕ) (y : A) → slice_get xs j ≡ Some y → j ≢ i → p y ≡ false) → list_any p xs ≡ p x
list_any_one p [] i x at other = absurd (none-some x at)
list_any_one p (y ∷ ys) zero x at other =
    let same : y ≡ x = same_Some y x at in
    let rest : list_any p ys ≡ false = list_any_none_at p ys (λ j z there. other (suc j) z there (λ e. omega (arith, e))) in
    rw (rest, same) (or_false (p x))
list_any_one p (y ∷ ys) (suc i) x at other =
    rw (other 0 y refl (λ e. omega (arith, e)))
    (list_any_one p ys i x at (λ j z there apart. other (suc j) z there (λ e. apart (omega (arith, e)))))

-- ---- what a line gives

pub gives_is : (line : Line) (value : ℕ) → line.to ≡ Some value → gives line value ≡ true
gives_is line value is = ap (λ (to : Option ℕ). is_given to value) is ∙ eq-eqb value value refl

pub given_is : (line : Line) (value : ℕ) → gives line value ≡ true → line.to ≡ Some value
given_is line value h = by line.to h
  where
    by : (to : Option ℕ) → is_given to value ≡ true → to ≡ Some value
    by None h = absurd (false≢true h)
    by (Some own) h = ap Some (eqb-true own value h)

-- ---- members

member_apart : (op : Op) → is_member op ≡ true → is_statepoint op ≡ false
member_apart GcResult h = refl
member_apart GcRelocate h = refl
member_apart (Statepoint id callee types) h = absurd (false≢true h)
member_apart op h = refl

step_cases : (lines : List Line) (place : ℕ) → ((is_statepoint (line_in lines (suc place)).inst.op ≡ true) × (head_at lines (suc place) ≡ Some (suc place)))
    ⊎ ((is_statepoint (line_in lines (suc place)).inst.op ≡ false) × (is_member (line_in lines (suc place)).inst.op ≡ true) × (head_at lines (suc place) ≡ head_at lines place))
    ⊎ (head_at lines (suc place) ≡ None)
step_cases lines place = by (is_statepoint (line_in lines (suc place)).inst.op) (is_member (line_in lines (suc place)).inst.op)
  where
    by : (b c : Bool) → ((b ≡ true) × (cond {A = Option ℕ} b (Some (suc place)) (cond c (head_at lines place) None) ≡ Some (suc place)))
        ⊎ ((b ≡ false) × (c ≡ true) × (cond {A = Option ℕ} b (Some (suc place)) (cond c (head_at lines place) None) ≡ head_at lines place))
        ⊎ (cond {A = Option ℕ} b (Some (suc place)) (cond c (head_at lines place) None) ≡ None)
    by true c = inl (refl, refl)
    by false true = inr (inl (refl, refl, refl))
    by false false = inr (inr refl)

pub record IsMemberAt (lines : List Line) (head place : ℕ) : Type 0 where
  pub member : is_member (line_in lines place).inst.op ≡ true
  pub head_is : head_at lines place ≡ Some head

-- each line from the statepoint to a line of its group is of the group
pub members_between : (lines : List Line) (head to place : ℕ) → head_at lines to ≡ Some head → head < place → place ≤ to → IsMemberAt lines head place
members_between lines head zero place is low high = absurd (omega arith)
members_between lines head (suc to) place is low high = elim (step_cases lines to) [
  | inl here ↦ (let same : suc to ≡ head = same_Some (suc to) head (sym here.1 ∙ is) in absurd (omega arith))
  | inr (inl more) ↦ elim (cases_lt place (suc to)) [
    | inl below ↦ members_between lines head to place (sym more.2 ∙ is) low (omega arith)
    | inr last ↦ (let same : place ≡ suc to = omega arith in
        subst (IsMemberAt lines head) (sym same) (record { member = more.1; head_is = is }))
  ]
  | inr (inr none) ↦ absurd (none-some head (sym none ∙ is))
]

pub members_head : (lines : List Line) (head to : ℕ) → is_statepoint (line_in lines head).inst.op ≡ true → head ≤ to
    → ((place : ℕ) → head < place → place ≤ to → is_member (line_in lines place).inst.op ≡ true) → head_at lines to ≡ Some head
members_head lines head zero is up each =
    let same : head ≡ 0 = omega arith in subst (λ (k : ℕ). head_at lines k ≡ Some head) same (head_here lines head is)
members_head lines head (suc to) is up each = elim (cases_lt head (suc to)) [
  | inl below ↦
      (let member = each (suc to) below (omega arith) in
      let rest = members_head lines head to is (omega arith) (λ place low high. each place low (omega arith)) in
      elim (step_cases lines to) [
        | inl here ↦ absurd (false≢true (sym (member_apart (line_in lines (suc to)).inst.op member) ∙ here.0))
        | inr (inl more) ↦ more.2 ∙ rest
        | inr (inr none) ↦ absurd (false≢true (sym (no_member lines to none (member_apart (line_in lines (suc to)).inst.op member) rest) ∙ member))
      ])
  | inr last ↦ (let same : head ≡ suc to = omega arith in subst (λ (k : ℕ). head_at lines k ≡ Some head) same (head_here lines head is))
]
  where
    no_member : (lines : List Line) (to : ℕ) → head_at lines (suc to) ≡ None → is_statepoint (line_in lines (suc to)).inst.op ≡ false → head_at lines to ≡ Some head
        → is_member (line_in lines (suc to)).inst.op ≡ false
    no_member lines to = by (is_statepoint (line_in lines (suc to)).inst.op) (is_member (line_in lines (suc to)).inst.op)
      where
        by : (b c : Bool) → cond {A = Option ℕ} b (Some (suc to)) (cond c (head_at lines to) None) ≡ None → b ≡ false → head_at lines to ≡ Some head → c ≡ false
        by true c none off rest = absurd (false≢true (sym off))
        by false true none off rest = absurd (none-some head (sym none ∙ rest))
        by false false none off rest = refl

-- ---- a group's lines by their places

-- a line of the group stands in it, by its place
pub member_stands : (lines : List Line) (head place : ℕ) → head_at lines place ≡ Some head → head < place
    → slice_get (group_in lines head) (place - suc head) ≡ Some (line_in lines place)
member_stands lines head place is low =
    let i = place - suc head in
    let back : suc head + i ≡ place = omega arith in
    let tail = drop (suc head) lines in
    let long : i < group_length tail = prefix_reaches (λ (line : Line). is_member line.inst.op) tail i no_line refl
    (λ j below. ap (λ (line : Line). is_member line.inst.op) (or_dropped lines (suc head) j no_line)
    ∙ (members_between lines head place (suc head + j) is (omega arith) (omega arith)).member) in
    let inside : i < length tail = omega (arith, long, prefix_len-le-length (λ (line : Line). is_member line.inst.op) tail) in
    get_taken tail i (group_length tail) long
    ∙ slice_get-get_or tail i no_line inside
    ∙ ap Some (or_dropped lines (suc head) i no_line ∙ ap (λ (k : ℕ). get_or lines k no_line) back)

-- a line that stands in the group
pub record StandsInGroup (lines : List Line) (head i : ℕ) (line : Line) : Type 0 where
  pub line_is : line_in lines (suc head + i) ≡ line
  pub member : IsMemberAt lines head (suc head + i)

pub stands_member : (lines : List Line) (head i : ℕ) (line : Line) → is_statepoint (line_in lines head).inst.op ≡ true
    → slice_get (group_in lines head) i ≡ Some line → StandsInGroup lines head i line
stands_member lines head i line is at =
    let tail = drop (suc head) lines in
    let test : Line → Bool = λ line. is_member line.inst.op in
    let short : i < group_length tail = taken_within tail (group_length tail) i line at in
    let there : slice_get tail i ≡ Some line = sym (get_taken tail i (group_length tail) short) ∙ at in
    let each : (place : ℕ) → head < place → place ≤ suc head + i → is_member (line_in lines place).inst.op ≡ true
    = λ place low high.
    let back : suc head + (place - suc head) ≡ place = omega arith in
    ap (λ (line : Line). is_member line.inst.op) (ap (λ (k : ℕ). get_or lines k no_line) (sym back) ∙ sym (or_dropped lines (suc head) (place - suc head) no_line))
    ∙ prefix_len_passes test tail (place - suc head) no_line (omega (arith, short)) in
    record {
      line_is = sym (or_dropped lines (suc head) i no_line) ∙ get_or_from_slice_get tail i line no_line there;
      member = record {
        member = each (suc head + i) (omega arith) (omega arith);
        head_is = members_head lines head (suc head + i) is (omega arith) each;
      };
    }
  where
    taken_within : {A : Type 0} (xs : List A) (n i : ℕ) (x : A) → slice_get (take n xs) i ≡ Some x → i < n
    taken_within xs zero i x at = absurd (none-some x at)
    taken_within [] (suc n) i x at = absurd (none-some x at)
    taken_within (y ∷ xs) (suc n) zero x at = omega arith
    taken_within (y ∷ xs) (suc n) (suc i) x at = omega (arith, taken_within xs n i x at)

-- ---- the pairs of what a group gives

-- only this line gives the value
abbrev pub GivesOnly : List Line → ℕ → ℕ → Type 0
GivesOnly lines value place = (other : ℕ) → (line_in lines other).to ≡ Some value → other ≡ place

pub not_given : (line : Line) (value : ℕ) → (line.to ≡ Some value → ⊥) → gives line value ≡ false
not_given line value other = elim (cases_Bool (gives line value)) [
  | inl h ↦ absurd (other (given_is line value h))
  | inr h ↦ h
]

pub group_gives : (lines : List Line) (head place value : ℕ) (entries : List Operand) (base : Base) → is_statepoint (line_in lines head).inst.op ≡ true
    → head_at lines place ≡ Some head → head < place → (line_in lines place).to ≡ Some value → GivesOnly lines value place
    → after_group entries (group_in lines head) (named value) base
    ≡ member_pairs entries (group_in lines head) value (line_in lines place) (line_in lines place).inst.op base
group_gives lines head place value entries base is found low given only =
    let group = group_in lines head in
    let test : Line → Bool = λ line. gives line value && member_pairs entries group value line line.inst.op base in
    list_any_one test group (place - suc head) (line_in lines place) (member_stands lines head place found low)
    (λ j line at apart.
    let there = stands_member lines head j line is at in
    ap (λ b. b && member_pairs entries group value line line.inst.op base)
    (not_given line value (λ own. apart (let same = only (suc head + j) (ap (λ (l : Line). l.to) there.line_is ∙ own) in omega (arith, same)))))
    ∙ ap (λ b. b && member_pairs entries group value (line_in lines place) (line_in lines place).inst.op base) (gives_is (line_in lines place) value given)

-- a value that no line of the group gives has no pair behind it
pub group_gives_none : (lines : List Line) (head value : ℕ) (entries : List Operand) (base : Base) → is_statepoint (line_in lines head).inst.op ≡ true
    → ((place : ℕ) → head < place → head_at lines place ≡ Some head → (line_in lines place).to ≡ Some value → ⊥)
    → after_group entries (group_in lines head) (named value) base ≡ false
group_gives_none lines head value entries base is none =
    let group = group_in lines head in
    list_any_none_at (λ line. gives line value && member_pairs entries group value line line.inst.op base) group
    (λ j line at.
    let there = stands_member lines head j line is at in
    ap (λ b. b && member_pairs entries group value line line.inst.op base)
    (not_given line value (λ own. none (suc head + j) (omega arith) there.member.head_is (ap (λ (l : Line). l.to) there.line_is ∙ own))))

-- whether the base is the relocate that a line of the group gives
pub relocated_named : (lines : List Line) (head place value entry : ℕ) (entries : List Operand) → is_statepoint (line_in lines head).inst.op ≡ true
    → head_at lines place ≡ Some head → head < place → (line_in lines place).to ≡ Some value → GivesOnly lines value place
    → relocated_pairs entries (group_in lines head) entry (Named (named value)) ≡ relocates_base entry (line_in lines place)
relocated_named lines head place value entry entries is found low given only =
    let group = group_in lines head in
    list_any_one (λ line. gives line value && relocates_base entry line) group (place - suc head) (line_in lines place) (member_stands lines head place found low)
    (λ j line at apart.
    let there = stands_member lines head j line is at in
    ap (λ b. b && relocates_base entry line)
    (not_given line value (λ own. apart (let same = only (suc head + j) (ap (λ (l : Line). l.to) there.line_is ∙ own) in omega (arith, same)))))
    ∙ ap (λ b. b && relocates_base entry (line_in lines place)) (gives_is (line_in lines place) value given)

pub relocated_none : (lines : List Line) (head value entry : ℕ) (entries : List Operand) → is_statepoint (line_in lines head).inst.op ≡ true
    → ((place : ℕ) → head < place → head_at lines place ≡ Some head → (line_in lines place).to ≡ Some value → ⊥)
    → relocated_pairs entries (group_in lines head) entry (Named (named value)) ≡ false
relocated_none lines head value entry entries is none =
    let group = group_in lines head in
    list_any_none_at (λ line. gives line value && relocates_base entry line) group
    (λ j line at.
    let there = stands_member lines head j line is at in
    ap (λ b. b && relocates_base entry line)
    (not_given line value (λ own. none (suc head + j) (omega arith) there.member.head_is (ap (λ (l : Line). l.to) there.line_is ∙ own))))
