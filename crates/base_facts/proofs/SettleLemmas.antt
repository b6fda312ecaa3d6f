-- What settles a fact: the place of the last line that gives its pointer or its base, or the last statepoint.
use Rattle.std.proofs.Common.{◌≡◌, ◌≢◌, ◌∙◌, ◌⊎◌, inl, inr, ℕ, zero, suc, ◌<◌, ◌≤◌, cond, Bool, true, false, List, Option, Some, None, refl, ap, sym, subst, arith}
use Rattle.std.specs.Prelude.{◌==◌, ◌&&◌}
use Rattle.std.proofs.lemmas.Bool.{false≢true, cases_lt, cases_Bool, eqb-true, eq-eqb, ne_eqb, lt-ltb, le-ltb}
use Rattle.std.proofs.lemmas.List.Sums.{prefix_len_passes}
use Rattle.std.proofs.lemmas.Option.{none-some, same_Some}
use Rattle.ir_ast.specs.declared.ops.Operand.{Operand}
use Rattle.ir_ast.specs.declared.ops.Operand.TheVariants.{Null}
use Rattle.ir_ast.specs.declared.ops.Op.{Op}
use Rattle.ir_ast.specs.declared.ops.Op.TheVariants.{Statepoint, GcResult, GcRelocate}
use Rattle.ir_ast.specs.Funcs.{Function}
use Rattle.ir_ast.specs.Types.{is_pointer}
use Rattle.ir_ast.specs.Faults.GroupShape.{is_statepoint}
use Rattle.ir_ast.specs.Faults.PhiEdges.{is_phi}
use Rattle.object_meaning.specs.Lines.{Line}
use Rattle.object_meaning.specs.Frames.{is_member}
use Rattle.object_meaning.specs.Jumps.{phi_count}
use Rattle.pair_facts.specs.declared.bases.Base.{Base}
use Rattle.pair_facts.specs.declared.bases.Base.TheVariants.{Any, Named}
use Rattle.pair_facts.specs.Lines.{lines_at, line_in, no_line, head_at, group_in, named}
use Rattle.pair_facts.specs.Pairs.{Pairs, relocated_pairs, member_pairs, base_index, relocates_base, after_group}
use Rattle.pair_facts.specs.Paths.{pairs_at}
use Rattle.pair_facts.specs.Segments.{start_at}
use Rattle.pair_facts.specs.Uses.{entries_at}
use Rattle.pair_facts.proofs.FreshLaws.{IsSound, pairs_sound}
use Rattle.pair_facts.proofs.PlaceLaws.{Leaves, LeavesBase, IsPlainAt, pairs_passed, pairs_gone, start_below, no_statepoint, start_is, head_ended, head_here, no_head_before, pairs_from_front, pairs_from_group, pairs_lost}
use Rattle.pair_facts.proofs.GroupLaws.{members_between, group_gives, group_gives_none, relocated_named, relocated_none}
use Rattle.base_facts.specs.declared.facts.Pointer.{Pointer}
use Rattle.base_facts.specs.declared.facts.Pointer.TheVariants as pointers
use Rattle.base_facts.specs.declared.facts.Wanted.{Wanted}
use Rattle.base_facts.specs.declared.facts.Wanted.TheVariants as bases
use Rattle.base_facts.specs.declared.facts.Fact.{Fact}
use Rattle.base_facts.specs.declared.settle.Answer.TheVariants.{Never, Asks}
use Rattle.base_facts.specs.Facts.{operand_in, base_in}
use Rattle.fact_tables.specs.Tables.{IsPlace, first_of, IsWithin, FindsWithin}
use Rattle.base_facts.specs.Members.{member_named}
use Rattle.base_facts.specs.Settled.{Decides, SettlesBy, Settles, IsNotGiven, finds_wanted, settled_defined, named_under, with_base}
use Rattle.list_laws.proofs.Booleans.{and_false}

-- ---- operators

pub statepoint_apart : (op : Op) → is_statepoint op ≡ true → (is_member op ≡ false) × (is_phi op ≡ false)
statepoint_apart (Statepoint id callee types) is = (refl, refl)
statepoint_apart op is = absurd (false≢true is)

phi_apart : (op : Op) → is_phi op ≡ true → is_statepoint op ≡ false
phi_apart (Statepoint id callee types) is = absurd (false≢true is)
phi_apart op is = refl

-- phis stand before statepoints
pub statepoint_past : (lines : List Line) (head : ℕ) → is_statepoint (line_in lines head).inst.op ≡ true → phi_count lines ≤ head
statepoint_past lines head is = elim (cases_lt head (phi_count lines)) [
  | inl phi ↦ absurd (false≢true (sym (statepoint_apart (line_in lines head).inst.op is).1 ∙ prefix_len_passes (λ (l : Line). is_phi l.inst.op) lines head no_line phi))
  | inr past ↦ past
]

pub start_front : (lines : List Line) (place : ℕ) → place ≤ phi_count lines → start_at lines place ≡ 0
start_front lines zero up = refl
start_front lines (suc place) up =
    ap (λ b. cond b (suc place) (start_at lines place)) (phi_apart (line_in lines place).inst.op (prefix_len_passes (λ (l : Line). is_phi l.inst.op) lines place no_line (omega arith)))
    ∙ start_front lines place (omega arith)

-- ---- statepoints and their groups

step_cases : (lines : List Line) (place : ℕ) → ((is_statepoint (line_in lines (suc place)).inst.op ≡ true) × (head_at lines (suc place) ≡ Some (suc place)))
    ⊎ (head_at lines (suc place) ≡ head_at lines place) ⊎ (head_at lines (suc place) ≡ None)
step_cases lines place = by (is_statepoint (line_in lines (suc place)).inst.op) (is_member (line_in lines (suc place)).inst.op)
  where
    by : (b c : Bool) → ((b ≡ true) × (cond {A = Option ℕ} b (Some (suc place)) (cond c (head_at lines place) None) ≡ Some (suc place)))
        ⊎ (cond {A = Option ℕ} b (Some (suc place)) (cond c (head_at lines place) None) ≡ head_at lines place)
        ⊎ (cond {A = Option ℕ} b (Some (suc place)) (cond c (head_at lines place) None) ≡ None)
    by true c = inl (refl, refl)
    by false true = inr (inl refl)
    by false false = inr (inr refl)

first_case : (lines : List Line) → ((is_statepoint (line_in lines 0).inst.op ≡ true) × (head_at lines 0 ≡ Some 0)) ⊎ (head_at lines 0 ≡ None)
first_case lines = by (is_statepoint (line_in lines 0).inst.op) (is_member (line_in lines 0).inst.op)
  where
    by : (b c : Bool) → ((b ≡ true) × (cond {A = Option ℕ} b (Some 0) (cond c None None) ≡ Some 0)) ⊎ (cond {A = Option ℕ} b (Some 0) (cond c None None) ≡ None)
    by true c = inl (refl, refl)
    by false true = inr refl
    by false false = inr refl

-- the head of a group is a statepoint at or before each of its lines
pub head_stands : (lines : List Line) (place head : ℕ) → head_at lines place ≡ Some head → (is_statepoint (line_in lines head).inst.op ≡ true) × (head ≤ place)
head_stands lines zero head is = elim (first_case lines) [
  | inl here ↦ (let same : 0 ≡ head = same_Some 0 head (sym here.1 ∙ is) in (subst (λ (k : ℕ). is_statepoint (line_in lines k).inst.op ≡ true) same here.0, omega arith))
  | inr none ↦ absurd (none-some head (sym none ∙ is))
]
head_stands lines (suc place) head is = elim (step_cases lines place) [
  | inl here ↦ (let same : suc place ≡ head = same_Some (suc place) head (sym here.1 ∙ is) in
      (subst (λ (k : ℕ). is_statepoint (line_in lines k).inst.op ≡ true) same here.0, omega arith))
  | inr (inl more) ↦ (let rest = head_stands lines place head (sym more ∙ is) in (rest.0, omega (arith, rest.1)))
  | inr (inr none) ↦ absurd (none-some head (sym none ∙ is))
]

-- the last statepoint before a place is the head of each group behind it
pub record IsHead (lines : List Line) (place at head : ℕ) : Type 0 where
  pub start_is : start_at lines place ≡ suc head
  pub statepoint : is_statepoint (line_in lines head).inst.op ≡ true
  pub below : head < at
  pub past : phi_count lines ≤ head

pub head_is : (lines : List Line) (place at head : ℕ) → head_at lines at ≡ Some head → start_at lines place ≤ at → at < place → IsHead lines place at head
head_is lines place at head is low high =
    let stands = head_stands lines at head is in
    let not_from : (k : ℕ) → start_at lines place ≤ k → k < place → is_statepoint (line_in lines k).inst.op ≡ true → ⊥
    = λ k up down there. false≢true (sym (no_statepoint lines place k up down) ∙ there) in
    let before : head < start_at lines place = elim (cases_lt head (start_at lines place)) [
      | inl less ↦ less
      | inr more ↦ absurd (not_from head more (omega (arith, stands.1)) stands.0)
    ] in
    by (start_at lines place) refl stands before
  where
    by : (start : ℕ) → start_at lines place ≡ start → (is_statepoint (line_in lines head).inst.op ≡ true) × (head ≤ at) → head < start_at lines place → IsHead lines place at head
    by zero same stands before = absurd (omega arith)
    by (suc other) same stands before = elim (cases_lt head other) [
      | inl less ↦ (let member = members_between lines head at other is less (omega arith) in
          let there = start_is lines place other same in
          absurd (false≢true (sym (statepoint_apart (line_in lines other).inst.op there).0 ∙ member.member)))
      | inr past ↦ (let own : other ≡ head = omega arith in
          record { start_is = same ∙ ap suc own; statepoint = stands.0; below = omega arith; past = statepoint_past lines head stands.0 })
    ]

-- a group's lines stand before a place that is outside of it
pub member_before : (lines : List Line) (place head at : ℕ) → is_member (line_in lines place).inst.op ≡ false → start_at lines place ≡ suc head
    → head_at lines at ≡ Some head → head < at → at < place
member_before lines place head at outside is found low = elim (cases_lt at place) [
  | inl below ↦ below
  | inr past ↦ absurd (false≢true (sym outside ∙ (members_between lines head at place found (omega (arith, start_below lines place, is)) past).member))
]

-- ---- what lines give

named_only : (lines : List Line) (value at k : ℕ) → ((other : ℕ) → (line_in lines other).to ≡ Some value → other ≡ at) → (k ≡ at → ⊥) → Leaves (line_in lines k) (named value)
named_only lines value at k only apart given gives = elim (cases_Bool (given == value)) [
  | inl same ↦ absurd (apart (only k (gives ∙ ap Some (eqb-true given value same))))
  | inr other ↦ other
]

base_only : (lines : List Line) (value at k : ℕ) → ((other : ℕ) → (line_in lines other).to ≡ Some value → other ≡ at) → (k ≡ at → ⊥)
    → LeavesBase (line_in lines k) (Named (named value))
base_only lines value at k only apart given gives = named_only lines value at k only apart given gives

-- no line behind the last statepoint gives the base
pub base_not_given : (lines : List Line) (place : ℕ) (base : Wanted) (k : ℕ) → finds_wanted lines place base None → first_of lines place ≤ k → k < place
    → LeavesBase (line_in lines k) (base_in base)
base_not_given lines place bases.Any k none low high given gives = refl
base_not_given lines place bases.Null k none low high given gives = refl
base_not_given lines place (bases.Value value) k none low high given gives = elim (cases_Bool (given == value)) [
  | inl same ↦ absurd (none k low high (gives ∙ ap Some (eqb-true given value same)))
  | inr other ↦ other
]

first_low : (lines : List Line) (place : ℕ) → (start_at lines place ≤ first_of lines place) × (phi_count lines ≤ first_of lines place)
first_low lines place = (omega arith, omega arith)

first_high : (lines : List Line) (place k : ℕ) → start_at lines place ≤ k → phi_count lines ≤ k → first_of lines place ≤ k
first_high lines place k low past = omega arith

-- ---- no line gives the pointer

pub before_group : (lines : List Line) (front : Pairs) (place : ℕ) (operand : Operand) (base : Base) → 0 < start_at lines place
    → ((at : ℕ) → first_of lines place ≤ at → at < place → Leaves (line_in lines at) operand)
    → ((head : ℕ) → start_at lines place ≡ suc head → after_group (entries_at lines head) (group_in lines head) operand base ≡ false)
    → pairs_at lines front place operand base ≡ false
before_group lines front place operand base some leave lost = by (start_at lines place) refl some
  where
    by : (start : ℕ) → start_at lines place ≡ start → 0 < start_at lines place → pairs_at lines front place operand base ≡ false
    by zero is some = absurd (omega arith)
    by (suc head) is some =
        let statepoint = start_is lines place head is in
        let past = statepoint_past lines head statepoint in
        pairs_lost lines front place head operand base is past
        (λ k low high none. leave k
        (first_high lines place k (let apart : k ≢ head = (λ same. none-some head (sym none ∙ ap (head_at lines) same ∙ head_here lines head statepoint)) in omega (arith, is)) (omega (arith, past))) high)
        (lost head is)

pub before_base : (lines : List Line) (front : Pairs) (place : ℕ) (operand : Operand) (base : Wanted) (given : ℕ) → start_at lines place ≡ 0
    → ((at : ℕ) → first_of lines place ≤ at → at < place → Leaves (line_in lines at) operand)
    → finds_wanted lines place base (Some given) → pairs_at lines front place operand (base_in base) ≡ false
before_base lines front place operand bases.Any given is leave found = absurd (none-some given (sym found))
before_base lines front place operand bases.Null given is leave found = absurd (none-some given (sym found))
before_base lines front place operand (bases.Value value) given is leave found =
    let low = first_low lines place in
    pairs_gone lines front given place operand (Named (named value)) value found.high (record {
      plain = λ k up down. (no_head_before lines place k is down, omega (arith, low.1, found.low));
      leave = λ k up down. leave k (omega (arith, found.low)) down;
    }) found.gives (eq-eqb value value refl)

pub from_front : (lines : List Line) (front : Pairs) (place : ℕ) (operand : Operand) (base : Wanted) → start_at lines place ≡ 0
    → ((at : ℕ) → first_of lines place ≤ at → at < place → Leaves (line_in lines at) operand)
    → finds_wanted lines place base None → pairs_at lines front place operand (base_in base) ≡ pairs_at lines front (phi_count lines) operand (base_in base)
from_front lines front place operand base is leave none =
    pairs_from_front lines front place operand (base_in base) is
    (λ k past down. (leave k (first_high lines place k (omega (arith, is)) past) down, base_not_given lines place base k none (first_high lines place k (omega (arith, is)) past) down))
    ∙ sym (pairs_from_front lines front (phi_count lines) operand (base_in base) (start_front lines (phi_count lines) (omega arith)) (λ k past down. absurd (omega arith)))

-- ---- a line outside groups gives the pointer

plain_behind : (lines : List Line) (place at k : ℕ) → start_at lines place ≤ at → phi_count lines ≤ at → head_at lines at ≡ None → at ≤ k → k < place → IsPlainAt lines k
plain_behind lines place at k low past none up down =
    (head_ended lines at k none up (λ j above below. no_statepoint lines place j (omega arith) (omega arith)), omega arith)

pub from_definition : (lines : List Line) (front : Pairs) (place value at : ℕ) (base : Base) → IsWithin lines place value at → head_at lines at ≡ None
    → ((k : ℕ) → suc at ≤ k → k < place → LeavesBase (line_in lines k) base)
    → pairs_at lines front place (named value) base ≡ pairs_at lines front (suc at) (named value) base
from_definition lines front place value at base within none leave_base =
    let low = first_low lines place in
    pairs_passed lines front (suc at) place (named value) base within.high (record {
      plain = λ k up down. plain_behind lines place at k (omega (arith, low.0, within.low)) (omega (arith, low.1, within.low)) none (omega arith) down;
      leave = λ k up down. named_only lines value at k within.only (λ same. omega (arith, same));
      leave_base = leave_base;
    })

pub definition_gone : (lines : List Line) (front : Pairs) (place value at base given : ℕ) → IsWithin lines place value at
    → IsWithin lines place base given → head_at lines given ≡ None → ((k : ℕ) → given ≤ k → k < place → k ≡ at → ⊥)
    → pairs_at lines front place (named value) (Named (named base)) ≡ false
definition_gone lines front place value at base given within base_within none apart =
    let low = first_low lines place in
    pairs_gone lines front given place (named value) (Named (named base)) base base_within.high (record {
      plain = λ k up down. plain_behind lines place given k (omega (arith, low.0, base_within.low)) (omega (arith, low.1, base_within.low)) none up down;
      leave = λ k up down. named_only lines value at k within.only (apart k up down);
    }) base_within.gives (eq-eqb base base refl)

-- ---- a line of a group gives the pointer

from_group : (lines : List Line) (front : Pairs) (place value at head : ℕ) (base : Base) → IsWithin lines place value at → head_at lines at ≡ Some head
    → ((k : ℕ) → first_of lines place ≤ k → k < place → head_at lines k ≡ None → LeavesBase (line_in lines k) base)
    → pairs_at lines front place (named value) base
    ≡ member_pairs (entries_at lines head) (group_in lines head) value (line_in lines at) (line_in lines at).inst.op base
from_group lines front place value at head base within found leave_base =
    let low = first_low lines place in
    let is = head_is lines place at head found (omega (arith, low.0, within.low)) within.high in
    pairs_from_group lines front place head (named value) base is.start_is is.past
    (λ k up down none.
    let apart : k ≢ head = (λ same. none-some head (sym none ∙ ap (head_at lines) same ∙ head_here lines head is.statepoint)) in (
      named_only lines value at k within.only (λ same. none-some head (sym none ∙ ap (head_at lines) same ∙ found)),
      leave_base k (first_high lines place k (omega (arith, is.start_is)) (omega (arith, is.past))) down none,
    ))
    ∙ group_gives lines head at value (entries_at lines head) base is.statepoint found is.below within.gives within.only

pub group_any : (lines : List Line) (front : Pairs) (place value at head : ℕ) → IsWithin lines place value at → head_at lines at ≡ Some head
    → pairs_at lines front place (named value) Any ≡ member_pairs (entries_at lines head) (group_in lines head) value (line_in lines at) (line_in lines at).inst.op Any
group_any lines front place value at head within found = from_group lines front place value at head Any within found (λ k low high none given gives. refl)

pub group_null : (lines : List Line) (front : Pairs) (place value at head : ℕ) → IsWithin lines place value at → head_at lines at ≡ Some head
    → pairs_at lines front place (named value) (Named Null) ≡ member_pairs (entries_at lines head) (group_in lines head) value (line_in lines at) (line_in lines at).inst.op (Named Null)
group_null lines front place value at head within found = from_group lines front place value at head (Named Null) within found (λ k low high none given gives. refl)

member_none : (lines : List Line) (head value base : ℕ) (line : Line) (op : Op) (entries : List Operand) → (value == base) ≡ false
    → ((entry : ℕ) → relocated_pairs entries (group_in lines head) entry (Named (named base)) ≡ false)
    → member_pairs entries (group_in lines head) value line op (Named (named base)) ≡ false
member_none lines head value base line GcResult entries apart none = ap (λ b. is_pointer line.inst.ty && b) apart ∙ and_false (is_pointer line.inst.ty)
member_none lines head value base line GcRelocate entries apart none = none (base_index line)
member_none lines head value base line op entries apart none = refl

pub group_without : (lines : List Line) (front : Pairs) (place value at head base : ℕ) → is_member (line_in lines place).inst.op ≡ false → IsWithin lines place value at
    → head_at lines at ≡ Some head → finds_wanted lines place (bases.Value base) None → pairs_at lines front place (named value) (Named (named base)) ≡ false
group_without lines front place value at head base outside within found none =
    let low = first_low lines place in
    let is = head_is lines place at head found (omega (arith, low.0, within.low)) within.high in
    let apart : (value == base) ≡ false = ne_eqb value base (λ same. none at within.low within.high (within.gives ∙ ap Some same)) in
    from_group lines front place value at head (Named (named base)) within found (λ k up down ended. base_not_given lines place (bases.Value base) k none up down)
    ∙ member_none lines head value base (line_in lines at) (line_in lines at).inst.op (entries_at lines head) apart
    (λ entry. relocated_none lines head base entry (entries_at lines head) is.statepoint
    (λ k below there gives. none k (first_high lines place k (omega (arith, is.start_is)) (omega (arith, is.past)))
    (member_before lines place head k outside is.start_is there below) gives))

member_is : (lines : List Line) (head value base : ℕ) (line given : Line) (op : Op) (entries : List Operand)
    → ((entry : ℕ) → relocated_pairs entries (group_in lines head) entry (Named (named base)) ≡ relocates_base entry given)
    → member_pairs entries (group_in lines head) value line op (Named (named base)) ≡ member_named value line op base given
member_is lines head value base line given GcResult entries is = refl
member_is lines head value base line given GcRelocate entries is = is (base_index line)
member_is lines head value base line given op entries is = refl

pub group_with : (lines : List Line) (front : Pairs) (place value at head base given : ℕ) → IsWithin lines place value at → head_at lines at ≡ Some head
    → IsWithin lines place base given → pairs_at lines front place (named value) (Named (named base)) ≡ with_base lines value at base given
group_with lines front place value at head base given within found base_within = by (head_at lines given) refl
  where
    low : (start_at lines place ≤ first_of lines place) × (phi_count lines ≤ first_of lines place)
    low = first_low lines place

    is : IsHead lines place at head
    is = head_is lines place at head found (omega (arith, low.0, within.low)) within.high

    by : (other : Option ℕ) → head_at lines given ≡ other → pairs_at lines front place (named value) (Named (named base)) ≡ with_base lines value at base given
    by None none =
        definition_gone lines front place value at base given within base_within none
        (λ k up down same. none-some head (sym (head_ended lines given k none up (λ j above below. no_statepoint lines place j (omega (arith, low.0, base_within.low)) (omega arith))) ∙ ap (head_at lines) same ∙ found))
        ∙ sym (ap (λ (o : Option ℕ). named_under o value (line_in lines at) base (line_in lines given)) none)
    by (Some other) there =
        let also = head_is lines place given other there (omega (arith, low.0, base_within.low)) base_within.high in
        let same : other ≡ head = omega (arith, also.start_is, is.start_is) in
        let in_group : head_at lines given ≡ Some head = there ∙ ap Some same in
        from_group lines front place value at head (Named (named base)) within found
        (λ k up down ended. base_only lines base given k base_within.only (λ e. none-some other (sym ended ∙ ap (head_at lines) e ∙ there)))
        ∙ member_is lines head value base (line_in lines at) (line_in lines given) (line_in lines at).inst.op (entries_at lines head)
        (λ entry. relocated_named lines head given base entry (entries_at lines head) is.statepoint in_group (omega (arith, also.below, same)) base_within.gives base_within.only)
        ∙ sym (ap (λ (o : Option ℕ). named_under o value (line_in lines at) base (line_in lines given)) there)

-- a value that no line behind the last statepoint gives
pub value_lost : (lines : List Line) (place value head : ℕ) (base : Base) → is_member (line_in lines place).inst.op ≡ false → start_at lines place ≡ suc head
    → FindsWithin lines place value None → after_group (entries_at lines head) (group_in lines head) (named value) base ≡ false
value_lost lines place value head base outside is none =
    let statepoint = start_is lines place head is in
    group_gives_none lines head value (entries_at lines head) base statepoint
    (λ k below there gives. none k (first_high lines place k (omega (arith, is)) (omega (arith, statepoint_past lines head statepoint)))
    (member_before lines place head k outside is there below) gives)

-- ---- of facts

pub decides_by : (func : Function) (asked : Fact) (value : ℕ) (base : Wanted) (answer : Bool) → asked.pointer ≡ pointers.Value value → asked.base ≡ base
    → ((front : Pairs) → pairs_at (lines_at func asked.block) front asked.place (named value) (base_in base) ≡ answer) → Decides func asked answer
decides_by func asked value base answer pointer is each front sound =
    ap (λ (p : Pointer). pairs_at (lines_at func asked.block) front asked.place (operand_in p) (base_in asked.base)) pointer
    ∙ ap (λ (b : Wanted). pairs_at (lines_at func asked.block) front asked.place (named value) (base_in b)) is ∙ each front

-- `null` has itself
pub null_decides : (func : Function) (asked : Fact) (base : Wanted) → asked.pointer ≡ pointers.Null → asked.base ≡ base
    → ((pairs : Pairs) → IsSound pairs → pairs Null (base_in base) ≡ true) → Decides func asked true
null_decides func asked base pointer is each front sound =
    ap (λ (p : Pointer). pairs_at (lines_at func asked.block) front asked.place (operand_in p) (base_in asked.base)) pointer
    ∙ ap (λ (b : Wanted). pairs_at (lines_at func asked.block) front asked.place Null (base_in b)) is
    ∙ each (pairs_at (lines_at func asked.block) front asked.place) (pairs_sound (lines_at func asked.block) front asked.place sound)

defined_gone : (lines : List Line) (front : Pairs) (place value at given : ℕ) (base : Wanted) → IsWithin lines place value at → head_at lines at ≡ None
    → finds_wanted lines place base (Some given) → at < given → pairs_at lines front place (named value) (base_in base) ≡ false
defined_gone lines front place value at given bases.Any within none found later = absurd (none-some given (sym found))
defined_gone lines front place value at given bases.Null within none found later = absurd (none-some given (sym found))
defined_gone lines front place value at given (bases.Value base) within none found later =
    let low = first_low lines place in
    let plain = plain_behind lines place at given (omega (arith, low.0, within.low)) (omega (arith, low.1, within.low)) none (omega arith) found.high in
    definition_gone lines front place value at base given within found plain.0 (λ k up down same. omega (arith, same))

defined_same : (lines : List Line) (front : Pairs) (place value at given : ℕ) (base : Wanted) → IsWithin lines place value at → head_at lines at ≡ None
    → finds_wanted lines place base (Some given) → given ≤ at
    → pairs_at lines front place (named value) (base_in base) ≡ pairs_at lines front (suc at) (named value) (base_in base)
defined_same lines front place value at given bases.Any within none found earlier = absurd (none-some given (sym found))
defined_same lines front place value at given bases.Null within none found earlier = absurd (none-some given (sym found))
defined_same lines front place value at given (bases.Value base) within none found earlier =
    from_definition lines front place value at (Named (named base)) within none
    (λ k up down. base_only lines base given k found.only (λ same. omega (arith, same)))

defined_free : (lines : List Line) (front : Pairs) (place value at : ℕ) (base : Wanted) → IsWithin lines place value at → head_at lines at ≡ None
    → finds_wanted lines place base None
    → pairs_at lines front place (named value) (base_in base) ≡ pairs_at lines front (suc at) (named value) (base_in base)
defined_free lines front place value at base within none free =
    let low = first_low lines place in
    from_definition lines front place value at (base_in base) within none
    (λ k up down. base_not_given lines place base k free (omega (arith, within.low)) down)

behind_definition : (func : Function) (asked : Fact) (value at : ℕ) → IsPlace func asked.block asked.place → asked.pointer ≡ pointers.Value value
    → IsWithin (lines_at func asked.block) asked.place value at → head_at (lines_at func asked.block) at ≡ None
    → ((front : Pairs) → pairs_at (lines_at func asked.block) front asked.place (named value) (base_in asked.base) ≡ pairs_at (lines_at func asked.block) front (suc at) (named value) (base_in asked.base))
    → SettlesBy func asked (record asked { place = suc at })
behind_definition func asked value at place pointer within none same = record {
  settled = record {
    block_inside = place.block_inside;
    kind = inr (record {
      at = at;
      value = value;
      pointer = pointer;
      behind = refl;
      inside = omega (arith, within.high, place.place_inside);
      past = omega (arith, (first_low (lines_at func asked.block) asked.place).1, within.low);
      plain = none;
      gives = within.gives;
      only = within.only;
    });
  };
  block = refl;
  up = inl within.high;
  same = λ front sound.
      subst (λ (p : Pointer). pairs_at (lines_at func asked.block) front asked.place (operand_in p) (base_in asked.base) ≡ pairs_at (lines_at func asked.block) front (suc at) (operand_in p) (base_in asked.base))
      (sym pointer) (same front);
}

pub settles_defined : (func : Function) (asked : Fact) (value at : ℕ) (base_at : Option ℕ) → IsPlace func asked.block asked.place → asked.pointer ≡ pointers.Value value
    → IsWithin (lines_at func asked.block) asked.place value at → head_at (lines_at func asked.block) at ≡ None
    → finds_wanted (lines_at func asked.block) asked.place asked.base base_at → Settles func asked (settled_defined asked at base_at)
settles_defined func asked value at None place pointer within none found =
    behind_definition func asked value at place pointer within none (λ front. defined_free (lines_at func asked.block) front asked.place value at asked.base within none found)
settles_defined func asked value at (Some given) place pointer within none found = elim (cases_lt at given) [
  | inl later ↦ subst (λ (b : Bool). Settles func asked (cond b Never (Asks (record asked { place = suc at })))) (sym (lt-ltb at given later))
      (decides_by func asked value asked.base false pointer refl (λ front. defined_gone (lines_at func asked.block) front asked.place value at given asked.base within none found later))
  | inr earlier ↦ subst (λ (b : Bool). Settles func asked (cond b Never (Asks (record asked { place = suc at })))) (sym (le-ltb at given earlier))
      (behind_definition func asked value at place pointer within none (λ front. defined_same (lines_at func asked.block) front asked.place value at given asked.base within none found earlier))
]

-- from the front of the block
pub settles_front : (func : Function) (asked fact : Fact) → fact ≡ record asked { place = phi_count (lines_at func asked.block) } → IsPlace func asked.block asked.place
    → start_at (lines_at func asked.block) asked.place ≡ 0 → IsNotGiven (lines_at func asked.block) asked → finds_wanted (lines_at func asked.block) asked.place asked.base None
    → SettlesBy func asked fact
settles_front func asked fact fact_is place start not_given free = subst (SettlesBy func asked) (sym fact_is) (record {
  settled = record { block_inside = place.block_inside; kind = inl refl };
  block = refl;
  up = inr refl;
  same = λ front sound. from_front (lines_at func asked.block) front asked.place (operand_in asked.pointer) asked.base start not_given free;
})
