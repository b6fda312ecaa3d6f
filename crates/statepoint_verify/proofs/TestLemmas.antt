-- The faults that the text decides, by their tests.
use Rattle.std.proofs.Common.{◌≡◌, ◌∙◌, inl, inr, ℕ, ◌-◌, ◌<◌, Bool, true, false, not, List, Option, Some, None, refl, ap, sym, subst, length}
use Rattle.std.specs.Prelude.{◌&&◌, nat_eq, slice_get}
use Rattle.std.specs.List.{list_any, position}
use Rattle.std.specs.Option.{option_map_or}
use Rattle.std.proofs.lemmas.Bool.{false≢true, cases_Bool, not-true, not_from_false, and_parts, and_from}
use Rattle.std.proofs.lemmas.Option.{none-some, same_Some, slice_get-get_or}
use Rattle.ir_ast.specs.declared.types.Ty.{Ty}
use Rattle.ir_ast.specs.declared.ops.Callee.{Callee}
use Rattle.ir_ast.specs.declared.ops.Callee.TheVariants.{Check}
use Rattle.ir_ast.specs.declared.ops.Operand.{Operand}
use Rattle.ir_ast.specs.declared.ops.Operand.TheVariants.{Value, Int, Null, Fun}
use Rattle.ir_ast.specs.declared.ops.Op.{Op}
use Rattle.ir_ast.specs.declared.ops.Op.TheVariants.{Call}
use Rattle.ir_ast.specs.Insts.{Instruction}
use Rattle.ir_ast.specs.Callees.{is_leaf}
use Rattle.ir_ast.specs.Ops.{is_call}
use Rattle.ir_ast.specs.Types.{is_pointer}
use Rattle.ir_ast.specs.Faults.GroupShape.{entries_of, is_statepoint}
use Rattle.object_meaning.specs.Lines.{Line}
use Rattle.pair_facts.specs.Lines.{line_in, no_line, operand_at, same_operand, is_null, is_relocate, head_at, group_in}
use Rattle.pair_facts.specs.Pairs.{base_index, has_base}
use Rattle.pair_facts.specs.Uses.{entries_at, accessed_at, checks_access, is_checked, is_kept}
use Rattle.pair_facts.specs.Faults.{IsOpenGroup, IsUnchecked, IsPlainCall, IsLostValue}
use Rattle.pair_facts.proofs.PlaceLaws.{head_here}
use Rattle.fact_tables.proofs.TableLemmas.{last_line}
use Rattle.fact_tables.specs.declared.groups.Group.{Group}
use Rattle.statepoint_verify.specs.Tests.{checks_by, is_open_entry, is_open_in, is_open, is_unchecked_at, is_unchecked, is_plain_at, is_lost, loses}
use Rattle.fact_tables.specs.Groups.{IsKept, IsGroup, keeps_value}
use Rattle.statepoint_verify.specs.Kept.{opens_by, is_kept_by, is_lost_by}
use Rattle.object_meaning.proofs.LineLaws.{line_is}
use Rattle.list_laws.proofs.Tests.{contained_any, any_contained, any_same}

-- ---- lists

-- ---- a line by its place

pub stands_at : (lines : List Line) (place : ℕ) → place < length lines → slice_get lines place ≡ Some (line_in lines place)
stands_at lines place below = slice_get-get_or lines place no_line below

-- ---- open groups

pub open_found : (lines : List Line) (place : ℕ) → place < length lines → is_open lines place ≡ true → IsOpenGroup lines place
open_found lines place below h = by (head_at lines place) refl h
  where
    by : (found : Option ℕ) → head_at lines place ≡ found → is_open_in lines (line_in lines place) found ≡ true → IsOpenGroup lines place
    by None at h = absurd (false≢true h)
    by (Some head) at h =
        let line = line_in lines place in
        let first = and_parts (is_relocate line.inst.op) (not (is_null (operand_at (entries_at lines head) (base_index line))) && not (has_base (group_in lines head) (base_index line))) h in
        let second = and_parts (not (is_null (operand_at (entries_at lines head) (base_index line)))) (not (has_base (group_in lines head) (base_index line))) first.1 in
        record {
          head = head;
          line = line;
          relocates = record { stands = stands_at lines place below; relocate = first.0; in_group = at };
          named = not-true (is_null (operand_at (entries_at lines head) (base_index line))) second.0;
          lost = not-true (has_base (group_in lines head) (base_index line)) second.1;
        }

pub open_tests : (lines : List Line) (place : ℕ) → IsOpenGroup lines place → is_open lines place ≡ true
open_tests lines place is =
    let same = line_is lines place is.line is.relocates.stands in
    let entry = base_index is.line in
    ap (is_open_in lines (line_in lines place)) is.relocates.in_group
    ∙ ap (is_open_entry (entries_at lines is.head) (group_in lines is.head)) same
    ∙ and_from (is_relocate is.line.inst.op) (not (is_null (operand_at (entries_at lines is.head) entry)) && not (has_base (group_in lines is.head) entry)) is.relocates.relocate
    (and_from (not (is_null (operand_at (entries_at lines is.head) entry))) (not (has_base (group_in lines is.head) entry))
    (not_from_false (is_null (operand_at (entries_at lines is.head) entry)) is.named) (not_from_false (has_base (group_in lines is.head) entry) is.lost))

-- ---- accesses

pub unchecked_found : (lines : List Line) (place : ℕ) → place < length lines → is_unchecked lines place ≡ true → IsUnchecked lines place
unchecked_found lines place below h = by (accessed_at line.inst.op line.inst) refl h
  where
    line : Line
    line = line_in lines place

    by : (found : Option Operand) → accessed_at line.inst.op line.inst ≡ found → is_unchecked_at lines place line.inst.ty found ≡ true → IsUnchecked lines place
    by None at h = absurd (false≢true h)
    by (Some address) at h = record {
      line = line;
      stands = stands_at lines place below;
      address = address;
      accesses = at;
      unchecked = not-true (is_checked lines place address line.inst.ty) h;
    }

pub unchecked_tests : (lines : List Line) (place : ℕ) → IsUnchecked lines place → is_unchecked lines place ≡ true
unchecked_tests lines place is =
    ap (λ (line : Line). is_unchecked_at lines place line.inst.ty (accessed_at line.inst.op line.inst)) (line_is lines place is.line is.stands)
    ∙ ap (is_unchecked_at lines place is.line.inst.ty) is.accesses
    ∙ not_from_false (is_checked lines place is.address is.line.inst.ty) is.unchecked

-- ---- plain calls

record IsWaiting (op : Op) : Type 0 where
  callee : Callee
  types : List Ty
  is : op ≡ Call callee types
  waits : is_leaf callee ≡ false

waiting : (op : Op) → is_call op ≡ true → IsWaiting op
waiting (Call callee types) h = record { callee = callee; types = types; is = refl; waits = not-true (is_leaf callee) h }
waiting op h = absurd (false≢true h)

pub plain_found : (lines : List Line) (place : ℕ) → place < length lines → is_plain_at lines place ≡ true → IsPlainCall lines place
plain_found lines place below h =
    let found = waiting (line_in lines place).inst.op h in
    record { line = line_in lines place; stands = stands_at lines place below; callee = found.callee; types = found.types; op = found.is; waits = found.waits }

pub plain_tests : (lines : List Line) (place : ℕ) → IsPlainCall lines place → is_plain_at lines place ≡ true
plain_tests lines place is =
    ap (λ (line : Line). is_call line.inst.op) (line_is lines place is.line is.stands) ∙ ap is_call is.op ∙ not_from_false (is_leaf is.callee) is.waits

-- ---- lost values

pub lost_found : (lines : List Line) (place : ℕ) → place < length lines → loses lines place ≡ true → IsLostValue lines place
lost_found lines place below h =
    let line = line_in lines place in
    let test = is_lost (entries_at lines place) (group_in lines place) in
    let parts = and_parts (is_statepoint line.inst.op) (list_any test line.inst.bundle) h in
    let found = any_contained test line.inst.bundle parts.1 in
    let entry = found.0 in
    let lost = and_parts (is_pointer entry.0) (not (is_kept (entries_at lines place) (group_in lines place) entry.1)) found.2 in
    record {
      line = line;
      stands = stands_at lines place below;
      op = parts.0;
      entry = entry;
      contained = found.1;
      pointer = lost.0;
      lost = not-true (is_kept (entries_at lines place) (group_in lines place) entry.1) lost.1;
    }

pub lost_tests : (lines : List Line) (place : ℕ) → IsLostValue lines place → loses lines place ≡ true
lost_tests lines place is =
    let test = is_lost (entries_at lines place) (group_in lines place) in
    ap (λ (line : Line). is_statepoint line.inst.op && list_any test line.inst.bundle) (line_is lines place is.line is.stands)
    ∙ and_from (is_statepoint is.line.inst.op) (list_any test is.line.inst.bundle) is.op
    (contained_any test is.line.inst.bundle is.entry is.contained
    (and_from (is_pointer is.entry.0) (not (is_kept (entries_at lines place) (group_in lines place) is.entry.1)) is.pointer
    (not_from_false (is_kept (entries_at lines place) (group_in lines place) is.entry.1) is.lost)))

-- ---- the tests by what a group keeps

pub opens_here : (lines : List Line) (place : ℕ) (group : Group) → IsGroup lines (head_at lines place) group
    → opens_by (entries_of (line_in lines group.head).inst) (line_in lines place).inst group.kept.bases.keys ≡ is_open lines place
opens_here lines place group is =
    let line = line_in lines place in
    ap (λ b. is_relocate line.inst.op && (not (is_null (operand_at (entries_at lines group.head) (base_index line))) && not b)) (is.kept.bases (base_index line))
    ∙ sym (ap (is_open_in lines line) is.head_is)

pub opens_none : (lines : List Line) (place : ℕ) → head_at lines place ≡ None → false ≡ is_open lines place
opens_none lines place none = sym (ap (is_open_in lines (line_in lines place)) none)

kept_same : (entries : List Operand) (group : List Line) (values : List ℕ) (operand : Operand)
    → ((entry : ℕ) → list_any (nat_eq entry) values ≡ list_any (keeps_value entry) group) → is_kept_by entries values operand ≡ is_kept entries group operand
kept_same entries group values (Value value) same = by (position (λ entry. same_operand entry (Value value)) entries)
  where
    by : (found : Option ℕ) → option_map_or (λ place. list_any (nat_eq place) values) found false ≡ option_map_or (λ place. list_any (keeps_value place) group) found false
    by None = refl
    by (Some place) = same place
kept_same entries group values (Int number) same = refl
kept_same entries group values Null same = refl
kept_same entries group values (Fun func) same = refl

pub loses_here : (lines : List Line) (place : ℕ) (group : Group) → IsGroup lines (head_at lines place) group
    → (is_statepoint (line_in lines place).inst.op && list_any (is_lost_by (entries_of (line_in lines place).inst) group.kept.values.keys) (line_in lines place).inst.bundle)
    ≡ loses lines place
loses_here lines place group is = elim (cases_Bool (is_statepoint line.inst.op)) [
  | inr other ↦ ap (λ b. b && list_any by_sets line.inst.bundle) other ∙ sym (ap (λ b. b && list_any by_lines line.inst.bundle) other)
  | inl own ↦ ap (λ b. is_statepoint line.inst.op && b) (any_same by_sets by_lines line.inst.bundle (each own))
]
  where
    line : Line
    line = line_in lines place

    by_sets : Ty × Operand → Bool
    by_sets = is_lost_by (entries_of line.inst) group.kept.values.keys

    by_lines : Ty × Operand → Bool
    by_lines = is_lost (entries_at lines place) (group_in lines place)

    each : is_statepoint line.inst.op ≡ true → (entry : Ty × Operand) → by_sets entry ≡ by_lines entry
    each own entry =
        let same : group.head ≡ place = same_Some group.head place (sym is.head_is ∙ head_here lines place own) in
        let kept = subst (λ (head : ℕ). IsKept (group_in lines head) group.kept) same is.kept in
        ap (λ b. is_pointer entry.0 && not b) (kept_same (entries_at lines place) (group_in lines place) group.kept.values.keys entry.1 kept.values)

pub loses_none : (lines : List Line) (place : ℕ) → head_at lines place ≡ None → false ≡ loses lines place
loses_none lines place none = elim (cases_Bool (is_statepoint (line_in lines place).inst.op)) [
  | inr other ↦ sym (ap (λ b. b && list_any (is_lost (entries_at lines place) (group_in lines place)) (line_in lines place).inst.bundle) other)
  | inl own ↦ absurd (none-some place (sym none ∙ head_here lines place own))
]

-- ---- checks

by_op : (address : Operand) (ty : Ty) (inst : Instruction) (op : Op) → checks_by address ty (record inst { op = op })
    ≡ checks_access address ty (record { to = None; inst = record inst { op = op } })
by_op address ty inst (Call Check types) = refl
by_op address ty inst op = refl

-- the line before the place has this instruction
pub checked_before : (lines : List Line) (place : ℕ) (address : Operand) (ty : Ty) → 0 < place → place < length lines
    → checks_by address ty (line_in lines (place - 1)).inst ≡ is_checked lines place address ty
checked_before lines place address ty low high =
    by_op address ty (line_in lines (place - 1)).inst (line_in lines (place - 1)).inst.op
    ∙ sym (ap (λ (last : Option Line). option_map_or (checks_access address ty) last false) (last_line lines place low high))
