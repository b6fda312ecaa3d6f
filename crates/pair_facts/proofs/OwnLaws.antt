-- A named base has itself as its base: kept by lines, groups and edges.
use Rattle.std.proofs.Common.{◌≡◌, ◌∙◌, ◌⊎◌, inl, inr, ℕ, zero, suc, cond, Bool, true, false, List, [], ◌∷◌, Option, Some, None, refl, ap, sym, subst, slice_get, length, nat_lt}
use Rattle.std.specs.Prelude.{◌&&◌, ◌==◌}
use Rattle.std.specs.List.{list_any}
use Rattle.std.specs.Option.{option_map_or}
use Rattle.std.proofs.lemmas.Bool.{false≢true, cases_lt, eqb-true, eq-eqb, and_parts, or_cases, or_left, and_from}
use Rattle.std.proofs.lemmas.List.Sums.{prefix_len_passes}
use Rattle.std.proofs.lemmas.Option.{none-some, get_or_from_slice_get}
use Rattle.ir_ast.specs.declared.ops.Operand.{Operand}
use Rattle.ir_ast.specs.declared.ops.Operand.TheVariants.{Value, Int, Null, Fun}
use Rattle.ir_ast.specs.declared.ops.Op.{Op}
use Rattle.ir_ast.specs.declared.ops.Op.TheVariants.{Select, Gep, Load, GcResult, GcRelocate}
use Rattle.ir_ast.specs.Insts.{Instruction}
use Rattle.ir_ast.specs.Funcs.{Function}
use Rattle.ir_ast.specs.Types.{is_pointer}
use Rattle.ir_ast.specs.Faults.GroupShape.{is_statepoint, entries_of}
use Rattle.ir_ast.specs.Faults.PhiEdges.{is_phi}
use Rattle.object_meaning.specs.Lines.{Line}
use Rattle.object_meaning.specs.Frames.{is_member}
use Rattle.object_meaning.specs.Jumps.{phi_count}
use Rattle.pair_facts.specs.declared.bases.Base.{Base}
use Rattle.pair_facts.specs.declared.bases.Base.TheVariants.{Named}
use Rattle.pair_facts.specs.Lines.{lines_at, line_in, no_line, line_before, phis_in, head_at, group_in, gives, operand_at, is_select, is_relocate, named}
use Rattle.pair_facts.specs.Pairs.{Pairs, is_named, is_base_named, at_entry, without, with_own, with_given, are_own, follows, follows_named, selected, given_pairs, after, base_index, derived_index, relocates_base, relocated_pairs, member_pairs, after_group, along, on_edge}
use Rattle.pair_facts.specs.Paths.{behind, pairs_at, pairs_at_end, Arrives, start, went}
use Rattle.pair_facts.proofs.FreshLaws.{IsSound, int, function, follows_pairs, pairs_sound, arrives_sound}
use Rattle.pair_facts.proofs.PlaceLaws.{IsPlainAt, after_given, behind_line}
use Rattle.pair_facts.proofs.GroupLaws.{given_is}
use Rattle.list_laws.proofs.Tests.{any_weaker}

abbrev pub Own : Pairs → Type 0
Own pairs = (operand : Operand) (value : ℕ) → pairs operand (Named (named value)) ≡ true → pairs (named value) (Named (named value)) ≡ true

-- any base has itself
own_base : (pairs : Pairs) (operand base : Operand) → IsSound pairs → Own pairs → pairs operand (Named base) ≡ true → pairs base (Named base) ≡ true
own_base pairs operand (Value value) sound own h = own operand value.0 h
own_base pairs operand Null sound own h = sound.null_own
own_base pairs operand (Int number) sound own h = absurd (false≢true (sym (sound.no_literal_base operand (Int number) (int number)) ∙ h))
own_base pairs operand (Fun func) sound own h = absurd (false≢true (sym (sound.no_literal_base operand (Fun func) (function func)) ∙ h))

without_true : (value : ℕ) (pairs : Pairs) (operand : Operand) (base : Base) → without value pairs operand base ≡ true → pairs operand base ≡ true
without_true value pairs operand base h = by (is_named value operand) (is_base_named value base) h
  where
    by : (b c : Bool) → cond b false (cond c false (pairs operand base)) ≡ true → pairs operand base ≡ true
    by true c h = absurd (false≢true h)
    by false true h = absurd (false≢true h)
    by false false h = h

-- ---- a select over the select before it

-- the line before is a select of pointers: it has itself where its operands have themselves
abbrev LastOwn : Pairs → Option Line → Type 0
LastOwn pairs last = (line : Line) (value : ℕ) → last ≡ Some line → is_select line.inst.op ≡ true → is_pointer line.inst.ty ≡ true → line.to ≡ Some value
    → are_own pairs line.inst.operands ≡ true → pairs (named value) (Named (named value)) ≡ true

pub named_is : (value : ℕ) (operand : Operand) → is_named value operand ≡ true → operand ≡ named value
named_is value (Value other) h = ap (λ (n : ℕ). named n) (sym (eqb-true value other.0 h))
named_is value (Int number) h = absurd (false≢true h)
named_is value Null h = absurd (false≢true h)
named_is value (Fun func) h = absurd (false≢true h)

-- behind a definition, an operand that has itself had so before, or is what was defined
own_before : (pairs : Pairs) (last : Option Line) (line : Line) (value : ℕ) (operand : Operand) → line.to ≡ Some value
    → after pairs last line operand (Named operand) ≡ true
    → (after pairs last line (named value) (Named (named value)) ≡ true) ⊎ (without value pairs operand (Named operand) ≡ true)
own_before pairs last line value operand is h = by (is_named value operand) refl
  where
    own : Base → Bool
    own base = given_pairs (without value pairs) last line.inst line.inst.op value base

    opened : with_own value own pairs operand (Named operand) ≡ true
    opened = sym (ap (λ (to : Option ℕ). with_given to (λ value. given_pairs (without value pairs) last line.inst line.inst.op value) pairs operand (Named operand)) is) ∙ h

    by : (b : Bool) → is_named value operand ≡ b
        → (after pairs last line (named value) (Named (named value)) ≡ true) ⊎ (without value pairs operand (Named operand) ≡ true)
    by true here = inl (subst (λ (o : Operand). after pairs last line o (Named o) ≡ true) (named_is value operand here) h)
    by false other = inr (sym (ap (λ b. cond b (own (Named operand)) (without value pairs operand (Named operand))) other) ∙ opened)

select_given : (pairs : Pairs) (last : Option Line) (inst : Instruction) (op : Op) (value : ℕ) → is_select op ≡ true → is_pointer inst.ty ≡ true
    → are_own pairs inst.operands ≡ true → given_pairs pairs last inst op value (Named (named value)) ≡ true
select_given pairs last inst Select value is pointer own =
    and_from (is_pointer inst.ty) (selected pairs last inst.operands value (Named (named value))) pointer
    (or_left (is_named value (named value) && are_own pairs inst.operands) (follows_named pairs last inst.operands (named value))
    (and_from (is_named value (named value)) (are_own pairs inst.operands) (itself value) own))
  where
    itself : (value : ℕ) → is_named value (named value) ≡ true
    itself value = eq-eqb value value refl
select_given pairs last inst op value is pointer own = absurd (false≢true is)

select_own : (pairs : Pairs) (last : Option Line) (line : Line) (value : ℕ) → is_select line.inst.op ≡ true → is_pointer line.inst.ty ≡ true → line.to ≡ Some value
    → are_own (after pairs last line) line.inst.operands ≡ true → after pairs last line (named value) (Named (named value)) ≡ true
select_own pairs last line value is pointer to own =
    let first = operand_at line.inst.operands 1 in
    let second = operand_at line.inst.operands 2 in
    let two = and_parts (after pairs last line first (Named first)) (after pairs last line second (Named second)) own in
    elim (own_before pairs last line value first to two.0) [
      | inl done ↦ done
      | inr one ↦ elim (own_before pairs last line value second to two.1) [
        | inl done ↦ done
        | inr other ↦ after_given pairs last line (Named (named value)) value to
            ∙ select_given (without value pairs) last line.inst line.inst.op value is pointer
            (and_from (without value pairs first (Named first)) (without value pairs second (Named second)) one other)
      ]
    ]

follows_own : (pairs left : Pairs) (last : Option Line) (operands : List Operand) (value : ℕ) → IsSound pairs → Own pairs → LastOwn pairs last
    → ((operand : Operand) (base : Base) → left operand base ≡ true → pairs operand base ≡ true)
    → follows_named left last operands (named value) ≡ true → pairs (named value) (Named (named value)) ≡ true
follows_own pairs left None operands value sound own last_own weaker h = absurd (false≢true h)
follows_own pairs left (Some line) operands value sound own last_own weaker h =
    let two = and_parts (gives line value) (follows left operands line) h in
    let each = follows_pairs left operands line two.1 in
    let kind = and_parts (is_select line.inst.op) (is_pointer line.inst.ty) (kind_of left operands line two.1) in
    let first = operand_at line.inst.operands 1 in
    let second = operand_at line.inst.operands 2 in
    last_own line value refl kind.0 kind.1 (given_is line value two.0)
    (and_from (pairs first (Named first)) (pairs second (Named second))
    (own_base pairs (operand_at operands 1) first sound own (weaker (operand_at operands 1) (Named first) each.0))
    (own_base pairs (operand_at operands 2) second sound own (weaker (operand_at operands 2) (Named second) each.1)))
  where
    kind_of : (left : Pairs) (operands : List Operand) (line : Line) → follows left operands line ≡ true → (is_select line.inst.op && is_pointer line.inst.ty) ≡ true
    kind_of left operands line h = (and_parts (is_select line.inst.op && is_pointer line.inst.ty) _ h).0

-- ---- a line

-- what a line gives has a named base other than itself only where that base has itself
given_own : (pairs left : Pairs) (last : Option Line) (inst : Instruction) (op : Op) (value other : ℕ) → IsSound pairs → Own pairs → LastOwn pairs last
    → ((operand : Operand) (base : Base) → left operand base ≡ true → pairs operand base ≡ true)
    → (value == other) ≡ false → given_pairs left last inst op value (Named (named other)) ≡ true → pairs (named other) (Named (named other)) ≡ true
given_own pairs left last inst Load value other sound own last_own weaker apart h =
    absurd (false≢true (sym apart ∙ (and_parts (is_pointer inst.ty) (value == other) h).1))
given_own pairs left last inst (Gep elem index_width place) value other sound own last_own weaker apart h =
    own (operand_at inst.operands 0) other (weaker (operand_at inst.operands 0) (Named (named other)) h)
given_own pairs left last inst Select value other sound own last_own weaker apart h =
    let chosen = (and_parts (is_pointer inst.ty) (selected left last inst.operands value (Named (named other))) h).1 in
    elim (or_cases ((value == other) && are_own left inst.operands) (follows_named left last inst.operands (named other)) chosen) [
      | inl itself ↦ absurd (false≢true (sym apart ∙ (and_parts (value == other) (are_own left inst.operands) itself).0))
      | inr next ↦ follows_own pairs left last inst.operands other sound own last_own weaker next
    ]
given_own pairs left last inst op value other sound own last_own weaker apart h = absurd (false≢true h)

defined_own : (value other : ℕ) (given : Base → Bool) (pairs : Pairs) (operand : Operand)
    → ((value == other) ≡ false → given (Named (named other)) ≡ true → pairs (named other) (Named (named other)) ≡ true)
    → (pairs operand (Named (named other)) ≡ true → pairs (named other) (Named (named other)) ≡ true)
    → with_own value given pairs operand (Named (named other)) ≡ true → with_own value given pairs (named other) (Named (named other)) ≡ true
defined_own value other given pairs operand from_given from_pairs h = by (value == other) (is_named value operand) from_given h
  where
    by : (e t : Bool) → (e ≡ false → given (Named (named other)) ≡ true → pairs (named other) (Named (named other)) ≡ true)
        → cond t (given (Named (named other))) (cond t false (cond e false (pairs operand (Named (named other))))) ≡ true
        → cond e (given (Named (named other))) (cond e false (cond e false (pairs (named other) (Named (named other))))) ≡ true
    by true true from_given h = h
    by true false from_given h = absurd (false≢true h)
    by false true from_given h = from_given refl h
    by false false from_given h = from_pairs h

after_own : (pairs : Pairs) (last : Option Line) (line : Line) → IsSound pairs → Own pairs → LastOwn pairs last → Own (after pairs last line)
after_own pairs last line sound own last_own operand other h = by line.to h
  where
    by : (to : Option ℕ) → with_given to (λ value. given_pairs (without value pairs) last line.inst line.inst.op value) pairs operand (Named (named other)) ≡ true
        → with_given to (λ value. given_pairs (without value pairs) last line.inst line.inst.op value) pairs (named other) (Named (named other)) ≡ true
    by None h = own operand other h
    by (Some value) h = defined_own value other (given_pairs (without value pairs) last line.inst line.inst.op value) pairs operand
        (λ apart given. given_own pairs (without value pairs) last line.inst line.inst.op value other sound own last_own (without_true value pairs) apart given)
        (own operand other) h

-- ---- a group

list_any_found : {A : Type 0} (p : A → Bool) (xs : List A) → list_any p xs ≡ true → (x : A) × (p x ≡ true)
list_any_found p [] h = absurd (false≢true h)
list_any_found p (x ∷ xs) h = elim (or_cases (p x) (list_any p xs) h) [
  | inl here ↦ (x, here)
  | inr later ↦ list_any_found p xs later
]

relocate_pairs : (entries : List Operand) (group : List Line) (value : ℕ) (line : Line) (op : Op) (base : Base) → is_relocate op ≡ true
    → relocated_pairs entries group (base_index line) base ≡ true → member_pairs entries group value line op base ≡ true
relocate_pairs entries group value line GcRelocate base is h = h
relocate_pairs entries group value line op base is h = absurd (false≢true is)

base_own : (entries : List Operand) (group : List Line) (entry other : ℕ) → relocated_pairs entries group entry (Named (named other)) ≡ true
    → after_group entries group (named other) (Named (named other)) ≡ true
base_own entries group entry other h =
    any_weaker (λ line. gives line other && relocates_base entry line)
    (λ line. gives line other && member_pairs entries group other line line.inst.op (Named (named other))) group
    (λ line holds.
    let two = and_parts (gives line other) (relocates_base entry line) holds in
    let kind = and_parts (is_relocate line.inst.op) (base_index line == entry && derived_index line == entry) two.1 in
    let same : base_index line ≡ entry = eqb-true (base_index line) entry (and_parts (base_index line == entry) (derived_index line == entry) kind.1).0 in
    and_from (gives line other) (member_pairs entries group other line line.inst.op (Named (named other))) two.0
    (relocate_pairs entries group other line line.inst.op (Named (named other)) kind.0
    (subst (λ (e : ℕ). relocated_pairs entries group e (Named (named other)) ≡ true) (sym same) h))) h

member_own : (entries : List Operand) (group : List Line) (value other : ℕ) (line : Line) (op : Op) → after_group entries group (named value) (Named (named other)) ≡ true
    → member_pairs entries group value line op (Named (named other)) ≡ true → after_group entries group (named other) (Named (named other)) ≡ true
member_own entries group value other line GcResult all h =
    let same : value ≡ other = eqb-true value other (and_parts (is_pointer line.inst.ty) (value == other) h).1 in
    subst (λ (v : ℕ). after_group entries group (named v) (Named (named other)) ≡ true) same all
member_own entries group value other line GcRelocate all h = base_own entries group (base_index line) other h
member_own entries group value other line op all h = absurd (false≢true h)

group_own : (entries : List Operand) (group : List Line) → Own (after_group entries group)
group_own entries group Null other h = absurd (false≢true h)
group_own entries group (Value value) other h =
    let found = list_any_found (λ line. gives line value.0 && member_pairs entries group value.0 line line.inst.op (Named (named other))) group h in
    member_own entries group value.0 other found.0 found.0.inst.op h
    (and_parts (gives found.0 value.0) (member_pairs entries group value.0 found.0 found.0.inst.op (Named (named other))) found.1).1
group_own entries group (Int number) other h = absurd (false≢true h)
group_own entries group (Fun func) other h = absurd (false≢true h)

-- ---- along a block

select_plain : (op : Op) → is_select op ≡ true → (is_statepoint op ≡ false) × (is_member op ≡ false) × (is_phi op ≡ false)
select_plain Select is = (refl, refl, refl)
select_plain op is = absurd (false≢true is)

pub head_none : (lines : List Line) (place : ℕ) → is_statepoint (line_in lines place).inst.op ≡ false → is_member (line_in lines place).inst.op ≡ false → head_at lines place ≡ None
head_none lines zero = by (is_statepoint (line_in lines 0).inst.op) (is_member (line_in lines 0).inst.op)
  where
    by : (b c : Bool) → b ≡ false → c ≡ false → cond {A = Option ℕ} b (Some 0) (cond c None None) ≡ None
    by true c e f = absurd (false≢true (sym e))
    by false true e f = absurd (false≢true (sym f))
    by false false e f = refl
head_none lines (suc place) = by (is_statepoint (line_in lines (suc place)).inst.op) (is_member (line_in lines (suc place)).inst.op)
  where
    by : (b c : Bool) → b ≡ false → c ≡ false → cond {A = Option ℕ} b (Some (suc place)) (cond c (head_at lines place) None) ≡ None
    by true c e f = absurd (false≢true (sym e))
    by false true e f = absurd (false≢true (sym f))
    by false false e f = refl

select_plain_at : (lines : List Line) (place : ℕ) (line : Line) → slice_get lines place ≡ Some line → is_select line.inst.op ≡ true → IsPlainAt lines place
select_plain_at lines place line at is =
    let here : line_in lines place ≡ line = get_or_from_slice_get lines place line no_line at in
    let plain = select_plain (line_in lines place).inst.op (ap (λ (l : Line). is_select l.inst.op) here ∙ is) in (
      head_none lines place plain.0 plain.1,
      elim (cases_lt place (phi_count lines)) [
        | inl phi ↦ absurd (false≢true (sym plain.2 ∙ prefix_len_passes (λ (l : Line). is_phi l.inst.op) lines place no_line phi))
        | inr past ↦ past
      ],
    )

record OwnAt (lines : List Line) (pairs : Pairs) (place : ℕ) : Type 0 where
  pub own : Own pairs
  pub last_own : LastOwn pairs (line_before lines place)

behind_own : (lines : List Line) (place : ℕ) (pairs : Pairs) → IsSound pairs → OwnAt lines pairs place → Own (behind lines place pairs)
behind_own lines place pairs sound at = by (head_at lines place) (nat_lt place (phi_count lines))
  where
    by : (head : Option ℕ) (phi : Bool) → Own (option_map_or (λ head. after_group (entries_of (line_in lines head).inst) (group_in lines head)) head
        (cond phi pairs (after pairs (line_before lines place) (line_in lines place))))
    by (Some head) phi = group_own (entries_of (line_in lines head).inst) (group_in lines head)
    by None true = at.own
    by None false = after_own pairs (line_before lines place) (line_in lines place) sound at.own at.last_own

next_last : (lines : List Line) (place : ℕ) (pairs : Pairs) → LastOwn (behind lines place pairs) (slice_get lines place)
next_last lines place pairs line value at is pointer to own =
    let here : line_in lines place ≡ line = get_or_from_slice_get lines place line no_line at in
    let last = line_before lines place in
    let plain = select_plain_at lines place line at is in
    let same : (operand : Operand) (base : Base) → behind lines place pairs operand base ≡ after pairs last line operand base
    = λ operand base. behind_line lines place pairs operand base plain ∙ ap (λ (l : Line). after pairs last l operand base) here in
    let first = operand_at line.inst.operands 1 in
    let second = operand_at line.inst.operands 2 in
    let two = and_parts (behind lines place pairs first (Named first)) (behind lines place pairs second (Named second)) own in
    same (named value) (Named (named value))
    ∙ select_own pairs last line value is pointer to
    (and_from (after pairs last line first (Named first)) (after pairs last line second (Named second))
    (sym (same first (Named first)) ∙ two.0) (sym (same second (Named second)) ∙ two.1))

own_at : (lines : List Line) (front : Pairs) (place : ℕ) → IsSound front → Own front → OwnAt lines (pairs_at lines front place) place
own_at lines front zero sound own = record {
  own = own;
  last_own = λ line value at is pointer to both_own. absurd (none-some line at);
}
own_at lines front (suc place) sound own = record {
  own = behind_own lines place (pairs_at lines front place) (pairs_sound lines front place sound) (own_at lines front place sound own);
  last_own = next_last lines place (pairs_at lines front place);
}

-- ---- along a path

edge_own : (from : ℕ) (phis : List Line) (pairs : Pairs) → IsSound pairs → Own pairs → Own (on_edge from phis pairs)
edge_own from phis pairs sound own operand value h = own_base pairs (along from phis operand) (along from phis (named value)) sound own h

entry_own : (func : Function) → Own (at_entry func)
entry_own func Null other h = absurd (false≢true h)
entry_own func (Value value) other h =
    let pointer = option_map_or (λ arg. is_pointer arg.ty) (slice_get func.args value.0) false in
    let same : value.0 ≡ other = eqb-true value.0 other (and_parts pointer (value.0 == other) h).1 in
    subst (λ (v : ℕ). at_entry func (named v) (Named (named other)) ≡ true) same h
entry_own func (Int number) other h = absurd (false≢true h)
entry_own func (Fun func') other h = absurd (false≢true h)

pub arrives_own : (func : Function) (block : ℕ) (front : Pairs) → Arrives func block front → Own front
arrives_own func _ _ start = entry_own func
arrives_own func _ _ (went from to front arrives edge) =
    let sound = arrives_sound func from front arrives in
    let lines = lines_at func from in
    edge_own from (phis_in (lines_at func to)) (pairs_at_end lines front) (pairs_sound lines front (length lines) sound)
    (own_at lines front (length lines) sound (arrives_own func from front arrives)).own

pub own_along : (func : Function) (block place : ℕ) (front : Pairs) → Arrives func block front → Own (pairs_at (lines_at func block) front place)
own_along func block place front arrives =
    (own_at (lines_at func block) front place (arrives_sound func block front arrives) (arrives_own func block front arrives)).own
