-- Where a group ends, and the sets of what its relocates keep.
use Rattle.std.proofs.Common.{◌≡◌, ◌∙◌, ◌≤◌, ◌<◌, inl, inr, ℕ, zero, suc, ◌+◌, ◌-◌, cond, Bool, true, false, List, [], ◌∷◌, ◌++◌, Option, Some, None, refl, ap, sym, subst, length, arith, add-one, get_or, take, drop, length-drop, take_all}
use Rattle.std.specs.Prelude.{◌==◌, ◌&&◌, ◌||◌, nat_eq, slice_get}
use Rattle.std.specs.List.{list_any}
use Rattle.std.proofs.lemmas.Bool.{cases_Bool, eq-eqb, eqb-true, or_cases, or_left}
use Rattle.std.proofs.lemmas.List.{get_or-drop, get_or-take}
use Rattle.std.proofs.lemmas.List.Sums.{prefix_len_is, prefix_len-le-length}
use Rattle.std.proofs.lemmas.List.Folds.{list_any-append, list_any_more, length-prefix_len}
use Rattle.ir_ast.specs.Insts.{Instruction}
use Rattle.ir_ast.specs.Faults.GroupShape.{is_statepoint}
use Rattle.object_meaning.specs.Lines.{Line}
use Rattle.object_meaning.specs.Frames.{is_member, group_length, index_in}
use Rattle.pair_facts.specs.Lines.{line_in, no_line, head_at, head_here, group_in, is_relocate}
use Rattle.pair_facts.specs.Pairs.{relocates_base, base_index, has_base}
use Rattle.std.specs.Option.{option_map_or}
use Rattle.fact_tables.specs.Notes.{head_before, told}
use Rattle.fact_tables.specs.declared.groups.Group.{Group}
use Rattle.fact_tables.specs.declared.groups.Kept.{Kept}
use Rattle.fact_tables.specs.Groups.{IsKept, Keeps, KeepsBoth, relocates_base_of, keeps_value, keeps_value_of, IsGroupOf, is_based, is_based_by}
use Rattle.list_laws.proofs.Booleans.{or_false, same_tests}

-- ---- the statepoint of a line's group

pub head_next : (lines : List Line) (place : ℕ) → head_here (line_in lines place).inst.op place (head_before lines place) ≡ head_at lines place
head_next lines zero = refl
head_next lines (suc place) = refl

-- a result or a relocate is of the group of the line before
pub head_kept : (lines : List Line) (place : ℕ) → is_statepoint (line_in lines place).inst.op ≡ false → is_member (line_in lines place).inst.op ≡ true
    → head_before lines place ≡ head_at lines place
head_kept lines place apart member =
    sym (ap (λ b. cond {A = Option ℕ} b (Some place) (cond (is_member (line_in lines place).inst.op) (head_before lines place) None)) apart
    ∙ ap (λ b. cond {A = Option ℕ} b (head_before lines place) None) member) ∙ head_next lines place

-- ---- where a group ends

pub group_ends : (lines : List Line) (head place : ℕ) → head < place → place ≤ length lines
    → ((k : ℕ) → head < k → k < place → is_member (line_in lines k).inst.op ≡ true) → is_member (line_in lines place).inst.op ≡ false
    → place ≡ suc head + group_length (drop (suc head) lines)
group_ends lines head place low high each ended =
    let n = place - suc head in
    let tail = drop (suc head) lines in
    let test : Line → Bool = λ line. is_member line.inst.op in
    let back : suc head + n ≡ place = omega arith in
    let long : n ≤ length tail = omega (arith, length-drop (suc head) lines) in
    let is : group_length tail ≡ n = prefix_len_is test tail n no_line long
    (λ k below. ap test (get_or-drop (suc head) lines k no_line) ∙ each (suc head + k) (omega arith) (omega arith))
    (λ below. ap test (get_or-drop (suc head) lines n no_line) ∙ ap (λ (k : ℕ). test (line_in lines k)) back ∙ ended) in
    omega (arith, is)

-- ---- what the relocates keep

inserted : (keys : List ℕ) (value entry : ℕ)
    → list_any (nat_eq entry) (cond (list_any (nat_eq value) keys) keys (keys ++ value ∷ [])) ≡ (list_any (nat_eq entry) keys || (value == entry))
inserted keys value entry = elim (cases_Bool (list_any (nat_eq value) keys)) [
  | inl old ↦ ap (λ b. list_any (nat_eq entry) (cond b keys (keys ++ value ∷ []))) old ∙ stays old
  | inr new ↦ ap (λ b. list_any (nat_eq entry) (cond b keys (keys ++ value ∷ []))) new
      ∙ list_any-append (nat_eq entry) keys (value ∷ []) ∙ ap (λ b. list_any (nat_eq entry) keys || b) (or_false (nat_eq entry value) ∙ turned entry value)
]
  where
    turned : (a b : ℕ) → nat_eq a b ≡ nat_eq b a
    turned a b = same_tests (nat_eq a b) (nat_eq b a) (λ h. eq-eqb b a (sym (eqb-true a b h))) (λ h. eq-eqb a b (sym (eqb-true b a h)))

    stays : list_any (nat_eq value) keys ≡ true → list_any (nat_eq entry) keys ≡ (list_any (nat_eq entry) keys || (value == entry))
    stays old = same_tests (list_any (nat_eq entry) keys) (list_any (nat_eq entry) keys || (value == entry))
        (or_left (list_any (nat_eq entry) keys) (value == entry))
        (λ h. elim (or_cases (list_any (nat_eq entry) keys) (value == entry) h) [
          | inl there ↦ there
          | inr same ↦ subst (λ (n : ℕ). list_any (nat_eq n) keys ≡ true) (eqb-true value entry same) old
        ])

pub keeps_same : (base derived : ℕ) (old new : Kept) → base ≡ derived
    → new.values.keys ≡ cond (list_any (nat_eq derived) old.values.keys) old.values.keys (old.values.keys ++ derived ∷ [])
    → new.bases.keys ≡ cond (list_any (nat_eq base) old.bases.keys) old.bases.keys (old.bases.keys ++ base ∷ [])
    → KeepsBoth base derived old new
keeps_same base derived old new same values bases = record {
  bases = λ entry. ap (list_any (nat_eq entry)) bases ∙ inserted old.bases.keys base entry
      ∙ ap (λ b. list_any (nat_eq entry) old.bases.keys || b)
      (twice (base == entry) ∙ ap (λ (n : ℕ). (base == entry) && (n == entry)) same);
  values = λ entry. ap (list_any (nat_eq entry)) values ∙ inserted old.values.keys derived entry;
}
  where
    twice : (b : Bool) → b ≡ (b && b)
    twice true = refl
    twice false = refl

pub keeps_apart : (base derived : ℕ) (old new : Kept) → (base ≡ derived → ⊥)
    → new.values.keys ≡ cond (list_any (nat_eq derived) old.values.keys) old.values.keys (old.values.keys ++ derived ∷ [])
    → new.bases.keys ≡ old.bases.keys → KeepsBoth base derived old new
keeps_apart base derived old new apart values bases = record {
  bases = λ entry. ap (list_any (nat_eq entry)) bases
      ∙ sym (ap (λ b. list_any (nat_eq entry) old.bases.keys || b) (none entry) ∙ or_false (list_any (nat_eq entry) old.bases.keys));
  values = λ entry. ap (list_any (nat_eq entry)) values ∙ inserted old.values.keys derived entry;
}
  where
    none : (entry : ℕ) → ((base == entry) && (derived == entry)) ≡ false
    none entry = elim (cases_Bool (base == entry)) [
      | inr h ↦ ap (λ b. b && (derived == entry)) h
      | inl h ↦ ap (λ b. b && (derived == entry)) h ∙ (elim (cases_Bool (derived == entry)) [
        | inr off ↦ off
        | inl on ↦ absurd (apart (eqb-true base entry h ∙ sym (eqb-true derived entry on)))
      ])
    ]

pub keeps_relocate : (inst : Instruction) (base derived : ℕ) (old new : Kept) → is_relocate inst.op ≡ true
    → base ≡ index_in (slice_get inst.operands 1) → derived ≡ index_in (slice_get inst.operands 2) → KeepsBoth base derived old new → Keeps inst old new
keeps_relocate inst base derived old new is base_is derived_is keeps = record {
  bases = λ entry. keeps.bases entry ∙ ap (λ b. list_any (nat_eq entry) old.bases.keys || b)
      (ap (λ (n : ℕ). (n == entry) && (derived == entry)) base_is
      ∙ ap (λ (n : ℕ). (index_in (slice_get inst.operands 1) == entry) && (n == entry)) derived_is
      ∙ ap (λ b. b && ((index_in (slice_get inst.operands 1) == entry) && (index_in (slice_get inst.operands 2) == entry))) (sym is));
  values = λ entry. keeps.values entry ∙ ap (λ b. list_any (nat_eq entry) old.values.keys || b)
      (ap (λ (n : ℕ). n == entry) derived_is ∙ ap (λ b. b && (index_in (slice_get inst.operands 2) == entry)) (sym is));
}

pub keeps_other : (inst : Instruction) (kept : Kept) → is_relocate inst.op ≡ false → Keeps inst kept kept
keeps_other inst kept other = record {
  bases = λ entry. sym (ap (λ b. list_any (nat_eq entry) kept.bases.keys || (b && ((index_in (slice_get inst.operands 1) == entry) && (index_in (slice_get inst.operands 2) == entry)))) other
      ∙ or_false (list_any (nat_eq entry) kept.bases.keys));
  values = λ entry. sym (ap (λ b. list_any (nat_eq entry) kept.values.keys || (b && (index_in (slice_get inst.operands 2) == entry))) other
      ∙ or_false (list_any (nat_eq entry) kept.values.keys));
}

-- ---- a line of the group more

pub kept_none : (lines : List Line) (kept : Kept) → kept.bases.keys ≡ [] → kept.values.keys ≡ [] → IsKept (take 0 lines) kept
kept_none lines kept bases values = record {
  bases = λ entry. ap (list_any (nat_eq entry)) bases;
  values = λ entry. ap (list_any (nat_eq entry)) values;
}

length-group : (lines : List Line) (head : ℕ) → length (group_in lines head) ≡ group_length (drop (suc head) lines)
length-group lines head = length-prefix_len (λ (line : Line). is_member line.inst.op) (drop (suc head) lines)

pub kept_more : (lines : List Line) (head place : ℕ) (inst : Instruction) (old new : Kept) → head < place → place < suc head + group_length (drop (suc head) lines)
    → inst ≡ (line_in lines place).inst → Keeps inst old new → IsKept (take (place - suc head) (group_in lines head)) old
    → IsKept (take (place + 1 - suc head) (group_in lines head)) new
kept_more lines head place inst old new low high inst_is keeps kept =
    subst (λ (n : ℕ). IsKept (take n group) new) more (record {
      bases = λ entry. keeps.bases entry ∙ ap (λ b. b || relocates_base_of entry inst) (kept.bases entry)
          ∙ ap (λ b. list_any (relocates_base entry) (take i group) || b) (ap (relocates_base_of entry) inst_is ∙ ap (relocates_base entry) (sym line_is))
          ∙ sym (list_any_more (relocates_base entry) group i no_line inside);
      values = λ entry. keeps.values entry ∙ ap (λ b. b || keeps_value_of entry inst) (kept.values entry)
          ∙ ap (λ b. list_any (keeps_value entry) (take i group) || b) (ap (keeps_value_of entry) inst_is ∙ ap (keeps_value entry) (sym line_is))
          ∙ sym (list_any_more (keeps_value entry) group i no_line inside);
    })
  where
    group : List Line
    group = group_in lines head

    i : ℕ
    i = place - suc head

    more : i + 1 ≡ place + 1 - suc head
    more = omega arith

    short : i < group_length (drop (suc head) lines)
    short = omega arith

    inside : i < length group
    inside = omega (arith, length-group lines head, short)

    back : suc head + i ≡ place
    back = omega arith

    line_is : get_or group i no_line ≡ line_in lines place
    line_is = get_or-take (group_length (drop (suc head) lines)) (drop (suc head) lines) i no_line short
        ∙ get_or-drop (suc head) lines i no_line ∙ ap (λ (k : ℕ). get_or lines k no_line) back

pub kept_all : (lines : List Line) (head place : ℕ) (kept : Kept) → suc head + group_length (drop (suc head) lines) ≤ place
    → IsKept (take (place - suc head) (group_in lines head)) kept → IsKept (group_in lines head) kept
kept_all lines head place kept past is =
    let all : take (place - suc head) (group_in lines head) ≡ group_in lines head = take_all (place - suc head) (group_in lines head) (omega (arith, length-group lines head)) in
    subst (λ (xs : List Line). IsKept xs kept) all is

-- a line of a group is one of the block
pub group_inside : (lines : List Line) (head place : ℕ) → head < length lines → place < suc head + group_length (drop (suc head) lines) → place < length lines
group_inside lines head place low high =
    omega (arith, prefix_len-le-length (λ (line : Line). is_member line.inst.op) (drop (suc head) lines), length-drop (suc head) lines)

-- ---- the group of a line, and whether it keeps the line's base

pub based_here : (lines : List Line) (place : ℕ) (inst : Instruction) (found : Option Group) → inst ≡ (line_in lines place).inst
    → IsGroupOf lines (head_at lines place) found → is_based_by inst found ≡ is_based lines place
based_here lines place inst None own none = sym (ap (λ (h : Option ℕ). option_map_or (λ head. has_base (group_in lines head) (base_index (line_in lines place))) h false) none)
based_here lines place inst (Some group) own is =
    ap (λ (i : Instruction). list_any (nat_eq (index_in (slice_get i.operands 1))) group.kept.bases.keys) own
    ∙ is.kept.bases (base_index (line_in lines place))
    ∙ sym (ap (λ (h : Option ℕ). option_map_or (λ head. has_base (group_in lines head) (base_index (line_in lines place))) h false) is.head_is)

pub based_more : (lines : List Line) (place : ℕ) (based next : List Bool) (one : Bool) → one ≡ is_based lines place → next ≡ based ++ one ∷ []
    → based ≡ told (is_based lines) place → next ≡ told (is_based lines) (place + 1)
based_more lines place based next one is pushed old =
    pushed ∙ ap (λ (b : Bool). based ++ b ∷ []) is ∙ ap (λ (xs : List Bool). xs ++ is_based lines place ∷ []) old
    ∙ ap (told (is_based lines)) (sym (add-one place))
