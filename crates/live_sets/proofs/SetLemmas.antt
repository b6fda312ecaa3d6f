-- Sets of pointers, a change at a time.
use Rattle.std.proofs.Common.{◌≡◌, ℕ, ◌+◌, nat_lt, Bool, true, false, not, eqb, cond, if◌then◌else◌, ◌&&◌, ◌||◌, List, [], ◌∷◌, ◌++◌, length, map, filter, refl, ap, sym, arith, inl, inr, ◌∙◌, append_assoc}
use Rattle.std.specs.List.{list_any, range_with_len}
use Rattle.std.specs.List.Sorted.{IsStrictlySortedBy, IsStrictlyIncreasing}
use Rattle.std.specs.Ordering.{nat_cmp, is_eq}
use Rattle.std.specs.declared.cmp.Ordering.TheVariants.{Equal, Greater}
use Rattle.std.specs.BTreeSet.{BTreeSet, contains}
use Rattle.std.proofs.lemmas.Bool.{cases_Bool, cases_eq, cases_lt, eqb-true, ne_eqb, false≢true}
use Rattle.std.proofs.lemmas.Bool.Decides.{nat_tests}
use Rattle.std.proofs.lemmas.Cmp.{nat_cmp_total}
use Rattle.std.proofs.lemmas.List.FromFn.{length-range_with_len, get_or-range_with_len}
use Rattle.std.proofs.lemmas.List.Kept.{IsStrictlyIncreasing-filter}
use Rattle.std.proofs.lemmas.Map.Keys.{sorted_from_strictly_increasing}
use Rattle.std.proofs.lemmas.Map.Lookups.{btree_set_from_contains, exact_unsigned}
use Rattle.sp_ids.specs.declared.ids.ValueId.{ValueId}
use Rattle.ir_ast.specs.Funcs.{Function}
use Rattle.ir_ast.specs.Types.{is_pointer}
use Rattle.ir_ast.specs.Values.{value_types}
use Rattle.rewriting_forms.specs.Numbered.{among, pointers}
use Rattle.rewriting_laws.proofs.NameLemmas.{among_filter, filter_among}
use Rattle.live_sets.specs.Sets.{is_in, AreMarked, Changed}
use Rattle.live_sets.proofs.UseLemmas.{among_mark}
use Rattle.list_laws.proofs.Booleans.{same_tests}
use Rattle.list_laws.proofs.Tests.{any_same}
use Rattle.ir_ast.specs.Operands.{valued}
use Rattle.ir_ast.specs.Lists.{has_mark}

-- numbers are equal where their order says so
pub number_at : (k q : ℕ) → is_eq (nat_cmp k q) ≡ eqb k q
number_at k q = elim (cases_lt k q) [
  | inl below ↦ (let lt : nat_lt k q ≡ true = grind (arith, nat_tests) in let ne : eqb k q ≡ false = grind (arith, nat_tests) in rw (lt, ne) refl)
  | inr up ↦ (let lt : nat_lt k q ≡ false = grind (arith, nat_tests) in rw lt (go (eqb k q)))
]
  where
    go : (t : Bool) → is_eq (cond t Equal Greater) ≡ t
    go true = refl
    go false = refl

same_both : (a b : ℕ) → eqb a b ≡ eqb b a
same_both a b = elim (cases_eq a b) [ inl e ↦ rw e refl | inr ne ↦ ne_eqb a b ne ∙ sym (ne_eqb b a (λ e. ne (sym e))) ]

pub in_among : (set : BTreeSet ℕ) (v : ℕ) → is_in set v ≡ among v set.keys
in_among set v = any_same (λ (x : ℕ). is_eq (nat_cmp v x)) (λ (x : ℕ). eqb x v) set.keys (λ x. number_at v x ∙ same_both v x)

-- ---- one value

pub put_one : (marks : List Bool) (k : ℕ) (old new : BTreeSet ℕ) → has_mark marks k ≡ true
    → ((q : ℕ) → contains nat_cmp new q ≡ cond (is_eq (nat_cmp k q)) true (contains nat_cmp old q))
    → Changed marks old new (λ (v : ℕ) (old : Bool). if eqb k v then true else old)
put_one marks k old new marked are = record {
  each = λ v pointer. are v ∙ ap (λ (t : Bool). if t then true else is_in old v) (number_at k v);
  marked = λ were v is. elim (cases_Bool (eqb k v)) [
    | inl same ↦ ap (has_mark marks) (sym (eqb-true k v same)) ∙ marked
    | inr other ↦ were v (sym (are v ∙ ap (λ (t : Bool). if t then true else is_in old v) (number_at k v ∙ other)) ∙ is)
  ];
}

pub take_one : (marks : List Bool) (k : ℕ) (old new : BTreeSet ℕ)
    → ((q : ℕ) → contains nat_cmp new q ≡ cond (is_eq (nat_cmp k q)) false (contains nat_cmp old q))
    → Changed marks old new (λ (v : ℕ) (old : Bool). if eqb k v then false else old)
take_one marks k old new are = record {
  each = λ v pointer. are v ∙ ap (λ (t : Bool). if t then false else is_in old v) (number_at k v);
  marked = λ were v is. elim (cases_Bool (eqb k v)) [
    | inl same ↦ absurd (false≢true (sym (are v ∙ ap (λ (t : Bool). if t then false else is_in old v) (number_at k v ∙ same)) ∙ is))
    | inr other ↦ were v (sym (are v ∙ ap (λ (t : Bool). if t then false else is_in old v) (number_at k v ∙ other)) ∙ is)
  ];
}

-- ---- a line

pub put_phi : (marks : List Bool) (t : Bool) (f : ℕ → Bool) (set : BTreeSet ℕ) → t ≡ true → Changed marks set set (λ (v : ℕ) (old : Bool). (not t && f v) || old)
put_phi marks t f set is = record {
  each = λ v pointer. sym (ap (λ (t' : Bool). (not t' && f v) || is_in set v) is);
  marked = λ were. were;
}

pub put_other : (marks : List Bool) (t : Bool) (f : ℕ → Bool) (old new : BTreeSet ℕ) → t ≡ false → Changed marks old new (λ (v : ℕ) (old : Bool). f v || old)
    → Changed marks old new (λ (v : ℕ) (old : Bool). (not t && f v) || old)
put_other marks t f old new is changed = record {
  each = λ v pointer. changed.each v pointer ∙ sym (ap (λ (t' : Bool). (not t' && f v) || is_in old v) is);
  marked = changed.marked;
}

-- what a line gives is taken out, what it uses put in
pub line_back : (marks : List Bool) (n f g : ℕ → Bool) (old taken own new : BTreeSet ℕ) → Changed marks old taken (λ (v : ℕ) (old : Bool). if n v then false else old)
    → Changed marks taken own (λ (v : ℕ) (old : Bool). f v || old) → Changed marks own new (λ (v : ℕ) (old : Bool). g v || old)
    → Changed marks old new (λ (v : ℕ) (old : Bool). (f v || g v) || (not (n v) && old))
line_back marks n f g old taken own new first second third = record {
  each = λ v pointer. third.each v pointer ∙ ap (λ (t : Bool). g v || t) (second.each v pointer ∙ ap (λ (t : Bool). f v || t) (first.each v pointer))
      ∙ together (n v) (f v) (g v) (is_in old v);
  marked = λ were. third.marked (second.marked (first.marked were));
}
  where
    together : (n a b t : Bool) → (b || (a || (if n then false else t))) ≡ ((a || b) || (not n && t))
    together true true true t = refl
    together true true false t = refl
    together true false true t = refl
    together true false false t = refl
    together false true true t = refl
    together false true false t = refl
    together false false true t = refl
    together false false false t = refl

-- ---- a list of what is in

pub kept_more : (p : ℕ → Bool) (x : ℕ) (rest : List ℕ) (list all : List ValueId) → p x ≡ true → list ++ map valued (filter p (x ∷ rest)) ≡ all
    → (list ++ valued x ∷ []) ++ map valued (filter p rest) ≡ all
kept_more p x rest list all is so_far =
    append_assoc list (valued x ∷ []) (map valued (filter p rest)) ∙ sym (ap (λ (t : Bool). list ++ map valued (if t then x ∷ filter p rest else filter p rest)) is) ∙ so_far

pub left_out : (p : ℕ → Bool) (x : ℕ) (rest : List ℕ) (list all : List ValueId) → p x ≡ false → list ++ map valued (filter p (x ∷ rest)) ≡ all
    → list ++ map valued (filter p rest) ≡ all
left_out p x rest list all none so_far =
    sym (ap (λ (t : Bool). list ++ map valued (if t then x ∷ filter p rest else filter p rest)) none) ∙ so_far

range_rises : (n : ℕ) → IsStrictlyIncreasing (range_with_len 0 n)
range_rises n k below =
    let long = length-range_with_len 0 n in
    let one = get_or-range_with_len 0 n k 0 (omega (arith, long, below)) in
    let next = get_or-range_with_len 0 n (k + 1) 0 (omega (arith, long, below)) in
    omega (arith, one, next)

-- the numbers in a set, in order, are the pointers that are in
pub keys_are : (func : Function) (marks : List Bool) → marks ≡ map is_pointer (value_types func) → (set : BTreeSet ℕ) → AreMarked marks set
    → IsStrictlySortedBy nat_cmp set.keys → set.keys ≡ filter (is_in set) (pointers func)
keys_are func marks right set are ordered =
    btree_set_from_contains nat_cmp_total set (record { keys = filter (is_in set) (pointers func) }) ordered
    (sorted_from_strictly_increasing (filter (is_in set) (pointers func))
    (IsStrictlyIncreasing-filter (is_in set) (pointers func) (IsStrictlyIncreasing-filter _ (range_with_len 0 (length (value_types func))) (range_rises (length (value_types func))))))
    same exact_unsigned
  where
    same : (q : ℕ) → contains nat_cmp set q ≡ contains nat_cmp (record { keys = filter (is_in set) (pointers func) }) q
    same q =
        same_tests (is_in set q) (among q (filter (is_in set) (pointers func)))
        (λ is. filter_among (is_in set) q (pointers func) (among_mark func marks right q ∙ are q is) is)
        (λ is. (among_filter (is_in set) q (pointers func) is).1)
        ∙ sym (in_among (record { keys = filter (is_in set) (pointers func) }) q)

pub filter_both : (p q : ℕ → Bool) (xs : List ℕ) → filter q (filter p xs) ≡ filter (λ (x : ℕ). p x && q x) xs
filter_both p q [] = refl
filter_both p q (x ∷ xs) = elim (cases_Bool (p x)) [
  | inl is ↦ (let rest = filter_both p q xs in rw (is, rest) refl)
  | inr none ↦ (let rest = filter_both p q xs in rw (none, rest) refl)
]
