-- Marks of values, one more; and the values that stand in a list.
use Rattle.std.proofs.Common.{◌≡◌, ◌∙◌, ℕ, zero, suc, ◌<◌, ◌+◌, inl, inr, Bool, true, false, ◌&&◌, ◌||◌, eqb, if◌then◌else◌, List, [], ◌∷◌, ◌++◌, length, drop, set, get_or, refl, ap, sym, arith}
use Rattle.std.specs.List.{list_any, flat_map, range_with_len}
use Rattle.std.proofs.lemmas.Bool.{cases_eq, eq-eqb, ne_eqb}
use Rattle.std.proofs.lemmas.List.{get_or-set_same, get_or-set_other}
use Rattle.ir_ast.specs.declared.ops.Operand.{Operand}
use Rattle.ir_ast.specs.Funcs.{Function}
use Rattle.object_meaning.specs.Lines.{Line}
use Rattle.rewriting_forms.specs.Numbered.{among, lines_at, calls}
use Rattle.rewriting_forms.specs.Liveness.{live_list, lists_from, live_lists}
use Rattle.rewriting_forms.specs.Names.{listed, stands_in_list}
use Rattle.rewriting_laws.proofs.NameLemmas.{line_is, at_rest}
use Rattle.ssa_rebuild.specs.Marks.{MarksMore}
use Rattle.list_laws.proofs.Booleans.{or_false, or_assoc, or_turn as or_swap}
use Rattle.list_laws.proofs.Tests.{any_append, any_same}

or_turn : (s t : Bool) → (s || t) ≡ (t || s)
or_turn true true = refl
or_turn true false = refl
or_turn false true = refl
or_turn false false = refl

pub push_same : (marks : List Bool) (v : ℕ) → get_or (marks ++ false ∷ []) v false ≡ get_or marks v false
push_same [] zero = refl
push_same [] (suc v) = refl
push_same (m ∷ marks) zero = refl
push_same (m ∷ marks) (suc v) = push_same marks v

pub marks_none : (marks : List Bool) → MarksMore marks marks (λ v. false)
marks_none marks = record { each = λ v. refl }

pub marks_both : (old mid new : List Bool) (one two both : ℕ → Bool) → MarksMore old mid one → MarksMore mid new two → ((v : ℕ) → both v ≡ (one v || two v))
    → MarksMore old new both
marks_both old mid new one two both first second split = record {
  each = λ v. second.each v ∙ ap (λ (t : Bool). two v || t) (first.each v) ∙ or_swap (one v) (two v) (get_or old v false)
      ∙ sym (ap (λ (t : Bool). t || get_or old v false) (split v));
}

pub marks_set : (old now : List Bool) (place : ℕ) → place < length now → ((v : ℕ) → get_or now v false ≡ get_or old v false)
    → MarksMore old (set now place true) (λ v. eqb place v)
marks_set old now place within same = record {
  each = λ v. elim (cases_eq place v) [
    | inl e ↦
        ap (λ (n : ℕ). get_or (set now place true) n false) (sym e) ∙ get_or-set_same now place true false within
        ∙ sym (ap (λ (t : Bool). t || get_or old v false) (eq-eqb place v e))
    | inr ne ↦
        get_or-set_other now place v true false (λ is. ne (sym is)) ∙ same v ∙ sym (ap (λ (t : Bool). t || get_or old v false) (ne_eqb place v ne))
  ];
}

pub any_push : {A : Type 0} (p : A → Bool) (xs : List A) (x : A) → list_any p (xs ++ x ∷ []) ≡ (list_any p xs || p x)
any_push p xs x = any_append p xs (x ∷ []) ∙ ap (λ (t : Bool). list_any p xs || t) (or_false (p x))

-- one list more
pub listed_more : (v : ℕ) (lists more : List (List ℕ)) (list : List ℕ) (old new : List Bool) → more ≡ lists ++ list ∷ []
    → get_or old v false ≡ list_any (among v) lists → get_or new v false ≡ (among v list || get_or old v false) → get_or new v false ≡ list_any (among v) more
listed_more v lists more list old new is so_far added =
    added ∙ ap (λ (t : Bool). among v list || t) so_far ∙ or_turn (among v list) (list_any (among v) lists)
    ∙ sym (ap (list_any (among v)) is ∙ any_push (among v) lists list)

any_flat : {A B : Type 0} (p : B → Bool) (f : A → List B) (xs : List A) → list_any p (flat_map f xs) ≡ list_any (λ x. list_any p (f x)) xs
any_flat p f [] = refl
any_flat p f (x ∷ xs) = any_append p (f x) (flat_map f xs) ∙ ap (λ (t : Bool). list_any p (f x) || t) (any_flat p f xs)

module _ (func : Function) (table : List Operand) (v : ℕ) where
  lists_any : (b k : ℕ) (lines : List Line) → drop k (lines_at func b) ≡ lines
      → list_any (among v) (lists_from func table b k lines) ≡ list_any (listed func table v b) (range_with_len k (length lines))
  lists_any b k [] place = refl
  lists_any b k (line ∷ lines) place =
      let here = at_rest (lines_at func b) k line lines place in
      let e : suc k ≡ k + 1 = omega arith in
      let is = line_is func b k line here.0 in
      let rest = lists_any b (suc k) lines here.1 ∙ ap (λ (n : ℕ). list_any (listed func table v b) (range_with_len n (length lines))) e in
      let test : listed func table v b k ≡ (calls line && among v (live_list func table b k)) = ap (λ (l : Line). calls l && among v (live_list func table b k)) is in
      by (calls line) refl rest test
    where
      by : (t : Bool) → calls line ≡ t
          → list_any (among v) (lists_from func table b (suc k) lines) ≡ list_any (listed func table v b) (range_with_len (k + 1) (length lines))
          → listed func table v b k ≡ (calls line && among v (live_list func table b k))
          → list_any (among v) (lists_from func table b k (line ∷ lines)) ≡ list_any (listed func table v b) (range_with_len k (length (line ∷ lines)))
      by true call rest test =
          ap (λ (t : Bool). list_any (among v) ((if t then live_list func table b k ∷ [] else []) ++ lists_from func table b (suc k) lines)) call
          ∙ ap (λ (t : Bool). among v (live_list func table b k) || t) rest
          ∙ sym (ap (λ (t : Bool). t || list_any (listed func table v b) (range_with_len (k + 1) (length lines))) (test ∙ ap (λ (t : Bool). t && among v (live_list func table b k)) call))
      by false plain rest test =
          ap (λ (t : Bool). list_any (among v) ((if t then live_list func table b k ∷ [] else []) ++ lists_from func table b (suc k) lines)) plain
          ∙ rest
          ∙ sym (ap (λ (t : Bool). t || list_any (listed func table v b) (range_with_len (k + 1) (length lines))) (test ∙ ap (λ (t : Bool). t && among v (live_list func table b k)) plain))

  -- a value stands in a list exactly where it stands in one of all lists
  pub stands_any : list_any (among v) (live_lists func table) ≡ stands_in_list func table v
  stands_any =
      any_flat (among v) (λ b. lists_from func table b 0 (lines_at func b)) (range_with_len 0 (length func.blocks))
      ∙ any_same (λ b. list_any (among v) (lists_from func table b 0 (lines_at func b))) (λ b. list_any (listed func table v b) (range_with_len 0 (length (lines_at func b)))) (range_with_len 0 (length func.blocks))
      (λ b. lists_any b 0 (lines_at func b) refl)
