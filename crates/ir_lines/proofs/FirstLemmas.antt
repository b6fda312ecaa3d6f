-- The first places of names: one more name in the table or in the tree.
use Rattle.std.proofs.Common.{◌≡◌, ◌∙◌, ℕ, suc, Bool, true, false, cond, List, [], ◌∷◌, ◌++◌, length, refl, ap, sym, subst}
use Rattle.std.specs.Prelude.{map, is_some, Option, Some, None}
use Rattle.std.specs.BTreeMap as tree
use Rattle.std.specs.Cmp.Lexicographic.{slice_cmp, texts_ties}
use Rattle.std.specs.Map.{lookup, KeepsOthers}
use Rattle.std.specs.Option.{option_or}
use Rattle.std.specs.Ordering.{nat_cmp, is_eq}
use Rattle.std.specs.Str.{bytes_eq}
use Rattle.std.proofs.lemmas.List.{length-map, map-append}
use Rattle.indexmap.specs.IndexMap as table
use Rattle.ir_lines.specs.Firsts.{first_at, IsFirsts, Adds, Keeps}
use Rattle.ir_lines.specs.Places.{place_in}
use Rattle.ir_lines.specs.declared.firsts.Firsts.{Firsts}
use Rattle.ir_lines.specs.declared.hashing.Key.{Key}
use Rattle.ir_lines.proofs.PlaceLemmas.{position_push}
use Rattle.list_laws.proofs.Contents.{same_bytes}
use denote.Bor.{Bor}

-- ---- one more name among the keys of a map

module _ {K : Type 0} (eq : K → K → Bool) (bytes : K → List ℕ) (is : List ℕ → K → Bool)
    (is-bytes : (name : List ℕ) (k : K) → is name k ≡ bytes_eq name (bytes k))
    (eq-bytes : (x y : K) → eq x y ≡ bytes_eq (bytes x) (bytes y)) where
  -- the key that passes the test of a name has its bytes
  has-name : (name : List ℕ) (k : K) → is name k ≡ true → name ≡ bytes k
  has-name name k e = same_bytes name (bytes k) (sym (is-bytes name k) ∙ e)

  -- where one key got a value, and the others kept theirs
  one-more : {X : Type 0} (old new : List (K × X)) (name other : List ℕ) (value : X) → KeepsOthers eq (is name) old new → lookup (is name) new ≡ Some value
      → (same : Bool) → bytes_eq other name ≡ same → lookup (is other) new ≡ cond same (Some value) (lookup (is other) old)
  unfolding KeepsOthers
  one-more old new name other value keeps got true e =
      ap (λ (n : List ℕ). lookup (is n) new) (same_bytes other name e) ∙ got
  one-more old new name other value keeps got false e =
      keeps (is other)
      (λ x y t. is-bytes other y ∙ ap (λ (n : List ℕ). bytes_eq n (bytes y)) (has-name other x t) ∙ sym (eq-bytes x y))
      (λ k t. is-bytes other k ∙ ap (bytes_eq other) (sym (has-name name k t)) ∙ e)

-- ---- what is kept for each name

or-none : {X : Type 0} (found : Option X) → option_or found None ≡ found
or-none None = refl
or-none (Some x) = refl

none-left : {X : Type 0} (found rest : Option X) → option_or found rest ≡ None → found ≡ None
none-left None rest e = refl
none-left (Some x) rest e = e

none-right : {X : Type 0} (found rest : Option X) → option_or found rest ≡ None → rest ≡ None
none-right None rest e = e
none-right (Some x) rest e = let bad : Some x ≡ None = e in cc

-- ---- one more name in the table or in the tree

abbrev pub is_text : List ℕ → Bor (List ℕ) → Bool
is_text name key = is_eq (slice_cmp nat_cmp name key.now)

abbrev pub in_table : Firsts → List ℕ → Option ℕ
in_table firsts name = table.get_by (λ (key : Key). bytes_eq name key.bytes.now) firsts.table

abbrev pub in_tree : Firsts → List ℕ → Option ℕ
in_tree firsts name = tree.get_by (λ (key : Bor (List ℕ)). slice_cmp nat_cmp name key.now) firsts.tree

put-first : (found rest : Option ℕ) (place : ℕ) (same : Bool) → (same ≡ true → option_or found rest ≡ None)
    → option_or (cond same (Some place) found) rest ≡ option_or (option_or found rest) (cond same (Some place) None)
put-first found rest place false new = sym (or-none (option_or found rest))
put-first found rest place true new = ap (λ (o : Option ℕ). option_or o (Some place)) (sym (new refl))

put-second : (found rest : Option ℕ) (place : ℕ) (same : Bool) → (same ≡ true → option_or found rest ≡ None)
    → option_or found (cond same (Some place) rest) ≡ option_or (option_or found rest) (cond same (Some place) None)
put-second found rest place false new = sym (or-none (option_or found rest))
put-second found rest place true new =
    ap (λ (o : Option ℕ). option_or o (Some place)) (none-left found rest (new refl) ∙ sym (new refl))

-- where a name has no place, one of the same bytes has none
new-same : (firsts : Firsts) (name other : List ℕ) → first_at firsts name ≡ None → bytes_eq other name ≡ true → first_at firsts other ≡ None
new-same firsts name other new e = subst (λ (n : List ℕ). first_at firsts n ≡ None) (sym (same_bytes other name e)) new

pub adds-to-table : (old new : Firsts) (name : List ℕ) (place : ℕ) → first_at old name ≡ None → new.tree.entries ≡ old.tree.entries
    → KeepsOthers (λ (one other : Key). bytes_eq one.bytes.now other.bytes.now) (λ (key : Key). bytes_eq name key.bytes.now) old.table.entries new.table.entries
    → in_table new name ≡ Some place → Adds name place old new
unfolding first_at
adds-to-table old new name place none same keeps got = record {
  at = λ other.
      ap (λ (found : Option ℕ). option_or found (in_tree new other))
      (one-more (λ (one two : Key). bytes_eq one.bytes.now two.bytes.now) (λ (key : Key). key.bytes.now) (λ (n : List ℕ) (key : Key). bytes_eq n key.bytes.now)
      (λ n k. refl) (λ x y. refl) old.table.entries new.table.entries name other place keeps got (bytes_eq other name) refl)
      ∙ ap (λ (es : List (Bor (List ℕ) × ℕ)). option_or (cond (bytes_eq other name) (Some place) (in_table old other)) (lookup (is_text other) es)) same
      ∙ put-first (in_table old other) (in_tree old other) place (bytes_eq other name) (new-same old name other none);
}

pub adds-to-tree : (old new : Firsts) (name : List ℕ) (place : ℕ) → first_at old name ≡ None → new.table.entries ≡ old.table.entries
    → KeepsOthers (λ (one other : Bor (List ℕ)). is_eq (slice_cmp nat_cmp one.now other.now)) (is_text name) old.tree.entries new.tree.entries
    → in_tree new name ≡ Some place → Adds name place old new
unfolding first_at
adds-to-tree old new name place none same keeps got = record {
  at = λ other.
      ap (λ (found : Option ℕ). option_or (in_table new other) found)
      (one-more (λ (one two : Bor (List ℕ)). is_eq (slice_cmp nat_cmp one.now two.now)) (λ (key : Bor (List ℕ)). key.now) is_text
      (λ n k. sym (texts_ties n k.now)) (λ x y. sym (texts_ties x.now y.now)) old.tree.entries new.tree.entries name other place keeps got (bytes_eq other name) refl)
      ∙ ap (λ (es : List (Key × ℕ)). option_or (lookup (λ (key : Key). bytes_eq other key.bytes.now) es) (cond (bytes_eq other name) (Some place) (in_tree old other))) same
      ∙ put-second (in_table old other) (in_tree old other) place (bytes_eq other name) (new-same old name other none);
}

-- ---- a name that has a place, and the list

again : (found : Option ℕ) (place : ℕ) (same : Bool) → (same ≡ true → is_some found ≡ true) → found ≡ option_or found (cond same (Some place) None)
again None place false known = refl
again None place true known = let bad : false ≡ true = known refl in cc
again (Some first) place same known = refl

pub adds-nothing : (firsts : Firsts) (name : List ℕ) (place : ℕ) → is_some (first_at firsts name) ≡ true → Adds name place firsts firsts
adds-nothing firsts name place known = record {
  at = λ other. again (first_at firsts other) place (bytes_eq other name)
      (λ e. subst (λ (n : List ℕ). is_some (first_at firsts n) ≡ true) (sym (same_bytes other name e)) known);
}

no-entries : {X : Type 0} (xs : List X) → length xs ≡ 0 → xs ≡ []
no-entries [] e = refl
no-entries (x ∷ xs) e = let bad : suc (length xs) ≡ 0 = e in cc

-- where nothing stands in the tree
pub first-in-table : (firsts : Firsts) (name : List ℕ) → length firsts.tree.entries ≡ 0 → first_at firsts name ≡ in_table firsts name
unfolding first_at
first-in-table firsts name none =
    ap (λ (es : List (Bor (List ℕ) × ℕ)). option_or (in_table firsts name) (lookup (is_text name) es)) (no-entries firsts.tree.entries none)
    ∙ or-none (in_table firsts name)

-- a name whose place was written over and back
pub put-back : (old new : Firsts) (between : List (Key × ℕ)) (name : List ℕ) (place first : ℕ) → new.tree.entries ≡ old.tree.entries
    → KeepsOthers (λ (one other : Key). bytes_eq one.bytes.now other.bytes.now) (λ (key : Key). bytes_eq name key.bytes.now) old.table.entries between
    → KeepsOthers (λ (one other : Key). bytes_eq one.bytes.now other.bytes.now) (λ (key : Key). bytes_eq name key.bytes.now) between new.table.entries
    → in_table old name ≡ Some first → lookup (λ (key : Key). bytes_eq name key.bytes.now) between ≡ Some place → in_table new name ≡ Some first
    → Adds name place old new
unfolding first_at
put-back old new between name place first same keeps again was got back = record {
  at = λ other.
      ap (λ (found : Option ℕ). option_or found (in_tree new other)) (kept other (bytes_eq other name) refl)
      ∙ ap (λ (es : List (Bor (List ℕ) × ℕ)). option_or (in_table old other) (lookup (is_text other) es)) same
      ∙ (adds-nothing old name place (ap (λ (found : Option ℕ). is_some (option_or found (in_tree old name))) was)).at other;
}
  where
    put : (from to : List (Key × ℕ)) (other : List ℕ) (value : ℕ)
        → KeepsOthers (λ (one two : Key). bytes_eq one.bytes.now two.bytes.now) (λ (key : Key). bytes_eq name key.bytes.now) from to
        → lookup (λ (key : Key). bytes_eq name key.bytes.now) to ≡ Some value → (t : Bool) → bytes_eq other name ≡ t
        → lookup (λ (key : Key). bytes_eq other key.bytes.now) to ≡ cond t (Some value) (lookup (λ (key : Key). bytes_eq other key.bytes.now) from)
    put from to other value = one-more (λ (one two : Key). bytes_eq one.bytes.now two.bytes.now) (λ (key : Key). key.bytes.now) (λ (n : List ℕ) (key : Key). bytes_eq n key.bytes.now)
        (λ n k. refl) (λ x y. refl) from to name other value

    kept : (other : List ℕ) (t : Bool) → bytes_eq other name ≡ t → in_table new other ≡ in_table old other
    kept other true e =
        put between new.table.entries other first again back true e
        ∙ sym (subst (λ (n : List ℕ). in_table old n ≡ Some first) (sym (same_bytes other name e)) was)
    kept other false e = put between new.table.entries other first again back false e ∙ put old.table.entries between other place keeps got false e

pushed : (found : Option ℕ) (more : Option ℕ) → option_or found more ≡ cond (is_some found) found more
pushed None more = refl
pushed (Some place) more = refl

pub one-more-first : (names : List (List ℕ)) (old new : Firsts) (name : List ℕ) → IsFirsts names old → Adds name (length names) old new
    → IsFirsts (names ++ name ∷ []) new
one-more-first names old new name is adds = record {
  at = λ other.
      adds.at other
      ∙ ap (λ (found : Option ℕ). option_or found (cond (bytes_eq other name) (Some (length names)) None)) (is.at other)
      ∙ pushed (place_in names other) (cond (bytes_eq other name) (Some (length names)) None)
      ∙ sym (position_push (λ one. bytes_eq other one) names name);
}

pub kept-firsts : (names : List (List ℕ)) (old new : Firsts) → IsFirsts names old → Keeps old new → IsFirsts names new
kept-firsts names old new is keeps = record { at = λ name. keeps.at name ∙ is.at name }

pub same_keeps : (old new : Firsts) → new.table.entries ≡ old.table.entries → new.tree.entries ≡ old.tree.entries → Keeps old new
unfolding first_at
same_keeps old new table_same tree_same = record {
  at = λ name.
      ap (λ (es : List (Key × ℕ)). option_or (lookup (λ (key : Key). bytes_eq name key.bytes.now) es) (in_tree new name)) table_same
      ∙ ap (λ (es : List (Bor (List ℕ) × ℕ)). option_or (in_table old name) (lookup (is_text name) es)) tree_same;
}

pub none-first : (firsts : Firsts) → firsts.table.entries ≡ [] → firsts.tree.entries ≡ [] → IsFirsts [] firsts
unfolding first_at
none-first firsts table_none tree_none = record {
  at = λ name.
      ap (λ (es : List (Key × ℕ)). option_or (lookup (λ (key : Key). bytes_eq name key.bytes.now) es) (in_tree firsts name)) table_none
      ∙ ap (λ (es : List (Bor (List ℕ) × ℕ)). lookup (is_text name) es) tree_none;
}

pub list-first : (old reserved pushed : List (Bor (List ℕ))) (name : Bor (List ℕ)) (place : ℕ) (before after : Firsts)
    → IsFirsts (map (λ one. one.now) old) before → reserved ≡ old → pushed ≡ reserved ++ name ∷ [] → place ≡ length reserved
    → Adds name.now place before after → IsFirsts (map (λ one. one.now) pushed) after
list-first old reserved pushed name place before after is same more at adds =
    let long : place ≡ length (map (λ (one : Bor (List ℕ)). one.now) old) = at ∙ ap length same ∙ sym (length-map old (λ (one : Bor (List ℕ)). one.now)) in
    let longer : map (λ (one : Bor (List ℕ)). one.now) pushed ≡ map (λ one. one.now) old ++ name.now ∷ []
    = ap (map (λ (one : Bor (List ℕ)). one.now)) (more ∙ ap (λ l. l ++ name ∷ []) same) ∙ map-append (λ (one : Bor (List ℕ)). one.now) old (name ∷ []) in
    subst (λ names. IsFirsts names after) (sym longer)
    (one-more-first (map (λ one. one.now) old) before after name.now is (subst (λ n. Adds name.now n before after) long adds))

pub adds_kept : (one old new last : Firsts) (name : List ℕ) (place : ℕ) → Keeps one old → Adds name place old new → Keeps new last → Adds name place one last
adds_kept one old new last name place before adds after = record {
  at = λ other. after.at other ∙ adds.at other ∙ ap (λ (found : Option ℕ). option_or found (cond (bytes_eq other name) (Some place) None)) (before.at other);
}
