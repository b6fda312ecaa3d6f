-- Blocks under their only predecessors, a block at a time.
use Rattle.std.proofs.Common.{◌≡◌, ◌∙◌, ℕ, zero, suc, ◌<◌, ◌⊎◌, inl, inr, eqb, Bool, if◌then◌else◌, List, [], ◌∷◌, ◌++◌, length, get_or, Option, Some, None, slice_get, refl, ap, sym, arith, append-nil, subst}
use Rattle.std.specs.Prelude.{slice_set}
use Rattle.std.specs.List.{All, Contains}
use Rattle.std.specs.Option.{option_map_or}
use Rattle.std.specs.Global.{Vec}
use Rattle.std.proofs.lemmas.Bool.{cases_eq, eq-eqb, ne_eqb}
use Rattle.std.proofs.lemmas.List.{length-set}
use Rattle.std.proofs.lemmas.List.Elements.{Contains-push, Contains-push_cases, Contains-append_left}
use Rattle.list_laws.proofs.Places.{get_front, get_middle}
use Rattle.list_laws.proofs.Contents.{contains_none, all_at}
use Rattle.version_walk.specs.declared.forest.Forest.{Forest}
use Rattle.version_walk.specs.Forest.{list_at, IsChild, IsForest, Adds, as_root, as_child}

pub list_is : {A : Type 0} (lists : List (Vec A)) (place : ℕ) (list : Vec A) → place < length lists → list ≡ get_or lists place list
    → list_at lists place ≡ list.items
list_is [] place list below is = absurd (omega arith)
list_is (x ∷ lists) zero list below is = ap (λ (v : Vec _). v.items) (sym is)
list_is (x ∷ lists) (suc place) list below is = list_is lists place list (omega arith) is

pub at_same : {A : Type 0} (lists : List (Vec A)) (place : ℕ) (new : Vec A) → place < length lists → list_at (slice_set lists place new) place ≡ new.items
at_same [] place new below = absurd (omega arith)
at_same (x ∷ lists) zero new below = refl
at_same (x ∷ lists) (suc place) new below = at_same lists place new (omega arith)

pub at_other : {A : Type 0} (lists : List (Vec A)) (place other : ℕ) (new : Vec A) → (place ≡ other → ⊥) → list_at (slice_set lists place new) other ≡ list_at lists other
at_other [] place other new apart = refl
at_other (x ∷ lists) zero zero new apart = absurd (apart refl)
at_other (x ∷ lists) zero (suc other) new apart = refl
at_other (x ∷ lists) (suc place) zero new apart = refl
at_other (x ∷ lists) (suc place) (suc other) new apart = at_other lists place other new (λ e. apart (ap suc e))

pub put_whole : {A : Type 0} (lists : List (Vec A)) (place : ℕ) (new : Vec A) → length (slice_set lists place new) ≡ length lists
put_whole lists place new = length-set lists place new

pub put_at : {A : Type 0} (lists : List (Vec A)) (place : ℕ) (new : Vec A) (item : A) → place < length lists → new.items ≡ list_at lists place ++ item ∷ []
    → (p : ℕ) → list_at (slice_set lists place new) p ≡ list_at lists p ++ (if eqb place p then item ∷ [] else [])
put_at lists place new item below pushed p = elim (cases_eq place p) [
  | inl e ↦
      ap (λ (n : ℕ). list_at (slice_set lists place new) n) (sym e) ∙ at_same lists place new below ∙ pushed
      ∙ ap (λ (n : ℕ). list_at lists n ++ item ∷ []) e ∙ sym (ap (λ (t : Bool). list_at lists p ++ (if t then item ∷ [] else [])) (eq-eqb place p e))
  | inr ne ↦
      at_other lists place p new ne ∙ sym (append-nil (list_at lists p)) ∙ sym (ap (λ (t : Bool). list_at lists p ++ (if t then item ∷ [] else [])) (ne_eqb place p ne))
]

abbrev items_or_none : Option (Vec ℕ) → List ℕ
items_or_none o = option_map_or (λ (list : Vec ℕ). list.items) o []

none_in : (lists : List (Vec ℕ)) (place block : ℕ) → All (λ list. list.items ≡ []) lists → Contains (list_at lists place) block → ⊥
none_in lists place block empty has = go (slice_get lists place) refl has
  where
    go : (o : Option (Vec ℕ)) → slice_get lists place ≡ o → Contains (items_or_none o) block → ⊥
    go None none has = contains_none block has
    go (Some list) some has =
        contains_none block (subst (λ (xs : List ℕ). Contains xs block) (all_at (λ (list : Vec ℕ). list.items ≡ []) lists place list empty some) has)

pub forest_none : (forest : Forest) → forest.roots.items ≡ [] → All (λ list. list.items ≡ []) forest.children.items → IsForest [] forest
forest_none forest no_root empty = record {
  roots = record {
    are = λ block has. absurd (contains_none block (subst (λ (xs : List ℕ). Contains xs block) no_root has));
    all = λ block is. absurd (let h : None ≡ Some None = is in cc);
  };
  children = record {
    are = λ block parent has. absurd (none_in forest.children.items parent block empty has);
    all = λ block parent is. absurd (let h : None ≡ Some (Some parent) = is in cc);
  };
}

old_or_new : (parents : List (Option ℕ)) (parent : Option ℕ) (block : ℕ) (what : Option ℕ) → slice_get (parents ++ parent ∷ []) block ≡ Some what
    → (slice_get parents block ≡ Some what) ⊎ ((block ≡ length parents) × (parent ≡ what))
old_or_new [] parent zero what is = inr (refl, cc)
old_or_new [] parent (suc block) what is = absurd (let h : None ≡ Some what = is in cc)
old_or_new (x ∷ parents) parent zero what is = inl is
old_or_new (x ∷ parents) parent (suc block) what is = elim (old_or_new parents parent block what is) [
  | inl before ↦ inl before
  | inr now ↦ inr (ap suc now.0, now.1)
]

pub forest_more : (parents : List (Option ℕ)) (parent : Option ℕ) (old new : Forest) → IsForest parents old → Adds (length parents) parent old new
    → IsForest (parents ++ parent ∷ []) new
forest_more parents parent old new forest (as_root none roots children) = record {
  roots = record {
    are = λ block has. elim (Contains-push_cases old.roots.items (length parents) block (subst (λ (xs : List ℕ). Contains xs block) roots has)) [
      | inl before ↦ get_front parents (parent ∷ []) block None (forest.roots.are block before)
      | inr e ↦ rw (← e, none) (get_middle parents None [])
    ];
    all = λ block is. rw roots (elim (old_or_new parents parent block None is) [
      | inl before ↦ Contains-append_left old.roots.items (length parents ∷ []) block (forest.roots.all block before)
      | inr now ↦ rw now.0 (Contains-push old.roots.items (length parents))
    ]);
  };
  children = record {
    are = λ block p has. get_front parents (parent ∷ []) block (Some p)
        (forest.children.are block p (subst (λ (cs : Vec (Vec ℕ)). Contains (list_at cs.items p) block) children has));
    all = λ block p is. rw children (elim (old_or_new parents parent block (Some p) is) [
      | inl before ↦ forest.children.all block p before
      | inr now ↦ absurd (let h : None ≡ Some p = sym none ∙ now.1 in cc)
    ]);
  };
}
forest_more parents parent old new forest (as_child place some roots whole each) = record {
  roots = record {
    are = λ block has. get_front parents (parent ∷ []) block None (forest.roots.are block (subst (λ (rs : Vec ℕ). Contains rs.items block) roots has));
    all = λ block is. rw roots (elim (old_or_new parents parent block None is) [
      | inl before ↦ forest.roots.all block before
      | inr now ↦ absurd (let h : None ≡ Some place = sym now.1 ∙ some in cc)
    ]);
  };
  children = record {
    are = λ block p has. put_under block p (cases_eq place p) (subst (λ (xs : List ℕ). Contains xs block) (each p) has);
    all = λ block p is. subst (λ (xs : List ℕ). Contains xs block) (sym (each p)) (elim (old_or_new parents parent block (Some p) is) [
      | inl before ↦ Contains-append_left (list_at old.children.items p) (if eqb place p then length parents ∷ [] else []) block (forest.children.all block p before)
      | inr now ↦
          let same : Some place ≡ Some p = sym some ∙ now.1 in
          let e : place ≡ p = cc in
          rw (now.0, eq-eqb place p e) (Contains-push (list_at old.children.items p) (length parents))
    ]);
  };
}
  where
    put_under : (block p : ℕ) → (place ≡ p) ⊎ (place ≡ p → ⊥) → Contains (list_at old.children.items p ++ (if eqb place p then length parents ∷ [] else [])) block
        → IsChild (parents ++ parent ∷ []) block p
    put_under block p (inl e) has = elim (Contains-push_cases (list_at old.children.items p) (length parents) block (let h = rw (eq-eqb place p e) at has in h)) [
      | inl before ↦ get_front parents (parent ∷ []) block (Some p) (forest.children.are block p before)
      | inr is ↦ rw (← is, some, e) (get_middle parents (Some p) [])
    ]
    put_under block p (inr ne) has =
        get_front parents (parent ∷ []) block (Some p) (forest.children.are block p (subst (λ (xs : List ℕ). Contains xs block) (append-nil (list_at old.children.items p)) (let h = rw (ne_eqb place p ne) at has in h)))

pub adds_whole : (block : ℕ) (parent : Option ℕ) (old new : Forest) → Adds block parent old new → length new.children.items ≡ length old.children.items
adds_whole block parent old new (as_root none roots children) = ap (λ (cs : Vec (Vec ℕ)). length cs.items) children
adds_whole block parent old new (as_child place some roots whole each) = whole
