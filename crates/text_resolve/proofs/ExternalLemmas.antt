-- Whether a declaration is one of the externals.
use Rattle.std.proofs.Common.{◌≡◌, ◌∙◌, ℕ, ◌⊎◌, inl, inr, Bool, true, false, ◌&&◌, List, [], ◌∷◌, ◌++◌, refl, ap, sym, subst}
use Rattle.std.specs.Prelude.{map, IsTrue, ◌↔◌, codes}
use Rattle.std.specs.List.{Contains}
use Rattle.std.proofs.lemmas.Bool.Decides.{Decides-eqb}
use Rattle.std.proofs.lemmas.List.{append_cancel_left}
use Rattle.std.proofs.lemmas.List.Elements.{Contains-append_right, Contains-append_cases}
use Rattle.line_parts.specs.Types.{TypeWord}
use Rattle.line_parts.specs.Types.{Void, Int, Managed, Plain}
use Rattle.std.proofs.lemmas.Bool.{and_parts}
use Rattle.ir_lines.specs.Types.{same_type, same_types}
use Rattle.ir_lines.specs.Externals.{External, external, gc_new, makers_of}
use Rattle.list_laws.proofs.Contents.{contains_image, contains_map}

or-right : {X : Type 0} (xs ys : List X) (x : X) → ¬ Contains xs x → Contains xs x ⊎ Contains ys x → Contains ys x
or-right xs ys x absent (inl c) = absurd (absent c)
or-right xs ys x absent (inr c) = c

pub not-in-first : {X : Type 0} (xs ys : List X) (x : X) (r : Bool) → ¬ Contains xs x → (IsTrue r ↔ Contains ys x) → (IsTrue r ↔ Contains (xs ++ ys) x)
not-in-first xs ys x r absent is =
    ((λ t. Contains-append_right xs ys x (is.0 t)), (λ c. is.1 (or-right xs ys x absent (Contains-append_cases xs ys x c))))

pub is-false : (P : Type 0) (r : Bool) → (IsTrue r ↔ P) → r ≡ false → ¬ P
is-false P r is f p = let bad : true ≡ false = sym (is.1 p) ∙ f in cc

pub same_type-is : (a b : TypeWord) → same_type a b ≡ true → a ≡ b
same_type-is Void Void e = refl
same_type-is (Int width) (Int other) e = ap Int ((Decides-eqb width other).0 e)
same_type-is Managed Managed e = refl
same_type-is Plain Plain e = refl
same_type-is Void _ e = let bad : false ≡ true = e in cc
same_type-is (Int width) _ e = let bad : false ≡ true = e in cc
same_type-is Managed _ e = let bad : false ≡ true = e in cc
same_type-is Plain _ e = let bad : false ≡ true = e in cc

pub same_type-self : (a : TypeWord) → same_type a a ≡ true
same_type-self Void = refl
same_type-self (Int width) = (Decides-eqb width width).1 refl
same_type-self Managed = refl
same_type-self Plain = refl

pub same_types-are : (xs ys : List TypeWord) → same_types xs ys ≡ true → xs ≡ ys
same_types-are [] [] e = refl
same_types-are [] (y ∷ ys) e = let bad : false ≡ true = e in cc
same_types-are (x ∷ xs) [] e = let bad : false ≡ true = e in cc
same_types-are (x ∷ xs) (y ∷ ys) e =
    let both = and_parts (same_type x y) (same_types xs ys) e in
    ap (λ z. z ∷ xs) (same_type-is x y both.0) ∙ ap (λ zs. y ∷ zs) (same_types-are xs ys both.1)

pub same_types-self : (xs : List TypeWord) → same_types xs xs ≡ true
same_types-self [] = refl
same_types-self (x ∷ xs) = ap (λ b. b && same_types xs xs) (same_type-self x) ∙ same_types-self xs

pub external-is : (name due : List ℕ) (answer gives : TypeWord) (types takes : List TypeWord) (r : Bool) → name ≡ due → answer ≡ gives
    → r ≡ same_types types takes → (IsTrue r ↔ (external name answer types ≡ external due gives takes))
external-is name due answer gives types takes r named answered is = (
  (λ t. ap (λ (n : List ℕ). external n answer types) named ∙ ap (λ (a : TypeWord). external due a types) answered
      ∙ ap (λ (ts : List TypeWord). external due gives ts) (same_types-are types takes (sym is ∙ t))),
  (λ e. is ∙ ap (λ (ts : List TypeWord). same_types ts takes) (ap (λ (one : External). one.parameters) e) ∙ same_types-self takes),
)

-- `gc_new` of a layout
pub maker-is : (layouts : List (List ℕ)) (name : List ℕ) (answer : TypeWord) (types : List TypeWord) (r : Bool)
    → true ≡ (same_type answer Managed && same_types types (Int 64 ∷ [])) → (IsTrue r ↔ Contains (map gc_new layouts) name)
    → (IsTrue r ↔ Contains (makers_of layouts) (external name answer types))
maker-is layouts name answer types r agrees is =
    let both = and_parts (same_type answer Managed) (same_types types (Int 64 ∷ [])) (sym agrees) in
    let answered : answer ≡ Managed = same_type-is answer Managed both.0 in
    let taken : types ≡ Int 64 ∷ [] = same_types-are types (Int 64 ∷ []) both.1 in (
      (λ t. let i = contains_image gc_new layouts name (is.0 t) in
          subst (λ (one : External). Contains (makers_of layouts) one)
          (ap (λ (n : List ℕ). external n Managed (Int 64 ∷ [])) i.is ∙ ap (λ (a : TypeWord). external name a (Int 64 ∷ [])) (sym answered)
          ∙ ap (λ (ts : List TypeWord). external name answer ts) (sym taken))
          (contains_map (λ (layout : List ℕ). external (gc_new layout) Managed (Int 64 ∷ [])) layouts i.of i.inside)),
      (λ k. let i = contains_image (λ (layout : List ℕ). external (gc_new layout) Managed (Int 64 ∷ [])) layouts (external name answer types) k in
          is.1 (subst (λ (n : List ℕ). Contains (map gc_new layouts) n) (ap (λ (one : External). one.name) i.is) (contains_map gc_new layouts i.of i.inside))),
    )

pub maker-differs : (layouts : List (List ℕ)) (name : List ℕ) (answer : TypeWord) (types : List TypeWord)
    → false ≡ (same_type answer Managed && same_types types (Int 64 ∷ []))
    → (IsTrue false ↔ Contains (makers_of layouts) (external name answer types))
maker-differs layouts name answer types differs = (
  (λ t. absurd (let bad : false ≡ true = t in cc)),
  (λ k. let i = contains_image (λ (layout : List ℕ). external (gc_new layout) Managed (Int 64 ∷ [])) layouts (external name answer types) k in
      differs ∙ ap (λ (one : External). same_type one.answer Managed && same_types one.parameters (Int 64 ∷ [])) (sym i.is)),
)

-- names with the front of `gc_new`
pub made-layout : (layouts : List (List ℕ)) (name layout : List ℕ) (r : Bool) → name ≡ gc_new layout → (IsTrue r ↔ Contains layouts layout)
    → (IsTrue r ↔ Contains (map gc_new layouts) name)
made-layout layouts name layout r e is = (
  (λ t. subst (λ (n : List ℕ). Contains (map gc_new layouts) n) (sym e) (contains_map gc_new layouts layout (is.0 t))),
  (λ k. let i = contains_image gc_new layouts name k in
      is.1 (subst (λ (n : List ℕ). Contains layouts n) (append_cancel_left (codes "gc_new.") i.of layout (i.is ∙ e)) i.inside)),
)

pub made-nothing : (layouts : List (List ℕ)) (name : List ℕ) → ((rest : List ℕ) → ¬ (name ≡ gc_new rest))
    → (IsTrue false ↔ Contains (map gc_new layouts) name)
made-nothing layouts name other = (
  (λ t. absurd (let bad : false ≡ true = t in cc)),
  (λ k. let i = contains_image gc_new layouts name k in absurd (other i.of (sym i.is))),
)
