-- What the absence of faults tells of the lines of a function.
use Rattle.std.proofs.Common.{◌≡◌, ℕ, Bool, true, false, ◌||◌, List, [], ◌∷◌, refl, ap}
use Rattle.std.specs.List.{AllByRecursion, Contains, list_any}
use Rattle.std.proofs.lemmas.Bool.Decides.{Decides-eqb}
use Rattle.line_parts.specs.Types.{TypeWord}
use Rattle.line_parts.specs.Types.{Void, Int, Managed, Plain}
use Rattle.ir_lines.specs.Statements.{Line, Statement}
use Rattle.ir_lines.specs.Sections.{Definition, definitions_of}
use Rattle.ir_lines.specs.Scope.{Scope, scope_of}
use Rattle.ir_lines.specs.Types.{same_type, same_types}
use Rattle.ir_lines.specs.InBody.{InBody}
use Rattle.ir_resolve.proofs.Booleans.{not-true}
use Rattle.list_laws.proofs.Booleans.{first_true, second_true}

pub or-left : (a b : Bool) → (a || b) ≡ false → a ≡ false
or-left false b e = refl
or-left true b e = e

pub or-right : (a b : Bool) → (a || b) ≡ false → b ≡ false
or-right false b e = e
or-right true b e = absurd (let bad : true ≡ false = e in cc)

pub none_any : {A : Type 0} (p : A → Bool) (xs : List A) → list_any p xs ≡ false → AllByRecursion (λ x. p x ≡ false) xs
none_any p [] e = tt
none_any p (x ∷ xs) e = (or-left (p x) (list_any p xs) e, none_any p xs (or-right (p x) (list_any p xs) e))

-- a test of a line that is a fault finds none of the function's lines
pub body_clear : (lines : List Line) (test : Scope → Statement → Bool) → ((line : ℕ) → ¬ (InBody lines line test))
    → (func : Definition) → Contains (definitions_of lines) func → (l : Line) → Contains func.body l
    → test (scope_of lines func) l.says ≡ false
body_clear lines test clear func defined l inside =
    not-true (test (scope_of lines func) l.says) (λ e.
    let told : InBody lines l.number test = record {
      func = func;
      defined = defined;
      found = l;
      inside = inside;
      number = refl;
      faulty = e;
    } in clear l.number told)

-- ---- types

pub same_type-is : (a b : TypeWord) → same_type a b ≡ true → a ≡ b
same_type-is Void Void e = refl
same_type-is (Int width) (Int other) e = ap Int ((Decides-eqb width other).0 e)
same_type-is Managed Managed e = refl
same_type-is Plain Plain e = refl
same_type-is _ _ e = absurd (let bad : false ≡ true = e in cc)

pub same_types-is : (xs ys : List TypeWord) → same_types xs ys ≡ true → xs ≡ ys
same_types-is [] [] e = refl
same_types-is (x ∷ xs) (y ∷ ys) e =
    let first : x ≡ y = same_type-is x y (first_true (same_type x y) (same_types xs ys) e) in
    let rest : xs ≡ ys = same_types-is xs ys (second_true (same_type x y) (same_types xs ys) e) in
    cc
same_types-is [] (y ∷ ys) e = absurd (let bad : false ≡ true = e in cc)
same_types-is (x ∷ xs) [] e = absurd (let bad : false ≡ true = e in cc)
