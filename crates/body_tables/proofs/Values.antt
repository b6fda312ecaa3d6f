-- The values of a function, one instruction after another.
use Rattle.std.proofs.Common.{◌≡◌, ◌∙◌, ℕ, ◌+◌, Bool, true, false, cond, List, [], ◌∷◌, ◌++◌, take, is_some, refl, ap, sym, append_assoc}
use Rattle.std.specs.Prelude.{◌||◌, Some, map, slice_get}
use Rattle.std.specs.List.{filter, list_any}
use Rattle.std.proofs.lemmas.List.{map-append, take_more}
use Rattle.std.proofs.lemmas.List.Elements.{filter-append}
use Rattle.std.proofs.lemmas.Option.{slice_get_within, get_or_from_slice_get}
use Rattle.ir_ast.specs.Insts.{Instruction}
use Rattle.ir_ast.specs.Values.{Definition, outcome}
use Rattle.body_tables.specs.Bodies.{given_by}

abbrev pub gives : Instruction → Bool
gives inst = is_some inst.result

abbrev pub results : List Instruction → List Definition
results insts = map outcome (filter gives insts)

pub taken_more : {A : Type 0} (xs : List A) (i : ℕ) (x : A) → slice_get xs i ≡ Some x → take (i + 1) xs ≡ take i xs ++ x ∷ []
taken_more xs i x at =
    take_more xs i x (slice_get_within xs i x at) ∙ ap (λ y. take i xs ++ y ∷ []) (get_or_from_slice_get xs i x x at)

one : (b : Bool) (inst : Instruction) → map outcome (cond b (inst ∷ []) []) ≡ cond b (outcome inst ∷ []) []
one true inst = refl
one false inst = refl

pub results_more : (insts : List Instruction) (i : ℕ) (inst : Instruction) → slice_get insts i ≡ Some inst
    → results (take (i + 1) insts) ≡ results (take i insts) ++ given_by inst
results_more insts i inst at =
    ap results (taken_more insts i inst at)
    ∙ ap (map outcome) (filter-append gives (take i insts) (inst ∷ []))
    ∙ map-append outcome (filter gives (take i insts)) (filter gives (inst ∷ []))
    ∙ ap (λ (ds : List Definition). results (take i insts) ++ ds) (one (gives inst) inst)

any-last : (p : Instruction → Bool) (xs : List Instruction) (x : Instruction) → list_any p (xs ++ x ∷ []) ≡ (list_any p xs || p x)
any-last p [] x = by (p x)
  where
    by : (b : Bool) → (b || false) ≡ (false || b)
    by true = refl
    by false = refl
any-last p (y ∷ ys) x = by (p y) (list_any p (ys ++ x ∷ [])) (list_any p ys) (any-last p ys x)
  where
    by : (b c d : Bool) → c ≡ (d || p x) → (b || c) ≡ ((b || d) || p x)
    by true c d e = refl
    by false c d e = e

-- a table of the values, one instruction further
pub table_more : {X : Type 0} (f : Definition → X) (front : List Definition) (insts : List Instruction) (i : ℕ) (inst : Instruction) (old new : List X)
    → slice_get insts i ≡ Some inst → old ≡ map f (front ++ results (take i insts)) → new ≡ old ++ map f (given_by inst)
    → new ≡ map f (front ++ results (take (i + 1) insts))
table_more {X} f front insts i inst old new at before more =
    more ∙ ap (λ (xs : List X). xs ++ map f (given_by inst)) before
    ∙ sym (map-append f (front ++ results (take i insts)) (given_by inst))
    ∙ ap (map f) (append_assoc front (results (take i insts)) (given_by inst)
    ∙ ap (λ (ds : List Definition). front ++ ds) (sym (results_more insts i inst at)))

-- whether one of the instructions has a property, one instruction further
pub any_more : (p : Instruction → Bool) (insts : List Instruction) (i : ℕ) (inst : Instruction) (old new : Bool)
    → slice_get insts i ≡ Some inst → old ≡ list_any p (take i insts) → new ≡ (old || p inst) → new ≡ list_any p (take (i + 1) insts)
any_more p insts i inst old new at before more =
    more ∙ ap (λ (b : Bool). b || p inst) before ∙ sym (any-last p (take i insts) inst) ∙ ap (list_any p) (sym (taken_more insts i inst at))
