-- The definitions of a text in two parts, one after another, and what is found in them.
use Rattle.std.proofs.Common.{◌≡◌, ◌∙◌, ℕ, zero, suc, ◌<◌, ◌⊎◌, inl, inr, refl, sym, ap, subst, List, [], ◌∷◌, ◌++◌, length, get_or, append_assoc, append-nil, arith}
use Rattle.std.specs.Prelude.{Option, map}
use Rattle.std.specs.List.{All, Contains}
use Rattle.std.specs.Global.{Vec}
use Rattle.std.proofs.lemmas.List.{map-append}
use Rattle.std.proofs.lemmas.List.Elements.{All-weaker, All-contains, All-contains_itself, Contains-append_left, Contains-append_right, Contains-append_cases}
use Rattle.ir_reader.specs.declared.raw.NumberedReading.{NumberedReading}
use Rattle.ir_lines.specs.declared.faults.Fault.{Fault}
use Rattle.ir_lines.specs.Notes.{Notes}
use Rattle.ir_lines.specs.Statements.{Line}
use Rattle.ir_lines.specs.Sections.{Definition}
use Rattle.ir_lines.specs.Parted.{definition_with, definitions_with}
use Rattle.ir_lines.specs.Views.{said, seen_lines}
use Rattle.ir_lines.proofs.NoteLemmas.{Either, notes-then, notes-same}
use Rattle.module_build.specs.Founds.{Found}
use Rattle.module_build.proofs.Founds.{notes-start, notes-turn, notes-all}
use Rattle.text_resolve.specs.Parts.{headed, lines_in, parted}
use Rattle.text_resolve.proofs.Contained.{contained-found, found-contained}
use Rattle.list_laws.proofs.Contents.{all_front, all_back}

-- ---- one definition more

none-with : (ls : List Line) → definitions_with ls [] ≡ []
none-with [] = refl
none-with (l ∷ ls) = refl

pub parted-none : (outer : List NumberedReading) → parted outer [] ≡ []
parted-none outer = none-with (seen_lines outer)

pub parted-push : (outer : List NumberedReading) (bodies : List (Vec NumberedReading)) (body : Vec NumberedReading) (line : NumberedReading)
    → length bodies < length outer → line ≡ get_or outer (length bodies) line
    → parted outer (bodies ++ body ∷ []) ≡ parted outer bodies ++ headed line (seen_lines body.items)
parted-push [] bodies body line below is = absurd (let bad : length bodies < 0 = below in omega (arith, bad))
parted-push (one ∷ outer) [] body line below is =
    ap (λ (fs : List Definition). headed one (seen_lines body.items) ++ fs) (none-with (seen_lines outer))
    ∙ append-nil (headed one (seen_lines body.items)) ∙ ap (λ (l : NumberedReading). headed l (seen_lines body.items)) (sym is)
parted-push (one ∷ outer) (first ∷ bodies) body line below is =
    ap (λ (fs : List Definition). headed one (seen_lines first.items) ++ fs)
    (parted-push outer bodies body line (let b : suc (length bodies) < suc (length outer) = below in omega (arith, b)) is)
    ∙ sym (append_assoc (headed one (seen_lines first.items)) (parted outer bodies) (headed line (seen_lines body.items)))

pub parted-at : (P : Definition → Type 0) (outer : List NumberedReading) (bodies : List (Vec NumberedReading)) (place : ℕ) (body : Vec NumberedReading) (line : NumberedReading)
    → All P (parted outer bodies) → place < length outer → place < length bodies → line ≡ get_or outer place line → body ≡ get_or bodies place body
    → All P (headed line (seen_lines body.items))
parted-at P [] bodies place body line all within below is at = absurd (let bad : place < 0 = within in omega (arith, bad))
parted-at P (one ∷ outer) [] place body line all within below is at = absurd (let bad : place < 0 = below in omega (arith, bad))
parted-at P (one ∷ outer) (first ∷ bodies) zero body line all within below is at =
    subst (λ (l : NumberedReading). All P (headed l (seen_lines body.items))) (sym is)
    (subst (λ (b : Vec NumberedReading). All P (headed one (seen_lines b.items))) (sym at)
    (all_front P (headed one (seen_lines first.items)) (parted outer bodies) all))
parted-at P (one ∷ outer) (first ∷ bodies) (suc place) body line all within below is at =
    parted-at P outer bodies place body line (all_back P (headed one (seen_lines first.items)) (parted outer bodies) all)
    (let b : suc place < suc (length outer) = within in omega (arith, b)) (let b : suc place < suc (length bodies) = below in omega (arith, b)) is at

-- ---- what is found, where neighbours play no part

abbrev pub FoundIn : {X : Type 0} → (X → ℕ → ℕ → Type 0) → List X → ℕ → ℕ → Type 0
FoundIn P xs = Found (λ before here after. P here) xs

pub notes-none : {X : Type 0} (P : X → ℕ → ℕ → Type 0) (kept : Option Fault) → Notes kept kept (FoundIn P [])
notes-none P kept = notes-all (λ before here after. P here) [] 0 kept kept refl (notes-start (λ before here after. P here) [] kept)

pub notes-one : {X : Type 0} (P : X → ℕ → ℕ → Type 0) (x : X) (old new : Option Fault) → Notes old new (P x) → Notes old new (FoundIn P (x ∷ []))
notes-one P x old new n =
    notes-all (λ before here after. P here) (x ∷ []) 1 old new refl
    (notes-turn (λ before here after. P here) (x ∷ []) 0 x old old new refl (notes-start (λ before here after. P here) (x ∷ []) old) n)

pub notes-behind : {X : Type 0} (P : X → ℕ → ℕ → Type 0) (xs ys : List X) (old between new : Option Fault)
    → Notes old between (FoundIn P xs) → Notes between new (FoundIn P ys) → Notes old new (FoundIn P (xs ++ ys))
notes-behind P xs ys old between new m n =
    notes-same old new (Either (FoundIn P xs) (FoundIn P ys)) (FoundIn P (xs ++ ys)) to from (notes-then old between new (FoundIn P xs) (FoundIn P ys) m n)
  where
    to : (line code : ℕ) → Either (FoundIn P xs) (FoundIn P ys) line code → FoundIn P (xs ++ ys) line code
    to line code (inl f) =
        found-contained P (xs ++ ys) f.here line code (Contains-append_left xs ys f.here (contained-found (λ before here after. P here) xs line code f)) f.faulty
    to line code (inr f) =
        found-contained P (xs ++ ys) f.here line code (Contains-append_right xs ys f.here (contained-found (λ before here after. P here) ys line code f)) f.faulty

    by : (here : _) (line code : ℕ) → P here line code → Contains xs here ⊎ Contains ys here → Either (FoundIn P xs) (FoundIn P ys) line code
    by here line code p (inl c) = inl (found-contained P xs here line code c p)
    by here line code p (inr c) = inr (found-contained P ys here line code c p)

    from : (line code : ℕ) → FoundIn P (xs ++ ys) line code → Either (FoundIn P xs) (FoundIn P ys) line code
    from line code f = by f.here line code f.faulty (Contains-append_cases xs ys f.here (contained-found (λ before here after. P here) (xs ++ ys) line code f))

-- ---- what is made of one more

pub behind-more : {B : Type 0} (f : Definition → B) (start old new : List B) (funcs here all : List Definition) → old ≡ start ++ map f funcs → new ≡ old ++ map f here
    → all ≡ funcs ++ here → new ≡ start ++ map f all
behind-more {B} f start old new funcs here all before added whole =
    added ∙ ap (λ (xs : List B). xs ++ map f here) before ∙ append_assoc start (map f funcs) (map f here)
    ∙ ap (λ (xs : List B). start ++ xs) (sym (map-append f funcs here)) ∙ ap (λ (fs : List Definition). start ++ map f fs) (sym whole)
