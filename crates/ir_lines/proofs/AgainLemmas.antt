-- Names that are added one after another, and what is found of them.
use Rattle.std.proofs.Common.{◌≡◌, ◌∙◌, ℕ, ◌⊎◌, inl, inr, Bool, false, List, [], ◌∷◌, ◌++◌, refl, ap, sym, subst, append_assoc}
use Rattle.std.specs.Prelude.{map, Option, is_none, not, IsTrue, ◌↔◌}
use Rattle.std.specs.List.{Contains}
use Rattle.std.proofs.lemmas.Bool.{not-true}
use Rattle.std.proofs.lemmas.List.{append-nil, map-append}
use Rattle.ir_lines.specs.declared.faults.Fault.{Fault}
use Rattle.ir_ast.specs.declared.modules.Form.{Form}
use Rattle.ir_ast.specs.declared.modules.Form.TheVariants.{Source}
use Rattle.ir_ast.specs.Faults.Reserved.{IsInsertedName}
use Rattle.ir_lines.specs.Notes.{Notes, Is}
use Rattle.ir_lines.specs.Places.{place_in}
use Rattle.ir_lines.specs.InBody.{Repeats}
use Rattle.ir_lines.specs.Again.{FoundAfter, IsAgain, IsBadName, NamesFound}
use Rattle.ir_lines.proofs.NoteLemmas.{Either, notes-then, notes-same}
use Rattle.ir_lines.proofs.PlaceLemmas.{place-contains, contains-place}
use Rattle.std.proofs.lemmas.List.Elements.{Contains-append_right}
use Rattle.list_laws.proofs.Contents.{contains_cons, contains_first, contains_none}

abbrev pub Given : Type 0
Given = ℕ × List ℕ

abbrev pub Finds : Type 1
Finds = List (List ℕ) → List ℕ → ℕ → Type 0

abbrev pub names_of : List (ℕ × List ℕ) → List (List ℕ)
names_of given = map (λ one. one.1) given

-- ---- where a place in two lists is

pub record IsLeft {X : Type 0} (xs before : List X) (x : X) (after ys : List X) : Type 0 where
  pub rest : List X
  pub whole : xs ≡ before ++ x ∷ rest

pub record IsRight {X : Type 0} (xs ys before : List X) (x : X) (after : List X) : Type 0 where
  pub start : List X
  pub whole : ys ≡ start ++ x ∷ after
  pub joined : before ≡ xs ++ start

left-more : {X : Type 0} (y z : X) (xs ys zs : List X) (x : X) (after : List X) → y ≡ z
    → IsLeft xs zs x after ys ⊎ IsRight xs ys zs x after → IsLeft (y ∷ xs) (z ∷ zs) x after ys ⊎ IsRight (y ∷ xs) ys (z ∷ zs) x after
left-more y z xs ys zs x after e (inl l) = inl (record {
  rest = l.rest;
  whole = ap (λ w. w ∷ xs) e ∙ ap (λ ws. z ∷ ws) l.whole;
})
left-more y z xs ys zs x after e (inr r) = inr (record {
  start = r.start;
  whole = r.whole;
  joined = ap (λ w. w ∷ zs) (sym e) ∙ ap (λ ws. y ∷ ws) r.joined;
})

pub place-of : {X : Type 0} (xs ys before : List X) (x : X) (after : List X) → xs ++ ys ≡ before ++ x ∷ after
    → IsLeft xs before x after ys ⊎ IsRight xs ys before x after
place-of [] ys before x after e = inr (record { start = before; whole = e; joined = refl })
place-of (y ∷ xs) ys [] x after e =
    let is : y ≡ x = cc in inl (record { rest = xs; whole = ap (λ w. w ∷ xs) is })
place-of (y ∷ xs) ys (z ∷ zs) x after e =
    let is : y ≡ z = cc in
    let rest : xs ++ ys ≡ zs ++ x ∷ after = cc in
    left-more y z xs ys zs x after is (place-of xs ys zs x after rest)

not-nil : {X : Type 0} (before : List X) (x : X) (after : List X) → ¬ ([] ≡ before ++ x ∷ after)
not-nil [] x after e = cc
not-nil (b ∷ bs) x after e = cc

-- ---- what is found of names that are added

pub found-none : (F : Finds) (names : List (List ℕ)) (line code : ℕ) → ¬ FoundAfter F names [] line code
found-none F names line code f = not-nil f.before (line, f.name) f.after f.whole

pub found-left : (F : Finds) (names : List (List ℕ)) (a b : List Given) (line code : ℕ)
    → FoundAfter F names a line code → FoundAfter F names (a ++ b) line code
found-left F names a b line code f = record {
  before = f.before;
  name = f.name;
  after = f.after ++ b;
  whole = ap (λ xs. xs ++ b) f.whole ∙ append_assoc f.before ((line, f.name) ∷ f.after) b;
  faulty = f.faulty;
}

names-joined : (names : List (List ℕ)) (a before : List Given)
    → (names ++ names_of a) ++ names_of before ≡ names ++ names_of (a ++ before)
names-joined names a before =
    append_assoc names (names_of a) (names_of before) ∙ ap (λ xs. names ++ xs) (sym (map-append (λ (one : Given). one.1) a before))

pub found-right : (F : Finds) (names : List (List ℕ)) (a b : List Given) (line code : ℕ)
    → FoundAfter F (names ++ names_of a) b line code → FoundAfter F names (a ++ b) line code
found-right F names a b line code f = record {
  before = a ++ f.before;
  name = f.name;
  after = f.after;
  whole = ap (λ xs. a ++ xs) f.whole ∙ sym (append_assoc a f.before ((line, f.name) ∷ f.after));
  faulty = subst (λ (xs : List (List ℕ)). F xs f.name code) (names-joined names a f.before) f.faulty;
}

pub found-either : (F : Finds) (names : List (List ℕ)) (a b : List Given) (line code : ℕ)
    → FoundAfter F names (a ++ b) line code → FoundAfter F names a line code ⊎ FoundAfter F (names ++ names_of a) b line code
found-either F names a b line code f = of f.before f.name f.after f.faulty (place-of a b f.before (line, f.name) f.after f.whole)
  where
    of : (before : List Given) (name : List ℕ) (after : List Given) → F (names ++ names_of before) name code
        → IsLeft a before (line, name) after b ⊎ IsRight a b before (line, name) after
        → FoundAfter F names a line code ⊎ FoundAfter F (names ++ names_of a) b line code
    of before name after faulty (inl l) =
        inl (record { before = before; name = name; after = l.rest; whole = l.whole; faulty = faulty })
    of before name after faulty (inr r) = inr (record {
      before = r.start;
      name = name;
      after = after;
      whole = r.whole;
      faulty = subst (λ (xs : List (List ℕ)). F xs name code) (sym (names-joined names a r.start))
          (subst (λ (xs : List Given). F (names ++ names_of xs) name code) r.joined faulty);
    })

pub found-one : (F : Finds) (names : List (List ℕ)) (at : ℕ) (one : List ℕ) (line code : ℕ)
    → FoundAfter F names ((at, one) ∷ []) line code → (line ≡ at) × F names one code
found-one F names at one line code f = of f.before f.name f.after f.whole f.faulty
  where
    of : (before : List Given) (name : List ℕ) (after : List Given) → (at, one) ∷ [] ≡ before ++ (line, name) ∷ after
        → F (names ++ names_of before) name code → (line ≡ at) × F names one code
    of [] name after e faulty =
        let same : (at, one) ≡ (line, name) = cc in (
          sym (ap (λ (p : Given). p.0) same),
          subst (λ (xs : List (List ℕ)). F xs one code) (append-nil names)
              (subst (λ (n : List ℕ). F (names ++ []) n code) (sym (ap (λ (p : Given). p.1) same)) faulty),
        )
    of (b ∷ bs) name after e faulty =
        absurd (not-nil bs (line, name) after (let rest : [] ≡ bs ++ (line, name) ∷ after = cc in rest))

pub one-found : (F : Finds) (names : List (List ℕ)) (at : ℕ) (one : List ℕ) (line code : ℕ)
    → line ≡ at → F names one code → FoundAfter F names ((at, one) ∷ []) line code
one-found F names at one line code e f = record {
  before = [];
  name = one;
  after = [];
  whole = ap (λ (l : ℕ). (l, one) ∷ []) (sym e);
  faulty = subst (λ (xs : List (List ℕ)). F xs one code) (sym (append-nil names)) f;
}

-- ---- notes

pub notes-added : (F : Finds) (names : List (List ℕ)) (a b : List Given) (old between new : Option Fault)
    → Notes old between (FoundAfter F names a) → Notes between new (FoundAfter F (names ++ names_of a) b)
    → Notes old new (FoundAfter F names (a ++ b))
notes-added F names a b old between new m n =
    notes-same old new (Either (FoundAfter F names a) (FoundAfter F (names ++ names_of a) b)) (FoundAfter F names (a ++ b))
    (λ line code f. either line code f) (λ line code f. found-either F names a b line code f)
    (notes-then old between new (FoundAfter F names a) (FoundAfter F (names ++ names_of a) b) m n)
  where
    either : (line code : ℕ) → FoundAfter F names a line code ⊎ FoundAfter F (names ++ names_of a) b line code → FoundAfter F names (a ++ b) line code
    either line code (inl f) = found-left F names a b line code f
    either line code (inr f) = found-right F names a b line code f

-- a name that may be one of others
pub again-notes : (names : List (List ℕ)) (name : List ℕ) (line : ℕ) (is_new : Bool) (old new : Option Fault)
    → is_new ≡ is_none (place_in names name) → Notes old new (λ l c. IsTrue (not is_new) × Is line 3 l c)
    → Notes old new (FoundAfter IsAgain names ((line, name) ∷ []))
again-notes names name line is_new old new known n =
    notes-same old new (λ l c. IsTrue (not is_new) × Is line 3 l c) (FoundAfter IsAgain names ((line, name) ∷ []))
    (λ l c f. one-found IsAgain names line name l c f.1.0 (f.1.1, place-contains names name (sym known ∙ not-true is_new f.0)))
    (λ l c f. let g = found-one IsAgain names line name l c f in
    (ap not (known ∙ contains-place names name g.1.1), (g.0, g.1.0)))
    n

abbrev pub NameNoted : Form → ℕ → List ℕ → Bool → ℕ → ℕ → Type 0
NameNoted form line name is_new at code =
    (at ≡ line) × (((code ≡ 3) × (is_new ≡ false)) ⊎ ((code ≡ 14) × (form ≡ Source) × IsInsertedName name))

pub name-notes : (form : Form) (line : ℕ) (name : List ℕ) (is_new reserved : Bool) (old between new : Option Fault)
    → (IsTrue reserved ↔ ((form ≡ Source) × IsInsertedName name))
    → Notes old between (λ l c. IsTrue (not is_new) × Is line 3 l c) → Notes between new (λ l c. IsTrue reserved × Is line 14 l c)
    → Notes old new (NameNoted form line name is_new)
name-notes form line name is_new reserved old between new known m n =
    notes-same old new (Either (λ l c. IsTrue (not is_new) × Is line 3 l c) (λ l c. IsTrue reserved × Is line 14 l c)) (NameNoted form line name is_new)
    to from (notes-then old between new (λ l c. IsTrue (not is_new) × Is line 3 l c) (λ l c. IsTrue reserved × Is line 14 l c) m n)
  where
    to : (l c : ℕ) → Either (λ l c. IsTrue (not is_new) × Is line 3 l c) (λ l c. IsTrue reserved × Is line 14 l c) l c → NameNoted form line name is_new l c
    to l c (inl f) = (f.1.0, inl (f.1.1, not-true is_new f.0))
    to l c (inr f) = let k = known.0 f.0 in (f.1.0, inr (f.1.1, k.0, k.1))

    from : (l c : ℕ) → NameNoted form line name is_new l c → Either (λ l c. IsTrue (not is_new) × Is line 3 l c) (λ l c. IsTrue reserved × Is line 14 l c) l c
    from l c (e, inl f) = inl (ap not f.1, (e, f.0))
    from l c (e, inr f) = inr (known.1 (f.1, f.2), (e, f.0))

pub bad-notes : (form : Form) (names : List (List ℕ)) (name : List ℕ) (line : ℕ) (is_new : Bool) (old new : Option Fault)
    → is_new ≡ is_none (place_in names name) → Notes old new (NameNoted form line name is_new)
    → Notes old new (FoundAfter (IsBadName form) names ((line, name) ∷ []))
bad-notes form names name line is_new old new known n =
    notes-same old new (NameNoted form line name is_new) (FoundAfter (IsBadName form) names ((line, name) ∷ [])) to from n
  where
    to : (l c : ℕ) → NameNoted form line name is_new l c → FoundAfter (IsBadName form) names ((line, name) ∷ []) l c
    to l c (e, inl f) = one-found (IsBadName form) names line name l c e (inl (f.0, place-contains names name (sym known ∙ f.1)))
    to l c (e, inr f) = one-found (IsBadName form) names line name l c e (inr f)

    by : (l c : ℕ) → (l ≡ line) × IsBadName form names name c → NameNoted form line name is_new l c
    by l c (e, inl f) = (e, inl (f.0, known ∙ contains-place names name f.1))
    by l c (e, inr f) = (e, inr f)

    from : (l c : ℕ) → FoundAfter (IsBadName form) names ((line, name) ∷ []) l c → NameNoted form line name is_new l c
    from l c f = by l c (found-one (IsBadName form) names line name l c f)

-- ---- as repeats

pub again-repeats : (given : List Given) (line code : ℕ) → FoundAfter IsAgain [] given line code → (code ≡ 3) × Repeats given line
again-repeats given line code f =
    (f.faulty.0, record { before = f.before; what = f.name; after = f.after; whole = f.whole; again = f.faulty.1 })

pub repeats-again : (given : List Given) (line code : ℕ) → code ≡ 3 → Repeats given line → FoundAfter IsAgain [] given line code
repeats-again given line code e r =
    record { before = r.before; name = r.what; after = r.after; whole = r.whole; faulty = (e, r.again) }

contains-at : (before : List Given) (one : Given) (after given : List Given) → given ≡ before ++ one ∷ after → Contains given one
contains-at before one after given e =
    subst (λ (xs : List Given). Contains xs one) (sym e) (Contains-append_right before (one ∷ after) one (contains_first one after))

pub names-found : (form : Form) (given : List Given) (line code : ℕ) → FoundAfter (IsBadName form) [] given line code → NamesFound form given line code
names-found form given line code f = of f.before f.name f.after f.whole f.faulty
  where
    of : (before : List Given) (name : List ℕ) (after : List Given) → given ≡ before ++ (line, name) ∷ after
        → IsBadName form (names_of before) name code → NamesFound form given line code
    of before name after whole (inl b) =
        inl (b.0, record { before = before; what = name; after = after; whole = whole; again = b.1 })
    of before name after whole (inr b) =
        inr (b.0, b.1, record { name = name; given = contains-at before (line, name) after given whole; inserted = b.2 })

-- an element with what stands before and after it
pub record IsSplit {X : Type 0} (xs : List X) (x : X) : Type 0 where
  pub before : List X
  pub after : List X
  pub whole : xs ≡ before ++ x ∷ after

split-more : {X : Type 0} (y : X) (ys : List X) (x : X) → (y ≡ x) ⊎ Contains ys x → (Contains ys x → IsSplit ys x) → IsSplit (y ∷ ys) x
split-more y ys x (inl e) more = record { before = []; after = ys; whole = ap (λ z. z ∷ ys) e }
split-more y ys x (inr d) more =
    let s = more d in record { before = y ∷ s.before; after = s.after; whole = ap (λ zs. y ∷ zs) s.whole }

pub split-at : {X : Type 0} (xs : List X) (x : X) → Contains xs x → IsSplit xs x
split-at [] x c = absurd (contains_none x c)
split-at (y ∷ ys) x c = split-more y ys x (contains_cons y x ys c) (split-at ys x)

pub found-names : (form : Form) (given : List Given) (line code : ℕ) → NamesFound form given line code → FoundAfter (IsBadName form) [] given line code
found-names form given line code (inl (e, r)) =
    record { before = r.before; name = r.what; after = r.after; whole = r.whole; faulty = inl (e, r.again) }
found-names form given line code (inr (e, s, n)) =
    let at = split-at given (line, n.name) n.given in
    record { before = at.before; name = n.name; after = at.after; whole = at.whole; faulty = inr (e, s, n.inserted) }
