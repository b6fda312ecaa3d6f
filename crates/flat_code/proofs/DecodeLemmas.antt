-- One line more, and one segment more.
use Rattle.std.proofs.Common.{◌≡◌, ℕ, zero, suc, Bool, true, false, List, [], ◌∷◌, ◌++◌, length, refl, sym, ap, subst, ◌∙◌, ◌≤◌, arith, append_assoc, append-nil}
use Rattle.std.specs.Prelude.{Option, Some, None, MatchOption, ◌||◌, if◌then◌else◌, slice_get}
use Rattle.std.proofs.lemmas.Bool.{or_right}
use Rattle.ir_ast.specs.Layouts.{ObjectLayout}
use Rattle.ir_ast.specs.Funcs.{Function}
use Rattle.ir_ast.specs.Faults.PhiEdges.{is_phi}
use Rattle.object_meaning.specs.Lines.{Line}
use Rattle.flat_code.specs.declared.spots.Spot.{Spot}
use Rattle.flat_code.specs.declared.lines.Exit.{Exit}
use Rattle.flat_code.specs.declared.lines.FlatLine.{FlatLine}
use Rattle.flat_code.specs.declared.lines.Segment.{Segment}
use Rattle.flat_code.specs.Flats.{is_straight, flat_line, flat_lines, is_inner, AreInner, Decodes}
use Rattle.flat_code.specs.Segments.{IsSegment, Leads, first_spot, AreChained, starts_in, IsFront}

flat_append : (layouts : List ObjectLayout) (xs ys : List Line) → flat_lines layouts (xs ++ ys) ≡ flat_lines layouts xs ++ flat_lines layouts ys
flat_append layouts [] ys = refl
flat_append layouts (x ∷ xs) ys =
    let here : List FlatLine = if is_phi x.inst.op then [] else flat_line layouts x ∷ [] in
    ap (λ (rest : List FlatLine). here ++ rest) (flat_append layouts xs ys) ∙ sym (append_assoc here (flat_lines layouts xs) (flat_lines layouts ys))

inner_push : (xs : List Line) (line : Line) → AreInner xs → is_inner line ≡ true → AreInner (xs ++ line ∷ [])
inner_push [] line all is = (is, tt)
inner_push (x ∷ xs) line all is = (all.0, inner_push xs line all.1 is)

pub decodes_none : (layouts : List ObjectLayout) (rest : List Line) → Decodes layouts rest [] rest
decodes_none layouts rest = record { front = []; splits = refl; inner = tt; are = refl }

pub decodes_skip : (layouts : List ObjectLayout) (lines at rest : List Line) (flats : List FlatLine) (line : Line) → at ≡ line ∷ rest
    → is_phi line.inst.op ≡ true → Decodes layouts lines flats at → Decodes layouts lines flats rest
decodes_skip layouts lines at rest flats line is phi so_far =
    let inner : is_inner line ≡ true = rw phi refl in
    let none : flat_lines layouts (line ∷ []) ≡ [] = rw phi refl in
    record {
      front = so_far.front ++ line ∷ [];
      splits = so_far.splits ∙ ap (λ (x : List Line). so_far.front ++ x) is ∙ sym (append_assoc so_far.front (line ∷ []) rest);
      inner = inner_push so_far.front line so_far.inner inner;
      are = so_far.are ∙ sym (append-nil (flat_lines layouts so_far.front))
          ∙ ap (λ (x : List FlatLine). flat_lines layouts so_far.front ++ x) (sym none) ∙ sym (flat_append layouts so_far.front (line ∷ []));
    }

pub decodes_push : (layouts : List ObjectLayout) (lines at rest : List Line) (flats : List FlatLine) (line : Line) → at ≡ line ∷ rest
    → is_phi line.inst.op ≡ false → is_straight line.inst.op ≡ true → Decodes layouts lines flats at
    → Decodes layouts lines (flats ++ flat_line layouts line ∷ []) rest
decodes_push layouts lines at rest flats line is plain straight so_far =
    let one : flat_lines layouts (line ∷ []) ≡ flat_line layouts line ∷ [] = rw plain refl in
    record {
      front = so_far.front ++ line ∷ [];
      splits = so_far.splits ∙ ap (λ (x : List Line). so_far.front ++ x) is ∙ sym (append_assoc so_far.front (line ∷ []) rest);
      inner = inner_push so_far.front line so_far.inner (or_right (is_phi line.inst.op) (is_straight line.inst.op) straight);
      are = ap (λ (x : List FlatLine). x ++ flat_line layouts line ∷ []) so_far.are
          ∙ ap (λ (x : List FlatLine). flat_lines layouts so_far.front ++ x) (sym one) ∙ sym (flat_append layouts so_far.front (line ∷ []));
    }

-- ---- segments

first_push : (segments : List Segment) (segment : Segment) (next : Option Spot)
    → first_spot segments (Some segment.start) ≡ first_spot (segments ++ segment ∷ []) next
first_push [] segment next = refl
first_push (first ∷ segments) segment next = refl

pub chained_push : (layouts : List ObjectLayout) (defined : Option Function) (segments : List Segment) (segment : Segment) (next : Option Spot)
    → AreChained layouts defined segments (Some segment.start) → IsSegment layouts defined segment → Leads defined segment segment.exit next
    → AreChained layouts defined (segments ++ segment ∷ []) next
chained_push layouts defined [] segment next chained is leads = (is, leads, tt)
chained_push layouts defined (first ∷ segments) segment next chained is leads =
    (chained.0, subst (Leads defined first first.exit) (first_push segments segment next) chained.1, chained_push layouts defined segments segment next chained.2 is leads)

leads_on : (defined : Option Function) (segment : Segment) (exit : Option Exit) (next : Option Spot) → Leads defined segment exit None → Leads defined segment exit next
leads_on defined segment None next leads = leads
leads_on defined segment (Some exit) next leads = absurd leads

pub chained_open : (layouts : List ObjectLayout) (defined : Option Function) (segments : List Segment) (next : Option Spot)
    → AreChained layouts defined segments None → AreChained layouts defined segments next
chained_open layouts defined [] next chained = tt
chained_open layouts defined (last ∷ []) next chained = (chained.0, leads_on defined last last.exit next chained.1, tt)
chained_open layouts defined (first ∷ (second ∷ segments)) next chained =
    (chained.0, chained.1, chained_open layouts defined (second ∷ segments) next chained.2)

pub starts_push : (segments : List Segment) (segment : Segment) → starts_in (segments ++ segment ∷ []) ≡ starts_in segments ++ segment.start ∷ []
starts_push [] segment = refl
starts_push (first ∷ segments) segment = ap (λ (rest : List Spot). first.start ∷ rest) (starts_push segments segment)

-- ---- fronts of lists

pub front_same : {A : Type 0} (xs ys : List A) → ys ≡ xs → IsFront xs ys
front_same xs ys is = record { more = []; is = is ∙ sym (append-nil xs) }

pub front_get : {A : Type 0} (xs ys : List A) (place : ℕ) (x : A) → IsFront xs ys → slice_get xs place ≡ Some x → slice_get ys place ≡ Some x
front_get {A = A} xs ys place x front is = subst (λ (all : List A). slice_get all place ≡ Some x) (sym front.is) (within xs front.more place is)
  where
    within : (xs more : List A) (place : ℕ) → slice_get xs place ≡ Some x → slice_get (xs ++ more) place ≡ Some x
    within [] more place is = absurd (let no : None ≡ Some x = is in cc)
    within (y ∷ xs) more zero is = is
    within (y ∷ xs) more (suc place) is = within xs more place is

-- one more place, and what is where there is one
pub places_more : (places : List ℕ) (place : ℕ) (P : ℕ → ℕ → Type 0) → ((k found : ℕ) → slice_get places k ≡ Some found → P k found)
    → P (length places) place → (k found : ℕ) → slice_get (places ++ place ∷ []) k ≡ Some found → P k found
places_more [] place P before here zero found is = subst (P zero) (let e : place ≡ found = cc in e) here
places_more [] place P before here (suc k) found is = absurd (let no : None ≡ Some found = is in cc)
places_more (first ∷ places) place P before here zero found is = before zero found is
places_more (first ∷ places) place P before here (suc k) found is =
    places_more places place (λ (j f : ℕ). P (suc j) f) (λ j f e. before (suc j) f e) here k found is

pub places_match : (places : List ℕ) (k : ℕ) (E : Type 0) (P : ℕ → Type 0) → (length places ≤ k → E)
    → ((found : ℕ) → slice_get places k ≡ Some found → P found) → MatchOption (slice_get places k) E P
places_match [] k E P none some = none (let h : 0 ≤ k = omega arith in h)
places_match (first ∷ places) zero E P none some = some first refl
places_match (first ∷ places) (suc k) E P none some =
    places_match places k E P (λ h. none (let more : suc (length places) ≤ suc k = omega arith in more)) some
