-- Lists by place, a found place at a time.
use Rattle.std.proofs.Common.{◌≡◌, ℕ, zero, suc, ◌+◌, ◌<◌, ◌≤◌, Bool, true, false, eqb, ◌&&◌, ◌||◌, if◌then◌else◌, List, [], ◌∷◌, ◌++◌, length, take, get_or, refl, ap, sym, arith, inl, inr, Some, slice_get, ◌∙◌, append-nil}
use Rattle.std.specs.Global.{Vec}
use Rattle.std.proofs.lemmas.Bool.{cases_eq, eqb-true, ne_eqb, false≢true}
use Rattle.std.proofs.lemmas.List.{take_all, take_more}
use Rattle.std.proofs.lemmas.Option.{get_or_from_slice_get, slice_get_within}
use Rattle.list_laws.proofs.Places.{get_taken}
use Rattle.list_laws.proofs.Contents.{get_contained}
use Rattle.sp_ids.specs.declared.ids.ValueId.{ValueId}
use Rattle.shared_search.specs.Lists.{ListsReached}
use Rattle.rewriting_forms.specs.Numbered.{among}
use Rattle.rewriting_forms.specs.Names.{is_many}
use Rattle.live_sets.specs.Starts.{list_at, GrownAt}
use Rattle.live_sets.specs.Ends.{GrownWhere, AddsEnds}
use Rattle.live_sets.specs.Joins.{AddsJoins}
use Rattle.live_sets.proofs.EdgeLemmas.{among_has, has_among}
use Rattle.ir_ast.proofs.OpLaws.{mark_got}
use Rattle.list_laws.proofs.Booleans.{same_tests}
use Rattle.ir_ast.specs.Lists.{has_mark}

-- the found places are those that are marked
found_mark : (rows : List (List ℕ)) (starts found : List ℕ) (lists : ListsReached rows starts found) (node : ℕ) → among node found ≡ has_mark lists.marks node
found_mark rows starts found lists node = same_tests (among node found) (has_mark lists.marks node)
    (λ is. get_or_from_slice_get lists.marks node true false (lists.marked node (has_among found node is)))
    (λ is. among_has found node (lists.listed node (mark_got lists.marks node is)))

abbrev pub StandsOnce : List ℕ → Type 0
StandsOnce found = (i j node : ℕ) → slice_get found i ≡ Some node → slice_get found j ≡ Some node → i ≡ j

taken_below : (xs : List ℕ) (i j x : ℕ) → slice_get (take i xs) j ≡ Some x → j < i
taken_below xs zero j x is = absurd (let w = slice_get_within [] j x is in omega (arith, w))
taken_below [] (suc i) j x is = absurd (let w = slice_get_within [] j x is in omega (arith, w))
taken_below (y ∷ xs) (suc i) zero x is = omega arith
taken_below (y ∷ xs) (suc i) (suc j) x is = (let below = taken_below xs i j x is in omega (arith, below))

-- a place isn't found twice
new_place : (found : List ℕ) (i w : ℕ) → StandsOnce found → slice_get found i ≡ Some w → among w (take i found) ≡ true → ⊥
new_place found i w once at is =
    let there = get_contained (take i found) w (has_among (take i found) w is) in
    let below = taken_below found i there.0 w there.1 in
    let same = once there.0 i w (sym (get_taken found there.0 i below) ∙ there.1) at in
    omega (arith, below, same)

among_push : (w x : ℕ) (xs : List ℕ) → among w (xs ++ x ∷ []) ≡ (among w xs || eqb x w)
among_push w x [] = or_none (eqb x w)
  where
    or_none : (t : Bool) → (t || false) ≡ t
    or_none true = refl
    or_none false = refl
among_push w x (y ∷ xs) = ap (λ (t : Bool). eqb y w || t) (among_push w x xs) ∙ or_again (eqb y w) (among w xs) (eqb x w)
  where
    or_again : (a b c : Bool) → (a || (b || c)) ≡ ((a || b) || c)
    or_again true b c = refl
    or_again false b c = refl

grown_more : (value : ValueId) (t a e : Bool) (old mid new : List ValueId) → (e ≡ true → a ≡ false)
    → mid ≡ old ++ (if t && a then value ∷ [] else []) → new ≡ mid ++ (if t && e then value ∷ [] else [])
    → new ≡ old ++ (if t && (a || e) then value ∷ [] else [])
grown_more value false a e old mid new once first second = second ∙ append-nil mid ∙ first
grown_more value true true true old mid new once first second = absurd (false≢true (sym (once refl)))
grown_more value true true false old mid new once first second = second ∙ append-nil mid ∙ first
grown_more value true false true old mid new once first second = second ∙ ap (λ (xs : List ValueId). xs ++ value ∷ []) (first ∙ append-nil old)
grown_more value true false false old mid new once first second = second ∙ append-nil mid ∙ first

-- one place more
pub found_more : (t : Bool) (value : ValueId) (found : List ℕ) (i x w : ℕ) (old mid new : List ValueId) → StandsOnce found → slice_get found i ≡ Some x
    → mid ≡ old ++ (if t && among w (take i found) then value ∷ [] else []) → new ≡ mid ++ (if t && eqb x w then value ∷ [] else [])
    → new ≡ old ++ (if t && among w (take (i + 1) found) then value ∷ [] else [])
found_more t value found i x w old mid new once at first second =
    let more = take_more found i x (slice_get_within found i x at) ∙ ap (λ (y : ℕ). take i found ++ y ∷ []) (get_or_from_slice_get found i x x at) in
    grown_more value t (among w (take i found)) (eqb x w) old mid new
    (λ is. not_true (among w (take i found)) (λ there. new_place found i w once (at ∙ ap Some (eqb-true x w is)) there)) first second
    ∙ sym (ap (λ (t' : Bool). old ++ (if t && t' then value ∷ [] else [])) (ap (among w) more ∙ among_push w x (take i found)))
  where
    not_true : (t : Bool) → (t ≡ true → ⊥) → t ≡ false
    not_true true none = absurd (none refl)
    not_true false none = refl

pub adds_found : (rows : List (List ℕ)) (wanted : List Bool) (starts found : List ℕ) (value : ValueId) (old new : List (Vec ValueId)) (i : ℕ) → ListsReached rows starts found → length found ≤ i
    → length new ≡ length old
    → ((b : ℕ) → b < length old → list_at new b ≡ list_at old b ++ (if has_mark wanted b && among b (take i found) then value ∷ [] else []))
    → AddsEnds rows wanted starts value old new
adds_found rows wanted starts found value old new i lists past whole each = record {
  marks = lists.marks;
  reached = lists.reached;
  whole = whole;
  each = λ b below. each b below
      ∙ ap (λ (t : Bool). list_at old b ++ (if has_mark wanted b && t then value ∷ [] else [])) (ap (among b) (take_all i found past) ∙ found_mark rows starts found lists b);
}

pub joins_found : (rows fronts : List (List ℕ)) (count : ℕ) (starts found : List ℕ) (wanted : Bool) (value : ValueId) (old new : List (Vec ValueId)) (i : ℕ)
    → ListsReached rows starts found → length found ≤ i → wanted ≡ true → length new ≡ length old
    → ((b : ℕ) → b < length old → list_at new b ≡ list_at old b ++ (if is_many (get_or fronts b []) && among (count + b) (take i found) then value ∷ [] else []))
    → AddsJoins rows fronts count starts wanted value old new
joins_found rows fronts count starts found wanted value old new i lists past is whole each = record {
  marks = lists.marks;
  reached = λ wanted. lists.reached;
  whole = whole;
  each = λ b below. each b below
      ∙ ap (λ (t : Bool). list_at old b ++ (if is_many (get_or fronts b []) && t then value ∷ [] else []))
      (ap (among (count + b)) (take_all i found past) ∙ found_mark rows starts found lists (count + b)
      ∙ sym (ap (λ (t : Bool). t && has_mark lists.marks (count + b)) is));
}

pub none_where : (lists : List (Vec ValueId)) (test : ℕ → Bool) (item : ValueId) → ((b : ℕ) → b < length lists → test b ≡ false) → GrownWhere lists lists test item
none_where lists test item none = record {
  whole = refl;
  each = λ b below. sym (ap (λ (t : Bool). list_at lists b ++ (if t then item ∷ [] else [])) (none b below) ∙ append-nil (list_at lists b));
}

-- a front that one edge leads to is no join
pub not_many_where : (fronts : List (List ℕ)) (joins : List (Vec ValueId)) (place block : ℕ) (value : ValueId) → is_many (get_or fronts block []) ≡ false
    → place ≡ length joins + block → GrownWhere joins joins (λ b. is_many (get_or fronts b []) && eqb place (length joins + b)) value
not_many_where fronts joins place block value none place_is =
    none_where joins (λ b. is_many (get_or fronts b []) && eqb place (length joins + b)) value (λ b below. elim (cases_eq block b) [
      | inl e ↦
          let few = ap (λ (n : ℕ). is_many (get_or fronts n [])) (sym e) ∙ none in
          ap (λ (t : Bool). t && eqb place (length joins + b)) few
      | inr ne ↦
          ap (λ (t : Bool). is_many (get_or fronts b []) && t) (ne_eqb place (length joins + b) (λ same. ne (omega (arith, same, place_is))))
          ∙ both_false (is_many (get_or fronts b []))
    ])
  where
    both_false : (t : Bool) → (t && false) ≡ false
    both_false true = refl
    both_false false = refl

pub join_grown : (fronts : List (List ℕ)) (place count size b : ℕ) (value : ValueId) (old new : List ValueId) → size ≡ count
    → new ≡ old ++ (if is_many (get_or fronts b []) && eqb place (size + b) then value ∷ [] else [])
    → new ≡ old ++ (if is_many (get_or fronts b []) && eqb place (count + b) then value ∷ [] else [])
join_grown fronts place count size b value old new whole grown =
    grown ∙ ap (λ (n : ℕ). old ++ (if is_many (get_or fronts b []) && eqb place (n + b) then value ∷ [] else [])) whole
