-- A text comes to one thing alone.
use Rattle.std.proofs.Common.{◌≡◌, ℕ, true, false, ◌&&◌, List, [], ◌∷◌, ◌++◌, Option, Some, None, Result, Ok, Err, refl, sym, ap, ◌∙◌, append_assoc, inl, inr}
use Rattle.std.specs.Prelude.{◌⊎◌, ⊤, not, map, filter}
use Rattle.std.proofs.lemmas.Bool.{true≢false}
use Rattle.std.proofs.lemmas.List.{map-append}
use Rattle.sp_text.specs.Lines.{NumberedLine}
use Rattle.ir_ast.specs.declared.modules.Form.{Form as TextForm}
use Rattle.ir_reader.specs.declared.states.Place.{Place}
use Rattle.ir_reader.specs.declared.states.Place.TheVariants as places
use Rattle.ir_reader.specs.Quantities.{within_limits}
use Rattle.ir_reader.specs.Text.{Fault, syntax_fault, limit_fault, Numbered}
use Rattle.ir_reader.specs.Judged.{Placed, unread, empty, says, placed, before, said_behind, said_in, said_of, ReadTo, OverLimit, Unread, Unclosed, is_kept, Whole, Judged}
use Rattle.ir_reader.proofs.Judging.{prefixed, then_said, said_in-append}
use Rattle.list_laws.proofs.Contents.{first_same, rest_same}

-- ---- what lines say

first_of : (x y : List Numbered × Place) → Some x ≡ Some y → x.0 ≡ y.0
first_of x y e = let same : x ≡ y = cc in ap (λ (p : List Numbered × Place). p.0) same

second_of : (x y : List Numbered × Place) → Some x ≡ Some y → x.1 ≡ y.1
second_of x y e = let same : x ≡ y = cc in ap (λ (p : List Numbered × Place). p.1) same

same_found : (text : TextForm) (lines : List NumberedLine) (found other : List Numbered) (place at : Place) → ReadTo text lines found place → ReadTo text lines other at → (found ≡ other) × (place ≡ at)
same_found text lines found other place at r s =
    let e = sym r.read ∙ s.read in (first_of (found, place) (other, at) e, second_of (found, place) (other, at) e)

-- ---- where reading stops

abbrev Halts : TextForm → List Numbered → Placed → Type 0
Halts text found unread = ⊤
Halts text found empty = ⊥
Halts text found (says what passed next) = (not passed && within_limits text (map said_of found ++ what ∷ [])) ≡ false

record Stopped (text : TextForm) (lines : List NumberedLine) (number : ℕ) : Type 0 where
  front : List NumberedLine
  last : NumberedLine
  back : List NumberedLine
  lines_are : lines ≡ front ++ last ∷ back
  number_is : last.number ≡ number
  found : List Numbered
  place : Place
  before_it : ReadTo text front found place
  halts : Halts text found (placed text place last.bytes)

abbrev over_stops : (text : TextForm) (lines : List NumberedLine) (number : ℕ) → OverLimit text lines number → Stopped text lines number
over_stops text lines number o = record {
  front = o.front;
  last = o.last;
  back = o.back;
  lines_are = o.lines_are;
  number_is = o.number_is;
  found = o.found;
  place = o.place;
  before_it = o.before_it;
  halts = rw o.read o.passes;
}

abbrev unread_stops : (text : TextForm) (lines : List NumberedLine) (number : ℕ) → Unread text lines number → Stopped text lines number
unread_stops text lines number u = record {
  front = u.front;
  last = u.last;
  back = u.back;
  lines_are = u.lines_are;
  number_is = u.number_is;
  found = u.found;
  place = u.place;
  before_it = u.before_it;
  halts = rw u.none tt;
}

found_past : (text : TextForm) (found all : List Numbered) (x : Numbered) (place : Place) (read : Option (List Numbered × Place)) → prefixed found (before x read) ≡ Some (all, place)
    → ((front back : List Numbered) → all ≡ front ++ back → within_limits text (map said_of front) ≡ true) → within_limits text (map said_of found ++ x.said ∷ []) ≡ true
found_past text found all x place None e within = absurd cc
found_past text found all x place (Some read) e within =
    let split : all ≡ (found ++ x ∷ []) ++ read.0 = sym (first_of (found ++ x ∷ read.0, read.1) (all, place) e) ∙ sym (append_assoc found (x ∷ []) read.0) in
    ap (λ (says : List _). within_limits text says) (sym (map-append said_of found (x ∷ []))) ∙ within (found ++ x ∷ []) read.0 split

-- lines that go past the one at which reading stops aren't read within the limits
halt_by : (text : TextForm) (last : NumberedLine) (mid : List NumberedLine) (found all : List Numbered) (place end : Place) (p : Placed) → Halts text found p
    → prefixed found (said_behind last p place (λ next. said_in text next mid)) ≡ Some (all, end)
    → ((front back : List Numbered) → all ≡ front ++ back → within_limits text (map said_of front) ≡ true) → ⊥
halt_by text last mid found all place end unread h e within = cc
halt_by text last mid found all place end empty h e within = h
halt_by text last mid found all place end (says what true next) h e within = cc
halt_by text last mid found all place end (says what false next) h e within =
    true≢false (sym (found_past text found all (record { line = last.number; said = what }) end (said_in text next mid) e within) ∙ h)

stopped_there : (text : TextForm) (lines mid : List NumberedLine) (number : ℕ) (all : List Numbered) (end : Place) (s : Stopped text lines number) → ReadTo text (s.front ++ s.last ∷ mid) all end → ⊥
unfolding said_in
stopped_there text lines mid number all end s r =
    let e : prefixed s.found (said_behind s.last (placed text s.place s.last.bytes) s.place (λ next. said_in text next mid)) ≡ Some (all, end)
    = sym (ap (λ (read : Option (List Numbered × Place)). then_said read (λ next. said_in text next (s.last ∷ mid))) s.before_it.read)
    ∙ sym (said_in-append text places.Top s.front (s.last ∷ mid)) ∙ r.read in
    halt_by text s.last mid s.found all s.place end (placed text s.place s.last.bytes) s.halts e r.within

-- ---- two splits of a list

abbrev Splits : {A : Type 0} → List A → A → List A → A → Type 0
Splits {A} front x other y = ((front ≡ other) × (x ≡ y)) ⊎ (((mid : List A) × (other ≡ front ++ x ∷ mid)) ⊎ ((mid : List A) × (front ≡ other ++ y ∷ mid)))

splits : {A : Type 0} (front : List A) (x : A) (back other : List A) (y : A) (rest : List A) → front ++ x ∷ back ≡ other ++ y ∷ rest → Splits front x other y
splits [] x back [] y rest e = inl (refl, first_same x y back rest e)
splits [] x back (o ∷ other) y rest e = inr (inl (other, rw (first_same x o back (other ++ y ∷ rest) e) refl))
splits (f ∷ front) x back [] y rest e = inr (inr (front, rw (first_same f y (front ++ x ∷ back) rest e) refl))
splits (f ∷ front) x back (o ∷ other) y rest e =
    let same : f ≡ o = first_same f o (front ++ x ∷ back) (other ++ y ∷ rest) e in
    elim (splits front x back other y rest (rest_same f o (front ++ x ∷ back) (other ++ y ∷ rest) e)) [
      | inl here ↦ inl (rw (same, here.0) refl, here.1)
      | inr (inl later) ↦ inr (inl (later.0, rw (same, later.1) refl))
      | inr (inr sooner) ↦ inr (inr (sooner.0, rw (same, sooner.1) refl))
    ]

-- reading stops at one line
record OnePlace (text : TextForm) (lines : List NumberedLine) (n m : ℕ) (s : Stopped text lines n) (t : Stopped text lines m) : Type 0 where
  numbers : n ≡ m
  lines_are : s.last ≡ t.last
  places : s.place ≡ t.place

one_place : (text : TextForm) (lines : List NumberedLine) (n m : ℕ) (s : Stopped text lines n) (t : Stopped text lines m) → OnePlace text lines n m s t
one_place text lines n m s t = by (splits s.front s.last s.back t.front t.last t.back (sym s.lines_are ∙ t.lines_are))
  where
    by : Splits s.front s.last t.front t.last → OnePlace text lines n m s t
    by (inl here) = record {
      numbers = sym s.number_is ∙ ap (λ (l : NumberedLine). l.number) here.1 ∙ t.number_is;
      lines_are = here.1;
      places = (same_found text t.front s.found t.found s.place t.place (rw (← here.0) s.before_it) t.before_it).1;
    }
    by (inr (inl later)) = absurd (stopped_there text lines later.0 n t.found t.place s (rw (← later.1) t.before_it))
    by (inr (inr sooner)) = absurd (stopped_there text lines sooner.0 m s.found s.place t (rw (← sooner.1) s.before_it))

not_whole : (text : TextForm) (lines : List NumberedLine) (n : ℕ) (found : List Numbered) (place : Place) → Stopped text lines n → ReadTo text lines found place → ⊥
not_whole text lines n found place s r = stopped_there text lines s.back n found place s (rw (← s.lines_are) r)

over_unread : (text : TextForm) (lines : List NumberedLine) (n m : ℕ) → OverLimit text lines n → Unread text lines m → ⊥
over_unread text lines n m o u =
    let p = one_place text lines n m (over_stops text lines n o) (unread_stops text lines m u) in
    let place : o.place ≡ u.place = p.places in
    let last : o.last ≡ u.last = p.lines_are in
    let at : placed text o.place o.last.bytes ≡ unread = ap (λ (q : Place). placed text q o.last.bytes) place ∙ ap (λ (l : NumberedLine). placed text u.place l.bytes) last ∙ u.none in
    let read : placed text o.place o.last.bytes ≡ says o.what o.passed o.next = o.read in
    cc

whole_unclosed : (text : TextForm) (lines : List NumberedLine) (readings : List Numbered) (n : ℕ) → Whole text lines readings → Unclosed text lines n → ⊥
whole_unclosed text lines readings n w u =
    let p = same_found text lines w.found u.found w.place u.place w.whole u.whole in
    true≢false (sym w.outside ∙ (rw p.1 u.inside))

-- ---- texts

pub once : (text : TextForm) (lines : List NumberedLine) (r s : Result (List Numbered) Fault) → Judged text lines r → Judged text lines s → r ≡ s
once text lines (Ok xs) (Ok ys) j k =
    let p = same_found text lines j.found k.found j.place k.place j.whole k.whole in
    ap (λ (zs : List Numbered). Ok zs) (j.readings_are ∙ ap (λ (zs : List Numbered). filter is_kept zs) p.0 ∙ sym k.readings_are)
once text lines (Ok xs) (Err (limit_fault n)) j k = absurd (not_whole text lines n j.found j.place (over_stops text lines n k) j.whole)
once text lines (Ok xs) (Err (syntax_fault n)) j (inl k) = absurd (not_whole text lines n j.found j.place (unread_stops text lines n k) j.whole)
once text lines (Ok xs) (Err (syntax_fault n)) j (inr k) = absurd (whole_unclosed text lines xs n j k)
once text lines (Err (limit_fault n)) (Ok ys) j k = absurd (not_whole text lines n k.found k.place (over_stops text lines n j) k.whole)
once text lines (Err (limit_fault n)) (Err (limit_fault m)) j k =
    ap (λ (i : ℕ). Err (limit_fault i)) (one_place text lines n m (over_stops text lines n j) (over_stops text lines m k)).numbers
once text lines (Err (limit_fault n)) (Err (syntax_fault m)) j (inl k) = absurd (over_unread text lines n m j k)
once text lines (Err (limit_fault n)) (Err (syntax_fault m)) j (inr k) = absurd (not_whole text lines n k.found k.place (over_stops text lines n j) k.whole)
once text lines (Err (syntax_fault n)) (Ok ys) (inl j) k = absurd (not_whole text lines n k.found k.place (unread_stops text lines n j) k.whole)
once text lines (Err (syntax_fault n)) (Ok ys) (inr j) k = absurd (whole_unclosed text lines ys n k j)
once text lines (Err (syntax_fault n)) (Err (limit_fault m)) (inl j) k = absurd (over_unread text lines m n k j)
once text lines (Err (syntax_fault n)) (Err (limit_fault m)) (inr j) k = absurd (not_whole text lines m j.found j.place (over_stops text lines m k) j.whole)
once text lines (Err (syntax_fault n)) (Err (syntax_fault m)) (inl j) (inl k) =
    ap (λ (i : ℕ). Err (syntax_fault i)) (one_place text lines n m (unread_stops text lines n j) (unread_stops text lines m k)).numbers
once text lines (Err (syntax_fault n)) (Err (syntax_fault m)) (inl j) (inr k) = absurd (not_whole text lines n k.found k.place (unread_stops text lines n j) k.whole)
once text lines (Err (syntax_fault n)) (Err (syntax_fault m)) (inr j) (inl k) = absurd (not_whole text lines m j.found j.place (unread_stops text lines m k) j.whole)
once text lines (Err (syntax_fault n)) (Err (syntax_fault m)) (inr j) (inr k) = ap (λ (i : ℕ). Err (syntax_fault i)) (sym j.number_is ∙ k.number_is)
