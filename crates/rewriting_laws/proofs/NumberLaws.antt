-- The numbers of the final text number the names.
use Rattle.std.proofs.Common.{◌≡◌, ℕ, zero, suc, ◌<◌, ◌≤◌, ◌+◌, Bool, true, eqb, if◌then◌else◌, List, [], ◌∷◌, ◌++◌, length, map, refl, ap, sym, arith, Some, None, Option, slice_get, inl, inr, ◌∙◌, ◌&&◌, subst}
use Rattle.std.specs.List.{flat_map, range_with_len}
use Rattle.std.specs.Option.{option_map_or}
use Rattle.std.proofs.lemmas.Bool.{cases_Bool, cases_eq, eqb-true, false≢true, and_parts}
use Rattle.std.proofs.lemmas.Option.{slice_get_within}
use Rattle.ir_ast.specs.declared.ops.Operand.{Operand}
use Rattle.ir_ast.specs.Funcs.{Function}
use Rattle.object_meaning.specs.Lines.{Line}
use Rattle.rewriting_forms.specs.Numbered.{among, lines_at, line_at, calls, pointers}
use Rattle.rewriting_forms.specs.Liveness.{live_list}
use Rattle.rewriting_forms.specs.Names.{Name, own, relocated, joined, token, Naming}
use Rattle.rewriting_laws.proofs.NameTests.{same_itself}
use Rattle.rewriting_forms.specs.Rewritten.{same_name, behind_all, place_in, line_names, joined_at, block_names, names_of}
use Rattle.rewriting_laws.specs.Laws.{owner_of, IsNumbering}
use Rattle.rewriting_laws.proofs.NameLemmas.{among_cons, filter_among, line_is}
use Rattle.rewriting_laws.proofs.PlaceLaws.{place_is, get_back}
use Rattle.rewriting_laws.proofs.ApartLaws.{names_apart}
use Rattle.list_laws.proofs.Ranges.{range_get}
use Rattle.list_laws.proofs.Places.{get_front}

same_owner : (x y : Name) → same_name x y ≡ true → owner_of x ≡ owner_of y
same_owner (own v) (own w) is = ap Some (eqb-true v w is)
same_owner (relocated b k v) (relocated c j w) is = ap Some (eqb-true v w (and_parts (eqb b c && eqb k j) (eqb v w) is).1)
same_owner (joined b v) (joined c w) is = ap Some (eqb-true v w (and_parts (eqb b c) (eqb v w) is).1)
same_owner (token b k) (token c j) is = refl
same_owner (own v) (relocated c j w) is = absurd (false≢true is)
same_owner (own v) (joined c w) is = absurd (false≢true is)
same_owner (own v) (token c j) is = absurd (false≢true is)
same_owner (relocated b k v) (own w) is = absurd (false≢true is)
same_owner (relocated b k v) (joined c w) is = absurd (false≢true is)
same_owner (relocated b k v) (token c j) is = absurd (false≢true is)
same_owner (joined b v) (own w) is = absurd (false≢true is)
same_owner (joined b v) (relocated c j w) is = absurd (false≢true is)
same_owner (joined b v) (token c j) is = absurd (false≢true is)
same_owner (token b k) (own w) is = absurd (false≢true is)
same_owner (token b k) (relocated c j w) is = absurd (false≢true is)
same_owner (token b k) (joined c w) is = absurd (false≢true is)

abbrev owner_in : List Name → ℕ → Option ℕ
owner_in [] zero = None
owner_in [] (suc v) = Some v
owner_in (x ∷ names) zero = owner_of x
owner_in (x ∷ names) (suc n) = owner_in names n

missing_owner : (name : Name) → owner_in [] (behind_all name) ≡ owner_of name
missing_owner (own v) = refl
missing_owner (relocated b k v) = refl
missing_owner (joined b v) = refl
missing_owner (token b k) = refl

place_owner : (names : List Name) (name : Name) → owner_in names (place_in names name) ≡ owner_of name
place_owner [] name = missing_owner name
place_owner (x ∷ names) name = elim (cases_Bool (same_name x name)) [
  | inl is ↦ rw is (same_owner x name is)
  | inr other ↦ rw other (place_owner names name)
]

-- a name of the list has its number below the length
place_within : (names : List Name) (i : ℕ) (name : Name) → slice_get names i ≡ Some name → place_in names name < length names
place_within [] i name is = absurd (cc)
place_within (x ∷ names) zero name is =
    let e : x ≡ name = cc in
    rw (ap (same_name x) (sym e) ∙ same_itself x) (omega arith)
place_within (x ∷ names) (suc i) name is = elim (cases_Bool (same_name x name)) [
  | inl here ↦ rw here (omega arith)
  | inr other ↦ let rest = place_within names i name is in rw other (omega arith)
]

abbrev Has : List Name → Name → Type 0
Has names name = (i : ℕ) × (slice_get names i ≡ Some name)

has_front : (xs ys : List Name) (name : Name) → Has xs name → Has (xs ++ ys) name
has_front xs ys name has = (has.0, get_front xs ys has.0 name has.1)

has_back : (xs ys : List Name) (name : Name) → Has ys name → Has (xs ++ ys) name
has_back xs ys name has = (length xs + has.0, get_back xs ys has.0 name has.1)

has_flat : (f : ℕ → List Name) (from count k : ℕ) (name : Name) → from ≤ k → k < from + count → Has (f k) name → Has (flat_map f (range_with_len from count)) name
has_flat f from zero k name le lt has = absurd (omega arith)
has_flat f from (suc count) k name le lt has = elim (cases_eq from k) [
  | inl e ↦ has_front (f from) (flat_map f (range_with_len (from + 1) count)) name (rw e has)
  | inr ne ↦ has_back (f from) (flat_map f (range_with_len (from + 1) count)) name (has_flat f (from + 1) count k name (omega (arith, ne)) (omega arith) has)
]

has_map : (f : ℕ → Name) (xs : List ℕ) (v : ℕ) → among v xs ≡ true → Has (map f xs) (f v)
has_map f [] v is = absurd (false≢true is)
has_map f (x ∷ xs) v is = elim (cases_eq x v) [
  | inl e ↦ (0, ap (λ (y : ℕ). Some (f y)) e)
  | inr ne ↦ let rest = has_map f xs v (among_cons v x xs is ne) in (suc rest.0, rest.1)
]

map_at : (f : ℕ → Name) (xs : List ℕ) (k x : ℕ) → slice_get xs k ≡ Some x → slice_get (map f xs) k ≡ Some (f x)
map_at f [] k x is = absurd (cc)
map_at f (y ∷ xs) zero x is = ap (λ (z : ℕ). Some (f z)) (cc)
map_at f (y ∷ xs) (suc k) x is = map_at f xs k x is

module _ (func : Function) (table : List Operand) (naming : Naming) where
  in_text : (b : ℕ) (name : Name) → b < length func.blocks → Has (block_names func table naming b) name → Has (names_of func table naming) name
  in_text b name below has =
      has_back (map own (range_with_len 0 (length func.args))) (flat_map (block_names func table naming) (range_with_len 0 (length func.blocks))) name
      (has_flat (block_names func table naming) 0 (length func.blocks) b name (omega arith) (omega arith) has)

  in_lines : (b k : ℕ) (name : Name) → k < length (lines_at func b) → Has (line_names func table b k) name → Has (block_names func table naming b) name
  in_lines b k name within has =
      has_back (map (joined b) (joined_at func naming b)) (flat_map (line_names func table b) (range_with_len 0 (length (lines_at func b)))) name
      (has_flat (line_names func table b) 0 (length (lines_at func b)) k name (omega arith) (omega arith) has)

  pub numbers_of_text : ((b k : ℕ) (line : Line) → slice_get (lines_at func b) k ≡ Some line → b < length func.blocks)
      → ((b k : ℕ) → calls (line_at func b k) ≡ true → (b < length func.blocks) × (k < length (lines_at func b)))
      → ((b v : ℕ) → naming.joins b v ≡ true → b < length func.blocks)
      → IsNumbering func table naming.joins (place_in (names_of func table naming)) (length (names_of func table naming))
  numbers_of_text in_block in_call in_join = record {
    owner = owner_in (names_of func table naming);
    owns = place_owner (names_of func table naming);
    arguments = λ v below.
        place_is (names_of func table naming) (names_apart func table naming) v (own v)
        (get_front (map own (range_with_len 0 (length func.args))) (flat_map (block_names func table naming) (range_with_len 0 (length func.blocks))) v (own v)
        (map_at own (range_with_len 0 (length func.args)) v v (let z : 0 + v ≡ v = omega arith in range_get 0 (length func.args) v below ∙ ap Some z)));
    room_line = λ b k x line stands to.
        let given : (line_at func b k).to ≡ Some x = ap (λ (l : Line). l.to) (line_is func b k line stands) ∙ to in
        let mine : Has (option_map_or (λ (x : ℕ). own x ∷ []) (line_at func b k).to []) (own x) = (0, ap (λ (o : Option ℕ). slice_get (option_map_or (λ (x : ℕ). own x ∷ []) o []) 0) given) in
        let has = in_text b (own x) (in_block b k line stands) (in_lines b k (own x) (slice_get_within (lines_at func b) k line stands)
        (has_back (if calls (line_at func b k) then token b k ∷ [] else []) (option_map_or (λ (x : ℕ). own x ∷ []) (line_at func b k).to [] ++ (if calls (line_at func b k) then map (relocated b k) (live_list func table b k) else [])) (own x)
        (has_front (option_map_or (λ (x : ℕ). own x ∷ []) (line_at func b k).to []) (if calls (line_at func b k) then map (relocated b k) (live_list func table b k) else []) (own x) mine))) in
        place_within (names_of func table naming) has.0 (own x) has.1;
    room_list = λ b k v is listed.
        let at = in_call b k is in
        let relocates : Has (if calls (line_at func b k) then map (relocated b k) (live_list func table b k) else []) (relocated b k v) =
        subst (λ (t : Bool). Has (if t then map (relocated b k) (live_list func table b k) else []) (relocated b k v)) (sym is) (has_map (relocated b k) (live_list func table b k) v listed) in
        let has = in_text b (relocated b k v) at.0 (in_lines b k (relocated b k v) at.1
        (has_back (if calls (line_at func b k) then token b k ∷ [] else []) (option_map_or (λ (x : ℕ). own x ∷ []) (line_at func b k).to [] ++ (if calls (line_at func b k) then map (relocated b k) (live_list func table b k) else [])) (relocated b k v)
        (has_back (option_map_or (λ (x : ℕ). own x ∷ []) (line_at func b k).to []) (if calls (line_at func b k) then map (relocated b k) (live_list func table b k) else []) (relocated b k v) relocates))) in
        place_within (names_of func table naming) has.0 (relocated b k v) has.1;
    room_join = λ b v joins pointer.
        let has = in_text b (joined b v) (in_join b v joins) (has_front (map (joined b) (joined_at func naming b)) (flat_map (line_names func table b) (range_with_len 0 (length (lines_at func b)))) (joined b v)
        (has_map (joined b) (joined_at func naming b) v (filter_among (naming.joins b) v (pointers func) pointer joins))) in
        place_within (names_of func table naming) has.0 (joined b v) has.1;
  }
