-- How many names of a kind stand before a name in the text.
use Rattle.std.proofs.Common.{◌≡◌, ◌∙◌, ℕ, zero, suc, ◌<◌, ◌≤◌, ◌+◌, inl, inr, Bool, true, false, if◌then◌else◌, List, [], ◌∷◌, ◌++◌, length, map, filter, take, drop, Option, Some, None, slice_get, refl, ap, sym, arith, append_assoc, length-append, append-nil}
use Rattle.std.specs.List.{flat_map, range_with_len, sum_by}
use Rattle.std.specs.Option.{option_map_or}
use Rattle.std.proofs.Math.Seq.{take-append_seam, take-length}
use Rattle.std.proofs.lemmas.Bool.{cases_Bool}
use Rattle.std.proofs.lemmas.List.{length-map, take-append-drop}
use Rattle.std.proofs.lemmas.List.Concat.{length-flat_map}
use Rattle.std.proofs.lemmas.List.Elements.{filter-append}
use Rattle.std.proofs.lemmas.List.Sums.{sum_by-append, sum_by-cons}
use Rattle.std.proofs.lemmas.Option.{slice_get_within}
use Rattle.list_laws.proofs.Places.{get_front, get_map, get_past}
use Rattle.ir_ast.specs.declared.ops.Operand.{Operand}
use Rattle.ir_ast.specs.Funcs.{Function}
use Rattle.object_meaning.specs.Lines.{Line}
use Rattle.rewriting_forms.specs.Numbered.{lines_at, line_at, calls}
use Rattle.rewriting_forms.specs.Liveness.{live_list, lists_from, live_lists}
use Rattle.rewriting_forms.specs.Names.{Name, own, relocated, joined, token, Naming}
use Rattle.rewriting_forms.specs.Rewritten.{line_names, joined_at, block_names, names_of, place_in, is_token, is_relocated, is_joined}
use Rattle.rewriting_laws.proofs.ApartLaws.{names_apart}
use Rattle.rewriting_laws.proofs.NameLemmas.{at_rest, line_is}
use Rattle.rewriting_laws.proofs.PlaceLaws.{Apart, place_is}
use Rattle.statepoint_insert.specs.Calls.{calls_in, calls_before}
use Rattle.statepoint_insert.proofs.CallLaws.{lists_count}

-- ---- joined lists

-- what stands in a part stands behind all parts before it
flat_at : {A : Type 0} (f : ℕ → List A) (from count j place : ℕ) (x : A) → j < count → slice_get (f (from + j)) place ≡ Some x
    → slice_get (flat_map f (range_with_len from count)) (length (flat_map f (range_with_len from j)) + place) ≡ Some x
flat_at f from zero j place x within is = absurd (omega arith)
flat_at f from (suc count) zero place x within is =
    let at : from + 0 ≡ from = omega arith in
    let e : 0 + place ≡ place = omega arith in
    rw e (get_front (f from) (flat_map f (range_with_len (from + 1) count)) place x (ap (λ (n : ℕ). slice_get (f n) place) (sym at) ∙ is))
flat_at f from (suc count) (suc j) place x within is =
    let at : from + suc j ≡ (from + 1) + j = omega arith in
    let rest = flat_at f (from + 1) count j place x (omega arith) (ap (λ (n : ℕ). slice_get (f n) place) (sym at) ∙ is) in
    let sum = length-append (f from) (flat_map f (range_with_len (from + 1) j)) in
    let e : length (f from ++ flat_map f (range_with_len (from + 1) j)) + place ≡ length (f from) + (length (flat_map f (range_with_len (from + 1) j)) + place) = omega (arith, sum) in
    rw e (get_past (f from) (flat_map f (range_with_len (from + 1) count)) (length (flat_map f (range_with_len (from + 1) j)) + place) ∙ rest)

-- the parts before one, that part, and the rest
flat_split : {A : Type 0} (f : ℕ → List A) (from count j : ℕ) → j < count
    → (rest : List A) × (flat_map f (range_with_len from count) ≡ flat_map f (range_with_len from j) ++ (f (from + j) ++ rest))
flat_split f from zero j below = absurd (omega arith)
flat_split {A} f from (suc count) zero below =
    let at : from ≡ from + 0 = omega arith in
    (flat_map f (range_with_len (from + 1) count), ap (λ (n : ℕ). f n ++ flat_map f (range_with_len (from + 1) count)) at)
flat_split {A} f from (suc count) (suc j) below =
    let rest = flat_split f (from + 1) count j (omega arith) in
    let at : (from + 1) + j ≡ from + suc j = omega arith in (
      rest.0,
      ap (λ (xs : List A). f from ++ xs) (rest.1 ∙ ap (λ (n : ℕ). flat_map f (range_with_len (from + 1) j) ++ (f n ++ rest.0)) at)
          ∙ sym (append_assoc (f from) (flat_map f (range_with_len (from + 1) j)) (f (from + suc j) ++ rest.0)),
    )

sum_same : (f g : ℕ → ℕ) (xs : List ℕ) → ((x : ℕ) → f x ≡ g x) → sum_by f xs ≡ sum_by g xs
sum_same f g [] same = refl
sum_same f g (x ∷ xs) same =
    let one = sum_by-cons f x xs in
    let other = sum_by-cons g x xs in
    let first = same x in
    let rest = sum_same f g xs same in
    omega (arith, one, other, first, rest)

flat_sum : {A : Type 0} (weight : A → ℕ) (f : ℕ → List A) (xs : List ℕ) → sum_by weight (flat_map f xs) ≡ sum_by (λ x. sum_by weight (f x)) xs
flat_sum weight f [] = refl
flat_sum weight f (x ∷ xs) =
    let split = sum_by-append weight (f x) (flat_map f xs) in
    let sum = sum_by-cons (λ (y : ℕ). sum_by weight (f y)) x xs in
    let rest = flat_sum weight f xs in
    omega (arith, split, sum, rest)

sum_ones : {A : Type 0} (xs : List A) → sum_by (λ x. 1) xs ≡ length xs
sum_ones [] = refl
sum_ones {A} (x ∷ xs) =
    let sum = sum_by-cons (λ (y : A). 1) x xs in
    let rest = sum_ones xs in
    omega (arith, sum, rest)

-- ---- names that a test keeps

filter_flat : (p : Name → Bool) (f : ℕ → List Name) (xs : List ℕ) → filter p (flat_map f xs) ≡ flat_map (λ x. filter p (f x)) xs
filter_flat p f [] = refl
filter_flat p f (x ∷ xs) = filter-append p (f x) (flat_map f xs) ∙ ap (λ (names : List Name). filter p (f x) ++ names) (filter_flat p f xs)

filter_none : (p : Name → Bool) (make : ℕ → Name) (vs : List ℕ) → ((v : ℕ) → p (make v) ≡ false) → filter p (map make vs) ≡ []
filter_none p make [] none = refl
filter_none p make (v ∷ vs) none = rw (none v) (filter_none p make vs none)

filter_all : (p : Name → Bool) (make : ℕ → Name) (vs : List ℕ) → ((v : ℕ) → p (make v) ≡ true) → filter p (map make vs) ≡ map make vs
filter_all p make [] each = refl
filter_all p make (v ∷ vs) each = rw (each v) (ap (λ (names : List Name). make v ∷ names) (filter_all p make vs each))

flat_none : (f : ℕ → List Name) (xs : List ℕ) → ((x : ℕ) → f x ≡ []) → flat_map f xs ≡ []
flat_none f [] none = refl
flat_none f (x ∷ xs) none = ap (λ (names : List Name). names ++ flat_map f xs) (none x) ∙ flat_none f xs none

filter_place : (p : Name → Bool) (xs : List Name) (i : ℕ) (x : Name) → slice_get (filter p xs) i ≡ Some x → (k : ℕ) × (slice_get xs k ≡ Some x)
filter_place p [] i x is = absurd (cc)
filter_place p (y ∷ xs) i x is = elim (cases_Bool (p y)) [
  | inr fails ↦ let rest = filter_place p xs i x (let h = rw fails at is in h) in (suc rest.0, rest.1)
  | inl passes ↦ kept i (let h = rw passes at is in h) (λ j j_is. filter_place p xs j x j_is)
]
  where
    kept : (i : ℕ) → slice_get (y ∷ filter p xs) i ≡ Some x → ((j : ℕ) → slice_get (filter p xs) j ≡ Some x → (k : ℕ) × (slice_get xs k ≡ Some x))
        → (k : ℕ) × (slice_get (y ∷ xs) k ≡ Some x)
    kept zero is rest = (0, is)
    kept (suc i) is rest = let found = rest i is in (suc found.0, found.1)

apart_filter : (p : Name → Bool) (xs : List Name) → Apart xs → Apart (filter p xs)
apart_filter p [] apart = λ i j one other below one_is other_is. absurd (let h : None ≡ Some one = one_is in cc)
apart_filter p (x ∷ xs) apart = elim (cases_Bool (p x)) [
  | inr fails ↦ rw fails (apart_filter p xs tail)
  | inl passes ↦ rw passes (front (apart_filter p xs tail))
]
  where
    tail : Apart xs
    tail i j one other below one_is other_is = apart (suc i) (suc j) one other (omega arith) one_is other_is

    front : Apart (filter p xs) → Apart (x ∷ filter p xs)
    front rest zero zero one other below one_is other_is = absurd (omega arith)
    front rest zero (suc j) one other below one_is other_is =
        let place = filter_place p xs j other other_is in
        apart 0 (suc place.0) one other (omega arith) one_is place.1
    front rest (suc i) zero one other below one_is other_is = absurd (omega arith)
    front rest (suc i) (suc j) one other below one_is other_is = rest i j one other (omega arith) one_is other_is

-- ---- the lists of the calls before a place

module _ (func : Function) (table : List Operand) where
  abbrev block_lists : ℕ → List (List ℕ)
  block_lists b = lists_from func table b 0 (lines_at func b)

  abbrev front_lists : ℕ → ℕ → List (List ℕ)
  front_lists b k = flat_map block_lists (range_with_len 0 b) ++ lists_from func table b 0 (take k (lines_at func b))

  lists_split : (b k : ℕ) (one other : List Line) → lists_from func table b k (one ++ other) ≡ lists_from func table b k one ++ lists_from func table b (k + length one) other
  lists_split b k [] other = (let e : k ≡ k + 0 = omega arith in ap (λ (n : ℕ). lists_from func table b n other) e)
  lists_split b k (line ∷ one) other =
      let e : suc k + length one ≡ k + suc (length one) = omega arith in
      let first : List (List ℕ) = if calls line then live_list func table b k ∷ [] else [] in
      ap (λ (lists : List (List ℕ)). first ++ lists)
      (lists_split b (suc k) one other ∙ ap (λ (n : ℕ). lists_from func table b (suc k) one ++ lists_from func table b n other) e)
      ∙ sym (append_assoc first (lists_from func table b (suc k) one) (lists_from func table b (k + suc (length one)) other))

  front_split : (b k : ℕ) → b < length func.blocks → (rest : List (List ℕ)) × (live_lists func table ≡ front_lists b k ++ rest)
  front_split b k below =
      let lines = lines_at func b in
      let split = flat_split block_lists 0 (length func.blocks) b below in
      let z : 0 + b ≡ b = omega arith in
      let before = flat_map block_lists (range_with_len 0 b) in
      let here = lists_from func table b 0 (take k lines) in
      let more = lists_from func table b (0 + length (take k lines)) (drop k lines) in
      let one : block_lists b ≡ here ++ more =
      ap (lists_from func table b 0) (sym (take-append-drop k lines)) ∙ lists_split b 0 (take k lines) (drop k lines) in (
        more ++ split.0,
        split.1 ∙ ap (λ (c : ℕ). before ++ (block_lists c ++ split.0)) z ∙ ap (λ (lists : List (List ℕ)). before ++ (lists ++ split.0)) one
            ∙ ap (λ (lists : List (List ℕ)). before ++ lists) (append_assoc here more split.0) ∙ sym (append_assoc before here (more ++ split.0)),
      )

  front_long : (b k : ℕ) → length (front_lists b k) ≡ calls_before func b k
  front_long b k =
      let before = flat_map block_lists (range_with_len 0 b) in
      let here = lists_from func table b 0 (take k (lines_at func b)) in
      let sum = length-append before here in
      let one : length before ≡ sum_by (calls_in func) (range_with_len 0 b) =
      length-flat_map block_lists (range_with_len 0 b)
      ∙ sum_same (λ c. length (block_lists c)) (calls_in func) (range_with_len 0 b) (λ c. lists_count func table c 0 (lines_at func c)) in
      let two = lists_count func table b 0 (take k (lines_at func b)) in
      omega (arith, sum, one, two)

  front_taken : (b k : ℕ) → b < length func.blocks → take (calls_before func b k) (live_lists func table) ≡ front_lists b k
  front_taken b k below =
      let split = front_split b k below in
      ap (λ (n : ℕ). take n (live_lists func table)) (sym (front_long b k)) ∙ ap (take (length (front_lists b k))) split.1
      ∙ take-append_seam (front_lists b k) split.0

  front_sum : (weight : List ℕ → ℕ) (b k : ℕ) → b < length func.blocks → sum_by weight (take (calls_before func b k) (live_lists func table))
      ≡ sum_by weight (flat_map block_lists (range_with_len 0 b)) + sum_by weight (lists_from func table b 0 (take k (lines_at func b)))
  front_sum weight b k below =
      ap (sum_by weight) (front_taken b k below) ∙ sum_by-append weight (flat_map block_lists (range_with_len 0 b)) (lists_from func table b 0 (take k (lines_at func b)))

  -- lists of names that are as long as the lists of calls ask
  lines_sum : (f : ℕ → List Name) (weight : List ℕ → ℕ) (b : ℕ)
      → ((k : ℕ) (line : Line) → slice_get (lines_at func b) k ≡ Some line → length (f k) ≡ (if calls line then weight (live_list func table b k) else 0))
      → (k m : ℕ) (lines : List Line) → drop k (lines_at func b) ≡ lines → m ≤ length lines
      → length (flat_map f (range_with_len k m)) ≡ sum_by weight (lists_from func table b k (take m lines))
  lines_sum f weight b each k zero lines place within = refl
  lines_sum f weight b each k (suc m) [] place within = absurd (omega arith)
  lines_sum f weight b each k (suc m) (line ∷ lines) place within =
      let here = at_rest (lines_at func b) k line lines place in
      let e : suc k ≡ k + 1 = omega arith in
      let rest = lines_sum f weight b each (suc k) m lines here.1 (omega arith) in
      let same = ap (λ (n : ℕ). length (flat_map f (range_with_len n m))) e in
      let sum = length-append (f k) (flat_map f (range_with_len (k + 1) m)) in
      let one = each k line here.0 in
      elim (cases_Bool (calls line)) [
        | inl call ↦
            let g = rw call at one in
            let more = sum_by-cons weight (live_list func table b k) (lists_from func table b (suc k) (take m lines)) in
            rw call (omega (arith, rest, same, sum, g, more))
        | inr plain ↦ let g = rw plain at one in rw plain (omega (arith, rest, same, sum, g))
      ]

-- ---- names of lines

module _ (func : Function) (table : List Operand) (naming : Naming) where
  abbrev names : List Name
  names = names_of func table naming

  module _ (p : Name → Bool) (weight : List ℕ → ℕ) (no_own : (v : ℕ) → p (own v) ≡ false) (no_joined : (b v : ℕ) → p (joined b v) ≡ false)
      (each : (b k : ℕ) (line : Line) → slice_get (lines_at func b) k ≡ Some line
      → length (filter p (line_names func table b k)) ≡ (if calls line then weight (live_list func table b k) else 0))
    where
      abbrev in_line : ℕ → ℕ → List Name
      in_line b k = filter p (line_names func table b k)

      abbrev in_block : ℕ → List Name
      in_block b = filter p (block_names func table naming b)

      block_kept : (b : ℕ) → in_block b ≡ flat_map (in_line b) (range_with_len 0 (length (lines_at func b)))
      block_kept b =
          let lines = flat_map (line_names func table b) (range_with_len 0 (length (lines_at func b))) in
          filter-append p (map (joined b) (joined_at func naming b)) lines
          ∙ ap (λ (ns : List Name). ns ++ filter p lines) (filter_none p (joined b) (joined_at func naming b) (no_joined b))
          ∙ filter_flat p (line_names func table b) (range_with_len 0 (length (lines_at func b)))

      all_kept : filter p names ≡ flat_map in_block (range_with_len 0 (length func.blocks))
      all_kept =
          let blocks = flat_map (block_names func table naming) (range_with_len 0 (length func.blocks)) in
          filter-append p (map own (range_with_len 0 (length func.args))) blocks
          ∙ ap (λ (ns : List Name). ns ++ filter p blocks) (filter_none p own (range_with_len 0 (length func.args)) no_own)
          ∙ filter_flat p (block_names func table naming) (range_with_len 0 (length func.blocks))

      block_long : (b : ℕ) → length (in_block b) ≡ sum_by weight (block_lists func table b)
      block_long b =
          ap length (block_kept b) ∙ lines_sum func table (in_line b) weight b (each b) 0 (length (lines_at func b)) (lines_at func b) refl (omega arith)
          ∙ ap (λ (lines : List Line). sum_by weight (lists_from func table b 0 lines)) (take-length (lines_at func b))

      before_long : (b : ℕ) → length (flat_map in_block (range_with_len 0 b)) ≡ sum_by weight (flat_map (block_lists func table) (range_with_len 0 b))
      before_long b =
          length-flat_map in_block (range_with_len 0 b)
          ∙ sum_same (λ c. length (in_block c)) (λ c. sum_by weight (block_lists func table c)) (range_with_len 0 b) block_long
          ∙ sym (flat_sum weight (block_lists func table) (range_with_len 0 b))

      -- a name stands behind those of the calls before it
      kept_at : (b k place : ℕ) (line : Line) (name : Name) → b < length func.blocks → slice_get (lines_at func b) k ≡ Some line
          → slice_get (in_line b k) place ≡ Some name
          → place_in (filter p names) name ≡ sum_by weight (take (calls_before func b k) (live_lists func table)) + place
      kept_at b k place line name below stands is =
          let within = slice_get_within (lines_at func b) k line stands in
          let zb : 0 + b ≡ b = omega arith in
          let zk : 0 + k ≡ k = omega arith in
          let first = length (flat_map in_block (range_with_len 0 b)) in
          let second = length (flat_map (in_line b) (range_with_len 0 k)) in
          let here : slice_get (in_block b) (second + place) ≡ Some name =
          ap (λ (ns : List Name). slice_get ns (second + place)) (block_kept b)
          ∙ flat_at (in_line b) 0 (length (lines_at func b)) k place name within (ap (λ (n : ℕ). slice_get (in_line b n) place) zk ∙ is) in
          let whole : slice_get (filter p names) (first + (second + place)) ≡ Some name =
          ap (λ (ns : List Name). slice_get ns (first + (second + place))) all_kept
          ∙ flat_at in_block 0 (length func.blocks) b (second + place) name below (ap (λ (c : ℕ). slice_get (in_block c) (second + place)) zb ∙ here) in
          let at = place_is (filter p names) (apart_filter p names (names_apart func table naming)) (first + (second + place)) name whole in
          let one = before_long b in
          let two = lines_sum func table (in_line b) weight b (each b) 0 k (lines_at func b) refl (omega (arith, within)) in
          let three = front_sum func table weight b k below in
          omega (arith, at, one, two, three)

  -- ---- tokens, relocates and inserted phis

  abbrev parts : ℕ → ℕ → Bool → Option ℕ → List Name
  parts b k t to =
      (if t then token b k ∷ [] else []) ++ (option_map_or (λ x. own x ∷ []) to [] ++ (if t then map (relocated b k) (live_list func table b k) else []))

  tokens_in : (b k : ℕ) (t : Bool) (to : Option ℕ) → filter is_token (parts b k t to) ≡ (if t then token b k ∷ [] else [])
  tokens_in b k true None = ap (λ (ns : List Name). token b k ∷ ns) (filter_none is_token (relocated b k) (live_list func table b k) (λ v. refl))
  tokens_in b k true (Some x) = ap (λ (ns : List Name). token b k ∷ ns) (filter_none is_token (relocated b k) (live_list func table b k) (λ v. refl))
  tokens_in b k false None = refl
  tokens_in b k false (Some x) = refl

  relocates_in : (b k : ℕ) (t : Bool) (to : Option ℕ) → filter is_relocated (parts b k t to) ≡ (if t then map (relocated b k) (live_list func table b k) else [])
  relocates_in b k true None = filter_all is_relocated (relocated b k) (live_list func table b k) (λ v. refl)
  relocates_in b k true (Some x) = filter_all is_relocated (relocated b k) (live_list func table b k) (λ v. refl)
  relocates_in b k false None = refl
  relocates_in b k false (Some x) = refl

  joins_in : (b k : ℕ) (t : Bool) (to : Option ℕ) → filter is_joined (parts b k t to) ≡ []
  joins_in b k true None = filter_none is_joined (relocated b k) (live_list func table b k) (λ v. refl)
  joins_in b k true (Some x) = filter_none is_joined (relocated b k) (live_list func table b k) (λ v. refl)
  joins_in b k false None = refl
  joins_in b k false (Some x) = refl

  line_tokens : (b k : ℕ) (line : Line) → slice_get (lines_at func b) k ≡ Some line
      → filter is_token (line_names func table b k) ≡ (if calls line then token b k ∷ [] else [])
  line_tokens b k line stands =
      tokens_in b k (calls (line_at func b k)) (line_at func b k).to
      ∙ ap (λ (l : Line). let ns : List Name = if calls l then token b k ∷ [] else [] in ns) (line_is func b k line stands)

  line_relocates : (b k : ℕ) (line : Line) → slice_get (lines_at func b) k ≡ Some line
      → filter is_relocated (line_names func table b k) ≡ (if calls line then map (relocated b k) (live_list func table b k) else [])
  line_relocates b k line stands =
      relocates_in b k (calls (line_at func b k)) (line_at func b k).to
      ∙ ap (λ (l : Line). let ns : List Name = if calls l then map (relocated b k) (live_list func table b k) else [] in ns) (line_is func b k line stands)

  tokens_long : (b k : ℕ) (line : Line) → slice_get (lines_at func b) k ≡ Some line → length (filter is_token (line_names func table b k)) ≡ (if calls line then 1 else 0)
  tokens_long b k line stands = ap length (line_tokens b k line stands) ∙ by (calls line)
    where
      by : (t : Bool) → (let ns : List Name = if t then token b k ∷ [] else [] in length ns) ≡ (if t then 1 else 0)
      by true = refl
      by false = refl

  relocates_long : (b k : ℕ) (line : Line) → slice_get (lines_at func b) k ≡ Some line
      → length (filter is_relocated (line_names func table b k)) ≡ (if calls line then length (live_list func table b k) else 0)
  relocates_long b k line stands = ap length (line_relocates b k line stands) ∙ by (calls line)
    where
      by : (t : Bool) → (let ns : List Name = if t then map (relocated b k) (live_list func table b k) else [] in length ns) ≡ (if t then length (live_list func table b k) else 0)
      by true = length-map (live_list func table b k) (relocated b k)
      by false = refl

  -- the number of a call's token is how many calls stand before it
  pub token_counted : (b k : ℕ) (line : Line) → b < length func.blocks → slice_get (lines_at func b) k ≡ Some line → calls line ≡ true
      → place_in (filter is_token names) (token b k) ≡ calls_before func b k
  token_counted b k line below stands call =
      let here : slice_get (filter is_token (line_names func table b k)) 0 ≡ Some (token b k) =
      ap (λ (ns : List Name). slice_get ns 0) (line_tokens b k line stands ∙ ap (λ (t : Bool). let ns : List Name = if t then token b k ∷ [] else [] in ns) call) in
      let at = kept_at is_token (λ list. 1) (λ v. refl) (λ c v. refl) tokens_long b k 0 line (token b k) below stands here in
      let count : sum_by (λ list. 1) (take (calls_before func b k) (live_lists func table)) ≡ calls_before func b k =
      ap (sum_by (λ list. 1)) (front_taken func table b k below) ∙ sum_ones (front_lists func table b k) ∙ front_long func table b k in
      omega (arith, at, count)

  -- a relocate stands behind all those of the calls before its own
  pub relocates_counted : (b k : ℕ) (line : Line) → b < length func.blocks → slice_get (lines_at func b) k ≡ Some line → calls line ≡ true
      → (j v : ℕ) → slice_get (live_list func table b k) j ≡ Some v
      → place_in (filter is_relocated names) (relocated b k v) ≡ sum_by length (take (calls_before func b k) (live_lists func table)) + j
  relocates_counted b k line below stands call j v listed =
      let here : slice_get (filter is_relocated (line_names func table b k)) j ≡ Some (relocated b k v) =
      ap (λ (ns : List Name). slice_get ns j) (line_relocates b k line stands
      ∙ ap (λ (t : Bool). let ns : List Name = if t then map (relocated b k) (live_list func table b k) else [] in ns) call)
      ∙ get_map (relocated b k) (live_list func table b k) j v listed in
      kept_at is_relocated length (λ w. refl) (λ c w. refl) relocates_long b k j line (relocated b k v) below stands here

  block_joins : (b : ℕ) → filter is_joined (block_names func table naming b) ≡ map (joined b) (joined_at func naming b)
  block_joins b =
      let places = range_with_len 0 (length (lines_at func b)) in
      let list = map (joined b) (joined_at func naming b) in
      filter-append is_joined list (flat_map (line_names func table b) places)
      ∙ ap (λ (ns : List Name). ns ++ filter is_joined (flat_map (line_names func table b) places)) (filter_all is_joined (joined b) (joined_at func naming b) (λ v. refl))
      ∙ ap (λ (ns : List Name). list ++ ns) (filter_flat is_joined (line_names func table b) places
      ∙ flat_none (λ k. filter is_joined (line_names func table b k)) places (λ k. joins_in b k (calls (line_at func b k)) (line_at func b k).to))
      ∙ append-nil list

  -- an inserted phi stands behind all those of the blocks before
  pub joined_counted : (b j v : ℕ) → b < length func.blocks → slice_get (joined_at func naming b) j ≡ Some v
      → place_in (filter is_joined names) (joined b v) ≡ sum_by (λ c. length (joined_at func naming c)) (range_with_len 0 b) + j
  joined_counted b j v below stands =
      let z : 0 + b ≡ b = omega arith in
      let in_block = λ (c : ℕ). filter is_joined (block_names func table naming c) in
      let first = length (flat_map in_block (range_with_len 0 b)) in
      let blocks = flat_map (block_names func table naming) (range_with_len 0 (length func.blocks)) in
      let kept : filter is_joined names ≡ flat_map in_block (range_with_len 0 (length func.blocks)) =
      filter-append is_joined (map own (range_with_len 0 (length func.args))) blocks
      ∙ ap (λ (ns : List Name). ns ++ filter is_joined blocks) (filter_none is_joined own (range_with_len 0 (length func.args)) (λ w. refl))
      ∙ filter_flat is_joined (block_names func table naming) (range_with_len 0 (length func.blocks)) in
      let here : slice_get (in_block b) j ≡ Some (joined b v) =
      ap (λ (ns : List Name). slice_get ns j) (block_joins b) ∙ get_map (joined b) (joined_at func naming b) j v stands in
      let whole : slice_get (filter is_joined names) (first + j) ≡ Some (joined b v) =
      ap (λ (ns : List Name). slice_get ns (first + j)) kept
      ∙ flat_at in_block 0 (length func.blocks) b j (joined b v) below (ap (λ (c : ℕ). slice_get (in_block c) j) z ∙ here) in
      let at = place_is (filter is_joined names) (apart_filter is_joined names (names_apart func table naming)) (first + j) (joined b v) whole in
      let sum : first ≡ sum_by (λ c. length (joined_at func naming c)) (range_with_len 0 b) =
      length-flat_map in_block (range_with_len 0 b)
      ∙ sum_same (λ c. length (in_block c)) (λ c. length (joined_at func naming c)) (range_with_len 0 b)
      (λ c. ap length (block_joins c) ∙ length-map (joined_at func naming c) (joined c)) in
      omega (arith, at, sum)
