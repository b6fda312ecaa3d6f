-- The names of a function's text before and after phis that no version needs are removed.
use Rattle.std.proofs.Common.{◌≡◌, ◌≢◌, ℕ, zero, suc, ◌<◌, ◌≤◌, ◌+◌, ◌&&◌, Bool, true, false, if◌then◌else◌, List, [], ◌∷◌, ◌++◌, length, map, Option, Some, None, slice_get, inl, inr, refl, ap, sym, subst, arith, ◌∙◌}
use Rattle.std.specs.List.{Contains, filter, flat_map, range_with_len}
use Rattle.std.specs.Option.{option_map_or}
use Rattle.std.proofs.lemmas.Bool.{cases_Bool, cases_eq, cases_lt, and_parts, false≢true}
use Rattle.std.proofs.lemmas.Option.{slice_get-get_or}
use Rattle.std.proofs.lemmas.List.{get_or_past}
use Rattle.std.proofs.lemmas.List.Elements.{Contains-append_cases, Contains-append_left, Contains-append_right, filter-append}
use Rattle.list_laws.proofs.Contents.{contains_cons, contains_first, contains_get, contains_image, contains_joined, contains_later, contains_map, contains_none, contains_one}
use Rattle.ir_ast.specs.declared.ops.Operand.{Operand}
use Rattle.ir_ast.specs.Funcs.{Function}
use Rattle.object_meaning.specs.Lines.{Line}
use Rattle.phi_webs.specs.Webs.{Phi}
use Rattle.phi_webs.specs.Becomes.{becomes}
use Rattle.phi_webs.specs.Settled.{AnswersBecomes}
use Rattle.phi_webs.specs.Statements.{IsRenaming, renamed_web}
use Rattle.phi_webs.proofs.RemovalLaws.{outside_stays}
use Rattle.phi_webs.proofs.BecomesLaws.{becomes_is_removal}
use Rattle.rewriting_forms.specs.Numbered.{among, calls, gives, line_at, lines_at, pointers, preds}
use Rattle.rewriting_forms.specs.Liveness.{live_list}
use Rattle.rewriting_forms.specs.Names.{Name, Names, Naming, own, relocated, joined, token, arriving, names_from, names_at, names_at_end, front_within, joins_of, full_naming, least_naming, phi_at, phis_of, same_name}
use Rattle.rewriting_forms.specs.Rewritten.{behind_all, block_names, joined_at, line_names, names_of, place_in}
use Rattle.rewriting_laws.specs.Laws.{IsNumbering, IsReached}
use Rattle.rewriting_laws.proofs.ApartLaws.{names_apart}
use Rattle.rewriting_laws.proofs.NameLemmas.{among_cons}
use Rattle.rewriting_laws.proofs.NameTests.{tells_names}
use Rattle.rewriting_laws.proofs.NumberLaws.{numbers_of_text}
use Rattle.rewriting_laws.proofs.RemovalLaws.{apart_outside, in_web, join_inside, join_pointer, named_once, phis_are_rooted, among_contains}
use Rattle.rewriting_laws.proofs.VersionLaws.{no_lines}
use Rattle.thin_phis.specs.Thinned.{stays, number_now}
use Rattle.thin_phis.proofs.NumberLaws.{at_place, number_is, one_place, past_place, stays_is}

-- ---- lists

pub filter_map : {A B : Type 0} (p : B → Bool) (f : A → B) (xs : List A) → filter p (map f xs) ≡ map f (filter (λ x. p (f x)) xs)
filter_map p f [] = refl
filter_map {A} {B} p f (x ∷ xs) = by (p (f x)) (filter_map p f xs)
  where
    by : (t : Bool) → filter p (map f xs) ≡ map f (filter (λ y. p (f y)) xs)
        → (if t then f x ∷ filter p (map f xs) else filter p (map f xs)) ≡ map f (if t then x ∷ filter (λ y. p (f y)) xs else filter (λ y. p (f y)) xs)
    by true rest = ap (λ (ys : List B). f x ∷ ys) rest
    by false rest = rest

filter_both : {A : Type 0} (p q : A → Bool) (xs : List A) → filter (λ x. p x && q x) xs ≡ filter q (filter p xs)
filter_both p q [] = refl
filter_both {A} p q (x ∷ xs) = by (p x) (q x) refl (filter_both p q xs)
  where
    by : (s t : Bool) → q x ≡ t → filter (λ y. p y && q y) xs ≡ filter q (filter p xs)
        → (if s && t then x ∷ filter (λ y. p y && q y) xs else filter (λ y. p y && q y) xs) ≡ filter q (if s then x ∷ filter p xs else filter p xs)
    by true true is rest =
        ap (λ (ys : List A). x ∷ ys) rest ∙ sym (ap (λ (t : Bool). if t then x ∷ filter q (filter p xs) else filter q (filter p xs)) is)
    by true false is rest = rest ∙ sym (ap (λ (t : Bool). if t then x ∷ filter q (filter p xs) else filter q (filter p xs)) is)
    by false t is rest = rest

all_kept : {A : Type 0} (p : A → Bool) (xs : List A) → ((x : A) → Contains xs x → p x ≡ true) → filter p xs ≡ xs
all_kept p [] each = refl
all_kept {A} p (x ∷ xs) each =
    ap (λ (t : Bool). if t then x ∷ filter p xs else filter p xs) (each x (contains_first x xs))
    ∙ ap (λ (ys : List A). x ∷ ys) (all_kept p xs (λ y later. each y (contains_later x y xs later)))

flat_kept : {A B : Type 0} (p : B → Bool) (f g : A → List B) (xs : List A) → ((x : A) → g x ≡ filter p (f x)) → flat_map g xs ≡ filter p (flat_map f xs)
flat_kept p f g [] each = refl
flat_kept {A} {B} p f g (x ∷ xs) each =
    ap (λ (ys : List B). ys ++ flat_map g xs) (each x) ∙ ap (λ (ys : List B). filter p (f x) ++ ys) (flat_kept p f g xs each)
    ∙ sym (filter-append p (f x) (flat_map f xs))

-- a name of a list has its number below the length
place_below : (names : List Name) (n : Name) → Contains names n → place_in names n < length names
place_below [] n has = absurd (contains_none n has)
place_below (x ∷ names) n has = elim (cases_Bool (same_name x n)) [
  | inl here ↦ rw here (omega arith)
  | inr other ↦ elim (contains_cons x n names has) [
    | inl same ↦ absurd (false≢true (sym other ∙ (tells_names x n).1 same))
    | inr later ↦ let rest = place_below names n later in rw other (omega arith)
  ]
]

module _ (func : Function) (table : List Operand) where
  abbrev pub full : Naming
  full = full_naming func table

  abbrev pub least : Naming
  least = least_naming func table

  abbrev web : List (Phi Name)
  web = phis_of func table

  abbrev pub now : Name → Name
  now = becomes same_name web

  abbrev names : List Name
  names = names_of func table full

  abbrev pub number : Name → ℕ
  number = place_in names

  abbrev pub kept : Name → Bool
  kept n = same_name n (now n)

  -- ---- the names of phis and of their operands

  in_block : (b k : ℕ) (line : Line) → slice_get (lines_at func b) k ≡ Some line → b < length func.blocks
  in_block b k line stands = elim (cases_lt b (length func.blocks)) [
    | inl below ↦ below
    | inr past ↦
        let none = no_lines func table b past in
        let h : slice_get [] k ≡ Some line = ap (λ (ls : List Line). slice_get ls k) (sym none) ∙ stands in
        absurd (cc)
  ]

  in_call : (b k : ℕ) → calls (line_at func b k) ≡ true → (b < length func.blocks) × (k < length (lines_at func b))
  in_call b k is = elim (cases_lt k (length (lines_at func b))) [
    | inl below ↦ (in_block b k (line_at func b k) (slice_get-get_or (lines_at func b) k _ below), below)
    | inr past ↦ absurd (false≢true (sym (ap (λ (l : Line). calls l) (get_or_past (lines_at func b) k _ past)) ∙ is))
  ]

  numbering : IsNumbering func table (joins_of func table) number (length names)
  numbering = numbers_of_text func table full in_block in_call (join_inside func table)

  named : (phi : Phi Name) → Contains web phi → number phi.name < length names
  named phi has =
      let at = in_web func table full phi has in
      subst (λ (p : Phi Name). number p.name < length names) (sym at.is) (numbering.room_join at.b at.v at.joins (join_pointer func table at.b at.v at.joins))

  -- the names of the text, and those of pointers by themselves
  abbrev domain : List Name
  domain = names ++ map own (pointers func)

  whole : (n : Name) → number n < length names → Contains domain n
  whole n below = Contains-append_left names (map own (pointers func)) n (contains_get names (number n) n (at_place names n below))

  own_in : (v : ℕ) → among v (pointers func) ≡ true → Contains domain (own v)
  own_in v pointer = Contains-append_right names (map own (pointers func)) (own v) (contains_map own (pointers func) v (among_contains v (pointers func) pointer))

  names_in : (b : ℕ) (front : Names) (v : ℕ) → among v (pointers func) ≡ true → Contains domain (front v) → (k : ℕ) → Contains domain (names_from func table b front k v)
  names_in b front v pointer has zero = has
  names_in b front v pointer has (suc k) = by (gives (line_at func b k) v) (calls (line_at func b k) && among v (live_list func table b k)) refl (names_in b front v pointer has k)
    where
      by : (given listed : Bool) → (calls (line_at func b k) && among v (live_list func table b k)) ≡ listed → Contains domain (names_from func table b front k v)
          → Contains domain (if given then own v else (if listed then relocated b k v else names_from func table b front k v))
      by true listed is rest = own_in v pointer
      by false true is rest = let both = and_parts (calls (line_at func b k)) (among v (live_list func table b k)) is in whole (relocated b k v) (numbering.room_list b k v both.0 both.1)
      by false false is rest = rest

  front_in : (bound b v : ℕ) → among v (pointers func) ≡ true → Contains domain (front_within func table (joins_of func table) bound b v)
  front_in zero b v pointer = by (joins_of func table b v) refl
    where
      by : (t : Bool) → joins_of func table b v ≡ t → Contains domain (if t then joined b v else own v)
      by true is = whole (joined b v) (numbering.room_join b v is pointer)
      by false is = own_in v pointer
  front_in (suc bound) b v pointer = by (λ p. names_in p (front_within func table (joins_of func table) bound p) v pointer (front_in bound p v pointer) (length (lines_at func p))) (joins_of func table b v) refl
    where
      arrives : ((p : ℕ) → Contains domain (names_from func table p (front_within func table (joins_of func table) bound p) (length (lines_at func p)) v))
          → (ps : List ℕ) → Contains domain (arriving ps (λ p. names_from func table p (front_within func table (joins_of func table) bound p) (length (lines_at func p))) v)
      arrives each [] = own_in v pointer
      arrives each (p ∷ []) = each p
      arrives each (p ∷ q ∷ ps) = own_in v pointer

      by : ((p : ℕ) → Contains domain (names_from func table p (front_within func table (joins_of func table) bound p) (length (lines_at func p)) v))
          → (t : Bool) → joins_of func table b v ≡ t
          → Contains domain (if t then joined b v else arriving (preds func b) (λ p. names_from func table p (front_within func table (joins_of func table) bound p) (length (lines_at func p))) v)
      by each true is = whole (joined b v) (numbering.room_join b v is pointer)
      by each false is = arrives each (preds func b)

  operand_in : (phi : Phi Name) → Contains web phi → (o : Name) → Contains phi.operands o → Contains domain o
  operand_in phi has o operand =
      let at = in_web func table full phi has in
      let there : Contains (phi_at func table full at.b at.v).operands o = subst (λ (p : Phi Name). Contains p.operands o) at.is operand in
      let image = contains_image (λ p. names_at_end func table full p at.v) (preds func at.b) o there in
      let pointer = join_pointer func table at.b at.v at.joins in
      subst (Contains domain) image.is
      (names_in image.of (full.front image.of) at.v pointer (front_in (suc (length func.blocks)) image.of at.v pointer) (length (lines_at func image.of)))

  own_of : (n : Name) → Contains domain n → length names ≤ number n → (v : ℕ) × (n ≡ own v)
  own_of n has past = elim (Contains-append_cases names (map own (pointers func)) n has) [
    | inl here ↦ let below = place_below names n here in absurd (omega arith)
    | inr there ↦ let image = contains_image own (pointers func) n there in (image.of, sym image.is)
  ]

  apart : (x y : Name) → Contains domain x → Contains domain y → number x ≡ number y → x ≡ y
  apart x y in_x in_y e = elim (cases_lt (number x) (length names)) [
    | inl below ↦ one_place names x y below e
    | inr past ↦
        let one = own_of x in_x (omega arith) in
        let other = own_of y in_y (omega arith) in
        let first : number x ≡ length names + suc one.0 = past_place names x (omega arith) ∙ ap (λ (n : Name). length names + behind_all n) one.1 in
        let second : number y ≡ length names + suc other.0 = past_place names y (omega arith) ∙ ap (λ (n : Name). length names + behind_all n) other.1 in
        let same : one.0 ≡ other.0 = omega (arith, first, second) in
        one.1 ∙ ap own same ∙ sym other.1
  ]

  renaming : IsRenaming web domain number
  renaming = record { apart = apart; phis = λ phi has. whole phi.name (named phi has); operands = operand_in }

  -- ---- the names that are left

  -- a name that isn't that of an inserted phi stays
  pub fixed : (n : Name) → ((b v : ℕ) → n ≢ joined b v) → now n ≡ n
  fixed n other = outside_stays same_name tells_names web now (becomes_is_removal same_name tells_names web) n (apart_outside func table full n other)

  fixed_kept : (n : Name) → ((b v : ℕ) → n ≢ joined b v) → kept n ≡ true
  fixed_kept n other = (tells_names n (now n)).1 (sym (fixed n other))

  -- what the names of a line are
  pub line_fixed : (b k : ℕ) (n : Name) → Contains (line_names func table b k) n → (c v : ℕ) → n ≢ joined c v
  line_fixed b k n has c v is =
      elim (Contains-append_cases (if calls (line_at func b k) then token b k ∷ [] else []) (option_map_or (λ (x : ℕ). own x ∷ []) (line_at func b k).to [] ++ (if calls (line_at func b k) then map (relocated b k) (live_list func table b k) else [])) n has) [
        | inl one ↦ of_token (calls (line_at func b k)) one
        | inr rest ↦ elim (Contains-append_cases (option_map_or (λ (x : ℕ). own x ∷ []) (line_at func b k).to []) (if calls (line_at func b k) then map (relocated b k) (live_list func table b k) else []) n rest) [
          | inl mine ↦ of_own (line_at func b k).to mine
          | inr relocates ↦ of_relocates (calls (line_at func b k)) relocates
        ]
      ]
    where
      of_token : (t : Bool) → Contains (if t then token b k ∷ [] else []) n → ⊥
      of_token true here = let e : token b k ≡ n = contains_one (token b k) n here in cc
      of_token false here = contains_none n here

      of_own : (to : Option ℕ) → Contains (option_map_or (λ (x : ℕ). own x ∷ []) to []) n → ⊥
      of_own None here = contains_none n here
      of_own (Some x) here = let e : own x ≡ n = contains_one (own x) n here in cc

      of_relocates : (t : Bool) → Contains (if t then map (relocated b k) (live_list func table b k) else []) n → ⊥
      of_relocates true here = let image = contains_image (relocated b k) (live_list func table b k) n here in let e : relocated b k image.of ≡ n = image.is in cc
      of_relocates false here = contains_none n here

  -- the inserted phis of a block that are left
  pub joined_left : (b : ℕ) → joined_at func least b ≡ filter (λ v. kept (joined b v)) (joined_at func full b)
  joined_left b = filter_both (joins_of func table b) (λ v. kept (joined b v)) (pointers func)

  block_left : (b : ℕ) → block_names func table least b ≡ filter kept (block_names func table full b)
  block_left b =
      let lines = flat_map (line_names func table b) (range_with_len 0 (length (lines_at func b))) in
      ap (λ (vs : List ℕ). map (joined b) vs ++ lines) (joined_left b)
      ∙ ap (λ (ns : List Name). ns ++ lines) (sym (filter_map kept (joined b) (joined_at func full b)))
      ∙ ap (λ (ns : List Name). filter kept (map (joined b) (joined_at func full b)) ++ ns)
      (sym (all_kept kept lines (λ n has.
      let at = contains_joined (line_names func table b) (range_with_len 0 (length (lines_at func b))) n has in
      fixed_kept n (line_fixed b at.of n at.given))))
      ∙ sym (filter-append kept (map (joined b) (joined_at func full b)) lines)

  names_left : names_of func table least ≡ filter kept names
  names_left =
      let args = map own (range_with_len 0 (length func.args)) in
      ap (λ (ns : List Name). ns ++ flat_map (block_names func table least) (range_with_len 0 (length func.blocks)))
      (sym (all_kept kept args (λ n has. let image = contains_image own (range_with_len 0 (length func.args)) n has in fixed_kept n (λ b v is. let e : own image.of ≡ n = image.is in cc))))
      ∙ ap (λ (ns : List Name). filter kept args ++ ns) (flat_kept kept (block_names func table full) (block_names func table least) (range_with_len 0 (length func.blocks)) block_left)
      ∙ sym (filter-append kept args (flat_map (block_names func table full) (range_with_len 0 (length func.blocks))))

  -- each version is what the version of the full naming becomes
  names_become : (b : ℕ) (front : Names) (v k : ℕ) → names_from func table b (λ w. now (front w)) k v ≡ now (names_from func table b front k v)
  names_become b front v zero = refl
  names_become b front v (suc k) = by (gives (line_at func b k) v) (calls (line_at func b k) && among v (live_list func table b k)) (names_become b front v k)
    where
      by : (given listed : Bool) → names_from func table b (λ w. now (front w)) k v ≡ now (names_from func table b front k v)
          → (if given then own v else (if listed then relocated b k v else names_from func table b (λ w. now (front w)) k v))
          ≡ now (if given then own v else (if listed then relocated b k v else names_from func table b front k v))
      by true listed same = sym (fixed (own v) (λ c w is. cc))
      by false true same = sym (fixed (relocated b k v) (λ c w is. cc))
      by false false same = same

  pub version_now : (b k v : ℕ) → names_at func table least b k v ≡ now (names_at func table full b k v)
  version_now b k v = names_become b (full.front b) v k

  -- ---- numbers

  module _ (graph : IsReached func) (ends : List ℕ) (found : AnswersBecomes (renamed_web number web) ends) where
    pub name_stays : (n : Name) → stays ends (number n) ≡ kept n
    name_stays n = stays_is names (names_apart func table full) web domain renaming (named_once func table full) (phis_are_rooted func table graph) named whole ends found n

    -- the new number of a name is that of what it becomes
    pub name_now : (n : Name) → number_now ends (number n) ≡ place_in (names_of func table least) (now n)
    name_now n =
        number_is names (names_apart func table full) web domain renaming (named_once func table full) (phis_are_rooted func table graph) named whole ends found n
        ∙ ap (λ (ns : List Name). place_in ns (now n)) (sym names_left)

    pub version_number : (b k v : ℕ) → place_in (names_of func table least) (names_at func table least b k v) ≡ number_now ends (number (names_at func table full b k v))
    version_number b k v = ap (place_in (names_of func table least)) (version_now b k v) ∙ sym (name_now (names_at func table full b k v))

    pub fixed_number : (n : Name) → ((b v : ℕ) → n ≢ joined b v) → place_in (names_of func table least) n ≡ number_now ends (number n)
    fixed_number n other = ap (place_in (names_of func table least)) (sym (fixed n other)) ∙ sym (name_now n)
