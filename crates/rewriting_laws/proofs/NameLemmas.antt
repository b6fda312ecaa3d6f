-- Names at places, and where lists have what is looked for.
use Rattle.std.proofs.Common.{◌≡◌, ℕ, zero, suc, ◌+◌, Bool, true, false, eqb, List, [], ◌∷◌, ◌++◌, length, filter, drop, refl, ap, sym, arith, inl, inr, ◌∙◌, ◌&&◌}
use Rattle.std.specs.Prelude.{Option, Some, None, slice_get}
use Rattle.std.specs.List.{position, position_or_len, prefix_len}
use Rattle.std.proofs.lemmas.Option.{get_or_from_slice_get, slice_get_within}
use Rattle.std.proofs.lemmas.Bool.{cases_Bool, cases_eq, eqb-true, eq-eqb, ne_eqb, true≢false, false≢true, or_cases, lt-ltb}
use Rattle.ir_ast.specs.declared.ops.Operand.{Operand}
use Rattle.ir_ast.specs.declared.ops.Op.{Op}
use Rattle.ir_ast.specs.declared.ops.Op.TheVariants.{Call}
use Rattle.ir_ast.specs.declared.ops.Callee.{Callee}
use Rattle.ir_ast.specs.declared.types.Ty.{Ty}
use Rattle.ir_ast.specs.Callees.{is_leaf}
use Rattle.ir_ast.specs.Funcs.{Function}
use Rattle.object_meaning.specs.Lines.{Line}
use Rattle.rewriting_forms.specs.Numbered.{among, lines_at, line_at, is_given, gives, is_call, calls}
use Rattle.rewriting_forms.specs.Liveness.{live_list}
use Rattle.rewriting_forms.specs.Names.{Name, own, relocated, Names, Naming, after_line, names_from, names_at}
use Rattle.rewriting_laws.specs.Laws.{owner_of, Fits, IsNumbering}

pub among_cons : (v x : ℕ) (xs : List ℕ) → among v (x ∷ xs) ≡ true → (x ≡ v → ⊥) → among v xs ≡ true
among_cons v x xs is other = elim (or_cases (eqb x v) (among v xs) is) [ inl same ↦ absurd (other (eqb-true x v same)) | inr rest ↦ rest ]

pub among_here : (v : ℕ) (xs : List ℕ) → among v (v ∷ xs) ≡ true
among_here v xs = rw (eq-eqb v v refl) refl

pub among_there : (v x : ℕ) (xs : List ℕ) → among v xs ≡ true → among v (x ∷ xs) ≡ true
among_there v x xs is = elim (cases_Bool (eqb x v)) [ inl same ↦ rw same refl | inr other ↦ rw (other, is) refl ]

pub filter_among : (p : ℕ → Bool) (v : ℕ) (xs : List ℕ) → among v xs ≡ true → p v ≡ true → among v (filter p xs) ≡ true
filter_among p v [] is passes = is
filter_among p v (x ∷ xs) is passes = elim (cases_eq x v) [
  | inl e ↦ rw (e, passes) (among_here v (filter p xs))
  | inr ne ↦
      let rest = filter_among p v xs (among_cons v x xs is ne) passes in
      elim (cases_Bool (p x)) [ inl yes' ↦ rw yes' (among_there v x (filter p xs) rest) | inr fails ↦ rw fails rest ]
]

pub among_filter : (p : ℕ → Bool) (v : ℕ) (xs : List ℕ) → among v (filter p xs) ≡ true → (among v xs ≡ true) × (p v ≡ true)
among_filter p v [] is = absurd (false≢true is)
among_filter p v (x ∷ xs) is = elim (cases_Bool (p x)) [
  | inl passes ↦ elim (cases_eq x v) [
    | inl e ↦ (rw e (among_here v xs), rw e at passes)
    | inr ne ↦
        let rest = among_filter p v xs (among_cons v x (filter p xs) (let h = rw passes at is in h) ne) in
        (among_there v x xs rest.0, rest.1)
  ]
  | inr fails ↦
      let rest = among_filter p v xs (let h = rw fails at is in h) in
      (among_there v x xs rest.0, rest.1)
]

pub line_is : (func : Function) (b k : ℕ) (line : Line) → slice_get (lines_at func b) k ≡ Some line → line_at func b k ≡ line
line_is func b k line stands = get_or_from_slice_get (lines_at func b) k line _ stands

pub at_rest : {A : Type 0} (xs : List A) (k : ℕ) (x : A) (rest : List A) → drop k xs ≡ x ∷ rest → (slice_get xs k ≡ Some x) × (drop (suc k) xs ≡ rest)
at_rest [] zero x rest is = absurd (cc)
at_rest [] (suc k) x rest is = absurd (cc)
at_rest (y ∷ xs) zero x rest is = (cc, cc)
at_rest (y ∷ xs) (suc k) x rest is = at_rest xs k x rest is

module _ (func : Function) (table : List Operand) (naming : Naming) where
  gives_at : (b k : ℕ) (line : Line) (v : ℕ) (t : Bool) → slice_get (lines_at func b) k ≡ Some line → gives line v ≡ t → gives (line_at func b k) v ≡ t
  gives_at b k line v t stands is = ap (λ (l : Line). gives l v) (line_is func b k line stands) ∙ is

  calls_at : (b k : ℕ) (line : Line) (t : Bool) → slice_get (lines_at func b) k ≡ Some line → calls line ≡ t → calls (line_at func b k) ≡ t
  calls_at b k line t stands is = ap (λ (l : Line). calls l) (line_is func b k line stands) ∙ is

  pub names_given : (b k : ℕ) (line : Line) (v : ℕ) → slice_get (lines_at func b) k ≡ Some line → gives line v ≡ true
      → names_at func table naming b (suc k) v ≡ own v
  names_given b k line v stands given = rw (gives_at b k line v true stands given) refl

  pub names_kept : (b k : ℕ) (line : Line) (v : ℕ) → slice_get (lines_at func b) k ≡ Some line → gives line v ≡ false → calls line ≡ false
      → names_at func table naming b (suc k) v ≡ names_at func table naming b k v
  names_kept b k line v stands given plain = rw (gives_at b k line v false stands given, calls_at b k line false stands plain) refl

  pub names_unlisted : (b k : ℕ) (line : Line) (v : ℕ) → slice_get (lines_at func b) k ≡ Some line → gives line v ≡ false
      → among v (live_list func table b k) ≡ false → names_at func table naming b (suc k) v ≡ names_at func table naming b k v
  names_unlisted b k line v stands given none = elim (cases_Bool (calls (line_at func b k))) [
    | inl is ↦ rw (gives_at b k line v false stands given, is, none) refl
    | inr other ↦ rw (gives_at b k line v false stands given, other) refl
  ]

  pub names_listed : (b k : ℕ) (line : Line) (v : ℕ) → slice_get (lines_at func b) k ≡ Some line → gives line v ≡ false → calls line ≡ true
      → among v (live_list func table b k) ≡ true → names_at func table naming b (suc k) v ≡ relocated b k v
  names_listed b k line v stands given is listed = rw (gives_at b k line v false stands given, calls_at b k line true stands is, listed) refl

  line_value : (b k : ℕ) (names : Names) (v : ℕ) → owner_of (names v) ≡ Some v → owner_of (after_line func table b k names v) ≡ Some v
  line_value b k names v before = elim (cases_Bool (gives (line_at func b k) v)) [
    | inl is ↦ rw is refl
    | inr other ↦ elim (cases_Bool (calls (line_at func b k) && among v (live_list func table b k))) [
      | inl listed ↦ rw (other, listed) refl
      | inr none ↦ rw (other, none) before
    ]
  ]

  pub names_value : (b : ℕ) (names : Names) (v k : ℕ) → owner_of (names v) ≡ Some v → owner_of (names_from func table b names k v) ≡ Some v
  names_value b names v zero before = before
  names_value b names v (suc k) before = line_value b k (names_from func table b names k) v (names_value b names v k before)

  module _ (live : ℕ → ℕ → ℕ → Bool) (fits : Fits func table naming live) (number : Name → ℕ) (room : ℕ)
      (numbers : IsNumbering func table naming.joins number room) where
    pub names_owner : (b k v : ℕ) → numbers.owner (number (names_at func table naming b k v)) ≡ Some v
    names_owner b k v = numbers.owns (names_at func table naming b k v) ∙ names_value b (naming.front b) v k (fits.own_value b v)

    some_same : {x y : ℕ} → Some x ≡ Some y → x ≡ y
    some_same e = cc

    -- the number of a name of another value differs
    pub number_apart : (name : Name) (x m v : ℕ) → owner_of name ≡ Some x → numbers.owner m ≡ Some v → (x ≡ v → ⊥) → eqb (number name) m ≡ false
    number_apart name x m v owned one other = ne_eqb (number name) m (λ same.
        other (some_same (sym owned ∙ sym (numbers.owns name) ∙ ap numbers.owner same ∙ one)))

-- the first place that passes
found_place : {A : Type 0} (p : A → Bool) (xs : List A) (k : ℕ) (x : A) → slice_get xs k ≡ Some x → p x ≡ true
    → (y : A) × (slice_get xs (position_or_len p xs) ≡ Some y) × (p y ≡ true)
found_place p [] k x stands passes = absurd (cc)
found_place p (z ∷ xs) k x stands passes = elim (cases_Bool (p z)) [
  | inl here ↦ (z, rw here refl, here)
  | inr other ↦ further k stands (λ j j_stands. found_place p xs j x j_stands passes) other
]
  where
    further : (k : ℕ) → slice_get (z ∷ xs) k ≡ Some x
        → ((j : ℕ) → slice_get xs j ≡ Some x → (y : _) × (slice_get xs (position_or_len p xs) ≡ Some y) × (p y ≡ true))
        → p z ≡ false → (y : _) × (slice_get (z ∷ xs) (position_or_len p (z ∷ xs)) ≡ Some y) × (p y ≡ true)
    further zero stands rest other =
        let e : z ≡ x = cc in
        absurd (true≢false (sym (ap p e ∙ passes) ∙ other))
    further (suc k) stands rest other =
        let found = rest k stands in
        let e : 1 + position_or_len p xs ≡ suc (position_or_len p xs) = omega arith in
        (found.0, rw (other, e) found.1, found.2)

pub found : {A : Type 0} (p : A → Bool) (xs : List A) (k : ℕ) (x : A) → slice_get xs k ≡ Some x → p x ≡ true
    → (i : ℕ) × (y : A) × (position p xs ≡ Some i) × (slice_get xs i ≡ Some y) × (p y ≡ true)
found p xs k x stands passes =
    let first = found_place p xs k x stands passes in
    let within = slice_get_within xs (position_or_len p xs) first.0 first.1 in
    (position_or_len p xs, first.0, rw (lt-ltb (position_or_len p xs) (length xs) within) refl, first.1, first.2)

-- a front that passes, and the rest
pub prefix_append : {A : Type 0} (p : A → Bool) (xs ys : List A) → ((k : ℕ) (x : A) → slice_get xs k ≡ Some x → p x ≡ true) → prefix_len p (xs ++ ys) ≡ length xs + prefix_len p ys
prefix_append p [] ys all = omega arith
prefix_append p (x ∷ xs) ys all =
    let here = all 0 x refl in
    let rest = prefix_append p xs ys (λ k. all (suc k)) in
    rw (here, rest) (omega arith)

-- a call that isn't of a leaf, or one line
pub data CallOrNot (op : Op) : Type 0 where
  is_one : (callee : Callee) (types : List Ty) → op ≡ Call callee types → is_leaf callee ≡ false → CallOrNot op
  is_none : is_call op ≡ false → CallOrNot op

pub call_or_not : (op : Op) → CallOrNot op
call_or_not (Call callee types) = elim (cases_Bool (is_leaf callee)) [
  | inl leaf ↦ is_none (rw leaf refl)
  | inr other ↦ is_one callee types refl other
]
call_or_not _ = is_none refl
