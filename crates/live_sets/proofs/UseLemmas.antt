-- What a line uses and gives, by the marks of pointers and the numbers of values.
use Rattle.std.proofs.Common.{◌≡◌, ℕ, zero, suc, ◌+◌, ◌<◌, ◌≤◌, Bool, true, false, not, eqb, ◌&&◌, ◌||◌, if◌then◌else◌, List, [], ◌∷◌, length, map, take, refl, ap, sym, arith, inl, inr, Some, None, Option, slice_get, ◌∙◌}
use Rattle.std.specs.Prelude.{is_some}
use Rattle.std.specs.List.{range_with_len}
use Rattle.std.specs.Option.{option_map_or}
use Rattle.std.proofs.lemmas.Bool.{cases_Bool, cases_eq, cases_lt, eqb-true, eq-eqb, ne_eqb, false≢true, or_left, or_right}
use Rattle.std.proofs.lemmas.Option.{slice_get_within}
use Rattle.sp_ids.specs.declared.ids.ValueId.{ValueId}
use Rattle.ir_ast.specs.declared.types.Ty.{Ty}
use Rattle.ir_ast.specs.declared.ops.Operand.{Operand}
use Rattle.ir_ast.specs.declared.ops.Operand.TheVariants.{Value, Int, Null, Fun}
use Rattle.ir_ast.specs.Insts.{Instruction}
use Rattle.ir_ast.specs.Funcs.{Function}
use Rattle.ir_ast.specs.Types.{is_pointer}
use Rattle.ir_ast.specs.Values.{value_types}
use Rattle.object_meaning.specs.Lines.{Line, following, after_all, numbered}
use Rattle.object_meaning.specs.TargetRuns.{plain_lines}
use Rattle.rewriting_forms.specs.Numbered.{among, gives, pointers, base_at}
use Rattle.rewriting_forms.specs.Liveness.{is_use, is_value}
use Rattle.rewriting_laws.proofs.NameLemmas.{among_filter, filter_among}
use Rattle.live_sets.specs.Uses.{other_than, names, uses}
use Rattle.object_meaning.proofs.LineLaws.{after_up}
use Rattle.list_laws.proofs.Booleans.{same_tests}
use Rattle.ir_ast.specs.Lists.{has_mark}
use Rattle.ir_ast.specs.Operands.{value_named}

among_range : (a n x : ℕ) → a ≤ x → x < a + n → among x (range_with_len a n) ≡ true
among_range a zero x low high = absurd (omega arith)
among_range a (suc n) x low high = elim (cases_eq a x) [
  | inl e ↦ or_left (eqb a x) (among x (range_with_len (a + 1) n)) (eq-eqb a x e)
  | inr ne ↦ or_right (eqb a x) (among x (range_with_len (a + 1) n)) (among_range (a + 1) n x (omega arith) (omega arith))
]

module _ (func : Function) (marks : List Bool) (right : marks ≡ map is_pointer (value_types func)) where
  pub pointer_at : (x : ℕ) → option_map_or is_pointer (slice_get (value_types func) x) false ≡ has_mark marks x
  pointer_at x = go (value_types func) x ∙ ap (λ (ms : List Bool). has_mark ms x) (sym right)
    where
      go : (types : List Ty) (x : ℕ) → option_map_or is_pointer (slice_get types x) false ≡ has_mark (map is_pointer types) x
      go [] x = refl
      go (ty ∷ types) zero = refl
      go (ty ∷ types) (suc x) = go types x

  pub marked_within : (x : ℕ) → has_mark marks x ≡ true → x < length (value_types func)
  marked_within x is = go (slice_get (value_types func) x) refl (pointer_at x ∙ is)
    where
      go : (o : Option Ty) → slice_get (value_types func) x ≡ o → option_map_or is_pointer o false ≡ true → x < length (value_types func)
      go None at is = absurd (false≢true is)
      go (Some ty) at is = slice_get_within (value_types func) x ty at

  pub among_mark : (x : ℕ) → among x (pointers func) ≡ has_mark marks x
  among_mark x = same_tests (among x (pointers func)) (has_mark marks x)
      (λ is. sym (pointer_at x) ∙ (among_filter (λ (v : ℕ). option_map_or is_pointer (slice_get (value_types func) v) false) x (range_with_len 0 (length (value_types func))) is).1)
      (λ is. filter_among (λ (v : ℕ). option_map_or is_pointer (slice_get (value_types func) v) false) x (range_with_len 0 (length (value_types func)))
      (among_range 0 (length (value_types func)) x (omega arith) (let below = marked_within x is in omega arith)) (pointer_at x ∙ is))

  or_same : (t : Bool) → (t || t) ≡ (t || false)
  or_same true = refl
  or_same false = refl

  base_part : (t : Bool) (id : ValueId) (v : ℕ) (base : Operand)
      → (eqb id.0 v || (t && is_value v base)) ≡ (eqb id.0 v || names (if not t then None else other_than id (value_named base)) v)
  base_part false id v base = refl
  base_part true id v (Value b) = elim (cases_eq b.0 id.0) [
    | inl e ↦
        ap (λ (n : ℕ). eqb id.0 v || eqb n v) e ∙ or_same (eqb id.0 v)
        ∙ sym (ap (λ (test : Bool). eqb id.0 v || names (if test then None else Some b) v) (eq-eqb b.0 id.0 e))
    | inr ne ↦ sym (ap (λ (test : Bool). eqb id.0 v || names (if test then None else Some b) v) (ne_eqb b.0 id.0 ne))
  ]
  base_part true id v (Int word) = refl
  base_part true id v Null = refl
  base_part true id v (Fun g) = refl

  pub uses_same : (table : List Operand) (v : ℕ) (o : Operand) → is_use func table v o ≡ uses marks table v o
  uses_same table v (Value id) =
      ap (λ (t : Bool). eqb id.0 v || (t && is_value v (base_at table id.0))) (among_mark id.0)
      ∙ base_part (has_mark marks id.0) id v (base_at table id.0)
  uses_same table v (Int word) = refl
  uses_same table v Null = refl
  uses_same table v (Fun g) = refl

-- ---- lines by their instructions

pub record FromInst (n : ℕ) (insts : List Instruction) (k : ℕ) (line : Line) : Type 0 where
  pub inst : Instruction
  pub at : slice_get insts k ≡ Some inst
  pub is : line ≡ numbered (after_all n (take k insts)) inst

pub line_back : (n : ℕ) (insts : List Instruction) (k : ℕ) (line : Line) → slice_get (plain_lines n insts) k ≡ Some line → FromInst n insts k line
line_back n [] k line is = absurd (cc)
line_back n (x ∷ insts) zero line is = record { inst = x; at = refl; is = (let e : numbered n x ≡ line = cc in sym e) }
line_back n (x ∷ insts) (suc k) line is = let rest = line_back (following n x) insts k line is in record { inst = rest.inst; at = rest.at; is = rest.is }

-- ---- what is given before a line of a block

following_up : (n : ℕ) (inst : Instruction) → n ≤ following n inst
following_up n inst = elim (cases_Bool (is_some inst.result)) [ inl some ↦ rw some (omega arith) | inr none ↦ rw none (omega arith) ]

gives_number : (n v : ℕ) (inst : Instruction) → gives (numbered n inst) v ≡ true → (is_some inst.result ≡ true) × (n ≡ v)
gives_number n v inst is = elim (cases_Bool (is_some inst.result)) [
  | inl some ↦ (some, (let h = rw some at is in eqb-true n v h))
  | inr none ↦ absurd (false≢true (let h = rw none at is in h))
]

-- a value that a line gives before another has a number between that of the block and that of the line
pub given_between : (n : ℕ) (insts : List Instruction) (i k v : ℕ) (inst : Instruction) → i < k → slice_get insts i ≡ Some inst
    → gives (numbered (after_all n (take i insts)) inst) v ≡ true → (n ≤ v) × (v < after_all n (take k insts))
given_between n [] i k v inst before is given = absurd (cc)
given_between n (x ∷ insts) i zero v inst before is given = absurd (omega arith)
given_between n (x ∷ insts) zero (suc k) v inst before is given =
    let same : x ≡ inst = cc in
    let here = gives_number n v x (ap (λ (y : Instruction). gives (numbered n y) v) same ∙ given) in
    let next : following n x ≡ n + 1 = rw here.0 refl in
    let up = after_up (following n x) (take k insts) in
    (omega (arith, here.1), omega (arith, here.1, next, up))
given_between n (x ∷ insts) (suc i) (suc k) v inst before is given =
    let rest = given_between (following n x) insts i k v inst (omega arith) is given in
    let up = following_up n x in
    (omega (arith, rest.0, up), rest.1)

-- and each such number is given by a line before
pub record GivenBefore (n : ℕ) (insts : List Instruction) (k v : ℕ) : Type 0 where
  pub place : ℕ
  pub inst : Instruction
  pub before : place < k
  pub at : slice_get insts place ≡ Some inst
  pub is : gives (numbered (after_all n (take place insts)) inst) v ≡ true

pub between_given : (n : ℕ) (insts : List Instruction) (k v : ℕ) → n ≤ v → v < after_all n (take k insts) → GivenBefore n insts k v
between_given n [] zero v low high = absurd (omega (arith, low, high))
between_given n [] (suc k) v low high = absurd (omega (arith, low, high))
between_given n (x ∷ insts) zero v low high = absurd (omega (arith, low, high))
between_given n (x ∷ insts) (suc k) v low high = elim (cases_lt v (following n x)) [
  | inr past ↦
      let rest = between_given (following n x) insts k v past high in
      record { place = suc rest.place; inst = rest.inst; before = (let b = rest.before in omega (arith, b)); at = rest.at; is = rest.is }
  | inl below ↦ elim (cases_Bool (is_some x.result)) [
    | inr none ↦ absurd (let same : following n x ≡ n = rw none refl in omega (arith, same, below, low))
    | inl some ↦
        let next : following n x ≡ n + 1 = rw some refl in
        let same : n ≡ v = omega (arith, next, below, low) in
        record { place = 0; inst = x; before = omega arith; at = refl; is = rw some (eq-eqb n v same) }
  ]
]
