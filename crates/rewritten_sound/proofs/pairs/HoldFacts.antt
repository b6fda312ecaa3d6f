-- The pairs of live pointers at a place, by the names that the pointers have there, and what they give for operands.
use Rattle.std.proofs.Common.{◌≡◌, ℕ, zero, suc, ◌<◌, Bool, true, false, List, [], ◌∷◌, ◌++◌, length, map, refl, sym, ap, subst, ◌∙◌}
use Rattle.std.specs.Prelude.{Option, Some, slice_get}
use Rattle.std.specs.List.{range_with_len}
use Rattle.std.specs.Option.{option_map_or}
use Rattle.std.proofs.lemmas.Bool.{eq-eqb, ne_eqb}
use Rattle.std.proofs.lemmas.Option.{none-some}
use Rattle.list_laws.proofs.Places.{get_some}
use Rattle.ir_ast.specs.declared.funcs.Arg.{Arg}
use Rattle.ir_ast.specs.declared.ops.Operand.{Operand}
use Rattle.ir_ast.specs.declared.ops.Operand.TheVariants.{Value, Int, Null, Fun}
use Rattle.ir_ast.specs.declared.types.Ty.{Ty}
use Rattle.ir_ast.specs.Funcs.{Function}
use Rattle.ir_ast.specs.Insts.{Instruction}
use Rattle.ir_ast.specs.Types.{is_pointer}
use Rattle.ir_ast.specs.Values.{argument, definition_type, outcome, value_types}
use Rattle.rewriting_forms.specs.Numbered.{among, base_at, named, pointers}
use Rattle.rewriting_forms.specs.Liveness.{live_table}
use Rattle.rewriting_forms.specs.Names.{Name, Names, Naming, names_at, own}
use Rattle.rewriting_forms.specs.Rewritten.{renamed}
use Rattle.rewriting_laws.specs.Laws.{Fits, IsNumbering}
use Rattle.rewriting_laws.proofs.NameLemmas.{among_filter, names_owner}
use Rattle.pair_facts.specs.declared.bases.Base.TheVariants.{Any, Named}
use Rattle.pair_facts.specs.Lines.{operand_at, same_operand}
use Rattle.pair_facts.specs.Pairs.{Pairs, is_named, is_pointer_argument}
use Rattle.rewritten_sound.proofs.definite.NowLaws.{number}
use Rattle.rewritten_sound.specs.Takes.{HasPairs, IsOwn, IsPointer, base_of}
use Rattle.rewritten_sound.proofs.pairs.EdgeFacts.{operand_there}
use Rattle.ir_ast.proofs.OpLaws.{same_is}

-- a pointer with its base, which is its own
pub record Stands (pairs : Pairs) (address base : Operand) : Type 0 where
  pub fresh : pairs address Any ≡ true
  pub base_fresh : pairs base Any ≡ true
  pub pair : pairs address (Named base) ≡ true
  pub base_own : pairs base (Named base) ≡ true

-- an operand that is live
abbrev pub IsAlive : (ℕ → Bool) → Operand → Type 0
IsAlive live (Value value) = live value.0 ≡ true
IsAlive live operand = Unit {0}

pub alive_from : (live : ℕ → Bool) (o : Operand) → ((v : ℕ) → o ≡ named v → live v ≡ true) → IsAlive live o
alive_from live (Value value) each = each value.0 refl
alive_from live (Int word) each = tt
alive_from live Null each = tt
alive_from live (Fun called) each = tt

-- an operand of a list whose values are live
pub alive_at : (live : ℕ → Bool) (operands : List Operand) (place : ℕ) → ((place v : ℕ) → slice_get operands place ≡ Some (named v) → live v ≡ true)
    → IsAlive live (operand_at operands place)
alive_at live operands place alive = alive_from live (operand_at operands place) (λ v is. alive place v (operand_there operands place v is))

pub operand_map : (to : Name → ℕ) (names : Names) (operands : List Operand) (place : ℕ) → operand_at (map (renamed to names) operands) place ≡ renamed to names (operand_at operands place)
operand_map to names [] place = refl
operand_map to names (o ∷ operands) zero = refl
operand_map to names (o ∷ operands) (suc place) = operand_map to names operands place

-- and the other way round, but for functions
pub same_again : (o other : Operand) → same_operand o other ≡ true → (to : Name → ℕ) (names : Names) → same_operand (renamed to names o) (renamed to names other) ≡ true
same_again (Value value) other is to names =
    ap (λ (x : Operand). same_operand (renamed to names (Value value)) (renamed to names x)) (sym (same_is (Value value) other is)) ∙ eq-eqb (to (names value.0)) (to (names value.0)) refl
same_again (Int word) other is to names = ap (λ (x : Operand). same_operand (Int word) (renamed to names x)) (sym (same_is (Int word) other is)) ∙ eq-eqb word word refl
same_again Null other is to names = ap (λ (x : Operand). same_operand Null (renamed to names x)) (sym (same_is Null other is))
same_again (Fun called) other is to names = absurd cc

argument_type : (args : List Arg) (insts : List Instruction) (v : ℕ) (arg : Arg) → slice_get args v ≡ Some arg
    → slice_get (map definition_type (map argument args ++ map outcome insts)) v ≡ Some arg.ty
argument_type [] insts v arg at = absurd (none-some arg at)
argument_type (first ∷ args) insts zero arg at = ap (λ (a : Arg). Some a.ty) (let e : first ≡ arg = cc in e)
argument_type (first ∷ args) insts (suc v) arg at = argument_type args insts v arg at

-- a pointer among the arguments is a pointer argument
pub pointer_argument : (func : Function) (v : ℕ) → among v (pointers func) ≡ true → v < length func.args → is_pointer_argument func v ≡ true
pointer_argument func v pointer below =
    let arg = get_some func.args v below in
    let typed = (among_filter (λ (x : ℕ). option_map_or is_pointer (slice_get (value_types func) x) false) v (range_with_len 0 (length (value_types func))) pointer).1 in
    let type = argument_type func.args _ v arg.0 arg.1 in
    ap (λ (a : Option Arg). option_map_or (λ (arg : Arg). is_pointer arg.ty) a false) arg.1
    ∙ sym (ap (λ (t : Option Ty). option_map_or is_pointer t false) type) ∙ typed

module _ (func : Function) (table : List Operand) where
  -- of each live pointer, under the name that it has, with the name of its base
  pub record Holds (live : ℕ → Bool) (to : Name → ℕ) (names : Names) (pairs : Pairs) : Type 0 where
    pub null_fresh : pairs Null Any ≡ true
    pub null_pair : pairs Null (Named Null) ≡ true
    pub fresh : (v : ℕ) → among v (pointers func) ≡ true → live v ≡ true → pairs (named (to (names v))) Any ≡ true
    pub pair : (v : ℕ) → among v (pointers func) ≡ true → live v ≡ true
        → pairs (named (to (names v))) (Named (renamed to names (base_at table v))) ≡ true

  module _ (live : ℕ → Bool) (to : Name → ℕ) (names : Names) (pairs : Pairs) (holds : Holds live to names pairs) where
    pub operand_fresh : (o : Operand) → IsPointer func table o → IsAlive live o → pairs (renamed to names o) Any ≡ true
    operand_fresh (Value value) pointer alive = holds.fresh value.0 pointer alive
    operand_fresh Null pointer alive = holds.null_fresh
    operand_fresh (Int word) pointer alive = absurd pointer
    operand_fresh (Fun called) pointer alive = absurd pointer

    pub operand_pair : (o : Operand) → IsPointer func table o → IsAlive live o → pairs (renamed to names o) (Named (renamed to names (base_of func table o))) ≡ true
    operand_pair (Value value) pointer alive = holds.pair value.0 pointer alive
    operand_pair Null pointer alive = holds.null_pair
    operand_pair (Int word) pointer alive = absurd pointer
    operand_pair (Fun called) pointer alive = absurd pointer

    pub own_pair : (o : Operand) → IsOwn func table o → IsAlive live o → pairs (renamed to names o) (Named (renamed to names o)) ≡ true
    own_pair o is alive = subst (λ (base : Operand). pairs (renamed to names o) (Named (renamed to names base)) ≡ true) is.1 (operand_pair o is.0 alive)

    pub whole_pair : (o : Operand) → IsPointer func table o → IsAlive live o → IsOwn func table (base_of func table o) → IsAlive live (base_of func table o)
        → Stands pairs (renamed to names o) (renamed to names (base_of func table o))
    whole_pair o pointer alive own_base base_alive = record {
      fresh = operand_fresh o pointer alive;
      base_fresh = operand_fresh (base_of func table o) own_base.0 base_alive;
      pair = operand_pair o pointer alive;
      base_own = own_pair (base_of func table o) own_base base_alive;
    }

  module _ (live : ℕ → ℕ → ℕ → Bool) (has : HasPairs func table live) where
    pub base_alive : (b k : ℕ) (o : Operand) → IsPointer func table o → IsAlive (live b k) o → IsAlive (live b k) (base_of func table o)
    base_alive b k (Value value) pointer alive = alive_from (live b k) (base_at table value.0) (λ w is. has.base_live b k value.0 w pointer alive is)
    base_alive b k Null pointer alive = tt
    base_alive b k (Int word) pointer alive = tt
    base_alive b k (Fun called) pointer alive = tt

    pub base_owns : (o : Operand) → IsPointer func table o → IsOwn func table (base_of func table o)
    base_owns (Value value) pointer = has.base_is value.0 pointer
    base_owns Null pointer = (tt, refl)
    base_owns (Int word) pointer = absurd pointer
    base_owns (Fun called) pointer = absurd pointer

    -- a pair that a line takes stands under the names of its operands
    pub based_stands : (b k : ℕ) (to : Name → ℕ) (names : Names) (pairs : Pairs) → Holds (live b k) to names pairs → (address base : Operand)
        → IsPointer func table address → base ≡ base_of func table address → IsAlive (live b k) address
        → Stands pairs (renamed to names address) (renamed to names base)
    based_stands b k to names pairs holds address base pointer is alive =
        subst (λ (o : Operand). Stands pairs (renamed to names address) (renamed to names o)) (sym is)
        (whole_pair (live b k) to names pairs holds address pointer alive (base_owns address pointer) (base_alive b k address pointer alive))

-- the name of another value isn't that of a result
pub apart_operand : (func : Function) (table : List Operand) (naming : Naming) (fits : Fits func table naming (live_table func table)) (now_room : ℕ)
    (numbers : IsNumbering func table naming.joins (number func table naming) now_room) (b k v : ℕ) (o : Operand) → (o ≡ named v → ⊥)
    → is_named (number func table naming (own v)) (renamed (number func table naming) (names_at func table naming b k) o) ≡ false
apart_operand func table naming fits now_room numbers b k v (Value value) other =
    ne_eqb (number func table naming (own v)) (number func table naming (names_at func table naming b k value.0)) (λ same.
    other (ap named (same_value (sym (names_owner func table naming (live_table func table) fits (number func table naming) now_room numbers b k value.0)
    ∙ ap numbers.owner (sym same) ∙ numbers.owns (own v)))))
  where
    same_value : {x y : ℕ} → Some x ≡ Some y → x ≡ y
    same_value e = cc
apart_operand func table naming fits now_room numbers b k v (Int word) other = refl
apart_operand func table naming fits now_room numbers b k v Null other = refl
apart_operand func table naming fits now_room numbers b k v (Fun called) other = refl
