-- Names with inserted ones between: where the names differ and none is one of the inserted form, all differ.
use Rattle.std.proofs.Common.{◌≡◌, ℕ, zero, suc, ◌+◌, ◌<◌, ◌≤◌, ◌^◌, Bool, true, false, if◌then◌else◌, List, [], ◌∷◌, ◌++◌, length, map, get_or, refl, sym, ap, subst, inl, inr, arith, lit<}
use Rattle.std.specs.Prelude.{codes}
use Rattle.std.specs.List.{All, Contains}
use Rattle.std.specs.Fmt.{decimal}
use Rattle.std.proofs.lemmas.Fmt.{decimal_injective}
use Rattle.std.proofs.lemmas.Option.{slice_get_within}
use Rattle.std.proofs.lemmas.List.Elements.{All-head, All-tail}
use Rattle.list_laws.proofs.Contents.{all_at, contains_cons, contains_first, contains_get, contains_image, contains_later, contains_none, get_contained}
use Rattle.ir_ast.specs.Lists.{Distinct}
use Rattle.ir_ast.specs.Values.{Definition, definition_name}
use Rattle.ir_ast.specs.Faults.Reserved.{IsInsertedName}
use Rattle.base_forms.specs.Lines.{numbered_name}

-- ---- lists without repeats

pub distinct_cons : {A : Type 0} (x : A) (xs : List A) → (Contains xs x → ⊥) → Distinct xs → Distinct (x ∷ xs)
distinct_cons x xs fresh rest zero zero less within = absurd (omega arith)
distinct_cons x xs fresh rest zero (suc k) less within = λ same. fresh (contains_get xs k x (sym same))
distinct_cons x xs fresh rest (suc j) zero less within = absurd (omega arith)
distinct_cons x xs fresh rest (suc j) (suc k) less within = rest j k (omega arith) (omega arith)

pub distinct_rest : {A : Type 0} (x : A) (xs : List A) → Distinct (x ∷ xs) → Distinct xs
distinct_rest x xs all j k less within = all (suc j) (suc k) (omega arith) (omega arith)

pub distinct_first : {A : Type 0} (x : A) (xs : List A) → Distinct (x ∷ xs) → Contains xs x → ⊥
distinct_first x xs all inside =
    let at = get_contained xs x inside in
    let within = slice_get_within xs at.0 x at.1 in
    all 0 (suc at.0) (omega arith) (omega arith) (sym at.1)

-- ---- inserted names

abbrev pub base_name : ℕ → List ℕ
base_name rank = numbered_name (codes "sp.b") rank

abbrev pub same_name : ℕ → List ℕ
same_name rank = numbered_name (codes "sp.s") rank

ranks_same : (j k : ℕ) → j ≤ 8192 → k ≤ 8192 → decimal j ≡ decimal k → j ≡ k
ranks_same j k small other same =
    let large : 8192 < 2 ^ 64 = lit< tt in
    decimal_injective j k (omega arith) (omega arith) same

base_same : (j k : ℕ) → j ≤ 8192 → k ≤ 8192 → base_name j ≡ base_name k → j ≡ k
base_same j k small other same = let rest : decimal j ≡ decimal k = cc in ranks_same j k small other rest

same_same : (j k : ℕ) → j ≤ 8192 → k ≤ 8192 → same_name j ≡ same_name k → j ≡ k
same_same j k small other same = let rest : decimal j ≡ decimal k = cc in ranks_same j k small other rest

letters_differ : (letter other : ℕ) → letter ≡ other → letter ≡ 98 → other ≡ 115 → ⊥
letters_differ letter other same first second = omega arith

kinds_differ : (j k : ℕ) → base_name j ≡ same_name k → ⊥
kinds_differ j k same = letters_differ (get_or (base_name j) 3 0) (get_or (same_name k) 3 0) (ap (λ (name : List ℕ). get_or name 3 0) same) refl refl

abbrev pub IsFree : Definition → Type 0
IsFree given = ¬ IsInsertedName (definition_name given)

base_inserted : (k : ℕ) → IsInsertedName (base_name k)
base_inserted k = (codes "b" ++ decimal k, refl)

same_inserted : (k : ℕ) → IsInsertedName (same_name k)
same_inserted k = (codes "s" ++ decimal k, refl)

-- ---- names with inserted ones between

module _ (merges negates : Definition → Bool) where
  abbrev pub inserted_names : ℕ → ℕ → Definition → List (List ℕ)
  inserted_names bases sames given = if merges given then base_name bases ∷ [] else (if negates given then same_name sames ∷ [] else [])

  abbrev pub spread : ℕ → ℕ → List Definition → List (List ℕ)
  spread bases sames [] = []
  spread bases sames (given ∷ rest) =
      inserted_names bases sames given ++ definition_name given ∷ spread (bases + (if merges given then 1 else 0)) (sames + (if negates given then 1 else 0)) rest

  data From (bases sames : ℕ) (all : List Definition) (name : List ℕ) : Type 0 where
    named : Contains (map definition_name all) name → From bases sames all name
    a_base : (k : ℕ) → bases ≤ k → k < bases + length all → name ≡ base_name k → From bases sames all name
    a_same : (k : ℕ) → sames ≤ k → k < sames + length all → name ≡ same_name k → From bases sames all name

  widen : (given : Definition) (all : List Definition) (name : List ℕ) (bases sames later_bases later_sames : ℕ) → bases ≤ later_bases → later_bases ≤ bases + 1 → sames ≤ later_sames → later_sames ≤ sames + 1
      → From later_bases later_sames all name → From bases sames (given ∷ all) name
  widen given all name bases sames later_bases later_sames low high low_same high_same (named inside) = named (contains_later (definition_name given) name (map definition_name all) inside)
  widen given all name bases sames later_bases later_sames low high low_same high_same (a_base k above below is) = a_base k (omega arith) (omega arith) is
  widen given all name bases sames later_bases later_sames low high low_same high_same (a_same k above below is) = a_same k (omega arith) (omega arith) is

  spread_from : (all : List Definition) (bases sames : ℕ) (name : List ℕ) → Contains (spread bases sames all) name → From bases sames all name
  spread_from [] bases sames name inside = absurd (contains_none name inside)
  spread_from (given ∷ all) bases sames name inside = by (merges given) (negates given) (λ more fewer within. spread_from all (bases + more) (sames + fewer) name within) inside
    where
      behind : (more fewer : ℕ) → more ≤ 1 → fewer ≤ 1 → (Contains (spread (bases + more) (sames + fewer) all) name → From (bases + more) (sames + fewer) all name)
          → Contains (definition_name given ∷ spread (bases + more) (sames + fewer) all) name → From bases sames (given ∷ all) name
      behind more fewer one other further inside = elim (contains_cons (definition_name given) name (spread (bases + more) (sames + fewer) all) inside) [
        | inl same ↦ named (subst (λ (n : List ℕ). Contains (definition_name given ∷ map definition_name all) n) same (contains_first (definition_name given) (map definition_name all)))
        | inr later ↦ widen given all name bases sames (bases + more) (sames + fewer) (omega arith) (omega arith) (omega arith) (omega arith) (further later)
      ]

      by : (b c : Bool) → ((more fewer : ℕ) → Contains (spread (bases + more) (sames + fewer) all) name → From (bases + more) (sames + fewer) all name)
          → Contains ((if b then base_name bases ∷ [] else (if c then same_name sames ∷ [] else [])) ++ definition_name given ∷ spread (bases + (if b then 1 else 0)) (sames + (if c then 1 else 0)) all) name
          → From bases sames (given ∷ all) name
      by true true further inside = elim (contains_cons (base_name bases) name (definition_name given ∷ spread (bases + 1) (sames + 1) all) inside) [
        | inl same ↦ a_base bases (omega arith) (omega arith) (sym same)
        | inr later ↦ behind 1 1 (omega arith) (omega arith) (further 1 1) later
      ]
      by true false further inside = elim (contains_cons (base_name bases) name (definition_name given ∷ spread (bases + 1) (sames + 0) all) inside) [
        | inl same ↦ a_base bases (omega arith) (omega arith) (sym same)
        | inr later ↦ behind 1 0 (omega arith) (omega arith) (further 1 0) later
      ]
      by false true further inside = elim (contains_cons (same_name sames) name (definition_name given ∷ spread (bases + 0) (sames + 1) all) inside) [
        | inl same ↦ a_same sames (omega arith) (omega arith) (sym same)
        | inr later ↦ behind 0 1 (omega arith) (omega arith) (further 0 1) later
      ]
      by false false further inside = behind 0 0 (omega arith) (omega arith) (further 0 0) inside

  no_inserted : (all : List Definition) → All IsFree all → (name : List ℕ) → IsInsertedName name → Contains (map definition_name all) name → ⊥
  no_inserted all free name inserted inside =
      let from = contains_image definition_name all name inside in
      let at = get_contained all from.of from.inside in
      all_at IsFree all at.0 from.of free at.1 (subst IsInsertedName (sym from.is) inserted)

  pub distinct_spread : (all : List Definition) (bases sames : ℕ) → bases + length all ≤ 8192 → sames + length all ≤ 8192 → Distinct (map definition_name all) → All IsFree all
      → Distinct (spread bases sames all)
  distinct_spread [] bases sames small other apart free = λ j k less within. absurd (omega arith)
  distinct_spread (given ∷ all) bases sames small other apart free =
      by (merges given) (negates given)
      (λ more fewer one another. distinct_spread all (bases + more) (sames + fewer) (omega arith) (omega arith) (distinct_rest (definition_name given) (map definition_name all) apart) rest_free)
    where
      first_free : IsFree given
      first_free = All-head IsFree given all free

      rest_free : All IsFree all
      rest_free = All-tail IsFree given all free

      own_fresh : (more fewer : ℕ) → From (bases + more) (sames + fewer) all (definition_name given) → ⊥
      own_fresh more fewer (named inside) = distinct_first (definition_name given) (map definition_name all) apart inside
      own_fresh more fewer (a_base k above below is) = first_free (subst IsInsertedName (sym is) (base_inserted k))
      own_fresh more fewer (a_same k above below is) = first_free (subst IsInsertedName (sym is) (same_inserted k))

      behind : (more fewer : ℕ) → Distinct (spread (bases + more) (sames + fewer) all) → Distinct (definition_name given ∷ spread (bases + more) (sames + fewer) all)
      behind more fewer rest =
          distinct_cons (definition_name given) (spread (bases + more) (sames + fewer) all)
          (λ inside. own_fresh more fewer (spread_from all (bases + more) (sames + fewer) (definition_name given) inside)) rest

      base_fresh : (fewer : ℕ) → From (bases + 1) (sames + fewer) all (base_name bases) → ⊥
      base_fresh fewer (named inside) = no_inserted all rest_free (base_name bases) (base_inserted bases) inside
      base_fresh fewer (a_base k above below is) = let same = base_same bases k (omega arith) (omega arith) is in omega arith
      base_fresh fewer (a_same k above below is) = kinds_differ bases k is

      same_fresh : From (bases + 0) (sames + 1) all (same_name sames) → ⊥
      same_fresh (named inside) = no_inserted all rest_free (same_name sames) (same_inserted sames) inside
      same_fresh (a_base k above below is) = kinds_differ k sames (sym is)
      same_fresh (a_same k above below is) = let same = same_same sames k (omega arith) (omega arith) is in omega arith

      base_first : (fewer : ℕ) → Distinct (spread (bases + 1) (sames + fewer) all) → Distinct (base_name bases ∷ definition_name given ∷ spread (bases + 1) (sames + fewer) all)
      base_first fewer rest =
          distinct_cons (base_name bases) (definition_name given ∷ spread (bases + 1) (sames + fewer) all)
          (λ inside. elim (contains_cons (definition_name given) (base_name bases) (spread (bases + 1) (sames + fewer) all) inside) [
            | inl same ↦ first_free (subst IsInsertedName (sym same) (base_inserted bases))
            | inr later ↦ base_fresh fewer (spread_from all (bases + 1) (sames + fewer) (base_name bases) later)
          ]) (behind 1 fewer rest)

      by : (b c : Bool) → ((more fewer : ℕ) → more ≤ 1 → fewer ≤ 1 → Distinct (spread (bases + more) (sames + fewer) all))
          → Distinct ((if b then base_name bases ∷ [] else (if c then same_name sames ∷ [] else [])) ++ definition_name given ∷ spread (bases + (if b then 1 else 0)) (sames + (if c then 1 else 0)) all)
      by true true rest = base_first 1 (rest 1 1 (omega arith) (omega arith))
      by true false rest = base_first 0 (rest 1 0 (omega arith) (omega arith))
      by false true rest =
          distinct_cons (same_name sames) (definition_name given ∷ spread (bases + 0) (sames + 1) all)
          (λ inside. elim (contains_cons (definition_name given) (same_name sames) (spread (bases + 0) (sames + 1) all) inside) [
            | inl same ↦ first_free (subst IsInsertedName (sym same) (same_inserted sames))
            | inr later ↦ same_fresh (spread_from all (bases + 0) (sames + 1) (same_name sames) later)
          ]) (behind 0 1 (rest 0 1 (omega arith) (omega arith)))
      by false false rest = behind 0 0 (rest 0 0 (omega arith) (omega arith))
