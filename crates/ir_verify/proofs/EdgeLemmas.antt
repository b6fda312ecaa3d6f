-- The edges into blocks, label by label and block by block.
use Rattle.std.proofs.Common.{◌≡◌, ◌≢◌, ◌∙◌, ℕ, ◌+◌, ◌<◌, ◌≤◌, zero, suc, ◌⊎◌, inl, inr, Bool, true, false, cond, List, [], ◌∷◌, ◌++◌, length, get_or, set, take, replicate, refl, ap, sym, subst, arith}
use Rattle.std.specs.Prelude.{nat_eq, Some, slice_get}
use Rattle.std.specs.Option.{option_map_or}
use Rattle.std.proofs.lemmas.List.{length-set, get_or-set_same, get_or-set_other, take_more, take_all, length-replicate}
use Rattle.std.proofs.lemmas.Option.{slice_get_past}
use Rattle.std.proofs.lemmas.List.Sums.{sum_by_push}
use Rattle.std.proofs.lemmas.Bool.Decides.{eqb_tells}
use Rattle.list_laws.proofs.Places.{cases_below}
use Rattle.sp_ids.specs.declared.ids.BlockId.{BlockId}
use Rattle.ir_ast.specs.Blocks.{BasicBlock}
use Rattle.ir_ast.specs.Funcs.{Function}
use Rattle.ir_ast.specs.Edges.{targets, count_of, edges}
use Rattle.ir_verify.specs.Phis.{times, AddsEdges, AreEdges}
use Rattle.ir_verify.proofs.CountLemmas.{count_by-append}
use Rattle.std.proofs.lemmas.Bool.{cases_lt}

-- ---- labels

nothing : (q : Bool) (n : ℕ) → cond q n n ≡ n
nothing true n = refl
nothing false n = refl

pub adds-none : (from : ℕ) (lists : List (List ℕ)) → AddsEdges from [] lists lists
adds-none from lists = record {
  same = refl;
  counts = λ to one below. let z = nothing (nat_eq one from) 0 in omega arith;
}

joined : (q : Bool) (a b c l m n : ℕ) → b ≡ a + cond q l 0 → c ≡ b + cond q m 0 → n ≡ l + m → c ≡ a + cond q n 0
joined true a b c l m n e f g = omega arith
joined false a b c l m n e f g = omega arith

pub adds-then : (from : ℕ) (ls ms : List BlockId) (old between new : List (List ℕ))
    → AddsEdges from ls old between → AddsEdges from ms between new → AddsEdges from (ls ++ ms) old new
adds-then from ls ms old between new a b = record {
  same = b.same ∙ a.same;
  counts = λ to one below.
      joined (nat_eq one from) (times one (get_or old to [])) (times one (get_or between to [])) (times one (get_or new to []))
      (count_of to ls) (count_of to ms) (count_of to (ls ++ ms))
      (a.counts to one below)
      (b.counts to one (subst (λ (n : ℕ). to < n) (sym a.same) below))
      (count_by-append (λ (label : BlockId). nat_eq label.0 to) ls ms);
}

flip : (x y : ℕ) → nat_eq x y ≡ nat_eq y x
flip x y = elim (eqb_tells x y) [
  | inl t ↦ elim (eqb_tells y x) [ inl u ↦ t.0 ∙ sym u.0 | inr u ↦ absurd (u.1 (sym t.1)) ]
  | inr t ↦ elim (eqb_tells y x) [ inl u ↦ absurd (t.1 (sym u.1)) | inr u ↦ t.0 ∙ sym u.0 ]
]

-- a list with one more number
pushed : (from one : ℕ) (xs : List ℕ) → times one (xs ++ from ∷ []) ≡ times one xs + cond (nat_eq one from) 1 0
pushed from one xs =
    sum_by_push (λ n. cond (nat_eq n one) 1 0) xs from ∙ ap (λ b. times one xs + cond b 1 0) (flip from one)

one-in : (to : ℕ) (label : BlockId) (b : Bool) → nat_eq label.0 to ≡ b
    → count_of to (label ∷ []) ≡ cond b 1 0
one-in to label b e =
    let h : count_of to (label ∷ []) ≡ 0 + cond (nat_eq label.0 to) 1 0 = refl in
    let i : count_of to (label ∷ []) ≡ 0 + cond b 1 0 = h ∙ ap (λ c. 0 + cond c 1 0) e in
    omega arith

one-label : (from : ℕ) (label : BlockId) (lists : List (List ℕ)) (to one : ℕ) → to < length lists
    → (nat_eq label.0 to ≡ true) × (label.0 ≡ to) ⊎ (nat_eq label.0 to ≡ false) × (label.0 ≢ to)
    → times one (get_or (set lists label.0 (get_or lists label.0 [] ++ from ∷ [])) to [])
    ≡ times one (get_or lists to []) + cond (nat_eq one from) (count_of to (label ∷ [])) 0
one-label from label lists to one below (inl t) =
    let p = label.0 in
    ap (λ k. times one (get_or (set lists k (get_or lists k [] ++ from ∷ [])) to [])) t.1
    ∙ ap (times one) (get_or-set_same lists to (get_or lists to [] ++ from ∷ []) [] below)
    ∙ pushed from one (get_or lists to [])
    ∙ ap (λ n. times one (get_or lists to []) + cond (nat_eq one from) n 0) (sym (one-in to label true t.0))
one-label from label lists to one below (inr t) =
    let p = label.0 in
    let z = nothing (nat_eq one from) 0 in
    ap (times one) (get_or-set_other lists p to (get_or lists p [] ++ from ∷ []) [] (λ e. t.1 (sym e)))
    ∙ (let all : times one (get_or lists to []) ≡ times one (get_or lists to []) + cond (nat_eq one from) 0 0 = omega arith in all)
    ∙ ap (λ n. times one (get_or lists to []) + cond (nat_eq one from) n 0) (sym (one-in to label false t.0))

pub adds-one : (from : ℕ) (label : BlockId) (old new : List (List ℕ))
    → new ≡ set old label.0 (get_or old label.0 [] ++ from ∷ []) → AddsEdges from (label ∷ []) old new
adds-one from label old new e = subst (λ (lists : List (List ℕ)). AddsEdges from (label ∷ []) old lists) (sym e) (record {
  same = length-set old label.0 (get_or old label.0 [] ++ from ∷ []);
  counts = λ to one below. one-label from label old to one below (eqb_tells label.0 to);
})

-- ---- blocks

-- the lists after the first i blocks
pub record EdgesUpTo (func : Function) (i : ℕ) (into : List (List ℕ)) : Type 0 where
  pub same : length into ≡ length func.blocks
  pub done : (to one : ℕ) → to < length func.blocks → one < i → times one (get_or into to []) ≡ edges func one to
  pub left : (to one : ℕ) → to < length func.blocks → i ≤ one → times one (get_or into to []) ≡ 0

pub no-edges : (func : Function) (into : List (List ℕ)) → length into ≡ length func.blocks
    → ((place : ℕ) → get_or into place [] ≡ []) → EdgesUpTo func 0 into
no-edges func into same empty = record {
  same = same;
  done = λ to one below none. absurd (let b : one < 0 = none in omega arith);
  left = λ to one below le. ap (times one) (empty to);
}

other-block : (from : ℕ) (labels : List BlockId) (old new : List (List ℕ)) → AddsEdges from labels old new
    → (to one : ℕ) → to < length old → one ≢ from → times one (get_or new to []) ≡ times one (get_or old to [])
other-block from labels old new a to one below ne = elim (eqb_tells one from) [
  | inl t ↦ absurd (ne t.1)
  | inr t ↦ a.counts to one below ∙ ap (λ b. times one (get_or old to []) + cond b (count_of to labels) 0) t.0
      ∙ (let z : times one (get_or old to []) + 0 ≡ times one (get_or old to []) = omega arith in z)
]

same-block : (from : ℕ) (labels : List BlockId) (old new : List (List ℕ)) → AddsEdges from labels old new
    → (to : ℕ) → to < length old → times from (get_or new to []) ≡ times from (get_or old to []) + count_of to labels
same-block from labels old new a to below = elim (eqb_tells from from) [
  | inl t ↦ a.counts to from below ∙ ap (λ b. times from (get_or old to []) + cond b (count_of to labels) 0) t.0
  | inr t ↦ absurd (t.1 refl)
]

pub edges-more : (func : Function) (i : ℕ) (block : BasicBlock) (old new : List (List ℕ)) → slice_get func.blocks i ≡ Some block
    → EdgesUpTo func i old → AddsEdges i (targets block) old new → EdgesUpTo func (i + 1) new
edges-more func i block old new at e a = record {
  same = a.same ∙ e.same;
  done = λ to one below lt. done to one below (subst (λ (n : ℕ). to < n) (sym e.same) below) (cases_below one i lt);
  left = λ to one below le.
      other-block i (targets block) old new a to one (subst (λ (n : ℕ). to < n) (sym e.same) below) (λ same. omega arith)
      ∙ e.left to one below (omega arith);
}
  where
    done : (to one : ℕ) → to < length func.blocks → to < length old → (one < i) ⊎ (one ≡ i) → times one (get_or new to []) ≡ edges func one to
    done to one below long (inl lt) =
        other-block i (targets block) old new a to one long (λ same. omega arith) ∙ e.done to one below lt
    done to one below long (inr same) = subst (λ (k : ℕ). times k (get_or new to []) ≡ edges func k to) (sym same) (
        let s = same-block i (targets block) old new a to long in
        let z = e.left to i below (omega arith) in
        let n : edges func i to ≡ count_of to (targets block)
        = ap (λ o. option_map_or (λ (b : BasicBlock). count_of to (targets b)) o 0) at in
        omega arith)

pub edges-all : (func : Function) (i : ℕ) (into : List (List ℕ)) → i ≡ length func.blocks → EdgesUpTo func i into
    → AreEdges func into
edges-all func i into end e = record {
  same = e.same;
  counts = λ to from below. by to from below (cases_lt from i);
}
  where
    by : (to from : ℕ) → to < length func.blocks → (from < i) ⊎ (i ≤ from) → times from (get_or into to []) ≡ edges func from to
    by to from below (inl lt) = e.done to from below lt
    by to from below (inr le) =
        e.left to from below le
        ∙ ap (λ o. option_map_or (λ (b : BasicBlock). count_of to (targets b)) o 0)
        (sym (slice_get_past func.blocks from (subst (λ (n : ℕ). n ≤ from) end le)))

-- ---- empty lists

abbrev nobody : List ℕ
nobody = []

pub blank : (n place : ℕ) → get_or (replicate n nobody) place nobody ≡ nobody
blank zero place = refl
blank (suc n) zero = refl
blank (suc n) (suc place) = blank n place

pub blank-edges : (func : Function) (into : List (List ℕ)) (n : ℕ) → into ≡ replicate n [] → n ≡ length func.blocks → EdgesUpTo func 0 into
blank-edges func into n is size =
    no-edges func into (ap length is ∙ length-replicate n nobody ∙ size) (λ place. ap (λ (lists : List (List ℕ)). get_or lists place []) is ∙ blank n place)

-- ---- one label more

pub adds-more : (from : ℕ) (labels : List BlockId) (i : ℕ) (label : BlockId) (old between new : List (List ℕ)) → i < length labels
    → AddsEdges from (take i labels) old between
    → new ≡ set between (get_or labels i label).0 (get_or between (get_or labels i label).0 [] ++ from ∷ [])
    → AddsEdges from (take (i + 1) labels) old new
adds-more from labels i label old between new below a is =
    subst (λ (ls : List BlockId). AddsEdges from ls old new) (sym (take_more labels i label below))
    (adds-then from (take i labels) (get_or labels i label ∷ []) old between new a (adds-one from (get_or labels i label) between new is))

pub adds-all : (from : ℕ) (labels : List BlockId) (i : ℕ) (old new : List (List ℕ)) → length labels ≤ i → AddsEdges from (take i labels) old new
    → AddsEdges from labels old new
adds-all from labels i old new end a = subst (λ (ls : List BlockId). AddsEdges from ls old new) (take_all i labels end) a

-- an edge leads from a block that there is
pub edge-inside : (func : Function) (from to : ℕ) → 0 < edges func from to → from < length func.blocks
edge-inside func from to some = elim (cases_lt from (length func.blocks)) [
  | inl lt ↦ lt
  | inr le ↦ absurd (let none : edges func from to ≡ 0
      = ap (λ o. option_map_or (λ (b : BasicBlock). count_of to (targets b)) o 0) (slice_get_past func.blocks from le) in omega (arith, none, some))
]
