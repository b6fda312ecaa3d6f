-- The operands of phis by the blocks of their labels, a label at a time.
use Rattle.std.proofs.Common.{◌≡◌, ◌∙◌, ◌⊎◌, inl, inr, ℕ, zero, suc, ◌+◌, ◌-◌, ◌<◌, cond, Bool, true, false, List, [], ◌∷◌, ◌++◌, Option, Some, None, refl, ap, sym, subst, slice_get, length, arith, get_or, drop, nat_lt}
use Rattle.std.specs.Prelude.{◌==◌, nat_eq, not, position}
use Rattle.std.specs.List.{prefix_len}
use Rattle.std.specs.Option.{option_map_or}
use Rattle.std.proofs.lemmas.Bool.{cases_Bool, ltb-true, lt-ltb}
use Rattle.std.proofs.lemmas.List.{length_push}
use Rattle.std.proofs.lemmas.Option.{none-some, same_Some, slice_get_read}
use Rattle.std.specs.Map.{lookup}
use Rattle.indexmap.specs.IndexMap.{IndexMap, Updates}
use Rattle.sp_ids.specs.declared.ids.BlockId.{BlockId}
use Rattle.ir_ast.specs.declared.ops.Operand.{Operand}
use Rattle.ir_ast.specs.declared.ops.Operand.TheVariants.{Null}
use Rattle.ir_ast.specs.Insts.{Instruction}
use Rattle.object_meaning.specs.Lines.{Line}
use Rattle.pair_facts.specs.Lines.{line_in, operand_at}
use Rattle.fact_tables.specs.Phis.{operand_beside, KnowsEntries, AreEntries, ArePhis}
use Rattle.list_laws.proofs.Booleans.{same_tests}
use Rattle.list_laws.proofs.Places.{drop_whole, drop_nil}

-- ---- a label more

beside_next : (labels : List BlockId) (operands : List Operand) (place from : ℕ) (d : BlockId) → place < length labels
    → operand_beside from (drop place labels) (drop place operands)
    ≡ cond ((get_or labels place d).0 == from) (Some (operand_at operands place)) (operand_beside from (drop (suc place) labels) (drop (suc place) operands))
beside_next [] operands place from d below = absurd (omega arith)
beside_next (first ∷ labels) operands zero from d below = refl
beside_next (first ∷ labels) [] (suc place) from d below =
    ap (operand_beside from (drop place labels)) (sym (drop_nil place)) ∙ beside_next labels [] place from d (omega arith)
beside_next (first ∷ labels) (operand ∷ operands) (suc place) from d below = beside_next labels operands place from d (omega arith)

pub entries_none : {S : Type 0} (labels : List BlockId) (operands : List Operand) (count : ℕ) (entries : IndexMap ℕ Operand S) → count ≡ length labels
    → entries.entries ≡ [] → KnowsEntries labels operands count entries
entries_none labels operands count entries is empty = λ from.
    ap (λ (es : List (ℕ × Operand)). lookup (nat_eq from) es) empty
    ∙ sym (ap (λ (n : ℕ). operand_beside from (drop n labels) (drop n operands)) is
    ∙ ap (λ (ls : List BlockId). operand_beside from ls (drop (length labels) operands)) (drop_whole labels))

pub entries_more : {S : Type 0} (labels : List BlockId) (operands : List Operand) (done : ℕ) (d : BlockId) (operand : Operand) (old new : IndexMap ℕ Operand S)
    → done < length labels → operand ≡ operand_at operands (length labels - 1 - done)
    → Updates nat_eq old new (get_or labels (length labels - 1 - done) d).0 (Some operand)
    → KnowsEntries labels operands (length labels - done) old → KnowsEntries labels operands (length labels - (done + 1)) new
entries_more labels operands done d operand old new below operand_is updates knows =
    let at = length labels - 1 - done in
    let later : length labels - done ≡ suc at = omega arith in
    let same : at ≡ length labels - (done + 1) = omega arith in
    subst (λ (n : ℕ). KnowsEntries labels operands n new) same (λ from.
    updates.0 from
    ∙ ap (λ (o : Option Operand). cond (nat_eq (get_or labels at d).0 from) (Some operand) o)
    (knows from ∙ ap (λ (n : ℕ). operand_beside from (drop n labels) (drop n operands)) later)
    ∙ ap (λ (o : Operand). cond ((get_or labels at d).0 == from) (Some o) (operand_beside from (drop (suc at) labels) (drop (suc at) operands))) operand_is
    ∙ sym (beside_next labels operands at from d (omega arith)))

-- ---- the operand on an edge

operand_shift : (operands : List Operand) (n : ℕ) → operand_at operands (suc n) ≡ operand_at (drop 1 operands) n
operand_shift [] n = refl
operand_shift (operand ∷ operands) n = refl

later_operand : (operands : List Operand) (n : ℕ) (b : Bool)
    → option_map_or (operand_at operands) (cond b (Some (1 + n)) None) Null ≡ option_map_or (operand_at (drop 1 operands)) (cond b (Some n) None) Null
later_operand operands n true = (let same : 1 + n ≡ suc n = omega arith in ap (operand_at operands) same ∙ operand_shift operands n)
later_operand operands n false = refl

both_below : (n m : ℕ) → nat_lt (1 + n) (suc m) ≡ nat_lt n m
both_below n m = same_tests (nat_lt (1 + n) (suc m)) (nat_lt n m)
    (λ h. lt-ltb n m (omega (arith, ltb-true (1 + n) (suc m) h)))
    (λ h. lt-ltb (1 + n) (suc m) (omega (arith, ltb-true n m h)))

-- the operand beside the label's place, where that place lies within
abbrev operand_found : List Operand → ℕ → ℕ → Operand
operand_found operands n m = option_map_or (operand_at operands) (cond (nat_lt n m) (Some n) None) Null

pub incoming_beside : (labels : List BlockId) (operands : List Operand) (from : ℕ)
    → option_map_or (λ place. operand_at operands place) (position (λ label. label.0 == from) labels) Null
    ≡ option_map_or (λ operand. operand) (operand_beside from labels operands) Null
incoming_beside [] operands from = refl
incoming_beside (label ∷ labels) operands from = elim (cases_Bool (label.0 == from)) [
  | inl same ↦ ap (λ b. operand_found operands (cond (not b) (1 + n) 0) (suc (length labels))) same
      ∙ ap (λ b. option_map_or (operand_at operands) (cond b (Some 0) None) Null) (lt-ltb 0 (suc (length labels)) (omega arith))
      ∙ sym (ap (λ b. option_map_or (λ operand. operand) (cond b (Some (operand_at operands 0)) (operand_beside from labels (drop 1 operands))) Null) same)
  | inr other ↦ ap (λ b. operand_found operands (cond (not b) (1 + n) 0) (suc (length labels))) other
      ∙ ap (λ b. option_map_or (operand_at operands) (cond b (Some (1 + n)) None) Null) (both_below n (length labels))
      ∙ later_operand operands n (nat_lt n (length labels))
      ∙ incoming_beside labels (drop 1 operands) from
      ∙ sym (ap (λ b. option_map_or (λ operand. operand) (cond b (Some (operand_at operands 0)) (operand_beside from labels (drop 1 operands))) Null) other)
]
  where
    n : ℕ
    n = prefix_len (λ (l : BlockId). not (l.0 == from)) labels

-- ---- a phi more

pub phis_none : {S : Type 0} (lines : List Line) (phis : List (Option (IndexMap ℕ Operand S))) → phis ≡ [] → ArePhis lines 0 phis
phis_none {S} lines phis is = record {
  whole = ap length is;
  each = λ place one at. absurd (none-some one (ap (λ (xs : List (Option (IndexMap ℕ Operand S))). slice_get xs place) (sym is) ∙ at));
}

pub phis_pushed : {S : Type 0} (lines : List Line) (count : ℕ) (phis next : List (Option (IndexMap ℕ Operand S))) (one : Option (IndexMap ℕ Operand S)) (inst : Instruction)
    → next ≡ phis ++ one ∷ [] → inst ≡ (line_in lines count).inst → AreEntries inst one → ArePhis lines count phis → ArePhis lines (count + 1) next
phis_pushed {S} lines count phis next one inst is inst_is entries are = subst (ArePhis lines (count + 1)) (sym is) (record {
  whole = length_push phis one ∙ ap (λ (n : ℕ). n + 1) are.whole;
  each = λ place found at. elim (pushed phis place found at) [
    | inl earlier ↦ are.each place found earlier
    | inr last ↦ subst (λ (o : Option (IndexMap ℕ Operand S)). AreEntries (line_in lines place).inst o) (sym last.1)
        (subst (λ (k : ℕ). AreEntries (line_in lines k).inst one) (sym (last.0 ∙ are.whole)) (subst (λ (i : Instruction). AreEntries i one) inst_is entries))
  ];
})
  where
    pushed : (phis : List (Option (IndexMap ℕ Operand S))) (k : ℕ) (found : Option (IndexMap ℕ Operand S)) → slice_get (phis ++ one ∷ []) k ≡ Some found
        → (slice_get phis k ≡ Some found) ⊎ ((k ≡ length phis) × (found ≡ one))
    pushed [] zero found at = inr (refl, sym (same_Some one found at))
    pushed [] (suc k) found at = absurd (none-some found at)
    pushed (first ∷ phis) zero found at = inl at
    pushed (first ∷ phis) (suc k) found at = elim (pushed phis k found at) [
      | inl earlier ↦ inl earlier
      | inr last ↦ inr (ap suc last.0, last.1)
    ]

pub phi_read : {S : Type 0} (lines : List Line) (count place : ℕ) (phis : List (Option (IndexMap ℕ Operand S))) (found : Option (IndexMap ℕ Operand S))
    → ArePhis lines count phis → place < count → found ≡ get_or phis place found → AreEntries (line_in lines place).inst found
phi_read lines count place phis found are below read = are.each place found (slice_get_read phis (length phis) place found refl (omega (arith, are.whole)) read)
