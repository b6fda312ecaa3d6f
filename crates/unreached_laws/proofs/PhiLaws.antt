-- Phis at a jump from a kept block: an entry of a block that isn't kept is never taken, so what is left gives the same.
use Rattle.std.proofs.Common.{◌≡◌, ◌==◌, ℕ, suc, ◌+◌, ◌<◌, Bool, true, false, not, if◌then◌else◌, List, [], ◌∷◌, length, map, drop, refl, sym, ap, ◌∙◌, arith, subst}
use Rattle.std.specs.Prelude.{Some, None, slice_index_or, nat_lt, filter}
use Rattle.std.specs.List.{All, position, prefix_len}
use Rattle.std.specs.Option.{option_map, option_map_or}
use Rattle.std.proofs.lemmas.Bool.{false≢true}
use Rattle.std.proofs.lemmas.Bool.Decides.{nat_tests}
use Rattle.std.proofs.lemmas.Option.{get_or_from_slice_get}
use Rattle.std.proofs.lemmas.List.Elements.{All-head, All-tail}
use Rattle.sp_ids.specs.declared.ids.BlockId.{BlockId}
use Rattle.graph_search.specs.Paths.{Marked}
use Rattle.ir_ast.specs.declared.ops.Op.{Op}
use Rattle.ir_ast.specs.declared.ops.Op.TheVariants.{Phi}
use Rattle.ir_ast.specs.declared.ops.Operand.{Operand}
use Rattle.ir_ast.specs.Faults.PhiEdges.{is_phi}
use Rattle.ir_ast.specs.Objects.{Datum}
use Rattle.ir_cfg.specs.Unreached.{Kept, kept_of, has_mark, label_kept, labels_kept, operand_kept, operands_kept}
use Rattle.ir_cfg.proofs.KeepsPlaces.{before_same, filter_kept, marks_before, number_of_marked}
use Rattle.ir_cfg.proofs.KeepsLines.{operands_left}
use Rattle.ir_cfg.proofs.KeepsUses.{mark_found}
use Rattle.object_meaning.specs.Jumps.{incoming, phi_write}
use Rattle.object_meaning.specs.Lines.{Line}
use Rattle.object_meaning.specs.Registers.{nothing, operand, put, put_all}
use Rattle.renaming_laws.proofs.ListLaws.{before, behind}
use Rattle.unreached_laws.proofs.RegisterLaws.{OperandStays, operand_same, put_kept}
use Rattle.unreached_laws.proofs.Keepings.{Keeping, LineStays, line_kept, numbers}

-- ---- the entry of a label

-- the operand of the first entry with this label, found entry by entry
abbrev taken : ℕ → List Datum → List BlockId → List Operand → Datum
taken from registers [] operands = nothing
taken from registers (label ∷ labels) operands = if label.0 == from then operand registers operands 0 else taken from registers labels (drop 1 operands)

operand_next : (registers : List Datum) (operands : List Operand) (place : ℕ) → operand registers operands (suc place) ≡ operand registers (drop 1 operands) place
operand_next registers [] place = refl
operand_next registers (each ∷ operands) place = refl

abbrev found_at : List Datum → List Operand → ℕ → ℕ → Datum
found_at registers operands place count = option_map_or (operand registers operands) (if nat_lt place count then Some place else None) nothing

next_place : (registers : List Datum) (operands : List Operand) (place count : ℕ)
    → found_at registers operands (1 + place) (suc count) ≡ found_at registers (drop 1 operands) place count
next_place registers operands place count = by (nat_lt place count) (same_test (nat_lt (1 + place) (suc count)) (nat_lt place count) refl refl)
  where
    same_test : (one other : Bool) → nat_lt (1 + place) (suc count) ≡ one → nat_lt place count ≡ other → nat_lt (1 + place) (suc count) ≡ nat_lt place count
    same_test true true is was = is ∙ sym was
    same_test false false is was = is ∙ sym was
    same_test true false is was = absurd (let no : place < count = grind (arith, nat_tests) in grind (arith, nat_tests))
    same_test false true is was = absurd (let yes : place < count = grind (arith, nat_tests) in grind (arith, nat_tests))

    by : (b : Bool) → nat_lt (1 + place) (suc count) ≡ nat_lt place count
        → found_at registers operands (1 + place) (suc count) ≡ found_at registers (drop 1 operands) place count
    by b same =
        ap (λ (test : Bool). option_map_or (operand registers operands) (if test then Some (1 + place) else None) nothing) same
        ∙ either (nat_lt place count)
      where
        either : (test : Bool) → option_map_or (operand registers operands) (if test then Some (1 + place) else None) nothing
            ≡ option_map_or (operand registers (drop 1 operands)) (if test then Some place else None) nothing
        either true = let more : 1 + place ≡ suc place = omega arith in ap (operand registers operands) more ∙ operand_next registers operands place
        either false = refl

first_place : (registers : List Datum) (operands : List Operand) (count : ℕ) → found_at registers operands 0 (suc count) ≡ operand registers operands 0
first_place registers operands count = by (nat_lt 0 (suc count)) refl
  where
    by : (b : Bool) → nat_lt 0 (suc count) ≡ b → option_map_or (operand registers operands) (if b then Some 0 else None) nothing ≡ operand registers operands 0
    by true is = refl
    by false is = absurd (let some : 0 < suc count = omega arith in grind (arith, nat_tests))

taken_is : (from : ℕ) (registers : List Datum) (labels : List BlockId) (operands : List Operand)
    → option_map_or (operand registers operands) (position (λ label. label.0 == from) labels) nothing ≡ taken from registers labels operands
taken_is from registers [] operands = refl
taken_is from registers (label ∷ labels) operands = by (label.0 == from) (taken_is from registers labels (drop 1 operands))
  where
    by : (b : Bool) → option_map_or (operand registers (drop 1 operands)) (position (λ each. each.0 == from) labels) nothing ≡ taken from registers labels (drop 1 operands)
        → found_at registers operands (if not b then 1 + prefix_len (λ each. not (each.0 == from)) labels else 0) (suc (length labels))
        ≡ (if b then operand registers operands 0 else taken from registers labels (drop 1 operands))
    by true rest = first_place registers operands (length labels)
    by false rest = next_place registers operands (prefix_len (λ each. not (each.0 == from)) labels) (length labels) ∙ rest

-- ---- the entries that are left

module _ (keeping : Keeping) (from : ℕ) (marked : Marked keeping.blocks from) (registers : List Datum) where
  abbrev K : Kept
  K = numbers keeping

  abbrev now : List Datum
  now = kept_of keeping.values registers

  abbrev marks_of : List BlockId → List Bool
  marks_of labels = map (has_mark K) labels

  abbrev taken_now : List BlockId → List Operand → Datum
  taken_now labels operands =
      taken (marks_before keeping.blocks from) now (map (label_kept K) (kept_of (marks_of labels) labels)) (map (operand_kept K) (kept_of (marks_of labels) operands))

  -- a label that isn't kept is another block's
  not_from : (label : BlockId) → has_mark K label ≡ false → (b : Bool) → (label.0 == from) ≡ b → b ≡ false
  not_from label gone false is = refl
  not_from label gone true is =
      let same : label.0 ≡ from = grind (arith, nat_tests) in
      let there : has_mark K label ≡ true = ap (λ n. slice_index_or keeping.blocks n false) same ∙ get_or_from_slice_get keeping.blocks from true false marked in
      absurd (false≢true (sym gone ∙ there))

  -- labels that are kept differ where their new numbers do
  same_label : (label : BlockId) → has_mark K label ≡ true → (label_kept K label).0 == marks_before keeping.blocks from ≡ (label.0 == from)
  same_label label stays = by ((label_kept K label).0 == marks_before keeping.blocks from) (label.0 == from) refl refl
    where
      there : Marked keeping.blocks label.0
      there = mark_found keeping.blocks label.0 stays

      number : (label_kept K label).0 ≡ marks_before keeping.blocks label.0
      number = number_of_marked keeping.blocks label.0 there

      by : (one other : Bool) → ((label_kept K label).0 == marks_before keeping.blocks from) ≡ one → (label.0 == from) ≡ other → one ≡ other
      by true true is was = refl
      by false false is was = refl
      by true false is was =
          let equal : (label_kept K label).0 ≡ marks_before keeping.blocks from = grind (arith, nat_tests) in
          let same : label.0 ≡ from = before_same keeping.blocks label.0 from there marked (sym number ∙ equal) in
          absurd (grind (arith, nat_tests))
      by false true is was =
          let same : label.0 ≡ from = grind (arith, nat_tests) in
          let equal : (label_kept K label).0 ≡ marks_before keeping.blocks from = number ∙ ap (marks_before keeping.blocks) same in
          absurd (grind (arith, nat_tests))

  abbrev TakenSame : List BlockId → Type 0
  TakenSame labels = (operands : List Operand) → All (OperandStays keeping.values) (kept_of (marks_of labels) operands) → taken_now labels operands ≡ taken from registers labels operands

  taken_same : (labels : List BlockId) (operands : List Operand) → All (OperandStays keeping.values) (kept_of (marks_of labels) operands)
      → taken_now labels operands ≡ taken from registers labels operands
  taken_same [] operands stay = refl
  taken_same (label ∷ labels) operands stay = by (has_mark K label) refl operands stay (λ some stays. taken_same labels some stays)
    where
      kept_first : (operands : List Operand) → All (OperandStays keeping.values) (kept_of (true ∷ marks_of labels) operands)
          → operand now (map (operand_kept K) (kept_of (true ∷ marks_of labels) operands)) 0 ≡ operand registers operands 0
      kept_first [] stay = refl
      kept_first (each ∷ operands) stay = operand_same keeping.values K refl registers (each ∷ kept_of (marks_of labels) operands) 0 stay

      kept_rest : (operands : List Operand) → All (OperandStays keeping.values) (kept_of (true ∷ marks_of labels) operands) → TakenSame labels
          → taken (marks_before keeping.blocks from) now (map (label_kept K) (kept_of (marks_of labels) labels)) (drop 1 (map (operand_kept K) (kept_of (true ∷ marks_of labels) operands)))
          ≡ taken from registers labels (drop 1 operands)
      kept_rest [] stay rest = rest [] stay
      kept_rest (each ∷ operands) stay rest = rest operands (All-tail (OperandStays keeping.values) each (kept_of (marks_of labels) operands) stay)

      gone_rest : (operands : List Operand) → All (OperandStays keeping.values) (kept_of (false ∷ marks_of labels) operands) → TakenSame labels
          → taken (marks_before keeping.blocks from) now (map (label_kept K) (kept_of (marks_of labels) labels)) (map (operand_kept K) (kept_of (false ∷ marks_of labels) operands))
          ≡ taken from registers labels (drop 1 operands)
      gone_rest [] stay rest = rest [] stay
      gone_rest (each ∷ operands) stay rest = rest operands stay

      either : (b : Bool) (operands : List Operand) → All (OperandStays keeping.values) (kept_of (true ∷ marks_of labels) operands) → TakenSame labels
          → (if b then operand now (map (operand_kept K) (kept_of (true ∷ marks_of labels) operands)) 0
          else taken (marks_before keeping.blocks from) now (map (label_kept K) (kept_of (marks_of labels) labels)) (drop 1 (map (operand_kept K) (kept_of (true ∷ marks_of labels) operands))))
          ≡ (if b then operand registers operands 0 else taken from registers labels (drop 1 operands))
      either true operands stay rest = kept_first operands stay
      either false operands stay rest = kept_rest operands stay rest

      by : (mark : Bool) → has_mark K label ≡ mark → (operands : List Operand) → All (OperandStays keeping.values) (kept_of (mark ∷ marks_of labels) operands) → TakenSame labels
          → taken (marks_before keeping.blocks from) now (map (label_kept K) (kept_of (mark ∷ marks_of labels) (label ∷ labels))) (map (operand_kept K) (kept_of (mark ∷ marks_of labels) operands))
          ≡ taken from registers (label ∷ labels) operands
      by true stays operands stay rest = rw (same_label label stays) (either (label.0 == from) operands stay rest)
      by false gone operands stay rest = rw (not_from label gone (label.0 == from) refl) (gone_rest operands stay rest)

  phi_same : (labels : List BlockId) (operands : List Operand) → All (OperandStays keeping.values) (kept_of (marks_of labels) operands)
      → option_map_or (operand now (map (operand_kept K) (kept_of (marks_of labels) operands)))
      (position (λ label. label.0 == marks_before keeping.blocks from) (map (label_kept K) (filter (has_mark K) labels))) nothing
      ≡ option_map_or (operand registers operands) (position (λ label. label.0 == from) labels) nothing
  phi_same labels operands stay =
      ap (λ (left : List BlockId). option_map_or (operand now (map (operand_kept K) (kept_of (marks_of labels) operands)))
      (position (λ label. label.0 == marks_before keeping.blocks from) (map (label_kept K) left)) nothing) (filter_kept (has_mark K) labels)
      ∙ (taken_is (marks_before keeping.blocks from) now (map (label_kept K) (kept_of (marks_of labels) labels)) (map (operand_kept K) (kept_of (marks_of labels) operands))
      ∙ (taken_same labels operands stay ∙ sym (taken_is from registers labels operands)))

  op_same : (op : Op) (labels : List BlockId) (operands : List Operand) → is_phi op ≡ true → All (OperandStays keeping.values) (operands_left K op labels operands)
      → option_map_or (operand now (operands_kept K op labels operands)) (position (λ label. label.0 == marks_before keeping.blocks from) (labels_kept K op labels)) nothing
      ≡ option_map_or (operand registers operands) (position (λ label. label.0 == from) labels) nothing
  op_same Phi labels operands phi stay = phi_same labels operands stay
  op_same op labels operands phi stay = absurd (false≢true phi)

  pub incoming_same : (keepings : ℕ → Keeping) (func : ℕ) (line : Line) → keepings func ≡ keeping → LineStays keepings func line → is_phi line.inst.op ≡ true
      → incoming (marks_before keeping.blocks from) now (line_kept keeping line).inst ≡ incoming from registers line.inst
  incoming_same keepings func line is stays phi =
      op_same line.inst.op line.inst.labels line.inst.operands phi
      (subst (λ (k : Keeping). All (OperandStays k.values) (operands_left (numbers k) line.inst.op line.inst.labels line.inst.operands)) is stays.operands)

-- ---- the phis that stand first in a block

abbrev pub is_phi_line : Line → Bool
is_phi_line line = is_phi line.inst.op

pub before_kept : (keeping : Keeping) (lines : List Line) → before is_phi_line (map (line_kept keeping) lines) ≡ map (line_kept keeping) (before is_phi_line lines)
before_kept keeping [] = refl
before_kept keeping (line ∷ lines) = by (is_phi_line line) (before_kept keeping lines)
  where
    by : (b : Bool) → before is_phi_line (map (line_kept keeping) lines) ≡ map (line_kept keeping) (before is_phi_line lines)
        → (if b then line_kept keeping line ∷ before is_phi_line (map (line_kept keeping) lines) else []) ≡ map (line_kept keeping) (if b then line ∷ before is_phi_line lines else [])
    by true rest = ap (λ more. line_kept keeping line ∷ more) rest
    by false rest = refl

pub behind_kept : (keeping : Keeping) (lines : List Line) → behind is_phi_line (map (line_kept keeping) lines) ≡ map (line_kept keeping) (behind is_phi_line lines)
behind_kept keeping [] = refl
behind_kept keeping (line ∷ lines) = by (is_phi_line line) (behind_kept keeping lines)
  where
    by : (b : Bool) → behind is_phi_line (map (line_kept keeping) lines) ≡ map (line_kept keeping) (behind is_phi_line lines)
        → (if b then behind is_phi_line (map (line_kept keeping) lines) else map (line_kept keeping) (line ∷ lines)) ≡ map (line_kept keeping) (if b then behind is_phi_line lines else line ∷ lines)
    by true rest = rest
    by false rest = refl

module _ (keepings : ℕ → Keeping) (func from : ℕ) (marked : Marked (keepings func).blocks from) (registers : List Datum) where
  abbrev new_from : ℕ
  new_from = marks_before (keepings func).blocks from

  abbrev there : List Datum
  there = kept_of (keepings func).values registers

  abbrev Same : List Line → Type 0
  Same lines = (old : List Datum)
      → put_all (map (phi_write new_from there) (before is_phi_line (map (line_kept (keepings func)) lines))) (kept_of (keepings func).values old)
      ≡ kept_of (keepings func).values (put_all (map (phi_write from registers) (before is_phi_line lines)) old)

  phi_first : (line : Line) (lines : List Line) → LineStays keepings func line → is_phi_line line ≡ true → Same lines → (old : List Datum)
      → put_all (map (phi_write new_from there) (line_kept (keepings func) line ∷ before is_phi_line (map (line_kept (keepings func)) lines))) (kept_of (keepings func).values old)
      ≡ kept_of (keepings func).values (put_all (map (phi_write from registers) (line ∷ before is_phi_line lines)) old)
  phi_first line lines stays phi rest old =
      ap (λ (word : Datum). put_all (map (phi_write new_from there) (before is_phi_line (map (line_kept (keepings func)) lines))) (put (option_map (marks_before (keepings func).values) line.to) word (kept_of (keepings func).values old)))
      (incoming_same (keepings func) from marked registers keepings func line refl stays phi)
      ∙ (ap (put_all (map (phi_write new_from there) (before is_phi_line (map (line_kept (keepings func)) lines))))
      (sym (put_kept (keepings func).values line.to (incoming from registers line.inst) old stays.result))
      ∙ rest (put line.to (incoming from registers line.inst) old))

  -- they take effect together
  pub phis_same : (lines : List Line) → All (LineStays keepings func) lines → Same lines
  phis_same [] stay = λ old. refl
  phis_same (line ∷ lines) stay = by (is_phi_line line) refl (phis_same lines (All-tail (LineStays keepings func) line lines stay))
    where
      by : (b : Bool) → is_phi_line line ≡ b → Same lines → (old : List Datum)
          → put_all (map (phi_write new_from there) (if b then line_kept (keepings func) line ∷ before is_phi_line (map (line_kept (keepings func)) lines) else [])) (kept_of (keepings func).values old)
          ≡ kept_of (keepings func).values (put_all (map (phi_write from registers) (if b then line ∷ before is_phi_line lines else [])) old)
      by true phi rest old = phi_first line lines (All-head (LineStays keepings func) line lines stay) phi rest old
      by false plain rest old = refl
