-- The group of a statepoint in its block and in its function: a block ends at a terminator, so no group crosses its end.
use Rattle.std.proofs.Common.{◌≡◌, ◌∙◌, ℕ, suc, ◌+◌, ◌<◌, ◌≤◌, inl, inr, Bool, true, false, cond, List, [], ◌∷◌, ◌++◌, length, drop, take, refl, ap, sym, subst, arith, length-append, length-drop, Some, slice_get}
use Rattle.std.proofs.lemmas.Grind.{flat_map-append}
use Rattle.std.proofs.lemmas.List.{drop-append-le, take-append-le}
use Rattle.std.proofs.lemmas.List.Sums.{prefix_len-le-length}
use Rattle.std.proofs.lemmas.Option.{slice_get_within}
use Rattle.std.proofs.Math.Seq.{drop-append-add}
use Rattle.list_laws.proofs.Places.{get_front, get_past, get_pushed, split_at}
use Rattle.ir_ast.specs.declared.ops.Op.{Op}
use Rattle.ir_ast.specs.declared.ops.Op.TheVariants.{Statepoint}
use Rattle.ir_ast.specs.Blocks.{BasicBlock, EndsAtTerminator}
use Rattle.ir_ast.specs.Faults.GroupShape.{is_statepoint}
use Rattle.ir_ast.specs.Funcs.{instructions_of}
use Rattle.ir_ast.specs.Insts.{Instruction}
use Rattle.ir_ast.specs.Ops.{is_terminator}
use Rattle.ir_ast.proofs.OpLaws.{end_member}
use Rattle.object_meaning.specs.Frames.{is_member}
use Rattle.frame_forms.specs.Groups.{group_size}
use Rattle.frame_forms.proofs.ReturnLemmas.{group_stops}
use Rattle.runs_unseen.proofs.records_found.LineLaws.{run_of}

ends_no_block : (op : Op) → is_statepoint op ≡ true → is_terminator op ≡ true → ⊥
ends_no_block (Statepoint id callee types) is ends = cc
ends_no_block _ is ends = cc

pub size_is : (op : Op) (rest : List Instruction) → is_statepoint op ≡ true → group_size op rest ≡ run_of rest
size_is (Statepoint id callee types) rest is = refl
size_is _ rest is = cc

run_short : (before : List Instruction) (last : Instruction) → is_member last.op ≡ false → run_of (before ++ last ∷ []) < length (before ++ last ∷ [])
run_short [] last other = rw other (omega arith)
run_short (inst ∷ before) last other = by (is_member inst.op) (run_short before last other)
  where
    by : (b : Bool) → run_of (before ++ last ∷ []) < length (before ++ last ∷ []) → cond b (1 + run_of (before ++ last ∷ [])) 0 < suc (length (before ++ last ∷ []))
    by true more = omega arith
    by false more = omega arith

run_stops : (op : Op) → is_statepoint op ≡ true → (before : List Instruction) (last : Instruction) (after : List Instruction) → is_terminator last.op ≡ true
    → run_of ((before ++ last ∷ []) ++ after) ≡ run_of (before ++ last ∷ [])
run_stops op is before last after ends =
    sym (size_is op ((before ++ last ∷ []) ++ after) is) ∙ (group_stops op before last after ends ∙ size_is op (before ++ last ∷ []) is)

module _ (blocks : List BasicBlock) (block : ℕ) (own : BasicBlock) (found : slice_get blocks block ≡ Some own) (place : ℕ) (inst : Instruction)
    (stands : slice_get own.insts place ≡ Some inst) where
  abbrev front : List Instruction
  front = instructions_of (take block blocks)

  abbrev later : List Instruction
  later = instructions_of (drop (block + 1) blocks)

  whole : instructions_of blocks ≡ front ++ (own.insts ++ later)
  whole = ap instructions_of (split_at blocks block own found) ∙ flat_map-append (λ (b : BasicBlock). b.insts) (take block blocks) (own ∷ drop (block + 1) blocks)

  -- the place in the function
  pub text_stands : slice_get (instructions_of blocks) (length (instructions_of (take block blocks)) + place) ≡ Some inst
  text_stands =
      ap (λ (insts : List Instruction). slice_get insts (length front + place)) whole
      ∙ (get_past front (own.insts ++ later) place ∙ get_front own.insts later place inst stands)

  behind : drop (suc (length (instructions_of (take block blocks)) + place)) (instructions_of blocks) ≡ drop (suc place) own.insts ++ later
  behind =
      let within : place < length own.insts = slice_get_within own.insts place inst stands in
      let next : suc (length front + place) ≡ length front + suc place = omega arith in
      ap (λ n. drop n (instructions_of blocks)) next
      ∙ (ap (drop (length front + suc place)) whole
      ∙ (drop-append-add front (own.insts ++ later) (suc place) ∙ drop-append-le (suc place) own.insts later (omega arith)))

  module _ (ended : EndsAtTerminator own.insts) (is : is_statepoint inst.op ≡ true) where
    inside : place < length ended.before
    inside =
        elim (get_pushed ended.before ended.last place inst (sym (ap (λ (insts : List Instruction). slice_get insts place) ended.whole) ∙ stands)) [
          | inl at ↦ slice_get_within ended.before place inst at
          | inr same ↦ absurd (ends_no_block inst.op is (ap (λ (i : Instruction). is_terminator i.op) same ∙ ended.ends))
        ]

    own_rest : drop (suc place) own.insts ≡ drop (suc place) ended.before ++ ended.last ∷ []
    own_rest = ap (drop (suc place)) ended.whole ∙ drop-append-le (suc place) ended.before (ended.last ∷ []) (omega (arith, inside))

    -- an instruction of the function stands behind the group
    pub behind_inside : length (instructions_of (take block blocks)) + (suc place + run_of (drop (suc place) own.insts)) < length (instructions_of blocks)
    behind_inside =
        let short : run_of (drop (suc place) own.insts) < length (drop (suc place) own.insts) =
        subst (λ (rest : List Instruction). run_of rest < length rest) (sym own_rest) (run_short (drop (suc place) ended.before) ended.last (end_member ended.last.op ended.ends)) in
        let rest = length-drop (suc place) own.insts in
        let all = ap length whole ∙ (length-append front (own.insts ++ later) ∙ ap (λ (n : ℕ). length front + n) (length-append own.insts later)) in
        omega (arith, short, rest, all)

    -- the group in the function is that in the block
    pub text_group : run_of (drop (suc (length (instructions_of (take block blocks)) + place)) (instructions_of blocks)) ≡ run_of (drop (suc place) own.insts)
    text_group =
        ap run_of (behind ∙ ap (λ (rest : List Instruction). rest ++ later) own_rest)
        ∙ (run_stops inst.op is (drop (suc place) ended.before) ended.last later ended.ends ∙ sym (ap run_of own_rest))

    pub text_members : take (run_of (drop (suc (length (instructions_of (take block blocks)) + place)) (instructions_of blocks)))
        (drop (suc (length (instructions_of (take block blocks)) + place)) (instructions_of blocks))
        ≡ take (run_of (drop (suc place) own.insts)) (drop (suc place) own.insts)
    text_members =
        let few : run_of (drop (suc place) own.insts) ≤ length (drop (suc place) own.insts) = prefix_len-le-length (λ (i : Instruction). is_member i.op) (drop (suc place) own.insts) in
        ap (λ n. take n (drop (suc (length (instructions_of (take block blocks)) + place)) (instructions_of blocks))) text_group
        ∙ (ap (take (run_of (drop (suc place) own.insts))) behind
        ∙ take-append-le (run_of (drop (suc place) own.insts)) (drop (suc place) own.insts) later few)
