-- Relocates that stand in a row name one token, so at most 16,384 do.
use Rattle.std.proofs.Common.{◌≡◌, refl, ap, sym, ◌∙◌, subst, inl, inr, ℕ, ◌+◌, ◌<◌, ◌≤◌, ◌&&◌, Bool, true, false, cond, List, [], ◌∷◌, ◌++◌, length, arith, append_assoc, length-append}
use Rattle.std.specs.Prelude.{Option, Some, None, IfSome, slice_get, filter, ◌⊎◌}
use Rattle.std.specs.List.{AllByRecursion}
use Rattle.std.proofs.lemmas.Bool.{cases_order}
use Rattle.std.proofs.lemmas.Bool.Decides.{Decides-eqb}
use Rattle.std.proofs.lemmas.List.Elements.{filter-append}
use Rattle.std.proofs.lemmas.Option.{same_Some}
use Rattle.ir_ast.specs.declared.types.Ty.TheVariants.{Void}
use Rattle.ir_ast.specs.declared.ops.Op.{Op}
use Rattle.ir_ast.specs.declared.ops.Op.TheVariants as ops
use Rattle.ir_ast.specs.declared.ops.Operand.{Operand}
use Rattle.ir_ast.specs.declared.ops.Operand.TheVariants as operands
use Rattle.ir_ast.specs.Insts.{Instruction}
use Rattle.ir_ast.specs.Blocks.{BasicBlock}
use Rattle.ir_ast.specs.Funcs.{Function, instructions_of}
use Rattle.ir_ast.specs.Faults.GroupShape.{Group, ShapeOf, GroupsInShape, is_statepoint, is_part}
use Rattle.ir_cfg.specs.Statepoints.{is_relocate, StatepointsAreSmall}
use Rattle.list_laws.proofs.Places.{get_middle as get_behind}
use Rattle.read_back.proofs.Blocks.{run, RunsFit}

-- how many relocates of the token there are
abbrev count : ℕ → List Instruction → ℕ
count token insts = length (filter (λ inst. is_relocate inst.op && is_part token inst) insts)

count-append : (token : ℕ) (before after : List Instruction) → count token (before ++ after) ≡ count token before + count token after
count-append token before after =
    let test : Instruction → Bool = λ inst. is_relocate inst.op && is_part token inst in
    ap length (filter-append test before after) ∙ length-append (filter test before) (filter test after)

count-one : (token : ℕ) (inst : Instruction) → is_relocate inst.op ≡ true → is_part token inst ≡ true → count token (inst ∷ []) ≡ 1
count-one token inst op part =
    ap (λ (b : Bool). length (cond (b && is_part token inst) (inst ∷ []) [])) op ∙ ap (λ (b : Bool). length (cond b (inst ∷ []) [])) part

-- an instruction of these parts names the token
abbrev part : ℕ → Op → List Operand → Bool
part token op os = is_part token (record { result = None; op = op; ty = Void; operands = os; labels = []; bundle = [] })

one_token : (a b : ℕ) (op : Op) (os : List Operand) → is_relocate op ≡ true → part a op os ≡ true → part b op os ≡ true → a ≡ b
one_token a b ops.GcRelocate (operands.Value value ∷ os) is one other = sym ((Decides-eqb value.0 a).0 one) ∙ (Decides-eqb value.0 b).0 other
one_token a b ops.GcRelocate _ is one other = absurd (let bad : false ≡ true = one in cc)
one_token a b _ os is one other = absurd (let bad : false ≡ true = is in cc)

no_statepoint : (op : Op) → is_relocate op ≡ true → is_statepoint op ≡ true → ⊥
no_statepoint ops.GcRelocate is other = let bad : false ≡ true = other in cc
no_statepoint _ is other = let bad : false ≡ true = is in cc

-- so many relocates in a row end here, all of one token
record Row (before : List Instruction) (r : ℕ) : Type 0 where
  front : List Instruction
  last : Instruction
  whole : before ≡ front ++ last ∷ []
  op : is_relocate last.op ≡ true
  token : ℕ
  names : is_part token last ≡ true
  few : r ≤ count token before

-- a relocate behind a row has the row's token
same_token : (func : Function) (before : List Instruction) (inst : Instruction) (after : List Instruction) → instructions_of func.blocks ≡ before ++ inst ∷ after
    → (token r : ℕ) → Group func token (length before) → (row : Row before r) → row.token ≡ token
same_token func before inst after whole token r group row = by (cases_order (length row.front) group.head)
  where
    there : slice_get (instructions_of func.blocks) (length row.front) ≡ Some row.last
    there =
        ap (λ (is : List Instruction). slice_get is (length row.front)) (whole ∙ ap (λ (b : List Instruction). b ++ inst ∷ after) row.whole ∙ append_assoc row.front (row.last ∷ []) (inst ∷ after))
        ∙ get_behind row.front row.last (inst ∷ after)

    place : length before ≡ length row.front + 1
    place = ap length row.whole ∙ length-append row.front (row.last ∷ [])

    by : (length row.front ≡ group.head) ⊎ ((length row.front < group.head) ⊎ (group.head < length row.front)) → row.token ≡ token
    by (inl here) =
        let same : row.last ≡ group.statepoint = same_Some row.last group.statepoint (sym there ∙ ap (slice_get (instructions_of func.blocks)) here ∙ group.stands) in
        absurd (no_statepoint row.last.op row.op (ap (λ (i : Instruction). is_statepoint i.op) same ∙ group.op))
    by (inr (inl later)) = absurd (omega (arith, place, group.before))
    by (inr (inr earlier)) =
        one_token row.token token row.last.op row.last.operands row.op row.names
        (subst (λ (o : Option Instruction). IfSome o (λ i. is_part token i ≡ true)) there (group.between (length row.front) earlier (omega (arith, place))))

-- behind these instructions so many relocates stand in a row
abbrev Ends : List Instruction → ℕ → Type 0
Ends before r = (r ≡ 0) ⊎ Row before r

module _ (func : Function) (shapes : GroupsInShape func) (small : StatepointsAreSmall func) where
  step : (before : List Instruction) (inst : Instruction) (after : List Instruction) → instructions_of func.blocks ≡ before ++ inst ∷ after
      → (r : ℕ) → Ends before r → (run inst.op r ≤ 16384) × Ends (before ++ inst ∷ []) (run inst.op r)
  step before inst after whole r ends =
      by inst.op refl (shapes (length before) inst (ap (λ (is : List Instruction). slice_get is (length before)) whole ∙ get_behind before inst after))
    where
      by : (op : Op) → inst.op ≡ op → ShapeOf func (length before) inst op → (run op r ≤ 16384) × Ends (before ++ inst ∷ []) (run op r)
      by ops.GcRelocate is shape = (omega (arith, so_far, within, all), inr (record { front = before; last = inst; whole = refl; op = relocate; token = token; names = names; few = so_far }))
        where
          token : ℕ
          token = shape.token.0

          relocate : is_relocate inst.op ≡ true
          relocate = ap is_relocate is

          names : is_part token inst ≡ true
          names = ap (λ (o : Op). part token o inst.operands) is ∙ ap (part token ops.GcRelocate) shape.operands ∙ (Decides-eqb token token).1 refl

          row : Ends before r → r ≤ count token before
          row (inl none) = omega arith
          row (inr more) = subst (λ (t : ℕ). r ≤ count t before) (same_token func before inst after whole token r shape.group more) more.few

          one : count token (inst ∷ []) ≡ 1
          one = count-one token inst relocate names

          so_far : r + 1 ≤ count token (before ++ inst ∷ [])
          so_far = let had = row ends in omega (arith, count-append token before (inst ∷ []), one)

          all : count token (instructions_of func.blocks) ≤ 16384
          all = subst (λ (t : ℕ). count t (instructions_of func.blocks) ≤ 16384) shape.group.gives (small shape.group.head shape.group.statepoint shape.group.stands shape.group.op).1

          within : count token (before ++ inst ∷ []) ≤ count token (instructions_of func.blocks)
          within = omega (arith, ap (count token) whole, count-append token before (inst ∷ after), count-append token before (inst ∷ []), count-append token (inst ∷ []) after)
      by _ is shape = (omega arith, inl refl)

  runs : (insts before after : List Instruction) → instructions_of func.blocks ≡ before ++ (insts ++ after) → (r : ℕ) → Ends before r → RunsFit r insts
  runs [] before after whole r ends = tt
  runs (inst ∷ insts) before after whole r ends =
      let here = step before inst (insts ++ after) whole r ends in
      (here.0, runs insts (before ++ inst ∷ []) after (whole ∙ sym (append_assoc before (inst ∷ []) (insts ++ after))) (run inst.op r) here.1)

  block_runs : (blocks : List BasicBlock) (before : List Instruction) → instructions_of func.blocks ≡ before ++ instructions_of blocks → AllByRecursion (λ block. RunsFit 0 block.insts) blocks
  block_runs [] before whole = tt
  block_runs (block ∷ blocks) before whole = (
    runs block.insts before (instructions_of blocks) whole 0 (inl refl),
    block_runs blocks (before ++ block.insts) (whole ∙ sym (append_assoc before block.insts (instructions_of blocks))),
  )

  pub runs_fit : AllByRecursion (λ block. RunsFit 0 block.insts) func.blocks
  runs_fit = block_runs func.blocks [] refl
