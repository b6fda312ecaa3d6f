-- The places of a function's instructions in its text, and that a value has one definition.
use Rattle.std.proofs.Common.{◌≡◌, ℕ, zero, suc, ◌<◌, ◌≤◌, ◌+◌, cond, Bool, true, List, [], ◌∷◌, ◌++◌, length, get_or, take, refl, ap, sym, arith, Some, slice_get, inl, inr, ◌∙◌}
use Rattle.std.specs.List.{filter}
use Rattle.std.specs.Prelude.{is_some}
use Rattle.std.proofs.lemmas.List.{length-append, take_more, take-take, get_or-take, length-take-le, append-nil, take_all}
use Rattle.std.proofs.lemmas.List.Concat.{flat_map-append}
use Rattle.std.proofs.lemmas.List.Folds.{length-flat_map-take}
use Rattle.std.proofs.lemmas.List.Filters.{length-filter_more}
use Rattle.std.proofs.lemmas.List.Sums.{length-filter, sum_by-take-le}
use Rattle.std.proofs.lemmas.Bool.{cases_order}
use Rattle.std.proofs.lemmas.Option.{slice_get_within, get_or_from_slice_get, slice_get_read}
use Rattle.list_laws.proofs.Places.{get_front}
use Rattle.ir_ast.specs.Insts.{Instruction}
use Rattle.ir_ast.specs.Blocks.{BasicBlock}
use Rattle.ir_ast.specs.Funcs.{Function, instructions_of}
use Rattle.ir_cfg.specs.DefiniteUses.{Stands, Defines, text_place}

get_after : {A : Type 0} (xs ys : List A) (k j : ℕ) (y : A) → slice_get ys k ≡ Some y → j ≡ length xs + k → slice_get (xs ++ ys) j ≡ Some y
get_after [] ys k j y is at = let same : j ≡ k = omega arith in rw same is
get_after (x ∷ xs) ys k zero y is at = absurd (omega arith)
get_after (x ∷ xs) ys k (suc j) y is at = get_after xs ys k j y is (omega arith)

text_at : (blocks : List BasicBlock) (number place at : ℕ) (block : BasicBlock) (inst : Instruction) → slice_get blocks number ≡ Some block
    → slice_get block.insts place ≡ Some inst → at ≡ length (instructions_of (take number blocks)) + place
    → slice_get (instructions_of blocks) at ≡ Some inst
text_at [] number place at block inst stands holds is = absurd (cc)
text_at (first ∷ blocks) zero place at block inst stands holds is =
    let same : first ≡ block = cc in
    let there : at ≡ place = omega arith in
    get_front first.insts (instructions_of blocks) at inst (rw (same, there) holds)
text_at (first ∷ blocks) (suc number) place at block inst stands holds is =
    let rest = text_at blocks number place (length (instructions_of (take number blocks)) + place) block inst stands holds refl in
    get_after first.insts (instructions_of blocks) (length (instructions_of (take number blocks)) + place) at inst rest
    (omega (arith, is, length-append first.insts (instructions_of (take number blocks))))

-- what stands in a block stands in the text
pub stands_in_text : (func : Function) (number place : ℕ) (inst : Instruction) → Stands func number place inst
    → slice_get (instructions_of func.blocks) (text_place func number place) ≡ Some inst
stands_in_text func number place inst stands =
    text_at func.blocks number place (text_place func number place) stands.block inst stands.in_function stands.in_block refl

-- the text of a block ends before that of a later one begins
pub starts_later : (blocks : List BasicBlock) (number other : ℕ) (block : BasicBlock) → slice_get blocks number ≡ Some block
    → number < other → other ≤ length blocks
    → length (instructions_of (take number blocks)) + length block.insts ≤ length (instructions_of (take other blocks))
starts_later blocks number other block stands before within =
    let insts : BasicBlock → List Instruction = λ b. b.insts in
    let sum = length-flat_map-take insts (take other blocks) number block (omega (arith, length-take-le other blocks within)) in
    let front = take-take number other blocks (omega arith) in
    let own = get_or-take other blocks number block before ∙ get_or_from_slice_get blocks number block block stands in
    let here : length (instructions_of (take number (take other blocks))) ≡ length (instructions_of (take number blocks)) = ap (λ (xs : List BasicBlock). length (instructions_of xs)) front in
    let long : length (get_or (take other blocks) number block).insts ≡ length block.insts = ap (λ (b : BasicBlock). length b.insts) own in
    omega (arith, sum, here, long)

pub text_next : (func : Function) (number : ℕ) (block : BasicBlock) → slice_get func.blocks number ≡ Some block
    → text_place func (number + 1) 0 ≡ text_place func number 0 + length block.insts
text_next func number block stands =
    let within = slice_get_within func.blocks number block stands in
    let insts : BasicBlock → List Instruction = λ b. b.insts in
    let more = take_more func.blocks number block within in
    let own = get_or_from_slice_get func.blocks number block block stands in
    let split : instructions_of (take (number + 1) func.blocks) ≡ instructions_of (take number func.blocks) ++ block.insts =
    ap (λ (xs : List BasicBlock). instructions_of xs) (more ∙ ap (λ (b : BasicBlock). take number func.blocks ++ b ∷ []) own)
    ∙ flat_map-append insts (take number func.blocks) (block ∷ []) ∙ ap (λ (xs : List Instruction). instructions_of (take number func.blocks) ++ xs) (append-nil block.insts) in
    omega (arith, ap length split, length-append (instructions_of (take number func.blocks)) block.insts)

pub text_within : (func : Function) (number : ℕ) (block : BasicBlock) → slice_get func.blocks number ≡ Some block
    → text_place func number 0 + length block.insts ≤ length (instructions_of func.blocks)
text_within func number block stands =
    let before = slice_get_within func.blocks number block stands in
    let later = starts_later func.blocks number (length func.blocks) block stands before (omega arith) in
    let all : length (instructions_of (take (length func.blocks) func.blocks)) ≡ length (instructions_of func.blocks) =
    ap (λ (xs : List BasicBlock). length (instructions_of xs)) (take_all (length func.blocks) func.blocks (omega arith)) in
    omega (arith, later, all)

pub place_within : (func : Function) (number place : ℕ) (inst : Instruction) → Stands func number place inst
    → text_place func number place < length (instructions_of func.blocks)
place_within func number place inst stands =
    slice_get_within (instructions_of func.blocks) (text_place func number place) inst (stands_in_text func number place inst stands)

-- what a reading of the lists says
pub block_read : (func : Function) (blocks : List BasicBlock) (number : ℕ) (block : BasicBlock) → blocks ≡ func.blocks → number < length blocks
    → block ≡ get_or blocks number block → slice_get func.blocks number ≡ Some block
block_read func blocks number block same below is =
    let stands = slice_get_read blocks (length blocks) number block refl below is in
    ap (λ (xs : List BasicBlock). slice_get xs number) (sym same) ∙ stands

pub stands_read : (func : Function) (blocks : List BasicBlock) (number : ℕ) (block : BasicBlock) (insts : List Instruction) (index : ℕ) (inst : Instruction)
    → blocks ≡ func.blocks → number < length func.blocks → block ≡ get_or blocks number block → insts ≡ block.insts → index < length insts
    → inst ≡ get_or insts index inst → Stands func number index inst
stands_read func blocks number block insts index inst same below is own within read = record {
  block = block;
  in_function = block_read func blocks number block same (omega (arith, below, ap length same)) is;
  in_block = ap (λ (xs : List Instruction). slice_get xs index) (sym own) ∙ slice_get_read insts (length insts) index inst refl within read;
}

text_below : (func : Function) (number place other there : ℕ) (inst inst' : Instruction) → Stands func number place inst → Stands func other there inst'
    → number < other → text_place func number place < text_place func other there
text_below func number place other there inst inst' stands stands' before =
    let within = slice_get_within stands.block.insts place inst stands.in_block in
    let inside = slice_get_within func.blocks other stands'.block stands'.in_function in
    let start = starts_later func.blocks number other stands.block stands.in_function before (omega arith) in
    omega (arith, within, start)

-- a place of the text is one place of one block
pub one_block : (func : Function) (number place other there : ℕ) (inst inst' : Instruction) → Stands func number place inst
    → Stands func other there inst' → text_place func number place ≡ text_place func other there → number ≡ other
one_block func number place other there inst inst' stands stands' same =
    elim (cases_order number other) [
      | inl e ↦ e
      | inr apart ↦ elim apart [
        | inl before ↦ absurd (omega (arith, same, text_below func number place other there inst inst' stands stands' before))
        | inr after ↦ absurd (omega (arith, same, text_below func other there number place inst' inst stands' stands after))
      ]
    ]

pub one_place : (func : Function) (number place other there : ℕ) → number ≡ other → text_place func number place ≡ text_place func other there
    → place ≡ there
one_place func number place other there same text =
    let start : length (instructions_of (take number func.blocks)) ≡ length (instructions_of (take other func.blocks)) = ap (λ n. length (instructions_of (take n func.blocks))) same in
    omega (arith, text, start)

abbrev named : Instruction → Bool
named inst = is_some inst.result

-- how many results stand before a place grows by one at a result
results_grow : (insts : List Instruction) (at later : ℕ) (inst : Instruction) → slice_get insts at ≡ Some inst → is_some inst.result ≡ true
    → at < later → length (filter named (take at insts)) + 1 ≤ length (filter named (take later insts))
results_grow insts at later inst stands result before =
    let within = slice_get_within insts at inst stands in
    let more = length-filter_more named insts at inst within in
    let own : ◌≡◌ {A = ℕ} (cond (named (get_or insts at inst)) 1 0) 1 = ap (λ (i : Instruction). cond (named i) 1 0) (get_or_from_slice_get insts at inst inst stands) ∙ ap (λ b. cond b 1 0) result in
    let front : take (at + 1) (take later insts) ≡ take (at + 1) insts = take-take (at + 1) later insts (omega arith) in
    let count = sum_by-take-le (λ (i : Instruction). cond (named i) 1 0) (take later insts) (at + 1) in
    let short = length-filter named (take (at + 1) (take later insts)) in
    let long = length-filter named (take later insts) in
    let same : length (filter named (take (at + 1) (take later insts))) ≡ length (filter named (take (at + 1) insts)) = ap (λ (xs : List Instruction). length (filter named xs)) front in
    omega (arith, more, own, count, short, long, same)

one_text : (func : Function) (value number place other there : ℕ) → Defines func value number place → Defines func value other there
    → text_place func number place ≡ text_place func other there
one_text func value number place other there first second =
    elim (cases_order (text_place func number place) (text_place func other there)) [
      | inl e ↦ e
      | inr apart ↦ elim apart [
        | inl before ↦ absurd (omega (
          arith,
          first.numbered,
          second.numbered,
          results_grow (instructions_of func.blocks) (text_place func number place) (text_place func other there) first.inst
              (stands_in_text func number place first.inst first.stands) first.named before,
        ))
        | inr after ↦ absurd (omega (
          arith,
          first.numbered,
          second.numbered,
          results_grow (instructions_of func.blocks) (text_place func other there) (text_place func number place) second.inst
              (stands_in_text func other there second.inst second.stands) second.named after,
        ))
      ]
    ]

-- a value has one definition
pub one_home : (func : Function) (value number place other there : ℕ) → Defines func value number place → Defines func value other there
    → number ≡ other
one_home func value number place other there first second =
    one_block func number place other there first.inst second.inst first.stands second.stands (one_text func value number place other there first second)

pub one_definition : (func : Function) (value number place other there : ℕ) → Defines func value number place → Defines func value other there
    → place ≡ there
one_definition func value number place other there first second =
    one_place func number place other there (one_home func value number place other there first second) (one_text func value number place other there first second)
