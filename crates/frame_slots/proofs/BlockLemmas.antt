-- One more block of a function, and one more function of a module.
use Rattle.std.proofs.Common.{◌≡◌, ◌∙◌, ℕ, suc, ◌+◌, ◌<◌, Bool, true, false, cond, List, [], ◌∷◌, ◌++◌, length, get_or, drop, map, refl, ap, sym, arith, append_assoc, length-append}
use Rattle.std.proofs.Math.ListN.{get_or-map}
use Rattle.std.proofs.lemmas.List.{length-map}
use Rattle.list_laws.proofs.Places.{drop_item}
use Rattle.ir_ast.specs.Insts.{Instruction}
use Rattle.ir_ast.specs.Blocks.{BasicBlock, EndsAtTerminator}
use Rattle.ir_ast.specs.Funcs.{Function, LinedFunction, content_of, instructions_of}
use Rattle.frame_forms.specs.BundleWords.{BundleWords, bundles_from, deopt_words, has_bundle}
use Rattle.frame_forms.specs.CodeAddresses.{next_start, returns_from}
use Rattle.frame_forms.specs.ModuleLayouts.{FunctionLayout, laid_at, laid_from}
use Rattle.frame_forms.proofs.ReturnLemmas.{returns_joined}

instructions_at : (blocks : List BasicBlock) (k : ℕ) (block : BasicBlock) → k < length blocks → block ≡ get_or blocks k block
    → instructions_of (drop k blocks) ≡ block.insts ++ instructions_of (drop (k + 1) blocks)
instructions_at blocks k block below is = ap instructions_of (drop_item blocks k block below is)

-- the return offsets of a block, and then those of the others
pub returns_step : (done all : List ℕ) (place : ℕ) (blocks : List BasicBlock) (k : ℕ) (block : BasicBlock) (insts : List Instruction)
    → k < length blocks → block ≡ get_or blocks k block → insts ≡ block.insts → EndsAtTerminator insts
    → done ++ returns_from place (instructions_of (drop k blocks)) ≡ all
    → (done ++ returns_from place insts) ++ returns_from (place + length insts) (instructions_of (drop (k + 1) blocks)) ≡ all
returns_step done all place blocks k block insts below is same ends known =
    append_assoc done (returns_from place insts) (returns_from (place + length insts) (instructions_of (drop (k + 1) blocks)))
    ∙ ap (λ rest. done ++ rest)
    (sym (returns_joined place insts (instructions_of (drop (k + 1) blocks)) ends)
    ∙ ap (returns_from place) (ap (λ first. first ++ instructions_of (drop (k + 1) blocks)) same ∙ sym (instructions_at blocks k block below is)))
    ∙ known

pub length_step : (blocks : List BasicBlock) (k : ℕ) (block : BasicBlock) (insts : List Instruction) → k < length blocks → block ≡ get_or blocks k block
    → insts ≡ block.insts
    → length (instructions_of (drop k blocks)) ≡ length insts + length (instructions_of (drop (k + 1) blocks))
length_step blocks k block insts below is same =
    ap length (instructions_at blocks k block below is ∙ ap (λ first. first ++ instructions_of (drop (k + 1) blocks)) (sym same))
    ∙ length-append insts (instructions_of (drop (k + 1) blocks))

-- what is laid out so far, and then the other functions
pub laid_step : (done new all : List FunctionLayout) (start next : ℕ) (funcs : List LinedFunction) (contents : List Function) (k : ℕ) (func : LinedFunction)
    → map content_of funcs ≡ contents → k < length funcs → func ≡ get_or funcs k func
    → new ≡ done ++ laid_at start func.content ∷ [] → next ≡ next_start start func.content
    → done ++ laid_from start (drop k contents) ≡ all
    → new ++ laid_from next (drop (k + 1) contents) ≡ all
laid_step done new all start next funcs contents k func same below is pushed after known =
    let here : func.content ≡ get_or contents k func.content = ap content_of is ∙ sym (get_or-map content_of funcs k func) ∙ ap (λ xs. get_or xs k func.content) same in
    let within : k < length contents = omega (arith, ap length same, length-map funcs content_of) in
    ap (λ (front : List FunctionLayout). front ++ laid_from next (drop (k + 1) contents)) pushed
    ∙ ap (λ (n : ℕ). (done ++ laid_at start func.content ∷ []) ++ laid_from n (drop (k + 1) contents)) after
    ∙ append_assoc done (laid_at start func.content ∷ []) (laid_from (next_start start func.content) (drop (k + 1) contents))
    ∙ ap (λ (rest : List Function). done ++ laid_from start rest) (sym (drop_item contents k func.content within here))
    ∙ known

-- ---- bundles

bundles_more : (one : Bool) (words : BundleWords) (front back : List BundleWords)
    → cond one (words ∷ (front ++ back)) (front ++ back) ≡ cond one (words ∷ front) front ++ back
bundles_more true words front back = refl
bundles_more false words front back = refl

bundles_joined : (place : ℕ) (block after : List Instruction) → bundles_from place (block ++ after) ≡ bundles_from place block ++ bundles_from (place + length block) after
bundles_joined place [] after = let none : place ≡ place + 0 = omega arith in ap (λ n. bundles_from n after) none
bundles_joined place (inst ∷ block) after =
    let next : place + 1 + length block ≡ place + suc (length block) = omega arith in
    let words : BundleWords = record { place = place; words = deopt_words inst } in
    ap (λ rest. cond (has_bundle inst) (words ∷ rest) rest) (bundles_joined (place + 1) block after ∙ ap (λ n. bundles_from (place + 1) block ++ bundles_from n after) next)
    ∙ bundles_more (has_bundle inst) words (bundles_from (place + 1) block) (bundles_from (place + suc (length block)) after)

-- the bundles of a block, and then those of the others
pub bundles_step : (done new all : List BundleWords) (place : ℕ) (blocks : List BasicBlock) (k : ℕ) (block : BasicBlock) (insts : List Instruction)
    → k < length blocks → block ≡ get_or blocks k block → insts ≡ block.insts → new ≡ done ++ bundles_from place insts
    → done ++ bundles_from place (instructions_of (drop k blocks)) ≡ all
    → new ++ bundles_from (place + length insts) (instructions_of (drop (k + 1) blocks)) ≡ all
bundles_step done new all place blocks k block insts below is same added known =
    let later = bundles_from (place + length insts) (instructions_of (drop (k + 1) blocks)) in
    ap (λ front. front ++ later) added ∙ append_assoc done (bundles_from place insts) later
    ∙ ap (λ rest. done ++ rest)
    (sym (bundles_joined place insts (instructions_of (drop (k + 1) blocks)))
    ∙ ap (bundles_from place) (ap (λ first. first ++ instructions_of (drop (k + 1) blocks)) same ∙ sym (instructions_at blocks k block below is)))
    ∙ known
