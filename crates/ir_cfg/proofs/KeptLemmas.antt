-- What is kept of lists and of blocks.
use Rattle.std.proofs.Common.{◌≡◌, ℕ, zero, suc, ◌<◌, ◌≤◌, ◌+◌, Bool, true, false, not, if◌then◌else◌, List, [], ◌∷◌, ◌++◌, length, get_or, take, map, refl, ap, sym, arith, add-one, append-nil, append_assoc, replicate, is_some, ◌∙◌}
use Rattle.std.specs.List.{All, list_all}
use Rattle.std.proofs.lemmas.List.{map-append, length-append, length-replicate, length-map}
use Rattle.std.proofs.lemmas.List.Sums.{length-filter, count_by-le-length}
use Rattle.ir_ast.specs.declared.funcs.Arg.{Arg}
use Rattle.ir_ast.specs.declared.types.Ty.{Ty}
use Rattle.ir_ast.specs.Funcs.{Function, instructions_of, IsSmall}
use Rattle.ir_ast.specs.Modules.{ModuleContent}
use Rattle.ir_ast.specs.Formed.{IsFormed}
use Rattle.ir_ast.specs.declared.modules.Form.TheVariants.{Source}
use Rattle.ir_cfg.specs.SourceModules.{IsSourceModule}
use Rattle.ir_ast.specs.Insts.{Instruction}
use Rattle.ir_ast.specs.Ops.{is_terminator}
use Rattle.ir_ast.specs.Blocks.{BasicBlock, EndsAtTerminator}
use Rattle.ir_cfg.specs.Unreached.{Kept, kept_of, inst_kept, block_kept, result_count, result_marks, value_marks, kept_by, function_kept}
use Rattle.ir_cfg.proofs.TypedLemmas.{formed_module}
use Rattle.list_laws.proofs.Contents.{all_under}

kept_next : {A : Type 0} (marks : List Bool) (xs : List A) (place : ℕ) (x : A) → place < length xs
    → kept_of marks (take (suc place) xs) ≡ kept_of marks (take place xs) ++ (if get_or marks place false then get_or xs place x ∷ [] else [])
kept_next marks [] place x within = absurd (omega arith)
kept_next [] (y ∷ xs) zero x within = refl
kept_next [] (y ∷ xs) (suc place) x within = refl
kept_next (true ∷ marks) (y ∷ xs) zero x within = refl
kept_next (false ∷ marks) (y ∷ xs) zero x within = refl
kept_next (true ∷ marks) (y ∷ xs) (suc place) x within = ap (λ zs. y ∷ zs) (kept_next marks xs place x (omega arith))
kept_next (false ∷ marks) (y ∷ xs) (suc place) x within = kept_next marks xs place x (omega arith)

-- one element more
pub kept_more : {A : Type 0} (marks : List Bool) (xs : List A) (place : ℕ) (x : A) → place < length xs
    → kept_of marks (take (place + 1) xs) ≡ kept_of marks (take place xs) ++ (if get_or marks place false then get_or xs place x ∷ [] else [])
kept_more marks xs place x within = rw add-one (kept_next marks xs place x within)

pub map_kept : {A B : Type 0} (f : A → B) (marks : List Bool) (xs : List A) (place : ℕ) (x : A) → place < length xs
    → true ≡ get_or marks place false
    → map f (kept_of marks (take (place + 1) xs)) ≡ map f (kept_of marks (take place xs)) ++ f (get_or xs place x) ∷ []
map_kept f marks xs place x within is =
    rw (kept_more marks xs place x within, ← is) (map-append f (kept_of marks (take place xs)) (get_or xs place x ∷ []))

pub map_left : {A B : Type 0} (f : A → B) (marks : List Bool) (xs : List A) (place : ℕ) (x : A) → place < length xs
    → false ≡ get_or marks place false
    → map f (kept_of marks (take (place + 1) xs)) ≡ map f (kept_of marks (take place xs))
map_left f marks xs place x within is =
    rw (kept_more marks xs place x within, ← is, append-nil (kept_of marks (take place xs))) refl

none_ends : (kept : Kept) (insts : List Instruction) → list_all (λ inst. not (is_terminator inst.op)) insts ≡ true
    → list_all (λ inst. not (is_terminator inst.op)) (map (inst_kept kept) insts) ≡ true
none_ends kept [] none = none
none_ends kept (inst ∷ insts) none =
    let first : not (is_terminator inst.op) ≡ true = grind arith in
    let rest = none_ends kept insts (grind arith) in
    grind (arith, first, rest)

pub ends_kept : (kept : Kept) (insts : List Instruction) → EndsAtTerminator insts → EndsAtTerminator (map (inst_kept kept) insts)
ends_kept kept insts ended = record {
  before = map (inst_kept kept) ended.before;
  last = inst_kept kept ended.last;
  whole = ap (map (inst_kept kept)) ended.whole ∙ map-append (inst_kept kept) ended.before (ended.last ∷ []);
  ends = ended.ends;
  inside = none_ends kept ended.before ended.inside;
}

kept_at_end : {A : Type 0} (marks : List Bool) (xs : List A) (x : A)
    → kept_of marks (xs ++ x ∷ []) ≡ kept_of marks xs ++ (if get_or marks (length xs) false then x ∷ [] else [])
kept_at_end [] [] x = refl
kept_at_end (true ∷ marks) [] x = refl
kept_at_end (false ∷ marks) [] x = refl
kept_at_end [] (y ∷ xs) x = refl
kept_at_end (true ∷ marks) (y ∷ xs) x = ap (λ zs. y ∷ zs) (kept_at_end marks xs x)
kept_at_end (false ∷ marks) (y ∷ xs) x = kept_at_end marks xs x

pub map_kept_end : {A B : Type 0} (f : A → B) (marks : List Bool) (xs : List A) (x : A) → true ≡ get_or marks (length xs) false
    → map f (kept_of marks (xs ++ x ∷ [])) ≡ map f (kept_of marks xs) ++ f x ∷ []
map_kept_end f marks xs x is = rw (kept_at_end marks xs x, ← is) (map-append f (kept_of marks xs) (x ∷ []))

pub map_left_end : {A B : Type 0} (f : A → B) (marks : List Bool) (xs : List A) (x : A) → false ≡ get_or marks (length xs) false
    → map f (kept_of marks (xs ++ x ∷ [])) ≡ map f (kept_of marks xs)
map_left_end f marks xs x is = rw (kept_at_end marks xs x, ← is, append-nil (kept_of marks xs)) refl

end_by : {A B : Type 0} (f : A → B) (marks : List Bool) (xs : List A) (x : A) (mark : Bool) → mark ≡ get_or marks (length xs) false
    → map f (kept_of marks (xs ++ x ∷ [])) ≡ map f (kept_of marks xs) ++ (if mark then f x ∷ [] else [])
end_by f marks xs x true is = map_kept_end f marks xs x is
end_by f marks xs x false is = map_left_end f marks xs x is ∙ sym (append-nil (map f (kept_of marks xs)))

-- one block more, at its place
pub kept_end : {A B : Type 0} (f : A → B) (marks : List Bool) (xs : List A) (x : A) (place : ℕ) → place ≡ length xs
    → map f (kept_of marks (xs ++ x ∷ [])) ≡ map f (kept_of marks xs) ++ (if get_or marks place false then f x ∷ [] else [])
kept_end f marks xs x place same = rw same (end_by f marks xs x (get_or marks (length xs) false) refl)

results_next : (marks : List Bool) (blocks : List BasicBlock) (place : ℕ) (block : BasicBlock) → place < length blocks
    → result_marks marks (take (suc place) blocks)
    ≡ result_marks marks (take place blocks) ++ replicate (result_count (get_or blocks place block)) (get_or marks place false)
results_next marks [] place block within = absurd (omega arith)
results_next [] (b ∷ blocks) zero block within = append-nil _
results_next (mark ∷ marks) (b ∷ blocks) zero block within = append-nil _
results_next [] (b ∷ blocks) (suc place) block within =
    ap (λ zs. replicate (result_count b) false ++ zs) (results_next [] blocks place block (omega arith))
    ∙ sym (append_assoc (replicate (result_count b) false) (result_marks [] (take place blocks)) _)
results_next (mark ∷ marks) (b ∷ blocks) (suc place) block within =
    ap (λ zs. replicate (result_count b) mark ++ zs) (results_next marks blocks place block (omega arith))
    ∙ sym (append_assoc (replicate (result_count b) mark) (result_marks marks (take place blocks)) _)

-- the results of one block more
pub results_more : (marks : List Bool) (blocks : List BasicBlock) (place : ℕ) (block : BasicBlock) → place < length blocks
    → result_marks marks (take (place + 1) blocks)
    ≡ result_marks marks (take place blocks) ++ replicate (result_count (get_or blocks place block)) (get_or marks place false)
results_more marks blocks place block within = rw add-one (results_next marks blocks place block within)

few_in_block : (block : BasicBlock) → result_count block ≤ length block.insts
few_in_block block = omega (arith, length-filter (λ (inst : Instruction). is_some inst.result) block.insts, count_by-le-length (λ (inst : Instruction). is_some inst.result) block.insts)

pub few_results : (marks : List Bool) (blocks : List BasicBlock) → length (result_marks marks blocks) ≤ length (instructions_of blocks)
few_results marks [] = omega arith
few_results [] (block ∷ blocks) =
    omega (
      arith,
      few_results [] blocks,
      few_in_block block,
      length-append (replicate (result_count block) false) (result_marks [] blocks),
      length-replicate (result_count block) false,
      length-append block.insts (instructions_of blocks),
    )
few_results (mark ∷ marks) (block ∷ blocks) =
    omega (
      arith,
      few_results marks blocks,
      few_in_block block,
      length-append (replicate (result_count block) mark) (result_marks marks blocks),
      length-replicate (result_count block) mark,
      length-append block.insts (instructions_of blocks),
    )

few_kept : {A : Type 0} (marks : List Bool) (xs : List A) → length (kept_of marks xs) ≤ length xs
few_kept marks [] = omega arith
few_kept [] (x ∷ xs) = omega arith
few_kept (true ∷ marks) (x ∷ xs) = let rest = few_kept marks xs in omega arith
few_kept (false ∷ marks) (x ∷ xs) = let rest = few_kept marks xs in omega arith

pub few_instructions : (kept : Kept) (marks : List Bool) (blocks : List BasicBlock)
    → length (instructions_of (map (block_kept kept) (kept_of marks blocks))) ≤ length (instructions_of blocks)
few_instructions kept marks [] = omega arith
few_instructions kept [] (block ∷ blocks) = omega arith
few_instructions kept (true ∷ marks) (block ∷ blocks) =
    omega (
      arith,
      few_instructions kept marks blocks,
      length-append block.insts (instructions_of blocks),
      length-map block.insts (inst_kept kept),
      length-append (map (inst_kept kept) block.insts) (instructions_of (map (block_kept kept) (kept_of marks blocks))),
    )
few_instructions kept (false ∷ marks) (block ∷ blocks) =
    omega (arith, few_instructions kept marks blocks, length-append block.insts (instructions_of blocks))

-- fewer blocks make no function large
pub small_kept : (args : List Arg) (kept : Kept) (marks : List Bool) (blocks : List BasicBlock) → IsSmall args blocks
    → IsSmall args (map (block_kept kept) (kept_of marks blocks))
small_kept args kept marks blocks small = record {
  few_arguments = small.few_arguments;
  few_blocks = omega (arith, small.few_blocks, few_kept marks blocks, length-map (kept_of marks blocks) (block_kept kept));
  few_instructions = omega (arith, small.few_instructions, few_instructions kept marks blocks);
}

-- the functions of a source module are formed
pub formed_funcs : {A : Type 0} (f : A → Function) (funcs : List A) (content : ModuleContent) → map f funcs ≡ content.funcs
    → IsSourceModule content → All (λ func. IsFormed (f func)) funcs
formed_funcs f funcs content same source = all_under f IsFormed funcs (rw same (formed_module Source content source.typed).formed)

pub blocks_left : (func : Function) (marks : List Bool) (kept : Kept) (old new : List BasicBlock) → kept ≡ kept_by marks func
    → old ≡ func.blocks → new ≡ map (block_kept kept) (kept_of kept.marks old) → new ≡ (function_kept marks func).blocks
blocks_left func marks kept old new numbers blocks is = rw (is, numbers, blocks) refl

pub function_left : (func : Function) (marks : List Bool) (name : List ℕ) (answer : Ty) (args : List Arg) (blocks : List BasicBlock)
    → name ≡ func.name → answer ≡ func.answer → args ≡ func.args → blocks ≡ (function_kept marks func).blocks
    → (let made : Function = record { name = name; answer = answer; args = args; blocks = blocks } in made) ≡ function_kept marks func
function_left func marks name answer args blocks same_name same_answer same_args same_blocks =
    rw (same_name, same_answer, same_args, same_blocks) refl

pub numbers_left : (func : Function) (marks values : List Bool) (count : ℕ) (blocks : List BasicBlock) → count ≡ length func.args
    → blocks ≡ func.blocks → values ≡ replicate count true ++ result_marks marks blocks → values ≡ value_marks marks func
numbers_left func marks values count blocks same_count same_blocks is = rw (is, same_count, same_blocks) refl
