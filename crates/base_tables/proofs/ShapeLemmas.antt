-- The kinds of a function's values.
use Rattle.std.proofs.Common.{◌≡◌, ◌∙◌, ℕ, ◌<◌, ◌+◌, List, [], ◌∷◌, ◌++◌, length, get_or, take, is_some, refl, ap, sym, append-nil, append_assoc}
use Rattle.std.specs.Prelude.{map}
use Rattle.std.specs.List.{filter}
use Rattle.std.proofs.Math.Seq.{take-length}
use Rattle.std.proofs.lemmas.List.{map-append, take_more}
use Rattle.std.proofs.lemmas.List.Elements.{filter-append}
use Rattle.std.proofs.lemmas.Grind.{flat_map-append}
use Rattle.ir_ast.specs.declared.funcs.Arg.{Arg}
use Rattle.ir_ast.specs.Insts.{Instruction}
use Rattle.ir_ast.specs.Blocks.{BasicBlock}
use Rattle.ir_ast.specs.Funcs.{Function, instructions_of}
use Rattle.ir_ast.specs.Values.{Definition, argument, outcome, definitions_of}
use Rattle.base_tables.specs.Kinds.{Kind, plain, kind_of}

abbrev results : List Instruction → List Definition
results insts = map outcome (filter (λ inst. is_some inst.result) insts)

results-append : (front back : List Instruction) → results (front ++ back) ≡ results front ++ results back
results-append front back =
    ap (map outcome) (filter-append (λ (inst : Instruction). is_some inst.result) front back)
    ∙ map-append outcome (filter (λ (inst : Instruction). is_some inst.result) front) (filter (λ (inst : Instruction). is_some inst.result) back)

-- one argument more
pub args_more : {A : Type 0} (seen : A → Kind) (shapes new : List A) (x : A) (args : List Arg) (i : ℕ) (arg : Arg) → i < length args
    → map seen shapes ≡ map kind_of (map argument (take i args)) → new ≡ shapes ++ x ∷ [] → seen x ≡ plain
    → map seen new ≡ map kind_of (map argument (take (i + 1) args))
args_more seen shapes new x args i arg below before is plain_is =
    rw (is, map-append seen shapes (x ∷ []), before, plain_is, take_more args i arg below, map-append argument (take i args) (get_or args i arg ∷ []), map-append kind_of (map argument (take i args)) (argument (get_or args i arg) ∷ []))
    refl

-- all arguments
pub args_all : {A : Type 0} (seen : A → Kind) (shapes : List A) (args : List Arg) (i : ℕ) → i ≡ length args
    → map seen shapes ≡ map kind_of (map argument (take i args)) → map seen shapes ≡ map kind_of (map argument args ++ [])
args_all seen shapes args i size before =
    before ∙ ap (λ n. map kind_of (map argument (take n args))) size ∙ ap (λ (xs : List Arg). map kind_of (map argument xs)) (take-length args)
    ∙ ap (map kind_of) (sym (append-nil (map argument args)))

-- one block more
pub blocks_more : {A : Type 0} (seen : A → Kind) (old new : List A) (args : List Arg) (blocks : List BasicBlock) (i : ℕ) (block : BasicBlock) → i < length blocks
    → map seen old ≡ map kind_of (map argument args ++ results (instructions_of (take i blocks)))
    → map seen new ≡ map seen old ++ map kind_of (results (get_or blocks i block).insts)
    → map seen new ≡ map kind_of (map argument args ++ results (instructions_of (take (i + 1) blocks)))
blocks_more seen old new args blocks i block below before more =
    let front = instructions_of (take i blocks) in
    let own = (get_or blocks i block).insts in
    let insts : instructions_of (take (i + 1) blocks) ≡ front ++ own =
    ap instructions_of (take_more blocks i block below) ∙ flat_map-append (λ (b : BasicBlock). b.insts) (take i blocks) (get_or blocks i block ∷ [])
    ∙ ap (λ (zs : List Instruction). front ++ zs) (append-nil own) in
    more ∙ ap (λ (ks : List Kind). ks ++ map kind_of (results own)) before
    ∙ sym (map-append kind_of (map argument args ++ results front) (results own))
    ∙ ap (map kind_of) (append_assoc (map argument args) (results front) (results own) ∙ ap (λ (ds : List Definition). map argument args ++ ds) (sym (results-append front own) ∙ ap results (sym insts)))

pub blocks_all : {A : Type 0} (seen : A → Kind) (shapes : List A) (func : Function) (i : ℕ) → i ≡ length func.blocks
    → map seen shapes ≡ map kind_of (map argument func.args ++ results (instructions_of (take i func.blocks)))
    → map seen shapes ≡ map kind_of (definitions_of func)
blocks_all seen shapes func i size before =
    before ∙ ap (λ n. map kind_of (map argument func.args ++ results (instructions_of (take n func.blocks)))) size
    ∙ ap (λ (bs : List BasicBlock). map kind_of (map argument func.args ++ results (instructions_of bs))) (take-length func.blocks)
