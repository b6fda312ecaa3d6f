-- Records of joined instructions: a group ends before the terminator of its block.
use Rattle.std.proofs.Common.{◌≡◌, ◌∙◌, ℕ, suc, ◌+◌, ◌*◌, ◌<◌, true, List, [], ◌∷◌, ◌++◌, length, take, drop, get_or, map, fold, refl, ap, sym, subst, arith, append_assoc}
use Rattle.std.specs.List.{flat_map, AllByRecursion}
use Rattle.std.proofs.lemmas.List.{take-append-le, length-map}
use Rattle.std.proofs.Math.ListN.{get_or-map}
use Rattle.std.proofs.lemmas.Grind.{flat_map-append}
use Rattle.list_laws.proofs.Places.{drop_item}
use Rattle.ir_ast.specs.declared.ops.Op.{Op}
use Rattle.ir_ast.specs.declared.ops.Op.TheVariants.{Statepoint}
use Rattle.ir_ast.specs.Insts.{Instruction}
use Rattle.ir_ast.specs.Ops.{is_terminator}
use Rattle.ir_ast.specs.Blocks.{BasicBlock, EndsAtTerminator}
use Rattle.ir_ast.specs.Funcs.{Function, LinedFunction, content_of, instructions_of}
use Rattle.frame_forms.specs.Groups.{group_size}
use Rattle.frame_forms.proofs.ReturnLemmas.{group_stops, group_within}
use Rattle.map_bytes.specs.declared.values.Place.{Place}
use Rattle.map_bytes.specs.Maps.{MapRecord, record_bytes}
use Rattle.map_bytes.specs.Fits.{RecordFits}
use Rattle.stackmap_write.specs.Constants.{large_in, large_of, with_constant}
use Rattle.stackmap_write.specs.ModuleMaps.{deopt_places, records_at, records_from, records_of, statepoint_record}
use Rattle.stackmap_write.proofs.AppendLemmas.{all_front, all_back}
use Rattle.stackmap_write.proofs.ConstantLaws.{fold_joined, numbers_put}

-- the record at an operator that ends before the last of these
at_joined : (op : Op) (place : ℕ) (deopts : List Place) (before : List Instruction) (last : Instruction) (after : List Instruction) → is_terminator last.op ≡ true
    → records_at place deopts op ((before ++ last ∷ []) ++ after) ≡ records_at place deopts op (before ++ last ∷ [])
at_joined (Statepoint id callee types) place deopts before last after ends =
    let op = Statepoint id callee types in
    let rest = before ++ last ∷ [] in
    let size = group_size op rest in
    ap (λ n. statepoint_record id (4 * (place + 1 + n)) deopts (take n (rest ++ after)) ∷ []) (group_stops op before last after ends)
    ∙ ap (λ group. statepoint_record id (4 * (place + 1 + size)) deopts group ∷ []) (take-append-le size rest after (group_within op rest))
at_joined _ place deopts before last after ends = refl

no_record : (op : Op) (place : ℕ) (deopts : List Place) (rest : List Instruction) → is_terminator op ≡ true → records_at place deopts op rest ≡ []
no_record (Statepoint id callee types) place deopts rest ends = cc
no_record _ place deopts rest ends = refl

records_before : (constants : List ℕ) (place : ℕ) (before : List Instruction) (last : Instruction) (after : List Instruction) → is_terminator last.op ≡ true
    → records_from constants place ((before ++ last ∷ []) ++ after)
    ≡ records_from constants place (before ++ last ∷ []) ++ records_from constants (place + length (before ++ last ∷ [])) after
records_before constants place [] last after ends =
    let deopts = deopt_places constants last in
    ap (λ front. front ++ records_from constants (place + 1) after) (no_record last.op place deopts after ends)
    ∙ sym (ap (λ front. (front ++ []) ++ records_from constants (place + 1) after) (no_record last.op place deopts [] ends))
records_before constants place (x ∷ before) last after ends =
    let rest = before ++ last ∷ [] in
    let deopts = deopt_places constants x in
    let one : place + 1 + length rest ≡ place + suc (length rest) = omega arith in
    ap (λ front. front ++ records_from constants (place + 1) (rest ++ after)) (at_joined x.op place deopts before last after ends)
    ∙ ap (λ later. records_at place deopts x.op rest ++ later)
    (records_before constants (place + 1) before last after ends ∙ ap (λ n. records_from constants (place + 1) rest ++ records_from constants n after) one)
    ∙ sym (append_assoc (records_at place deopts x.op rest) (records_from constants (place + 1) rest) (records_from constants (place + suc (length rest)) after))

pub records_joined : (constants : List ℕ) (place : ℕ) (block after : List Instruction) → EndsAtTerminator block
    → records_from constants place (block ++ after) ≡ records_from constants place block ++ records_from constants (place + length block) after
records_joined constants place block after ends =
    let P : List Instruction → Type 0 = λ insts. records_from constants place (insts ++ after) ≡ records_from constants place insts ++ records_from constants (place + length insts) after in
    subst P (sym ends.whole) (records_before constants place ends.before ends.last after ends.ends)

-- the records of a block and of the blocks behind it
pub records_step : (constants : List ℕ) (place : ℕ) (blocks : List BasicBlock) (k : ℕ) (block : BasicBlock) (insts : List Instruction) → k < length blocks
    → block ≡ get_or blocks k block → insts ≡ block.insts → EndsAtTerminator insts
    → records_from constants place (instructions_of (drop k blocks))
    ≡ records_from constants place insts ++ records_from constants (place + length insts) (instructions_of (drop (k + 1) blocks))
records_step constants place blocks k block insts below is same ends =
    ap (λ rest. records_from constants place (instructions_of rest)) (drop_item blocks k block below is)
    ∙ ap (λ first. records_from constants place (first ++ instructions_of (drop (k + 1) blocks))) (sym same)
    ∙ records_joined constants place insts (instructions_of (drop (k + 1) blocks)) ends

-- the record of an instruction, if it has one, and those of the instructions behind it
pub inst_step : (constants : List ℕ) (place next : ℕ) (insts : List Instruction) (k : ℕ) (inst : Instruction) → k < length insts → inst ≡ get_or insts k inst → next ≡ place + 1
    → records_from constants place (drop k insts)
    ≡ records_at place (deopt_places constants inst) inst.op (drop (k + 1) insts) ++ records_from constants next (drop (k + 1) insts)
inst_step constants place next insts k inst below is further =
    ap (records_from constants place) (drop_item insts k inst below is)
    ∙ ap (λ n. records_at place (deopt_places constants inst) inst.op (drop (k + 1) insts) ++ records_from constants n (drop (k + 1) insts)) (sym further)

-- what is put, when the next of some records are put too
pub put_step : (done new all : List ℕ) (whole next later : List MapRecord) → whole ≡ next ++ later → new ≡ done ++ flat_map record_bytes next
    → done ++ flat_map record_bytes whole ≡ all → new ++ flat_map record_bytes later ≡ all
put_step done new all whole next later split put known =
    ap (λ front. front ++ flat_map record_bytes later) put ∙ append_assoc done (flat_map record_bytes next) (flat_map record_bytes later)
    ∙ ap (λ rest. done ++ rest) (sym (flat_map-append record_bytes next later) ∙ sym (ap (flat_map record_bytes) split)) ∙ known

pub fits_front : (constants : ℕ) (whole next later : List MapRecord) → whole ≡ next ++ later → AllByRecursion (RecordFits constants) whole → AllByRecursion (RecordFits constants) next
fits_front constants whole next later split fit = all_front (RecordFits constants) next later (subst (AllByRecursion (RecordFits constants)) split fit)

pub fits_back : (constants : ℕ) (whole next later : List MapRecord) → whole ≡ next ++ later → AllByRecursion (RecordFits constants) whole → AllByRecursion (RecordFits constants) later
fits_back constants whole next later split fit = all_back (RecordFits constants) next later (subst (AllByRecursion (RecordFits constants)) split fit)

-- the records of a function and of the functions behind it
pub function_step : (constants : List ℕ) (funcs : List LinedFunction) (contents : List Function) (k : ℕ) (func : LinedFunction) → map content_of funcs ≡ contents → k < length funcs
    → func ≡ get_or funcs k func
    → flat_map (records_of constants) (drop k contents) ≡ records_of constants func.content ++ flat_map (records_of constants) (drop (k + 1) contents)
function_step constants funcs contents k func same below is =
    let here : func.content ≡ get_or contents k func.content = ap content_of is ∙ sym (get_or-map content_of funcs k func) ∙ ap (λ (xs : List Function). get_or xs k func.content) same in
    let within : k < length contents = omega (arith, ap length same, length-map funcs content_of) in
    ap (flat_map (records_of constants)) (drop_item contents k func.content within here)

-- the numbers of a function and of the functions behind it
pub function_numbers : (keys new all : List ℕ) (funcs : List LinedFunction) (contents : List Function) (k : ℕ) (func : LinedFunction) → map content_of funcs ≡ contents → k < length funcs
    → func ≡ get_or funcs k func → new ≡ fold with_constant keys (large_of func.content) → fold with_constant keys (flat_map large_of (drop k contents)) ≡ all
    → fold with_constant new (flat_map large_of (drop (k + 1) contents)) ≡ all
function_numbers keys new all funcs contents k func same below is put known =
    let here : func.content ≡ get_or contents k func.content = ap content_of is ∙ sym (get_or-map content_of funcs k func) ∙ ap (λ (xs : List Function). get_or xs k func.content) same in
    let within : k < length contents = omega (arith, ap length same, length-map funcs content_of) in
    numbers_put large_of keys new all contents k func.content within here put known

-- the numbers of a block and of the blocks behind it
pub block_numbers : (keys new all : List ℕ) (blocks : List BasicBlock) (k : ℕ) (block : BasicBlock) (insts : List Instruction) → k < length blocks
    → block ≡ get_or blocks k block → insts ≡ block.insts → new ≡ fold with_constant keys (flat_map large_in insts)
    → fold with_constant keys (flat_map large_in (instructions_of (drop k blocks))) ≡ all
    → fold with_constant new (flat_map large_in (instructions_of (drop (k + 1) blocks))) ≡ all
block_numbers keys new all blocks k block insts below is same put known =
    let later = instructions_of (drop (k + 1) blocks) in
    ap (λ start. fold with_constant start (flat_map large_in later)) put ∙ sym (fold_joined keys (flat_map large_in insts) (flat_map large_in later))
    ∙ ap (fold with_constant keys) (sym (flat_map-append large_in insts later))
    ∙ ap (λ front. fold with_constant keys (flat_map large_in (front ++ later))) same
    ∙ ap (λ rest. fold with_constant keys (flat_map large_in (instructions_of rest))) (sym (drop_item blocks k block below is)) ∙ known
