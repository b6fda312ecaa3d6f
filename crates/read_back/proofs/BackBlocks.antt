-- The sections of lines that a function is printed as: its blocks, and the names that it gives.
use Rattle.std.proofs.Common.{◌≡◌, ◌∙◌, ℕ, Bool, true, false, cond, if◌then◌else◌, List, [], ◌∷◌, ◌++◌, map, drop, refl, ap, sym, subst, append_assoc}
use Rattle.std.specs.Prelude.{Option, Some, None, is_some, unwrap_or, flat_map, filter, decimal}
use Rattle.std.specs.List.{AllByRecursion, AllZip, zip}
use Rattle.std.proofs.lemmas.List.{append-nil, map-append}
use Rattle.sp_ids.specs.declared.ids.BlockId.{BlockId}
use Rattle.ir_ast.specs.declared.types.Ty.{Ty}
use Rattle.ir_ast.specs.declared.types.Ty.TheVariants as tys
use Rattle.ir_ast.specs.declared.funcs.Arg.{Arg}
use Rattle.ir_ast.specs.declared.ops.Op.{Op}
use Rattle.ir_ast.specs.declared.ops.Op.TheVariants as ops
use Rattle.ir_ast.specs.declared.ops.Elem.{Elem}
use Rattle.ir_ast.specs.declared.ops.Elem.TheVariants as elements
use Rattle.ir_ast.specs.declared.ops.Operand.{Operand}
use Rattle.ir_ast.specs.declared.modules.Form.{Form as TextForm}
use Rattle.ir_ast.specs.Insts.{Instruction}
use Rattle.ir_ast.specs.Blocks.{BasicBlock}
use Rattle.ir_ast.specs.Funcs.{Function, instructions_of}
use Rattle.ir_ast.specs.Values.{argument, outcome, definition_name}
use Rattle.ir_ast.specs.Values as defs
use Rattle.ir_ast.specs.Types.{is_first_class}
use Rattle.ir_printer.specs.Names.{Names}
use Rattle.line_parts.specs.Types.{TypeWord}
use Rattle.line_parts.specs.Lists.{Named}
use Rattle.ir_lines.specs.Statements.{Line, Statement, layout, declare, define, close, label, switch_end, cast}
use Rattle.ir_lines.specs.Parts.{gives, given_by_call}
use Rattle.ir_lines.specs.Sections.{Definition, Naming, BlockLines, arguments_named, result_named, values_of, is_label, label_said, until_label, block_at, labelled_blocks, first_block, blocks_of, count_numbered}
use Rattle.ir_lines.specs.Modules.{Known, insts_of, block_of, argument_of}
use Rattle.ir_resolve.proofs.Bodies.{until-other, until-label}
use Rattle.read_back.specs.Said.{word_of, result_of, operator_says, instruction_says, block_says, argument_says, step_says, case_says, return_says}
use Rattle.read_back.proofs.BackNames.{Setting}
use Rattle.read_back.proofs.BackLines.{said, cons_parts, word-type}
use Rattle.read_back.proofs.BackLists.{NamesAreFree}
use Rattle.read_back.proofs.BackInsts.{IsPrintedIn, inst-back}
use Rattle.std.proofs.lemmas.Grind.{flat_map-append}
use Rattle.module_laws.proofs.LawFunctions.{unmapped}

-- ---- lines cut where what they say is

pub record Halves (lines : List Line) (xs ys : List Statement) : Type 0 where
  pub front : List Line
  pub back : List Line
  pub whole : lines ≡ front ++ back
  pub front_says : said front ≡ xs
  pub back_says : said back ≡ ys

pub cut : (lines : List Line) (xs ys : List Statement) → said lines ≡ xs ++ ys → Halves lines xs ys
cut lines [] ys e = record { front = []; back = lines; whole = refl; front_says = refl; back_says = e }
cut [] (x ∷ xs) ys e = absurd (let bad : [] ≡ x ∷ (xs ++ ys) = e in cc)
cut (l ∷ ls) (x ∷ xs) ys e =
    let parts = cons_parts l.says (said ls) x (xs ++ ys) e in
    let c = cut ls xs ys parts.1 in record {
      front = l ∷ c.front;
      back = c.back;
      whole = ap (λ (ms : List Line). l ∷ ms) c.whole;
      front_says = ap (λ (s : Statement). s ∷ said c.front) parts.0 ∙ ap (λ (ss : List Statement). x ∷ ss) c.front_says;
      back_says = c.back_says;
    }

pub nothing_said : (ls : List Line) → said ls ≡ [] → ls ≡ []
nothing_said [] e = refl
nothing_said (l ∷ ls) e = absurd (let bad : l.says ∷ said ls ≡ [] = e in cc)

pub weaker : {X : Type 0} (P Q : X → Type 0) → ((x : X) → P x → Q x) → (xs : List X) → AllByRecursion P xs → AllByRecursion Q xs
weaker P Q each [] h = tt
weaker P Q each (x ∷ xs) h = (each x h.0, weaker P Q each xs h.1)

pub all_append : {X : Type 0} (P : X → Type 0) (xs ys : List X) → AllByRecursion P xs → AllByRecursion P ys → AllByRecursion P (xs ++ ys)
all_append P [] ys h k = k
all_append P (x ∷ xs) ys h k = (h.0, all_append P xs ys h.1 k)

pub all_flat : {X Y : Type 0} (f : X → List Y) (P : Y → Type 0) → ((x : X) → AllByRecursion P (f x)) → (xs : List X) → AllByRecursion P (flat_map f xs)
all_flat f P each [] = tt
all_flat f P each (x ∷ xs) = all_append P (f x) (flat_map f xs) (each x) (all_flat f P each xs)

-- ---- what stands in a block, and in a body

abbrev pub in_block : Statement → Bool
in_block (layout name fields) = false
in_block (declare answer name parameters) = false
in_block (define answer name arguments strategy) = false
in_block close = false
in_block (label name) = false
in_block (cast result op from value to) = false
in_block _ = true

abbrev pub InBlock : Statement → Type 0
InBlock s = in_block s ≡ true

cases_inner : (names : Names) (ty : Ty) (es : List (Operand × BlockId)) → AllByRecursion InBlock (map (case_says names ty) es ++ switch_end ∷ [])
cases_inner names ty [] = (refl, tt)
cases_inner names ty (e ∷ es) = (refl, cases_inner names ty es)

step_inner : (names : Names) (elem : Elem) (width : ℕ) (place : Option ℕ) (inst : Instruction) → InBlock (step_says names elem width place inst)
step_inner names (elements.Int w) width place inst = refl
step_inner names elements.Ptr width place inst = refl
step_inner names (elements.Layout l) width place inst = refl

return_inner : (names : Names) (ty : Ty) (inst : Instruction) → InBlock (return_says names ty inst)
return_inner names tys.Void inst = refl
return_inner names (tys.Int w) inst = refl
return_inner names tys.Ptr inst = refl
return_inner names tys.Token inst = refl

pub inner : (names : Names) (op : Op) (inst : Instruction) → AllByRecursion InBlock (operator_says names op inst)
inner names (ops.Gep elem width place) inst = (step_inner names elem width place inst, tt)
inner names ops.Ret inst = (return_inner names inst.ty inst, tt)
inner names ops.Switch inst = (refl, cases_inner names inst.ty (zip (drop 1 inst.operands) (drop 1 inst.labels)))
inner names _ inst = (refl, tt)

pub insts_inner : (names : Names) (insts : List Instruction) → AllByRecursion InBlock (flat_map (instruction_says names) insts)
insts_inner names insts = all_flat (instruction_says names) InBlock (λ inst. inner names inst.op inst) insts

-- lines say what holds of all that is said
pub lines_all : (P : Statement → Type 0) (ls : List Line) (ss : List Statement) → said ls ≡ ss → AllByRecursion P ss → AllByRecursion (λ l. P l.says) ls
lines_all P ls ss e h = unmapped (λ (l : Line). l.says) P ls (subst (AllByRecursion P) (sym e) h)

no_label : (s : Statement) → in_block s ≡ true → (is_label s ≡ false) × (label_said s ≡ None)
no_label (label name) e = absurd (let bad : false ≡ true = e in cc)
no_label _ e = (refl, refl)

until_skip : (xs ys : List Line) → AllByRecursion (λ l. InBlock l.says) xs → until_label (xs ++ ys) ≡ xs ++ until_label ys
until_skip [] ys h = refl
until_skip (x ∷ xs) ys h =
    until-other x (xs ++ ys) (no_label x.says h.0).0 ∙ ap (λ (ls : List Line). x ∷ ls) (until_skip xs ys h.1)

labelled_skip : (xs ys : List Line) → AllByRecursion (λ l. InBlock l.says) xs → labelled_blocks (xs ++ ys) ≡ labelled_blocks ys
labelled_skip [] ys h = refl
labelled_skip (x ∷ xs) ys h =
    ap (λ (o : Option (List ℕ)). block_at x.number o (xs ++ ys) ++ labelled_blocks (xs ++ ys)) (no_label x.says h.0).1
    ∙ labelled_skip xs ys h.1

-- ---- blocks

pub record SaysBlock (names : Names) (one : BlockLines) (block : BasicBlock) : Type 0 where
  pub name : one.name ≡ block.name
  pub lines : said one.lines ≡ flat_map (instruction_says names) block.insts

starts_block : (names : Names) (blocks : List BasicBlock) (ls : List Line) → said ls ≡ flat_map (block_says names) blocks → until_label ls ≡ []
starts_block names [] ls e = ap until_label (nothing_said ls e)
starts_block names (b ∷ bs) [] e = refl
starts_block names (b ∷ bs) (l ∷ ls) e =
    let parts = cons_parts l.says (said ls) (label b.name) (flat_map (instruction_says names) b.insts ++ flat_map (block_says names) bs) e in
    until-label l ls (ap is_label parts.0)

pub blocks-said : (names : Names) (blocks : List BasicBlock) (ls : List Line) → said ls ≡ flat_map (block_says names) blocks
    → AllZip (SaysBlock names) (labelled_blocks ls) blocks
blocks-said names [] ls e = subst (λ (ms : List Line). AllZip (SaysBlock names) (labelled_blocks ms) []) (sym (nothing_said ls e)) tt
blocks-said names (b ∷ bs) [] e =
    absurd (let bad : [] ≡ label b.name ∷ (flat_map (instruction_says names) b.insts ++ flat_map (block_says names) bs) = e in cc)
blocks-said names (b ∷ bs) (l ∷ ls) e =
    let parts = cons_parts l.says (said ls) (label b.name) (flat_map (instruction_says names) b.insts ++ flat_map (block_says names) bs) e in
    let c = cut ls (flat_map (instruction_says names) b.insts) (flat_map (block_says names) bs) parts.1 in
    let inside = lines_all InBlock c.front (flat_map (instruction_says names) b.insts) c.front_says (insts_inner names b.insts) in
    let body : until_label ls ≡ c.front =
    ap until_label c.whole ∙ until_skip c.front c.back inside ∙ ap (λ (ms : List Line). c.front ++ ms) (starts_block names bs c.back c.back_says) ∙ append-nil c.front in
    let more : labelled_blocks ls ≡ labelled_blocks c.back = ap labelled_blocks c.whole ∙ labelled_skip c.front c.back inside in
    let whole : labelled_blocks (l ∷ ls) ≡ record { line = l.number; name = b.name; lines = c.front } ∷ labelled_blocks c.back =
    ap (λ (o : Option (List ℕ)). block_at l.number o ls ++ labelled_blocks ls) (ap label_said parts.0)
    ∙ ap (λ (ms : List Line). record { line = l.number; name = b.name; lines = ms } ∷ labelled_blocks ls) body
    ∙ ap (λ (bls : List BlockLines). record { line = l.number; name = b.name; lines = c.front } ∷ bls) more in
    subst (λ (bls : List BlockLines). AllZip (SaysBlock names) bls (b ∷ bs)) (sym whole)
    (record { name = refl; lines = c.front_says }, blocks-said names bs c.back c.back_says)

first_none : (names : Names) (func : Definition) (blocks : List BasicBlock) (ls : List Line) → said ls ≡ flat_map (block_says names) blocks → first_block func ls ≡ []
first_none names func blocks [] e = refl
first_none names func [] (l ∷ ls) e = absurd (let bad : l.says ∷ said ls ≡ [] = e in cc)
first_none names func (b ∷ bs) (l ∷ ls) e =
    let parts = cons_parts l.says (said ls) (label b.name) (flat_map (instruction_says names) b.insts ++ flat_map (block_says names) bs) e in
    ap (λ (t : Bool). if t then [] else record { line = func.line; name = decimal (count_numbered func.arguments); lines = until_label (l ∷ ls) } ∷ []) (ap is_label parts.0)

pub blocks-are : (names : Names) (func : Definition) (blocks : List BasicBlock) → said func.body ≡ flat_map (block_says names) blocks
    → AllZip (SaysBlock names) (blocks_of func) blocks
blocks-are names func blocks e =
    subst (λ (bls : List BlockLines). AllZip (SaysBlock names) (bls ++ labelled_blocks func.body) blocks) (sym (first_none names func blocks func.body e))
    (blocks-said names blocks func.body e)

pub insts-back : (form : TextForm) (names : Names) (known : Known) → Setting names known → NamesAreFree names → (insts : List Instruction)
    → AllByRecursion (λ inst. IsPrintedIn form names inst.op inst) insts → (ls : List Line) → said ls ≡ flat_map (instruction_says names) insts → insts_of known ls ≡ insts
insts-back form names known s free [] p ls e = ap (insts_of known) (nothing_said ls e)
insts-back form names known s free (i ∷ is) p ls e =
    let c = cut ls (instruction_says names i) (flat_map (instruction_says names) is) e in
    ap (insts_of known) c.whole ∙ inst-back names known s free i.op i p.0 c.front c.back c.front_says
    ∙ ap (λ (xs : List Instruction). i ∷ xs) (insts-back form names known s free is p.1 c.back c.back_says)

pub blocks-back : (form : TextForm) (names : Names) (known : Known) → Setting names known → NamesAreFree names → (ones : List BlockLines) (blocks : List BasicBlock)
    → AllZip (SaysBlock names) ones blocks → AllByRecursion (λ block. AllByRecursion (λ inst. IsPrintedIn form names inst.op inst) block.insts) blocks
    → map (block_of known) ones ≡ blocks
blocks-back form names known s free [] [] h p = refl
blocks-back form names known s free [] (b ∷ bs) h p = absurd h
blocks-back form names known s free (o ∷ os) [] h p = absurd h
blocks-back form names known s free (o ∷ os) (b ∷ bs) h p =
    ap (λ (n : List ℕ). record { name = n; insts = insts_of known o.lines } ∷ map (block_of known) os) h.0.name
    ∙ ap (λ (is : List Instruction). record { name = b.name; insts = is } ∷ map (block_of known) os) (insts-back form names known s free b.insts p.0 o.lines h.0.lines)
    ∙ ap (λ (xs : List BasicBlock). b ∷ xs) (blocks-back form names known s free os bs h.1 p.1)

pub block-names : (names : Names) (ones : List BlockLines) (blocks : List BasicBlock) → AllZip (SaysBlock names) ones blocks
    → map (λ one. one.name) ones ≡ map (λ block. block.name) blocks
block-names names [] [] h = refl
block-names names [] (b ∷ bs) h = absurd h
block-names names (o ∷ os) [] h = absurd h
block-names names (o ∷ os) (b ∷ bs) h =
    ap (λ (n : List ℕ). n ∷ map (λ (one : BlockLines). one.name) os) h.0.name ∙ ap (λ (ns : List (List ℕ)). b.name ∷ ns) (block-names names os bs h.1)

-- ---- arguments

argument_names : (line : ℕ) (before : List Named) (args : List Arg)
    → map (λ (one : Naming). one.name) (arguments_named line before (map argument_says args)) ≡ map (λ arg. arg.name) args
argument_names line before [] = refl
argument_names line before (a ∷ args) = ap (λ (ns : List (List ℕ)). a.name ∷ ns) (argument_names line (before ++ argument_says a ∷ []) args)

pub arguments-back : (line : ℕ) (before : List Named) (args : List Arg) → AllByRecursion (λ arg. is_first_class arg.ty ≡ true) args
    → map argument_of (arguments_named line before (map argument_says args)) ≡ args
arguments-back line before [] h = refl
arguments-back line before (a ∷ args) h =
    ap (λ (t : Ty). record { name = a.name; ty = t } ∷ map argument_of (arguments_named line (before ++ argument_says a ∷ []) (map argument_says args))) (word-type a.ty h.0)
    ∙ ap (λ (xs : List Arg). a ∷ xs) (arguments-back line (before ++ argument_says a ∷ []) args h.1)

-- ---- the names of results

abbrev one_name : Option (List ℕ) → List (List ℕ)
one_name None = []
one_name (Some name) = name ∷ []

abbrev first_of_pair : Option (List ℕ × TypeWord) → List (List ℕ)
first_of_pair None = []
first_of_pair (Some pair) = pair.0 ∷ []

abbrev names_given : List Statement → List (List ℕ)
names_given ss = flat_map (λ s. first_of_pair (gives s)) ss

one_given_name : (n : ℕ) (o : Option (List ℕ × TypeWord)) → map (λ (one : Naming). one.name) (result_named n o) ≡ first_of_pair o
one_given_name n None = refl
one_given_name n (Some (name, ty)) = refl

given_names : (ls : List Line) → map (λ (one : Naming). one.name) (flat_map (λ (l : Line). result_named l.number (gives l.says)) ls) ≡ names_given (said ls)
given_names [] = refl
given_names (l ∷ ls) =
    map-append (λ (one : Naming). one.name) (result_named l.number (gives l.says)) (flat_map (λ (k : Line). result_named k.number (gives k.says)) ls)
    ∙ ap (λ (ns : List (List ℕ)). ns ++ map (λ (one : Naming). one.name) (flat_map (λ (k : Line). result_named k.number (gives k.says)) ls)) (one_given_name l.number (gives l.says))
    ∙ ap (λ (ns : List (List ℕ)). first_of_pair (gives l.says) ++ ns) (given_names ls)

named_result : (o : Option (List ℕ)) → is_some o ≡ true → unwrap_or o [] ∷ [] ≡ one_name o
named_result (Some name) e = refl
named_result None e = absurd (let bad : false ≡ true = e in cc)

unnamed_result : (o : Option (List ℕ)) → is_some o ≡ false → [] ≡ one_name o
unnamed_result None e = refl
unnamed_result (Some name) e = absurd (let bad : true ≡ false = e in cc)

cases_none : (names : Names) (ty : Ty) (es : List (Operand × BlockId)) → names_given (map (case_says names ty) es ++ switch_end ∷ []) ≡ []
cases_none names ty [] = refl
cases_none names ty (e ∷ es) = cases_none names ty es

step_name : (names : Names) (elem : Elem) (width : ℕ) (place : Option ℕ) (inst : Instruction) → first_of_pair (gives (step_says names elem width place inst)) ≡ result_of inst ∷ []
step_name names (elements.Int w) width place inst = refl
step_name names elements.Ptr width place inst = refl
step_name names (elements.Layout l) width place inst = refl

return_name : (names : Names) (ty : Ty) (inst : Instruction) → first_of_pair (gives (return_says names ty inst)) ≡ []
return_name names tys.Void inst = refl
return_name names (tys.Int w) inst = refl
return_name names tys.Ptr inst = refl
return_name names tys.Token inst = refl

call_name : (o : Option (List ℕ)) (answer : TypeWord) → first_of_pair (given_by_call o answer) ++ [] ≡ one_name o
call_name None answer = refl
call_name (Some name) answer = refl

inst_names : {of : TextForm} (names : Names) (op : Op) (inst : Instruction) → IsPrintedIn of names op inst → names_given (operator_says names op inst) ≡ one_name inst.result
inst_names names ops.Add inst p = named_result inst.result p.line.result
inst_names names ops.Sub inst p = named_result inst.result p.line.result
inst_names names ops.Mul inst p = named_result inst.result p.line.result
inst_names names ops.Udiv inst p = named_result inst.result p.line.result
inst_names names ops.Sdiv inst p = named_result inst.result p.line.result
inst_names names ops.Urem inst p = named_result inst.result p.line.result
inst_names names ops.Srem inst p = named_result inst.result p.line.result
inst_names names ops.And inst p = named_result inst.result p.line.result
inst_names names ops.Or inst p = named_result inst.result p.line.result
inst_names names ops.Xor inst p = named_result inst.result p.line.result
inst_names names ops.Shl inst p = named_result inst.result p.line.result
inst_names names ops.Lshr inst p = named_result inst.result p.line.result
inst_names names ops.Ashr inst p = named_result inst.result p.line.result
inst_names names (ops.Icmp pred) inst p = named_result inst.result p.line.result
inst_names names (ops.Trunc to) inst p = named_result inst.result p.line.result
inst_names names (ops.Zext to) inst p = named_result inst.result p.line.result
inst_names names (ops.Sext to) inst p = named_result inst.result p.line.result
inst_names names ops.Select inst p = named_result inst.result p.line.result
inst_names names ops.Phi inst p = named_result inst.result p.line.0.result
inst_names names (ops.Gep elem width place) inst p =
    ap (λ (ns : List (List ℕ)). ns ++ []) (step_name names elem width place inst) ∙ named_result inst.result p.line.0.result
inst_names names ops.Load inst p = named_result inst.result p.line.result
inst_names names ops.Store inst p = unnamed_result inst.result p.line.result
inst_names names (ops.Call callee ts) inst p = call_name inst.result (word_of inst.ty)
inst_names names (ops.Statepoint id callee ts) inst p = named_result inst.result p.line.result
inst_names names ops.GcResult inst p = named_result inst.result p.line.0.result
inst_names names ops.GcRelocate inst p = named_result inst.result p.line.0.result
inst_names names ops.Br inst p = unnamed_result inst.result p.line.result
inst_names names ops.CondBr inst p = unnamed_result inst.result p.line.result
inst_names names ops.Switch inst p =
    cases_none names inst.ty (zip (drop 1 inst.operands) (drop 1 inst.labels)) ∙ unnamed_result inst.result p.line.0.result
inst_names names ops.Ret inst p =
    ap (λ (ns : List (List ℕ)). ns ++ []) (return_name names inst.ty inst) ∙ unnamed_result inst.result p.line.result
inst_names names ops.Unreachable inst p = unnamed_result inst.result p.line.result

abbrev names_of : List Instruction → List (List ℕ)
names_of insts = flat_map (λ inst. one_name inst.result) insts

insts_names : (form : TextForm) (names : Names) (insts : List Instruction) → AllByRecursion (λ inst. IsPrintedIn form names inst.op inst) insts
    → names_given (flat_map (instruction_says names) insts) ≡ names_of insts
insts_names form names [] p = refl
insts_names form names (i ∷ is) p =
    flat_map-append (λ (s : Statement). first_of_pair (gives s)) (instruction_says names i) (flat_map (instruction_says names) is)
    ∙ ap (λ (ns : List (List ℕ)). ns ++ names_given (flat_map (instruction_says names) is)) (inst_names names i.op i p.0)
    ∙ ap (λ (ns : List (List ℕ)). one_name i.result ++ ns) (insts_names form names is p.1)

blocks_names : (form : TextForm) (names : Names) (blocks : List BasicBlock) → AllByRecursion (λ block. AllByRecursion (λ inst. IsPrintedIn form names inst.op inst) block.insts) blocks
    → names_given (flat_map (block_says names) blocks) ≡ names_of (instructions_of blocks)
blocks_names form names [] p = refl
blocks_names form names (b ∷ bs) p =
    flat_map-append (λ (s : Statement). first_of_pair (gives s)) (flat_map (instruction_says names) b.insts) (flat_map (block_says names) bs)
    ∙ ap (λ (ns : List (List ℕ)). ns ++ names_given (flat_map (block_says names) bs)) (insts_names form names b.insts p.0)
    ∙ ap (λ (ns : List (List ℕ)). names_of b.insts ++ ns) (blocks_names form names bs p.1)
    ∙ sym (flat_map-append (λ (inst : Instruction). one_name inst.result) b.insts (instructions_of bs))

outcome_names : (insts : List Instruction) → names_of insts ≡ map definition_name (map outcome (filter (λ inst. is_some inst.result) insts))
outcome_names [] = refl
outcome_names (i ∷ is) = by i.result refl (outcome_names is)
  where
    by : (o : Option (List ℕ)) → i.result ≡ o → names_of is ≡ map definition_name (map outcome (filter (λ inst. is_some inst.result) is))
        → names_of (i ∷ is) ≡ map definition_name (map outcome (filter (λ inst. is_some inst.result) (i ∷ is)))
    by None e ih =
        ap (λ (x : Option (List ℕ)). one_name x ++ names_of is) e ∙ ih
        ∙ sym (ap (λ (x : Option (List ℕ)). map definition_name (map outcome (cond (is_some x) (i ∷ filter (λ inst. is_some inst.result) is) (filter (λ inst. is_some inst.result) is)))) e)
    by (Some name) e ih =
        ap (λ (x : Option (List ℕ)). one_name x ++ names_of is) e ∙ ap (λ (ns : List (List ℕ)). name ∷ ns) ih
        ∙ ap (λ (x : Option (List ℕ)). unwrap_or x [] ∷ map definition_name (map outcome (filter (λ inst. is_some inst.result) is))) (sym e)
        ∙ sym (ap (λ (x : Option (List ℕ)). map definition_name (map outcome (cond (is_some x) (i ∷ filter (λ inst. is_some inst.result) is) (filter (λ inst. is_some inst.result) is)))) e)

argument_definitions : (args : List Arg) → map (λ arg. arg.name) args ≡ map definition_name (map argument args)
argument_definitions [] = refl
argument_definitions (a ∷ args) = ap (λ (ns : List (List ℕ)). a.name ∷ ns) (argument_definitions args)

-- the values of a definition have the names of those of the function
pub value-names : (form : TextForm) (names : Names) (func : Definition) (of : Function) → func.arguments ≡ map argument_says of.args → said func.body ≡ flat_map (block_says names) of.blocks
    → AllByRecursion (λ block. AllByRecursion (λ inst. IsPrintedIn form names inst.op inst) block.insts) of.blocks
    → map (λ one. one.name) (values_of func) ≡ map definition_name (defs.definitions_of of)
value-names form names func of args body p =
    map-append (λ (one : Naming). one.name) (arguments_named func.line [] func.arguments) (flat_map (λ (l : Line). result_named l.number (gives l.says)) func.body)
    ∙ ap (λ (ns : List (List ℕ)). ns ++ map (λ (one : Naming). one.name) (flat_map (λ (l : Line). result_named l.number (gives l.says)) func.body))
    (ap (λ (named : List Named). map (λ (one : Naming). one.name) (arguments_named func.line [] named)) args ∙ argument_names func.line [] of.args ∙ argument_definitions of.args)
    ∙ ap (λ (ns : List (List ℕ)). map definition_name (map argument of.args) ++ ns)
    (given_names func.body ∙ ap names_given body ∙ blocks_names form names of.blocks p ∙ outcome_names (instructions_of of.blocks))
    ∙ sym (map-append definition_name (map argument of.args) (map outcome (filter (λ inst. is_some inst.result) (instructions_of of.blocks))))
