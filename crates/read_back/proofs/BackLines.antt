-- Instructions: the lines that an instruction is printed as stand for it.
use Rattle.std.proofs.Common.{◌≡◌, ◌∙◌, ℕ, ◌^◌, ◌<◌, ◌-◌, min, true, false, ◌||◌, ◌==◌, if◌then◌else◌, List, [], ◌∷◌, ◌++◌, map, length, replicate, refl, ap, sym, subst, arith}
use Rattle.std.specs.Prelude.{Option, Some, None, is_some, is_none, slice_get, unwrap_or, option_map}
use Rattle.std.specs.List.{AllByRecursion, AllZip}
use Rattle.std.proofs.lemmas.List.{nil_from_length}
use Rattle.std.proofs.lemmas.Bool.Decides.{Decides-eqb}
use Rattle.sp_ids.specs.declared.ids.BlockId.{BlockId}
use Rattle.ir_ast.specs.declared.types.Ty.{Ty}
use Rattle.ir_ast.specs.declared.types.Ty.TheVariants as tys
use Rattle.ir_ast.specs.declared.ops.Op.{Op}
use Rattle.ir_ast.specs.declared.ops.Op.TheVariants as ops
use Rattle.ir_ast.specs.declared.ops.Operand.{Operand}
use Rattle.ir_ast.specs.declared.ops.Operand.TheVariants as operands
use Rattle.ir_ast.specs.declared.ops.Elem.{Elem}
use Rattle.ir_ast.specs.declared.ops.Elem.TheVariants as elements
use Rattle.ir_ast.specs.Insts.{Instruction}
use Rattle.ir_ast.specs.Types.{is_void, is_integer, is_condition, is_pointer, is_first_class, is_answer}
use Rattle.ir_ast.specs.Lines.{Has, is_element}
use Rattle.ir_printer.specs.Names.{Names}
use Rattle.ir_printer.specs.Operands.{operand_at, label_at}
use Rattle.line_parts.specs.Types.{TypeWord}
use Rattle.line_parts.specs.Types as types
use Rattle.line_tokens.specs.declared.words.Binary.{Binary}
use Rattle.line_tokens.specs.declared.words.Conversion.{Conversion}
use Rattle.ir_lines.specs.Statements.{Line, Statement}
use Rattle.ir_lines.specs.Modules.{Known, type_of, operand_of, instruction_said, insts_of, place_of, label_of, binary_of, conversion_of, instruction}
use Rattle.module_laws.proofs.LawBodies.{insts_said, insts-cons}
use Rattle.read_back.specs.Said.{word_of, width_in, result_of, value_at, binary_says, compare_says, convert_says, select_says, load_says, store_says, jump_says, branch_says, return_says, step_says, place_says, target_at}
use Rattle.read_back.proofs.BackNames.{Setting, Good, operand-back, label-back, layout-number}
use Rattle.ir_ast.specs.declared.ops.Pred.{Pred}
use Rattle.list_laws.proofs.Booleans.{second_true}

abbrev pub said : List Line → List Statement
said lines = map (λ l. l.says) lines

pub cons_parts : {A : Type 0} (x : A) (xs : List A) (y : A) (ys : List A) → x ∷ xs ≡ y ∷ ys → (x ≡ y) × (xs ≡ ys)
cons_parts x xs y ys e = (cc, cc)

-- a line that stands for one instruction
pub single : (known : Known) (here rest : List Line) (s : Statement) (inst : Instruction) → said here ≡ s ∷ [] → instruction_said known rest s ≡ Some inst
    → insts_of known (here ++ rest) ≡ inst ∷ insts_of known rest
single known [] rest s inst e is = absurd (let bad : [] ≡ s ∷ [] = e in cc)
single known (l ∷ []) rest s inst e is =
    let says : l.says ≡ s = (let f : l.says ∷ [] ≡ s ∷ [] = e in cc) in
    insts-cons known l rest ∙ ap (λ (o : Option Instruction). insts_said o ++ insts_of known rest) (ap (instruction_said known rest) says ∙ is)
single known (l ∷ m ∷ ls) rest s inst e is = absurd (let bad : l.says ∷ m.says ∷ said ls ≡ s ∷ [] = e in grind (arith, ap length bad))

-- an instruction by its parts
abbrev of_parts : Option (List ℕ) → Op → Ty → List Operand → List BlockId → List (Ty × Operand) → Instruction
of_parts result op ty operands labels bundle = record { result = result; op = op; ty = ty; operands = operands; labels = labels; bundle = bundle }

pub by_parts : (inst : Instruction) (result : Option (List ℕ)) (op : Op) (ty : Ty) (os : List Operand) (labels : List BlockId) (bundle : List (Ty × Operand))
    → result ≡ inst.result → op ≡ inst.op → ty ≡ inst.ty → os ≡ inst.operands → labels ≡ inst.labels → bundle ≡ inst.bundle
    → of_parts result op ty os labels bundle ≡ inst
by_parts inst result op ty os labels bundle r o t p l b =
    ap (λ (x : Option (List ℕ)). of_parts x op ty os labels bundle) r
    ∙ ap (λ (x : Op). of_parts inst.result x ty os labels bundle) o
    ∙ ap (λ (x : Ty). of_parts inst.result inst.op x os labels bundle) t
    ∙ ap (λ (x : List Operand). of_parts inst.result inst.op inst.ty x labels bundle) p
    ∙ ap (λ (x : List BlockId). of_parts inst.result inst.op inst.ty inst.operands x bundle) l
    ∙ ap (λ (x : List (Ty × Operand)). of_parts inst.result inst.op inst.ty inst.operands inst.labels x) b

-- and one that keeps nothing
pub same-inst : (inst : Instruction) (result : Option (List ℕ)) (op : Op) (ty : Ty) (os : List Operand) (labels : List BlockId)
    → result ≡ inst.result → op ≡ inst.op → ty ≡ inst.ty → os ≡ inst.operands → labels ≡ inst.labels → inst.bundle ≡ []
    → Some (instruction result op ty os labels) ≡ Some inst
same-inst inst result op ty os labels r o t p l b = ap (λ (x : Instruction). Some x) (by_parts inst result op ty os labels [] r o t p l (sym b))

pub result-is : (o : Option (List ℕ)) → is_some o ≡ true → Some (unwrap_or o []) ≡ o
result-is (Some name) e = refl
result-is None e = absurd (let bad : false ≡ true = e in cc)

pub no_result : (o : Option (List ℕ)) → is_some o ≡ false → None ≡ o
no_result None e = refl
no_result (Some name) e = absurd (let bad : true ≡ false = e in cc)

pub integer-is : (ty : Ty) → is_integer ty ≡ true → tys.Int (width_in ty) ≡ ty
integer-is (tys.Int w) e = refl
integer-is _ e = absurd (let bad : false ≡ true = e in cc)

pub integer-word : (ty : Ty) → is_integer ty ≡ true → types.Int (width_in ty) ≡ word_of ty
integer-word (tys.Int w) e = refl
integer-word _ e = absurd (let bad : false ≡ true = e in cc)

pub pointer-is : (ty : Ty) → is_pointer ty ≡ true → tys.Ptr ≡ ty
pointer-is tys.Ptr e = refl
pointer-is _ e = absurd (let bad : false ≡ true = e in cc)

pub void-is : (ty : Ty) → is_void ty ≡ true → tys.Void ≡ ty
void-is tys.Void e = refl
void-is _ e = absurd (let bad : false ≡ true = e in cc)

pub condition-is : (ty : Ty) → is_condition ty ≡ true → tys.Int 1 ≡ ty
condition-is (tys.Int w) e = ap tys.Int (sym ((Decides-eqb w 1).0 e))
condition-is tys.Void e = absurd (let bad : false ≡ true = e in cc)
condition-is tys.Ptr e = absurd (let bad : false ≡ true = e in cc)
condition-is tys.Token e = absurd (let bad : false ≡ true = e in cc)

pub word-type : (ty : Ty) → is_first_class ty ≡ true → type_of (word_of ty) ≡ ty
word-type (tys.Int w) e = refl
word-type tys.Ptr e = refl
word-type tys.Void e = absurd (let bad : false ≡ true = e in cc)
word-type tys.Token e = absurd (let bad : false ≡ true = e in cc)

-- ---- operands by their places

abbrev pub at : List Operand → ℕ → Operand
at os place = unwrap_or (slice_get os place) operands.Null

pub record One (R : Operand → Ty → Type 0) (os : List Operand) (t : Ty) : Type 0 where
  pub first : R (at os 0) t
  pub is : (x : Operand) → x ≡ at os 0 → x ∷ [] ≡ os

pub one_given : (R : Operand → Ty → Type 0) (os : List Operand) (t : Ty) → AllZip R os (t ∷ []) → One R os t
one_given R [] t h = absurd h
one_given R (a ∷ []) t h = record { first = h.0; is = λ x e. ap (λ y. y ∷ []) e }
one_given R (a ∷ b ∷ os) t h = absurd h.1

pub record Two (R : Operand → Ty → Type 0) (os : List Operand) (t u : Ty) : Type 0 where
  pub first : R (at os 0) t
  pub second : R (at os 1) u
  pub is : (x y : Operand) → x ≡ at os 0 → y ≡ at os 1 → x ∷ y ∷ [] ≡ os

pub two_given : (R : Operand → Ty → Type 0) (os : List Operand) (t u : Ty) → AllZip R os (t ∷ u ∷ []) → Two R os t u
two_given R [] t u h = absurd h
two_given R (a ∷ []) t u h = absurd h.1
two_given R (a ∷ b ∷ []) t u h = record {
  first = h.0;
  second = h.1.0;
  is = λ x y e f. ap (λ z. z ∷ y ∷ []) e ∙ ap (λ z. a ∷ z ∷ []) f;
}
two_given R (a ∷ b ∷ c ∷ os) t u h = absurd h.1.1

pub record Three (R : Operand → Ty → Type 0) (os : List Operand) (t u v : Ty) : Type 0 where
  pub first : R (at os 0) t
  pub second : R (at os 1) u
  pub third : R (at os 2) v
  pub is : (x y z : Operand) → x ≡ at os 0 → y ≡ at os 1 → z ≡ at os 2 → x ∷ y ∷ z ∷ [] ≡ os

pub three_given : (R : Operand → Ty → Type 0) (os : List Operand) (t u v : Ty) → AllZip R os (t ∷ u ∷ v ∷ []) → Three R os t u v
three_given R [] t u v h = absurd h
three_given R (a ∷ []) t u v h = absurd h.1
three_given R (a ∷ b ∷ []) t u v h = absurd h.1.1
three_given R (a ∷ b ∷ c ∷ []) t u v h = record {
  first = h.0;
  second = h.1.0;
  third = h.1.1.0;
  is = λ x y z e f g. ap (λ w. w ∷ y ∷ z ∷ []) e ∙ ap (λ w. a ∷ w ∷ z ∷ []) f ∙ ap (λ w. a ∷ b ∷ w ∷ []) g;
}
three_given R (a ∷ b ∷ c ∷ d ∷ os) t u v h = absurd h.1.1.1

abbrev pub lab : List BlockId → ℕ → BlockId
lab labels place = unwrap_or (slice_get labels place) (record { 0 = 0 })

pub one_label : (labels : List BlockId) (P : BlockId → Type 0) → length labels ≡ 1 → AllByRecursion P labels
    → P (lab labels 0) × ((x : BlockId) → x ≡ lab labels 0 → x ∷ [] ≡ labels)
one_label (a ∷ []) P n h = (h.0, λ x e. ap (λ y. y ∷ []) e)
one_label [] P n h = absurd (omega arith)
one_label (a ∷ b ∷ ls) P n h = absurd (omega arith)

pub two_labels : (labels : List BlockId) (P : BlockId → Type 0) → length labels ≡ 2 → AllByRecursion P labels
    → P (lab labels 0) × P (lab labels 1) × ((x y : BlockId) → x ≡ lab labels 0 → y ≡ lab labels 1 → x ∷ y ∷ [] ≡ labels)
two_labels (a ∷ b ∷ []) P n h = (h.0, h.1.0, λ x y e f. ap (λ z. z ∷ y ∷ []) e ∙ ap (λ z. a ∷ z ∷ []) f)
two_labels [] P n h = absurd (omega arith)
two_labels (a ∷ []) P n h = absurd (omega arith)
two_labels (a ∷ b ∷ c ∷ ls) P n h = absurd (omega arith)

-- ---- instructions without labels

abbrev pub GoodAll : Names → List Operand → List Ty → Type 0
GoodAll names os ts = AllZip (Good names) os ts

pub binary-back : (names : Names) (known : Known) → Setting names known → (op : Binary) (rest : List Line) (inst : Instruction)
    → binary_of op ≡ inst.op → Has true is_integer 2 0 inst → GoodAll names inst.operands (inst.ty ∷ inst.ty ∷ [])
    → instruction_said known rest (binary_says names op inst) ≡ Some inst
binary-back names known s op rest inst o has good =
    let two = two_given (Good names) inst.operands inst.ty inst.ty good in
    let word = integer-word inst.ty has.type in
    same-inst inst (Some (result_of inst)) (binary_of op) (tys.Int (width_in inst.ty))
    (operand_of known (types.Int (width_in inst.ty)) (value_at names inst.ty inst 0) ∷ operand_of known (types.Int (width_in inst.ty)) (value_at names inst.ty inst 1) ∷ []) []
    (result-is inst.result has.result) o (integer-is inst.ty has.type)
    (two.is (operand_of known (types.Int (width_in inst.ty)) (value_at names inst.ty inst 0)) (operand_of known (types.Int (width_in inst.ty)) (value_at names inst.ty inst 1))
    (ap (λ (w : TypeWord). operand_of known w (value_at names inst.ty inst 0)) word ∙ operand-back names known s inst.ty (operand_at inst 0) two.first)
    (ap (λ (w : TypeWord). operand_of known w (value_at names inst.ty inst 1)) word ∙ operand-back names known s inst.ty (operand_at inst 1) two.second))
    (sym (nil_from_length inst.labels has.label_count)) has.no_bundle

pub compare-back : (names : Names) (known : Known) → Setting names known → (pred : Pred) (rest : List Line) (inst : Instruction)
    → ops.Icmp pred ≡ inst.op → Has true is_first_class 2 0 inst → GoodAll names inst.operands (inst.ty ∷ inst.ty ∷ [])
    → instruction_said known rest (compare_says names pred inst) ≡ Some inst
compare-back names known s pred rest inst o has good =
    let two = two_given (Good names) inst.operands inst.ty inst.ty good in
    same-inst inst (Some (result_of inst)) (ops.Icmp pred) (type_of (word_of inst.ty))
    (operand_of known (word_of inst.ty) (value_at names inst.ty inst 0) ∷ operand_of known (word_of inst.ty) (value_at names inst.ty inst 1) ∷ []) []
    (result-is inst.result has.result) o (word-type inst.ty has.type)
    (two.is (operand_of known (word_of inst.ty) (value_at names inst.ty inst 0)) (operand_of known (word_of inst.ty) (value_at names inst.ty inst 1))
    (operand-back names known s inst.ty (operand_at inst 0) two.first)
    (operand-back names known s inst.ty (operand_at inst 1) two.second))
    (sym (nil_from_length inst.labels has.label_count)) has.no_bundle

pub convert-back : (names : Names) (known : Known) → Setting names known → (op : Conversion) (width : ℕ) (rest : List Line) (inst : Instruction)
    → conversion_of op width ≡ inst.op → Has true is_integer 1 0 inst → GoodAll names inst.operands (inst.ty ∷ [])
    → instruction_said known rest (convert_says names op width inst) ≡ Some inst
convert-back names known s op width rest inst o has good =
    let one = one_given (Good names) inst.operands inst.ty good in
    same-inst inst (Some (result_of inst)) (conversion_of op width) (tys.Int (width_in inst.ty))
    (operand_of known (types.Int (width_in inst.ty)) (value_at names inst.ty inst 0) ∷ []) []
    (result-is inst.result has.result) o (integer-is inst.ty has.type)
    (one.is (operand_of known (types.Int (width_in inst.ty)) (value_at names inst.ty inst 0))
    (ap (λ (w : TypeWord). operand_of known w (value_at names inst.ty inst 0)) (integer-word inst.ty has.type)
    ∙ operand-back names known s inst.ty (operand_at inst 0) one.first))
    (sym (nil_from_length inst.labels has.label_count)) has.no_bundle

pub select-back : (names : Names) (known : Known) → Setting names known → (rest : List Line) (inst : Instruction)
    → ops.Select ≡ inst.op → Has true is_first_class 3 0 inst → GoodAll names inst.operands (tys.Int 1 ∷ inst.ty ∷ inst.ty ∷ [])
    → instruction_said known rest (select_says names inst) ≡ Some inst
select-back names known s rest inst o has good =
    let three = three_given (Good names) inst.operands (tys.Int 1) inst.ty inst.ty good in
    same-inst inst (Some (result_of inst)) ops.Select (type_of (word_of inst.ty))
    (operand_of known (types.Int 1) (value_at names (tys.Int 1) inst 0) ∷ operand_of known (word_of inst.ty) (value_at names inst.ty inst 1)
    ∷ operand_of known (word_of inst.ty) (value_at names inst.ty inst 2) ∷ []) []
    (result-is inst.result has.result) o (word-type inst.ty has.type)
    (three.is (operand_of known (types.Int 1) (value_at names (tys.Int 1) inst 0)) (operand_of known (word_of inst.ty) (value_at names inst.ty inst 1))
    (operand_of known (word_of inst.ty) (value_at names inst.ty inst 2))
    (operand-back names known s (tys.Int 1) (operand_at inst 0) three.first)
    (operand-back names known s inst.ty (operand_at inst 1) three.second)
    (operand-back names known s inst.ty (operand_at inst 2) three.third))
    (sym (nil_from_length inst.labels has.label_count)) has.no_bundle

pub load-back : (names : Names) (known : Known) → Setting names known → (rest : List Line) (inst : Instruction)
    → ops.Load ≡ inst.op → Has true is_first_class 1 0 inst → GoodAll names inst.operands (tys.Ptr ∷ [])
    → instruction_said known rest (load_says names inst) ≡ Some inst
load-back names known s rest inst o has good =
    let one = one_given (Good names) inst.operands tys.Ptr good in
    same-inst inst (Some (result_of inst)) ops.Load (type_of (word_of inst.ty)) (operand_of known types.Managed (value_at names tys.Ptr inst 0) ∷ []) []
    (result-is inst.result has.result) o (word-type inst.ty has.type)
    (one.is (operand_of known types.Managed (value_at names tys.Ptr inst 0)) (operand-back names known s tys.Ptr (operand_at inst 0) one.first))
    (sym (nil_from_length inst.labels has.label_count)) has.no_bundle

pub store-back : (names : Names) (known : Known) → Setting names known → (rest : List Line) (inst : Instruction)
    → ops.Store ≡ inst.op → Has false is_first_class 2 0 inst → GoodAll names inst.operands (inst.ty ∷ tys.Ptr ∷ [])
    → instruction_said known rest (store_says names inst) ≡ Some inst
store-back names known s rest inst o has good =
    let two = two_given (Good names) inst.operands inst.ty tys.Ptr good in
    same-inst inst None ops.Store (type_of (word_of inst.ty))
    (operand_of known (word_of inst.ty) (value_at names inst.ty inst 0) ∷ operand_of known types.Managed (value_at names tys.Ptr inst 1) ∷ []) []
    (no_result inst.result has.result) o (word-type inst.ty has.type)
    (two.is (operand_of known (word_of inst.ty) (value_at names inst.ty inst 0)) (operand_of known types.Managed (value_at names tys.Ptr inst 1))
    (operand-back names known s inst.ty (operand_at inst 0) two.first)
    (operand-back names known s tys.Ptr (operand_at inst 1) two.second))
    (sym (nil_from_length inst.labels has.label_count)) has.no_bundle

-- ---- steps

pub step-back : (names : Names) (known : Known) → Setting names known → (elem : Elem) (width : ℕ) (place : Option ℕ) (rest : List Line) (inst : Instruction)
    → ops.Gep elem width place ≡ inst.op → Has true is_pointer 2 0 inst → is_element elem place ≡ true
    → ((layout : ℕ) → elem ≡ elements.Layout layout → layout < length names.layouts)
    → ((n : ℕ) → place ≡ Some n → n < 2 ^ 32)
    → GoodAll names inst.operands (tys.Ptr ∷ tys.Int width ∷ [])
    → instruction_said known rest (step_says names elem width place inst) ≡ Some inst
step-back names known s elem width place rest inst o has element below small good = by elem place o element below small
  where
    two : Two (Good names) inst.operands tys.Ptr (tys.Int width)
    two = two_given (Good names) inst.operands tys.Ptr (tys.Int width) good

    made : (op : Op) → op ≡ inst.op
        → Some (instruction (Some (result_of inst)) op tys.Ptr
        (operand_of known types.Managed (value_at names tys.Ptr inst 0) ∷ operand_of known (types.Int width) (value_at names (tys.Int width) inst 1) ∷ []) []) ≡ Some inst
    made op e = same-inst inst (Some (result_of inst)) op tys.Ptr
        (operand_of known types.Managed (value_at names tys.Ptr inst 0) ∷ operand_of known (types.Int width) (value_at names (tys.Int width) inst 1) ∷ []) []
        (result-is inst.result has.result) e (pointer-is inst.ty has.type)
        (two.is (operand_of known types.Managed (value_at names tys.Ptr inst 0)) (operand_of known (types.Int width) (value_at names (tys.Int width) inst 1))
        (operand-back names known s tys.Ptr (operand_at inst 0) two.first)
        (operand-back names known s (tys.Int width) (operand_at inst 1) two.second))
        (sym (nil_from_length inst.labels has.label_count)) has.no_bundle

    no_place : (p : Option ℕ) → is_none p ≡ true → None ≡ p
    no_place None e = refl
    no_place (Some n) e = absurd (let bad : false ≡ true = e in cc)

    place-is : (p : Option ℕ) → ((n : ℕ) → p ≡ Some n → n < 2 ^ 32) → option_map place_of (option_map place_says p) ≡ p
    place-is None h = refl
    place-is (Some n) h = let b = h n refl in ap Some (let e : min n (2 ^ 32 - 1) ≡ n = omega arith in e)

    by : (elem : Elem) (place : Option ℕ) → ops.Gep elem width place ≡ inst.op → is_element elem place ≡ true
        → ((layout : ℕ) → elem ≡ elements.Layout layout → layout < length names.layouts)
        → ((n : ℕ) → place ≡ Some n → n < 2 ^ 32)
        → instruction_said known rest (step_says names elem width place inst) ≡ Some inst
    by (elements.Int w) place o e below small =
        made (ops.Gep (elements.Int w) width None)
        (ap (λ (p : Option ℕ). ops.Gep (elements.Int w) width p) (no_place place (second_true (w == 8 || w == 16 || w == 32 || w == 64) (is_none place) e)) ∙ o)
    by elements.Ptr None o e below small = made (ops.Gep elements.Ptr width None) o
    by elements.Ptr (Some n) o e below small = absurd (let bad : false ≡ true = e in cc)
    by (elements.Layout layout) place o e below small =
        ap (λ (n : ℕ). Some (instruction (Some (result_of inst)) (ops.Gep (elements.Layout n) width (option_map place_of (option_map place_says place))) tys.Ptr
        (operand_of known types.Managed (value_at names tys.Ptr inst 0) ∷ operand_of known (types.Int width) (value_at names (tys.Int width) inst 1) ∷ []) []))
        (layout-number names known s layout (below layout refl))
        ∙ made (ops.Gep (elements.Layout layout) width (option_map place_of (option_map place_says place)))
        (ap (λ (p : Option ℕ). ops.Gep (elements.Layout layout) width p) (place-is place small) ∙ o)

-- ---- terminators

pub jump-back : (names : Names) (known : Known) → Setting names known → (rest : List Line) (inst : Instruction)
    → ops.Br ≡ inst.op → Has false is_void 0 1 inst → AllByRecursion (λ label. label.0 < length names.func.blocks) inst.labels
    → instruction_said known rest (jump_says names inst) ≡ Some inst
jump-back names known s rest inst o has below =
    let one = one_label inst.labels (λ label. label.0 < length names.func.blocks) has.label_count below in
    same-inst inst None ops.Br tys.Void [] (label_of known (target_at names inst 0) ∷ [])
    (no_result inst.result has.result) o (void-is inst.ty has.type) (sym (nil_from_length inst.operands has.operand_count))
    (one.1 (label_of known (target_at names inst 0)) (label-back names known s (label_at inst 0) one.0))
    has.no_bundle

pub branch-back : (names : Names) (known : Known) → Setting names known → (rest : List Line) (inst : Instruction)
    → ops.CondBr ≡ inst.op → Has false is_condition 1 2 inst → GoodAll names inst.operands (inst.ty ∷ [])
    → AllByRecursion (λ label. label.0 < length names.func.blocks) inst.labels
    → instruction_said known rest (branch_says names inst) ≡ Some inst
branch-back names known s rest inst o has good below =
    let two = two_labels inst.labels (λ label. label.0 < length names.func.blocks) has.label_count below in
    let one = one_given (Good names) inst.operands inst.ty good in
    same-inst inst None ops.CondBr (tys.Int 1) (operand_of known (types.Int 1) (value_at names (tys.Int 1) inst 0) ∷ [])
    (label_of known (target_at names inst 0) ∷ label_of known (target_at names inst 1) ∷ [])
    (no_result inst.result has.result) o (condition-is inst.ty has.type)
    (one.is (operand_of known (types.Int 1) (value_at names (tys.Int 1) inst 0))
    (operand-back names known s (tys.Int 1) (operand_at inst 0) (subst (λ (t : Ty). Good names (operand_at inst 0) t) (sym (condition-is inst.ty has.type)) one.first)))
    (two.2 (label_of known (target_at names inst 0)) (label_of known (target_at names inst 1))
    (label-back names known s (label_at inst 0) two.0) (label-back names known s (label_at inst 1) two.1))
    has.no_bundle

pub return-back : (names : Names) (known : Known) → Setting names known → (rest : List Line) (inst : Instruction)
    → ops.Ret ≡ inst.op → is_some inst.result ≡ false → is_answer inst.ty ≡ true
    → length inst.operands ≡ (if is_void inst.ty then 0 else 1) → inst.labels ≡ [] → inst.bundle ≡ []
    → GoodAll names inst.operands (replicate (length inst.operands) inst.ty)
    → instruction_said known rest (return_says names inst.ty inst) ≡ Some inst
return-back names known s rest inst o result answer count labels bundle good = by inst.ty refl answer count
    (subst (λ (n : ℕ). GoodAll names inst.operands (replicate n inst.ty)) count good)
  where
    value : (ty : Ty) → inst.ty ≡ ty → is_first_class ty ≡ true → GoodAll names inst.operands (ty ∷ [])
        → Some (instruction None ops.Ret (type_of (word_of ty)) (operand_of known (word_of ty) (value_at names ty inst 0) ∷ []) []) ≡ Some inst
    value ty e first given =
        let one = one_given (Good names) inst.operands ty given in
        same-inst inst None ops.Ret (type_of (word_of ty)) (operand_of known (word_of ty) (value_at names ty inst 0) ∷ []) []
        (no_result inst.result result) o (word-type ty first ∙ sym e)
        (one.is (operand_of known (word_of ty) (value_at names ty inst 0)) (operand-back names known s ty (operand_at inst 0) one.first))
        (sym labels) bundle

    by : (ty : Ty) → inst.ty ≡ ty → is_answer ty ≡ true → length inst.operands ≡ (if is_void ty then 0 else 1)
        → GoodAll names inst.operands (replicate (if is_void ty then 0 else 1) ty)
        → instruction_said known rest (return_says names ty inst) ≡ Some inst
    by tys.Void e a n given =
        same-inst inst None ops.Ret tys.Void [] [] (no_result inst.result result) o (sym e) (sym (nil_from_length inst.operands n)) (sym labels) bundle
    by (tys.Int w) e a n given = value (tys.Int w) e refl given
    by tys.Ptr e a n given = value tys.Ptr e refl given
    by tys.Token e a n given = absurd (let bad : false ≡ true = a in cc)
