-- The first function of its name.
use Rattle.std.proofs.Common.{◌≡◌, ◌≢◌, ◌∙◌, ℕ, zero, suc, ◌+◌, List, [], ◌∷◌, ◌++◌, length, take, drop, refl, ap, sym, subst}
use Rattle.std.specs.Prelude.{Some, slice_get, codes}
use Rattle.std.specs.List.{All}
use Rattle.std.proofs.lemmas.List.Elements.{All-head, All-tail}
use Rattle.list_laws.proofs.Places.{split_at, get_middle}
use Rattle.list_laws.proofs.Contents.{all_at}
use Rattle.ir_ast.specs.Funcs.{Function}
use Rattle.ir_ast.specs.Modules.{ModuleContent}
use Rattle.ir_ast.specs.Faults.NoMain.{HasMain}
use Rattle.ir_verify.specs.Mains.{IsMain}

abbrev pub IsOther : Function → Type 0
IsOther func = func.name ≢ codes "main"

pub main_at : (content : ModuleContent) (i : ℕ) (func : Function) → slice_get content.funcs i ≡ Some func → All IsOther (take i content.funcs)
    → func.name ≡ codes "main" → IsMain func → HasMain content
main_at content i func at others name main = record {
  earlier = take i content.funcs;
  main = func;
  later = drop (i + 1) content.funcs;
  whole = split_at content.funcs i func at;
  first = others;
  name = name;
  args = main.args;
  answer = main.answer;
}

first_same : (funcs earlier later : List Function) (main : Function) (i : ℕ) (func : Function) → funcs ≡ earlier ++ main ∷ later → All IsOther earlier
    → main.name ≡ codes "main" → slice_get funcs i ≡ Some func → All IsOther (take i funcs) → func.name ≡ codes "main" → func ≡ main
first_same funcs [] later main zero func whole others name at before named =
    let e : Some func ≡ Some main = sym at ∙ ap (λ (fs : List Function). slice_get fs 0) whole in cc
first_same funcs [] later main (suc i) func whole others name at before named =
    absurd (All-head IsOther main (take i later) (subst (λ (fs : List Function). All IsOther (take (suc i) fs)) whole before) name)
first_same funcs (f ∷ earlier) later main zero func whole others name at before named =
    let e : Some func ≡ Some f = sym at ∙ ap (λ (fs : List Function). slice_get fs 0) whole in
    let same : f ≡ func = cc in
    absurd (All-head IsOther f earlier others (ap (λ (g : Function). g.name) same ∙ named))
first_same funcs (f ∷ earlier) later main (suc i) func whole others name at before named =
    first_same (earlier ++ main ∷ later) earlier later main i func refl (All-tail IsOther f earlier others) name
    (sym (ap (λ (fs : List Function). slice_get fs (suc i)) whole) ∙ at)
    (All-tail IsOther f (take i (earlier ++ main ∷ later)) (subst (λ (fs : List Function). All IsOther (take (suc i) fs)) whole before)) named

pub main_is : (content : ModuleContent) (i : ℕ) (func : Function) → slice_get content.funcs i ≡ Some func → All IsOther (take i content.funcs)
    → func.name ≡ codes "main" → HasMain content → IsMain func
main_is content i func at others name has =
    let same = first_same content.funcs has.earlier has.later has.main i func has.whole has.first has.name at others name in
    subst IsMain (sym same) (record { args = has.args; answer = has.answer })

pub main_none : (content : ModuleContent) → All IsOther content.funcs → ¬ HasMain content
main_none content others has =
    all_at IsOther content.funcs (length has.earlier) has.main others
    (ap (λ (fs : List Function). slice_get fs (length has.earlier)) has.whole ∙ get_middle has.earlier has.main has.later) has.name
