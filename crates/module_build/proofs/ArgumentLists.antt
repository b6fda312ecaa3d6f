-- The arguments of a head, from their types and their names.
use Rattle.std.proofs.Common.{◌≡◌, ◌∙◌, ℕ, List, [], ◌∷◌, ◌++◌, ◌+◌, ◌<◌, ◌≤◌, length, get_or, drop, refl, ap, sym}
use Rattle.std.specs.Prelude.{map, unwrap_or, decimal}
use Rattle.std.proofs.lemmas.List.{length-map, append-nil, drop_all, drop_more}
use Rattle.ir_ast.specs.declared.types.Ty.{Ty}
use Rattle.ir_ast.specs.declared.funcs.Arg.{Arg}
use Rattle.line_parts.specs.Lists.{Named}
use Rattle.ir_lines.specs.Sections.{Naming, arguments_named, count_numbered}
use Rattle.ir_lines.specs.Modules.{type_of, argument_of}
use Rattle.module_build.proofs.CaseLemmas.{moved}
use Rattle.list_laws.proofs.Places.{drop_item}
use Rattle.ir_lines.proofs.TableLemmas.{length-arguments}

abbrev pub paired : List Named → List (List ℕ) → List Arg
paired [] names = []
paired (one ∷ more) [] = []
paired (one ∷ more) (name ∷ names) = record { name = name; ty = type_of one.ty } ∷ paired more names

paired-named : (line : ℕ) (before arguments : List Named)
    → paired arguments (map (λ (one : Naming). one.name) (arguments_named line before arguments)) ≡ map argument_of (arguments_named line before arguments)
paired-named line before [] = refl
paired-named line before (one ∷ more) =
    ap (λ (xs : List Arg). argument_of (record { line = line; name = unwrap_or one.name (decimal (count_numbered before)); ty = one.ty }) ∷ xs)
    (paired-named line (before ++ one ∷ []) more)

pub paired-is : (line : ℕ) (arguments : List Named) (names : List (List ℕ))
    → names ≡ map (λ (one : Naming). one.name) (arguments_named line [] arguments) → paired arguments names ≡ map argument_of (arguments_named line [] arguments)
paired-is line arguments names e = ap (λ (ns : List (List ℕ)). paired arguments ns) e ∙ paired-named line [] arguments

abbrev argument_with : List ℕ → Ty → Arg
argument_with name ty = record { name = name; ty = ty }

-- one more argument, in a loop over the types and the names
pub paired-more : {A B : Type 0} (f : A → Named) (g : B → List ℕ) (xs : List A) (ys : List B) (i : ℕ) (d : A) (y : B) (name : List ℕ) (ty : Ty) (old new whole : List Arg)
    → i < length xs → i < length ys → y ≡ get_or ys i y → name ≡ g y → ty ≡ type_of (f (get_or xs i d)).ty → new ≡ old ++ argument_with name ty ∷ []
    → old ++ paired (map f (drop i xs)) (map g (drop i ys)) ≡ whole → new ++ paired (map f (drop (i + 1) xs)) (map g (drop (i + 1) ys)) ≡ whole
paired-more f g xs ys i d y name ty old new whole in' also is n t added so_far =
    let rest = paired (map f (drop (i + 1) xs)) (map g (drop (i + 1) ys)) in
    let one = get_or xs i d in
    moved old new (argument_with name ty) (paired (map f (drop i xs)) (map g (drop i ys))) rest whole added
    (ap (λ zs. paired (map f zs) (map g (drop i ys))) (drop_more xs i d in')
    ∙ ap (λ zs. paired (map f (one ∷ drop (i + 1) xs)) (map g zs)) (drop_item ys i y also is)
    ∙ ap (λ (x : List ℕ). argument_with x (type_of (f one).ty) ∷ rest) (sym n)
    ∙ ap (λ (x : Ty). argument_with name x ∷ rest) (sym t)) so_far

pub paired-all : {A B : Type 0} (f : A → Named) (g : B → List ℕ) (xs : List A) (ys : List B) (i : ℕ) (items whole : List Arg)
    → length xs ≤ i → items ++ paired (map f (drop i xs)) (map g (drop i ys)) ≡ whole → items ≡ whole
paired-all f g xs ys i items whole end e =
    sym (append-nil items) ∙ ap (λ zs. items ++ paired (map f zs) (map g (drop i ys))) (sym (drop_all i xs end)) ∙ e

pub as-many : {B : Type 0} (line : ℕ) (arguments : List Named) (g : B → List ℕ) (names : List B)
    → map g names ≡ map (λ (one : Naming). one.name) (arguments_named line [] arguments) → length names ≡ length arguments
as-many line arguments g names e =
    sym (length-map names g) ∙ ap length e ∙ length-map (arguments_named line [] arguments) (λ (one : Naming). one.name)
    ∙ length-arguments line [] arguments
