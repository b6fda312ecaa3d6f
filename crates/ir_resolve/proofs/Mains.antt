-- Code 11: the first definition named `@main` is one exactly where the first such function of the module is.
use Rattle.std.proofs.Common.{◌≡◌, ◌≢◌, ◌∙◌, ◌⊎◌, inl, inr, ℕ, Bool, true, false, cond, ◌&&◌, ◌||◌, ◌==◌, List, [], ◌∷◌, ◌++◌, map, refl, ap, sym}
use Rattle.std.specs.Prelude.{Some, find, codes}
use Rattle.std.specs.List.{AllByRecursion}
use Rattle.std.specs.Str.{bytes_eq}
use Rattle.std.proofs.lemmas.List.{map-append}
use Rattle.std.proofs.lemmas.List.Elements.{All-from_recursion, recursion_from_All}
use Rattle.std.proofs.lemmas.Slice.Eq.{bytes_eq-Decides}
use Rattle.std.proofs.lemmas.Bool.Decides.{Decides-eqb}
use Rattle.ir_ast.specs.declared.modules.Form.{Form}
use Rattle.ir_ast.specs.declared.types.Ty.TheVariants as tys
use Rattle.ir_ast.specs.Funcs.{Function}
use Rattle.ir_ast.specs.Faults.NoMain.{HasMain}
use Rattle.line_parts.specs.Types.{TypeWord}
use Rattle.line_parts.specs.Types.{Void, Int, Managed, Plain}
use Rattle.line_parts.specs.Lists.{Named}
use Rattle.ir_lines.specs.Statements.{Line}
use Rattle.ir_lines.specs.Sections.{Definition, definitions_of, arguments_named}
use Rattle.ir_lines.specs.Modules.{known_of, type_of, argument_of, function_of, module_of}
use Rattle.ir_lines.specs.Faults.NoMain.{NoMain, is_main, takes_nothing, is_status}
use Rattle.list_laws.proofs.Booleans.{true_and_false, first_true, second_true}
use Rattle.std.proofs.lemmas.Bool.{and_from}

abbrev is_named : Definition → Bool
is_named func = bytes_eq func.name (codes "main")

abbrev made : List Line → Definition → Function
made lines func = function_of (known_of lines func) func

-- ---- from the lines

record MainIn (defs : List Definition) : Type 0 where
  earlier : List Definition
  main : Definition
  later : List Definition
  whole : defs ≡ earlier ++ main ∷ later
  first : AllByRecursion (λ func. func.name ≢ codes "main") earlier
  name : main.name ≡ codes "main"
  found : find is_named defs ≡ Some main

main_in : (defs : List Definition) → is_main (find is_named defs) ≡ true → MainIn defs
main_in [] e = absurd (let bad : false ≡ true = e in cc)
main_in (d ∷ ds) e = by (is_named d) refl (main_in ds)
  where
    by : (b : Bool) → is_named d ≡ b → (is_main (find is_named ds) ≡ true → MainIn ds) → MainIn (d ∷ ds)
    by true is ih = record {
      earlier = [];
      main = d;
      later = ds;
      whole = refl;
      first = tt;
      name = (bytes_eq-Decides d.name (codes "main")).0 is;
      found = ap (λ (b : Bool). cond b (Some d) (find is_named ds)) is;
    }
    by false is ih =
        let skip : find is_named (d ∷ ds) ≡ find is_named ds = ap (λ (b : Bool). cond b (Some d) (find is_named ds)) is in
        let more = ih (sym (ap is_main skip) ∙ e) in
        record {
          earlier = d ∷ more.earlier;
          main = more.main;
          later = more.later;
          whole = ap (λ (xs : List Definition). d ∷ xs) more.whole;
          first = ((λ same. true_and_false (is_named d) ((bytes_eq-Decides d.name (codes "main")).1 same) is), more.first);
          name = more.name;
          found = skip ∙ more.found;
        }

status : (ty : TypeWord) → is_status ty ≡ true → (type_of ty ≡ tys.Int 32) ⊎ (type_of ty ≡ tys.Int 64)
status (Int width) e = by (width == 32) refl (width == 64) refl e
  where
    by : (a : Bool) → (width == 32) ≡ a → (b : Bool) → (width == 64) ≡ b → (a || b) ≡ true → (type_of (Int width) ≡ tys.Int 32) ⊎ (type_of (Int width) ≡ tys.Int 64)
    by true f b g e = inl (ap tys.Int ((Decides-eqb width 32).0 f))
    by false f true g e = inr (ap tys.Int ((Decides-eqb width 64).0 g))
    by false f false g e = absurd (let bad : false ≡ true = e in cc)
status Void e = absurd (let bad : false ≡ true = e in cc)
status Managed e = absurd (let bad : false ≡ true = e in cc)
status Plain e = absurd (let bad : false ≡ true = e in cc)

no_arguments : (line : ℕ) (arguments : List Named) → takes_nothing arguments ≡ true → map argument_of (arguments_named line [] arguments) ≡ []
no_arguments line [] e = refl
no_arguments line (one ∷ more) e = absurd (let bad : false ≡ true = e in cc)

names_made : (lines : List Line) (defs : List Definition) → AllByRecursion (λ func. func.name ≢ codes "main") defs
    → AllByRecursion (λ func. func.name ≢ codes "main") (map (made lines) defs)
names_made lines [] all = tt
names_made lines (d ∷ ds) all = (all.0, names_made lines ds all.1)

pub has_main : (form : Form) (lines : List Line) → is_main (find is_named (definitions_of lines)) ≡ true → HasMain (module_of form lines).content
has_main form lines is =
    let m = main_in (definitions_of lines) is in
    let right : (takes_nothing m.main.arguments && is_status m.main.answer) ≡ true = sym (ap is_main m.found) ∙ is in
    record {
      earlier = map (made lines) m.earlier;
      main = made lines m.main;
      later = map (made lines) m.later;
      whole = ap (map (made lines)) m.whole ∙ map-append (made lines) m.earlier (m.main ∷ m.later);
      first = All-from_recursion (λ (func : Function). func.name ≢ codes "main") (map (made lines) m.earlier) (names_made lines m.earlier m.first);
      name = m.name;
      args = no_arguments m.main.line m.main.arguments (first_true (takes_nothing m.main.arguments) (is_status m.main.answer) right);
      answer = status m.main.answer (second_true (takes_nothing m.main.arguments) (is_status m.main.answer) right);
    }

-- ---- from the module

nothing : (line : ℕ) (arguments : List Named) → map argument_of (arguments_named line [] arguments) ≡ [] → takes_nothing arguments ≡ true
nothing line [] e = refl
nothing line (one ∷ more) e = absurd (cc)

answers : (ty : TypeWord) → (type_of ty ≡ tys.Int 32) ⊎ (type_of ty ≡ tys.Int 64) → is_status ty ≡ true
answers (Int width) (inl e) =
    let same : width ≡ 32 = cc in
    ap (λ (b : Bool). b || (width == 64)) ((Decides-eqb width 32).1 same)
answers (Int width) (inr e) =
    let same : width ≡ 64 = cc in
    ap (λ (b : Bool). (width == 32) || b) ((Decides-eqb width 64).1 same) ∙ or-true (width == 32)
  where
    or-true : (b : Bool) → (b || true) ≡ true
    or-true true = refl
    or-true false = refl
answers Void (inl e) = absurd (cc)
answers Void (inr e) = absurd (cc)
answers Managed (inl e) = absurd (cc)
answers Managed (inr e) = absurd (cc)
answers Plain (inl e) = absurd (cc)
answers Plain (inr e) = absurd (cc)

found_main : (lines : List Line) (defs : List Definition) (earlier : List Function) (main : Function) (later : List Function)
    → map (made lines) defs ≡ earlier ++ main ∷ later → AllByRecursion (λ func. func.name ≢ codes "main") earlier → main.name ≡ codes "main"
    → main.args ≡ [] → (main.answer ≡ tys.Int 32) ⊎ (main.answer ≡ tys.Int 64) → is_main (find is_named defs) ≡ true
found_main lines [] [] main later whole first name args answer = absurd (cc)
found_main lines [] (e ∷ es) main later whole first name args answer = absurd (cc)
found_main lines (d ∷ ds) [] main later whole first name args answer =
    let same : made lines d ≡ main = cc in
    let named : is_named d ≡ true = (bytes_eq-Decides d.name (codes "main")).1 (ap (λ (f : Function). f.name) same ∙ name) in
    ap (λ (b : Bool). is_main (cond b (Some d) (find is_named ds))) named
    ∙ and_from (takes_nothing d.arguments) (is_status d.answer) (nothing d.line d.arguments (ap (λ (f : Function). f.args) same ∙ args))
    (answers d.answer (by same answer))
  where
    by : made lines d ≡ main → (main.answer ≡ tys.Int 32) ⊎ (main.answer ≡ tys.Int 64) → (type_of d.answer ≡ tys.Int 32) ⊎ (type_of d.answer ≡ tys.Int 64)
    by same (inl e) = inl (ap (λ (f : Function). f.answer) same ∙ e)
    by same (inr e) = inr (ap (λ (f : Function). f.answer) same ∙ e)
found_main lines (d ∷ ds) (e ∷ es) main later whole first name args answer =
    let same : made lines d ≡ e = cc in
    let rest : map (made lines) ds ≡ es ++ main ∷ later = cc in
    by (is_named d) refl same (found_main lines ds es main later rest first.1 name args answer)
  where
    by : (b : Bool) → is_named d ≡ b → made lines d ≡ e → is_main (find is_named ds) ≡ true → is_main (find is_named (d ∷ ds)) ≡ true
    by true is same ih = absurd (first.0 (sym (ap (λ (f : Function). f.name) same) ∙ (bytes_eq-Decides d.name (codes "main")).0 is))
    by false is same ih = ap (λ (b : Bool). is_main (cond b (Some d) (find is_named ds))) is ∙ ih

-- ---- the law

pub main_resolved : (form : Form) (lines : List Line) (line : ℕ) → NoMain lines line → ¬ HasMain (module_of form lines).content
main_resolved form lines line fault main =
    true_and_false (is_main (find is_named (definitions_of lines)))
    (found_main lines (definitions_of lines) main.earlier main.main main.later main.whole
    (recursion_from_All (λ (func : Function). func.name ≢ codes "main") main.earlier main.first) main.name main.args main.answer) fault.lacks
