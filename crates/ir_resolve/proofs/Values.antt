-- The numbers of the values of a definition by their names: the first place of a name, and the place of a result.
use Rattle.std.proofs.Common.{◌≡◌, ◌∙◌, inl, inr, ℕ, suc, ◌+◌, ◌-◌, ◌<◌, ◌^◌, Bool, true, false, cond, List, [], ◌∷◌, ◌++◌, map, length, take, refl, ap, sym, subst, arith, append_assoc}
use Rattle.std.specs.Prelude.{Option, Some, None, is_some, flat_map, slice_get, option_map, min, is_none}
use Rattle.std.specs.List.{Contains}
use Rattle.std.specs.Str.{bytes_eq}
use Rattle.std.proofs.lemmas.List.{map-append}
use Rattle.std.proofs.lemmas.Option.{same_Some, none-some}
use Rattle.list_laws.proofs.Contents.{contains_cons, contains_none, same_bytes}
use Rattle.ir_lines.proofs.PlaceLemmas.{bytes_eq-self}
use Rattle.ir_lines.proofs.LawNames.{position-cons, stands, stands_below, number-is}
use Rattle.ir_ast.specs.Insts.{Instruction}
use Rattle.ir_ast.specs.Funcs.{Function}
use Rattle.ir_lines.specs.Statements.{Line}
use Rattle.ir_lines.specs.Parts.{gives}
use Rattle.ir_lines.specs.Places.{place_in, number_of, number_in}
use Rattle.ir_lines.specs.Sections.{Definition, Naming, result_named, arguments_named, values_before, values_of}
use Rattle.ir_lines.specs.Modules.{Known, known_of, function_of}
use Rattle.ir_lines.specs.Scope.{scope_of, value_named}

-- ---- the first place of a name

pub place_split : (names : List (List ℕ)) (name : List ℕ) (v : ℕ) → place_in names name ≡ Some v
    → (slice_get names v ≡ Some name) × ¬ Contains (take v names) name
place_split [] name v e = absurd (none-some v e)
place_split (x ∷ xs) name v e = by (bytes_eq name x) refl v (sym (position-cons (bytes_eq name) x xs) ∙ e) (place_split xs name)
  where
    later : (o : Option ℕ) → place_in xs name ≡ o → (v : ℕ) → option_map suc o ≡ Some v → bytes_eq name x ≡ false
        → ((w : ℕ) → place_in xs name ≡ Some w → (slice_get xs w ≡ Some name) × ¬ Contains (take w xs) name)
        → (slice_get (x ∷ xs) v ≡ Some name) × ¬ Contains (take v (x ∷ xs)) name
    later None o v f is ih = absurd (none-some v f)
    later (Some w) o v f is ih =
        let m = ih w o in
        let at : suc w ≡ v = same_Some (suc w) v f in
        subst (λ (k : ℕ). (slice_get (x ∷ xs) k ≡ Some name) × ¬ Contains (take k (x ∷ xs)) name) at (
          m.0,
          λ c. elim (contains_cons x name (take w xs) c) [
            | inl same ↦ (let bad : true ≡ false = sym (bytes_eq-self name) ∙ ap (bytes_eq name) (sym same) ∙ is in cc)
            | inr inner ↦ m.1 inner
          ],
        )

    by : (b : Bool) → bytes_eq name x ≡ b → (v : ℕ) → cond (bytes_eq name x) (Some 0) (option_map suc (place_in xs name)) ≡ Some v
        → ((w : ℕ) → place_in xs name ≡ Some w → (slice_get xs w ≡ Some name) × ¬ Contains (take w xs) name)
        → (slice_get (x ∷ xs) v ≡ Some name) × ¬ Contains (take v (x ∷ xs)) name
    by true is v f ih =
        let at : 0 ≡ v = same_Some 0 v (sym (ap (λ (c : Bool). cond c (Some 0) (option_map suc (place_in xs name))) is) ∙ f) in
        subst (λ (k : ℕ). (slice_get (x ∷ xs) k ≡ Some name) × ¬ Contains (take k (x ∷ xs)) name) at
        (ap Some (sym (same_bytes name x is)), λ c. contains_none name c)
    by false is v f ih =
        later (place_in xs name) refl v (sym (ap (λ (c : Bool). cond c (Some 0) (option_map suc (place_in xs name))) is) ∙ f) is ih

pub number_place : (names : List (List ℕ)) (name : List ℕ) (v : ℕ) → number_in names name ≡ v → v < 2 ^ 32 - 1 → place_in names name ≡ Some v
number_place names name v e few = by (place_in names name) refl
  where
    by : (o : Option ℕ) → place_in names name ≡ o → place_in names name ≡ Some v
    by None is = absurd (let bad : 2 ^ 32 - 1 ≡ v = sym (ap number_of is) ∙ e in omega arith)
    by (Some w) is = is ∙ ap Some (let same : min w (2 ^ 32 - 1) ≡ v = sym (ap number_of is) ∙ e in let r : w ≡ v = omega arith in r)

-- ---- results, one by one

abbrev pub has_result : Instruction → Bool
has_result inst = is_some inst.result

abbrev pub results : List Line → List Naming
results ls = flat_map (λ l. result_named l.number (gives l.says)) ls

-- ---- the place of a result

abbrev pub made_of : List Line → Definition → Function
made_of lines func = function_of (known_of lines func) func

abbrev pub names_of : List Naming → List (List ℕ)
names_of ns = map (λ one. one.name) ns

results-append : (a b : List Line) → results (a ++ b) ≡ results a ++ results b
results-append [] b = refl
results-append (l ∷ a) b =
    ap (λ (ns : List Naming). result_named l.number (gives l.says) ++ ns) (results-append a b) ∙ sym (append_assoc (result_named l.number (gives l.says)) (results a) (results b))

pub names-split : (func : Definition) (before : List Line) (l : Line) (after : List Line) → func.body ≡ before ++ l ∷ after
    → names_of (values_of func) ≡ names_of (values_before func before) ++ (names_of (result_named l.number (gives l.says)) ++ names_of (results after))
names-split func before l after whole =
    let args = arguments_named func.line [] func.arguments in
    let own = result_named l.number (gives l.says) in
    ap (λ (ls : List Line). names_of (args ++ results ls)) whole
    ∙ ap (λ (ns : List Naming). names_of (args ++ ns)) (results-append before (l ∷ after))
    ∙ ap names_of (sym (append_assoc args (results before) (own ++ results after)))
    ∙ map-append (λ (one : Naming). one.name) (args ++ results before) (own ++ results after)
    ∙ ap (λ (ns : List (List ℕ)). names_of (args ++ results before) ++ ns) (map-append (λ (one : Naming). one.name) own (results after))

-- ---- from the module

-- ---- a token that has a name

pub token_numbered : (lines : List Line) (func : Definition) → length (values_of func) < 2 ^ 32 → (token : List ℕ)
    → is_none (value_named (scope_of lines func) token) ≡ false → number_in (known_of lines func).values token < 2 ^ 32 - 1
token_numbered lines func few token known =
    let s = stands (λ (one : Naming). one.name) (values_of func) token known in
    let is : number_in (known_of lines func).values token ≡ s.place =
    number-is (λ (one : Naming). one.name) (values_of func) token s few in
    let below = stands_below (λ (one : Naming). one.name) (values_of func) token s in
    omega (arith, is, below)
