-- What is lost behind one more use or name.
use Rattle.std.proofs.Common.{◌≡◌, ◌∙◌, ℕ, ◌+◌, ◌<◌, ◌≤◌, Bool, true, false, ◌||◌, List, [], ◌∷◌, ◌++◌, length, get_or, drop, refl, ap, sym}
use Rattle.std.specs.Prelude.{Option, Some, None, map, filter_map, is_none, option_to_list}
use Rattle.std.specs.List.{cons_option, list_any}
use Rattle.line_parts.specs.Types.{TypeWord}
use Rattle.line_parts.specs.declared.readings.Passed.{Passed}
use Rattle.line_parts.specs.Parts.{Val}
use Rattle.line_parts.specs.Seen.{seen_passed}
use Rattle.std.proofs.Math.Bool.{or-false}
use Rattle.std.proofs.lemmas.List.{drop_all}
use Rattle.list_laws.proofs.Places.{drop_item}
use Rattle.ir_lines.specs.Parts.{passed_value, passed_function}
use Rattle.ir_lines.specs.Places.{place_in}
use Rattle.module_build.specs.declared.lost.Lost.{Lost}
use Rattle.module_build.specs.Lost.{is_missing, after_uses, after_names, after_named}
use Rattle.list_laws.proofs.Booleans.{or_turn}

-- ---- uses

pub uses-append : (names : List (List ℕ)) (lost : Lost) (xs ys : List (Val × TypeWord)) → after_uses names lost (xs ++ ys) ≡ after_uses names (after_uses names lost xs) ys
uses-append names lost [] ys = refl
uses-append names lost (x ∷ xs) ys = uses-append names (after_uses names lost (x ∷ [])) xs ys

-- uses behind others
pub uses-more : (names : List (List ℕ)) (start lost new : Lost) (xs ys more : List (Val × TypeWord)) → more ≡ ys
    → lost ≡ after_uses names start xs → new ≡ after_uses names lost more → new ≡ after_uses names start (xs ++ ys)
uses-more names start lost new xs ys more same so_far now =
    now ∙ ap (λ (used : List (Val × TypeWord)). after_uses names lost used) same
    ∙ ap (λ (one : Lost). after_uses names one ys) so_far ∙ sym (uses-append names start xs ys)

-- ---- names

pub names-any : (names : List (List ℕ)) (unknown : Bool) (wanted : List (List ℕ))
    → after_names names unknown wanted ≡ (list_any (λ name. is_none (place_in names name)) wanted || unknown)
names-any names unknown [] = refl
names-any names unknown (name ∷ wanted) =
    names-any names (is_none (place_in names name) || unknown) wanted
    ∙ or_turn (is_none (place_in names name)) (list_any (λ other. is_none (place_in names other)) wanted) unknown

pub names-or : (names : List (List ℕ)) (unknown : Bool) (wanted : List (List ℕ)) → after_names names unknown wanted ≡ (after_names names false wanted || unknown)
names-or names unknown wanted =
    names-any names unknown wanted
    ∙ ap (λ (b : Bool). b || unknown) (sym (names-any names false wanted ∙ or-false (list_any (λ other. is_none (place_in names other)) wanted)))

abbrev lost_with : Bool → Bool → Lost
lost_with unknown misspelled = record { unknown = unknown; misspelled = misspelled }

-- names that were looked for apart from the uses beside them
pub named-apart : (names blocks wanted : List (List ℕ)) (used : List (Val × TypeWord)) (start lost new : Lost) (unknown : Bool)
    → lost ≡ after_uses names start used → unknown ≡ after_names blocks false wanted → new ≡ lost_with (unknown || lost.unknown) lost.misspelled
    → new ≡ after_named blocks wanted (after_uses names start used)
named-apart names blocks wanted used start lost new unknown l u n =
    n ∙ ap (λ (b : Bool). lost_with (b || lost.unknown) lost.misspelled) u
    ∙ ap (λ (b : Bool). lost_with b lost.misspelled) (sym (names-or blocks lost.unknown wanted))
    ∙ ap (λ (one : Lost). after_named blocks wanted one) l

pub all-done : {A : Type 0} {B : Type 0} (f : B → List A → B) (xs : List A) (i : ℕ) (so_far whole : B) → length xs ≤ i → f so_far [] ≡ so_far
    → f so_far (drop i xs) ≡ whole → so_far ≡ whole
all-done f xs i so_far whole end none e = sym none ∙ ap (λ ys. f so_far ys) (sym (drop_all i xs end)) ∙ e
