-- Going over the functions of a module up to the first with a use that isn't definite.
use Rattle.std.proofs.Common.{◌≡◌, ◌∙◌, ℕ, ◌+◌, ◌≤◌, ◌<◌, inl, inr, refl, sym, ap, subst, List, [], length, map, get_or, Some, None, Option, IfNone, IfSome, arith}
use Rattle.std.specs.List.{All}
use Rattle.std.specs.Prelude.{slice_get, slice_index, option_map, unwrap_or}
use Rattle.std.proofs.lemmas.Bool.{cases_order}
use Rattle.std.proofs.lemmas.List.{get_or_default}
use Rattle.std.proofs.lemmas.Option.{slice_get-map, slice_get_read, slice_get_within, get_or_from_slice_get}
use Rattle.ir_ast.specs.Funcs.{Function, LinedFunction, content_of, lines_of}
use Rattle.ir_ast.specs.Modules.{LinedModule}
use Rattle.ir_cfg.specs.DefiniteUses.{UsesAreDefinite}
use Rattle.definite_assign.specs.Faults.{IsFirstLine}
use Rattle.ir_types.specs.FirstMissed.{IsFirstMissed}

pub all_at : (P : Function → Type 0) (funcs : List Function) (number : ℕ) (func : Function) → All P funcs → slice_get funcs number ≡ Some func → P func
all_at P funcs number func all stands =
    subst P (get_or_from_slice_get funcs number func func stands) (all number func (slice_get_within funcs number func stands))

pub same_func : (funcs : List Function) (number : ℕ) (func one : Function) → slice_get funcs number ≡ Some func → slice_get funcs number ≡ Some one → func ≡ one
same_func funcs number func one stands also = let same : Some func ≡ Some one = sym stands ∙ also in cc

-- what a turn reads
pub content_at : (funcs : List LinedFunction) (contents : List Function) (number : ℕ) (one : LinedFunction) → map content_of funcs ≡ contents
    → number < length funcs → one ≡ get_or funcs number one → slice_get contents number ≡ Some one.content
content_at funcs contents number one are below is =
    ap (λ (cs : List Function). slice_get cs number) (sym are) ∙ slice_get-map content_of funcs number
    ∙ ap (λ (o : Option LinedFunction). option_map content_of o) (slice_get_read funcs (length funcs) number one refl below is)

pub lines_at : (funcs : List LinedFunction) (lines : List (List ℕ)) (number : ℕ) (one : LinedFunction) → map lines_of funcs ≡ lines
    → number < length funcs → one ≡ get_or funcs number one → slice_get lines number ≡ Some one.lines
lines_at funcs lines number one are below is =
    ap (λ (ls : List (List ℕ)). slice_get ls number) (sym are) ∙ slice_get-map lines_of funcs number
    ∙ ap (λ (o : Option LinedFunction). option_map lines_of o) (slice_get_read funcs (length funcs) number one refl below is)

abbrev pub DefiniteUpTo : List Function → ℕ → Type 0
DefiniteUpTo funcs until = (earlier : ℕ) (one : Function) → earlier < until → slice_get funcs earlier ≡ Some one → UsesAreDefinite one

pub none_found : (func : Function) (found : Option ℕ) → IfNone found (UsesAreDefinite func) → found ≡ None → UsesAreDefinite func
none_found func found none is = subst (λ (o : Option ℕ). IfNone o (UsesAreDefinite func)) is none

pub up_to_next : (funcs : List Function) (number : ℕ) (func : Function) → DefiniteUpTo funcs number → slice_get funcs number ≡ Some func
    → UsesAreDefinite func → DefiniteUpTo funcs (number + 1)
up_to_next funcs number func before stands definite earlier one below at =
    elim (cases_order earlier number) [
      | inl e ↦
          let moved : slice_get funcs number ≡ Some one = subst (λ (n : ℕ). slice_get funcs n ≡ Some one) e at in
          subst UsesAreDefinite (same_func funcs number func one stands moved) definite
      | inr apart ↦ elim apart [
        | inl less ↦ before earlier one less at
        | inr more ↦ absurd (omega (arith, below, more))
      ]
    ]

pub all_definite : (funcs : List Function) (until : ℕ) → DefiniteUpTo funcs until → length funcs ≤ until → All UsesAreDefinite funcs
all_definite funcs until before end k d below =
    before k (get_or funcs k d) (omega (arith, below, end))
    (slice_get_read funcs (length funcs) k (get_or funcs k d) refl below (get_or_default funcs k d (get_or funcs k d) below))

abbrev line_in : List ℕ → ℕ → ℕ
line_in lines place = slice_index lines place

pub first_found : (whole : LinedModule) (number : ℕ) (one : LinedFunction) (found : Option ℕ) (line : ℕ) → DefiniteUpTo whole.content.funcs number
    → slice_get whole.content.funcs number ≡ Some one.content → slice_get whole.lines number ≡ Some one.lines
    → IfSome found (λ line. IsFirstLine one line) → found ≡ Some line → IsFirstMissed whole line
first_found whole number one found line before stands lined some is =
    let first : IsFirstLine one line = subst (λ (o : Option ℕ). IfSome o (λ line. IsFirstLine one line)) is some in
    record {
      number = number;
      func = one.content;
      stands = stands;
      place = first.text;
      missed = first.missed;
      at = first.at ∙ ap (λ (o : Option (List ℕ)). line_in (unwrap_or o []) first.text) (sym lined);
      first_place = first.first;
      first_function = before;
    }
