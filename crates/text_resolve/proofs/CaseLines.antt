-- The lines of the cases of a `switch`, one after another.
use Rattle.std.proofs.Common.{◌≡◌, ◌∙◌, ℕ, ◌+◌, ◌<◌, true, false, cond, List, [], ◌∷◌, ◌++◌, length, take, drop, refl, ap, sym, subst, arith, append_assoc}
use Rattle.std.specs.Prelude.{Some, slice_get}
use Rattle.std.proofs.Math.Seq.{take-length, drop-length}
use Rattle.std.proofs.lemmas.List.{take_more, length-take-le}
use Rattle.std.proofs.lemmas.Option.{slice_get_within, get_or_from_slice_get}
use Rattle.ir_lines.specs.Statements.{Line}
use Rattle.ir_lines.specs.Sections.{is_case, cases_of}
use Rattle.line_tokens.specs.declared.widths.Width.{Width}
use Rattle.line_forms.specs.declared.readings.Reading.{Reading}
use Rattle.line_forms.specs.declared.readings.Reading.TheVariants.{Case}
use Rattle.line_parts.specs.declared.readings.Value.{Value}
use Rattle.ir_lines.specs.Views.{said}
use Rattle.sp_text.specs.declared.names.Name.{Name}
use Rattle.list_laws.proofs.Places.{drop_at}
use Rattle.module_build.proofs.Founds.{IsWholeAt, whole-at}

-- ---- the lines of cases

-- the lines so far are cases
abbrev pub AreCases : List Line → ℕ → Type 0
AreCases lines n = cases_of lines ≡ take n lines ++ cases_of (drop n lines)

pub taken-more : (lines : List Line) (i : ℕ) (l : Line) → slice_get lines i ≡ Some l → take (i + 1) lines ≡ take i lines ++ l ∷ []
taken-more lines i l at =
    take_more lines i l (slice_get_within lines i l at) ∙ ap (λ x. take i lines ++ x ∷ []) (get_or_from_slice_get lines i l l at)

pub cases-at : (lines : List Line) (i : ℕ) (l : Line) → slice_get lines i ≡ Some l → is_case l.says ≡ true → AreCases lines i
    → cases_of lines ≡ take i lines ++ l ∷ cases_of (drop (i + 1) lines)
cases-at lines i l at e run =
    run ∙ ap (λ ls. take i lines ++ cases_of ls) (drop_at lines i l at)
    ∙ ap (λ b. take i lines ++ cond b (l ∷ cases_of (drop (i + 1) lines)) []) e

pub cases-more : (lines : List Line) (i : ℕ) (l : Line) → slice_get lines i ≡ Some l → is_case l.says ≡ true → AreCases lines i
    → AreCases lines (i + 1)
cases-more lines i l at e run =
    cases-at lines i l at e run
    ∙ sym (append_assoc (take i lines) (l ∷ []) (cases_of (drop (i + 1) lines)))
    ∙ ap (λ ls. ls ++ cases_of (drop (i + 1) lines)) (sym (taken-more lines i l at))

-- a case stands at its place among the cases, behind those before it
pub record IsCaseAt (lines : List Line) (i : ℕ) (l : Line) : Type 0 where
  pub at : slice_get (cases_of lines) i ≡ Some l
  pub front : take i (cases_of lines) ≡ take i lines

long-enough : (lines : List Line) (i : ℕ) (l : Line) → slice_get lines i ≡ Some l → length (take i lines) ≡ i
long-enough lines i l at = let b : i < length lines = slice_get_within lines i l at in length-take-le i lines (omega arith)

pub case-at : (lines : List Line) (i : ℕ) (l : Line) → slice_get lines i ≡ Some l → is_case l.says ≡ true → AreCases lines i → IsCaseAt lines i l
case-at lines i l at e run =
    let w : IsWholeAt (cases_of lines) (take i lines) l (cases_of (drop (i + 1) lines))
    = whole-at (cases_of lines) (take i lines) l (cases_of (drop (i + 1) lines)) (cases-at lines i l at e run) in
    let n = long-enough lines i l at in
    record {
      at = subst (λ (k : ℕ). slice_get (cases_of lines) k ≡ Some l) n w.at;
      front = subst (λ (k : ℕ). take k (cases_of lines) ≡ take i lines) n w.front;
    }

append-nil : (ls : List Line) → ls ++ [] ≡ ls
append-nil [] = refl
append-nil (l ∷ ls) = ap (λ ms. l ∷ ms) (append-nil ls)

-- a line that is no case ends them
pub cases-stop : (lines : List Line) (i : ℕ) (l : Line) → slice_get lines i ≡ Some l → is_case l.says ≡ false → AreCases lines i
    → i ≡ length (cases_of lines)
cases-stop lines i l at e run =
    let all : cases_of lines ≡ take i lines
    = run ∙ ap (λ ls. take i lines ++ cases_of ls) (drop_at lines i l at)
    ∙ ap (λ b. take i lines ++ cond b (l ∷ cases_of (drop (i + 1) lines)) []) e ∙ append-nil (take i lines) in
    sym (ap length all ∙ long-enough lines i l at)

cases-all : (lines : List Line) → AreCases lines (length lines) → cases_of lines ≡ lines
cases-all lines run =
    run ∙ ap (λ ls. take (length lines) lines ++ cases_of ls) (drop-length lines) ∙ append-nil (take (length lines) lines) ∙ take-length lines

pub cases-end : (lines : List Line) (i : ℕ) → i ≡ length lines → AreCases lines i → i ≡ length (cases_of lines)
cases-end lines i n run =
    n ∙ sym (ap length (cases-all lines (subst (λ (k : ℕ). AreCases lines k) n run)))

-- ---- one more case

pub not-case : (r : Reading) → ((width : Width) (value : Value) (label : Name) → r ≡ Case width value label → ⊥) → is_case (said r) ≡ false
not-case (Case width value label) none = absurd (none width value label refl)
not-case _ none = refl
