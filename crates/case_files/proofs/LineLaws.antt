-- The empty lines at the end of others.
use Rattle.std.proofs.Common.{◌≡◌, suc, ◌-◌, ◌≤◌, ◌==◌, true, false, List, [], ◌∷◌, ◌++◌, map, take, get_or, length, refl, sym, ap, ◌∙◌, arith}
use Rattle.sp_text.specs.Lines.{NumberedLine}
use Rattle.case_files.specs.Files.{shown_line, without_empty_ends, unless_empty}
use Rattle.case_files.specs.declared.lines.CaseLine.{CaseLine}

without_empty_ends-empty : (lines : List NumberedLine) (last : NumberedLine) → (length last.bytes == 0) ≡ true → without_empty_ends (lines ++ last ∷ []) ≡ without_empty_ends lines
without_empty_ends-empty [] last is = rw is refl
without_empty_ends-empty (line ∷ lines) last is = ap (unless_empty line) (without_empty_ends-empty lines last is)

before_more : (line : NumberedLine) (lines : List NumberedLine) (last : NumberedLine) → unless_empty line (lines ++ last ∷ []) ≡ line ∷ lines ++ last ∷ []
before_more line [] last = refl
before_more line (next ∷ lines) last = refl

without_empty_ends-full : (lines : List NumberedLine) (last : NumberedLine) → (length last.bytes == 0) ≡ false → without_empty_ends (lines ++ last ∷ []) ≡ lines ++ last ∷ []
without_empty_ends-full [] last is = rw is refl
without_empty_ends-full (line ∷ lines) last is = ap (unless_empty line) (without_empty_ends-full lines last is) ∙ before_more line lines last

last_of : (lines : List CaseLine) (spare : CaseLine) → 1 ≤ length lines
    → map shown_line lines ≡ map shown_line (take (length lines - 1) lines) ++ shown_line (get_or lines (length lines - 1) spare) ∷ []
last_of [] spare some = absurd (omega (arith, some))
last_of (line ∷ []) spare some = refl
last_of (line ∷ next ∷ more) spare some =
    let less : suc (suc (length more)) - 1 ≡ suc (length more) = omega arith in
    let less_yet : suc (length more) - 1 ≡ length more = omega arith in
    let rest = last_of (next ∷ more) spare (omega arith) in
    rw less (ap (λ lines. shown_line line ∷ lines) (rw less_yet at rest))

-- where the last line is empty, it goes
pub last_goes : (lines : List CaseLine) (spare : CaseLine) → 1 ≤ length lines → (length (get_or lines (length lines - 1) spare).text.now == 0) ≡ true
    → without_empty_ends (map shown_line lines) ≡ without_empty_ends (map shown_line (take (length lines - 1) lines))
last_goes lines spare some is =
    ap without_empty_ends (last_of lines spare some)
    ∙ without_empty_ends-empty (map shown_line (take (length lines - 1) lines)) (shown_line (get_or lines (length lines - 1) spare)) is

-- where it isn't empty, all stay
pub last_stays : (lines : List CaseLine) (spare : CaseLine) → 1 ≤ length lines → (length (get_or lines (length lines - 1) spare).text.now == 0) ≡ false
    → without_empty_ends (map shown_line lines) ≡ map shown_line lines
last_stays lines spare some is =
    let split = last_of lines spare some in
    ap without_empty_ends split
    ∙ without_empty_ends-full (map shown_line (take (length lines - 1) lines)) (shown_line (get_or lines (length lines - 1) spare)) is
    ∙ sym split
