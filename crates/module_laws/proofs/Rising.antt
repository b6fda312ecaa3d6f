-- The lines of a text that was read rise in its order.
use Rattle.std.proofs.Common.{◌≡◌, ℕ, ◌+◌, ◌≤◌, ◌<◌, zero, suc, refl, ap, subst, Bool, true, false, List, [], ◌∷◌, length, map, Ok, Err, Result, arith}
use Rattle.std.specs.Prelude.{slice_index, if◌then◌else◌}
use Rattle.std.specs.Str.Lines.{lines}
use Rattle.sp_text.specs.Lines.{numbered, lines_of as text_lines}
use Rattle.ir_reader.specs.declared.states.State.{State}
use Rattle.ir_reader.specs.declared.raw.NumberedReading.{NumberedReading}
use Rattle.ir_reader.specs.Raws.{Readings, IsRead, seen_numbered}
use Rattle.ir_reader.specs.Text.{Outcome, no_reading, over_limit, nothing, said, is_top, outcome, opening, Fault, syntax_fault, limit_fault, Numbered, with_first, readings_by, readings, readings_in}
use Rattle.ir_lines.specs.Statements.{Line}
use Rattle.ir_lines.specs.Views.{seen_lines}
use Rattle.module_laws.proofs.Runs.{read-is, no-fault}

-- numbers that don't fall, from a first to a last one
abbrev pub Within : ℕ → List ℕ → ℕ → Type 0
Within from [] to = from ≤ to
Within from (x ∷ xs) to = (from ≤ x) × Within x xs to

pub within-later : (xs : List ℕ) (before from to : ℕ) → before ≤ from → Within from xs to → Within before xs to
within-later [] before from to first within = omega (arith, first, within)
within-later (x ∷ xs) before from to first within = (omega (arith, first, within.0), within.1)

pub within-spans : (xs : List ℕ) (from to : ℕ) → Within from xs to → from ≤ to
within-spans [] from to within = within
within-spans (x ∷ xs) from to within = let h = within-spans xs x to within.1 in omega (arith, h, within.0)

-- each of them stands between both ends
pub within-from : (xs : List ℕ) (from to i : ℕ) → Within from xs to → i < length xs → from ≤ slice_index xs i
within-from [] from to i within below = absurd (omega (arith, below))
within-from (x ∷ xs) from to zero within below = within.0
within-from (x ∷ xs) from to (suc i) within below =
    let h = within-from xs x to i within.1 (omega (arith, below)) in omega (arith, h, within.0)

pub within-to : (xs : List ℕ) (from to i : ℕ) → Within from xs to → i < length xs → slice_index xs i ≤ to
within-to [] from to i within below = absurd (omega (arith, below))
within-to (x ∷ xs) from to zero within below = within-spans xs x to within.1
within-to (x ∷ xs) from to (suc i) within below = within-to xs x to i within.1 (omega (arith, below))

pub within-order : (xs : List ℕ) (from to i j : ℕ) → Within from xs to → i ≤ j → j < length xs → slice_index xs i ≤ slice_index xs j
within-order [] from to i j within order below = absurd (omega (arith, below))
within-order (x ∷ xs) from to zero zero within order below = omega arith
within-order (x ∷ xs) from to zero (suc j) within order below = within-from xs x to j within.1 (omega (arith, below))
within-order (x ∷ xs) from to (suc i) zero within order below = absurd (omega (arith, order))
within-order (x ∷ xs) from to (suc i) (suc j) within order below =
    within-order xs x to i j within.1 (omega (arith, order)) (omega (arith, below))

-- ---- readings

abbrev numbers_read : List Numbered → List ℕ
numbers_read xs = map (λ x. x.line) xs

rises-is : (xs ys : List Numbered) (from to : ℕ) → xs ≡ ys → Within from (numbers_read xs) to → Within from (numbers_read ys) to
rises-is xs ys from to e h = subst (λ (zs : List Numbered). Within from (numbers_read zs) to) e h

first-rises : (x : Numbered) (read : Result (List Numbered) Fault) (xs : List Numbered) (from to : ℕ) → from ≤ x.line
    → with_first x read ≡ Ok xs → ((ys : List Numbered) → read ≡ Ok ys → Within x.line (numbers_read ys) to) → Within from (numbers_read xs) to
first-rises x (Ok ys) xs from to first e rest =
    let same = read-is (x ∷ ys) xs e in rises-is (x ∷ ys) xs from to same (first, rest ys refl)
first-rises x (Err fault) xs from to first e rest = absurd (no-fault fault xs e)

outcome-rises : (s : State) (number : ℕ) (o : Outcome) (more : State → Result (List Numbered) Fault) (xs : List Numbered) (to : ℕ)
    → readings_by o number more s ≡ Ok xs
    → ((next : State) (ys : List Numbered) → more next ≡ Ok ys → Within number (numbers_read ys) to) → Within number (numbers_read xs) to
outcome-rises s number no_reading more xs to e rest = absurd (no-fault (syntax_fault number) xs e)
outcome-rises s number over_limit more xs to e rest = absurd (no-fault (limit_fault number) xs e)
outcome-rises s number nothing more xs to e rest = rest s xs e
outcome-rises s number (said what next) more xs to e rest =
    first-rises (record { line = number; said = what }) (more next) xs number to (omega arith) e (rest next)

end-rises : (b : Bool) (number : ℕ) (xs : List Numbered) (from : ℕ) → (if b then Ok [] else Err (syntax_fault number)) ≡ Ok xs
    → Within from (numbers_read xs) from
end-rises true number xs from e = let same = read-is [] xs e in rises-is [] xs from from same (omega arith)
end-rises false number xs from e = absurd (no-fault (syntax_fault number) xs e)

readings-rise : (parts : List (List ℕ)) (first number : ℕ) (s : State) (xs : List Numbered) → readings s number (numbered first parts) ≡ Ok xs
    → Within first (numbers_read xs) (first + length parts)
unfolding readings
readings-rise [] first number s xs e =
    subst (λ (to : ℕ). Within first (numbers_read xs) to) (let h : first ≡ first + 0 = omega arith in h) (end-rises (is_top s.place) number xs first e)
readings-rise (part ∷ parts) first number s xs e =
    outcome-rises s first (outcome s part) (λ next. readings next (first + 1) (numbered (first + 1) parts)) xs (first + length (part ∷ parts)) e
    (λ next ys f.
    let h = readings-rise parts (first + 1) (first + 1) next ys f in
    let later = within-later (numbers_read ys) first (first + 1) (first + 1 + length parts) (omega arith) h in
    let same : first + 1 + length parts ≡ first + length (part ∷ parts) = omega arith in
    subst (λ (to : ℕ). Within first (numbers_read ys) to) same later)

-- ---- the text

abbrev pub numbers : List Line → List ℕ
numbers lines = map (λ l. l.number) lines

numbers-seen : (rs : List NumberedReading) → numbers_read (map seen_numbered rs) ≡ numbers (seen_lines rs)
numbers-seen [] = refl
numbers-seen (r ∷ rs) = ap (λ (ns : List ℕ). r.line ∷ ns) (numbers-seen rs)

pub lines-rise : (r : Readings) → IsRead r → Within 1 (numbers (seen_lines r.lines)) (1 + length (lines r.text))
unfolding readings_in text_lines
lines-rise r read =
    subst (λ (ns : List ℕ). Within 1 ns (1 + length (lines r.text))) (numbers-seen r.lines)
    (readings-rise (lines r.text) 1 1 (opening r.form) (map seen_numbered r.lines) read.lines)
