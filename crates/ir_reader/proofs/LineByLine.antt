-- The readings of a text line by line, as a loop does.
use Rattle.std.proofs.Common.{◌≡◌, ℕ, ◌+◌, true, false, List, [], ◌∷◌, ◌++◌, Result, Ok, Err, refl, sym, ap, ◌∙◌, append_assoc}
use Rattle.std.proofs.lemmas.List.{append-nil}
use Rattle.sp_text.specs.Lines.{NumberedLine}
use Rattle.ir_reader.specs.declared.faults.ReadFault.{ReadFault}
use Rattle.ir_reader.specs.declared.faults.ReadFault.TheVariants as read_faults
use Rattle.ir_reader.specs.declared.states.State.{State}
use Rattle.ir_reader.specs.Text.{Outcome, no_reading, over_limit, nothing, said, outcome, Fault, syntax_fault, Numbered, with_first, readings_by, readings, is_top}
use Rattle.ir_reader.specs.Reads.{IsFault, AfterLine, FaultOfLine}

-- what was read before, and what is still read
abbrev pub with_lines : List Numbered → Result (List Numbered) Fault → Result (List Numbered) Fault
with_lines front (Ok xs) = Ok (front ++ xs)
with_lines front (Err fault) = Err fault

pub with_one : (front : List Numbered) (x : Numbered) (read : Result (List Numbered) Fault) → with_lines front (with_first x read) ≡ with_lines (front ++ x ∷ []) read
with_one front x (Ok xs) = ap (λ (ys : List Numbered). Ok ys) (sym (append_assoc front (x ∷ []) xs))
with_one front x (Err fault) = refl

pub with_none : (read : Result (List Numbered) Fault) → with_lines [] read ≡ read
with_none (Ok xs) = refl
with_none (Err fault) = refl

on_by : (o : Outcome) (number : ℕ) (more : State → Result (List Numbered) Fault) (old new : State) (before behind : List Numbered)
    → AfterLine o number old new before behind → with_lines before (readings_by o number more old) ≡ with_lines behind (more new)
on_by no_reading number more old new before behind h = absurd h
on_by over_limit number more old new before behind h = absurd h
on_by nothing number more old new before behind h = rw (h.0, h.1) refl
on_by (said what next) number more old new before behind h = rw (h.0, h.1) (with_one before (record { line = number; said = what }) (more next))

pub goes_on : (l : NumberedLine) (ls : List NumberedLine) (number : ℕ) (old new : State) (before behind : List Numbered) (all : Result (List Numbered) Fault)
    → with_lines before (readings old number (l ∷ ls)) ≡ all → AfterLine (outcome old l.bytes) l.number old new before behind → with_lines behind (readings new (l.number + 1) ls) ≡ all
unfolding readings
goes_on l ls number old new before behind all so_far h =
    sym (on_by (outcome old l.bytes) l.number (λ next. readings next (l.number + 1) ls) old new before behind h) ∙ so_far

fault_by : (e : ReadFault) (o : Outcome) (number : ℕ) (more : State → Result (List Numbered) Fault) (s : State) (before : List Numbered) → FaultOfLine e number o → IsFault e (with_lines before (readings_by o number more s))
fault_by (read_faults.Syntax line) o number more s before h = rw (h.0, h.1) refl
fault_by (read_faults.Limit line) o number more s before h = rw (h.0, h.1) refl
fault_by read_faults.Memory o number more s before h = tt

same_fault : (e : ReadFault) (x y : Result (List Numbered) Fault) → x ≡ y → IsFault e x → IsFault e y
same_fault e x y same h = rw (← same) h

pub ends_at : (e : ReadFault) (l : NumberedLine) (ls : List NumberedLine) (number : ℕ) (s : State) (before : List Numbered) (all : Result (List Numbered) Fault)
    → with_lines before (readings s number (l ∷ ls)) ≡ all → FaultOfLine e l.number (outcome s l.bytes) → IsFault e all
unfolding readings
ends_at e l ls number s before all so_far h =
    same_fault e (with_lines before (readings s number (l ∷ ls))) all so_far (fault_by e (outcome s l.bytes) l.number (λ next. readings next (l.number + 1) ls) s before h)

pub is_whole : (ls : List NumberedLine) (number : ℕ) (s : State) (before : List Numbered) (all : Result (List Numbered) Fault)
    → with_lines before (readings s number ls) ≡ all → ls ≡ [] → is_top s.place ≡ true → all ≡ Ok before
unfolding readings
is_whole ls number s before all so_far none top =
    let read : readings s number ls ≡ Ok [] = rw (none, top) refl in
    sym so_far ∙ ap (λ (r : Result (List Numbered) Fault). with_lines before r) read ∙ ap (λ (xs : List Numbered). Ok xs) (append-nil before)

pub is_cut : (ls : List NumberedLine) (number : ℕ) (s : State) (before : List Numbered) (all : Result (List Numbered) Fault)
    → with_lines before (readings s number ls) ≡ all → ls ≡ [] → is_top s.place ≡ false → all ≡ Err (syntax_fault number)
unfolding readings
is_cut ls number s before all so_far none top =
    let read : readings s number ls ≡ Err (syntax_fault number) = rw (none, top) refl in
    sym so_far ∙ ap (λ (r : Result (List Numbered) Fault). with_lines before r) read
