-- Which place the instruction of a line has among those of its function, and which number the value that it gives.
use Rattle.std.proofs.Common.{◌≡◌, ◌∙◌, ℕ, zero, suc, ◌+◌, List, [], ◌∷◌, ◌++◌, map, length, take, refl, ap, sym, arith, append_assoc, length-append}
use Rattle.std.specs.Prelude.{Option, Some, None, filter, slice_get}
use Rattle.std.proofs.lemmas.List.{length-map}
use Rattle.std.proofs.lemmas.List.Elements.{filter-append}
use Rattle.std.proofs.lemmas.Option.{none-some}
use Rattle.ir_ast.specs.Insts.{Instruction}
use Rattle.ir_ast.specs.Funcs.{instructions_of}
use Rattle.ir_ast.specs.Faults.GroupShape.{number_at}
use Rattle.ir_lines.specs.Statements.{Line, Statement, call}
use Rattle.ir_lines.specs.Parts.{gives}
use Rattle.ir_lines.specs.Sections.{Definition, arguments_named, result_named, values_before}
use Rattle.ir_lines.specs.Modules.{Known, known_of, argument_of, instruction_said}
use Rattle.ir_resolve.specs.Resolved.{Spot, case_lines, spot_said, spots_of}
use Rattle.ir_resolve.proofs.Bodies.{function_insts}
use Rattle.ir_resolve.proofs.Values.{made_of, has_result, results}
use Rattle.list_laws.proofs.Places.{take_front_of}

-- the instruction of a line with those behind it, where it has one
abbrev pub said_at : Known → Line → List Line → Option Instruction
said_at known l behind = instruction_said known behind l.says

abbrev pub insts : Known → List Line → List Instruction
insts known ls = map (λ (spot : Spot). spot.inst) (spots_of known ls)

abbrev pub insts_said : Option Instruction → List Instruction
insts_said None = []
insts_said (Some inst) = inst ∷ []

-- the instructions of lines that have others behind them
abbrev pub front : Known → List Line → List Line → List Instruction
front known [] rest = []
front known (l ∷ ls) rest = insts_said (said_at known l (ls ++ rest)) ++ front known ls rest

pub insts-cons : (known : Known) (l : Line) (ls : List Line) → insts known (l ∷ ls) ≡ insts_said (said_at known l ls) ++ insts known ls
insts-cons known l ls = by (said_at known l ls)
  where
    by : (o : Option Instruction)
        → map (λ (spot : Spot). spot.inst) (spot_said l.number (case_lines ls l.says) o ++ spots_of known ls)
        ≡ insts_said o ++ insts known ls
    by None = refl
    by (Some inst) = refl

pub insts-append : (known : Known) (ls rest : List Line) → insts known (ls ++ rest) ≡ front known ls rest ++ insts known rest
insts-append known [] rest = refl
insts-append known (l ∷ ls) rest =
    let here = insts_said (said_at known l (ls ++ rest)) in
    insts-cons known l (ls ++ rest)
    ∙ ap (λ (is : List Instruction). here ++ is) (insts-append known ls rest)
    ∙ sym (append_assoc here (front known ls rest) (insts known rest))

pub front-append : (known : Known) (ls more rest : List Line) → front known (ls ++ more) rest ≡ front known ls (more ++ rest) ++ front known more rest
front-append known [] more rest = refl
front-append known (l ∷ ls) more rest =
    let here = insts_said (said_at known l (ls ++ (more ++ rest))) in
    ap (λ (xs : List Line). insts_said (said_at known l xs) ++ front known (ls ++ more) rest) (append_assoc ls more rest)
    ∙ ap (λ (is : List Instruction). here ++ is) (front-append known ls more rest)
    ∙ sym (append_assoc here (front known ls (more ++ rest)) (front known more rest))

-- the line of an instruction
pub record FrontAt (known : Known) (before rest : List Line) (place : ℕ) (inst : Instruction) : Type 0 where
  pub earlier : List Line
  pub line : Line
  pub later : List Line
  pub whole : before ≡ earlier ++ line ∷ later
  pub said : said_at known line (later ++ rest) ≡ Some inst
  pub place_is : place ≡ length (front known earlier (line ∷ (later ++ rest)))

pub front_at : (known : Known) (before rest : List Line) (place : ℕ) (inst : Instruction) → slice_get (front known before rest) place ≡ Some inst
    → FrontAt known before rest place inst
front_at known [] rest place inst e = absurd (none-some inst e)
front_at known (l ∷ ls) rest place inst e = by (said_at known l (ls ++ rest)) refl place e (front_at known ls rest)
  where
    behind : (o : Option Instruction) → said_at known l (ls ++ rest) ≡ o → (k : ℕ) → (at : FrontAt known ls rest k inst)
        → (place : ℕ) → place ≡ length (insts_said o ++ front known at.earlier (at.line ∷ (at.later ++ rest))) → FrontAt known (l ∷ ls) rest place inst
    behind o is k at place e =
        let same : said_at known l (at.earlier ++ (at.line ∷ (at.later ++ rest))) ≡ o =
        ap (said_at known l) (sym (append_assoc at.earlier (at.line ∷ at.later) rest) ∙ ap (λ (xs : List Line). xs ++ rest) (sym at.whole)) ∙ is in
        record {
          earlier = l ∷ at.earlier;
          line = at.line;
          later = at.later;
          whole = ap (λ (xs : List Line). l ∷ xs) at.whole;
          said = at.said;
          place_is = e ∙ ap (λ (x : Option Instruction). length (insts_said x ++ front known at.earlier (at.line ∷ (at.later ++ rest)))) (sym same);
        }

    by : (o : Option Instruction) → said_at known l (ls ++ rest) ≡ o → (place : ℕ) → slice_get (insts_said o ++ front known ls rest) place ≡ Some inst
        → ((k : ℕ) (one : Instruction) → slice_get (front known ls rest) k ≡ Some one → FrontAt known ls rest k one) → FrontAt known (l ∷ ls) rest place inst
    by None is place e ih = let at = ih place inst e in behind None is place at place at.place_is
    by (Some one) is zero e ih = record { earlier = []; line = l; later = ls; whole = refl; said = is ∙ e; place_is = refl }
    by (Some one) is (suc k) e ih = let at = ih k inst e in behind (Some one) is k at (suc k) (ap suc at.place_is)

-- ---- numbers

one_given : (known : Known) (rest : List Line) (n : ℕ) (s : Statement)
    → length (filter has_result (insts_said (instruction_said known rest s))) ≡ length (result_named n (gives s))
one_given known rest n (call None made) = refl
one_given known rest n (call (Some result) made) = refl
one_given known rest n _ = refl

-- as many results as values that the lines give
results-front : (known : Known) (ls rest : List Line) → length (filter has_result (front known ls rest)) ≡ length (results ls)
results-front known [] rest = refl
results-front known (l ∷ ls) rest =
    let here = insts_said (said_at known l (ls ++ rest)) in
    let one = one_given known (ls ++ rest) l.number l.says in
    let more = results-front known ls rest in
    ap length (filter-append has_result here (front known ls rest))
    ∙ (omega (
      arith,
      one,
      more,
      length-append (filter has_result here) (filter has_result (front known ls rest)),
      length-append (result_named l.number (gives l.says)) (results ls),
    ))

-- the instructions of a function, at a place of its text
pub insts_split : (lines : List Line) (func : Definition) (before rest : List Line) → func.body ≡ before ++ rest
    → instructions_of (made_of lines func).blocks ≡ front (known_of lines func) before rest ++ insts (known_of lines func) rest
insts_split lines func before rest whole =
    function_insts (known_of lines func) func ∙ ap (insts (known_of lines func)) whole ∙ insts-append (known_of lines func) before rest

-- the number of what is given at the place of a line is how many values the function has before it
pub number-at : (lines : List Line) (func : Definition) (before rest : List Line) → func.body ≡ before ++ rest
    → number_at (made_of lines func) (length (front (known_of lines func) before rest)) ≡ length (values_before func before)
number-at lines func before rest whole =
    let known = known_of lines func in
    let is = front known before rest in
    let args = arguments_named func.line [] func.arguments in
    let taken : take (length is) (instructions_of (made_of lines func).blocks) ≡ is =
    ap (take (length is)) (insts_split lines func before rest whole) ∙ take_front_of is (insts known rest) in
    ap (λ (xs : List Instruction). length (map argument_of args) + length (filter has_result xs)) taken
    ∙ (let count = results-front known before rest in omega (arith, count, length-map args argument_of, length-append args (results before)))
