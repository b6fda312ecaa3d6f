-- Lines put one after the other.
use Rattle.std.proofs.Common.{◌≡◌, ℕ, List, [], ◌∷◌, ◌++◌, Option, Result, Ok, Err, OnOk, OnErr, refl, sym, ap, subst, ◌∙◌, append-nil, append_assoc}
use Rattle.std.specs.List.{All, concat}
use Rattle.std.proofs.lemmas.List.Folds.{concat-append}
use Rattle.tool_io.specs.Sink.{append_known, AppendsFront}
use Rattle.tool_io.specs.Told.{add_told}
use Rattle.tool_io.proofs.AppendLaws.{append_known-nil, append_known-then, append_known-append_known, AppendsFront-first, AppendsFront-nothing, AppendsFront-same, AppendsFront-second}
use Rattle.tool_io.proofs.TakeLaws.{append_told-nil, append_told-then}
use Rattle.list_laws.proofs.Contents.{all_back, all_front}
use Rattle.piece_writer.specs.LinePuts.{IsShort, SinkTold, PutsLines, PutsFirst, next_line}

pub puts_none : (now : SinkTold) → PutsLines now now []
puts_none now = record { written = sym (append_known-nil now.written); puts = sym (append_told-nil now.puts) }

pub puts_one : (old new : SinkTold) (line : List ℕ) → new.written ≡ append_known old.written line → new.puts ≡ add_told old.puts line → PutsLines old new (line ∷ [])
puts_one old new line written put = record { written = written ∙ ap (append_known old.written) (sym (append-nil line)); puts = put }

pub puts_both : (old mid new : SinkTold) (lines more : List (List ℕ)) → PutsLines old mid lines → PutsLines mid new more → PutsLines old new (lines ++ more)
puts_both old mid new lines more one two = record {
  written = append_known-then old.written mid.written new.written (concat lines) (concat more) one.written two.written
      ∙ ap (append_known old.written) (sym (concat-append lines more));
  puts = append_told-then old.puts mid.puts new.puts lines more one.puts two.puts;
}

pub puts_same : (old new : SinkTold) (lines others : List (List ℕ)) → lines ≡ others → PutsLines old new lines → PutsLines old new others
puts_same old new lines others same puts = subst (PutsLines old new) same puts

-- ---- a front of them

pub first_none : (now : SinkTold) (lines : List (List ℕ)) → PutsFirst now now lines
first_none now lines = record {
  first = [];
  rest = lines;
  whole = refl;
  puts = sym (append_told-nil now.puts);
  front = subst (λ (known : Option (List ℕ)). AppendsFront known now.written (next_line lines)) (sym (append_known-nil now.written)) (AppendsFront-nothing now.written (next_line lines));
}

pub first_all : (old new : SinkTold) (lines more : List (List ℕ)) → PutsLines old new lines → PutsFirst old new (lines ++ more)
first_all old new lines more puts = record {
  first = lines;
  rest = more;
  whole = refl;
  puts = puts.puts;
  front = subst (λ (known : Option (List ℕ)). AppendsFront known new.written (next_line more)) puts.written (AppendsFront-nothing new.written (next_line more));
}

-- the first line failed
pub first_failed : (old new : SinkTold) (line : List ℕ) (more : List (List ℕ)) → AppendsFront old.written new.written line → new.puts ≡ old.puts → PutsFirst old new (line ∷ more)
first_failed old new line more front kept = record {
  first = [];
  rest = line ∷ more;
  whole = refl;
  puts = kept ∙ sym (append_told-nil old.puts);
  front = subst (λ (known : Option (List ℕ)). AppendsFront known new.written line) (sym (append_known-nil old.written)) front;
}

next_more : {old new : Option (List ℕ)} (rest more : List (List ℕ)) → AppendsFront old new (next_line rest) → AppendsFront old new (next_line (rest ++ more))
next_more [] more front = AppendsFront-first front (next_line more)
next_more (line ∷ rest) more front = front

pub first_more : (old new : SinkTold) (lines more : List (List ℕ)) → PutsFirst old new lines → PutsFirst old new (lines ++ more)
first_more old new lines more puts = record {
  first = puts.first;
  rest = puts.rest ++ more;
  whole = ap (λ all. all ++ more) puts.whole ∙ append_assoc puts.first puts.rest more;
  puts = puts.puts;
  front = next_more puts.rest more puts.front;
}

pub first_after : (old mid new : SinkTold) (lines more : List (List ℕ)) → PutsLines old mid lines → PutsFirst mid new more → PutsFirst old new (lines ++ more)
first_after old mid new lines more one two = record {
  first = lines ++ two.first;
  rest = two.rest;
  whole = ap (λ others. lines ++ others) two.whole ∙ sym (append_assoc lines two.first two.rest);
  puts = append_told-then old.puts mid.puts new.puts lines two.first one.puts two.puts;
  front = subst (λ (known : Option (List ℕ)). AppendsFront known new.written (next_line two.rest))
      (ap (λ (known : Option (List ℕ)). append_known known (concat two.first)) one.written
      ∙ append_known-append_known old.written (concat lines) (concat two.first)
      ∙ ap (append_known old.written) (sym (concat-append lines two.first)))
      two.front;
}

pub first_same : (old new : SinkTold) (lines others : List (List ℕ)) → lines ≡ others → PutsFirst old new lines → PutsFirst old new others
first_same old new lines others same puts = subst (PutsFirst old new) same puts

-- so a front of their bytes was written
next_first : (rest : List (List ℕ)) → (more : List ℕ) × (concat rest ≡ next_line rest ++ more)
next_first [] = ([], refl)
next_first (line ∷ rest) = (concat rest, refl)

pub first_front : (old new : SinkTold) (lines : List (List ℕ)) → PutsFirst old new lines → AppendsFront old.written new.written (concat lines)
first_front old new lines puts =
    let next = next_first puts.rest in
    AppendsFront-same (AppendsFront-second old.written (concat puts.first) refl (AppendsFront-same (AppendsFront-first puts.front next.0) (concat puts.rest) next.1)) (concat lines)
    (ap concat puts.whole ∙ concat-append puts.first puts.rest)

-- ---- a call that puts one line

pub ok_one : {T E : Type 0} (result : Result T E) (old new : SinkTold) (line : List ℕ) → OnOk result (new.written ≡ append_known old.written line)
    → OnOk result (new.puts ≡ add_told old.puts line) → OnOk result (PutsLines old new (line ∷ []))
ok_one (Ok _) old new line written put = puts_one old new line written put
ok_one (Err _) old new line written put = tt

pub err_one : {T E : Type 0} (result : Result T E) (old new : SinkTold) (line : List ℕ) → OnErr result (AppendsFront old.written new.written line)
    → OnErr result (new.puts ≡ old.puts) → OnErr result (PutsFirst old new (line ∷ []))
err_one (Ok _) old new line front kept = tt
err_one (Err _) old new line front kept = first_failed old new line [] front kept

-- ---- a loop of such calls: it holds as the loop begins, and after each line

-- what stands before `left` in these lines was put
pub record PutsBefore (old now : SinkTold) (whole left : List (List ℕ)) : Type 0 where
  pub done : List (List ℕ)
  pub split : whole ≡ done ++ left
  pub put : PutsLines old now done

pub before_start : (now : SinkTold) (whole : List (List ℕ)) → PutsBefore now now whole whole
before_start now whole = record { done = []; split = refl; put = puts_none now }

module _ (old mid new : SinkTold) (whole left lines rest : List (List ℕ)) (next : left ≡ lines ++ rest) (before : PutsBefore old mid whole left) where
  pub before_next : PutsLines mid new lines → PutsBefore old new whole rest
  before_next put = record {
    done = before.done ++ lines;
    split = before.split ∙ ap (λ more. before.done ++ more) next ∙ sym (append_assoc before.done lines rest);
    put = puts_both old mid new before.done lines before.put put;
  }

  pub before_failed : PutsFirst mid new lines → PutsFirst old new whole
  before_failed put =
      first_same old new (before.done ++ left) whole (sym before.split)
      (first_after old mid new before.done left before.put (first_same mid new (lines ++ rest) left (sym next) (first_more mid new lines rest put)))

  pub before_short : All IsShort whole → All IsShort lines
  before_short short =
      all_front IsShort lines rest
      (subst (All IsShort) next (all_back IsShort before.done left (subst (All IsShort) before.split short)))

pub before_end : (old new : SinkTold) (whole : List (List ℕ)) → PutsBefore old new whole [] → PutsLines old new whole
before_end old new whole before = puts_same old new before.done whole (sym (before.split ∙ append-nil before.done)) before.put

pub before_stopped : (old new : SinkTold) (whole left : List (List ℕ)) → PutsBefore old new whole left → PutsFirst old new whole
before_stopped old new whole left before =
    first_same old new (before.done ++ left) whole (sym before.split) (first_all old new before.done left before.put)
