-- What the definitions say of some texts.
use Rattle.std.proofs.Common.{◌≡◌, refl, ℕ, true, false, List, [], ◌∷◌, None, Some, lit<, lit≤}
use Rattle.std.specs.Prelude.{codes, pos, negsuc, ◌++◌}
use Rattle.std.specs.Fmt.{digits}
use Rattle.move_plan.specs.declared.plan_lines.PlanLine.{PlanLine}
use Rattle.move_plan.specs.declared.plan_lines.PlanLine.TheVariants.{Every, Move, Flip, Go}
use Rattle.move_plan.specs.Words.{words}
use Rattle.move_plan.specs.PlanLines.{Spells}
use Rattle.move_plan.specs.Decoded.{decoded, numeral_after}
use Rattle.move_plan.specs.Plans.{flips, go, group, IsPlanOf}
use Rattle.move_plan.specs.PlanFaults.{HasFault, falls, second_go, order, two_go}
use Rattle.move_plan.specs.InputNumbers.{HoldsNumber, negative, positive}
use Rattle.move_plan.specs.Inputs.{IsInputOf}
use Rattle.std.proofs.lemmas.Int.{ints}
use Rattle.std.proofs.Common.{arith}

-- ---- words

-- blanks at both ends and between words
blanks : words (codes "  at 3  flip ") ≡ codes "at" ∷ codes "3" ∷ codes "flip" ∷ []
unfolding words
blanks = refl

only_blanks : words (codes "   ") ≡ []
unfolding words
only_blanks = refl

-- ---- lines of a plan

move_line : Spells (words (codes "at 4 move 2 to 1099511627792")) (Move 4 2 1099511627792)
unfolding words digits
move_line = record { spelled = refl; in_range = ((lit≤ tt, lit< tt), lit< tt, lit< tt) }

go_line : Spells (words (codes "at 1 go 0")) (Go 1 0)
unfolding words digits
go_line = record { spelled = refl; in_range = ((lit≤ tt, lit< tt), lit< tt) }

greatest_event : decoded (words (codes "at 18446744073709551615 flip")) ≡ Some (Flip 18446744073709551615)
unfolding words numeral_after
greatest_event = refl

too_great : decoded (words (codes "at 18446744073709551616 flip")) ≡ None
unfolding words numeral_after
too_great = refl

event_0 : decoded (words (codes "at 0 flip")) ≡ None
unfolding words numeral_after
event_0 = refl

leading_zero : decoded (words (codes "every 01 flip")) ≡ None
unfolding words numeral_after
leading_zero = refl

one_word_more : decoded (words (codes "every 1 flip flip")) ≡ None
unfolding words numeral_after
one_word_more = refl

-- ---- a plan

some_plan : List PlanLine
some_plan = Every 2 ∷ Move 3 1 1099511627776 ∷ Go 3 0 ∷ Move 3 2 1099511627792 ∷ Flip 5 ∷ []

some_text : IsPlanOf (codes "every 2 flip" ++ 10 ∷ codes " " ++ 13 ∷ 10 ∷ codes "at 5 flip") (Every 2 ∷ Flip 5 ∷ [])
unfolding words digits
some_text = record {
  readings = Some (Every 2) ∷ None ∷ Some (Flip 5) ∷ [];
  each = (record { spelled = refl; in_range = (lit≤ tt, lit< tt) }, (refl, (record { spelled = refl; in_range = (lit≤ tt, lit< tt) }, tt)));
  given = refl;
}

some_group : group some_plan 3 ≡ record { obj = 1; to = 1099511627776 } ∷ record { obj = 2; to = 1099511627792 } ∷ []
unfolding some_plan
some_group = refl

some_go : go some_plan 3 ≡ Some 0
unfolding some_plan
some_go = refl

no_go : go some_plan 5 ≡ None
unfolding some_plan
no_go = refl

flips_by_period : flips some_plan 4 ≡ true
unfolding some_plan
flips_by_period = refl

flips_by_line : flips some_plan 5 ≡ true
unfolding some_plan
flips_by_line = refl

flips_not : flips some_plan 3 ≡ false
unfolding some_plan
flips_not = refl

-- ---- faults

go_then_flip : List ℕ
go_then_flip = codes "at 2 go 1" ++ 10 ∷ codes "at 1 flip"

event_falls : HasFault go_then_flip 2 order
unfolding go_then_flip words digits
event_falls =
    falls 1 2 1 (Go 2 1) (Flip 1) (lit< tt)
    (record { line = codes "at 2 go 1"; has = record { place = 0; counted = refl; stands = refl }; reads = record { spelled = refl; in_range = ((lit≤ tt, lit< tt), lit< tt) } }) refl
    (record { line = codes "at 1 flip"; has = record { place = 1; counted = refl; stands = refl }; reads = record { spelled = refl; in_range = (lit≤ tt, lit< tt) } }) refl (lit< tt) refl

-- a move between them changes nothing
go_twice : List ℕ
go_twice = codes "at 1 go 1" ++ 10 ∷ codes "at 1 move 1 to 8" ++ 10 ∷ codes "at 1 go 2"

two_go_lines : HasFault go_twice 3 two_go
unfolding go_twice words digits
two_go_lines =
    second_go 1 1 1 2 (lit< tt)
    (record { line = codes "at 1 go 1"; has = record { place = 0; counted = refl; stands = refl }; reads = record { spelled = refl; in_range = ((lit≤ tt, lit< tt), lit< tt) } })
    (record { line = codes "at 1 go 2"; has = record { place = 2; counted = refl; stands = refl }; reads = record { spelled = refl; in_range = ((lit≤ tt, lit< tt), lit< tt) } }) refl

-- ---- inputs

leading_zero_and_sign : HoldsNumber (codes " -012 ") (negsuc 11)
unfolding words
leading_zero_and_sign = record {
  word = codes "-012";
  only = refl;
  number = record {
    spelled = negative (codes "012") refl (record { each = (lit< tt, (lit< tt, (lit< tt, (lit< tt, tt)))); few = lit≤ tt }) refl;
    fits = search (arith, ints);
  };
}

some_input : IsInputOf (codes "7" ++ 10 ∷ 10 ∷ codes " -012 " ++ 13 ∷ 10 ∷ []) (pos 7 ∷ negsuc 11 ∷ [])
unfolding words
some_input = record {
  readings = Some (pos 7) ∷ None ∷ Some (negsuc 11) ∷ [];
  each = (
    record { word = codes "7"; only = refl; number = record { spelled = positive (record { each = (lit< tt, (lit< tt, tt)); few = lit≤ tt }) refl; fits = search (arith, ints) } },
    (refl, (leading_zero_and_sign, tt)),
  );
  given = refl;
}
