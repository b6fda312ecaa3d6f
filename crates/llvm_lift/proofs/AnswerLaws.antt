-- What is known of each answer: texts of the profile are left alone, answers are read and typed, and they are given again.
use Rattle.std.proofs.Common.{◌≡◌, refl, sym, ap, ◌∙◌, subst, ◌≤◌, ◌<◌, ℕ, List, length, Ok, Err, inl, inr, arith}
use Rattle.std.specs.Prelude.{Result}
use Rattle.ir_ast.specs.declared.modules.Form.{Form}
use Rattle.ir_ast.specs.declared.modules.Form.TheVariants.{Source, Rewritten}
use Rattle.ir_ast.specs.Modules.{ModuleContent}
use Rattle.ir_printer.specs.Texts.{text_of}
use Rattle.llvm_lift.specs.declared.refusals.Refusal.{Refusal}
use Rattle.llvm_lift.specs.declared.refusals.Refusal.TheVariants as refusals
use Rattle.llvm_lift.specs.Texts.{StandsFor, IsNone, IsPrinted}
use Rattle.llvm_lift.specs.Lifted.{Answers, IsLift, left, lifted, Settles, source, rewritten, both}
use Rattle.llvm_lift.specs.LiftLaws.{IsAnswer, ProfileIsLeft, ShownIsLeft, IsReadAndTyped, AnswersAreTyped, AnswersAreLeft}
use Rattle.llvm_lift.proofs.StandLaws.{stands_for_one, printed_stands, stands_for_module}

pub profile_is_left : ProfileIsLeft
profile_is_left text content (Ok out) stands (left (source printed)) =
    printed.is ∙ ap text_of (stands_for_one Source text printed.content content printed.stands stands)
profile_is_left text content (Ok out) stands (left (rewritten none printed small again)) = absurd (none content stands)
profile_is_left text content (Ok out) stands (left (both none shown printed small again)) = absurd (none content stands)
profile_is_left text content (Ok out) stands (lifted made) = absurd (made.outside.source content stands)
profile_is_left text content (Err (refusals.Outside reasons)) stands answers = absurd (answers.0.source content stands)
profile_is_left text content (Err (refusals.Fault fault)) stands answers = absurd (answers.outside.source content stands)
profile_is_left text content (Err refusals.TooLong) stands (inl long) = absurd (long.source content stands)
profile_is_left text content (Err refusals.TooLong) stands (inr outside) = absurd (outside.source content stands)
profile_is_left text content (Err refusals.Memory) stands answers = refl

pub shown_is_left : ShownIsLeft
shown_is_left content answer is small answers =
    profile_is_left (text_of content) content answer (printed_stands Source content is small) answers

-- the printed text of a module that an accepted text stands for
abbrev typed : (form : Form) (text out : List ℕ) → length text ≤ 16777216 → length out ≤ 16777216 → IsPrinted form text out → IsReadAndTyped out
typed form text out within small printed =
    let is = stands_for_module form text printed.content within printed.stands in
    record {
      form = form;
      content = printed.content;
      is_module = is;
      stands = subst (λ it. StandsFor form it printed.content) (sym printed.is) (printed_stands form printed.content is (subst (λ it. length it ≤ 16777216) printed.is small));
      is = printed.is;
    }

settled_typed : (text out : List ℕ) → length text ≤ 16777216 → length out ≤ 16777216 → Settles text out → IsReadAndTyped out
settled_typed text out within small (source printed) = typed Source text out within small printed
settled_typed text out within small (rewritten none printed fits again) = typed Rewritten text out within small printed
settled_typed text out within small (both none shown printed fits again) = typed Source shown out fits small again

pub answers_are_typed : AnswersAreTyped
answers_are_typed text out within small (left settles) = settled_typed text out within small settles
answers_are_typed text out within small (lifted made) = settled_typed made.lifted out made.small small made.settles

-- what stands for a module of the rewritten form alone, and is its printed text
rewritten_again : (out : List ℕ) (content : ModuleContent) (answer : Result (List ℕ) Refusal) → length out ≤ 16777216
    → IsNone Source out → StandsFor Rewritten out content → out ≡ text_of content
    → Answers (λ (given : List ℕ). given) out answer → IsAnswer out answer
rewritten_again out content (Ok again) small none stands is (left (source printed)) = absurd (none printed.content printed.stands)
rewritten_again out content (Ok again) small none stands is (left (rewritten other printed fits last)) =
    printed.is ∙ ap text_of (stands_for_one Rewritten out printed.content content printed.stands stands) ∙ sym is
rewritten_again out content (Ok again) small none stands is (left (both other shown printed fits last)) =
    let same : shown ≡ out = printed.is ∙ ap text_of (stands_for_one Rewritten out printed.content content printed.stands stands) ∙ sym is in
    absurd (none last.content (subst (λ it. StandsFor Source it last.content) same last.stands))
rewritten_again out content (Ok again) small none stands is (lifted made) = absurd (made.outside.rewritten content stands)
rewritten_again out content (Err (refusals.Outside reasons)) small none stands is answers = absurd (answers.0.rewritten content stands)
rewritten_again out content (Err (refusals.Fault fault)) small none stands is answers = absurd (answers.outside.rewritten content stands)
rewritten_again out content (Err refusals.TooLong) small none stands is (inl long) =
    let same : long.shown ≡ out = long.printed.is ∙ ap text_of (stands_for_one Rewritten out long.printed.content content long.printed.stands stands) ∙ sym is in
    let more : 16777216 < length out = subst (λ it. 16777216 < length it) same long.long in
    absurd (omega (arith, more, small))
rewritten_again out content (Err refusals.TooLong) small none stands is (inr outside) = absurd (outside.rewritten content stands)
rewritten_again out content (Err refusals.Memory) small none stands is answers = refl

source_again : (text out : List ℕ) (answer : Result (List ℕ) Refusal) → length text ≤ 16777216 → length out ≤ 16777216
    → IsPrinted Source text out → Answers (λ (given : List ℕ). given) out answer → IsAnswer out answer
source_again text out answer within small printed answers =
    let known = typed Source text out within small printed in
    subst (λ it. IsAnswer it answer) (sym printed.is) (profile_is_left out printed.content answer known.stands answers)

settled_again : (text out : List ℕ) (answer : Result (List ℕ) Refusal) → length text ≤ 16777216 → length out ≤ 16777216
    → Settles text out → Answers (λ (given : List ℕ). given) out answer → IsAnswer out answer
settled_again text out answer within small (source printed) answers = source_again text out answer within small printed answers
settled_again text out answer within small (rewritten none printed fits last) answers =
    let known = typed Rewritten text out within small printed in
    rewritten_again out printed.content answer small last known.stands printed.is answers
settled_again text out answer within small (both none shown printed fits last) answers = source_again shown out answer fits small last answers

pub answers_are_left : AnswersAreLeft
answers_are_left text out answer within small (left settles) answers = settled_again text out answer within small settles answers
answers_are_left text out answer within small (lifted made) answers = settled_again made.lifted out answer made.small small made.settles answers
