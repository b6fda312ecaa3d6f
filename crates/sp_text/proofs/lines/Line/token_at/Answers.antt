use Rattle.std.proofs.Common.{sym, refl, rules}
use Rattle.sp_text.proofs.LinePlaces.{starts_at, tokens-here, front-fits, first_token, no_bad_byte, tokens-bad, bad_byte, tokens-end, tokens-stop}
use Rattle.sp_text.proofs.lines.Line.token_at.Goals as goal

pub overflow_add-to : goal.overflow_add-to
overflow_add-to c =
    let s = starts_at c.args.self.now.bytes.now c.args.from c.past_blanks-at.ensures.place c.after.ensures c.in-Some.ensures.cases.0 in
    let fits = front-fits _ _ s (sym c.in-Some-front.ensures) in
    search (rules, fits)

pub slice_bounds-result-end : goal.slice_bounds-result-end
slice_bounds-result-end c =
    let s = starts_at c.args.self.now.bytes.now c.args.from c.past_blanks-at.ensures.place c.after.ensures c.in-Some.ensures.cases.0 in
    let fits = front-fits _ _ s (sym c.in-Some-front.ensures) in
    search (rules, fits)

pub returns-in-Some-front-clause-remaining : goal.returns-in-Some-front-clause-remaining
returns-in-Some-front-clause-remaining c =
    let s = starts_at c.args.self.now.bytes.now c.args.from c.past_blanks-at.ensures.place c.after.ensures c.in-Some.ensures.cases.0 in
    tokens-here _ _ s c.if-first-eq59.false (sym c.in-Some-front.ensures)

pub returns-in-Some-front-clause-token : goal.returns-in-Some-front-clause-token
returns-in-Some-front-clause-token c =
    let s = starts_at c.args.self.now.bytes.now c.args.from c.past_blanks-at.ensures.place c.after.ensures c.in-Some.ensures.cases.0 in
    first_token _ _ s (sym c.in-Some-front.ensures) _ refl refl refl refl

pub returns-in-Some-front-clause-bad : goal.returns-in-Some-front-clause-bad
returns-in-Some-front-clause-bad c =
    let s = starts_at c.args.self.now.bytes.now c.args.from c.past_blanks-at.ensures.place c.after.ensures c.in-Some.ensures.cases.0 in
    ((λ e. cc), (λ none. absurd (no_bad_byte _ _ s (sym c.in-Some-front.ensures) none)))

pub returns-in-None-clause-remaining : goal.returns-in-None-clause-remaining
returns-in-None-clause-remaining c =
    let s = starts_at c.args.self.now.bytes.now c.args.from c.past_blanks-at.ensures.place c.after.ensures c.in-Some.ensures.cases.0 in
    tokens-bad s c.if-first-eq59.false (sym c.in-None.ensures)

pub returns-in-None-clause-bad : goal.returns-in-None-clause-bad
returns-in-None-clause-bad c =
    let s = starts_at c.args.self.now.bytes.now c.args.from c.past_blanks-at.ensures.place c.after.ensures c.in-Some.ensures.cases.0 in
    ((λ _. bad_byte s c.if-first-eq59.false (sym c.in-None.ensures)), (λ _. refl))

pub returns-in_default-clause-remaining : goal.returns-in_default-clause-remaining
returns-in_default-clause-remaining c = tokens-end c.args.self.now.bytes.now c.args.from c.past_blanks-at.ensures.place c.after.ensures c.in_default.ensures.cases

pub returns-then-first-eq59-clause-remaining : goal.returns-then-first-eq59-clause-remaining
returns-then-first-eq59-clause-remaining c =
    let s = starts_at c.args.self.now.bytes.now c.args.from c.past_blanks-at.ensures.place c.after.ensures c.in-Some.ensures.cases.0 in
    tokens-stop s c.if-first-eq59.true
