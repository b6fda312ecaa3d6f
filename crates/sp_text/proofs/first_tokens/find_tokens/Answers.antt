use Rattle.std.proofs.Common.{◌∙◌, ap, sym, List, ◌++◌, take, arith, inr, inl}
use Rattle.std.specs.Prelude.{map}
use Rattle.std.proofs.lemmas.Grind.{common_steps}
use Rattle.std.proofs.lemmas.List.{nil_from_length}
use Rattle.sp_text.specs.TokenAt.{seen_token}
use Rattle.sp_text.specs.Tokens.{Tok, tokens}
use Rattle.sp_text.proofs.RoomLemmas.{end-drop, end-end, end-after_blanks, end-tail, next_fits, next_spelled, tokens-next, one_more, no_next}
use Rattle.sp_text.proofs.TokenLemmas.{tokens-after_blanks, tokens-blank, tokens-nil}
use Rattle.sp_text.proofs.first_tokens.find_tokens.Goals as goal

pub loop-first-init : goal.loop-first-init
loop-first-init c = record {
  within = omega arith;
  end = rw c.after_blanks-rest.ensures (end-after_blanks c.args.bytes.now);
  all = tokens-after_blanks c.args.bytes.now ∙ ap tokens (sym c.after_blanks-rest.ensures);
}

pub loop-first-preserved-then-is_blank : goal.loop-first-preserved-then-is_blank
loop-first-preserved-then-is_blank c =
    let is = c.in-Some.ensures.cases.0 in
    record {
      within = c.loop-first.invariant.within;
      end = end-end c.args.bytes.now c.loop-first.invariant.end (end-tail is);
      all = c.loop-first.invariant.all ∙ ap (λ (ts : List Tok). map seen_token (take c.loop-first.count c.loop-first.room) ++ ts) (ap tokens is ∙ tokens-blank _ _ (sym c.if-is_blank.ensures));
    }

pub returns-in_default-front-clause-full : goal.returns-in_default-front-clause-full
returns-in_default-front-clause-full c = inr (no_next c.in-Some.ensures.cases.0 (sym c.if-is_blank.ensures) (sym c.in_default-front.ensures))

pub split_at-requires : goal.split_at-requires
split_at-requires c = next_fits c.in-Some.ensures.cases.0 (sym c.in-Some-front.ensures)

pub invariant_of-room : goal.invariant_of-room
invariant_of-room c = record { spelled = rw c.split_at.ensures.front (next_spelled c.in-Some.ensures.cases.0 (sym c.in-Some-front.ensures)) }

pub loop-first-preserved : goal.loop-first-preserved
loop-first-preserved c =
    let is = c.in-Some.ensures.cases.0 in
    let front = sym c.in-Some-front.ensures in
    let bytes = c.split_at.ensures.front in
    let more = c.split_at.ensures.back in
    record {
      within = grind (arith, common_steps, c.loop-first.invariant.within, c.if-count-room.false);
      end = end-end c.args.bytes.now c.loop-first.invariant.end (end-end c.loop-first.rest.now (rw more (end-drop _ _ (next_fits is front))) c.past_space-rest.ensures.end);
      all = one_more _ _ _ c.loop-first.room c.loop-first.count _ (omega (arith, c.loop-first.invariant.within, c.if-count-room.false)) c.loop-first.invariant.all (rw (c.past_space-rest.ensures.same, bytes, more) (tokens-next is front));
    }

pub returns-clause-full : goal.returns-clause-full
returns-clause-full c = inr (inl (ap tokens (nil_from_length c.loop-first.rest.now c.in_default.ensures.cases) ∙ tokens-nil))
