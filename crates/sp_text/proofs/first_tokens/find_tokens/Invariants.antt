use Rattle.std.proofs.Common.{◌≡◌, ◌≤◌, ◌++◌, length, take}
use Rattle.std.specs.Prelude.{map}
use Rattle.sp_text.specs.TokenAt.{IsEnd, seen_token}
use Rattle.sp_text.specs.Tokens.{tokens}
use Rattle.sp_text.proofs.first_tokens.find_tokens.Given as goal

abbrev pub invariant-loop-first : goal.invariant-loop-first
invariant-loop-first l = record {
  within : l.count ≤ length l.room;
  end : IsEnd l.bytes l.rest;
  all : tokens l.bytes ≡ map seen_token (take l.count l.room) ++ tokens l.rest;
}

abbrev pub decreases-loop-first : goal.decreases-loop-first
decreases-loop-first l = length l.rest
