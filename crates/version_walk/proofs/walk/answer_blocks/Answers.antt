use Rattle.std.proofs.Common.{◌∙◌, ◌≡◌, ◌<◌, ◌++◌, length, map, sym, ap, subst, List, arith}
use Rattle.std.proofs.lemmas.List.{length-replicate, nil_from_length}
use Rattle.std.proofs.lemmas.Bool.Decides.{nat_tests}
use Rattle.version_walk.specs.declared.walk.Pending.{Pending}
use Rattle.version_walk.specs.Walks.{IsWalk, awaiting}
use Rattle.version_walk.proofs.WalkLemmas.{walk_start, walk_end}
use Rattle.version_walk.proofs.walk.answer_blocks.Goals as goal

pub loop-walk-init : goal.loop-walk-init
loop-walk-init c = record {
  room = c.requires.room;
  sized = record {
    rows = c.requires.whole ∙ sym c.in_ok-forest.ensures.whole;
    done = ap length c.in_ok-no_marks.ensures ∙ length-replicate _ _ ∙ sym c.in_ok-forest.ensures.whole;
  };
  walk = walk_start c.args.parents.now _ c.in_ok-forest.forest.roots.items _ c.await_all.new.pending.items c.in_ok-log.log.items c.in_ok-no_marks.field-0.items
      c.in_ok-forest.ensures.forest.roots c.in_ok-log.ensures.items c.in_ok-no_marks.ensures
      (c.in_ok-await_all.ensures ∙ ap (λ (ps : List Pending). ps ++ map (awaiting 0) c.as_slice.result.now) c.new.ensures.items
      ∙ ap (map (awaiting 0)) c.as_slice.ensures.value);
}

pub loop-walk-preserved : goal.loop-walk-preserved
loop-walk-preserved c = record {
  room = c.in_ok-turn.ensures.room;
  sized = c.in_ok-turn.ensures.sized;
  walk = c.in_ok-turn.ensures.walk c.args.parents.now c.args.own.items c.args.rows.items c.in_ok-forest.ensures.whole c.in_ok-forest.ensures.forest.children c.loop-walk.invariant.walk;
}

pub loop-walk-smaller : goal.loop-walk-smaller
loop-walk-smaller c =
    let some : 0 < length c.loop-walk.walk.pending.items = grind (arith, nat_tests, c.is_empty.ensures, c.loop-walk-test.true) in
    c.in_ok-turn.ensures.less some

pub returns : goal.returns
returns c =
    let none : length c.loop-walk.walk.pending.items ≡ 0 = grind (arith, nat_tests, c.is_empty.ensures, c.loop-walk-test.false) in
    walk_end c.args.parents.now _ c.loop-walk.walk.versions.current.items c.loop-walk.walk.versions.log.items c.loop-walk.walk.rows.items c.loop-walk.walk.done.items
    (subst (λ (pending : List Pending). IsWalk c.args.parents.now (record { starts = c.args.starts.now; own = c.args.own.items; rows = c.args.rows.items }) pending
    c.loop-walk.walk.versions.current.items c.loop-walk.walk.versions.log.items c.loop-walk.walk.rows.items c.loop-walk.walk.done.items)
    (nil_from_length c.loop-walk.walk.pending.items none) c.loop-walk.invariant.walk)
