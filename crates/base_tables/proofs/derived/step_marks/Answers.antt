use Rattle.std.proofs.Common.{arith}
use Rattle.base_tables.specs.Seen.{seen_shape}
use Rattle.base_tables.specs.Users.{kind_steps}
use Rattle.base_tables.proofs.TableLemmas.{flag_more, flag_all}
use Rattle.base_tables.proofs.derived.step_marks.Goals as goal

pub loop-shape-preserved : goal.loop-shape-preserved
loop-shape-preserved c = record {
  marks = flag_more (λ shape. kind_steps (seen_shape shape)) c.args.shapes.now c.loop-shape.shape-index _ c.loop-shape-test.true
      c.loop-shape.marks.items c.push_reserved.new.self.items _ c.loop-shape.invariant.marks c.push_reserved.ensures.items c.is_step.ensures;
  len = omega (arith, c.push_reserved.ensures.len, c.loop-shape.invariant.len);
  room = omega (arith, c.push_reserved.ensures.capacity, c.loop-shape.invariant.room);
}

pub returns : goal.returns
returns c = flag_all kind_steps seen_shape c.args.shapes.now c.loop-shape.shape-index c.loop-shape.marks.items (omega arith) c.loop-shape.invariant.marks
