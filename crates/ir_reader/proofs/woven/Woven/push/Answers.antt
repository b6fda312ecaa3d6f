use Rattle.std.proofs.Common.{◌≡◌, ◌∙◌, ◌-◌, ◌==◌, ◌||◌, ap, sym, List, length, arith}
use Rattle.std.specs.Prelude.{map}
use Rattle.std.specs.Global.{Vec}
use Rattle.std.proofs.lemmas.List.{length-map}
use Rattle.ir_reader.specs.declared.raw.NumberedReading.{NumberedReading}
use Rattle.ir_reader.specs.Woven.{is_outer}
use Rattle.ir_reader.proofs.Weaving.{adds-outer, adds-inner, outer-kept, outer-added, inner-kept, inner-added}
use Rattle.ir_reader.proofs.woven.Woven.push.Goals as goal

abbrev items : List (Vec NumberedReading) → List (List NumberedReading)
items bodies = map (λ (body : Vec NumberedReading). body.items) bodies

-- the test, over the bodies as lists
as-test : (bodies slice : List (Vec NumberedReading)) (line : NumberedReading) → slice ≡ bodies
    → (length slice == 0 || is_outer line.reading) ≡ (length (items bodies) == 0 || is_outer line.reading)
as-test bodies slice line e =
    ap (λ (bs : List (Vec NumberedReading)). length bs == 0 || is_outer line.reading) e
    ∙ ap (λ n. n == 0 || is_outer line.reading) (sym (length-map bodies (λ (body : Vec NumberedReading). body.items)))

pub push_last-requires : goal.push_last-requires
push_last-requires c =
    let bodies = c.self.inside.bodies.items in
    let inner = adds-inner (items bodies) c.args.line
    (sym (c.stands_outside.ensures ∙ as-test bodies c.as_slice.result.now c.args.line c.as_slice.ensures.value) ∙ c.if-stands_outside.false) in
    omega (arith, inner.0, length-map bodies (λ (body : Vec NumberedReading). body.items))

pub invariant_of-self : goal.invariant_of-self
invariant_of-self c =
    let bodies = c.self.inside.bodies.items in
    outer-kept c.push_outer.result c.self.inside.outer.items c.push_outer.new.outer.items (items bodies) (items c.push_outer.new.bodies.items) c.args.line c.self.invariant
    (adds-outer (items bodies) c.args.line
    (sym (c.stands_outside.ensures ∙ as-test bodies c.as_slice.result.now c.args.line c.as_slice.ensures.value) ∙ c.if-stands_outside.true))
    c.push_outer.ensures.outer c.push_outer.ensures.bodies c.push_outer.ensures.same_outer c.push_outer.ensures.same_bodies

pub returns-then-stands_outside : goal.returns-then-stands_outside
returns-then-stands_outside c =
    let bodies = c.self.inside.bodies.items in
    outer-added c.push_outer.result c.args.self.now c.self.inside.outer.items c.push_outer.new.outer.items (items bodies) (items c.push_outer.new.bodies.items) c.args.line
    (sym c.self.view_is) c.self.invariant c.push_outer.ensures.outer c.push_outer.ensures.bodies

pub invariant_of-self-else-stands_outside : goal.invariant_of-self-else-stands_outside
invariant_of-self-else-stands_outside c =
    let bodies = c.self.inside.bodies.items in
    let inner = adds-inner (items bodies) c.args.line
    (sym (c.stands_outside.ensures ∙ as-test bodies c.as_slice.result.now c.args.line c.as_slice.ensures.value) ∙ c.if-stands_outside.false) in
    inner-kept c.push_last.result c.self.inside.outer.items (items bodies) (items c.push_last.new.bodies.items) (length bodies - 1) c.args.line c.self.invariant
    inner.1 c.push_last.ensures.bodies c.push_last.ensures.same

pub returns-else-stands_outside : goal.returns-else-stands_outside
returns-else-stands_outside c =
    let bodies = c.self.inside.bodies.items in
    let inner = adds-inner (items bodies) c.args.line
    (sym (c.stands_outside.ensures ∙ as-test bodies c.as_slice.result.now c.args.line c.as_slice.ensures.value) ∙ c.if-stands_outside.false) in
    inner-added c.push_last.result c.args.self.now c.self.inside.outer.items (items bodies) (items c.push_last.new.bodies.items) (length bodies - 1) c.args.line
    (sym c.self.view_is) c.self.invariant (omega (arith, inner.0, length-map bodies (λ (body : Vec NumberedReading). body.items))) c.push_last.ensures.bodies
