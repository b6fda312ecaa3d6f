use Rattle.std.proofs.Common.{◌≡◌, ℕ, List, ◌++◌, refl, sym, ap, subst, ◌∙◌}
use Rattle.ir_ast.specs.Layouts.{ObjectLayout}
use Rattle.made_objects.specs.declared.makes.Made.{Made}
use Rattle.object_store.specs.Stored.{bytes_taken}
use Rattle.ir_meaning.specs.Machines.{state_of, today}
use Rattle.ir_meaning.specs.Makings.{Tracks, newly}
use Rattle.ir_meaning.specs.References.{unprinted}
use Rattle.ir_meaning.proofs.TrackLemmas.{tracks_ended, tracks_start, tracks_turned}
use Rattle.ir_meaning.proofs.making.follow.Goals as goal

pub loop-init : goal.loop-init
loop-init c =
    let state = state_of c.args.code.now c.args.machine.now in
    record {
      tracks = rw c.new-made.ensures.items (tracks_start (today c.args.code.now c.args.plan.now c.args.bound) (unprinted state) state refl);
      layouts = c.requires;
    }

pub returns-in-Some : goal.returns-in-Some
returns-in-Some c =
    let code = c.args.code.now in
    tracks_ended (today code c.args.plan.now c.args.bound) (unprinted (state_of code c.args.machine.now)) (state_of code c.loop.machine) (state_of code c.turn.new.self)
    c.in_ok-did.did c.in-Some.end c.loop.lines c.loop.made.items c.how_ran.result c.loop.invariant.tracks c.in_ok-did.ensures.turned (sym c.ended.ensures ∙ c.in-Some.is) c.how_ran.ensures

pub loop-preserved : goal.loop-preserved
loop-preserved c =
    let code = c.args.code.now in
    let setting = today code c.args.plan.now c.args.bound in
    let start = unprinted (state_of code c.args.machine.now) in
    let next = state_of code c.turn.new.self in
    let made : List Made = c.loop.made.items in
    let event = c.turn.new.self.events in
    let before = c.loop.machine.objects in
    let after = c.turn.new.self.objects in
    let layouts = code.content.layouts in
    let kept : after.layouts ≡ layouts = c.turn.ensures.layouts ∙ c.loop.invariant.layouts in
    let made_is : c.note.new.made.items ≡ made ++ newly event (bytes_taken layouts before.objects) (bytes_taken layouts after.objects) =
    c.in_ok-note.ensures
    ∙ (ap (λ (bytes : ℕ). made ++ newly event bytes (bytes_taken after.layouts after.objects))
    (c.bytes-before.ensures ∙ ap (λ (ls : List ObjectLayout). bytes_taken ls before.objects) c.loop.invariant.layouts)
    ∙ ap (λ (ls : List ObjectLayout). made ++ newly event (bytes_taken layouts before.objects) (bytes_taken ls after.objects)) kept) in
    let tracks = tracks_turned setting start (state_of code c.loop.machine) next c.in_ok-did.did c.loop.lines made c.loop.invariant.tracks c.in_ok-did.ensures.turned
    (sym c.ended.ensures ∙ c.in_default.is) in
    record {
      tracks = subst (λ (list : List Made). Tracks setting start next c.lines_after-more.result list) (sym made_is)
          (subst (λ (count : ℕ). Tracks setting start next count (made ++ newly event (bytes_taken layouts before.objects) (bytes_taken layouts after.objects)))
          (sym c.lines_after-more.ensures) tracks);
      layouts = kept;
    }
