use Rattle.std.proofs.Common.{◌≡◌, ◌+◌, ◌-◌, ◌++◌, ℕ, [], length, drop, slice_index, sym, ap, subst, ◌∙◌, arith, Some}
use Rattle.std.specs.List.{concat}
use Rattle.std.proofs.lemmas.List.{length-drop}
use Rattle.std.proofs.lemmas.List.Folds.{concat-append}
use Rattle.tool_io.specs.Sink.{append_known}
use Rattle.tool_io.proofs.AppendLaws.{AppendsBefore-failed, AppendsBefore-next, AppendsFront-nothing, OnErr-always, append_known-nil}
use Rattle.piece_writer.specs.LinePuts.{PutsLines, told_by}
use Rattle.piece_writer.proofs.LineLaws.{PutsBefore, before_failed, before_next, before_short, before_start, first_none, puts_none}
use Rattle.piece_writer.proofs.LineLaws as puts
use Rattle.frame_walk.specs.Walks.{frame_words}
use Rattle.frame_walk.proofs.WalkLemmas.{frame_fits}
use Rattle.machine_meaning.specs.Machines.{Machinery}
use Rattle.machine_meaning.specs.TrapLines.{lines_from, waiting_lines}
use Rattle.trap_frames.specs.Waiting.{line_with, waiting_text}
use Rattle.trap_frames.proofs.LineLemmas.{before_end, found_at, lines_end, lines_unnamed, next_lines, none_waits, why_at}
use Rattle.trap_frames.proofs.lines.write_waiting.Goals as goal

pub returns-then-len-clause-err : goal.returns-then-len-clause-err
returns-then-len-clause-err g c = λ machinery reads.
    AppendsFront-nothing (g.O.Sink.written c.args.out.now) (waiting_text machinery (g.H.Objects.stands c.args.objects.now) c.args.own c.args.stack.now)

pub returns-then-len-clause-cut : goal.returns-then-len-clause-cut
returns-then-len-clause-cut g c = λ machinery reads short.
    let stands = g.H.Objects.stands c.args.objects.now in
    let old = told_by g.O.Sink.written g.O.Sink.puts c.args.out.now in
    first_none old (waiting_lines machinery stands c.args.own c.args.stack.now)

pub returns-then-own-len-clause-ok : goal.returns-then-own-len-clause-ok
returns-then-own-len-clause-ok g c = λ machinery reads.
    let stands = g.H.Objects.stands c.args.objects.now in
    let none = none_waits machinery stands c.args.own c.args.stack.now (omega (arith, c.if-own-len.true, c.len-2.ensures)) in
    sym (ap (λ lines. append_known (g.O.Sink.written c.args.out.now) (concat lines)) none ∙ append_known-nil (g.O.Sink.written c.args.out.now))

pub returns-then-own-len-clause-by_one_put : goal.returns-then-own-len-clause-by_one_put
returns-then-own-len-clause-by_one_put g c = λ machinery reads short.
    let stands = g.H.Objects.stands c.args.objects.now in
    let old = told_by g.O.Sink.written g.O.Sink.puts c.args.out.now in
    let none = none_waits machinery stands c.args.own c.args.stack.now (omega (arith, c.if-own-len.true, c.len-2.ensures)) in
    subst (PutsLines old old) (sym none) (puts_none old)

pub frames-init : goal.frames-init
frames-init g c =
    let old = told_by g.O.Sink.written g.O.Sink.puts c.args.out.now in
    let stands = g.H.Objects.stands c.args.objects.now in let stack = c.args.stack.now in
    let start : (machinery : Machinery) → waiting_lines machinery stands c.args.own stack ≡ lines_from (length stack + 1 - 1) machinery stands 1 c.frames-frames.result.address c.frames-frames.result.words.now =
    λ machinery.
    ap (λ (n : ℕ). lines_from n machinery stands 1 (slice_index stack c.args.own) (drop (c.args.own + 1) stack)) (let e : length stack ≡ length stack + 1 - 1 = omega arith in e)
    ∙ ap (λ (address : ℕ). lines_from (length stack + 1 - 1) machinery stands 1 address (drop (c.args.own + 1) stack)) (sym c.frames-frames.ensures.address)
    ∙ ap (lines_from (length stack + 1 - 1) machinery stands 1 c.frames-frames.result.address) (sym c.frames-frames.ensures.words) in
    record {
      fits = omega (arith, c.if-own-len.false, c.len-2.ensures, ap length c.frames-frames.ensures.words, length-drop (c.args.own + 1) stack);
      first = omega arith;
      address_is = c.return_address-address.ensures;
      found_is = ap g.M.FrameMap.found c.frames-frames.ensures.map;
      before = λ machinery reads. record { done = []; split = ap concat (start machinery); added = sym (append_known-nil old.written) };
      puts = λ machinery reads short. subst (PutsBefore old old (waiting_lines machinery stands c.args.own stack)) (start machinery) (before_start old (waiting_lines machinery stands c.args.own stack));
      count = omega arith;
    }

pub returns-in_default-name_at-clause-ok : goal.returns-in_default-name_at-clause-ok
returns-in_default-name_at-clause-ok g c = λ machinery reads.
    let stands = g.H.Objects.stands c.args.objects.now in
    let number = c.frames.number in
    let address = c.frames.frames.address in
    let words = c.frames.frames.words.now in
    let found = g.M.FrameMap.found c.args.map.now in
    let constants = g.M.FrameMap.constants c.args.map.now in
    let names = g.F.Functions.names c.args.functions.now in
    let i = c.frames.invariant in
    let one = g.M.Record.FrameRecord.entry c.in-Some.one in
    let steps = c.in-Some.ensures.steps in
    let fuel : ℕ = length c.args.stack.now - number in
    let more : length c.args.stack.now + 1 - number ≡ fuel + 1 = omega (arith, i.fits) in
    let none : lines_from (length c.args.stack.now + 1 - number) machinery stands number address words ≡ [] =
    ap (λ (n : ℕ). lines_from n machinery stands number address words) more
    ∙ lines_unnamed machinery stands number address words fuel one steps.more
    (found_at machinery found constants names reads (g.M.FrameMap.found c.frames.frames.map.now) i.found_is address (length words) (Some one) steps.usable)
    (reads.names_are address ∙ ap names (sym i.address_is) ∙ sym c.in_default-name_at.ensures) in
    before_end (i.before machinery reads) (ap concat none)

pub returns-in_default-name_at-clause-by_one_put : goal.returns-in_default-name_at-clause-by_one_put
returns-in_default-name_at-clause-by_one_put g c = λ machinery reads short.
    let stands = g.H.Objects.stands c.args.objects.now in
    let number = c.frames.number in
    let address = c.frames.frames.address in
    let words = c.frames.frames.words.now in
    let found = g.M.FrameMap.found c.args.map.now in
    let constants = g.M.FrameMap.constants c.args.map.now in
    let names = g.F.Functions.names c.args.functions.now in
    let i = c.frames.invariant in
    let one = g.M.Record.FrameRecord.entry c.in-Some.one in
    let steps = c.in-Some.ensures.steps in
    let fuel : ℕ = length c.args.stack.now - number in
    let more : length c.args.stack.now + 1 - number ≡ fuel + 1 = omega (arith, i.fits) in
    let none : lines_from (length c.args.stack.now + 1 - number) machinery stands number address words ≡ [] =
    ap (λ (n : ℕ). lines_from n machinery stands number address words) more
    ∙ lines_unnamed machinery stands number address words fuel one steps.more
    (found_at machinery found constants names reads (g.M.FrameMap.found c.frames.frames.map.now) i.found_is address (length words) (Some one) steps.usable)
    (reads.names_are address ∙ ap names (sym i.address_is) ∙ sym c.in_default-name_at.ensures) in
    let old = told_by g.O.Sink.written g.O.Sink.puts c.args.out.now in
    let now = told_by g.O.Sink.written g.O.Sink.puts c.frames.out in
    puts.before_end old now (waiting_lines machinery stands c.args.own c.args.stack.now) (subst (PutsBefore old now (waiting_lines machinery stands c.args.own c.args.stack.now)) none (i.puts machinery reads short))

pub returns-in_err-write_frame-clause-err : goal.returns-in_err-write_frame-clause-err
returns-in_err-write_frame-clause-err g c = λ machinery reads.
    let stands = g.H.Objects.stands c.args.objects.now in
    let number = c.frames.number in
    let address = c.frames.frames.address in
    let words = c.frames.frames.words.now in
    let found = g.M.FrameMap.found c.args.map.now in
    let constants = g.M.FrameMap.constants c.args.map.now in
    let names = g.F.Functions.names c.args.functions.now in
    let i = c.frames.invariant in
    let one = g.M.Record.FrameRecord.entry c.in-Some.one in
    let steps = c.in-Some.ensures.steps in
    let fuel : ℕ = length c.args.stack.now - number in
    let more : length c.args.stack.now + 1 - number ≡ fuel + 1 = omega (arith, i.fits) in
    let next = c.next.new.self in
    let line = line_with constants stands c.in-Some.words.now one number c.in-Some-name_at.name.now in
    let rest = lines_from fuel machinery stands (number + 1) next.address next.words.now in
    let lines : lines_from (length c.args.stack.now + 1 - number) machinery stands number address words ≡ line ++ rest =
    ap (λ (n : ℕ). lines_from n machinery stands number address words) more
    ∙ next_lines machinery stands number address words fuel one c.in-Some-name_at.name.now constants c.in-Some.words.now next.address next.words.now steps.more
    (found_at machinery found constants names reads (g.M.FrameMap.found c.frames.frames.map.now) i.found_is address (length words) (Some one) steps.usable)
    (reads.names_are address ∙ ap names (sym i.address_is) ∙ sym c.in-Some-name_at.ensures)
    reads.constants_are steps.words_are steps.address steps.rest in
    OnErr-always c.from_residual.result
    (AppendsBefore-failed (i.before machinery reads) c.in_err-write_frame.ensures.err (concat rest) (ap concat lines ∙ concat-append line rest))

pub returns-in_err-write_frame-clause-cut : goal.returns-in_err-write_frame-clause-cut
returns-in_err-write_frame-clause-cut g c = λ machinery reads short.
    let stands = g.H.Objects.stands c.args.objects.now in
    let number = c.frames.number in
    let address = c.frames.frames.address in
    let words = c.frames.frames.words.now in
    let found = g.M.FrameMap.found c.args.map.now in
    let constants = g.M.FrameMap.constants c.args.map.now in
    let names = g.F.Functions.names c.args.functions.now in
    let i = c.frames.invariant in
    let one = g.M.Record.FrameRecord.entry c.in-Some.one in
    let steps = c.in-Some.ensures.steps in
    let fuel : ℕ = length c.args.stack.now - number in
    let more : length c.args.stack.now + 1 - number ≡ fuel + 1 = omega (arith, i.fits) in
    let next = c.next.new.self in
    let line = line_with constants stands c.in-Some.words.now one number c.in-Some-name_at.name.now in
    let rest = lines_from fuel machinery stands (number + 1) next.address next.words.now in
    let lines : lines_from (length c.args.stack.now + 1 - number) machinery stands number address words ≡ line ++ rest =
    ap (λ (n : ℕ). lines_from n machinery stands number address words) more
    ∙ next_lines machinery stands number address words fuel one c.in-Some-name_at.name.now constants c.in-Some.words.now next.address next.words.now steps.more
    (found_at machinery found constants names reads (g.M.FrameMap.found c.frames.frames.map.now) i.found_is address (length words) (Some one) steps.usable)
    (reads.names_are address ∙ ap names (sym i.address_is) ∙ sym c.in-Some-name_at.ensures)
    reads.constants_are steps.words_are steps.address steps.rest in
    let old = told_by g.O.Sink.written g.O.Sink.puts c.args.out.now in
    let now = told_by g.O.Sink.written g.O.Sink.puts c.frames.out in
    let new = told_by g.O.Sink.written g.O.Sink.puts c.write_frame.new.out in
    let before = i.puts machinery reads short in
    OnErr-always c.from_residual.result
    (before_failed old now new (waiting_lines machinery stands c.args.own c.args.stack.now) (lines_from (length c.args.stack.now + 1 - number) machinery stands number address words) line rest lines before
    (c.in_err-write_frame.ensures.cut (before_short old now new (waiting_lines machinery stands c.args.own c.args.stack.now) (lines_from (length c.args.stack.now + 1 - number) machinery stands number address words) line rest lines before short)))

pub frames-preserved : goal.frames-preserved
frames-preserved g c =
    let stands = g.H.Objects.stands c.args.objects.now in
    let number = c.frames.number in
    let address = c.frames.frames.address in
    let words = c.frames.frames.words.now in
    let i = c.frames.invariant in
    let one = g.M.Record.FrameRecord.entry c.in-Some.one in
    let steps = c.in-Some.ensures.steps in
    let next = c.next.new.self in
    let short = frame_fits (g.M.FrameMap.found c.frames.frames.map.now) address (length words) one steps.usable in
    let size : length next.words.now ≡ length words - (frame_words one + 1) = ap length steps.rest ∙ length-drop (frame_words one + 1) words in
    record {
      fits = omega (arith, i.fits, short, size);
      first = omega arith;
      address_is = c.return_address-address-in-Some.ensures;
      found_is = steps.found ∙ i.found_is;
      before = λ machinery reads.
          let found = g.M.FrameMap.found c.args.map.now in
          let constants = g.M.FrameMap.constants c.args.map.now in
          let names = g.F.Functions.names c.args.functions.now in
          let fuel : ℕ = length c.args.stack.now + 1 - (number + 1) in
          let more : length c.args.stack.now + 1 - number ≡ fuel + 1 = omega (arith, i.fits) in
          let line = line_with constants stands c.in-Some.words.now one number c.in-Some-name_at.name.now in
          let rest = lines_from fuel machinery stands (number + 1) next.address next.words.now in
          let lines : lines_from (length c.args.stack.now + 1 - number) machinery stands number address words ≡ line ++ rest =
          ap (λ (n : ℕ). lines_from n machinery stands number address words) more
          ∙ next_lines machinery stands number address words fuel one c.in-Some-name_at.name.now constants c.in-Some.words.now next.address next.words.now steps.more
          (found_at machinery found constants names reads (g.M.FrameMap.found c.frames.frames.map.now) i.found_is address (length words) (Some one) steps.usable)
          (reads.names_are address ∙ ap names (sym i.address_is) ∙ sym c.in-Some-name_at.ensures)
          reads.constants_are steps.words_are steps.address steps.rest in
          AppendsBefore-next (i.before machinery reads) (g.O.Sink.written c.write_frame.new.out) (concat line) (concat rest) c.in_ok-write_frame.ensures.ok (ap concat lines ∙ concat-append line rest);
      puts = λ machinery reads short.
          let found = g.M.FrameMap.found c.args.map.now in
          let constants = g.M.FrameMap.constants c.args.map.now in
          let names = g.F.Functions.names c.args.functions.now in
          let fuel : ℕ = length c.args.stack.now + 1 - (number + 1) in
          let more : length c.args.stack.now + 1 - number ≡ fuel + 1 = omega (arith, i.fits) in
          let line = line_with constants stands c.in-Some.words.now one number c.in-Some-name_at.name.now in
          let rest = lines_from fuel machinery stands (number + 1) next.address next.words.now in
          let lines : lines_from (length c.args.stack.now + 1 - number) machinery stands number address words ≡ line ++ rest =
          ap (λ (n : ℕ). lines_from n machinery stands number address words) more
          ∙ next_lines machinery stands number address words fuel one c.in-Some-name_at.name.now constants c.in-Some.words.now next.address next.words.now steps.more
          (found_at machinery found constants names reads (g.M.FrameMap.found c.frames.frames.map.now) i.found_is address (length words) (Some one) steps.usable)
          (reads.names_are address ∙ ap names (sym i.address_is) ∙ sym c.in-Some-name_at.ensures)
          reads.constants_are steps.words_are steps.address steps.rest in
          let old = told_by g.O.Sink.written g.O.Sink.puts c.args.out.now in
          let now = told_by g.O.Sink.written g.O.Sink.puts c.frames.out in
          let new = told_by g.O.Sink.written g.O.Sink.puts c.write_frame.new.out in
          let before = i.puts machinery reads short in
          before_next old now new (waiting_lines machinery stands c.args.own c.args.stack.now) (lines_from (length c.args.stack.now + 1 - number) machinery stands number address words) line rest lines before
          (c.in_ok-write_frame.ensures.by_one_put (before_short old now new (waiting_lines machinery stands c.args.own c.args.stack.now) (lines_from (length c.args.stack.now + 1 - number) machinery stands number address words) line rest lines before short));
      count = omega (arith, i.count, c.write_frame.ensures.count);
    }

pub returns-clause-ok : goal.returns-clause-ok
returns-clause-ok g c = λ machinery reads.
    let stands = g.H.Objects.stands c.args.objects.now in
    let number = c.frames.number in
    let address = c.frames.frames.address in
    let words = c.frames.frames.words.now in
    let found = g.M.FrameMap.found c.args.map.now in
    let constants = g.M.FrameMap.constants c.args.map.now in
    let names = g.F.Functions.names c.args.functions.now in
    let i = c.frames.invariant in
    let none : lines_from (length c.args.stack.now + 1 - number) machinery stands number address words ≡ [] =
    lines_end machinery stands number address words (length c.args.stack.now + 1 - number)
    (why_at machinery found constants names reads (g.M.FrameMap.found c.frames.frames.map.now) i.found_is
    address (length words) c.in_default.ensures.steps.why) in
    before_end (i.before machinery reads) (ap concat none)

pub returns-clause-by_one_put : goal.returns-clause-by_one_put
returns-clause-by_one_put g c = λ machinery reads short.
    let stands = g.H.Objects.stands c.args.objects.now in
    let number = c.frames.number in
    let address = c.frames.frames.address in
    let words = c.frames.frames.words.now in
    let found = g.M.FrameMap.found c.args.map.now in
    let constants = g.M.FrameMap.constants c.args.map.now in
    let names = g.F.Functions.names c.args.functions.now in
    let i = c.frames.invariant in
    let none : lines_from (length c.args.stack.now + 1 - number) machinery stands number address words ≡ [] =
    lines_end machinery stands number address words (length c.args.stack.now + 1 - number)
    (why_at machinery found constants names reads (g.M.FrameMap.found c.frames.frames.map.now) i.found_is
    address (length words) c.in_default.ensures.steps.why) in
    let old = told_by g.O.Sink.written g.O.Sink.puts c.args.out.now in
    let now = told_by g.O.Sink.written g.O.Sink.puts c.frames.out in
    puts.before_end old now (waiting_lines machinery stands c.args.own c.args.stack.now) (subst (PutsBefore old now (waiting_lines machinery stands c.args.own c.args.stack.now)) none (i.puts machinery reads short))
