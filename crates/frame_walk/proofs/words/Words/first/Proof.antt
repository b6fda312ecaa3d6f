-- A walk: the frame, its return word and what lies behind it are parts of the words.
use Rattle.std.proofs.Common.{◌≡◌, ℕ, ◌+◌, ◌<◌, ◌≤◌, ◌^◌, List, [], ◌∷◌, ◌++◌, length, take, drop, refl, ap, ◌∙◌, w64, MutBor, arith, lit<}
use Rattle.std.specs.Prelude.{slice_index}
use Rattle.std.proofs.lemmas.List.{length-drop}
use Rattle.std.proofs.raw_atomic.Walks.{proved, leaves}
use base.Fml.{Lft, ftrue, flft, fobs}
use base.Logic.{id⊢, emp}
use mir.Syntax.{named}
use mir.Val.{Val, vint, vstruct, vcons, vnil, of_list}
use contract.Monad.{fact, fact_i}
use contract.Running.{tables}
use types.Kit.{‵, raw, ◌⊛◌, some, later, ◌$◌, ◌∵◌, !, qed, done, move, keep, drop as toss, use0, use1, use2, split, split3, join, fsplit, fsplit3, fjoin, fpick, fpack, feq_i, feq_l, pick, await, rewrite, updating, now, by, use3}
use types.Run.{enter, of_opd, addr, stop, fld, hop, from, lit, no_more, and_then, returns}
use types.Part.{whole, sub, agg}
use types.ByLocal.{alloc_all, pass_all, free_all, look_at, look_in_at, get, get_in, sets, lands_as}
use types.Tokens.{name_done}
use denote.Array.{Array}
use denote.Builtin.{u64, usize}
use denote.Exit.{yes, no}
use denote.Laws.{shows, Is}
use denote.Plain.{uint_vals, uint_Tells, uint_Makes}
use denote.RattleType.{RattleType, Valss}
use denote.Signature.{plain, named_lft}
use denote.Slice.{MutSlice, Room, slice_val, mut_slice_vals, mut_slice_Tells}
use base.Stored.{coded_list}
use denote.FollowSlice.{heres_id}
use denote.Struct.Declared.{shape}
use denote.Struct.Struct.{within}
use denote.Struct.Tuple.{Tuple, tuple_type}
use denote.Follow.{follows_both}
use denote.Steps.{nothing, owned, heard, peeks, only}
use denote.Triple.Call.{calls_at}
use denote.Triple.Clauses.{lasts}
use denote.Triple.Spec.{triple_of}
use denote.Triple.Walked.{Stays, walk_of, stay_dropped, Goes-dropped}
use denote.Triple.Table.{framed}
use Rattle.frame_walk.specs.contracts.words.Words.{the_row, the_type}
use Rattle.frame_walk.specs.declared.words.Words.{Words}
use Rattle.frame_walk.specs.Lent.{joined}
use Rattle.frame_walk.proofs.JoinLemmas.{word_between, behind_word, joins}
use Rattle.frame_walk.specs.contracts.words.Words.first as f
use Rattle.frame_walk.specs.contracts.words.split_frame as g
use Rattle.frame_walk.proofs.words.split_frame.Met.{met}
use Rattle.frame_walk.proofs.words.Words.TheLaws.{lowers}
use Rattle.frame_walk.proofs.words.Words.first.Statement.{statement}
use Rattle.frame_walk.proofs.words.Words.first.Code as code

abbrev stayed : Stays f.ended.signature.params f.ended.kept
stayed = (stay_dropped _ no, (stay_dropped _ yes, tt))

abbrev Pair : Lft → RattleType
Pair κ = Tuple (MutSlice (named 0) κ u64 ∷ MutSlice (named 0) κ u64 ∷ [])

abbrev Two : Type 0
Two = MutBor (List ℕ) × MutBor (List ℕ)

abbrev parts : List Val → List Val → List Val
parts us ws = vstruct (of_list (us ++ (ws ++ []))) ∷ []

pub first_spec : {M : Type 1} → statement M
first_spec 𝓤 𝓛 𝓜 𝓡 wired =
    let c = f.clauses 𝓛 𝓜.mem 𝓡.returns in let W = walk_of 𝓛 f.ended stayed c in let 𝓣 = tables 𝓤 𝓛.H 𝓜 𝓡 𝓡.env in
    proved 𝓛 f.ended stayed c 𝓜 𝓡 ((λ κs x w us ok. qed 𝓛 (‵ ftrue ∷ []) ∵ updating ! $ nothing ! $ fjoin ! $ now ! $ done !), (Goes-dropped 𝓛 1 (plain (λ _. usize)) yes (λ κs x w. refl), tt))
    f.Key.name code.function (code.unfolded 𝓤 𝓛.H 𝓜 𝓡 wired)
    (λ κs. ((λ w. (lowers (named_lft 1 0 tt κs)).lowered w ∷ []), (uint_vals w64, tt))) (λ κs. ((lowers (named_lft 1 0 tt κs)).val_is, (uint_Tells w64, tt))) (λ κs qs bounds a u are.
    let κ = κs.0 in let q = qs.0 in let r = a.0.rest in let count = a.1.0 in let n = length r.now in
    let b = r.ref_ptr.0 in let o = r.ref_ptr.1 in
    let Ref = MutSlice (named 0) κ u64 in
    let It = the_row (named_lft 1 0 tt κs) in
    let vs = (lowers (named_lft 1 0 tt κs)).lowered a.0 ∷ [] in
    qed 𝓛 (((‵ (flft κ q) ⊛ ‵ ftrue) ⊛ ‵ (It.own_val a.0 vs) ⊛ ‵ (usize.own_val count (vint w64 count ∷ [])) ⊛ ‵ ftrue) ∷ raw (fact 𝓤 (count < n)) ∷ []) ∵
    move ! (1 ∷ []) $ heard ! _ (λ low. split ! $ split ! $ move ! (2 ∷ []) $ split3 ! $ keep ! (0 ∷ 3 ∷ []) $
    fpick ! (λ vss. fsplit ! $ feq_l ! (λ ev. fsplit ! $ peeks ! Ref (Is Ref) (shows 𝓛 Ref) r vss.0 (λ is.
    let rm : Room u64 n = is.0.1 in let fn : n < 2 ^ 64 = rm.0 in
    enter ! _ _ _ _ _ $ alloc_all ! (λ l. pass_all ! refl ((tt, ((tt, (record { fits = fn }, tt)), tt)), ((tt, record { fits = are.1.0.1 }), tt)) $
    sets ! (of_opd ! (get_in ! (fld ! refl (stop !)) (sub ! 0 refl (whole !)))) refl (tt, (tt, (record { fits = fn }, tt))) $
    sets ! (addr ! (from ! (fld ! refl (hop ! (look_in_at ! 3 (sub ! 0 refl (whole !))) (stop !))))) refl (tt, tt) $
    sets ! (agg ! (and_then ! (get ! refl) (and_then ! (get_in ! (fld ! refl (stop !)) (sub ! 1 refl (whole !))) (no_more !)))) refl (tt, (tt, (record { fits = fn }, tt))) $
    -- [the words; nothing; the token; the locals]
    let G = triple_of 𝓛 g.signature (g.spec 𝓛 𝓜.mem 𝓡.returns) in
    let z : G.Ghost = (((κ, tt), (q, tt), tt, (r, (count, tt)), (mut_slice_vals r, (vint w64 count ∷ [], tt))), tt) in
    move ! (1 ∷ []) $ toss ! $ rewrite ! 0 (λ us. ‵ (Ref.own_val r us)) (mut_slice_Tells (named 0) κ u64 r vss.0 is) refl $
    owned ! usize _ (uint_Makes 𝓛 w64) count (vint w64 count ∷ []) (refl, are.1.0.1) $
    nothing ! $ move ! (1 ∷ 0 ∷ []) $ join ! $ move ! (1 ∷ 0 ∷ []) $ join ! $ nothing ! $ move ! (2 ∷ 0 ∷ []) $ join ! $ join ! $
    use0 𝓛 (raw (fact 𝓤 (count ≤ n))) (fact_i 𝓤 (count ≤ n) (emp 𝓤) (omega (arith, low))) $ move ! (1 ∷ 0 ∷ []) $ use2 𝓛 (raw (G.pre z)) (id⊢ 𝓤 _) $
    calls_at ! (framed 𝓤 𝓛.H 𝓜 (tables 𝓤 𝓛.H 𝓜 𝓡 𝓡.env)) G (met 𝓤 𝓛 𝓜 𝓡 (code.calls-frame_walk::words::split_frame 𝓡.env wired)) z
    (and_then ! (get ! refl) (and_then ! (get ! refl) (no_more !))) (λ v.
    use1 𝓛 (later (some (λ (s : Two). ((‵ (flft κ q) ⊛ ‵ ftrue) ⊛ ‵ ((Pair κ).own_val s (v ∷ []))) ⊛ some (λ (ws : Unit {0} × (Unit {0} × Unit {0})). ‵ (lasts g.ended z.0.0 z.0.3 ws)
    ⊛ ‵ (follows_both (Array u64 0) (Array u64 0) (Array u64 0) r.ghost_name s.0.ghost_name s.1.ghost_name ◌++◌) ⊛ raw (fact 𝓤 (s.0.now ≡ take count r.now)) ⊛ raw (fact 𝓤 (s.1.now ≡ drop count r.now)))))) (id⊢ 𝓤 _) $
    await ! tt $ pick ! (λ s. split ! $ split ! $ split ! $ move ! (3 ∷ []) $ pick ! (λ ws. split ! $ toss ! $ split3 ! $ move ! (1 ∷ []) $ heard ! _ (λ front. move ! (1 ∷ []) $ heard ! _ (λ back.
    -- [what the words end as; the token; nothing; the two parts; the locals]
    move ! (3 ∷ []) $ fpick ! (λ vt. fsplit ! $ feq_l ! (λ et. fsplit3 ! $
    peeks ! Ref (Is Ref) (shows 𝓛 Ref) s.0 vt.0 (λ is0. move ! (1 ∷ []) $ peeks ! Ref (Is Ref) (shows 𝓛 Ref) s.1 vt.1.0 (λ is1.
    let t0 : vt.0 ≡ mut_slice_vals s.0 = mut_slice_Tells (named 0) κ u64 s.0 vt.0 is0 in
    let t1 : vt.1.0 ≡ mut_slice_vals s.1 = mut_slice_Tells (named 0) κ u64 s.1 vt.1.0 is1 in
    let f0 : length s.0.now < 2 ^ 64 = is0.0.1.0 in let f1 : length s.1.now < 2 ^ 64 = is1.0.1.0 in
    rewrite ! 0 (λ us. ‵ (Ref.own_val s.1 us)) t1 refl $ rewrite ! 1 (λ us. ‵ (Ref.own_val s.0 us)) t0 refl $
    lands_as ! (ap only (et ∙ ap (λ us. parts us vt.1.0) t0 ∙ ap (parts (mut_slice_vals s.0)) t1)) refl (tt, ((tt, (record { fits = f0 }, tt)), ((tt, (record { fits = f1 }, tt)), tt))) $
    -- [the back; the frame; nothing; what the words end as; the token; nothing; the locals]
    sets ! (of_opd ! (get_in ! (fld ! refl (stop !)) (sub ! 0 refl (whole !)))) refl (tt, (tt, (record { fits = f0 }, tt))) $
    sets ! (of_opd ! (get_in ! (fld ! refl (stop !)) (sub ! 1 refl (whole !)))) refl (tt, (tt, (record { fits = f1 }, tt))) $
    sets ! (addr ! (from ! (fld ! refl (hop ! (look_in_at ! 5 (sub ! 0 refl (whole !))) (stop !))))) refl (tt, tt) $
    sets ! (agg ! (and_then ! (get ! refl) (and_then ! (get_in ! (fld ! refl (stop !)) (sub ! 1 refl (whole !))) (no_more !)))) refl (tt, (tt, (record { fits = f1 }, tt))) $
    let long : 0 < length s.1.now = omega (arith, low, ap length back, length-drop count r.now) in
    let y : G.Ghost = (((κ, tt), (q, tt), tt, (s.1, (1, tt)), (mut_slice_vals s.1, (vint w64 1 ∷ [], tt))), tt) in
    owned ! usize _ (uint_Makes 𝓛 w64) 1 (vint w64 1 ∷ []) (refl, lit< tt) $
    nothing ! $ move ! (1 ∷ 0 ∷ []) $ join ! $ move ! (1 ∷ 0 ∷ []) $ join ! $ nothing ! $ move ! (5 ∷ 0 ∷ []) $ join ! $ join ! $
    use0 𝓛 (raw (fact 𝓤 (1 ≤ length s.1.now))) (fact_i 𝓤 (1 ≤ length s.1.now) (emp 𝓤) long) $ move ! (1 ∷ 0 ∷ []) $ use2 𝓛 (raw (G.pre y)) (id⊢ 𝓤 _) $
    calls_at ! (framed 𝓤 𝓛.H 𝓜 (tables 𝓤 𝓛.H 𝓜 𝓡 𝓡.env)) G (met 𝓤 𝓛 𝓜 𝓡 (code.calls-frame_walk::words::split_frame 𝓡.env wired)) y
    (and_then ! (get ! refl) (and_then ! (lit ! tt) (no_more !))) (λ w.
    use1 𝓛 (later (some (λ (x : Two). ((‵ (flft κ q) ⊛ ‵ ftrue) ⊛ ‵ ((Pair κ).own_val x (w ∷ []))) ⊛ some (λ (ws' : Unit {0} × (Unit {0} × Unit {0})). ‵ (lasts g.ended y.0.0 y.0.3 ws')
    ⊛ ‵ (follows_both (Array u64 0) (Array u64 0) (Array u64 0) s.1.ghost_name x.0.ghost_name x.1.ghost_name ◌++◌) ⊛ raw (fact 𝓤 (x.0.now ≡ take 1 s.1.now)) ⊛ raw (fact 𝓤 (x.1.now ≡ drop 1 s.1.now)))))) (id⊢ 𝓤 _) $
    await ! tt $ pick ! (λ x. split ! $ split ! $ split ! $ move ! (3 ∷ []) $ pick ! (λ ws'. split ! $ toss ! $ split3 ! $ move ! (1 ∷ []) $ heard ! _ (λ word. move ! (1 ∷ []) $ heard ! _ (λ below.
    -- [what the back ends as; the token; nothing; the two parts; the frame; nothing; what the words end as; nothing; the locals]
    move ! (3 ∷ []) $ fpick ! (λ vu. fsplit ! $ feq_l ! (λ eu. fsplit3 ! $
    peeks ! Ref (Is Ref) (shows 𝓛 Ref) x.0 vu.0 (λ is2. move ! (1 ∷ []) $ peeks ! Ref (Is Ref) (shows 𝓛 Ref) x.1 vu.1.0 (λ is3.
    let t2 : vu.0 ≡ mut_slice_vals x.0 = mut_slice_Tells (named 0) κ u64 x.0 vu.0 is2 in
    let t3 : vu.1.0 ≡ mut_slice_vals x.1 = mut_slice_Tells (named 0) κ u64 x.1 vu.1.0 is3 in
    let f2 : length x.0.now < 2 ^ 64 = is2.0.1.0 in let f3 : length x.1.now < 2 ^ 64 = is3.0.1.0 in
    rewrite ! 0 (λ us. ‵ (Ref.own_val x.1 us)) t3 refl $
    lands_as ! (ap only (eu ∙ ap (λ us. parts us vu.1.0) t2 ∙ ap (parts (mut_slice_vals x.0)) t3)) refl (tt, ((tt, (record { fits = f2 }, tt)), ((tt, (record { fits = f3 }, tt)), tt))) $
    sets ! (of_opd ! (get_in ! (fld ! refl (stop !)) (sub ! 1 refl (whole !)))) refl (tt, (tt, (record { fits = f3 }, tt))) $
    sets ! (addr ! (from ! (fld ! refl (hop ! (look_in_at ! 4 (sub ! 0 refl (whole !))) (stop !))))) refl (tt, tt) $
    sets ! (agg ! (and_then ! (get ! refl) (and_then ! (get_in ! (fld ! refl (stop !)) (sub ! 1 refl (whole !))) (no_more !)))) refl (tt, (tt, (record { fits = f0 }, tt))) $
    sets ! (addr ! (from ! (fld ! refl (hop ! (look_in_at ! 6 (sub ! 0 refl (whole !))) (stop !))))) refl (tt, tt) $
    sets ! (agg ! (and_then ! (get ! refl) (and_then ! (get_in ! (fld ! refl (stop !)) (sub ! 1 refl (whole !))) (no_more !)))) refl (tt, (tt, (record { fits = f3 }, tt))) $
    sets ! (agg ! (and_then ! (get ! refl) (no_more !))) refl (tt, ((tt, (record { fits = f3 }, tt)), tt)) $
    sets ! (agg ! (and_then ! (get ! refl) (and_then ! (get ! refl) (no_more !)))) refl (tt, ((tt, (record { fits = f0 }, tt)), (((tt, (record { fits = f3 }, tt)), tt), tt))) $
    -- [what lies behind; the word; nothing; what the back ends as; the token; nothing; the frame; nothing; what the words end as; the locals]
    move ! (1 ∷ []) $ fsplit3 ! $ move ! (1 ∷ []) $ rewrite ! 0 (λ zs. ‵ (fobs x.0.ghost_name ((coded_list u64.coded).code zs))) (heres_id u64 x.0.now) refl $ name_done ! tt $
    returns ! (look_at ! 0 refl) $ free_all ! refl $ keep ! (10 ∷ 5 ∷ 0 ∷ 3 ∷ 8 ∷ 6 ∷ []) $
    use3 𝓛 (‵ (follows_both (Array u64 0) (Array u64 0) (Array u64 0) r.ghost_name s.0.ghost_name x.1.ghost_name (joined (slice_index r.now count))))
    (joins 𝓛 r.ghost_name s.0.ghost_name s.1.ghost_name x.0.ghost_name x.1.ghost_name x.0.now (slice_index r.now count) (word ∙ ap (take 1) back ∙ word_between r.now count low)) $
    -- [what the words end as; what lies behind; the frame; the token]
    let new : Words = record { rest = x.1 } in
    let nv : Val = vstruct (vcons (slice_val x.1.ref_ptr (length x.1.now)) vnil) in
    let rv : Val = vstruct (vcons (slice_val s.0.ref_ptr (length s.0.now)) (vcons nv vnil)) in
    let bound : W.Ghost = ((κs, qs, bounds, a, (vs, (vint w64 count ∷ [], tt))), u) in
    move ! (1 ∷ []) $ nothing ! $ move ! (1 ∷ 0 ∷ []) $ fjoin ! $ feq_i ! (List Val) (nv ∷ []) (nv ∷ []) refl $ fjoin ! $
    fpack ! (Valss (Ref ∷ [])) (within (shape (the_type (named_lft 1 0 tt κs))) (x.1, tt) (nv ∷ [])) (mut_slice_vals x.1, tt) $
    nothing ! $ move ! (1 ∷ 0 ∷ []) $ fjoin ! $ move ! (2 ∷ 0 ∷ []) $ fjoin ! $ feq_i ! (List Val) (rv ∷ []) (rv ∷ []) refl $ fjoin ! $
    fpack ! (Valss (Ref ∷ It ∷ [])) (within (shape (tuple_type (Ref ∷ It ∷ []))) (s.0, (new, tt)) (rv ∷ [])) (mut_slice_vals s.0, (nv ∷ [], tt)) $
    -- [the result; what the words end as; the token]
    move ! (1 ∷ []) $ use0 𝓛 (raw (fact 𝓤 (x.1.now ≡ drop (count + 1) r.now))) (fact_i 𝓤 _ (emp 𝓤) (below ∙ ap (drop 1) back ∙ behind_word r.now count)) $
    use0 𝓛 (raw (fact 𝓤 (s.0.now ≡ take count r.now))) (fact_i 𝓤 _ (emp 𝓤) front) $ join ! $ move ! (1 ∷ 0 ∷ []) $ join ! $
    nothing ! $ nothing ! $ fjoin ! $ nothing ! $ fjoin ! $ nothing ! $ move ! (4 ∷ 0 ∷ []) $ join ! $ keep ! (0 ∷ 1 ∷ 3 ∷ 2 ∷ []) $
    by ! (leaves 𝓛 f.ended stayed c bound rv (s.0, new) ((tt, tt), (tt, tt)) (tt, (tt, tt))))))))))))))))))))))))))
    )
