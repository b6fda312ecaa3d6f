-- The names of the values of a function with bases: those that the function had, with the inserted ones between.
use Rattle.std.proofs.Common.{◌≡◌, ℕ, ◌+◌, ◌≤◌, Bool, true, false, ◌&&◌, if◌then◌else◌, List, [], ◌∷◌, ◌++◌, length, map, take, refl, sym, ap, subst, ◌∙◌, append_assoc, arith}
use Rattle.std.specs.Prelude.{Option, is_some, filter, count_by, unwrap_or}
use Rattle.std.specs.List.{All, fold}
use Rattle.std.proofs.lemmas.List.{length-append, length-map, map-append}
use Rattle.std.proofs.lemmas.List.Elements.{All-head, All-tail}
use Rattle.ir_ast.specs.declared.funcs.Arg.{Arg}
use Rattle.ir_ast.specs.declared.ops.Pred.{Pred}
use Rattle.ir_ast.specs.declared.ops.Pred.TheVariants as preds
use Rattle.ir_ast.specs.declared.ops.Op.{Op}
use Rattle.ir_ast.specs.declared.ops.Op.TheVariants as ops
use Rattle.ir_ast.specs.Derived.{is_merge}
use Rattle.ir_ast.specs.Insts.{Instruction}
use Rattle.ir_ast.specs.Funcs.{Function, instructions_of}
use Rattle.ir_ast.specs.Lines.{LineOf}
use Rattle.ir_ast.specs.Lists.{Distinct}
use Rattle.ir_ast.specs.Values.{Definition, argument, definition_name, definitions_of, outcome}
use Rattle.object_meaning.specs.Lines.{following}
use Rattle.object_meaning.proofs.GivenLaws.{has_result, given_by, given_append}
use Rattle.base_forms.specs.DerivedMarks.{derived_marks, uses_marked}
use Rattle.base_forms.specs.Inserted.{by_line, is_merged, is_negated, is_unequal}
use Rattle.base_forms.specs.Lines.{operand_at}
use Rattle.base_forms.specs.Based.{based, based_insts, compared, kept_line, lines_for, negation, rank_of, same_call}
use Rattle.renaming_laws.specs.Renamed.{Renaming}
use Rattle.base_laws.proofs.LineLaws.{IsReady}
use Rattle.base_definite.proofs.base_relations.GroupLaws.{text_is}
use Rattle.base_definite.proofs.base_relations.ValueLaws.{merged_false, merged_true}
use Rattle.base_definite.proofs.SpreadLaws.{IsFree, base_name, distinct_spread, inserted_names, same_name, spread}
use Rattle.list_laws.proofs.Places.{take_front_of}

-- ---- the names for one instruction

abbrev own_name : Option (List ℕ) → List (List ℕ)
own_name result = if is_some result then unwrap_or result [] ∷ [] else []

abbrev names_by : List Instruction → List (List ℕ)
names_by insts = map definition_name (given_by insts)

own_is : (line : Instruction) → names_by (line ∷ []) ≡ own_name line.result
own_is line = by (is_some line.result)
  where
    by : (b : Bool) → map definition_name (map outcome (if b then line ∷ [] else [])) ≡ (if b then unwrap_or line.result [] ∷ [] else [])
    by true = refl
    by false = refl

names_append : (xs ys : List Instruction) → names_by (xs ++ ys) ≡ names_by xs ++ names_by ys
names_append xs ys = ap (map definition_name) (given_append xs ys) ∙ map-append definition_name (given_by xs) (given_by ys)

module _ (func : Function) (marks : List Bool) where
  abbrev merges : Definition → Bool
  merges = by_line (is_merged marks)

  abbrev negates : Definition → Bool
  negates = by_line (is_negated marks)

  module _ (next : ℕ) (inst : Instruction) where
    abbrev used : Bool
    used = uses_marked marks inst

    abbrev inserted_for : Op → List (List ℕ)
    inserted_for op =
        if is_merge op && uses_marked marks inst then base_name (rank_of func (is_merged marks) next) ∷ []
        else (if is_unequal op && uses_marked marks inst then same_name (rank_of func (is_negated marks) next) ∷ [] else [])

    merged_names : (op : Op) → inst.op ≡ op → is_merge op ≡ true → is_unequal op ≡ false → names_by (lines_for func marks next inst op) ≡ inserted_for op ++ own_name inst.result
    merged_names op is kind equal = by (uses_marked marks inst) refl
      where
        merged_is : (b : Bool) → uses_marked marks inst ≡ b → is_merged marks inst ≡ b
        merged_is b marked = ap (λ t. t && uses_marked marks inst) (ap is_merge is ∙ kind) ∙ marked

        by : (b : Bool) → uses_marked marks inst ≡ b → names_by (lines_for func marks next inst op) ≡ inserted_for op ++ own_name inst.result
        by true marked =
            ap names_by (merged_true func marks next inst op is kind (merged_is true marked))
            ∙ (ap (λ names. base_name (rank_of func (is_merged marks) next) ∷ names) (own_is (kept_line func marks inst))
            ∙ sym (ap (λ (b : Bool). (if b then base_name (rank_of func (is_merged marks) next) ∷ [] else (if is_unequal op && uses_marked marks inst then same_name (rank_of func (is_negated marks) next) ∷ [] else [])) ++ own_name inst.result)
            (ap (λ (t : Bool). t && uses_marked marks inst) kind ∙ marked)))
        by false marked =
            ap names_by (merged_false func marks next inst op is kind (merged_is false marked))
            ∙ (own_is (kept_line func marks inst)
            ∙ sym (ap (λ (b : Bool). (if b then base_name (rank_of func (is_merged marks) next) ∷ [] else (if is_unequal op && uses_marked marks inst then same_name (rank_of func (is_negated marks) next) ∷ [] else [])) ++ own_name inst.result)
            (ap (λ (t : Bool). t && uses_marked marks inst) kind ∙ marked)
            ∙ ap (λ (b : Bool). (if b && uses_marked marks inst then same_name (rank_of func (is_negated marks) next) ∷ [] else []) ++ own_name inst.result) equal))

    abbrev after_compare : Pred → Bool → List (List ℕ)
    after_compare pred b = if is_unequal (ops.Icmp pred) && b then same_name (rank_of func (is_negated marks) next) ∷ [] else []

    compared_names : (pred : Pred) → names_by (compared func marks next inst pred) ≡ after_compare pred true ++ own_name inst.result
    compared_names preds.Eq = own_is (same_call func marks inst.result (operand_at inst 0) (operand_at inst 1))
    compared_names preds.Ne = ap (λ names. same_name (rank_of func (is_negated marks) next) ∷ names) (own_is (negation func marks next inst))
    compared_names pred = own_is (kept_line func marks inst)

    unequal_unused : (pred : Pred) → after_compare pred false ≡ []
    unequal_unused preds.Ne = refl
    unequal_unused pred = refl

    names_as : (op : Op) → inst.op ≡ op → names_by (lines_for func marks next inst op) ≡ inserted_for op ++ own_name inst.result
    names_as ops.Phi is = merged_names ops.Phi is refl refl
    names_as ops.Select is = merged_names ops.Select is refl refl
    names_as (ops.Icmp pred) is = by (uses_marked marks inst)
      where
        by : (b : Bool) → names_by (if b then compared func marks next inst pred else kept_line func marks inst ∷ []) ≡ after_compare pred b ++ own_name inst.result
        by true = compared_names pred
        by false = own_is (kept_line func marks inst) ∙ sym (ap (λ names. names ++ own_name inst.result) (unequal_unused pred))
    names_as ops.Load is = own_is (kept_line func marks inst)
    names_as ops.Store is = own_is (kept_line func marks inst)
    names_as op is = own_is (kept_line func marks inst)

    pub group_names : names_by (lines_for func marks next inst inst.op) ≡ inserted_for inst.op ++ own_name inst.result
    group_names = names_as inst.op refl

    -- what has inserted lines has a result
    bare_names : (op : Op) → LineOf op inst → is_some inst.result ≡ false → inserted_for op ≡ []
    bare_names ops.Phi line none = absurd (let some = (line.0).result in let both : true ≡ false = sym some ∙ none in cc)
    bare_names ops.Select line none = absurd (let some = line.result in let both : true ≡ false = sym some ∙ none in cc)
    bare_names (ops.Icmp pred) line none = absurd (let some = line.result in let both : true ≡ false = sym some ∙ none in cc)
    bare_names op line none = refl

  -- ---- the names for all

  given_named : (inst : Instruction) (insts : List Instruction) (b : Bool) → is_some inst.result ≡ b → given_by (inst ∷ insts) ≡ (if b then outcome inst ∷ given_by insts else given_by insts)
  given_named inst insts true named = ap (λ (b : Bool). map outcome (if b then inst ∷ filter has_result insts else filter has_result insts)) named
  given_named inst insts false named = ap (λ (b : Bool). map outcome (if b then inst ∷ filter has_result insts else filter has_result insts)) named

  count_push : (test : Definition → Bool) (done : List Definition) (given : Definition) → count_by test (done ++ given ∷ []) ≡ count_by test done + (if test given then 1 else 0)
  count_push test done given = push done 0
    where
      push : (done : List Definition) (counted : ℕ) → fold (λ n each. n + (if test each then 1 else 0)) counted (done ++ given ∷ [])
          ≡ fold (λ n each. n + (if test each then 1 else 0)) counted done + (if test given then 1 else 0)
      push [] counted = refl
      push (first ∷ done) counted = push done (counted + (if test first then 1 else 0))

  names_from : (functions : ℕ → Renaming) (insts : List Instruction) (done : List Definition) → definitions_of func ≡ done ++ given_by insts → All (IsReady functions func) insts
      → names_by (based_insts func marks (length done) insts) ≡ spread merges negates (count_by merges done) (count_by negates done) (given_by insts)
  names_from functions [] done whole ready = refl
  names_from functions (inst ∷ insts) done whole ready = by (is_some inst.result) refl (λ more whole_too. names_from functions insts more whole_too ready_rest)
    where
      ready_rest : All (IsReady functions func) insts
      ready_rest = All-tail (IsReady functions func) inst insts ready

      together : (after : ℕ) → following (length done) inst ≡ after → names_by (based_insts func marks (length done) (inst ∷ insts))
          ≡ (inserted_for (length done) inst inst.op ++ own_name inst.result) ++ names_by (based_insts func marks after insts)
      together after is =
          names_append (lines_for func marks (length done) inst inst.op) (based_insts func marks (following (length done) inst) insts)
          ∙ (ap (λ names. names ++ names_by (based_insts func marks (following (length done) inst) insts)) (group_names (length done) inst)
          ∙ ap (λ n. (inserted_for (length done) inst inst.op ++ own_name inst.result) ++ names_by (based_insts func marks n insts)) is)

      rank_is : (kind : Instruction → Bool) → rank_of func kind (length done) ≡ count_by (by_line kind) done
      rank_is kind =
          ap (λ all. count_by (by_line kind) (take (length done) all)) whole ∙ ap (count_by (by_line kind)) (take_front_of done (given_by (inst ∷ insts)))

      inserted_is : inserted_for (length done) inst inst.op ≡ inserted_names merges negates (count_by merges done) (count_by negates done) (outcome inst)
      inserted_is =
          ap (λ rank. if is_merge inst.op && uses_marked marks inst then base_name rank ∷ []
          else (if is_unequal inst.op && uses_marked marks inst then same_name (rank_of func (is_negated marks) (length done)) ∷ [] else [])) (rank_is (is_merged marks))
          ∙ ap (λ rank. if is_merge inst.op && uses_marked marks inst then base_name (count_by merges done) ∷ []
          else (if is_unequal inst.op && uses_marked marks inst then same_name rank ∷ [] else [])) (rank_is (is_negated marks))

      by : (b : Bool) → is_some inst.result ≡ b
          → ((more : List Definition) → definitions_of func ≡ more ++ given_by insts
          → names_by (based_insts func marks (length more) insts) ≡ spread merges negates (count_by merges more) (count_by negates more) (given_by insts))
          → names_by (based_insts func marks (length done) (inst ∷ insts)) ≡ spread merges negates (count_by merges done) (count_by negates done) (given_by (inst ∷ insts))
      by true named further =
          let longer = length-append done (outcome inst ∷ []) in
          let after_is : following (length done) inst ≡ length (done ++ outcome inst ∷ []) =
          ap (λ (b : Bool). if b then length done + 1 else length done) named ∙ sym longer in
          let given_is = given_named inst insts true named in
          let rest = further (done ++ outcome inst ∷ []) (whole ∙ (ap (λ more. done ++ more) given_is ∙ sym (append_assoc done (outcome inst ∷ []) (given_by insts)))) in
          together (length (done ++ outcome inst ∷ [])) after_is
          ∙ (ap (λ (b : Bool). (inserted_for (length done) inst inst.op ++ (if b then unwrap_or inst.result [] ∷ [] else [])) ++ names_by (based_insts func marks (length (done ++ outcome inst ∷ [])) insts)) named
          ∙ (append_assoc (inserted_for (length done) inst inst.op) (definition_name (outcome inst) ∷ []) (names_by (based_insts func marks (length (done ++ outcome inst ∷ [])) insts))
          ∙ (ap (λ front. front ++ definition_name (outcome inst) ∷ names_by (based_insts func marks (length (done ++ outcome inst ∷ [])) insts)) inserted_is
          ∙ (ap (λ back. inserted_names merges negates (count_by merges done) (count_by negates done) (outcome inst) ++ definition_name (outcome inst) ∷ back)
          (rest
          ∙ (ap (λ n. spread merges negates n (count_by negates (done ++ outcome inst ∷ [])) (given_by insts)) (count_push merges done (outcome inst))
          ∙ ap (λ n. spread merges negates (count_by merges done + (if merges (outcome inst) then 1 else 0)) n (given_by insts)) (count_push negates done (outcome inst))))
          ∙ sym (ap (spread merges negates (count_by merges done) (count_by negates done)) given_is)))))
      by false unnamed further =
          let given_is = given_named inst insts false unnamed in
          let line = ((All-head (IsReady functions func) inst insts ready).typed).line in
          let bare = bare_names (length done) inst inst.op line unnamed in
          together (length done) (ap (λ (b : Bool). if b then length done + 1 else length done) unnamed)
          ∙ (ap (λ (b : Bool). (inserted_for (length done) inst inst.op ++ (if b then unwrap_or inst.result [] ∷ [] else [])) ++ names_by (based_insts func marks (length done) insts)) unnamed
          ∙ (ap (λ front. (front ++ []) ++ names_by (based_insts func marks (length done) insts)) bare
          ∙ (further done (whole ∙ ap (λ more. done ++ more) given_is) ∙ sym (ap (spread merges negates (count_by merges done) (count_by negates done)) given_is))))

  spread_arguments : (args : List Arg) (bases sames : ℕ) (rest : List Definition)
      → spread merges negates bases sames (map argument args ++ rest) ≡ map definition_name (map argument args) ++ spread merges negates bases sames rest
  spread_arguments [] bases sames rest = refl
  spread_arguments (arg ∷ args) bases sames rest =
      let zero_bases : bases + 0 ≡ bases = omega arith in
      let zero_sames : sames + 0 ≡ sames = omega arith in
      ap (λ names. arg.name ∷ names)
      (ap (λ n. spread merges negates n (sames + 0) (map argument args ++ rest)) zero_bases
      ∙ (ap (λ n. spread merges negates bases n (map argument args ++ rest)) zero_sames ∙ spread_arguments args bases sames rest))

  none_counted : (kind : Instruction → Bool) (args : List Arg) → count_by (by_line kind) (map argument args) ≡ 0
  none_counted kind args = none args 0
    where
      none : (args : List Arg) (counted : ℕ) → fold (λ n each. n + (if by_line kind each then 1 else 0)) counted (map argument args) ≡ counted
      none [] counted = refl
      none (arg ∷ args) counted = let zero_is : counted + 0 ≡ counted = omega arith in none args (counted + 0) ∙ zero_is

module _ (functions : ℕ → Renaming) (func : Function) (ready : All (IsReady functions func) (instructions_of func.blocks)) where
  pub names_now : map definition_name (definitions_of (based func)) ≡ spread (by_line (is_merged (derived_marks func))) (by_line (is_negated (derived_marks func))) 0 0 (definitions_of func)
  names_now =
      let marks = derived_marks func in
      let args = map argument func.args in
      let insts = instructions_of func.blocks in
      let long = length-map func.args argument in
      map-append definition_name args (given_by (instructions_of (based func).blocks))
      ∙ (ap (λ text. map definition_name args ++ names_by text) (text_is func)
      ∙ (ap (λ n. map definition_name args ++ names_by (based_insts func marks n insts)) (sym long)
      ∙ (ap (λ names. map definition_name args ++ names) (names_from func marks functions insts args refl ready)
      ∙ (ap (λ n. map definition_name args ++ spread (by_line (is_merged marks)) (by_line (is_negated marks)) n (count_by (by_line (is_negated marks)) args) (given_by insts)) (none_counted func marks (is_merged marks) func.args)
      ∙ (ap (λ n. map definition_name args ++ spread (by_line (is_merged marks)) (by_line (is_negated marks)) 0 n (given_by insts)) (none_counted func marks (is_negated marks) func.args)
      ∙ sym (spread_arguments func marks func.args 0 0 (given_by insts)))))))

  pub distinct_now : Distinct (map definition_name (definitions_of func)) → All IsFree (definitions_of func) → length (definitions_of func) ≤ 8192
      → Distinct (map definition_name (definitions_of (based func)))
  distinct_now apart free small =
      subst (λ (names : List (List ℕ)). Distinct names) (sym names_now)
      (distinct_spread (by_line (is_merged (derived_marks func))) (by_line (is_negated (derived_marks func))) (definitions_of func) 0 0 (omega arith) (omega arith) apart free)
