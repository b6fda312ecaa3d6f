-- What several pieces add together to what a writer has put and holds.
use Rattle.std.specs.Prelude.{◌≡◌, ℕ, ◌≤◌, List, [], ◌++◌, length, Option, refl}
use Rattle.std.proofs.Common.{sym, ap, subst, ◌∙◌, append-nil, append_assoc}
use Rattle.std.proofs.lemmas.List.{length-append}
use Rattle.std.proofs.Math.Nat.{le-add_right, le_refl, le_trans}
use Rattle.tool_io.proofs.AppendLaws.{append_known-nil, append_known-then, AppendsFront-first, AppendsFront-same, AppendsFront-among}
use Rattle.tool_io.proofs.CountLaws.{Rose-earlier}
use Rattle.piece_writer.specs.Writing.{Writing, IsSameSink, Grew, Fell, LackRoom, Waits}

IsSameSink-then : {old mid new : Writing} → IsSameSink old mid → IsSameSink mid new → IsSameSink old new
IsSameSink-then one two = record { written = two.written ∙ one.written; faults = two.faults ∙ one.faults }

split-both : (old_held mid_held new_held first second one two : List ℕ) → old_held ++ first ≡ one ++ mid_held → mid_held ++ second ≡ two ++ new_held → old_held ++ (first ++ second) ≡ (one ++ two) ++ new_held
split-both old_held mid_held new_held first second one two a b =
    sym (append_assoc old_held first second) ∙ ap (λ bytes. bytes ++ second) a ∙ append_assoc one mid_held second
    ∙ ap (λ bytes. one ++ bytes) b ∙ sym (append_assoc one two new_held)

pub Grew-nothing : (now : Writing) → Grew now now []
Grew-nothing now = record {
  put = [];
  split = append-nil now.held;
  added = sym (append_known-nil now.written);
  count = le_refl now.faults;
  same = refl;
  silent = λ _. record { written = refl; faults = refl };
}

pub Grew-both : (old mid new : Writing) (first second : List ℕ) → Grew old mid first → Grew mid new second → Grew old new (first ++ second)
Grew-both old mid new first second one two = record {
  put = one.put ++ two.put;
  split = split-both old.held mid.held new.held first second one.put two.put one.split two.split;
  added = append_known-then old.written mid.written new.written one.put two.put one.added two.added;
  count = le_trans one.count two.count;
  same = two.same ∙ one.same;
  silent = λ failed. IsSameSink-then (one.silent failed) (two.silent (one.same ∙ failed));
}

pub Fell-first : (old new : Writing) (first second : List ℕ) → Fell old new first → Fell old new (first ++ second)
Fell-first old new first second fell = record {
  front = AppendsFront-same (AppendsFront-first fell.front second) (old.held ++ (first ++ second)) (sym (append_assoc old.held first second));
  count = fell.count;
  failed = fell.failed;
  rose = fell.rose;
  silent = fell.silent;
}

pub Fell-second : (old mid new : Writing) (first second : List ℕ) → Grew old mid first → Fell mid new second → Fell old new (first ++ second)
Fell-second old mid new first second one fell = record {
  front =
      AppendsFront-among old.written one.put [] (old.held ++ (first ++ second)) one.added fell.front
      (sym (append_assoc old.held first second) ∙ ap (λ bytes. bytes ++ second) one.split ∙ append_assoc one.put mid.held second
      ∙ ap (λ bytes. one.put ++ bytes) (sym (append-nil (mid.held ++ second))));
  count = le_trans one.count fell.count;
  failed = fell.failed;
  rose = λ sound. Rose-earlier old.faults mid.faults new.faults one.count (fell.rose (one.same ∙ sound));
  silent = λ failed. IsSameSink-then (one.silent failed) (fell.silent (one.same ∙ failed));
}

pub Waits-nothing : (held : List ℕ) (puts : Option (List (List ℕ))) → Waits held held puts puts []
Waits-nothing held puts = record { held = λ fits. sym (append-nil held); unput = λ fits. refl }

-- a list that is short with more behind it is short
short_front : (xs ys : List ℕ) (most : ℕ) → length (xs ++ ys) ≤ most → length xs ≤ most
short_front xs ys most short =
    le_trans (le-add_right (length xs) (length ys)) (subst (λ (n : ℕ). n ≤ most) (length-append xs ys) short)

pub LackRoom-first : (held first second : List ℕ) → LackRoom held first → LackRoom held (first ++ second)
LackRoom-first held first second lacks = λ fits.
    lacks (short_front (held ++ first) second 8192 (subst (λ (bytes : List ℕ). length bytes ≤ 8192) (sym (append_assoc held first second)) fits))

module _ (old_held mid_held : List ℕ) (old_puts mid_puts : Option (List (List ℕ))) (first second : List ℕ)
    (one : Waits old_held mid_held old_puts mid_puts first) where
  first_fits : length (old_held ++ (first ++ second)) ≤ 8192 → length (old_held ++ first) ≤ 8192
  first_fits fits =
      short_front (old_held ++ first) second 8192 (subst (λ (bytes : List ℕ). length bytes ≤ 8192) (sym (append_assoc old_held first second)) fits)

  second_fits : length (old_held ++ (first ++ second)) ≤ 8192 → length (mid_held ++ second) ≤ 8192
  second_fits fits =
      subst (λ (held : List ℕ). length (held ++ second) ≤ 8192) (sym (one.held (first_fits fits)))
      (subst (λ (bytes : List ℕ). length bytes ≤ 8192) (sym (append_assoc old_held first second)) fits)

  pub LackRoom-second : LackRoom mid_held second → LackRoom old_held (first ++ second)
  LackRoom-second lacks = λ fits. lacks (second_fits fits)

  module _ (new_held : List ℕ) (new_puts : Option (List (List ℕ))) (two : Waits mid_held new_held mid_puts new_puts second) where
    pub Waits-both : Waits old_held new_held old_puts new_puts (first ++ second)
    Waits-both = record {
      held = λ fits. two.held (second_fits fits) ∙ (ap (λ held. held ++ second) (one.held (first_fits fits)) ∙ append_assoc old_held first second);
      unput = λ fits. two.unput (second_fits fits) ∙ one.unput (first_fits fits);
    }
