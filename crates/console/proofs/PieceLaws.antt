-- The laws of the pieces of a question line. Assumes nothing.
use Rattle.std.specs.List.{list_any}
use Rattle.std.specs.Prelude.{None, Option, Some}
use Rattle.question.specs.declared.Age.{Age}
use mathlib.Core.Path.{◌≡◌, refl, ap, ◌∙◌}
use mathlib.Core.Bool.{Bool, true, false, cond}
use mathlib.Core.List.{List, [], ◌∷◌}
use Prim.Native.Nat.{ℕ, suc, ◌+◌, ◌-◌, ◌≤◌, ◌<◌}
use native.Mathlib.Omega.{arith}
use native.Mathlib.Decide.{dec_le}
use borrow.Author.Tests.{le-leb, lt-leb, ltb-true, ltb-false}
use lib.Dec.{eqb, ltb}
use lib.ListN.{length, drop, drop_of_length-le}
use Rattle.text.specs.Lists.{has, split_at}
use Rattle.text.specs.Contract.{lead, Wrote}
use Rattle.text.proofs.Laws.{part_rest, part_length, both_no}
use Rattle.text.proofs.Buffers.{wrote_done, wrote_length}
use Rattle.text.proofs.Leads.{split_at_law, split_last}
use Rattle.question.specs.declared.WeekMinute.{WeekMinute}
use Rattle.console.specs.QuestionLine.{line_limit, minute_in, age_in, groups_in, arguments_in, asked_from, good_line, asked_in}
use Rattle.console.specs.Contract.{EndsOf, arguments_behind, part}
use Rattle.console.specs.declared.question_line.Ends.{Ends}
use Rattle.console.proofs.PartLaws.{groups_length, arguments_length, fits}

lead_nothing : (s : List ℕ) (from : ℕ) → length s ≤ from → lead 32 (drop from s) ≡ 0
unfolding lead
lead_nothing s from h = rw (drop_of_length-le s)

-- a piece ends at the line's end at the latest, or where it begins
pub end_within : (s : List ℕ) (from end : ℕ) → end ≡ from + lead 32 (drop from s) → (from ≤ length s → end ≤ length s) → end ≤ from + (length s - from)
end_within s from end e h = elim (dec_le from (length s)) [
  | yes g ↦ inside g (h g)
  | no g ↦ past (omega arith)
]
  where
    inside : from ≤ length s → end ≤ length s → end ≤ from + (length s - from)
    inside g k = omega arith

    past : length s ≤ from → end ≤ from + (length s - from)
    past g = let z = lead_nothing s from g in omega (arith, z)

-- fewer than six pieces are not of the form
few_asked : (ps : List (List ℕ)) → length ps ≤ 5 → None ≡ asked_from ps
unfolding asked_from
few_asked [] h = refl
few_asked (a ∷ []) h = refl
few_asked (a ∷ b ∷ []) h = refl
few_asked (a ∷ b ∷ c ∷ []) h = refl
few_asked (a ∷ b ∷ c ∷ d ∷ []) h = refl
few_asked (a ∷ b ∷ c ∷ d ∷ e ∷ []) h = refl
few_asked (a ∷ b ∷ c ∷ d ∷ e ∷ f ∷ ps) h = absurd (omega arith)

-- a piece that ends at a space, or is the last
module _ (s : List ℕ) (from end : ℕ) (q : end ≡ from + lead 32 (drop from s)) where
  pieces_last : length s ≤ end → length (split_at 32 (drop from s)) ≤ 1
  pieces_last h = rw (split_last 32 s from end q h) (omega arith)

  pieces_more : (k : ℕ) → length (split_at 32 (drop (end + 1) s)) ≤ k → 1 ≤ k → length (split_at 32 (drop from s)) ≤ suc k
  pieces_more k h l = go (ltb end (length s)) refl
    where
      go : (t : Bool) → ltb end (length s) ≡ t → length (split_at 32 (drop from s)) ≤ suc k
      go true e = rw (split_at_law 32 s from end q (ltb-true end (length s) e)) (omega arith)
      go false e = let m = pieces_last (ltb-false end (length s) e) in omega arith

  last_piece : end ≤ length s → split_at 32 (drop from s) ≡ part s from end ∷ arguments_behind end s
  unfolding arguments_behind
  last_piece h = go (ltb end (length s)) refl
    where
      go : (t : Bool) → ltb end (length s) ≡ t → split_at 32 (drop from s) ≡ part s from end ∷ cond t (split_at 32 (drop (end + 1) s)) []
      go true e = split_at_law 32 s from end q (ltb-true end (length s) e)
      go false e =
          let k = ltb-false end (length s) e in
          let z : end ≡ length s = omega arith in
          split_last 32 s from end q k ∙ rw (z, part_rest from s)

module _ (s : List ℕ) (e : Ends) (w : EndsOf s e) where
  -- the fifth piece is the last, or there are fewer
  pub few_pieces : length s ≤ e.minute → None ≡ asked_from (split_at 32 s)
  few_pieces h =
      let l5 = pieces_last s (e.host + 1) e.minute w.minute h in
      let l4 = pieces_more s (e.groups + 1) e.host w.host 1 l5 (omega arith) in
      let l3 = pieces_more s (e.user + 1) e.groups w.groups 2 l4 (omega arith) in
      let l2 = pieces_more s (e.command + 1) e.user w.user 3 l3 (omega arith) in
      few_asked (split_at 32 s) (pieces_more s 0 e.command w.command 4 l2 (omega arith))

  module _ (h : e.minute < length s) where
    -- the ends lie one behind the other
    pub ends_order : (e.command < e.user) × (e.user < e.groups) × (e.groups < e.host) × (e.host < e.minute) × (e.minute < e.age) × (e.age ≤ length s)
    ends_order = (omega (arith, w.user), omega (arith, w.groups), omega (arith, w.host), omega (arith, w.minute), omega (arith, w.age), w.within h)

    six_pieces : split_at 32 s ≡ part s 0 e.command ∷ part s (e.command + 1) e.user ∷ part s (e.user + 1) e.groups ∷ part s (e.groups + 1) e.host ∷ part s (e.host + 1) e.minute ∷ part s (e.minute + 1) e.age ∷ arguments_behind e.age s
    six_pieces =
        let o = ends_order in
        let h1 : e.command < length s = omega (arith, o.0, o.1, o.2, o.3) in
        let h2 : e.user < length s = omega (arith, o.1, o.2, o.3) in
        let h3 : e.groups < length s = omega (arith, o.2, o.3) in
        let h4 : e.host < length s = omega (arith, o.3) in
        split_at_law 32 s 0 e.command w.command h1
        ∙ ap (λ x. part s 0 e.command ∷ x) (split_at_law 32 s (e.command + 1) e.user w.user h2
        ∙ ap (λ x. part s (e.command + 1) e.user ∷ x) (split_at_law 32 s (e.user + 1) e.groups w.groups h3
        ∙ ap (λ x. part s (e.user + 1) e.groups ∷ x) (split_at_law 32 s (e.groups + 1) e.host w.host h4
        ∙ ap (λ x. part s (e.groups + 1) e.host ∷ x) (split_at_law 32 s (e.host + 1) e.minute w.minute h
        ∙ ap (λ x. part s (e.host + 1) e.minute ∷ x) (last_piece s (e.minute + 1) e.age w.age o.5)))))

    pub no_minute : None ≡ minute_in (part s (e.host + 1) e.minute) → None ≡ asked_from (split_at 32 s)
    unfolding asked_from
    no_minute q = rw (six_pieces, ← q)

    module _ (m : WeekMinute) (p : Some m ≡ minute_in (part s (e.host + 1) e.minute)) where
      pub no_age : None ≡ age_in (part s (e.minute + 1) e.age) → None ≡ asked_from (split_at 32 s)
      unfolding asked_from
      no_age q = rw (six_pieces, ← p, ← q)

      pub all_pieces : (a : (Option Age)) (g x : List ℕ) → Some a ≡ age_in (part s (e.minute + 1) e.age) → g ≡ groups_in (part s (e.user + 1) e.groups) → x ≡ arguments_in (arguments_behind e.age s)
          → Some (record { command = part s 0 e.command; user = part s (e.command + 1) e.user; groups = g; host = part s (e.groups + 1) e.host; minute = m; age = a; args = x }) ≡ asked_from (split_at 32 s)
      unfolding asked_from
      all_pieces a g x q i j = rw (six_pieces, ← p, ← q, i, j)

-- the whole line
module _ (s : List ℕ) where
  pub long_line : line_limit < length s → None ≡ asked_in s
  unfolding asked_in good_line
  long_line h = rw (lt-leb (length s) line_limit h)

  pub zero_in_line : list_any (λ b. eqb b 0) s ≡ true → None ≡ asked_in s
  unfolding asked_in good_line has
  zero_in_line e = rw (e, both_no)

  pub good_line_law : length s ≤ line_limit → list_any (λ b. eqb b 0) s ≡ false → asked_from (split_at 32 s) ≡ asked_in s
  unfolding asked_in good_line has
  good_line_law h e = rw (le-leb (length s) line_limit h, e)

-- the groups and the arguments fit into a scratch as long as the longest line
module _ (s : List ℕ) (e : Ends) (w : EndsOf s e) (h : e.minute < length s) (l : length s ≤ line_limit) {old mid : List ℕ} (z : length old ≡ line_limit) {r : Option ℕ} (v : Wrote old mid 0 (groups_in (part s (e.user + 1) e.groups)) r) where
  groups_few : length (groups_in (part s (e.user + 1) e.groups)) ≤ e.groups - e.user
  groups_few =
      let o = ends_order s e w h in
      let k : e.groups ≤ length s = omega (arith, o.2, o.3) in
      omega (arith, o.1, groups_length (part s (e.user + 1) e.groups), part_length s (e.user + 1) e.groups k)

  pub groups_fit : r ≡ None → ⊥
  groups_fit q =
      let o = ends_order s e w h in
      let k : e.groups ≤ length s = omega (arith, o.2, o.3) in
      fits v (omega (arith, groups_few)) q

  pub groups_within : {k : ℕ} → r ≡ Some k → k ≤ length mid
  groups_within q = let d = wrote_done v q in omega (arith, d.0, wrote_length v)

  pub arguments_fit : {k : ℕ} {new : List ℕ} {q : Option ℕ} → r ≡ Some k → Wrote mid new k (arguments_in (arguments_behind e.age s)) q → q ≡ None → ⊥
  arguments_fit {k} d x q =
      let o = ends_order s e w h in
      let y = wrote_done v d in
      let i : k ≤ e.groups - e.user = omega (arith, groups_few, y.1) in
      let j : e.groups < e.age = omega (arith, o.2, o.3, o.4) in
      fits x (omega (arith, i, j, arguments_length e.age s, wrote_length v, o.5)) q
