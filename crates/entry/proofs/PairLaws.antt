-- A blank by the search for a space and a tab, and a command pattern by what is read of it.
use Rattle.std.specs.List.{list_any}
use Rattle.std.specs.Prelude.{Err, Ok, Result, None, Some, is_some}
use mathlib.Core.Path.{◌≡◌, refl, sym}
use mathlib.Core.Bool.{Bool, true, false, cond, ◌||◌}
use mathlib.Core.List.{List, [], ◌∷◌}
use Prim.Native.Nat.{ℕ, ◌+◌, ◌≤◌, ◌<◌}
use borrow.Author.Tests.{eq-eqb, ne_eqb, ltb-true, ltb-false}
use lib.Dec.{eqb, ltb}
use lib.ListN.{length}
use Rattle.text.specs.Class.{blank}
use Rattle.text.specs.Contract.{lead, find_byte}
use Rattle.text.proofs.Leads.{by_lead, by_none}
use Rattle.fault.specs.declared.Cause.{Cause}
use Rattle.pattern.specs.declared.Syntax.TheVariants.{Plain}
use Rattle.pattern.specs.Tree.{expanded}
use Rattle.glob.specs.Match.{matches}
use Rattle.matching.specs.Whole.{matches_pattern}
use Rattle.matching.specs.Contract.{pattern_field}
use Rattle.matching.specs.declared.field.Expanded.{Expanded}
use Rattle.matching.specs.declared.field.Expanded.TheVariants.{Flat, Number}
use Rattle.matching.proofs.FieldLaws.{told_fault, told_flat, told_number}
use Rattle.matching.proofs.MatchLaws.{matches_alone, matches_are}
use Rattle.entry.specs.Contract.{command_read}

any_hit : (c : ℕ) (s : List ℕ) → lead c s < length s → list_any (λ b. eqb b c) s ≡ true
any_hit c = by_lead c (λ s n. list_any (λ b. eqb b c) s ≡ true) (λ s. rw (eq-eqb c c refl)) (λ b s n d p. rw (ne_eqb b c d, p))

any_miss : (c : ℕ) (s : List ℕ) → length s ≤ lead c s → list_any (λ b. eqb b c) s ≡ false
any_miss c = by_none c (λ s. list_any (λ b. eqb b c) s ≡ false) refl (λ b s d p. rw (ne_eqb b c d, p))

-- a byte is found where it is one of the bytes
found_any : (c : ℕ) (s : List ℕ) → is_some (find_byte c 0 s) ≡ list_any (λ b. eqb b c) s
unfolding find_byte
found_any c s = go (ltb (lead c s) (length s)) refl
  where
    go : (t : Bool) → ltb (lead c s) (length s) ≡ t → is_some (cond t (Some (0 + lead c s)) None) ≡ list_any (λ b. eqb b c) s
    go true h = sym (any_hit c s (ltb-true _ _ h))
    go false h = sym (any_miss c s (ltb-false _ _ h))

either_swap : (x y u v : Bool) → x || y || (u || v) ≡ x || u || (y || v)
either_swap true y u v = refl
either_swap false true true v = refl
either_swap false true false v = refl
either_swap false false u v = refl

blank_has : (s : List ℕ) → list_any blank s ≡ list_any (λ b. eqb b 32) s || list_any (λ b. eqb b 9) s
unfolding blank
blank_has [] = refl
blank_has (b ∷ s) = rw (blank_has s) (either_swap (eqb b 32) (eqb b 9) (list_any (λ x. eqb x 32) s) (list_any (λ x. eqb x 9) s))

-- a text has a blank where a space or a tab is found in it
pub blank_found : (s : List ℕ) → list_any blank s ≡ is_some (find_byte 32 0 s) || is_some (find_byte 9 0 s)
blank_found s = rw (found_any 32 s, found_any 9 s) (blank_has s)

module _ (j : Bool) (c p : List ℕ) where
  pub command_fault : {d : Cause} → Err d ≡ pattern_field Plain p → Err d ≡ command_read j c (expanded Plain p)
  command_fault e = rw (told_fault Plain p _ e)

  -- a pattern that is its own only expansion
  pub command_flat : {m : Bool} → j ≡ true → Ok Flat ≡ pattern_field Plain p → m ≡ matches p c → Ok m ≡ command_read j c (expanded Plain p)
  command_flat q e f = rw (told_flat Plain p e, q, f, matches_alone p c)

  -- any other
  pub command_number : {n : ℕ} {m : Bool} → j ≡ true → Ok (Number n) ≡ pattern_field Plain p → length p ≤ 1024 → m ≡ matches_pattern Plain p c → Ok m ≡ command_read j c (expanded Plain p)
  command_number q e h f = let w = told_number Plain p _ e in rw (w.1, q, f, matches_are Plain p c h w.1)

  pub command_unjudged : (u : Expanded) → j ≡ false → Ok u ≡ pattern_field Plain p → Ok j ≡ command_read j c (expanded Plain p)
  command_unjudged Flat q e = rw (told_flat Plain p e, q)
  command_unjudged (Number n) q e = let w = told_number Plain p _ e in rw (w.1, q)
