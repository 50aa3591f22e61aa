use mathlib.Core.List.{List}
use mathlib.Core.Path.{sym, ap, ◌∙◌}
use Prim.Native.Nat.{ℕ}
use native.Mathlib.Omega.{arith}
use lib.Seq.{length-take-le}
use lib.ListN.{length-replicate}
use Rattle.pattern.proofs.WholeLaws.{never_full}
use Rattle.glob.specs.Match.{matches}
use Rattle.text.proofs.Buffers.{wrote_done, wrote_length, wrote_read}
use Rattle.matching.proofs.matcher.matches_nth.Goals as goal

pub put_nth-requires : goal.put_nth-requires
put_nth-requires c = let h = c.requires in record { count = h.expands.count; below = h.below }

pub slice_bounds-out-end : goal.slice_bounds-out-end
slice_bounds-out-end c = let w = c.put_nth.ensures in omega (arith, (wrote_done w c.in-Some.is).0, wrote_length w)

pub slice_bounds-matches_one-end : goal.slice_bounds-matches_one-end
slice_bounds-matches_one-end c = let w = c.put_nth.ensures in let d = wrote_done w c.in-Some.is in sym (length-take-le _ _ (omega (arith, d.0, wrote_length w)))

pub returns-in-Some : goal.returns-in-Some
returns-in-Some c = c.matches_one.ensures ∙ ap (λ (l : List ℕ). matches l c.args.name.now) (wrote_read c.put_nth.ensures c.in-Some.is)

pub returns-in-None : goal.returns-in-None
returns-in-None c = absurd (never_full _ _ _ c.put_nth.ensures (omega (arith, length-replicate {A = ℕ} 1024 0, c.requires.expands.short)) c.in-None.is)
