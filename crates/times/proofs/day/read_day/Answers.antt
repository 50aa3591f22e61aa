use mathlib.Core.Path.{◌≡◌, refl}
use mathlib.Core.List.{map}
use borrow.Author.Rules.{rules}
use borrow.Author.Tests.{tests}
use native.Mathlib.Omega.{arith}
use lib.ListN.{length, take}
use Rattle.std.proofs.Math.Seq.{take-length}
use Rattle.std.specs.Option.{option_map}
use Rattle.std.specs.Slice.Iter.{iter_rest}
use Rattle.std.proofs.lemmas.Grind.{common_steps}
use Rattle.std.proofs.lemmas.Iterator.{YieldsList-from_slice}
use Rattle.std.proofs.lemmas.Iterator.Search.{position_from_yields_List}
use Rattle.text.specs.Case.{lower_of}
use Rattle.times.specs.declared.day.Day.TheVariants.{Only}
use Rattle.times.specs.Day.{day_names, shortens, day_among, day_of}
use Rattle.times.proofs.Days.{among_is}
use Rattle.times.proofs.day.read_day.Goals as goal

none_names : (c : goal.After-from_residual) → map (λ b. map lower_of b.now) (iter_rest c.iter.result) ≡ day_names
unfolding day_names lower_of
none_names c = rw c.iter.ensures.rest refl

pub returns-in_err-d : goal.returns-in_err-d
unfolding day_of
returns-in_err-d c =
    let e : option_map Only c.position.result ≡ day_among 0 day_names c.args.s.now = rw (take-length c.args.s.now) at (among_is (λ b. map lower_of b.now) (take (length c.args.s.now) c.args.s.now) (iter_rest c.iter.result) (none_names c) _ (position_from_yields_List (λ b. shortens (take (length c.args.s.now) c.args.s.now) (map lower_of b.now)) c.position.new.self _ c.position.result c.position.ensures.ran (YieldsList-from_slice _ refl) (λ x b q k. search (rules, tests)))) in
    grind (arith, common_steps)

names : (c : goal.In_ok-d) → map (λ b. map lower_of b.now) (iter_rest c.iter.result) ≡ day_names
unfolding day_names lower_of
names c = rw c.iter.ensures.rest refl

pub returns : goal.returns
unfolding day_of
returns c =
    let e : option_map Only c.position.result ≡ day_among 0 day_names c.args.s.now = rw (take-length c.args.s.now) at (among_is (λ b. map lower_of b.now) (take (length c.args.s.now) c.args.s.now) (iter_rest c.iter.result) (names c) _ (position_from_yields_List (λ b. shortens (take (length c.args.s.now) c.args.s.now) (map lower_of b.now)) c.position.new.self _ c.position.result c.position.ensures.ran (YieldsList-from_slice _ refl) (λ x b q k. search (rules, tests)))) in
    grind (arith, common_steps)
