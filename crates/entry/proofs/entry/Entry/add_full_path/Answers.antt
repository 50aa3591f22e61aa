use mathlib.Core.Path.{refl, sym, ap, ◌∙◌}
use lib.ListN.{drop}
use Rattle.text.proofs.Laws.{part_rest}
use Rattle.entry.proofs.AddLaws.{path_refused, path_added}
use Rattle.entry.proofs.entry.Entry.add_full_path.Goals as goal

pub returns-then-not-is_full_path : goal.returns-then-not-is_full_path
returns-then-not-is_full_path c = λ j k t e es q te h n d s. path_refused es _ q (sym (rw part_rest at c.is_full_path.ensures) ∙ c.if-not-is_full_path.true)

pub returns : goal.returns
returns c = λ j k t e es q te h n d s. path_added es _ q _ _ _ _ _ (sym (rw part_rest at c.is_full_path.ensures) ∙ c.if-not-is_full_path.false) (ap (drop c.args.at) te) h n d s (c.with_pair.ensures ∙ rw c.then_some-path.ensures)
