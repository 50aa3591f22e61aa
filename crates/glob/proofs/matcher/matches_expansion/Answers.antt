use Rattle.glob.proofs.BudgetLaws.{budget_is}
use Rattle.glob.proofs.matcher.matches_expansion.Goals as goal

pub search-requires : goal.search-requires
search-requires c = budget_is _ _
