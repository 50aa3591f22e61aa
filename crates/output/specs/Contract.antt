-- What the contracts of functions that write one behind the other say.
use Rattle.std.specs.Prelude.{ℕ, List, ◌++◌, Option}
use Rattle.text.specs.Contract.{Wrote}

-- whatever had been put before, ys was put behind it; nothing where that was full already
pub record WroteAfter (before : Option ℕ) (mid new ys : List ℕ) (r : Option ℕ) : Type 0 where
  pub behind : (old : List ℕ) (n : ℕ) (xs : List ℕ) → Wrote old mid n xs before → Wrote old new n (xs ++ ys) r
